-- What an exchange that passed says of its four texts: client first, server first, client final, server final.
use Rattle.std.specs.Prelude.{◌≡◌, ℕ, List, ◌++◌, length, Option, decimal}
use Rattle.std.specs.declared.option.Option.TheVariants.{Some}
use Rattle.base64.specs.Engines.{standard}
use Rattle.base64.specs.GeneralPurpose.{IsBytes, encode_of}
use Rattle.kdf_core.specs.Hmac.{hmac_of}
use Rattle.sasl_scram.specs.declared.stored.StoredPassword.{StoredPassword}
use Rattle.sasl_scram.specs.Keys.{salted_of, server_key_of, stored_key_of, proof_of, ProofHolds, SignatureHolds}
use Rattle.sasl_scram.specs.Profile.{IsAllowedUser, IsAllowedCount}
use Rattle.sasl_scram.specs.Texts.{escaped_of, client_first_of, client_first_bare_of, server_first_of, client_final_of, client_final_bare_of, server_final_of, auth_of, Extends, IsClientFirst, IsServerFirst, IsClientFinal, IsServerFinal}

-- what a listener keeps of a password with a salt and a count
abbrev pub stored_of : (List ℕ → List ℕ) → ℕ → ℕ → List ℕ → List ℕ → ℕ → StoredPassword
stored_of hash block output password salt count = record {
  stored_key = stored_key_of hash block (salted_of hash block output password salt count);
  server_key = server_key_of hash block (salted_of hash block output password salt count);
  salt = salt;
  iterations = count;
}

-- the client's answer to a server first that it took: the nonce read extends the own one and is repeated, the salt read is the
-- base64 of bytes, the proof is that of the password with the salt and the count read; and the signature that the client then waits
-- for (RFC 5802, sections 3 and 5.1)
pub record ClientAnswers (hash : List ℕ → List ℕ) (block output : ℕ) (user password nonce : List ℕ)
    (server_first client_final signature : List ℕ) : Type 0 where
  pub whole_nonce : List ℕ
  pub salt : List ℕ
  pub count : ℕ
  pub server_first_is : IsServerFirst server_first whole_nonce (encode_of standard salt) (decimal count)
  pub extends : Extends nonce whole_nonce
  pub salt_is : IsBytes salt
  pub count_is : IsAllowedCount count
  pub client_final_is : client_final ≡ client_final_of whole_nonce
      (proof_of hash block (salted_of hash block output password salt count)
      (auth_of (client_first_bare_of user nonce) server_first (client_final_bare_of whole_nonce)))
  pub signature_is : SignatureHolds hash block
      (server_key_of hash block (salted_of hash block output password salt count))
      (auth_of (client_first_bare_of user nonce) server_first (client_final_bare_of whole_nonce)) signature

-- the client's side of a passed exchange: it answered as above, and read the signature that it waited for
pub record ClientCheck (hash : List ℕ → List ℕ) (block output : ℕ) (user password nonce : List ℕ)
    (client_first server_first client_final server_final : List ℕ) : Type 0 where
  pub signature : List ℕ
  pub client_first_is : client_first ≡ client_first_of user nonce
  pub answers : ClientAnswers hash block output user password nonce server_first client_final signature
  pub server_final_is : IsServerFinal server_final (encode_of standard signature)

-- the listener's answer to a client first that it took: the nonce read and the own one, salt and count of the user read
pub record ServerAnswers (stored : List ℕ → Option StoredPassword) (nonce : List ℕ)
    (client_first user whole_nonce server_first : List ℕ) (keys : StoredPassword) : Type 0 where
  pub header : List ℕ
  pub bare : List ℕ
  pub client_nonce : List ℕ
  pub client_first_is : IsClientFirst client_first header bare (escaped_of user) client_nonce
  pub user_is : IsAllowedUser user
  pub keys_are : stored user ≡ Some keys
  pub nonce_is : whole_nonce ≡ client_nonce ++ nonce
  pub server_first_is : server_first ≡ server_first_of whole_nonce keys.salt keys.iterations

-- the listener's side of a passed exchange with a user: it answered as above, the client final repeats the nonce, its
-- proof holds under the stored key, and the server final has the signature under the server key
pub record ServerCheck (hash : List ℕ → List ℕ) (block output : ℕ) (stored : List ℕ → Option StoredPassword) (nonce user : List ℕ)
    (client_first server_first client_final server_final : List ℕ) : Type 0 where
  pub whole_nonce : List ℕ
  pub keys : StoredPassword
  pub answers : ServerAnswers stored nonce client_first user whole_nonce server_first keys
  pub client_final_bare : List ℕ
  pub proof : List ℕ
  pub client_final_is : IsClientFinal answers.header client_final client_final_bare whole_nonce (encode_of standard proof)
  pub proof_length : length proof ≡ output
  pub proof_holds : ProofHolds hash block keys.stored_key (auth_of answers.bare server_first client_final_bare) proof
  pub server_final_is : server_final ≡
      server_final_of (hmac_of hash block keys.server_key (auth_of answers.bare server_first client_final_bare))
