-- How a SCRAM text is taken apart: attributes, one after another.
use Rattle.std.specs.Prelude.{◌≡◌, ◌≢◌, ℕ, ◌<◌, ◌≤◌, ◌⊎◌, List, [], ◌∷◌, ◌++◌, length}
use Rattle.base64.specs.Engines.{standard}
use Rattle.base64.specs.GeneralPurpose.{encode_of}
use Rattle.kdf_core.specs.Hmac.{hmac_of}
use Rattle.sasl_scram.specs.Keys.{ProofHolds}
use Rattle.sasl_scram.specs.Profile.{IsNonce}
use Rattle.sasl_scram.specs.Texts.{IsValue, IsExtensions, IsClientFinal, auth_of, server_final_of}

-- nothing, or a comma and more
abbrev pub IsTail : List ℕ → Type 0
IsTail [] = Unit {0}
IsTail (x ∷ xs) = x ≡ 44

-- the text is the attribute with this letter, then the rest
pub record IsAttribute (letter : ℕ) (text value rest : List ℕ) : Type 0 where
  pub text_is : text ≡ letter ∷ 61 ∷ value ++ rest
  pub value_is : IsValue value
  pub rest_is : IsTail rest

-- the text is a comma and the attribute, then the rest
pub record IsNext (letter : ℕ) (text value rest : List ℕ) : Type 0 where
  pub after : List ℕ
  pub comma : text ≡ 44 ∷ after
  pub attribute : IsAttribute letter after value rest

-- the text is two attributes with these letters, a comma between them, then the rest
pub record IsPair (first second : ℕ) (text value other rest : List ℕ) : Type 0 where
  pub text_is : text ≡ first ∷ 61 ∷ (value ++ (44 ∷ second ∷ 61 ∷ (other ++ rest)))
  pub value_is : IsValue value
  pub other_is : IsValue other
  pub rest_is : IsTail rest

-- the text is an extension, then the rest
pub record IsExtension (text rest : List ℕ) : Type 0 where
  pub letter : ℕ
  pub value : List ℕ
  pub letter_is : ((65 ≤ letter) × (letter ≤ 90)) ⊎ ((97 ≤ letter) × (letter ≤ 122))
  pub not_reserved : letter ≢ 109
  pub some : 0 < length value
  pub next : IsNext letter text value rest

-- a client first without its header
pub record IsClientFirstBare (bare name nonce : List ℕ) : Type 0 where
  pub extensions : List ℕ
  pub pair_is : IsPair 110 114 bare name nonce extensions
  pub nonce_is : IsNonce nonce
  pub extensions_are : IsExtensions extensions

-- a client final without its proof
pub record IsClientFinalBare (header bare nonce : List ℕ) : Type 0 where
  pub extensions : List ℕ
  pub pair_is : IsPair 99 114 bare (encode_of standard header) nonce extensions
  pub nonce_is : IsNonce nonce
  pub extensions_are : IsExtensions extensions

-- the client final proves the password, and the reply is the server final for it
pub record IsProved (hash : List ℕ → List ℕ) (block output : ℕ) (stored_key server_key : List ℕ)
    (header bare server_first whole_nonce client_final server_final : List ℕ) : Type 0 where
  pub client_final_bare : List ℕ
  pub proof : List ℕ
  pub client_final_is : IsClientFinal header client_final client_final_bare whole_nonce (encode_of standard proof)
  pub proof_length : length proof ≡ output
  pub proof_holds : ProofHolds hash block stored_key (auth_of bare server_first client_final_bare) proof
  pub server_final_is : server_final ≡
      server_final_of (hmac_of hash block server_key (auth_of bare server_first client_final_bare))
