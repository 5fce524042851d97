-- What the answers of both ends say of the client first and of one another.
use Rattle.std.proofs.Common.{◌≡◌, ◌≢◌, ℕ, List, ◌++◌, Some, inl, refl, ap, sym, ◌∙◌, subst, codes, decimal}
use Rattle.base64.specs.Engines.{standard}
use Rattle.base64.specs.GeneralPurpose.{IsBytes, encode_of}
use Rattle.amqp_opening.specs.Authentication.{stored_for}
use Rattle.kdf_core.specs.Hmac.{hmac_of}
use Rattle.sasl_scram.specs.declared.error.ScramErrorKind.{ScramErrorKind}
use Rattle.sasl_scram.specs.declared.error.ScramErrorKind.TheVariants.{Signature}
use Rattle.sasl_scram.specs.declared.stored.StoredPassword.{StoredPassword}
use Rattle.sasl_scram.specs.Check.{stored_of, ClientAnswers, ServerAnswers, ServerCheck}
use Rattle.sasl_scram.specs.declared.hash.ScramHash.{ScramHash}
use Rattle.sasl_scram.specs.Hashes.{digest_of, block_of, output_of}
use Rattle.sasl_scram.specs.Keys.{salted_of, stored_key_of, server_key_of, proof_of, ProofHolds}
use Rattle.sasl_scram.specs.Profile.{IsAllowedCount, IsNonce}
use Rattle.sasl_scram.specs.Refusals.{IsMemory, IsClientFinalRefusal, IsServerFinalRefusal}
use Rattle.sasl_scram.specs.States.{Account}
use Rattle.sasl_scram.specs.Texts.{escaped_of, auth_of, client_first_of, client_first_bare_of, server_first_of, client_final_of, client_final_bare_of, server_final_of, IsClientFirst, IsServerFirst, IsClientFinal}
use Rattle.amqp_pairs.proofs.Accounts.{found}
use Rattle.amqp_pairs.proofs.Keys.{hmac_bytes, length-hmac, proof_bytes, length-proof, proof_holds}
use Rattle.amqp_pairs.proofs.Readings.{joined_nonce, client_first_reads, client_first_once, server_first_reads, server_first_once, client_final_reads, client_final_whole}
use Rattle.amqp_pairs.proofs.Refusals.{final_refused, server_final_refused}
use Rattle.amqp_pairs.proofs.Texts.{escaped_once, encoded_once, decimal_once}

-- what both ends sign
abbrev pub signed : List ℕ → List ℕ → List ℕ → List ℕ → List ℕ
signed user nonce own first = auth_of (client_first_bare_of user nonce) first (client_final_bare_of (nonce ++ own))

module _ (hash : ScramHash) where
  -- ---- the listener's answer to a client first

  -- what a listener with this account and nonce read in the client first of a user and a nonce, and what it answered
  pub record IsAnswerTo (account : Account) (own user nonce salt : List ℕ) (count : ℕ) (header bare name whole first : List ℕ) (keys : StoredPassword) : Type 0 where
    pub header_is : header ≡ codes "n,,"
    pub bare_is : bare ≡ client_first_bare_of user nonce
    pub name_is : name ≡ user
    pub user_is : account.user ≡ user
    pub whole_is : whole ≡ nonce ++ own
    pub first_is : first ≡ server_first_of (nonce ++ own) salt count
    pub keys_are : keys ≡ stored_of (digest_of hash) (block_of hash) (output_of hash) account.password salt count

  pub answer_to : (account : Account) (own user nonce salt : List ℕ) (count : ℕ) (client_first name whole first : List ℕ) (keys : StoredPassword)
      → account.stored ≡ Some (stored_of (digest_of hash) (block_of hash) (output_of hash) account.password salt count) → IsNonce nonce → client_first ≡ client_first_of user nonce
      → (a : ServerAnswers (stored_for account) own client_first name whole first keys)
      → IsAnswerTo account own user nonce salt count a.header a.bare name whole first keys
  answer_to account own user nonce salt count client_first name whole first keys stored n is a =
      let reads = subst (λ (t : List ℕ). IsClientFirst t (codes "n,,") (client_first_bare_of user nonce) (escaped_of user) nonce) (sym is) (client_first_reads user nonce n) in
      let same = client_first_once client_first a.header a.bare (escaped_of name) a.client_nonce (codes "n,,") (client_first_bare_of user nonce) (escaped_of user) nonce a.client_first_is reads in
      let names : name ≡ user = escaped_once name user same.2 in
      let both = found account name keys a.keys_are in
      let one : Some keys ≡ Some (stored_of (digest_of hash) (block_of hash) (output_of hash) account.password salt count) = sym both.1 ∙ stored in
      let keys_are : keys ≡ stored_of (digest_of hash) (block_of hash) (output_of hash) account.password salt count = cc in
      let whole_is : whole ≡ nonce ++ own = a.nonce_is ∙ ap (λ (t : List ℕ). t ++ own) same.3 in
      record {
        header_is = same.0;
        bare_is = same.1;
        name_is = names;
        user_is = both.0 ∙ names;
        whole_is = whole_is;
        first_is = a.server_first_is ∙ ap (λ (t : List ℕ). server_first_of t keys.salt keys.iterations) whole_is
            ∙ ap (λ (k : StoredPassword). server_first_of (nonce ++ own) k.salt k.iterations) keys_are;
        keys_are = keys_are;
      }

  -- ---- the client's answer to that

  abbrev pub salted : List ℕ → List ℕ → ℕ → List ℕ
  salted password salt count = salted_of (digest_of hash) (block_of hash) (output_of hash) password salt count

  pub record IsClientAnswer (user password nonce own salt : List ℕ) (count : ℕ) (first final signature : List ℕ) : Type 0 where
    pub final_is : final ≡ client_final_of (nonce ++ own) (proof_of (digest_of hash) (block_of hash) (salted password salt count) (signed user nonce own first))
    pub signature_is : signature ≡ hmac_of (digest_of hash) (block_of hash) (server_key_of (digest_of hash) (block_of hash) (salted password salt count)) (signed user nonce own first)

  pub client_answer : (user password nonce own salt : List ℕ) (count : ℕ) (first final signature : List ℕ)
      → IsNonce nonce → IsNonce own → IsBytes salt → IsAllowedCount count → first ≡ server_first_of (nonce ++ own) salt count
      → ClientAnswers (digest_of hash) (block_of hash) (output_of hash) user password nonce first final signature
      → IsClientAnswer user password nonce own salt count first final signature
  client_answer user password nonce own salt count first final signature n o bytes allowed is a =
      let reads = subst (λ (t : List ℕ). IsServerFirst t (nonce ++ own) (encode_of standard salt) (decimal count)) (sym is) (server_first_reads (nonce ++ own) salt count (joined_nonce nonce own n o) allowed) in
      let same = server_first_once first a.whole_nonce (encode_of standard a.salt) (decimal a.count) (nonce ++ own) (encode_of standard salt) (decimal count) a.server_first_is reads in
      let salts : a.salt ≡ salt = encoded_once a.salt salt a.salt_is bytes same.1 in
      let counts : a.count ≡ count = decimal_once a.count count a.count_is allowed same.2 in
      let auth : List ℕ → List ℕ = λ (w : List ℕ). auth_of (client_first_bare_of user nonce) first (client_final_bare_of w) in
      record {
        final_is = a.client_final_is
            ∙ ap (λ (w : List ℕ). client_final_of w (proof_of (digest_of hash) (block_of hash) (salted password a.salt a.count) (auth_of (client_first_bare_of user nonce) first (client_final_bare_of w)))) same.0
            ∙ ap (λ (s : List ℕ). client_final_of (nonce ++ own) (proof_of (digest_of hash) (block_of hash) (salted password s a.count) (signed user nonce own first))) salts
            ∙ ap (λ (c : ℕ). client_final_of (nonce ++ own) (proof_of (digest_of hash) (block_of hash) (salted password salt c) (signed user nonce own first))) counts;
        signature_is = a.signature_is
            ∙ ap (λ (w : List ℕ). hmac_of (digest_of hash) (block_of hash) (server_key_of (digest_of hash) (block_of hash) (salted password a.salt a.count)) (auth_of (client_first_bare_of user nonce) first (client_final_bare_of w))) same.0
            ∙ ap (λ (s : List ℕ). hmac_of (digest_of hash) (block_of hash) (server_key_of (digest_of hash) (block_of hash) (salted password s a.count)) (signed user nonce own first)) salts
            ∙ ap (λ (c : ℕ). hmac_of (digest_of hash) (block_of hash) (server_key_of (digest_of hash) (block_of hash) (salted password salt c)) (signed user nonce own first)) counts;
      }

  -- ---- the listener's check

  -- the client final is refused only where the passwords differ
  pub other_password : (account : Account) (user password nonce own salt : List ℕ) (count : ℕ) (header bare name whole first sent final signature text : List ℕ) (keys : StoredPassword) (kind : ScramErrorKind)
      → IsNonce nonce → IsNonce own → IsAnswerTo account own user nonce salt count header bare name whole first keys → sent ≡ first
      → IsClientAnswer user password nonce own salt count sent final signature → text ≡ final → ¬ IsMemory kind
      → IsClientFinalRefusal (digest_of hash) (block_of hash) (output_of hash) keys.stored_key header bare first whole text kind → password ≢ account.password
  other_password account user password nonce own salt count header bare name whole first sent final signature text keys kind n o s e c t m r same =
      let key : List ℕ = stored_key_of (digest_of hash) (block_of hash) (salted account.password salt count) in
      let proof : List ℕ = proof_of (digest_of hash) (block_of hash) (salted password salt count) (signed user nonce own first) in
      let text_is : text ≡ client_final_of (nonce ++ own) proof = t ∙ c.final_is ∙ ap (λ (f : List ℕ). client_final_of (nonce ++ own) (proof_of (digest_of hash) (block_of hash) (salted password salt count) (signed user nonce own f))) e in
      let r1 = subst (λ (k : StoredPassword). IsClientFinalRefusal (digest_of hash) (block_of hash) (output_of hash) k.stored_key header bare first whole text kind) s.keys_are r in
      let r2 = subst (λ (h : List ℕ). IsClientFinalRefusal (digest_of hash) (block_of hash) (output_of hash) key h bare first whole text kind) s.header_is r1 in
      let r3 = subst (λ (b : List ℕ). IsClientFinalRefusal (digest_of hash) (block_of hash) (output_of hash) key (codes "n,,") b first whole text kind) s.bare_is r2 in
      let r4 = subst (λ (w : List ℕ). IsClientFinalRefusal (digest_of hash) (block_of hash) (output_of hash) key (codes "n,,") (client_first_bare_of user nonce) first w text kind) s.whole_is r3 in
      let r5 = subst (λ (f : List ℕ). IsClientFinalRefusal (digest_of hash) (block_of hash) (output_of hash) key (codes "n,,") (client_first_bare_of user nonce) first (nonce ++ own) f kind) text_is r4 in
      let holds = subst (λ (p : List ℕ). ProofHolds (digest_of hash) (block_of hash) (stored_key_of (digest_of hash) (block_of hash) (salted p salt count)) (signed user nonce own first) proof) same (proof_holds hash (salted password salt count) (signed user nonce own first)) in
      final_refused hash key (client_first_bare_of user nonce) first (nonce ++ own) proof kind (joined_nonce nonce own n o)
      (proof_bytes hash (salted password salt count) (signed user nonce own first)) (length-proof hash (salted password salt count) (signed user nonce own first)) m r5 holds

  -- ---- the client's check

  -- the signature of a listener that took the client final
  pub signature_told : (account : Account) (user password nonce own salt : List ℕ) (count : ℕ) (client_first name first final told sent signature : List ℕ)
      → account.stored ≡ Some (stored_of (digest_of hash) (block_of hash) (output_of hash) account.password salt count) → IsNonce nonce → IsNonce own → client_first ≡ client_first_of user nonce
      → (c : ServerCheck (digest_of hash) (block_of hash) (output_of hash) (stored_for account) own name client_first first final told)
      → sent ≡ first → IsClientAnswer user password nonce own salt count sent final signature
      → told ≡ server_final_of (hmac_of (digest_of hash) (block_of hash) (server_key_of (digest_of hash) (block_of hash) (salted account.password salt count)) (signed user nonce own first))
  signature_told account user password nonce own salt count client_first name first final told sent signature stored n o is c e a =
      let s = answer_to account own user nonce salt count client_first name c.whole_nonce first c.keys stored n is c.answers in
      let final_is : final ≡ client_final_of (nonce ++ own) (proof_of (digest_of hash) (block_of hash) (salted password salt count) (signed user nonce own sent)) = a.final_is in
      let reads = subst (λ (t : List ℕ). IsClientFinal (codes "n,,") t (client_final_bare_of (nonce ++ own)) (nonce ++ own) (encode_of standard (proof_of (digest_of hash) (block_of hash) (salted password salt count) (signed user nonce own sent)))) (sym final_is)
      (client_final_reads (nonce ++ own) (proof_of (digest_of hash) (block_of hash) (salted password salt count) (signed user nonce own sent)) (joined_nonce nonce own n o)) in
      let read = subst (λ (h : List ℕ). IsClientFinal h final c.client_final_bare c.whole_nonce (encode_of standard c.proof)) s.header_is c.client_final_is in
      let same = client_final_whole (codes "n,,") final c.client_final_bare c.whole_nonce (encode_of standard c.proof) _ _ _ (inl refl) read reads in
      c.server_final_is
      ∙ ap (λ (k : StoredPassword). server_final_of (hmac_of (digest_of hash) (block_of hash) k.server_key (auth_of c.answers.bare first c.client_final_bare))) s.keys_are
      ∙ ap (λ (b : List ℕ). server_final_of (hmac_of (digest_of hash) (block_of hash) (server_key_of (digest_of hash) (block_of hash) (salted account.password salt count)) (auth_of b first c.client_final_bare))) s.bare_is
      ∙ ap (λ (b : List ℕ). server_final_of (hmac_of (digest_of hash) (block_of hash) (server_key_of (digest_of hash) (block_of hash) (salted account.password salt count)) (auth_of (client_first_bare_of user nonce) first b))) same.0

  -- it is refused only where the passwords differ
  pub other_signature : (account : Account) (user password nonce own salt : List ℕ) (count : ℕ) (first final told sent signature : List ℕ) (kind : ScramErrorKind)
      → told ≡ server_final_of (hmac_of (digest_of hash) (block_of hash) (server_key_of (digest_of hash) (block_of hash) (salted account.password salt count)) (signed user nonce own first))
      → sent ≡ first → IsClientAnswer user password nonce own salt count sent final signature
      → IsServerFinalRefusal (output_of hash) signature told kind → (kind ≡ Signature) × (password ≢ account.password)
  other_signature account user password nonce own salt count first final told sent signature kind is e a r =
      let key : List ℕ = server_key_of (digest_of hash) (block_of hash) (salted account.password salt count) in
      let auth : List ℕ = signed user nonce own first in
      let both = server_final_refused hash signature (hmac_of (digest_of hash) (block_of hash) key auth) kind (hmac_bytes hash key auth) (length-hmac hash key auth) (subst (λ (t : List ℕ). IsServerFinalRefusal (output_of hash) signature t kind) is r) in (
        both.0,
        λ same. both.1 (ap (λ (p : List ℕ). hmac_of (digest_of hash) (block_of hash) (server_key_of (digest_of hash) (block_of hash) (salted p salt count)) auth) (sym same)
            ∙ ap (λ (f : List ℕ). hmac_of (digest_of hash) (block_of hash) (server_key_of (digest_of hash) (block_of hash) (salted password salt count)) (signed user nonce own f)) (sym e) ∙ sym a.signature_is),
      )
