-- Why a text that was written as it should be is refused.
use Rattle.std.proofs.Common.{◌≡◌, ℕ, List, ◌++◌, length, Option, None, inl, refl, ap, sym, ◌∙◌, subst, codes, decimal}
use Rattle.base64.specs.Engines.{standard}
use Rattle.base64.specs.GeneralPurpose.{IsBytes, encode_of}
use Rattle.sasl_scram.specs.declared.error.ScramErrorKind.{ScramErrorKind}
use Rattle.sasl_scram.specs.declared.error.ScramErrorKind.TheVariants.{Memory, TextNotAllowed, Malformed, NonceMismatch, Iterations, Base64, Signature, UserUnknown, ProofMismatch}
use Rattle.sasl_scram.specs.declared.stored.StoredPassword.{StoredPassword}
use Rattle.sasl_scram.specs.declared.hash.ScramHash.{ScramHash}
use Rattle.sasl_scram.specs.Hashes.{digest_of, block_of, output_of}
use Rattle.sasl_scram.specs.Keys.{ProofHolds}
use Rattle.sasl_scram.specs.Profile.{IsAllowedUser, IsNonce, IsAllowedCount}
use Rattle.sasl_scram.specs.Refusals.{IsMemory, IsClientFirstRefusal, IsServerFirstRefusal, IsClientFinalRefusal, IsServerFinalRefusal}
use Rattle.sasl_scram.specs.Texts.{escaped_of, client_first_of, client_first_bare_of, server_first_of, client_final_of, client_final_bare_of, server_final_of, auth_of, Extends, IsName, IsClientFirst, IsServerFinal}
use Rattle.amqp_pairs.proofs.Readings.{joined_nonce, extended, client_first_reads, client_first_once, server_first_reads, server_first_once, client_final_reads, client_final_whole, server_final_reads, server_final_once}
use Rattle.amqp_pairs.proofs.Texts.{escaped_once, encoded_once}

-- the user that a client first names is that of which it was made
pub user_once : (user nonce h b n r other : List ℕ) → IsNonce nonce → IsClientFirst (client_first_of user nonce) h b n r → IsName n other → other ≡ user
user_once user nonce h b n r other q f name =
    let same = client_first_once (client_first_of user nonce) h b n r _ _ (escaped_of user) nonce f (client_first_reads user nonce q) in
    escaped_once other user (sym name.1 ∙ same.2)

-- a client first of an allowed user is refused only where there is no such user
pub first_refused : (stored : List ℕ → Option StoredPassword) (user nonce : List ℕ) (kind : ScramErrorKind) → IsAllowedUser user → IsNonce nonce
    → ¬ IsMemory kind → IsClientFirstRefusal stored (client_first_of user nonce) kind → stored user ≡ None
first_refused stored user nonce (Memory e) u n m r = absurd (m tt)
first_refused stored user nonce TextNotAllowed u n m (h, b, name, c, other, f, is, not) =
    absurd (not (subst (λ (t : List ℕ). IsAllowedUser t) (sym (user_once user nonce h b name c other n f is)) u))
first_refused stored user nonce Malformed u n m r =
    absurd (r (codes "n,,") (client_first_bare_of user nonce) (escaped_of user) nonce user (client_first_reads user nonce n) (u.0, refl))
first_refused stored user nonce NonceMismatch u n m r = absurd r
first_refused stored user nonce Iterations u n m r = absurd r
first_refused stored user nonce Base64 u n m r = absurd r
first_refused stored user nonce Signature u n m r = absurd r
first_refused stored user nonce UserUnknown u n m (h, b, name, c, other, f, is, allowed, none) =
    sym (ap stored (user_once user nonce h b name c other n f is)) ∙ none
first_refused stored user nonce ProofMismatch u n m r = absurd r

-- a server first that extends the nonce is not refused
pub server_first_taken : (own more salt : List ℕ) (count : ℕ) (kind : ScramErrorKind) → IsNonce own → IsNonce more → IsBytes salt → IsAllowedCount count
    → ¬ IsMemory kind → IsServerFirstRefusal own (server_first_of (own ++ more) salt count) kind → ⊥
server_first_taken own more salt count (Memory e) p q s c m r = m tt
server_first_taken own more salt count TextNotAllowed p q s c m r = r
server_first_taken own more salt count Malformed p q s c m r =
    r (own ++ more) (encode_of standard salt) (decimal count) (server_first_reads (own ++ more) salt count (joined_nonce own more p q) c)
server_first_taken own more salt count NonceMismatch p q s c m (nonce, text, digits, f, not) =
    let same = server_first_once (server_first_of (own ++ more) salt count) nonce text digits _ _ _ f (server_first_reads (own ++ more) salt count (joined_nonce own more p q) c) in
    not (subst (λ (t : List ℕ). Extends own t) (sym same.0) (extended own more q))
server_first_taken own more salt count Iterations p q s c m (nonce, text, digits, f, e, not) =
    let same = server_first_once (server_first_of (own ++ more) salt count) nonce text digits _ _ _ f (server_first_reads (own ++ more) salt count (joined_nonce own more p q) c) in
    not count (c, same.2)
server_first_taken own more salt count Base64 p q s c m (nonce, text, digits, n, f, e, is, not) =
    let same = server_first_once (server_first_of (own ++ more) salt count) nonce text digits _ _ _ f (server_first_reads (own ++ more) salt count (joined_nonce own more p q) c) in
    not salt s same.1
server_first_taken own more salt count Signature p q s c m r = r
server_first_taken own more salt count UserUnknown p q s c m r = r
server_first_taken own more salt count ProofMismatch p q s c m r = r

module _ (hash : ScramHash) where
  -- a client final that repeats the nonce, with a proof of the right length, is refused only where the proof does not hold
  pub final_refused : (key bare first whole proof : List ℕ) (kind : ScramErrorKind) → IsNonce whole → IsBytes proof → length proof ≡ output_of hash → ¬ IsMemory kind
      → IsClientFinalRefusal (digest_of hash) (block_of hash) (output_of hash) key (codes "n,,") bare first whole (client_final_of whole proof) kind
      → ¬ ProofHolds (digest_of hash) (block_of hash) key (auth_of bare first (client_final_bare_of whole)) proof
  final_refused key bare first whole proof (Memory e) n b l m r holds = m tt
  final_refused key bare first whole proof TextNotAllowed n b l m r holds = r
  final_refused key bare first whole proof Malformed n b l m r holds =
      r (client_final_bare_of whole) whole (encode_of standard proof) (client_final_reads whole proof n)
  final_refused key bare first whole proof NonceMismatch n b l m (front, nonce, text, f, not) holds =
      let same = client_final_whole (codes "n,,") (client_final_of whole proof) front nonce text _ _ _ (inl refl) f (client_final_reads whole proof n) in
      not same.1
  final_refused key bare first whole proof Iterations n b l m r holds = r
  final_refused key bare first whole proof Base64 n b l m (front, text, f, not) holds =
      let same = client_final_whole (codes "n,,") (client_final_of whole proof) front whole text _ _ _ (inl refl) f (client_final_reads whole proof n) in
      not proof (b, l, same.2)
  final_refused key bare first whole proof Signature n b l m r holds = r
  final_refused key bare first whole proof UserUnknown n b l m r holds = r
  final_refused key bare first whole proof ProofMismatch n b l m (front, text, bytes, f, is, not) holds =
      let same = client_final_whole (codes "n,,") (client_final_of whole proof) front whole text _ _ _ (inl refl) f (client_final_reads whole proof n) in
      let proofs : bytes ≡ proof = encoded_once bytes proof is.0 b (sym is.2 ∙ same.2) in
      not (subst (λ (p : List ℕ). ProofHolds (digest_of hash) (block_of hash) key (auth_of bare first front) p) (sym proofs)
      (subst (λ (t : List ℕ). ProofHolds (digest_of hash) (block_of hash) key (auth_of bare first t) proof) (sym same.0) holds))

  -- a server final with a signature of the right length is refused only where another is waited for
  pub server_final_refused : (own signature : List ℕ) (kind : ScramErrorKind) → IsBytes signature → length signature ≡ output_of hash
      → IsServerFinalRefusal (output_of hash) own (server_final_of signature) kind → (kind ≡ Signature) × (signature ≡ own → ⊥)
  server_final_refused own signature (Memory e) b l r = absurd r
  server_final_refused own signature TextNotAllowed b l r = absurd r
  server_final_refused own signature Malformed b l r = absurd (r (encode_of standard signature) (server_final_reads signature))
  server_final_refused own signature NonceMismatch b l r = absurd r
  server_final_refused own signature Iterations b l r = absurd r
  server_final_refused own signature Base64 b l (text, f, not) =
      let same = server_final_once (server_final_of signature) text (encode_of standard signature) f (server_final_reads signature) in
      absurd (not signature (b, l, same))
  server_final_refused own signature Signature b l (text, bytes, f, is, not) =
      let same = server_final_once (server_final_of signature) text (encode_of standard signature) f (server_final_reads signature) in
      let one : bytes ≡ signature = encoded_once bytes signature is.0 b (sym is.2 ∙ same) in
      (refl, λ e. not (one ∙ e))
  server_final_refused own signature UserUnknown b l r = absurd r
  server_final_refused own signature ProofMismatch b l r = absurd r

  -- a server final with the signature that is waited for is not refused
  pub own_final_taken : (own text : List ℕ) (kind : ScramErrorKind) → IsBytes own → length own ≡ output_of hash → IsServerFinal text (encode_of standard own)
      → IsServerFinalRefusal (output_of hash) own text kind → ⊥
  own_final_taken own text (Memory e) b l f r = r
  own_final_taken own text TextNotAllowed b l f r = r
  own_final_taken own text Malformed b l f r = r (encode_of standard own) f
  own_final_taken own text NonceMismatch b l f r = r
  own_final_taken own text Iterations b l f r = r
  own_final_taken own text Base64 b l f (other, g, not) = not own (b, l, server_final_once text other (encode_of standard own) g f)
  own_final_taken own text Signature b l f (other, bytes, g, is, not) =
      not (encoded_once bytes own is.0 b (sym is.2 ∙ server_final_once text other (encode_of standard own) g f))
  own_final_taken own text UserUnknown b l f r = r
  own_final_taken own text ProofMismatch b l f r = r
