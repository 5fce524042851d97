-- The bytes of digests, keys and proofs.
use Rattle.std.proofs.Common.{◌≡◌, ℕ, zero, suc, List, [], ◌∷◌, ◌++◌, length, bit_xor, codes, refl, ap, sym, ◌∙◌, arith}
use Rattle.std.specs.Int.{w32, w64, to_be_bytes}
use Rattle.std.specs.Prelude.{slice_index}
use Rattle.std.specs.Int.Bits.{xor_self, xor_zero_r, xor_assoc}
use Rattle.std.proofs.lemmas.Nat.{xor_of_8}
use Rattle.base64.specs.GeneralPurpose.{IsBytes}
use Rattle.sha1.specs.Sha1.{sha1, digest_bytes as digest_bytes_1}
use Rattle.sha2.specs.Sha256.{sha256, digest_bytes as digest_bytes_256}
use Rattle.sha2.specs.Sha512.{sha512, digest_bytes as digest_bytes_512}
use Rattle.kdf_core.specs.Hmac.{hmac_of}
use Rattle.kdf_core.specs.Lengths.{length-sha1, length-sha256, length-sha512}
use Rattle.kdf_core.specs.Pbkdf2.{xor_of}
use Rattle.sasl_scram.specs.declared.hash.ScramHash.{ScramHash}
use Rattle.sasl_scram.specs.declared.hash.ScramHash.TheVariants.{Sha1, Sha256, Sha512}
use Rattle.sasl_scram.specs.Hashes.{digest_of, block_of, output_of}
use Rattle.sasl_scram.specs.Keys.{client_key_of, stored_key_of, proof_of, ProofHolds}

-- ---- bytes

pub nil_bytes : IsBytes []
nil_bytes i = omega arith

pub append_bytes : (xs ys : List ℕ) → IsBytes xs → IsBytes ys → IsBytes (xs ++ ys)
append_bytes [] ys p q i = q i
append_bytes (x ∷ xs) ys p q zero = p 0
append_bytes (x ∷ xs) ys p q (suc i) = append_bytes xs ys (λ k. p (suc k)) q i

word_bytes : (n : ℕ) → IsBytes (to_be_bytes w32 n)
word_bytes n zero = omega arith
word_bytes n (suc zero) = omega arith
word_bytes n (suc (suc zero)) = omega arith
word_bytes n (suc (suc (suc zero))) = omega arith
word_bytes n (suc (suc (suc (suc i)))) = omega arith

long_word_bytes : (n : ℕ) → IsBytes (to_be_bytes w64 n)
long_word_bytes n zero = omega arith
long_word_bytes n (suc zero) = omega arith
long_word_bytes n (suc (suc zero)) = omega arith
long_word_bytes n (suc (suc (suc zero))) = omega arith
long_word_bytes n (suc (suc (suc (suc zero)))) = omega arith
long_word_bytes n (suc (suc (suc (suc (suc zero))))) = omega arith
long_word_bytes n (suc (suc (suc (suc (suc (suc zero)))))) = omega arith
long_word_bytes n (suc (suc (suc (suc (suc (suc (suc zero))))))) = omega arith
long_word_bytes n (suc (suc (suc (suc (suc (suc (suc (suc i)))))))) = omega arith

-- ---- digests

bytes_1 : (h : List ℕ) (n : ℕ) → IsBytes (digest_bytes_1 h n)
unfolding digest_bytes_1
bytes_1 h zero = nil_bytes
bytes_1 h (suc n) = append_bytes (digest_bytes_1 h n) (to_be_bytes w32 (slice_index h n)) (bytes_1 h n) (word_bytes (slice_index h n))

bytes_256 : (h : List ℕ) (n : ℕ) → IsBytes (digest_bytes_256 h n)
unfolding digest_bytes_256
bytes_256 h zero = nil_bytes
bytes_256 h (suc n) = append_bytes (digest_bytes_256 h n) (to_be_bytes w32 (slice_index h n)) (bytes_256 h n) (word_bytes (slice_index h n))

bytes_512 : (h : List ℕ) (n : ℕ) → IsBytes (digest_bytes_512 h n)
unfolding digest_bytes_512
bytes_512 h zero = nil_bytes
bytes_512 h (suc n) = append_bytes (digest_bytes_512 h n) (to_be_bytes w64 (slice_index h n)) (bytes_512 h n) (long_word_bytes (slice_index h n))

sha1_bytes : (m : List ℕ) → IsBytes (sha1 m)
unfolding sha1
sha1_bytes m = bytes_1 _ 5

sha256_bytes : (m : List ℕ) → IsBytes (sha256 m)
unfolding sha256
sha256_bytes m = bytes_256 _ 8

sha512_bytes : (m : List ℕ) → IsBytes (sha512 m)
unfolding sha512
sha512_bytes m = bytes_512 _ 8

pub digest_is_bytes : (hash : ScramHash) (m : List ℕ) → IsBytes (digest_of hash m)
digest_is_bytes Sha1 m = sha1_bytes m
digest_is_bytes Sha256 m = sha256_bytes m
digest_is_bytes Sha512 m = sha512_bytes m

pub length-digest : (hash : ScramHash) (m : List ℕ) → length (digest_of hash m) ≡ output_of hash
length-digest Sha1 m = length-sha1 m
length-digest Sha256 m = length-sha256 m
length-digest Sha512 m = length-sha512 m

-- ---- lists xored byte by byte

pub length-xor_of : (xs ys : List ℕ) → length xs ≡ length ys → length (xor_of xs ys) ≡ length xs
length-xor_of [] ys e = refl
length-xor_of (x ∷ xs) [] e = absurd (omega arith)
length-xor_of (x ∷ xs) (y ∷ ys) e = ap (λ n. suc n) (length-xor_of xs ys (omega arith))

pub xor_bytes : (xs ys : List ℕ) → IsBytes xs → IsBytes ys → IsBytes (xor_of xs ys)
xor_bytes [] ys p q i = omega arith
xor_bytes (x ∷ xs) [] p q i = omega arith
xor_bytes (x ∷ xs) (y ∷ ys) p q zero = xor_of_8 x y (p 0) (q 0)
xor_bytes (x ∷ xs) (y ∷ ys) p q (suc i) = xor_bytes xs ys (λ k. p (suc k)) (λ k. q (suc k)) i

pub xor_back : (xs ys : List ℕ) → length xs ≡ length ys → xor_of (xor_of xs ys) ys ≡ xs
xor_back [] ys e = refl
xor_back (x ∷ xs) [] e = absurd (omega arith)
xor_back (x ∷ xs) (y ∷ ys) e =
    let one : bit_xor (bit_xor x y) y ≡ x = xor_assoc x y y ∙ ap (bit_xor x) (xor_self y) ∙ xor_zero_r x in
    let rest : xor_of (xor_of xs ys) ys ≡ xs = xor_back xs ys (omega arith) in
    cc

-- ---- keys

module _ (hash : ScramHash) where
  abbrev hmac : List ℕ → List ℕ → List ℕ
  hmac key message = hmac_of (digest_of hash) (block_of hash) key message

  abbrev client_key : List ℕ → List ℕ
  client_key salted = client_key_of (digest_of hash) (block_of hash) salted

  abbrev stored_key : List ℕ → List ℕ
  stored_key salted = stored_key_of (digest_of hash) (block_of hash) salted

  pub length-hmac : (key message : List ℕ) → length (hmac_of (digest_of hash) (block_of hash) key message) ≡ output_of hash
  length-hmac key message = length-digest hash _

  pub hmac_bytes : (key message : List ℕ) → IsBytes (hmac_of (digest_of hash) (block_of hash) key message)
  hmac_bytes key message = digest_is_bytes hash _

  -- a client's key and what it is xored with
  paired : (salted auth : List ℕ) → length (client_key salted) ≡ length (hmac (stored_key salted) auth)
  paired salted auth = length-hmac salted (codes "Client Key") ∙ sym (length-hmac (stored_key salted) auth)

  pub length-proof : (salted auth : List ℕ) → length (proof_of (digest_of hash) (block_of hash) salted auth) ≡ output_of hash
  length-proof salted auth =
      length-xor_of (client_key salted) (hmac (stored_key salted) auth) (paired salted auth) ∙ length-hmac salted (codes "Client Key")

  pub proof_bytes : (salted auth : List ℕ) → IsBytes (proof_of (digest_of hash) (block_of hash) salted auth)
  proof_bytes salted auth =
      xor_bytes (client_key salted) (hmac (stored_key salted) auth) (hmac_bytes salted (codes "Client Key")) (hmac_bytes (stored_key salted) auth)

  -- section 3: the proof of a password holds under the stored key of that password
  pub proof_holds : (salted auth : List ℕ)
      → ProofHolds (digest_of hash) (block_of hash) (stored_key salted) auth (proof_of (digest_of hash) (block_of hash) salted auth)
  proof_holds salted auth = ap (digest_of hash) (xor_back (client_key salted) (hmac (stored_key salted) auth) (paired salted auth))
