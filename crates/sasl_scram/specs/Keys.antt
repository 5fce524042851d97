-- The keys and checks of SCRAM (RFC 5802, section 3) on lists of bytes. `hash` is the hash function H, `block` its block
-- length and `output` the length of its digests.
use Rattle.std.specs.Prelude.{◌≡◌, ℕ, List, codes}
use Rattle.kdf_core.specs.Hmac.{hmac_of}
use Rattle.kdf_core.specs.Pbkdf2.{xor_of, pbkdf2_of}

-- SaltedPassword := Hi (Normalize (password), salt, i)
abbrev pub salted_of : (List ℕ → List ℕ) → ℕ → ℕ → List ℕ → List ℕ → ℕ → List ℕ
salted_of hash block output password salt count = pbkdf2_of (hmac_of hash block password) output salt count output

-- ClientKey := HMAC (SaltedPassword, "Client Key")
abbrev pub client_key_of : (List ℕ → List ℕ) → ℕ → List ℕ → List ℕ
client_key_of hash block salted = hmac_of hash block salted (codes "Client Key")

-- StoredKey := H (ClientKey)
abbrev pub stored_key_of : (List ℕ → List ℕ) → ℕ → List ℕ → List ℕ
stored_key_of hash block salted = hash (client_key_of hash block salted)

-- ServerKey := HMAC (SaltedPassword, "Server Key")
abbrev pub server_key_of : (List ℕ → List ℕ) → ℕ → List ℕ → List ℕ
server_key_of hash block salted = hmac_of hash block salted (codes "Server Key")

-- ClientProof := ClientKey XOR ClientSignature, where ClientSignature := HMAC (StoredKey, AuthMessage)
abbrev pub proof_of : (List ℕ → List ℕ) → ℕ → List ℕ → List ℕ → List ℕ
proof_of hash block salted auth =
    xor_of (client_key_of hash block salted) (hmac_of hash block (stored_key_of hash block salted) auth)

-- ServerSignature := HMAC (ServerKey, AuthMessage)
abbrev pub SignatureHolds : (List ℕ → List ℕ) → ℕ → List ℕ → List ℕ → List ℕ → Type 0
SignatureHolds hash block server_key auth signature = signature ≡ hmac_of hash block server_key auth

-- H (ClientProof XOR ClientSignature) = StoredKey
abbrev pub ProofHolds : (List ℕ → List ℕ) → ℕ → List ℕ → List ℕ → List ℕ → Type 0
ProofHolds hash block stored_key auth proof = hash (xor_of proof (hmac_of hash block stored_key auth)) ≡ stored_key
