-- Key derivation by an algorithm.
use Rattle.std.specs.Prelude.{◌≡◌, ℕ, List}
use Rattle.sha2.specs.Sha256.{sha256}
use Rattle.sha2.specs.Sha512.{sha512}
use Rattle.kdf_core.specs.Hmac.{hmac_of}
use Rattle.kdf_core.specs.Params.{rounds_of, output_len_of, recommended_rounds}
use Rattle.kdf_core.specs.Pbkdf2.{pbkdf2_of}
use Rattle.kdf_core.specs.declared.algorithm.Algorithm.{Algorithm}
use Rattle.kdf_core.specs.declared.algorithm.Algorithm.TheVariants.{Pbkdf2Sha256, Pbkdf2Sha512}
use Rattle.kdf_core.specs.declared.params.Params.{Params}
use Rattle.kdf_core.specs.declared.password.Pbkdf2.{Pbkdf2}

-- PBKDF2 (RFC 8018, section 5.2) with HMAC over the algorithm's hash function
abbrev pub key_of : Algorithm → List ℕ → List ℕ → ℕ → ℕ → List ℕ
key_of Pbkdf2Sha256 password salt rounds len = pbkdf2_of (hmac_of sha256 64 password) 32 salt rounds len
key_of Pbkdf2Sha512 password salt rounds len = pbkdf2_of (hmac_of sha512 128 password) 64 salt rounds len

abbrev pub IsRecommendedFor : Algorithm → Pbkdf2 → Type 0
IsRecommendedFor algorithm kdf =
    (kdf.algorithm ≡ algorithm)
    × (rounds_of kdf.params ≡ recommended_rounds algorithm)
    × (output_len_of kdf.params ≡ 32)

abbrev pub IsDefault : Pbkdf2 → Type 0
IsDefault kdf = IsRecommendedFor Pbkdf2Sha256 kdf

abbrev pub IsSha256With : Params → Pbkdf2 → Type 0
IsSha256With params kdf = (kdf.algorithm ≡ Pbkdf2Sha256) × (kdf.params ≡ params)
