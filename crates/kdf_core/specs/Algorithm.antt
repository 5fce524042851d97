-- The algorithms of a password store and their identifiers.
use Rattle.std.specs.Prelude.{◌≡◌, ℕ, List, codes, Result, Ok, Err}
use Rattle.kdf_core.specs.declared.algorithm.Algorithm.{Algorithm}
use Rattle.kdf_core.specs.declared.algorithm.Algorithm.TheVariants.{Pbkdf2Sha256, Pbkdf2Sha512}
use Rattle.kdf_core.specs.declared.error.KdfError.{KdfError}
use Rattle.kdf_core.specs.declared.error.KdfError.TheVariants as error

abbrev pub algorithm_id : Algorithm → List ℕ
algorithm_id Pbkdf2Sha256 = codes "pbkdf2-sha256"
algorithm_id Pbkdf2Sha512 = codes "pbkdf2-sha512"

-- the bytes of a digest of the algorithm's hash function
abbrev pub output_size : Algorithm → ℕ
output_size Pbkdf2Sha256 = 32
output_size Pbkdf2Sha512 = 64

-- the algorithm with this identifier, or the error where the identifier is that of none
abbrev pub IsAlgorithmOf : List ℕ → Result Algorithm KdfError → Type 0
IsAlgorithmOf id (Ok algorithm) = id ≡ algorithm_id algorithm
IsAlgorithmOf id (Err e) = (e ≡ error.Algorithm) × ((algorithm : Algorithm) → id ≡ algorithm_id algorithm → ⊥)

abbrev pub IsRecommended : Algorithm → Type 0
IsRecommended algorithm = algorithm ≡ Pbkdf2Sha256
