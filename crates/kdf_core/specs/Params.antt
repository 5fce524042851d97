-- The parameters of a password store, and their texts.
use Rattle.std.specs.Prelude.{◌≡◌, ℕ, ◌<◌, ◌≤◌, ◌^◌, List, Result, Ok, Err}
use Rattle.std.specs.Str.Parse.{IsNumeral, digits_value, without_leading_plus}
use Rattle.kdf_core.specs.declared.algorithm.Algorithm.{Algorithm}
use Rattle.kdf_core.specs.declared.algorithm.Algorithm.TheVariants.{Pbkdf2Sha256, Pbkdf2Sha512}
use Rattle.kdf_core.specs.declared.error.KdfError.{KdfError}
use Rattle.kdf_core.specs.declared.error.KdfError.TheVariants.{ParamsInvalid, EncodingInvalid}
use Rattle.kdf_core.specs.declared.params.Params.{Params}

abbrev pub rounds_of : Params → ℕ
rounds_of params = params.rounds

abbrev pub output_len_of : Params → ℕ
output_len_of params = params.output_len

abbrev pub recommended_rounds : Algorithm → ℕ
recommended_rounds Pbkdf2Sha256 = 600000
recommended_rounds Pbkdf2Sha512 = 210000

abbrev pub IsRecommended : Params → Type 0
IsRecommended params = (rounds_of params ≡ 600000) × (output_len_of params ≡ 32)

abbrev pub IsInRange : ℕ → ℕ → Type 0
IsInRange rounds len = (1000 ≤ rounds) × (10 ≤ len) × (len ≤ 64)

-- these rounds and this length, or the error where they are out of range
abbrev pub IsParamsOf : ℕ → ℕ → Result Params KdfError → Type 0
IsParamsOf rounds len (Ok params) =
    (rounds_of params ≡ rounds) × (output_len_of params ≡ len) × IsInRange rounds len
IsParamsOf rounds len (Err e) = (e ≡ ParamsInvalid) × (IsInRange rounds len → ⊥)

-- an optional plus sign, then one or more digits, with a value below 2^32
abbrev pub IsRounds : List ℕ → ℕ → Type 0
IsRounds text n =
    IsNumeral 10 (without_leading_plus text) × (digits_value 10 (without_leading_plus text) ≡ n) × (n < 2 ^ 32)

-- the rounds of the text with an output of 32 bytes, or the error of the text or of its rounds
abbrev pub IsParamsText : List ℕ → Result Params KdfError → Type 0
IsParamsText text (Ok params) =
    (n : ℕ) × IsRounds text n × (rounds_of params ≡ n) × (output_len_of params ≡ 32) × (1000 ≤ n)
IsParamsText text (Err EncodingInvalid) = (n : ℕ) → IsRounds text n → ⊥
IsParamsText text (Err ParamsInvalid) = (n : ℕ) × IsRounds text n × (n < 1000)
IsParamsText text (Err _) = ⊥
