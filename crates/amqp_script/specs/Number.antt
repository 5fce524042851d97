-- Numbers in decimal, without a sign and without leading zeros.
use Rattle.std.specs.Prelude.{List, ℕ, length, Bool, ◌&&◌, ◌||◌, not, nat_lt, nat_le, ◌==◌, if◌then◌else◌, Option, Some, None, slice_index}
use Rattle.std.specs.Char.{is_ascii_digit}
use Rattle.std.specs.List.{list_all}
use Rattle.std.specs.Str.Parse.{digits_value}

-- one digit, or more of which the first is not 0
abbrev pub is_decimal : List ℕ → Bool
is_decimal digits = list_all is_ascii_digit digits && (length digits == 1 || (nat_lt 1 (length digits) && not (slice_index digits 0 == 48)))

-- the number that the digits write, where it is at most `most`
abbrev pub number_in : ℕ → List ℕ → Option ℕ
number_in most digits = if is_decimal digits && nat_le (digits_value 10 digits) most then Some (digits_value 10 digits) else None
