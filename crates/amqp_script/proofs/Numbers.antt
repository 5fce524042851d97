-- Numbers in decimal: what `parse` of the standard library reads.
use Rattle.std.proofs.Common.{◌≡◌, ◌≢◌, true≢false, ◌^◌, ◌<◌, ◌≤◌, ◌==◌, List, ℕ, Bool, true, false, ◌&&◌, ◌||◌, not, nat_lt, nat_le, if◌then◌else◌, Some, None, Ok, Err, length, get_or, refl, sym, arith, IsUtf8}
use Rattle.std.specs.Char.{is_ascii_digit}
use Rattle.std.specs.List.{list_all}
use Rattle.std.specs.Str.Parse.{digits_value, ParsesUnsigned}
use Rattle.std.proofs.lemmas.Bool.Decides.{nat_tests}
use Rattle.std.proofs.lemmas.List.Sums.{AllPass-from_list_all}
use Rattle.std.proofs.lemmas.Str.{IsUtf8-from_ascii}
use Rattle.std.proofs.lemmas.List.{get_or_past}
use Rattle.std.proofs.lemmas.Str.Parse.{IsDigitsTest, IsNumeralModel, numerals_by_value, parse_plain}
use Rattle.std.proofs.Common.{rules}
use Rattle.amqp_script.specs.Number.{is_decimal, number_in}

tells : IsDigitsTest (λ ds. list_all is_ascii_digit ds ≡ true)
tells = search rules

own : IsNumeralModel (λ ds. list_all is_ascii_digit ds ≡ true) (digits_value 10)
own = numerals_by_value _ tells

both : (a b : Bool) → (a && b) ≡ true → (a ≡ true) × (b ≡ true)
both true b e = (refl, e)
both false b e = absurd (true≢false (sym e))

digit_range : (d : ℕ) → is_ascii_digit d ≡ true → (48 ≤ d) × (d ≤ 57)
digit_range d e = grind (arith, nat_tests)

all_digits : (ds : List ℕ) → is_decimal ds ≡ true → list_all is_ascii_digit ds ≡ true
all_digits ds e = (both _ _ e).0

some_digit : (ds : List ℕ) → is_decimal ds ≡ true → 0 < length ds
some_digit ds e =
    let h : (length ds == 1 || (nat_lt 1 (length ds) && not (get_or ds 0 0 == 48))) ≡ true = (both (list_all is_ascii_digit ds) _ e).1 in
    grind (arith, nat_tests)

digit_at : (ds : List ℕ) (k : ℕ) → is_decimal ds ≡ true → k < length ds → (48 ≤ get_or ds k 0) × (get_or ds k 0 ≤ 57)
digit_at ds k e h = digit_range _ (AllPass-from_list_all is_ascii_digit ds (all_digits ds e) k 0 h)

-- digits are ASCII
pub decimal_utf8 : (ds : List ℕ) → is_decimal ds ≡ true → IsUtf8 ds
decimal_utf8 ds e = IsUtf8-from_ascii ds (λ i. low i (nat_lt i (length ds)) refl)
  where
    low : (i : ℕ) (b : Bool) → nat_lt i (length ds) ≡ b → get_or ds i 0 < 128
    low i true h = let inside : i < length ds = grind (arith, nat_tests) in omega (arith, (digit_at ds i e inside).1)
    low i false h = let past : length ds ≤ i = grind (arith, nat_tests) in omega (arith, get_or_past ds i 0 past)

first_digit : (ds : List ℕ) → is_decimal ds ≡ true → get_or ds 0 0 ≢ 43
first_digit ds e h = omega (arith, (digit_at ds 0 e (some_digit ds e)).0, h)

-- what was read is the number
pub number_ok : (E : Type 0) (most : ℕ) (ds : List ℕ) (v : ℕ) → is_decimal ds ≡ true → ParsesUnsigned {E = E} 64 10 ds (Ok v) → number_in most ds ≡ (if nat_le v most then Some v else None)
number_ok E most ds v e h =
    let p = parse_plain own {E = E} 64 ds (Ok v) h (first_digit ds e) in
    rw (e, ← p.1) refl

-- what was not read is too large
pub number_err : (E : Type 0) (most : ℕ) (ds : List ℕ) (x : E) → most < 2 ^ 64 → is_decimal ds ≡ true → ParsesUnsigned {E = E} 64 10 ds (Err x) → number_in most ds ≡ None
number_err E most ds x m e h =
    let p = parse_plain own {E = E} 64 ds (Err x) h (first_digit ds e) in
    let large : 2 ^ 64 ≤ digits_value 10 ds = not_below (digits_value 10 ds) (λ low. p (all_digits ds e, some_digit ds e, low)) in
    let over : nat_le (digits_value 10 ds) most ≡ false = grind (arith, nat_tests) in
    rw (e, over) refl
  where
    not_below : (n : ℕ) → (n < 2 ^ 64 → ⊥) → 2 ^ 64 ≤ n
    not_below n f = omega arith
