-- The pairs of the entries of a book.
use Rattle.std.specs.Prelude.{◌≡◌, ℕ, ◌+◌, ◌*◌, ◌%◌, ◌^◌, ◌<◌, Bool, true, false, cond, List, [], ◌∷◌, length, Option, Some, None, IfSome, refl}
use Rattle.std.proofs.Common.{ap, sym, subst, ◌∙◌, arith}
use Rattle.std.proofs.Math.Nat.{mod-eq_of_lt}
use Rattle.std.specs.Str.{bytes_eq}
use Rattle.std.specs.Map.{lookup, set_value}
use Rattle.indexmap.specs.IndexMap.{insert_entry, swap_remove_entry}
use Rattle.amqp_termini.specs.declared.state.DeliveryState.{DeliveryState}
use Rattle.amqp_delivery.specs.declared.entry.Kept.{Kept}
use Rattle.amqp_delivery.specs.Ranges.{rank_of, insert_pair, remove_pair, sorted_by}
use Rattle.amqp_delivery.specs.Book.{pair_of, pairs_of, stated}
use Rattle.amqp_delivery.proofs.Sizes.{inserted_more}
use Rattle.amqp_delivery.proofs.Sorting.{sorted_new, sorted_again, sorted_without}

-- a number below 2^32 is itself
pub small : (n : ℕ) → n < 2 ^ 32 → n ≡ n % 4294967296
small n h = sym (mod-eq_of_lt h)

tied_at : (a b m n : ℕ) → m < 4294967296 → n < 4294967296 → a * 4294967296 + m ≡ b * 4294967296 + n → (a ≡ b) × (m ≡ n)
tied_at a b m n hm hn e = let same : a ≡ b = omega (arith, hm, hn, e) in (same, omega (arith, same, e))

tied : (j k : Kept) → rank_of (pair_of j) ≡ rank_of (pair_of k) → pair_of j ≡ pair_of k
tied j k e =
    let small : j.number % 4294967296 < 4294967296 = omega arith in
    let little : k.number % 4294967296 < 4294967296 = omega arith in
    let h = tied_at j.attachment k.attachment (j.number % 4294967296) (k.number % 4294967296) small little e in
    λ i. (h.0 i, h.1 i)

pub kept_new : (es : List (List ℕ × Kept)) (tag : List ℕ) (k : Kept) → lookup (bytes_eq tag) es ≡ None → pairs_of (insert_entry bytes_eq es tag k) ≡ insert_pair (pair_of k) (pairs_of es)
kept_new es tag k h = sorted_new pair_of tied bytes_eq es tag k h

pub kept_again : (es : List (List ℕ × Kept)) (tag : List ℕ) (k old : Kept) → lookup (bytes_eq tag) es ≡ Some old → pairs_of (insert_entry bytes_eq es tag k) ≡ insert_pair (pair_of k) (remove_pair (pair_of old) (pairs_of es))
kept_again es tag k old h = sorted_again pair_of tied bytes_eq es tag k old h

pub kept_without : (tag : List ℕ) (es : List (List ℕ × Kept)) (k : Kept) → lookup (bytes_eq tag) es ≡ Some k → pairs_of (swap_remove_entry (bytes_eq tag) es) ≡ remove_pair (pair_of k) (pairs_of es)
kept_without tag es k h = sorted_without pair_of tied (bytes_eq tag) es k h

stated_by : (b : Bool) (e : List ℕ × Kept) (es more : List (List ℕ × Kept)) (found : Option Kept) (k : Kept) (state : DeliveryState) → cond b (Some e.1) found ≡ Some k
    → (found ≡ Some k → pairs_of more ≡ pairs_of es) → pairs_of (cond b ((e.0, stated k state) ∷ es) (e ∷ more)) ≡ insert_pair (pair_of e.1) (pairs_of es)
stated_by true e es more found k state h rest = let P : Option Kept → Type 0 = λ o. IfSome o (λ u. insert_pair (pair_of u) (pairs_of es) ≡ insert_pair (pair_of e.1) (pairs_of es)) in subst P h refl
stated_by false e es more found k state h rest = ap (insert_pair (pair_of e.1)) (rest h)

pub kept_stated : (test : List ℕ → Bool) (es : List (List ℕ × Kept)) (k : Kept) (state : DeliveryState) → lookup test es ≡ Some k → pairs_of (set_value test es (stated k state)) ≡ pairs_of es
kept_stated test [] k state h = absurd cc
kept_stated test (e ∷ es) k state h = stated_by (test e.0) e es (set_value test es (stated k state)) (lookup test es) k state h (kept_stated test es k state)

pub kept_count : (es : List (List ℕ × Kept)) → length (pairs_of es) ≡ length es
kept_count [] = refl
kept_count (e ∷ es) = let more = inserted_more (pair_of e.1) (pairs_of es) in let rest = kept_count es in omega (arith, more, rest)
