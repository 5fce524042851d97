-- What a loop over values has left.
use Rattle.std.proofs.Common.{◌≡◌, ℕ, zero, suc, ◌+◌, ◌<◌, ◌≤◌, List, [], ◌∷◌, length, get_or, drop, refl, sym, ap, ◌∙◌, arith}
use Rattle.std.proofs.lemmas.List.{drop_more, drop_all}
use Rattle.amqp_data.specs.declared.value.Value.{Value}
use Rattle.amqp_data.specs.declared.value.Entry.{Entry}
use Rattle.amqp_data.specs.Data.{no_items, item, no_pairs, pair, count, pair_count}
use Rattle.amqp_data.specs.Trees.{weight, items_weight, pairs_weight}
use Rattle.amqp_data.specs.View.{view, items_view, pairs_view}

pub rest_items : (xs : List Value) (i : ℕ) (x : Value) → i < length xs → x ≡ get_or xs i x → items_view (drop i xs) ≡ item (view x) (items_view (drop (i + 1) xs))
rest_items xs i x lt e = ap items_view (drop_more xs i x lt) ∙ ap (λ (z : Value). item (view z) (items_view (drop (i + 1) xs))) (sym e)

pub no_rest : (xs : List Value) (i : ℕ) → length xs ≤ i → items_view (drop i xs) ≡ no_items
no_rest xs i le = ap items_view (drop_all i xs le)

pub rest_pairs : (es : List Entry) (i : ℕ) (e : Entry) → i < length es → e ≡ get_or es i e → pairs_view (drop i es) ≡ pair (view e.key) (view e.value) (pairs_view (drop (i + 1) es))
rest_pairs es i e lt is = ap pairs_view (drop_more es i e lt) ∙ ap (λ (z : Entry). pair (view z.key) (view z.value) (pairs_view (drop (i + 1) es))) (sym is)

pub no_rest_pairs : (es : List Entry) (i : ℕ) → length es ≤ i → pairs_view (drop i es) ≡ no_pairs
no_rest_pairs es i le = ap pairs_view (drop_all i es le)

pub count_view : (xs : List Value) → count (items_view xs) ≡ length xs
count_view [] = refl
count_view (x ∷ xs) = ap suc (count_view xs)

pub count_entries : (es : List Entry) → pair_count (pairs_view es) ≡ length es
count_entries [] = refl
count_entries (e ∷ es) = ap suc (count_entries es)

-- each value of a list is smaller than the list
pub lighter : (xs : List Value) (i : ℕ) (x : Value) → i < length xs → x ≡ get_or xs i x → weight (view x) < items_weight (items_view xs)
lighter [] i x lt e = absurd (omega (arith, lt))
lighter (y ∷ xs) zero x lt e = omega (arith, ap (λ (z : Value). weight (view z)) e)
lighter (y ∷ xs) (suc i) x lt e = omega (arith, lighter xs i x (omega (arith, lt)) e)

pub lighter_entry : (es : List Entry) (i : ℕ) (e : Entry) → i < length es → e ≡ get_or es i e → weight (view e.key) + weight (view e.value) < pairs_weight (pairs_view es)
lighter_entry [] i e lt is = absurd (omega (arith, lt))
lighter_entry (f ∷ es) zero e lt is = omega (arith, ap (λ (z : Entry). weight (view z.key)) is, ap (λ (z : Entry). weight (view z.value)) is)
lighter_entry (f ∷ es) (suc i) e lt is = omega (arith, lighter_entry es i e (omega (arith, lt)) is)
