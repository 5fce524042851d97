-- How deep a list of values is nested, one value after another.
use Rattle.std.proofs.Common.{◌≡◌, ℕ, zero, suc, ◌+◌, ◌<◌, ◌≤◌, max, List, [], ◌∷◌, ◌++◌, length, get_or, take, sym, ap, ◌∙◌, arith}
use Rattle.std.proofs.lemmas.List.{take_more}
use Rattle.amqp_data.specs.Data.{depth, items_depth, pairs_depth}
use Rattle.amqp_data.specs.View.{view, items_view, pairs_view}
use Rattle.amqp_data.specs.declared.value.Value.{Value}
use Rattle.amqp_data.specs.declared.value.Entry.{Entry}

pub item_within : (xs : List Value) (i : ℕ) (x : Value) → i < length xs → x ≡ get_or xs i x → depth (view x) ≤ items_depth (items_view xs)
item_within [] i x lt e = absurd (omega arith)
item_within (y ∷ xs) zero x lt e = omega (arith, ap (λ (z : Value). depth (view z)) e)
item_within (y ∷ xs) (suc i) x lt e = omega (arith, item_within xs i x (omega (arith, lt)) e)

push_depth : (xs : List Value) (x : Value) → items_depth (items_view (xs ++ x ∷ [])) ≡ max (items_depth (items_view xs)) (depth (view x))
push_depth [] x = omega arith
push_depth (y ∷ xs) x = omega (arith, push_depth xs x)

pub items_more : (xs : List Value) (i : ℕ) (x : Value) (n : ℕ) → i < length xs → x ≡ get_or xs i x → items_depth (items_view (take i xs)) ≤ n → depth (view x) ≤ n → items_depth (items_view (take (i + 1) xs)) ≤ n
items_more xs i x n lt e h g =
    let front : take (i + 1) xs ≡ take i xs ++ x ∷ [] = take_more xs i x lt ∙ ap (λ (z : Value). take i xs ++ z ∷ []) (sym e) in
    rw front (omega (arith, push_depth (take i xs) x))

pub entry_within : (es : List Entry) (i : ℕ) (e : Entry) → i < length es → e ≡ get_or es i e → max (depth (view e.key)) (depth (view e.value)) ≤ pairs_depth (pairs_view es)
entry_within [] i e lt is = absurd (omega arith)
entry_within (f ∷ es) zero e lt is = omega (arith, ap (λ (z : Entry). depth (view z.key)) is, ap (λ (z : Entry). depth (view z.value)) is)
entry_within (f ∷ es) (suc i) e lt is = omega (arith, entry_within es i e (omega (arith, lt)) is)

push_entry_depth : (es : List Entry) (e : Entry) → pairs_depth (pairs_view (es ++ e ∷ [])) ≡ max (pairs_depth (pairs_view es)) (max (depth (view e.key)) (depth (view e.value)))
push_entry_depth [] e = omega arith
push_entry_depth (f ∷ es) e = omega (arith, push_entry_depth es e)

pub entries_more : (es : List Entry) (i : ℕ) (e : Entry) (n : ℕ) → i < length es → e ≡ get_or es i e → pairs_depth (pairs_view (take i es)) ≤ n → max (depth (view e.key)) (depth (view e.value)) ≤ n → pairs_depth (pairs_view (take (i + 1) es)) ≤ n
entries_more es i e n lt is h g =
    let front : take (i + 1) es ≡ take i es ++ e ∷ [] = take_more es i e lt ∙ ap (λ (z : Entry). take i es ++ z ∷ []) (sym is) in
    rw front (omega (arith, push_entry_depth (take i es) e))
