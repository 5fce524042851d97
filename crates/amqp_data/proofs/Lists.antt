-- Lists of values, seen as items.
use Rattle.std.proofs.Common.{◌≡◌, ℕ, zero, suc, ◌+◌, ◌<◌, List, [], ◌∷◌, ◌++◌, length, get_or, take, Some, refl, sym, ap, ◌∙◌, arith}
use Rattle.std.proofs.lemmas.List.{take_more}
use Rattle.amqp_data.specs.declared.kind.ElementKind.{ElementKind}
use Rattle.amqp_data.specs.declared.value.Value.{Value}
use Rattle.amqp_data.specs.Data.{Amqp, Items, no_items, item, count, pushed, element_kind, AreOfKind}
use Rattle.amqp_data.specs.View.{view, items_view}

pub count_view : (xs : List Value) → count (items_view xs) ≡ length xs
count_view [] = refl
count_view (x ∷ xs) = ap suc (count_view xs)

pub view_push : (xs : List Value) (x : Value) → items_view (xs ++ x ∷ []) ≡ pushed (items_view xs) (view x)
view_push [] x = refl
view_push (y ∷ xs) x = ap (item (view y)) (view_push xs x)

pub empty_view : (xs : List Value) → length xs ≡ 0 → items_view xs ≡ no_items
empty_view [] e = refl
empty_view (x ∷ xs) e = absurd (omega (arith, e))

pub view_empty : (xs : List Value) → items_view xs ≡ no_items → length xs ≡ 0
view_empty xs e = sym (count_view xs) ∙ ap count e

-- ---- kinds

pub pushed_of_kind : (k : ElementKind) (vs : Items) (v : Amqp) → AreOfKind k vs → element_kind v ≡ Some k → AreOfKind k (pushed vs v)
pushed_of_kind k no_items v h e = (e, tt)
pushed_of_kind k (item w ws) v h e = (h.0, pushed_of_kind k ws v h.1 e)

pub item_of_kind : (k : ElementKind) (xs : List Value) (i : ℕ) (x : Value) → i < length xs → x ≡ get_or xs i x → AreOfKind k (items_view xs) → element_kind (view x) ≡ Some k
item_of_kind k [] i x lt e h = absurd (omega (arith, lt))
item_of_kind k (y ∷ xs) zero x lt e h = ap (λ (z : Value). element_kind (view z)) e ∙ h.0
item_of_kind k (y ∷ xs) (suc i) x lt e h = item_of_kind k xs i x (omega (arith, lt)) e h.1

pub more_of_kind : (k : ElementKind) (xs : List Value) (i : ℕ) (x : Value) → i < length xs → x ≡ get_or xs i x → AreOfKind k (items_view (take i xs)) → element_kind (view x) ≡ Some k → AreOfKind k (items_view (take (i + 1) xs))
more_of_kind k xs i x lt e h f =
    let front : take (i + 1) xs ≡ take i xs ++ x ∷ [] = take_more xs i x lt ∙ ap (λ (z : Value). take i xs ++ z ∷ []) (sym e) in
    rw (front, view_push (take i xs) x) (pushed_of_kind k (items_view (take i xs)) (view x) h f)
