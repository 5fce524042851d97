-- The marks of the keys that were seen.
use Rattle.std.proofs.Common.{◌≡◌, ℕ, ◌+◌, ◌<◌, Bool, true, false, List, [], ◌∷◌, ◌++◌, length, get_or, set, take, refl, sym, ap, subst, ◌∙◌, arith}
use Rattle.std.proofs.lemmas.Bool.{true≢false, cases_eq}
use Rattle.std.proofs.lemmas.List.{get_or-set_same, get_or-set_other, take_more}
use Rattle.std.specs.List.{list_any}
use Rattle.amqp_data.specs.Data.{Amqp}
use Rattle.amqp_data.specs.Marks.{mark_of}
use Rattle.amqp_data.specs.Same.{same}
use Rattle.amqp_data.specs.SameLaws.{same_is}
use Rattle.amqp_data.specs.View.{view}
use Rattle.amqp_data.specs.declared.value.Entry.{Entry}

abbrev pub is_marked : List Bool → Amqp → Bool
is_marked seen x = get_or seen (mark_of x) false

-- the mark of each key is among those that were seen
abbrev pub AreMarked : List Bool → List Entry → Type 0
AreMarked seen [] = Unit {0}
AreMarked seen (e ∷ es) = (is_marked seen (view e.key) ≡ true) × AreMarked seen es

not_true : (b : Bool) → (b ≡ true → ⊥) → b ≡ false
not_true true h = absurd (h refl)
not_true false h = refl

differs : (seen : List Bool) (x y : Amqp) → is_marked seen x ≡ false → is_marked seen y ≡ true → same x y ≡ false
differs seen x y new old = not_true (same x y) (λ e. true≢false (sym old ∙ ap (is_marked seen) (sym (same_is x y e)) ∙ new))

-- a key whose mark was not seen is new
pub is_new : (seen : List Bool) (x : Amqp) (es : List Entry) → is_marked seen x ≡ false → AreMarked seen es → list_any (λ e. same x (view e.key)) es ≡ false
is_new seen x [] new old = refl
is_new seen x (e ∷ es) new old = rw (differs seen x (view e.key) new old.0) (is_new seen x es new old.1)

-- ---- one mark more

stays : (seen : List Bool) (k j : ℕ) → k < length seen → get_or seen j false ≡ true → get_or (set seen k true) j false ≡ true
stays seen k j lt old = grind (arith, get_or-set_same seen k true false lt, get_or-set_other seen k j true false, old, cases_eq j k)

all_stay : (seen : List Bool) (k : ℕ) (es : List Entry) → k < length seen → AreMarked seen es → AreMarked (set seen k true) es
all_stay seen k [] lt old = tt
all_stay seen k (e ∷ es) lt old = (stays seen k (mark_of (view e.key)) lt old.0, all_stay seen k es lt old.1)

with_last : (seen : List Bool) (es : List Entry) (e : Entry) → AreMarked seen es → is_marked seen (view e.key) ≡ true → AreMarked seen (es ++ e ∷ [])
with_last seen [] e old new = (new, tt)
with_last seen (x ∷ es) e old new = (old.0, with_last seen es e old.1 new)

pub one_more : (seen : List Bool) (es : List Entry) (i : ℕ) (e : Entry) (k : ℕ) → i < length es → k ≡ mark_of (view (get_or es i e).key) → k < length seen → AreMarked seen (take i es) → AreMarked (set seen k true) (take (i + 1) es)
one_more seen es i e k lt is fits old =
    let here : is_marked (set seen k true) (view (get_or es i e).key) ≡ true = ap (λ (m : ℕ). get_or (set seen k true) m false) (sym is) ∙ get_or-set_same seen k true false fits in
    subst (AreMarked (set seen k true)) (sym (take_more es i e lt)) (with_last (set seen k true) (take i es) (get_or es i e) (all_stay seen k (take i es) fits old) here)
