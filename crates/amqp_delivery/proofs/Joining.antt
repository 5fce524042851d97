-- Joining ranges at a place.
use Rattle.std.specs.Prelude.{◌≡◌, ℕ, zero, suc, ◌+◌, ◌-◌, ◌<◌, ◌≤◌, ◌⊎◌, Bool, true, false, List, [], ◌∷◌, ◌++◌, length, take, drop, remove, refl}
use Rattle.std.proofs.Common.{ap, sym, ◌∙◌, arith, get_or, set, add-one, inl, inr}
use Rattle.std.proofs.lemmas.List.{append_assoc, take-append-drop, drop_more, take_more, take_all, drop_all, set_split, set_at, length-take-le, get_or_default}
use Rattle.amqp_delivery.specs.declared.ranges.Range.{Range}
use Rattle.amqp_delivery.specs.Ranges.{meets, glue_at, glue}

glue_nil : (ts : List Range) → glue ts [] ≡ ts
glue_nil [] = refl
glue_nil (r ∷ []) = refl
glue_nil (r ∷ q ∷ rs) = ap (λ (xs : List Range). r ∷ xs) (glue_nil (q ∷ rs))

-- at the last of the ranges alone
pub glue_last : (ts : List Range) (r s : Range) (ss : List Range) → glue (ts ++ r ∷ []) (s ∷ ss) ≡ ts ++ glue_at (meets r s) r s ss
glue_last [] r s ss = refl
glue_last (t ∷ []) r s ss = refl
glue_last (t ∷ q ∷ ts) r s ss = ap (λ (xs : List Range). t ∷ xs) (glue_last (q ∷ ts) r s ss)

pub none_joined : (xs : List Range) (place : ℕ) → (place ≡ 0) ⊎ (length xs ≤ place) → xs ≡ glue (take place xs) (drop place xs)
none_joined xs place (inl e) = rw e refl
none_joined xs place (inr h) = rw (take_all place xs h, drop_all place xs h) (sym (glue_nil xs))

-- what stands before a place, by the range before it
before : (xs : List Range) (place : ℕ) (r : Range) → (place ≡ 0 → ⊥) → place < length xs → r ≡ get_or xs (place - 1) r → take place xs ≡ take (place - 1) xs ++ r ∷ []
before xs place r some l e =
    let next : place - 1 + 1 ≡ place = omega (arith, some) in
    ap (λ (m : ℕ). take m xs) (sym next) ∙ take_more xs (place - 1) r (omega (arith, l)) ∙ ap (λ (x : Range). take (place - 1) xs ++ x ∷ []) (sym e)

behind : (xs : List Range) (place : ℕ) (s : Range) → place < length xs → s ≡ get_or xs place s → drop place xs ≡ s ∷ drop (place + 1) xs
behind xs place s l e = drop_more xs place s l ∙ ap (λ (x : Range). x ∷ drop (place + 1) xs) (sym e)

glued : (xs : List Range) (place : ℕ) (r s : Range) → (place ≡ 0 → ⊥) → place < length xs → r ≡ get_or xs (place - 1) r → s ≡ get_or xs place s
    → glue (take place xs) (drop place xs) ≡ take (place - 1) xs ++ glue_at (meets r s) r s (drop (place + 1) xs)
glued xs place r s some l er es = rw (before xs place r some l er, behind xs place s l es) (glue_last (take (place - 1) xs) r s (drop (place + 1) xs))

pub joined_apart : (xs : List Range) (place : ℕ) (r s : Range) → (place ≡ 0 → ⊥) → place < length xs → r ≡ get_or xs (place - 1) r → s ≡ get_or xs place s → meets r s ≡ false → xs ≡ glue (take place xs) (drop place xs)
joined_apart xs place r s some l er es e =
    sym (glued xs place r s some l er es ∙ ap (λ (b : Bool). take (place - 1) xs ++ glue_at b r s (drop (place + 1) xs)) e
    ∙ sym (append_assoc (take (place - 1) xs) (r ∷ []) (s ∷ drop (place + 1) xs))
    ∙ rw (sym (before xs place r some l er), sym (behind xs place s l es)) (take-append-drop place xs))

pub joined_met : (xs : List Range) (place : ℕ) (r s after : Range) → (place ≡ 0 → ⊥) → place < length xs → r ≡ get_or xs (place - 1) r → s ≡ get_or xs place s → after ≡ get_or xs place after → meets r s ≡ true
    → (ys : List Range) → ys ≡ remove xs place → set ys (place - 1) (record { attachment = r.attachment; first = r.first; last = after.last }) ≡ glue (take place xs) (drop place xs)
joined_met xs place r s after some l er es ea e ys ey =
    let same : after ≡ s = ea ∙ get_or_default xs place after s l ∙ sym es in
    let ts = take (place - 1) xs in
    let bs = drop (place + 1) xs in
    let size : length ts ≡ place - 1 = length-take-le (place - 1) xs (omega (arith, l)) in
    let parts : ys ≡ ts ++ r ∷ bs =
    ey ∙ ap (λ (m : ℕ). take place xs ++ drop m xs) (sym (add-one place)) ∙ ap (λ (zs : List Range). zs ++ bs) (before xs place r some l er) ∙ append_assoc ts (r ∷ []) bs in
    ap (λ (zs : List Range). set zs (place - 1) (record { attachment = r.attachment; first = r.first; last = after.last })) parts
    ∙ set_at ts r bs (record { attachment = r.attachment; first = r.first; last = after.last }) (place - 1) size
    ∙ ap (λ (x : Range). ts ++ record { attachment = r.attachment; first = r.first; last = x.last } ∷ bs) same
    ∙ sym (glued xs place r s some l er es ∙ ap (λ (b : Bool). ts ++ glue_at b r s bs) e)

pub added_met : (xs : List Range) (place : ℕ) (r s t : Range) → place < length xs → s ≡ get_or xs place s → t ≡ get_or xs place t → meets r s ≡ true
    → set xs place (record { attachment = r.attachment; first = r.first; last = t.last }) ≡ take place xs ++ glue (r ∷ []) (drop place xs)
added_met xs place r s t l es et e =
    let same : t ≡ s = et ∙ get_or_default xs place t s l ∙ sym es in
    set_split xs place (record { attachment = r.attachment; first = r.first; last = t.last }) l
    ∙ ap (λ (m : ℕ). take place xs ++ record { attachment = r.attachment; first = r.first; last = t.last } ∷ drop m xs) (sym (add-one place))
    ∙ ap (λ (x : Range). take place xs ++ record { attachment = r.attachment; first = r.first; last = x.last } ∷ drop (place + 1) xs) same
    ∙ ap (λ (b : Bool). take place xs ++ glue_at b r s (drop (place + 1) xs)) (sym e)
    ∙ ap (λ (zs : List Range). take place xs ++ glue (r ∷ []) zs) (sym (behind xs place s l es))
