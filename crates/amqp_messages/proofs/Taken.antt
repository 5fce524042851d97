-- Sections taken one after another.
use Rattle.std.proofs.Common.{◌≡◌, ◌++◌, ◌∷◌, [], List, Bool, true, false, refl, sym, ap, ◌∙◌, append_assoc, append-nil, cond}
use Rattle.std.specs.Prelude.{Option, Some, None, Err}
use Rattle.amqp_data.specs.Data.{Amqp, Items, scalar, list, dict, array, described, no_items, item}
use Rattle.amqp_fields.specs.declared.error.BaseError.{BaseError}
use Rattle.amqp_fields.specs.declared.error.BaseError.TheVariants as errors
use Rattle.amqp_fields.specs.Fields.{◌>>=◌, Gives}
use Rattle.amqp_messages.specs.declared.kind.SectionKind.{SectionKind}
use Rattle.amqp_messages.specs.Kind.{is_descriptor}
use Rattle.amqp_messages.specs.Sections.{Takes, taken, sections}

-- a first section, and those of its kind behind it
abbrev pub more : {A : Type 0} → SectionKind → (Amqp → Option A) → Option Amqp × Items → Option (List A × Items)
more k reads (None, vs) = Some ([], vs)
more k reads (Some v, vs) = reads v >>= λ x. sections k reads vs >>= λ xs. Some (x ∷ xs.0, xs.1)

by_test : {A : Type 0} (k : SectionKind) (reads : Amqp → Option A) (d v : Amqp) (vs : Items) (b : Bool)
    → cond b (reads v >>= λ x. sections k reads vs >>= λ xs. Some (x ∷ xs.0, xs.1)) (Some ([], item (described d v) vs)) ≡ more k reads (cond b (Some v, vs) (None, item (described d v) vs))
by_test k reads d v vs true = refl
by_test k reads d v vs false = refl

pub sections_are : {A : Type 0} (k : SectionKind) (reads : Amqp → Option A) (vs : Items) → sections k reads vs ≡ more k reads (taken k vs)
unfolding sections
sections_are k reads no_items = refl
sections_are k reads (item (scalar s) vs) = refl
sections_are k reads (item (list ws) vs) = refl
sections_are k reads (item (dict ps) vs) = refl
sections_are k reads (item (array e ws) vs) = refl
sections_are k reads (item (described d v) vs) = by_test k reads d v vs (is_descriptor k d)

-- what was found before, and what is still found
abbrev pub with_front : {A : Type 0} → List A → Option (List A × Items) → Option (List A × Items)
with_front front read = read >>= λ x. Some (front ++ x.0, x.1)

regroup : {A : Type 0} (front : List A) (x : A) (read : Option (List A × Items)) → with_front front (read >>= λ xs. Some (x ∷ xs.0, xs.1)) ≡ with_front (front ++ x ∷ []) read
regroup front x (Some xs) = ap (λ (ys : List _). Some (ys, xs.1)) (sym (append_assoc front (x ∷ []) xs.0))
regroup front x None = refl

-- ---- one section more

next_is : {A : Type 0} (k : SectionKind) (reads : Amqp → Option A) (vs rest : Items) (v : Amqp) → Some v ≡ (taken k vs).0 → rest ≡ (taken k vs).1 → sections k reads vs ≡ more k reads (Some v, rest)
next_is k reads vs rest v e f = sections_are k reads vs ∙ λ i. more k reads (sym e i, sym f i)

pub goes_on : {A : Type 0} (k : SectionKind) (reads : Amqp → Option A) (front : List A) (vs rest : Items) (v : Amqp) (x : A) (total : Option (List A × Items)) → Some v ≡ (taken k vs).0 → rest ≡ (taken k vs).1 → reads v ≡ Some x
    → with_front front (sections k reads vs) ≡ total → with_front (front ++ x ∷ []) (sections k reads rest) ≡ total
goes_on k reads front vs rest v x total e f h so_far =
    let one : sections k reads vs ≡ (sections k reads rest >>= λ xs. Some (x ∷ xs.0, xs.1)) = next_is k reads vs rest v e f ∙ ap (λ (r : Option _). r >>= λ y. sections k reads rest >>= λ xs. Some (y ∷ xs.0, xs.1)) h in
    sym (regroup front x (sections k reads rest)) ∙ ap (with_front front) (sym one) ∙ so_far

pub fails : {A X : Type 0} (k : SectionKind) (reads : Amqp → Option A) (view' : X → List A) (front : List A) (vs rest : Items) (v : Amqp) (e : BaseError) (now : Items) (total : Option (List A × Items)) → Some v ≡ (taken k vs).0 → rest ≡ (taken k vs).1
    → Gives {X = A} (Err e) (reads v) → with_front front (sections k reads vs) ≡ total → Takes {X = X} view' (Err e) now total
fails k reads view' front vs rest v (errors.Memory a) now total e f h so_far = tt
fails k reads view' front vs rest v errors.Decode now total e f h so_far =
    sym so_far ∙ ap (with_front front) (next_is k reads vs rest v e f ∙ ap (λ (r : Option _). r >>= λ y. sections k reads rest >>= λ xs. Some (y ∷ xs.0, xs.1)) h)
fails k reads view' front vs rest v errors.Size now total e f h so_far = h

-- ---- no section more

pub is_done : {A : Type 0} (k : SectionKind) (reads : Amqp → Option A) (front : List A) (vs rest : Items) (total : Option (List A × Items)) → None ≡ (taken k vs).0 → rest ≡ (taken k vs).1 → with_front front (sections k reads vs) ≡ total → total ≡ Some (front, rest)
is_done k reads front vs rest total e f so_far =
    sym so_far ∙ ap (with_front front) (sections_are k reads vs ∙ λ i. more k reads (sym e i, sym f i)) ∙ ap (λ (xs : List _). Some (xs, rest)) (append-nil front)
