-- Sections added one after another.
use Rattle.std.proofs.Common.{◌≡◌, ℕ, zero, suc, ◌+◌, ◌<◌, ◌≤◌, List, ◌++◌, ◌∷◌, [], length, get_or, drop, refl, sym, ap, subst, ◌∙◌, append_assoc, append-nil, arith}
use Rattle.std.specs.Prelude.{Option, Some, None, Result, Ok, Err}
use Rattle.std.proofs.Math.Seq.{drop-cons}
use Rattle.amqp_data.specs.Data.{Amqp, Items, no_items, item}
use Rattle.amqp_value.specs.Grammar.{SpellAll, no_values, more_values}
use Rattle.amqp_value.specs.Canonical.{canonical, canonical_items, IsSized}
use Rattle.amqp_fields.specs.declared.error.BaseError.{BaseError}
use Rattle.amqp_fields.specs.declared.error.BaseError.TheVariants as errors
use Rattle.amqp_described.specs.Writing.{numbered, Fits, Added, Adds}
use Rattle.amqp_messages.specs.declared.kind.SectionKind.{SectionKind}
use Rattle.amqp_messages.specs.declared.message.Message.{Message}
use Rattle.amqp_messages.specs.Kind.{number_of}
use Rattle.amqp_messages.specs.Message.{Said}
use Rattle.amqp_messages.specs.Reading.{message_in, SpellsMessage}
use Rattle.amqp_messages.specs.Writing.{◌&◌, present, each, message_items, AllFit, AllAdded, AddsAll, Encodes}

-- ---- one value

all_fit : (v : Amqp) → Fits 33 v → AllFit (item v no_items)
unfolding IsSized
all_fit v f = record { sized = (f.sized, tt); nests = omega (arith, f.nests) }

one_fits : (v : Amqp) (vs : Items) → AllFit (item v vs) → Fits 33 v
unfolding IsSized
one_fits v vs f = record { sized = f.sized.0; nests = omega (arith, f.nests) }

added_one : (old new : List ℕ) (v : Amqp) → Added old new v → AllAdded old new (item v no_items)
unfolding canonical
added_one old new v a = record {
  bytes = a.bytes ∙ ap (λ (z : List ℕ). old ++ z) (sym (append-nil (canonical v)));
  spelled = more_values v no_items (canonical v) [] a.spelled no_values;
}

pub one : (r : Result (Unit {0}) BaseError) (old new : List ℕ) (v : Amqp) → Adds r old new v 33 → AddsAll r old new (item v no_items)
one (Ok x) old new v h = (added_one old new v h.0, all_fit v h.1)
one (Err (errors.Memory a)) old new v h = tt
one (Err errors.Size) old new v h = λ f. h (one_fits v no_items f)
one (Err errors.Decode) old new v h = h

none_added : (old : List ℕ) → AllAdded old old no_items
unfolding canonical
none_added old = record { bytes = sym (append-nil old); spelled = no_values }

none_fit : AllFit no_items
unfolding IsSized
none_fit = record { sized = tt; nests = omega arith }

pub none : (old : List ℕ) → AddsAll (Ok tt) old old no_items
none old = (none_added old, none_fit)

-- ---- some before others

front_fits : (vs ws : Items) → AllFit (vs & ws) → AllFit vs
unfolding IsSized
front_fits no_items ws f = none_fit
front_fits (item v vs) ws f =
    let g = front_fits vs ws (record { sized = f.sized.1; nests = omega (arith, f.nests) }) in
    record { sized = (f.sized.0, g.sized); nests = omega (arith, f.nests, g.nests) }

back_fits : (vs ws : Items) → AllFit (vs & ws) → AllFit ws
unfolding IsSized
back_fits no_items ws f = f
back_fits (item v vs) ws f = back_fits vs ws (record { sized = f.sized.1; nests = omega (arith, f.nests) })

both_fit : (vs ws : Items) → AllFit vs → AllFit ws → AllFit (vs & ws)
unfolding IsSized
both_fit no_items ws f g = g
both_fit (item v vs) ws f g =
    let h = both_fit vs ws (record { sized = f.sized.1; nests = omega (arith, f.nests) }) g in
    record { sized = (f.sized.0, h.sized); nests = omega (arith, f.nests, h.nests) }

canonical_joined : (vs ws : Items) → canonical_items (vs & ws) ≡ canonical_items vs ++ canonical_items ws
unfolding canonical
canonical_joined no_items ws = refl
canonical_joined (item v vs) ws = ap (λ (z : List ℕ). canonical v ++ z) (canonical_joined vs ws) ∙ sym (append_assoc (canonical v) (canonical_items vs) (canonical_items ws))

spelled_joined : {text : List ℕ} {vs : Items} (rest : List ℕ) (ws : Items) → SpellAll text vs → SpellAll rest ws → SpellAll (text ++ rest) (vs & ws)
spelled_joined rest ws no_values t = t
spelled_joined rest ws (more_values v vs a b s all) t = subst (λ (z : List ℕ). SpellAll z (item v (vs & ws))) (sym (append_assoc a b rest)) (more_values v (vs & ws) a (b ++ rest) s (spelled_joined rest ws all t))

both_added : (old mid new : List ℕ) (vs ws : Items) → AllAdded old mid vs → AllAdded mid new ws → AllAdded old new (vs & ws)
both_added old mid new vs ws a b = record {
  bytes = b.bytes ∙ ap (λ (z : List ℕ). z ++ canonical_items ws) a.bytes ∙ append_assoc old (canonical_items vs) (canonical_items ws) ∙ ap (λ (z : List ℕ). old ++ z) (sym (canonical_joined vs ws));
  spelled = subst (λ (z : List ℕ). SpellAll z (vs & ws)) (sym (canonical_joined vs ws)) (spelled_joined (canonical_items ws) ws a.spelled b.spelled);
}

-- the others follow
pub follow : (r : Result (Unit {0}) BaseError) (old mid new : List ℕ) (vs ws : Items) → AllAdded old mid vs × AllFit vs → AddsAll r mid new ws → AddsAll r old new (vs & ws)
follow (Ok x) old mid new vs ws a b = (both_added old mid new vs ws a.0 b.0, both_fit vs ws a.1 b.1)
follow (Err (errors.Memory a)) old mid new vs ws h b = tt
follow (Err errors.Size) old mid new vs ws h b = λ f. b (back_fits vs ws f)
follow (Err errors.Decode) old mid new vs ws h b = b

-- the others do not follow
pub stop : (e : BaseError) (old mid new : List ℕ) (vs ws : Items) → AddsAll (Err e) old mid vs → AddsAll (Err e) old new (vs & ws)
stop (errors.Memory a) old mid new vs ws h = tt
stop errors.Size old mid new vs ws h = λ f. h (front_fits vs ws f)
stop errors.Decode old mid new vs ws h = h

-- ---- a section for each

-- out and the rest are all behind old
pub record Going (old out : List ℕ) (rest all : Items) : Type 0 where
  pub goes : (new : List ℕ) → AllAdded out new rest × AllFit rest → AllAdded old new all × AllFit all
  pub fits : AllFit all → AllFit rest

pub starts : (old : List ℕ) (all : Items) → Going old old all all
starts old all = record { goes = λ new a. a; fits = λ f. f }

next_added : (out mid new : List ℕ) (v : Amqp) (rest : Items) → Added out mid v → Fits 33 v → AllAdded mid new rest × AllFit rest → AllAdded out new (item v rest) × AllFit (item v rest)
next_added out mid new v rest a f b = (both_added out mid new (item v no_items) rest (added_one out mid v a) b.0, both_fit (item v no_items) rest (all_fit v f) b.1)

next : (old out mid : List ℕ) (v : Amqp) (rest all : Items) → Going old out (item v rest) all → Added out mid v → Fits 33 v → Going old mid rest all
unfolding IsSized
next old out mid v rest all g a f = record {
  goes = λ new b. g.goes new (next_added out mid new v rest a f b);
  fits = λ h. let k = g.fits h in record { sized = k.sized.1; nests = omega (arith, k.nests) };
}

pub each_drop : {A : Type 0} (k : SectionKind) (writes : A → Amqp) (xs : List A) (i : ℕ) (x : A) → i < length xs → x ≡ get_or xs i x → each k writes (drop i xs) ≡ item (numbered (number_of k) (writes x)) (each k writes (drop (i + 1) xs))
each_drop k writes xs i x lt is =
    let after : suc i ≡ i + 1 = omega arith in
    ap (each k writes) (drop-cons xs i x lt) ∙ λ j. item (numbered (number_of k) (writes (sym is j))) (each k writes (drop (after j) xs))

pub each_goes_on : {A : Type 0} (k : SectionKind) (writes : A → Amqp) (old out mid : List ℕ) (xs : List A) (i : ℕ) (x : A) (n : ℕ) → n ≡ number_of k → i < length xs → x ≡ get_or xs i x → Going old out (each k writes (drop i xs)) (each k writes xs)
    → Added out mid (numbered n (writes x)) × Fits 33 (numbered n (writes x)) → Going old mid (each k writes (drop (i + 1) xs)) (each k writes xs)
each_goes_on k writes old out mid xs i x n is_number lt is g h =
    let v = numbered (number_of k) (writes x) in
    let step : Added out mid v × Fits 33 v = subst (λ (m : ℕ). Added out mid (numbered m (writes x)) × Fits 33 (numbered m (writes x))) is_number h in
    next old out mid v (each k writes (drop (i + 1) xs)) (each k writes xs) (subst (λ (z : Items). Going old out z (each k writes xs)) (each_drop k writes xs i x lt is) g) step.0 step.1

pub each_stops : {A : Type 0} (k : SectionKind) (writes : A → Amqp) (e : BaseError) (old out mid new : List ℕ) (xs : List A) (i : ℕ) (x : A) (n : ℕ) → n ≡ number_of k → i < length xs → x ≡ get_or xs i x → Going old out (each k writes (drop i xs)) (each k writes xs)
    → Adds (Err e) out mid (numbered n (writes x)) 33 → AddsAll (Err e) old new (each k writes xs)
each_stops k writes (errors.Memory a) old out mid new xs i x n is_number lt is g h = tt
each_stops k writes errors.Size old out mid new xs i x n is_number lt is g h =
    λ f. h (subst (λ (m : ℕ). Fits 33 (numbered m (writes x))) (sym is_number) (one_fits (numbered (number_of k) (writes x)) (each k writes (drop (i + 1) xs)) (subst AllFit (each_drop k writes xs i x lt is) (g.fits f))))
each_stops k writes errors.Decode old out mid new xs i x n is_number lt is g h = h

none_left : {A : Type 0} (xs : List A) (i : ℕ) → length xs ≤ i → drop i xs ≡ []
none_left [] zero le = refl
none_left [] (suc i) le = refl
none_left (x ∷ xs) zero le = absurd (omega (arith, le))
none_left (x ∷ xs) (suc i) le = none_left xs i (omega (arith, le))

pub each_done : {A : Type 0} (k : SectionKind) (writes : A → Amqp) (old out : List ℕ) (xs : List A) (i : ℕ) → length xs ≤ i → Going old out (each k writes (drop i xs)) (each k writes xs) → AllAdded old out (each k writes xs) × AllFit (each k writes xs)
each_done k writes old out xs i le g = g.goes out (subst (λ (z : Items). AllAdded out out z × AllFit z) (sym (ap (each k writes) (none_left xs i le))) (none out))

-- ---- a section at a place

pub one_section : {A : Type 0} (k : SectionKind) (writes : A → Amqp) (x : A) (n : ℕ) (r : Result (Unit {0}) BaseError) (old new : List ℕ) → n ≡ number_of k → Adds r old new (numbered n (writes x)) 33 → AddsAll r old new (item (numbered (number_of k) (writes x)) no_items)
one_section k writes x n r old new is h = subst (λ (m : ℕ). AddsAll r old new (item (numbered m (writes x)) no_items)) is (one r old new (numbered n (writes x)) h)

pub present_none : {A : Type 0} (k : SectionKind) (writes : A → Amqp) (o : Option A) (old : List ℕ) → o ≡ None → AddsAll (Ok tt) old old (present k writes o)
present_none k writes o old is = subst (λ (z : Option _). AddsAll (Ok tt) old old (present k writes z)) (sym is) (none old)

pub present_some : {A : Type 0} (k : SectionKind) (writes : A → Amqp) (o : Option A) (x : A) (n : ℕ) (r : Result (Unit {0}) BaseError) (old new : List ℕ) → o ≡ Some x → n ≡ number_of k → Adds r old new (numbered n (writes x)) 33 → AddsAll r old new (present k writes o)
present_some k writes o x n r old new is is_number h = subst (λ (z : Option _). AddsAll r old new (present k writes z)) (sym is) (one_section k writes x n r old new is_number h)

-- ---- the whole

pub encoded : (old new : List ℕ) (vs : Items) → old ≡ [] → AllAdded old new vs × AllFit vs → Encodes (Ok new) vs
encoded old new vs e h = (h.0.bytes ∙ ap (λ (z : List ℕ). z ++ canonical_items vs) e, h.1)

pub not_encoded : (e : BaseError) (old new : List ℕ) (vs : Items) → AddsAll (Err e) old new vs → Encodes (Err e) vs
not_encoded (errors.Memory a) old new vs h = tt
not_encoded errors.Size old new vs h = h
not_encoded errors.Decode old new vs h = h

pub whole_spelled : (old new : List ℕ) (m : Message Said) → old ≡ [] → AllAdded old new (message_items m) × AllFit (message_items m) → message_in (message_items m) ≡ Some m → SpellsMessage new m
whole_spelled old new m e h again =
    let e' = encoded old new (message_items m) e h in
    record { values = message_items m; fill = record { spelled = subst (λ (z : List ℕ). SpellAll z (message_items m)) (sym e'.0) h.0.spelled; nests = h.1.nests }; says = again }
