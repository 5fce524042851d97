-- The fields of a list without the nulls at the end.
use Rattle.std.proofs.Common.{◌≡◌, ℕ, ◌+◌, ◌-◌, ◌<◌, ◌≤◌, ◌^◌, List, [], ◌∷◌, length, get_or, take, drop, Option, Some, None, refl, sym, ap, subst, ◌∙◌, arith}
use Rattle.std.specs.Prelude.{IfSome, IfNone}
use Rattle.std.proofs.lemmas.List.{length-append, take_all}
use Rattle.amqp_data.specs.Data.{Amqp, Items, Scalar, null, boolean, ubyte, ushort, uint, ulong, byte, short, int, long, char, timestamp, uuid, binary, string, symbol, scalar, list, dict, array, described, no_items, item, depth}
use Rattle.amqp_value.specs.Canonical.{canonical_scalar, laid, canonical, canonical_items, IsSized}
use Rattle.amqp_fields.specs.Fields.{kept_before, trimmed, IsThere}
use Rattle.amqp_described.specs.Writing.{Fits}
use Rattle.amqp_sizes.specs.declared.slot.Slot.{Slot}
use Rattle.amqp_sizes.specs.declared.slot.Slot.TheVariants as slot
use Rattle.amqp_sizes.specs.declared.composite.Measure.{Measure}
use Rattle.amqp_sizes.specs.Taken.{HasSize, AreSlots, AllFit, HaveSize, TakeAll}

scalar_kept : (s : Scalar) (vs : Items) → IsThere (scalar s) → kept_before (scalar s) vs ≡ item (scalar s) vs
scalar_kept null vs h = absurd h
scalar_kept (boolean b) vs h = refl
scalar_kept (ubyte n) vs h = refl
scalar_kept (ushort n) vs h = refl
scalar_kept (uint n) vs h = refl
scalar_kept (ulong n) vs h = refl
scalar_kept (byte n) vs h = refl
scalar_kept (short n) vs h = refl
scalar_kept (int n) vs h = refl
scalar_kept (long n) vs h = refl
scalar_kept (char n) vs h = refl
scalar_kept (timestamp n) vs h = refl
scalar_kept (uuid u) vs h = refl
scalar_kept (binary s) vs h = refl
scalar_kept (string s) vs h = refl
scalar_kept (symbol s) vs h = refl

-- what is no null is kept
kept_is : (v : Amqp) (vs : Items) → IsThere v → kept_before v vs ≡ item v vs
kept_is (scalar s) vs h = scalar_kept s vs h
kept_is (list ws) vs h = refl
kept_is (dict ps) vs h = refl
kept_is (array k ws) vs h = refl
kept_is (described d w) vs h = refl

nested : (v : Amqp) → 1 ≤ depth v
nested (scalar s) = omega arith
nested (list vs) = omega arith
nested (dict ps) = omega arith
nested (array k vs) = omega arith
nested (described d v) = omega arith

-- ---- a value before others

added : (m z : Measure) (n levels : ℕ) (v : Amqp) (vs : Items) → HaveSize m levels vs → HasSize n levels v → z.count ≡ m.count + 1 → z.bytes ≡ m.bytes + n → 4 + z.bytes < 2 ^ 32 → HaveSize z levels (item v vs)
unfolding canonical IsSized
added m z n levels v vs h g more bytes lt = record {
  count = omega (arith, h.count, more);
  bytes = omega (arith, h.bytes, g.is, bytes, length-append (canonical v) (canonical_items vs));
  fit = record {
    sized = (g.fits.sized, h.fit.sized);
    short = omega (arith, h.bytes, g.is, bytes, lt, length-append (canonical v) (canonical_items vs));
    nests = omega (arith, g.fits.nests, h.fit.nests);
  };
}

too_long : (m : Measure) (n levels : ℕ) (v : Amqp) (vs : Items) → HaveSize m levels vs → HasSize n levels v → 2 ^ 32 ≤ 4 + (m.bytes + n) → AllFit levels (item v vs) → ⊥
unfolding canonical
too_long m n levels v vs h g le f = absurd (omega (arith, h.bytes, g.is, le, f.short, length-append (canonical v) (canonical_items vs)))

first_refused : (levels : ℕ) (v : Amqp) (vs : Items) → (Fits levels v → ⊥) → AllFit levels (item v vs) → ⊥
unfolding IsSized
first_refused levels v vs h f = h (record { sized = f.sized.0; nests = omega (arith, f.nests) })

others_fit : (levels : ℕ) (v : Amqp) (vs : Items) → AllFit levels (item v vs) → AllFit levels vs
unfolding canonical IsSized
others_fit levels v vs f = record {
  sized = f.sized.1;
  short = omega (arith, f.short, length-append (canonical v) (canonical_items vs));
  nests = omega (arith, f.nests);
}

-- ---- a null

pub null_size : (levels : ℕ) → 1 ≤ levels → HasSize 1 levels (scalar null)
unfolding canonical canonical_scalar laid IsSized
null_size levels le = record { is = refl; fits = record { sized = tt; nests = le } }

null_out : (m : Measure) (levels : ℕ) (vs : Items) → HaveSize m levels vs → m.count ≡ 0 → HaveSize m levels (kept_before (scalar null) vs)
null_out m levels no_items h e = h
null_out m levels (item w ws) h e = absurd (omega (arith, h.count, e))

null_in : (m z : Measure) (levels : ℕ) (vs : Items) → HaveSize m levels vs → (m.count ≡ 0 → ⊥) → z.count ≡ m.count + 1 → z.bytes ≡ m.bytes + 1 → 4 + z.bytes < 2 ^ 32 → HaveSize z levels (kept_before (scalar null) vs)
null_in m z levels no_items h ne more bytes lt = absurd (ne h.count)
null_in m z levels (item w ws) h ne more bytes lt = added m z 1 levels (scalar null) (item w ws) h (null_size levels (omega (arith, nested w, h.fit.nests))) more bytes lt

null_long : (m : Measure) (levels : ℕ) (vs : Items) → HaveSize m levels vs → (m.count ≡ 0 → ⊥) → 2 ^ 32 ≤ 4 + (m.bytes + 1) → AllFit levels (kept_before (scalar null) vs) → ⊥
null_long m levels no_items h ne le f = ne h.count
null_long m levels (item w ws) h ne le f = too_long m 1 levels (scalar null) (item w ws) h (null_size levels (omega (arith, nested w, h.fit.nests))) le f

null_fits : (levels : ℕ) (vs : Items) → AllFit levels (kept_before (scalar null) vs) → AllFit levels vs
null_fits levels no_items f = f
null_fits levels (item w ws) f = others_fit levels (scalar null) (item w ws) f

-- ---- slots

-- what is said of all fields that the slots stand for
abbrev pub Kept : List Slot → Option Measure → Type 0
Kept ss r = (levels : ℕ) (fs : List Amqp) → AreSlots ss levels fs → TakeAll r levels (trimmed fs)

-- the slots, by the first and the others
slots_are : (ss : List Slot) → 1 ≤ length ss → get_or ss 0 slot.Null ∷ take (length ss - 1) (drop 1 ss) ≡ ss
slots_are [] le = absurd (omega (arith, le))
slots_are (s ∷ ss) le = ap (λ (z : List Slot). s ∷ z) (take_all (length (s ∷ ss) - 1) ss (omega arith))

pub kept_of : (ss : List Slot) (s : Slot) (r : Option Measure) → 1 ≤ length ss → get_or ss 0 slot.Null ≡ s → Kept (s ∷ take (length ss - 1) (drop 1 ss)) r → Kept ss r
kept_of ss s r le e k = subst (λ (z : List Slot). Kept z r) (ap (λ (z : Slot). z ∷ take (length ss - 1) (drop 1 ss)) (sym e) ∙ slots_are ss le) k

pub kept_none : (ss : List Slot) (r : Option Measure) → length ss < 1 → Kept [] r → Kept ss r
kept_none [] r lt k = k
kept_none (s ∷ ss) r lt k = absurd (omega (arith, lt))

pub none_kept : (m : Measure) → m.count ≡ 0 → m.bytes ≡ 0 → Kept [] (Some m)
unfolding canonical IsSized
none_kept m c b levels [] h = record { count = c; bytes = b; fit = record { sized = tt; short = omega arith; nests = omega arith } }
none_kept m c b levels (v ∷ fs) h = absurd h

pub null_last : (ss : List Slot) (m : Measure) → Kept ss (Some m) → m.count ≡ 0 → Kept (slot.Null ∷ ss) (Some m)
null_last ss m k e levels [] h = absurd h
null_last ss m k e levels (v ∷ fs) h = subst (λ (z : Amqp). HaveSize m levels (kept_before z (trimmed fs))) (sym h.0) (null_out m levels (trimmed fs) (k levels fs h.1) e)

-- the measure with a value more of that size, unless that has no room
abbrev pub More : Option Measure → Measure → ℕ → Type 0
More (Some z) m n = (z.count ≡ m.count + 1) × (z.bytes ≡ m.bytes + n) × (4 + z.bytes < 2 ^ 32)
More None m n = 2 ^ 32 ≤ 4 + (m.bytes + n)

pub more_of : (r : Option Measure) (m : Measure) (n : ℕ) → IfSome r (λ z. (z.count ≡ m.count + 1) × (z.bytes ≡ m.bytes + n) × (4 + z.bytes < 2 ^ 32)) → IfNone r (2 ^ 32 ≤ 4 + (m.bytes + n)) → More r m n
more_of (Some z) m n some none = some
more_of None m n some none = none

pub null_before : (r : Option Measure) (ss : List Slot) (m : Measure) → Kept ss (Some m) → (m.count ≡ 0 → ⊥) → More r m 1 → Kept (slot.Null ∷ ss) r
null_before r ss m k ne more levels [] h = absurd h
null_before (Some z) ss m k ne more levels (v ∷ fs) h =
    subst (λ (x : Amqp). HaveSize z levels (kept_before x (trimmed fs))) (sym h.0) (null_in m z levels (trimmed fs) (k levels fs h.1) ne more.0 more.1 more.2)
null_before None ss m k ne more levels (v ∷ fs) h = λ f. null_long m levels (trimmed fs) (k levels fs h.1) ne more (subst (λ (x : Amqp). AllFit levels (kept_before x (trimmed fs))) h.0 f)

pub field_before : (r : Option Measure) (ss : List Slot) (m : Measure) (n : ℕ) → Kept ss (Some m) → More r m n → Kept (slot.Takes n ∷ ss) r
field_before r ss m n k more levels [] h = absurd h
field_before (Some z) ss m n k more levels (v ∷ fs) h =
    subst (λ (x : Items). HaveSize z levels x) (sym (kept_is v (trimmed fs) h.0.0)) (added m z n levels v (trimmed fs) (k levels fs h.1) h.0.1 more.0 more.1 more.2)
field_before None ss m n k more levels (v ∷ fs) h = λ f. too_long m n levels v (trimmed fs) (k levels fs h.1) h.0.1 more (subst (λ (x : Items). AllFit levels x) (kept_is v (trimmed fs) h.0.0) f)

pub refused_before : (ss : List Slot) → Kept (slot.Refused ∷ ss) None
refused_before ss levels [] h = absurd h
refused_before ss levels (v ∷ fs) h = λ f. first_refused levels v (trimmed fs) h.0.1 (subst (λ (x : Items). AllFit levels x) (kept_is v (trimmed fs) h.0.0) f)

there_fits : (levels : ℕ) (v : Amqp) (vs : Items) → IsThere v → AllFit levels (kept_before v vs) → AllFit levels vs
there_fits levels v vs h f = others_fit levels v vs (subst (λ (x : Items). AllFit levels x) (kept_is v vs h) f)

pub others_refused : (s : Slot) (ss : List Slot) → Kept ss None → Kept (s ∷ ss) None
others_refused s ss k levels [] h = absurd h
others_refused slot.Null ss k levels (v ∷ fs) h = λ f. k levels fs h.1 (null_fits levels (trimmed fs) (subst (λ (x : Amqp). AllFit levels (kept_before x (trimmed fs))) h.0 f))
others_refused (slot.Takes n) ss k levels (v ∷ fs) h = λ f. k levels fs h.1 (there_fits levels v (trimmed fs) h.0.0 f)
others_refused slot.Refused ss k levels (v ∷ fs) h = λ f. k levels fs h.1 (there_fits levels v (trimmed fs) h.0.0 f)
