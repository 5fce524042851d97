-- The length of a value from those of its parts.
use Rattle.std.proofs.Common.{◌≡◌, ℕ, suc, ◌+◌, ◌*◌, ◌<◌, ◌≤◌, ◌^◌, max, List, [], ◌∷◌, ◌++◌, length, get_or, drop, Bool, true, false, Option, Some, None, inl, inr, refl, sym, ap, subst, ◌∙◌, arith}
use Rattle.std.specs.Prelude.{SomeIff}
use Rattle.std.proofs.Math.Nat.{pow-le-pow_right}
use Rattle.std.proofs.lemmas.Bool.{cases_lt}
use Rattle.std.proofs.lemmas.Grind.{pow_more}
use Rattle.std.proofs.lemmas.List.{length-append}
use Rattle.amqp_data.specs.declared.kind.ElementKind.{ElementKind}
use Rattle.amqp_data.specs.declared.value.Value.{Value}
use Rattle.amqp_data.specs.declared.value.Entry.{Entry}
use Rattle.amqp_data.specs.Data.{Scalar, null, boolean, ubyte, ushort, byte, short, char, timestamp, uuid, binary, string, symbol, Amqp, Items, Pairs, scalar, list, dict, array, described, no_items, item, no_pairs, pair, count, pair_count, depth, items_depth, pairs_depth}
use Rattle.amqp_data.specs.View.{view, items_view, pairs_view}
use Rattle.amqp_value.specs.declared.code.SizeWidth.TheVariants.{Four}
use Rattle.amqp_value.specs.Code.{list_number, map_number, array_number}
use Rattle.amqp_value.specs.Canonical.{width_of, laid, canonical_scalar, array_items, element_code, canonical, canonical_items, canonical_pairs, IsScalarSized, IsSized, AreSized, ArePairsSized}
use Rattle.amqp_value.specs.Writing.{octet_count, compound_length, MeasuresBlock, IsLength, Measures, AreLength, MeasuresAll, IsEntryLength, MeasuresEntry, ArePairsLength, MeasuresPairs, AreElementsLength, MeasuresElements}
use Rattle.amqp_value.proofs.Rest.{rest_items, no_rest, rest_pairs, no_rest_pairs, count_view, count_entries}
use Rattle.amqp_value.proofs.Lengths.{length-block, length-content, length-compound, octets_small, compound_near}

-- ---- powers

deeper : (m n : ℕ) → m ≤ n → 2 ^ (32 + m) ≤ 2 ^ (32 + n)
deeper m n le = pow-le-pow_right {n = 2} (omega arith) {i = 32 + m} {j = 32 + n} (omega arith)

twice : (n : ℕ) → 2 ^ (32 + suc n) ≡ 2 ^ (32 + n) * 2
twice n = ap (λ (z : ℕ). 2 ^ z) (omega arith) ∙ pow_more 2 (32 + n)

above : (n : ℕ) → 2 ^ 33 ≤ 2 ^ (32 + suc n)
above n = deeper 1 (suc n) (omega arith)

-- ---- scalars

pub scalar_is : (n : ℕ) (s : Scalar) → n ≡ length (canonical_scalar s) → IsScalarSized s → n < 2 ^ 33 → IsLength n (scalar s)
unfolding canonical IsSized
scalar_is n s e h lt = record { is = e; sized = h; below = lt }

pub null_is : IsLength 1 (scalar null)
unfolding canonical canonical_scalar laid IsSized
null_is = record { is = refl; sized = tt; below = omega arith }

pub boolean_is : (b : Bool) → IsLength 1 (scalar (boolean b))
unfolding canonical canonical_scalar laid IsSized
boolean_is true = record { is = refl; sized = tt; below = omega arith }
boolean_is false = record { is = refl; sized = tt; below = omega arith }

pub ubyte_is : (n : ℕ) → IsLength 2 (scalar (ubyte n))
unfolding canonical canonical_scalar laid IsSized
ubyte_is n = record { is = refl; sized = tt; below = omega arith }

pub byte_is : (n : _) → IsLength 2 (scalar (byte n))
unfolding canonical canonical_scalar laid IsSized
byte_is n = record { is = refl; sized = tt; below = omega arith }

pub ushort_is : (n : ℕ) → IsLength 3 (scalar (ushort n))
unfolding canonical canonical_scalar laid IsSized
ushort_is n = record { is = refl; sized = tt; below = omega arith }

pub short_is : (n : _) → IsLength 3 (scalar (short n))
unfolding canonical canonical_scalar laid IsSized
short_is n = record { is = refl; sized = tt; below = omega arith }

pub char_is : (n : ℕ) → IsLength 5 (scalar (char n))
unfolding canonical canonical_scalar laid IsSized
char_is n = record { is = refl; sized = tt; below = omega arith }

pub timestamp_is : (n : _) → IsLength 9 (scalar (timestamp n))
unfolding canonical canonical_scalar laid IsSized
timestamp_is n = record { is = refl; sized = tt; below = omega arith }

pub uuid_is : (n : ℕ) (u : List ℕ) → n ≡ length u → length u ≡ 16 → IsLength (n + 1) (scalar (uuid u))
unfolding canonical canonical_scalar laid IsSized
uuid_is n u e h = record { is = omega (arith, e); sized = tt; below = omega (arith, e, h) }

block_below : (s : List ℕ) (n : ℕ) → n ≡ suc (octet_count (width_of s) + length s) → length s < 2 ^ 32 → n < 2 ^ 33
block_below s n e lt = omega (arith, octets_small (width_of s))

pub binary_measured : (r : Option ℕ) (s : List ℕ) → MeasuresBlock r s → Measures r (scalar (binary s))
unfolding canonical canonical_scalar laid IsSized
binary_measured (Some n) s h = record { is = h.0 ∙ ap suc (sym (length-block (width_of s) s)); sized = h.1; below = block_below s n h.0 h.1 }
binary_measured None s h = λ z. absurd (h z)

pub string_measured : (r : Option ℕ) (s : List ℕ) → MeasuresBlock r s → Measures r (scalar (string s))
unfolding canonical canonical_scalar laid IsSized
string_measured (Some n) s h = record { is = h.0 ∙ ap suc (sym (length-block (width_of s) s)); sized = h.1; below = block_below s n h.0 h.1 }
string_measured None s h = λ z. absurd (h z)

pub symbol_measured : (r : Option ℕ) (s : List ℕ) → MeasuresBlock r s → Measures r (scalar (symbol s))
unfolding canonical canonical_scalar laid IsSized
symbol_measured (Some n) s h = record { is = h.0 ∙ ap suc (sym (length-block (width_of s) s)); sized = h.1; below = block_below s n h.0 h.1 }
symbol_measured None s h = λ z. absurd (h z)

-- ---- described values

pub described_is : (d v : Amqp) (a b n : ℕ) → IsLength a d → IsLength b v → n ≡ a + b + 1 → IsLength n (described d v)
unfolding canonical IsSized
described_is d v a b n h g e = record {
  is = omega (arith, h.is, g.is, e, length-append (canonical d) (canonical v));
  sized = (h.sized, g.sized);
  below = omega (arith, e, h.below, g.below, deeper (depth d) (max (depth d) (depth v)) (omega arith), deeper (depth v) (max (depth d) (depth v)) (omega arith), twice (max (depth d) (depth v)));
}

pub first_unmeasured : (d v : Amqp) → Measures None d → Measures None (described d v)
unfolding IsSized
first_unmeasured d v h = λ s. omega (arith, h s.0)

pub second_unmeasured : (d v : Amqp) → Measures None v → Measures None (described d v)
unfolding IsSized
second_unmeasured d v h = λ s. omega (arith, h s.1)

shallow : (n d : ℕ) → n < 2 ^ (32 + d) → d ≤ 31 → n < 2 ^ 63
shallow n d lt le = omega (arith, lt, deeper d 31 le)

pub sum_unmeasured : (d v : Amqp) (a b : ℕ) → IsLength a d → IsLength b v → 2 ^ 64 ≤ a + b + 1 → Measures None (described d v)
sum_unmeasured d v a b h g le = λ s.
    elim (cases_lt 31 (max (depth d) (depth v))) [
      | inl lt ↦ omega arith
      | inr few ↦ absurd (omega (arith, shallow a (depth d) h.below (omega arith), shallow b (depth v) g.below (omega arith), le))
    ]

-- ---- lists

compound_below : (n size count d : ℕ) → n ≡ compound_length count size → 4 + size < 2 ^ 32 → n < 2 ^ (32 + suc d)
compound_below n size count d e lt = omega (arith, e, lt, compound_near count size, above d)

pub list_is : (n size : ℕ) (v : Amqp) (vs : Items) → AreLength size (item v vs) → n ≡ compound_length (count (item v vs)) size → IsLength n (list (item v vs))
unfolding canonical IsSized
list_is n size v vs h e = record {
  is = e ∙ ap (compound_length (count (item v vs))) h.is ∙ sym (length-compound list_number (count (item v vs)) (canonical_items (item v vs)));
  sized = (h.sized, omega (arith, h.is, h.below, length-content Four (count (item v vs)) (canonical_items (item v vs))));
  below = compound_below n size (count (item v vs)) (items_depth (item v vs)) e h.below;
}

empty_is : IsLength 1 (list no_items)
unfolding canonical IsSized
empty_is = record { is = refl; sized = (tt, omega arith); below = omega arith }

pub values_empty : (xs : List Value) → length xs ≡ 0 → IsLength 1 (list (items_view xs))
values_empty [] e = empty_is
values_empty (x ∷ xs) e = absurd (omega (arith, e))

pub values_are : (n size : ℕ) (xs : List Value) → (length xs ≡ 0 → ⊥) → AreLength size (items_view xs) → n ≡ compound_length (length xs) size → IsLength n (list (items_view xs))
values_are n size [] ne h e = absurd (ne refl)
values_are n size (x ∷ xs) ne h e = list_is n size (view x) (items_view xs) h (e ∙ ap (λ (z : ℕ). compound_length (suc z) size) (sym (count_view xs)))

pub list_unmeasured : (vs : Items) → MeasuresAll None vs → Measures None (list vs)
unfolding IsSized
list_unmeasured vs h = λ s. omega (arith, h s.0 (omega (arith, s.1, length-content Four (count vs) (canonical_items vs))))

-- total is the length of all items but the rest
pub record SizingItems (total : ℕ) (rest all : Items) : Type 0 where
  pub is : total + length (canonical_items rest) ≡ length (canonical_items all)
  pub sized : AreSized rest → AreSized all
  pub parts : AreSized all → AreSized rest
  pub shallow : items_depth rest ≤ items_depth all
  pub below : 4 + total < 2 ^ 32

next_item_sized : (total n : ℕ) (v : Amqp) (rest all : Items) → SizingItems total (item v rest) all → IsLength n v → 4 + (total + n) < 2 ^ 32 → SizingItems (total + n) rest all
unfolding canonical IsSized
next_item_sized total n v rest all h g lt = record {
  is = omega (arith, h.is, g.is, length-append (canonical v) (canonical_items rest));
  sized = λ z. h.sized (g.sized, z);
  parts = λ z. (h.parts z).1;
  shallow = omega (arith, h.shallow);
  below = lt;
}

pub items_go : (total n : ℕ) (xs : List Value) (i : ℕ) (x : Value) → i < length xs → x ≡ get_or xs i x → SizingItems total (items_view (drop i xs)) (items_view xs) → IsLength n (view x) → 4 + (total + n) < 2 ^ 32
    → SizingItems (total + n) (items_view (drop (i + 1) xs)) (items_view xs)
items_go total n xs i x lt is h g below =
    next_item_sized total n (view x) (items_view (drop (i + 1) xs)) (items_view xs) (subst (λ (z : Items). SizingItems total z (items_view xs)) (rest_items xs i x lt is) h) g below

no_item_sized : (total : ℕ) (v : Amqp) (rest all : Items) → SizingItems total (item v rest) all → Measures None v → MeasuresAll None all
unfolding IsSized
no_item_sized total v rest all h g = λ z b. omega (arith, g (h.parts z).0, h.shallow)

pub item_stops : (total : ℕ) (xs : List Value) (i : ℕ) (x : Value) → i < length xs → x ≡ get_or xs i x → SizingItems total (items_view (drop i xs)) (items_view xs) → Measures None (view x) → MeasuresAll None (items_view xs)
item_stops total xs i x lt is h g =
    no_item_sized total (view x) (items_view (drop (i + 1) xs)) (items_view xs) (subst (λ (z : Items). SizingItems total z (items_view xs)) (rest_items xs i x lt is) h) g

item_too_long : (total n : ℕ) (v : Amqp) (rest all : Items) → SizingItems total (item v rest) all → IsLength n v → 2 ^ 32 ≤ 4 + (total + n) → MeasuresAll None all
unfolding canonical
item_too_long total n v rest all h g le = λ z b. absurd (omega (arith, h.is, g.is, length-append (canonical v) (canonical_items rest), le, b))

pub items_too_long : (total n : ℕ) (xs : List Value) (i : ℕ) (x : Value) → i < length xs → x ≡ get_or xs i x → SizingItems total (items_view (drop i xs)) (items_view xs) → IsLength n (view x) → 2 ^ 32 ≤ 4 + (total + n) → MeasuresAll None (items_view xs)
items_too_long total n xs i x lt is h g le =
    item_too_long total n (view x) (items_view (drop (i + 1) xs)) (items_view xs) (subst (λ (z : Items). SizingItems total z (items_view xs)) (rest_items xs i x lt is) h) g le

pub items_end : (total : ℕ) (xs : List Value) (i : ℕ) → length xs ≤ i → SizingItems total (items_view (drop i xs)) (items_view xs) → AreLength total (items_view xs)
unfolding canonical IsSized
items_end total xs i le h =
    let g : SizingItems total no_items (items_view xs) = subst (λ (z : Items). SizingItems total z (items_view xs)) (no_rest xs i le) h in
    record { is = omega (arith, g.is); sized = g.sized tt; below = g.below }

-- ---- maps

pub map_is : (n size : ℕ) (ps : Pairs) → ArePairsLength size ps → n ≡ compound_length (2 * pair_count ps) size → IsLength n (dict ps)
unfolding canonical IsSized
map_is n size ps h e = record {
  is = e ∙ ap (compound_length (2 * pair_count ps)) h.is ∙ sym (length-compound map_number (2 * pair_count ps) (canonical_pairs ps));
  sized = (h.sized, omega (arith, h.is, h.below, length-content Four (2 * pair_count ps) (canonical_pairs ps)));
  below = compound_below n size (2 * pair_count ps) (pairs_depth ps) e h.below;
}

pub entries_are : (n size : ℕ) (es : List Entry) → ArePairsLength size (pairs_view es) → n ≡ compound_length (2 * length es) size → IsLength n (dict (pairs_view es))
entries_are n size es h e = map_is n size (pairs_view es) h (e ∙ ap (λ (z : ℕ). compound_length (2 * z) size) (sym (count_entries es)))

pub map_unmeasured : (ps : Pairs) → MeasuresPairs None ps → Measures None (dict ps)
unfolding IsSized
map_unmeasured ps h = λ s. omega (arith, h s.0 (omega (arith, s.1, length-content Four (2 * pair_count ps) (canonical_pairs ps))))

-- total is the length of all keys and values but the rest
pub record SizingPairs (total : ℕ) (rest all : Pairs) : Type 0 where
  pub is : total + length (canonical_pairs rest) ≡ length (canonical_pairs all)
  pub sized : ArePairsSized rest → ArePairsSized all
  pub parts : ArePairsSized all → ArePairsSized rest
  pub shallow : pairs_depth rest ≤ pairs_depth all
  pub below : 4 + total < 2 ^ 32

next_pair_sized : (total n : ℕ) (x y : Amqp) (rest all : Pairs) → SizingPairs total (pair x y rest) all → IsEntryLength n x y → 4 + (total + n) < 2 ^ 32 → SizingPairs (total + n) rest all
unfolding canonical IsSized
next_pair_sized total n x y rest all h g lt = record {
  is = omega (arith, h.is, g.is, length-append (canonical x) (canonical y ++ canonical_pairs rest), length-append (canonical y) (canonical_pairs rest));
  sized = λ z. h.sized (g.key, g.value, z);
  parts = λ z. (h.parts z).2;
  shallow = omega (arith, h.shallow);
  below = lt;
}

pub pairs_go : (total n : ℕ) (es : List Entry) (i : ℕ) (e : Entry) → i < length es → e ≡ get_or es i e → SizingPairs total (pairs_view (drop i es)) (pairs_view es) → IsEntryLength n (view e.key) (view e.value) → 4 + (total + n) < 2 ^ 32
    → SizingPairs (total + n) (pairs_view (drop (i + 1) es)) (pairs_view es)
pairs_go total n es i e lt is h g below =
    next_pair_sized total n (view e.key) (view e.value) (pairs_view (drop (i + 1) es)) (pairs_view es) (subst (λ (z : Pairs). SizingPairs total z (pairs_view es)) (rest_pairs es i e lt is) h) g below

no_pair_sized : (total : ℕ) (x y : Amqp) (rest all : Pairs) → SizingPairs total (pair x y rest) all → MeasuresEntry None x y → MeasuresPairs None all
unfolding canonical IsSized
no_pair_sized total x y rest all h g = λ z b.
    omega (arith, g (h.parts z).0 (h.parts z).1 (omega (arith, h.is, b, length-append (canonical x) (canonical y ++ canonical_pairs rest), length-append (canonical y) (canonical_pairs rest))), h.shallow)

pub pair_stops : (total : ℕ) (es : List Entry) (i : ℕ) (e : Entry) → i < length es → e ≡ get_or es i e → SizingPairs total (pairs_view (drop i es)) (pairs_view es) → MeasuresEntry None (view e.key) (view e.value) → MeasuresPairs None (pairs_view es)
pair_stops total es i e lt is h g =
    no_pair_sized total (view e.key) (view e.value) (pairs_view (drop (i + 1) es)) (pairs_view es) (subst (λ (z : Pairs). SizingPairs total z (pairs_view es)) (rest_pairs es i e lt is) h) g

pair_too_long : (total n : ℕ) (x y : Amqp) (rest all : Pairs) → SizingPairs total (pair x y rest) all → IsEntryLength n x y → 2 ^ 32 ≤ 4 + (total + n) → MeasuresPairs None all
unfolding canonical
pair_too_long total n x y rest all h g le =
    λ z b. absurd (omega (arith, h.is, g.is, length-append (canonical x) (canonical y ++ canonical_pairs rest), length-append (canonical y) (canonical_pairs rest), le, b))

pub pairs_too_long : (total n : ℕ) (es : List Entry) (i : ℕ) (e : Entry) → i < length es → e ≡ get_or es i e → SizingPairs total (pairs_view (drop i es)) (pairs_view es) → IsEntryLength n (view e.key) (view e.value) → 2 ^ 32 ≤ 4 + (total + n) → MeasuresPairs None (pairs_view es)
pairs_too_long total n es i e lt is h g le =
    pair_too_long total n (view e.key) (view e.value) (pairs_view (drop (i + 1) es)) (pairs_view es) (subst (λ (z : Pairs). SizingPairs total z (pairs_view es)) (rest_pairs es i e lt is) h) g le

pub pairs_end : (total : ℕ) (es : List Entry) (i : ℕ) → length es ≤ i → SizingPairs total (pairs_view (drop i es)) (pairs_view es) → ArePairsLength total (pairs_view es)
unfolding canonical IsSized
pairs_end total es i le h =
    let g : SizingPairs total no_pairs (pairs_view es) = subst (λ (z : Pairs). SizingPairs total z (pairs_view es)) (no_rest_pairs es i le) h in
    record { is = omega (arith, g.is); sized = g.sized tt; below = g.below }

-- ---- arrays

pub array_is : (n size : ℕ) (e : ElementKind) (vs : Items) → AreElementsLength (element_code e vs) size vs → n ≡ compound_length (count vs) size → IsLength n (array e vs)
unfolding canonical IsSized
array_is n size e vs h f = record {
  is = f ∙ ap (compound_length (count vs)) h.is ∙ sym (length-compound array_number (count vs) (array_items e vs));
  sized = (h.sized, omega (arith, h.is, h.below, length-content Four (count vs) (array_items e vs)));
  below = compound_below n size (count vs) (items_depth vs) f h.below;
}

pub elements_are : (n size : ℕ) (e : ElementKind) (xs : List Value) → AreElementsLength (element_code e (items_view xs)) size (items_view xs) → n ≡ compound_length (length xs) size → IsLength n (array e (items_view xs))
elements_are n size e xs h f = array_is n size e (items_view xs) h (f ∙ ap (λ (z : ℕ). compound_length z size) (sym (count_view xs)))

pub array_unmeasured : (e : ElementKind) (vs : Items) → MeasuresElements (element_code e vs) None vs → Measures None (array e vs)
unfolding IsSized
array_unmeasured e vs h = λ s. absurd (h s.0 (omega (arith, s.1, length-content Four (count vs) (array_items e vs))))

-- ---- what the functions return

pub described_sum : (r : Option ℕ) (d v : Amqp) (a b m : ℕ) → IsLength a d → IsLength b v → m ≡ a + b → SomeIff r (m + 1 < 2 ^ 64) (m + 1) → Measures r (described d v)
described_sum (Some n) d v a b m h g e f = described_is d v a b n h g (omega (arith, e, f.1))
described_sum None d v a b m h g e f = sum_unmeasured d v a b h g (elim (cases_lt (m + 1) (2 ^ 64)) [ inl lt ↦ absurd (f lt) | inr le ↦ omega (arith, le, e) ])
