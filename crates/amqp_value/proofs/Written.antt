-- What is written of a value from what is written of its parts.
use Rattle.std.proofs.Common.{◌≡◌, ℕ, suc, ◌+◌, ◌*◌, ◌<◌, ◌≤◌, ◌^◌, List, [], ◌∷◌, ◌++◌, length, get_or, drop, Some, None, refl, sym, ap, subst, ◌∙◌, append_assoc, append-nil, arith}
use Rattle.std.proofs.lemmas.List.{length-append}
use Rattle.amqp_data.specs.declared.kind.ElementKind.{ElementKind}
use Rattle.amqp_data.specs.declared.kind.ElementKind.TheVariants as k
use Rattle.amqp_data.specs.declared.value.Value.{Value}
use Rattle.amqp_data.specs.declared.value.Entry.{Entry}
use Rattle.amqp_data.specs.Data.{Amqp, Items, Pairs, scalar, list, dict, array, described, no_items, item, no_pairs, pair, count, pair_count, items_depth, pairs_depth, HasDistinctKeys}
use Rattle.amqp_data.specs.View.{view, items_view, pairs_view}
use Rattle.amqp_value.specs.declared.code.SizeWidth.{SizeWidth}
use Rattle.amqp_value.specs.declared.code.SizeWidth.TheVariants.{Four}
use Rattle.amqp_value.specs.declared.code.ScalarCode.{ScalarCode}
use Rattle.amqp_value.specs.Code.{octets, limit, block, content, scalar_number, list_number, map_number, array_number, code_kind}
use Rattle.amqp_value.specs.Grammar.{empty_list, list', map', array', described', SpellAll, no_values, more_values, SpellPairs, no_keys, more_keys}
use Rattle.amqp_value.specs.Canonical.{narrow_if, compound_width, compound, elements, are_short, element_code, array_items, canonical_scalar, canonical, canonical_items, canonical_pairs, IsSized, AreSized}
use Rattle.amqp_value.specs.Writing.{octet_count, head, code_of_kind, AreLength, MeasuresAll, ArePairsLength, MeasuresPairs, AreElementsLength, WroteElements, Wrote, WroteAll, WrotePairs, IsWritable, AreWritable, IsListWritable, ArePairsWritable}
use Rattle.amqp_value.proofs.Rest.{rest_items, no_rest, rest_pairs, no_rest_pairs, count_view, count_entries}
use Rattle.amqp_value.proofs.Lengths.{length-content, HaveLimits, limits}
use Rattle.amqp_value.proofs.ArrayItems.{element_code-kind}

-- ---- what has room

pub first_writable : (d v : Amqp) → IsWritable (described d v) → IsWritable d
unfolding IsSized
first_writable d v w = record { sized = w.sized.0; nests = omega (arith, w.nests) }

pub second_writable : (d v : Amqp) → IsWritable (described d v) → IsWritable v
unfolding IsSized
second_writable d v w = record { sized = w.sized.1; nests = omega (arith, w.nests) }

pub items_known : (vs : Items) → IsListWritable vs → MeasuresAll None vs → ⊥
unfolding IsSized
items_known vs w h = absurd (omega (arith, w.items.nests, h w.items.sized (omega (arith, w.sized.1, length-content Four (count vs) (canonical_items vs)))))

pub list_writable : (vs : Items) → IsWritable (list vs) → IsListWritable vs
unfolding IsSized
list_writable vs w = record { items = record { sized = w.sized.0; nests = omega (arith, w.nests) }; sized = w.sized }

pub sized_list : (n : ℕ) (vs : Items) → AreLength n vs → IsSized (list vs)
unfolding IsSized
sized_list n vs h = (h.sized, omega (arith, h.is, h.below, length-content Four (count vs) (canonical_items vs)))

pub items_writable : (n : ℕ) (vs : Items) → AreLength n vs → items_depth vs ≤ 32 → IsListWritable vs
items_writable n vs h le = record { items = record { sized = h.sized; nests = le }; sized = sized_list n vs h }

pub no_list : (vs : Items) → MeasuresAll None vs → items_depth vs ≤ 32 → IsSized (list vs) → ⊥
unfolding IsSized
no_list vs h le s = absurd (omega (arith, le, h s.0 (omega (arith, s.1, length-content Four (count vs) (canonical_items vs)))))

pub pairs_writable : (n : ℕ) (ps : Pairs) → ArePairsLength n ps → pairs_depth ps ≤ 31 → IsWritable (dict ps)
unfolding IsSized
pairs_writable n ps h le = record { sized = (h.sized, omega (arith, h.is, h.below, length-content Four (2 * pair_count ps) (canonical_pairs ps))); nests = omega (arith, le) }

pub no_map : (ps : Pairs) → MeasuresPairs None ps → pairs_depth ps ≤ 31 → IsSized (dict ps) → ⊥
unfolding IsSized
no_map ps h le s = absurd (omega (arith, le, h s.0 (omega (arith, s.1, length-content Four (2 * pair_count ps) (canonical_pairs ps)))))

pub pairs_known : (ps : Pairs) → IsWritable (dict ps) → MeasuresPairs None ps → ⊥
unfolding IsSized
pairs_known ps w h = absurd (omega (arith, w.nests, h w.sized.0 (omega (arith, w.sized.1, length-content Four (2 * pair_count ps) (canonical_pairs ps)))))

pub elements_sized : (e : ElementKind) (vs : Items) → IsWritable (array e vs) → AreSized vs
unfolding IsSized
elements_sized e vs w = w.sized.0

pub elements_fit : (e : ElementKind) (vs : Items) → IsWritable (array e vs) → 4 + suc (length (elements (element_code e vs) vs)) < 2 ^ 32
unfolding IsSized
elements_fit e vs w = omega (arith, w.sized.1, length-content Four (count vs) (array_items e vs))

-- ---- each value takes a byte at least

canonical_pos : (v : Amqp) → 0 < length (canonical v)
unfolding canonical canonical_scalar
canonical_pos (scalar s) = omega arith
canonical_pos (list no_items) = omega arith
canonical_pos (list (item v vs)) = omega arith
canonical_pos (dict ps) = omega arith
canonical_pos (array e vs) = omega arith
canonical_pos (described d v) = omega arith

count_le : (vs : Items) → count vs ≤ length (canonical_items vs)
unfolding canonical
count_le no_items = omega arith
count_le (item v vs) = omega (arith, canonical_pos v, count_le vs, length-append (canonical v) (canonical_items vs))

pairs_le : (ps : Pairs) → 2 * pair_count ps ≤ length (canonical_pairs ps)
unfolding canonical
pairs_le no_pairs = omega arith
pairs_le (pair k v ps) =
    omega (arith, canonical_pos k, canonical_pos v, pairs_le ps, length-append (canonical k) (canonical v ++ canonical_pairs ps), length-append (canonical v) (canonical_pairs ps))

-- ---- a head and the items

parted : (old a b items : List ℕ) (n : ℕ) → (old ++ n ∷ (a ++ b)) ++ items ≡ old ++ n ∷ (a ++ (b ++ items))
parted old a b items n = simp append_assoc

head_put : (w : SizeWidth) (number : ℕ) (n size : ℕ) (items old mid new : List ℕ) → size ≡ length items → mid ≡ old ++ head number w n size → new ≡ mid ++ items → new ≡ old ++ number ∷ block w (content w n items)
head_put w number n size items old mid new e h g =
    let len : size + octet_count w ≡ length (content w n items) = omega (arith, e, length-content w n items) in
    g ∙ ap (λ (z : List ℕ). z ++ items) h ∙ parted old (octets w (size + octet_count w)) (octets w n) items number ∙ ap (λ (z : ℕ). old ++ number ∷ (octets w z ++ content w n items)) len

compound_put : (number : SizeWidth → ℕ) (n size : ℕ) (items old mid new : List ℕ) (w : SizeWidth) → w ≡ compound_width n size → size ≡ length items → mid ≡ old ++ head (number w) w n size → new ≡ mid ++ items → new ≡ old ++ compound number n items
compound_put number n size items old mid new w is e h g =
    let same : w ≡ compound_width n (length items) = is ∙ ap (compound_width n) e in
    subst (λ (z : SizeWidth). new ≡ old ++ number z ∷ block z (content z n items)) same (head_put w (number w) n size items old mid new e h g)

pub record HasHead (w : SizeWidth) (n : ℕ) (items : List ℕ) : Type 0 where
  pub few : n < limit w
  pub short : length (content w n items) < limit w

has_head : (n : ℕ) (items : List ℕ) → n ≤ length items → 4 + length items < 2 ^ 32 → HasHead (compound_width n (length items)) n items
has_head n items le lt =
    let h = limits n (length items) le lt in
    let w = compound_width n (length items) in
    record { few = h.few; short = omega (arith, h.short, length-content w n items) }

-- ---- described values

joined : (old d v : List ℕ) → ((old ++ 0 ∷ []) ++ d) ++ v ≡ old ++ 0 ∷ (d ++ v)
joined old d v = simp append_assoc

pub described_put : (old first mid new : List ℕ) (d v : Amqp) → first ≡ old ++ 0 ∷ [] → Wrote first mid d → Wrote mid new v → Wrote old new (described d v)
unfolding canonical
described_put old first mid new d v e h g = record {
  bytes = g.bytes ∙ ap (λ (z : List ℕ). z ++ canonical v) (h.bytes ∙ ap (λ (z : List ℕ). z ++ canonical d) e) ∙ joined old (canonical d) (canonical v);
  spelled = described' d v (canonical d) (canonical v) h.spelled g.spelled;
}

-- ---- lists

pub few_items : (size : ℕ) (xs : List Value) → AreLength size (items_view xs) → length xs ≤ size
few_items size xs h = omega (arith, count_view xs, h.is, count_le (items_view xs))

pub list_limits : (size : ℕ) (xs : List Value) → AreLength size (items_view xs) → HaveLimits (compound_width (length xs) size) (length xs) size
list_limits size xs h = limits (length xs) size (few_items size xs h) h.below

full_put : (old mid new : List ℕ) (size : ℕ) (w : SizeWidth) (v : Amqp) (vs : Items) → AreLength size (item v vs) → w ≡ compound_width (suc (count vs)) size → mid ≡ old ++ head (list_number w) w (suc (count vs)) size → WroteAll mid new (item v vs) → Wrote old new (list (item v vs))
unfolding canonical
full_put old mid new size w v vs h e f g =
    let items = canonical_items (item v vs) in
    let room = has_head (suc (count vs)) items (count_le (item v vs)) (omega (arith, h.is, h.below)) in
    record {
      bytes = compound_put list_number (suc (count vs)) size items old mid new w e h.is f g.bytes;
      spelled = list' (compound_width (suc (count vs)) (length items)) (item v vs) items g.spelled room.few room.short;
    }

empty_put : (old new : List ℕ) → new ≡ old ++ 0x45 ∷ [] → Wrote old new (list no_items)
unfolding canonical
empty_put old new e = record { bytes = e; spelled = empty_list }

pub no_values_put : (old new : List ℕ) (xs : List Value) → length xs ≡ 0 → new ≡ old ++ 0x45 ∷ [] → Wrote old new (list (items_view xs))
no_values_put old new [] len e = empty_put old new e
no_values_put old new (x ∷ xs) len e = absurd (omega (arith, len))

pub values_put : (old mid new : List ℕ) (size : ℕ) (w : SizeWidth) (xs : List Value) → (length xs ≡ 0 → ⊥) → AreLength size (items_view xs) → w ≡ compound_width (length xs) size → mid ≡ old ++ head (list_number w) w (length xs) size → WroteAll mid new (items_view xs) → Wrote old new (list (items_view xs))
values_put old mid new size w [] ne h e f g = absurd (ne refl)
values_put old mid new size w (x ∷ xs) ne h e f g =
    let same : suc (length xs) ≡ suc (count (items_view xs)) = ap suc (sym (count_view xs)) in
    full_put old mid new size w (view x) (items_view xs) h (e ∙ ap (λ (z : ℕ). compound_width z size) same) (f ∙ ap (λ (z : ℕ). old ++ head (list_number w) w z size) same) g

-- out and the rest are all the items behind old
pub record GoingItems (old out : List ℕ) (rest all : Items) : Type 0 where
  pub bytes : out ++ canonical_items rest ≡ old ++ canonical_items all
  pub spelled : SpellAll (canonical_items rest) rest → SpellAll (canonical_items all) all
  pub writable : AreWritable rest

next_item_put : (old mid new : List ℕ) (v : Amqp) (rest all : Items) → GoingItems old mid (item v rest) all → Wrote mid new v → GoingItems old new rest all
unfolding canonical IsSized
next_item_put old mid new v rest all h g = record {
  bytes = ap (λ (z : List ℕ). z ++ canonical_items rest) g.bytes ∙ append_assoc mid (canonical v) (canonical_items rest) ∙ h.bytes;
  spelled = λ z. h.spelled (more_values v rest (canonical v) (canonical_items rest) g.spelled z);
  writable = record { sized = h.writable.sized.1; nests = omega (arith, h.writable.nests) };
}

pub item_put : (old mid new : List ℕ) (xs : List Value) (i : ℕ) (x : Value) → i < length xs → x ≡ get_or xs i x → GoingItems old mid (items_view (drop i xs)) (items_view xs) → Wrote mid new (view x) → GoingItems old new (items_view (drop (i + 1) xs)) (items_view xs)
item_put old mid new xs i x lt is h g =
    next_item_put old mid new (view x) (items_view (drop (i + 1) xs)) (items_view xs) (subst (λ (z : Items). GoingItems old mid z (items_view xs)) (rest_items xs i x lt is) h) g

front_writable : (v : Amqp) (rest : Items) → AreWritable (item v rest) → IsWritable v
unfolding IsSized
front_writable v rest w = record { sized = w.sized.0; nests = omega (arith, w.nests) }

pub item_writable : (old mid : List ℕ) (xs : List Value) (i : ℕ) (x : Value) → i < length xs → x ≡ get_or xs i x → GoingItems old mid (items_view (drop i xs)) (items_view xs) → IsWritable (view x)
item_writable old mid xs i x lt is h = front_writable (view x) (items_view (drop (i + 1) xs)) (subst AreWritable (rest_items xs i x lt is) h.writable)

pub items_put : (old out : List ℕ) (xs : List Value) (i : ℕ) → length xs ≤ i → GoingItems old out (items_view (drop i xs)) (items_view xs) → WroteAll old out (items_view xs)
unfolding canonical
items_put old out xs i le h =
    let g : GoingItems old out no_items (items_view xs) = subst (λ (z : Items). GoingItems old out z (items_view xs)) (no_rest xs i le) h in
    record { bytes = sym (append-nil out) ∙ g.bytes; spelled = g.spelled no_values }

-- ---- maps

pub few_entries : (size : ℕ) (es : List Entry) → ArePairsLength size (pairs_view es) → 2 * length es ≤ size
few_entries size es h = omega (arith, count_entries es, h.is, pairs_le (pairs_view es))

pub map_limits : (size : ℕ) (es : List Entry) → ArePairsLength size (pairs_view es) → HaveLimits (compound_width (2 * length es) size) (2 * length es) size
map_limits size es h = limits (2 * length es) size (few_entries size es h) h.below

map_put : (old mid new : List ℕ) (size : ℕ) (w : SizeWidth) (ps : Pairs) → HasDistinctKeys ps → ArePairsLength size ps → w ≡ compound_width (2 * pair_count ps) size → mid ≡ old ++ head (map_number w) w (2 * pair_count ps) size → WrotePairs mid new ps → Wrote old new (dict ps)
unfolding canonical
map_put old mid new size w ps d h e f g =
    let room = has_head (2 * pair_count ps) (canonical_pairs ps) (pairs_le ps) (omega (arith, h.is, h.below)) in
    record {
      bytes = compound_put map_number (2 * pair_count ps) size (canonical_pairs ps) old mid new w e h.is f g.bytes;
      spelled = map' (compound_width (2 * pair_count ps) (length (canonical_pairs ps))) ps (canonical_pairs ps) g.spelled d room.few room.short;
    }

pub entries_put : (old mid new : List ℕ) (size : ℕ) (w : SizeWidth) (es : List Entry) → HasDistinctKeys (pairs_view es) → ArePairsLength size (pairs_view es) → w ≡ compound_width (2 * length es) size → mid ≡ old ++ head (map_number w) w (2 * length es) size → WrotePairs mid new (pairs_view es)
    → Wrote old new (dict (pairs_view es))
entries_put old mid new size w es d h e f g =
    let same : 2 * length es ≡ 2 * pair_count (pairs_view es) = ap (λ (z : ℕ). 2 * z) (sym (count_entries es)) in
    map_put old mid new size w (pairs_view es) d h (e ∙ ap (λ (z : ℕ). compound_width z size) same) (f ∙ ap (λ (z : ℕ). old ++ head (map_number w) w z size) same) g

pub record GoingPairs (old out : List ℕ) (rest all : Pairs) : Type 0 where
  pub bytes : out ++ canonical_pairs rest ≡ old ++ canonical_pairs all
  pub spelled : SpellPairs (canonical_pairs rest) rest → SpellPairs (canonical_pairs all) all
  pub writable : ArePairsWritable rest

in_turn : (mid k v rest : List ℕ) → ((mid ++ k) ++ v) ++ rest ≡ mid ++ (k ++ (v ++ rest))
in_turn mid k v rest = simp append_assoc

next_pair_put : (old mid half new : List ℕ) (k v : Amqp) (rest all : Pairs) → GoingPairs old mid (pair k v rest) all → Wrote mid half k → Wrote half new v → GoingPairs old new rest all
unfolding canonical IsSized
next_pair_put old mid half new k v rest all h f g = record {
  bytes = ap (λ (z : List ℕ). z ++ canonical_pairs rest) (g.bytes ∙ ap (λ (z : List ℕ). z ++ canonical v) f.bytes) ∙ in_turn mid (canonical k) (canonical v) (canonical_pairs rest) ∙ h.bytes;
  spelled = λ z. h.spelled (more_keys k v rest (canonical k) (canonical v) (canonical_pairs rest) f.spelled g.spelled z);
  writable = record { sized = h.writable.sized.2; nests = omega (arith, h.writable.nests) };
}

pub pair_put : (old mid half new : List ℕ) (es : List Entry) (i : ℕ) (e : Entry) → i < length es → e ≡ get_or es i e → GoingPairs old mid (pairs_view (drop i es)) (pairs_view es) → Wrote mid half (view e.key) → Wrote half new (view e.value) → GoingPairs old new (pairs_view (drop (i + 1) es)) (pairs_view es)
pair_put old mid half new es i e lt is h f g =
    next_pair_put old mid half new (view e.key) (view e.value) (pairs_view (drop (i + 1) es)) (pairs_view es) (subst (λ (z : Pairs). GoingPairs old mid z (pairs_view es)) (rest_pairs es i e lt is) h) f g

key_writable_in : (k v : Amqp) (rest : Pairs) → ArePairsWritable (pair k v rest) → IsWritable k
unfolding IsSized
key_writable_in k v rest w = record { sized = w.sized.0; nests = omega (arith, w.nests) }

value_writable_in : (k v : Amqp) (rest : Pairs) → ArePairsWritable (pair k v rest) → IsWritable v
unfolding IsSized
value_writable_in k v rest w = record { sized = w.sized.1; nests = omega (arith, w.nests) }

pub key_writable : (old mid : List ℕ) (es : List Entry) (i : ℕ) (e : Entry) → i < length es → e ≡ get_or es i e → GoingPairs old mid (pairs_view (drop i es)) (pairs_view es) → IsWritable (view e.key)
key_writable old mid es i e lt is h = key_writable_in (view e.key) (view e.value) (pairs_view (drop (i + 1) es)) (subst ArePairsWritable (rest_pairs es i e lt is) h.writable)

pub value_writable : (old mid : List ℕ) (es : List Entry) (i : ℕ) (e : Entry) → i < length es → e ≡ get_or es i e → GoingPairs old mid (pairs_view (drop i es)) (pairs_view es) → IsWritable (view e.value)
value_writable old mid es i e lt is h = value_writable_in (view e.key) (view e.value) (pairs_view (drop (i + 1) es)) (subst ArePairsWritable (rest_pairs es i e lt is) h.writable)

pub pairs_put : (old out : List ℕ) (es : List Entry) (i : ℕ) → length es ≤ i → GoingPairs old out (pairs_view (drop i es)) (pairs_view es) → WrotePairs old out (pairs_view es)
unfolding canonical
pairs_put old out es i le h =
    let g : GoingPairs old out no_pairs (pairs_view es) = subst (λ (z : Pairs). GoingPairs old out z (pairs_view es)) (no_rest_pairs es i le) h in
    record { bytes = sym (append-nil out) ∙ g.bytes; spelled = g.spelled no_keys }

-- ---- arrays

kind_of_code : (e : ElementKind) (w : SizeWidth) → code_kind (code_of_kind e w) ≡ Some e
kind_of_code e w = elim e as (λ (z : ElementKind). code_kind (code_of_kind z w) ≡ Some z) [
  | k.Bool ↦ refl
  | k.Ubyte ↦ refl
  | k.Ushort ↦ refl
  | k.Uint ↦ refl
  | k.Ulong ↦ refl
  | k.Byte ↦ refl
  | k.Short ↦ refl
  | k.Int ↦ refl
  | k.Long ↦ refl
  | k.Char ↦ refl
  | k.Timestamp ↦ refl
  | k.Uuid ↦ refl
  | k.Binary ↦ refl
  | k.String ↦ refl
  | k.Symbol ↦ refl
]

array_kind : (e : ElementKind) (vs : Items) → code_kind (element_code e vs) ≡ Some e
array_kind e vs = ap code_kind (element_code-kind e vs) ∙ kind_of_code e (narrow_if (are_short vs))

pub array_limits : (size : ℕ) (e : ScalarCode) (xs : List Value) → AreElementsLength e size (items_view xs) → HaveLimits (compound_width (length xs) size) (length xs) size
array_limits size e xs h = limits (length xs) size (omega (arith, count_view xs, h.few)) h.below

elements_wrote : (old mid next new : List ℕ) (size : ℕ) (w : SizeWidth) (e : ElementKind) (vs : Items) → AreElementsLength (element_code e vs) size vs → w ≡ compound_width (count vs) size → mid ≡ old ++ head (array_number w) w (count vs) size → next ≡ mid ++ scalar_number (element_code e vs) ∷ []
    → WroteElements (element_code e vs) next new vs → Wrote old new (array e vs)
unfolding canonical
elements_wrote old mid next new size w e vs h is f n g =
    let code = element_code e vs in
    let room = has_head (count vs) (array_items e vs) (omega (arith, h.few, h.is)) (omega (arith, h.is, h.below)) in
    let added : new ≡ mid ++ array_items e vs = g.bytes ∙ ap (λ (z : List ℕ). z ++ elements code vs) n ∙ append_assoc mid (scalar_number code ∷ []) (elements code vs) in
    record {
      bytes = compound_put array_number (count vs) size (array_items e vs) old mid new w is h.is f added;
      spelled = array' (compound_width (count vs) (length (array_items e vs))) e code vs (elements code vs) (array_kind e vs) g.spelled room.few room.short;
    }

pub array_put : (old mid next new : List ℕ) (size : ℕ) (w : SizeWidth) (e : ElementKind) (c : ScalarCode) (xs : List Value) → c ≡ element_code e (items_view xs) → AreElementsLength c size (items_view xs) → w ≡ compound_width (length xs) size → mid ≡ old ++ head (array_number w) w (length xs) size → next ≡ mid ++ scalar_number c ∷ []
    → WroteElements c next new (items_view xs) → Wrote old new (array e (items_view xs))
array_put old mid next new size w e c xs same h is f n g =
    let len : length xs ≡ count (items_view xs) = sym (count_view xs) in
    elements_wrote old mid next new size w e (items_view xs) (subst (λ (z : ScalarCode). AreElementsLength z size (items_view xs)) same h) (is ∙ ap (λ (z : ℕ). compound_width z size) len) (f ∙ ap (λ (z : ℕ). old ++ head (array_number w) w z size) len)
    (n ∙ ap (λ (z : ScalarCode). mid ++ scalar_number z ∷ []) same) (subst (λ (z : ScalarCode). WroteElements z next new (items_view xs)) same g)
