-- The canonical bytes of each value spell it, and whatever is spelled is a value.
use Rattle.std.proofs.Common.{◌≡◌, ℕ, suc, ◌*◌, ◌<◌, ◌≤◌, ◌^◌, List, [], ◌++◌, length, Some, refl, arith}
use Rattle.std.proofs.lemmas.List.{length-append}
use Rattle.amqp_data.specs.declared.kind.ElementKind.{ElementKind}
use Rattle.amqp_data.specs.declared.kind.ElementKind.TheVariants as k
use Rattle.amqp_data.specs.Data.{Scalar, Amqp, Items, Pairs, scalar, list, dict, array, described, no_items, item, no_pairs, pair, count, pair_count, AreOfKind, HasDistinctKeys}
use Rattle.amqp_value.specs.declared.code.SizeWidth.TheVariants.{Four}
use Rattle.amqp_value.specs.declared.code.ScalarCode.{ScalarCode}
use Rattle.amqp_value.specs.Code.{content, code_kind}
use Rattle.amqp_value.specs.Grammar.{Spells, scalar', empty_list, list', map', array', described', SpellAll, no_values, more_values, SpellPairs, no_keys, more_keys, LaysAll, no_elements, more_elements}
use Rattle.amqp_value.specs.Canonical.{compound_width, shortest, laid, elements, element_code, array_items, canonical_scalar, canonical, canonical_items, canonical_pairs, IsScalarSized, IsSized, AreSized, ArePairsSized}
use Rattle.amqp_value.specs.Writing.{IsInRange}
use Rattle.amqp_value.proofs.Lengths.{length-content, limits}
use Rattle.amqp_value.proofs.ArrayItems.{are_behind, have_room}
use Rattle.amqp_value.proofs.Shortest.{shortest_lays}
use Rattle.amqp_value.proofs.Written.{HasHead}
use Rattle.amqp_value.proofs.ElementsRead.{all_of_kind}
use Rattle.amqp_value.proofs.Complete.{begins_no_other}
use Rattle.amqp_readback.specs.Values.{IsValue, AreValues, AreValuePairs}
use Rattle.amqp_readback.proofs.Ranges.{lays_range}
use Rattle.amqp_readback.proofs.Elements.{count_elements, elements_lay}

-- ---- each value takes a byte at least

canonical_pos : (v : Amqp) → 0 < length (canonical v)
unfolding canonical canonical_scalar
canonical_pos (scalar s) = omega arith
canonical_pos (list no_items) = omega arith
canonical_pos (list (item v vs)) = omega arith
canonical_pos (dict ps) = omega arith
canonical_pos (array e vs) = omega arith
canonical_pos (described d v) = omega arith

count_le : (vs : Items) → count vs ≤ length (canonical_items vs)
unfolding canonical
count_le no_items = omega arith
count_le (item v vs) = omega (arith, canonical_pos v, count_le vs, length-append (canonical v) (canonical_items vs))

pairs_le : (ps : Pairs) → 2 * pair_count ps ≤ length (canonical_pairs ps)
unfolding canonical
pairs_le no_pairs = omega arith
pairs_le (pair k v ps) =
    omega (arith, canonical_pos k, canonical_pos v, pairs_le ps, length-append (canonical k) (canonical v ++ canonical_pairs ps), length-append (canonical v) (canonical_pairs ps))

-- ---- a size and a count have room

-- in 32 bits, so in the least width
has_head : (n : ℕ) (items : List ℕ) → n ≤ length items → length (content Four n items) < 2 ^ 32 → HasHead (compound_width n (length items)) n items
has_head n items le lt =
    let w = compound_width n (length items) in
    let h = limits n (length items) le (omega (arith, lt, length-content Four n items)) in
    record { few = h.few; short = omega (arith, h.short, length-content w n items) }

-- ---- compounds from their parts

scalar_spells : (s : Scalar) → IsInRange s → IsScalarSized s → Spells (canonical (scalar s)) (scalar s)
unfolding canonical canonical_scalar
scalar_spells s h r = scalar' (shortest s) (laid (shortest s) s) s (shortest_lays s h r)

list_spells : (vs : Items) → SpellAll (canonical_items vs) vs → length (content Four (count vs) (canonical_items vs)) < 2 ^ 32 → Spells (canonical (list vs)) (list vs)
unfolding canonical
list_spells no_items all lt = empty_list
list_spells (item v vs) all lt =
    let items = canonical_items (item v vs) in
    let room = has_head (suc (count vs)) items (count_le (item v vs)) lt in
    list' (compound_width (suc (count vs)) (length items)) (item v vs) items all room.few room.short

map_spells : (ps : Pairs) → SpellPairs (canonical_pairs ps) ps → HasDistinctKeys ps → length (content Four (2 * pair_count ps) (canonical_pairs ps)) < 2 ^ 32 → Spells (canonical (dict ps)) (dict ps)
unfolding canonical
map_spells ps all distinct lt =
    let room = has_head (2 * pair_count ps) (canonical_pairs ps) (pairs_le ps) lt in
    map' (compound_width (2 * pair_count ps) (length (canonical_pairs ps))) ps (canonical_pairs ps) all distinct room.few room.short

kind_of_code : (e : ElementKind) (vs : Items) → code_kind (element_code e vs) ≡ Some e
kind_of_code k.Bool vs = refl
kind_of_code k.Ubyte vs = refl
kind_of_code k.Ushort vs = refl
kind_of_code k.Uint vs = refl
kind_of_code k.Ulong vs = refl
kind_of_code k.Byte vs = refl
kind_of_code k.Short vs = refl
kind_of_code k.Int vs = refl
kind_of_code k.Long vs = refl
kind_of_code k.Char vs = refl
kind_of_code k.Timestamp vs = refl
kind_of_code k.Uuid vs = refl
kind_of_code k.Binary vs = refl
kind_of_code k.String vs = refl
kind_of_code k.Symbol vs = refl

array_spells : (e : ElementKind) (vs : Items) → AreValues vs → AreOfKind e vs → AreSized vs → length (content Four (count vs) (array_items e vs)) < 2 ^ 32 → Spells (canonical (array e vs)) (array e vs)
unfolding canonical
array_spells e vs h kinds sized lt =
    let code = element_code e vs in
    let behind = are_behind e vs kinds in
    let few : count vs ≤ length (array_items e vs) = omega (arith, count_elements code vs h behind) in
    let room = has_head (count vs) (array_items e vs) few lt in
    array' (compound_width (count vs) (length (array_items e vs))) e code vs (elements code vs) (kind_of_code e vs) (elements_lay code vs h behind (have_room e vs sized)) room.few room.short

described_spells : (d v : Amqp) → Spells (canonical d) d → Spells (canonical v) v → Spells (canonical (described d v)) (described d v)
unfolding canonical
described_spells d v s t = described' d v (canonical d) (canonical v) s t

no_values_spell : SpellAll (canonical_items no_items) no_items
unfolding canonical
no_values_spell = no_values

values_spell : (v : Amqp) (vs : Items) → Spells (canonical v) v → SpellAll (canonical_items vs) vs → SpellAll (canonical_items (item v vs)) (item v vs)
unfolding canonical
values_spell v vs s t = more_values v vs (canonical v) (canonical_items vs) s t

no_pairs_spell : SpellPairs (canonical_pairs no_pairs) no_pairs
unfolding canonical
no_pairs_spell = no_keys

pairs_spell : (k v : Amqp) (ps : Pairs) → Spells (canonical k) k → Spells (canonical v) v → SpellPairs (canonical_pairs ps) ps → SpellPairs (canonical_pairs (pair k v ps)) (pair k v ps)
unfolding canonical
pairs_spell k v ps s t u = more_keys k v ps (canonical k) (canonical v) (canonical_pairs ps) s t u

-- ---- every value

mutual
  unfolding IsValue IsSized

  pub canonical_spells : (v : Amqp) → IsValue v → IsSized v → Spells (canonical v) v
  canonical_spells (scalar s) h z = scalar_spells s h z
  canonical_spells (list vs) h z = list_spells vs (canonical_items_spell vs h z.0) z.1
  canonical_spells (dict ps) h z = map_spells ps (canonical_pairs_spell ps h.0 z.0) h.1 z.1
  canonical_spells (array e vs) h z = array_spells e vs h.0 h.1 z.0 z.1
  canonical_spells (described d v) h z = described_spells d v (canonical_spells d h.0 z.0) (canonical_spells v h.1 z.1)

  canonical_items_spell : (vs : Items) → AreValues vs → AreSized vs → SpellAll (canonical_items vs) vs
  canonical_items_spell no_items h z = no_values_spell
  canonical_items_spell (item v vs) h z = values_spell v vs (canonical_spells v h.0 z.0) (canonical_items_spell vs h.1 z.1)

  canonical_pairs_spell : (ps : Pairs) → AreValuePairs ps → ArePairsSized ps → SpellPairs (canonical_pairs ps) ps
  canonical_pairs_spell no_pairs h z = no_pairs_spell
  canonical_pairs_spell (pair k v ps) h z = pairs_spell k v ps (canonical_spells k h.0 z.0) (canonical_spells v h.1 z.1) (canonical_pairs_spell ps h.2 z.2)

-- it begins no other spelling, and no other begins it
pub canonical_apart : (v w : Amqp) (other rest left : List ℕ) → IsValue v → IsSized v → canonical v ++ rest ≡ other ++ left → Spells other w → (canonical v ≡ other) × (v ≡ w)
canonical_apart v w other rest left h z e s = begins_no_other (canonical v) other rest left v w e (canonical_spells v h z) s

-- it spells no other value
pub canonical_alone : (v w : Amqp) → IsValue v → IsSized v → Spells (canonical v) w → v ≡ w
canonical_alone v w h z s = (canonical_apart v w (canonical v) [] [] h z refl s).1

-- ---- what is spelled is a value

elements_are_values : {c : ScalarCode} {text : List ℕ} {vs : Items} → LaysAll c text vs → AreValues vs
unfolding IsValue
elements_are_values (no_elements c) = tt
elements_are_values (more_elements c s vs a b l all) = (lays_range l, elements_are_values all)

mutual
  unfolding IsValue

  pub spelled_is_value : {text : List ℕ} {v : Amqp} → Spells text v → IsValue v
  spelled_is_value (scalar' c text s l) = lays_range l
  spelled_is_value empty_list = tt
  spelled_is_value (list' w vs items all few fits) = spelled_are_values all
  spelled_is_value (map' w ps items all distinct few fits) = (spelled_are_pairs all, distinct)
  spelled_is_value (array' w e c vs elements is all few fits) = (elements_are_values all, all_of_kind e all is)
  spelled_is_value (described' d v a b s t) = (spelled_is_value s, spelled_is_value t)

  spelled_are_values : {text : List ℕ} {vs : Items} → SpellAll text vs → AreValues vs
  spelled_are_values no_values = tt
  spelled_are_values (more_values v vs a b s all) = (spelled_is_value s, spelled_are_values all)

  spelled_are_pairs : {text : List ℕ} {ps : Pairs} → SpellPairs text ps → AreValuePairs ps
  spelled_are_pairs no_keys = tt
  spelled_are_pairs (more_keys k v ps a b c s t all) = (spelled_is_value s, spelled_is_value t, spelled_are_pairs all)
