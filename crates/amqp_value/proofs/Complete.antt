-- A value that is spelled so is read, whatever follows.
use Rattle.std.proofs.Common.{◌≡◌, ℕ, zero, suc, ◌+◌, ◌*◌, ◌/◌, ◌%◌, ◌<◌, ◌≤◌, max, List, [], ◌∷◌, ◌++◌, length, take, Some, refl, sym, ap, ◌∙◌, append_assoc, arith}
use Rattle.std.proofs.lemmas.List.{append-nil, take_at, length-append}
use Rattle.std.proofs.lemmas.Option.{some_pair_parts}
use Rattle.amqp_data.specs.declared.kind.ElementKind.{ElementKind}
use Rattle.amqp_data.specs.Data.{Amqp, Items, Pairs, scalar, list, dict, array, described, count, pair_count, depth, items_depth, pairs_depth, HasDistinctKeys}
use Rattle.amqp_data.specs.SameLaws.{distinct_keys-from}
use Rattle.amqp_value.specs.declared.code.SizeWidth.{SizeWidth}
use Rattle.amqp_value.specs.declared.code.ScalarCode.{ScalarCode}
use Rattle.amqp_value.specs.declared.code.Code.{Code}
use Rattle.amqp_value.specs.declared.code.Code.TheVariants as code
use Rattle.amqp_value.specs.Code.{limit, block, content, scalar_number, number, code_kind}
use Rattle.amqp_value.specs.Grammar.{LaysAll, Spells, scalar', empty_list, list', map', array', described', SpellAll, no_values, more_values, SpellPairs, no_keys, more_keys}
use Rattle.amqp_value.specs.Reading.{Parse, items_at, pairs_at, values_in, list_at, half, pairs_in, distinct, map_at, element_at, elements_in, array_at, described_at, body_at, value_at}
use Rattle.amqp_value.proofs.Numbers.{sizes, block_again}
use Rattle.amqp_value.proofs.Codes.{code_again, constructor_again}
use Rattle.amqp_value.proofs.ScalarsRead.{scalar_again}
use Rattle.amqp_value.proofs.ElementsRead.{elements_again}

abbrev Complete : Parse Amqp → ℕ → Type 0
Complete inner d = (text : List ℕ) (v : Amqp) (rest : List ℕ) → Spells text v → depth v ≤ d → inner (text ++ rest) ≡ Some (v, rest)

-- ---- lists

items_again : (inner : Parse Amqp) (d : ℕ) → Complete inner d → {text : List ℕ} {vs : Items} (rest : List ℕ) → SpellAll text vs → items_depth vs ≤ d → items_at inner (count vs) (text ++ rest) ≡ Some (vs, rest)
unfolding items_at
items_again inner d h rest no_values le = refl
items_again inner d h rest (more_values v vs a b s all) le =
    let first : inner (a ++ (b ++ rest)) ≡ Some (v, b ++ rest) = h a v (b ++ rest) s (omega (arith, le)) in
    let others : items_at inner (count vs) (b ++ rest) ≡ Some (vs, rest) = items_again inner d h rest all (omega (arith, le)) in
    ap (items_at inner (suc (count vs))) (append_assoc a b rest) ∙ rw (first, others) refl

values_in_again : (inner : Parse Amqp) (d : ℕ) → Complete inner d → (w : SizeWidth) (items : List ℕ) (vs : Items) → SpellAll items vs → items_depth vs ≤ d → count vs < limit w → values_in inner w (content w (count vs) items) ≡ Some vs
unfolding values_in
values_in_again inner d h w items vs s le lt =
    let read : items_at inner (count vs) items ≡ Some (vs, []) = ap (items_at inner (count vs)) (sym (append-nil items)) ∙ items_again inner d h [] s le in
    rw ((sizes w).again (count vs) items lt, read) refl

list_again : (inner : Parse Amqp) (d : ℕ) → Complete inner d → (w : SizeWidth) (items : List ℕ) (vs : Items) (rest : List ℕ) → SpellAll items vs → items_depth vs ≤ d → count vs < limit w → length (content w (count vs) items) < limit w
    → list_at inner w (block w (content w (count vs) items) ++ rest) ≡ Some (list vs, rest)
unfolding list_at
list_again inner d h w items vs rest s le few fits =
    rw (block_again w (content w (count vs) items) rest fits, values_in_again inner d h w items vs s le few) refl

-- ---- maps

pairs_again : (inner : Parse Amqp) (d : ℕ) → Complete inner d → {text : List ℕ} {ps : Pairs} (rest : List ℕ) → SpellPairs text ps → pairs_depth ps ≤ d → pairs_at inner (pair_count ps) (text ++ rest) ≡ Some (ps, rest)
unfolding pairs_at
pairs_again inner d h rest no_keys le = refl
pairs_again inner d h rest (more_keys k v ps a b c s t all) le =
    let first : inner (a ++ (b ++ (c ++ rest))) ≡ Some (k, b ++ (c ++ rest)) = h a k (b ++ (c ++ rest)) s (omega (arith, le)) in
    let second : inner (b ++ (c ++ rest)) ≡ Some (v, c ++ rest) = h b v (c ++ rest) t (omega (arith, le)) in
    let others : pairs_at inner (pair_count ps) (c ++ rest) ≡ Some (ps, rest) = pairs_again inner d h rest all (omega (arith, le)) in
    let regrouped : (a ++ (b ++ c)) ++ rest ≡ a ++ (b ++ (c ++ rest)) = append_assoc a (b ++ c) rest ∙ ap (λ (z : List ℕ). a ++ z) (append_assoc b c rest) in
    ap (pairs_at inner (suc (pair_count ps))) regrouped ∙ rw (first, second, others) refl

half_again : (m : ℕ) → half (2 * m) ≡ Some m
half_again m =
    let even : (2 * m) % 2 ≡ 0 = omega arith in
    let whole : (2 * m) / 2 ≡ m = omega arith in
    rw (even, whole) refl

pairs_in_again : (inner : Parse Amqp) (d : ℕ) → Complete inner d → (w : SizeWidth) (items : List ℕ) (ps : Pairs) → SpellPairs items ps → pairs_depth ps ≤ d → 2 * pair_count ps < limit w → pairs_in inner w (content w (2 * pair_count ps) items) ≡ Some ps
unfolding pairs_in
pairs_in_again inner d h w items ps s le lt =
    let read : pairs_at inner (pair_count ps) items ≡ Some (ps, []) = ap (pairs_at inner (pair_count ps)) (sym (append-nil items)) ∙ pairs_again inner d h [] s le in
    rw ((sizes w).again (2 * pair_count ps) items lt, half_again (pair_count ps), read) refl

map_again : (inner : Parse Amqp) (d : ℕ) → Complete inner d → (w : SizeWidth) (items : List ℕ) (ps : Pairs) (rest : List ℕ) → SpellPairs items ps → HasDistinctKeys ps → pairs_depth ps ≤ d → 2 * pair_count ps < limit w → length (content w (2 * pair_count ps) items) < limit w
    → map_at inner w (block w (content w (2 * pair_count ps) items) ++ rest) ≡ Some (dict ps, rest)
unfolding map_at
map_again inner d h w items ps rest s distinct le few fits =
    rw (block_again w (content w (2 * pair_count ps) items) rest fits, pairs_in_again inner d h w items ps s le few, distinct_keys-from ps distinct) refl

-- ---- arrays

elements_in_again : (d : ℕ) (w : SizeWidth) (k : ElementKind) (c : ScalarCode) (vs : Items) (elements : List ℕ) → code_kind c ≡ Some k → LaysAll c elements vs → items_depth vs ≤ d → count vs < limit w
    → elements_in d w (content w (count vs) (scalar_number c ∷ elements)) ≡ Some (array k vs)
unfolding elements_in
elements_in_again d w k c vs elements e l le lt =
    let read : items_at (element_at c d) (count vs) elements ≡ Some (vs, []) = ap (items_at (element_at c d) (count vs)) (sym (append-nil elements)) ∙ elements_again d [] l le in
    rw ((sizes w).again (count vs) (scalar_number c ∷ elements) lt, constructor_again c k elements e, read) refl

array_again : (d : ℕ) (w : SizeWidth) (k : ElementKind) (c : ScalarCode) (vs : Items) (elements rest : List ℕ) → code_kind c ≡ Some k → LaysAll c elements vs → items_depth vs ≤ d → count vs < limit w → length (content w (count vs) (scalar_number c ∷ elements)) < limit w
    → array_at d w (block w (content w (count vs) (scalar_number c ∷ elements)) ++ rest) ≡ Some (array k vs, rest)
unfolding array_at
array_again d w k c vs elements rest e l le few fits =
    rw (block_again w (content w (count vs) (scalar_number c ∷ elements)) rest fits, elements_in_again d w k c vs elements e l le few) refl

-- ---- every value

described_again : (inner : Parse Amqp) (d : ℕ) → Complete inner d → (w v : Amqp) (a b rest : List ℕ) → Spells a w → Spells b v → depth (described w v) ≤ suc d → described_at inner ((a ++ b) ++ rest) ≡ Some (described w v, rest)
unfolding described_at
described_again inner d h w v a b rest s t le =
    let first : inner (a ++ (b ++ rest)) ≡ Some (w, b ++ rest) = h a w (b ++ rest) s (omega (arith, le)) in
    let second : inner (b ++ rest) ≡ Some (v, rest) = h b v rest t (omega (arith, le)) in
    ap (described_at inner) (append_assoc a b rest) ∙ rw (first, second) refl

depth_pos : (v : Amqp) → 0 < depth v
depth_pos (scalar s) = omega arith
depth_pos (list vs) = omega arith
depth_pos (dict ps) = omega arith
depth_pos (array k vs) = omega arith
depth_pos (described w v) = omega arith

-- a constructor, and what it says
begins : (d : ℕ) (k : Code) (bytes : List ℕ) → value_at (suc d) (number k ∷ bytes) ≡ body_at (value_at d) d k bytes
unfolding value_at
begins d k bytes = rw (code_again k bytes) refl

pub value_again : (d : ℕ) {text : List ℕ} {v : Amqp} (rest : List ℕ) → Spells text v → depth v ≤ d → value_at d (text ++ rest) ≡ Some (v, rest)
unfolding body_at
value_again zero {text} {v} rest s le = absurd (omega (arith, depth_pos v, le))
value_again (suc d) rest (scalar' c text s l) le = begins d (code.Scalar c) (text ++ rest) ∙ rw (scalar_again rest l) refl
value_again (suc d) rest empty_list le = begins d code.EmptyList rest
value_again (suc d) rest (list' w vs items all few fits) le =
    begins d (code.List w) (block w (content w (count vs) items) ++ rest) ∙ list_again (value_at d) d (λ t v r s l. value_again d r s l) w items vs rest all (omega (arith, le)) few fits
value_again (suc d) rest (map' w ps items all distinct few fits) le =
    begins d (code.Map w) (block w (content w (2 * pair_count ps) items) ++ rest) ∙ map_again (value_at d) d (λ t v r s l. value_again d r s l) w items ps rest all distinct (omega (arith, le)) few fits
value_again (suc d) rest (array' w k c vs elements e all few fits) le =
    begins d (code.Array w) (block w (content w (count vs) (scalar_number c ∷ elements)) ++ rest) ∙ array_again d w k c vs elements rest e all (omega (arith, le)) few fits
value_again (suc d) rest (described' w v a b s t) le =
    begins d code.Described ((a ++ b) ++ rest) ∙ described_again (value_at d) d (λ x y r p l. value_again d r p l) w v a b rest s t le

-- no spelling of a value begins another
pub begins_no_other : (text other rest left : List ℕ) (v w : Amqp) → text ++ rest ≡ other ++ left → Spells text v → Spells other w → (text ≡ other) × (v ≡ w)
begins_no_other text other rest left v w e s t =
    let one : value_at (max (depth v) (depth w)) (text ++ rest) ≡ Some (v, rest) = value_again (max (depth v) (depth w)) rest s (omega arith) in
    let two : value_at (max (depth v) (depth w)) (other ++ left) ≡ Some (w, left) = value_again (max (depth v) (depth w)) left t (omega arith) in
    let p = some_pair_parts v w rest left (sym one ∙ ap (value_at (max (depth v) (depth w))) e ∙ two) in
    let total : length text + length rest ≡ length other + length left = sym (length-append text rest) ∙ ap length e ∙ length-append other left in
    let same : length rest ≡ length left = ap length p.1 in
    let len : length text ≡ length other = omega (arith, total, same) in
    (sym (take_at text rest (length text) refl) ∙ ap (take (length text)) e ∙ ap (λ (k : ℕ). take k (other ++ left)) len ∙ take_at other left (length other) refl, p.0)
