-- Each spelling of a value is one that is told without the value.
use Rattle.std.proofs.Common.{◌≡◌, ℕ, zero, suc, ◌*◌, ◌<◌, ◌≤◌, List, ◌++◌, subst, arith}
use Rattle.amqp_data.specs.Data.{Amqp, Items, Pairs, scalar, list, dict, array, described, count, pair_count, depth, items_depth, pairs_depth}
use Rattle.amqp_value.specs.Grammar.{Spells, scalar', empty_list, list', map', array', described', SpellAll, no_values, more_values, SpellPairs, no_keys, more_keys}
use Rattle.amqp_skips.specs.Spelling.{IsSpelling, of_scalar, of_empty_list, of_list, of_map, of_array, of_described, AreSpellings, no_more, one_more}

depth_pos : (v : Amqp) → 0 < depth v
depth_pos (scalar s) = omega arith
depth_pos (list vs) = omega arith
depth_pos (dict ps) = omega arith
depth_pos (array k vs) = omega arith
depth_pos (described w v) = omega arith

abbrev Kept : ℕ → Type 0
Kept d = (text : List ℕ) (v : Amqp) → Spells text v → depth v ≤ d → IsSpelling d text

items_kept : (d : ℕ) → Kept d → {text : List ℕ} {vs : Items} → SpellAll text vs → items_depth vs ≤ d → AreSpellings d (count vs) text
items_kept d h no_values le = no_more d
items_kept d h (more_values v vs a b s all) le = one_more d (count vs) a b (h a v s (omega (arith, le))) (items_kept d h all (omega (arith, le)))

pairs_kept : (d : ℕ) → Kept d → {text : List ℕ} {ps : Pairs} → SpellPairs text ps → pairs_depth ps ≤ d → AreSpellings d (2 * pair_count ps) text
pairs_kept d h no_keys le = no_more d
pairs_kept d h (more_keys k v ps a b c s t all) le =
    let n : ℕ = 2 * pair_count ps in
    let more : AreSpellings d (suc (suc n)) (a ++ (b ++ c)) =
    one_more d (suc n) a (b ++ c) (h a k s (omega (arith, le))) (one_more d n b c (h b v t (omega (arith, le))) (pairs_kept d h all (omega (arith, le)))) in
    let few : suc (suc n) ≡ 2 * suc (pair_count ps) = omega arith in
    subst (λ (z : ℕ). AreSpellings d z (a ++ (b ++ c))) few more

pub value_kept : (d : ℕ) {text : List ℕ} {v : Amqp} → Spells text v → depth v ≤ d → IsSpelling d text
value_kept zero {text} {v} s le = absurd (omega (arith, depth_pos v, le))
value_kept (suc d) (scalar' c text s l) le = of_scalar d c text s l
value_kept (suc d) empty_list le = of_empty_list d
value_kept (suc d) (list' w vs items all few fits) le = of_list d w (count vs) items (items_kept d (λ t v s l. value_kept d s l) all (omega (arith, le))) few fits
value_kept (suc d) (map' w ps items all distinct few fits) le = of_map d w (pair_count ps) items (pairs_kept d (λ t v s l. value_kept d s l) all (omega (arith, le))) few fits
value_kept (suc d) (array' w k c vs elements e all few fits) le = of_array d w k c vs elements e all (omega (arith, le)) few fits
value_kept (suc d) (described' w v a b s t) le = of_described d a b (value_kept d s (omega (arith, le))) (value_kept d t (omega (arith, le)))
