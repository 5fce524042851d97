-- The size of a map.
use Rattle.std.proofs.Common.{◌≡◌, ℕ, suc, ◌+◌, ◌-◌, ◌*◌, ◌<◌, ◌≤◌, ◌^◌, List, [], ◌∷◌, ◌++◌, length, get_or, drop, Option, Some, None, refl, sym, ap, subst, ◌∙◌, arith}
use Rattle.std.proofs.lemmas.List.{length-append, drop_more, drop_all}
use Rattle.amqp_data.specs.Data.{Amqp, Pairs, dict, no_pairs, pair, pair_count, pairs_depth}
use Rattle.amqp_value.specs.declared.code.SizeWidth.TheVariants.{Four}
use Rattle.amqp_value.specs.Code.{map_number}
use Rattle.amqp_value.specs.Canonical.{canonical, canonical_pairs, IsSized, ArePairsSized}
use Rattle.amqp_value.specs.Writing.{compound_length}
use Rattle.amqp_value.proofs.Lengths.{length-compound, length-content}
use Rattle.amqp_fields.specs.Fields.{of_binary, maybe}
use Rattle.amqp_described.specs.Writing.{Fits}
use Rattle.amqp_termini.specs.declared.unsettled.UnsettledDelivery.{UnsettledDelivery}
use Rattle.amqp_termini.specs.State.{of_state}
use Rattle.amqp_termini.specs.Unsettled.{pairs_of}
use Rattle.amqp_sizes.specs.Taken.{HasSize, PairsTake}
use Rattle.amqp_sizes.specs.Texts.{HasPairSize, TakesPair}

pub count_deliveries : (us : List UnsettledDelivery) → pair_count (pairs_of us) ≡ length us
count_deliveries [] = refl
count_deliveries (u ∷ us) = ap suc (count_deliveries us)

pub rest_deliveries : (us : List UnsettledDelivery) (i : ℕ) (u : UnsettledDelivery) → i < length us → u ≡ get_or us i u → pairs_of (drop i us) ≡ pair (of_binary u.delivery_tag) (maybe of_state u.state) (pairs_of (drop (i + 1) us))
rest_deliveries us i u lt is = ap pairs_of (drop_more us i u lt) ∙ ap (λ (z : UnsettledDelivery). pair (of_binary z.delivery_tag) (maybe of_state z.state) (pairs_of (drop (i + 1) us))) (sym is)

pub no_rest_deliveries : (us : List UnsettledDelivery) (i : ℕ) → length us ≤ i → pairs_of (drop i us) ≡ no_pairs
no_rest_deliveries us i le = ap pairs_of (drop_all i us le)

-- ---- a key and its value

pub pair_is : (k v : Amqp) (a b levels : ℕ) (r : Option ℕ) → HasSize a levels k → HasSize b levels v → r ≡ Some (a + b) → TakesPair r levels k v
pair_is k v a b levels r h g e = subst (λ (z : Option ℕ). TakesPair z levels k v) (sym e) (record { bytes = omega (arith, h.is, g.is); key = h.fits; value = g.fits })

pub pair_long : (k v : Amqp) (a b levels : ℕ) → HasSize a levels k → HasSize b levels v → 2 ^ 64 ≤ a + b → TakesPair None levels k v
pair_long k v a b levels h g le = λ x y lt. absurd (omega (arith, h.is, g.is, le, lt))

-- ---- one after another

-- total is the length of all keys and values but the rest, and all but the rest nest within the levels
pub record SizingPairs (total levels : ℕ) (rest all : Pairs) : Type 0 where
  pub is : total + length (canonical_pairs rest) ≡ length (canonical_pairs all)
  pub sized : ArePairsSized rest → ArePairsSized all
  pub parts : ArePairsSized all → ArePairsSized rest
  pub nests : pairs_depth rest ≤ levels → pairs_depth all ≤ levels
  pub shallow : pairs_depth rest ≤ pairs_depth all
  pub below : 4 + total < 2 ^ 32

pub pairs_start : (levels : ℕ) (ps : Pairs) → SizingPairs 0 levels ps ps
pairs_start levels ps = record { is = omega arith; sized = λ z. z; parts = λ z. z; nests = λ z. z; shallow = omega arith; below = omega arith }

pair_length : (k v : Amqp) (rest : Pairs) → length (canonical_pairs (pair k v rest)) ≡ length (canonical k) + length (canonical v) + length (canonical_pairs rest)
unfolding canonical
pair_length k v rest = omega (arith, length-append (canonical k) (canonical v ++ canonical_pairs rest), length-append (canonical v) (canonical_pairs rest))

pub pairs_go : (total n t levels : ℕ) (k v : Amqp) (now rest all : Pairs) → now ≡ pair k v rest → SizingPairs total levels now all → HasPairSize n levels k v → t ≡ total + n → 4 + t < 2 ^ 32 → SizingPairs t levels rest all
unfolding IsSized
pairs_go total n t levels k v now rest all e s g is lt =
    let h : SizingPairs total levels (pair k v rest) all = subst (λ (z : Pairs). SizingPairs total levels z all) e s in
    record {
      is = omega (arith, h.is, g.bytes, is, pair_length k v rest);
      sized = λ z. h.sized (g.key.sized, g.value.sized, z);
      parts = λ z. (h.parts z).2;
      nests = λ z. h.nests (omega (arith, g.key.nests, g.value.nests, z));
      shallow = omega (arith, h.shallow);
      below = lt;
    }

pub pair_stops : (total levels : ℕ) (k v : Amqp) (now rest all : Pairs) → now ≡ pair k v rest → SizingPairs total levels now all → TakesPair None levels k v → PairsTake None levels all
unfolding IsSized
pair_stops total levels k v now rest all e s g = λ f.
    let h : SizingPairs total levels (pair k v rest) all = subst (λ (z : Pairs). SizingPairs total levels z all) e s in
    let p = h.parts f.sized in
    g (record { sized = p.0; nests = omega (arith, h.shallow, f.nests) }) (record { sized = p.1; nests = omega (arith, h.shallow, f.nests) }) (omega (arith, h.is, f.short, pair_length k v rest))

pub pairs_long : (total n levels : ℕ) (k v : Amqp) (now rest all : Pairs) → now ≡ pair k v rest → SizingPairs total levels now all → HasPairSize n levels k v → 2 ^ 32 ≤ 4 + (total + n) → PairsTake None levels all
pairs_long total n levels k v now rest all e s g le = λ f.
    let h : SizingPairs total levels (pair k v rest) all = subst (λ (z : Pairs). SizingPairs total levels z all) e s in
    absurd (omega (arith, h.is, g.bytes, le, f.short, pair_length k v rest))

pub pairs_end : (total levels : ℕ) (now all : Pairs) → now ≡ no_pairs → SizingPairs total levels now all → PairsTake (Some total) levels all
unfolding canonical IsSized
pairs_end total levels now all e s =
    let h : SizingPairs total levels no_pairs all = subst (λ (z : Pairs). SizingPairs total levels z all) e s in
    record { bytes = omega (arith, h.is); fit = record { sized = h.sized tt; short = omega (arith, h.is, h.below); nests = h.nests (omega arith) } }

-- ---- the map

pub map_is : (n size count levels : ℕ) (ps : Pairs) → (levels ≡ 0 → ⊥) → PairsTake (Some size) (levels - 1) ps → pair_count ps ≡ count → n ≡ compound_length (2 * count) size → HasSize n levels (dict ps)
unfolding canonical IsSized
map_is n size count levels ps pos h few e = record {
  is = e ∙ ap (λ (z : ℕ). compound_length (2 * z) size) (sym few) ∙ ap (compound_length (2 * pair_count ps)) h.bytes ∙ sym (length-compound map_number (2 * pair_count ps) (canonical_pairs ps));
  fits = record {
    sized = (h.fit.sized, omega (arith, h.fit.short, length-content Four (2 * pair_count ps) (canonical_pairs ps)));
    nests = omega (arith, h.fit.nests, pos);
  };
}

pub map_shallow : (ps : Pairs) (levels : ℕ) → levels ≡ 0 → Fits levels (dict ps) → ⊥
map_shallow ps levels e f = absurd (omega (arith, f.nests, e))

pub map_refused : (levels : ℕ) (ps : Pairs) → PairsTake None (levels - 1) ps → Fits levels (dict ps) → ⊥
unfolding IsSized
map_refused levels ps h f = h (record {
  sized = f.sized.0;
  short = omega (arith, f.sized.1, length-content Four (2 * pair_count ps) (canonical_pairs ps));
  nests = omega (arith, f.nests);
})
