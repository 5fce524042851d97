-- A described value: its descriptor, and what stands behind it.
use Rattle.std.proofs.Common.{◌≡◌, List, ℕ, [], ◌∷◌, ◌++◌, Option, Some, None, refl, ap}
use Rattle.amqp_data.specs.Data.{Amqp, Items, scalar, list, dict, array, described}
use Rattle.amqp_composites.specs.declared.kind.CompositeKind.{CompositeKind}
use Rattle.amqp_composites.specs.Described.{kind_in}
use Rattle.amqp_shown.specs.Values.{value_text, content_text, tag_text, listed, names_in, fields_text, items_text}

listed_is : (o : Option CompositeKind) (tag : List ℕ) (vs : Items) → listed o tag (fields_text (names_in o) 0 vs) (91 ∷ items_text 0 vs ++ 93 ∷ []) ≡ tag_text o tag ++ content_text (list vs) o
listed_is (Some k) tag vs = refl
listed_is None tag vs = refl

pub described_is : (d v : Amqp) → value_text (described d v) ≡ 40 ∷ tag_text (kind_in d) (value_text d) ++ content_text v (kind_in d) ++ 41 ∷ []
described_is d (scalar s) = refl
described_is d (dict ps) = refl
described_is d (array k vs) = refl
described_is d (described e w) = refl
described_is d (list vs) = ap (λ (z : List ℕ). 40 ∷ z ++ 41 ∷ []) (listed_is (kind_in d) (value_text d) vs)
