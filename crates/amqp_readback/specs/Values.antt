-- What a value is.
use Rattle.amqp_data.specs.Data.{Amqp, Items, Pairs, scalar, list, dict, array, described, no_items, item, no_pairs, pair, AreOfKind, HasDistinctKeys}
use Rattle.amqp_value.specs.Writing.{IsInRange}

-- each scalar is one of its kind, the items of an array are of its kind, and no key of a map comes twice
unfoldable mutual
  pub IsValue : Amqp → Type 0
  IsValue (scalar s) = IsInRange s
  IsValue (list vs) = AreValues vs
  IsValue (dict ps) = AreValuePairs ps × HasDistinctKeys ps
  IsValue (array k vs) = AreValues vs × AreOfKind k vs
  IsValue (described d v) = IsValue d × IsValue v

  pub AreValues : Items → Type 0
  AreValues no_items = Unit {0}
  AreValues (item v vs) = IsValue v × AreValues vs

  pub AreValuePairs : Pairs → Type 0
  AreValuePairs no_pairs = Unit {0}
  AreValuePairs (pair k v ps) = IsValue k × IsValue v × AreValuePairs ps
