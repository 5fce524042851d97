-- Each part of a value is smaller than the value.
use Rattle.std.specs.Prelude.{◌≤◌, List as Listed, [], ◌∷◌}
use Rattle.std.proofs.Common.{arith}
use denote.Param.Weighed.{most}
use Rattle.amqp_data.specs.Trees.{weight, items_weight, pairs_weight}
use Rattle.amqp_data.specs.View.{view, items_view, pairs_view}
use Rattle.amqp_data.specs.declared.value.Value.{Value}
use Rattle.amqp_data.specs.declared.value.Entry.{Entry}
use Rattle.amqp_data.specs.declared.value.Value.TheVariants as v
use Rattle.amqp_data.specs.declared.value.Described.TheDeep.{deep-Value, deep-Entry}

pub value_falls : (x : Value) → deep-Value x ≤ weight (view x)
value_falls v.Null = omega arith
value_falls (v.Bool b) = omega arith
value_falls (v.Ubyte n) = omega arith
value_falls (v.Ushort n) = omega arith
value_falls (v.Uint n) = omega arith
value_falls (v.Ulong n) = omega arith
value_falls (v.Byte n) = omega arith
value_falls (v.Short n) = omega arith
value_falls (v.Int n) = omega arith
value_falls (v.Long n) = omega arith
value_falls (v.Char c) = omega arith
value_falls (v.Timestamp t) = omega arith
value_falls (v.Uuid u) = omega arith
value_falls (v.Binary s) = omega arith
value_falls (v.String s) = omega arith
value_falls (v.Symbol s) = omega arith
value_falls (v.List vs) = omega arith
value_falls (v.Map ps) = omega arith
value_falls (v.Array a) = omega arith
value_falls (v.Described d) = omega arith

pub items_fall : (vs : Listed Value) → most deep-Value vs ≤ items_weight (items_view vs)
items_fall [] = omega arith
items_fall (x ∷ xs) = omega (arith, value_falls x, items_fall xs)

pub pairs_fall : (ps : Listed Entry) → most deep-Entry ps ≤ pairs_weight (pairs_view ps)
pairs_fall [] = omega arith
pairs_fall (p ∷ ps) = omega (arith, value_falls p.key, value_falls p.value, pairs_fall ps)
