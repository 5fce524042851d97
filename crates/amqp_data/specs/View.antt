-- The data that a `Value` stands for.
use Rattle.std.specs.Prelude.{List as Listed, [], ◌∷◌}
use Rattle.amqp_data.specs.Data.{Amqp, Items, Pairs, scalar, null, boolean, ubyte, ushort, uint, ulong, byte, short, int, long, char, timestamp, uuid, binary, string, symbol, list, dict, array, described, no_items, item, no_pairs, pair}
use Rattle.amqp_data.specs.declared.value.Value.{Value}
use Rattle.amqp_data.specs.declared.value.Entry.{Entry}
use Rattle.amqp_data.specs.declared.value.Value.TheVariants as v

abbrev pub view : Value → Amqp
view v.Null = scalar null
view (v.Bool b) = scalar (boolean b)
view (v.Ubyte n) = scalar (ubyte n)
view (v.Ushort n) = scalar (ushort n)
view (v.Uint n) = scalar (uint n)
view (v.Ulong n) = scalar (ulong n)
view (v.Byte n) = scalar (byte n)
view (v.Short n) = scalar (short n)
view (v.Int n) = scalar (int n)
view (v.Long n) = scalar (long n)
view (v.Char c) = scalar (char c)
view (v.Timestamp t) = scalar (timestamp t.milliseconds)
view (v.Uuid u) = scalar (uuid u.bytes)
view (v.Binary s) = scalar (binary s)
view (v.String s) = scalar (string s)
view (v.Symbol s) = scalar (symbol s)
view (v.List vs) = list vs
view (v.Map ps) = dict ps
view (v.Array a) = array a.0 a.1
view (v.Described d) = described d.0 d.1

abbrev pub items_view : Listed Value → Items
items_view [] = no_items
items_view (v ∷ vs) = item (view v) (items_view vs)

abbrev pub pairs_view : Listed Entry → Pairs
pairs_view [] = no_pairs
pairs_view (p ∷ ps) = pair (view p.key) (view p.value) (pairs_view ps)
