-- The elements of an array, behind their constructor.
use Rattle.std.proofs.Common.{◌<◌, ◌≤◌, true, false, length, subst, arith}
use Rattle.std.specs.Prelude.{IsSome}
use Rattle.std.proofs.lemmas.Bool.{false≢true}
use Rattle.std.proofs.lemmas.List.{length-append}
use Rattle.amqp_data.specs.Data.{Scalar, null, boolean, ubyte, ushort, uint, ulong, byte, short, int, long, char, timestamp, uuid, binary, string, symbol, Items, scalar, list, dict, array, described, no_items, item, count, kind_of}
use Rattle.amqp_value.specs.declared.code.SizeWidth.{SizeWidth}
use Rattle.amqp_value.specs.declared.code.ScalarCode.{ScalarCode}
use Rattle.amqp_value.specs.Grammar.{Lays, LaysAll, no_elements, more_elements, boolean_true, boolean_false, ubyte', ushort', uint', ulong', byte', short', int', long', char', timestamp', uuid', binary', string', symbol'}
use Rattle.amqp_value.specs.Canonical.{laid, elements}
use Rattle.amqp_value.specs.Writing.{octet_count, width_in, code_for, IsBehind, AreBehind, HasRoom, HaveRoom, IsInRange}
use Rattle.amqp_value.specs.declared.code.SizeWidth.TheVariants.{One, Four}
use Rattle.amqp_value.proofs.Lengths.{length-block}
use Rattle.amqp_readback.specs.Values.{IsValue, AreValues}

-- an element in its room is laid out behind the constructor of its kind
element_lays : (w : SizeWidth) (s : Scalar) → IsInRange s → HasRoom w (scalar s) → IsSome (kind_of s) → Lays (code_for w s) (laid (code_for w s) s) s
unfolding laid
element_lays w null h r i = absurd (false≢true i)
element_lays w (boolean true) h r i = boolean_true
element_lays w (boolean false) h r i = boolean_false
element_lays w (ubyte n) h r i = ubyte' n h
element_lays w (ushort n) h r i = ushort' n h
element_lays w (uint n) h r i = uint' n h
element_lays w (ulong n) h r i = ulong' n h
element_lays w (byte n) h r i = byte' n h
element_lays w (short n) h r i = short' n h
element_lays w (int n) h r i = int' n h
element_lays w (long n) h r i = long' n h
element_lays w (char n) h r i = char' n h
element_lays w (timestamp n) h r i = timestamp' n h
element_lays w (uuid u) h r i = uuid' u h
element_lays w (binary s) h r i = binary' w s r
element_lays w (string s) h r i = string' w s h r
element_lays w (symbol s) h r i = symbol' w s h r

octets_some : (w : SizeWidth) → 0 < octet_count w
octets_some One = omega arith
octets_some Four = omega arith

-- an element takes a byte at least
element_pos : (w : SizeWidth) (s : Scalar) → IsInRange s → IsSome (kind_of s) → 0 < length (laid (code_for w s) s)
unfolding laid
element_pos w null h i = absurd (false≢true i)
element_pos w (boolean b) h i = omega arith
element_pos w (ubyte n) h i = omega arith
element_pos w (ushort n) h i = omega arith
element_pos w (uint n) h i = omega arith
element_pos w (ulong n) h i = omega arith
element_pos w (byte n) h i = omega arith
element_pos w (short n) h i = omega arith
element_pos w (int n) h i = omega arith
element_pos w (long n) h i = omega arith
element_pos w (char n) h i = omega arith
element_pos w (timestamp n) h i = omega arith
element_pos w (uuid u) h i = omega (arith, h)
element_pos w (binary s) h i = omega (arith, octets_some w, length-block w s)
element_pos w (string s) h i = omega (arith, octets_some w, length-block w s)
element_pos w (symbol s) h i = omega (arith, octets_some w, length-block w s)

at_code : (c : ScalarCode) (s : Scalar) → IsBehind c (scalar s) → IsInRange s → 0 < length (laid c s)
at_code c s b h = subst (λ (z : ScalarCode). 0 < length (laid z s)) b.0 (element_pos (width_in c) s h b.1)

-- so do all of them
pub count_elements : (c : ScalarCode) (vs : Items) → AreValues vs → AreBehind c vs → count vs ≤ length (elements c vs)
unfolding IsValue
count_elements c no_items h b = omega arith
count_elements c (item (scalar s) vs) h b = omega (arith, at_code c s b.0 h.0, count_elements c vs h.1 b.1, length-append (laid c s) (elements c vs))
count_elements c (item (list ws) vs) h b = absurd b.0
count_elements c (item (dict ps) vs) h b = absurd b.0
count_elements c (item (array e ws) vs) h b = absurd b.0
count_elements c (item (described d v) vs) h b = absurd b.0

-- the elements are laid out one after another
pub elements_lay : (c : ScalarCode) (vs : Items) → AreValues vs → AreBehind c vs → HaveRoom (width_in c) vs → LaysAll c (elements c vs) vs
unfolding IsValue
elements_lay c no_items h b r = no_elements c
elements_lay c (item (scalar s) vs) h b r =
    let lays : Lays c (laid c s) s = subst (λ (z : ScalarCode). Lays z (laid z s) s) b.0.0 (element_lays (width_in c) s h.0 r.0 b.0.1) in
    more_elements c s vs (laid c s) (elements c vs) lays (elements_lay c vs h.1 b.1 r.1)
elements_lay c (item (list ws) vs) h b r = absurd b.0
elements_lay c (item (dict ps) vs) h b r = absurd b.0
elements_lay c (item (array e ws) vs) h b r = absurd b.0
elements_lay c (item (described d v) vs) h b r = absurd b.0
