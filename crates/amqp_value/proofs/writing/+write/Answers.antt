use Rattle.std.proofs.Common.{◌≡◌, ℕ, ℤ, ◌*◌, ◌++◌, List, length, sym, ap, subst, ◌∙◌, arith, rules}
use Rattle.std.specs.Prelude.{OnOk}
use Rattle.std.specs.Int.{w8, w16, w32, w64}
use mir.Val.{SFits}
use Rattle.std.proofs.lemmas.Int.{to_z-of_z}
use Rattle.amqp_data.specs.declared.value.Value.{Value}
use Rattle.amqp_data.specs.Data.{Amqp, null, boolean, ubyte, ushort, uint, ulong, byte, short, int, long, char, timestamp, uuid, binary, string, symbol}
use Rattle.amqp_data.specs.Trees.{weight, items_weight}
use Rattle.amqp_data.specs.View.{view}
use Rattle.amqp_value.specs.Code.{list_number, map_number}
use Rattle.amqp_value.specs.Writing.{head, Puts, Wrote, IsWritable}
use Rattle.amqp_value.proofs.Rest.{lighter, lighter_entry}
use Rattle.amqp_value.proofs.Shortest.{scalar_put, binary_room, string_room, symbol_room}
use Rattle.amqp_value.proofs.Written.{first_writable, second_writable, described_put, list_writable, list_limits, no_values_put, values_put, item_put, item_writable, items_put, map_limits, entries_put, pair_put, key_writable, value_writable, pairs_put}
use Rattle.amqp_value.proofs.writing.+write.Goals as goal

pub put_described-put_value-requires : goal.put_described-put_value-requires
put_described-put_value-requires t c = (
  omega (arith, c.decreases, ap weight c.descriptor.ensures),
  subst IsWritable (sym c.descriptor.ensures) (first_writable c.args.described.now.0 c.args.described.now.1 c.requires),
)

pub put_described-put_value-requires-2 : goal.put_described-put_value-requires-2
put_described-put_value-requires-2 t c = (
  omega (arith, c.decreases, ap weight c.value.ensures),
  subst IsWritable (sym c.value.ensures) (second_writable c.args.described.now.0 c.args.described.now.1 c.requires),
)

pub put_described-returns : goal.put_described-returns
put_described-returns t c =
    described_put c.args.out.now c.push.new.self c.put_value.new.out c.put_value-2.new.out c.args.described.now.0 c.args.described.now.1 c.in_ok-push.ensures.ok (subst (λ (z : Amqp). Wrote c.push.new.self c.put_value.new.out z) c.descriptor.ensures c.in_ok-put_value.ensures)
    (subst (λ (z : Amqp). Wrote c.put_value.new.out c.put_value-2.new.out z) c.value.ensures c.in_ok-put_value-2.ensures)

pub put_items-put_value-requires : goal.put_items-put_value-requires
put_items-put_value-requires t c = (
  omega (arith, c.decreases, lighter c.args.values.now c.loop-value.value-index c.value-item.result c.loop-value-test.true c.value-item.is),
  item_writable c.args.out.now c.loop-value.out c.args.values.now c.loop-value.value-index c.value-item.result c.loop-value-test.true c.value-item.is c.loop-value.invariant,
)

pub put_items-loop-value-preserved : goal.put_items-loop-value-preserved
put_items-loop-value-preserved t c =
    item_put c.args.out.now c.loop-value.out c.put_value.new.out c.args.values.now c.loop-value.value-index c.value-item.result c.loop-value-test.true c.value-item.is c.loop-value.invariant c.in_ok-put_value.ensures

pub put_items-returns : goal.put_items-returns
put_items-returns t c = items_put c.args.out.now c.loop-value.out c.args.values.now c.loop-value.value-index (omega arith) c.loop-value.invariant

pub put_list-returns-then-is_empty : goal.put_list-returns-then-is_empty
put_list-returns-then-is_empty t c = no_values_put c.args.out.now c.push.new.self c.args.values.now (grind (arith, c.if-is_empty.ensures, c.is_empty.ensures, c.if-is_empty.true)) c.in_ok-push.ensures.ok

pub put_list-put_head-requires-clause-counted : goal.put_list-put_head-requires-clause-counted
put_list-put_head-requires-clause-counted t c = rw c.compound_width-width.ensures (let h = list_limits c.items_length-size.result c.args.values.now c.items_length-size.ensures in h.few)

pub put_list-returns : goal.put_list-returns
put_list-returns t c =
    let w = c.compound_width-width.result in
    let started : c.put_head.new.out ≡ c.args.out.now ++ head (list_number w) w (length c.args.values.now) c.items_length-size.result =
    c.in_ok-put_head.ensures ∙ ap (λ (z : ℕ). c.args.out.now ++ head z w (length c.args.values.now) c.items_length-size.result) c.list_byte.ensures in
    values_put c.args.out.now c.put_head.new.out c.put_items.new.out c.items_length-size.result w c.args.values.now (λ e. absurd (grind (arith, e, c.if-is_empty.ensures, c.is_empty.ensures, c.if-is_empty.false))) c.items_length-size.ensures c.compound_width-width.ensures started c.in_ok-put_items.ensures

pub put_map-put_head-requires-clause-counted : goal.put_map-put_head-requires-clause-counted
put_map-put_head-requires-clause-counted t c = rw c.compound_width-width.ensures (let h = map_limits c.args.size c.args.entries.now c.requires.sized in h.few)

pub put_map-returns : goal.put_map-returns
put_map-returns t c =
    let w = c.compound_width-width.result in
    let started : c.put_head.new.out ≡ c.args.out.now ++ head (map_number w) w (2 * length c.args.entries.now) c.args.size =
    c.in_ok-put_head.ensures ∙ ap (λ (z : ℕ). c.args.out.now ++ head z w (2 * length c.args.entries.now) c.args.size) c.map_byte.ensures in
    entries_put c.args.out.now c.put_head.new.out c.put_pairs.new.out c.args.size w c.args.entries.now c.requires.distinct c.requires.sized c.compound_width-width.ensures started c.in_ok-put_pairs.ensures

pub put_pairs-put_value-requires : goal.put_pairs-put_value-requires
put_pairs-put_value-requires t c = (
  omega (arith, c.decreases, lighter_entry c.args.entries.now c.loop-entry.entry-index c.entry-item.result c.loop-entry-test.true c.entry-item.is),
  key_writable c.args.out.now c.loop-entry.out c.args.entries.now c.loop-entry.entry-index c.entry-item.result c.loop-entry-test.true c.entry-item.is c.loop-entry.invariant,
)

pub put_pairs-put_value-requires-in-loop-entry : goal.put_pairs-put_value-requires-in-loop-entry
put_pairs-put_value-requires-in-loop-entry t c = (
  omega (arith, c.decreases, lighter_entry c.args.entries.now c.loop-entry.entry-index c.entry-item.result c.loop-entry-test.true c.entry-item.is),
  value_writable c.args.out.now c.loop-entry.out c.args.entries.now c.loop-entry.entry-index c.entry-item.result c.loop-entry-test.true c.entry-item.is c.loop-entry.invariant,
)

pub put_pairs-loop-entry-preserved : goal.put_pairs-loop-entry-preserved
put_pairs-loop-entry-preserved t c =
    pair_put c.args.out.now c.loop-entry.out c.put_value.new.out c.put_value-in-loop-entry.new.out c.args.entries.now c.loop-entry.entry-index c.entry-item.result c.loop-entry-test.true c.entry-item.is c.loop-entry.invariant c.in_ok-put_value.ensures c.in_ok-put_value-2.ensures

pub put_pairs-returns : goal.put_pairs-returns
put_pairs-returns t c = pairs_put c.args.out.now c.loop-entry.out c.args.entries.now c.loop-entry.entry-index (omega arith) c.loop-entry.invariant

-- ---- scalars

pub put_value-put_list-requires : goal.put_value-put_list-requires
put_value-put_list-requires t c = (
  omega (arith, c.decreases, ap (λ (z : Value). weight (view z)) c.in-List.is, ap items_weight c.as_slice-in-List.ensures),
  rw c.as_slice-in-List.ensures (list_writable c.in-List.list (subst (λ (z : Value). IsWritable (view z)) c.in-List.is c.requires)),
)

pub put_value-put_binary-requires : goal.put_value-put_binary-requires
put_value-put_binary-requires t c = rw c.as_slice.ensures (binary_room c.in-Binary.bytes (subst (λ (z : Value). IsWritable (view z)) c.in-Binary.is c.requires))

pub put_value-put_string-requires : goal.put_value-put_string-requires
put_value-put_string-requires t c = rw c.as_str.ensures (string_room c.in-String.text (subst (λ (z : Value). IsWritable (view z)) c.in-String.is c.requires))

pub put_value-put_symbol-requires-clause-room : goal.put_value-put_symbol-requires-clause-room
put_value-put_symbol-requires-clause-room t c = rw c.as_slice-in-Symbol.ensures.value (symbol_room c.in-Symbol.symbol (subst (λ (z : Value). IsWritable (view z)) c.in-Symbol.is c.requires))

pub put_value-returns-in-Null : goal.put_value-returns-in-Null
put_value-returns-in-Null t c = rw c.in-Null.is (scalar_put c.put_null.result c.args.out.now c.put_null.new.out null (subst (λ (z : Value). IsWritable (view z)) c.in-Null.is c.requires) c.put_null.ensures)

pub put_value-returns-in-Bool : goal.put_value-returns-in-Bool
put_value-returns-in-Bool t c = rw c.in-Bool.is (scalar_put c.put_bool.result c.args.out.now c.put_bool.new.out (boolean c.in-Bool.b) (subst (λ (z : Value). IsWritable (view z)) c.in-Bool.is c.requires) c.put_bool.ensures)

pub put_value-returns-in-Ubyte : goal.put_value-returns-in-Ubyte
put_value-returns-in-Ubyte t c = rw c.in-Ubyte.is (scalar_put c.put_ubyte.result c.args.out.now c.put_ubyte.new.out (ubyte c.in-Ubyte.n) (subst (λ (z : Value). IsWritable (view z)) c.in-Ubyte.is c.requires) c.put_ubyte.ensures)

pub put_value-returns-in-Ushort : goal.put_value-returns-in-Ushort
put_value-returns-in-Ushort t c = rw c.in-Ushort.is (scalar_put c.put_ushort.result c.args.out.now c.put_ushort.new.out (ushort c.in-Ushort.n) (subst (λ (z : Value). IsWritable (view z)) c.in-Ushort.is c.requires) c.put_ushort.ensures)

pub put_value-returns-in-Uint : goal.put_value-returns-in-Uint
put_value-returns-in-Uint t c = rw c.in-Uint.is (scalar_put c.put_uint.result c.args.out.now c.put_uint.new.out (uint c.in-Uint.n) (subst (λ (z : Value). IsWritable (view z)) c.in-Uint.is c.requires) c.put_uint.ensures)

pub put_value-returns-in-Ulong : goal.put_value-returns-in-Ulong
put_value-returns-in-Ulong t c = rw c.in-Ulong.is (scalar_put c.put_ulong.result c.args.out.now c.put_ulong.new.out (ulong c.in-Ulong.n) (subst (λ (z : Value). IsWritable (view z)) c.in-Ulong.is c.requires) c.put_ulong.ensures)

pub put_value-returns-in-Byte : goal.put_value-returns-in-Byte
put_value-returns-in-Byte t c =
    let f : SFits w8 c.in-Byte.n = search rules in
    rw c.in-Byte.is (scalar_put c.put_byte.result c.args.out.now c.put_byte.new.out (byte c.in-Byte.n) (subst (λ (z : Value). IsWritable (view z)) c.in-Byte.is c.requires) (subst (λ (z : ℤ). OnOk c.put_byte.result (Puts c.args.out.now c.put_byte.new.out (byte z))) (to_z-of_z w8 c.in-Byte.n f) c.put_byte.ensures))

pub put_value-returns-in-Short : goal.put_value-returns-in-Short
put_value-returns-in-Short t c =
    let f : SFits w16 c.in-Short.n = search rules in
    rw c.in-Short.is (scalar_put c.put_short.result c.args.out.now c.put_short.new.out (short c.in-Short.n) (subst (λ (z : Value). IsWritable (view z)) c.in-Short.is c.requires) (subst (λ (z : ℤ). OnOk c.put_short.result (Puts c.args.out.now c.put_short.new.out (short z))) (to_z-of_z w16 c.in-Short.n f) c.put_short.ensures))

pub put_value-returns-in-Int : goal.put_value-returns-in-Int
put_value-returns-in-Int t c =
    let f : SFits w32 c.in-Int.n = search rules in
    rw c.in-Int.is (scalar_put c.put_int.result c.args.out.now c.put_int.new.out (int c.in-Int.n) (subst (λ (z : Value). IsWritable (view z)) c.in-Int.is c.requires) (subst (λ (z : ℤ). OnOk c.put_int.result (Puts c.args.out.now c.put_int.new.out (int z))) (to_z-of_z w32 c.in-Int.n f) c.put_int.ensures))

pub put_value-returns-in-Long : goal.put_value-returns-in-Long
put_value-returns-in-Long t c =
    let f : SFits w64 c.in-Long.n = search rules in
    rw c.in-Long.is (scalar_put c.put_long.result c.args.out.now c.put_long.new.out (long c.in-Long.n) (subst (λ (z : Value). IsWritable (view z)) c.in-Long.is c.requires) (subst (λ (z : ℤ). OnOk c.put_long.result (Puts c.args.out.now c.put_long.new.out (long z))) (to_z-of_z w64 c.in-Long.n f) c.put_long.ensures))

pub put_value-returns-in-Char : goal.put_value-returns-in-Char
put_value-returns-in-Char t c = rw c.in-Char.is (scalar_put c.put_character.result c.args.out.now c.put_character.new.out (char c.in-Char.c) (subst (λ (z : Value). IsWritable (view z)) c.in-Char.is c.requires) c.put_character.ensures)

pub put_value-returns-in-Timestamp : goal.put_value-returns-in-Timestamp
put_value-returns-in-Timestamp t c =
    let f : SFits w64 c.in-Timestamp.time.milliseconds = search rules in
    rw c.in-Timestamp.is (scalar_put c.put_timestamp.result c.args.out.now c.put_timestamp.new.out (timestamp c.in-Timestamp.time.milliseconds) (subst (λ (z : Value). IsWritable (view z)) c.in-Timestamp.is c.requires) (subst (λ (z : ℤ). OnOk c.put_timestamp.result (Puts c.args.out.now c.put_timestamp.new.out (timestamp z))) (to_z-of_z w64 c.in-Timestamp.time.milliseconds f) c.put_timestamp.ensures))

pub put_value-returns-in-Uuid : goal.put_value-returns-in-Uuid
put_value-returns-in-Uuid t c = rw c.in-Uuid.is (scalar_put c.put_identifier.result c.args.out.now c.put_identifier.new.out (uuid c.in-Uuid.identifier.bytes) (subst (λ (z : Value). IsWritable (view z)) c.in-Uuid.is c.requires) c.put_identifier.ensures)

pub put_value-returns-in-Binary : goal.put_value-returns-in-Binary
put_value-returns-in-Binary t c = rw c.in-Binary.is (scalar_put c.put_binary.result c.args.out.now c.put_binary.new.out (binary c.in-Binary.bytes) (subst (λ (z : Value). IsWritable (view z)) c.in-Binary.is c.requires) (subst (λ (z : List ℕ). OnOk c.put_binary.result (Puts c.args.out.now c.put_binary.new.out (binary z))) c.as_slice.ensures c.put_binary.ensures))

pub put_value-returns-in-String : goal.put_value-returns-in-String
put_value-returns-in-String t c = rw c.in-String.is (scalar_put c.put_string.result c.args.out.now c.put_string.new.out (string c.in-String.text) (subst (λ (z : Value). IsWritable (view z)) c.in-String.is c.requires) (subst (λ (z : List ℕ). OnOk c.put_string.result (Puts c.args.out.now c.put_string.new.out (string z))) c.as_str.ensures c.put_string.ensures))

pub put_value-returns-in-Symbol : goal.put_value-returns-in-Symbol
put_value-returns-in-Symbol t c = rw c.in-Symbol.is (scalar_put c.put_symbol.result c.args.out.now c.put_symbol.new.out (symbol c.in-Symbol.symbol) (subst (λ (z : Value). IsWritable (view z)) c.in-Symbol.is c.requires) (subst (λ (z : List ℕ). OnOk c.put_symbol.result (Puts c.args.out.now c.put_symbol.new.out (symbol z))) c.as_slice-in-Symbol.ensures.value c.put_symbol.ensures))
