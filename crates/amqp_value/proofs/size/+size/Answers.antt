use Rattle.std.proofs.Common.{ℕ, ℤ, List, None, length, ap, subst, ◌∙◌, arith, rules}
use mir.Val.{SFits}
use Rattle.std.specs.Int.{w32, w64}
use Rattle.std.proofs.lemmas.Int.{to_z-of_z}
use Rattle.amqp_data.specs.Data.{Amqp, uint, ulong, int, long}
use Rattle.amqp_value.specs.Canonical.{canonical_scalar}
use Rattle.amqp_data.specs.View.{items_view, pairs_view}
use Rattle.amqp_value.specs.Writing.{IsLength, Measures, MeasuresBlock}
use Rattle.amqp_value.proofs.Rest.{lighter, lighter_entry}
use Rattle.amqp_value.proofs.Sizes.{scalar_is, null_is, boolean_is, ubyte_is, byte_is, ushort_is, short_is, char_is, timestamp_is, uuid_is, binary_measured, string_measured, symbol_measured, first_unmeasured, second_unmeasured, described_sum, values_empty, values_are, list_unmeasured, items_go, item_stops, items_too_long, items_end, entries_are, map_unmeasured, pairs_go, pair_stops, pairs_too_long, pairs_end}
use Rattle.amqp_value.proofs.size.+size.Goals as goal

pub described_size-returns-in_err-descriptor : goal.described_size-returns-in_err-descriptor
described_size-returns-in_err-descriptor t c =
    rw c.from_residual.ensures (first_unmeasured c.args.described.now.0 c.args.described.now.1 (subst (λ (z : Amqp). Measures None z) c.descriptor.ensures c.in_err-descriptor.ensures))

pub described_size-returns-in_err-value : goal.described_size-returns-in_err-value
described_size-returns-in_err-value t c =
    rw c.from_residual-in_err-value.ensures (second_unmeasured c.args.described.now.0 c.args.described.now.1 (subst (λ (z : Amqp). Measures None z) c.value.ensures c.in_err-value.ensures))

pub described_size-returns : goal.described_size-returns
described_size-returns t c =
    described_sum c.checked_add-2.result c.args.described.now.0 c.args.described.now.1 c.in_ok-descriptor.descriptor c.in_ok-value.value c.in_ok-checked_add.field-0 (subst (λ (z : Amqp). IsLength c.in_ok-descriptor.descriptor z) c.descriptor.ensures c.in_ok-descriptor.ensures) (subst (λ (z : Amqp). IsLength c.in_ok-value.value z) c.value.ensures c.in_ok-value.ensures) c.in_ok-checked_add.ensures.1 c.checked_add-2.ensures

pub items_size-value_size-requires : goal.items_size-value_size-requires
items_size-value_size-requires t c = (omega (arith, c.decreases, lighter c.args.values.now c.loop-value.value-index c.value-item.result c.loop-value-test.true c.value-item.is), tt)

pub items_size-returns-in_err-size : goal.items_size-returns-in_err-size
items_size-returns-in_err-size t c =
    rw c.from_residual.ensures (item_stops c.loop-value.total c.args.values.now c.loop-value.value-index c.value-item.result c.loop-value-test.true c.value-item.is c.loop-value.invariant c.in_err-size.ensures)

pub items_size-returns-then-size-total : goal.items_size-returns-then-size-total
items_size-returns-then-size-total t c =
    items_too_long c.loop-value.total c.in_ok-size.size c.args.values.now c.loop-value.value-index c.value-item.result c.loop-value-test.true c.value-item.is c.loop-value.invariant c.in_ok-size.ensures (omega (arith, c.if-size-total.true))

pub items_size-loop-value-preserved : goal.items_size-loop-value-preserved
items_size-loop-value-preserved t c =
    items_go c.loop-value.total c.in_ok-size.size c.args.values.now c.loop-value.value-index c.value-item.result c.loop-value-test.true c.value-item.is c.loop-value.invariant c.in_ok-size.ensures (omega (arith, c.if-size-total.false))

pub items_size-returns : goal.items_size-returns
items_size-returns t c = items_end c.loop-value.total c.args.values.now c.loop-value.value-index (omega arith) c.loop-value.invariant

pub list_size-returns-then-is_empty : goal.list_size-returns-then-is_empty
list_size-returns-then-is_empty t c = values_empty c.args.values.now (grind (arith, c.if-is_empty.ensures, c.is_empty.ensures, c.if-is_empty.true))

pub list_size-returns-in_err-items : goal.list_size-returns-in_err-items
list_size-returns-in_err-items t c = rw c.from_residual.ensures (list_unmeasured (items_view c.args.values.now) c.in_err-items.ensures)

pub list_size-returns : goal.list_size-returns
list_size-returns t c =
    values_are c.compound_size.result c.in_ok-items.items c.args.values.now (λ e. absurd (grind (arith, e, c.if-is_empty.ensures, c.is_empty.ensures, c.if-is_empty.false))) c.in_ok-items.ensures c.compound_size.ensures

pub map_size-returns-in_err-items : goal.map_size-returns-in_err-items
map_size-returns-in_err-items t c = rw c.from_residual.ensures (map_unmeasured (pairs_view c.args.entries.now) c.in_err-items.ensures)

pub map_size-returns : goal.map_size-returns
map_size-returns t c = entries_are c.compound_size.result c.in_ok-items.items c.args.entries.now c.in_ok-items.ensures c.compound_size.ensures

pub pairs_size-entry_size-requires : goal.pairs_size-entry_size-requires
pairs_size-entry_size-requires t c = (omega (arith, c.decreases, lighter_entry c.args.entries.now c.loop-entry.entry-index c.entry-item.result c.loop-entry-test.true c.entry-item.is), tt)

pub pairs_size-returns-in_err-size : goal.pairs_size-returns-in_err-size
pairs_size-returns-in_err-size t c =
    rw c.from_residual.ensures (pair_stops c.loop-entry.total c.args.entries.now c.loop-entry.entry-index c.entry-item.result c.loop-entry-test.true c.entry-item.is c.loop-entry.invariant c.in_err-size.ensures)

pub pairs_size-returns-then-size-total : goal.pairs_size-returns-then-size-total
pairs_size-returns-then-size-total t c =
    pairs_too_long c.loop-entry.total c.in_ok-size.size c.args.entries.now c.loop-entry.entry-index c.entry-item.result c.loop-entry-test.true c.entry-item.is c.loop-entry.invariant c.in_ok-size.ensures (omega (arith, c.if-size-total.true))

pub pairs_size-loop-entry-preserved : goal.pairs_size-loop-entry-preserved
pairs_size-loop-entry-preserved t c =
    pairs_go c.loop-entry.total c.in_ok-size.size c.args.entries.now c.loop-entry.entry-index c.entry-item.result c.loop-entry-test.true c.entry-item.is c.loop-entry.invariant c.in_ok-size.ensures (omega (arith, c.if-size-total.false))

pub pairs_size-returns : goal.pairs_size-returns
pairs_size-returns t c = pairs_end c.loop-entry.total c.args.entries.now c.loop-entry.entry-index (omega arith) c.loop-entry.invariant

pub value_size-returns-in-Null : goal.value_size-returns-in-Null
value_size-returns-in-Null t c = rw c.in-Null.is null_is

pub value_size-returns-in-Bool : goal.value_size-returns-in-Bool
value_size-returns-in-Bool t c = rw c.in-Bool.is (boolean_is c.in-Bool.field-0)

pub value_size-returns-in-Ubyte : goal.value_size-returns-in-Ubyte
value_size-returns-in-Ubyte t c = rw c.in-Ubyte.is (ubyte_is c.in-Ubyte.field-0)

pub value_size-returns-in-Ushort : goal.value_size-returns-in-Ushort
value_size-returns-in-Ushort t c = rw c.in-Ushort.is (ushort_is c.in-Ushort.field-0)

pub value_size-returns-in-Uint : goal.value_size-returns-in-Uint
value_size-returns-in-Uint t c = rw c.in-Uint.is (scalar_is c.uint_size.result (uint c.in-Uint.n) c.uint_size.ensures.value tt (omega (arith, c.uint_size.ensures.small)))

pub value_size-returns-in-Ulong : goal.value_size-returns-in-Ulong
value_size-returns-in-Ulong t c = rw c.in-Ulong.is (scalar_is c.ulong_size.result (ulong c.in-Ulong.n) c.ulong_size.ensures.value tt (omega (arith, c.ulong_size.ensures.small)))

pub value_size-returns-in-Byte : goal.value_size-returns-in-Byte
value_size-returns-in-Byte t c = rw c.in-Byte.is (byte_is c.in-Byte.field-0)

pub value_size-returns-in-Short : goal.value_size-returns-in-Short
value_size-returns-in-Short t c = rw c.in-Short.is (short_is c.in-Short.field-0)

pub value_size-returns-in-Int : goal.value_size-returns-in-Int
value_size-returns-in-Int t c =
    let f : SFits w32 c.in-Int.n = search rules in
    rw c.in-Int.is (scalar_is c.int_size.result (int c.in-Int.n) (c.int_size.ensures.value ∙ ap (λ (z : ℤ). length (canonical_scalar (int z))) (to_z-of_z w32 c.in-Int.n f)) tt (omega (arith, c.int_size.ensures.small)))

pub value_size-returns-in-Long : goal.value_size-returns-in-Long
value_size-returns-in-Long t c =
    let f : SFits w64 c.in-Long.n = search rules in
    rw c.in-Long.is (scalar_is c.long_size.result (long c.in-Long.n) (c.long_size.ensures.value ∙ ap (λ (z : ℤ). length (canonical_scalar (long z))) (to_z-of_z w64 c.in-Long.n f)) tt (omega (arith, c.long_size.ensures.small)))

pub value_size-returns-in-Char : goal.value_size-returns-in-Char
value_size-returns-in-Char t c = rw c.in-Char.is (char_is c.in-Char.field-0)

pub value_size-returns-in-Timestamp : goal.value_size-returns-in-Timestamp
value_size-returns-in-Timestamp t c = rw c.in-Timestamp.is (timestamp_is c.in-Timestamp.field-0.milliseconds)

pub value_size-returns-in-Uuid : goal.value_size-returns-in-Uuid
value_size-returns-in-Uuid t c = rw c.in-Uuid.is (uuid_is c.uuid_size.result c.in-Uuid.uuid.bytes c.uuid_size.ensures.value c.uuid_size.ensures.sixteen)

pub value_size-returns-in-Binary : goal.value_size-returns-in-Binary
value_size-returns-in-Binary t c = rw c.in-Binary.is (binary_measured c.block_size.result c.in-Binary.bytes (subst (λ (z : List ℕ). MeasuresBlock c.block_size.result z) c.as_slice.ensures c.block_size.ensures))

pub value_size-returns-in-String : goal.value_size-returns-in-String
value_size-returns-in-String t c = rw c.in-String.is (string_measured c.block_size-in-String.result c.in-String.text (subst (λ (z : List ℕ). MeasuresBlock c.block_size-in-String.result z) c.as_bytes.ensures c.block_size-in-String.ensures))

pub value_size-returns-in-Symbol : goal.value_size-returns-in-Symbol
value_size-returns-in-Symbol t c = rw c.in-Symbol.is (symbol_measured c.block_size-in-Symbol.result c.in-Symbol.symbol (subst (λ (z : List ℕ). MeasuresBlock c.block_size-in-Symbol.result z) c.as_slice-in-Symbol.ensures.value c.block_size-in-Symbol.ensures))
