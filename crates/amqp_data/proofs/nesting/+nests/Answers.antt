use Rattle.std.proofs.Common.{arith}
use Rattle.amqp_data.proofs.Nests.{item_within, items_more, entry_within, entries_more}
use Rattle.amqp_data.proofs.nesting.+nests.Goals as goal

pub values_nest_within-returns-then-not-nests_within : goal.values_nest_within-returns-then-not-nests_within
values_nest_within-returns-then-not-nests_within t c =
    grind (arith, c.nests_within.ensures, c.if-not-nests_within.true, item_within c.args.values.now c.loop-value.value-index c.value-item.result c.loop-value-test.true c.value-item.is)

pub values_nest_within-loop-value-preserved : goal.values_nest_within-loop-value-preserved
values_nest_within-loop-value-preserved t c =
    items_more c.args.values.now c.loop-value.value-index c.value-item.result c.args.levels c.loop-value-test.true c.value-item.is c.loop-value.invariant (grind (arith, c.nests_within.ensures, c.if-not-nests_within.false))

pub entries_nest_within-returns-then-not-entry_within : goal.entries_nest_within-returns-then-not-entry_within
entries_nest_within-returns-then-not-entry_within t c =
    grind (arith, c.entry_within.ensures, c.if-not-entry_within.true, entry_within c.args.entries.now c.loop-entry.entry-index c.entry-item.result c.loop-entry-test.true c.entry-item.is)

pub entries_nest_within-loop-entry-preserved : goal.entries_nest_within-loop-entry-preserved
entries_nest_within-loop-entry-preserved t c =
    entries_more c.args.entries.now c.loop-entry.entry-index c.entry-item.result c.args.levels c.loop-entry-test.true c.entry-item.is c.loop-entry.invariant (grind (arith, c.entry_within.ensures, c.if-not-entry_within.false))
