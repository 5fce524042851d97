use Rattle.std.proofs.Common.{sym, ◌∙◌, arith}
use Rattle.amqp_data.proofs.Sames.{items_other, items_step, items_done, pairs_other, pairs_step, pairs_done, goes_wrong, goes_on}
use Rattle.amqp_data.proofs.same.+same.Goals as goal

pub same_slices-returns-then-a-b : goal.same_slices-returns-then-a-b
same_slices-returns-then-a-b t c = sym (items_other c.args.a.now c.args.b.now c.if-a-b.true)

pub same_slices-returns : goal.same_slices-returns
same_slices-returns t c = sym (items_done c.args.a.now c.args.b.now c.loop-i.i c.loop-i-test.false (omega arith)) ∙ c.loop-i.invariant

pub same_entries-returns-then-a-b : goal.same_entries-returns-then-a-b
same_entries-returns-then-a-b t c = sym (pairs_other c.args.a.now c.args.b.now c.if-a-b.true)

pub same_entries-returns : goal.same_entries-returns
same_entries-returns t c = sym (pairs_done c.args.a.now c.args.b.now c.loop-i.i c.loop-i-test.false (omega arith)) ∙ c.loop-i.invariant

pub same_slices-returns-then-not-same_values : goal.same_slices-returns-then-not-same_values
same_slices-returns-then-not-same_values t c =
    goes_wrong _ _ _ _ c.loop-i.invariant (items_step c.args.a.now c.args.b.now c.loop-i.i c.index-a-i.result c.index-b-i.result c.loop-i-test.true (omega arith) c.index-a-i.is c.index-b-i.is) (sym c.same_values.ensures ∙ c.if-not-same_values.true)

pub same_slices-loop-i-preserved : goal.same_slices-loop-i-preserved
same_slices-loop-i-preserved t c =
    goes_on _ _ _ _ c.loop-i.invariant (items_step c.args.a.now c.args.b.now c.loop-i.i c.index-a-i.result c.index-b-i.result c.loop-i-test.true (omega arith) c.index-a-i.is c.index-b-i.is) (sym c.same_values.ensures ∙ c.if-not-same_values.false)

pub same_entries-returns-then-not-same_entry : goal.same_entries-returns-then-not-same_entry
same_entries-returns-then-not-same_entry t c =
    goes_wrong _ _ _ _ c.loop-i.invariant (pairs_step c.args.a.now c.args.b.now c.loop-i.i c.index-a-i.result c.index-b-i.result c.loop-i-test.true (omega arith) c.index-a-i.is c.index-b-i.is) (sym c.same_entry.ensures ∙ c.if-not-same_entry.true)

pub same_entries-loop-i-preserved : goal.same_entries-loop-i-preserved
same_entries-loop-i-preserved t c =
    goes_on _ _ _ _ c.loop-i.invariant (pairs_step c.args.a.now c.args.b.now c.loop-i.i c.index-a-i.result c.index-b-i.result c.loop-i-test.true (omega arith) c.index-a-i.is c.index-b-i.is) (sym c.same_entry.ensures ∙ c.if-not-same_entry.false)
