use Rattle.std.proofs.Common.{sym, ◌∙◌, arith}
use Rattle.amqp_data.proofs.Sames.{pairs_other, pairs_step, pairs_done, goes_wrong, goes_on}
use Rattle.amqp_delivery.proofs.states.same_entries.Goals as goal

pub returns-then-left-right : goal.returns-then-left-right
returns-then-left-right c = sym (pairs_other c.args.left.now c.args.right.now c.if-left-right.true)

pub returns : goal.returns
returns c = sym (pairs_done c.args.left.now c.args.right.now c.loop-i.i c.loop-i-test.false (omega arith)) ∙ c.loop-i.invariant

pub returns-then-not-same_entry : goal.returns-then-not-same_entry
returns-then-not-same_entry c =
    goes_wrong _ _ _ _ c.loop-i.invariant (pairs_step c.args.left.now c.args.right.now c.loop-i.i c.index-left-i.result c.index-right-i.result c.loop-i-test.true (omega arith) c.index-left-i.is c.index-right-i.is) (sym c.same_entry.ensures ∙ c.if-not-same_entry.true)

pub loop-i-preserved : goal.loop-i-preserved
loop-i-preserved c =
    goes_on _ _ _ _ c.loop-i.invariant (pairs_step c.args.left.now c.args.right.now c.loop-i.i c.index-left-i.result c.index-right-i.result c.loop-i-test.true (omega arith) c.index-left-i.is c.index-right-i.is) (sym c.same_entry.ensures ∙ c.if-not-same_entry.false)
