use Rattle.std.proofs.Common.{refl}
use Rattle.amqp_data.specs.Same.{distinct_keys}
use Rattle.amqp_data.specs.View.{pairs_view}
use Rattle.amqp_data.proofs.Distinct.{seen_view, is_there, is_not_there, all_passed, was_there, was_not_there, put_last}
use Rattle.amqp_data.proofs.map.has_distinct_keys.Goals as goal

pub returns-then-not-branch : goal.returns-then-not-branch
returns-then-not-branch c =
    is_there c.args.entries.now c.loop-entry.seen.keys c.loop-entry.entry-index c.entry-item.result (distinct_keys (pairs_view c.args.entries.now)) c.loop-entry-test.true c.entry-item.is (was_there _ _ c.in_ok-insert.ensures.added c.if-not-branch.true) c.loop-entry.invariant

pub loop-entry-preserved : goal.loop-entry-preserved
loop-entry-preserved c =
    let absent = was_not_there _ _ c.in_ok-insert.ensures.added c.if-not-branch.false in
    let grown = put_last _ _ _ _ c.in_ok-insert.ensures.keys absent in
    rw grown (is_not_there c.args.entries.now c.loop-entry.seen.keys c.loop-entry.entry-index c.entry-item.result (distinct_keys (pairs_view c.args.entries.now)) c.loop-entry-test.true c.entry-item.is _ refl absent c.loop-entry.invariant)

pub returns : goal.returns
returns c = all_passed c.args.entries.now (seen_view c.loop-entry.seen.keys) c.loop-entry.entry-index (distinct_keys (pairs_view c.args.entries.now)) c.loop-entry-test.false c.loop-entry.invariant
