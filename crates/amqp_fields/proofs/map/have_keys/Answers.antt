use Rattle.std.proofs.Common.{sym, ◌∙◌}
use Rattle.amqp_fields.specs.Fields.{key_test}
use Rattle.amqp_fields.proofs.Keys.{goes_wrong, goes_on, is_done}
use Rattle.amqp_fields.proofs.map.have_keys.Goals as goal

pub returns-then-not-allows : goal.returns-then-not-allows
returns-then-not-allows c =
    goes_wrong (key_test c.args.kind) c.args.entries.now c.loop-entry.entry-index c.entry-item.result c.loop-entry-test.true c.entry-item.is c.loop-entry.invariant (sym c.allows.ensures ∙ c.if-not-allows.true)

pub loop-entry-preserved : goal.loop-entry-preserved
loop-entry-preserved c =
    goes_on (key_test c.args.kind) c.args.entries.now c.loop-entry.entry-index c.entry-item.result c.loop-entry-test.true c.entry-item.is c.loop-entry.invariant (sym c.allows.ensures ∙ c.if-not-allows.false)

pub returns : goal.returns
returns c = is_done (key_test c.args.kind) c.args.entries.now c.loop-entry.entry-index c.loop-entry-test.false c.loop-entry.invariant
