use Rattle.std.proofs.Common.{refl}
use Rattle.amqp_data.specs.Same.{hashed_items, hashed_pairs}
use Rattle.amqp_data.proofs.Fed.{value_fed, entry_fed}
use Rattle.amqp_data.proofs.hash.+feed.Goals as goal

pub feed_entries-loop-entry-init : goal.feed_entries-loop-entry-init
unfolding hashed_pairs
feed_entries-loop-entry-init g t c = refl

pub feed_entries-loop-entry-preserved : goal.feed_entries-loop-entry-preserved
feed_entries-loop-entry-preserved g t c =
    entry_fed g.H.Hasher.write c.args.state.now c.loop-entry.state c.feed_value-in-loop-entry.new.state c.feed_value.new.state c.args.entries.now c.loop-entry.entry-index c.entry-item.result c.loop-entry-test.true c.entry-item.is
    c.loop-entry.invariant c.feed_value.ensures c.feed_value-in-loop-entry.ensures

pub feed_values-loop-value-init : goal.feed_values-loop-value-init
unfolding hashed_items
feed_values-loop-value-init g t c = refl

pub feed_values-loop-value-preserved : goal.feed_values-loop-value-preserved
feed_values-loop-value-preserved g t c =
    value_fed g.H.Hasher.write c.args.state.now c.loop-value.state c.feed_value.new.state c.args.values.now c.loop-value.value-index c.value-item.result c.loop-value-test.true c.value-item.is c.loop-value.invariant c.feed_value.ensures
