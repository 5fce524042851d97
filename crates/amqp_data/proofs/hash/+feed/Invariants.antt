use Rattle.std.proofs.Common.{◌≡◌, take}
use Rattle.std.specs.List.{fold}
use Rattle.amqp_data.specs.View.{items_view, pairs_view}
use Rattle.amqp_data.specs.Same.{hashed_items, hashed_pairs}
use Rattle.amqp_data.proofs.hash.+feed.Given as goal

abbrev pub invariant-feed_entries-loop-entry : goal.invariant-feed_entries-loop-entry
invariant-feed_entries-loop-entry g l = l.state ≡ fold g.H.Hasher.write l.initial.state (hashed_pairs (pairs_view (take l.entry-index l.entries)))

abbrev pub invariant-feed_values-loop-value : goal.invariant-feed_values-loop-value
invariant-feed_values-loop-value g l = l.state ≡ fold g.H.Hasher.write l.initial.state (hashed_items (items_view (take l.value-index l.values)))
