use Rattle.std.proofs.Common.{◌≡◌, drop}
use Rattle.amqp_data.specs.View.{pairs_view}
use Rattle.amqp_data.specs.Same.{distinct_after, distinct_keys}
use Rattle.amqp_data.proofs.Distinct.{seen_view}
use Rattle.amqp_data.proofs.map.has_distinct_keys.Given as goal

abbrev pub invariant-loop-entry : goal.invariant-loop-entry
invariant-loop-entry l = distinct_after (seen_view l.seen.keys) (pairs_view (drop l.entry-index l.entries)) ≡ distinct_keys (pairs_view l.entries)
