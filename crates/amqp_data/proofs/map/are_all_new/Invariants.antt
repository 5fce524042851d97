use Rattle.std.proofs.Common.{◌≡◌, length, take, drop}
use Rattle.amqp_data.specs.View.{pairs_view}
use Rattle.amqp_data.specs.Same.{distinct_after, distinct_keys}
use Rattle.amqp_data.proofs.Distinct.{keys_view}
use Rattle.amqp_data.proofs.Marked.{AreMarked}
use Rattle.amqp_data.proofs.map.are_all_new.Given as goal

abbrev pub invariant-loop-place : goal.invariant-loop-place
invariant-loop-place l = (distinct_after (keys_view (take l.place l.entries)) (pairs_view (drop l.place l.entries)) ≡ distinct_keys (pairs_view l.entries)) × AreMarked l.seen (take l.place l.entries) × (length l.seen ≡ 256)
