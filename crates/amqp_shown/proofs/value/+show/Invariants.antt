use Rattle.std.proofs.Common.{◌≡◌, ◌+◌, ◌*◌, ◌++◌, drop}
use Rattle.amqp_data.specs.Trees.{weight, items_weight, pairs_weight}
use Rattle.amqp_data.specs.View.{view, items_view, pairs_view}
use Rattle.amqp_shown.specs.Names.{names_of}
use Rattle.amqp_shown.specs.Values.{items_text, pairs_text, fields_text}
use Rattle.amqp_shown.proofs.value.+show.Given as goal

abbrev pub invariant-push_items-loop-place : goal.invariant-push_items-loop-place
invariant-push_items-loop-place l = l.out.items ++ items_text l.place (items_view (drop l.place l.values)) ≡ l.initial.out.items ++ items_text 0 (items_view l.values)

abbrev pub invariant-push_pairs-loop-place : goal.invariant-push_pairs-loop-place
invariant-push_pairs-loop-place l = l.out.items ++ pairs_text l.place (pairs_view (drop l.place l.entries)) ≡ l.initial.out.items ++ pairs_text 0 (pairs_view l.entries)

abbrev pub invariant-push_fields-loop-place : goal.invariant-push_fields-loop-place
invariant-push_fields-loop-place l = l.out.items ++ fields_text (names_of l.kind) l.place (items_view (drop l.place l.values)) ≡ l.initial.out.items ++ fields_text (names_of l.kind) 0 (items_view l.values)

abbrev pub decreases-push_value : goal.decreases-push_value
decreases-push_value l = 2 * weight (view l.value.now)

abbrev pub decreases-push_items : goal.decreases-push_items
decreases-push_items l = 2 * items_weight (items_view l.values.now)

abbrev pub decreases-push_pairs : goal.decreases-push_pairs
decreases-push_pairs l = 2 * pairs_weight (pairs_view l.entries.now)

abbrev pub decreases-push_described : goal.decreases-push_described
decreases-push_described l = 2 * (weight l.described.now.0 + weight l.described.now.1) + 1

abbrev pub decreases-push_content : goal.decreases-push_content
decreases-push_content l = 2 * weight (view l.value.now) + 1

abbrev pub decreases-push_fields : goal.decreases-push_fields
decreases-push_fields l = 2 * items_weight (items_view l.values.now)

abbrev pub decreases-push_field : goal.decreases-push_field
decreases-push_field l = 2 * weight (view l.value.now) + 1
