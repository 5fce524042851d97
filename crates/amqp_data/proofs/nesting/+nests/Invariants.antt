use Rattle.std.proofs.Common.{◌≤◌, take}
use Rattle.amqp_data.specs.Data.{items_depth, pairs_depth}
use Rattle.amqp_data.specs.View.{items_view, pairs_view}
use Rattle.amqp_data.proofs.nesting.+nests.Given as goal

abbrev pub invariant-values_nest_within-loop-value : goal.invariant-values_nest_within-loop-value
invariant-values_nest_within-loop-value l = items_depth (items_view (take l.value-index l.values)) ≤ l.levels

abbrev pub invariant-entries_nest_within-loop-entry : goal.invariant-entries_nest_within-loop-entry
invariant-entries_nest_within-loop-entry l = pairs_depth (pairs_view (take l.entry-index l.entries)) ≤ l.levels
