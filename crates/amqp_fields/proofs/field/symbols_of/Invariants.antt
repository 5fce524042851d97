use Rattle.std.proofs.Common.{◌≡◌, length}
use Rattle.std.specs.Vec.Iter.{into_iter_items}
use Rattle.amqp_data.specs.View.{items_view}
use Rattle.amqp_fields.specs.Fields.{all_symbols}
use Rattle.amqp_fields.proofs.Symbols.{with_front}
use Rattle.amqp_fields.proofs.field.symbols_of.Given as goal

abbrev pub invariant-loop-value : goal.invariant-loop-value
invariant-loop-value l = with_front l.symbols (all_symbols (items_view (into_iter_items l.left))) ≡ all_symbols (items_view (into_iter_items l.initial.left))

abbrev pub decreases-loop-value : goal.decreases-loop-value
decreases-loop-value l = length (into_iter_items l.left)
