use Rattle.std.proofs.Common.{List, sym, ap, ◌∙◌}
use Rattle.amqp_composites.specs.amqp_data.declared.value.Entry.{Entry}
use Rattle.amqp_composites.specs.amqp_data.View.{pairs_view}
use Rattle.amqp_termini.specs.Unsettled.{deliveries_in}
use Rattle.amqp_termini.proofs.Deliveries.{stay_distinct}
use Rattle.amqp_termini.proofs.unsettled.UnsettledMapField.from_value.Goals as goal

pub invariant_of-result : goal.invariant_of-result
invariant_of-result c =
    stay_distinct c.in-Map.map c.in_ok-deliveries.deliveries.items
    (sym (ap (λ (es : List Entry). deliveries_in (pairs_view es)) c.into_iter.ensures.rest ∙ ap deliveries_in c.into_entries.ensures.value) ∙ c.in_ok-deliveries.ensures)
    c.into_entries.ensures.distinct
