use Rattle.std.proofs.Common.{ap, ◌∙◌}
use Rattle.amqp_data.specs.Data.{pushed}
use Rattle.amqp_data.specs.View.{view, items_view}
use Rattle.amqp_data.proofs.Lists.{view_push}
use Rattle.amqp_data.proofs.value.ValueList.push.Goals as goal

pub returns-clause-ok : goal.returns-clause-ok
returns-clause-ok c = ap items_view c.in_ok-push.ensures.items ∙ view_push c.self.inside.values.items c.args.value ∙ ap (λ z. pushed z (view c.args.value)) c.self.view_is
