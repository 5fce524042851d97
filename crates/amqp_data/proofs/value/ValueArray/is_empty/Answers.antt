use Rattle.std.proofs.Common.{sym, ap, ◌∙◌, arith}
use Rattle.amqp_data.proofs.Lists.{empty_view, view_empty}
use Rattle.amqp_data.proofs.value.ValueArray.is_empty.Goals as goal

pub returns : goal.returns
returns c = (
  λ h. sym (ap (λ z. z.1) c.self.view_is) ∙ empty_view c.self.inside.values.items (grind (arith, c.is_empty.ensures, h)),
  λ e. grind (arith, c.is_empty.ensures, view_empty c.self.inside.values.items (ap (λ z. z.1) c.self.view_is ∙ e)),
)
