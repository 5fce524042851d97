use Rattle.std.proofs.Common.{rules, ap, ◌≡◌, ◌∙◌}
use Rattle.std.proofs.lemmas.Result.{IfOk-weaker}
use Rattle.std.specs.Map.{keys_of}
use Rattle.amqp_link_tables.specs.Deliveries.{numbers_up_to}
use Rattle.amqp_link_tables.proofs.Numbers.{of_up_to}
use Rattle.amqp_link_tables.proofs.deliveries.DeliveryTable.numbers_up_to.Goals as goal

pub returns : goal.returns
returns c =
    let ds = c.args.self.now.deliveries.entries in
    IfOk-weaker c.collect.result (λ numbers. numbers.items ≡ keys_of c.range.result) (λ numbers. numbers.items ≡ numbers_up_to c.args.last ds)
    (λ numbers e. e ∙ ap keys_of (c.range.ensures.between tt) ∙ of_up_to c.args.last ds)
    (search rules)
