use Rattle.std.proofs.Common.{rules, ap, ◌≡◌, ◌∙◌}
use Rattle.std.proofs.lemmas.Result.{IfOk-weaker}
use Rattle.std.specs.Map.{keys_of}
use Rattle.amqp_link_tables.specs.Deliveries.{numbers_from}
use Rattle.amqp_link_tables.proofs.Numbers.{of_from}
use Rattle.amqp_link_tables.proofs.deliveries.DeliveryTable.numbers_from.Goals as goal

pub returns-clause-numbers : goal.returns-clause-numbers
returns-clause-numbers c =
    let ds = c.args.self.now.deliveries.entries in
    IfOk-weaker c.collect.result (λ numbers. numbers.items ≡ keys_of c.range.result) (λ numbers. numbers.items ≡ numbers_from c.args.first ds)
    (λ numbers e. e ∙ ap keys_of (c.range.ensures.between tt) ∙ of_from c.args.first ds)
    (search rules)
