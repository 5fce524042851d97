use Rattle.std.proofs.Common.{subst, sym, arith, ◌≡◌, ◌≤◌, ◌<◌}
use Rattle.std.proofs.lemmas.Result.{IfOk-weaker}
use Rattle.amqp_link_tables.specs.Deliveries.{IsCover, numbers_between, numbers_around}
use Rattle.amqp_link_tables.proofs.Covered.{between_covers, around_covers}
use Rattle.amqp_link_tables.proofs.Numbers.{in_order_apart}
use Rattle.amqp_link_tables.proofs.deliveries.DeliveryTable.covered.Goals as goal

pub returns-then-first-last-clause-once : goal.returns-then-first-last-clause-once
returns-then-first-last-clause-once c =
    let ds = c.args.self.now.deliveries.entries in
    IfOk-weaker c.numbers_between.result (λ numbers. numbers.items ≡ numbers_between c.args.first c.args.last ds) (λ numbers. IsCover c.args.first c.args.last ds numbers.items)
    (λ numbers e. subst (IsCover c.args.first c.args.last ds) (sym e) (between_covers c.args.first c.args.last ds c.if-first-last.true c.ranges.last.fits (in_order_apart ds c.numbers_between.ensures.order)))
    c.numbers_between.ensures.numbers

pub returns-else-first-last-clause-once : goal.returns-else-first-last-clause-once
returns-else-first-last-clause-once c =
    let ds = c.args.self.now.deliveries.entries in
    IfOk-weaker c.numbers_around.result (λ numbers. numbers.items ≡ numbers_around c.args.first c.args.last ds) (λ numbers. IsCover c.args.first c.args.last ds numbers.items)
    (λ numbers e. subst (IsCover c.args.first c.args.last ds) (sym e) (around_covers c.args.first c.args.last ds c.if-first-last.false c.ranges.first.fits (in_order_apart ds c.numbers_around.ensures.order)))
    c.numbers_around.ensures.numbers
