use Rattle.std.proofs.Common.{◌≡◌, Some, ap, ◌∙◌, arith}
use Rattle.amqp_data.specs.Data.{pushed, element_kind}
use Rattle.amqp_data.specs.View.{view, items_view}
use Rattle.amqp_data.proofs.Lists.{view_push, pushed_of_kind}
use Rattle.amqp_data.proofs.value.ValueArray.push.Goals as goal

pub invariant_of-self-2 : goal.invariant_of-self-2
invariant_of-self-2 c =
    let same : element_kind (view c.args.value) ≡ Some c.self.inside.kind = grind (arith, c.is_of_kind.ensures, c.if-not-is_of_kind.false) in
    rw (c.in_ok-push.ensures.items, view_push c.self.inside.values.items c.args.value) (pushed_of_kind c.self.inside.kind (items_view c.self.inside.values.items) (view c.args.value) c.self.invariant same)

pub returns-clause-ok : goal.returns-clause-ok
returns-clause-ok c =
    let items = ap items_view c.in_ok-push.ensures.items ∙ view_push c.self.inside.values.items c.args.value in
    ap (λ z. (c.self.inside.kind, z)) items ∙ ap (λ z. (z.0, pushed z.1 (view c.args.value))) c.self.view_is
