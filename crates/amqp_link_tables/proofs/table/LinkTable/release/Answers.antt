use Rattle.std.proofs.Common.{◌∙◌, sym, ap}
use Rattle.amqp_link_tables.specs.Calls.{released_at}
use Rattle.amqp_link_tables.specs.State.{State, seen}
use Rattle.amqp_link_tables.proofs.table.LinkTable.release.Goals as goal

pub returns-in_default-clause-state : goal.returns-in_default-clause-state
returns-in_default-clause-state c =
    let s : State = seen c.args.self.now in
    let none = sym c.in_default.is ∙ c.free.ensures.held in
    ap (λ hs. record s { handles = hs }) c.in_default.ensures.none ∙ ap (λ o. released_at o c.args.handle s) none
