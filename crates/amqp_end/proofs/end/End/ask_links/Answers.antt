use Rattle.std.proofs.Common.{Option, ℕ, refl, subst}
use Rattle.amqp_links.specs.Calling.{Calls}
use Rattle.amqp_links.specs.State.{seen as linked}
use Rattle.amqp_end.proofs.Goes.{on_ok, goes_asked}
use Rattle.amqp_end.proofs.end.End.ask_links.Goals as goal

pub returns : goal.returns
returns g c =
    on_ok c.call.result
    (λ h at. goes_asked g.L.Link at c.args.name c.args.call c.args.self.now _ refl refl (subst (λ (limit : Option ℕ). Calls c.args.name c.args.call limit (linked c.args.self.now.links) (linked c.call.new.self)) c.limit_for-limit.ensures h) refl refl refl)
    c.call.ensures
