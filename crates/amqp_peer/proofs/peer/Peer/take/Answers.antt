use Rattle.std.proofs.Common.{subst}
use Rattle.amqp_peer.specs.Held.{FitsCall}
use Rattle.amqp_peer.specs.Peering.{Peering}
use Rattle.amqp_peer.proofs.Turns.{on_ok, misfit}
use Rattle.amqp_peer.proofs.peer.Peer.take.Goals as goal

pub returns-clause-ok : goal.returns-clause-ok
returns-clause-ok g c =
    let misfits = subst (λ (z : Peering _). FitsCall c.args.call z.held → ⊥) c.self.view_is (λ f. absurd (cc (c.if-fits.ensures.1 f))) in
    on_ok c.run.result (λ s. misfit g.L.Link c.args.at c.args.name c.args.call c.args.self.now c.run.new.self c.requires misfits s) c.run.ensures.ok
