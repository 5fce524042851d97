use Rattle.amqp_end.proofs.Goes.{on_ok, on_both, on_then}
use Rattle.amqp_end.proofs.Rests.{said_still}
use Rattle.amqp_end.proofs.Handed.{between_then}
use Rattle.amqp_end.proofs.end.End.look.Goals as goal

pub returns-clause-goes : goal.returns-clause-goes
returns-clause-goes g c = on_ok c.collect.result (λ h at. on_then g.L.Link at c.args.self.now c.look_at_links.new.self c.collect.new.self (c.in_ok-look_at_links.ensures.goes at) (h at)) c.collect.ensures.goes

pub returns-clause-rests : goal.returns-clause-rests
returns-clause-rests g c =
    on_both c.collect.result
    (λ h s k. record { heard = (h 0).heard ((c.in_ok-look_at_links.ensures.goes 0).heard k.heard); said = s (said_still c.args.self.now c.look_at_links.new.self c.look_at_links.ensures.connection c.look_at_links.ensures.sessions k.said) })
    c.collect.ensures.goes c.collect.ensures.said

pub returns-clause-between : goal.returns-clause-between
returns-clause-between g c = on_ok c.collect.result (λ h. between_then c.args.self.now c.look_at_links.new.self c.collect.new.self c.in_ok-look_at_links.ensures.between h) c.collect.ensures.between
