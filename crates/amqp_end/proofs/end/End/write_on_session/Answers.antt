use Rattle.std.proofs.Common.{refl}
use Rattle.amqp_end.proofs.Goes.{on_still, on_written, on_lacking, none_told}
use Rattle.amqp_end.specs.Deeds.{LinksWrite, LinksLack}
use Rattle.amqp_end.proofs.Handed.{over_deed}
use Rattle.amqp_end.proofs.end.End.write_on_session.Goals as goal

pub returns-in_ok-on_link_frame-in-Some-Frame-clause-goes : goal.returns-in_ok-on_link_frame-in-Some-Frame-clause-goes
returns-in_ok-on_link_frame-in-Some-Frame-clause-goes g c =
    λ at. on_written g.L.Link at c.in-Some-Frame.session c.in-Some-Frame.frame c.args.self.now _ refl c.in_ok-on_link_frame-in-Some-Frame.ensures (rw c.in-Some-Frame.field-0-is at c.in-Some-Frame.ensures) refl refl refl

pub returns-in_ok-refuse_attach-in-Some-Astray-clause-goes : goal.returns-in_ok-refuse_attach-in-Some-Astray-clause-goes
returns-in_ok-refuse_attach-in-Some-Astray-clause-goes g c =
    λ at. on_lacking g.L.Link at c.in-Some-Astray.session c.args.self.now _ refl c.in_ok-refuse_attach-in-Some-Astray.ensures (rw c.in-Some-Astray.field-0-is at c.in-Some-Astray.ensures) refl refl refl

pub returns-in-None-clause-goes : goal.returns-in-None-clause-goes
returns-in-None-clause-goes g c = λ at. on_still g.L.Link at c.args.self.now _ refl refl (none_told _ _ c.in-None.ensures) refl refl refl

pub returns-in_ok-on_link_frame-in-Some-Frame-clause-one : goal.returns-in_ok-on_link_frame-in-Some-Frame-clause-one
returns-in_ok-on_link_frame-in-Some-Frame-clause-one g c =
    λ at. over_deed g.L.Link at (LinksWrite c.in-Some-Frame.session c.in-Some-Frame.frame) c.args.self.now _ (refl, c.in_ok-on_link_frame-in-Some-Frame.ensures, (rw c.in-Some-Frame.field-0-is at c.in-Some-Frame.ensures))

pub returns-in_ok-refuse_attach-in-Some-Astray-clause-one : goal.returns-in_ok-refuse_attach-in-Some-Astray-clause-one
returns-in_ok-refuse_attach-in-Some-Astray-clause-one g c =
    λ at. over_deed g.L.Link at (LinksLack c.in-Some-Astray.session) c.args.self.now _ (refl, c.in_ok-refuse_attach-in-Some-Astray.ensures, (rw c.in-Some-Astray.field-0-is at c.in-Some-Astray.ensures))

pub returns-in-None-clause-one : goal.returns-in-None-clause-one
returns-in-None-clause-one g c = (c.in-None.ensures.0.1, refl)
