use Rattle.std.proofs.Common.{refl}
use Rattle.amqp_end.proofs.Goes.{on_ok, on_then, on_none_asked, on_seated, on_accepted, seat_taken}
use Rattle.amqp_end.proofs.end.End.accept_first.Goals as goal

pub returns-in-Some-next_incoming_session : goal.returns-in-Some-next_incoming_session
returns-in-Some-next_incoming_session g c =
    on_ok c.accept.result
    (λ h at call by. on_accepted g.L.Link at c.args.name c.args.numbers c.in-Some.channel c.frame_limit-limit.result c.in-Some-next_incoming_session.incoming c.args.self.now c.seat.new.self _ by
    (seat_taken g.L.Link c.args.name c.in-Some.channel c.args.self.now c.seat.new.self _ c.in-Some.is c.in_ok-channel.ensures) c.in-Some-next_incoming_session.ensures.takes c.in-Some-next_incoming_session.ensures.rest h refl refl refl refl)
    c.accept.ensures

pub returns-in-None : goal.returns-in-None
returns-in-None g c =
    λ at call by. on_then g.L.Link at c.args.self.now c.seat.new.self _ (on_seated g.L.Link at c.in-Some.channel c.args.self.now c.seat.new.self (seat_taken g.L.Link c.args.name c.in-Some.channel c.args.self.now c.seat.new.self _ c.in-Some.is c.in_ok-channel.ensures)) (on_none_asked g.L.Link at c.seat.new.self _ c.in-None.ensures.takes c.in-None.ensures.rest refl refl refl refl refl)
