use Rattle.std.proofs.Common.{refl, inl, Some}
use Rattle.amqp_end.proofs.Goes.{on_ok, on_begun, seat_taken, none_seated}
use Rattle.amqp_end.proofs.end.End.begin.Goals as goal

pub returns-in-Some : goal.returns-in-Some
returns-in-Some g c =
    on_ok c.begin.result
    (λ h at. on_begun g.L.Link at c.args.name c.args.numbers c.in-Some.channel c.frame_limit-limit.result c.args.self.now c.seat.new.self _ (seat_taken g.L.Link c.args.name c.in-Some.channel c.args.self.now c.seat.new.self _ c.in-Some.is c.in_ok-channel.ensures) refl h refl refl refl refl)
    c.begin.ensures

pub returns-in-None : goal.returns-in-None
returns-in-None g c = λ at. none_seated g.L.Link at c.args.name (Some c.args.name) c.args.self.now c.seat.new.self _ c.in-None.is c.in_ok-channel.ensures (inl refl)
