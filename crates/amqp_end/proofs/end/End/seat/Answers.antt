use Rattle.std.proofs.Common.{refl, sym, ◌∙◌}
use Rattle.amqp_session.specs.declared.error.BeginError.TheVariants.{IllegalState, LocalChannelMaxReached}
use Rattle.amqp_end.specs.Moves.{Refused}
use Rattle.amqp_end.proofs.Goes.{on_before, on_move, on_allocated, none_free}
use Rattle.amqp_end.proofs.Opened.{opened_late}
use Rattle.amqp_end.proofs.end.End.seat.Goals as goal

pub returns-then-not-is_open : goal.returns-then-not-is_open
returns-then-not-is_open g c = λ at call by. on_move g.L.Link at (Refused c.args.name IllegalState) c.args.self.now _ by (sym c.is_open.ensures ∙ c.if-not-is_open.true) tt refl c.in_ok-refuse.ensures refl refl refl refl

pub allocate_session-requires : goal.allocate_session-requires
allocate_session-requires g c = opened_late c.args.self.now.connection.held (sym c.is_open.ensures ∙ c.if-not-is_open.false)

pub returns-in_ok-refuse-in-Err-ChannelMaxReached : goal.returns-in_ok-refuse-in-Err-ChannelMaxReached
returns-in_ok-refuse-in-Err-ChannelMaxReached g c =
    λ at call by. on_before g.L.Link at c.args.self.now (record c.args.self.now { connection = c.allocate_session.new.self }) _
    (on_allocated g.L.Link at c.allocate_session.result c.args.self.now (record c.args.self.now { connection = c.allocate_session.new.self }) c.allocate_session.ensures.allocates c.allocate_session.ensures.rest refl refl refl refl refl)
    (on_move g.L.Link at (Refused c.args.name LocalChannelMaxReached) (record c.args.self.now { connection = c.allocate_session.new.self }) _ by
    (none_free c.args.self.now.connection.held c.allocate_session.new.self.held (rw c.in-Err-ChannelMaxReached.field-0-is at c.in-Err-ChannelMaxReached.ensures.allocates)) tt refl c.in_ok-refuse-in-Err-ChannelMaxReached.ensures refl refl refl refl)

pub returns-in-Ok : goal.returns-in-Ok
returns-in-Ok g c = record {
  allocates = c.in-Ok.ensures.allocates;
  rest = c.allocate_session.ensures.rest;
  sessions = refl;
  links = refl;
  last = refl;
  failed = refl;
  replies = refl;
}
