-- An end that has done what its sessions ask of it.
use Rattle.std.specs.Prelude.{◌≡◌, [], true}
use Rattle.amqp_peer.specs.Hearing.{waiting_in}
use Rattle.amqp_peer.specs.Passing.{is_opened}
use Rattle.amqp_sessions.specs.State.{State, seen}
use Rattle.amqp_end.specs.declared.end.End.{End}

-- no frame is to be written, and no channel of a session that has ended to be given back
pub record HasSaid (s : State) : Type 0 where
  pub output : s.output ≡ []
  pub freed : s.freed ≡ []

-- while the connection is open
abbrev pub IsSaid : {L : Type 0} → End L → Type 0
IsSaid e = is_opened e.connection.held ≡ true → HasSaid (seen e.sessions)

-- The sessions have heard each of their frames that was read. While the connection is open, each frame that they have to write was given
-- to it (OASIS AMQP 1.0, part 2, section 2.4.6), and the channel of each that has ended is free again (section 2.5.4).
pub record Rests {L : Type 0} (e : End L) : Type 0 where
  pub heard : waiting_in e.connection.held ≡ []
  pub said : IsSaid e
