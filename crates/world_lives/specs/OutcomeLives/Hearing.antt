-- Which Dispositions and Flows that a session of the one end writes a session of the other hears (OASIS AMQP 1.0,
-- part 2, sections 2.6.7 and 2.6.12).
use Rattle.std.specs.Prelude.{◌≡◌, ℕ, Bool, true, false, List, ◌++◌}
use Rattle.amqp_composites.specs.declared.modes.Role.{Role}
use Rattle.amqp_composites.specs.declared.modes.Role.TheVariants as role
use Rattle.amqp_frames.specs.declared.body.FrameBody.{FrameBody}
use Rattle.amqp_frames.specs.declared.body.FrameBody.TheVariants as b
use Rattle.amqp_session.specs.State.{Framed}
use Rattle.session_laws.specs.Speaking.{bodies, rulings, is_on, flows_on}
use Rattle.world_lives.specs.Hearing.{Hears}

-- the one begins the other
pub record AreFirst {X : Type 0} (some all : List X) : Type 0 where
  pub later : List X
  pub whole : some ++ later ≡ all

abbrev pub is_receiver : Role → Bool
is_receiver role.Receiver = true
is_receiver role.Sender = false

-- whether it is a Disposition of a receiver
abbrev pub is_ruling : FrameBody → Bool
is_ruling (b.Disposition x) = is_receiver x.role
is_ruling other = false

-- whether it is a Flow of the link with that handle
abbrev pub is_flow_on : ℕ → FrameBody → Bool
is_flow_on handle (b.Flow x) = is_on handle x.handle
is_flow_on handle other = false

-- Of frames that were read and written before two moments, and that were heard and written since: where no
-- Disposition of a receiver was on its way between the moments, those that were heard since are the first of those
-- that were written since, each once, in order and as it was written; and so it is with the Flows on a handle.
pub record HearsWords (read_then written_then heard_since written_since : List Framed) : Type 0 where
  pub deliveries : rulings (bodies read_then) ≡ rulings (bodies written_then)
      → AreFirst (rulings (bodies heard_since)) (rulings (bodies written_since))
  pub credit : (handle : ℕ) → flows_on handle (bodies read_then) ≡ flows_on handle (bodies written_then)
      → AreFirst (flows_on handle (bodies heard_since)) (flows_on handle (bodies written_since))

-- whatever sessions hear as `sessions_hear` of world_lives says
abbrev pub WordsAreHeard : Type 0
WordsAreHeard =
    (read_then written_then heard_since written_since : List Framed)
    → Hears read_then written_then heard_since written_since
    → HearsWords read_then written_then heard_since written_since
