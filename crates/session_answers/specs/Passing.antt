-- What the deeds of an end add to what has passed at its sessions.
use Rattle.std.specs.Prelude.{ℕ, List, [], ◌∷◌, ◌++◌}
use Rattle.amqp_frames.specs.declared.shared.ConnectionStopReason.{ConnectionStopReason}
use Rattle.amqp_session.specs.declared.error.BeginError.{BeginError}
use Rattle.amqp_session.specs.State.{Framed}
use Rattle.amqp_peer.specs.Frames.{asking}
use Rattle.amqp_end.specs.Deeds.{Deed, Hears, Accepts, Moves, LinksLack, framed_of}
use Rattle.amqp_end.specs.Moves.{Move, Begun, Refused, Ended, Halted, Concluded}
use Rattle.session_answers.specs.Past.{Past}

-- what each deed adds, in order
abbrev pub added : {X : Type 0} → (Deed → List X) → List Deed → List X
added add [] = []
added add (d ∷ ds) = added add ds ++ add d

-- the frames that sessions are given, a Begin that is answered among them
abbrev pub read_of : Deed → List Framed
read_of (Hears x) = framed_of x ∷ []
read_of (Accepts name x channel limit incoming) = framed_of (asking incoming) ∷ []
read_of deed = []

-- the calls that make a session, with the channel of this end that it is on
abbrev pub channels_in : Move → List (ℕ × ℕ)
channels_in (Begun name x channel limit) = (name, channel) ∷ []
channels_in m = []

abbrev pub channels_of : Deed → List (ℕ × ℕ)
channels_of (Moves m) = channels_in m
channels_of (Accepts name x channel limit incoming) = (name, channel) ∷ []
channels_of deed = []

-- those that begin it
abbrev pub begins_in : Move → List ℕ
begins_in (Begun name x channel limit) = name ∷ []
begins_in m = []

abbrev pub begins_of : Deed → List ℕ
begins_of (Moves m) = begins_in m
begins_of deed = []

-- those that answer a Begin, with that
abbrev pub accepted_of : Deed → List (ℕ × Framed)
accepted_of (Accepts name x channel limit incoming) = (name, framed_of (asking incoming)) ∷ []
accepted_of deed = []

-- the calls that end a session
abbrev pub endings_in : Move → List (ℕ × ℕ)
endings_in (Ended name session condition) = (name, session) ∷ []
endings_in m = []

abbrev pub endings_of : Deed → List (ℕ × ℕ)
endings_of (Moves m) = endings_in m
endings_of deed = []

-- the calls that the end refuses by itself
abbrev pub refused_in : Move → List (ℕ × BeginError)
refused_in (Refused name error) = (name, error) ∷ []
refused_in m = []

abbrev pub refused_of : Deed → List (ℕ × BeginError)
refused_of (Moves m) = refused_in m
refused_of deed = []

-- why the connection has stopped: a Close is out, or it has stopped
abbrev pub stops_in : Move → List ConnectionStopReason
stops_in (Halted why) = why ∷ []
stops_in (Concluded why) = why ∷ []
stops_in m = []

abbrev pub stops_of : Deed → List ConnectionStopReason
stops_of (Moves m) = stops_in m
stops_of deed = []

-- the sessions whose links have no place for an Attach
abbrev pub astray_of : Deed → List ℕ
astray_of (LinksLack session) = session ∷ []
astray_of deed = []

-- the past behind deeds, of which the sessions have put out these frames
abbrev pub behind : List (ℕ × Framed) → List Deed → Past → Past
behind written ds p = record {
  written = p.written ++ written;
  read = p.read ++ added read_of ds;
  channels = p.channels ++ added channels_of ds;
  begins = p.begins ++ added begins_of ds;
  accepted = p.accepted ++ added accepted_of ds;
  endings = p.endings ++ added endings_of ds;
  refused = p.refused ++ added refused_of ds;
  stops = p.stops ++ added stops_of ds;
  astray = p.astray ++ added astray_of ds;
}
