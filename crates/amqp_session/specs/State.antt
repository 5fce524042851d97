-- A session endpoint, as its rules see it (OASIS AMQP 1.0, part 2, section 2.5).
use Rattle.std.specs.Prelude.{◌≡◌, ℕ, List, [], ◌∷◌, ◌++◌, map, Option, Some, None, Result, Ok, Err}
use Rattle.amqp_composites.specs.declared.modes.Role.{Role}
use Rattle.amqp_frames.specs.declared.body.FrameBody.{FrameBody}
use Rattle.amqp_frames.specs.declared.shared.SessionFrame.{SessionFrame}
use Rattle.amqp_frames.specs.declared.shared.SessionStopReason.{SessionStopReason}
use Rattle.amqp_parts.specs.declared.part.Part.{Part}
use Rattle.amqp_session.specs.declared.error.Error.{Error}
use Rattle.amqp_session.specs.declared.error.Error.TheVariants.{Memory}
use Rattle.amqp_session.specs.declared.error.Fault.{Fault}
use Rattle.amqp_session.specs.declared.windows.Windows.{Windows}
use Rattle.amqp_session.specs.declared.session.LinkInput.{LinkInput}
use Rattle.amqp_session.specs.declared.session.Session.{Session}
use Rattle.amqp_session.specs.declared.session.SessionState.{SessionState}

-- a frame of a session
pub record Framed : Type 0 where
  pub channel : ℕ
  pub body : FrameBody

abbrev pub framed : SessionFrame → Framed
framed x = record { channel = x.channel; body = x.body }

-- how far it is; both channels; the highest handles; the limit of frames; its windows; the Transfers that wait; the peer's role at each
-- of its handles that is attached; what is handed to the links; the frames to be written; the fault for which it was ended here; why it
-- has stopped
pub record State : Type 0 where
  pub state : SessionState
  pub channel : ℕ
  pub remote_channel : Option ℕ
  pub own_handle_max : ℕ
  pub handle_max : ℕ
  pub max_frame_size : ℕ
  pub windows : Windows
  pub held : List Part
  pub inputs : List (ℕ × Role)
  pub incoming : List LinkInput
  pub output : List Framed
  pub fault : Option Fault
  pub stop_reason : Option SessionStopReason

abbrev pub seen : Session → State
seen s = record { state = s.state; channel = s.channel; remote_channel = s.remote_channel; own_handle_max = s.own_handle_max; handle_max = s.handle_max; max_frame_size = s.max_frame_size; windows = s.windows; held = s.held.items; inputs = s.inputs.entries; incoming = s.incoming.items; output = map framed s.output.items; fault = s.fault; stop_reason = s.stop_reason }

-- a frame is queued
abbrev pub saying : FrameBody → State → State
saying body s = record s { output = s.output ++ record { channel = s.channel; body = body } ∷ [] }

-- the links are handed something
abbrev pub handing : LinkInput → State → State
handing x s = record s { incoming = s.incoming ++ x ∷ [] }

-- what a call or a frame comes to: the session behind it, and the refusal if it is refused
pub record Made : Type 0 where
  pub state : State
  pub answer : Option Error

abbrev pub works : State → Made
works s = record { state = s; answer = None }

abbrev pub refuses : Error → State → Made
refuses e s = record { state = s; answer = Some e }

-- a result, and the session behind it: for want of memory it is not known any more, else it comes to what is made
abbrev pub Answers : Result Unit Error → Made → State → Type 0
Answers (Ok done) made new = (made.answer ≡ None) × (new ≡ made.state)
Answers (Err (Memory a)) made new = Unit {0}
Answers (Err e) made new = (made.answer ≡ Some e) × (new ≡ made.state)

-- the first frame to be written is taken off
abbrev pub TakesFrame : State → Option Framed → State → Type 0
TakesFrame old None new = (old.output ≡ []) × (new ≡ old)
TakesFrame old (Some x) new = (old.output ≡ x ∷ new.output) × (new ≡ record old { output = new.output })

-- the first of what is handed to the links
abbrev pub TakesInput : State → Option LinkInput → State → Type 0
TakesInput old None new = (old.incoming ≡ []) × (new ≡ old)
TakesInput old (Some x) new = (old.incoming ≡ x ∷ new.incoming) × (new ≡ record old { incoming = new.incoming })
