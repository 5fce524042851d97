-- What a session goes through: what its end asks of it and what it hears, one after another (OASIS AMQP 1.0, part 2, section 2.5).
use Rattle.std.specs.Prelude.{◌≡◌, ℕ, nat_eq, false, List, [], ◌∷◌, ◌++◌, map, flat_map, Option}
use Rattle.amqp_composites.specs.declared.error.Error.{Error as AmqpError}
use Rattle.amqp_frames.specs.declared.shared.LinkFrame.{LinkFrame}
use Rattle.amqp_frames.specs.declared.shared.LinkFrame.TheVariants as link
use Rattle.amqp_frames.specs.declared.shared.SessionStopReason.{SessionStopReason}
use Rattle.amqp_parts.specs.declared.part.Part.{Part}
use Rattle.amqp_session.specs.declared.session.SessionState.{SessionState}
use Rattle.amqp_session.specs.declared.session.SessionState.TheVariants as state
use Rattle.amqp_session.specs.Ends.{end_asked, attach_refused, stopped}
use Rattle.amqp_session.specs.Frames.{heard, told_in}
use Rattle.amqp_session.specs.Hold.{numbered}
use Rattle.amqp_session.specs.State.{State, Framed}
use Rattle.session_laws.specs.Messages.{transfer_in, on, Carry}

-- A link of this end writes a frame; a frame is read; the session is ended, or there is no place for an Attach of the peer; it stops with its
-- connection; the first frame to be written, or the first of what is handed to the links, is taken off.
pub data Move : Type 0 where
  tells : LinkFrame → Move
  hears : Framed → Move
  ends : Option AmqpError → Move
  refuses : Move
  stops : SessionStopReason → Move
  hands_frame : Move
  hands_input : Move

abbrev pub rest_of : {X : Type 0} → List X → List X
rest_of [] = []
rest_of (x ∷ xs) = xs

abbrev pub first_of : {X : Type 0} → List X → List X
first_of [] = []
first_of (x ∷ xs) = x ∷ []

-- the session behind a move
abbrev pub after : State → Move → State
after s (tells x) = (told_in s.state x s).state
after s (hears x) = (heard x s).state
after s (ends e) = (end_asked s.state e s).state
after s refuses = (attach_refused s.state s).state
after s (stops why) = stopped state.Unmapped why s
after s hands_frame = record s { output = rest_of s.output }
after s hands_input = record s { incoming = rest_of s.incoming }

abbrev pub after_all : State → List Move → State
after_all s [] = s
after_all s (m ∷ ms) = after_all (after s m) ms

-- the frame that a move takes off
abbrev pub handed : State → Move → List Framed
handed s hands_frame = first_of s.output
handed s other = []

abbrev pub handed_all : State → List Move → List Framed
handed_all s [] = []
handed_all s (m ∷ ms) = handed s m ++ handed_all (after s m) ms

-- all frames that it has written, in order: those that were taken off, and those that are still to be
abbrev pub written : State → List Move → List Framed
written s ms = handed_all s ms ++ (after_all s ms).output

-- the Transfers among frames
abbrev pub transfers : List Framed → List Part
transfers xs = flat_map (λ (x : Framed). transfer_in x.body) xs

-- ---- what links have told

-- a session takes the Transfers of its links where both ends have begun it
abbrev pub told_in_phase : SessionState → LinkFrame → List Part
told_in_phase state.Mapped (link.Transfer x payload) = record { transfer = x; payload = payload } ∷ []
told_in_phase phase x = []

abbrev pub told_by : State → Move → List Part
told_by s (tells x) = told_in_phase s.state x
told_by s other = []

-- the Transfers that it has taken of its links, in order
abbrev pub told : State → List Move → List Part
told s [] = []
told s (m ∷ ms) = told_by s m ++ told (after s m) ms

-- the link of that handle does not detach
abbrev pub Stays : ℕ → Move → Type 0
Stays handle (tells (link.Detach x)) = nat_eq x.handle handle ≡ false
Stays handle other = Unit {0}

abbrev pub AllStay : ℕ → List Move → Type 0
AllStay handle [] = Unit {0}
AllStay handle (m ∷ ms) = Stays handle m × AllStay handle ms

-- ---- how Transfers leave

-- a Transfer of a link, and the number that its delivery got as it began to leave
pub record Begun : Type 0 where
  pub number : ℕ
  pub part : Part

abbrev pub part_of : Begun → Part
part_of x = x.part

abbrev pub whole_of : Begun → Part
whole_of x = record { transfer = numbered x.number x.part.transfer; payload = x.part.payload }

-- What was written of a link's Transfers is a front of the parts of those that have begun to leave, each with its number. They are the first of
-- those that the link has told, in order; the others wait, or were dropped when the session stopped.
pub record Leaves (handle : ℕ) (s : State) (ms : List Move) : Type 0 where
  pub begun : List Begun
  pub waiting : List Part
  pub parts : List Part
  pub later : List Part
  pub first : on handle (told s ms) ≡ map part_of begun ++ waiting
  pub output : on handle (transfers (written s ms)) ≡ on handle (transfers s.output) ++ parts
  pub carried : Carry (map whole_of begun) (parts ++ later)

-- whatever a session goes through: from a moment at which no Transfer of a link waits, and as long as that does not detach, its Transfers leave
-- in order, each whole or in parts
abbrev pub LeavesInOrder : Type 0
LeavesInOrder = (handle : ℕ) (s : State) (ms : List Move) → on handle s.held ≡ [] → AllStay handle ms → Leaves handle s ms
