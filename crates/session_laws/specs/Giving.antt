-- What a receiver writes, and what it is asked to say of deliveries (OASIS AMQP 1.0, part 2, sections 2.6.12 and 2.7.6).
use Rattle.std.specs.Prelude.{◌≡◌, ℕ, ◌≤◌, Bool, true, List, [], ◌∷◌, ◌++◌, map, Option, Some, unwrap_or, Result, Ok}
use Rattle.amqp_termini.specs.declared.state.DeliveryState.{DeliveryState}
use Rattle.amqp_performatives.specs.declared.disposition.Disposition.{Disposition}
use Rattle.amqp_frames.specs.declared.body.FrameBody.{FrameBody}
use Rattle.amqp_delivery.specs.declared.info.DeliveryInfo.{DeliveryInfo}
use Rattle.amqp_delivery.specs.States.{accepted}
use Rattle.amqp_receiver.specs.declared.error.RecvError.{RecvError}
use Rattle.amqp_receiver.specs.Receiver.{State}
use Rattle.amqp_receiver.specs.Receiving.{Got, received}
use Rattle.session_laws.specs.Receiving.{Move, receives, disposes, disposes_by, hands_over, after, after_all}
use Rattle.session_laws.specs.Settling.{IsAmong}
use Rattle.session_laws.specs.Speaking.{rulings}

-- the frames that a move takes off
abbrev pub handed : State → Move → List FrameBody
handed s hands_over = s.link.output
handed s other = []

abbrev pub handed_all : State → List Move → List FrameBody
handed_all s [] = []
handed_all s (m ∷ ms) = handed s m ++ handed_all (after s m) ms

-- all frames that it has written, in order: those that were taken off, and those that are still to be
abbrev pub written : State → List Move → List FrameBody
written s ms = handed_all s ms ++ (after_all s ms).link.output

-- ---- what it gives

-- a state that a delivery of the session is given, by the number of the delivery
pub record Ruling : Type 0 where
  pub number : ℕ
  pub state : DeliveryState

abbrev pub ruling_of : DeliveryState → DeliveryInfo → Ruling
ruling_of state info = record { number = info.delivery_id; state = state }

-- a message that is given is accepted, where that is to be done at once
abbrev pub given_at_once : Bool → Bool → Option (Result Got RecvError) → List Ruling
given_at_once true true (Some (Ok x)) = ruling_of accepted x.info ∷ []
given_at_once spells accepts answer = []

-- by a call that disposes of deliveries, or as a message is received
abbrev pub given_by : State → Move → List Ruling
given_by s (receives spells) = given_at_once spells (received s).state.auto_accept (received s).answer
given_by s (disposes infos state) = map (ruling_of state) infos
given_by s (disposes_by view infos state) = map (ruling_of state) infos
given_by s other = []

-- all that it gives, in order
abbrev pub given : State → List Move → List Ruling
given s [] = []
given s (m ∷ ms) = given_by s m ++ given (after s m) ms

-- ---- what it says

abbrev pub last_of : Disposition → ℕ
last_of x = unwrap_or x.last x.first

-- a Disposition says of each delivery that it covers what that delivery was given
pub record IsGiven (told : List Ruling) (x : Disposition) : Type 0 where
  pub state : DeliveryState
  pub says : x.state ≡ Some state
  pub order : x.first ≤ last_of x
  pub each : (n : ℕ) → x.first ≤ n → n ≤ last_of x → IsAmong (record { number = n; state = state }) told

abbrev pub AllGiven : List Ruling → List Disposition → Type 0
AllGiven told [] = Unit {0}
AllGiven told (x ∷ xs) = IsGiven told x × AllGiven told xs

-- nothing was said of deliveries
pub record IsSilent (s : State) : Type 0 where
  pub output : rulings s.link.output ≡ []
  pub orders : s.book.orders ≡ []

-- whatever a receiver goes through: what it says of deliveries it was asked to give them
abbrev pub SaysWhatIsGiven : Type 0
SaysWhatIsGiven = (s : State) (ms : List Move) → IsSilent s → AllGiven (given s ms) (rulings (written s ms))
