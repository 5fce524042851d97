-- What one end of a link goes through, and what it tells (OASIS AMQP 1.0, part 2, section 2.6).
use Rattle.std.specs.Prelude.{◌≡◌, ℕ, List, [], ◌∷◌, ◌++◌, map}
use Rattle.amqp_frames.specs.declared.body.FrameBody.{FrameBody}
use Rattle.amqp_parts.specs.declared.part.Part.{Part}
use Rattle.amqp_receiver.specs.Receiver.{State as ReceiverState}
use Rattle.amqp_sender.specs.Sender.{State as SenderState}
use Rattle.amqp_links.specs.amqp_link_calls.Called.{Called}
use Rattle.amqp_links.specs.amqp_link_calls.Side.{Side, Sender, Receiver}
use Rattle.session_laws.specs.Messages.{Message}
use Rattle.session_laws.specs.Sending as sending
use Rattle.session_laws.specs.Receiving as receiving
use Rattle.session_laws.specs.Receiving.{Answer}

-- that frame is to be written on the session of that name; a message was sent; a call that receives was answered
pub data Event : Type 0 where
  Wrote : ℕ → FrameBody → Event
  Sent : Message → Event
  Answered : Answer → Event

-- what a sender on that session tells as it makes a move
abbrev pub sender_tells : ℕ → SenderState → sending.Move → List Event
sender_tells session s sending.hands_over = map (Wrote session) s.link.output
sender_tells session s m = map Sent (sending.sent_by s m)

-- what a receiver tells
abbrev pub receiver_tells : ℕ → ReceiverState → receiving.Move → List Event
receiver_tells session s receiving.hands_over = map (Wrote session) s.link.output
receiver_tells session s m = map Answered (receiving.answered_by s m)

abbrev pub sender_told : ℕ → SenderState → List sending.Move → List Event
sender_told session s [] = []
sender_told session s (m ∷ ms) = sender_tells session s m ++ sender_told session (sending.after s m) ms

abbrev pub receiver_told : ℕ → ReceiverState → List receiving.Move → List Event
receiver_told session s [] = []
receiver_told session s (m ∷ ms) = receiver_tells session s m ++ receiver_told session (receiving.after s m) ms

-- a sender on that session becomes that by moves that tell this
pub record SenderLives (session : ℕ) (s : SenderState) (events : List Event) (t : Side) : Type 0 where
  pub moves : List sending.Move
  pub told : events ≡ sender_told session s moves
  pub behind : t ≡ Sender (sending.after_all s moves)

-- a receiver on that session becomes that by moves that tell this, and by which it reads these Transfers
pub record ReceiverLives (session : ℕ) (s : ReceiverState) (events : List Event) (parts : List Part) (t : Side) : Type 0 where
  pub moves : List receiving.Move
  pub told : events ≡ receiver_told session s moves
  pub read : receiving.read moves ≡ parts
  pub behind : t ≡ Receiver (receiving.after_all s moves)

-- an end of a link stays what it is
abbrev pub Lives : ℕ → Side → List Event → List Part → Side → Type 0
Lives session (Sender s) events parts t = SenderLives session s events t
Lives session (Receiver s) events parts t = ReceiverLives session s events parts t

-- so does a link with the calls that wait at it, and it stays on its session
pub record Went (l : Called) (events : List Event) (parts : List Part) (m : Called) : Type 0 where
  pub session : m.session ≡ l.session
  pub lives : Lives l.session l.side events parts m.side
