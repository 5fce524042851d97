-- One link among all links of an end goes on, and hears its peer: as link_lives has it, but of a sender also what it
-- hears is kept (OASIS AMQP 1.0, part 2, section 2.6).
use Rattle.std.specs.Prelude.{◌≡◌, ℕ, List, [], ◌++◌, Option, Some, None}
use Rattle.amqp_link_calls.specs.Called.{Called}
use Rattle.amqp_link_calls.specs.Side.{Side, Sender, Receiver}
use Rattle.amqp_links.specs.State.{State, link_of}
use Rattle.amqp_receiver.specs.Receiver.{State as ReceiverState}
use Rattle.amqp_sender.specs.Sender.{State as SenderState}
use Rattle.session_laws.specs.Receiving as receiving
use Rattle.session_laws.specs.Sending as sending
use Rattle.link_lives.specs.Lives.{Event, sender_told, receiver_told}
use Rattle.link_lives.specs.Logs.{Entry, own, told, IsFree}
use Rattle.sender_hears.specs.Words.{Word, words}

-- a sender on that session becomes that by moves that tell this, and by which it hears these words
pub record SenderHears (session : ℕ) (s : SenderState) (events : List Event) (heard : List Word) (t : Side)
    : Type 0 where
  pub moves : List sending.Move
  pub told : events ≡ sender_told session s moves
  pub hears : words moves ≡ heard
  pub behind : t ≡ Sender (sending.after_all s moves)

-- a receiver on that session becomes that by moves that tell this
pub record ReceiverTells (session : ℕ) (s : ReceiverState) (events : List Event) (t : Side) : Type 0 where
  pub moves : List receiving.Move
  pub told : events ≡ receiver_told session s moves
  pub behind : t ≡ Receiver (receiving.after_all s moves)

-- an end of a link stays what it is
abbrev pub Lives : ℕ → Side → List Event → List Word → Side → Type 0
Lives session (Sender s) events heard t = SenderHears session s events heard t
Lives session (Receiver s) events heard t = ReceiverTells session s events t

-- so does a link with the calls that wait at it, and it stays on its session
pub record Went (l : Called) (events : List Event) (heard : List Word) (m : Called) : Type 0 where
  pub session : m.session ≡ l.session
  pub lives : Lives l.session l.side events heard m.side

-- what has become of a link: it stands still, or there was none and is none
abbrev pub Fate : Option Called → List Event → List Word → Option Called → Type 0
Fate None events heard None = events ≡ []
Fate None events heard (Some m) = ⊥
Fate (Some l) events heard None = ⊥
Fate (Some l) events heard (Some m) = Went l events heard m

-- the link of that name has told that and heard these words
pub record Keeps (n : ℕ) (old : State) (events : List Event) (heard : List Word) (new : State) : Type 0 where
  pub free : IsFree n new
  pub fate : Fate (link_of n old) events heard (link_of n new)

-- The links of an end go on. What they have to write is what they have told, in order. Each link that no call makes has
-- told what is in the log of it, and a sender has heard these words.
pub record Goes (Among : ℕ → Type 0) (heard : ℕ → List Word) (old new : State) : Type 0 where
  pub log : List Entry
  pub output : new.output ≡ old.output ++ told log
  pub each : (n : ℕ) → Among n → IsFree n old → Keeps n old (own n log) (heard n) new
