-- What becomes of messages, from the call that gives an outcome to the sender that tells it (OASIS AMQP 1.0, part 2, section 2.6.12).
use Rattle.std.specs.Prelude.{◌≡◌, ◌≢◌, ◌⊎◌, ℕ, ◌+◌, ◌<◌, ◌≤◌, true, List, [], ◌∷◌, ◌++◌, map, flat_map, Some}
use Rattle.amqp_termini.specs.declared.outcome.Outcome.TheVariants.{Accepted}
use Rattle.amqp_termini.specs.declared.state.DeliveryState.{DeliveryState}
use Rattle.amqp_frames.specs.declared.body.FrameBody.{FrameBody}
use Rattle.amqp_link.specs.Numbers.{minus}
use Rattle.amqp_receiver.specs.Receiver.{State as Receiver}
use Rattle.amqp_sender.specs.declared.sender.Settlement.{Settlement}
use Rattle.amqp_sender.specs.declared.sender.Settlement.TheVariants.{Unsettled, Settled}
use Rattle.amqp_sender.specs.Sender.{State as Sender}
use Rattle.amqp_sender.specs.Settling.{settlement_of}
use Rattle.amqp_session.specs.declared.session.LeftDelivery.{LeftDelivery}
use Rattle.amqp_session.specs.declared.session.LinkInput.{LinkInput}
use Rattle.amqp_session.specs.declared.session.LinkInput.TheVariants as input
use Rattle.amqp_session.specs.State.{State as Session, Framed}
use Rattle.session_laws.specs.Messages.{Message, Delivery}
use Rattle.session_laws.specs.Sending as sending
use Rattle.session_laws.specs.Sending.{sent}
use Rattle.session_laws.specs.Holding as session
use Rattle.session_laws.specs.Handing.{handed_over, heard}
use Rattle.session_laws.specs.Receiving as receiving
use Rattle.session_laws.specs.Receiving.{Answers, answered}
use Rattle.session_laws.specs.Settling.{IsAmong, AreSettled}
use Rattle.session_laws.specs.Speaking.{AreAmong, bodies, rulings, brought, spoken}
use Rattle.session_laws.specs.Giving.{Ruling, given, written, IsSilent}
use Rattle.session_laws.specs.Numbering.{Step, inputs_of, AreShort, told, news}
use Rattle.session_laws.specs.Laws.{Path, message_of}

-- a receiver, and what it goes through
pub record Life : Type 0 where
  pub receiver : Receiver
  pub moves : List receiving.Move

abbrev pub given_in : Life → List Ruling
given_in x = given x.receiver x.moves

-- all that receivers give
abbrev pub given_by : List Life → List Ruling
given_by xs = flat_map given_in xs

abbrev pub written_in : Life → List FrameBody
written_in x = written x.receiver x.moves

abbrev pub written_by : List Life → List FrameBody
written_by xs = flat_map written_in xs

abbrev pub AreSilent : List Life → Type 0
AreSilent [] = Unit {0}
AreSilent (x ∷ xs) = IsSilent x.receiver × AreSilent xs

-- the deliveries among what is handed to the links that have begun to leave
abbrev pub left_in : LinkInput → List LeftDelivery
left_in (input.Left x) = x ∷ []
left_in other = []

abbrev pub lefts : List LinkInput → List LeftDelivery
lefts xs = flat_map left_in xs

-- no message has that tag
abbrev pub IsFree : List ℕ → List Message → Type 0
IsFree tag [] = Unit {0}
IsFree tag (m ∷ ms) = (tag ≢ m.tag) × IsFree tag ms

-- no two messages have one tag
abbrev pub AreApart : List Message → Type 0
AreApart [] = Unit {0}
AreApart (m ∷ ms) = IsFree m.tag ms × AreApart ms

-- The way back of a Disposition, from the receivers at the other end over both sessions and the table of numbers to
-- a sender, from a moment at which nothing was said of deliveries. The other session takes of its links what the
-- receivers there write; this one hears a front of what that writes; its links take what it hands over, and the
-- sender hears what the table says. No two messages that it has sent have one tag.
pub record Back (handle : ℕ) (s : Sender) (ms : List sending.Move) (t : Session) (ns : List session.Move) (u : Session) (js : List session.Move) (lives : List Life) : Type 0 where
  pub silent : AreSilent lives
  pub unsaid : rulings (bodies u.output) ≡ []
  pub takes : AreAmong (rulings (spoken u js)) (rulings (written_by lives))
  pub unheard : List Framed
  pub hears : heard ns ++ unheard ≡ session.written u js
  pub unhanded : rulings (brought t.incoming) ≡ []
  pub unleft : lefts t.incoming ≡ []
  pub steps : List Step
  pub reads : AreAmong (inputs_of steps) (handed_over t ns)
  pub short : AreShort steps
  pub learns : AreAmong (news ms) (told handle [] steps)
  pub unsettled : s.unsettled ≡ []
  pub unknown : s.settlements ≡ []
  pub apart : AreApart (sent s ms)

-- what a sender knows of a delivery: nothing, or that it was accepted since it was sent settled, or a state that its
-- number was given
abbrev pub IsOutcome : List Ruling → Delivery → Settlement → Type 0
IsOutcome gave d Unsettled = Unit {0}
IsOutcome gave d x =
    ((d.message.settled ≡ true) × (x ≡ Settled (Accepted (record {}))))
    ⊎ ((state : DeliveryState) × ((x ≡ settlement_of (Some state)) × IsAmong (record { number = d.number; state = state }) gave))

-- of messages that have not begun to leave nothing was given
abbrev pub AreOutcomes : List Ruling → List Delivery → List Message → List Settlement → Type 0
AreOutcomes gave [] others xs = AreSettled [] others xs
AreOutcomes gave (d ∷ ds) others [] = ⊥
AreOutcomes gave (d ∷ ds) others (x ∷ xs) = IsOutcome gave d x × AreOutcomes gave ds others xs

-- the messages that have begun to leave, each with its number; those of them that the receiver answers; and what the
-- sender knows of each message
pub record Told (s : Sender) (ms : List sending.Move) (r : Receiver) (ks : List receiving.Move) (gave : List Ruling) : Type 0 where
  pub deliveries : List Delivery
  pub others : List Message
  pub all : sent s ms ≡ map message_of deliveries ++ others
  pub answers : Answers deliveries (answered r ks)
  pub outcomes : AreOutcomes gave deliveries others (sending.after_all s ms).settlements

-- an outcome that is told is one that the other end gave for that message
abbrev pub OutcomesWereGiven : Type 0
OutcomesWereGiven =
    (handle : ℕ) (s : Sender) (ms : List sending.Move) (t : Session) (ns : List session.Move) (u : Session)
    (js : List session.Move) (r : Receiver) (ks : List receiving.Move) (others : List Life)
    → Path handle s ms t ns u js r ks
    → Back handle s ms t ns u js (record { receiver = r; moves = ks } ∷ others)
    → Told s ms r ks (given_by (record { receiver = r; moves = ks } ∷ others))

-- how far a move takes the delivery-count: by one for a message that is sent, and by the credit that is used up by a
-- drain (section 2.6.7)
abbrev pub passed_by : Sender → sending.Move → ℕ
passed_by s m = minus (sending.after s m).delivery_count s.delivery_count

abbrev pub passed : Sender → List sending.Move → ℕ
passed s [] = 0
passed s (m ∷ ms) = passed_by s m + passed (sending.after s m) ms

-- no two messages have one tag as long as the delivery-count has not gone round at 2^32
abbrev pub TagsAreApart : Type 0
TagsAreApart = (s : Sender) (ms : List sending.Move) → s.delivery_count < 4294967296 → passed s ms ≤ 4294967296 → AreApart (sent s ms)
