-- What clients do that send messages and receive them.
use Rattle.std.specs.Prelude.{◌≡◌, ◌+◌, ℕ, zero, suc, Bool, true, false, if◌then◌else◌, List, [], ◌∷◌, ◌++◌, Option, Some, None, ⊤}
use Rattle.list_laws.specs.Told.{Gains}
use Rattle.amqp_wire.specs.declared.link.Link.{Ghosts}
use Rattle.amqp_calls.specs.declared.reply.Reply.{Reply}
use Rattle.amqp_calls.specs.declared.reply.Reply.TheVariants as reply
use Rattle.amqp_link_words.specs.declared.link_reply.LinkReply.{LinkReply}
use Rattle.amqp_link_words.specs.declared.link_reply.LinkReply.TheVariants as answer_at
use Rattle.amqp_termini.specs.declared.outcome.Outcome.{Outcome}
use Rattle.amqp_termini.specs.declared.outcome.Outcome.TheVariants as outcome
use Rattle.amqp_end.specs.declared.end.End.{End}
use Rattle.amqp_wire.specs.Link.{Rose}
use Rattle.amqp_link_words.specs.declared.link_call.Sendable.{Sendable}
use Rattle.amqp_served_calls.specs.Calls.{recv_call, accept_delivery_call, IsStringMessage}
use Rattle.amqp_serve.specs.Answers.{HasAnswer, IsHonest}
use Rattle.amqp_serve.specs.Ran.{Turn, Ran, told, Makes, RanOn, Settled, Left}
use Rattle.amqp_serve.specs.declared.failure.Failure.{Failure}
use Rattle.amqp_clients.specs.Bodies.{line_in}
use Rattle.amqp_clients.specs.declared.receiving.ReceiveFailure.{ReceiveFailure}
use Rattle.amqp_clients.specs.declared.receiving.ReceiveFailure.TheVariants as failure

-- a message was accepted (part 3, section 3.4.2)
abbrev pub is_acceptance : Outcome → Bool
is_acceptance (outcome.Accepted x) = true
is_acceptance _ = false

abbrev pub is_accepted_at : LinkReply → Bool
is_accepted_at (answer_at.Outcome x) = is_acceptance x
is_accepted_at _ = false

abbrev pub is_accepted : Reply → Bool
is_accepted (reply.Connection answer) = false
is_accepted (reply.Session answer) = false
is_accepted (reply.Link answer) = is_accepted_at answer

-- how many messages were refused: one, unless its outcome is accepted
abbrev pub refusals : Reply → ℕ
refusals reply = if is_accepted reply then 0 else 1

-- a message with that string was sent, and its outcome told; so many were refused
pub record DeliveredOne {L : Type 0} (link : Ghosts L) (old new : End L) (text : List ℕ) (refused : ℕ) : Type 0 where
  pub sender : ℕ
  pub message : Sendable
  pub is : IsStringMessage text message
  pub outcome : Reply
  pub settled : Settled link old new sender message outcome
  pub counted : refused ≡ refusals outcome

-- the same of each of these texts, one after another
unfoldable pub Delivered : {L : Type 0} → Ghosts L → End L → List (List ℕ) → ℕ → End L → Type 0
Delivered link a [] refused b = RanOn link a b × (refused ≡ 0)
Delivered {L} link a (text ∷ texts) refused b = (m : End L) × (one : ℕ) × (more : ℕ) × DeliveredOne link a m text one × Delivered link m texts more b × (refused ≡ one + more)

-- the turns of these messages, the newest first
abbrev pub delivered_turns : {L : Type 0} (link : Ghosts L) (old : End L) (texts : List (List ℕ)) (refused : ℕ) (new : End L) → Delivered link old texts refused new → List Turn
unfolding Delivered
delivered_turns link a [] refused b d = d.0.turns
delivered_turns link a (text ∷ texts) refused b d = delivered_turns link d.0 texts d.2 b d.4 ++ d.3.settled.turns

-- a call has asked a link for a message, and was answered by one, of which this is the line
pub record GaveMessage {L : Type 0} (link : Ghosts L) (old new : End L) (receiver name : ℕ) (line : List ℕ) : Type 0 where
  pub turns : List Turn
  pub ran : Ran link old turns new
  pub asks : Makes name (recv_call receiver) turns
  pub reply : Reply
  pub answered : HasAnswer name reply (told turns)
  pub is : line_in reply ≡ Some line

-- the same where there is a line, else an end ran
abbrev pub Gave : {L : Type 0} → Ghosts L → End L → End L → ℕ → ℕ → List ℕ → Bool → Type 0
Gave link a b receiver name line true = GaveMessage link a b receiver name line
Gave link a b receiver name line false = RanOn link a b

-- the line of the message that an answer gives, where it gives one
abbrev pub IsLine : Reply → List ℕ → Bool → Type 0
IsLine reply line true = line_in reply ≡ Some line
IsLine reply line false = ⊤

-- a call has accepted what that call gave
pub record AcceptedBy {L : Type 0} (link : Ghosts L) (old new : End L) (receiver delivery : ℕ) : Type 0 where
  pub turns : List Turn
  pub ran : Ran link old turns new
  pub name : ℕ
  pub accepts : Makes name (accept_delivery_call receiver delivery) turns

-- a message was given, its line was written, and then it was accepted
pub record Got {L : Type 0} (link : Ghosts L) (old new : End L) (receiver : ℕ) (written written' : Option (List ℕ)) : Type 0 where
  pub name : ℕ
  pub line : List ℕ
  pub between : End L
  pub gave : GaveMessage link old between receiver name line
  pub wrote : Gains written written' line
  pub accepted : AcceptedBy link between new receiver name

-- the same so many times, one after another
unfoldable pub GotAll : {L : Type 0} → Ghosts L → End L → ℕ → Option (List ℕ) → ℕ → End L → Option (List ℕ) → Type 0
GotAll link a receiver w zero b v = RanOn link a b × (v ≡ w)
GotAll {L} link a receiver w (suc n) b v = (m : End L) × (u : Option (List ℕ)) × GotAll link a receiver w n m u × Got link m b receiver u v

-- the turns of these messages, the newest first
abbrev pub got_turns : {L : Type 0} (link : Ghosts L) (old : End L) (receiver : ℕ) (written : Option (List ℕ)) (count : ℕ) (new : End L) (written' : Option (List ℕ)) → GotAll link old receiver written count new written' → List Turn
unfolding GotAll
got_turns link a receiver w zero b v g = g.0.turns
got_turns link a receiver w (suc n) b v g = g.3.accepted.turns ++ (g.3.gave.turns ++ got_turns link a receiver w n g.0 g.1 g.2)

-- so many messages of some link were written and accepted, and then the connection was closed
pub record Received {L : Type 0} (link : Ghosts L) (old new : End L) (count : ℕ) (written written' : Option (List ℕ)) : Type 0 where
  pub receiver : ℕ
  pub between : End L
  pub got : GotAll link old receiver written count between written'
  pub left : Left link between new

-- the texts were sent, so many of them were refused, and then the connection was closed
pub record SentAndLeft {L : Type 0} (link : Ghosts L) (old new : End L) (texts : List (List ℕ)) (refused : ℕ) : Type 0 where
  pub between : End L
  pub delivered : Delivered link old texts refused between
  pub left : Left link between new

-- why a run that writes goes no further: the sink's count of faults rose, or the end goes no further
abbrev pub IsCause : ℕ → ℕ → ReceiveFailure → Type 0
IsCause old new failure.Sink = Rose old new
IsCause old new (failure.End why) = IsHonest why

-- why the end goes no further, where it was the end
abbrev pub failure_in : ReceiveFailure → Option Failure
failure_in failure.Sink = None
failure_in (failure.End why) = Some why

-- so many lines were written one after another, each the line of a message in an answer
unfoldable pub WritesLines : ℕ → Option (List ℕ) → Option (List ℕ) → Type 0
WritesLines zero w v = v ≡ w
WritesLines (suc n) w v = (u : Option (List ℕ)) × (answer : Reply) × (line : List ℕ) × WritesLines n w u × (line_in answer ≡ Some line) × Gains u v line
