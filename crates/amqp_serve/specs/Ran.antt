-- What an end and its caller did.
use Rattle.std.specs.Prelude.{◌≡◌, ◌≤◌, ◌+◌, ◌⊎◌, ℕ, zero, suc, Bool, true, false, if◌then◌else◌, List, [], ◌∷◌, ◌++◌, Option, Some, None}
use Rattle.amqp_wire.specs.declared.link.Link.{Ghosts}
use Rattle.amqp_calls.specs.declared.call.Call.{Call}
use Rattle.amqp_calls.specs.declared.call.Call.TheVariants.{Connection, Session, Link}
use Rattle.amqp_link_words.specs.declared.link_call.Disposal.{Disposal}
use Rattle.amqp_link_words.specs.declared.link_call.Disposal.TheVariants.{Accepted}
use Rattle.amqp_link_words.specs.declared.link_call.LinkCall.{LinkCall}
use Rattle.amqp_link_words.specs.declared.link_call.LinkCall.TheVariants as call_at
use Rattle.amqp_link_words.specs.declared.link_call.Sendable.{Sendable}
use Rattle.amqp_calls.specs.declared.reply.NamedReply.{NamedReply}
use Rattle.amqp_calls.specs.declared.reply.Reply.{Reply}
use Rattle.amqp_end.specs.Asks.{MayAsk}
use Rattle.amqp_end.specs.Goes.{Goes, on_connection, on_links}
use Rattle.amqp_end.specs.declared.end.End.{End}
use Rattle.amqp_end.specs.amqp_links.Forgetting.{forgotten}
use Rattle.amqp_end.specs.amqp_links.State.{seen as linked}
use Rattle.amqp_peer.specs.Held.{reason_of}
use Rattle.amqp_peer.specs.Peering.{link_of, with_link_of}
use Rattle.amqp_frames.specs.declared.shared.ConnectionStopReason.{ConnectionStopReason}
use Rattle.amqp_frames.specs.declared.shared.ConnectionStopReason.TheVariants.{RemoteClosed}
use Rattle.amqp_served.specs.declared.served.Served.{Served}
use Rattle.amqp_served_calls.specs.Calls.{send_call, outcome_call, close_call, IsStringMessage}
use Rattle.amqp_serve.specs.declared.answers.AnswerKind.TheVariants.{Granted}
use Rattle.amqp_serve.specs.Answers.{kind_of, last_answer, HasAnswer, counted_all, is_sent, is_outcome, is_closing}

-- a link was waited for: no byte moved, and its count of faults did not fall
pub record Waited {L : Type 0} (link : Ghosts L) (old new : L) : Type 0 where
  pub input : link.input new ≡ link.input old
  pub output : link.output new ≡ link.output old
  pub mark : link.mark new ≡ link.mark old
  pub faults : link.faults old ≤ link.faults new

-- an end whose link was waited for
pub record WaitedFor {L : Type 0} (link : Ghosts L) (old new : End L) : Type 0 where
  pub after : L
  pub rest : new ≡ record old { connection = with_link_of old.connection after }
  pub waited : (d : L) → Waited link (link_of d old.connection) after

-- an end whose answers were taken
pub record Took {L : Type 0} (old new : End L) : Type 0 where
  pub connection : new.connection ≡ old.connection
  pub sessions : new.sessions ≡ old.sessions
  pub links : new.links ≡ old.links
  pub last : new.last ≡ old.last
  pub replies : new.replies.items ≡ []
  pub failed : new.failed ≡ old.failed

-- an end has forgotten what the call of that name sent or was given
pub record Forgot {L : Type 0} (name : ℕ) (old new : End L) : Type 0 where
  pub connection : new.connection ≡ old.connection
  pub sessions : new.sessions ≡ old.sessions
  pub links : linked new.links ≡ forgotten name (linked old.links)
  pub last : new.last ≡ old.last
  pub replies : new.replies ≡ old.replies
  pub failed : new.failed ≡ old.failed

-- what is done with an end: a call under a name, a poll, a wait for its link, its answers are taken, or it forgets a call
pub data Turn : Type 0 where
  calls : ℕ → Call → Turn
  polls : Turn
  waits : Turn
  tells : List NamedReply → Turn
  forgets : ℕ → Turn

-- a call is one that the end may make then; behind it, and in a poll, the end goes on
abbrev pub IsTurn : {L : Type 0} → Ghosts L → End L → Turn → End L → Type 0
IsTurn link m (calls name call) n =
    MayAsk m name call × (at : ℕ) × Goes link at (Some name) (on_connection name call) (on_links name call) (record m { last = Some name }) n
IsTurn link m polls n = (at : ℕ) × Goes link at None [] [] m n
IsTurn link m waits n = WaitedFor link m n
IsTurn link m (tells rs) n = (rs ≡ m.replies.items) × Took m n
IsTurn link m (forgets name) n = Forgot name m n

-- these turns were taken with an end, the newest first
unfoldable pub Ran : {L : Type 0} → Ghosts L → End L → List Turn → End L → Type 0
Ran link e [] n = n ≡ e
Ran {L} link e (t ∷ ts) n = (m : End L) × Ran link e ts m × IsTurn link m t n

-- the answers taken, in order
unfoldable pub told : List Turn → List NamedReply
told [] = []
told (calls name call ∷ ts) = told ts
told (polls ∷ ts) = told ts
told (waits ∷ ts) = told ts
told (tells rs ∷ ts) = told ts ++ rs
told (forgets name ∷ ts) = told ts

-- a call that accepts deliveries
abbrev pub is_acceptance : Disposal → Bool
is_acceptance Accepted = true
is_acceptance _ = false

abbrev pub is_accept_at : LinkCall → Bool
is_accept_at (call_at.Dispose receiver disposal deliveries) = is_acceptance disposal
is_accept_at _ = false

abbrev pub is_accept : Call → Bool
is_accept (Connection call) = false
is_accept (Session call) = false
is_accept (Link call) = is_accept_at call

-- how many of the calls accept deliveries
unfoldable pub accepts : List Turn → ℕ
accepts [] = 0
accepts (calls name call ∷ ts) = (if is_accept call then 1 else 0) + accepts ts
accepts (polls ∷ ts) = accepts ts
accepts (waits ∷ ts) = accepts ts
accepts (tells rs ∷ ts) = accepts ts
accepts (forgets name ∷ ts) = accepts ts

-- an end ran, and no answer was taken
pub record RanSilently {L : Type 0} (link : Ghosts L) (old new : End L) : Type 0 where
  pub turns : List Turn
  pub ran : Ran link old turns new
  pub silent : told turns ≡ []

-- the connection of an end has stopped
pub record IsStopped {L : Type 0} (e : End L) : Type 0 where
  pub why : ConnectionStopReason
  pub is : reason_of e.connection.held ≡ Some why

-- the peer has closed it without an error
abbrev pub IsClosed : {L : Type 0} → End L → Type 0
IsClosed e = reason_of e.connection.held ≡ Some RemoteClosed

-- a call was made under that name
unfoldable pub Makes : ℕ → Call → List Turn → Type 0
Makes name call [] = ⊥
Makes name call (calls n c ∷ ts) = ((n ≡ name) × (c ≡ call)) ⊎ Makes name call ts
Makes name call (polls ∷ ts) = Makes name call ts
Makes name call (waits ∷ ts) = Makes name call ts
Makes name call (tells rs ∷ ts) = Makes name call ts
Makes name call (forgets n ∷ ts) = Makes name call ts

-- an end ran
pub record RanOn {L : Type 0} (link : Ghosts L) (old new : End L) : Type 0 where
  pub turns : List Turn
  pub ran : Ran link old turns new

-- an end ran, and this is the last of the answers taken to the call of that name
pub record Asked {L : Type 0} (link : Ghosts L) (old new : End L) (name : ℕ) (answer : Option Reply) : Type 0 where
  pub turns : List Turn
  pub ran : Ran link old turns new
  pub said : answer ≡ last_answer name (told turns)

-- the same, and that call was made
pub record AskedNow {L : Type 0} (link : Ghosts L) (old new : End L) (name : ℕ) (call : Call) (answer : Option Reply) : Type 0 where
  pub asked : Asked link old new name answer
  pub makes : Makes name call asked.turns

-- a call was made, an end ran, and where there is an answer it is the last of those taken to that call
pub record Waits {L : Type 0} (link : Ghosts L) (old new : End L) (name : ℕ) (call : Call) (answer : Option Reply) : Type 0 where
  pub turns : List Turn
  pub ran : Ran link old turns new
  pub makes : Makes name call turns
  pub said : (reply : Reply) → answer ≡ Some reply → last_answer name (told turns) ≡ Some reply

-- a call was made, and an end ran until it was answered by what was asked for
pub record Answered {L : Type 0} (link : Ghosts L) (old new : End L) (name : ℕ) (call : Call) (reply : Reply) : Type 0 where
  pub turns : List Turn
  pub ran : Ran link old turns new
  pub makes : Makes name call turns
  pub answer : last_answer name (told turns) ≡ Some reply
  pub kind : kind_of reply ≡ Granted

-- a call was made and answered by `sent`
pub record SentBy {L : Type 0} (link : Ghosts L) (old new : End L) (name : ℕ) (call : Call) : Type 0 where
  pub turns : List Turn
  pub ran : Ran link old turns new
  pub makes : Makes name call turns
  pub reply : Reply
  pub answered : HasAnswer name reply (told turns)
  pub sent : is_sent reply ≡ true

-- the same where it was answered so, else an end ran
abbrev pub Tried : {L : Type 0} → Ghosts L → End L → End L → ℕ → Call → Bool → Type 0
Tried link a b name call true = SentBy link a b name call
Tried link a b name call false = RanOn link a b

-- a call has sent that message over that link, and was answered by `sent`; a call has asked for its outcome, and was answered by this one
pub record Settled {L : Type 0} (link : Ghosts L) (old new : End L) (sender : ℕ) (message : Sendable) (outcome : Reply) : Type 0 where
  pub turns : List Turn
  pub ran : Ran link old turns new
  pub name : ℕ
  pub sends : Makes name (send_call sender message) turns
  pub reply : Reply
  pub answered : HasAnswer name reply (told turns)
  pub sent : is_sent reply ≡ true
  pub asking : ℕ
  pub asks : Makes asking (outcome_call name) turns
  pub told_so : HasAnswer asking outcome (told turns)
  pub kind : is_outcome outcome ≡ true

-- the same so many times, one after another
unfoldable pub SentAll : {L : Type 0} → Ghosts L → End L → ℕ → Sendable → ℕ → End L → Type 0
SentAll link a sender message zero b = RanOn link a b
SentAll {L} link a sender message (suc n) b = (m : End L) × (outcome : Reply) × SentAll link a sender message n m × Settled link m b sender message outcome

-- a call has closed the connection, and was answered by `closed`
pub record Left {L : Type 0} (link : Ghosts L) (old new : End L) : Type 0 where
  pub turns : List Turn
  pub ran : Ran link old turns new
  pub name : ℕ
  pub closes : Makes name close_call turns
  pub reply : Reply
  pub answered : HasAnswer name reply (told turns)
  pub closed : is_closing reply ≡ true

-- a client has sent that message so many times, each time it was told its outcome, and then the connection was closed
pub record ConnectedWith {L : Type 0} (link : Ghosts L) (old new : End L) (message : Sendable) (count : ℕ) : Type 0 where
  pub sender : ℕ
  pub between : End L
  pub sent : SentAll link old sender message count between
  pub left : Left link between new

-- the same with a message of that string
pub record Connected {L : Type 0} (link : Ghosts L) (old new : End L) (text : List ℕ) (count : ℕ) : Type 0 where
  pub message : Sendable
  pub is : IsStringMessage text message
  pub connected : ConnectedWith link old new message count

-- an end ran; so many messages came in the answers taken, and those that were not accepted yet are owed, with those before
pub record Heard {L : Type 0} (link : Ghosts L) (old new : End L) (before after : Served) : Type 0 where
  pub turns : List Turn
  pub ran : Ran link old turns new
  pub counts : after.messages ≡ counted_all (told turns) before.messages
  pub owes : after.messages + before.owed ≤ before.messages + after.owed + accepts turns

-- a call was made
pub record Called {L : Type 0} (link : Ghosts L) (old new : End L) (name : ℕ) (call : Call) : Type 0 where
  pub may : MayAsk old name call
  pub moment : ℕ
  pub goes : Goes link moment (Some name) (on_connection name call) (on_links name call) (record old { last = Some name }) new
