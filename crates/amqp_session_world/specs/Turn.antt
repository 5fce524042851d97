-- What one step of two ends with sessions and links does.
use Rattle.std.specs.Prelude.{◌≡◌, ◌≤◌, ℕ, Bool, true, false, IsTrue, List, [], ◌∷◌, ◌++◌, length, take, drop, slice_get, Option, Some, None, ⊤}
use Rattle.amqp_wire.specs.Piped.{Piped}
use Rattle.amqp_peer.specs.Peering.{fresh, with_link_of}
use Rattle.amqp_words.specs.declared.call.Call.{Call as ConnectionCall}
use Rattle.amqp_link_words.specs.declared.link_call.LinkCall.{LinkCall}
use Rattle.amqp_words.specs.declared.step.End.{End as Side}
use Rattle.amqp_words.specs.declared.step.End.TheVariants.{Client, Listener}
use Rattle.amqp_end.specs.amqp_calls.declared.step.Act.{Act}
use Rattle.amqp_end.specs.amqp_calls.declared.step.Act.TheVariants.{Take, TakeAll, Call}
use Rattle.amqp_end.specs.amqp_calls.declared.step.Step.{Step}
use Rattle.amqp_end.specs.amqp_calls.declared.trace.Entry.{Entry}
use Rattle.amqp_world.specs.Turn.{piping, empty_pipe, pipe_of, fed, drained}
use Rattle.amqp_world.specs.Valid.{kind_of}
use Rattle.amqp_end.specs.amqp_links.State.{seen as linked, no_links}
use Rattle.amqp_end.specs.amqp_sessions.State.{seen, none_begun}
use Rattle.amqp_end.specs.declared.end.End.{End}
use Rattle.amqp_end.specs.Asks.{MayAsk}
use Rattle.amqp_end.specs.Goes.{Goes, on_connection, on_links}
use Rattle.amqp_session_world.specs.Paired.{Paired, none_paired, paired_by, spares}

-- the bytes that an end wrote and that were not moved yet
abbrev pub untaken : End Piped → List ℕ
untaken e = drop (pipe_of e.connection).mark (pipe_of e.connection).output

-- how many bytes of the other end's an act moves
abbrev pub count_of : Act → End Piped → ℕ
count_of (Take n) far = n
count_of TakeAll far = length (untaken far)
count_of (Call call) far = 0

-- an act takes at most what is in flight to its end
abbrev pub IsWithin : Act → End Piped → Type 0
IsWithin (Take n) far = n ≤ length (untaken far)
IsWithin TakeAll far = ⊤
IsWithin (Call call) far = ⊤

-- an act's call is one that the end may make under this name
abbrev pub MayAct : End Piped → ℕ → Act → Type 0
MayAct near name (Take n) = ⊤
MayAct near name TakeAll = ⊤
MayAct near name (Call call) = MayAsk near name call

-- an act may be made at the end `near`, whose other is `far`
abbrev pub CanAct : End Piped → End Piped → ℕ → Act → Type 0
CanAct near far name act = IsWithin act far × MayAct near name act

-- an end after bytes of the far end came to its input
abbrev pub given : End Piped → End Piped → ℕ → End Piped
given near far count = record near { connection = with_link_of near.connection (fed (pipe_of near.connection) (pipe_of far.connection) count) }

-- an end after bytes of its output were taken
abbrev pub marked : End Piped → ℕ → End Piped
marked far count = record far { connection = with_link_of far.connection (drained (pipe_of far.connection) count) }

-- an end that makes a call has used its name
abbrev pub named : ℕ → Act → End Piped → End Piped
named name (Take n) e = e
named name TakeAll e = e
named name (Call call) e = record e { last = Some name }

-- the call that an act makes on the connection, if it makes one
abbrev pub calls_of : ℕ → Act → List (ℕ × ConnectionCall)
calls_of name (Take n) = []
calls_of name TakeAll = []
calls_of name (Call call) = on_connection name call

-- the call that it makes on the links, if it makes one
abbrev pub link_calls_of : ℕ → Act → List (ℕ × LinkCall)
link_calls_of name (Take n) = []
link_calls_of name TakeAll = []
link_calls_of name (Call call) = on_links name call

-- the name of the call that an act makes, if it makes one
abbrev pub called : ℕ → Act → Option ℕ
called name (Take n) = None
called name TakeAll = None
called name (Call call) = Some name

-- the answers of an end are taken out of it
pub record Told (ran near : End Piped) (entry : Entry) : Type 0 where
  pub replies : entry.replies.items ≡ ran.replies.items
  pub left : near.replies.items ≡ []
  pub connection : near.connection ≡ ran.connection
  pub sessions : near.sessions ≡ ran.sessions
  pub links : near.links ≡ ran.links
  pub last : near.last ≡ ran.last
  pub failed : near.failed ≡ ran.failed

-- One step of the end `near` at a moment, whose other is `far`: bytes of the far end came to its input, it went on, and its answers were taken
-- out. The entry has these and what it wrote. The far end is as before but for its mark.
pub record Turned (near far : End Piped) (name at : ℕ) (act : Act) (near' far' : End Piped) (entry : Entry) : Type 0 where
  pub can : CanAct near far name act
  pub far_end : far' ≡ marked far (count_of act far)
  pub ran : End Piped
  pub goes : Goes piping at (called name act) (calls_of name act) (link_calls_of name act)
      (named name act (given near far (count_of act far))) ran
  pub told : Told ran near' entry
  pub output : (pipe_of near'.connection).output ≡ (pipe_of near.connection).output ++ entry.wrote.items

-- both ends, which of their sessions pair, the entries of the steps made, and the moment of the last
pub record View : Type 0 where
  pub client : End Piped
  pub listener : End Piped
  pub paired : Paired
  pub entries : List Entry
  pub moment : ℕ

abbrev pub CanStep : Side → View → Step → Type 0
CanStep Client w step = CanAct w.client w.listener (length w.entries) step.act
CanStep Listener w step = CanAct w.listener w.client (length w.entries) step.act

-- a client, which attaches the links, takes no name that the listener has used up
abbrev pub IsSpared : Side → View → Step → Type 0
IsSpared Client w step = IsTrue (spares w.paired w.listener step.act)
IsSpared Listener w step = ⊤

-- a step is valid after those made: its moment is not below the last, its act may be made at its end, and it takes no name that the other has
-- used up
abbrev pub IsValid : View → Step → Type 0
IsValid w step = (w.moment ≤ step.at) × CanStep step.end w step × IsSpared step.end w step

abbrev pub IsTurnAt : Side → ℕ → View → Step → View → Entry → Type 0
IsTurnAt Client name old step new entry = Turned old.client old.listener name step.at step.act new.client new.listener entry
IsTurnAt Listener name old step new entry = Turned old.listener old.client name step.at step.act new.listener new.client entry

-- the step was valid, its end made it, and one entry follows those before
pub record IsTurn (old : View) (step : Step) (new : View) : Type 0 where
  pub valid : IsValid old step
  pub entry : Entry
  pub entries : new.entries ≡ old.entries ++ entry ∷ []
  pub moment : new.moment ≡ step.at
  pub paired : new.paired ≡ paired_by step.end entry.replies.items old.paired
  pub turned : IsTurnAt step.end (length old.entries) old step new entry

-- the ends made these steps, one after another
abbrev pub Turns : View → List Step → View → Type 0
Turns old [] new = new ≡ old
Turns old (s ∷ ss) new = (next : View) × IsTurn old s next × Turns next ss new

-- a listener accepts the links of its peer
abbrev pub accepts : Side → Bool
accepts Client = false
accepts Listener = true

-- nothing happened at an end
pub record IsFresh (side : Side) (e : End Piped) : Type 0 where
  pub connection : e.connection ≡ fresh empty_pipe (kind_of side)
  pub sessions : seen e.sessions ≡ none_begun
  pub links : linked e.links ≡ no_links (accepts side)
  pub replies : e.replies.items ≡ []
  pub last : e.last ≡ None

-- nothing happened at either
pub record IsStart (w : View) : Type 0 where
  pub client : IsFresh Client w.client
  pub listener : IsFresh Listener w.listener
  pub paired : w.paired ≡ none_paired
  pub entries : w.entries ≡ []
  pub moment : w.moment ≡ 0

-- two ends that share only the bytes moved between them made these steps from the start, and these are their entries
pub record AreMade (steps : List Step) (entries : List Entry) : Type 0 where
  pub first : View
  pub starts : IsStart first
  pub view : View
  pub turns : Turns first steps view
  pub entries_are : view.entries ≡ entries

-- step i is the first that is not valid: the ends made those before it, after which it is not
pub record IsFirstInvalid (steps : List Step) (i : ℕ) : Type 0 where
  pub first : View
  pub starts : IsStart first
  pub view : View
  pub turns : Turns first (take i steps) view
  pub step : Step
  pub at : slice_get steps i ≡ Some step
  pub invalid : IsValid view step → ⊥
