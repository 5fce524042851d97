-- The answers of an end with sessions and links, by what gives them: its connection, its sessions or its links.
use Rattle.std.specs.Prelude.{◌≡◌, ◌==◌, ℕ, List, ◌∷◌, ◌++◌, Option, Some, None, slice_get, filter, filter_map, All, ⊤}
use Rattle.amqp_words.specs.declared.call.Call.{Call as ConnectionCall}
use Rattle.amqp_words.specs.declared.reply.NamedReply.{NamedReply as ConnectionReply}
use Rattle.amqp_words.specs.declared.step.End.{End as Side}
use Rattle.amqp_end.specs.amqp_calls.declared.call.Call.TheVariants as on
use Rattle.amqp_end.specs.amqp_calls.declared.reply.NamedReply.{NamedReply}
use Rattle.amqp_end.specs.amqp_calls.declared.reply.Reply.{Reply}
use Rattle.amqp_end.specs.amqp_calls.declared.reply.Reply.TheVariants.{Connection, Session, Link}
use Rattle.amqp_end.specs.amqp_calls.declared.step.Act.TheVariants.{Call}
use Rattle.amqp_end.specs.amqp_calls.declared.step.Step.{Step}
use Rattle.amqp_peer.specs.Causes.{HasCause, AllCaused}
use Rattle.amqp_peer.specs.History.{Local, Replied, made_in, replied_in}
use Rattle.amqp_session_world.specs.Lives.{calls_at}

-- an answer to a call for a session
abbrev pub IsOfSession : Reply → Type 0
IsOfSession (Connection r) = ⊥
IsOfSession (Session r) = ⊤
IsOfSession (Link r) = ⊥

-- each of these is one
abbrev pub AreOfSessions : List NamedReply → Type 0
AreOfSessions answers = All (λ (r : NamedReply). IsOfSession r.reply) answers

-- the answer of a connection, where it is one
abbrev pub connection_part : ℕ → Reply → Option ConnectionReply
connection_part name (Connection r) = Some (record { name = name; reply = r })
connection_part name (Session r) = None
connection_part name (Link r) = None

-- those of a connection among all answers, in order
abbrev pub of_connections : List NamedReply → List ConnectionReply
of_connections answers = filter_map (λ (r : NamedReply). connection_part r.name r.reply) answers

-- those to the call of that name
abbrev pub replies_to : ℕ → List ConnectionReply → List ConnectionReply
replies_to name replies = filter (λ (r : ConnectionReply). r.name == name) replies

-- what an end has told of its connection, and then what its connection has answered and is not told yet, are for each
-- call the replies of its history, in order
abbrev pub IsTold : List NamedReply → List ConnectionReply → List Local → Type 0
IsTold told untold h =
    (name : ℕ) → replies_to name (of_connections told) ++ replies_to name untold ≡ replies_to name (replied_in h)

-- these are the first of those
abbrev pub AreFirst : List ConnectionReply → List ConnectionReply → Type 0
AreFirst xs all = (later : List ConnectionReply) × (xs ++ later ≡ all)

-- the history has the reply, and its cause in what happened before it
pub record IsCausedIn (h : List Local) (r : ConnectionReply) : Type 0 where
  pub later : List Local
  pub earlier : List Local
  pub split : h ≡ later ++ Replied r ∷ earlier
  pub cause : HasCause earlier r.reply

-- the call of that name, which is the position of its step, is one on a connection, and this end makes it
pub record IsOnConnection (e : Side) (steps : List Step) (name : ℕ) : Type 0 where
  pub step : Step
  pub at : slice_get steps name ≡ Some step
  pub by : step.end ≡ e
  pub call : ConnectionCall
  pub makes : step.act ≡ Call (on.Connection call)

-- Of the answers of an end in these steps, those of its connection, and the history of that: its calls are those that
-- the end makes on it, and each of its replies has its cause in what happened before it. The answers to each call are
-- the first of its replies to that call, in order. So each stands there with its cause, and is to a call on the
-- connection.
pub record AreAnswered (e : Side) (steps : List Step) (answers : List NamedReply) (h : List Local) : Type 0 where
  pub calls_are : made_in h ≡ calls_at e 0 steps
  pub causes : AllCaused h
  pub first : (name : ℕ) → AreFirst (replies_to name (of_connections answers)) (replies_to name (replied_in h))
  pub caused : All (λ (r : ConnectionReply). IsCausedIn h r) (of_connections answers)
  pub called : All (λ (r : ConnectionReply). IsOnConnection e steps r.name) (of_connections answers)
