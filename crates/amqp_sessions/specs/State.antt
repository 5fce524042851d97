-- The session endpoints of a connection, as their rules see them (OASIS AMQP 1.0, part 2, section 2.5).
use Rattle.std.specs.Prelude.{◌≡◌, ℕ, nat_eq, List, [], ◌∷◌, ◌++◌, Option, Some, None}
use Rattle.std.specs.Map.{lookup, set_value}
use Rattle.indexmap.specs.IndexMap.{swap_remove_entry}
use Rattle.amqp_calls.specs.declared.reply.NamedReply.{NamedReply}
use Rattle.amqp_calls.specs.declared.reply.Reply.TheVariants.{Session}
use Rattle.amqp_calls.specs.declared.reply.SessionReply.{SessionReply}
use Rattle.amqp_session.specs.declared.session.LinkInput.{LinkInput}
use Rattle.amqp_session.specs.State.{Framed}
use Rattle.amqp_sessions.specs.declared.sessions.Sessions.{Sessions}
use Rattle.amqp_sessions.specs.declared.sessions.Waiting.{Waiting}
use Rattle.amqp_sessions.specs.Parts.{EndpointState, named, Pops, PopsInput}
use Rattle.amqp_sessions.specs.Endpoint.{emptied}

-- the endpoints by the names of the calls that made them; the name of the session on each channel of this end, and of the peer; the
-- frames of the peer's channels that no session has heard yet; the call that waits on the connection; the frames to be written; what the
-- sessions have for their links; the channels of this end that are free again; the answers that were not taken
pub record State : Type 0 where
  pub endpoints : List (ℕ × EndpointState)
  pub channels : List (ℕ × ℕ)
  pub remotes : List (ℕ × ℕ)
  pub early : List (ℕ × List Framed)
  pub waiting : Option Waiting
  pub output : List Framed
  pub incoming : List (ℕ × LinkInput)
  pub freed : List ℕ
  pub replies : List NamedReply

abbrev pub seen : Sessions → State
seen s = record {
  endpoints = s.endpoints.entries;
  channels = s.channels.entries;
  remotes = s.remotes.entries;
  early = s.early.entries;
  waiting = s.waiting;
  output = s.output;
  incoming = s.incoming;
  freed = s.freed.items;
  replies = s.replies.items;
}

-- no session was begun
abbrev pub none_begun : State
none_begun = record {
  endpoints = [];
  channels = [];
  remotes = [];
  early = [];
  waiting = None;
  output = [];
  incoming = [];
  freed = [];
  replies = [];
}

-- the endpoint of that name
abbrev pub endpoint_of : ℕ → State → Option EndpointState
endpoint_of name s = lookup (nat_eq name) s.endpoints

-- it goes on to another state
abbrev pub with_endpoint : ℕ → EndpointState → State → State
with_endpoint name e s = record s { endpoints = set_value (nat_eq name) s.endpoints e }

-- it is let go; the last one takes its place
abbrev pub let_go : ℕ → State → State
let_go name s = record s { endpoints = swap_remove_entry (nat_eq name) s.endpoints }

-- the call of that name is answered
abbrev pub answering : ℕ → SessionReply → State → State
answering name reply s = record s { replies = s.replies ++ record { name = name; reply = Session reply } ∷ [] }

-- the frames of a session go out behind those that are to be written, and what it has for its links behind what links are to hear
abbrev pub handing : ℕ → Option EndpointState → State → State
handing name None s = s
handing name (Some e) s = record (with_endpoint name (emptied e) s) { output = s.output ++ e.session.output; incoming = s.incoming ++ named name e.session.incoming }

abbrev pub handed_out : ℕ → State → State
handed_out name s = handing name (endpoint_of name s) s

-- the first frame to be written is taken off
abbrev pub TakesFrame : State → Option Framed → State → Type 0
TakesFrame old taken new = Pops old.output taken new.output × (new ≡ record old { output = new.output })

-- the first of what the sessions have for their links
abbrev pub TakesInput : State → Option (ℕ × LinkInput) → State → Type 0
TakesInput old taken new = PopsInput old.incoming taken new.incoming × (new ≡ record old { incoming = new.incoming })

-- the first channel that is free again
abbrev pub TakesChannel : State → Option ℕ → State → Type 0
TakesChannel old None new = (old.freed ≡ []) × (new ≡ old)
TakesChannel old (Some channel) new = (old.freed ≡ channel ∷ new.freed) × (new ≡ record old { freed = new.freed })
