-- Which calls an end takes (docs/SPECIFICATION.md, "Valid steps").
use Rattle.std.specs.Prelude.{◌≡◌, ◌<◌, ℕ, false, Option, Some, None, ⊤}
use Rattle.amqp_sessions.specs.amqp_calls.declared.call.Call.{Call}
use Rattle.amqp_sessions.specs.amqp_calls.declared.call.Call.TheVariants.{Connection, Session, Link}
use Rattle.amqp_sessions.specs.amqp_calls.declared.call.SessionCall.{SessionCall}
use Rattle.amqp_sessions.specs.amqp_calls.declared.call.SessionCall.TheVariants.{Begin, Accept, End as EndCall}
use Rattle.amqp_sessions.specs.amqp_link_words.declared.link_call.LinkCall.{LinkCall}
use Rattle.amqp_sessions.specs.amqp_link_words.declared.link_call.LinkCall.TheVariants as link
use Rattle.amqp_links.specs.May.{MayCall as MayCallFor, is_busy_on}
use Rattle.amqp_links.specs.State.{State as Links, seen as linked}
use Rattle.amqp_peer.specs.declared.peer.PeerKind.{PeerKind}
use Rattle.amqp_peer.specs.declared.peer.PeerKind.TheVariants.{Client, Listener}
use Rattle.amqp_peer.specs.declared.peer.Progress.TheVariants.{Open}
use Rattle.amqp_peer.specs.Peering.{Peering, MayCall}
use Rattle.amqp_sessions.specs.State.{State, seen}
use Rattle.amqp_sessions.specs.Calls.{MayCall as MayCallAt, MayEnd, handle_max}
use Rattle.amqp_end.specs.declared.end.End.{End}

-- a name above that of the last call
abbrev pub IsNew : Option ℕ → ℕ → Type 0
IsNew None name = ⊤
IsNew (Some last) name = last < name

-- a client begins sessions and a listener accepts them, while the connection is open as far as its caller was told; either ends them,
-- but not while a call for a link waits on one
abbrev pub Takes : {L : Type 0} → Peering L → Links → SessionCall → Type 0
Takes p l (Begin numbers) = (p.kind ≡ Client) × (p.progress ≡ Open)
Takes p l (Accept numbers) = (p.kind ≡ Listener) × (p.progress ≡ Open)
Takes p l (EndCall session error) = is_busy_on session l ≡ false

-- an end on that side, and a session on which calls may be made
abbrev pub HasSession : {L : Type 0} → PeerKind → Peering L → ℕ → State → Type 0
HasSession kind p session s = (p.kind ≡ kind) × MayEnd session s

-- a client attaches links and a listener accepts them, each on such a session, whatever has become of its connection; of other calls the
-- links say by themselves which they take
abbrev pub TakesForLink : {L : Type 0} → Peering L → State → LinkCall → Type 0
TakesForLink p s (link.Sender session settings) = HasSession Client p session s
TakesForLink p s (link.Receiver session settings) = HasSession Client p session s
TakesForLink p s (link.Accept session settings mode auto_accept) = HasSession Listener p session s
TakesForLink p s call = ⊤

-- the highest handle that a call which attaches a link may take, where its session has one to give (part 2, section 2.7.2)
abbrev pub limit_for : LinkCall → State → Option ℕ
limit_for (link.Sender session settings) s = handle_max session s
limit_for (link.Receiver session settings) s = handle_max session s
limit_for (link.Accept session settings mode auto_accept) s = handle_max session s
limit_for call s = None

-- a call on the connection is one that its end may make, while none for a session waits on it
abbrev pub MayAskFor : {L : Type 0} → End L → ℕ → Call → Type 0
MayAskFor e name (Connection call) = ((seen e.sessions).waiting ≡ None) × MayCall e.connection name call
MayAskFor e name (Session call) = Takes e.connection (linked e.links) call × MayCallAt (seen e.sessions) call
MayAskFor e name (Link call) = TakesForLink e.connection (seen e.sessions) call × MayCallFor (linked e.links) call

-- the calls that an end may make under this name
abbrev pub MayAsk : {L : Type 0} → End L → ℕ → Call → Type 0
MayAsk e name call = IsNew e.last name × MayAskFor e name call
