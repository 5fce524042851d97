-- An end that goes on.
use Rattle.std.specs.Prelude.{◌≡◌, ◌≤◌, ◌+◌, ◌^◌, ◌⊎◌, ℕ, List, [], ◌∷◌, ◌++◌, length, Bool, true, false, Option, Some, None, Result, Ok, Err, ⊤}
use Rattle.std.specs.declared.alloc.AllocError.{AllocError}
use Rattle.amqp_frames.specs.declared.shared.ConnectionStopReason.{ConnectionStopReason}
use Rattle.amqp_frames.specs.declared.shared.ConnectionStopReason.TheVariants as why
use Rattle.amqp_wire.specs.declared.link.Held.TheVariants.{Full}
use Rattle.amqp_wire.specs.declared.link.Link.{Ghosts}
use Rattle.amqp_wire.specs.declared.link.Stop.TheVariants.{Empty}
use Rattle.amqp_wire.specs.Events.{NotRead, NotWritten, Went, Includes, reads_in}
use Rattle.amqp_engine.specs.declared.error.Error.{Error as ConnectionFault}
use Rattle.amqp_engine.specs.declared.error.Error.TheVariants as fault
use Rattle.amqp_engine.specs.Outcomes.{IsWritten}
use Rattle.amqp_words.specs.declared.open_error.OpenError.{OpenError}
use Rattle.amqp_words.specs.declared.open_error.OpenError.TheVariants as failed
use Rattle.amqp_words.specs.declared.reply.Reply.{Reply}
use Rattle.amqp_words.specs.declared.reply.Reply.TheVariants as reply
use Rattle.sasl_exchange.specs.declared.error.NegotiationError.{NegotiationError}
use Rattle.amqp_opening.specs.declared.authentication.Authentication.{Authentication}
use Rattle.amqp_opening.specs.Authentication.{peer_mechanism}
use Rattle.amqp_opening.specs.Opening.{Opened, IsAtRest}
use Rattle.amqp_words.specs.declared.call.Call.{Call}
use Rattle.amqp_words.specs.declared.call.Call.TheVariants.{Close}
use Rattle.amqp_peer.specs.declared.prepared.Prepared.{Prepared}
use Rattle.amqp_peer.specs.declared.held.Held.{Held}
use Rattle.amqp_peer.specs.declared.held.Held.TheVariants.{Early, Late, Unopened, Moving}
use Rattle.amqp_peer.specs.declared.peer.Progress.{Progress}
use Rattle.amqp_peer.specs.declared.peer.Progress.TheVariants as progress
use Rattle.amqp_peer.specs.Hearing.{Gathers}
use Rattle.amqp_peer.specs.Held.{IsActive, IsStopped, IsSound, IsAtRestIn, IsExchanged, EndedEarly, reason_of, is_made}
use Rattle.amqp_peer.specs.History.{Local, made_in, link_in, given_in, sent_in, replied_in, moment_in, IsInside}
use Rattle.amqp_peer.specs.Causes.{AllCaused}
use Rattle.amqp_peer.specs.Peering.{Peering, Has, HasCalled, IsMadeIn, IsUntouched, link_of}
use Rattle.amqp_peer.specs.Replies.{pending, connection, answered}

-- what is read next is not there whole; a connection that has begun has written what it queued as far as the link took it
abbrev pub IsReadUp : {L : Type 0} → ℕ → Held L → List Local → Type 0
IsReadUp at (Early o p) events = IsAtRest peer_mechanism o
IsReadUp at (Late s) events = IsAtRestIn at s × (Includes (link_in events) (NotWritten Full) ⊎ (s.wire.codec.output ≡ []))
IsReadUp at (Unopened c) events = ⊤
IsReadUp at Moving events = ⊤

-- the exchange of headers stops where the link takes no output
abbrev pub IsBlocked : {L : Type 0} → Held L → List Local → Type 0
IsBlocked (Early o p) events = Includes (link_in events) (NotWritten Full)
IsBlocked (Late s) events = ⊥
IsBlocked (Unopened c) events = ⊥
IsBlocked Moving events = ⊥

-- why an end can do no more at this moment: the link had no input, and no whole frame is left; or it took no output while the headers are
-- exchanged; or a great many reads were made, or frames read and queued
abbrev pub IsSettled : {L : Type 0} → ℕ → Held L → List Local → Type 0
IsSettled at held events =
    (Includes (link_in events) (NotRead Empty) × IsReadUp at held events) ⊎ (IsBlocked held events
    ⊎ ((2 ^ 62 ≤ reads_in (link_in events)) ⊎ (2 ^ 62 ≤ length (given_in events) + length (sent_in events))))

-- a call waits for its last answer
abbrev pub CallWaits : Progress → Type 0
CallWaits progress.Idle = ⊥
CallWaits progress.Opening = ⊤
CallWaits progress.Open = ⊥
CallWaits progress.Closing = ⊤
CallWaits progress.Over = ⊥

-- what a connection queued is written as far as the link took it, unless the transport failed
abbrev pub IsFlushed : {L : Type 0} → Held L → List Local → Type 0
IsFlushed (Early o p) events = ⊤
IsFlushed (Late s) events = IsWritten s.phase (link_in events) s.wire.codec.output
IsFlushed (Unopened c) events = ⊤
IsFlushed Moving events = ⊤

-- what is so once a connection has stopped: no call waits, and what was queued is written as far as that goes; or a great many frames were
-- read and queued
abbrev pub IsConcluded : {L : Type 0} → Peering L → List Local → Type 0
IsConcluded p events = ((CallWaits p.progress → ⊥) × IsFlushed p.held events) ⊎ (2 ^ 62 ≤ 1 + (length (given_in events) + length (sent_in events)))

-- An end went on by itself, with at most so many reads that gave bytes, from what was before: what passed at its link, its frames and its
-- replies are added to its history, and what it was given of sessions waits for them.
pub record AdvancedFrom {L : Type 0} (link : Ghosts L) (at n : ℕ) (Before : List Local → Type 0) (old new : Peering L) : Type 0 where
  pub events : List Local
  pub inside : IsInside events
  pub went : (d : L) → Went link (link_of d old) (link_in events) (link_of d new)
  pub answers : new.replies ≡ old.replies ++ replied_in events
  pub few : reads_in (link_in events) ≤ n
  pub gathers : Gathers old.held new.held events
  pub kind : new.kind ≡ old.kind
  pub grows : (h : List Local) → moment_in h ≡ at → Before h → Has new (events ++ h)

abbrev pub Advanced : {L : Type 0} → Ghosts L → ℕ → ℕ → Peering L → Peering L → Type 0
Advanced link at n old new = AdvancedFrom link at n (Has old) old new

-- so many steps of the connection, each of which read or queued a frame, but for the last where the transport failed in it
pub record Worked {L : Type 0} (link : Ghosts L) (at n : ℕ) (old new : Peering L) : Type 0 where
  pub run : Advanced link at n old new
  pub frames : IsSound new.held → n ≤ length (given_in run.events) + length (sent_in run.events)
  pub most : n ≤ 1 + (length (given_in run.events) + length (sent_in run.events))
  pub stays : IsSound new.held → IsSound old.held
  pub from : 1 ≤ n → IsSound old.held

-- it went on until it could do no more
pub record RestedFrom {L : Type 0} (link : Ghosts L) (at n : ℕ) (Before : List Local → Type 0) (old new : Peering L) : Type 0 where
  pub run : AdvancedFrom link at n Before old new
  pub settled : IsActive new.held → IsSettled at new.held run.events
  pub concluded : IsStopped new.held → IsConcluded new run.events
  pub begun : IsExchanged new.held → ⊥

abbrev pub Rested : {L : Type 0} → Ghosts L → ℕ → ℕ → Peering L → Peering L → Type 0
Rested link at n old new = RestedFrom link at n (Has old) old new

-- a call of it was made and not answered yet, and nothing else was done
pub record IsAsked {L : Type 0} (call : Call) (p : Peering L) (h : List Local) : Type 0 where
  pub made : made_in h ≡ (p.name, call) ∷ []
  pub replied : replied_in h ≡ []
  pub link : link_in h ≡ []
  pub given : given_in h ≡ []
  pub sent : sent_in h ≡ []
  pub caused : AllCaused h
  pub progress : p.progress ≡ progress.Opening
  pub fault : p.fault ≡ None
  pub opening : Opened L Authentication
  pub prepared : Option Prepared
  pub holds : p.held ≡ Early opening prepared
  pub untouched : IsUntouched opening

-- the same, answered by pending
pub record IsToOpen {L : Type 0} (call : Call) (p : Peering L) (h : List Local) : Type 0 where
  pub made : made_in h ≡ (p.name, call) ∷ []
  pub replied : replied_in h ≡ pending p.name ∷ []
  pub link : link_in h ≡ []
  pub given : given_in h ≡ []
  pub sent : sent_in h ≡ []
  pub caused : AllCaused h
  pub progress : p.progress ≡ progress.Opening
  pub fault : p.fault ≡ None
  pub opening : Opened L Authentication
  pub prepared : Option Prepared
  pub holds : p.held ≡ Early opening prepared
  pub untouched : IsUntouched opening

-- a close with this condition was asked for, and not answered yet
pub record IsAskedToClose {L : Type 0} (condition : Option (List ℕ)) (p : Peering L) (h : List Local) : Type 0 where
  pub call : Call
  pub name : ℕ
  pub made : made_in h ≡ (p.name, Close condition) ∷ (name, call) ∷ []
  pub replied : replied_in h ≡ pending name ∷ connection name ∷ []
  pub called : HasCalled call p.held h
  pub is_made : IsMadeIn p.fault p.held h

-- the same, answered by pending
pub record IsToClose {L : Type 0} (condition : Option (List ℕ)) (p : Peering L) (h : List Local) : Type 0 where
  pub call : Call
  pub name : ℕ
  pub made : made_in h ≡ (p.name, Close condition) ∷ (name, call) ∷ []
  pub replied : replied_in h ≡ pending name ∷ connection name ∷ pending p.name ∷ []
  pub called : HasCalled call p.held h
  pub is_made : IsMadeIn p.fault p.held h

-- An end made a step, which began with a call or a poll: what passed at its link, its frames and its replies are added to its
-- history, and what it was given of sessions waits for them. It stops where it can do no more now, or where the connection has not begun or has ended,
-- and then no call waits for it; where the headers are exchanged, the connection begins.
pub record Stepped {L : Type 0} (link : Ghosts L) (old : Peering L) (first : Local) (new : Peering L) : Type 0 where
  pub events : List Local
  pub inside : IsInside events
  pub went : (d : L) → Went link (link_of d old) (link_in events) (link_of d new)
  pub answers : new.replies ≡ old.replies ++ replied_in events
  pub few : reads_in (link_in events) ≤ 2 ^ 63
  pub gathers : Gathers old.held new.held events
  pub kind : new.kind ≡ old.kind
  pub settled : IsActive new.held → IsSettled (moment_in (first ∷ [])) new.held events
  pub concluded : IsStopped new.held → IsConcluded new events
  pub begun : (IsExchanged old.held → ⊥) → IsExchanged new.held → ⊥
  pub grows : (h : List Local) → Has old h → Has new (events ++ first ∷ h)

-- ---- answers

-- what an open or accept is answered for a fault
abbrev pub open_error_of : ConnectionFault → OpenError
open_error_of (fault.TransportError e) = failed.TransportError e
open_error_of fault.RemoteClosed = failed.RemoteClosed
open_error_of (fault.RemoteClosedWithError e) = failed.RemoteClosedWithError e
open_error_of (fault.Memory a) = failed.IllegalState
open_error_of fault.IllegalState = failed.IllegalState
open_error_of fault.NotImplemented = failed.IllegalState
open_error_of fault.NotFound = failed.IllegalState

-- what the caller is told of the reason for which a connection has stopped: none where this end closed it
abbrev pub told_by : ConnectionStopReason → Option ConnectionFault
told_by why.Closed = None
told_by (why.ClosedWithError e) = None
told_by why.RemoteClosed = Some fault.RemoteClosed
told_by (why.RemoteClosedWithError e) = Some (fault.RemoteClosedWithError e)

abbrev pub told_of : Option ConnectionStopReason → Option ConnectionFault
told_of None = None
told_of (Some reason) = told_by reason

-- the first fault stays
abbrev pub first_fault : Option ConnectionFault → ConnectionFault → Option ConnectionFault
first_fault None e = Some e
first_fault (Some f) e = Some f

-- the fault, else what is told of the reason
abbrev pub error_by : Option ConnectionFault → Option ConnectionStopReason → Option ConnectionFault
error_by (Some e) reason = Some e
error_by None reason = told_of reason

abbrev pub error_in : {L : Type 0} → Peering L → Option ConnectionFault
error_in p = error_by p.fault (reason_of p.held)

-- why an open or accept failed; a connection that has stopped before it was made always tells why
abbrev pub open_failure : Option ConnectionFault → OpenError
open_failure None = failed.IllegalState
open_failure (Some e) = open_error_of e

-- how an open or accept is answered in the end, and how a close is
abbrev pub open_reply : Option ConnectionFault → Reply
open_reply e = reply.OpenError (open_failure e)

abbrev pub close_reply : Option ConnectionFault → Reply
close_reply None = reply.Closed
close_reply (Some e) = reply.ConnectionError e

-- the last call has its last answer
abbrev pub told : {L : Type 0} → Peering L → Reply → Peering L
told p r = record p { progress = progress.Over; replies = p.replies ++ answered p.name r ∷ [] }

-- and so has a fault
abbrev pub finished : {L : Type 0} → Peering L → Reply → Peering L
finished p r = told (record p { fault = None }) r

-- what becomes of an end whose connection has stopped
abbrev pub concluded_in : {L : Type 0} → Progress → Peering L → Peering L
concluded_in progress.Idle p = p
concluded_in progress.Opening p = finished p (open_reply (error_in p))
concluded_in progress.Open p = p
concluded_in progress.Closing p = finished p (close_reply (error_in p))
concluded_in progress.Over p = p

abbrev pub concluded : {L : Type 0} → Peering L → Peering L
concluded p = concluded_in p.progress p

-- the connection was made
abbrev pub greeted_if : {L : Type 0} → Bool → Peering L → Peering L
greeted_if true p = record p { progress = progress.Open; replies = p.replies ++ answered p.name reply.Connection ∷ [] }
greeted_if false p = p

-- what becomes of an end whose open or accept waits
abbrev pub greeted_in : {L : Type 0} → Progress → Peering L → Peering L
greeted_in progress.Idle p = p
greeted_in progress.Opening p = greeted_if (is_made p.held) p
greeted_in progress.Open p = p
greeted_in progress.Closing p = p
greeted_in progress.Over p = p

abbrev pub greeted : {L : Type 0} → Peering L → Peering L
greeted p = greeted_in p.progress p

-- an open or accept was refused before anything was written
pub record Refused {L : Type 0} (old : Peering L) (e : NegotiationError) (new : Peering L) : Type 0 where
  pub held : Held L
  pub ended : EndedEarly old.held held
  pub is : new ≡ told (record old { held = held }) (reply.OpenError (failed.Negotiation e))

-- want of memory apart from the other faults
abbrev pub without_memory : ConnectionFault → Result ConnectionFault AllocError
without_memory (fault.Memory a) = Err a
without_memory (fault.TransportError e) = Ok (fault.TransportError e)
without_memory fault.IllegalState = Ok fault.IllegalState
without_memory fault.NotImplemented = Ok fault.NotImplemented
without_memory fault.NotFound = Ok fault.NotFound
without_memory fault.RemoteClosed = Ok fault.RemoteClosed
without_memory (fault.RemoteClosedWithError e) = Ok (fault.RemoteClosedWithError e)

-- what becomes of a Close that was not queued: one is queued or owed already, or the fault is kept
abbrev pub IsCloseNoted : {L : Type 0} → ConnectionFault → Peering L → Peering L → Type 0
IsCloseNoted (fault.Memory a) old new = ⊥
IsCloseNoted (fault.TransportError e) old new = new ≡ record old { fault = first_fault old.fault (fault.TransportError e) }
IsCloseNoted fault.IllegalState old new = new ≡ old
IsCloseNoted fault.NotImplemented old new = new ≡ record old { fault = first_fault old.fault fault.NotImplemented }
IsCloseNoted fault.NotFound old new = new ≡ record old { fault = first_fault old.fault fault.NotFound }
IsCloseNoted fault.RemoteClosed old new = new ≡ record old { fault = first_fault old.fault fault.RemoteClosed }
IsCloseNoted (fault.RemoteClosedWithError e) old new = new ≡ record old { fault = first_fault old.fault (fault.RemoteClosedWithError e) }
