-- An end, in words of what happened at it.
use Rattle.std.specs.Prelude.{◌≡◌, ◌⊎◌, ◌<◌, ℕ, List, [], ◌∷◌, ◌++◌, Bool, true, false, Option, Some, None, ⊤}
use Rattle.amqp_wire.specs.Events.{LinkEvent}
use Rattle.amqp_engine.specs.declared.error.Error.{Error as ConnectionFault}
use Rattle.amqp_engine.specs.declared.error.Error.TheVariants as connection
use Rattle.amqp_engine.specs.Closers.{IsCloser}
use Rattle.amqp_engine.specs.Phases.{has_failed}
use Rattle.amqp_engine.specs.Sentence.{Has as EngineHas, IsCalm}
use Rattle.amqp_engine.specs.State.{State}
use Rattle.sasl_gate.specs.declared.gate.negotiation.Phase.TheVariants.{Header as HeaderPhase}
use Rattle.amqp_opening.specs.declared.authentication.Authentication.{Authentication}
use Rattle.amqp_opening.specs.declared.opening.Stage.{Stage}
use Rattle.amqp_opening.specs.declared.opening.Stage.TheVariants as stage
use Rattle.amqp_opening.specs.Authentication.{peer_mechanism}
use Rattle.amqp_opening.specs.Opening.{amqp_header, Opened, HasOpening, HasIntro}
use Rattle.amqp_words.specs.declared.call.Call.{Call}
use Rattle.amqp_words.specs.declared.call.Call.TheVariants.{Close}
use Rattle.amqp_words.specs.declared.open_error.OpenError.{OpenError}
use Rattle.amqp_words.specs.declared.reply.Reply.{Reply}
use Rattle.amqp_words.specs.declared.reply.NamedReply.{NamedReply}
use Rattle.amqp_transport.specs.Wire.{idle_of}
use Rattle.amqp_peer.specs.declared.held.Held.{Held}
use Rattle.amqp_peer.specs.declared.held.Held.TheVariants.{Early, Late, Unopened, Moving}
use Rattle.amqp_peer.specs.declared.peer.PeerKind.{PeerKind}
use Rattle.amqp_peer.specs.declared.peer.Progress.{Progress}
use Rattle.amqp_peer.specs.declared.peer.Progress.TheVariants as progress
use Rattle.amqp_peer.specs.declared.prepared.Prepared.{Prepared}
use Rattle.amqp_peer.specs.Beats.{beat_in, AllBeats}
use Rattle.amqp_peer.specs.Closers.{closer_in}
use Rattle.amqp_peer.specs.Calls.{IsFirstCall, IsClose}
use Rattle.amqp_peer.specs.Causes.{MadeIn, has_layer, BeginsWithOpen, IsOther, AllCaused, IsRefusedAs, IsBrokenBy, IsBroken, EndsExchange, IsQueued, StartsWithin, largest_of}
use Rattle.amqp_peer.specs.Gated.{IsGatedIn}
use Rattle.amqp_peer.specs.Held.{IsMidway, IsBusy, IsLeavingIn, link_at, with_link, nothing_held}
use Rattle.amqp_peer.specs.History.{Local, made_in, link_in, given_in, sent_in, replied_in, read_in, wrote_in, since_in, Once}
use Rattle.amqp_peer.specs.Layers.{HasLayer}
use Rattle.amqp_peer.specs.Prepared.{prepared_of, sasl_of}
use Rattle.amqp_peer.specs.Said.{HasSaid}
use Rattle.amqp_peer.specs.Replies.{pending, connection, texts_refused, answered, IsCloseEnd, IsOpenRefusal}

-- an end: what holds its link, which side it is, how far its calls are, the name of the last, the first fault that was not told yet, the
-- replies that were not taken out, and whether memory was wanting
pub record Peering (L : Type 0) : Type 0 where
  pub held : Held L
  pub kind : PeerKind
  pub progress : Progress
  pub name : ℕ
  pub fault : Option ConnectionFault
  pub replies : List NamedReply
  pub failed : Bool

-- an end at which nothing happened
abbrev pub fresh : {L : Type 0} → L → PeerKind → Peering L
fresh link kind = record { held = nothing_held link; kind = kind; progress = progress.Idle; name = 0; fault = None; replies = []; failed = false }

-- the link that an end holds; it holds one whenever it is seen
abbrev pub link_of : {L : Type 0} → L → Peering L → L
link_of d p = link_at d p.held

-- the end with another link
abbrev pub with_link_of : {L : Type 0} → Peering L → L → Peering L
with_link_of p w = record p { held = with_link p.held w }

-- ---- what holds the link

-- nothing was done
pub record IsUntouched {L : Type 0} (o : Opened L Authentication) : Type 0 where
  pub stage : o.stage ≡ stage.Idle
  pub input : o.negotiation.codec.input ≡ []
  pub output : o.negotiation.codec.output ≡ []
  pub phase : o.negotiation.phase ≡ HeaderPhase

-- it is known with what the connection begins
abbrev pub IsKnown : Option Prepared → Type 0
IsKnown None = ⊥
IsKnown (Some p) = Unit {0}

-- the headers are being exchanged
pub record IsExchanging {L : Type 0} (call : Call) (o : Opened L Authentication) (p : Option Prepared) (h : List Local) : Type 0 where
  pub made : MadeIn (sasl_of call) o.has_sasl o.negotiation.exchange
  pub asked : has_layer (made_in h) ≡ o.has_sasl
  pub prepared : prepared_of call ≡ p
  pub known : IsKnown p
  pub opening : HasOpening peer_mechanism o (link_in h)
  pub given : given_in h ≡ []
  pub sent : sent_in h ≡ []

-- the connection goes on behind the headers
pub record IsRunning {L : Type 0} (call : Call) (s : State L) (h : List Local) : Type 0 where
  pub layer : Bool
  pub x : Authentication
  pub made : MadeIn (sasl_of call) layer x
  pub asked : has_layer (made_in h) ≡ layer
  pub p : Prepared
  pub prepared : prepared_of call ≡ Some p
  pub before : List LinkEvent
  pub since : List LinkEvent
  pub passed : link_in h ≡ since ++ before
  pub arrived : List ℕ
  pub unwritten : List ℕ
  pub intro : HasIntro layer peer_mechanism x (amqp_header ++ arrived) unwritten before
  pub runs : EngineHas unwritten arrived s (record { events = since; given = given_in h; sent = sent_in h })
  pub began : Once EndsExchange h
  pub opens : BeginsWithOpen (sent_in h)
  pub starts : StartsWithin 512 (sent_in h)
  pub says : HasSaid h
  pub idle : s.wire.clock.idle ≡ idle_of p.idle
  pub own : s.settings.largest_read ≡ largest_of (Some p)
  pub start : s.wire.clock.since ≡ since_in h
  pub beat : s.beat ≡ beat_in h
  pub beats : AllBeats h
  pub closer : IsCloser s.phase s.reason (closer_in h)
  pub calm : IsCalm s

-- it wrote what it may
abbrev pub HasWritten : Call → List Local → Type 0
HasWritten call h = IsGatedIn (sasl_of call) (wrote_in h) (read_in h)

-- and no frame was read or queued
pub record HasNoFrames (call : Call) (h : List Local) : Type 0 where
  pub written : HasWritten call h
  pub exchange : HasLayer (sasl_of call) h
  pub queued : IsQueued h
  pub given : given_in h ≡ []
  pub sent : sent_in h ≡ []

abbrev pub IsHeldAt : {L : Type 0} → Stage → Call → Opened L Authentication → Option Prepared → List Local → Type 0
IsHeldAt stage.Idle call o p h = ⊥
IsHeldAt stage.Negotiating call o p h = IsExchanging call o p h
IsHeldAt stage.Header call o p h = IsExchanging call o p h
IsHeldAt stage.Exchanged call o p h = IsExchanging call o p h
IsHeldAt stage.Ended call o p h = HasNoFrames call h

abbrev pub IsHeld : {L : Type 0} → Call → Held L → List Local → Type 0
IsHeld call (Early o p) h = IsHeldAt o.stage call o p h
IsHeld call (Late s) h = IsRunning call s h
IsHeld call (Unopened c) h = HasNoFrames call h
IsHeld call Moving h = ⊥

-- ---- the fault

-- why a connection failed before it was made; where its transport did, it is at an end since
abbrev pub EarlyFault : {L : Type 0} → ConnectionFault → State L → List Local → Type 0
EarlyFault (connection.Memory a) s h = ⊥
EarlyFault (connection.TransportError e) s h = (has_failed s.phase ≡ true) × IsBrokenBy e h
EarlyFault connection.IllegalState s h = Once (λ g. IsOther (given_in g)) h
EarlyFault connection.NotImplemented s h = ⊥
EarlyFault connection.NotFound s h = ⊥
EarlyFault connection.RemoteClosed s h = ⊥
EarlyFault (connection.RemoteClosedWithError e) s h = ⊥

-- and after it was made
abbrev pub LateFault : {L : Type 0} → ConnectionFault → State L → List Local → Type 0
LateFault (connection.Memory a) s h = ⊥
LateFault (connection.TransportError e) s h = (has_failed s.phase ≡ true) × IsBrokenBy e h
LateFault connection.IllegalState s h = Once (λ g. IsRefusedAs connection.IllegalState (given_in g)) h
LateFault connection.NotImplemented s h = Once (λ g. IsRefusedAs connection.NotImplemented (given_in g)) h
LateFault connection.NotFound s h = Once (λ g. IsRefusedAs connection.NotFound (given_in g)) h
LateFault connection.RemoteClosed s h = ⊥
LateFault (connection.RemoteClosedWithError e) s h = ⊥

-- ---- how far the calls are

-- without a fault: no Open was read, no other frame in place of it, and the transport has not failed
pub record IsFaultless {L : Type 0} (s : State L) (h : List Local) : Type 0 where
  pub unheard : BeginsWithOpen (given_in h) → ⊥
  pub kept : IsOther (given_in h) → ⊥
  pub sound : has_failed s.phase ≡ false

-- no Open was read, unless the transport has failed
abbrev pub IsUnheard : {L : Type 0} → State L → List Local → Type 0
IsUnheard s h = has_failed s.phase ≡ false → BeginsWithOpen (given_in h) → ⊥

-- where the transport has failed, it had its cause when it did
abbrev pub IsBrokenIn : {L : Type 0} → State L → List Local → Type 0
IsBrokenIn s h = has_failed s.phase ≡ true → IsBroken h

-- the connection is not made, and a fault had its cause when it came
abbrev pub IsUnmadeAt : {L : Type 0} → Option ConnectionFault → State L → List Local → Type 0
IsUnmadeAt None s h = IsFaultless s h
IsUnmadeAt (Some e) s h = EarlyFault e s h × (IsUnheard s h × IsBrokenIn s h)

abbrev pub IsUnmade : {L : Type 0} → Option ConnectionFault → Held L → List Local → Type 0
IsUnmade fault (Early o p) h = (fault ≡ None) × IsMidway o.stage
IsUnmade fault (Late s) h = IsUnmadeAt fault s h
IsUnmade fault (Unopened c) h = ⊥
IsUnmade fault Moving h = ⊥

-- the connection is made, and a fault had its cause when it came
abbrev pub IsFaultIn : {L : Type 0} → Option ConnectionFault → State L → List Local → Type 0
IsFaultIn None s h = has_failed s.phase ≡ false
IsFaultIn (Some e) s h = LateFault e s h × IsBrokenIn s h

-- the same of what holds the link
abbrev pub IsBrokenHeld : {L : Type 0} → Held L → List Local → Type 0
IsBrokenHeld (Early o p) h = ⊤
IsBrokenHeld (Late s) h = IsBrokenIn s h
IsBrokenHeld (Unopened c) h = ⊤
IsBrokenHeld Moving h = ⊤

abbrev pub IsMadeIn : {L : Type 0} → Option ConnectionFault → Held L → List Local → Type 0
IsMadeIn fault (Early o p) h = ⊥
IsMadeIn fault (Late s) h = BeginsWithOpen (given_in h) × IsFaultIn fault s h
IsMadeIn fault (Unopened c) h = ⊥
IsMadeIn fault Moving h = ⊥

-- what an end that has called holds, and that each of its replies has its cause
pub record HasCalled {L : Type 0} (call : Call) (held : Held L) (h : List Local) : Type 0 where
  pub holds : IsHeld call held h
  pub caused : AllCaused h

-- nothing happened
pub record HasNothing {L : Type 0} (p : Peering L) (h : List Local) : Type 0 where
  pub made : made_in h ≡ []
  pub link : link_in h ≡ []
  pub replied : replied_in h ≡ []
  pub given : given_in h ≡ []
  pub sent : sent_in h ≡ []
  pub caused : AllCaused h
  pub fault : p.fault ≡ None
  pub opening : Opened L Authentication
  pub prepared : Option Prepared
  pub holds : p.held ≡ Early opening prepared
  pub untouched : IsUntouched opening

-- an open or accept waits
pub record IsWaiting {L : Type 0} (p : Peering L) (h : List Local) : Type 0 where
  pub call : Call
  pub made : made_in h ≡ (p.name, call) ∷ []
  pub replied : replied_in h ≡ pending p.name ∷ []
  pub called : HasCalled call p.held h
  pub unmade : IsUnmade p.fault p.held h

-- it is answered, and the connection is open
pub record IsOpen {L : Type 0} (p : Peering L) (h : List Local) : Type 0 where
  pub call : Call
  pub name : ℕ
  pub same : p.name ≡ name
  pub made : made_in h ≡ (name, call) ∷ []
  pub replied : replied_in h ≡ pending name ∷ connection name ∷ []
  pub called : HasCalled call p.held h
  pub is_made : IsMadeIn p.fault p.held h

-- a close waits: a Close is queued or owed, or the connection has stopped
pub record IsClosing {L : Type 0} (p : Peering L) (h : List Local) : Type 0 where
  pub call : Call
  pub name : ℕ
  pub error : Option (List ℕ)
  pub made : made_in h ≡ (p.name, Close error) ∷ (name, call) ∷ []
  pub replied : replied_in h ≡ pending name ∷ connection name ∷ pending p.name ∷ []
  pub called : HasCalled call p.held h
  pub is_made : IsMadeIn p.fault p.held h
  pub leaves : IsLeavingIn p.held

-- the connection has not begun, and nothing was read or written
abbrev pub IsSilent : {L : Type 0} → Held L → List Local → Type 0
IsSilent (Early o p) h = link_in h ≡ []
IsSilent (Late s) h = ⊥
IsSilent (Unopened c) h = ⊥
IsSilent Moving h = ⊥

-- the open or accept has failed; where its user or password was refused, nothing else was done
pub record HasFailedOpen {L : Type 0} (p : Peering L) (h : List Local) : Type 0 where
  pub call : Call
  pub name : ℕ
  pub error : OpenError
  pub made : made_in h ≡ (name, call) ∷ []
  pub replied : IsOpenRefusal name error (replied_in h)
  pub silent : error ≡ texts_refused → IsSilent p.held h
  pub called : HasCalled call p.held h
  pub done : IsBusy p.held → ⊥
  pub broken : IsBrokenHeld p.held h

-- the close has its last answer
pub record HasClosed {L : Type 0} (p : Peering L) (h : List Local) : Type 0 where
  pub call : Call
  pub name : ℕ
  pub closing : ℕ
  pub error : Option (List ℕ)
  pub reply : Reply
  pub made : made_in h ≡ (closing, Close error) ∷ (name, call) ∷ []
  pub end : IsCloseEnd reply
  pub replied : (replied_in h ≡ pending name ∷ connection name ∷ pending closing ∷ answered closing reply ∷ []) ⊎ (replied_in h ≡ pending name ∷ connection name ∷ answered closing reply ∷ [])
  pub called : HasCalled call p.held h
  pub done : IsBusy p.held → ⊥
  pub broken : IsBrokenHeld p.held h

abbrev pub HasIn : {L : Type 0} → Progress → Peering L → List Local → Type 0
HasIn progress.Idle p h = HasNothing p h
HasIn progress.Opening p h = IsWaiting p h
HasIn progress.Open p h = IsOpen p h
HasIn progress.Closing p h = IsClosing p h
HasIn progress.Over p h = HasFailedOpen p h ⊎ HasClosed p h

-- an end after what happened at it
abbrev pub Has : {L : Type 0} → Peering L → List Local → Type 0
Has p h = HasIn p.progress p h

-- ---- calls

abbrev pub MayCallIn : Progress → PeerKind → ℕ → ℕ → Call → Type 0
MayCallIn progress.Idle kind last name call = IsFirstCall kind call
MayCallIn progress.Opening kind last name call = ⊥
MayCallIn progress.Open kind last name call = IsClose call × (last < name)
MayCallIn progress.Closing kind last name call = ⊥
MayCallIn progress.Over kind last name call = ⊥

-- the calls that an end may make under this name, which is above that of its last call
abbrev pub MayCall : {L : Type 0} → Peering L → ℕ → Call → Type 0
MayCall p name call = MayCallIn p.progress p.kind p.name name call
