-- Frames of sessions among those that an end queues.
use Rattle.std.proofs.Common.{◌≡◌, List, [], ◌∷◌, ◌++◌, true, Option, Result, Ok, Err, refl, sym, ap, ◌∙◌}
use Rattle.std.proofs.Math.Path.{ap₂}
use Rattle.std.proofs.lemmas.List.Elements.{filter-append}
use Rattle.amqp_composites.specs.declared.error.Error.{Error as AmqpError}
use Rattle.amqp_wire.specs.Events.{LinkEvent}
use Rattle.amqp_frames.specs.Session.{of_session}
use Rattle.amqp_transport.specs.declared.frames.Frame.{Frame}
use Rattle.amqp_transport.specs.declared.transport.Error.TheVariants as transport
use Rattle.amqp_engine.specs.declared.error.Error.{Error as ConnectionFault}
use Rattle.amqp_engine.specs.declared.error.Error.TheVariants as connection
use Rattle.amqp_engine.specs.declared.phase.Phase.{Phase}
use Rattle.amqp_engine.specs.declared.phase.Phase.TheVariants as p
use Rattle.amqp_engine.specs.Faults.{IsOwed, AllOwed}
use Rattle.amqp_engine.specs.Outcomes.{IsClosedBy}
use Rattle.amqp_engine.specs.Phases.{hears}
use Rattle.amqp_engine.specs.State.{State}
use Rattle.amqp_peer.specs.Frames.{sessions_of}
use Rattle.amqp_peer.specs.History.{Local, sent_in, at_link}
use Rattle.amqp_peer.proofs.Histories.{sent_in-append, sent_in-at}

pub sessions_of-append : (xs ys : List Frame) → sessions_of (xs ++ ys) ≡ sessions_of xs ++ sessions_of ys
sessions_of-append xs ys = filter-append (λ (x : Frame). of_session x.body) xs ys

-- what is owed is no frame of a session
one_unsaid : (q : Phase) (x : Frame) → IsOwed q x → sessions_of (x ∷ []) ≡ []
one_unsaid p.OpenSent x o = absurd o
one_unsaid p.Opened x o = ap (λ (y : Frame). sessions_of (y ∷ [])) o
one_unsaid p.CloseReceived x o = ap (λ (y : Frame). sessions_of (y ∷ [])) o
one_unsaid p.Refused x o = ap (λ (y : Frame). sessions_of (y ∷ [])) o
one_unsaid (p.Rejected why) x o = ap (λ (y : Frame). sessions_of (y ∷ [])) o
one_unsaid p.CloseSent x o = absurd o
one_unsaid p.Discarding x o = absurd o
one_unsaid p.Ended x o = absurd o
one_unsaid p.Failed x o = absurd o

pub owed_unsaid : (q : Phase) (xs : List Frame) → AllOwed q xs → sessions_of xs ≡ []
owed_unsaid q [] o = refl
owed_unsaid q (x ∷ []) o = one_unsaid q x o
owed_unsaid q (x ∷ y ∷ xs) o = absurd o

-- nor is the Close of a call
none_unsaid : (queued : List Frame) → queued ≡ [] → sessions_of queued ≡ []
none_unsaid queued e = ap sessions_of e

pub closed_unsaid : {L : Type 0} (s s' : State L) (y : Option AmqpError) (queued : List Frame) (result : Result Unit ConnectionFault) → IsClosedBy s y queued result s' → sessions_of queued ≡ []
closed_unsaid s s' y queued (Ok u) c = ap sessions_of c.0
closed_unsaid s s' y queued (Err (connection.Memory a)) c = none_unsaid queued c.0
closed_unsaid s s' y queued (Err connection.IllegalState) c = none_unsaid queued c.0
closed_unsaid s s' y queued (Err (connection.TransportError transport.FramingError)) c = none_unsaid queued c.0
closed_unsaid s s' y queued (Err (connection.TransportError (transport.Memory a))) c = absurd c
closed_unsaid s s' y queued (Err (connection.TransportError (transport.Io k))) c = absurd c
closed_unsaid s s' y queued (Err (connection.TransportError transport.IdleTimeoutElapsed)) c = absurd c
closed_unsaid s s' y queued (Err (connection.TransportError transport.DecodeError)) c = absurd c
closed_unsaid s s' y queued (Err (connection.TransportError transport.NotImplemented)) c = absurd c
closed_unsaid s s' y queued (Err connection.NotImplemented) c = absurd c
closed_unsaid s s' y queued (Err connection.NotFound) c = absurd c
closed_unsaid s s' y queued (Err connection.RemoteClosed) c = absurd c
closed_unsaid s s' y queued (Err (connection.RemoteClosedWithError e)) c = absurd c

-- a close leaves the channels as they were
pub closed_channels : {L : Type 0} (s s' : State L) (y : Option AmqpError) (queued : List Frame) (result : Result Unit ConnectionFault) → IsClosedBy s y queued result s' → s'.channels ≡ s.channels
closed_channels {L} s s' y queued (Ok u) c = ap (λ (x : State L). x.channels) c.1
closed_channels {L} s s' y queued (Err (connection.Memory a)) c = ap (λ (x : State L). x.channels) c.1
closed_channels {L} s s' y queued (Err connection.IllegalState) c = ap (λ (x : State L). x.channels) c.2
closed_channels {L} s s' y queued (Err (connection.TransportError transport.FramingError)) c = ap (λ (x : State L). x.channels) c.2
closed_channels s s' y queued (Err (connection.TransportError (transport.Memory a))) c = absurd c
closed_channels s s' y queued (Err (connection.TransportError (transport.Io k))) c = absurd c
closed_channels s s' y queued (Err (connection.TransportError transport.IdleTimeoutElapsed)) c = absurd c
closed_channels s s' y queued (Err (connection.TransportError transport.DecodeError)) c = absurd c
closed_channels s s' y queued (Err (connection.TransportError transport.NotImplemented)) c = absurd c
closed_channels s s' y queued (Err connection.NotImplemented) c = absurd c
closed_channels s s' y queued (Err connection.NotFound) c = absurd c
closed_channels s s' y queued (Err connection.RemoteClosed) c = absurd c
closed_channels s s' y queued (Err (connection.RemoteClosedWithError e)) c = absurd c

-- and a connection that hears behind it heard before
pub closed_listens : {L : Type 0} (s s' : State L) (y : Option AmqpError) (queued : List Frame) (result : Result Unit ConnectionFault) → IsClosedBy s y queued result s' → hears s'.phase ≡ true → hears s.phase ≡ true
closed_listens s s' y queued (Ok u) c z = ap hears c.2
closed_listens {L} s s' y queued (Err (connection.Memory a)) c z = sym (ap (λ (x : State L). hears x.phase) c.1) ∙ z
closed_listens {L} s s' y queued (Err connection.IllegalState) c z = sym (ap (λ (x : State L). hears x.phase) c.2) ∙ z
closed_listens {L} s s' y queued (Err (connection.TransportError transport.FramingError)) c z = absurd (cc (z, ap (λ (x : State L). hears x.phase) c.2))
closed_listens s s' y queued (Err (connection.TransportError (transport.Memory a))) c z = absurd c
closed_listens s s' y queued (Err (connection.TransportError (transport.Io k))) c z = absurd c
closed_listens s s' y queued (Err (connection.TransportError transport.IdleTimeoutElapsed)) c z = absurd c
closed_listens s s' y queued (Err (connection.TransportError transport.DecodeError)) c z = absurd c
closed_listens s s' y queued (Err (connection.TransportError transport.NotImplemented)) c z = absurd c
closed_listens s s' y queued (Err connection.NotImplemented) c z = absurd c
closed_listens s s' y queued (Err connection.NotFound) c z = absurd c
closed_listens s s' y queued (Err connection.RemoteClosed) c z = absurd c
closed_listens s s' y queued (Err (connection.RemoteClosedWithError e)) c z = absurd c

-- of histories

pub unsaid_join : (es fs : List Local) → sessions_of (sent_in es) ≡ [] → sessions_of (sent_in fs) ≡ [] → sessions_of (sent_in (es ++ fs)) ≡ []
unsaid_join es fs a b = ap sessions_of (sent_in-append es fs) ∙ sessions_of-append (sent_in fs) (sent_in es) ∙ ap₂ (λ (u v : List Frame). u ++ v) b a

pub unsaid_at : (es : List LinkEvent) → sessions_of (sent_in (at_link es)) ≡ []
unsaid_at es = ap sessions_of (sent_in-at es)
