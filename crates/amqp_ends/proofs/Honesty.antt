-- What an end is never answered whose peer is another end like it.
use Rattle.std.proofs.Common.{◌≡◌, inl, inr, ℕ, List, [], ◌∷◌, ◌++◌, Bool, true, false, Option, Some, None, sym, ap, ◌∙◌, subst, append_assoc, All}
use Rattle.amqp_composites.specs.declared.error.Error.{Error as AmqpError}
use Rattle.amqp_frames.specs.declared.body.FrameBody.TheVariants as b
use Rattle.amqp_transport.specs.declared.frames.Frame.{Frame}
use Rattle.amqp_transport.specs.declared.transport.Error.{Error as TransportFault}
use Rattle.amqp_transport.specs.declared.transport.Error.TheVariants as fault
use Rattle.amqp_wire.specs.declared.link.Held.TheVariants as held
use Rattle.amqp_wire.specs.declared.link.IoKind.{IoKind}
use Rattle.amqp_wire.specs.declared.link.IoKind.TheVariants.{Fault, End}
use Rattle.amqp_wire.specs.declared.link.Stop.TheVariants as stop
use Rattle.amqp_wire.specs.Events.{LinkEvent, NotRead, NotWritten, Includes, HasFailed}
use Rattle.amqp_wire.proofs.Events.{includes_right}
use Rattle.amqp_engine.specs.declared.error.Error.{Error as ConnectionFault}
use Rattle.amqp_engine.specs.declared.error.Error.TheVariants as connection
use Rattle.amqp_engine.specs.declared.phase.BodyKind.{BodyKind}
use Rattle.amqp_engine.specs.declared.phase.BodyKind.TheVariants as kind
use Rattle.amqp_engine.specs.Heard.{IsRejected}
use Rattle.amqp_engine.specs.Phases.{kind_of, IsInner}
use Rattle.sasl_exchange.specs.declared.client.ClientExchange.TheVariants as client
use Rattle.sasl_exchange.specs.declared.error.NegotiationError.{NegotiationError}
use Rattle.sasl_exchange.specs.declared.error.NegotiationError.TheVariants as negotiation
use Rattle.sasl_exchange.specs.declared.server.ServerExchange.TheVariants as server
use Rattle.sasl_gate.specs.Negotiation.{LinkCause, at_link, at_header, at_frame, by_body, too_long}
use Rattle.amqp_opening.specs.declared.authentication.Authentication.{Authentication}
use Rattle.amqp_opening.specs.declared.authentication.Authentication.TheVariants.{Idle, Client, Listener}
use Rattle.amqp_opening.specs.Authentication.{peer_mechanism}
use Rattle.amqp_opening.specs.Opening.{IsOpeningCause, in_negotiation, at_amqp_header, at_plain_header}
use Rattle.amqp_opening.specs.Opening.{at_link as at_plain_link}
use Rattle.amqp_peer.specs.amqp_words.declared.call.Call.{Call}
use Rattle.amqp_peer.specs.amqp_words.declared.open_error.OpenError.{OpenError}
use Rattle.amqp_peer.specs.amqp_words.declared.open_error.OpenError.TheVariants as failed
use Rattle.amqp_peer.specs.amqp_words.declared.reply.Reply.{Reply}
use Rattle.amqp_peer.specs.amqp_words.declared.reply.Reply.TheVariants as reply
use Rattle.amqp_peer.specs.amqp_words.declared.reply.NamedReply.{NamedReply}
use Rattle.amqp_peer.specs.Causes.{IsShut, IsOther, IsOpenCause, not_allowed, in_opening, OpenCauseIn, TransportCause, IsRefusedAs, IsBrokenBy, ConnectionCause, HasCause, AllCaused}
use Rattle.amqp_peer.specs.Said.{HasOtherFirst, HasStray}
use Rattle.amqp_peer.specs.History.{Local, Made, Polled, AtLink, Exchanged, Got, Put, Replied, made_in, link_in, given_in, replied_in, read_in, wrote_in, Once}
use Rattle.amqp_peer.proofs.Histories.{link_in-append, given_in-append}
use Rattle.amqp_ends.specs.Honest.{IsHonest, IsHonestFault, IsHonestNegotiation, AllHonest}
use Rattle.amqp_engine.specs.State.{IsFramed}
use Rattle.amqp_ends.specs.Joined.{IsCalm, Meets, MeetsUnstrayed}
use Rattle.amqp_ends.proofs.Said.{said_tidy}
use Rattle.amqp_ends.proofs.Hearing.{stream_at, hears, read_before, framed_behind}
use Rattle.amqp_ends.proofs.Rests.{unspelled_not, foreign_not}
use Rattle.amqp_ends.proofs.Tidy.{IsTidy, tidy_again, tidy_first}

-- ---- the link

pub calm_before : (later h : List Local) → IsCalm (link_in (later ++ h)) → IsCalm (link_in h)
calm_before later h c =
    let more : (y : LinkEvent) → Includes (link_in h) y → Includes (link_in (later ++ h)) y = λ y i. subst (λ (es : List LinkEvent). Includes es y) (sym (link_in-append later h)) (includes_right (link_in later) (link_in h) y i) in
    record {
      unfailed_reads = λ i. c.unfailed_reads (more (NotRead stop.Failed) i);
      unfailed_writes = λ i. c.unfailed_writes (more (NotWritten held.Failed) i);
      unended = λ i. c.unended (more (NotRead stop.End) i);
      unfilled = λ i. c.unfilled (more (NotWritten held.Full) i);
    }

unfailed : (h : List Local) → IsCalm (link_in h) → HasFailed (link_in h) → ⊥
unfailed h c f = elim f [ inl r ↦ c.unfailed_reads r | inr w ↦ c.unfailed_writes w ]

-- ---- the frames

-- the frames that an end was given are tidy
pub tidy_given : (h far : List Local) → Meets h far → IsTidy (given_in h)
tidy_given h far m =
    let s = hears h far m.left m.tied m.far_tied m.reads in
    subst IsTidy (sym s.items) (tidy_again s.first (tidy_first s.first s.others (subst IsTidy s.split (said_tidy far m.far_said))))

-- and so are those that it was given before
tidy_before : (later h far : List Local) → Meets (later ++ h) far → IsTidy (given_in h)
tidy_before later h far m = tidy_first (given_in h) (given_in later) (subst IsTidy (given_in-append later h) (tidy_given (later ++ h) far m))

first_open : (x : Frame) (xs given : List Frame) → IsTidy given → given ≡ x ∷ xs → kind_of x.body ≡ kind.Open
first_open x xs given t e = (subst IsTidy e t).0

shut_not : (error : Option AmqpError) (given : List Frame) → IsTidy given → IsShut error given → ⊥
shut_not error given t s = absurd (cc (first_open (record { channel = s.channel; body = b.Close (record { error = error }) }) [] given t s.is))

inner_not_open : (k : BodyKind) → IsInner k → k ≡ kind.Open → ⊥
inner_not_open k i e = subst IsInner e i

other_not : (given : List Frame) → IsTidy given → IsOther given → ⊥
other_not given t o = inner_not_open (kind_of o.first.body) o.other (first_open o.first [] given t o.is)

-- a frame that was rejected stays among those that were read
rejected_among : (given before later all : List Frame) → given ≡ before ++ later → IsRejected before → (more : List Frame) → all ≡ given ++ more → HasStray all
rejected_among given before later all e r more a = record {
  front = r.front;
  stray = r.last;
  more = later ++ more;
  before = r.before;
  has_no_place = r.stray;
  is = a ∙ ap (λ (u : List Frame). u ++ more) (e ∙ ap (λ (u : List Frame). u ++ later) r.is) ∙ ap (λ (u : List Frame). u ++ more) (append_assoc r.front (r.last ∷ []) later) ∙ append_assoc r.front (r.last ∷ later) more;
}

once_stray : (later h far : List Local) → MeetsUnstrayed (later ++ h) far → (e : ConnectionFault) → Once (λ g. IsRefusedAs e (given_in g)) h → ⊥
once_stray later h far m e o =
    m.unstrayed (rejected_among (given_in h) (given_in o.earlier) (given_in o.later) (given_in (later ++ h)) (ap given_in o.split ∙ given_in-append o.later o.earlier) o.held.2.it (given_in later) (given_in-append later h))

pub other_first_not : (given : List Frame) → IsTidy given → HasOtherFirst given → ⊥
other_first_not given t o = inner_not_open (kind_of o.first.body) o.other (first_open o.first o.more given t o.is)

-- ---- the transport

fault_honest : (later h far : List Local) → Meets (later ++ h) far → (e : TransportFault) → TransportCause e h → IsHonestFault e
fault_honest later h far m (fault.Memory a) c = c
fault_honest later h far m (fault.Io Fault) c = unfailed h (calm_before later h m.calm) c
fault_honest later h far m (fault.Io End) c = (calm_before later h m.calm).unended c
fault_honest later h far m fault.IdleTimeoutElapsed c = tt
fault_honest later h far m fault.DecodeError c =
    let left = read_in later ++ m.left in
    let f = stream_at h far c.rest left c.read m.far_tied (read_before later h m.left (wrote_in far) m.reads) in
    unspelled_not c.rest (left ++ m.far_tied.said.out) c.limit f.others (framed_behind f.first f.others (subst (λ (xs : List Frame). All IsFramed xs) f.split m.far_tied.framed))
    f.stream c.unspelled
fault_honest later h far m fault.NotImplemented c =
    let left = read_in later ++ m.left in
    let f = stream_at h far c.rest left c.read m.far_tied (read_before later h m.left (wrote_in far) m.reads) in
    foreign_not c.rest (left ++ m.far_tied.said.out) c.limit f.others (framed_behind f.first f.others (subst (λ (xs : List Frame). All IsFramed xs) f.split m.far_tied.framed))
    f.stream c.foreign
fault_honest later h far m fault.FramingError c = tt

-- it had its cause when the transport failed
pub once_fault : (later h far : List Local) → Meets (later ++ h) far → (e : TransportFault) → IsBrokenBy e h → IsHonestFault e
once_fault later h far m e o =
    fault_honest (later ++ o.later) o.earlier far (subst (λ (g : List Local). Meets g far) (ap (λ (g : List Local). later ++ g) o.split ∙ sym (append_assoc later o.later o.earlier)) m) e o.cause

once_tidy : (P : List Frame → Type 0) → ((given : List Frame) → IsTidy given → P given → ⊥) → (later h far : List Local) → Meets (later ++ h) far → Once (λ g. P (given_in g)) h → ⊥
once_tidy P n later h far m o =
    n (given_in o.earlier)
    (tidy_before (later ++ o.later) o.earlier far (subst (λ (g : List Local). Meets g far) (ap (λ (g : List Local). later ++ g) o.split ∙ sym (append_assoc later o.later o.earlier)) m)) o.held

-- ---- the negotiation

link_not : (h : List Local) (k : IoKind) → IsCalm (link_in h) → LinkCause (negotiation.Io k) (link_in h) → ⊥
link_not h Fault c l = unfailed h c l
link_not h End c l = c.unended l

by_body_not : (x : Authentication) (k : IoKind) (h : List Local) → IsCalm (link_in h) → IsOpeningCause peer_mechanism true x (negotiation.Io k) (link_in h) → ⊥
by_body_not x k h c (in_negotiation (at_link l)) = link_not h k c l
by_body_not x k h c (in_negotiation (at_header r)) = r
by_body_not x k h c (in_negotiation (at_frame given rest heard f)) = f
by_body_not Idle k h c (in_negotiation (by_body given sent rest heard f)) = f
by_body_not (Client (client.Scram x)) k h c (in_negotiation (by_body given sent rest heard f)) = f
by_body_not (Client (client.Init x)) k h c (in_negotiation (by_body given sent rest heard f)) = f
by_body_not (Listener (server.Scram x)) k h c (in_negotiation (by_body given sent rest heard f)) = f
by_body_not (Listener (server.Init x)) k h c (in_negotiation (by_body given sent rest heard f)) = f
by_body_not x k h c (in_negotiation (too_long y o l e)) = absurd (cc e)
by_body_not x k h c (at_amqp_header given sent rest heard held turn l n e) = absurd (cc e)

opening_not : (layer : Bool) (x : Authentication) (k : IoKind) (h : List Local) → IsCalm (link_in h) → IsOpeningCause peer_mechanism layer x (negotiation.Io k) (link_in h) → ⊥
opening_not true x k h c o = by_body_not x k h c o
opening_not false x k h c (at_plain_link l) = link_not h k c l
opening_not false x k h c (at_plain_header l n e) = absurd (cc e)

open_not : (call : Call) (k : IoKind) (h : List Local) → IsCalm (link_in h) → IsOpenCause call (negotiation.Io k) (link_in h) → ⊥
open_not call k h c (not_allowed s is n e) = absurd (cc e)
open_not call k h c (in_opening layer x made n o) = opening_not layer x k h c o.cause

call_not : (calls : List (ℕ × Call)) (k : IoKind) (h : List Local) → IsCalm (link_in h) → OpenCauseIn calls (negotiation.Io k) (link_in h) → ⊥
call_not [] k h c o = o
call_not (call ∷ []) k h c o = open_not call.1 k h c o
call_not (call ∷ earlier ∷ calls) k h c o = call_not (earlier ∷ calls) k h c o

negotiation_honest : (e : NegotiationError) (h : List Local) → IsCalm (link_in h) → OpenCauseIn (made_in h) e (link_in h) → IsHonestNegotiation e
negotiation_honest (negotiation.Memory a) h c o = tt
negotiation_honest (negotiation.ProtocolHeaderMismatch r) h c o = tt
negotiation_honest negotiation.NotImplemented h c o = tt
negotiation_honest (negotiation.SaslError code payload) h c o = tt
negotiation_honest (negotiation.ScramError kind) h c o = tt
negotiation_honest (negotiation.Io k) h c o = call_not (made_in h) k h c o
negotiation_honest negotiation.DecodeError h c o = tt
negotiation_honest negotiation.IllegalState h c o = tt
negotiation_honest negotiation.FramingError h c o = tt

-- ---- replies

connection_honest : (e : ConnectionFault) (later h far : List Local) → MeetsUnstrayed (later ++ h) far → ConnectionCause e h → IsHonest (reply.ConnectionError e)
connection_honest (connection.Memory a) later h far m c = c
connection_honest (connection.TransportError e) later h far m c = once_fault later h far m.meets e c
connection_honest connection.IllegalState later h far m c = once_stray later h far m connection.IllegalState c
connection_honest connection.NotImplemented later h far m c = once_stray later h far m connection.NotImplemented c
connection_honest connection.NotFound later h far m c = once_stray later h far m connection.NotFound c
connection_honest connection.RemoteClosed later h far m c = tt
connection_honest (connection.RemoteClosedWithError e) later h far m c = tt

-- an open or accept is refused honestly, whatever frames of sessions came
pub opening_honest : (e : OpenError) (later h far : List Local) → Meets (later ++ h) far → HasCause h (reply.OpenError e) → IsHonest (reply.OpenError e)
opening_honest (failed.Negotiation e) later h far m c = negotiation_honest e h (calm_before later h m.calm) c
opening_honest (failed.TransportError e) later h far m c = once_fault later h far m e c
opening_honest failed.RemoteClosed later h far m c = shut_not None (given_in h) (tidy_before later h far m) c
opening_honest (failed.RemoteClosedWithError e) later h far m c = shut_not (Some e) (given_in h) (tidy_before later h far m) c
opening_honest failed.IllegalState later h far m c = once_tidy IsOther other_not later h far m c

reply_honest : (r : Reply) (later h far : List Local) → MeetsUnstrayed (later ++ h) far → HasCause h r → IsHonest r
reply_honest reply.Pending later h far m c = tt
reply_honest reply.Connection later h far m c = tt
reply_honest reply.Closed later h far m c = tt
reply_honest (reply.OpenError e) later h far m c = opening_honest e later h far m.meets c
reply_honest (reply.ConnectionError e) later h far m c = connection_honest e later h far m c

honest_join : (rs ss : List NamedReply) → AllHonest rs → AllHonest ss → AllHonest (rs ++ ss)
honest_join [] ss a c = c
honest_join (r ∷ rs) ss a c = (a.0, honest_join rs ss a.1 c)

next : (later : List Local) (x : Local) (h : List Local) → later ++ x ∷ h ≡ (later ++ x ∷ []) ++ h
next later x h = sym (append_assoc later (x ∷ []) h)

-- each reply to an end that meets another is honest
replies_from : (later h far : List Local) → MeetsUnstrayed (later ++ h) far → AllCaused h → AllHonest (replied_in h)
replies_from later [] far m c = tt
replies_from later (Made at name call ∷ h) far m c = replies_from (later ++ Made at name call ∷ []) h far (subst (λ (g : List Local). MeetsUnstrayed g far) (next later (Made at name call) h) m) c
replies_from later (Polled at ∷ h) far m c = replies_from (later ++ Polled at ∷ []) h far (subst (λ (g : List Local). MeetsUnstrayed g far) (next later (Polled at) h) m) c
replies_from later (AtLink x ∷ h) far m c = replies_from (later ++ AtLink x ∷ []) h far (subst (λ (g : List Local). MeetsUnstrayed g far) (next later (AtLink x) h) m) c
replies_from later (Exchanged ∷ h) far m c = replies_from (later ++ Exchanged ∷ []) h far (subst (λ (g : List Local). MeetsUnstrayed g far) (next later Exchanged h) m) c
replies_from later (Got x ∷ h) far m c = replies_from (later ++ Got x ∷ []) h far (subst (λ (g : List Local). MeetsUnstrayed g far) (next later (Got x) h) m) c
replies_from later (Put x ∷ h) far m c = replies_from (later ++ Put x ∷ []) h far (subst (λ (g : List Local). MeetsUnstrayed g far) (next later (Put x) h) m) c
replies_from later (Replied r ∷ h) far m c =
    let n = subst (λ (g : List Local). MeetsUnstrayed g far) (next later (Replied r) h) m in
    honest_join (replied_in h) (r ∷ []) (replies_from (later ++ Replied r ∷ []) h far n c.1) (reply_honest r.reply (later ++ Replied r ∷ []) h far n c.0, tt)

pub honest_replies : (h far : List Local) → MeetsUnstrayed h far → AllCaused h → AllHonest (replied_in h)
honest_replies h far m c = replies_from [] h far m c
