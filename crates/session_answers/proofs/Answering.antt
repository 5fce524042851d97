-- What answers stand for behind a frame, a call and a stop.
use Rattle.std.proofs.Common.{◌≡◌, inl, inr, ◌∙◌, ap, subst, refl, sym, ℕ, List, [], ◌∷◌, ◌++◌, All, Contains, Option, Some, None}
use Rattle.std.proofs.lemmas.List.Elements.{All-push, All-head, All-tail, Contains-push}
use Rattle.amqp_calls.specs.declared.reply.NamedReply.{NamedReply}
use Rattle.amqp_calls.specs.declared.reply.Reply.TheVariants as of
use Rattle.amqp_calls.specs.declared.reply.SessionReply.{SessionReply}
use Rattle.amqp_calls.specs.declared.reply.SessionReply.TheVariants as reply
use Rattle.amqp_frames.specs.declared.shared.ConnectionStopReason.{ConnectionStopReason}
use Rattle.amqp_frames.specs.declared.shared.LinkFrame.{LinkFrame}
use Rattle.amqp_composites.specs.declared.error.Error.{Error as AmqpError}
use Rattle.amqp_frames.specs.declared.shared.SessionStopReason.{SessionStopReason}
use Rattle.amqp_frames.specs.declared.shared.SessionStopReason.TheVariants as reason
use Rattle.amqp_session.specs.declared.error.BeginError.{BeginError}
use Rattle.amqp_session.specs.declared.error.BeginError.TheVariants as error
use Rattle.amqp_session.specs.declared.error.Error.{Error}
use Rattle.amqp_session.specs.declared.error.Error.TheVariants as refusal
use Rattle.amqp_session.specs.declared.error.Fault.{Fault}
use Rattle.amqp_session.specs.declared.error.Fault.TheVariants as fault
use Rattle.amqp_session.specs.declared.session.SessionState.{SessionState}
use Rattle.amqp_session.specs.declared.session.SessionState.TheVariants as state
use Rattle.amqp_session.specs.Ends.{refusal_for, refusal as refusal_of, end_asked}
use Rattle.amqp_session.specs.Faults.{told_of}
use Rattle.amqp_session.specs.State.{Framed}
use Rattle.amqp_sessions.specs.declared.sessions.Waiting.{Waiting}
use Rattle.amqp_sessions.specs.declared.sessions.Waiting.TheVariants.{Begin, Accept}
use Rattle.amqp_sessions.specs.Calls.{left_in, left_at, left, end_told, end_at}
use Rattle.amqp_sessions.specs.Endpoint.{having_heard, having_written, having_refused, error_of, asking_end, having_asked}
use Rattle.amqp_sessions.specs.Frames.{heard, heard_all, written_at, refusing_at}
use Rattle.amqp_sessions.specs.Laws.{IsBegin, IsEnd, IsMeant, Brings, AnswersAtMostOne}
use Rattle.amqp_sessions.specs.Parts.{EndpointState}
use Rattle.amqp_sessions.specs.State.{State, endpoint_of, with_endpoint, handing, handed_out}
use Rattle.amqp_sessions.specs.Stops.{halted, finished, end_answered, ends_answered, ends_concluded, begin_concluded, concluded}
use Rattle.amqp_sessions.proofs.Meant.{answers_at_most_one}
use Rattle.session_answers.specs.Past.{Past, HasWritten, HasBegun}
use Rattle.session_answers.specs.Causes.{FaultCause, EndCause, IsNotEnded}
use Rattle.session_answers.specs.Standing.{IsBegun, Stands, StandsAs, AllStand, under, IsOpen, EndpointStands, WaitingStands}
use Rattle.session_answers.proofs.Entries.{all_found}
use Rattle.session_answers.proofs.Moves.{MovesAt, hears}
use Rattle.session_answers.proofs.Parts.{Grows, adding, grows_adding, peer_grows, fault_grows, stop_grows, written_more, answers_grow}
use Rattle.session_answers.proofs.Steps.{Tables, tables_grow, led, heard_tables, put_by_hearing, put_at, put_heard, put_all, adding_then, halted_tables, finished_keeps, concluded_keeps, tables_kept}

pub one_more : (p : Past) (name : ℕ) (r : SessionReply) (answers : List NamedReply) → AllStand p answers → Stands p name r → AllStand p (answers ++ record { name = name; reply = of.Session r } ∷ [])
one_more p name r answers k h = All-push (λ (x : NamedReply). StandsAs p x.name x.reply) answers (record { name = name; reply = of.Session r }) k h

same_stand : (p : Past) (xs ys : List NamedReply) → ys ≡ xs → AllStand p xs → AllStand p ys
same_stand p xs ys e k = subst (AllStand p) (sym e) k

-- ---- a frame is read

-- what the session has put out behind the frame
put_is : (x : Framed) (s : State) (k : Brings x s) → put_heard x s ≡ under k.session (having_heard x k.endpoint).session.output
put_is x s k = ap (λ (o : Option ℕ). put_at o x s) k.place ∙ ap (λ (o : Option EndpointState). put_by_hearing k.session x o) k.there

own_begin : (p : Past) (x : Framed) (s : State) (k : Brings x s) → Tables p s → k.endpoint.session.state ≡ state.BeginSent → HasWritten IsBegin k.session (adding (put_heard x s) p).written
own_begin p x s k h b =
    let e : EndpointState = k.endpoint in
    let m : MovesAt x.body e.session (having_heard x e).session = hears x e.session in
    let one : EndpointStands p (k.session, e) = all_found (EndpointStands p) k.session e s.endpoints k.there h.endpoints in
    subst (λ (w : List (ℕ × Framed)). HasWritten IsBegin k.session (p.written ++ w)) (sym (put_is x s k))
    (written_more IsBegin k.session p.written e.session.output m.more (having_heard x e).session.output m.output (one.begun b))

own_end : (p : Past) (x : Framed) (s : State) (k : Brings x s) → Tables p s → k.endpoint.session.state ≡ state.EndSent → HasWritten IsEnd k.session (adding (put_heard x s) p).written
own_end p x s k h b =
    let e : EndpointState = k.endpoint in
    let m : MovesAt x.body e.session (having_heard x e).session = hears x e.session in
    let one : EndpointStands p (k.session, e) = all_found (EndpointStands p) k.session e s.endpoints k.there h.endpoints in
    subst (λ (w : List (ℕ × Framed)). HasWritten IsEnd k.session (p.written ++ w)) (sym (put_is x s k))
    (written_more IsEnd k.session p.written e.session.output m.more (having_heard x e).session.output m.output (one.ended b))

asked_for : (p : Past) (x : Framed) (s : State) (k : Brings x s) → Tables p s → k.endpoint.ending ≡ Some k.name → Contains p.endings (k.name, k.session)
asked_for p x s k h w =
    let one : EndpointStands p (k.session, k.endpoint) = all_found (EndpointStands p) k.session k.endpoint s.endpoints k.there h.endpoints in
    one.ending k.name w

-- the channel that the frame comes on is one on which the peer has begun the session
led_on : (p : Past) (x : Framed) (s : State) (k : Brings x s) → Contains p.read x → Tables p s → HasBegun (adding (put_heard x s) p) k.session x.channel
led_on p x s k read h = peer_grows p (adding (put_heard x s) p) k.session x.channel (grows_adding (put_heard x s) p) (led p x s k.session k.place read h)

begin_stands : (p : Past) (x : Framed) (s : State) (k : Brings x s) → Contains p.read x → Tables p s → k.name ≡ k.session → k.endpoint.session.state ≡ state.BeginSent → IsBegun (adding (put_heard x s) p) k.name
begin_stands p x s k read h n b =
    let q : Past = adding (put_heard x s) p in
    let on : HasBegun q k.session x.channel = led_on p x s k read h in
    let one : IsBegun q k.session = record { begin = on.0; theirs = on.1.1.0; read = on.1.1.1; own = inl (own_begin p x s k h b) } in
    subst (λ (m : ℕ). IsBegun q m) (sym n) one

refused_stands : (p : Past) (x : Framed) (s : State) (k : Brings x s) → Contains p.read x → Tables p s → k.name ≡ k.session → k.endpoint.session.state ≡ state.BeginSent → IsEnd x.body → Stands (adding (put_heard x s) p) k.name (reply.BeginError error.RemoteEnded)
refused_stands p x s k read h n b end =
    let q : Past = adding (put_heard x s) p in
    let one : Stands q k.session (reply.BeginError error.RemoteEnded) = inr (own_begin p x s k h b, (x, (end, (led_on p x s k read h, read)))) in
    subst (λ (m : ℕ). Stands q m (reply.BeginError error.RemoteEnded)) (sym n) one

meant_stands : (p : Past) (x : Framed) (s : State) (k : Brings x s) → Contains p.read x → Tables p s → (r : SessionReply) → IsMeant x.body k.session k.endpoint k.name r → Stands (adding (put_heard x s) p) k.name r
meant_stands p x s k read h reply.Session m = begin_stands p x s k read h m.0 m.1
meant_stands p x s k read h (reply.BeginError why) m =
    subst (λ (e : BeginError). Stands (adding (put_heard x s) p) k.name (reply.BeginError e)) (sym m.2) (refused_stands p x s k read h m.0 m.1 m.3)
meant_stands p x s k read h reply.Ended m = record {
  session = k.session;
  asked = asked_for p x s k h m.0;
  own = own_end p x s k h m.1;
  theirs = (x, (m.2, (led_on p x s k read h, read)));
}
meant_stands p x s k read h (reply.SessionError (refusal.RemoteEndedWithError e)) m = record {
  session = k.session;
  asked = asked_for p x s k h m.0;
  cause = (x, (m.2, (led_on p x s k read h, read)));
}
meant_stands p x s k read h (reply.SessionError (refusal.Memory a)) m = absurd m
meant_stands p x s k read h (reply.SessionError refusal.IllegalState) m = absurd m
meant_stands p x s k read h (reply.SessionError refusal.UnattachedHandle) m = absurd m
meant_stands p x s k read h (reply.SessionError refusal.HandleInUse) m = absurd m
meant_stands p x s k read h (reply.SessionError refusal.TransferFrameToSender) m = absurd m
meant_stands p x s k read h (reply.SessionError refusal.RemoteEnded) m = absurd m
meant_stands p x s k read h (reply.SessionError refusal.RemoteAttachingLinkNameNotFound) m = absurd m
meant_stands p x s k read h (reply.SessionError refusal.FramingError) m = absurd m
meant_stands p x s k read h reply.Pending m = absurd m

heard_by : (p : Past) (x : Framed) (s : State) → Contains p.read x → Tables p s → AllStand (adding (put_heard x s) p) s.replies → AnswersAtMostOne x s → AllStand (adding (put_heard x s) p) (heard x s).replies
heard_by p x s read h k (inl same) = same_stand (adding (put_heard x s) p) s.replies (heard x s).replies same k
heard_by p x s read h k (inr one) =
    same_stand (adding (put_heard x s) p) (s.replies ++ record { name = one.name; reply = of.Session one.answer } ∷ []) (heard x s).replies one.answers
    (one_more (adding (put_heard x s) p) one.name one.answer s.replies k (meant_stands p x s one read h one.answer one.meant))

pub heard_answers : (p : Past) (x : Framed) (s : State) → Contains p.read x → Tables p s → AllStand p s.replies → AllStand (adding (put_heard x s) p) (heard x s).replies
heard_answers p x s read h k = heard_by p x s read h (answers_grow p (adding (put_heard x s) p) s.replies (grows_adding (put_heard x s) p) k) (answers_at_most_one x s)

-- ---- calls and stops

handing_replies : (name : ℕ) (o : Option EndpointState) (s : State) → (handing name o s).replies ≡ s.replies
handing_replies name None s = refl
handing_replies name (Some e) s = refl

pub handed_replies : (name : ℕ) (s : State) → (handed_out name s).replies ≡ s.replies
handed_replies name s = handing_replies name (endpoint_of name s) s

pub written_replies : (o : Option EndpointState) (name : ℕ) (x : LinkFrame) (s : State) → (written_at o name x s).replies ≡ s.replies
written_replies None name x s = refl
written_replies (Some e) name x s = handed_replies name (with_endpoint name (having_written x e) s)

pub refusing_replies : (o : Option EndpointState) (name : ℕ) (s : State) → (refusing_at o name s).replies ≡ s.replies
refusing_replies None name s = refl
refusing_replies (Some e) name s = handed_replies name (with_endpoint name (having_refused e) s)

left_in_replies : (phase : SessionState) (name : ℕ) (s : State) → (left_in phase name s).replies ≡ s.replies
left_in_replies state.EndSent name s = refl
left_in_replies state.BeginSent name s = refl
left_in_replies state.Mapped name s = refl
left_in_replies state.Unmapped name s = refl

left_replies : (o : Option EndpointState) (name : ℕ) (s : State) → (left_at o name s).replies ≡ s.replies
left_replies None name s = refl
left_replies (Some e) name s = left_in_replies e.session.state name s

-- ---- why a call that ends a session is refused

-- the call comes behind all others that end a session
record IsNext (p q : Past) (name session : ℕ) : Type 0 where
  grows : Grows p q
  last : q.endings ≡ p.endings ++ (name, session) ∷ []

next_asked : (p q : Past) (name session : ℕ) → IsNext p q name session → Contains q.endings (name, session)
next_asked p q name session i = subst (λ (u : List (ℕ × ℕ)). Contains u (name, session)) (sym i.last) (Contains-push p.endings (name, session))

-- another call had ended the session
ended_before : (p q : Past) (name session other : ℕ) → IsNext p q name session → Contains p.endings (other, session) → EndCause refusal.IllegalState q name session
ended_before p q name session other i k = inr (inl (record { other = other; before = p.endings; behind = []; order = i.last; earlier = k }))

-- this end has ended it for a fault
fault_cause : (x : Fault) (q : Past) (name session : ℕ) → FaultCause x q session → EndCause (told_of x) q name session
fault_cause fault.UnattachedHandle q name session k = k
fault_cause fault.HandleInUse q name session k = k
fault_cause fault.TransferFrameToSender q name session k = k
fault_cause fault.RemoteAttachingLinkNameNotFound q name session k = k

-- it has stopped for that reason, and no fault
reason_cause : (why : SessionStopReason) (p q : Past) (name session : ℕ) (e : EndpointState) → IsNext p q name session → EndpointStands p (session, e) → e.session.fault ≡ None → e.session.stop_reason ≡ Some why
    → EndCause (refusal_for (Some why)) q name session
reason_cause reason.Ended p q name session e i k f h = let c = k.stopped reason.Ended f h in ended_before p q name session c.0 i c.1
reason_cause (reason.EndedWithError x) p q name session e i k f h = let c = k.stopped (reason.EndedWithError x) f h in ended_before p q name session c.0 i c.1
reason_cause reason.RemoteEnded p q name session e i k f h = stop_grows reason.RemoteEnded p q session i.grows (k.stopped reason.RemoteEnded f h)
reason_cause (reason.RemoteEndedWithError x) p q name session e i k f h =
    stop_grows (reason.RemoteEndedWithError x) p q session i.grows (k.stopped (reason.RemoteEndedWithError x) f h)
reason_cause (reason.ConnectionStopped why) p q name session e i k f h =
    inl (why, stop_grows (reason.ConnectionStopped why) p q session i.grows (k.stopped (reason.ConnectionStopped why) f h))

-- the peer's Begin is awaited
awaited : (p q : Past) (name session : ℕ) (e : EndpointState) (phase : SessionState) → IsNext p q name session → EndpointStands p (session, e) → e.session.state ≡ phase → (phase ≡ state.Mapped → ⊥) → IsOpen phase
    → EndCause refusal.IllegalState q name session
awaited p q name session e state.BeginSent i k h not lasts = inr (inr (i.grows.begins session (k.made h)))
awaited p q name session e state.Mapped i k h not lasts = absurd (not refl)
awaited p q name session e state.EndSent i k h not lasts = absurd lasts
awaited p q name session e state.Unmapped i k h not lasts = absurd lasts

refusal_cause : (o : Option Fault) (w : Option SessionStopReason) (p q : Past) (name session : ℕ) (e : EndpointState) → IsNext p q name session → EndpointStands p (session, e) → (e.session.state ≡ state.Mapped → ⊥)
    → e.session.fault ≡ o → e.session.stop_reason ≡ w → EndCause (refusal_of o w) q name session
refusal_cause (Some x) w p q name session e i k not f h = fault_cause x q name session (fault_grows x p q session i.grows (k.faulty x f))
refusal_cause None (Some why) p q name session e i k not f h = reason_cause why p q name session e i k f h
refusal_cause None None p q name session e i k not f h = awaited p q name session e e.session.state i k refl not (k.lasts h)

not_ended : (p q : Past) (name session : ℕ) (e : EndpointState) (why : Error) → IsNext p q name session → EndpointStands p (session, e) → (e.session.state ≡ state.Mapped → ⊥)
    → Some (refusal_of e.session.fault e.session.stop_reason) ≡ Some why → IsNotEnded why q name
not_ended p q name session e why i k not is =
    let same : refusal_of e.session.fault e.session.stop_reason ≡ why = cc in
    let cause : EndCause (refusal_of e.session.fault e.session.stop_reason) q name session = refusal_cause e.session.fault e.session.stop_reason p q name session e i k not refl refl in
    record { session = session; asked = next_asked p q name session i; cause = subst (λ (w : Error). EndCause w q name session) same cause }

asked_refused : (phase : SessionState) (p q : Past) (name session : ℕ) (error : Option AmqpError) (e : EndpointState) (why : Error) → e.session.state ≡ phase → IsNext p q name session → EndpointStands p (session, e)
    → (end_asked phase error e.session).answer ≡ Some why → IsNotEnded why q name
asked_refused state.Mapped p q name session error e why h i k is = cc
asked_refused state.BeginSent p q name session error e why h i k is = not_ended p q name session e why i k (λ m. (let bad : state.BeginSent ≡ state.Mapped = sym h ∙ m in cc)) is
asked_refused state.EndSent p q name session error e why h i k is = not_ended p q name session e why i k (λ m. (let bad : state.EndSent ≡ state.Mapped = sym h ∙ m in cc)) is
asked_refused state.Unmapped p q name session error e why h i k is = not_ended p q name session e why i k (λ m. (let bad : state.Unmapped ≡ state.Mapped = sym h ∙ m in cc)) is

told_answers : (q : Past) (o : Option Error) (name session : ℕ) (s : State) → ((why : Error) → o ≡ Some why → IsNotEnded why q name) → AllStand q s.replies → AllStand q (end_told o name session s).replies
told_answers q None name session s f k = one_more q name reply.Pending s.replies k tt
told_answers q (Some why) name session s f k =
    one_more q name (reply.SessionError why) (left session s).replies (same_stand q s.replies (left session s).replies (left_replies (endpoint_of session s) session s) k) (f why refl)

pub end_answers : (p q : Past) (o : Option EndpointState) (name session : ℕ) (condition : Option (List ℕ)) (s : State) → endpoint_of session s ≡ o → Grows p q → q.endings ≡ p.endings ++ (name, session) ∷ [] → Tables p s
    → AllStand q s.replies → AllStand q (end_at o name session condition s).replies
end_answers p q None name session condition s there g last h k = k
end_answers p q (Some e) name session condition s there g last h k =
    let one : EndpointStands p (session, e) = all_found (EndpointStands p) session e s.endpoints there h.endpoints in
    let i : IsNext p q name session = record { grows = g; last = last } in
    told_answers q (asking_end condition e).answer name session (with_endpoint session (having_asked name condition e) s)
    (λ why is. asked_refused e.session.state p q name session (error_of condition) e why refl i one is) k

-- ---- a stop

answered_answers : (p : Past) (session : ℕ) (e : EndpointState) (o : Option ℕ) (why : ConnectionStopReason) (s : State) → e.ending ≡ o → Contains p.stops why → EndpointStands p (session, e) → AllStand p s.replies
    → AllStand p (end_answered o s).replies
answered_answers p session e None why s h told one k = k
answered_answers p session e (Some n) why s h told one k =
    one_more p n (reply.SessionError refusal.IllegalState) s.replies k (record { session = session; asked = one.ending n h; cause = inl (why, told) })

ends_answers : (p : Past) (why : ConnectionStopReason) (es : List (ℕ × EndpointState)) (s : State) → Contains p.stops why → All (EndpointStands p) es → AllStand p s.replies → AllStand p (ends_answered es s).replies
ends_answers p why [] s told h k = k
ends_answers p why (e ∷ es) s told h k =
    ends_answers p why es (end_answered e.1.ending s) told (All-tail (EndpointStands p) e es h)
    (answered_answers p e.0 e.1 e.1.ending why s refl told (All-head (EndpointStands p) e es h) k)

begin_answers : (p : Past) (o : Option Waiting) (why : ConnectionStopReason) (s : State) → Contains p.stops why → WaitingStands p o → AllStand p s.replies → AllStand p (begin_concluded o why s).replies
begin_answers p None why s told w k = k
begin_answers p (Some (Accept name numbers)) why s told w k = k
begin_answers p (Some (Begin name)) why s told w k = one_more p name (reply.BeginError (error.SessionStopped (reason.ConnectionStopped why))) s.replies k (inr (w, told))

pub concluded_answers : (p : Past) (why : ConnectionStopReason) (s : State) → Contains p.stops why → Tables p s → AllStand p s.replies → AllStand p (concluded why s).replies
concluded_answers p why s told h k =
    let u : State = finished (halted why s) in
    let t : Tables p u = tables_kept p (halted why s) u (finished_keeps p (halted why s)) (halted_tables p why s told h) in
    let v : Tables p (ends_concluded u) = tables_kept p u (ends_concluded u) (concluded_keeps p u) t in
    begin_answers p (ends_concluded u).waiting why (ends_concluded u) told v.waiting (ends_answers p why u.endpoints u told t.endpoints k)

-- ---- frames that came before their session was accepted

pub all_heard : (p : Past) (xs : List Framed) (s : State) → All (Contains p.read) xs → Tables p s → AllStand p s.replies
    → Tables (adding (put_all xs s) p) (heard_all xs s) × AllStand (adding (put_all xs s) p) (heard_all xs s).replies
all_heard p [] s read h k = (tables_grow p (adding [] p) s (grows_adding [] p) h, answers_grow p (adding [] p) s.replies (grows_adding [] p) k)
all_heard p (x ∷ xs) s read h k =
    let q : Past = adding (put_heard x s) p in
    let t : State = heard x s in
    let first : Contains p.read x = All-head (Contains p.read) x xs read in
    let rest = all_heard q xs t (All-tail (Contains p.read) x xs read) (heard_tables p x s first h) (heard_answers p x s first h k) in
    let same = adding_then (put_heard x s) (put_all xs t) p in
    (subst (λ (r : Past). Tables r (heard_all xs t)) same rest.0, subst (λ (r : Past). AllStand r (heard_all xs t).replies) same rest.1)
