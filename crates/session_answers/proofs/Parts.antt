-- What stands stays as more passes.
use Rattle.std.proofs.Common.{◌≡◌, ◌⊎◌, inl, inr, ◌∙◌, ap, subst, refl, sym, append_assoc, ℕ, arith, ◌<◌, length, List, [], ◌∷◌, ◌++◌, All, Contains, Option, Some, None}
use Rattle.std.proofs.lemmas.List.{append-nil, map-append, length-map, get_or-map}
use Rattle.std.proofs.lemmas.List.Elements.{All-weaker, Contains-append_left, Contains-append_right, Contains-append_cases}
use Rattle.std.specs.Map.{values_of}
use Rattle.amqp_calls.specs.declared.reply.NamedReply.{NamedReply}
use Rattle.amqp_calls.specs.declared.reply.Reply.{Reply}
use Rattle.amqp_calls.specs.declared.reply.Reply.TheVariants as of
use Rattle.amqp_calls.specs.declared.reply.SessionReply.{SessionReply}
use Rattle.amqp_calls.specs.declared.reply.SessionReply.TheVariants as reply
use Rattle.amqp_frames.specs.declared.body.FrameBody.{FrameBody}
use Rattle.amqp_frames.specs.declared.shared.ConnectionStopReason.{ConnectionStopReason}
use Rattle.amqp_frames.specs.declared.shared.SessionStopReason.{SessionStopReason}
use Rattle.amqp_frames.specs.declared.shared.SessionStopReason.TheVariants as reason
use Rattle.amqp_session.specs.declared.error.BeginError.{BeginError}
use Rattle.amqp_session.specs.declared.error.BeginError.TheVariants as begin
use Rattle.amqp_session.specs.declared.error.Error.{Error}
use Rattle.amqp_session.specs.declared.error.Error.TheVariants as error
use Rattle.amqp_session.specs.declared.error.Fault.{Fault}
use Rattle.amqp_session.specs.declared.error.Fault.TheVariants as fault
use Rattle.amqp_session.specs.declared.session.SessionState.TheVariants as state
use Rattle.amqp_session.specs.Faults.{error_for}
use Rattle.amqp_session.specs.State.{Framed}
use Rattle.amqp_sessions.specs.declared.sessions.Waiting.{Waiting}
use Rattle.amqp_sessions.specs.declared.sessions.Waiting.TheVariants.{Begin, Accept}
use Rattle.amqp_sessions.specs.Endpoint.{emptied}
use Rattle.amqp_sessions.specs.Frames.{answered_channel}
use Rattle.amqp_sessions.specs.Laws.{IsBegin, IsEnd, IsEndFor}
use Rattle.amqp_sessions.specs.Parts.{EndpointState}
use Rattle.session_answers.specs.Past.{Past, HasWritten, IsOn, IsBeginFor, HasBegun, WasRead}
use Rattle.session_answers.specs.Causes.{BeginCause, IsNotBegun, IsOnHandle, IsAttach, IsTransfer, IsFaulty, FaultCause, StopCause, HasStopped, IsEndedBefore, EndCause, IsNotEnded}
use Rattle.session_answers.specs.Standing.{IsBegun, IsEnded, Stands, StandsAs, AllStand, under, EndpointStands, OwnStands, PeerStands, WaitingStands}
use Rattle.session_answers.proofs.Moves.{Moves, NoFault, Has, HasEnd, HasEndFor}

-- what has passed has passed still, and calls that end a session have come behind the others
pub record Grows (p q : Past) : Type 0 where
  pub written : (x : ℕ × Framed) → Contains p.written x → Contains q.written x
  pub read : (x : Framed) → Contains p.read x → Contains q.read x
  pub channels : (e : ℕ × ℕ) → Contains p.channels e → Contains q.channels e
  pub begins : (n : ℕ) → Contains p.begins n → Contains q.begins n
  pub accepted : (e : ℕ × Framed) → Contains p.accepted e → Contains q.accepted e
  pub later : List (ℕ × ℕ)
  pub endings : q.endings ≡ p.endings ++ later
  pub refused : (e : ℕ × BeginError) → Contains p.refused e → Contains q.refused e
  pub stops : (why : ConnectionStopReason) → Contains p.stops why → Contains q.stops why
  pub astray : (n : ℕ) → Contains p.astray n → Contains q.astray n

-- the sessions put out more
abbrev pub adding : List (ℕ × Framed) → Past → Past
adding w p = record p { written = p.written ++ w }

pub grows_adding : (w : List (ℕ × Framed)) (p : Past) → Grows p (adding w p)
grows_adding w p = record {
  written = λ x k. Contains-append_left p.written w x k;
  read = λ x k. k;
  channels = λ e k. k;
  begins = λ n k. k;
  accepted = λ e k. k;
  later = [];
  endings = sym (append-nil p.endings);
  refused = λ e k. k;
  stops = λ why k. k;
  astray = λ n k. k;
}

pub grows_then : (p q r : Past) → Grows p q → Grows q r → Grows p r
grows_then p q r a c = record {
  written = λ x k. c.written x (a.written x k);
  read = λ x k. c.read x (a.read x k);
  channels = λ e k. c.channels e (a.channels e k);
  begins = λ n k. c.begins n (a.begins n k);
  accepted = λ e k. c.accepted e (a.accepted e k);
  later = a.later ++ c.later;
  endings = c.endings ∙ ap (λ (u : List (ℕ × ℕ)). u ++ c.later) a.endings ∙ append_assoc p.endings a.later c.later;
  refused = λ e k. c.refused e (a.refused e k);
  stops = λ why k. c.stops why (a.stops why k);
  astray = λ n k. c.astray n (a.astray n k);
}

pub endings_grow : (p q : Past) → Grows p q → (e : ℕ × ℕ) → Contains p.endings e → Contains q.endings e
endings_grow p q g e k = subst (λ (u : List (ℕ × ℕ)). Contains u e) (sym g.endings) (Contains-append_left p.endings g.later e k)

pub values_under : (name : ℕ) (xs : List Framed) → values_of (under name xs) ≡ xs
values_under name [] = refl
values_under name (x ∷ xs) = ap (λ (ys : List Framed). x ∷ ys) (values_under name xs)

-- ---- what was written and read

pub written_grows : (Kind : FrameBody → Type 0) (name : ℕ) (xs ys : List (ℕ × Framed)) → ((x : ℕ × Framed) → Contains xs x → Contains ys x) → HasWritten Kind name xs → HasWritten Kind name ys
written_grows Kind name xs ys g k = (k.0, (k.1.0, g (name, k.0) k.1.1))

own_grows : (p q : Past) (name : ℕ) (o : Option ℕ) → Grows p q → IsOn p name o → IsOn q name o
own_grows p q name None g k = k
own_grows p q name (Some channel) g k = g.channels (name, channel) k

pub begin_grows : (p q : Past) (name : ℕ) (x : Framed) → Grows p q → IsBeginFor p name x → IsBeginFor q name x
begin_grows p q name x g k = (k.0, by k.1)
  where
    by : IsOn p name (answered_channel x.body) ⊎ Contains p.accepted (name, x) → IsOn q name (answered_channel x.body) ⊎ Contains q.accepted (name, x)
    by (inl h) = inl (own_grows p q name (answered_channel x.body) g h)
    by (inr h) = inr (g.accepted (name, x) h)

pub peer_grows : (p q : Past) (name channel : ℕ) → Grows p q → HasBegun p name channel → HasBegun q name channel
peer_grows p q name channel g k = (k.0, (k.1.0, (begin_grows p q name k.0 g k.1.1.0, g.read k.0 k.1.1.1)))

pub read_grows : (Kind : FrameBody → Type 0) (name : ℕ) (p q : Past) → Grows p q → WasRead Kind name p → WasRead Kind name q
read_grows Kind name p q g k = (k.0, (k.1.0, (peer_grows p q name k.0.channel g k.1.1.0, g.read k.0 k.1.1.1)))

-- what is about to go out has gone out, or still is to
pub written_behind : (Kind : FrameBody → Type 0) (name : ℕ) (p q more : List (ℕ × Framed)) → ((x : ℕ × Framed) → Contains p x → Contains q x) → HasWritten Kind name (p ++ more) → HasWritten Kind name (q ++ more)
written_behind Kind name p q more g k = written_grows Kind name (p ++ more) (q ++ more) (λ x h. by x (Contains-append_cases p more x h)) k
  where
    by : (x : ℕ × Framed) → Contains p x ⊎ Contains more x → Contains (q ++ more) x
    by x (inl h) = Contains-append_left q more x (g x h)
    by x (inr h) = Contains-append_right q more x h

under_more : (name : ℕ) (p : List (ℕ × Framed)) (xs more : List Framed) → p ++ under name (xs ++ more) ≡ (p ++ under name xs) ++ under name more
under_more name p xs more =
    ap (λ (ys : List (ℕ × Framed)). p ++ ys) (map-append (λ (x : Framed). (name, x)) xs more) ∙ sym (append_assoc p (under name xs) (under name more))

-- a session writes more behind what it had to write
pub written_more : (Kind : FrameBody → Type 0) (name : ℕ) (p : List (ℕ × Framed)) (xs more ys : List Framed) → ys ≡ xs ++ more → HasWritten Kind name (p ++ under name xs) → HasWritten Kind name (p ++ under name ys)
written_more Kind name p xs more ys e k =
    subst (λ (u : List Framed). HasWritten Kind name (p ++ under name u)) (sym e)
    (subst (λ (u : List (ℕ × Framed)). HasWritten Kind name u) (sym (under_more name p xs more))
    (written_grows Kind name (p ++ under name xs) ((p ++ under name xs) ++ under name more) (λ x h. Contains-append_left (p ++ under name xs) (under name more) x h) k))

contains_under : (name : ℕ) (xs : List Framed) (x : Framed) → Contains xs x → Contains (under name xs) (name, x)
contains_under name xs x k =
    let long : length (under name xs) ≡ length xs = length-map xs (λ (y : Framed). (name, y)) in
    let within : k.0 < length (under name xs) = omega (arith, k.1, long) in
    (k.0, within, get_or-map (λ (y : Framed). (name, y)) xs k.0 x (name, x) k.1 ∙ ap (λ (y : Framed). (name, y)) k.2)

among_written : (Kind : FrameBody → Type 0) (name : ℕ) (p : List (ℕ × Framed)) (xs : List Framed) → Has Kind xs → HasWritten Kind name (p ++ under name xs)
among_written Kind name p xs k = (k.0, (k.1.0, Contains-append_right p (under name xs) (name, k.0) (contains_under name xs k.0 k.1.1)))

-- ---- causes

-- a refusal that the end has not made by itself is of one that the peer has ended, or of the connection's stop
begin_cause_grows : (p q : Past) (name : ℕ) (why : BeginError) → Grows p q → BeginCause why p name → BeginCause why q name
begin_cause_grows p q name begin.RemoteEnded g k = (written_grows IsBegin name p.written q.written g.written k.0, read_grows IsEnd name p q g k.1)
begin_cause_grows p q name (begin.SessionStopped (reason.ConnectionStopped why)) g k = (g.begins name k.0, g.stops why k.1)
begin_cause_grows p q name (begin.SessionStopped reason.Ended) g k = absurd k
begin_cause_grows p q name (begin.SessionStopped (reason.EndedWithError e)) g k = absurd k
begin_cause_grows p q name (begin.SessionStopped reason.RemoteEnded) g k = absurd k
begin_cause_grows p q name (begin.SessionStopped (reason.RemoteEndedWithError e)) g k = absurd k
begin_cause_grows p q name (begin.Memory a) g k = absurd k
begin_cause_grows p q name begin.LocalChannelMaxReached g k = absurd k
begin_cause_grows p q name begin.IllegalState g k = absurd k

not_begun_grows : (p q : Past) (name : ℕ) (why : BeginError) → Grows p q → IsNotBegun why p name → IsNotBegun why q name
not_begun_grows p q name why g (inl h) = inl (g.refused (name, why) h)
not_begun_grows p q name why g (inr h) = inr (begin_cause_grows p q name why g h)

faulty_grows : (x : Fault) (p q : Past) (session : ℕ) → Grows p q → IsFaulty x p session → IsFaulty x q session
faulty_grows fault.UnattachedHandle p q session g k = read_grows IsOnHandle session p q g k
faulty_grows fault.HandleInUse p q session g k = read_grows IsAttach session p q g k
faulty_grows fault.TransferFrameToSender p q session g k = read_grows IsTransfer session p q g k
faulty_grows fault.RemoteAttachingLinkNameNotFound p q session g k = g.astray session k

pub fault_grows : (x : Fault) (p q : Past) (session : ℕ) → Grows p q → FaultCause x p session → FaultCause x q session
fault_grows x p q session g k = (written_grows (IsEndFor (Some (error_for x))) session p.written q.written g.written k.0, faulty_grows x p q session g k.1)

pub stop_grows : (why : SessionStopReason) (p q : Past) (session : ℕ) → Grows p q → StopCause why p session → StopCause why q session
stop_grows reason.Ended p q session g k = (k.0, endings_grow p q g (k.0, session) k.1)
stop_grows (reason.EndedWithError e) p q session g k = (k.0, endings_grow p q g (k.0, session) k.1)
stop_grows reason.RemoteEnded p q session g k = read_grows (IsEndFor None) session p q g k
stop_grows (reason.RemoteEndedWithError e) p q session g k = read_grows (IsEndFor (Some e)) session p q g k
stop_grows (reason.ConnectionStopped why) p q session g k = g.stops why k

before_grows : (p q : Past) (name session : ℕ) → Grows p q → IsEndedBefore p name session → IsEndedBefore q name session
before_grows p q name session g k = record {
  other = k.other;
  before = k.before;
  behind = k.behind ++ g.later;
  order = g.endings ∙ ap (λ (u : List (ℕ × ℕ)). u ++ g.later) k.order ∙ append_assoc k.before ((name, session) ∷ k.behind) g.later;
  earlier = k.earlier;
}

illegal_grows : (p q : Past) (name session : ℕ) → Grows p q → HasStopped p ⊎ (IsEndedBefore p name session ⊎ Contains p.begins session) → HasStopped q ⊎ (IsEndedBefore q name session ⊎ Contains q.begins session)
illegal_grows p q name session g (inl h) = inl (h.0, g.stops h.0 h.1)
illegal_grows p q name session g (inr (inl h)) = inr (inl (before_grows p q name session g h))
illegal_grows p q name session g (inr (inr h)) = inr (inr (g.begins session h))

end_cause_grows : (why : Error) (p q : Past) (name session : ℕ) → Grows p q → EndCause why p name session → EndCause why q name session
end_cause_grows error.RemoteEnded p q name session g k = read_grows (IsEndFor None) session p q g k
end_cause_grows (error.RemoteEndedWithError e) p q name session g k = read_grows (IsEndFor (Some e)) session p q g k
end_cause_grows error.UnattachedHandle p q name session g k = fault_grows fault.UnattachedHandle p q session g k
end_cause_grows error.HandleInUse p q name session g k = fault_grows fault.HandleInUse p q session g k
end_cause_grows error.TransferFrameToSender p q name session g k = fault_grows fault.TransferFrameToSender p q session g k
end_cause_grows error.RemoteAttachingLinkNameNotFound p q name session g k = fault_grows fault.RemoteAttachingLinkNameNotFound p q session g k
end_cause_grows error.IllegalState p q name session g k = illegal_grows p q name session g k
end_cause_grows (error.Memory a) p q name session g k = absurd k
end_cause_grows error.FramingError p q name session g k = absurd k

not_ended_grows : (p q : Past) (name : ℕ) (why : Error) → Grows p q → IsNotEnded why p name → IsNotEnded why q name
not_ended_grows p q name why g k = record {
  session = k.session;
  asked = endings_grow p q g (name, k.session) k.asked;
  cause = end_cause_grows why p q name k.session g k.cause;
}

-- ---- answers

begun_grows : (p q : Past) (name : ℕ) → Grows p q → IsBegun p name → IsBegun q name
begun_grows p q name g k = record { begin = k.begin; theirs = begin_grows p q name k.begin g k.theirs; read = g.read k.begin k.read; own = by k.own }
  where
    by : HasWritten IsBegin name p.written ⊎ Contains p.accepted (name, k.begin) → HasWritten IsBegin name q.written ⊎ Contains q.accepted (name, k.begin)
    by (inl h) = inl (written_grows IsBegin name p.written q.written g.written h)
    by (inr h) = inr (g.accepted (name, k.begin) h)

ended_grows : (p q : Past) (name : ℕ) → Grows p q → IsEnded p name → IsEnded q name
ended_grows p q name g k = record {
  session = k.session;
  asked = endings_grow p q g (name, k.session) k.asked;
  own = written_grows IsEnd k.session p.written q.written g.written k.own;
  theirs = read_grows (IsEndFor None) k.session p q g k.theirs;
}

session_grows : (p q : Past) (name : ℕ) (r : SessionReply) → Grows p q → Stands p name r → Stands q name r
session_grows p q name reply.Session g k = begun_grows p q name g k
session_grows p q name reply.Ended g k = ended_grows p q name g k
session_grows p q name (reply.BeginError why) g k = not_begun_grows p q name why g k
session_grows p q name (reply.SessionError why) g k = not_ended_grows p q name why g k
session_grows p q name reply.Pending g k = tt

answer_grows : (p q : Past) (name : ℕ) (r : Reply) → Grows p q → StandsAs p name r → StandsAs q name r
answer_grows p q name (of.Session r) g k = session_grows p q name r g k
answer_grows p q name (of.Connection r) g k = tt
answer_grows p q name (of.Link r) g k = tt

pub answers_grow : (p q : Past) (answers : List NamedReply) → Grows p q → AllStand p answers → AllStand q answers
answers_grow p q answers g k =
    All-weaker (λ (r : NamedReply). StandsAs p r.name r.reply) (λ (r : NamedReply). StandsAs q r.name r.reply) (λ r h. answer_grows p q r.name r.reply g h) answers k

-- ---- sessions, and the channels that lead to them

pub endpoint_grows : (p q : Past) (e : ℕ × EndpointState) → Grows p q → EndpointStands p e → EndpointStands q e
endpoint_grows p q e g k = record {
  made = λ h. g.begins e.0 (k.made h);
  begun = λ h. written_behind IsBegin e.0 p.written q.written (under e.0 e.1.session.output) g.written (k.begun h);
  ended = λ h. written_behind IsEnd e.0 p.written q.written (under e.0 e.1.session.output) g.written (k.ended h);
  ending = λ n h. endings_grow p q g (n, e.0) (k.ending n h);
  lasts = k.lasts;
  faulty = λ x h. fault_grows x p q e.0 g (k.faulty x h);
  stopped = λ why f h. stop_grows why p q e.0 g (k.stopped why f h);
}

pub endpoints_grow : (p q : Past) (es : List (ℕ × EndpointState)) → Grows p q → All (EndpointStands p) es → All (EndpointStands q) es
endpoints_grow p q es g k = All-weaker (EndpointStands p) (EndpointStands q) (λ e h. endpoint_grows p q e g h) es k

pub channels_grow : (p q : Past) (es : List (ℕ × ℕ)) → Grows p q → All (OwnStands p) es → All (OwnStands q) es
channels_grow p q es g k = All-weaker (OwnStands p) (OwnStands q) (λ e h. g.channels (e.1, e.0) h) es k

pub remotes_grow : (p q : Past) (es : List (ℕ × ℕ)) → Grows p q → All (PeerStands p) es → All (PeerStands q) es
remotes_grow p q es g k = All-weaker (PeerStands p) (PeerStands q) (λ e h. peer_grows p q e.1 e.0 g h) es k

pub waiting_grows : (p q : Past) (o : Option Waiting) → Grows p q → WaitingStands p o → WaitingStands q o
waiting_grows p q None g k = tt
waiting_grows p q (Some (Accept name numbers)) g k = tt
waiting_grows p q (Some (Begin name)) g k = g.begins name k

-- what it has written and is to write
own_end : (name : ℕ) (p : List (ℕ × Framed)) (e f : EndpointState) (more : List Framed) → f.session.output ≡ e.session.output ++ more
    → (e.session.state ≡ state.EndSent → HasWritten IsEnd name (p ++ under name e.session.output)) → (e.session.state ≡ state.EndSent) ⊎ HasEnd f.session.output → HasWritten IsEnd name (p ++ under name f.session.output)
own_end name p e f more o k (inl h) = written_more IsEnd name p e.session.output more f.session.output o (k h)
own_end name p e f more o k (inr h) = among_written IsEnd name p f.session.output h

-- it goes on to that state, for no fault and where each reason that is new has its cause, and an `end` waits as before
pub endpoint_moves : (R : SessionStopReason → Type 0) (p : Past) (name : ℕ) (e f : EndpointState) → Moves NoFault R e.session f.session → f.ending ≡ e.ending
    → ((why : SessionStopReason) → R why → StopCause why p name) → EndpointStands p (name, e) → EndpointStands p (name, f)
endpoint_moves R p name e f m w because k = record {
  made = λ h. k.made (m.begun h);
  begun = λ h. written_more IsBegin name p.written e.session.output m.more f.session.output m.output (k.begun (m.begun h));
  ended = λ h. own_end name p.written e f m.more m.output k.ended (m.ended h);
  ending = λ n h. k.ending n (sym w ∙ h);
  lasts = λ h. m.lasts k.lasts h;
  faulty = λ x h. faulty x (m.faulty x h);
  stopped = λ why n h. stopped why (m.stopped why n h);
}
  where
    faulty : (x : Fault) → (e.session.fault ≡ Some x) ⊎ (NoFault x × HasEndFor x f.session.output) → FaultCause x p name
    faulty x (inl h) = k.faulty x h
    faulty x (inr h) = absurd h.0

    stopped : (why : SessionStopReason) → ((e.session.fault ≡ None) × (e.session.stop_reason ≡ Some why)) ⊎ R why → StopCause why p name
    stopped why (inl h) = k.stopped why h.0 h.1
    stopped why (inr h) = because why h

put_out : (Kind : FrameBody → Type 0) (name : ℕ) (w : List (ℕ × Framed)) → HasWritten Kind name w → HasWritten Kind name (w ++ [])
put_out Kind name w k = subst (λ (u : List (ℕ × Framed)). HasWritten Kind name u) (sym (append-nil w)) k

-- what it has to write is out
abbrev pub putting : ℕ → EndpointState → Past → Past
putting name f p = adding (under name f.session.output) p

puts_more : (name : ℕ) (f : EndpointState) (p : Past) → Grows p (putting name f p)
puts_more name f p = grows_adding (under name f.session.output) p

-- it goes on to that state, where each fault and reason that is new has its cause, and all that it has to write goes out
pub endpoint_puts : (F : Fault → Type 0) (R : SessionStopReason → Type 0) (p : Past) (name : ℕ) (e f : EndpointState) → Moves F R e.session f.session → f.ending ≡ e.ending
    → ((x : Fault) → F x → IsFaulty x p name) → ((why : SessionStopReason) → R why → StopCause why p name) → EndpointStands p (name, e)
    → EndpointStands (putting name f p) (name, emptied f)
endpoint_puts F R p name e f m w at_fault because k = record {
  made = λ h. k.made (m.begun h);
  begun = λ h. put_out IsBegin name (putting name f p).written (written_more IsBegin name p.written e.session.output m.more f.session.output m.output (k.begun (m.begun h)));
  ended = λ h. put_out IsEnd name (putting name f p).written (own_end name p.written e f m.more m.output k.ended (m.ended h));
  ending = λ n h. k.ending n (sym w ∙ h);
  lasts = λ h. m.lasts k.lasts h;
  faulty = λ x h. faulty x (m.faulty x h);
  stopped = λ why n h. stop_grows why p (putting name f p) name (puts_more name f p) (stopped why (m.stopped why n h));
}
  where
    faulty : (x : Fault) → (e.session.fault ≡ Some x) ⊎ (F x × HasEndFor x f.session.output) → FaultCause x (putting name f p) name
    faulty x (inl h) = fault_grows x p (putting name f p) name (puts_more name f p) (k.faulty x h)
    faulty x (inr h) = (among_written (IsEndFor (Some (error_for x))) name p.written f.session.output h.1, faulty_grows x p (putting name f p) name (puts_more name f p) (at_fault x h.0))

    stopped : (why : SessionStopReason) → ((e.session.fault ≡ None) × (e.session.stop_reason ≡ Some why)) ⊎ R why → StopCause why p name
    stopped why (inl h) = k.stopped why h.0 h.1
    stopped why (inr h) = because why h

-- all that it had to write goes out
pub endpoint_empties : (p : Past) (name : ℕ) (e : EndpointState) → EndpointStands p (name, e) → EndpointStands (adding (under name e.session.output) p) (name, emptied e)
endpoint_empties p name e k = record {
  made = k.made;
  begun = λ h. put_out IsBegin name (p.written ++ under name e.session.output) (k.begun h);
  ended = λ h. put_out IsEnd name (p.written ++ under name e.session.output) (k.ended h);
  ending = k.ending;
  lasts = k.lasts;
  faulty = λ x h. fault_grows x p (adding (under name e.session.output) p) name (grows_adding (under name e.session.output) p) (k.faulty x h);
  stopped = λ why f h. stop_grows why p (adding (under name e.session.output) p) name (grows_adding (under name e.session.output) p) (k.stopped why f h);
}
