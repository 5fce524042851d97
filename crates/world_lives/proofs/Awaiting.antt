-- A call waits for a Begin of the peer until it is answered.
use Rattle.std.specs.Prelude.{ℕ, nat_eq, Bool, true, false, List, [], ◌∷◌, Option, Some, None}
use Rattle.std.specs.Map.{lookup}
use Rattle.amqp_calls.specs.declared.call.SessionNumbers.{SessionNumbers}
use Rattle.amqp_frames.specs.declared.shared.ConnectionStopReason.{ConnectionStopReason}
use Rattle.amqp_frames.specs.declared.shared.IncomingSession.{IncomingSession}
use Rattle.amqp_frames.specs.declared.shared.LinkFrame.{LinkFrame}
use Rattle.amqp_session.specs.declared.error.Error.{Error}
use Rattle.amqp_session.specs.declared.session.SessionState.{SessionState}
use Rattle.amqp_session.specs.declared.session.SessionState.TheVariants as state
use Rattle.amqp_session.specs.Begin as session
use Rattle.amqp_session.specs.State.{Framed}
use Rattle.amqp_sessions.specs.declared.endpoint.Change.{Change}
use Rattle.amqp_sessions.specs.declared.endpoint.Change.TheVariants.{Same, Begun, Refused, Gone, Answered}
use Rattle.amqp_sessions.specs.declared.sessions.Waiting.{Waiting}
use Rattle.amqp_sessions.specs.declared.sessions.Waiting.TheVariants.{Begin, Accept}
use Rattle.amqp_sessions.specs.Calls.{settings, entered, accepted, left_in, left_at, end_told, end_at, ended}
use Rattle.amqp_sessions.specs.Endpoint.{asking_end, having_asked, hearing, change_of, having_heard, having_written, having_refused}
use Rattle.amqp_sessions.specs.Frames.{place_of, joined, freed_at, freed, concluding_for, concluding, changed, hearing_at, kept_at, heard_by, heard, heard_all, heard_early_at, written_at, written, refusing_at, refusing}
use Rattle.amqp_sessions.specs.Parts.{EndpointState}
use Rattle.amqp_sessions.specs.State.{State, endpoint_of, with_endpoint, handing, handed_out}
use Rattle.amqp_sessions.specs.Stops.{finished, halted, end_answered, ends_answered, ends_concluded, begin_concluded, concluded}
use Rattle.indexmap.specs.IndexMap.{swap_remove_entry}
use Rattle.amqp_end.specs.Named.{Awaits}

-- no other call waits for one
abbrev pub Stays : State → State → Type 0
Stays s t = (n : ℕ) → Awaits n t.waiting → Awaits n s.waiting

handing_stays : (name : ℕ) (e : Option EndpointState) (s : State) → Stays s (handing name e s)
handing_stays name None s n k = k
handing_stays name (Some e) s n k = k

pub handed_stays : (name : ℕ) (s : State) → Stays s (handed_out name s)
handed_stays name s = handing_stays name (endpoint_of name s) s

freed_at_stays : (e : Option EndpointState) (s : State) → Stays s (freed_at e s)
freed_at_stays None s n k = k
freed_at_stays (Some e) s n k = k

freed_stays : (name remote : ℕ) (s : State) → Stays s (freed name remote s)
freed_stays name remote s n k =
    let t : State = record s { remotes = swap_remove_entry (nat_eq remote) s.remotes } in
    freed_at_stays (endpoint_of name t) t n k

for_stays : (ending : Option ℕ) (left : Bool) (name : ℕ) (error : Option Error) (s : State) → Stays s (concluding_for ending left name error s)
for_stays (Some end) left name error s n k = k
for_stays None true name error s n k = k
for_stays None false name error s n k = k

concluding_stays : (e : Option EndpointState) (name : ℕ) (error : Option Error) (s : State) → Stays s (concluding e name error s)
concluding_stays None name error s n k = k
concluding_stays (Some e) name error s n k = for_stays e.ending e.is_left name error s n k

changed_stays : (c : Change) (name remote : ℕ) (error : Option Error) (s : State) → Stays s (changed c name remote error s)
changed_stays Same name remote error s n k = k
changed_stays Begun name remote error s n k = absurd k
changed_stays Refused name remote error s n k = absurd k
changed_stays Gone name remote error s n k = freed_stays name remote s n k
changed_stays Answered name remote error s n k = freed_stays name remote s n (concluding_stays (endpoint_of name s) name error (freed name remote s) n k)

hearing_stays : (e : Option EndpointState) (name : ℕ) (x : Framed) (s : State) → Stays s (hearing_at e name x s)
hearing_stays None name x s n k = k
hearing_stays (Some e) name x s n k =
    let u = with_endpoint name (having_heard x e) s in
    handed_stays name u n (changed_stays (change_of x e) name x.channel (hearing x e).answer (handed_out name u) n k)

kept_stays : (xs : Option (List Framed)) (x : Framed) (s : State) → Stays s (kept_at xs x s)
kept_stays None x s n k = k
kept_stays (Some xs) x s n k = k

heard_by_stays : (place : Option ℕ) (x : Framed) (s : State) → Stays s (heard_by place x s)
heard_by_stays None x s n k = kept_stays _ x s n k
heard_by_stays (Some name) x s n k = hearing_stays (endpoint_of name s) name x s n k

pub heard_stays : (x : Framed) (s : State) → Stays s (heard x s)
heard_stays x s = heard_by_stays (place_of x s) x s

heard_all_stays : (xs : List Framed) (s : State) → Stays s (heard_all xs s)
heard_all_stays [] s n k = k
heard_all_stays (x ∷ xs) s n k = heard_stays x s n (heard_all_stays xs (heard x s) n k)

heard_early_stays : (xs : Option (List Framed)) (remote : ℕ) (s : State) → Stays s (heard_early_at xs remote s)
heard_early_stays None remote s n k = k
heard_early_stays (Some xs) remote s n k = heard_all_stays xs (record s { early = swap_remove_entry (nat_eq remote) s.early }) n k

-- a call whose session is made waits no more, and no other does
pub accepted_stays : (name : ℕ) (x : SessionNumbers) (channel limit : ℕ) (incoming : IncomingSession) (s : State) (n : ℕ) → Awaits n (accepted name x channel limit incoming s).waiting → ⊥
accepted_stays name x channel limit incoming s n k =
    let t = joined name incoming.channel (entered name channel (session.accepted (settings x limit) channel incoming) s) in
    heard_early_stays (lookup (nat_eq incoming.channel) t.early) incoming.channel t n k

written_at_stays : (e : Option EndpointState) (name : ℕ) (x : LinkFrame) (s : State) → Stays s (written_at e name x s)
written_at_stays None name x s n k = k
written_at_stays (Some e) name x s n k = handed_stays name (with_endpoint name (having_written x e) s) n k

pub written_stays : (name : ℕ) (x : LinkFrame) (s : State) → Stays s (written name x s)
written_stays name x s = written_at_stays (endpoint_of name s) name x s

refusing_at_stays : (e : Option EndpointState) (name : ℕ) (s : State) → Stays s (refusing_at e name s)
refusing_at_stays None name s n k = k
refusing_at_stays (Some e) name s n k = handed_stays name (with_endpoint name (having_refused e) s) n k

pub refusing_stays : (name : ℕ) (s : State) → Stays s (refusing name s)
refusing_stays name s = refusing_at_stays (endpoint_of name s) name s

-- ---- the end of a session, and the stop of a connection

left_in_stays : (phase : SessionState) (name : ℕ) (s : State) → Stays s (left_in phase name s)
left_in_stays state.EndSent name s n k = k
left_in_stays phase name s n k = k

left_stays : (e : Option EndpointState) (name : ℕ) (s : State) → Stays s (left_at e name s)
left_stays None name s n k = k
left_stays (Some e) name s n k = left_in_stays e.session.state name s n k

told_stays : (refusal : Option Error) (name session : ℕ) (s : State) → Stays s (end_told refusal name session s)
told_stays None name session s n k = k
told_stays (Some refusal) name session s n k = left_stays (endpoint_of session s) session s n k

end_at_stays : (e : Option EndpointState) (name session : ℕ) (condition : Option (List ℕ)) (s : State) → Stays s (end_at e name session condition s)
end_at_stays None name session condition s n k = k
end_at_stays (Some e) name session condition s n k = told_stays (asking_end condition e).answer name session (with_endpoint session (having_asked name condition e) s) n k

pub ended_stays : (name session : ℕ) (condition : Option (List ℕ)) (s : State) → Stays s (ended name session condition s)
ended_stays name session condition s = end_at_stays (endpoint_of session s) name session condition s

answered_stays : (end : Option ℕ) (s : State) → Stays s (end_answered end s)
answered_stays None s n k = k
answered_stays (Some end) s n k = k

all_answered_stay : (es : List (ℕ × EndpointState)) (s : State) → Stays s (ends_answered es s)
all_answered_stay [] s n k = k
all_answered_stay (e ∷ es) s n k = answered_stays e.1.ending s n (all_answered_stay es (end_answered e.1.ending s) n k)

begin_stays : (w : Option Waiting) (why : ConnectionStopReason) (s : State) → Stays s (begin_concluded w why s)
begin_stays None why s n k = k
begin_stays (Some (Accept name numbers)) why s n k = k
begin_stays (Some (Begin name)) why s n k = absurd k

pub concluded_stays : (why : ConnectionStopReason) (s : State) → Stays s (concluded why s)
concluded_stays why s n k =
    let f = finished (halted why s) in
    let t = ends_concluded f in
    all_answered_stay f.endpoints f n (begin_stays t.waiting why t n k)
