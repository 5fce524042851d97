-- Whatever the sessions of an end do, a Transfer waits for the window of the peer alone.
use Rattle.std.specs.Prelude.{◌≡◌, ℕ, nat_eq, Bool, true, false, List, [], ◌∷◌, Option, Some, None, refl}
use Rattle.std.specs.Map.{lookup}
use Rattle.amqp_calls.specs.declared.call.SessionNumbers.{SessionNumbers}
use Rattle.amqp_frames.specs.declared.shared.IncomingSession.{IncomingSession}
use Rattle.amqp_frames.specs.declared.shared.LinkFrame.{LinkFrame}
use Rattle.amqp_session.specs.declared.error.Error.{Error}
use Rattle.amqp_session.specs.declared.session.SessionState.{SessionState}
use Rattle.amqp_session.specs.declared.session.SessionState.TheVariants as state
use Rattle.amqp_session.specs.Begin as session
use Rattle.amqp_session.specs.Laws.{IsTidy}
use Rattle.amqp_session.specs.State.{Framed}
use Rattle.amqp_session.proofs.Tidy.{heard_tidy, told_in_tidy, refused_tidy, end_tidy, begun_tidy, accepted_tidy}
use Rattle.amqp_sessions.specs.declared.endpoint.Change.{Change}
use Rattle.amqp_sessions.specs.declared.endpoint.Change.TheVariants.{Same, Begun, Refused, Gone, Answered}
use Rattle.amqp_sessions.specs.Calls.{settings, entered, begun, accepted, left_in, left_at, end_told, end_at, ended}
use Rattle.amqp_sessions.specs.Endpoint.{hearing, change_of, having_heard, having_written, having_refused, error_of, asking_end, waits_for, having_asked, emptied}
use Rattle.amqp_sessions.specs.Frames.{place_of, joined, freed_at, freed, freed_own, concluding_for, concluding, changed, hearing_at, kept_at, heard_by, heard, heard_all, heard_early_at, written_at, refusing_at}
use Rattle.amqp_sessions.specs.Parts.{EndpointState, idle, with_session}
use Rattle.amqp_sessions.specs.State.{State, endpoint_of, with_endpoint, let_go, handing, handed_out}
use Rattle.amqp_sessions.proofs.Gone.{each_inserted, each_set, each_found, but_of, each_gone}
use Rattle.session_waits.specs.Waits.{AllTidy}

abbrev Tidy : EndpointState → Type 0
Tidy e = IsTidy e.session

-- ---- one session

emptied_tidy : (e : EndpointState) → Tidy e → Tidy (emptied e)
emptied_tidy e h = record { free = h.free; reported = h.reported }

waits_tidy : (o : Option Error) (name : ℕ) (e : EndpointState) → Tidy e → Tidy (waits_for o name e)
waits_tidy None name e h = h
waits_tidy (Some refusal) name e h = h

asked_tidy : (name : ℕ) (condition : Option (List ℕ)) (e : EndpointState) → Tidy e → Tidy (having_asked name condition e)
asked_tidy name condition e h =
    waits_tidy (asking_end condition e).answer name (with_session (asking_end condition e).state e) (end_tidy e.session.state (error_of condition) e.session h)

-- ---- the table

handing_tidy : (n : ℕ) (o : Option EndpointState) (s : State) → endpoint_of n s ≡ o → AllTidy s → AllTidy (handing n o s)
handing_tidy n None s at h = h
handing_tidy n (Some e) s at h = each_set Tidy (nat_eq n) (emptied e) s.endpoints (emptied_tidy e (each_found Tidy (nat_eq n) e s.endpoints at h)) h

pub handed_tidy : (n : ℕ) (s : State) → AllTidy s → AllTidy (handed_out n s)
handed_tidy n s h = handing_tidy n (endpoint_of n s) s refl h

let_go_tidy : (n : ℕ) (s : State) → AllTidy s → AllTidy (let_go n s)
let_go_tidy n s h = each_gone Tidy (nat_eq n) s.endpoints (but_of Tidy (nat_eq n) s.endpoints h)

freed_at_tidy : (o : Option EndpointState) (s : State) → AllTidy s → AllTidy (freed_at o s)
freed_at_tidy None s h = h
freed_at_tidy (Some e) s h = h

freed_tidy : (n remote : ℕ) (s : State) → AllTidy s → AllTidy (freed n remote s)
freed_tidy n remote s h = freed_at_tidy _ _ h

concluding_for_tidy : (o : Option ℕ) (is_left : Bool) (n : ℕ) (error : Option Error) (s : State) → AllTidy s → AllTidy (concluding_for o is_left n error s)
concluding_for_tidy (Some end) is_left n error s h = let_go_tidy n s h
concluding_for_tidy None true n error s h = let_go_tidy n s h
concluding_for_tidy None false n error s h = h

concluding_tidy : (o : Option EndpointState) (n : ℕ) (error : Option Error) (s : State) → AllTidy s → AllTidy (concluding o n error s)
concluding_tidy None n error s h = h
concluding_tidy (Some e) n error s h = concluding_for_tidy e.ending e.is_left n error s h

changed_tidy : (c : Change) (n remote : ℕ) (error : Option Error) (t : State) → AllTidy t → AllTidy (changed c n remote error t)
changed_tidy Same n remote error t h = h
changed_tidy Begun n remote error t h = h
changed_tidy Refused n remote error t h = let_go_tidy n (freed_own n t) (freed_at_tidy (endpoint_of n t) t h)
changed_tidy Gone n remote error t h = freed_tidy n remote t h
changed_tidy Answered n remote error t h = concluding_tidy (endpoint_of n t) n error (freed n remote t) (freed_tidy n remote t h)

-- ---- frames

hears_tidy : (o : Option EndpointState) (n : ℕ) (x : Framed) (s : State) → endpoint_of n s ≡ o → AllTidy s → AllTidy (hearing_at o n x s)
hears_tidy None n x s at h = h
hears_tidy (Some e) n x s at h =
    let f = having_heard x e in
    let u = with_endpoint n f s in
    changed_tidy (change_of x e) n x.channel (hearing x e).answer (handed_out n u)
    (handed_tidy n u (each_set Tidy (nat_eq n) f s.endpoints (heard_tidy x e.session (each_found Tidy (nat_eq n) e s.endpoints at h)) h))

kept_tidy : (o : Option (List Framed)) (x : Framed) (s : State) → AllTidy s → AllTidy (kept_at o x s)
kept_tidy None x s h = h
kept_tidy (Some xs) x s h = h

heard_by_tidy : (o : Option ℕ) (x : Framed) (s : State) → AllTidy s → AllTidy (heard_by o x s)
heard_by_tidy None x s h = kept_tidy (lookup (nat_eq x.channel) s.early) x s h
heard_by_tidy (Some n) x s h = hears_tidy (endpoint_of n s) n x s refl h

pub all_heard_tidy : (x : Framed) (s : State) → AllTidy s → AllTidy (heard x s)
all_heard_tidy x s h = heard_by_tidy (place_of x s) x s h

early_all_tidy : (xs : List Framed) (s : State) → AllTidy s → AllTidy (heard_all xs s)
early_all_tidy [] s h = h
early_all_tidy (x ∷ xs) s h = early_all_tidy xs (heard x s) (all_heard_tidy x s h)

early_tidy : (o : Option (List Framed)) (remote : ℕ) (s : State) → AllTidy s → AllTidy (heard_early_at o remote s)
early_tidy None remote s h = h
early_tidy (Some xs) remote s h = early_all_tidy xs _ h

-- ---- calls, and frames of links

pub all_begun_tidy : (name : ℕ) (x : SessionNumbers) (channel limit : ℕ) (s : State) → AllTidy s → AllTidy (begun name x channel limit s)
all_begun_tidy name x channel limit s h = each_inserted Tidy name (idle (session.begun (settings x limit) channel)) s.endpoints (begun_tidy (settings x limit) channel) h

pub all_accepted_tidy : (name : ℕ) (x : SessionNumbers) (channel limit : ℕ) (incoming : IncomingSession) (s : State) → AllTidy s → AllTidy (accepted name x channel limit incoming s)
all_accepted_tidy name x channel limit incoming s h =
    let a = session.accepted (settings x limit) channel incoming in
    let t = joined name incoming.channel (entered name channel a s) in
    early_tidy (lookup (nat_eq incoming.channel) t.early) incoming.channel t (each_inserted Tidy name (idle a) s.endpoints (accepted_tidy (settings x limit) channel incoming) h)

left_in_tidy : (p : SessionState) (n : ℕ) (s : State) → AllTidy s → AllTidy (left_in p n s)
left_in_tidy state.EndSent n s h = h
left_in_tidy state.BeginSent n s h = let_go_tidy n s h
left_in_tidy state.Mapped n s h = let_go_tidy n s h
left_in_tidy state.Unmapped n s h = let_go_tidy n s h

left_tidy : (o : Option EndpointState) (n : ℕ) (s : State) → AllTidy s → AllTidy (left_at o n s)
left_tidy None n s h = h
left_tidy (Some e) n s h = left_in_tidy e.session.state n s h

told_tidy : (o : Option Error) (name n : ℕ) (s : State) → AllTidy s → AllTidy (end_told o name n s)
told_tidy None name n s h = h
told_tidy (Some refusal) name n s h = left_tidy (endpoint_of n s) n s h

end_at_tidy : (o : Option EndpointState) (name n : ℕ) (condition : Option (List ℕ)) (s : State) → endpoint_of n s ≡ o → AllTidy s → AllTidy (end_at o name n condition s)
end_at_tidy None name n condition s at h = h
end_at_tidy (Some e) name n condition s at h =
    let f = having_asked name condition e in
    told_tidy (asking_end condition e).answer name n (with_endpoint n f s) (each_set Tidy (nat_eq n) f s.endpoints (asked_tidy name condition e (each_found Tidy (nat_eq n) e s.endpoints at h)) h)

pub all_ended_tidy : (name n : ℕ) (condition : Option (List ℕ)) (s : State) → AllTidy s → AllTidy (ended name n condition s)
all_ended_tidy name n condition s h = end_at_tidy (endpoint_of n s) name n condition s refl h

pub written_tidy : (o : Option EndpointState) (n : ℕ) (x : LinkFrame) (s : State) → endpoint_of n s ≡ o → AllTidy s → AllTidy (written_at o n x s)
written_tidy None n x s at h = h
written_tidy (Some e) n x s at h =
    let f = having_written x e in
    let u = with_endpoint n f s in
    handed_tidy n u (each_set Tidy (nat_eq n) f s.endpoints (told_in_tidy e.session.state x e.session (each_found Tidy (nat_eq n) e s.endpoints at h)) h)

pub refusing_tidy : (o : Option EndpointState) (n : ℕ) (s : State) → endpoint_of n s ≡ o → AllTidy s → AllTidy (refusing_at o n s)
refusing_tidy None n s at h = h
refusing_tidy (Some e) n s at h =
    let f = having_refused e in
    let u = with_endpoint n f s in
    handed_tidy n u (each_set Tidy (nat_eq n) f s.endpoints (refused_tidy e.session.state e.session (each_found Tidy (nat_eq n) e s.endpoints at h)) h)
