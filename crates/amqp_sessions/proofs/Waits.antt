-- Which calls wait.
use Rattle.std.proofs.Common.{◌≡◌, ◌⊎◌, inl, inr, ◌∙◌, ap, subst, refl, sym, arith, ℕ, nat_eq, Bool, true, false, is_none, List, [], ◌∷◌, Option, Some, None}
use Rattle.std.proofs.lemmas.List.Elements.{filter_passes}
use Rattle.std.specs.Map.{lookup}
use Rattle.amqp_calls.specs.declared.call.SessionNumbers.{SessionNumbers}
use Rattle.amqp_composites.specs.declared.error.Error.{Error as AmqpError}
use Rattle.amqp_frames.specs.declared.body.FrameBody.{FrameBody}
use Rattle.amqp_frames.specs.declared.body.FrameBody.TheVariants as b
use Rattle.amqp_frames.specs.declared.shared.ConnectionStopReason.{ConnectionStopReason}
use Rattle.amqp_frames.specs.declared.shared.IncomingSession.{IncomingSession}
use Rattle.amqp_session.specs.declared.error.BeginError.{BeginError}
use Rattle.amqp_session.specs.declared.error.Error.{Error}
use Rattle.amqp_session.specs.declared.session.SessionState.{SessionState}
use Rattle.amqp_session.specs.declared.session.SessionState.TheVariants as state
use Rattle.amqp_session.specs.Begin as session
use Rattle.amqp_session.specs.Ends.{answered, end_asked}
use Rattle.amqp_session.specs.Frames.{heard_ending, heard_in}
use Rattle.amqp_session.specs.State.{State as SessionState', Framed}
use Rattle.amqp_sessions.specs.declared.endpoint.Change.{Change}
use Rattle.amqp_sessions.specs.declared.endpoint.Change.TheVariants.{Same, Begun, Refused, Gone, Answered}
use Rattle.amqp_sessions.specs.declared.sessions.Waiting.{Waiting}
use Rattle.amqp_sessions.specs.declared.sessions.Waiting.TheVariants.{Begin, Accept}
use Rattle.amqp_sessions.specs.Parts.{EndpointState, idle, with_session}
use Rattle.amqp_sessions.specs.Endpoint.{change_between, hearing, change_of, having_heard, error_of, asking_end, waits_for, having_asked, emptied}
use Rattle.amqp_sessions.specs.Calls.{begins, settings, entered, begun, awaiting, accepted, left_in, left_at, end_told, end_at, ended}
use Rattle.amqp_sessions.specs.Frames.{place_of, joined, refused, freed_at, freed_own, freed, concluding_for, concluding, changed, hearing_at, kept_at, heard_by, heard, heard_all, heard_early_at}
use Rattle.amqp_sessions.specs.Laws.{WaitsForEnd, AllWaitForEnd, NoEndWaits}
use Rattle.amqp_sessions.specs.State.{State, none_begun, endpoint_of, with_endpoint, let_go, handing, handed_out}
use Rattle.amqp_sessions.specs.Stops.{halted, finished, ends_answered, ends_concluded, begin_concluded, concluded}
use Rattle.amqp_sessions.proofs.Gone.{Each, EachBut, each_inserted, each_set, each_found, but_of, but_set, each_gone}
use Rattle.amqp_sessions.proofs.Meant.{ending_state, found_set, handed_there}

pub none_waits : AllWaitForEnd none_begun
none_waits = λ k d within. absurd (omega (arith, within))

-- ---- what a call or a frame makes of an endpoint

-- an `end` that is not refused has sent its End
asked_state : (phase : SessionState) (error : Option AmqpError) (s : SessionState') → (end_asked phase error s).answer ≡ None → (end_asked phase error s).state.state ≡ state.EndSent
asked_state state.Mapped error s h = ending_state error s
asked_state state.BeginSent error s h = cc
asked_state state.EndSent error s h = cc
asked_state state.Unmapped error s h = cc

-- where the peer does not answer, this end's End is out still
ending_goes : (body : FrameBody) (s : SessionState') → s.state ≡ state.EndSent → ((heard_ending body s).state.state ≡ state.EndSent) ⊎ (change_between state.EndSent (heard_ending body s).state.state ≡ Answered)
ending_goes (b.End x) s h = inr (by x.error)
  where
    by : (o : Option AmqpError) → change_between state.EndSent (answered o s).state.state ≡ Answered
    by None = refl
    by (Some error) = refl
ending_goes (b.Begin x) s h = inl h
ending_goes (b.Open x) s h = inl h
ending_goes (b.Attach x) s h = inl h
ending_goes (b.Flow x) s h = inl h
ending_goes (b.Transfer x payload) s h = inl h
ending_goes (b.Disposition x) s h = inl h
ending_goes (b.Detach x) s h = inl h
ending_goes (b.Close x) s h = inl h
ending_goes b.Empty s h = inl h

heard_endpoint : (x : Framed) (e : EndpointState) → WaitsForEnd e → WaitsForEnd (having_heard x e) ⊎ (change_of x e ≡ Answered)
heard_endpoint x e (inl none) = inl (inl none)
heard_endpoint x e (inr sent) =
    by (subst (λ st. ((heard_in st x e.session).state.state ≡ state.EndSent) ⊎ (change_between st (heard_in st x e.session).state.state ≡ Answered)) (sym sent) (ending_goes x.body e.session sent))
  where
    by : (((hearing x e).state.state ≡ state.EndSent) ⊎ (change_of x e ≡ Answered)) → WaitsForEnd (having_heard x e) ⊎ (change_of x e ≡ Answered)
    by (inl out) = inl (inr out)
    by (inr over) = inr over

-- ---- what they make of the table

freed_waits : (o : Option EndpointState) (s : State) → (freed_at o s).endpoints ≡ s.endpoints
freed_waits None s = refl
freed_waits (Some e) s = refl

let_go_waits : (name : ℕ) (s : State) → AllWaitForEnd s → AllWaitForEnd (let_go name s)
let_go_waits name s h = each_gone WaitsForEnd (nat_eq name) s.endpoints (but_of WaitsForEnd (nat_eq name) s.endpoints h)

handing_waits : (name : ℕ) (o : Option EndpointState) (s : State) → endpoint_of name s ≡ o → AllWaitForEnd s → AllWaitForEnd (handing name o s)
handing_waits name None s there h = h
handing_waits name (Some e) s there h = each_set WaitsForEnd (nat_eq name) (emptied e) s.endpoints (each_found WaitsForEnd (nat_eq name) e s.endpoints there h) h

pub handed_waits : (name : ℕ) (s : State) → AllWaitForEnd s → AllWaitForEnd (handed_out name s)
handed_waits name s h = handing_waits name (endpoint_of name s) s refl h

handing_but : (name : ℕ) (o : Option EndpointState) (s : State) → EachBut WaitsForEnd (nat_eq name) s.endpoints → EachBut WaitsForEnd (nat_eq name) (handing name o s).endpoints
handing_but name None s h = h
handing_but name (Some e) s h = but_set WaitsForEnd (nat_eq name) (emptied e) s.endpoints h

pub awaiting_waits : (name : ℕ) (x : SessionNumbers) (s : State) → AllWaitForEnd s → AllWaitForEnd (awaiting name x s)
awaiting_waits name x s h = h

pub refused_waits : (name : ℕ) (e : BeginError) (s : State) → AllWaitForEnd s → AllWaitForEnd (refused name e s)
refused_waits name e s h = h

pub begun_waits : (name : ℕ) (x : SessionNumbers) (channel limit : ℕ) (s : State) → AllWaitForEnd s → AllWaitForEnd (begun name x channel limit s)
begun_waits name x channel limit s h = each_inserted WaitsForEnd name (idle (session.begun (settings x limit) channel)) s.endpoints (inl refl) h

-- ---- frames

concluding_waits : (o : Option ℕ) (is_left : Bool) (name : ℕ) (error : Option Error) (s : State) → (o ≡ None → AllWaitForEnd s) → EachBut WaitsForEnd (nat_eq name) s.endpoints → AllWaitForEnd (concluding_for o is_left name error s)
concluding_waits None true name error s all but = each_gone WaitsForEnd (nat_eq name) s.endpoints but
concluding_waits None false name error s all but = all refl
concluding_waits (Some end) is_left name error s all but = each_gone WaitsForEnd (nat_eq name) s.endpoints but

concluded_waits : (o : Option EndpointState) (name : ℕ) (error : Option Error) (s : State) → AllWaitForEnd s → AllWaitForEnd (concluding o name error s)
concluded_waits None name error s h = h
concluded_waits (Some e) name error s h = concluding_waits e.ending e.is_left name error s (λ none. h) (but_of WaitsForEnd (nat_eq name) s.endpoints h)

changed_waits : (c : Change) (name remote : ℕ) (error : Option Error) (t : State) → AllWaitForEnd t → AllWaitForEnd (changed c name remote error t)
changed_waits Same name remote error t h = h
changed_waits Begun name remote error t h = h
changed_waits Refused name remote error t h = let_go_waits name (freed_own name t) (subst (λ es. Each WaitsForEnd es) (sym (freed_waits (endpoint_of name t) t)) h)
changed_waits Gone name remote error t h = subst (λ es. Each WaitsForEnd es) (sym (freed_waits (endpoint_of name t) _)) h
changed_waits Answered name remote error t h = concluded_waits (endpoint_of name t) name error (freed name remote t) (subst (λ es. Each WaitsForEnd es) (sym (freed_waits (endpoint_of name t) _)) h)

answered_waits : (x : Framed) (name : ℕ) (e : EndpointState) (s : State) → endpoint_of name s ≡ Some e → AllWaitForEnd s → AllWaitForEnd (changed Answered name x.channel (hearing x e).answer (handed_out name (with_endpoint name (having_heard x e) s)))
answered_waits x name e s there h =
    let u : State = with_endpoint name (having_heard x e) s in
    let t : State = handed_out name u in
    let found : endpoint_of name u ≡ Some (having_heard x e) = found_set (nat_eq name) s.endpoints e (having_heard x e) there in
    let but : EachBut WaitsForEnd (nat_eq name) t.endpoints = handing_but name (endpoint_of name u) u (but_set WaitsForEnd (nat_eq name) (having_heard x e) s.endpoints (but_of WaitsForEnd (nat_eq name) s.endpoints h)) in
    let same : (freed name x.channel t).endpoints ≡ t.endpoints = freed_waits (endpoint_of name t) _ in
    let waits : AllWaitForEnd (concluding_for e.ending e.is_left name (hearing x e).answer (freed name x.channel t)) =
    concluding_waits e.ending e.is_left name (hearing x e).answer (freed name x.channel t)
    (λ none. subst (λ es. Each WaitsForEnd es) (sym same) (handed_waits name u (each_set WaitsForEnd (nat_eq name) (having_heard x e) s.endpoints (inl none) h)))
    (subst (λ es. EachBut WaitsForEnd (nat_eq name) es) (sym same) but) in
    subst (λ (o : Option EndpointState). AllWaitForEnd (concluding o name (hearing x e).answer (freed name x.channel t))) (sym (handed_there name u (having_heard x e) found)) waits

hears_waits : (x : Framed) (name : ℕ) (e : EndpointState) (s : State) → endpoint_of name s ≡ Some e → AllWaitForEnd s → AllWaitForEnd (hearing_at (Some e) name x s)
hears_waits x name e s there h = by (heard_endpoint x e (each_found WaitsForEnd (nat_eq name) e s.endpoints there h))
  where
    by : WaitsForEnd (having_heard x e) ⊎ (change_of x e ≡ Answered) → AllWaitForEnd (hearing_at (Some e) name x s)
    by (inl waits) = changed_waits (change_of x e) name x.channel (hearing x e).answer _ (handed_waits name (with_endpoint name (having_heard x e) s) (each_set WaitsForEnd (nat_eq name) (having_heard x e) s.endpoints waits h))
    by (inr over) = subst (λ (c : Change). AllWaitForEnd (changed c name x.channel (hearing x e).answer (handed_out name (with_endpoint name (having_heard x e) s)))) (sym over) (answered_waits x name e s there h)

hearing_waits : (o : Option EndpointState) (name : ℕ) (x : Framed) (s : State) → endpoint_of name s ≡ o → AllWaitForEnd s → AllWaitForEnd (hearing_at o name x s)
hearing_waits None name x s there h = h
hearing_waits (Some e) name x s there h = hears_waits x name e s there h

kept_waits : (o : Option (List Framed)) (x : Framed) (s : State) → AllWaitForEnd s → AllWaitForEnd (kept_at o x s)
kept_waits None x s h = h
kept_waits (Some xs) x s h = h

heard_by_waits : (o : Option ℕ) (x : Framed) (s : State) → AllWaitForEnd s → AllWaitForEnd (heard_by o x s)
heard_by_waits None x s h = kept_waits (lookup (nat_eq x.channel) s.early) x s h
heard_by_waits (Some name) x s h = hearing_waits (endpoint_of name s) name x s refl h

pub heard_waits : (x : Framed) (s : State) → AllWaitForEnd s → AllWaitForEnd (heard x s)
heard_waits x s h = heard_by_waits (place_of x s) x s h

heard_all_waits : (xs : List Framed) (s : State) → AllWaitForEnd s → AllWaitForEnd (heard_all xs s)
heard_all_waits [] s h = h
heard_all_waits (x ∷ xs) s h = heard_all_waits xs (heard x s) (heard_waits x s h)

early_waits : (o : Option (List Framed)) (remote : ℕ) (s : State) → AllWaitForEnd s → AllWaitForEnd (heard_early_at o remote s)
early_waits None remote s h = h
early_waits (Some xs) remote s h = heard_all_waits xs _ h

pub accepted_waits : (name : ℕ) (x : SessionNumbers) (channel limit : ℕ) (incoming : IncomingSession) (s : State) → AllWaitForEnd s → AllWaitForEnd (accepted name x channel limit incoming s)
accepted_waits name x channel limit incoming s h =
    let t : State = joined name incoming.channel (entered name channel (session.accepted (settings x limit) channel incoming) s) in
    let there : AllWaitForEnd t = each_inserted WaitsForEnd name (idle (session.accepted (settings x limit) channel incoming)) s.endpoints (inl refl) h in
    early_waits (lookup (nat_eq incoming.channel) t.early) incoming.channel t there

-- ---- an `end`

left_in_waits : (phase : SessionState) (name : ℕ) (s : State) → AllWaitForEnd s → AllWaitForEnd (left_in phase name s)
left_in_waits state.EndSent name s h = h
left_in_waits state.BeginSent name s h = let_go_waits name s h
left_in_waits state.Mapped name s h = let_go_waits name s h
left_in_waits state.Unmapped name s h = let_go_waits name s h

left_waits : (o : Option EndpointState) (name : ℕ) (s : State) → AllWaitForEnd s → AllWaitForEnd (left_at o name s)
left_waits None name s h = h
left_waits (Some e) name s h = left_in_waits e.session.state name s h

told_waits : (o : Option Error) (name session : ℕ) (s : State) → AllWaitForEnd s → AllWaitForEnd (end_told o name session s)
told_waits None name session s h = h
told_waits (Some refusal) name session s h = left_waits (endpoint_of session s) session s h

-- where an `end` is refused the session stays as it was
refused_state : (phase : SessionState) (error : Option AmqpError) (s : SessionState') (refusal : Error) → (end_asked phase error s).answer ≡ Some refusal → (end_asked phase error s).state ≡ s
refused_state state.Mapped error s refusal h = cc
refused_state state.BeginSent error s refusal h = refl
refused_state state.EndSent error s refusal h = refl
refused_state state.Unmapped error s refusal h = refl

asked_by : (o : Option Error) (name : ℕ) (condition : Option (List ℕ)) (e : EndpointState) → (asking_end condition e).answer ≡ o → WaitsForEnd e → WaitsForEnd (waits_for o name (with_session (asking_end condition e).state e))
asked_by None name condition e h w = inr (asked_state e.session.state (error_of condition) e.session h)
asked_by (Some refusal) name condition e h (inl none) = inl none
asked_by (Some refusal) name condition e h (inr sent) = inr (ap (λ (s : SessionState'). s.state) (refused_state e.session.state (error_of condition) e.session refusal h) ∙ sent)

end_at_waits : (o : Option EndpointState) (name session : ℕ) (condition : Option (List ℕ)) (s : State) → endpoint_of session s ≡ o → AllWaitForEnd s → AllWaitForEnd (end_at o name session condition s)
end_at_waits None name session condition s there h = h
end_at_waits (Some e) name session condition s there h =
    told_waits (asking_end condition e).answer name session (with_endpoint session (having_asked name condition e) s)
    (each_set WaitsForEnd (nat_eq session) (having_asked name condition e) s.endpoints (asked_by (asking_end condition e).answer name condition e refl (each_found WaitsForEnd (nat_eq session) e s.endpoints there h)) h)

pub ended_waits : (name session : ℕ) (condition : Option (List ℕ)) (s : State) → AllWaitForEnd s → AllWaitForEnd (ended name session condition s)
ended_waits name session condition s h = end_at_waits (endpoint_of session s) name session condition s refl h

-- ---- the stop of the connection

is_none_of : (o : Option ℕ) → is_none o ≡ true → o ≡ None
is_none_of None h = refl
is_none_of (Some n) h = cc

ends_gone : (s : State) → NoEndWaits (ends_concluded s)
ends_gone s = λ k d within. is_none_of _ (filter_passes (λ (e : ℕ × EndpointState). is_none e.1.ending) (ends_answered s.endpoints s).endpoints k d within)

begin_gone : (o : Option Waiting) (why : ConnectionStopReason) (s : State) → NoEndWaits s → NoEndWaits (begin_concluded o why s)
begin_gone None why s h = h
begin_gone (Some (Accept name numbers)) why s h = h
begin_gone (Some (Begin name)) why s h = each_gone (λ (e : EndpointState). e.ending ≡ None) (nat_eq name) s.endpoints (but_of (λ (e : EndpointState). e.ending ≡ None) (nat_eq name) s.endpoints h)

pub no_end_waits : (why : ConnectionStopReason) (s : State) → NoEndWaits (concluded why s)
no_end_waits why s = begin_gone (ends_concluded (finished (halted why s))).waiting why (ends_concluded (finished (halted why s))) (ends_gone (finished (halted why s)))

begin_waits : (o : Option Waiting) (why : ConnectionStopReason) (s : State) (name : ℕ) → s.waiting ≡ o → begins name (begin_concluded o why s).waiting ≡ false
begin_waits None why s name h = ap (begins name) h
begin_waits (Some (Accept other numbers)) why s name h = ap (begins name) h
begin_waits (Some (Begin other)) why s name h = refl

pub no_begin_waits : (why : ConnectionStopReason) (s : State) (name : ℕ) → begins name (concluded why s).waiting ≡ false
no_begin_waits why s name = begin_waits (ends_concluded (finished (halted why s))).waiting why (ends_concluded (finished (halted why s))) name refl
