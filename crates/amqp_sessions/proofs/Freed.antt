-- Which channels a frame frees.
use Rattle.std.proofs.Common.{◌≡◌, ◌⊎◌, inl, inr, ◌∙◌, ap, subst, refl, sym, append_assoc, ℕ, nat_eq, nat_lt, Bool, true, false, if◌then◌else◌, List, [], ◌∷◌, ◌++◌, Option, Some, None}
use Rattle.std.specs.Map.{lookup}
use Rattle.amqp_composites.specs.declared.modes.Role.{Role}
use Rattle.amqp_composites.specs.declared.modes.Role.TheVariants as role
use Rattle.amqp_composites.specs.declared.error.Error.{Error as AmqpError}
use Rattle.amqp_frames.specs.declared.body.FrameBody.{FrameBody}
use Rattle.amqp_frames.specs.declared.body.FrameBody.TheVariants as b
use Rattle.amqp_frames.specs.declared.shared.SessionStopReason.{SessionStopReason}
use Rattle.amqp_performatives.specs.declared.attach.Attach.{Attach}
use Rattle.amqp_performatives.specs.declared.detach.Detach.{Detach}
use Rattle.amqp_performatives.specs.declared.flow.Flow.{Flow}
use Rattle.amqp_performatives.specs.declared.transfer.Transfer.{Transfer}
use Rattle.amqp_session.specs.declared.error.Error.{Error}
use Rattle.amqp_session.specs.declared.error.Error.TheVariants as error
use Rattle.amqp_session.specs.declared.error.Fault.{Fault}
use Rattle.amqp_session.specs.declared.error.Fault.TheVariants as fault
use Rattle.amqp_session.specs.declared.session.LinkInput.TheVariants as input
use Rattle.amqp_session.specs.declared.session.SessionState.{SessionState}
use Rattle.amqp_session.specs.declared.session.SessionState.TheVariants as state
use Rattle.amqp_session.specs.Ends.{stopping, remote_reason, ended, answered, failing}
use Rattle.amqp_session.specs.Faults.{error_for}
use Rattle.amqp_session.specs.Frames.{heard_mapped, heard_in}
use Rattle.amqp_session.specs.Links.{input_at, attach_at, attach_read, detach_at, transfer_at, hand_flow, echo, is_astray, flow_at}
use Rattle.amqp_session.specs.State.{State as SessionState', Framed, Made, refuses, handing}
use Rattle.amqp_session.specs.Windows.{windows_flowed, transfer_read, is_report_due}
use Rattle.amqp_session.specs.Hold.{reporting, released}
use Rattle.amqp_sessions.specs.declared.endpoint.Change.{Change}
use Rattle.amqp_sessions.specs.declared.endpoint.Change.TheVariants.{Same, Begun, Refused, Gone, Answered}
use Rattle.amqp_sessions.specs.Parts.{EndpointState}
use Rattle.amqp_sessions.specs.Endpoint.{change_between, hearing, change_of, having_heard, emptied}
use Rattle.amqp_sessions.specs.Frames.{place_of, freed_at, freed_own, freed, concluding_for, concluding, changed, hearing_at, kept_at, heard_by, heard}
use Rattle.amqp_sessions.specs.Laws.{IsEnd, IsLast, end_on, FreesAtMostOne}
use Rattle.amqp_sessions.specs.State.{State, endpoint_of, with_endpoint, handing as handing_out, handed_out}
use Rattle.amqp_sessions.proofs.Meant.{released_state, ending_state, refused_meant, answered_end, found_set, after, handed_at}

-- ---- a session that is mapped goes at the peer's End alone

-- it is mapped still, or was ended by this end
abbrev pub Stays : SessionState → Type 0
Stays st = (st ≡ state.Mapped) ⊎ (st ≡ state.EndSent)

no_gone : (st : SessionState) → Stays st → change_between state.Mapped st ≡ Gone → ⊥
no_gone st (inl h) c = let e : Gone ≡ Same = sym c ∙ ap (change_between state.Mapped) h in cc
no_gone st (inr h) c = let e : Gone ≡ Same = sym c ∙ ap (change_between state.Mapped) h in cc

failing_stays : (x : Fault) (s : SessionState') → Stays (failing x s).state.state
failing_stays x s = inr (ending_state (Some (error_for x)) s)

attach_at_stays : (o : Option Role) (x : Attach) (s : SessionState') → s.state ≡ state.Mapped → Stays (attach_at o x s).state.state
attach_at_stays None x s h = inl h
attach_at_stays (Some r) x s h = failing_stays fault.HandleInUse s

limit_stays : (c : Bool) (e : Error) (s : SessionState') (m : Made) → s.state ≡ state.Mapped → Stays m.state.state → Stays (if c then refuses e s else m).state.state
limit_stays true e s m h k = inl h
limit_stays false e s m h k = k

attach_stays : (x : Attach) (s : SessionState') → s.state ≡ state.Mapped → Stays (attach_read x s).state.state
attach_stays x s h = limit_stays (nat_lt s.own_handle_max x.handle) error.FramingError s (attach_at (input_at x.handle s) x s) h (attach_at_stays (input_at x.handle s) x s h)

detach_stays : (o : Option Role) (x : Detach) (s : SessionState') → s.state ≡ state.Mapped → Stays (detach_at o x s).state.state
detach_stays None x s h = failing_stays fault.UnattachedHandle s
detach_stays (Some r) x s h = inl h

chosen_report : (c : Bool) (s : SessionState') → (if c then reporting s else s).state ≡ s.state
chosen_report true s = refl
chosen_report false s = refl

transfer_stays : (o : Option Role) (x : Transfer) (payload : List ℕ) (s : SessionState') → s.state ≡ state.Mapped → Stays (transfer_at o x payload s).state.state
transfer_stays None x payload s h = failing_stays fault.UnattachedHandle s
transfer_stays (Some role.Receiver) x payload s h = failing_stays fault.TransferFrameToSender s
transfer_stays (Some role.Sender) x payload s h = inl (chosen_report (is_report_due (transfer_read s.windows)) (handing (input.Transfer x payload) (record s { windows = transfer_read s.windows })) ∙ h)

hand_state : (o : Option ℕ) (x : Flow) (s : SessionState') → (hand_flow o x s).state ≡ s.state
hand_state None x s = refl
hand_state (Some handle) x s = refl

echo_state : (c : Bool) (s : SessionState') → (echo c s).state ≡ s.state
echo_state true s = refl
echo_state false s = refl

flow_stays : (c : Bool) (x : Flow) (s : SessionState') → s.state ≡ state.Mapped → Stays (flow_at c x s).state.state
flow_stays true x s h = failing_stays fault.UnattachedHandle s
flow_stays false x s h =
    let t : SessionState' = record s { windows = windows_flowed x s.windows } in
    inl (echo_state x.echo (hand_flow x.handle x (released t)) ∙ hand_state x.handle x (released t) ∙ released_state t ∙ h)

gone_by : (body : FrameBody) (s : SessionState') → s.state ≡ state.Mapped → change_between state.Mapped (heard_mapped body s).state.state ≡ Gone → IsEnd body
gone_by (b.End x) s h c = tt
gone_by (b.Begin x) s h c = absurd (no_gone s.state (inl h) c)
gone_by (b.Open x) s h c = absurd (no_gone s.state (inl h) c)
gone_by (b.Attach x) s h c = absurd (no_gone _ (attach_stays x s h) c)
gone_by (b.Flow x) s h c = absurd (no_gone _ (flow_stays (is_astray x.handle s) x s h) c)
gone_by (b.Transfer x payload) s h c = absurd (no_gone _ (transfer_stays (input_at x.handle s) x payload s h) c)
gone_by (b.Disposition x) s h c = absurd (no_gone s.state (inl h) c)
gone_by (b.Detach x) s h c = absurd (no_gone _ (detach_stays (input_at x.handle s) x s h) c)
gone_by (b.Close x) s h c = absurd (no_gone s.state (inl h) c)
gone_by b.Empty s h c = absurd (no_gone s.state (inl h) c)

gone_from : (old new : SessionState) → change_between old new ≡ Gone → old ≡ state.Mapped
gone_from state.Mapped new h = refl
gone_from state.BeginSent state.BeginSent h = cc
gone_from state.BeginSent state.Mapped h = cc
gone_from state.BeginSent state.EndSent h = cc
gone_from state.BeginSent state.Unmapped h = cc
gone_from state.EndSent state.BeginSent h = cc
gone_from state.EndSent state.Mapped h = cc
gone_from state.EndSent state.EndSent h = cc
gone_from state.EndSent state.Unmapped h = cc
gone_from state.Unmapped state.BeginSent h = cc
gone_from state.Unmapped state.Mapped h = cc
gone_from state.Unmapped state.EndSent h = cc
gone_from state.Unmapped state.Unmapped h = cc

gone_meant : (x : Framed) (e : EndpointState) → change_of x e ≡ Gone → (e.session.state ≡ state.Mapped) × IsEnd x.body
gone_meant x e h =
    let from : e.session.state ≡ state.Mapped = gone_from _ _ h in
    (from, gone_by x.body e.session from (sym (ap (λ st. change_between st (heard_in st x e.session).state.state) from) ∙ h))

-- ---- the End of this end

-- an End of the peer, in a session that stands: the channel stays, and this end's End was written or is
abbrev pub Ends : SessionState → Framed → SessionState' → Type 0
Ends st x s = ((heard_in st x s).state.channel ≡ s.channel) × ((st ≡ state.EndSent) ⊎ ((heard_in st x s).state.output ≡ s.output ++ end_on s.channel ∷ []))

stopping_channel : (o : Option SessionStopReason) (why : SessionStopReason) (s : SessionState') → (stopping o why s).channel ≡ s.channel
stopping_channel None why s = refl
stopping_channel (Some first) why s = refl

stopping_output : (o : Option SessionStopReason) (why : SessionStopReason) (s : SessionState') → (stopping o why s).output ≡ s.output
stopping_output None why s = refl
stopping_output (Some first) why s = refl

ended_channel : (o : Option AmqpError) (s : SessionState') → (ended o s).channel ≡ s.channel
ended_channel o s = stopping_channel s.stop_reason (remote_reason o) (record s { state = state.Unmapped; held = [] })

ended_output : (o : Option AmqpError) (s : SessionState') → (ended o s).output ≡ s.output ++ end_on s.channel ∷ []
ended_output o s =
    let t : SessionState' = record s { state = state.Unmapped; held = [] } in
    ap (λ (fs : List Framed). fs ++ end_on (stopping s.stop_reason (remote_reason o) t).channel ∷ []) (stopping_output s.stop_reason (remote_reason o) t)
    ∙ ap (λ (c : ℕ). s.output ++ end_on c ∷ []) (stopping_channel s.stop_reason (remote_reason o) t)

answered_channel : (o : Option AmqpError) (s : SessionState') → (answered o s).state.channel ≡ s.channel
answered_channel None s = refl
answered_channel (Some e) s = refl

answer_ends : (channel : ℕ) (body : FrameBody) (s : SessionState') → IsEnd body → Ends state.EndSent (record { channel = channel; body = body }) s
answer_ends channel (b.End x) s i = (answered_channel x.error s, inl refl)
answer_ends channel (b.Begin x) s i = absurd i
answer_ends channel (b.Open x) s i = absurd i
answer_ends channel (b.Attach x) s i = absurd i
answer_ends channel (b.Flow x) s i = absurd i
answer_ends channel (b.Transfer x payload) s i = absurd i
answer_ends channel (b.Disposition x) s i = absurd i
answer_ends channel (b.Detach x) s i = absurd i
answer_ends channel (b.Close x) s i = absurd i
answer_ends channel b.Empty s i = absurd i

begun_ends : (channel : ℕ) (body : FrameBody) (s : SessionState') → IsEnd body → Ends state.BeginSent (record { channel = channel; body = body }) s
begun_ends channel (b.End x) s i = (ended_channel x.error s, inr (ended_output x.error s))
begun_ends channel (b.Begin x) s i = absurd i
begun_ends channel (b.Open x) s i = absurd i
begun_ends channel (b.Attach x) s i = absurd i
begun_ends channel (b.Flow x) s i = absurd i
begun_ends channel (b.Transfer x payload) s i = absurd i
begun_ends channel (b.Disposition x) s i = absurd i
begun_ends channel (b.Detach x) s i = absurd i
begun_ends channel (b.Close x) s i = absurd i
begun_ends channel b.Empty s i = absurd i

mapped_ends : (channel : ℕ) (body : FrameBody) (s : SessionState') → IsEnd body → Ends state.Mapped (record { channel = channel; body = body }) s
mapped_ends channel (b.End x) s i = (ended_channel x.error s, inr (ended_output x.error s))
mapped_ends channel (b.Begin x) s i = absurd i
mapped_ends channel (b.Open x) s i = absurd i
mapped_ends channel (b.Attach x) s i = absurd i
mapped_ends channel (b.Flow x) s i = absurd i
mapped_ends channel (b.Transfer x payload) s i = absurd i
mapped_ends channel (b.Disposition x) s i = absurd i
mapped_ends channel (b.Detach x) s i = absurd i
mapped_ends channel (b.Close x) s i = absurd i
mapped_ends channel b.Empty s i = absurd i

-- what is to be known of an endpoint whose session ends
abbrev pub Leaves : Framed → EndpointState → Type 0
Leaves x e = IsEnd x.body × Ends e.session.state x e.session

refused_leaves : (x : Framed) (e : EndpointState) → change_of x e ≡ Refused → Leaves x e
refused_leaves x e h =
    let m = refused_meant x e h in
    (m.1, subst (λ st. Ends st x e.session) (sym m.0) (begun_ends x.channel x.body e.session m.1))

gone_leaves : (x : Framed) (e : EndpointState) → change_of x e ≡ Gone → Leaves x e
gone_leaves x e h =
    let m = gone_meant x e h in
    (m.1, subst (λ st. Ends st x e.session) (sym m.0) (mapped_ends x.channel x.body e.session m.1))

answered_leaves : (x : Framed) (e : EndpointState) → change_of x e ≡ Answered → Leaves x e
answered_leaves x e h =
    let m = answered_end x e h in
    (m.1, subst (λ st. Ends st x e.session) (sym m.0) (answer_ends x.channel x.body e.session m.1))

-- ---- the table

-- what is freed and what is written, where the session of that name has heard the frame
pub record Left (x : Framed) (e : EndpointState) (session : ℕ) (s t : State) : Type 0 where
  pub same : t.freed ≡ s.freed
  pub there : endpoint_of session t ≡ Some (emptied (having_heard x e))
  pub output : t.output ≡ s.output ++ (hearing x e).state.output

handing_freed : (name : ℕ) (o : Option EndpointState) (s : State) → (handing_out name o s).freed ≡ s.freed
handing_freed name None s = refl
handing_freed name (Some e) s = refl

left : (x : Framed) (e : EndpointState) (session : ℕ) (s : State) → endpoint_of session s ≡ Some e → Left x e session s (handed_out session (with_endpoint session (having_heard x e) s))
left x e session s there =
    let u : State = with_endpoint session (having_heard x e) s in
    let found : endpoint_of session u ≡ Some (having_heard x e) = found_set (nat_eq session) s.endpoints e (having_heard x e) there in
    record {
      same = handing_freed session (endpoint_of session u) u;
      there = handed_at session (endpoint_of session u) u refl ∙ ap after found;
      output = ap (λ o. (handing_out session o u).output) found;
    }

-- no channel, or that of the session
abbrev pub Frees-at : Framed → EndpointState → State → State → Type 0
Frees-at x e s t = (t.freed ≡ s.freed) ⊎ ((t.freed ≡ s.freed ++ e.session.channel ∷ []) × IsEnd x.body × ((e.session.state ≡ state.EndSent) ⊎ IsLast (end_on e.session.channel) t.output))

own_freed : (x : Framed) (e : EndpointState) (session : ℕ) (s t : State) → Left x e session s t → Leaves x e → (freed_own session t).freed ≡ s.freed ++ e.session.channel ∷ []
own_freed x e session s t l m = ap (λ o. (freed_at o t).freed) l.there ∙ ap (λ (cs : List ℕ). cs ++ (hearing x e).state.channel ∷ []) l.same ∙ ap (λ (c : ℕ). s.freed ++ c ∷ []) m.1.0

own_output : (o : Option EndpointState) (t : State) → (freed_at o t).output ≡ t.output
own_output None t = refl
own_output (Some e) t = refl

own_end : (x : Framed) (e : EndpointState) (s : State) (out : List Framed) → out ≡ s.output ++ (hearing x e).state.output → ((e.session.state ≡ state.EndSent) ⊎ ((hearing x e).state.output ≡ e.session.output ++ end_on e.session.channel ∷ [])) → (e.session.state ≡ state.EndSent) ⊎ IsLast (end_on e.session.channel) out
own_end x e s out h (inl k) = inl k
own_end x e s out h (inr k) = inr (s.output ++ e.session.output, h ∙ ap (λ (fs : List Framed). s.output ++ fs) k ∙ sym (append_assoc s.output e.session.output (end_on e.session.channel ∷ [])))

concluding_for_freed : (o : Option ℕ) (is_left : Bool) (session : ℕ) (error : Option Error) (t : State) → (concluding_for o is_left session error t).freed ≡ t.freed
concluding_for_freed None true session error t = refl
concluding_for_freed None false session error t = refl
concluding_for_freed (Some end) is_left session error t = refl

concluding_for_output : (o : Option ℕ) (is_left : Bool) (session : ℕ) (error : Option Error) (t : State) → (concluding_for o is_left session error t).output ≡ t.output
concluding_for_output None true session error t = refl
concluding_for_output None false session error t = refl
concluding_for_output (Some end) is_left session error t = refl

concluding_freed : (o : Option EndpointState) (session : ℕ) (error : Option Error) (t : State) → (concluding o session error t).freed ≡ t.freed
concluding_freed None session error t = refl
concluding_freed (Some e) session error t = concluding_for_freed e.ending e.is_left session error t

concluding_output : (o : Option EndpointState) (session : ℕ) (error : Option Error) (t : State) → (concluding o session error t).output ≡ t.output
concluding_output None session error t = refl
concluding_output (Some e) session error t = concluding_for_output e.ending e.is_left session error t

changed_frees : (x : Framed) (session : ℕ) (e : EndpointState) (s t : State) (c : Change) → Left x e session s t → change_of x e ≡ c → Frees-at x e s (changed c session x.channel (hearing x e).answer t)
changed_frees x session e s t Same l c = inl l.same
changed_frees x session e s t Begun l c = inl l.same
changed_frees x session e s t Refused l c =
    let m = refused_leaves x e c in
    inr (own_freed x e session s t l m, m.0, own_end x e s _ (own_output (endpoint_of session t) t ∙ l.output) m.1.1)
changed_frees x session e s t Gone l c =
    let m = gone_leaves x e c in
    inr (own_freed x e session s _ (record { same = l.same; there = l.there; output = l.output }) m, m.0, own_end x e s _ (own_output (endpoint_of session t) _ ∙ l.output) m.1.1)
changed_frees x session e s t Answered l c =
    let m = answered_leaves x e c in
    let u : State = freed session x.channel t in
    let o : Option EndpointState = endpoint_of session t in
    inr (concluding_freed o session (hearing x e).answer u ∙ own_freed x e session s _ (record { same = l.same; there = l.there; output = l.output }) m, m.0, own_end x e s _ (concluding_output o session (hearing x e).answer u ∙ own_output (endpoint_of session t) _ ∙ l.output) m.1.1)

kept_freed : (o : Option (List Framed)) (x : Framed) (s : State) → (kept_at o x s).freed ≡ s.freed
kept_freed None x s = refl
kept_freed (Some xs) x s = refl

frees : (x : Framed) (s : State) (session : ℕ) (e : EndpointState) → place_of x s ≡ Some session → endpoint_of session s ≡ Some e → Frees-at x e s (heard x s) → FreesAtMostOne x s
frees x s session e place there (inl h) = inl h
frees x s session e place there (inr h) = inr (record { session = session; endpoint = e; place = place; there = there; freed = h.0; theirs = h.1; own = h.2 })

freed_there : (x : Framed) (s : State) (session : ℕ) (o : Option EndpointState) → place_of x s ≡ Some session → endpoint_of session s ≡ o → FreesAtMostOne x s
freed_there x s session None place there = inl (ap (λ (t : State). t.freed) (ap (λ p. heard_by p x s) place ∙ ap (λ o. hearing_at o session x s) there))
freed_there x s session (Some e) place there =
    let same : heard x s ≡ hearing_at (Some e) session x s = ap (λ p. heard_by p x s) place ∙ ap (λ o. hearing_at o session x s) there in
    let found : Frees-at x e s (hearing_at (Some e) session x s) = changed_frees x session e s (handed_out session (with_endpoint session (having_heard x e) s)) (change_of x e) (left x e session s there) refl in
    frees x s session e place there (subst (Frees-at x e s) (sym same) found)

freed_by : (x : Framed) (s : State) (p : Option ℕ) → place_of x s ≡ p → FreesAtMostOne x s
freed_by x s None place = inl (ap (λ (t : State). t.freed) (ap (λ p. heard_by p x s) place) ∙ kept_freed (lookup (nat_eq x.channel) s.early) x s)
freed_by x s (Some session) place = freed_there x s session (endpoint_of session s) place refl

pub frees_at_most_one : (x : Framed) (s : State) → FreesAtMostOne x s
frees_at_most_one x s = freed_by x s (place_of x s) refl
