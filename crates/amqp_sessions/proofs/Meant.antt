-- Which answers a frame brings.
use Rattle.std.proofs.Common.{◌≡◌, ◌⊎◌, inl, inr, ◌∙◌, ap, subst, refl, sym, ℕ, zero, suc, nat_eq, Bool, true, false, cond, List, [], ◌∷◌, ◌++◌, Option, Some, None}
use Rattle.std.specs.Map.{lookup, set_value}
use Rattle.amqp_calls.specs.declared.reply.NamedReply.{NamedReply}
use Rattle.amqp_calls.specs.declared.reply.Reply.TheVariants.{Session}
use Rattle.amqp_calls.specs.declared.reply.SessionReply.{SessionReply}
use Rattle.amqp_calls.specs.declared.reply.SessionReply.TheVariants as reply
use Rattle.amqp_composites.specs.declared.error.Error.{Error as AmqpError}
use Rattle.amqp_frames.specs.declared.body.FrameBody.{FrameBody}
use Rattle.amqp_frames.specs.declared.body.FrameBody.TheVariants as b
use Rattle.amqp_frames.specs.declared.shared.SessionStopReason.{SessionStopReason}
use Rattle.amqp_parts.specs.declared.part.Part.{Part}
use Rattle.amqp_session.specs.declared.error.BeginError.TheVariants.{RemoteEnded}
use Rattle.amqp_session.specs.declared.session.SessionState.{SessionState}
use Rattle.amqp_session.specs.declared.session.SessionState.TheVariants as state
use Rattle.amqp_session.specs.Begin.{mapped}
use Rattle.amqp_session.specs.Ends.{stopping, own_reason, remote_reason, ending, ended, answered}
use Rattle.amqp_session.specs.Frames.{heard_unanswered, heard_ending, heard_in}
use Rattle.amqp_session.specs.Hold.{first_leaving, releasing, released}
use Rattle.amqp_session.specs.State.{State as SessionState', Framed}
use Rattle.amqp_sessions.specs.declared.endpoint.Change.{Change}
use Rattle.amqp_sessions.specs.declared.endpoint.Change.TheVariants.{Same, Begun, Refused, Gone, Answered}
use Rattle.amqp_sessions.specs.Parts.{EndpointState}
use Rattle.amqp_sessions.specs.Endpoint.{change_between, hearing, change_of, having_heard, emptied}
use Rattle.amqp_sessions.specs.Frames.{place_of, freed_at, freed_own, freed, end_reply, concluding_for, concluding, changed, hearing_at, kept_at, heard_by, heard}
use Rattle.amqp_sessions.specs.Laws.{IsBegin, IsEnd, IsEndFor, IsMeant, AnswersAtMostOne}
use Rattle.amqp_sessions.specs.State.{State, endpoint_of, with_endpoint, handing, handed_out}

-- ---- the states of a session

begun_from : (old new : SessionState) → change_between old new ≡ Begun → old ≡ state.BeginSent
begun_from state.BeginSent new h = refl
begun_from state.Mapped state.BeginSent h = cc
begun_from state.Mapped state.Mapped h = cc
begun_from state.Mapped state.EndSent h = cc
begun_from state.Mapped state.Unmapped h = cc
begun_from state.EndSent state.BeginSent h = cc
begun_from state.EndSent state.Mapped h = cc
begun_from state.EndSent state.EndSent h = cc
begun_from state.EndSent state.Unmapped h = cc
begun_from state.Unmapped state.BeginSent h = cc
begun_from state.Unmapped state.Mapped h = cc
begun_from state.Unmapped state.EndSent h = cc
begun_from state.Unmapped state.Unmapped h = cc

refused_from : (old new : SessionState) → change_between old new ≡ Refused → old ≡ state.BeginSent
refused_from state.BeginSent new h = refl
refused_from state.Mapped state.BeginSent h = cc
refused_from state.Mapped state.Mapped h = cc
refused_from state.Mapped state.EndSent h = cc
refused_from state.Mapped state.Unmapped h = cc
refused_from state.EndSent state.BeginSent h = cc
refused_from state.EndSent state.Mapped h = cc
refused_from state.EndSent state.EndSent h = cc
refused_from state.EndSent state.Unmapped h = cc
refused_from state.Unmapped state.BeginSent h = cc
refused_from state.Unmapped state.Mapped h = cc
refused_from state.Unmapped state.EndSent h = cc
refused_from state.Unmapped state.Unmapped h = cc

answered_from : (old new : SessionState) → change_between old new ≡ Answered → old ≡ state.EndSent
answered_from state.EndSent new h = refl
answered_from state.BeginSent state.BeginSent h = cc
answered_from state.BeginSent state.Mapped h = cc
answered_from state.BeginSent state.EndSent h = cc
answered_from state.BeginSent state.Unmapped h = cc
answered_from state.Mapped state.BeginSent h = cc
answered_from state.Mapped state.Mapped h = cc
answered_from state.Mapped state.EndSent h = cc
answered_from state.Mapped state.Unmapped h = cc
answered_from state.Unmapped state.BeginSent h = cc
answered_from state.Unmapped state.Mapped h = cc
answered_from state.Unmapped state.EndSent h = cc
answered_from state.Unmapped state.Unmapped h = cc

-- what waits is written in the same state
first_state : (xs : List Part) (s : SessionState') → (first_leaving xs s).state ≡ s.state
first_state [] s = refl
first_state (x ∷ xs) s = refl

releasing_state : (n : ℕ) (s : SessionState') → (releasing n s).state ≡ s.state
unfolding releasing
releasing_state zero s = refl
releasing_state (suc n) s = releasing_state n (first_leaving s.held s) ∙ first_state s.held s

pub released_state : (s : SessionState') → (released s).state ≡ s.state
released_state s = releasing_state s.windows.allowance s

-- a session that stops is in that state, and says why
pub stopping_state : (o : Option SessionStopReason) (why : SessionStopReason) (s : SessionState') → (stopping o why s).state ≡ s.state
stopping_state None why s = refl
stopping_state (Some first) why s = refl

pub ended_state : (error : Option AmqpError) (s : SessionState') → (ended error s).state ≡ state.Unmapped
ended_state error s = stopping_state s.stop_reason (remote_reason error) (record s { state = state.Unmapped; held = [] })

pub ending_state : (error : Option AmqpError) (s : SessionState') → (ending error s).state ≡ state.EndSent
ending_state error s = stopping_state s.stop_reason (own_reason error) (record s { state = state.EndSent; held = [] })

-- ---- what a frame makes of a session

kept_begun : (s : SessionState') → s.state ≡ state.BeginSent → (c : Change) → change_between state.BeginSent s.state ≡ c → c ≡ Same
kept_begun s h c e = sym e ∙ ap (change_between state.BeginSent) h

kept_ending : (s : SessionState') → s.state ≡ state.EndSent → (c : Change) → change_between state.EndSent s.state ≡ c → c ≡ Same
kept_ending s h c e = sym e ∙ ap (change_between state.EndSent) h

-- no such change, where the state is kept
no_begun : (s : SessionState') → s.state ≡ state.BeginSent → change_between state.BeginSent s.state ≡ Begun → ⊥
no_begun s h e = let f : Begun ≡ Same = kept_begun s h Begun e in cc

no_refused : (s : SessionState') → s.state ≡ state.BeginSent → change_between state.BeginSent s.state ≡ Refused → ⊥
no_refused s h e = let f : Refused ≡ Same = kept_begun s h Refused e in cc

no_answered : (s : SessionState') → s.state ≡ state.EndSent → change_between state.EndSent s.state ≡ Answered → ⊥
no_answered s h e = let f : Answered ≡ Same = kept_ending s h Answered e in cc

begun_by : (channel : ℕ) (body : FrameBody) (s : SessionState') → s.state ≡ state.BeginSent → change_between state.BeginSent (heard_unanswered channel body s).state.state ≡ Begun → IsBegin body
begun_by channel (b.Begin x) s h e = tt
begun_by channel (b.End x) s h e = let f : Begun ≡ Refused = sym e ∙ ap (change_between state.BeginSent) (ended_state x.error s) in cc
begun_by channel (b.Open x) s h e = absurd (no_begun s h e)
begun_by channel (b.Attach x) s h e = absurd (no_begun s h e)
begun_by channel (b.Flow x) s h e = absurd (no_begun s h e)
begun_by channel (b.Transfer x payload) s h e = absurd (no_begun s h e)
begun_by channel (b.Disposition x) s h e = absurd (no_begun s h e)
begun_by channel (b.Detach x) s h e = absurd (no_begun s h e)
begun_by channel (b.Close x) s h e = absurd (no_begun s h e)
begun_by channel b.Empty s h e = absurd (no_begun s h e)

no_mapped : (s : SessionState') → s.state ≡ state.Mapped → change_between state.BeginSent (released s).state ≡ Refused → ⊥
no_mapped s h e = let f : Refused ≡ Begun = sym e ∙ ap (change_between state.BeginSent) (released_state s ∙ h) in cc

refused_by : (channel : ℕ) (body : FrameBody) (s : SessionState') → s.state ≡ state.BeginSent → change_between state.BeginSent (heard_unanswered channel body s).state.state ≡ Refused → IsEnd body
refused_by channel (b.End x) s h e = tt
refused_by channel (b.Begin x) s h e = absurd (no_mapped (mapped channel x s) refl e)
refused_by channel (b.Open x) s h e = absurd (no_refused s h e)
refused_by channel (b.Attach x) s h e = absurd (no_refused s h e)
refused_by channel (b.Flow x) s h e = absurd (no_refused s h e)
refused_by channel (b.Transfer x payload) s h e = absurd (no_refused s h e)
refused_by channel (b.Disposition x) s h e = absurd (no_refused s h e)
refused_by channel (b.Detach x) s h e = absurd (no_refused s h e)
refused_by channel (b.Close x) s h e = absurd (no_refused s h e)
refused_by channel b.Empty s h e = absurd (no_refused s h e)

-- the answer of an `end` at that frame
abbrev pub MeansEnd : FrameBody → ℕ → EndpointState → ℕ → SessionState' → Type 0
MeansEnd body session e name s = IsMeant body session e name (end_reply (heard_ending body s).answer)

ended_for : (error : Option AmqpError) (body : FrameBody) (session : ℕ) (e : EndpointState) (name : ℕ) (s : SessionState') → e.ending ≡ Some name → e.session.state ≡ state.EndSent → IsEndFor error body → IsMeant body session e name (end_reply (answered error s).answer)
ended_for None body session e name s w h i = (w, h, i)
ended_for (Some error) body session e name s w h i = (w, h, i)

answered_by : (body : FrameBody) (session : ℕ) (e : EndpointState) (name : ℕ) (s : SessionState') → s.state ≡ state.EndSent → e.ending ≡ Some name → e.session.state ≡ state.EndSent → change_between state.EndSent (heard_ending body s).state.state ≡ Answered → MeansEnd body session e name s
answered_by (b.End x) session e name s h w t c = ended_for x.error (b.End x) session e name s w t refl
answered_by (b.Begin x) session e name s h w t c = absurd (no_answered s h c)
answered_by (b.Open x) session e name s h w t c = absurd (no_answered s h c)
answered_by (b.Attach x) session e name s h w t c = absurd (no_answered s h c)
answered_by (b.Flow x) session e name s h w t c = absurd (no_answered s h c)
answered_by (b.Transfer x payload) session e name s h w t c = absurd (no_answered s h c)
answered_by (b.Disposition x) session e name s h w t c = absurd (no_answered s h c)
answered_by (b.Detach x) session e name s h w t c = absurd (no_answered s h c)
answered_by (b.Close x) session e name s h w t c = absurd (no_answered s h c)
answered_by b.Empty session e name s h w t c = absurd (no_answered s h c)

ended_by : (body : FrameBody) (s : SessionState') → s.state ≡ state.EndSent → change_between state.EndSent (heard_ending body s).state.state ≡ Answered → IsEnd body
ended_by (b.End x) s h c = tt
ended_by (b.Begin x) s h c = absurd (no_answered s h c)
ended_by (b.Open x) s h c = absurd (no_answered s h c)
ended_by (b.Attach x) s h c = absurd (no_answered s h c)
ended_by (b.Flow x) s h c = absurd (no_answered s h c)
ended_by (b.Transfer x payload) s h c = absurd (no_answered s h c)
ended_by (b.Disposition x) s h c = absurd (no_answered s h c)
ended_by (b.Detach x) s h c = absurd (no_answered s h c)
ended_by (b.Close x) s h c = absurd (no_answered s h c)
ended_by b.Empty s h c = absurd (no_answered s h c)

-- the same of an endpoint
pub begun_meant : (x : Framed) (e : EndpointState) → change_of x e ≡ Begun → (e.session.state ≡ state.BeginSent) × IsBegin x.body
begun_meant x e h =
    let from : e.session.state ≡ state.BeginSent = begun_from _ _ h in
    (from, begun_by x.channel x.body e.session from (sym (ap (λ st. change_between st (heard_in st x e.session).state.state) from) ∙ h))

pub refused_meant : (x : Framed) (e : EndpointState) → change_of x e ≡ Refused → (e.session.state ≡ state.BeginSent) × IsEnd x.body
refused_meant x e h =
    let from : e.session.state ≡ state.BeginSent = refused_from _ _ h in
    (from, refused_by x.channel x.body e.session from (sym (ap (λ st. change_between st (heard_in st x e.session).state.state) from) ∙ h))

pub answered_end : (x : Framed) (e : EndpointState) → change_of x e ≡ Answered → (e.session.state ≡ state.EndSent) × IsEnd x.body
answered_end x e h =
    let from : e.session.state ≡ state.EndSent = answered_from _ _ h in
    (from, ended_by x.body e.session from (sym (ap (λ st. change_between st (heard_in st x e.session).state.state) from) ∙ h))

answered_meant : (x : Framed) (session : ℕ) (e : EndpointState) (name : ℕ) → e.ending ≡ Some name → change_of x e ≡ Answered → IsMeant x.body session e name (end_reply (hearing x e).answer)
answered_meant x session e name w h =
    let from : e.session.state ≡ state.EndSent = answered_from _ _ h in
    let there : MeansEnd x.body session e name e.session = answered_by x.body session e name e.session from w from (sym (ap (λ st. change_between st (heard_in st x e.session).state.state) from) ∙ h) in
    subst (λ st. IsMeant x.body session e name (end_reply (heard_in st x e.session).answer)) (sym from) there

-- ---- the table

found_first : {X : Type 0} (test : ℕ → Bool) (e : ℕ × X) (es : List (ℕ × X)) (v w : X) (c : Bool) → test e.0 ≡ c → cond c (Some e.1) (lookup test es) ≡ Some v → (lookup test es ≡ Some v → lookup test (set_value test es w) ≡ Some w) → lookup test (cond c ((e.0, w) ∷ es) (e ∷ set_value test es w)) ≡ Some w
found_first test e es v w true t h rest = ap (λ d. cond d (Some w) (lookup test es)) t
found_first test e es v w false t h rest = ap (λ d. cond d (Some e.1) (lookup test (set_value test es w))) t ∙ rest h

pub found_set : {X : Type 0} (test : ℕ → Bool) (es : List (ℕ × X)) (v w : X) → lookup test es ≡ Some v → lookup test (set_value test es w) ≡ Some w
found_set test [] v w h = cc
found_set test (e ∷ es) v w h = found_first test e es v w (test e.0) refl h (λ rest. found_set test es v w rest)

abbrev pub after : Option EndpointState → Option EndpointState
after None = None
after (Some e) = Some (emptied e)

pub handed_at : (name : ℕ) (o : Option EndpointState) (s : State) → endpoint_of name s ≡ o → endpoint_of name (handing name o s) ≡ after o
handed_at name None s there = there
handed_at name (Some f) s there = found_set (nat_eq name) s.endpoints f (emptied f) there

-- the session's frames go out, and the session stays
pub handed_there : (name : ℕ) (s : State) (e : EndpointState) → endpoint_of name s ≡ Some e → endpoint_of name (handed_out name s) ≡ Some (emptied e)
handed_there name s e there = handed_at name (endpoint_of name s) s refl ∙ ap after there

handing_replies : (name : ℕ) (o : Option EndpointState) (s : State) → (handing name o s).replies ≡ s.replies
handing_replies name None s = refl
handing_replies name (Some e) s = refl

freed_replies : (o : Option EndpointState) (s : State) → (freed_at o s).replies ≡ s.replies
freed_replies None s = refl
freed_replies (Some e) s = refl

-- ---- the answers

-- no answer, or one that is meant, where the session of that name hears the frame
abbrev pub Answers : Framed → ℕ → EndpointState → State → State → Type 0
Answers x session e s t = (t.replies ≡ s.replies) ⊎ ((name : ℕ) × (answer : SessionReply) × (t.replies ≡ s.replies ++ record { name = name; reply = Session answer } ∷ []) × IsMeant x.body session e name answer)

one_more : (rs ts : List NamedReply) (name : ℕ) (answer : SessionReply) → ts ≡ rs → ts ++ record { name = name; reply = Session answer } ∷ [] ≡ rs ++ record { name = name; reply = Session answer } ∷ []
one_more rs ts name answer h = ap (λ (us : List NamedReply). us ++ record { name = name; reply = Session answer } ∷ []) h

concluding_answers : (x : Framed) (session : ℕ) (e : EndpointState) (s t : State) (o : Option ℕ) (is_left : Bool) → e.ending ≡ o → t.replies ≡ s.replies → change_of x e ≡ Answered → Answers x session e s (concluding_for o is_left session (hearing x e).answer t)
concluding_answers x session e s t None true w h c = inl h
concluding_answers x session e s t None false w h c = inl h
concluding_answers x session e s t (Some end) is_left w h c = inr (end, end_reply (hearing x e).answer, one_more s.replies t.replies end (end_reply (hearing x e).answer) h, answered_meant x session e end w c)

changed_answers : (x : Framed) (session : ℕ) (e : EndpointState) (s t : State) (c : Change) → t.replies ≡ s.replies → endpoint_of session t ≡ Some (emptied (having_heard x e)) → change_of x e ≡ c → Answers x session e s (changed c session x.channel (hearing x e).answer t)
changed_answers x session e s t Same h w c = inl h
changed_answers x session e s t Begun h w c = inr (session, reply.Session, one_more s.replies t.replies session reply.Session h, (refl, (begun_meant x e c).0, (begun_meant x e c).1))
changed_answers x session e s t Refused h w c = inr (session, reply.BeginError RemoteEnded, one_more s.replies (freed_own session t).replies session (reply.BeginError RemoteEnded) (freed_replies (endpoint_of session t) t ∙ h), (refl, (refused_meant x e c).0, refl, (refused_meant x e c).1))
changed_answers x session e s t Gone h w c = inl (freed_replies (endpoint_of session t) _ ∙ h)
changed_answers x session e s t Answered h w c =
    let u : State = freed session x.channel t in
    subst (λ (o : Option EndpointState). Answers x session e s (concluding o session (hearing x e).answer u)) (sym w) (concluding_answers x session e s u e.ending e.is_left refl (freed_replies (endpoint_of session t) _ ∙ h) c)

hears : (x : Framed) (session : ℕ) (e : EndpointState) (s : State) → endpoint_of session s ≡ Some e → Answers x session e s (hearing_at (Some e) session x s)
hears x session e s there =
    let u : State = with_endpoint session (having_heard x e) s in
    let found : endpoint_of session u ≡ Some (having_heard x e) = found_set (nat_eq session) s.endpoints e (having_heard x e) there in
    changed_answers x session e s (handed_out session u) (change_of x e) (handing_replies session (endpoint_of session u) u) (handed_there session u (having_heard x e) found) refl

kept_replies : (o : Option (List Framed)) (x : Framed) (s : State) → (kept_at o x s).replies ≡ s.replies
kept_replies None x s = refl
kept_replies (Some xs) x s = refl

brings : (x : Framed) (s : State) (session : ℕ) (e : EndpointState) → place_of x s ≡ Some session → endpoint_of session s ≡ Some e → Answers x session e s (heard x s) → AnswersAtMostOne x s
brings x s session e place there (inl h) = inl h
brings x s session e place there (inr h) = inr (record { session = session; endpoint = e; name = h.0; answer = h.1; place = place; there = there; answers = h.2; meant = h.3 })

heard_there : (x : Framed) (s : State) (session : ℕ) (o : Option EndpointState) → place_of x s ≡ Some session → endpoint_of session s ≡ o → AnswersAtMostOne x s
heard_there x s session None place there = inl (ap (λ (t : State). t.replies) (ap (λ p. heard_by p x s) place ∙ ap (λ o. hearing_at o session x s) there))
heard_there x s session (Some e) place there =
    let same : heard x s ≡ hearing_at (Some e) session x s = ap (λ p. heard_by p x s) place ∙ ap (λ o. hearing_at o session x s) there in
    brings x s session e place there (subst (Answers x session e s) (sym same) (hears x session e s there))

heard_at : (x : Framed) (s : State) (p : Option ℕ) → place_of x s ≡ p → AnswersAtMostOne x s
heard_at x s None place = inl (ap (λ (t : State). t.replies) (ap (λ p. heard_by p x s) place) ∙ kept_replies (lookup (nat_eq x.channel) s.early) x s)
heard_at x s (Some session) place = heard_there x s session (endpoint_of session s) place refl

pub answers_at_most_one : (x : Framed) (s : State) → AnswersAtMostOne x s
answers_at_most_one x s = heard_at x s (place_of x s) refl
