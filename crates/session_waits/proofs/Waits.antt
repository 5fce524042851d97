-- Whatever the sessions of an end do, a `begin` waits for the peer's Begin, and an `end` for its End.
use Rattle.std.specs.Prelude.{◌≡◌, ℕ, nat_eq, Bool, true, false, cond, List, [], ◌∷◌, Option, Some, None, refl}
use Rattle.std.proofs.Common.{inl, inr, sym, ◌∙◌, ap, subst, arith}
use Rattle.std.proofs.lemmas.Bool.{eqb-true}
use Rattle.std.specs.Map.{lookup}
use Rattle.amqp_calls.specs.declared.call.SessionNumbers.{SessionNumbers}
use Rattle.amqp_frames.specs.declared.body.FrameBody.{FrameBody}
use Rattle.amqp_frames.specs.declared.body.FrameBody.TheVariants as b
use Rattle.amqp_frames.specs.declared.shared.IncomingSession.{IncomingSession}
use Rattle.amqp_frames.specs.declared.shared.LinkFrame.{LinkFrame}
use Rattle.amqp_session.specs.declared.error.Error.{Error}
use Rattle.amqp_session.specs.declared.session.SessionState.{SessionState}
use Rattle.amqp_session.specs.declared.session.SessionState.TheVariants as state
use Rattle.amqp_session.specs.Begin as session
use Rattle.amqp_session.specs.Begin.{mapped}
use Rattle.amqp_session.specs.Ends.{attach_refused}
use Rattle.amqp_session.specs.Frames.{heard_unanswered, heard_in, told_in}
use Rattle.amqp_session.specs.State.{State as Session, Framed}
use Rattle.amqp_sessions.specs.declared.endpoint.Change.{Change}
use Rattle.amqp_sessions.specs.declared.endpoint.Change.TheVariants.{Same, Begun, Refused, Gone, Answered}
use Rattle.amqp_sessions.specs.declared.sessions.Waiting.TheVariants.{Begin}
use Rattle.amqp_sessions.specs.Calls.{settings, entered, begun, awaiting, accepted, left_in, left_at, end_told, end_at, ended}
use Rattle.amqp_sessions.specs.Endpoint.{change_between, hearing, change_of, having_heard, having_written, having_refused, asking_end, having_asked, emptied}
use Rattle.amqp_sessions.specs.Frames.{place_of, joined, refused, freed_at, freed, concluding_for, concluding, changed, hearing_at, kept_at, heard_by, heard, heard_all, heard_early_at, written_at, written, refusing_at, refusing}
use Rattle.amqp_sessions.specs.Laws.{WaitsForEnd}
use Rattle.amqp_sessions.specs.Parts.{EndpointState, idle}
use Rattle.amqp_sessions.specs.State.{State, endpoint_of, with_endpoint, let_go, handing, handed_out}
use Rattle.amqp_sessions.proofs.Gone.{each_set, each_found}
use Rattle.amqp_sessions.proofs.Meant.{released_state, ended_state}
use Rattle.amqp_sessions.proofs.Waits as ends
use Rattle.session_lives.specs.Deeds.{Deed, Begins, Awaits, Accepts, Refuses, Ends, HandsOut, Halts, Concludes, Hears, Writes, Frees, Gives, Takes, Lacks, Tells, IsDeed}
use Rattle.session_lives.specs.Logs.{AreKeyed}
use Rattle.session_lives.proofs.Deeds.{one_session_lives}
use Rattle.session_lives.proofs.Tables.{set_at, set_keyed, insert_here, insert_keyed, gone}
use Rattle.session_waits.proofs.Held as held
use Rattle.session_waits.specs.Laws.{NoneWaits, AllWaitOn}
use Rattle.session_waits.specs.Waits.{BeginWaits, AreWaiting, IsOrderly}

abbrev Begins' : State → Type 0
Begins' s = (name : ℕ) → s.waiting ≡ Some (Begin name) → BeginWaits (endpoint_of name s)

-- ---- what a frame makes of a session whose Begin is out

abbrev quiet : Change → Bool
quiet Begun = false
quiet Refused = false
quiet other = true

stays_by : (channel : ℕ) (body : FrameBody) (s : Session) → s.state ≡ state.BeginSent → quiet (change_between state.BeginSent (heard_unanswered channel body s).state.state) ≡ true
    → (heard_unanswered channel body s).state.state ≡ state.BeginSent
stays_by channel (b.Begin x) s h e =
    let f : true ≡ false = sym e ∙ ap (λ st. quiet (change_between state.BeginSent st)) (released_state (mapped channel x s)) in absurd cc
stays_by channel (b.End x) s h e =
    let f : true ≡ false = sym e ∙ ap (λ st. quiet (change_between state.BeginSent st)) (ended_state x.error s) in absurd cc
stays_by channel (b.Open x) s h e = h
stays_by channel (b.Attach x) s h e = h
stays_by channel (b.Flow x) s h e = h
stays_by channel (b.Transfer x payload) s h e = h
stays_by channel (b.Disposition x) s h e = h
stays_by channel (b.Detach x) s h e = h
stays_by channel (b.Close x) s h e = h
stays_by channel b.Empty s h e = h

begin_stays : (x : Framed) (e : EndpointState) → quiet (change_of x e) ≡ true → e.session.state ≡ state.BeginSent → (having_heard x e).session.state ≡ state.BeginSent
begin_stays x e q sent =
    subst (λ st. quiet (change_between st (heard_in st x e.session).state.state) ≡ true → (heard_in st x e.session).state.state ≡ state.BeginSent) (sym sent)
    (stays_by x.channel x.body e.session sent) q

answered_by : (new : SessionState) → change_between state.BeginSent new ≡ Answered → ⊥
answered_by state.BeginSent h = cc
answered_by state.Mapped h = cc
answered_by state.EndSent h = cc
answered_by state.Unmapped h = cc

not_answered : (old new : SessionState) → old ≡ state.BeginSent → change_between old new ≡ Answered → ⊥
not_answered old new e h = answered_by new (subst (λ st. change_between st new ≡ Answered) e h)

-- ---- the table

same_begins : (s t : State) → t.waiting ≡ s.waiting → t.endpoints ≡ s.endpoints → Begins' s → Begins' t
same_begins s t w e f = λ name h. subst (λ es. BeginWaits (lookup (nat_eq name) es)) (sym e) (f name (sym w ∙ h))

none_begins : (s : State) → s.waiting ≡ None → Begins' s
none_begins s e = λ name h. (let f : None ≡ Some (Begin name) = sym e ∙ h in absurd cc)

waits_cond : (t : Bool) (f : EndpointState) (o : Option EndpointState) → (t ≡ true → f.session.state ≡ state.BeginSent) → BeginWaits o → BeginWaits (cond t (Some f) o)
waits_cond true f o k w = k refl
waits_cond false f o k w = w

stands : (o : Option EndpointState) (e : EndpointState) → o ≡ Some e → BeginWaits o → e.session.state ≡ state.BeginSent
stands o e h w = subst BeginWaits h w

-- a session goes on
set_begins : (n : ℕ) (e f : EndpointState) (s : State) → endpoint_of n s ≡ Some e → (s.waiting ≡ Some (Begin n) → e.session.state ≡ state.BeginSent → f.session.state ≡ state.BeginSent) → Begins' s → Begins' (with_endpoint n f s)
set_begins n e f s at k w = λ name h.
    subst BeginWaits (sym (set_at n name s.endpoints e f at))
    (waits_cond (nat_eq name n) f (endpoint_of name s)
    (λ t. (let same : name ≡ n = eqb-true name n t in k (h ∙ ap (λ m. Some (Begin m)) same) (stands (endpoint_of name s) e (ap (λ m. endpoint_of m s) same ∙ at) (w name h)))) (w name h))

gone_cond : (t : Bool) (o : Option EndpointState) → (t ≡ true → ⊥) → BeginWaits o → BeginWaits (cond t None o)
gone_cond true o k w = absurd (k refl)
gone_cond false o k w = w

-- one is let go that no call begins
gone_begins : (n : ℕ) (s : State) → AreKeyed s → (s.waiting ≡ Some (Begin n) → ⊥) → Begins' s → Begins' (let_go n s)
gone_begins n s keyed k w = λ name h.
    subst BeginWaits (sym ((gone n s.endpoints keyed).at name))
    (gone_cond (nat_eq name n) (endpoint_of name s) (λ t. k (h ∙ ap (λ m. Some (Begin m)) (eqb-true name n t))) (w name h))

handing_begins : (n : ℕ) (o : Option EndpointState) (s : State) → endpoint_of n s ≡ o → Begins' s → Begins' (handing n o s)
handing_begins n None s at w = w
handing_begins n (Some e) s at w = set_begins n e (emptied e) s at (λ h sent. sent) w

handed_begins : (n : ℕ) (s : State) → Begins' s → Begins' (handed_out n s)
handed_begins n s w = handing_begins n (endpoint_of n s) s refl w

handing_keyed : (n : ℕ) (o : Option EndpointState) (s : State) → AreKeyed s → AreKeyed (handing n o s)
handing_keyed n None s k = k
handing_keyed n (Some e) s k = set_keyed n s.endpoints (emptied e) k

handing_waiting : (n : ℕ) (o : Option EndpointState) (s : State) → (handing n o s).waiting ≡ s.waiting
handing_waiting n None s = refl
handing_waiting n (Some e) s = refl

-- ---- frames

freed_endpoints : (o : Option EndpointState) (s : State) → (freed_at o s).endpoints ≡ s.endpoints
freed_endpoints None s = refl
freed_endpoints (Some e) s = refl

freed_waiting : (o : Option EndpointState) (s : State) → (freed_at o s).waiting ≡ s.waiting
freed_waiting None s = refl
freed_waiting (Some e) s = refl

freed_begins : (n remote : ℕ) (s : State) → Begins' s → Begins' (freed n remote s)
freed_begins n remote s w = same_begins s (freed n remote s) (freed_waiting _ _) (freed_endpoints _ _) w

concluding_for_begins : (o : Option ℕ) (is_left : Bool) (n : ℕ) (error : Option Error) (s : State) → AreKeyed s → (s.waiting ≡ Some (Begin n) → ⊥) → Begins' s → Begins' (concluding_for o is_left n error s)
concluding_for_begins (Some end) is_left n error s keyed k w = gone_begins n s keyed k w
concluding_for_begins None true n error s keyed k w = gone_begins n s keyed k w
concluding_for_begins None false n error s keyed k w = w

concluding_begins : (o : Option EndpointState) (n : ℕ) (error : Option Error) (s : State) → AreKeyed s → (s.waiting ≡ Some (Begin n) → ⊥) → Begins' s → Begins' (concluding o n error s)
concluding_begins None n error s keyed k w = w
concluding_begins (Some e) n error s keyed k w = concluding_for_begins e.ending e.is_left n error s keyed k w

changed_begins : (c : Change) (n remote : ℕ) (error : Option Error) (t : State) → AreKeyed t → (quiet c ≡ true → Begins' t) → (c ≡ Answered → t.waiting ≡ Some (Begin n) → ⊥) → Begins' (changed c n remote error t)
changed_begins Same n remote error t keyed w k = w refl
changed_begins Begun n remote error t keyed w k = none_begins (joined n remote t) refl
changed_begins Refused n remote error t keyed w k = none_begins (changed Refused n remote error t) refl
changed_begins Gone n remote error t keyed w k = freed_begins n remote t (w refl)
changed_begins Answered n remote error t keyed w k =
    let u = freed n remote t in
    let same : u.waiting ≡ t.waiting = freed_waiting _ _ in
    concluding_begins (endpoint_of n t) n error u (subst (λ es. AreKeyed (record t { endpoints = es })) (sym (freed_endpoints _ _)) keyed) (λ h. k refl (sym same ∙ h)) (freed_begins n remote t (w refl))

hears_begins : (o : Option EndpointState) (n : ℕ) (x : Framed) (s : State) → endpoint_of n s ≡ o → AreKeyed s → Begins' s → Begins' (hearing_at o n x s)
hears_begins None n x s at keyed w = w
hears_begins (Some e) n x s at keyed w =
    let f = having_heard x e in
    let u = with_endpoint n f s in
    let t = handed_out n u in
    let same : t.waiting ≡ s.waiting = handing_waiting n (endpoint_of n u) u in
    changed_begins (change_of x e) n x.channel (hearing x e).answer t (handing_keyed n (endpoint_of n u) u (set_keyed n s.endpoints f keyed))
    (λ q. handed_begins n u (set_begins n e f s at (λ h sent. begin_stays x e q sent) w))
    (λ c h. not_answered e.session.state (hearing x e).state.state (stands (endpoint_of n s) e at (w n (sym same ∙ h))) c)

kept_begins : (o : Option (List Framed)) (x : Framed) (s : State) → Begins' s → Begins' (kept_at o x s)
kept_begins None x s w = w
kept_begins (Some xs) x s w = w

heard_begins_by : (o : Option ℕ) (x : Framed) (s : State) → AreKeyed s → Begins' s → Begins' (heard_by o x s)
heard_begins_by None x s keyed w = kept_begins (lookup (nat_eq x.channel) s.early) x s w
heard_begins_by (Some n) x s keyed w = hears_begins (endpoint_of n s) n x s refl keyed w

heard_begins : (x : Framed) (s : State) → AreKeyed s → Begins' s → Begins' (heard x s)
heard_begins x s keyed w = heard_begins_by (place_of x s) x s keyed w

heard_keyed : (x : Framed) (s : State) → AreKeyed s → AreKeyed (heard x s)
heard_keyed x s keyed = (one_session_lives (Hears x) s (heard x s) refl keyed).keyed

all_begins : (xs : List Framed) (s : State) → AreKeyed s → Begins' s → Begins' (heard_all xs s)
all_begins [] s keyed w = w
all_begins (x ∷ xs) s keyed w = all_begins xs (heard x s) (heard_keyed x s keyed) (heard_begins x s keyed w)

early_begins : (o : Option (List Framed)) (remote : ℕ) (s : State) → AreKeyed s → Begins' s → Begins' (heard_early_at o remote s)
early_begins None remote s keyed w = w
early_begins (Some xs) remote s keyed w = all_begins xs _ keyed w

-- ---- calls

left_in_begins : (p : SessionState) (n : ℕ) (s : State) → AreKeyed s → (s.waiting ≡ Some (Begin n) → ⊥) → Begins' s → Begins' (left_in p n s)
left_in_begins state.EndSent n s keyed k w = w
left_in_begins state.BeginSent n s keyed k w = gone_begins n s keyed k w
left_in_begins state.Mapped n s keyed k w = gone_begins n s keyed k w
left_in_begins state.Unmapped n s keyed k w = gone_begins n s keyed k w

left_begins : (o : Option EndpointState) (n : ℕ) (s : State) → AreKeyed s → (s.waiting ≡ Some (Begin n) → ⊥) → Begins' s → Begins' (left_at o n s)
left_begins None n s keyed k w = w
left_begins (Some e) n s keyed k w = left_in_begins e.session.state n s keyed k w

told_begins : (o : Option Error) (name n : ℕ) (s : State) → AreKeyed s → (s.waiting ≡ Some (Begin n) → ⊥) → Begins' s → Begins' (end_told o name n s)
told_begins None name n s keyed k w = w
told_begins (Some refusal) name n s keyed k w = left_begins (endpoint_of n s) n s keyed k w

end_begins : (o : Option EndpointState) (name n : ℕ) (condition : Option (List ℕ)) (s : State) → endpoint_of n s ≡ o → AreKeyed s → (s.waiting ≡ Some (Begin n) → ⊥) → Begins' s → Begins' (end_at o name n condition s)
end_begins None name n condition s at keyed k w = w
end_begins (Some e) name n condition s at keyed k w =
    let f = having_asked name condition e in
    told_begins (asking_end condition e).answer name n (with_endpoint n f s) (set_keyed n s.endpoints f keyed) k (set_begins n e f s at (λ h sent. absurd (k h)) w)

-- ---- frames of links

told_stays : (x : LinkFrame) (p : SessionState) (s : Session) → p ≡ state.BeginSent → s.state ≡ state.BeginSent → (told_in p x s).state.state ≡ state.BeginSent
told_stays x p s e h = subst (λ st. (told_in st x s).state.state ≡ state.BeginSent) (sym e) h

refused_stays : (p : SessionState) (s : Session) → p ≡ state.BeginSent → s.state ≡ state.BeginSent → (attach_refused p s).state.state ≡ state.BeginSent
refused_stays p s e h = subst (λ st. (attach_refused st s).state.state ≡ state.BeginSent) (sym e) h

told_ends : (x : LinkFrame) (p : SessionState) (s : Session) → p ≡ state.EndSent → s.state ≡ state.EndSent → (told_in p x s).state.state ≡ state.EndSent
told_ends x p s e h = subst (λ st. (told_in st x s).state.state ≡ state.EndSent) (sym e) h

refused_ends : (p : SessionState) (s : Session) → p ≡ state.EndSent → s.state ≡ state.EndSent → (attach_refused p s).state.state ≡ state.EndSent
refused_ends p s e h = subst (λ st. (attach_refused st s).state.state ≡ state.EndSent) (sym e) h

written_waits : (o : Option EndpointState) (n : ℕ) (x : LinkFrame) (s : State) → endpoint_of n s ≡ o → AreWaiting s → AreWaiting (written_at o n x s)
written_waits None n x s at w = w
written_waits (Some e) n x s at w =
    let f = having_written x e in
    let u = with_endpoint n f s in
    record {
      begins = handed_begins n u (set_begins n e f s at (λ h sent. told_stays x e.session.state e.session sent sent) w.begins);
      ends = ends.handed_waits n u (each_set WaitsForEnd (nat_eq n) f s.endpoints (by (each_found WaitsForEnd (nat_eq n) e s.endpoints at w.ends)) w.ends);
      held = held.written_tidy (Some e) n x s at w.held;
    }
  where
    by : WaitsForEnd e → WaitsForEnd (having_written x e)
    by (inl none) = inl none
    by (inr sent) = inr (told_ends x e.session.state e.session sent sent)

refusing_waits : (o : Option EndpointState) (n : ℕ) (s : State) → endpoint_of n s ≡ o → AreWaiting s → AreWaiting (refusing_at o n s)
refusing_waits None n s at w = w
refusing_waits (Some e) n s at w =
    let f = having_refused e in
    let u = with_endpoint n f s in
    record {
      begins = handed_begins n u (set_begins n e f s at (λ h sent. refused_stays e.session.state e.session sent sent) w.begins);
      ends = ends.handed_waits n u (each_set WaitsForEnd (nat_eq n) f s.endpoints (by (each_found WaitsForEnd (nat_eq n) e s.endpoints at w.ends)) w.ends);
      held = held.refusing_tidy (Some e) n s at w.held;
    }
  where
    by : WaitsForEnd e → WaitsForEnd (having_refused e)
    by (inl none) = inl none
    by (inr sent) = inr (refused_ends e.session.state e.session sent sent)

-- ---- all deeds

begun_begins : (name : ℕ) (x : SessionNumbers) (channel limit : ℕ) (s : State) → Begins' (begun name x channel limit s)
begun_begins name x channel limit s = λ other h.
    subst (λ m. BeginWaits (endpoint_of m (begun name x channel limit s))) (one_of name other h)
    (subst BeginWaits (sym (insert_here name (idle (session.begun (settings x limit) channel)) s.endpoints)) refl)
  where
    one_of : (m n : ℕ) → Some (Begin m) ≡ Some (Begin n) → m ≡ n
    one_of m n e = cc

awaiting_begins : (name : ℕ) (x : SessionNumbers) (s : State) → Begins' (awaiting name x s)
awaiting_begins name x s = λ other h. absurd cc

accepted_begins : (name : ℕ) (x : SessionNumbers) (channel limit : ℕ) (incoming : IncomingSession) (s : State) → AreKeyed s → Begins' (accepted name x channel limit incoming s)
accepted_begins name x channel limit incoming s keyed =
    let a = session.accepted (settings x limit) channel incoming in
    let t = joined name incoming.channel (entered name channel a s) in
    early_begins (lookup (nat_eq incoming.channel) t.early) incoming.channel t (insert_keyed name (idle a) s.endpoints keyed) (none_begins t refl)

is_so : (t new : State) → AreWaiting t → new ≡ t → AreWaiting new
is_so t new w e = subst AreWaiting (sym e) w

deed_waits : (d : Deed) (old new : State) → IsDeed old d new → IsOrderly d old → AreKeyed old → AreWaiting old → AreWaiting new
deed_waits (Begins name x channel limit) old new h may keyed w = is_so (begun name x channel limit old) new (record { begins = begun_begins name x channel limit old; ends = ends.begun_waits name x channel limit old w.ends; held = held.all_begun_tidy name x channel limit old w.held }) h
deed_waits (Awaits name x) old new h may keyed w = is_so (awaiting name x old) new (record { begins = awaiting_begins name x old; ends = ends.awaiting_waits name x old w.ends; held = w.held }) h
deed_waits (Accepts name x channel limit incoming) old new h may keyed w =
    is_so (accepted name x channel limit incoming old) new (record { begins = accepted_begins name x channel limit incoming old keyed; ends = ends.accepted_waits name x channel limit incoming old w.ends; held = held.all_accepted_tidy name x channel limit incoming old w.held }) h
deed_waits (Refuses name error) old new h may keyed w = is_so (refused name error old) new (record { begins = none_begins (refused name error old) refl; ends = ends.refused_waits name error old w.ends; held = w.held }) h
deed_waits (Ends name n condition) old new h may keyed w =
    is_so (ended name n condition old) new (record { begins = end_begins (endpoint_of n old) name n condition old refl keyed may w.begins; ends = ends.ended_waits name n condition old w.ends; held = held.all_ended_tidy name n condition old w.held }) h
deed_waits (HandsOut name) old new h may keyed w = is_so (handed_out name old) new (record { begins = handed_begins name old w.begins; ends = ends.handed_waits name old w.ends; held = held.handed_tidy name old w.held }) h
deed_waits (Halts why) old new h may keyed w = absurd may
deed_waits (Concludes why) old new h may keyed w = absurd may
deed_waits (Hears x) old new h may keyed w = is_so (heard x old) new (record { begins = heard_begins x old keyed w.begins; ends = ends.heard_waits x old w.ends; held = held.all_heard_tidy x old w.held }) h
deed_waits (Writes x) old new h may keyed w = is_so (record old { output = new.output }) new (record { begins = w.begins; ends = w.ends; held = w.held }) h.1
deed_waits (Frees channel) old new h may keyed w = is_so (record old { freed = new.freed }) new (record { begins = w.begins; ends = w.ends; held = w.held }) h.1
deed_waits (Gives n x) old new h may keyed w = is_so (record old { incoming = new.incoming }) new (record { begins = w.begins; ends = w.ends; held = w.held }) h.1
deed_waits (Takes n x) old new h may keyed w = is_so (written n x old) new (written_waits (endpoint_of n old) n x old refl w) h
deed_waits (Lacks n) old new h may keyed w = is_so (refusing n old) new (refusing_waits (endpoint_of n old) n old refl w) h
deed_waits Tells old new h may keyed w = is_so (record old { replies = [] }) new (record { begins = w.begins; ends = w.ends; held = w.held }) h

pub all_wait_on : AllWaitOn
all_wait_on [] old new did may keyed w = subst AreWaiting (sym did) w
all_wait_on (d ∷ ds) old new did may keyed w =
    all_wait_on ds did.0 new did.1.1 may.1 (one_session_lives d old did.0 did.1.0 keyed).keyed (deed_waits d old did.0 did.1.0 may.0 keyed w)

pub none_waits : NoneWaits
none_waits = record { begins = λ name h. absurd cc; ends = ends.none_waits; held = λ k d within. absurd (omega (arith, within)) }
