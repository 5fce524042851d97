-- What was heard, frame by frame.
use Rattle.std.proofs.Common.{◌≡◌, inl, inr, ℕ, Bool, true, false, List, [], ◌∷◌, ◌++◌, Option, Some, None, if◌then◌else◌, refl, sym, ap, ◌∙◌, subst}
use Rattle.std.specs.Prelude.{nat_lt, slice_index_or, IsSome}
use Rattle.amqp_composites.specs.declared.error.Error.{Error as AmqpError}
use Rattle.amqp_transport.specs.amqp_frames.declared.body.FrameBody.{FrameBody}
use Rattle.amqp_transport.specs.amqp_frames.declared.body.FrameBody.TheVariants as b
use Rattle.amqp_transport.specs.amqp_frames.declared.shared.ConnectionStopReason.{ConnectionStopReason}
use Rattle.amqp_transport.specs.amqp_frames.Session.{of_session}
use Rattle.amqp_transport.specs.amqp_performatives.declared.begin.Begin.{Begin}
use Rattle.amqp_transport.specs.declared.frames.Frame.{Frame}
use Rattle.amqp_engine.specs.declared.phase.BodyKind.{BodyKind}
use Rattle.amqp_engine.specs.declared.phase.BodyKind.TheVariants as kind
use Rattle.amqp_engine.specs.declared.phase.Phase.{Phase}
use Rattle.amqp_engine.specs.declared.phase.Phase.TheVariants as p
use Rattle.amqp_engine.specs.declared.phase.Rejection.TheVariants as rejection
use Rattle.amqp_engine.specs.declared.sessions.Plan.{Plan}
use Rattle.amqp_engine.specs.declared.sessions.Plan.TheVariants as plan
use Rattle.amqp_engine.specs.Channels.{Channels, is_among}
use Rattle.amqp_engine.specs.Limits.{is_beyond}
use Rattle.amqp_engine.specs.Phases.{kind_of, IsInner, IsClose}
use Rattle.amqp_engine.specs.Plans.{answer_plan, begin_plan, known_plan, beyond_plan, within_plan}
use Rattle.amqp_engine.specs.State.{State, own_reason, answered_reason, failed_reason, close_phase}
use Rattle.amqp_engine.specs.Machine.{received, awaited, arrived, outlasted, phase_after, plan_of}
use Rattle.amqp_engine.specs.Heard.{IsHeard, IsGreeted, IsRejected, IsRejectedFor, IsStray, IsStrayFor, AllUnclosed}

-- a frame of that body
abbrev framed : ℕ → FrameBody → Frame
framed channel body = record { channel = channel; body = body }

-- a frame is read in these phases
abbrev pub IsListening : Phase → Type 0
IsListening p.OpenSent = Unit {0}
IsListening p.Opened = Unit {0}
IsListening p.CloseReceived = ⊥
IsListening p.Refused = ⊥
IsListening (p.Rejected why) = ⊥
IsListening p.CloseSent = Unit {0}
IsListening p.Discarding = Unit {0}
IsListening p.Ended = ⊥
IsListening p.Failed = ⊥

stray_unclosed : (k : BodyKind) → IsStray k → IsClose k → ⊥
stray_unclosed kind.Session i c = c
stray_unclosed kind.Empty i c = c
stray_unclosed kind.Open i c = c
stray_unclosed kind.Close i c = i

unclosed_push : (xs : List Frame) (x : Frame) → AllUnclosed xs → (IsClose (kind_of x.body) → ⊥) → AllUnclosed (xs ++ x ∷ [])
unclosed_push [] x a n = (n, tt)
unclosed_push (y ∷ xs) x a n = (a.0, unclosed_push xs x a.1 n)

greeted_push : (xs : List Frame) (x : Frame) → (IsClose (kind_of x.body) → ⊥) → IsGreeted xs → IsGreeted (xs ++ x ∷ [])
greeted_push xs x n g = record { channel = g.channel; first = g.first; more = g.more ++ x ∷ []; each = unclosed_push g.more x g.each n; is = ap (λ (u : List Frame). u ++ x ∷ []) g.is }

-- a frame whose body is no Close
greeted_by : (xs : List Frame) (x : Frame) (body : FrameBody) → x.body ≡ body → (IsClose (kind_of body) → ⊥) → IsGreeted xs → IsGreeted (xs ++ x ∷ [])
greeted_by xs x body e n g = greeted_push xs x (λ c. n (subst (λ (z : FrameBody). IsClose (kind_of z)) e c)) g

-- a refused frame is no Close
pub rejected_greeted : (given : List Frame) → IsRejected given → IsGreeted given
rejected_greeted given r = subst (λ (xs : List Frame). IsGreeted xs) (sym r.is) (greeted_push r.front r.last (stray_unclosed (kind_of r.last.body) r.stray) r.before)

abbrev rejected_by : (xs : List Frame) (x : Frame) (body : FrameBody) → x.body ≡ body → IsStray (kind_of body) → IsGreeted xs → IsRejected (xs ++ x ∷ [])
rejected_by xs x body e i g = record { front = xs; last = x; before = g; stray = subst (λ (z : FrameBody). IsStray (kind_of z)) (sym e) i; is = refl }

-- the frame of that body, last
last_is : (xs : List Frame) (x : Frame) (body : FrameBody) → x.body ≡ body → xs ++ x ∷ [] ≡ xs ++ framed x.channel body ∷ []
last_is xs x body e = ap (λ (z : FrameBody). xs ++ framed x.channel z ∷ []) e

alone : (xs : List Frame) (x : Frame) → xs ≡ [] → xs ++ x ∷ [] ≡ x ∷ []
alone xs x e = ap (λ (u : List Frame). u ++ x ∷ []) e

mistaken : (reason : ConnectionStopReason) (xs : List Frame) (x : Frame) (body : FrameBody) → x.body ≡ body → IsInner (kind_of body) → IsHeard p.OpenSent reason xs → IsHeard p.Refused reason (xs ++ x ∷ [])
mistaken reason xs x body e i h = record { first = x; other = subst (λ (z : FrameBody). IsInner (kind_of z)) (sym e) i; is = alone xs x h.0; told = h.1 }

heard_awaited : {L : Type 0} (at : ℕ) (s : State L) (xs : List Frame) (x : Frame) (body : FrameBody) → x.body ≡ body → IsHeard p.OpenSent s.reason xs → IsHeard (awaited at s body).phase (awaited at s body).reason (xs ++ x ∷ [])
heard_awaited at s xs x (b.Open y) e h =
    (record { channel = x.channel; first = y; more = []; each = tt; is = alone xs x h.0 ∙ ap (λ (z : FrameBody). framed x.channel z ∷ []) e }, h.1)
heard_awaited at s xs x (b.Close y) e h = record { front = xs; channel = x.channel; last = y; before = inl h.0; is = last_is xs x (b.Close y) e; told = refl }
heard_awaited at s xs x b.Empty e h = mistaken s.reason xs x b.Empty e tt h
heard_awaited at s xs x (b.Begin y) e h = mistaken s.reason xs x (b.Begin y) e tt h
heard_awaited at s xs x (b.Attach y) e h = mistaken s.reason xs x (b.Attach y) e tt h
heard_awaited at s xs x (b.Flow y) e h = mistaken s.reason xs x (b.Flow y) e tt h
heard_awaited at s xs x (b.Transfer y z) e h = mistaken s.reason xs x (b.Transfer y z) e tt h
heard_awaited at s xs x (b.Disposition y) e h = mistaken s.reason xs x (b.Disposition y) e tt h
heard_awaited at s xs x (b.Detach y) e h = mistaken s.reason xs x (b.Detach y) e tt h
heard_awaited at s xs x (b.End y) e h = mistaken s.reason xs x (b.End y) e tt h

-- where a frame is refused, it may be for that reason
abbrev Fits : Plan → FrameBody → Type 0
Fits (plan.Reject w) body = IsStrayFor w body
Fits q body = Unit {0}

fits_answer : (a z : Bool) (y : Begin) (n : ℕ) → y.remote_channel ≡ Some n → Fits (answer_plan a z) (b.Begin y)
fits_answer false z y n e = subst (λ (m : Option ℕ). IsSome m) (sym e) refl
fits_answer true true y n e = tt
fits_answer true false y n e = tt

fits_begin : (k l : Bool) (c : Channels) (y : Begin) (m : Option ℕ) → y.remote_channel ≡ m → Fits (begin_plan k l c m) (b.Begin y)
fits_begin true l c y m e = tt
fits_begin false l c y (Some n) e = fits_answer (slice_index_or c.seats n false) (is_among n c.answered) y n e
fits_begin false true c y None e = tt
fits_begin false false c y None e = e

-- another frame, on a channel that is begun or not
fits_there : (k : Bool) (q : Plan) (body : FrameBody) → Fits q body → IsStrayFor rejection.NotFound body → Fits (if k then q else plan.Reject rejection.NotFound) body
fits_there true q body f n = f
fits_there false q body f n = n

fits_known : (k l : Bool) (c : Channels) (body : FrameBody) → of_session body ≡ true → Fits (known_plan k l c body) body
fits_known k l c (b.Begin y) t = fits_begin k l c y y.remote_channel refl
fits_known k l c (b.End y) t = fits_there k plan.End (b.End y) tt refl
fits_known k l c (b.Attach y) t = fits_there k plan.Deliver (b.Attach y) tt refl
fits_known k l c (b.Flow y) t = fits_there k plan.Deliver (b.Flow y) tt refl
fits_known k l c (b.Transfer y z) t = fits_there k plan.Deliver (b.Transfer y z) tt refl
fits_known k l c (b.Disposition y) t = fits_there k plan.Deliver (b.Disposition y) tt refl
fits_known k l c (b.Detach y) t = fits_there k plan.Deliver (b.Detach y) tt refl
fits_known k l c (b.Open y) t = absurd (cc t)
fits_known k l c (b.Close y) t = absurd (cc t)
fits_known k l c b.Empty t = absurd (cc t)

fits_beyond : (u : Bool) (q : Plan) (body : FrameBody) → of_session body ≡ true → Fits q body → Fits (beyond_plan u q) body
fits_beyond true plan.Deliver body t f = t
fits_beyond true plan.Answer body t f = f
fits_beyond true plan.End body t f = f
fits_beyond true plan.Ask body t f = f
fits_beyond true (plan.Reject why) body t f = f
fits_beyond false q body t f = f

fits_within : (u : Bool) (q : Plan) (body : FrameBody) → of_session body ≡ true → Fits q body → Fits (within_plan u q) body
fits_within true q body t f = t
fits_within false q body t f = f

fits_plan : {L : Type 0} (s : State L) (x : Frame) → of_session x.body ≡ true → Fits (plan_of s x) x.body
fits_plan s x t =
    let k : Bool = is_among x.channel s.channels.remotes in
    let u : Bool = is_beyond s.channels.limits x.channel x.body in
    fits_within (nat_lt s.settings.channel_max x.channel) (beyond_plan u (known_plan k s.settings.is_listener s.channels x.body)) x.body t
    (fits_beyond u (known_plan k s.settings.is_listener s.channels x.body) x.body t (fits_known k s.settings.is_listener s.channels x.body t))

heard_planned : (q : Plan) (phase : Phase) (reason : ConnectionStopReason) (xs : List Frame) (r : IsRejected xs) → phase ≡ p.Opened → Fits q r.last.body → IsHeard p.Opened reason xs → IsHeard (phase_after q phase) reason xs
heard_planned (plan.Reject w) phase reason xs r e f h = (record { it = r; fits = f }, h.1)
heard_planned plan.Deliver phase reason xs r e f h = subst (λ (q : Phase). IsHeard q reason xs) (sym e) h
heard_planned plan.Answer phase reason xs r e f h = subst (λ (q : Phase). IsHeard q reason xs) (sym e) h
heard_planned plan.End phase reason xs r e f h = subst (λ (q : Phase). IsHeard q reason xs) (sym e) h
heard_planned plan.Ask phase reason xs r e f h = subst (λ (q : Phase). IsHeard q reason xs) (sym e) h

heard_session : {L : Type 0} (s : State L) (xs : List Frame) (x : Frame) (body : FrameBody) → x.body ≡ body → IsStray (kind_of body) → of_session body ≡ true → s.phase ≡ p.Opened → IsHeard p.Opened s.reason xs → IsHeard (phase_after (plan_of s x) s.phase) s.reason (xs ++ x ∷ [])
heard_session s xs x body e i t o h = heard_planned (plan_of s x) s.phase s.reason (xs ++ x ∷ []) (rejected_by xs x body e i h.0) o (fits_plan s x (ap of_session e ∙ t)) (greeted_by xs x body e (stray_unclosed (kind_of body) i) h.0, h.1)

heard_arrived : {L : Type 0} (s : State L) (xs : List Frame) (x : Frame) (body : FrameBody) → x.body ≡ body → s.phase ≡ p.Opened → IsHeard p.Opened s.reason xs → IsHeard (arrived s x body).phase (arrived s x body).reason (xs ++ x ∷ [])
heard_arrived s xs x (b.Open y) e o h =
    (record { it = rejected_by xs x (b.Open y) e tt h.0; fits = subst (λ (z : FrameBody). IsStrayFor rejection.IllegalState z) (sym e) tt }, h.1)
heard_arrived s xs x (b.Close y) e o h = record { front = xs; channel = x.channel; last = y; before = inr h.0; is = last_is xs x (b.Close y) e; told = refl }
heard_arrived s xs x b.Empty e o h = subst (λ (q : Phase). IsHeard q s.reason (xs ++ x ∷ [])) (sym o) (greeted_by xs x b.Empty e (λ c. c) h.0, h.1)
heard_arrived s xs x (b.Begin y) e o h = heard_session s xs x (b.Begin y) e tt refl o h
heard_arrived s xs x (b.Attach y) e o h = heard_session s xs x (b.Attach y) e tt refl o h
heard_arrived s xs x (b.Flow y) e o h = heard_session s xs x (b.Flow y) e tt refl o h
heard_arrived s xs x (b.Transfer y z) e o h = heard_session s xs x (b.Transfer y z) e tt refl o h
heard_arrived s xs x (b.Disposition y) e o h = heard_session s xs x (b.Disposition y) e tt refl o h
heard_arrived s xs x (b.Detach y) e o h = heard_session s xs x (b.Detach y) e tt refl o h
heard_arrived s xs x (b.End y) e o h = heard_session s xs x (b.End y) e tt refl o h

-- an end that has closed for that reason
record HasParted {L : Type 0} (s : State L) (xs : List Frame) : Type 0 where
  pub own : Option AmqpError
  pub greeted : IsGreeted xs
  pub reason : s.reason ≡ own_reason own
  pub back : (ys : List Frame) → IsGreeted ys → IsHeard s.phase s.reason ys

heard_outlasted : {L : Type 0} (s : State L) (xs : List Frame) (x : Frame) (body : FrameBody) → x.body ≡ body → HasParted s xs → IsHeard (outlasted s body).phase (outlasted s body).reason (xs ++ x ∷ [])
heard_outlasted s xs x (b.Close y) e h =
    inr (inr (record { front = xs; channel = x.channel; last = y; own = h.own; before = h.greeted; is = last_is xs x (b.Close y) e; told = ap (λ (r : ConnectionStopReason). answered_reason r y.error) h.reason }))
heard_outlasted s xs x (b.Open y) e h = h.back (xs ++ x ∷ []) (greeted_by xs x (b.Open y) e (λ c. c) h.greeted)
heard_outlasted s xs x b.Empty e h = h.back (xs ++ x ∷ []) (greeted_by xs x b.Empty e (λ c. c) h.greeted)
heard_outlasted s xs x (b.Begin y) e h = h.back (xs ++ x ∷ []) (greeted_by xs x (b.Begin y) e (λ c. c) h.greeted)
heard_outlasted s xs x (b.Attach y) e h = h.back (xs ++ x ∷ []) (greeted_by xs x (b.Attach y) e (λ c. c) h.greeted)
heard_outlasted s xs x (b.Flow y) e h = h.back (xs ++ x ∷ []) (greeted_by xs x (b.Flow y) e (λ c. c) h.greeted)
heard_outlasted s xs x (b.Transfer y z) e h = h.back (xs ++ x ∷ []) (greeted_by xs x (b.Transfer y z) e (λ c. c) h.greeted)
heard_outlasted s xs x (b.Disposition y) e h = h.back (xs ++ x ∷ []) (greeted_by xs x (b.Disposition y) e (λ c. c) h.greeted)
heard_outlasted s xs x (b.Detach y) e h = h.back (xs ++ x ∷ []) (greeted_by xs x (b.Detach y) e (λ c. c) h.greeted)
heard_outlasted s xs x (b.End y) e h = h.back (xs ++ x ∷ []) (greeted_by xs x (b.End y) e (λ c. c) h.greeted)

parted_sent : {L : Type 0} (s : State L) (xs : List Frame) → s.phase ≡ p.CloseSent → IsHeard p.CloseSent s.reason xs → HasParted s xs
parted_sent s xs e h = record { own = None; greeted = h.0; reason = h.1; back = λ ys g. subst (λ (q : Phase). IsHeard q s.reason ys) (sym e) (g, h.1) }

parted_discarding : {L : Type 0} (s : State L) (xs : List Frame) → s.phase ≡ p.Discarding → IsHeard p.Discarding s.reason xs → HasParted s xs
parted_discarding s xs e h = record { own = Some h.1; greeted = h.0; reason = h.2; back = λ ys g. subst (λ (q : Phase). IsHeard q s.reason ys) (sym e) (g, h.1, h.2) }

-- a frame was read
pub heard_received : {L : Type 0} (q : Phase) (at : ℕ) (s : State L) (xs : List Frame) (x : Frame) → s.phase ≡ q → IsListening q → IsHeard q s.reason xs → IsHeard (received q at s x).phase (received q at s x).reason (xs ++ x ∷ [])
heard_received p.OpenSent at s xs x e l h = heard_awaited at s xs x x.body refl h
heard_received p.Opened at s xs x e l h = heard_arrived s xs x x.body refl e h
heard_received p.CloseSent at s xs x e l h = heard_outlasted s xs x x.body refl (parted_sent s xs e h)
heard_received p.Discarding at s xs x e l h = heard_outlasted s xs x x.body refl (parted_discarding s xs e h)
heard_received p.CloseReceived at s xs x e l h = absurd l
heard_received p.Refused at s xs x e l h = absurd l
heard_received (p.Rejected w) at s xs x e l h = absurd l
heard_received p.Ended at s xs x e l h = absurd l
heard_received p.Failed at s xs x e l h = absurd l

-- the engine failed
pub heard_failed : (q : Phase) (reason : ConnectionStopReason) (xs : List Frame) → IsHeard q reason xs → IsHeard p.Failed (failed_reason q reason) xs
heard_failed p.OpenSent reason xs h = inl refl
heard_failed p.Opened reason xs h = inl refl
heard_failed p.CloseReceived reason xs h = inl refl
heard_failed p.Refused reason xs h = inl refl
heard_failed (p.Rejected w) reason xs h = inl refl
heard_failed p.CloseSent reason xs h = inl refl
heard_failed p.Discarding reason xs h = inl refl
heard_failed p.Ended reason xs h = inr h
heard_failed p.Failed reason xs h = h

-- this end closed
pub heard_closing : (y : Option AmqpError) (xs : List Frame) → IsGreeted xs → IsHeard (close_phase y) (own_reason y) xs
heard_closing None xs g = (g, refl)
heard_closing (Some e) xs g = (g, e, refl)
