-- A Begin of this end is answered once, and no frame is taken in above the highest channel or handle.
use Rattle.std.proofs.Common.{◌≡◌, ◌<◌, ◌≤◌, ◌⊎◌, inl, inr, ℕ, List, [], ◌∷◌, ◌++◌, Bool, true, false, Option, Some, None, if◌then◌else◌, ◌||◌, refl, sym, ap, ◌∙◌, subst}
use Rattle.std.specs.Prelude.{nat_eq, nat_lt, slice_index_or}
use Rattle.std.specs.Map.{lookup}
use Rattle.std.proofs.lemmas.Bool.{ltb-false, lt-ltb, le-ltb}
use Rattle.std.proofs.lemmas.Cmp.{nat_eq_equiv}
use Rattle.std.proofs.lemmas.List.Folds.{list_any-append}
use Rattle.amqp_transport.specs.amqp_frames.declared.body.FrameBody.{FrameBody}
use Rattle.amqp_transport.specs.amqp_frames.declared.body.FrameBody.TheVariants as b
use Rattle.amqp_transport.specs.amqp_frames.Session.{of_session}
use Rattle.amqp_transport.specs.declared.frames.Frame.{Frame}
use Rattle.amqp_engine.specs.declared.phase.Phase.TheVariants as p
use Rattle.amqp_engine.specs.declared.phase.Rejection.{Rejection}
use Rattle.amqp_engine.specs.declared.phase.Rejection.TheVariants as rejection
use Rattle.amqp_engine.specs.declared.sessions.Plan.{Plan}
use Rattle.amqp_engine.specs.declared.sessions.Plan.TheVariants as plan
use Rattle.amqp_engine.specs.Channels.{Channels, is_among, with_channel, with_named, named_in, taken_in}
use Rattle.amqp_engine.specs.Limits.{handle_of, is_above, is_beyond}
use Rattle.amqp_engine.specs.Machine.{plan_of, phase_after}
use Rattle.amqp_engine.specs.Outcomes.{channels_by, IsAdmitted, IsHanded}
use Rattle.amqp_engine.specs.Phases.{is_open}
use Rattle.amqp_engine.specs.Plans.{answer_plan, begin_plan, known_plan, beyond_plan, within_plan}
use Rattle.amqp_engine.specs.State.{State}

-- ---- what is among the channels

pushed : (k : ℕ) (ks : List ℕ) → is_among k ks ≡ false → is_among k (ks ++ k ∷ []) ≡ true
pushed k ks e =
    list_any-append (nat_eq k) ks (k ∷ []) ∙ ap (λ (c : Bool). c || (nat_eq k k || false)) e ∙ ap (λ (c : Bool). c || false) (nat_eq_equiv.refl k)

-- a channel that was added is one of them
added : (k : ℕ) (ks : List ℕ) → is_among k (with_channel k ks) ≡ true
added k ks = by (is_among k ks) refl
  where
    by : (c : Bool) → is_among k ks ≡ c → is_among k (with_channel k ks) ≡ true
    by true e = ap (λ (c : Bool). is_among k (if c then ks else ks ++ k ∷ [])) e ∙ e
    by false e = ap (λ (c : Bool). is_among k (if c then ks else ks ++ k ∷ [])) e ∙ pushed k ks e

-- and the others stay
kept : (k j : ℕ) (ks : List ℕ) → is_among k ks ≡ true → is_among k (with_channel j ks) ≡ true
kept k j ks e = by (is_among j ks)
  where
    by : (c : Bool) → is_among k (if c then ks else ks ++ j ∷ []) ≡ true
    by true = e
    by false = list_any-append (nat_eq k) ks (j ∷ []) ∙ ap (λ (c : Bool). c || (nat_eq k j || false)) e

named_kept : (k : ℕ) (n : Option ℕ) (ks : List ℕ) → is_among k ks ≡ true → is_among k (with_named n ks) ≡ true
named_kept k None ks e = e
named_kept k (Some j) ks e = kept k j ks e

taken_kept : (k : ℕ) (q : Plan) (c : Channels) (x : Frame) → is_among k c.answered ≡ true → is_among k (taken_in q c x).answered ≡ true
taken_kept k plan.Deliver c x e = e
taken_kept k plan.Answer c x e = named_kept k (named_in x.body) c.answered e
taken_kept k plan.End c x e = e
taken_kept k plan.Ask c x e = e
taken_kept k (plan.Reject why) c x e = e

by_kept : (k : ℕ) (o t : Bool) (q : Plan) (c : Channels) (x : Frame) → is_among k c.answered ≡ true → is_among k (channels_by o t q c x).answered ≡ true
by_kept k true true q c x e = taken_kept k q c x e
by_kept k true false q c x e = e
by_kept k false t q c x e = e

pub stays : {L : Type 0} (old new : State L) (given : List Frame) (k : ℕ) → IsHanded old given new → is_among k old.channels.answered ≡ true → is_among k new.channels.answered ≡ true
stays old new [] k h e = ap (λ (c : Channels). is_among k c.answered) h ∙ e
stays old new (x ∷ []) k h e =
    ap (λ (c : Channels). is_among k c.answered) h.channels ∙ by_kept k (is_open old.phase) (of_session x.body) (plan_of old x) old.channels x e
stays old new (x ∷ y ∷ xs) k h e = absurd h

-- ---- what becomes of a Begin that names a channel

-- it is refused, or it is an answer, and the first
abbrev IsFirstOr : Plan → Bool → Type 0
IsFirstOr q z = ((why : Rejection) × (q ≡ plan.Reject why)) ⊎ ((q ≡ plan.Answer) × (z ≡ false))

first_answer : (a z : Bool) → IsFirstOr (answer_plan a z) z
first_answer false z = inl (rejection.NotFound, refl)
first_answer true true = inl (rejection.IllegalState, refl)
first_answer true false = inr (refl, refl)

first_begin : (k l : Bool) (c : Channels) (n : ℕ) → IsFirstOr (begin_plan k l c (Some n)) (is_among n c.answered)
first_begin true l c n = inl (rejection.IllegalState, refl)
first_begin false l c n = first_answer (slice_index_or c.seats n false) (is_among n c.answered)

first_beyond : (u : Bool) (q : Plan) (z : Bool) → IsFirstOr q z → IsFirstOr (beyond_plan u q) z
first_beyond true plan.Deliver z f = inl (rejection.FramingError, refl)
first_beyond true plan.Answer z f = f
first_beyond true plan.End z f = f
first_beyond true plan.Ask z f = f
first_beyond true (plan.Reject why) z f = f
first_beyond false q z f = f

first_within : (u : Bool) (q : Plan) (z : Bool) → IsFirstOr q z → IsFirstOr (within_plan u q) z
first_within true q z f = inl (rejection.FramingError, refl)
first_within false q z f = f

named_plan : (k l : Bool) (c : Channels) (body : FrameBody) (n : ℕ) → named_in body ≡ Some n → known_plan k l c body ≡ begin_plan k l c (Some n)
named_plan k l c (b.Begin y) n e = ap (λ (m : Option ℕ). begin_plan k l c m) e
named_plan k l c (b.Open y) n e = absurd (cc e)
named_plan k l c (b.Close y) n e = absurd (cc e)
named_plan k l c b.Empty n e = absurd (cc e)
named_plan k l c (b.Attach y) n e = absurd (cc e)
named_plan k l c (b.Flow y) n e = absurd (cc e)
named_plan k l c (b.Transfer y z) n e = absurd (cc e)
named_plan k l c (b.Disposition y) n e = absurd (cc e)
named_plan k l c (b.Detach y) n e = absurd (cc e)
named_plan k l c (b.End y) n e = absurd (cc e)

named_session : (body : FrameBody) (n : ℕ) → named_in body ≡ Some n → of_session body ≡ true
named_session (b.Begin y) n e = refl
named_session (b.Open y) n e = absurd (cc e)
named_session (b.Close y) n e = absurd (cc e)
named_session b.Empty n e = absurd (cc e)
named_session (b.Attach y) n e = absurd (cc e)
named_session (b.Flow y) n e = absurd (cc e)
named_session (b.Transfer y z) n e = absurd (cc e)
named_session (b.Disposition y) n e = absurd (cc e)
named_session (b.Detach y) n e = absurd (cc e)
named_session (b.End y) n e = absurd (cc e)

first_named : {L : Type 0} (s : State L) (x : Frame) (n : ℕ) → named_in x.body ≡ Some n → IsFirstOr (plan_of s x) (is_among n s.channels.answered)
first_named s x n e =
    let k : Bool = is_among x.channel s.channels.remotes in
    let l : Bool = s.settings.is_listener in
    let u : Bool = is_beyond s.channels.limits x.channel x.body in
    first_within (nat_lt s.settings.channel_max x.channel) (beyond_plan u (known_plan k l s.channels x.body)) (is_among n s.channels.answered)
    (first_beyond u (known_plan k l s.channels x.body) (is_among n s.channels.answered)
    (subst (λ (q : Plan). IsFirstOr q (is_among n s.channels.answered)) (sym (named_plan k l s.channels x.body n e)) (first_begin k l s.channels n)))

-- no frame that is refused leaves the connection open
refused_shut : {L : Type 0} (old new : State L) (x : Frame) (why : Rejection) → is_open old.phase ≡ true → of_session x.body ≡ true → IsAdmitted old x new → plan_of old x ≡ plan.Reject why → is_open new.phase ≡ true → ⊥
refused_shut old new x why o t a r z =
    absurd (cc (z, ap is_open (a.phase o t ∙ ap (λ (q : Plan). phase_after q old.phase) r)))

-- the channels where it is taken in
taken_by : {L : Type 0} (old new : State L) (x : Frame) → is_open old.phase ≡ true → of_session x.body ≡ true → IsAdmitted old x new → new.channels ≡ taken_in (plan_of old x) old.channels x
taken_by old new x o t a =
    a.channels ∙ ap (λ (u : Bool). channels_by u (of_session x.body) (plan_of old x) old.channels x) o ∙ ap (λ (u : Bool). channels_by true u (plan_of old x) old.channels x) t

pub first : {L : Type 0} (old new : State L) (x : Frame) (n : ℕ) → is_open old.phase ≡ true → named_in x.body ≡ Some n → IsHanded old (x ∷ []) new → is_open new.phase ≡ true → (is_among n old.channels.answered ≡ false) × (is_among n new.channels.answered ≡ true)
first old new x n o e a z =
    let t : of_session x.body ≡ true = named_session x.body n e in
    elim (first_named old x n e) [
      | inl r ↦ absurd (refused_shut old new x r.0 o t a r.1 z)
      | inr r ↦ (
        r.1,
        ap (λ (c : Channels). is_among n c.answered) (taken_by old new x o t a ∙ ap (λ (q : Plan). taken_in q old.channels x) r.0)
            ∙ ap (λ (m : Option ℕ). is_among n (with_named m old.channels.answered)) e
            ∙ added n old.channels.answered,
      )
    ]

-- ---- the highest channel

above_refused : (u : Bool) (q : Plan) → u ≡ true → within_plan u q ≡ plan.Reject rejection.FramingError
above_refused true q e = refl
above_refused false q e = absurd (cc e)

pub within : {L : Type 0} (old new : State L) (x : Frame) → is_open old.phase ≡ true → of_session x.body ≡ true → IsHanded old (x ∷ []) new → is_open new.phase ≡ true → x.channel ≤ old.settings.channel_max
within old new x o t a z = by (nat_lt old.settings.channel_max x.channel) refl
  where
    q : Plan
    q =
        beyond_plan (is_beyond old.channels.limits x.channel x.body)
        (known_plan (is_among x.channel old.channels.remotes) old.settings.is_listener old.channels x.body)

    by : (u : Bool) → nat_lt old.settings.channel_max x.channel ≡ u → x.channel ≤ old.settings.channel_max
    by true e = absurd (refused_shut old new x rejection.FramingError o t a (above_refused (nat_lt old.settings.channel_max x.channel) q e) z)
    by false e = ltb-false old.settings.channel_max x.channel e

-- ---- the highest handle

handle_session : (body : FrameBody) (n : ℕ) → handle_of body ≡ Some n → of_session body ≡ true
handle_session (b.Attach y) n e = refl
handle_session (b.Flow y) n e = refl
handle_session (b.Transfer y z) n e = refl
handle_session (b.Detach y) n e = refl
handle_session (b.Open y) n e = absurd (cc e)
handle_session (b.Close y) n e = absurd (cc e)
handle_session b.Empty n e = absurd (cc e)
handle_session (b.Begin y) n e = absurd (cc e)
handle_session (b.Disposition y) n e = absurd (cc e)
handle_session (b.End y) n e = absurd (cc e)

-- what names a handle is delivered, where its channel is known
handle_plan : (k l : Bool) (c : Channels) (body : FrameBody) (n : ℕ) → handle_of body ≡ Some n → known_plan k l c body ≡ (if k then plan.Deliver else plan.Reject rejection.NotFound)
handle_plan k l c (b.Attach y) n e = refl
handle_plan k l c (b.Flow y) n e = refl
handle_plan k l c (b.Transfer y z) n e = refl
handle_plan k l c (b.Detach y) n e = refl
handle_plan k l c (b.Open y) n e = absurd (cc e)
handle_plan k l c (b.Close y) n e = absurd (cc e)
handle_plan k l c b.Empty n e = absurd (cc e)
handle_plan k l c (b.Begin y) n e = absurd (cc e)
handle_plan k l c (b.Disposition y) n e = absurd (cc e)
handle_plan k l c (b.End y) n e = absurd (cc e)

-- where a handle is above the highest, the frame is refused, and for that reason where nothing else is wrong
beyond_refused : (u k : Bool) → (why : Rejection) × (within_plan u (beyond_plan true (if k then plan.Deliver else plan.Reject rejection.NotFound)) ≡ plan.Reject why)
beyond_refused true k = (rejection.FramingError, refl)
beyond_refused false true = (rejection.FramingError, refl)
beyond_refused false false = (rejection.NotFound, refl)

beyond_is : {L : Type 0} (s : State L) (x : Frame) (highest handle : ℕ) → lookup (nat_eq x.channel) s.channels.limits.highest ≡ Some highest → handle_of x.body ≡ Some handle → is_beyond s.channels.limits x.channel x.body ≡ nat_lt highest handle
beyond_is s x highest handle l e = ap (λ (h : Option ℕ). is_above h (handle_of x.body)) l ∙ ap (λ (h : Option ℕ). is_above (Some highest) h) e

beyond_planned : {L : Type 0} (s : State L) (x : Frame) (highest handle : ℕ) → lookup (nat_eq x.channel) s.channels.limits.highest ≡ Some highest → handle_of x.body ≡ Some handle → nat_lt highest handle ≡ true
    → plan_of s x ≡ within_plan (nat_lt s.settings.channel_max x.channel) (beyond_plan true (if is_among x.channel s.channels.remotes then plan.Deliver else plan.Reject rejection.NotFound))
beyond_planned s x highest handle l e above =
    let u : Bool = nat_lt s.settings.channel_max x.channel in
    ap (λ (v : Bool). within_plan u (beyond_plan v (known_plan (is_among x.channel s.channels.remotes) s.settings.is_listener s.channels x.body))) (beyond_is s x highest handle l e ∙ above)
    ∙ ap (λ (q : Plan). within_plan u (beyond_plan true q)) (handle_plan (is_among x.channel s.channels.remotes) s.settings.is_listener s.channels x.body handle e)

pub no_higher : {L : Type 0} (old new : State L) (x : Frame) (highest handle : ℕ) → is_open old.phase ≡ true → lookup (nat_eq x.channel) old.channels.limits.highest ≡ Some highest → handle_of x.body ≡ Some handle → IsHanded old (x ∷ []) new → is_open new.phase ≡ true → handle ≤ highest
no_higher old new x highest handle o l e a z = by (nat_lt highest handle) refl
  where
    by : (u : Bool) → nat_lt highest handle ≡ u → handle ≤ highest
    by true above =
        let r = beyond_refused (nat_lt old.settings.channel_max x.channel) (is_among x.channel old.channels.remotes) in
        absurd (refused_shut old new x r.0 o (handle_session x.body handle e) a (beyond_planned old x highest handle l e above ∙ r.1) z)
    by false below = ltb-false highest handle below

pub higher_closes : {L : Type 0} (old new : State L) (x : Frame) (highest handle : ℕ) → is_open old.phase ≡ true → x.channel ≤ old.settings.channel_max → is_among x.channel old.channels.remotes ≡ true → lookup (nat_eq x.channel) old.channels.limits.highest ≡ Some highest → handle_of x.body ≡ Some handle → highest < handle → IsHanded old (x ∷ []) new → new.phase ≡ p.Rejected rejection.FramingError
higher_closes old new x highest handle o c k l e above a =
    let planned : plan_of old x ≡ plan.Reject rejection.FramingError =
    beyond_planned old x highest handle l e (lt-ltb highest handle above)
    ∙ ap (λ (u : Bool). within_plan u (beyond_plan true (if is_among x.channel old.channels.remotes then plan.Deliver else plan.Reject rejection.NotFound))) (le-ltb old.settings.channel_max x.channel c)
    ∙ ap (λ (u : Bool). within_plan false (beyond_plan true (if u then plan.Deliver else plan.Reject rejection.NotFound))) k in
    a.phase o (handle_session x.body handle e) ∙ ap (λ (q : Plan). phase_after q old.phase) planned
