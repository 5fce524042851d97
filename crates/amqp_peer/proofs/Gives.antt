-- What a step of the engine gives the sessions above the connection.
use Rattle.std.proofs.Common.{◌≡◌, ℕ, List, [], ◌∷◌, ◌++◌, Bool, true, false, cond, Option, Some, None, if◌then◌else◌, refl, sym, ap, ◌∙◌, subst}
use Rattle.std.specs.Prelude.{nat_lt, slice_index_or}
use Rattle.amqp_frames.specs.declared.body.FrameBody.{FrameBody}
use Rattle.amqp_frames.specs.declared.body.FrameBody.TheVariants as b
use Rattle.amqp_frames.specs.declared.shared.IncomingSession.{IncomingSession}
use Rattle.amqp_frames.specs.Session.{of_session}
use Rattle.amqp_transport.specs.declared.frames.Frame.{Frame}
use Rattle.amqp_engine.specs.declared.phase.Phase.TheVariants as p
use Rattle.amqp_engine.specs.declared.phase.Rejection.TheVariants as rejection
use Rattle.amqp_engine.specs.declared.sessions.Plan.{Plan}
use Rattle.amqp_engine.specs.declared.sessions.Plan.TheVariants as plan
use Rattle.amqp_engine.specs.Channels.{Channels, is_among, taken_in, with_asked, asked}
use Rattle.amqp_engine.specs.Faults.{AllOwed}
use Rattle.amqp_engine.specs.Limits.{is_beyond}
use Rattle.amqp_engine.specs.Machine.{plan_of, phase_after}
use Rattle.amqp_engine.specs.Outcomes.{IsHanded, IsAdmitted, channels_by}
use Rattle.amqp_engine.specs.Phases.{is_open, hears}
use Rattle.amqp_engine.specs.Plans.{within_plan, beyond_plan, known_plan, begin_plan, answer_plan}
use Rattle.amqp_engine.specs.State.{State}
use Rattle.amqp_engine.proofs.Steps.{is_open_only}
use Rattle.amqp_peer.specs.declared.held.Held.{Held}
use Rattle.amqp_peer.specs.declared.held.Held.TheVariants.{Late}
use Rattle.amqp_peer.specs.Frames.{sessions_of, list_of, asking, asks_by, asks, WaitsBy, Comes}
use Rattle.amqp_peer.specs.Hearing.{hears_in, IsOpenIn, channels_in, Handed}
use Rattle.amqp_peer.specs.History.{Local, given_in, sent_in}
use Rattle.amqp_peer.proofs.Unsaid.{owed_unsaid}

-- ---- of the engine

-- what was given, by what came to wait
record Gives {L : Type 0} (s s' : State L) (given : List Frame) : Type 0 where
  pub frame : Option Frame
  pub comes : Comes s.channels frame s'.channels
  pub heard : hears s'.phase ≡ true → sessions_of given ≡ list_of frame
  pub opens : (x : Frame) → frame ≡ Some x → s'.phase ≡ p.Opened
  pub seats : s'.channels.seats ≡ s.channels.seats

-- where the channels stay
gives_none : {L : Type 0} (s s' : State L) (given : List Frame) → s'.channels ≡ s.channels → (hears s'.phase ≡ true → sessions_of given ≡ []) → Gives s s' given
gives_none s s' given e n =
    record {
      frame = None;
      comes = (ap (λ (c : Channels). c.incoming) e, ap (λ (c : Channels). c.begun) e);
      heard = n;
      opens = λ x m. absurd (cc m);
      seats = ap (λ (c : Channels). c.seats) e;
    }

-- where it waits behind those that waited
gives_incoming : {L : Type 0} (s s' : State L) (x : Frame) → of_session x.body ≡ true → s'.phase ≡ p.Opened → asks x.body ≡ false → s'.channels.incoming ≡ s.channels.incoming ++ x ∷ [] → s'.channels.begun ≡ s.channels.begun → s'.channels.seats ≡ s.channels.seats → Gives s s' (x ∷ [])
gives_incoming s s' x o e w i g z =
    record { frame = Some x; comes = subst (λ (u : Bool). WaitsBy u s.channels x s'.channels) (sym w) (i, g); heard = λ h. ap (λ (u : Bool). cond u (x ∷ []) []) o; opens = λ y m. e; seats = z }

-- where it asks for a session
gives_asked : {L : Type 0} (s s' : State L) (x : Frame) (y : IncomingSession) → of_session x.body ≡ true → s'.phase ≡ p.Opened → asks x.body ≡ true → x ≡ asking y → s'.channels.incoming ≡ s.channels.incoming → s'.channels.begun ≡ s.channels.begun ++ y ∷ [] → s'.channels.seats ≡ s.channels.seats → Gives s s' (x ∷ [])
gives_asked s s' x y o e w a i g z =
    record { frame = Some x; comes = subst (λ (u : Bool). WaitsBy u s.channels x s'.channels) (sym w) (y, a, i, g); heard = λ h. ap (λ (u : Bool). cond u (x ∷ []) []) o; opens = λ v m. e; seats = z }

-- which plan takes a frame that asks for a session
abbrev is_ask : Plan → Bool
is_ask plan.Ask = true
is_ask q = false

abbrev IsTaken : Plan → Type 0
IsTaken (plan.Reject why) = ⊥
IsTaken q = Unit {0}

answer_asks : (a z : Bool) → IsTaken (answer_plan a z) → false ≡ is_ask (answer_plan a z)
answer_asks false z t = absurd t
answer_asks true true t = absurd t
answer_asks true false t = refl

begin_asks : (k l : Bool) (c : Channels) (n : Option ℕ) → IsTaken (begin_plan k l c n) → asks_by n ≡ is_ask (begin_plan k l c n)
begin_asks true l c n t = absurd t
begin_asks false l c (Some m) t = answer_asks (slice_index_or c.seats m false) (is_among m c.answered) t
begin_asks false true c None t = refl
begin_asks false false c None t = absurd t

end_asks : (k : Bool) → IsTaken (if k then plan.End else plan.Reject rejection.NotFound) → false ≡ is_ask (if k then plan.End else plan.Reject rejection.NotFound)
end_asks true t = refl
end_asks false t = absurd t

other_asks : (k : Bool) → IsTaken (if k then plan.Deliver else plan.Reject rejection.NotFound) → false ≡ is_ask (if k then plan.Deliver else plan.Reject rejection.NotFound)
other_asks true t = refl
other_asks false t = absurd t

known_asks : (k l : Bool) (c : Channels) (body : FrameBody) → IsTaken (known_plan k l c body) → asks body ≡ is_ask (known_plan k l c body)
known_asks k l c (b.Begin x) t = begin_asks k l c x.remote_channel t
known_asks k l c (b.End x) t = end_asks k t
known_asks k l c (b.Open x) t = other_asks k t
known_asks k l c (b.Close x) t = other_asks k t
known_asks k l c b.Empty t = other_asks k t
known_asks k l c (b.Attach x) t = other_asks k t
known_asks k l c (b.Flow x) t = other_asks k t
known_asks k l c (b.Transfer x y) t = other_asks k t
known_asks k l c (b.Disposition x) t = other_asks k t
known_asks k l c (b.Detach x) t = other_asks k t

-- a channel above the highest takes no frame
within_asks : (u : Bool) (q : Plan) (a : Bool) → (IsTaken q → a ≡ is_ask q) → IsTaken (within_plan u q) → a ≡ is_ask (within_plan u q)
within_asks true q a f t = absurd t
within_asks false q a f t = f t

-- nor does a handle above the highest
beyond_asks : (u : Bool) (q : Plan) (a : Bool) → (IsTaken q → a ≡ is_ask q) → IsTaken (beyond_plan u q) → a ≡ is_ask (beyond_plan u q)
beyond_asks true plan.Deliver a f t = absurd t
beyond_asks true plan.Answer a f t = f t
beyond_asks true plan.End a f t = f t
beyond_asks true plan.Ask a f t = f t
beyond_asks true (plan.Reject why) a f t = absurd t
beyond_asks false q a f t = f t

beyond_asked : (u : Bool) (q : Plan) → beyond_plan u q ≡ plan.Ask → q ≡ plan.Ask
beyond_asked true plan.Deliver e = absurd (cc e)
beyond_asked true plan.Answer e = e
beyond_asked true plan.End e = e
beyond_asked true plan.Ask e = e
beyond_asked true (plan.Reject why) e = e
beyond_asked false q e = e

within_asked : (u : Bool) (q : Plan) → within_plan u q ≡ plan.Ask → q ≡ plan.Ask
within_asked true q e = absurd (cc e)
within_asked false q e = e

plan_asks : {L : Type 0} (q : Plan) (s : State L) (x : Frame) → plan_of s x ≡ q → IsTaken q → asks x.body ≡ is_ask q
plan_asks q s x e t =
    let k : Bool = is_among x.channel s.channels.remotes in
    let l : Bool = s.settings.is_listener in
    let u : Bool = is_beyond s.channels.limits x.channel x.body in
    within_asks (nat_lt s.settings.channel_max x.channel) (beyond_plan u (known_plan k l s.channels x.body)) (asks x.body)
    (λ v. beyond_asks u (known_plan k l s.channels x.body) (asks x.body) (λ w. known_asks k l s.channels x.body w) v) (subst IsTaken (sym e) t)
    ∙ ap is_ask e

-- a session is asked for by a Begin alone
asked_by : (k l : Bool) (c : Channels) (channel : ℕ) (body : FrameBody) → known_plan k l c body ≡ plan.Ask → (w : IncomingSession) × (record { channel = channel; body = body } ≡ asking w) × (asked (record { channel = channel; body = body }) ≡ Some w)
asked_by k l c channel (b.Begin x) e = (record { channel = channel; begin = x }, refl, refl)
asked_by true l c channel (b.End x) e = absurd (cc e)
asked_by false l c channel (b.End x) e = absurd (cc e)
asked_by true l c channel (b.Open x) e = absurd (cc e)
asked_by false l c channel (b.Open x) e = absurd (cc e)
asked_by true l c channel (b.Close x) e = absurd (cc e)
asked_by false l c channel (b.Close x) e = absurd (cc e)
asked_by true l c channel b.Empty e = absurd (cc e)
asked_by false l c channel b.Empty e = absurd (cc e)
asked_by true l c channel (b.Attach x) e = absurd (cc e)
asked_by false l c channel (b.Attach x) e = absurd (cc e)
asked_by true l c channel (b.Flow x) e = absurd (cc e)
asked_by false l c channel (b.Flow x) e = absurd (cc e)
asked_by true l c channel (b.Transfer x y) e = absurd (cc e)
asked_by false l c channel (b.Transfer x y) e = absurd (cc e)
asked_by true l c channel (b.Disposition x) e = absurd (cc e)
asked_by false l c channel (b.Disposition x) e = absurd (cc e)
asked_by true l c channel (b.Detach x) e = absurd (cc e)
asked_by false l c channel (b.Detach x) e = absurd (cc e)

-- a frame of a session that came while the connection is open, as is planned
gives_planned : {L : Type 0} (q : Plan) (s s' : State L) (x : Frame) → plan_of s x ≡ q → of_session x.body ≡ true → s.phase ≡ p.Opened → s'.channels ≡ taken_in q s.channels x → s'.phase ≡ phase_after q s.phase → Gives s s' (x ∷ [])
gives_planned plan.Deliver s s' x e o a k z = gives_incoming s s' x o (z ∙ a) (plan_asks plan.Deliver s x e tt) (ap (λ (c : Channels). c.incoming) k) (ap (λ (c : Channels). c.begun) k) (ap (λ (c : Channels). c.seats) k)
gives_planned plan.Answer s s' x e o a k z = gives_incoming s s' x o (z ∙ a) (plan_asks plan.Answer s x e tt) (ap (λ (c : Channels). c.incoming) k) (ap (λ (c : Channels). c.begun) k) (ap (λ (c : Channels). c.seats) k)
gives_planned plan.End s s' x e o a k z = gives_incoming s s' x o (z ∙ a) (plan_asks plan.End s x e tt) (ap (λ (c : Channels). c.incoming) k) (ap (λ (c : Channels). c.begun) k) (ap (λ (c : Channels). c.seats) k)
gives_planned plan.Ask s s' x e o a k z =
    let k' : Bool = is_among x.channel s.channels.remotes in
    let l : Bool = s.settings.is_listener in
    let u : Bool = is_beyond s.channels.limits x.channel x.body in
    let w = asked_by k' l s.channels x.channel x.body (beyond_asked u (known_plan k' l s.channels x.body) (within_asked (nat_lt s.settings.channel_max x.channel) (beyond_plan u (known_plan k' l s.channels x.body)) e)) in
    gives_asked s s' x w.0 o (z ∙ a) (plan_asks plan.Ask s x e tt) w.1 (ap (λ (c : Channels). c.incoming) k) (ap (λ (c : Channels). c.begun) k ∙ ap (with_asked s.channels.begun) w.2) (ap (λ (c : Channels). c.seats) k)
gives_planned (plan.Reject why) s s' x e o a k z = gives_none s s' (x ∷ []) k (λ h. absurd (cc (h, ap hears z)))

gives_one : {L : Type 0} (o t : Bool) (s s' : State L) (x : Frame) → is_open s.phase ≡ o → of_session x.body ≡ t → IsAdmitted s x s' → Gives s s' (x ∷ [])
gives_one true true s s' x i j a =
    gives_planned (plan_of s x) s s' x refl j (is_open_only s.phase i) (a.channels ∙ ap (λ (u : Bool). channels_by u (of_session x.body) (plan_of s x) s.channels x) i ∙ ap (λ (u : Bool). channels_by true u (plan_of s x) s.channels x) j) (a.phase i j)
gives_one true false s s' x i j a =
    gives_none s s' (x ∷ []) (a.channels ∙ ap (λ (u : Bool). channels_by u (of_session x.body) (plan_of s x) s.channels x) i ∙ ap (λ (u : Bool). channels_by true u (plan_of s x) s.channels x) j) (λ h. ap (λ (u : Bool). cond u (x ∷ []) []) j)
gives_one false u s s' x i j a =
    gives_none s s' (x ∷ []) (a.channels ∙ ap (λ (u : Bool). channels_by u (of_session x.body) (plan_of s x) s.channels x) i) (λ h. ap (λ (v : Bool). cond v (x ∷ []) []) (a.opening i h))

gives : {L : Type 0} (s s' : State L) (given : List Frame) → IsHanded s given s' → Gives s s' given
gives s s' [] h = gives_none s s' [] h (λ z. refl)
gives s s' (x ∷ []) h = gives_one (is_open s.phase) (of_session x.body) s s' x refl refl h
gives s s' (x ∷ y ∷ xs) h = absurd h

-- ---- of an end

-- whatever the step answers
pub handed_by : {L : Type 0} (old new : Held L) (s s' : State L) (given queued : List Frame) (events : List Local) → AllOwed s.phase queued → IsHanded s given s' → (hears s'.phase ≡ true → hears s.phase ≡ true) → old ≡ Late s → new ≡ Late s' → given_in events ≡ given → sent_in events ≡ queued → Handed old new events
handed_by {L} old new s s' given queued events o h l e n g q =
    let k = gives s s' given h in
    record {
      frame = k.frame;
      comes = subst (λ (c : Channels). Comes c k.frame (channels_in new)) (sym (ap channels_in e)) (subst (λ (c : Channels). Comes s.channels k.frame c) (sym (ap channels_in n)) k.comes);
      heard = λ z. ap sessions_of g ∙ k.heard (sym (ap hears_in n) ∙ z);
      opens = λ x m. subst (λ (z : Held L). IsOpenIn z) (sym n) (k.opens x m);
      unsaid = ap sessions_of q ∙ owed_unsaid s.phase queued o;
      listens = λ z. ap hears_in e ∙ l (sym (ap hears_in n) ∙ z);
      seats = ap (λ (z : Held L). (channels_in z).seats) n ∙ k.seats ∙ sym (ap (λ (z : Held L). (channels_in z).seats) e);
    }
