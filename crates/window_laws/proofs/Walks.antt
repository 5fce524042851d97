-- What a session goes through, as its windows and what it writes see it.
use Rattle.std.specs.Prelude.{◌≡◌, ℕ, zero, suc, ◌+◌, ◌<◌, ◌≤◌, Bool, true, false, nat_lt, List, [], ◌∷◌, ◌++◌, Option, Some, None, if◌then◌else◌, refl}
use Rattle.std.proofs.Common.{sym, ◌∙◌, ap, subst, append-nil, append_assoc, arith}
use Rattle.amqp_composites.specs.declared.error.Error.{Error as AmqpError}
use Rattle.amqp_composites.specs.declared.modes.Role.{Role}
use Rattle.amqp_composites.specs.declared.modes.Role.TheVariants as role
use Rattle.amqp_performatives.specs.declared.attach.Attach.{Attach}
use Rattle.amqp_performatives.specs.declared.begin.Begin.{Begin}
use Rattle.amqp_performatives.specs.declared.detach.Detach.{Detach}
use Rattle.amqp_performatives.specs.declared.flow.Flow.{Flow}
use Rattle.amqp_performatives.specs.declared.transfer.Transfer.{Transfer}
use Rattle.amqp_frames.specs.declared.body.FrameBody.{FrameBody}
use Rattle.amqp_frames.specs.declared.body.FrameBody.TheVariants as b
use Rattle.amqp_frames.specs.declared.shared.LinkFrame.{LinkFrame}
use Rattle.amqp_frames.specs.declared.shared.LinkFrame.TheVariants as link
use Rattle.amqp_frames.specs.declared.shared.SessionStopReason.{SessionStopReason}
use Rattle.amqp_parts.specs.declared.part.Part.{Part}
use Rattle.amqp_session.specs.declared.error.Error.{Error}
use Rattle.amqp_session.specs.declared.error.Error.TheVariants.{FramingError}
use Rattle.amqp_session.specs.declared.error.Fault.{Fault}
use Rattle.amqp_session.specs.declared.error.Fault.TheVariants as fault
use Rattle.amqp_session.specs.declared.session.LinkInput.TheVariants as input
use Rattle.amqp_session.specs.declared.session.SessionState.{SessionState}
use Rattle.amqp_session.specs.declared.session.SessionState.TheVariants as state
use Rattle.amqp_session.specs.declared.windows.Windows.{Windows}
use Rattle.amqp_session.specs.Begin.{asked, mapped}
use Rattle.amqp_session.specs.Ends.{stopping, stopped, own_reason, remote_reason, ending, failing, ended, answered, end_asked, attach_refused}
use Rattle.amqp_session.specs.Faults.{error_for}
use Rattle.amqp_session.specs.Frames.{heard_in, heard_unanswered, heard_mapped, heard_ending, told_in}
use Rattle.amqp_session.specs.Hold.{begins, first_leaving, releasing, released, dropping, reporting}
use Rattle.amqp_session.specs.Links.{input_at, attach_at, detach_at, transfer_at, hand_flow, echo, is_astray, flow_at}
use Rattle.amqp_session.specs.State.{State, Framed, saying, handing}
use Rattle.amqp_session.specs.State.{refuses as refused_with}
use Rattle.amqp_session.specs.Windows.{stamped, session_flow, transfer_read, is_report_due, reported, windows_left, windows_begun, windows_flowed}
use Rattle.session_laws.specs.Holding.{Move, tells, hears, ends, refuses, stops, hands_frame, hands_input, rest_of, first_of, after, after_all, handed, handed_all}
use Rattle.session_laws.specs.Handing.{heard}
use Rattle.window_laws.specs.Starting as starting
use Rattle.window_laws.specs.Starting.{Start, settings_of, session_of, reads}
use Rattle.window_laws.specs.Counting.{behind, InOrder}

-- a session, and all that it has written
pub record View : Type 0 where
  pub phase : SessionState
  pub windows : Windows
  pub output : List Framed

-- the frames in front were taken off
abbrev pub view : List Framed → State → View
view done s = record { phase = s.state; windows = s.windows; output = done ++ s.output }

abbrev pub is_mapped : SessionState → Bool
is_mapped state.Mapped = true
is_mapped other = false

-- a frame that neither speaks of windows nor is a Transfer
abbrev pub IsPlain : FrameBody → Type 0
IsPlain (b.Attach x) = Unit {0}
IsPlain (b.Disposition x) = Unit {0}
IsPlain (b.Detach x) = Unit {0}
IsPlain (b.End x) = Unit {0}
IsPlain other = ⊥

-- P holds of a session that has heard so many Transfers, behind whatever it does by itself and where each frame that it hears is as H says.
-- Before a move Q holds of it.
pub record Walks (H : ℕ → FrameBody → Type 0) (Q P : ℕ → View → Type 0) : Type 0 where
  pub starts : (n : ℕ) (v : View) → Q n v → P n v
  pub drops : (n : ℕ) (v : View) (p : SessionState) → is_mapped p ≡ false → Q n v → P (n + 1) (record v { phase = p })
  pub takes : (n : ℕ) (v : View) → is_mapped v.phase ≡ true → Q n v → P (n + 1) (record v { windows = transfer_read v.windows })
  pub ends : (n : ℕ) (v : View) (p : SessionState) → is_mapped p ≡ false → P n v → P n (record v { phase = p })
  pub says : (n : ℕ) (v : View) (x : Framed) → IsPlain x.body → P n v → P n (record v { output = v.output ++ x ∷ [] })
  pub flows : (n : ℕ) (v : View) (channel : ℕ) (x : Flow) → is_mapped v.phase ≡ true → P n v → P n (record v { windows = reported v.windows; output = v.output ++ record { channel = channel; body = b.Flow (stamped v.windows x) } ∷ [] })
  pub leaves : (n : ℕ) (v : View) (channel : ℕ) (c : Bool) (x : Transfer) (payload : List ℕ) → 0 < v.windows.allowance → P n v → P n (record v { windows = windows_left c v.windows; output = v.output ++ record { channel = channel; body = b.Transfer x payload } ∷ [] })
  pub begun : (n : ℕ) (v : View) (x : Begin) → H n (b.Begin x) → P n v → P n (record v { phase = state.Mapped; windows = windows_begun x v.windows })
  pub flowed : (n : ℕ) (v : View) (x : Flow) → H n (b.Flow x) → is_mapped v.phase ≡ true → P n v → P n (record v { windows = windows_flowed x v.windows })

-- ---- what a session writes by itself

put : (P : ℕ → View → Type 0) (n : ℕ) (p : SessionState) (w : Windows) (done o : List Framed) (x : Framed) → P n (record { phase = p; windows = w; output = (done ++ o) ++ x ∷ [] }) → P n (record { phase = p; windows = w; output = done ++ (o ++ x ∷ []) })
put P n p w done o x h = subst (λ (ys : List Framed). P n (record { phase = p; windows = w; output = ys })) (append_assoc done o (x ∷ [])) h

says_one : (H : ℕ → FrameBody → Type 0) (Q P : ℕ → View → Type 0) → Walks H Q P → (n : ℕ) (done : List Framed) (x : FrameBody) (s : State) → IsPlain x → P n (view done s) → P n (view done (saying x s))
says_one H Q P f n done x s q h = (let y : Framed = record { channel = s.channel; body = x } in put P n s.state s.windows done s.output y (f.says n (view done s) y q h))

flow_says : (H : ℕ → FrameBody → Type 0) (Q P : ℕ → View → Type 0) → Walks H Q P → (n : ℕ) (done : List Framed) (x : Flow) (s : State) → is_mapped s.state ≡ true → P n (view done s) → P n (view done (saying (b.Flow (stamped s.windows x)) (record s { windows = reported s.windows })))
flow_says H Q P f n done x s e h = put P n s.state (reported s.windows) done s.output (record { channel = s.channel; body = b.Flow (stamped s.windows x) }) (f.flows n (view done s) s.channel x e h)

reporting_on : (H : ℕ → FrameBody → Type 0) (Q P : ℕ → View → Type 0) → Walks H Q P → (n : ℕ) (done : List Framed) (s : State) → is_mapped s.state ≡ true → P n (view done s) → P n (view done (reporting s))
reporting_on H Q P f n done s e h = flow_says H Q P f n done (session_flow s.windows) s e h

report_if : (H : ℕ → FrameBody → Type 0) (Q P : ℕ → View → Type 0) → Walks H Q P → (n : ℕ) (done : List Framed) (c : Bool) (s : State) → is_mapped s.state ≡ true → P n (view done s) → P n (view done (if c then reporting s else s))
report_if H Q P f n done true s e h = reporting_on H Q P f n done s e h
report_if H Q P f n done false s e h = h

echo_on : (H : ℕ → FrameBody → Type 0) (Q P : ℕ → View → Type 0) → Walks H Q P → (n : ℕ) (done : List Framed) (c : Bool) (s : State) → is_mapped s.state ≡ true → P n (view done s) → P n (view done (echo c s))
echo_on H Q P f n done true s e h = reporting_on H Q P f n done s e h
echo_on H Q P f n done false s e h = h

-- ---- the hold

first_room : (n : ℕ) (xs : List Part) (s : State) → suc n ≤ s.windows.allowance → n ≤ (first_leaving xs s).windows.allowance
first_room n [] s le = omega arith
first_room n (x ∷ xs) s le = omega arith

first_state : (xs : List Part) (s : State) → (first_leaving xs s).state ≡ s.state
first_state [] s = refl
first_state (x ∷ xs) s = refl

releasing_state : (n : ℕ) (s : State) → (releasing n s).state ≡ s.state
unfolding releasing
releasing_state zero s = refl
releasing_state (suc n) s = releasing_state n (first_leaving s.held s) ∙ first_state s.held s

some_room : (n m : ℕ) → suc n ≤ m → 0 < m
some_room n m le = omega arith

first_on : (H : ℕ → FrameBody → Type 0) (Q P : ℕ → View → Type 0) → Walks H Q P → (n : ℕ) (done : List Framed) (k : ℕ) (xs : List Part) (s : State) → suc k ≤ s.windows.allowance → P n (view done s) → P n (view done (first_leaving xs s))
first_on H Q P f n done k [] s le h = h
first_on H Q P f n done k (x ∷ xs) s le h = put P n s.state (windows_left (begins x.transfer) s.windows) done s.output _ (f.leaves n (view done s) s.channel (begins x.transfer) _ _ (some_room k s.windows.allowance le) h)

releasing_on : (H : ℕ → FrameBody → Type 0) (Q P : ℕ → View → Type 0) → Walks H Q P → (n : ℕ) (done : List Framed) (k : ℕ) (s : State) → k ≤ s.windows.allowance → P n (view done s) → P n (view done (releasing k s))
unfolding releasing
releasing_on H Q P f n done zero s le h = h
releasing_on H Q P f n done (suc k) s le h = releasing_on H Q P f n done k (first_leaving s.held s) (first_room k s.held s le) (first_on H Q P f n done k s.held s le h)

no_less : (n : ℕ) → n ≤ n
no_less n = omega arith

released_on : (H : ℕ → FrameBody → Type 0) (Q P : ℕ → View → Type 0) → Walks H Q P → (n : ℕ) (done : List Framed) (s : State) → P n (view done s) → P n (view done (released s))
released_on H Q P f n done s h = releasing_on H Q P f n done s.windows.allowance s (no_less s.windows.allowance) h

-- ---- the end

stopping_on : (P : ℕ → View → Type 0) (n : ℕ) (done : List Framed) (o : Option SessionStopReason) (why : SessionStopReason) (s : State) → P n (view done s) → P n (view done (stopping o why s))
stopping_on P n done None why s h = h
stopping_on P n done (Some first) why s h = h

stopped_on : (P : ℕ → View → Type 0) (n : ℕ) (done : List Framed) (p : SessionState) (why : SessionStopReason) (s : State) → P n (record (view done s) { phase = p }) → P n (view done (stopped p why s))
stopped_on P n done p why s h = stopping_on P n done s.stop_reason why (record s { state = p; held = [] }) h

ending_on : (H : ℕ → FrameBody → Type 0) (Q P : ℕ → View → Type 0) → Walks H Q P → (n : ℕ) (done : List Framed) (e : Option AmqpError) (s : State) → P n (record (view done s) { phase = state.EndSent }) → P n (view done (ending e s))
ending_on H Q P f n done e s h = says_one H Q P f n done (b.End (record { error = e })) (stopped state.EndSent (own_reason e) s) tt (stopped_on P n done state.EndSent (own_reason e) s h)

failing_on : (H : ℕ → FrameBody → Type 0) (Q P : ℕ → View → Type 0) → Walks H Q P → (n : ℕ) (done : List Framed) (x : Fault) (s : State) → P n (record (view done s) { phase = state.EndSent }) → P n (view done (failing x s).state)
failing_on H Q P f n done x s h = ending_on H Q P f n done (Some (error_for x)) s h

ended_on : (H : ℕ → FrameBody → Type 0) (Q P : ℕ → View → Type 0) → Walks H Q P → (n : ℕ) (done : List Framed) (e : Option AmqpError) (s : State) → P n (view done s) → P n (view done (ended e s))
ended_on H Q P f n done e s h = says_one H Q P f n done (b.End (record { error = None })) (stopped state.Unmapped (remote_reason e) s) tt (stopped_on P n done state.Unmapped (remote_reason e) s (f.ends n (view done s) state.Unmapped refl h))

answered_on : (H : ℕ → FrameBody → Type 0) (Q P : ℕ → View → Type 0) → Walks H Q P → (n : ℕ) (done : List Framed) (e : Option AmqpError) (s : State) → P n (view done s) → P n (view done (answered e s).state)
answered_on H Q P f n done None s h = f.ends n (view done s) state.Unmapped refl h
answered_on H Q P f n done (Some e) s h = f.ends n (view done s) state.Unmapped refl h

fails_on : (H : ℕ → FrameBody → Type 0) (Q P : ℕ → View → Type 0) → Walks H Q P → (n : ℕ) (done : List Framed) (x : Fault) (s : State) → P n (view done s) → P n (view done (failing x s).state)
fails_on H Q P f n done x s h = failing_on H Q P f n done x s (f.ends n (view done s) state.EndSent refl h)

-- ---- what is read

attach_on : (H : ℕ → FrameBody → Type 0) (Q P : ℕ → View → Type 0) → Walks H Q P → (n : ℕ) (done : List Framed) (o : Option Role) (x : Attach) (s : State) → P n (view done s) → P n (view done (attach_at o x s).state)
attach_on H Q P f n done (Some r) x s h = fails_on H Q P f n done fault.HandleInUse s h
attach_on H Q P f n done None x s h = h

attach_if : (H : ℕ → FrameBody → Type 0) (Q P : ℕ → View → Type 0) → Walks H Q P → (n : ℕ) (done : List Framed) (c : Bool) (e : Error) (o : Option Role) (x : Attach) (s : State) → P n (view done s) → P n (view done (if c then refused_with e s else attach_at o x s).state)
attach_if H Q P f n done true e o x s h = h
attach_if H Q P f n done false e o x s h = attach_on H Q P f n done o x s h

detach_on : (H : ℕ → FrameBody → Type 0) (Q P : ℕ → View → Type 0) → Walks H Q P → (n : ℕ) (done : List Framed) (o : Option Role) (x : Detach) (s : State) → P n (view done s) → P n (view done (detach_at o x s).state)
detach_on H Q P f n done None x s h = fails_on H Q P f n done fault.UnattachedHandle s h
detach_on H Q P f n done (Some r) x s h = h

transfer_on : (H : ℕ → FrameBody → Type 0) (Q P : ℕ → View → Type 0) → Walks H Q P → (n : ℕ) (done : List Framed) (o : Option Role) (x : Transfer) (payload : List ℕ) (s : State) → is_mapped s.state ≡ true → Q n (view done s) → P (n + 1) (view done (transfer_at o x payload s).state)
transfer_on H Q P f n done None x payload s e h = failing_on H Q P f (n + 1) done fault.UnattachedHandle s (f.drops n (view done s) state.EndSent refl h)
transfer_on H Q P f n done (Some role.Receiver) x payload s e h = failing_on H Q P f (n + 1) done fault.TransferFrameToSender s (f.drops n (view done s) state.EndSent refl h)
transfer_on H Q P f n done (Some role.Sender) x payload s e h =
    let t : State = handing (input.Transfer x payload) (record s { windows = transfer_read s.windows }) in
    report_if H Q P f (n + 1) done (is_report_due t.windows) t e (f.takes n (view done s) e h)

hand_on : (P : ℕ → View → Type 0) (n : ℕ) (done : List Framed) (o : Option ℕ) (x : Flow) (s : State) → P n (view done s) → P n (view done (hand_flow o x s))
hand_on P n done None x s h = h
hand_on P n done (Some handle) x s h = h

hand_state : (o : Option ℕ) (x : Flow) (s : State) → (hand_flow o x s).state ≡ s.state
hand_state None x s = refl
hand_state (Some handle) x s = refl

flow_on : (H : ℕ → FrameBody → Type 0) (Q P : ℕ → View → Type 0) → Walks H Q P → (n : ℕ) (done : List Framed) (astray : Bool) (x : Flow) (s : State) → is_mapped s.state ≡ true → H n (b.Flow x) → P n (view done s) → P n (view done (flow_at astray x s).state)
flow_on H Q P f n done true x s e k h = fails_on H Q P f n done fault.UnattachedHandle s h
flow_on H Q P f n done false x s e k h =
    let t : State = record s { windows = windows_flowed x s.windows } in
    let u = released t in
    let v = hand_flow x.handle x u in
    let same : v.state ≡ s.state = hand_state x.handle x u ∙ releasing_state t.windows.allowance t in
    echo_on H Q P f n done x.echo v (ap is_mapped same ∙ e) (hand_on P n done x.handle x u (released_on H Q P f n done t (f.flowed n (view done s) x k e h)))

mapped_on : (H : ℕ → FrameBody → Type 0) (Q P : ℕ → View → Type 0) → Walks H Q P → (n : ℕ) (done : List Framed) (x : FrameBody) (s : State) → is_mapped s.state ≡ true → H n x → Q n (view done s) → P (behind n x) (view done (heard_mapped x s).state)
mapped_on H Q P f n done (b.Attach x) s e k h = attach_if H Q P f n done (nat_lt s.own_handle_max x.handle) FramingError (input_at x.handle s) x s (f.starts n (view done s) h)
mapped_on H Q P f n done (b.Flow x) s e k h = flow_on H Q P f n done (is_astray x.handle s) x s e k (f.starts n (view done s) h)
mapped_on H Q P f n done (b.Transfer x payload) s e k h = transfer_on H Q P f n done (input_at x.handle s) x payload s e h
mapped_on H Q P f n done (b.Detach x) s e k h = detach_on H Q P f n done (input_at x.handle s) x s (f.starts n (view done s) h)
mapped_on H Q P f n done (b.End x) s e k h = ended_on H Q P f n done x.error s (f.starts n (view done s) h)
mapped_on H Q P f n done other s e k h = f.starts n (view done s) h

unanswered_on : (H : ℕ → FrameBody → Type 0) (Q P : ℕ → View → Type 0) → Walks H Q P → (n : ℕ) (done : List Framed) (channel : ℕ) (x : FrameBody) (s : State) → is_mapped s.state ≡ false → H n x → Q n (view done s) → P (behind n x) (view done (heard_unanswered channel x s).state)
unanswered_on H Q P f n done channel (b.Begin x) s e k h = released_on H Q P f n done (mapped channel x s) (f.begun n (view done s) x k (f.starts n (view done s) h))
unanswered_on H Q P f n done channel (b.End x) s e k h = ended_on H Q P f n done x.error s (f.starts n (view done s) h)
unanswered_on H Q P f n done channel (b.Transfer x payload) s e k h = f.drops n (view done s) s.state e h
unanswered_on H Q P f n done channel other s e k h = f.starts n (view done s) h

late_on : (H : ℕ → FrameBody → Type 0) (Q P : ℕ → View → Type 0) → Walks H Q P → (n : ℕ) (done : List Framed) (x : FrameBody) (s : State) → is_mapped s.state ≡ false → Q n (view done s) → P (behind n x) (view done (heard_ending x s).state)
late_on H Q P f n done (b.End x) s e h = answered_on H Q P f n done x.error s (f.starts n (view done s) h)
late_on H Q P f n done (b.Transfer x payload) s e h = f.drops n (view done s) s.state e h
late_on H Q P f n done other s e h = f.starts n (view done s) h

over_on : (H : ℕ → FrameBody → Type 0) (Q P : ℕ → View → Type 0) → Walks H Q P → (n : ℕ) (done : List Framed) (x : FrameBody) (s : State) → is_mapped s.state ≡ false → Q n (view done s) → P (behind n x) (view done s)
over_on H Q P f n done (b.Transfer x payload) s e h = f.drops n (view done s) s.state e h
over_on H Q P f n done other s e h = f.starts n (view done s) h

heard_on : (H : ℕ → FrameBody → Type 0) (Q P : ℕ → View → Type 0) → Walks H Q P → (n : ℕ) (done : List Framed) (p : SessionState) (x : Framed) (s : State) → s.state ≡ p → H n x.body → Q n (view done s) → P (behind n x.body) (view done (heard_in p x s).state)
heard_on H Q P f n done state.BeginSent x s e k h = unanswered_on H Q P f n done x.channel x.body s (ap is_mapped e) k h
heard_on H Q P f n done state.Mapped x s e k h = mapped_on H Q P f n done x.body s (ap is_mapped e) k h
heard_on H Q P f n done state.EndSent x s e k h = late_on H Q P f n done x.body s (ap is_mapped e) h
heard_on H Q P f n done state.Unmapped x s e k h = over_on H Q P f n done x.body s (ap is_mapped e) h

-- ---- what is told and asked

told_on : (H : ℕ → FrameBody → Type 0) (Q P : ℕ → View → Type 0) → Walks H Q P → (n : ℕ) (done : List Framed) (p : SessionState) (x : LinkFrame) (s : State) → s.state ≡ p → P n (view done s) → P n (view done (told_in p x s).state)
told_on H Q P f n done state.Mapped (link.Attach x) s e h = says_one H Q P f n done (b.Attach x) s tt h
told_on H Q P f n done state.Mapped (link.Flow x) s e h = flow_says H Q P f n done x s (ap is_mapped e) h
told_on H Q P f n done state.Mapped (link.Transfer x payload) s e h = released_on H Q P f n done (record s { held = s.held ++ record { transfer = x; payload = payload } ∷ [] }) h
told_on H Q P f n done state.Mapped (link.Disposition x covered) s e h = says_one H Q P f n done (b.Disposition x) s tt h
told_on H Q P f n done state.Mapped (link.Detach x) s e h = says_one H Q P f n done (b.Detach x) (dropping x.handle s) tt h
told_on H Q P f n done state.BeginSent x s e h = h
told_on H Q P f n done state.EndSent x s e h = h
told_on H Q P f n done state.Unmapped x s e h = h

asked_on : (H : ℕ → FrameBody → Type 0) (Q P : ℕ → View → Type 0) → Walks H Q P → (n : ℕ) (done : List Framed) (p : SessionState) (e : Option AmqpError) (s : State) → P n (view done s) → P n (view done (end_asked p e s).state)
asked_on H Q P f n done state.Mapped e s h = ending_on H Q P f n done e s (f.ends n (view done s) state.EndSent refl h)
asked_on H Q P f n done state.BeginSent e s h = h
asked_on H Q P f n done state.EndSent e s h = h
asked_on H Q P f n done state.Unmapped e s h = h

refused_on : (H : ℕ → FrameBody → Type 0) (Q P : ℕ → View → Type 0) → Walks H Q P → (n : ℕ) (done : List Framed) (p : SessionState) (s : State) → P n (view done s) → P n (view done (attach_refused p s).state)
refused_on H Q P f n done state.Mapped s h = fails_on H Q P f n done fault.RemoteAttachingLinkNameNotFound s h
refused_on H Q P f n done state.BeginSent s h = h
refused_on H Q P f n done state.EndSent s h = h
refused_on H Q P f n done state.Unmapped s h = h

-- ---- one move

-- what is heard as a move says, and how many Transfers were heard behind it
abbrev pub HeardAs : (ℕ → FrameBody → Type 0) → ℕ → Move → Type 0
HeardAs H n (hears x) = H n x.body
HeardAs H n other = Unit {0}

abbrev pub behind_move : ℕ → Move → ℕ
behind_move n (hears x) = behind n x.body
behind_move n other = n

none_off : (P : ℕ → View → Type 0) (n : ℕ) (done : List Framed) (s : State) → P n (view done s) → P n (view (done ++ []) s)
none_off P n done s h = subst (λ (xs : List Framed). P n (view xs s)) (sym (append-nil done)) h

first_rest : (xs : List Framed) → first_of xs ++ rest_of xs ≡ xs
first_rest [] = refl
first_rest (x ∷ xs) = refl

frame_off : (P : ℕ → View → Type 0) (n : ℕ) (done : List Framed) (s : State) → P n (view done s) → P n (view (done ++ first_of s.output) (record s { output = rest_of s.output }))
frame_off P n done s h =
    let e : (done ++ first_of s.output) ++ rest_of s.output ≡ done ++ s.output = append_assoc done (first_of s.output) (rest_of s.output) ∙ ap (λ (xs : List Framed). done ++ xs) (first_rest s.output) in
    subst (λ (xs : List Framed). P n (record { phase = s.state; windows = s.windows; output = xs })) (sym e) h

pub moves : (H : ℕ → FrameBody → Type 0) (Q P : ℕ → View → Type 0) → Walks H Q P → (n : ℕ) (done : List Framed) (s : State) (m : Move) → HeardAs H n m → Q n (view done s) → P (behind_move n m) (view (done ++ handed s m) (after s m))
moves H Q P f n done s (tells x) k h = none_off P n done (after s (tells x)) (told_on H Q P f n done s.state x s refl (f.starts n (view done s) h))
moves H Q P f n done s (hears x) k h = none_off P (behind n x.body) done (after s (hears x)) (heard_on H Q P f n done s.state x s refl k h)
moves H Q P f n done s (ends e) k h = none_off P n done (after s (ends e)) (asked_on H Q P f n done s.state e s (f.starts n (view done s) h))
moves H Q P f n done s refuses k h = none_off P n done (after s refuses) (refused_on H Q P f n done s.state s (f.starts n (view done s) h))
moves H Q P f n done s (stops why) k h = none_off P n done (after s (stops why)) (stopped_on P n done state.Unmapped why s (f.ends n (view done s) state.Unmapped refl (f.starts n (view done s) h)))
moves H Q P f n done s hands_frame k h = frame_off P n done s (f.starts n (view done s) h)
moves H Q P f n done s hands_input k h = none_off P n done (after s hands_input) (f.starts n (view done s) h)

-- ---- a life

-- how many Transfers there were, behind these frames
abbrev pub counted : ℕ → List Framed → ℕ
counted n [] = n
counted n (x ∷ xs) = counted (behind n x.body) xs

joined_off : (P : ℕ → View → Type 0) (n : ℕ) (done a c : List Framed) (s : State) → P n (view ((done ++ a) ++ c) s) → P n (view (done ++ (a ++ c)) s)
joined_off P n done a c s h = subst (λ (xs : List Framed). P n (view xs s)) (append_assoc done a c) h

pub lives_on : (H : ℕ → FrameBody → Type 0) (P : ℕ → View → Type 0) → Walks H P P → (n : ℕ) (done : List Framed) (s : State) (ms : List Move) → InOrder H n (heard ms) → P n (view done s) → P (counted n (heard ms)) (view (done ++ handed_all s ms) (after_all s ms))
lives_on H P f n done s [] k h = none_off P n done s h
lives_on H P f n done s (hears x ∷ ms) k h =
    let m = hears x in
    let t = after s m in
    joined_off P (counted (behind n x.body) (heard ms)) done (handed s m) (handed_all t ms) (after_all t ms) (lives_on H P f (behind n x.body) (done ++ handed s m) t ms k.1 (moves H P P f n done s m k.0 h))
lives_on H P f n done s (m ∷ ms) k h =
    let t = after s m in
    joined_off P (counted n (heard ms)) done (handed s m) (handed_all t ms) (after_all t ms) (lives_on H P f n (done ++ handed s m) t ms k (moves H P P f n done s m tt h))

-- from its begin on: it has written all that is behind its begin
pub lives : (H : ℕ → FrameBody → Type 0) (P : ℕ → View → Type 0) → Walks H P P → (u : Start) (ms : List Move) → ((channel : ℕ) (remote : Option ℕ) → P 0 (view [] (asked (settings_of u) channel remote))) → InOrder H 0 (reads u ms)
    → P (counted 0 (reads u ms)) (view (handed_all (session_of u) ms) (after_all (session_of u) ms))
lives H P f (starting.begins x channel) ms h k = lives_on H P f 0 [] (session_of (starting.begins x channel)) ms k (h channel None)
lives H P f (starting.answers x channel incoming) ms h k =
    let u = starting.answers x channel incoming in
    lives_on H P f 0 [] (session_of u) ms k.1 (f.begun 0 (view [] (asked x channel (Some incoming.channel))) incoming.begin k.0 (h channel (Some incoming.channel)))
