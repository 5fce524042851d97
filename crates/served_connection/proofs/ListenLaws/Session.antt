-- A session hands on a Transfer that it hears, or drops it.
use Rattle.std.specs.Prelude.{◌≡◌, ◌≤◌, ◌+◌, ℕ, zero, suc, Bool, true, false, nat_lt, List, [], ◌∷◌, ◌++◌, Option, Some, None, if◌then◌else◌, refl}
use Rattle.std.proofs.Common.{sym, ◌∙◌, ap, arith}
use Rattle.amqp_composites.specs.declared.error.Error.{Error as AmqpError}
use Rattle.amqp_composites.specs.declared.modes.Role.{Role}
use Rattle.amqp_composites.specs.declared.modes.Role.TheVariants as role
use Rattle.amqp_performatives.specs.declared.attach.Attach.{Attach}
use Rattle.amqp_performatives.specs.declared.detach.Detach.{Detach}
use Rattle.amqp_performatives.specs.declared.flow.Flow.{Flow}
use Rattle.amqp_performatives.specs.declared.transfer.Transfer.{Transfer}
use Rattle.amqp_frames.specs.declared.body.FrameBody.{FrameBody}
use Rattle.amqp_frames.specs.declared.body.FrameBody.TheVariants as b
use Rattle.amqp_frames.specs.declared.shared.LinkFrame.{LinkFrame}
use Rattle.amqp_frames.specs.declared.shared.LinkFrame.TheVariants as link
use Rattle.amqp_frames.specs.declared.shared.SessionStopReason.{SessionStopReason}
use Rattle.amqp_parts.specs.declared.part.Part.{Part}
use Rattle.amqp_session.specs.declared.session.LinkInput.{LinkInput}
use Rattle.amqp_session.specs.declared.session.LinkInput.TheVariants as input
use Rattle.amqp_session.specs.declared.session.SessionState.{SessionState}
use Rattle.amqp_session.specs.declared.session.SessionState.TheVariants as state
use Rattle.amqp_session.specs.declared.error.Error.{Error}
use Rattle.amqp_session.specs.declared.error.Error.TheVariants.{FramingError}
use Rattle.amqp_session.specs.declared.error.Fault.{Fault}
use Rattle.amqp_session.specs.declared.error.Fault.TheVariants as fault
use Rattle.amqp_session.specs.Begin.{mapped}
use Rattle.amqp_session.specs.Ends.{stopping, stopped, own_reason, remote_reason, ending, failing, ended, answered, end_asked, attach_refused}
use Rattle.amqp_session.specs.Faults.{error_for}
use Rattle.amqp_session.specs.Frames.{heard, heard_in, heard_unanswered, heard_mapped, heard_ending, told_in}
use Rattle.amqp_session.specs.Hold.{delivery_left, left_of, leaving, first_leaving, releasing, released, reporting}
use Rattle.amqp_session.specs.Links.{input_at, attach_at, attach_read, detach_at, report, transfer_at, hand_flow, echo, is_astray, flow_at}
use Rattle.amqp_session.specs.State.{State, Framed, handing}
use Rattle.amqp_session.specs.State.{refuses as refused_with}
use Rattle.amqp_session.specs.Windows.{transfer_read, is_report_due, windows_flowed}
use Rattle.served_connection.specs.ListenLaws.Ended.{end_of, ended_by}
use Rattle.served_connection.proofs.ListenLaws.Totals.{total, total_nil, total_cons, total_push, total_append}
use Rattle.served_connection.proofs.ListenLaws.Weights.{of_input, of_inputs}

-- as many end among what is there for links
abbrev Same : State → State → Type 0
Same s t = of_inputs t.incoming ≡ of_inputs s.incoming

same_then : (s t u : State) → Same s t → Same t u → Same s u
same_then s t u p q = q ∙ p

same_hands : (x : LinkInput) (s : State) → of_input x ≡ 0 → Same s (handing x s)
same_hands x s h = omega (arith, total_push of_input s.incoming x, h)

same_if : (c : Bool) (s t u : State) → Same s t → Same s u → Same s (if c then t else u)
same_if true s t u p q = p
same_if false s t u p q = q

-- ---- the hold

left_none : (o : Option (List ℕ)) (n : ℕ) (x : Transfer) → of_inputs (left_of o n x) ≡ 0
left_none None n x = total_nil of_input
left_none (Some tag) n x = omega (arith, total_cons of_input (input.Left (delivery_left tag n x)) [], total_nil of_input)

leaving_same : (x : Part) (xs : List Part) (s : State) → Same s (leaving x (record s { held = xs }))
leaving_same x xs s =
    let n = s.windows.next_delivery_id in
    omega (arith, total_append of_input s.incoming (left_of x.transfer.delivery_tag n x.transfer), left_none x.transfer.delivery_tag n x.transfer)

first_same : (xs : List Part) (s : State) → Same s (first_leaving xs s)
first_same [] s = refl
first_same (x ∷ xs) s = leaving_same x xs s

releasing_same : (n : ℕ) (s : State) → Same s (releasing n s)
unfolding releasing
releasing_same zero s = refl
releasing_same (suc n) s = same_then s (first_leaving s.held s) (releasing n (first_leaving s.held s)) (first_same s.held s) (releasing_same n (first_leaving s.held s))

released_same : (s : State) → Same s (released s)
released_same s = releasing_same s.windows.allowance s

-- ---- the end

stopping_same : (o : Option SessionStopReason) (why : SessionStopReason) (s : State) → Same s (stopping o why s)
stopping_same None why s = same_hands (input.Stopped why) (record s { stop_reason = Some why }) refl
stopping_same (Some first) why s = refl

pub stopped_same : (last : SessionState) (why : SessionStopReason) (s : State) → of_inputs (stopped last why s).incoming ≡ of_inputs s.incoming
stopped_same last why s = stopping_same s.stop_reason why (record s { state = last; held = [] })

ending_same : (e : Option AmqpError) (s : State) → Same s (ending e s)
ending_same e s = stopped_same state.EndSent (own_reason e) s

failing_same : (x : Fault) (s : State) → Same s (failing x s).state
failing_same x s = ending_same (Some (error_for x)) s

ended_same : (e : Option AmqpError) (s : State) → Same s (ended e s)
ended_same e s =
    let t = stopped state.Unmapped (remote_reason e) s in
    same_then s t (ended e s) (stopped_same state.Unmapped (remote_reason e) s) (same_hands input.Over t refl)

answered_same : (e : Option AmqpError) (s : State) → Same s (answered e s).state
answered_same None s = same_hands input.Over s refl
answered_same (Some e) s = same_hands input.Over s refl

-- ---- what is read

echo_same : (c : Bool) (s : State) → Same s (echo c s)
echo_same true s = refl
echo_same false s = refl

hand_same : (o : Option ℕ) (x : Flow) (s : State) → Same s (hand_flow o x s)
hand_same None x s = refl
hand_same (Some h) x s = same_hands (input.Flow x) s refl

flow_same : (astray : Bool) (x : Flow) (s : State) → Same s (flow_at astray x s).state
flow_same true x s = failing_same fault.UnattachedHandle s
flow_same false x s =
    let t : State = record s { windows = windows_flowed x s.windows } in
    let u = released t in
    let v = hand_flow x.handle x u in
    same_then s u (echo x.echo v) (released_same t) (same_then u v (echo x.echo v) (hand_same x.handle x u) (echo_same x.echo v))

attach_same : (o : Option Role) (x : Attach) (s : State) → Same s (attach_at o x s).state
attach_same (Some r) x s = failing_same fault.HandleInUse s
attach_same None x s = same_hands (input.Attach x) s refl

attach_if : (c : Bool) (e : Error) (o : Option Role) (x : Attach) (s : State) → Same s (if c then refused_with e s else attach_at o x s).state
attach_if true e o x s = refl
attach_if false e o x s = attach_same o x s

detach_same : (o : Option Role) (x : Detach) (s : State) → Same s (detach_at o x s).state
detach_same None x s = failing_same fault.UnattachedHandle s
detach_same (Some r) x s = same_hands (input.Detach x) s refl

report_same : (s : State) → Same s (report s)
report_same s = same_if (is_report_due s.windows) s (reporting s) s refl refl

-- so many more may end
abbrev Grows : ℕ → State → State → Type 0
Grows n s t = of_inputs t.incoming ≤ of_inputs s.incoming + n

grows_same : (n : ℕ) (s t : State) → Same s t → Grows n s t
grows_same n s t h = omega (arith, h)

transfer_grows : (o : Option Role) (x : Transfer) (payload : List ℕ) (s : State) → Grows (end_of x) s (transfer_at o x payload s).state
transfer_grows None x payload s = grows_same (end_of x) s (failing fault.UnattachedHandle s).state (failing_same fault.UnattachedHandle s)
transfer_grows (Some role.Receiver) x payload s = grows_same (end_of x) s (failing fault.TransferFrameToSender s).state (failing_same fault.TransferFrameToSender s)
transfer_grows (Some role.Sender) x payload s =
    let t : State = handing (input.Transfer x payload) (record s { windows = transfer_read s.windows }) in
    omega (arith, report_same t, total_push of_input s.incoming (input.Transfer x payload))

mapped_grows : (x : FrameBody) (s : State) → Grows (ended_by x) s (heard_mapped x s).state
mapped_grows (b.Attach x) s = grows_same 0 s (attach_read x s).state (attach_if (nat_lt s.own_handle_max x.handle) FramingError (input_at x.handle s) x s)
mapped_grows (b.Flow x) s = grows_same 0 s (flow_at (is_astray x.handle s) x s).state (flow_same (is_astray x.handle s) x s)
mapped_grows (b.Transfer x payload) s = transfer_grows (input_at x.handle s) x payload s
mapped_grows (b.Disposition x) s = grows_same 0 s (handing (input.Disposition x) s) (same_hands (input.Disposition x) s refl)
mapped_grows (b.Detach x) s = grows_same 0 s (detach_at (input_at x.handle s) x s).state (detach_same (input_at x.handle s) x s)
mapped_grows (b.End x) s = grows_same 0 s (ended x.error s) (ended_same x.error s)
mapped_grows x s = grows_same (ended_by x) s s refl

ending_grows : (x : FrameBody) (s : State) → Grows (ended_by x) s (heard_ending x s).state
ending_grows (b.Disposition x) s = grows_same 0 s (handing (input.Disposition x) s) (same_hands (input.Disposition x) s refl)
ending_grows (b.End x) s = grows_same 0 s (answered x.error s).state (answered_same x.error s)
ending_grows x s = grows_same (ended_by x) s s refl

unanswered_grows : (channel : ℕ) (x : FrameBody) (s : State) → Grows (ended_by x) s (heard_unanswered channel x s).state
unanswered_grows channel (b.Begin x) s = grows_same 0 s (released (mapped channel x s)) (released_same (mapped channel x s))
unanswered_grows channel (b.End x) s = grows_same 0 s (ended x.error s) (ended_same x.error s)
unanswered_grows channel x s = grows_same (ended_by x) s s refl

heard_grows_in : (p : SessionState) (x : Framed) (s : State) → Grows (ended_by x.body) s (heard_in p x s).state
heard_grows_in state.BeginSent x s = unanswered_grows x.channel x.body s
heard_grows_in state.Mapped x s = mapped_grows x.body s
heard_grows_in state.EndSent x s = ending_grows x.body s
heard_grows_in state.Unmapped x s = grows_same (ended_by x.body) s s refl

-- a frame is heard
pub heard_grows : (x : Framed) (s : State) → of_inputs (heard x s).state.incoming ≤ of_inputs s.incoming + ended_by x.body
heard_grows x s = heard_grows_in s.state x s

-- ---- what is told and asked

pub told_same : (p : SessionState) (x : LinkFrame) (s : State) → of_inputs (told_in p x s).state.incoming ≡ of_inputs s.incoming
told_same state.Mapped (link.Attach x) s = refl
told_same state.Mapped (link.Flow x) s = refl
told_same state.Mapped (link.Transfer x payload) s = released_same (record s { held = s.held ++ record { transfer = x; payload = payload } ∷ [] })
told_same state.Mapped (link.Disposition x c) s = refl
told_same state.Mapped (link.Detach x) s = refl
told_same state.BeginSent x s = refl
told_same state.EndSent x s = refl
told_same state.Unmapped x s = refl

pub asked_same : (p : SessionState) (e : Option AmqpError) (s : State) → of_inputs (end_asked p e s).state.incoming ≡ of_inputs s.incoming
asked_same state.Mapped e s = ending_same e s
asked_same state.BeginSent e s = refl
asked_same state.EndSent e s = refl
asked_same state.Unmapped e s = refl

pub refused_same : (p : SessionState) (s : State) → of_inputs (attach_refused p s).state.incoming ≡ of_inputs s.incoming
refused_same state.Mapped s = failing_same fault.RemoteAttachingLinkNameNotFound s
refused_same state.BeginSent s = refl
refused_same state.EndSent s = refl
refused_same state.Unmapped s = refl
