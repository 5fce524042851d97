-- Nothing waits that the peer can take, and what was read is reported: each rule of a session keeps this.
use Rattle.std.proofs.Common.{◌≡◌, ◌∙◌, ap, ◌<◌, refl, ℕ, zero, suc, nat_eq, nat_lt, max, true, false, Bool, List, [], ◌∷◌, ◌++◌, Option, Some, None, if◌then◌else◌, arith}
use Rattle.std.specs.Prelude.{not, filter}
use Rattle.std.proofs.lemmas.Bool.Decides.{nat_tests}
use Rattle.amqp_composites.specs.declared.error.Error.{Error as AmqpError}
use Rattle.amqp_composites.specs.declared.modes.Role.{Role}
use Rattle.amqp_composites.specs.declared.modes.Role.TheVariants as role
use Rattle.amqp_performatives.specs.declared.attach.Attach.{Attach}
use Rattle.amqp_performatives.specs.declared.detach.Detach.{Detach}
use Rattle.amqp_performatives.specs.declared.flow.Flow.{Flow}
use Rattle.amqp_performatives.specs.declared.transfer.Transfer.{Transfer}
use Rattle.amqp_parts.specs.declared.part.Part.{Part}
use Rattle.amqp_frames.specs.declared.body.FrameBody.{FrameBody}
use Rattle.amqp_frames.specs.declared.body.FrameBody.TheVariants as b
use Rattle.amqp_frames.specs.declared.shared.IncomingSession.{IncomingSession}
use Rattle.amqp_frames.specs.declared.shared.LinkFrame.{LinkFrame}
use Rattle.amqp_frames.specs.declared.shared.LinkFrame.TheVariants as link
use Rattle.amqp_frames.specs.declared.shared.SessionStopReason.{SessionStopReason}
use Rattle.amqp_session.specs.declared.error.Error.TheVariants as error
use Rattle.amqp_session.specs.declared.error.Fault.{Fault}
use Rattle.amqp_session.specs.declared.error.Fault.TheVariants as fault
use Rattle.amqp_session.specs.declared.session.LinkInput.{LinkInput}
use Rattle.amqp_session.specs.declared.session.LinkInput.TheVariants as input
use Rattle.amqp_session.specs.declared.session.SessionState.{SessionState}
use Rattle.amqp_session.specs.declared.session.SessionState.TheVariants as state
use Rattle.amqp_session.specs.declared.settings.SessionSettings.{SessionSettings}
use Rattle.amqp_session.specs.Begin.{begun, accepted, mapped}
use Rattle.amqp_session.specs.Ends.{stopping, stopped, own_reason, remote_reason, ending, ended, answered, failing, end_asked, attach_refused}
use Rattle.amqp_session.specs.Faults.{error_for}
use Rattle.amqp_session.specs.Frames.{heard_unanswered, heard_mapped, heard_ending, heard_in, heard, told, told_in}
use Rattle.amqp_session.specs.Hold.{leaving, first_leaving, releasing, released, reporting}
use Rattle.amqp_session.specs.Laws.{IsTidy}
use Rattle.amqp_session.specs.Links.{input_at, attach_at, attach_read, detach_at, transfer_at, hand_flow, echo, is_astray, flow_at}
use Rattle.amqp_session.specs.State.{State, Framed, Made, saying, handing}
use Rattle.amqp_session.specs.Windows.{report_after, is_report_due, windows_flowed}
use Rattle.amqp_session.proofs.Releases.{releasing_none}

-- what was read is reported
abbrev pub Reported : State → Type 0
Reported s = s.windows.unreported < report_after s.windows

pub some_after : (n : ℕ) → 0 < max n 1
some_after n = omega arith

pub if_state : (P : State → Type 0) (c : Bool) (t s : State) → P t → P s → P (if c then t else s)
if_state P true t s p q = p
if_state P false t s p q = q

keeps_by : (P : State → Type 0) → ((x : Part) (xs : List Part) (s : State) → P s → P (leaving x (record s { held = xs }))) → (xs : List Part) (s : State) → P s → P (first_leaving xs s)
keeps_by P step [] s p = p
keeps_by P step (x ∷ xs) s p = step x xs s p

pub releasing_keeps : (P : State → Type 0) → ((x : Part) (xs : List Part) (s : State) → P s → P (leaving x (record s { held = xs }))) → (n : ℕ) (s : State) → P s → P (releasing n s)
unfolding releasing
releasing_keeps P step zero s p = p
releasing_keeps P step (suc n) s p = releasing_keeps P step n (first_leaving s.held s) (keeps_by P step s.held s p)

free_by : (n : ℕ) (xs : List Part) (s : State) → s.held ≡ xs → s.windows.allowance ≡ suc n → ((t : State) → t.windows.allowance ≡ n → 0 < (releasing n t).windows.allowance → (releasing n t).held ≡ []) → 0 < (releasing n (first_leaving xs s)).windows.allowance → (releasing n (first_leaving xs s)).held ≡ []
free_by n [] s h a later p = ap (λ (t : State). t.held) (releasing_none n s h) ∙ h
free_by n (x ∷ xs) s h a later p = later (leaving x (record s { held = xs })) (omega arith) p

releasing_free : (n : ℕ) (s : State) → s.windows.allowance ≡ n → 0 < (releasing n s).windows.allowance → (releasing n s).held ≡ []
unfolding releasing
releasing_free zero s a p = absurd (omega arith)
releasing_free (suc n) s a p = free_by n s.held s refl a (releasing_free n) p

pub released_tidy : (s : State) → Reported s → IsTidy (released s)
released_tidy s p = record { free = releasing_free s.windows.allowance s refl; reported = releasing_keeps Reported (λ x xs t q. q) s.windows.allowance s p }

pub reporting_tidy : (s : State) → IsTidy s → IsTidy (reporting s)
reporting_tidy s p = record { free = p.free; reported = some_after _ }

pub handing_tidy : (x : LinkInput) (s : State) → IsTidy s → IsTidy (handing x s)
handing_tidy x s p = record { free = p.free; reported = p.reported }

pub saying_tidy : (x : FrameBody) (s : State) → IsTidy s → IsTidy (saying x s)
saying_tidy x s p = record { free = p.free; reported = p.reported }

stopping_tidy : (r : Option SessionStopReason) (why : SessionStopReason) (s : State) → IsTidy s → IsTidy (stopping r why s)
stopping_tidy None why s p = record { free = p.free; reported = p.reported }
stopping_tidy (Some first) why s p = p

pub stopped_tidy : (phase : SessionState) (why : SessionStopReason) (s : State) → IsTidy s → IsTidy (stopped phase why s)
stopped_tidy phase why s p = stopping_tidy s.stop_reason why (record s { state = phase; held = [] }) (record { free = λ q. refl; reported = p.reported })

pub ending_tidy : (e : Option AmqpError) (s : State) → IsTidy s → IsTidy (ending e s)
ending_tidy e s p = saying_tidy (b.End (record { error = e })) (stopped state.EndSent (own_reason e) s) (stopped_tidy state.EndSent (own_reason e) s p)

pub ended_tidy : (e : Option AmqpError) (s : State) → IsTidy s → IsTidy (ended e s)
ended_tidy e s p =
    let t = stopped state.Unmapped (remote_reason e) s in
    handing_tidy input.Over (saying (b.End (record { error = None })) t) (saying_tidy (b.End (record { error = None })) t (stopped_tidy state.Unmapped (remote_reason e) s p))

pub failing_tidy : (x : Fault) (s : State) → IsTidy s → IsTidy (failing x s).state
failing_tidy x s p = let q = ending_tidy (Some (error_for x)) s p in record { free = q.free; reported = q.reported }

pub refused_tidy : (phase : SessionState) (s : State) → IsTidy s → IsTidy (attach_refused phase s).state
refused_tidy state.BeginSent s p = p
refused_tidy state.Mapped s p = failing_tidy fault.RemoteAttachingLinkNameNotFound s p
refused_tidy state.EndSent s p = p
refused_tidy state.Unmapped s p = p

pub answered_tidy : (e : Option AmqpError) (s : State) → IsTidy s → IsTidy (answered e s).state
answered_tidy None s p = record { free = p.free; reported = p.reported }
answered_tidy (Some e) s p = record { free = p.free; reported = p.reported }

pub end_tidy : (phase : SessionState) (e : Option AmqpError) (s : State) → IsTidy s → IsTidy (end_asked phase e s).state
end_tidy state.BeginSent e s p = p
end_tidy state.Mapped e s p = ending_tidy e s p
end_tidy state.EndSent e s p = p
end_tidy state.Unmapped e s p = p

attach_at_tidy : (r : Option Role) (x : Attach) (s : State) → IsTidy s → IsTidy (attach_at r x s).state
attach_at_tidy (Some r) x s p = failing_tidy fault.HandleInUse s p
attach_at_tidy None x s p = record { free = p.free; reported = p.reported }

if_made : (c : Bool) (m n : Made) → IsTidy m.state → IsTidy n.state → IsTidy (if c then m else n).state
if_made true m n p q = p
if_made false m n p q = q

attach_tidy : (x : Attach) (s : State) → IsTidy s → IsTidy (attach_read x s).state
attach_tidy x s p = if_made (nat_lt s.own_handle_max x.handle) (record { state = s; answer = Some error.FramingError }) (attach_at (input_at x.handle s) x s) p (attach_at_tidy (input_at x.handle s) x s p)

detach_tidy : (r : Option Role) (x : Detach) (s : State) → IsTidy s → IsTidy (detach_at r x s).state
detach_tidy None x s p = failing_tidy fault.UnattachedHandle s p
detach_tidy (Some r) x s p = record { free = p.free; reported = p.reported }

report_if : (c : Bool) (s : State) → is_report_due s.windows ≡ c → (0 < s.windows.allowance → s.held ≡ []) → IsTidy (if c then reporting s else s)
report_if true s e h = record { free = h; reported = some_after _ }
report_if false s e h = record { free = h; reported = grind (arith, nat_tests) }

transfer_tidy : (r : Option Role) (x : Transfer) (payload : List ℕ) (s : State) → IsTidy s → IsTidy (transfer_at r x payload s).state
transfer_tidy None x payload s p = failing_tidy fault.UnattachedHandle s p
transfer_tidy (Some role.Receiver) x payload s p = failing_tidy fault.TransferFrameToSender s p
transfer_tidy (Some role.Sender) x payload s p = report_if _ _ refl p.free

hand_flow_tidy : (h : Option ℕ) (x : Flow) (s : State) → IsTidy s → IsTidy (hand_flow h x s)
hand_flow_tidy None x s p = p
hand_flow_tidy (Some h) x s p = handing_tidy (input.Flow x) s p

echo_tidy : (c : Bool) (s : State) → IsTidy s → IsTidy (echo c s)
echo_tidy true s p = reporting_tidy s p
echo_tidy false s p = p

flow_tidy : (c : Bool) (x : Flow) (s : State) → IsTidy s → IsTidy (flow_at c x s).state
flow_tidy true x s p = failing_tidy fault.UnattachedHandle s p
flow_tidy false x s p =
    let t : State = record s { windows = windows_flowed x s.windows } in
    echo_tidy x.echo (hand_flow x.handle x (released t)) (hand_flow_tidy x.handle x (released t) (released_tidy t p.reported))

heard_unanswered_tidy : (channel : ℕ) (x : FrameBody) (s : State) → IsTidy s → IsTidy (heard_unanswered channel x s).state
heard_unanswered_tidy channel (b.Open x) s p = p
heard_unanswered_tidy channel (b.Begin x) s p = released_tidy (mapped channel x s) p.reported
heard_unanswered_tidy channel (b.Attach x) s p = p
heard_unanswered_tidy channel (b.Flow x) s p = p
heard_unanswered_tidy channel (b.Transfer x payload) s p = p
heard_unanswered_tidy channel (b.Disposition x) s p = p
heard_unanswered_tidy channel (b.Detach x) s p = p
heard_unanswered_tidy channel (b.End x) s p = ended_tidy x.error s p
heard_unanswered_tidy channel (b.Close x) s p = p
heard_unanswered_tidy channel b.Empty s p = p

heard_mapped_tidy : (x : FrameBody) (s : State) → IsTidy s → IsTidy (heard_mapped x s).state
heard_mapped_tidy (b.Open x) s p = p
heard_mapped_tidy (b.Begin x) s p = p
heard_mapped_tidy (b.Attach x) s p = attach_tidy x s p
heard_mapped_tidy (b.Flow x) s p = flow_tidy (is_astray x.handle s) x s p
heard_mapped_tidy (b.Transfer x payload) s p = transfer_tidy (input_at x.handle s) x payload s p
heard_mapped_tidy (b.Disposition x) s p = handing_tidy (input.Disposition x) s p
heard_mapped_tidy (b.Detach x) s p = detach_tidy (input_at x.handle s) x s p
heard_mapped_tidy (b.End x) s p = ended_tidy x.error s p
heard_mapped_tidy (b.Close x) s p = p
heard_mapped_tidy b.Empty s p = p

heard_ending_tidy : (x : FrameBody) (s : State) → IsTidy s → IsTidy (heard_ending x s).state
heard_ending_tidy (b.Open x) s p = p
heard_ending_tidy (b.Begin x) s p = p
heard_ending_tidy (b.Attach x) s p = p
heard_ending_tidy (b.Flow x) s p = p
heard_ending_tidy (b.Transfer x payload) s p = p
heard_ending_tidy (b.Disposition x) s p = handing_tidy (input.Disposition x) s p
heard_ending_tidy (b.Detach x) s p = p
heard_ending_tidy (b.End x) s p = answered_tidy x.error s p
heard_ending_tidy (b.Close x) s p = p
heard_ending_tidy b.Empty s p = p

heard_in_tidy : (phase : SessionState) (x : Framed) (s : State) → IsTidy s → IsTidy (heard_in phase x s).state
heard_in_tidy state.BeginSent x s p = heard_unanswered_tidy x.channel x.body s p
heard_in_tidy state.Mapped x s p = heard_mapped_tidy x.body s p
heard_in_tidy state.EndSent x s p = heard_ending_tidy x.body s p
heard_in_tidy state.Unmapped x s p = p

pub heard_tidy : (x : Framed) (s : State) → IsTidy s → IsTidy (heard x s).state
heard_tidy x s p = heard_in_tidy s.state x s p

told_tidy : (x : LinkFrame) (s : State) → IsTidy s → IsTidy (told x s)
told_tidy (link.Attach x) s p = saying_tidy (b.Attach x) s p
told_tidy (link.Flow x) s p = record { free = p.free; reported = some_after _ }
told_tidy (link.Transfer x payload) s p = released_tidy (record s { held = s.held ++ record { transfer = x; payload = payload } ∷ [] }) p.reported
told_tidy (link.Disposition x covered) s p = saying_tidy (b.Disposition x) s p
told_tidy (link.Detach x) s p = record { free = λ q. ap (λ xs. filter (λ (y : Part). not (nat_eq y.transfer.handle x.handle)) xs) (p.free q); reported = p.reported }

pub told_in_tidy : (phase : SessionState) (x : LinkFrame) (s : State) → IsTidy s → IsTidy (told_in phase x s).state
told_in_tidy state.BeginSent x s p = p
told_in_tidy state.Mapped x s p = told_tidy x s p
told_in_tidy state.EndSent x s p = p
told_in_tidy state.Unmapped x s p = p

pub begun_tidy : (x : SessionSettings) (channel : ℕ) → IsTidy (begun x channel)
begun_tidy x channel = record { free = λ q. refl; reported = some_after _ }

pub accepted_tidy : (x : SessionSettings) (channel : ℕ) (incoming : IncomingSession) → IsTidy (accepted x channel incoming)
accepted_tidy x channel incoming = record { free = λ q. refl; reported = some_after _ }
