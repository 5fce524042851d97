-- A session writes on its own channel.
use Rattle.std.specs.Prelude.{◌≡◌, ℕ, zero, suc, Bool, true, false, nat_lt, List, [], ◌∷◌, ◌++◌, Option, Some, None, if◌then◌else◌, refl}
use Rattle.std.proofs.Common.{sym, ◌∙◌, ap, subst}
use Rattle.amqp_composites.specs.declared.error.Error.{Error as AmqpError}
use Rattle.amqp_composites.specs.declared.modes.Role.{Role}
use Rattle.amqp_composites.specs.declared.modes.Role.TheVariants as role
use Rattle.amqp_performatives.specs.declared.attach.Attach.{Attach}
use Rattle.amqp_performatives.specs.declared.begin.Begin.{Begin}
use Rattle.amqp_performatives.specs.declared.detach.Detach.{Detach}
use Rattle.amqp_performatives.specs.declared.flow.Flow.{Flow}
use Rattle.amqp_performatives.specs.declared.transfer.Transfer.{Transfer}
use Rattle.amqp_frames.specs.declared.body.FrameBody.{FrameBody}
use Rattle.amqp_frames.specs.declared.body.FrameBody.TheVariants as b
use Rattle.amqp_frames.specs.declared.shared.LinkFrame.{LinkFrame}
use Rattle.amqp_frames.specs.declared.shared.LinkFrame.TheVariants as link
use Rattle.amqp_frames.specs.declared.shared.SessionStopReason.{SessionStopReason}
use Rattle.amqp_parts.specs.declared.part.Part.{Part}
use Rattle.amqp_session.specs.declared.session.LinkInput.TheVariants as input
use Rattle.amqp_session.specs.declared.session.SessionState.{SessionState}
use Rattle.amqp_session.specs.declared.session.SessionState.TheVariants as state
use Rattle.amqp_session.specs.declared.error.Error.{Error}
use Rattle.amqp_session.specs.declared.error.Error.TheVariants.{FramingError}
use Rattle.amqp_session.specs.declared.error.Fault.{Fault}
use Rattle.amqp_session.specs.declared.error.Fault.TheVariants as fault
use Rattle.amqp_session.specs.Ends.{stopping, stopped, own_reason, remote_reason, ending, failing, ended, answered, end_asked, attach_refused}
use Rattle.amqp_session.specs.Faults.{error_for}
use Rattle.amqp_session.specs.Begin.{mapped}
use Rattle.amqp_session.specs.Frames.{heard_unanswered, heard_mapped, heard_ending, heard_in, told, told_in}
use Rattle.amqp_session.specs.Hold.{leaving, first_leaving, releasing, released, dropping, reporting}
use Rattle.amqp_session.specs.Links.{input_at, attach_at, attach_read, detach_at, report, transfer_at, hand_flow, echo, is_astray, flow_at}
use Rattle.amqp_session.specs.State.{State, Framed, Made, saying, handing, refuses as refused_with}
use Rattle.amqp_session.specs.Windows.{transfer_read, is_report_due, windows_flowed}
use Rattle.session_laws.specs.Holding.{Move, tells, hears, ends, refuses, stops, hands_frame, hands_input, rest_of, first_of, after, after_all, handed, handed_all}
use Rattle.session_lives.specs.Channels.{is_begun, IsJoined, AllOn, SpeaksOnItsOwn}

-- the channel stays, and what is to be written stays on it; once the peer has begun the session its channel stays too
pub record Keeps (s t : State) : Type 0 where
  pub channel : t.channel ≡ s.channel
  pub on : (c : ℕ) → s.channel ≡ c → AllOn c s.output → AllOn c t.output
  pub joined : (c : ℕ) → IsJoined c s → IsJoined c t

keeps_same : (s t : State) → t.channel ≡ s.channel → t.output ≡ s.output → t.remote_channel ≡ s.remote_channel → (is_begun s.state ≡ true → is_begun t.state ≡ true) → Keeps s t
keeps_same s t c o r b = record { channel = c; on = λ n at h. subst (AllOn n) (sym o) h; joined = λ n h. (r ∙ h.0, b h.1) }

keeps_still : (s : State) → Keeps s s
keeps_still s = keeps_same s s refl refl refl (λ h. h)

keeps_then : (s t u : State) → Keeps s t → Keeps t u → Keeps s u
keeps_then s t u p q = record { channel = q.channel ∙ p.channel; on = λ n at h. q.on n (p.channel ∙ at) (p.on n at h); joined = λ n h. q.joined n (p.joined n h) }

pub one_more : (c : ℕ) (xs : List Framed) (x : Framed) → x.channel ≡ c → AllOn c xs → AllOn c (xs ++ x ∷ [])
one_more c [] x e h = (e, tt)
one_more c (y ∷ ys) x e h = (h.0, one_more c ys x e h.1)

keeps_saying : (body : FrameBody) (s : State) → Keeps s (saying body s)
keeps_saying body s = record { channel = refl; on = λ n at h. one_more n s.output (record { channel = s.channel; body = body }) at h; joined = λ n h. h }

-- ---- the hold

leaving_keeps : (x : Part) (xs : List Part) (s : State) → Keeps s (leaving x (record s { held = xs }))
leaving_keeps x xs s = record { channel = refl; on = λ n at h. one_more n s.output _ at h; joined = λ n h. h }

first_keeps : (xs : List Part) (s : State) → Keeps s (first_leaving xs s)
first_keeps [] s = keeps_still s
first_keeps (x ∷ xs) s = leaving_keeps x xs s

releasing_keeps : (n : ℕ) (s : State) → Keeps s (releasing n s)
unfolding releasing
releasing_keeps zero s = keeps_still s
releasing_keeps (suc n) s = keeps_then s (first_leaving s.held s) (releasing n (first_leaving s.held s)) (first_keeps s.held s) (releasing_keeps n (first_leaving s.held s))

pub released_keeps : (s : State) → Keeps s (released s)
released_keeps s = releasing_keeps s.windows.allowance s

-- ---- the end

stopping_keeps : (o : Option SessionStopReason) (why : SessionStopReason) (s : State) → Keeps s (stopping o why s)
stopping_keeps None why s = keeps_same s _ refl refl refl (λ h. h)
stopping_keeps (Some first) why s = keeps_still s

stopped_keeps : (last : SessionState) (why : SessionStopReason) (s : State) → is_begun last ≡ true → Keeps s (stopped last why s)
stopped_keeps last why s e =
    let t : State = record s { state = last; held = [] } in
    keeps_then s t (stopped last why s) (keeps_same s t refl refl refl (λ h. e)) (stopping_keeps s.stop_reason why t)

ending_keeps : (e : Option AmqpError) (s : State) → Keeps s (ending e s)
ending_keeps e s =
    let t = stopped state.EndSent (own_reason e) s in
    keeps_then s t (ending e s) (stopped_keeps state.EndSent (own_reason e) s refl) (keeps_saying (b.End (record { error = e })) t)

failing_keeps : (x : Fault) (s : State) → Keeps s (failing x s).state
failing_keeps x s = keeps_then s (ending (Some (error_for x)) s) (failing x s).state (ending_keeps (Some (error_for x)) s) (keeps_same (ending (Some (error_for x)) s) (failing x s).state refl refl refl (λ h. h))

ended_keeps : (e : Option AmqpError) (s : State) → Keeps s (ended e s)
ended_keeps e s =
    let t = stopped state.Unmapped (remote_reason e) s in
    let u = saying (b.End (record { error = None })) t in
    keeps_then s t (ended e s) (stopped_keeps state.Unmapped (remote_reason e) s refl)
    (keeps_then t u (ended e s) (keeps_saying (b.End (record { error = None })) t) (keeps_same u (ended e s) refl refl refl (λ h. h)))

answered_keeps : (e : Option AmqpError) (s : State) → Keeps s (answered e s).state
answered_keeps None s = keeps_same s _ refl refl refl (λ h. refl)
answered_keeps (Some e) s = keeps_same s _ refl refl refl (λ h. refl)

-- ---- frames of the peer

attach_at_keeps : (o : Option Role) (x : Attach) (s : State) → Keeps s (attach_at o x s).state
attach_at_keeps (Some r) x s = failing_keeps fault.HandleInUse s
attach_at_keeps None x s = keeps_same s _ refl refl refl (λ h. h)

either_keeps : (c : Bool) (e : Error) (m : Made) (s : State) → Keeps s m.state → Keeps s (if c then refused_with e s else m).state
either_keeps true e m s p = keeps_still s
either_keeps false e m s p = p

attach_keeps : (x : Attach) (s : State) → Keeps s (attach_read x s).state
attach_keeps x s = either_keeps (nat_lt s.own_handle_max x.handle) FramingError (attach_at (input_at x.handle s) x s) s (attach_at_keeps (input_at x.handle s) x s)

detach_keeps : (o : Option Role) (x : Detach) (s : State) → Keeps s (detach_at o x s).state
detach_keeps None x s = failing_keeps fault.UnattachedHandle s
detach_keeps (Some r) x s = keeps_same s _ refl refl refl (λ h. h)

reporting_keeps : (s : State) → Keeps s (reporting s)
reporting_keeps s = record { channel = refl; on = λ n at h. one_more n s.output _ at h; joined = λ n h. h }

report_keeps : (s : State) → Keeps s (report s)
report_keeps s = by (is_report_due s.windows)
  where
    by : (c : Bool) → Keeps s (if c then reporting s else s)
    by true = reporting_keeps s
    by false = keeps_still s

transfer_keeps : (o : Option Role) (x : Transfer) (payload : List ℕ) (s : State) → Keeps s (transfer_at o x payload s).state
transfer_keeps None x payload s = failing_keeps fault.UnattachedHandle s
transfer_keeps (Some role.Receiver) x payload s = failing_keeps fault.TransferFrameToSender s
transfer_keeps (Some role.Sender) x payload s =
    let t = handing (input.Transfer x payload) (record s { windows = transfer_read s.windows }) in
    keeps_then s t (report t) (keeps_same s t refl refl refl (λ h. h)) (report_keeps t)

hand_keeps : (o : Option ℕ) (x : Flow) (s : State) → Keeps s (hand_flow o x s)
hand_keeps None x s = keeps_still s
hand_keeps (Some handle) x s = keeps_same s _ refl refl refl (λ h. h)

echo_keeps : (c : Bool) (s : State) → Keeps s (echo c s)
echo_keeps true s = reporting_keeps s
echo_keeps false s = keeps_still s

flow_keeps : (c : Bool) (x : Flow) (s : State) → Keeps s (flow_at c x s).state
flow_keeps true x s = failing_keeps fault.UnattachedHandle s
flow_keeps false x s =
    let t : State = record s { windows = windows_flowed x s.windows } in
    let u = released t in
    let v = hand_flow x.handle x u in
    keeps_then s t (echo x.echo v) (keeps_same s t refl refl refl (λ h. h)) (keeps_then t u (echo x.echo v) (released_keeps t) (keeps_then u v (echo x.echo v) (hand_keeps x.handle x u) (echo_keeps x.echo v)))

mapped_first : (channel : ℕ) (x : Begin) (s : State) → s.state ≡ state.BeginSent → Keeps s (mapped channel x s)
mapped_first channel x s e = record { channel = refl; on = λ n at h. h; joined = λ n h. let bad : false ≡ true = sym (ap is_begun e) ∙ h.1 in cc }

unanswered_keeps : (channel : ℕ) (body : FrameBody) (s : State) → s.state ≡ state.BeginSent → Keeps s (heard_unanswered channel body s).state
unanswered_keeps channel (b.Begin x) s e = let t = mapped channel x s in keeps_then s t (released t) (mapped_first channel x s e) (released_keeps t)
unanswered_keeps channel (b.End x) s e = ended_keeps x.error s
unanswered_keeps channel (b.Open x) s e = keeps_still s
unanswered_keeps channel (b.Attach x) s e = keeps_still s
unanswered_keeps channel (b.Flow x) s e = keeps_still s
unanswered_keeps channel (b.Transfer x payload) s e = keeps_still s
unanswered_keeps channel (b.Disposition x) s e = keeps_still s
unanswered_keeps channel (b.Detach x) s e = keeps_still s
unanswered_keeps channel (b.Close x) s e = keeps_still s
unanswered_keeps channel b.Empty s e = keeps_still s

mapped_keeps : (body : FrameBody) (s : State) → Keeps s (heard_mapped body s).state
mapped_keeps (b.Attach x) s = attach_keeps x s
mapped_keeps (b.Flow x) s = flow_keeps (is_astray x.handle s) x s
mapped_keeps (b.Transfer x payload) s = transfer_keeps (input_at x.handle s) x payload s
mapped_keeps (b.Disposition x) s = keeps_same s _ refl refl refl (λ h. h)
mapped_keeps (b.Detach x) s = detach_keeps (input_at x.handle s) x s
mapped_keeps (b.End x) s = ended_keeps x.error s
mapped_keeps (b.Begin x) s = keeps_still s
mapped_keeps (b.Open x) s = keeps_still s
mapped_keeps (b.Close x) s = keeps_still s
mapped_keeps b.Empty s = keeps_still s

ending_heard_keeps : (body : FrameBody) (s : State) → Keeps s (heard_ending body s).state
ending_heard_keeps (b.Disposition x) s = keeps_same s _ refl refl refl (λ h. h)
ending_heard_keeps (b.End x) s = answered_keeps x.error s
ending_heard_keeps (b.Begin x) s = keeps_still s
ending_heard_keeps (b.Open x) s = keeps_still s
ending_heard_keeps (b.Attach x) s = keeps_still s
ending_heard_keeps (b.Flow x) s = keeps_still s
ending_heard_keeps (b.Transfer x payload) s = keeps_still s
ending_heard_keeps (b.Detach x) s = keeps_still s
ending_heard_keeps (b.Close x) s = keeps_still s
ending_heard_keeps b.Empty s = keeps_still s

pub heard_keeps : (phase : SessionState) (x : Framed) (s : State) → s.state ≡ phase → Keeps s (heard_in phase x s).state
heard_keeps state.BeginSent x s e = unanswered_keeps x.channel x.body s e
heard_keeps state.Mapped x s e = mapped_keeps x.body s
heard_keeps state.EndSent x s e = ending_heard_keeps x.body s
heard_keeps state.Unmapped x s e = keeps_still s

-- ---- frames of links

told_keeps : (x : LinkFrame) (s : State) → Keeps s (told x s)
told_keeps (link.Attach x) s = keeps_saying (b.Attach x) s
told_keeps (link.Flow x) s = record { channel = refl; on = λ n at h. one_more n s.output _ at h; joined = λ n h. h }
told_keeps (link.Transfer x payload) s =
    let t : State = record s { held = s.held ++ record { transfer = x; payload = payload } ∷ [] } in keeps_then s t (released t) (keeps_same s t refl refl refl (λ h. h)) (released_keeps t)
told_keeps (link.Disposition x covered) s = keeps_saying (b.Disposition x) s
told_keeps (link.Detach x) s = let t = dropping x.handle s in keeps_then s t (saying (b.Detach x) t) (keeps_same s t refl refl refl (λ h. h)) (keeps_saying (b.Detach x) t)

told_in_keeps : (phase : SessionState) (x : LinkFrame) (s : State) → Keeps s (told_in phase x s).state
told_in_keeps state.Mapped x s = told_keeps x s
told_in_keeps state.BeginSent x s = keeps_still s
told_in_keeps state.EndSent x s = keeps_still s
told_in_keeps state.Unmapped x s = keeps_still s

asked_keeps : (phase : SessionState) (e : Option AmqpError) (s : State) → Keeps s (end_asked phase e s).state
asked_keeps state.Mapped e s = ending_keeps e s
asked_keeps state.BeginSent e s = keeps_still s
asked_keeps state.EndSent e s = keeps_still s
asked_keeps state.Unmapped e s = keeps_still s

refused_keeps : (phase : SessionState) (s : State) → Keeps s (attach_refused phase s).state
refused_keeps state.Mapped s = failing_keeps fault.RemoteAttachingLinkNameNotFound s
refused_keeps state.BeginSent s = keeps_still s
refused_keeps state.EndSent s = keeps_still s
refused_keeps state.Unmapped s = keeps_still s

-- ---- moves

rest_on : (c : ℕ) (xs : List Framed) → AllOn c xs → AllOn c (rest_of xs)
rest_on c [] h = tt
rest_on c (x ∷ xs) h = h.1

first_on : (c : ℕ) (xs : List Framed) → AllOn c xs → AllOn c (first_of xs)
first_on c [] h = tt
first_on c (x ∷ xs) h = (h.0, tt)

pub move_keeps : (s : State) (m : Move) → Keeps s (after s m)
move_keeps s (tells x) = told_in_keeps s.state x s
move_keeps s (hears x) = heard_keeps s.state x s refl
move_keeps s (ends e) = asked_keeps s.state e s
move_keeps s refuses = refused_keeps s.state s
move_keeps s (stops why) = stopped_keeps state.Unmapped why s refl
move_keeps s hands_frame = record { channel = refl; on = λ n at h. rest_on n s.output h; joined = λ n h. h }
move_keeps s hands_input = keeps_same s _ refl refl refl (λ h. h)

handed_on : (c : ℕ) (s : State) (m : Move) → AllOn c s.output → AllOn c (handed s m)
handed_on c s hands_frame h = first_on c s.output h
handed_on c s (tells x) h = tt
handed_on c s (hears x) h = tt
handed_on c s (ends e) h = tt
handed_on c s refuses h = tt
handed_on c s (stops why) h = tt
handed_on c s hands_input h = tt

all_more : (c : ℕ) (xs ys : List Framed) → AllOn c xs → AllOn c ys → AllOn c (xs ++ ys)
all_more c [] ys p q = q
all_more c (x ∷ xs) ys p q = (p.0, all_more c xs ys p.1 q)

pub speaks_on_its_own : SpeaksOnItsOwn
speaks_on_its_own c s [] at on = record { channel = at; written = tt; left = on }
speaks_on_its_own c s (m ∷ ms) at on =
    let k = move_keeps s m in
    let t = after s m in
    let r = speaks_on_its_own c t ms (k.channel ∙ at) (k.on c at on) in
    record { channel = r.channel; written = all_more c (handed s m) (handed_all t ms) (handed_on c s m on) r.written; left = r.left }

-- moves leave a session on its channels
pub moves_keep : (s : State) (ms : List Move) → Keeps s (after_all s ms)
moves_keep s [] = keeps_still s
moves_keep s (m ∷ ms) = keeps_then s (after s m) (after_all (after s m) ms) (move_keeps s m) (moves_keep (after s m) ms)
