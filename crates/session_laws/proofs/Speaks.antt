-- What a session writes for its links, and what it hands to them.
use Rattle.std.specs.Prelude.{◌≡◌, ℕ, zero, suc, Bool, true, false, nat_lt, List, [], ◌∷◌, ◌++◌, Option, Some, None, if◌then◌else◌, refl}
use Rattle.std.proofs.Common.{sym, subst}
use Rattle.amqp_composites.specs.declared.error.Error.{Error as AmqpError}
use Rattle.amqp_composites.specs.declared.modes.Role.{Role}
use Rattle.amqp_composites.specs.declared.modes.Role.TheVariants as role
use Rattle.amqp_performatives.specs.declared.attach.Attach.{Attach}
use Rattle.amqp_performatives.specs.declared.detach.Detach.{Detach}
use Rattle.amqp_performatives.specs.declared.end.End.{End}
use Rattle.amqp_performatives.specs.declared.flow.Flow.{Flow}
use Rattle.amqp_performatives.specs.declared.transfer.Transfer.{Transfer}
use Rattle.amqp_frames.specs.declared.body.FrameBody.{FrameBody}
use Rattle.amqp_frames.specs.declared.body.FrameBody.TheVariants as b
use Rattle.amqp_frames.specs.declared.shared.LinkFrame.{LinkFrame}
use Rattle.amqp_frames.specs.declared.shared.LinkFrame.TheVariants as link
use Rattle.amqp_frames.specs.declared.shared.SessionStopReason.{SessionStopReason}
use Rattle.amqp_parts.specs.declared.part.Part.{Part}
use Rattle.amqp_parts.specs.Cut.{cut_of}
use Rattle.amqp_session.specs.declared.error.Error.{Error}
use Rattle.amqp_session.specs.declared.error.Error.TheVariants.{FramingError}
use Rattle.amqp_session.specs.declared.error.Fault.{Fault}
use Rattle.amqp_session.specs.declared.error.Fault.TheVariants as fault
use Rattle.amqp_session.specs.declared.session.LinkInput.{LinkInput}
use Rattle.amqp_session.specs.declared.session.LinkInput.TheVariants as input
use Rattle.amqp_session.specs.declared.session.SessionState.{SessionState}
use Rattle.amqp_session.specs.declared.session.SessionState.TheVariants as state
use Rattle.amqp_session.specs.declared.windows.Windows.{Windows}
use Rattle.amqp_session.specs.Begin.{mapped}
use Rattle.amqp_session.specs.Ends.{stopping, stopped, saying_end, own_reason, remote_reason, ending, failing, ended, answered, end_asked, attach_refused}
use Rattle.amqp_session.specs.Faults.{error_for}
use Rattle.amqp_session.specs.Frames.{heard_in, heard_unanswered, heard_mapped, heard_ending, told_in}
use Rattle.amqp_session.specs.Hold.{numbered, left_of, leaving, first_leaving, releasing, released, reporting}
use Rattle.amqp_session.specs.Links.{input_at, attach_at, detach_at, report, transfer_at, hand_flow, echo, is_astray, flow_at}
use Rattle.amqp_session.specs.State.{State, Framed, handing}
use Rattle.amqp_session.specs.State.{refuses as refused_with}
use Rattle.amqp_session.specs.Windows.{stamped, session_flow, transfer_read, is_report_due, windows_flowed}
use Rattle.session_laws.specs.Holding.{Move, tells, hears, ends, refuses, stops, hands_frame, hands_input, rest_of, first_of, after, after_all, handed, handed_all, written}
use Rattle.session_laws.specs.Handing.{taken_by, taken, handed_over}
use Rattle.session_laws.proofs.Lists.{Each, each_both, each_first, each_last}

-- What holds of each frame that a session writes by itself, W, and of what it hands to links by itself, C. A delivery that begins to leave is handed
-- over where its frame was written, V.
pub record Fair (W V : FrameBody → Type 0) (C : LinkInput → Type 0) : Type 0 where
  pub transfer : (x : Transfer) (payload : List ℕ) → W (b.Transfer x payload)
  pub ends : (x : End) → W (b.End x)
  pub flow : (w : Windows) → W (b.Flow (session_flow w))
  pub attach : (x : Attach) → C (input.Attach x)
  pub detach : (x : Detach) → C (input.Detach x)
  pub part : (x : Transfer) (payload : List ℕ) → C (input.Transfer x payload)
  pub stops : (why : SessionStopReason) → C (input.Stopped why)
  pub over : C input.Over
  pub left : (frame n : ℕ) (x : Transfer) (payload : List ℕ) → V (b.Transfer (cut_of frame (numbered n x) payload).first.transfer (cut_of frame (numbered n x) payload).first.payload) → Each C (left_of x.delivery_tag n x)

abbrev pub Of : (FrameBody → Type 0) → Framed → Type 0
Of W x = W x.body

record Keeps (W V : FrameBody → Type 0) (C : LinkInput → Type 0) (s t : State) : Type 0 where
  wrote : Each (Of W) s.output → Each (Of W) t.output
  before : Each (Of V) t.output → Each (Of V) s.output
  hands : Each (Of V) t.output → Each C s.incoming → Each C t.incoming

same : (W V : FrameBody → Type 0) (C : LinkInput → Type 0) (s t : State) → t.output ≡ s.output → t.incoming ≡ s.incoming → Keeps W V C s t
same W V C s t o i = record {
  wrote = λ h. subst (λ (xs : List Framed). Each (Of W) xs) (sym o) h;
  before = λ h. subst (λ (xs : List Framed). Each (Of V) xs) o h;
  hands = λ v h. subst (λ (xs : List LinkInput). Each C xs) (sym i) h;
}

keeps_then : (W V : FrameBody → Type 0) (C : LinkInput → Type 0) (s t u : State) → Keeps W V C s t → Keeps W V C t u → Keeps W V C s u
keeps_then W V C s t u a c = record { wrote = λ h. c.wrote (a.wrote h); before = λ h. a.before (c.before h); hands = λ v h. c.hands v (a.hands (c.before v) h) }

-- a frame is written
says : (W V : FrameBody → Type 0) (C : LinkInput → Type 0) (s t : State) (x : Framed) → t.output ≡ s.output ++ x ∷ [] → W x.body → t.incoming ≡ s.incoming → Keeps W V C s t
says W V C s t x o w i = record {
  wrote = λ h. subst (λ (xs : List Framed). Each (Of W) xs) (sym o) (each_both (Of W) s.output (x ∷ []) h (w, tt));
  before = λ h. each_first (Of V) s.output (x ∷ []) (subst (λ (xs : List Framed). Each (Of V) xs) o h);
  hands = λ v h. subst (λ (xs : List LinkInput). Each C xs) (sym i) h;
}

-- the links are handed something
gives : (W V : FrameBody → Type 0) (C : LinkInput → Type 0) (s t : State) (x : LinkInput) → t.output ≡ s.output → t.incoming ≡ s.incoming ++ x ∷ [] → C x → Keeps W V C s t
gives W V C s t x o i c = record {
  wrote = λ h. subst (λ (xs : List Framed). Each (Of W) xs) (sym o) h;
  before = λ h. subst (λ (xs : List Framed). Each (Of V) xs) o h;
  hands = λ v h. subst (λ (xs : List LinkInput). Each C xs) (sym i) (each_both C s.incoming (x ∷ []) h (c, tt));
}

-- ---- the hold

leaving_keeps : (W V : FrameBody → Type 0) (C : LinkInput → Type 0) → Fair W V C → (x : Part) (xs : List Part) (s : State) → Keeps W V C s (leaving x (record s { held = xs }))
leaving_keeps W V C f x xs s =
    let n = s.windows.next_delivery_id in
    let c = cut_of s.max_frame_size (numbered n x.transfer) x.payload in
    record {
      wrote = λ h. each_both (Of W) s.output _ h (f.transfer c.first.transfer c.first.payload, tt);
      before = λ h. each_first (Of V) s.output _ h;
      hands = λ v h. (let l = each_last (Of V) s.output (record { channel = s.channel; body = b.Transfer c.first.transfer c.first.payload } ∷ []) v in
          each_both C s.incoming (left_of x.transfer.delivery_tag n x.transfer) h (f.left s.max_frame_size n x.transfer x.payload l.0));
    }

first_keeps : (W V : FrameBody → Type 0) (C : LinkInput → Type 0) → Fair W V C → (xs : List Part) (s : State) → Keeps W V C s (first_leaving xs s)
first_keeps W V C f [] s = same W V C s s refl refl
first_keeps W V C f (x ∷ xs) s = leaving_keeps W V C f x xs s

releasing_keeps : (W V : FrameBody → Type 0) (C : LinkInput → Type 0) → Fair W V C → (n : ℕ) (s : State) → Keeps W V C s (releasing n s)
unfolding releasing
releasing_keeps W V C f zero s = same W V C s s refl refl
releasing_keeps W V C f (suc n) s = keeps_then W V C s (first_leaving s.held s) (releasing n (first_leaving s.held s)) (first_keeps W V C f s.held s) (releasing_keeps W V C f n (first_leaving s.held s))

released_keeps : (W V : FrameBody → Type 0) (C : LinkInput → Type 0) → Fair W V C → (s : State) → Keeps W V C s (released s)
released_keeps W V C f s = releasing_keeps W V C f s.windows.allowance s

-- ---- the end

stopping_keeps : (W V : FrameBody → Type 0) (C : LinkInput → Type 0) → Fair W V C → (o : Option SessionStopReason) (why : SessionStopReason) (s : State) → Keeps W V C s (stopping o why s)
stopping_keeps W V C f None why s = gives W V C s _ (input.Stopped why) refl refl (f.stops why)
stopping_keeps W V C f (Some first) why s = same W V C s s refl refl

stopped_keeps : (W V : FrameBody → Type 0) (C : LinkInput → Type 0) → Fair W V C → (last : SessionState) (why : SessionStopReason) (s : State) → Keeps W V C s (stopped last why s)
stopped_keeps W V C f last why s =
    let t : State = record s { state = last; held = [] } in keeps_then W V C s t (stopped last why s) (same W V C s t refl refl) (stopping_keeps W V C f s.stop_reason why t)

ending_keeps : (W V : FrameBody → Type 0) (C : LinkInput → Type 0) → Fair W V C → (e : Option AmqpError) (s : State) → Keeps W V C s (ending e s)
ending_keeps W V C f e s =
    let t = stopped state.EndSent (own_reason e) s in
    keeps_then W V C s t (ending e s) (stopped_keeps W V C f state.EndSent (own_reason e) s) (says W V C t (ending e s) (record { channel = t.channel; body = b.End (record { error = e }) }) refl (f.ends _) refl)

failing_keeps : (W V : FrameBody → Type 0) (C : LinkInput → Type 0) → Fair W V C → (x : Fault) (s : State) → Keeps W V C s (failing x s).state
failing_keeps W V C f x s =
    keeps_then W V C s (ending (Some (error_for x)) s) (failing x s).state (ending_keeps W V C f (Some (error_for x)) s) (same W V C (ending (Some (error_for x)) s) (failing x s).state refl refl)

ended_keeps : (W V : FrameBody → Type 0) (C : LinkInput → Type 0) → Fair W V C → (e : Option AmqpError) (s : State) → Keeps W V C s (ended e s)
ended_keeps W V C f e s =
    let t = stopped state.Unmapped (remote_reason e) s in
    let u = saying_end None t in
    keeps_then W V C s t (ended e s) (stopped_keeps W V C f state.Unmapped (remote_reason e) s)
    (keeps_then W V C t u (ended e s) (says W V C t u (record { channel = t.channel; body = b.End (record { error = None }) }) refl (f.ends _) refl) (gives W V C u (ended e s) input.Over refl refl f.over))

answered_keeps : (W V : FrameBody → Type 0) (C : LinkInput → Type 0) → Fair W V C → (e : Option AmqpError) (s : State) → Keeps W V C s (answered e s).state
answered_keeps W V C f None s = gives W V C s _ input.Over refl refl f.over
answered_keeps W V C f (Some e) s = gives W V C s _ input.Over refl refl f.over

-- ---- what is read

reporting_keeps : (W V : FrameBody → Type 0) (C : LinkInput → Type 0) → Fair W V C → (s : State) → Keeps W V C s (reporting s)
reporting_keeps W V C f s = says W V C s (reporting s) (record { channel = s.channel; body = b.Flow (session_flow s.windows) }) refl (f.flow s.windows) refl

report_if : (W V : FrameBody → Type 0) (C : LinkInput → Type 0) → Fair W V C → (c : Bool) (s : State) → Keeps W V C s (if c then reporting s else s)
report_if W V C f true s = reporting_keeps W V C f s
report_if W V C f false s = same W V C s s refl refl

echo_keeps : (W V : FrameBody → Type 0) (C : LinkInput → Type 0) → Fair W V C → (c : Bool) (s : State) → Keeps W V C s (echo c s)
echo_keeps W V C f true s = reporting_keeps W V C f s
echo_keeps W V C f false s = same W V C s s refl refl

-- what a frame brings to the links
abbrev pub Brings : (LinkInput → Type 0) → FrameBody → Type 0
Brings C (b.Flow x) = C (input.Flow x)
Brings C (b.Disposition x) = C (input.Disposition x)
Brings C other = Unit {0}

hand_keeps : (W V : FrameBody → Type 0) (C : LinkInput → Type 0) (o : Option ℕ) (x : Flow) (s : State) → C (input.Flow x) → Keeps W V C s (hand_flow o x s)
hand_keeps W V C None x s c = same W V C s s refl refl
hand_keeps W V C (Some h) x s c = gives W V C s _ (input.Flow x) refl refl c

flow_keeps : (W V : FrameBody → Type 0) (C : LinkInput → Type 0) → Fair W V C → (astray : Bool) (x : Flow) (s : State) → C (input.Flow x) → Keeps W V C s (flow_at astray x s).state
flow_keeps W V C f true x s c = failing_keeps W V C f fault.UnattachedHandle s
flow_keeps W V C f false x s c =
    let t : State = record s { windows = windows_flowed x s.windows } in
    let u = released t in
    let v = hand_flow x.handle x u in
    keeps_then W V C s t (echo x.echo v) (same W V C s t refl refl)
    (keeps_then W V C t u (echo x.echo v) (released_keeps W V C f t) (keeps_then W V C u v (echo x.echo v) (hand_keeps W V C x.handle x u c) (echo_keeps W V C f x.echo v)))

attach_keeps : (W V : FrameBody → Type 0) (C : LinkInput → Type 0) → Fair W V C → (o : Option Role) (x : Attach) (s : State) → Keeps W V C s (attach_at o x s).state
attach_keeps W V C f (Some r) x s = failing_keeps W V C f fault.HandleInUse s
attach_keeps W V C f None x s = gives W V C s _ (input.Attach x) refl refl (f.attach x)

attach_if : (W V : FrameBody → Type 0) (C : LinkInput → Type 0) → Fair W V C → (c : Bool) (e : Error) (o : Option Role) (x : Attach) (s : State) → Keeps W V C s (if c then refused_with e s else attach_at o x s).state
attach_if W V C f true e o x s = same W V C s s refl refl
attach_if W V C f false e o x s = attach_keeps W V C f o x s

detach_keeps : (W V : FrameBody → Type 0) (C : LinkInput → Type 0) → Fair W V C → (o : Option Role) (x : Detach) (s : State) → Keeps W V C s (detach_at o x s).state
detach_keeps W V C f None x s = failing_keeps W V C f fault.UnattachedHandle s
detach_keeps W V C f (Some r) x s = gives W V C s _ (input.Detach x) refl refl (f.detach x)

transfer_keeps : (W V : FrameBody → Type 0) (C : LinkInput → Type 0) → Fair W V C → (o : Option Role) (x : Transfer) (payload : List ℕ) (s : State) → Keeps W V C s (transfer_at o x payload s).state
transfer_keeps W V C f None x payload s = failing_keeps W V C f fault.UnattachedHandle s
transfer_keeps W V C f (Some role.Receiver) x payload s = failing_keeps W V C f fault.TransferFrameToSender s
transfer_keeps W V C f (Some role.Sender) x payload s =
    let t : State = handing (input.Transfer x payload) (record s { windows = transfer_read s.windows }) in
    keeps_then W V C s t (report t) (gives W V C s t (input.Transfer x payload) refl refl (f.part x payload)) (report_if W V C f (is_report_due t.windows) t)

mapped_keeps : (W V : FrameBody → Type 0) (C : LinkInput → Type 0) → Fair W V C → (x : FrameBody) (s : State) → Brings C x → Keeps W V C s (heard_mapped x s).state
mapped_keeps W V C f (b.Attach x) s c = attach_if W V C f (nat_lt s.own_handle_max x.handle) FramingError (input_at x.handle s) x s
mapped_keeps W V C f (b.Flow x) s c = flow_keeps W V C f (is_astray x.handle s) x s c
mapped_keeps W V C f (b.Transfer x payload) s c = transfer_keeps W V C f (input_at x.handle s) x payload s
mapped_keeps W V C f (b.Disposition x) s c = gives W V C s _ (input.Disposition x) refl refl c
mapped_keeps W V C f (b.Detach x) s c = detach_keeps W V C f (input_at x.handle s) x s
mapped_keeps W V C f (b.End x) s c = ended_keeps W V C f x.error s
mapped_keeps W V C f other s c = same W V C s s refl refl

unanswered_keeps : (W V : FrameBody → Type 0) (C : LinkInput → Type 0) → Fair W V C → (channel : ℕ) (x : FrameBody) (s : State) → Keeps W V C s (heard_unanswered channel x s).state
unanswered_keeps W V C f channel (b.Begin x) s = (let t = mapped channel x s in keeps_then W V C s t (released t) (same W V C s t refl refl) (released_keeps W V C f t))
unanswered_keeps W V C f channel (b.End x) s = ended_keeps W V C f x.error s
unanswered_keeps W V C f channel other s = same W V C s s refl refl

late_keeps : (W V : FrameBody → Type 0) (C : LinkInput → Type 0) → Fair W V C → (x : FrameBody) (s : State) → Brings C x → Keeps W V C s (heard_ending x s).state
late_keeps W V C f (b.Disposition x) s c = gives W V C s _ (input.Disposition x) refl refl c
late_keeps W V C f (b.End x) s c = answered_keeps W V C f x.error s
late_keeps W V C f other s c = same W V C s s refl refl

heard_keeps : (W V : FrameBody → Type 0) (C : LinkInput → Type 0) → Fair W V C → (p : SessionState) (x : Framed) (s : State) → Brings C x.body → Keeps W V C s (heard_in p x s).state
heard_keeps W V C f state.BeginSent x s c = unanswered_keeps W V C f x.channel x.body s
heard_keeps W V C f state.Mapped x s c = mapped_keeps W V C f x.body s c
heard_keeps W V C f state.EndSent x s c = late_keeps W V C f x.body s c
heard_keeps W V C f state.Unmapped x s c = same W V C s s refl refl

-- ---- what is told

-- what a session writes of a frame of a link: a Flow has the state of the session beside
abbrev pub Tells : (FrameBody → Type 0) → LinkFrame → Type 0
Tells W (link.Attach x) = W (b.Attach x)
Tells W (link.Flow x) = (w : Windows) → W (b.Flow (stamped w x))
Tells W (link.Transfer x payload) = Unit {0}
Tells W (link.Disposition x covered) = W (b.Disposition x)
Tells W (link.Detach x) = W (b.Detach x)

abbrev pub TellsIn : (FrameBody → Type 0) → SessionState → LinkFrame → Type 0
TellsIn W state.Mapped x = Tells W x
TellsIn W phase x = Unit {0}

told_keeps : (W V : FrameBody → Type 0) (C : LinkInput → Type 0) → Fair W V C → (p : SessionState) (x : LinkFrame) (s : State) → TellsIn W p x → Keeps W V C s (told_in p x s).state
told_keeps W V C f state.Mapped (link.Attach x) s w = says W V C s _ (record { channel = s.channel; body = b.Attach x }) refl w refl
told_keeps W V C f state.Mapped (link.Flow x) s w = says W V C s _ (record { channel = s.channel; body = b.Flow (stamped s.windows x) }) refl (w s.windows) refl
told_keeps W V C f state.Mapped (link.Transfer x payload) s w =
    let t : State = record s { held = s.held ++ record { transfer = x; payload = payload } ∷ [] } in keeps_then W V C s t (released t) (same W V C s t refl refl) (released_keeps W V C f t)
told_keeps W V C f state.Mapped (link.Disposition x c) s w = says W V C s _ (record { channel = s.channel; body = b.Disposition x }) refl w refl
told_keeps W V C f state.Mapped (link.Detach x) s w = says W V C s _ (record { channel = s.channel; body = b.Detach x }) refl w refl
told_keeps W V C f state.BeginSent x s w = same W V C s s refl refl
told_keeps W V C f state.EndSent x s w = same W V C s s refl refl
told_keeps W V C f state.Unmapped x s w = same W V C s s refl refl

asked_keeps : (W V : FrameBody → Type 0) (C : LinkInput → Type 0) → Fair W V C → (p : SessionState) (e : Option AmqpError) (s : State) → Keeps W V C s (end_asked p e s).state
asked_keeps W V C f state.Mapped e s = ending_keeps W V C f e s
asked_keeps W V C f state.BeginSent e s = same W V C s s refl refl
asked_keeps W V C f state.EndSent e s = same W V C s s refl refl
asked_keeps W V C f state.Unmapped e s = same W V C s s refl refl

refused_keeps : (W V : FrameBody → Type 0) (C : LinkInput → Type 0) → Fair W V C → (p : SessionState) (s : State) → Keeps W V C s (attach_refused p s).state
refused_keeps W V C f state.Mapped s = failing_keeps W V C f fault.RemoteAttachingLinkNameNotFound s
refused_keeps W V C f state.BeginSent s = same W V C s s refl refl
refused_keeps W V C f state.EndSent s = same W V C s s refl refl
refused_keeps W V C f state.Unmapped s = same W V C s s refl refl

-- ---- over its life

-- what a move tells, and what it hears
abbrev pub Told : (FrameBody → Type 0) → State → Move → Type 0
Told W s (tells x) = TellsIn W s.state x
Told W s other = Unit {0}

abbrev pub Hears : (LinkInput → Type 0) → Move → Type 0
Hears C (hears x) = Brings C x.body
Hears C other = Unit {0}

abbrev pub AllTold : (FrameBody → Type 0) → State → List Move → Type 0
AllTold W s [] = Unit {0}
AllTold W s (m ∷ ms) = Told W s m × AllTold W (after s m) ms

abbrev pub AllHears : (LinkInput → Type 0) → List Move → Type 0
AllHears C [] = Unit {0}
AllHears C (m ∷ ms) = Hears C m × AllHears C ms

first_each : {X : Type 0} → (P : X → Type 0) (xs : List X) → Each P xs → Each P (first_of xs)
first_each P [] h = tt
first_each P (x ∷ xs) h = (h.0, tt)

rest_each : {X : Type 0} → (P : X → Type 0) (xs : List X) → Each P xs → Each P (rest_of xs)
rest_each P [] h = tt
rest_each P (x ∷ xs) h = h.1

split_each : {X : Type 0} → (P : X → Type 0) (xs : List X) → Each P (first_of xs) → Each P (rest_of xs) → Each P xs
split_each P [] h k = tt
split_each P (x ∷ xs) h k = (h.0, k)

-- one move
record Goes (W V : FrameBody → Type 0) (C : LinkInput → Type 0) (s : State) (m : Move) : Type 0 where
  wrote : Each (Of W) s.output → (Each (Of W) (handed s m)) × Each (Of W) (after s m).output
  before : Each (Of V) (handed s m) → Each (Of V) (after s m).output → Each (Of V) s.output
  hands : Each (Of V) (handed s m) → Each (Of V) (after s m).output → Each C s.incoming → (Each C (taken_by s m)) × Each C (after s m).incoming

goes_by : (W V : FrameBody → Type 0) (C : LinkInput → Type 0) (s : State) (m : Move) → handed s m ≡ [] → taken_by s m ≡ [] → Keeps W V C s (after s m) → Goes W V C s m
goes_by W V C s m e g k = record {
  wrote = λ h. (subst (λ (xs : List Framed). Each (Of W) xs) (sym e) tt, k.wrote h);
  before = λ u v. k.before v;
  hands = λ u v h. (subst (λ (xs : List LinkInput). Each C xs) (sym g) tt, k.hands v h);
}

goes : (W V : FrameBody → Type 0) (C : LinkInput → Type 0) → Fair W V C → (s : State) (m : Move) → Told W s m → Hears C m → Goes W V C s m
goes W V C f s (tells x) w c = goes_by W V C s (tells x) refl refl (told_keeps W V C f s.state x s w)
goes W V C f s (hears x) w c = goes_by W V C s (hears x) refl refl (heard_keeps W V C f s.state x s c)
goes W V C f s (ends e) w c = goes_by W V C s (ends e) refl refl (asked_keeps W V C f s.state e s)
goes W V C f s refuses w c = goes_by W V C s refuses refl refl (refused_keeps W V C f s.state s)
goes W V C f s (stops why) w c = goes_by W V C s (stops why) refl refl (stopped_keeps W V C f state.Unmapped why s)
goes W V C f s hands_frame w c = record {
  wrote = λ h. (first_each (Of W) s.output h, rest_each (Of W) s.output h);
  before = λ u v. split_each (Of V) s.output u v;
  hands = λ u v h. (tt, h);
}
goes W V C f s hands_input w c = record {
  wrote = λ h. (tt, h);
  before = λ u v. v;
  hands = λ u v h. (first_each C s.incoming h, rest_each C s.incoming h);
}

-- all that it writes
pub all_written : (W V : FrameBody → Type 0) (C : LinkInput → Type 0) → Fair W V C → (s : State) (ms : List Move) → AllTold W s ms → AllHears C ms → Each (Of W) s.output → Each (Of W) (written s ms)
all_written W V C f s [] w c h = h
all_written W V C f s (m ∷ ms) w c h =
    let g = goes W V C f s m w.0 c.0 in
    let o = g.wrote h in
    let t = after s m in
    let l = all_written W V C f t ms w.1 c.1 o.1 in
    each_both (Of W) (handed s m ++ handed_all t ms) (after_all t ms).output
    (each_both (Of W) (handed s m) (handed_all t ms) o.0 (each_first (Of W) (handed_all t ms) (after_all t ms).output l)) (each_last (Of W) (handed_all t ms) (after_all t ms).output l)

-- what was to be written at first is written
was_written : (W V : FrameBody → Type 0) (C : LinkInput → Type 0) → Fair W V C → (s : State) (ms : List Move) → AllTold W s ms → AllHears C ms → Each (Of V) (written s ms) → Each (Of V) s.output
was_written W V C f s [] w c h = h
was_written W V C f s (m ∷ ms) w c h =
    let t = after s m in
    let o = each_first (Of V) (handed s m ++ handed_all t ms) (after_all t ms).output h in
    let e = each_last (Of V) (handed s m ++ handed_all t ms) (after_all t ms).output h in
    let l = was_written W V C f t ms w.1 c.1 (each_both (Of V) (handed_all t ms) (after_all t ms).output (each_last (Of V) (handed s m) (handed_all t ms) o) e) in
    (goes W V C f s m w.0 c.0).before (each_first (Of V) (handed s m) (handed_all t ms) o) l

-- all that it hands over
pub all_handed : (W V : FrameBody → Type 0) (C : LinkInput → Type 0) → Fair W V C → (s : State) (ms : List Move) → AllTold W s ms → AllHears C ms → Each (Of V) (written s ms) → Each C s.incoming → Each C (handed_over s ms)
all_handed W V C f s [] w c v h = h
all_handed W V C f s (m ∷ ms) w c v h =
    let t = after s m in
    let o = each_first (Of V) (handed s m ++ handed_all t ms) (after_all t ms).output v in
    let e = each_last (Of V) (handed s m ++ handed_all t ms) (after_all t ms).output v in
    let rest = each_both (Of V) (handed_all t ms) (after_all t ms).output (each_last (Of V) (handed s m) (handed_all t ms) o) e in
    let g = (goes W V C f s m w.0 c.0).hands (each_first (Of V) (handed s m) (handed_all t ms) o) (was_written W V C f t ms w.1 c.1 rest) h in
    let l = all_handed W V C f t ms w.1 c.1 rest g.1 in
    each_both C (taken_by s m ++ taken t ms) (after_all t ms).incoming
    (each_both C (taken_by s m) (taken t ms) g.0 (each_first C (taken t ms) (after_all t ms).incoming l)) (each_last C (taken t ms) (after_all t ms).incoming l)
