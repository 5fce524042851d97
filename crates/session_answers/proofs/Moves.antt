-- What a frame, a link and a call make of a session: it writes behind what it had to write, where it comes to await the
-- peer's End it has written its own, and where it stops there is a reason (OASIS AMQP 1.0, part 2, sections 2.5.4 and 2.5.5).
use Rattle.std.proofs.Common.{◌≡◌, ◌⊎◌, inl, inr, ◌∙◌, ap, subst, refl, sym, append_assoc, ℕ, zero, suc, nat_lt, Bool, true, false, if◌then◌else◌, List, [], ◌∷◌, ◌++◌, Option, Some, None, IsSome, Contains}
use Rattle.std.proofs.lemmas.List.{append-nil}
use Rattle.std.proofs.lemmas.List.Elements.{Contains-append_left, Contains-push}
use Rattle.amqp_composites.specs.declared.error.Error.{Error as AmqpError}
use Rattle.amqp_composites.specs.declared.modes.Role.{Role}
use Rattle.amqp_composites.specs.declared.modes.Role.TheVariants as role
use Rattle.amqp_performatives.specs.declared.attach.Attach.{Attach}
use Rattle.amqp_performatives.specs.declared.detach.Detach.{Detach}
use Rattle.amqp_performatives.specs.declared.end.End.{End}
use Rattle.amqp_performatives.specs.declared.flow.Flow.{Flow}
use Rattle.amqp_performatives.specs.declared.transfer.Transfer.{Transfer}
use Rattle.amqp_frames.specs.declared.body.FrameBody.{FrameBody}
use Rattle.amqp_frames.specs.declared.body.FrameBody.TheVariants as b
use Rattle.amqp_frames.specs.declared.shared.LinkFrame.{LinkFrame}
use Rattle.amqp_frames.specs.declared.shared.LinkFrame.TheVariants as link
use Rattle.amqp_frames.specs.declared.shared.SessionStopReason.{SessionStopReason}
use Rattle.amqp_frames.specs.declared.shared.SessionStopReason.TheVariants as reason
use Rattle.amqp_parts.specs.declared.part.Part.{Part}
use Rattle.amqp_session.specs.declared.error.Error.{Error}
use Rattle.amqp_session.specs.declared.error.Error.TheVariants as error
use Rattle.amqp_session.specs.declared.error.Fault.{Fault}
use Rattle.amqp_session.specs.declared.error.Fault.TheVariants as fault
use Rattle.amqp_session.specs.declared.session.LinkInput.TheVariants as input
use Rattle.amqp_session.specs.declared.session.SessionState.{SessionState}
use Rattle.amqp_session.specs.declared.session.SessionState.TheVariants as state
use Rattle.amqp_session.specs.Begin.{mapped}
use Rattle.amqp_session.specs.Ends.{stopping, stopped, own_reason, remote_reason, ending, failing, ended, answered, end_asked, attach_refused}
use Rattle.amqp_session.specs.Faults.{error_for}
use Rattle.amqp_session.specs.Frames.{heard_unanswered, heard_mapped, heard_ending, heard_in, heard, told, told_in}
use Rattle.amqp_session.specs.Hold.{first_leaving, releasing, released, reporting}
use Rattle.amqp_session.specs.Links.{input_at, attach_at, attach_read, detach_at, transfer_at, hand_flow, echo, is_astray, flow_at}
use Rattle.amqp_session.specs.State.{State, Framed, Made, handing, refuses}
use Rattle.amqp_session.specs.Windows.{session_flow, windows_flowed, transfer_read, is_report_due}
use Rattle.amqp_sessions.specs.Laws.{IsEnd, IsEndFor}
use Rattle.session_answers.specs.Causes.{IsOnHandle, IsAttach, IsTransfer}
use Rattle.session_answers.specs.Standing.{IsOpen}

-- a frame of that kind is among these
abbrev pub Has : (FrameBody → Type 0) → List Framed → Type 0
Has Kind xs = (x : Framed) × (Kind x.body × Contains xs x)

-- an End is
abbrev pub HasEnd : List Framed → Type 0
HasEnd xs = Has IsEnd xs

-- one for that fault is
abbrev pub HasEndFor : Fault → List Framed → Type 0
HasEndFor x xs = Has (IsEndFor (Some (error_for x))) xs

-- A session goes on to another state: what of faults and reasons is new there are these, of a fault with its End, and of
-- reasons no more is said where there is a fault.
pub record Moves (F : Fault → Type 0) (R : SessionStopReason → Type 0) (s t : State) : Type 0 where
  pub more : List Framed
  pub output : t.output ≡ s.output ++ more
  pub begun : t.state ≡ state.BeginSent → s.state ≡ state.BeginSent
  pub ended : t.state ≡ state.EndSent → (s.state ≡ state.EndSent) ⊎ HasEnd t.output
  pub lasts : (s.stop_reason ≡ None → IsOpen s.state) → t.stop_reason ≡ None → IsOpen t.state
  pub faulty : (x : Fault) → t.fault ≡ Some x → (s.fault ≡ Some x) ⊎ (F x × HasEndFor x t.output)
  pub stopped : (why : SessionStopReason) → t.fault ≡ None → t.stop_reason ≡ Some why → ((s.fault ≡ None) × (s.stop_reason ≡ Some why)) ⊎ R why

-- ---- how a session stops, for whichever fault and reason

stopping_output : (o : Option SessionStopReason) (why : SessionStopReason) (s : State) → (stopping o why s).output ≡ s.output
stopping_output None why s = refl
stopping_output (Some first) why s = refl

stopping_state : (o : Option SessionStopReason) (why : SessionStopReason) (s : State) → (stopping o why s).state ≡ s.state
stopping_state None why s = refl
stopping_state (Some first) why s = refl

stopping_fault : (o : Option SessionStopReason) (why : SessionStopReason) (s : State) → (stopping o why s).fault ≡ s.fault
stopping_fault None why s = refl
stopping_fault (Some first) why s = refl

-- it has a reason then
stopping_stops : (o : Option SessionStopReason) (why : SessionStopReason) (s : State) → s.stop_reason ≡ o → (stopping o why s).stop_reason ≡ None → ⊥
stopping_stops None why s h e = cc
stopping_stops (Some first) why s h e = (let bad : Some first ≡ None = sym h ∙ e in cc)

-- the one that it had, or this
stopping_reason : (o : Option SessionStopReason) (why : SessionStopReason) (s : State) → s.stop_reason ≡ o → (w : SessionStopReason) → (stopping o why s).stop_reason ≡ Some w → (s.stop_reason ≡ Some w) ⊎ (why ≡ w)
stopping_reason None why s h w e = inr (cc)
stopping_reason (Some first) why s h w e = inl e

kept_among : (Kind : FrameBody → Type 0) (xs ys zs : List Framed) → zs ≡ xs ++ ys → Has Kind xs → Has Kind zs
kept_among Kind xs ys zs e k = subst (λ (us : List Framed). Has Kind us) (sym e) (k.0, (k.1.0, Contains-append_left xs ys k.0 k.1.1))

module _ (F : Fault → Type 0) (R : SessionStopReason → Type 0) where
  -- it writes nothing, in the same state
  still : (s t : State) → t.output ≡ s.output → t.state ≡ s.state → t.fault ≡ s.fault → t.stop_reason ≡ s.stop_reason → Moves F R s t
  still s t o h f w = record {
    more = [];
    output = o ∙ sym (append-nil s.output);
    begun = λ k. sym h ∙ k;
    ended = λ k. inl (sym h ∙ k);
    lasts = λ k e. subst IsOpen (sym h) (k (sym w ∙ e));
    faulty = λ x k. inl (sym f ∙ k);
    stopped = λ why k e. inl (sym f ∙ k, sym w ∙ e);
  }

  pub stays : (s : State) → Moves F R s s
  stays s = still s s refl refl refl refl

  -- it writes a frame, in the same state
  says : (s t : State) (x : Framed) → t.output ≡ s.output ++ x ∷ [] → t.state ≡ s.state → t.fault ≡ s.fault → t.stop_reason ≡ s.stop_reason → Moves F R s t
  says s t x o h f w = record {
    more = x ∷ [];
    output = o;
    begun = λ k. sym h ∙ k;
    ended = λ k. inl (sym h ∙ k);
    lasts = λ k e. subst IsOpen (sym h) (k (sym w ∙ e));
    faulty = λ x k. inl (sym f ∙ k);
    stopped = λ why k e. inl (sym f ∙ k, sym w ∙ e);
  }

  moves_then : (s t u : State) → Moves F R s t → Moves F R t u → Moves F R s u
  moves_then s t u a c = record {
    more = a.more ++ c.more;
    output = c.output ∙ ap (λ (xs : List Framed). xs ++ c.more) a.output ∙ append_assoc s.output a.more c.more;
    begun = λ k. a.begun (c.begun k);
    ended = λ k. by (c.ended k);
    lasts = λ k e. c.lasts (a.lasts k) e;
    faulty = λ x k. at_fault x (c.faulty x k);
    stopped = λ why k e. because why (c.stopped why k e);
  }
    where
      early : (s.state ≡ state.EndSent) ⊎ HasEnd t.output → (s.state ≡ state.EndSent) ⊎ HasEnd u.output
      early (inl h) = inl h
      early (inr h) = inr (kept_among IsEnd t.output c.more u.output c.output h)

      by : (t.state ≡ state.EndSent) ⊎ HasEnd u.output → (s.state ≡ state.EndSent) ⊎ HasEnd u.output
      by (inl h) = early (a.ended h)
      by (inr h) = inr h

      before : (x : Fault) → (s.fault ≡ Some x) ⊎ (F x × HasEndFor x t.output) → (s.fault ≡ Some x) ⊎ (F x × HasEndFor x u.output)
      before x (inl h) = inl h
      before x (inr h) = inr (h.0, kept_among (IsEndFor (Some (error_for x))) t.output c.more u.output c.output h.1)

      at_fault : (x : Fault) → (t.fault ≡ Some x) ⊎ (F x × HasEndFor x u.output) → (s.fault ≡ Some x) ⊎ (F x × HasEndFor x u.output)
      at_fault x (inl h) = before x (a.faulty x h)
      at_fault x (inr h) = inr h

      because : (why : SessionStopReason) → ((t.fault ≡ None) × (t.stop_reason ≡ Some why)) ⊎ R why → ((s.fault ≡ None) × (s.stop_reason ≡ Some why)) ⊎ R why
      because why (inl h) = a.stopped why h.0 h.1
      because why (inr h) = inr h

  -- ---- the hold

  first_moves : (xs : List Part) (s : State) → Moves F R s (first_leaving xs s)
  first_moves [] s = stays s
  first_moves (x ∷ xs) s = says s _ _ refl refl refl refl

  releasing_moves : (n : ℕ) (s : State) → Moves F R s (releasing n s)
  unfolding releasing
  releasing_moves zero s = stays s
  releasing_moves (suc n) s = moves_then s (first_leaving s.held s) (releasing n (first_leaving s.held s)) (first_moves s.held s) (releasing_moves n (first_leaving s.held s))

  released_moves : (s t : State) → t.output ≡ s.output → t.state ≡ s.state → t.fault ≡ s.fault → t.stop_reason ≡ s.stop_reason → Moves F R s (released t)
  released_moves s t o h f w = moves_then s t (released t) (still s t o h f w) (releasing_moves t.windows.allowance t)

  -- ---- the end

  -- this end writes its End
  ending_moves : (e : Option AmqpError) (s : State) → R (own_reason e) → Moves F R s (ending e s)
  ending_moves e s r =
      let m : State = record s { state = state.EndSent; held = [] } in
      let t : State = stopping s.stop_reason (own_reason e) m in
      let x : Framed = record { channel = t.channel; body = b.End (record { error = e }) } in
      let o : (ending e s).output ≡ s.output ++ x ∷ [] = ap (λ (xs : List Framed). xs ++ x ∷ []) (stopping_output s.stop_reason (own_reason e) m) in
      let here : (ending e s).state ≡ state.EndSent = stopping_state s.stop_reason (own_reason e) m in
      let f : (ending e s).fault ≡ s.fault = stopping_fault s.stop_reason (own_reason e) m in
      record {
        more = x ∷ [];
        output = o;
        begun = λ k. (let bad : state.EndSent ≡ state.BeginSent = sym here ∙ k in cc);
        ended = λ k. inr (x, (tt, subst (λ (xs : List Framed). Contains xs x) (sym o) (Contains-push s.output x)));
        lasts = λ k w. absurd (stopping_stops s.stop_reason (own_reason e) m refl w);
        faulty = λ y k. inl (sym f ∙ k);
        stopped = λ why k w. by why (sym f ∙ k) (stopping_reason s.stop_reason (own_reason e) m refl why w);
      }
    where
      by : (why : SessionStopReason) → s.fault ≡ None → (s.stop_reason ≡ Some why) ⊎ (own_reason e ≡ why) → ((s.fault ≡ None) × (s.stop_reason ≡ Some why)) ⊎ R why
      by why f (inl h) = inl (f, h)
      by why f (inr h) = inr (subst R h r)

  -- the peer ends it, or its connection stops: it awaits nothing more
  over_moves : (why : SessionStopReason) (s t : State) (more : List Framed) → R why → t.output ≡ s.output ++ more → t.state ≡ state.Unmapped → t.fault ≡ s.fault → (t.stop_reason ≡ None → ⊥)
      → ((w : SessionStopReason) → t.stop_reason ≡ Some w → (s.stop_reason ≡ Some w) ⊎ (why ≡ w)) → Moves F R s t
  over_moves why s t more r o h f stops old = record {
    more = more;
    output = o;
    begun = λ k. (let bad : state.Unmapped ≡ state.BeginSent = sym h ∙ k in cc);
    ended = λ k. (let bad : state.Unmapped ≡ state.EndSent = sym h ∙ k in cc);
    lasts = λ k w. absurd (stops w);
    faulty = λ y k. inl (sym f ∙ k);
    stopped = λ w k e. by w (sym f ∙ k) (old w e);
  }
    where
      by : (w : SessionStopReason) → s.fault ≡ None → (s.stop_reason ≡ Some w) ⊎ (why ≡ w) → ((s.fault ≡ None) × (s.stop_reason ≡ Some w)) ⊎ R w
      by w f (inl e) = inl (f, e)
      by w f (inr e) = inr (subst R e r)

  ended_moves : (e : Option AmqpError) (s : State) → R (remote_reason e) → Moves F R s (ended e s)
  ended_moves e s r =
      let why : SessionStopReason = remote_reason e in
      let m : State = record s { state = state.Unmapped; held = [] } in
      let t : State = stopping s.stop_reason why m in
      let x : Framed = record { channel = t.channel; body = b.End (record { error = None }) } in
      over_moves why s (ended e s) (x ∷ []) r
      (ap (λ (xs : List Framed). xs ++ x ∷ []) (stopping_output s.stop_reason why m))
      (stopping_state s.stop_reason why m) (stopping_fault s.stop_reason why m)
      (λ w. stopping_stops s.stop_reason why m refl w) (λ w k. stopping_reason s.stop_reason why m refl w k)

  -- its connection stops
  pub cut_moves : (why : SessionStopReason) (s : State) → R why → Moves F R s (stopped state.Unmapped why s)
  cut_moves why s r =
      let m : State = record s { state = state.Unmapped; held = [] } in
      over_moves why s (stopped state.Unmapped why s) [] r
      (stopping_output s.stop_reason why m ∙ sym (append-nil s.output))
      (stopping_state s.stop_reason why m) (stopping_fault s.stop_reason why m)
      (λ w. stopping_stops s.stop_reason why m refl w) (λ w k. stopping_reason s.stop_reason why m refl w k)

  -- the peer answers its End
  answered_to : (s t : State) → s.state ≡ state.EndSent → t.output ≡ s.output → t.state ≡ state.Unmapped → t.fault ≡ s.fault → t.stop_reason ≡ s.stop_reason → Moves F R s t
  answered_to s t from o h f w = record {
    more = [];
    output = o ∙ sym (append-nil s.output);
    begun = λ k. (let bad : state.Unmapped ≡ state.BeginSent = sym h ∙ k in cc);
    ended = λ k. (let bad : state.Unmapped ≡ state.EndSent = sym h ∙ k in cc);
    lasts = λ k e. absurd (subst IsOpen from (k (sym w ∙ e)));
    faulty = λ x k. inl (sym f ∙ k);
    stopped = λ why k e. inl (sym f ∙ k, sym w ∙ e);
  }

  answered_moves : (e : Option AmqpError) (s : State) → s.state ≡ state.EndSent → Moves F R s (answered e s).state
  answered_moves None s h = answered_to s _ h refl refl refl refl
  answered_moves (Some e) s h = answered_to s _ h refl refl refl refl

-- the End of this end is among what it has to write
ending_says : (e : Option AmqpError) (s : State) → Has (IsEndFor e) (ending e s).output
ending_says e s =
    let t : State = stopping s.stop_reason (own_reason e) (record s { state = state.EndSent; held = [] }) in
    let x : Framed = record { channel = t.channel; body = b.End (record { error = e }) } in
    (x, (refl, Contains-push t.output x))

-- this end ends it for a fault
failing_moves : (F : Fault → Type 0) (R : SessionStopReason → Type 0) (x : Fault) (s : State) → F x → Moves F R s (failing x s).state
failing_moves F R x s h =
    let m : Moves F (λ (why : SessionStopReason). Unit {0}) s (ending (Some (error_for x)) s) = ending_moves F (λ (why : SessionStopReason). Unit {0}) (Some (error_for x)) s tt in
    record {
      more = m.more;
      output = m.output;
      begun = m.begun;
      ended = m.ended;
      lasts = m.lasts;
      faulty = λ y k. inr (let same : x ≡ y = cc in subst (λ (z : Fault). F z × HasEndFor z (ending (Some (error_for x)) s).output) same (h, ending_says (Some (error_for x)) s));
      stopped = λ why k e. (let bad : Some x ≡ None = k in cc);
    }

-- ---- frames

-- for which faults, and why, a session stops at that frame
abbrev pub FaultAt : FrameBody → Fault → Type 0
FaultAt body fault.UnattachedHandle = IsOnHandle body
FaultAt body fault.HandleInUse = IsAttach body
FaultAt body fault.TransferFrameToSender = IsTransfer body
FaultAt body fault.RemoteAttachingLinkNameNotFound = ⊥

abbrev pub StopAt : FrameBody → SessionStopReason → Type 0
StopAt body reason.RemoteEnded = IsEndFor None body
StopAt body (reason.RemoteEndedWithError e) = IsEndFor (Some e) body
StopAt body why = ⊥

-- what that frame makes of it
abbrev pub MovesAt : FrameBody → State → State → Type 0
MovesAt body s t = Moves (FaultAt body) (StopAt body) s t

stays_at : (body : FrameBody) (s : State) → MovesAt body s s
stays_at body s = stays (FaultAt body) (StopAt body) s

still_at : (body : FrameBody) (s t : State) → t.output ≡ s.output → t.state ≡ s.state → t.fault ≡ s.fault → t.stop_reason ≡ s.stop_reason → MovesAt body s t
still_at body s t o h f w = still (FaultAt body) (StopAt body) s t o h f w

fails_at : (body : FrameBody) (x : Fault) (s : State) → FaultAt body x → MovesAt body s (failing x s).state
fails_at body x s h = failing_moves (FaultAt body) (StopAt body) x s h

-- the peer's End
remote_at : (o : Option AmqpError) (x : End) → x.error ≡ o → StopAt (b.End x) (remote_reason o)
remote_at None x h = h
remote_at (Some e) x h = h

ends_at : (x : End) (s : State) → MovesAt (b.End x) s (ended x.error s)
ends_at x s = ended_moves (FaultAt (b.End x)) (StopAt (b.End x)) x.error s (remote_at x.error x refl)

attach_at_moves : (o : Option Role) (x : Attach) (s : State) → MovesAt (b.Attach x) s (attach_at o x s).state
attach_at_moves None x s = still_at (b.Attach x) s _ refl refl refl refl
attach_at_moves (Some r) x s = fails_at (b.Attach x) fault.HandleInUse s tt

limit_moves : (body : FrameBody) (c : Bool) (e : Error) (s : State) (m : Made) → MovesAt body s m.state → MovesAt body s (if c then refuses e s else m).state
limit_moves body true e s m k = stays_at body s
limit_moves body false e s m k = k

attach_moves : (x : Attach) (s : State) → MovesAt (b.Attach x) s (attach_read x s).state
attach_moves x s = limit_moves (b.Attach x) (nat_lt s.own_handle_max x.handle) error.FramingError s (attach_at (input_at x.handle s) x s) (attach_at_moves (input_at x.handle s) x s)

detach_moves : (o : Option Role) (x : Detach) (s : State) → MovesAt (b.Detach x) s (detach_at o x s).state
detach_moves None x s = fails_at (b.Detach x) fault.UnattachedHandle s tt
detach_moves (Some r) x s = still_at (b.Detach x) s _ refl refl refl refl

report_moves : (body : FrameBody) (c : Bool) (s t : State) → t.output ≡ s.output → t.state ≡ s.state → t.fault ≡ s.fault → t.stop_reason ≡ s.stop_reason → MovesAt body s (if c then reporting t else t)
report_moves body true s t o h f w =
    let x : Framed = record { channel = t.channel; body = b.Flow (session_flow t.windows) } in
    says (FaultAt body) (StopAt body) s (reporting t) x (ap (λ (xs : List Framed). xs ++ x ∷ []) o) h f w
report_moves body false s t o h f w = still_at body s t o h f w

transfer_moves : (o : Option Role) (x : Transfer) (payload : List ℕ) (s : State) → MovesAt (b.Transfer x payload) s (transfer_at o x payload s).state
transfer_moves None x payload s = fails_at (b.Transfer x payload) fault.UnattachedHandle s tt
transfer_moves (Some role.Receiver) x payload s = fails_at (b.Transfer x payload) fault.TransferFrameToSender s tt
transfer_moves (Some role.Sender) x payload s =
    report_moves (b.Transfer x payload) (is_report_due (transfer_read s.windows)) s (handing (input.Transfer x payload) (record s { windows = transfer_read s.windows })) refl refl refl refl

hand_moves : (body : FrameBody) (o : Option ℕ) (x : Flow) (s : State) → MovesAt body s (hand_flow o x s)
hand_moves body None x s = stays_at body s
hand_moves body (Some handle) x s = still_at body s _ refl refl refl refl

echo_moves : (body : FrameBody) (c : Bool) (s : State) → MovesAt body s (echo c s)
echo_moves body true s = says (FaultAt body) (StopAt body) s _ _ refl refl refl refl
echo_moves body false s = stays_at body s

-- a Flow that names a handle which is not attached
astray_handle : (o : Option ℕ) (s : State) → is_astray o s ≡ true → IsSome o
astray_handle None s h = cc
astray_handle (Some handle) s h = refl

flow_moves : (c : Bool) (x : Flow) (s : State) → is_astray x.handle s ≡ c → MovesAt (b.Flow x) s (flow_at c x s).state
flow_moves true x s h = fails_at (b.Flow x) fault.UnattachedHandle s (astray_handle x.handle s h)
flow_moves false x s h =
    let F : Fault → Type 0 = FaultAt (b.Flow x) in
    let R : SessionStopReason → Type 0 = StopAt (b.Flow x) in
    let t : State = released (record s { windows = windows_flowed x s.windows }) in
    let u : State = hand_flow x.handle x t in
    moves_then F R s t (echo x.echo u) (released_moves F R s (record s { windows = windows_flowed x s.windows }) refl refl refl refl)
    (moves_then F R t u (echo x.echo u) (hand_moves (b.Flow x) x.handle x t) (echo_moves (b.Flow x) x.echo u))

mapped_moves : (channel : ℕ) (body : FrameBody) (s : State) → s.state ≡ state.BeginSent → MovesAt body s (heard_unanswered channel body s).state
mapped_moves channel (b.Begin x) s h =
    let t : State = mapped channel x s in
    let m : MovesAt (b.Begin x) t (released t) = releasing_moves (FaultAt (b.Begin x)) (StopAt (b.Begin x)) t.windows.allowance t in
    record { more = m.more; output = m.output; begun = λ k. h; ended = λ k. by (m.ended k); lasts = λ k e. m.lasts (λ w. tt) e; faulty = m.faulty; stopped = m.stopped }
  where
    by : (state.Mapped ≡ state.EndSent) ⊎ HasEnd (released (mapped channel x s)).output → (s.state ≡ state.EndSent) ⊎ HasEnd (released (mapped channel x s)).output
    by (inl bad) = cc
    by (inr k) = inr k
mapped_moves channel (b.End x) s h = ends_at x s
mapped_moves channel (b.Open x) s h = stays_at (b.Open x) s
mapped_moves channel (b.Attach x) s h = stays_at (b.Attach x) s
mapped_moves channel (b.Flow x) s h = stays_at (b.Flow x) s
mapped_moves channel (b.Transfer x payload) s h = stays_at (b.Transfer x payload) s
mapped_moves channel (b.Disposition x) s h = stays_at (b.Disposition x) s
mapped_moves channel (b.Detach x) s h = stays_at (b.Detach x) s
mapped_moves channel (b.Close x) s h = stays_at (b.Close x) s
mapped_moves channel b.Empty s h = stays_at b.Empty s

body_moves : (body : FrameBody) (s : State) → MovesAt body s (heard_mapped body s).state
body_moves (b.Attach x) s = attach_moves x s
body_moves (b.Flow x) s = flow_moves (is_astray x.handle s) x s refl
body_moves (b.Transfer x payload) s = transfer_moves (input_at x.handle s) x payload s
body_moves (b.Disposition x) s = still_at (b.Disposition x) s _ refl refl refl refl
body_moves (b.Detach x) s = detach_moves (input_at x.handle s) x s
body_moves (b.End x) s = ends_at x s
body_moves (b.Begin x) s = stays_at (b.Begin x) s
body_moves (b.Open x) s = stays_at (b.Open x) s
body_moves (b.Close x) s = stays_at (b.Close x) s
body_moves b.Empty s = stays_at b.Empty s

ending_hears : (body : FrameBody) (s : State) → s.state ≡ state.EndSent → MovesAt body s (heard_ending body s).state
ending_hears (b.Disposition x) s h = still_at (b.Disposition x) s _ refl refl refl refl
ending_hears (b.End x) s h = answered_moves (FaultAt (b.End x)) (StopAt (b.End x)) x.error s h
ending_hears (b.Begin x) s h = stays_at (b.Begin x) s
ending_hears (b.Open x) s h = stays_at (b.Open x) s
ending_hears (b.Attach x) s h = stays_at (b.Attach x) s
ending_hears (b.Flow x) s h = stays_at (b.Flow x) s
ending_hears (b.Transfer x payload) s h = stays_at (b.Transfer x payload) s
ending_hears (b.Detach x) s h = stays_at (b.Detach x) s
ending_hears (b.Close x) s h = stays_at (b.Close x) s
ending_hears b.Empty s h = stays_at b.Empty s

heard_by_state : (st : SessionState) (x : Framed) (s : State) → s.state ≡ st → MovesAt x.body s (heard_in st x s).state
heard_by_state state.BeginSent x s h = mapped_moves x.channel x.body s h
heard_by_state state.Mapped x s h = body_moves x.body s
heard_by_state state.EndSent x s h = ending_hears x.body s h
heard_by_state state.Unmapped x s h = stays_at x.body s

-- a frame was read
pub hears : (x : Framed) (s : State) → MovesAt x.body s (heard x s).state
hears x s = heard_by_state s.state x s refl

-- ---- links and calls

-- for no fault, and for no reason
abbrev pub NoFault : Fault → Type 0
NoFault x = ⊥

abbrev pub NoReason : SessionStopReason → Type 0
NoReason why = ⊥

told_moves : (x : LinkFrame) (s : State) → Moves NoFault NoReason s (told x s)
told_moves (link.Attach x) s = says NoFault NoReason s _ _ refl refl refl refl
told_moves (link.Flow x) s = says NoFault NoReason s _ _ refl refl refl refl
told_moves (link.Transfer x payload) s = released_moves NoFault NoReason s _ refl refl refl refl
told_moves (link.Disposition x covered) s = says NoFault NoReason s _ _ refl refl refl refl
told_moves (link.Detach x) s = says NoFault NoReason s _ _ refl refl refl refl

-- a link writes a frame
pub tells : (st : SessionState) (x : LinkFrame) (s : State) → Moves NoFault NoReason s (told_in st x s).state
tells state.Mapped x s = told_moves x s
tells state.BeginSent x s = stays NoFault NoReason s
tells state.EndSent x s = stays NoFault NoReason s
tells state.Unmapped x s = stays NoFault NoReason s

-- the links have no place for an Attach
abbrev pub IsAstray : Fault → Type 0
IsAstray x = x ≡ fault.RemoteAttachingLinkNameNotFound

pub refuses_attach : (st : SessionState) (s : State) → Moves IsAstray NoReason s (attach_refused st s).state
refuses_attach state.Mapped s = failing_moves IsAstray NoReason fault.RemoteAttachingLinkNameNotFound s refl
refuses_attach state.BeginSent s = stays IsAstray NoReason s
refuses_attach state.EndSent s = stays IsAstray NoReason s
refuses_attach state.Unmapped s = stays IsAstray NoReason s

-- a call ends it
abbrev pub IsOwn : SessionStopReason → Type 0
IsOwn reason.Ended = Unit {0}
IsOwn (reason.EndedWithError e) = Unit {0}
IsOwn why = ⊥

own_is : (e : Option AmqpError) → IsOwn (own_reason e)
own_is None = tt
own_is (Some e) = tt

pub asks_end : (st : SessionState) (e : Option AmqpError) (s : State) → Moves NoFault IsOwn s (end_asked st e s).state
asks_end state.Mapped e s = ending_moves NoFault IsOwn e s (own_is e)
asks_end state.BeginSent e s = stays NoFault IsOwn s
asks_end state.EndSent e s = stays NoFault IsOwn s
asks_end state.Unmapped e s = stays NoFault IsOwn s
