-- What a session hands to its links.
use Rattle.std.specs.Prelude.{◌≡◌, ◌⊎◌, ℕ, zero, suc, Bool, true, false, nat_lt, List, [], ◌∷◌, ◌++◌, Option, Some, None, if◌then◌else◌, refl}
use Rattle.std.proofs.Common.{sym, ◌∙◌, ap, append-nil, append_assoc, subst, inl, inr}
use Rattle.std.proofs.lemmas.Grind.{flat_map-append}
use Rattle.amqp_composites.specs.declared.error.Error.{Error as AmqpError}
use Rattle.amqp_composites.specs.declared.modes.Role.{Role}
use Rattle.amqp_composites.specs.declared.modes.Role.TheVariants as role
use Rattle.amqp_performatives.specs.declared.attach.Attach.{Attach}
use Rattle.amqp_performatives.specs.declared.detach.Detach.{Detach}
use Rattle.amqp_performatives.specs.declared.flow.Flow.{Flow}
use Rattle.amqp_performatives.specs.declared.transfer.Transfer.{Transfer}
use Rattle.amqp_frames.specs.declared.body.FrameBody.{FrameBody}
use Rattle.amqp_frames.specs.declared.body.FrameBody.TheVariants as b
use Rattle.amqp_frames.specs.declared.shared.LinkFrame.{LinkFrame}
use Rattle.amqp_frames.specs.declared.shared.LinkFrame.TheVariants as link
use Rattle.amqp_frames.specs.declared.shared.SessionStopReason.{SessionStopReason}
use Rattle.amqp_parts.specs.declared.part.Part.{Part}
use Rattle.amqp_session.specs.declared.session.LinkInput.{LinkInput}
use Rattle.amqp_session.specs.declared.session.LinkInput.TheVariants as input
use Rattle.amqp_session.specs.declared.session.SessionState.{SessionState}
use Rattle.amqp_session.specs.declared.session.SessionState.TheVariants as state
use Rattle.amqp_session.specs.declared.error.Error.{Error}
use Rattle.amqp_session.specs.declared.error.Error.TheVariants.{FramingError}
use Rattle.amqp_session.specs.declared.error.Fault.{Fault}
use Rattle.amqp_session.specs.declared.error.Fault.TheVariants as fault
use Rattle.amqp_session.specs.Ends.{stopping, stopped, own_reason, remote_reason, ending, failing, ended, answered, end_asked, attach_refused}
use Rattle.amqp_session.specs.Faults.{error_for}
use Rattle.amqp_session.specs.Frames.{heard_in, heard_mapped, heard_ending, told_in}
use Rattle.amqp_session.specs.Hold.{left_of, leaving, first_leaving, releasing, released, reporting}
use Rattle.amqp_session.specs.Links.{input_at, attach_at, detach_at, report, transfer_at, hand_flow, echo, is_astray, flow_at}
use Rattle.amqp_session.specs.State.{State, Framed, handing}
use Rattle.amqp_session.specs.State.{refuses as refused_with}
use Rattle.amqp_session.specs.Windows.{transfer_read, is_report_due, windows_flowed}
use Rattle.session_laws.specs.Messages.{on}
use Rattle.session_laws.specs.Messages.{transfer_in as part_in}
use Rattle.session_laws.specs.Holding.{Move, tells, hears, ends, refuses, stops, hands_frame, hands_input, rest_of, first_of, after, after_all, transfers}
use Rattle.session_laws.specs.Handing.{transfer_in, inputs, taken_by, taken, handed_over, heard_by, heard, HandsInOrder}
use Rattle.session_laws.proofs.Cuts.{on_push}

-- this end, or the peer, has ended the session
abbrev is_over : SessionState → Bool
is_over state.EndSent = true
is_over state.Unmapped = true
is_over other = false

-- both ends have begun it
abbrev is_begun : SessionState → Bool
is_begun state.BeginSent = false
is_begun other = true

-- no Transfer is handed over, and the session goes on or is over
record Step (s t : State) : Type 0 where
  handed : inputs t.incoming ≡ inputs s.incoming
  phase : (t.state ≡ s.state) ⊎ (is_over t.state ≡ true)

step_same : (s t : State) → t.incoming ≡ s.incoming → t.state ≡ s.state → Step s t
step_same s t i p = record { handed = ap inputs i; phase = inl p }

phase_then : (p q r : SessionState) → (q ≡ p) ⊎ (is_over q ≡ true) → (r ≡ q) ⊎ (is_over r ≡ true) → (r ≡ p) ⊎ (is_over r ≡ true)
phase_then p q r a (inr e) = inr e
phase_then p q r (inl e) (inl f) = inl (f ∙ e)
phase_then p q r (inr e) (inl f) = inr (ap is_over f ∙ e)

step_then : (s t u : State) → Step s t → Step t u → Step s u
step_then s t u a c = record { handed = c.handed ∙ a.handed; phase = phase_then s.state t.state u.state a.phase c.phase }

pushed : (xs : List LinkInput) (x : LinkInput) → inputs (xs ++ x ∷ []) ≡ inputs xs ++ transfer_in x
pushed xs x = flat_map-append transfer_in xs (x ∷ []) ∙ ap (λ (ys : List Part). inputs xs ++ ys) (append-nil (transfer_in x))

-- what is handed over is no Transfer
step_hands : (s t : State) (x : LinkInput) → t.incoming ≡ s.incoming ++ x ∷ [] → transfer_in x ≡ [] → t.state ≡ s.state → Step s t
step_hands s t x i n p = record {
  handed = ap inputs i ∙ (pushed s.incoming x ∙ (ap (λ (ys : List Part). inputs s.incoming ++ ys) n ∙ append-nil (inputs s.incoming)));
  phase = inl p;
}

-- ---- the hold

left_none : (o : Option (List ℕ)) (n : ℕ) (x : Transfer) → inputs (left_of o n x) ≡ []
left_none None n x = refl
left_none (Some tag) n x = refl

leaving_step : (x : Part) (xs : List Part) (s : State) → Step s (leaving x (record s { held = xs }))
leaving_step x xs s = record {
  handed = flat_map-append transfer_in s.incoming (left_of x.transfer.delivery_tag s.windows.next_delivery_id x.transfer)
      ∙ (ap (λ (ys : List Part). inputs s.incoming ++ ys) (left_none x.transfer.delivery_tag s.windows.next_delivery_id x.transfer) ∙ append-nil (inputs s.incoming));
  phase = inl refl;
}

first_step : (xs : List Part) (s : State) → Step s (first_leaving xs s)
first_step [] s = step_same s s refl refl
first_step (x ∷ xs) s = leaving_step x xs s

releasing_step : (n : ℕ) (s : State) → Step s (releasing n s)
unfolding releasing
releasing_step zero s = step_same s s refl refl
releasing_step (suc n) s = step_then s (first_leaving s.held s) (releasing n (first_leaving s.held s)) (first_step s.held s) (releasing_step n (first_leaving s.held s))

released_step : (s : State) → Step s (released s)
released_step s = releasing_step s.windows.allowance s

-- ---- the end

stopping_step : (o : Option SessionStopReason) (why : SessionStopReason) (s : State) → Step s (stopping o why s)
stopping_step None why s = step_hands s _ (input.Stopped why) refl refl refl
stopping_step (Some first) why s = step_same s s refl refl

stopped_step : (last : SessionState) (why : SessionStopReason) (s : State) → is_over last ≡ true → Step s (stopped last why s)
stopped_step last why s e =
    let t : State = record s { state = last; held = [] } in
    step_then s t (stopped last why s) (record { handed = refl; phase = inr e }) (stopping_step s.stop_reason why t)

ending_step : (e : Option AmqpError) (s : State) → Step s (ending e s)
ending_step e s = step_then s (stopped state.EndSent (own_reason e) s) (ending e s) (stopped_step state.EndSent (own_reason e) s refl) (step_same (stopped state.EndSent (own_reason e) s) (ending e s) refl refl)

failing_step : (x : Fault) (s : State) → Step s (failing x s).state
failing_step x s = step_then s (ending (Some (error_for x)) s) (failing x s).state (ending_step (Some (error_for x)) s) (step_same (ending (Some (error_for x)) s) (failing x s).state refl refl)

ended_step : (e : Option AmqpError) (s : State) → Step s (ended e s)
ended_step e s =
    step_then s (stopped state.Unmapped (remote_reason e) s) (ended e s) (stopped_step state.Unmapped (remote_reason e) s refl) (step_hands (stopped state.Unmapped (remote_reason e) s) (ended e s) input.Over refl refl refl)

over_step : (s t : State) → Step s t → is_over t.state ≡ true → Step s t
over_step s t a e = record { handed = a.handed; phase = inr e }

answered_step : (e : Option AmqpError) (s : State) → Step s (answered e s).state
answered_step None s = (let a = step_hands s (handing input.Over s) input.Over refl refl refl in record { handed = a.handed; phase = inr refl })
answered_step (Some e) s = (let a = step_hands s (handing input.Over s) input.Over refl refl refl in record { handed = a.handed; phase = inr refl })

-- ---- what is read

echo_step : (c : Bool) (s : State) → Step s (echo c s)
echo_step true s = step_same s (reporting s) refl refl
echo_step false s = step_same s s refl refl

hand_step : (o : Option ℕ) (x : Flow) (s : State) → Step s (hand_flow o x s)
hand_step None x s = step_same s s refl refl
hand_step (Some h) x s = step_hands s (handing (input.Flow x) s) (input.Flow x) refl refl refl

flow_step : (astray : Bool) (x : Flow) (s : State) → Step s (flow_at astray x s).state
flow_step true x s = failing_step fault.UnattachedHandle s
flow_step false x s =
    let t : State = record s { windows = windows_flowed x s.windows } in
    let u = released t in
    let v = hand_flow x.handle x u in
    step_then s t (echo x.echo v) (step_same s t refl refl) (step_then t u (echo x.echo v) (released_step t) (step_then u v (echo x.echo v) (hand_step x.handle x u) (echo_step x.echo v)))

attach_step : (o : Option Role) (x : Attach) (s : State) → Step s (attach_at o x s).state
attach_step (Some r) x s = failing_step fault.HandleInUse s
attach_step None x s = step_hands s _ (input.Attach x) refl refl refl

attach_if : (c : Bool) (e : Error) (o : Option Role) (x : Attach) (s : State) → Step s (if c then refused_with e s else attach_at o x s).state
attach_if true e o x s = step_same s s refl refl
attach_if false e o x s = attach_step o x s

detach_step : (o : Option Role) (x : Detach) (s : State) → Step s (detach_at o x s).state
detach_step None x s = failing_step fault.UnattachedHandle s
detach_step (Some r) x s = step_hands s _ (input.Detach x) refl refl refl

report_step : (c : Bool) (s : State) → Step s (if c then reporting s else s)
report_step true s = step_same s (reporting s) refl refl
report_step false s = step_same s s refl refl

-- ---- what is handed over and heard

record Kept (heard handed : List Part) (phase : SessionState) : Type 0 where
  lost : List Part
  front : handed ++ lost ≡ heard
  going : is_over phase ≡ false → lost ≡ []
  begun : is_begun phase ≡ true

over_begun : (p : SessionState) → is_over p ≡ true → is_begun p ≡ true
over_begun state.EndSent h = refl
over_begun state.Unmapped h = refl
over_begun state.Mapped h = refl
over_begun state.BeginSent h = absurd cc

kept_step : (heard handed : List Part) (p q : SessionState) → (q ≡ p) ⊎ (is_over q ≡ true) → Kept heard handed p → Kept heard handed q
kept_step heard handed p q (inl e) k = subst (λ (x : SessionState). Kept heard handed x) (sym e) k
kept_step heard handed p q (inr e) k = record { lost = k.lost; front = k.front; going = λ u. absurd cc; begun = over_begun q e }

-- it is lost
kept_lost : (heard handed more : List Part) (p q : SessionState) → is_over q ≡ true → Kept heard handed p → Kept (heard ++ more) handed q
kept_lost heard handed more p q e k = record {
  lost = k.lost ++ more;
  front = sym (append_assoc handed k.lost more) ∙ ap (λ (ys : List Part). ys ++ more) k.front;
  going = λ u. absurd cc;
  begun = over_begun q e;
}

-- it is handed over
kept_handed : (heard handed more : List Part) (p : SessionState) → is_over p ≡ false → Kept heard handed p → Kept (heard ++ more) (handed ++ more) p
kept_handed heard handed more p u k =
    let n : k.lost ≡ [] = k.going u in
    let f : handed ≡ heard = sym (append-nil handed) ∙ (ap (λ (ys : List Part). handed ++ ys) (sym n) ∙ k.front) in
    record {
      lost = [];
      front = append-nil (handed ++ more) ∙ ap (λ (ys : List Part). ys ++ more) f;
      going = λ v. refl;
      begun = k.begun;
    }

-- what one move hands over
record Gains (handle : ℕ) (heard handed : List Part) (s t : State) (more : List Part) : Type 0 where
  gained : List Part
  output : on handle (inputs t.incoming) ≡ on handle (inputs s.incoming) ++ gained
  kept : Kept (heard ++ on handle more) (handed ++ gained) t.state

gains_none : (handle : ℕ) (heard handed : List Part) (s t : State) → Step s t → Kept heard handed s.state → Gains handle heard handed s t []
gains_none handle heard handed s t a k = record {
  gained = [];
  output = ap (λ (ys : List Part). on handle ys) a.handed ∙ sym (append-nil (on handle (inputs s.incoming)));
  kept =
      subst (λ (ys : List Part). Kept ys (handed ++ []) t.state) (sym (append-nil heard))
      (subst (λ (ys : List Part). Kept heard ys t.state) (sym (append-nil handed)) (kept_step heard handed s.state t.state a.phase k));
}

gains_lost : (handle : ℕ) (heard handed : List Part) (s t : State) (more : List Part) → Step s t → is_over t.state ≡ true → Kept heard handed s.state → Gains handle heard handed s t more
gains_lost handle heard handed s t more a e k = record {
  gained = [];
  output = ap (λ (ys : List Part). on handle ys) a.handed ∙ sym (append-nil (on handle (inputs s.incoming)));
  kept = subst (λ (ys : List Part). Kept (heard ++ on handle more) ys t.state) (sym (append-nil handed)) (kept_lost heard handed (on handle more) s.state t.state e k);
}

stopping_phase : (o : Option SessionStopReason) (why : SessionStopReason) (s : State) → (stopping o why s).state ≡ s.state
stopping_phase None why s = refl
stopping_phase (Some first) why s = refl

failing_over : (x : Fault) (s : State) → is_over (failing x s).state.state ≡ true
failing_over x s = ap is_over (stopping_phase s.stop_reason (own_reason (Some (error_for x))) (record s { state = state.EndSent; held = [] }))

transfer_gains : (handle : ℕ) (heard handed : List Part) (o : Option Role) (x : Transfer) (payload : List ℕ) (s : State) → is_over s.state ≡ false → Kept heard handed s.state
    → Gains handle heard handed s (transfer_at o x payload s).state (record { transfer = x; payload = payload } ∷ [])
transfer_gains handle heard handed None x payload s u k = gains_lost handle heard handed s (failing fault.UnattachedHandle s).state _ (failing_step fault.UnattachedHandle s) (failing_over fault.UnattachedHandle s) k
transfer_gains handle heard handed (Some role.Receiver) x payload s u k = gains_lost handle heard handed s (failing fault.TransferFrameToSender s).state _ (failing_step fault.TransferFrameToSender s) (failing_over fault.TransferFrameToSender s) k
transfer_gains handle heard handed (Some role.Sender) x payload s u k =
    let t : State = handing (input.Transfer x payload) (record s { windows = transfer_read s.windows }) in
    let p : Part = record { transfer = x; payload = payload } in
    let a = report_step (is_report_due t.windows) t in
    record {
      gained = on handle (p ∷ []);
      output = ap (λ (ys : List Part). on handle ys) (a.handed ∙ pushed s.incoming (input.Transfer x payload)) ∙ on_push handle (inputs s.incoming) (p ∷ []);
      kept = kept_step (heard ++ on handle (p ∷ [])) (handed ++ on handle (p ∷ [])) s.state (report t).state a.phase (kept_handed heard handed (on handle (p ∷ [])) s.state u k);
    }

mapped_gains : (handle : ℕ) (heard handed : List Part) (x : FrameBody) (s : State) → is_over s.state ≡ false → Kept heard handed s.state → Gains handle heard handed s (heard_mapped x s).state (part_in x)
mapped_gains handle heard handed (b.Attach x) s u k = gains_none handle heard handed s _ (attach_if (nat_lt s.own_handle_max x.handle) FramingError (input_at x.handle s) x s) k
mapped_gains handle heard handed (b.Flow x) s u k = gains_none handle heard handed s _ (flow_step (is_astray x.handle s) x s) k
mapped_gains handle heard handed (b.Transfer x payload) s u k = transfer_gains handle heard handed (input_at x.handle s) x payload s u k
mapped_gains handle heard handed (b.Disposition x) s u k = gains_none handle heard handed s _ (step_hands s (handing (input.Disposition x) s) (input.Disposition x) refl refl refl) k
mapped_gains handle heard handed (b.Detach x) s u k = gains_none handle heard handed s _ (detach_step (input_at x.handle s) x s) k
mapped_gains handle heard handed (b.End x) s u k = gains_none handle heard handed s _ (ended_step x.error s) k
mapped_gains handle heard handed x s u k = gains_none handle heard handed s s (step_same s s refl refl) k

ending_gains : (handle : ℕ) (heard handed : List Part) (x : FrameBody) (s : State) → is_over s.state ≡ true → Kept heard handed s.state → Gains handle heard handed s (heard_ending x s).state (part_in x)
ending_gains handle heard handed (b.Disposition x) s u k = gains_none handle heard handed s _ (step_hands s (handing (input.Disposition x) s) (input.Disposition x) refl refl refl) k
ending_gains handle heard handed (b.End x) s u k = gains_none handle heard handed s _ (answered_step x.error s) k
ending_gains handle heard handed x s u k = gains_lost handle heard handed s s (part_in x) (step_same s s refl refl) u k

heard_gains : (handle : ℕ) (heard handed : List Part) (p : SessionState) (x : Framed) (s : State) → s.state ≡ p → Kept heard handed s.state → Gains handle heard handed s (heard_in p x s).state (part_in x.body)
heard_gains handle heard handed state.BeginSent x s e k = (let n = k.begun in let f = ap is_begun e in absurd cc)
heard_gains handle heard handed state.Mapped x s e k = mapped_gains handle heard handed x.body s (ap is_over e) k
heard_gains handle heard handed state.EndSent x s e k = ending_gains handle heard handed x.body s (ap is_over e) k
heard_gains handle heard handed state.Unmapped x s e k = gains_lost handle heard handed s s (part_in x.body) (step_same s s refl refl) (ap is_over e) k

-- ---- what is told and asked

told_step : (p : SessionState) (x : LinkFrame) (s : State) → Step s (told_in p x s).state
told_step state.Mapped (link.Attach x) s = step_same s _ refl refl
told_step state.Mapped (link.Flow x) s = step_same s _ refl refl
told_step state.Mapped (link.Transfer x payload) s =
    let t : State = record s { held = s.held ++ record { transfer = x; payload = payload } ∷ [] } in step_then s t (released t) (step_same s t refl refl) (released_step t)
told_step state.Mapped (link.Disposition x c) s = step_same s _ refl refl
told_step state.Mapped (link.Detach x) s = step_same s _ refl refl
told_step state.BeginSent x s = step_same s s refl refl
told_step state.EndSent x s = step_same s s refl refl
told_step state.Unmapped x s = step_same s s refl refl

asked_step : (p : SessionState) (e : Option AmqpError) (s : State) → Step s (end_asked p e s).state
asked_step state.Mapped e s = ending_step e s
asked_step state.BeginSent e s = step_same s s refl refl
asked_step state.EndSent e s = step_same s s refl refl
asked_step state.Unmapped e s = step_same s s refl refl

refused_step : (p : SessionState) (s : State) → Step s (attach_refused p s).state
refused_step state.Mapped s = failing_step fault.RemoteAttachingLinkNameNotFound s
refused_step state.BeginSent s = step_same s s refl refl
refused_step state.EndSent s = step_same s s refl refl
refused_step state.Unmapped s = step_same s s refl refl

-- ---- over its life

record Goes (handle : ℕ) (heard handed : List Part) (s : State) (m : Move) : Type 0 where
  gained : List Part
  output : on handle (inputs (taken_by s m ++ (after s m).incoming)) ≡ on handle (inputs s.incoming) ++ gained
  kept : Kept (heard ++ on handle (transfers (heard_by m))) (handed ++ gained) (after s m).state

goes_as : (handle : ℕ) (heard handed : List Part) (s : State) (m : Move) → taken_by s m ≡ [] → (more : List Part) → transfers (heard_by m) ≡ more → Gains handle heard handed s (after s m) more → Goes handle heard handed s m
goes_as handle heard handed s m t more e g = record {
  gained = g.gained;
  output = ap (λ (ys : List LinkInput). on handle (inputs (ys ++ (after s m).incoming))) t ∙ g.output;
  kept = subst (λ (ys : List Part). Kept (heard ++ on handle ys) (handed ++ g.gained) (after s m).state) (sym e) g.kept;
}

first_rest : (xs : List LinkInput) → first_of xs ++ rest_of xs ≡ xs
first_rest [] = refl
first_rest (x ∷ xs) = refl

goes : (handle : ℕ) (heard handed : List Part) (s : State) (m : Move) → Kept heard handed s.state → Goes handle heard handed s m
goes handle heard handed s (tells x) k = goes_as handle heard handed s (tells x) refl [] refl (gains_none handle heard handed s (after s (tells x)) (told_step s.state x s) k)
goes handle heard handed s (hears x) k = goes_as handle heard handed s (hears x) refl (part_in x.body) (append-nil (part_in x.body)) (heard_gains handle heard handed s.state x s refl k)
goes handle heard handed s (ends e) k = goes_as handle heard handed s (ends e) refl [] refl (gains_none handle heard handed s (after s (ends e)) (asked_step s.state e s) k)
goes handle heard handed s refuses k = goes_as handle heard handed s refuses refl [] refl (gains_none handle heard handed s (after s refuses) (refused_step s.state s) k)
goes handle heard handed s (stops why) k = goes_as handle heard handed s (stops why) refl [] refl (gains_none handle heard handed s (after s (stops why)) (stopped_step state.Unmapped why s refl) k)
goes handle heard handed s hands_frame k = goes_as handle heard handed s hands_frame refl [] refl (gains_none handle heard handed s (after s hands_frame) (step_same s (after s hands_frame) refl refl) k)
goes handle heard handed s hands_input k = record {
  gained = [];
  output = ap (λ (ys : List LinkInput). on handle (inputs ys)) (first_rest s.incoming) ∙ sym (append-nil (on handle (inputs s.incoming)));
  kept = subst (λ (ys : List Part). Kept ys (handed ++ []) s.state) (sym (append-nil heard)) (subst (λ (ys : List Part). Kept heard ys s.state) (sym (append-nil handed)) k);
}

spread : (handle : ℕ) (xs ys : List LinkInput) → on handle (inputs (xs ++ ys)) ≡ on handle (inputs xs) ++ on handle (inputs ys)
spread handle xs ys = ap (λ (zs : List Part). on handle zs) (flat_map-append transfer_in xs ys) ∙ on_push handle (inputs xs) (inputs ys)

heard_spread : (handle : ℕ) (xs ys : List Framed) → on handle (transfers (xs ++ ys)) ≡ on handle (transfers xs) ++ on handle (transfers ys)
heard_spread handle xs ys = ap (λ (zs : List Part). on handle zs) (flat_map-append (λ (x : Framed). part_in x.body) xs ys) ∙ on_push handle (transfers xs) (transfers ys)

record Lives (handle : ℕ) (old handed : List Part) (s : State) (ms : List Move) : Type 0 where
  gained : List Part
  output : on handle (inputs (handed_over s ms)) ≡ on handle (inputs s.incoming) ++ gained
  kept : Kept (old ++ on handle (transfers (heard ms))) (handed ++ gained) (after_all s ms).state

lives : (handle : ℕ) (old handed : List Part) (s : State) (ms : List Move) → Kept old handed s.state → Lives handle old handed s ms
lives handle old handed s [] k = record {
  gained = [];
  output = sym (append-nil (on handle (inputs s.incoming)));
  kept = subst (λ (ys : List Part). Kept ys (handed ++ []) s.state) (sym (append-nil old)) (subst (λ (ys : List Part). Kept old ys s.state) (sym (append-nil handed)) k);
}
lives handle old handed s (m ∷ ms) k =
    let g = goes handle old handed s m k in
    let t = after s m in
    let more = on handle (transfers (heard_by m)) in
    let l = lives handle (old ++ more) (handed ++ g.gained) t ms g.kept in
    let o = on handle (inputs (taken_by s m)) in
    record {
      gained = g.gained ++ l.gained;
      output =
          ap (λ (ys : List LinkInput). on handle (inputs ys)) (append_assoc (taken_by s m) (taken t ms) (after_all t ms).incoming)
          ∙ (spread handle (taken_by s m) (handed_over t ms)
          ∙ (ap (λ (ys : List Part). o ++ ys) l.output
          ∙ (sym (append_assoc o (on handle (inputs t.incoming)) l.gained)
          ∙ (ap (λ (ys : List Part). ys ++ l.gained) (sym (spread handle (taken_by s m) t.incoming) ∙ g.output)
          ∙ append_assoc (on handle (inputs s.incoming)) g.gained l.gained))));
      kept =
          subst (λ (ys : List Part). Kept ys (handed ++ (g.gained ++ l.gained)) (after_all t ms).state)
          (append_assoc old more (on handle (transfers (heard ms))) ∙ ap (λ (ys : List Part). old ++ ys) (sym (heard_spread handle (heard_by m) (heard ms))))
          (subst (λ (ys : List Part). Kept ((old ++ more) ++ on handle (transfers (heard ms))) ys (after_all t ms).state) (append_assoc handed g.gained l.gained) l.kept);
    }

pub hands_in_order : HandsInOrder
hands_in_order handle s ms e =
    let l = lives handle [] [] s ms (record { lost = []; front = refl; going = λ u. refl; begun = ap is_begun e }) in
    record { gained = l.gained; lost = l.kept.lost; output = l.output; front = l.kept.front }
