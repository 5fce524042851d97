-- A session to which no Transfer on a handle is given writes none on it.
use Rattle.std.specs.Prelude.{◌≡◌, ℕ, zero, suc, Bool, true, false, not, nat_eq, nat_lt, List, [], ◌∷◌, ◌++◌, filter, Option, Some, None, if◌then◌else◌, cond, refl}
use Rattle.std.proofs.Common.{sym, ◌∙◌, ap, append-nil, append_assoc, subst}
use Rattle.std.proofs.lemmas.Grind.{flat_map-append}
use Rattle.amqp_composites.specs.declared.error.Error.{Error as AmqpError}
use Rattle.amqp_composites.specs.declared.modes.Role.{Role}
use Rattle.amqp_composites.specs.declared.modes.Role.TheVariants as role
use Rattle.amqp_performatives.specs.declared.attach.Attach.{Attach}
use Rattle.amqp_performatives.specs.declared.detach.Detach.{Detach}
use Rattle.amqp_performatives.specs.declared.flow.Flow.{Flow}
use Rattle.amqp_performatives.specs.declared.transfer.Transfer.{Transfer}
use Rattle.amqp_frames.specs.declared.body.FrameBody.{FrameBody}
use Rattle.amqp_frames.specs.declared.body.FrameBody.TheVariants as b
use Rattle.amqp_frames.specs.declared.shared.LinkFrame.{LinkFrame}
use Rattle.amqp_frames.specs.declared.shared.LinkFrame.TheVariants as link
use Rattle.amqp_frames.specs.declared.shared.SessionStopReason.{SessionStopReason}
use Rattle.amqp_parts.specs.declared.part.Part.{Part}
use Rattle.amqp_parts.specs.declared.splitting.Cut.{Cut}
use Rattle.amqp_parts.specs.Split.{continuation}
use Rattle.amqp_parts.specs.Cut.{cut_of}
use Rattle.amqp_session.specs.declared.session.LinkInput.TheVariants as input
use Rattle.amqp_session.specs.declared.session.SessionState.{SessionState}
use Rattle.amqp_session.specs.declared.session.SessionState.TheVariants as state
use Rattle.amqp_session.specs.declared.error.Error.{Error}
use Rattle.amqp_session.specs.declared.error.Error.TheVariants.{FramingError}
use Rattle.amqp_session.specs.declared.error.Fault.{Fault}
use Rattle.amqp_session.specs.declared.error.Fault.TheVariants as fault
use Rattle.amqp_session.specs.Begin.{mapped}
use Rattle.amqp_session.specs.Ends.{stopping, stopped, saying_end, own_reason, remote_reason, ending, failing, ended, answered, end_asked, attach_refused}
use Rattle.amqp_session.specs.Faults.{error_for}
use Rattle.amqp_session.specs.Frames.{heard_in, heard_unanswered, heard_mapped, heard_ending, told_in}
use Rattle.amqp_session.specs.Hold.{begins, numbered, kept, leaving, first_leaving, releasing, released, dropping, reporting}
use Rattle.amqp_session.specs.Links.{input_at, attach_at, detach_at, transfer_at, hand_flow, echo, is_astray, flow_at}
use Rattle.amqp_session.specs.State.{State, Framed, handing}
use Rattle.amqp_session.specs.State.{refuses as refused_with}
use Rattle.amqp_session.specs.Windows.{transfer_read, is_report_due, windows_flowed}
use Rattle.session_laws.specs.Messages.{transfer_in, on}
use Rattle.session_laws.specs.Holding.{Move, tells, hears, ends, refuses, stops, hands_frame, hands_input, rest_of, first_of, after, after_all, handed, handed_all, written, transfers, told_in_phase, told_by, told}
use Rattle.session_laws.proofs.Cuts.{is_cut, on_other}
use Rattle.first_messages.specs.Before.{HasNone, SaidNone, SaysNone}
use Rattle.first_messages.proofs.Lists.{far_first, far_rest, none_both, none_left, none_right}

module _ (handle : ℕ) where
  numbered_handle : (n : ℕ) (x : Transfer) (c : Bool) → begins x ≡ c → (numbered n x).handle ≡ x.handle
  numbered_handle n x true h = subst (λ (c : Bool). (if c then record x { delivery_id = Some n } else x).handle ≡ x.handle) (sym h) refl
  numbered_handle n x false h = subst (λ (c : Bool). (if c then record x { delivery_id = Some n } else x).handle ≡ x.handle) (sym h) refl

  -- ---- a session that goes on

  -- it holds no Transfer on the handle, and is to write none
  abbrev Silent : State → Type 0
  Silent s = HasNone handle s

  silent_as : (s t : State) → t.output ≡ s.output → t.held ≡ s.held → Silent s → Silent t
  silent_as s t o h k = record { held = ap (on handle) h ∙ k.held; output = ap (λ (xs : List Framed). on handle (transfers xs)) o ∙ k.output }

  pushed : (xs : List Framed) (x : Framed) → transfers (xs ++ x ∷ []) ≡ transfers xs ++ transfer_in x.body
  pushed xs x = flat_map-append (λ (y : Framed). transfer_in y.body) xs (x ∷ []) ∙ ap (λ (ys : List Part). transfers xs ++ ys) (append-nil (transfer_in x.body))

  -- a frame is written that is no Transfer on it
  silent_says : (x : Framed) (s t : State) → t.output ≡ s.output ++ x ∷ [] → on handle (transfer_in x.body) ≡ [] → on handle t.held ≡ [] → Silent s → Silent t
  silent_says x s t o n h k = record {
    held = h;
    output = ap (λ (xs : List Framed). on handle (transfers xs)) o ∙ (ap (on handle) (pushed s.output x) ∙ none_both handle (transfers s.output) (transfer_in x.body) k.output n);
  }

  -- what is left is on the handle of what leaves
  kept_far : (other : ℕ) (o : Option Part) (xs : List Part) → ((r : Part) → o ≡ Some r → r.transfer ≡ continuation other) → nat_eq other handle ≡ false → on handle (kept o xs) ≡ on handle xs
  kept_far other None xs h d = refl
  kept_far other (Some r) xs h d = on_other handle r xs (ap (λ (x : Transfer). nat_eq x.handle handle) (h r refl) ∙ d)

  leaves_silent : (x : Part) (xs : List Part) (s : State) → s.held ≡ x ∷ xs → Silent s → Silent (leaving x (record s { held = xs }))
  leaves_silent x xs s h k =
      let n = s.windows.next_delivery_id in
      let c : Cut = cut_of s.max_frame_size (numbered n x.transfer) x.payload in
      let cut = is_cut s.max_frame_size (numbered n x.transfer) x.payload in
      let all : on handle (x ∷ xs) ≡ [] = ap (on handle) (sym h) ∙ k.held in
      let named : nat_eq (numbered n x.transfer).handle handle ≡ false = ap (λ y. nat_eq y handle) (numbered_handle n x.transfer (begins x.transfer) refl) ∙ far_first handle x xs all in
      let first : nat_eq c.first.transfer.handle handle ≡ false = ap (λ y. nat_eq y handle) cut.handle ∙ named in
      let p : Part = c.first in
      let f : Framed = record { channel = s.channel; body = b.Transfer c.first.transfer c.first.payload } in
      silent_says f s (leaving x (record s { held = xs })) refl (on_other handle p [] first) (kept_far (numbered n x.transfer).handle c.rest xs cut.rest named ∙ far_rest handle x xs all) k

  first_silent : (xs : List Part) (s : State) → s.held ≡ xs → Silent s → Silent (first_leaving xs s)
  first_silent [] s h k = k
  first_silent (x ∷ xs) s h k = leaves_silent x xs s h k

  releasing_silent : (n : ℕ) (s : State) → Silent s → Silent (releasing n s)
  unfolding releasing
  releasing_silent zero s k = k
  releasing_silent (suc n) s k = releasing_silent n (first_leaving s.held s) (first_silent s.held s refl k)

  released_silent : (s : State) → Silent s → Silent (released s)
  released_silent s k = releasing_silent s.windows.allowance s k

  -- ---- a session that stops

  stopping_silent : (o : Option SessionStopReason) (why : SessionStopReason) (s : State) → Silent s → Silent (stopping o why s)
  stopping_silent None why s k = record { held = k.held; output = k.output }
  stopping_silent (Some first) why s k = k

  stopped_silent : (phase : SessionState) (why : SessionStopReason) (s : State) → Silent s → Silent (stopped phase why s)
  stopped_silent phase why s k = stopping_silent s.stop_reason why (record s { state = phase; held = [] }) (record { held = refl; output = k.output })

  end_silent : (e : Option AmqpError) (s : State) → Silent s → Silent (saying_end e s)
  end_silent e s k = silent_says (record { channel = s.channel; body = b.End (record { error = e }) }) s (saying_end e s) refl refl k.held k

  ending_silent : (e : Option AmqpError) (s : State) → Silent s → Silent (ending e s)
  ending_silent e s k = end_silent e (stopped state.EndSent (own_reason e) s) (stopped_silent state.EndSent (own_reason e) s k)

  failing_silent : (x : Fault) (s : State) → Silent s → Silent (failing x s).state
  failing_silent x s k = silent_as (ending (Some (error_for x)) s) (failing x s).state refl refl (ending_silent (Some (error_for x)) s k)

  ended_silent : (e : Option AmqpError) (s : State) → Silent s → Silent (ended e s)
  ended_silent e s k =
      let t = stopped state.Unmapped (remote_reason e) s in
      silent_as (saying_end None t) (ended e s) refl refl (end_silent None t (stopped_silent state.Unmapped (remote_reason e) s k))

  answered_silent : (e : Option AmqpError) (s : State) → Silent s → Silent (answered e s).state
  answered_silent None s k = record { held = k.held; output = k.output }
  answered_silent (Some e) s k = record { held = k.held; output = k.output }

  -- ---- what is read

  reporting_silent : (s : State) → Silent s → Silent (reporting s)
  reporting_silent s k = silent_says _ s (reporting s) refl refl k.held k

  echo_silent : (c : Bool) (s : State) → Silent s → Silent (echo c s)
  echo_silent true s k = reporting_silent s k
  echo_silent false s k = k

  hand_flow_silent : (o : Option ℕ) (x : Flow) (s : State) → Silent s → Silent (hand_flow o x s)
  hand_flow_silent None x s k = k
  hand_flow_silent (Some h) x s k = record { held = k.held; output = k.output }

  flow_silent : (astray : Bool) (x : Flow) (s : State) → Silent s → Silent (flow_at astray x s).state
  flow_silent true x s k = failing_silent fault.UnattachedHandle s k
  flow_silent false x s k =
      let a : State = record s { windows = windows_flowed x s.windows } in
      let was : Silent a = record { held = k.held; output = k.output } in
      echo_silent x.echo (hand_flow x.handle x (released a)) (hand_flow_silent x.handle x (released a) (released_silent a was))

  report_if : (c : Bool) (s : State) → Silent s → Silent (if c then reporting s else s)
  report_if true s k = reporting_silent s k
  report_if false s k = k

  transfer_silent : (o : Option Role) (x : Transfer) (payload : List ℕ) (s : State) → Silent s → Silent (transfer_at o x payload s).state
  transfer_silent None x payload s k = failing_silent fault.UnattachedHandle s k
  transfer_silent (Some role.Receiver) x payload s k = failing_silent fault.TransferFrameToSender s k
  transfer_silent (Some role.Sender) x payload s k =
      let a : State = handing (input.Transfer x payload) (record s { windows = transfer_read s.windows }) in
      report_if (is_report_due a.windows) a (record { held = k.held; output = k.output })

  attach_by : (o : Option Role) (x : Attach) (s : State) → Silent s → Silent (attach_at o x s).state
  attach_by (Some r) x s k = failing_silent fault.HandleInUse s k
  attach_by None x s k = record { held = k.held; output = k.output }

  attach_if : (c : Bool) (e : Error) (o : Option Role) (x : Attach) (s : State) → Silent s → Silent (if c then refused_with e s else attach_at o x s).state
  attach_if true e o x s k = k
  attach_if false e o x s k = attach_by o x s k

  detach_silent : (o : Option Role) (x : Detach) (s : State) → Silent s → Silent (detach_at o x s).state
  detach_silent None x s k = failing_silent fault.UnattachedHandle s k
  detach_silent (Some r) x s k = record { held = k.held; output = k.output }

  mapped_silent : (x : FrameBody) (s : State) → Silent s → Silent (heard_mapped x s).state
  mapped_silent (b.Attach x) s k = attach_if (nat_lt s.own_handle_max x.handle) FramingError (input_at x.handle s) x s k
  mapped_silent (b.Flow x) s k = flow_silent (is_astray x.handle s) x s k
  mapped_silent (b.Transfer x payload) s k = transfer_silent (input_at x.handle s) x payload s k
  mapped_silent (b.Disposition x) s k = record { held = k.held; output = k.output }
  mapped_silent (b.Detach x) s k = detach_silent (input_at x.handle s) x s k
  mapped_silent (b.End x) s k = ended_silent x.error s k
  mapped_silent x s k = k

  unanswered_silent : (channel : ℕ) (x : FrameBody) (s : State) → Silent s → Silent (heard_unanswered channel x s).state
  unanswered_silent channel (b.Begin x) s k = released_silent (mapped channel x s) (record { held = k.held; output = k.output })
  unanswered_silent channel (b.End x) s k = ended_silent x.error s k
  unanswered_silent channel x s k = k

  ending_heard_silent : (x : FrameBody) (s : State) → Silent s → Silent (heard_ending x s).state
  ending_heard_silent (b.Disposition x) s k = record { held = k.held; output = k.output }
  ending_heard_silent (b.End x) s k = answered_silent x.error s k
  ending_heard_silent x s k = k

  heard_silent : (phase : SessionState) (x : Framed) (s : State) → Silent s → Silent (heard_in phase x s).state
  heard_silent state.BeginSent x s k = unanswered_silent x.channel x.body s k
  heard_silent state.Mapped x s k = mapped_silent x.body s k
  heard_silent state.EndSent x s k = ending_heard_silent x.body s k
  heard_silent state.Unmapped x s k = k

  -- ---- what is told

  dropped_by : (other : ℕ) (x : Part) (xs ys : List Part) (c : Bool) → nat_eq x.transfer.handle handle ≡ false → on handle ys ≡ [] → on handle (cond (not c) (x ∷ ys) ys) ≡ []
  dropped_by other x xs ys true e k = k
  dropped_by other x xs ys false e k = on_other handle x ys e ∙ k

  dropped_silent : (other : ℕ) (xs : List Part) → on handle xs ≡ [] → on handle (filter (λ (x : Part). not (nat_eq x.transfer.handle other)) xs) ≡ []
  dropped_silent other [] k = refl
  dropped_silent other (x ∷ xs) k =
      dropped_by other x xs (filter (λ (y : Part). not (nat_eq y.transfer.handle other)) xs) (nat_eq x.transfer.handle other) (far_first handle x xs k) (dropped_silent other xs (far_rest handle x xs k))

  told_silent : (phase : SessionState) (x : LinkFrame) (s : State) → on handle (told_in_phase phase x) ≡ [] → Silent s → Silent (told_in phase x s).state
  told_silent state.Mapped (link.Attach x) s n k = silent_says _ s _ refl refl k.held k
  told_silent state.Mapped (link.Flow x) s n k = silent_says _ s _ refl refl k.held k
  told_silent state.Mapped (link.Transfer x payload) s n k =
      let p : Part = record { transfer = x; payload = payload } in
      released_silent (record s { held = s.held ++ p ∷ [] }) (record { held = none_both handle s.held (p ∷ []) k.held n; output = k.output })
  told_silent state.Mapped (link.Disposition x c) s n k = silent_says _ s _ refl refl k.held k
  told_silent state.Mapped (link.Detach x) s n k =
      let t : State = dropping x.handle s in
      let h = dropped_silent x.handle s.held k.held in
      silent_says _ t _ refl refl h (record { held = h; output = k.output })
  told_silent state.BeginSent x s n k = k
  told_silent state.EndSent x s n k = k
  told_silent state.Unmapped x s n k = k

  asked_silent : (phase : SessionState) (e : Option AmqpError) (s : State) → Silent s → Silent (end_asked phase e s).state
  asked_silent state.Mapped e s k = ending_silent e s k
  asked_silent state.BeginSent e s k = k
  asked_silent state.EndSent e s k = k
  asked_silent state.Unmapped e s k = k

  refused_silent : (phase : SessionState) (s : State) → Silent s → Silent (attach_refused phase s).state
  refused_silent state.Mapped s k = failing_silent fault.RemoteAttachingLinkNameNotFound s k
  refused_silent state.BeginSent s k = k
  refused_silent state.EndSent s k = k
  refused_silent state.Unmapped s k = k

  -- ---- its moves

  framed_first : (xs : List Framed) → on handle (transfers xs) ≡ [] → on handle (transfers (first_of xs)) ≡ []
  framed_first [] k = refl
  framed_first (x ∷ xs) k = ap (on handle) (append-nil (transfer_in x.body)) ∙ none_left handle (transfer_in x.body) (transfers xs) k

  framed_rest : (xs : List Framed) → on handle (transfers xs) ≡ [] → on handle (transfers (rest_of xs)) ≡ []
  framed_rest [] k = refl
  framed_rest (x ∷ xs) k = none_right handle (transfer_in x.body) (transfers xs) k

  move_silent : (s : State) (m : Move) → on handle (told_by s m) ≡ [] → Silent s → Silent (after s m)
  move_silent s (tells x) n k = told_silent s.state x s n k
  move_silent s (hears x) n k = heard_silent s.state x s k
  move_silent s (ends e) n k = asked_silent s.state e s k
  move_silent s refuses n k = refused_silent s.state s k
  move_silent s (stops why) n k = stopped_silent state.Unmapped why s k
  move_silent s hands_frame n k = record { held = k.held; output = framed_rest s.output k.output }
  move_silent s hands_input n k = record { held = k.held; output = k.output }

  move_writes : (s : State) (m : Move) → Silent s → on handle (transfers (handed s m)) ≡ []
  move_writes s hands_frame k = framed_first s.output k.output
  move_writes s m k = refl

  written_more : (s : State) (m : Move) (ms : List Move) → transfers (written s (m ∷ ms)) ≡ transfers (handed s m) ++ transfers (written (after s m) ms)
  written_more s m ms =
      let t = after s m in
      ap transfers (append_assoc (handed s m) (handed_all t ms) (after_all t ms).output) ∙ flat_map-append (λ (x : Framed). transfer_in x.body) (handed s m) (written t ms)

  stays_silent : (s : State) (ms : List Move) → on handle (told s ms) ≡ [] → Silent s → SaidNone handle s ms
  stays_silent s [] n k = record { behind = k; written = k.output }
  stays_silent s (m ∷ ms) n k =
      let t = after s m in
      let r = stays_silent t ms (none_right handle (told_by s m) (told t ms) n) (move_silent s m (none_left handle (told_by s m) (told t ms) n) k) in
      record {
        behind = r.behind;
        written = ap (on handle) (written_more s m ms) ∙ none_both handle (transfers (handed s m)) (transfers (written t ms)) (move_writes s m k) r.written;
      }

pub says_none : SaysNone
says_none handle s ms n k = stays_silent handle s ms n k
