-- A session that hears no Transfer on a handle hands none to its links.
use Rattle.std.specs.Prelude.{◌≡◌, ℕ, zero, suc, Bool, true, false, nat_lt, List, [], ◌∷◌, ◌++◌, Option, Some, None, if◌then◌else◌, refl}
use Rattle.std.proofs.Common.{sym, ◌∙◌, ap, append-nil, append_assoc}
use Rattle.std.proofs.lemmas.Grind.{flat_map-append}
use Rattle.amqp_composites.specs.declared.error.Error.{Error as AmqpError}
use Rattle.amqp_composites.specs.declared.modes.Role.{Role}
use Rattle.amqp_composites.specs.declared.modes.Role.TheVariants as role
use Rattle.amqp_performatives.specs.declared.attach.Attach.{Attach}
use Rattle.amqp_performatives.specs.declared.detach.Detach.{Detach}
use Rattle.amqp_performatives.specs.declared.flow.Flow.{Flow}
use Rattle.amqp_performatives.specs.declared.transfer.Transfer.{Transfer}
use Rattle.amqp_frames.specs.declared.body.FrameBody.{FrameBody}
use Rattle.amqp_frames.specs.declared.body.FrameBody.TheVariants as b
use Rattle.amqp_frames.specs.declared.shared.LinkFrame.{LinkFrame}
use Rattle.amqp_frames.specs.declared.shared.LinkFrame.TheVariants as link
use Rattle.amqp_frames.specs.declared.shared.SessionStopReason.{SessionStopReason}
use Rattle.amqp_parts.specs.declared.part.Part.{Part}
use Rattle.amqp_session.specs.declared.session.LinkInput.{LinkInput}
use Rattle.amqp_session.specs.declared.session.LinkInput.TheVariants as input
use Rattle.amqp_session.specs.declared.session.SessionState.{SessionState}
use Rattle.amqp_session.specs.declared.session.SessionState.TheVariants as state
use Rattle.amqp_session.specs.declared.error.Error.{Error}
use Rattle.amqp_session.specs.declared.error.Error.TheVariants.{FramingError}
use Rattle.amqp_session.specs.declared.error.Fault.{Fault}
use Rattle.amqp_session.specs.declared.error.Fault.TheVariants as fault
use Rattle.amqp_session.specs.Begin.{mapped}
use Rattle.amqp_session.specs.Ends.{stopping, stopped, own_reason, remote_reason, ending, failing, ended, answered, end_asked, attach_refused}
use Rattle.amqp_session.specs.Faults.{error_for}
use Rattle.amqp_session.specs.Frames.{heard_in, heard_unanswered, heard_mapped, heard_ending, told_in}
use Rattle.amqp_session.specs.Hold.{left_of, leaving, first_leaving, releasing, released, reporting}
use Rattle.amqp_session.specs.Links.{input_at, attach_at, detach_at, transfer_at, hand_flow, echo, is_astray, flow_at}
use Rattle.amqp_session.specs.State.{State, Framed, handing}
use Rattle.amqp_session.specs.State.{refuses as refused_with}
use Rattle.amqp_session.specs.Windows.{transfer_read, is_report_due, windows_flowed}
use Rattle.session_laws.specs.Messages.{on}
use Rattle.session_laws.specs.Messages.{transfer_in as part_in}
use Rattle.session_laws.specs.Holding.{Move, tells, hears, ends, refuses, stops, hands_frame, hands_input, rest_of, first_of, after, after_all, transfers}
use Rattle.session_laws.specs.Handing.{transfer_in, inputs, taken_by, taken, handed_over, heard_by, heard}
use Rattle.first_messages.specs.Before.{HandsNone}
use Rattle.first_messages.proofs.Lists.{none_both, none_left, none_right}

-- ---- what hands over no Transfer

-- no Transfer is handed over between the two
abbrev Same : State → State → Type 0
Same s t = inputs t.incoming ≡ inputs s.incoming

pushed : (xs : List LinkInput) (x : LinkInput) → inputs (xs ++ x ∷ []) ≡ inputs xs ++ transfer_in x
pushed xs x = flat_map-append transfer_in xs (x ∷ []) ∙ ap (λ (ys : List Part). inputs xs ++ ys) (append-nil (transfer_in x))

hands_same : (s : State) (x : LinkInput) → transfer_in x ≡ [] → inputs (s.incoming ++ x ∷ []) ≡ inputs s.incoming
hands_same s x n = pushed s.incoming x ∙ (ap (λ (ys : List Part). inputs s.incoming ++ ys) n ∙ append-nil (inputs s.incoming))

left_none : (o : Option (List ℕ)) (n : ℕ) (x : Transfer) → inputs (left_of o n x) ≡ []
left_none None n x = refl
left_none (Some tag) n x = refl

leaving_same : (x : Part) (xs : List Part) (s : State) → Same s (leaving x (record s { held = xs }))
leaving_same x xs s =
    flat_map-append transfer_in s.incoming (left_of x.transfer.delivery_tag s.windows.next_delivery_id x.transfer)
    ∙ (ap (λ (ys : List Part). inputs s.incoming ++ ys) (left_none x.transfer.delivery_tag s.windows.next_delivery_id x.transfer) ∙ append-nil (inputs s.incoming))

first_same : (xs : List Part) (s : State) → Same s (first_leaving xs s)
first_same [] s = refl
first_same (x ∷ xs) s = leaving_same x xs s

releasing_same : (n : ℕ) (s : State) → Same s (releasing n s)
unfolding releasing
releasing_same zero s = refl
releasing_same (suc n) s = releasing_same n (first_leaving s.held s) ∙ first_same s.held s

released_same : (s : State) → Same s (released s)
released_same s = releasing_same s.windows.allowance s

stopping_same : (o : Option SessionStopReason) (why : SessionStopReason) (s : State) → Same s (stopping o why s)
stopping_same None why s = hands_same s (input.Stopped why) refl
stopping_same (Some first) why s = refl

stopped_same : (last : SessionState) (why : SessionStopReason) (s : State) → Same s (stopped last why s)
stopped_same last why s = stopping_same s.stop_reason why (record s { state = last; held = [] })

ending_same : (e : Option AmqpError) (s : State) → Same s (ending e s)
ending_same e s = stopped_same state.EndSent (own_reason e) s

failing_same : (x : Fault) (s : State) → Same s (failing x s).state
failing_same x s = ending_same (Some (error_for x)) s

ended_same : (e : Option AmqpError) (s : State) → Same s (ended e s)
ended_same e s = hands_same (stopped state.Unmapped (remote_reason e) s) input.Over refl ∙ stopped_same state.Unmapped (remote_reason e) s

answered_same : (e : Option AmqpError) (s : State) → Same s (answered e s).state
answered_same None s = hands_same s input.Over refl
answered_same (Some e) s = hands_same s input.Over refl

echo_same : (c : Bool) (s : State) → Same s (echo c s)
echo_same true s = refl
echo_same false s = refl

flow_handed : (o : Option ℕ) (x : Flow) (s : State) → Same s (hand_flow o x s)
flow_handed None x s = refl
flow_handed (Some h) x s = hands_same s (input.Flow x) refl

flow_same : (astray : Bool) (x : Flow) (s : State) → Same s (flow_at astray x s).state
flow_same true x s = failing_same fault.UnattachedHandle s
flow_same false x s =
    let t : State = record s { windows = windows_flowed x s.windows } in
    let u = released t in
    let v = hand_flow x.handle x u in
    echo_same x.echo v ∙ (flow_handed x.handle x u ∙ released_same t)

attach_same : (o : Option Role) (x : Attach) (s : State) → Same s (attach_at o x s).state
attach_same (Some r) x s = failing_same fault.HandleInUse s
attach_same None x s = hands_same s (input.Attach x) refl

attach_if : (c : Bool) (e : Error) (o : Option Role) (x : Attach) (s : State) → Same s (if c then refused_with e s else attach_at o x s).state
attach_if true e o x s = refl
attach_if false e o x s = attach_same o x s

detach_same : (o : Option Role) (x : Detach) (s : State) → Same s (detach_at o x s).state
detach_same None x s = failing_same fault.UnattachedHandle s
detach_same (Some r) x s = hands_same s (input.Detach x) refl

report_same : (c : Bool) (s : State) → Same s (if c then reporting s else s)
report_same true s = refl
report_same false s = refl

told_same : (p : SessionState) (x : LinkFrame) (s : State) → Same s (told_in p x s).state
told_same state.Mapped (link.Attach x) s = refl
told_same state.Mapped (link.Flow x) s = refl
told_same state.Mapped (link.Transfer x payload) s = released_same (record s { held = s.held ++ record { transfer = x; payload = payload } ∷ [] })
told_same state.Mapped (link.Disposition x c) s = refl
told_same state.Mapped (link.Detach x) s = refl
told_same state.BeginSent x s = refl
told_same state.EndSent x s = refl
told_same state.Unmapped x s = refl

asked_same : (p : SessionState) (e : Option AmqpError) (s : State) → Same s (end_asked p e s).state
asked_same state.Mapped e s = ending_same e s
asked_same state.BeginSent e s = refl
asked_same state.EndSent e s = refl
asked_same state.Unmapped e s = refl

refused_same : (p : SessionState) (s : State) → Same s (attach_refused p s).state
refused_same state.Mapped s = failing_same fault.RemoteAttachingLinkNameNotFound s
refused_same state.BeginSent s = refl
refused_same state.EndSent s = refl
refused_same state.Unmapped s = refl

-- ---- a session that hears none

module _ (handle : ℕ) where
  -- it has no Transfer on the handle for its links
  abbrev IsDeaf : State → Type 0
  IsDeaf s = on handle (inputs s.incoming) ≡ []

  transfer_deaf : (o : Option Role) (x : Transfer) (payload : List ℕ) (s : State) → on handle (record { transfer = x; payload = payload } ∷ []) ≡ [] → IsDeaf s → IsDeaf (transfer_at o x payload s).state
  transfer_deaf None x payload s n k = ap (on handle) (failing_same fault.UnattachedHandle s) ∙ k
  transfer_deaf (Some role.Receiver) x payload s n k = ap (on handle) (failing_same fault.TransferFrameToSender s) ∙ k
  transfer_deaf (Some role.Sender) x payload s n k =
      let t : State = handing (input.Transfer x payload) (record s { windows = transfer_read s.windows }) in
      let p : Part = record { transfer = x; payload = payload } in
      ap (on handle) (report_same (is_report_due t.windows) t ∙ pushed s.incoming (input.Transfer x payload)) ∙ none_both handle (inputs s.incoming) (p ∷ []) k n

  mapped_deaf : (x : FrameBody) (s : State) → on handle (part_in x) ≡ [] → IsDeaf s → IsDeaf (heard_mapped x s).state
  mapped_deaf (b.Attach x) s n k = ap (on handle) (attach_if (nat_lt s.own_handle_max x.handle) FramingError (input_at x.handle s) x s) ∙ k
  mapped_deaf (b.Flow x) s n k = ap (on handle) (flow_same (is_astray x.handle s) x s) ∙ k
  mapped_deaf (b.Transfer x payload) s n k = transfer_deaf (input_at x.handle s) x payload s n k
  mapped_deaf (b.Disposition x) s n k = ap (on handle) (hands_same s (input.Disposition x) refl) ∙ k
  mapped_deaf (b.Detach x) s n k = ap (on handle) (detach_same (input_at x.handle s) x s) ∙ k
  mapped_deaf (b.End x) s n k = ap (on handle) (ended_same x.error s) ∙ k
  mapped_deaf x s n k = k

  unanswered_deaf : (channel : ℕ) (x : FrameBody) (s : State) → IsDeaf s → IsDeaf (heard_unanswered channel x s).state
  unanswered_deaf channel (b.Begin x) s k = ap (on handle) (released_same (mapped channel x s)) ∙ k
  unanswered_deaf channel (b.End x) s k = ap (on handle) (ended_same x.error s) ∙ k
  unanswered_deaf channel x s k = k

  ending_deaf : (x : FrameBody) (s : State) → IsDeaf s → IsDeaf (heard_ending x s).state
  ending_deaf (b.Disposition x) s k = ap (on handle) (hands_same s (input.Disposition x) refl) ∙ k
  ending_deaf (b.End x) s k = ap (on handle) (answered_same x.error s) ∙ k
  ending_deaf x s k = k

  heard_deaf : (p : SessionState) (x : Framed) (s : State) → on handle (part_in x.body) ≡ [] → IsDeaf s → IsDeaf (heard_in p x s).state
  heard_deaf state.BeginSent x s n k = unanswered_deaf x.channel x.body s k
  heard_deaf state.Mapped x s n k = mapped_deaf x.body s n k
  heard_deaf state.EndSent x s n k = ending_deaf x.body s k
  heard_deaf state.Unmapped x s n k = k

  -- ---- its moves

  first_none : (xs : List LinkInput) → on handle (inputs xs) ≡ [] → on handle (inputs (first_of xs)) ≡ []
  first_none [] k = refl
  first_none (x ∷ xs) k = ap (on handle) (append-nil (transfer_in x)) ∙ none_left handle (transfer_in x) (inputs xs) k

  rest_none : (xs : List LinkInput) → on handle (inputs xs) ≡ [] → on handle (inputs (rest_of xs)) ≡ []
  rest_none [] k = refl
  rest_none (x ∷ xs) k = none_right handle (transfer_in x) (inputs xs) k

  heard_one : (x : Framed) → on handle (transfers (x ∷ [])) ≡ [] → on handle (part_in x.body) ≡ []
  heard_one x n = none_left handle (part_in x.body) [] n

  move_deaf : (s : State) (m : Move) → on handle (transfers (heard_by m)) ≡ [] → IsDeaf s → IsDeaf (after s m)
  move_deaf s (tells x) n k = ap (on handle) (told_same s.state x s) ∙ k
  move_deaf s (hears x) n k = heard_deaf s.state x s (heard_one x n) k
  move_deaf s (ends e) n k = ap (on handle) (asked_same s.state e s) ∙ k
  move_deaf s refuses n k = ap (on handle) (refused_same s.state s) ∙ k
  move_deaf s (stops why) n k = ap (on handle) (stopped_same state.Unmapped why s) ∙ k
  move_deaf s hands_frame n k = k
  move_deaf s hands_input n k = rest_none s.incoming k

  move_gives : (s : State) (m : Move) → IsDeaf s → on handle (inputs (taken_by s m)) ≡ []
  move_gives s hands_input k = first_none s.incoming k
  move_gives s m k = refl

  handed_more : (s : State) (m : Move) (ms : List Move) → inputs (handed_over s (m ∷ ms)) ≡ inputs (taken_by s m) ++ inputs (handed_over (after s m) ms)
  handed_more s m ms =
      let t = after s m in
      ap inputs (append_assoc (taken_by s m) (taken t ms) (after_all t ms).incoming) ∙ flat_map-append transfer_in (taken_by s m) (handed_over t ms)

  stays_deaf : (s : State) (ms : List Move) → on handle (transfers (heard ms)) ≡ [] → IsDeaf s → on handle (inputs (handed_over s ms)) ≡ []
  stays_deaf s [] n k = k
  stays_deaf s (m ∷ ms) n k =
      let t = after s m in
      let more = transfers (heard_by m) in
      let rest = transfers (heard ms) in
      let both = ap (on handle) (sym (flat_map-append (λ (x : Framed). part_in x.body) (heard_by m) (heard ms))) ∙ n in
      let r = stays_deaf t ms (none_right handle more rest both) (move_deaf s m (none_left handle more rest both) k) in
      ap (on handle) (handed_more s m ms) ∙ none_both handle (inputs (taken_by s m)) (inputs (handed_over t ms)) (move_gives s m k) r

pub hands_none : HandsNone
hands_none handle s ms n k = stays_deaf handle s ms n k
