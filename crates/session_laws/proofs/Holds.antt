-- How the Transfers of a link leave its session.
use Rattle.std.specs.Prelude.{◌≡◌, ℕ, zero, suc, Bool, true, false, not, nat_eq, nat_lt, List, [], ◌∷◌, ◌++◌, filter, map, Option, Some, None, if◌then◌else◌, cond, refl}
use Rattle.std.proofs.Common.{sym, ◌∙◌, ap, append-nil, append_assoc, subst, arith}
use Rattle.std.proofs.lemmas.Bool.Decides.{nat_tests}
use Rattle.std.proofs.lemmas.Grind.{flat_map-append}
use Rattle.std.proofs.lemmas.List.{map-append}
use Rattle.amqp_composites.specs.declared.error.Error.{Error as AmqpError}
use Rattle.amqp_composites.specs.declared.modes.Role.{Role}
use Rattle.amqp_composites.specs.declared.modes.Role.TheVariants as role
use Rattle.amqp_performatives.specs.declared.attach.Attach.{Attach}
use Rattle.amqp_performatives.specs.declared.detach.Detach.{Detach}
use Rattle.amqp_performatives.specs.declared.flow.Flow.{Flow}
use Rattle.amqp_performatives.specs.declared.transfer.Transfer.{Transfer}
use Rattle.amqp_frames.specs.declared.body.FrameBody.{FrameBody}
use Rattle.amqp_frames.specs.declared.body.FrameBody.TheVariants as b
use Rattle.amqp_frames.specs.declared.shared.LinkFrame.{LinkFrame}
use Rattle.amqp_frames.specs.declared.shared.LinkFrame.TheVariants as link
use Rattle.amqp_frames.specs.declared.shared.SessionStopReason.{SessionStopReason}
use Rattle.amqp_parts.specs.declared.part.Part.{Part}
use Rattle.amqp_parts.specs.declared.splitting.Cut.{Cut}
use Rattle.amqp_parts.specs.Split.{continuation, last_part}
use Rattle.amqp_parts.specs.Cut.{cut_of}
use Rattle.amqp_session.specs.declared.session.LinkInput.TheVariants as input
use Rattle.amqp_session.specs.declared.session.SessionState.{SessionState}
use Rattle.amqp_session.specs.declared.session.SessionState.TheVariants as state
use Rattle.amqp_session.specs.declared.error.Error.{Error}
use Rattle.amqp_session.specs.declared.error.Error.TheVariants.{FramingError}
use Rattle.amqp_session.specs.declared.error.Fault.{Fault}
use Rattle.amqp_session.specs.declared.error.Fault.TheVariants as fault
use Rattle.amqp_session.specs.Begin.{mapped}
use Rattle.amqp_session.specs.Ends.{stopping, stopped, saying_end, own_reason, remote_reason, ending, failing, ended, answered, end_asked, attach_refused}
use Rattle.amqp_session.specs.Faults.{error_for}
use Rattle.amqp_session.specs.Frames.{heard_in, heard_unanswered, heard_mapped, heard_ending, told, told_in}
use Rattle.amqp_session.specs.Hold.{begins, numbered, kept, leaving, first_leaving, releasing, released, sending, dropping, reporting}
use Rattle.amqp_session.specs.Links.{input_at, attach_at, detach_at, report, transfer_at, hand_flow, echo, is_astray, flow_at}
use Rattle.amqp_session.specs.State.{State, Framed, handing}
use Rattle.amqp_session.specs.State.{refuses as refused_with}
use Rattle.amqp_session.specs.Windows.{transfer_read, is_report_due, windows_flowed}
use Rattle.session_laws.specs.Messages.{ArePartsOf, Carry, transfer_in, on}
use Rattle.session_laws.specs.Holding as laws
use Rattle.session_laws.specs.Holding.{Move, tells, hears, ends, refuses, stops, hands_frame, hands_input, rest_of, first_of, after, after_all, handed, handed_all, written, transfers, told_in_phase, told_by, Stays, AllStay, Begun, part_of, whole_of, Leaves, LeavesInOrder}
use Rattle.session_laws.proofs.Cuts.{Finish, IsCut, is_cut, on_own, on_other, on_push, carry_push}

-- this end, or the peer, has ended the session
abbrev is_over : SessionState → Bool
is_over state.EndSent = true
is_over state.Unmapped = true
is_over other = false

-- what a link has told and what was written of it, in a session that holds these Transfers: some deliveries have begun, of the last one of them some is
-- left, and the others wait whole
record Held (handle : ℕ) (told written : List Part) (phase : SessionState) (held : List Part) : Type 0 where
  begun : List Begun
  waiting : List Part
  left : Option Part
  all : told ≡ map part_of begun ++ waiting
  goes_on : (r : Part) → left ≡ Some r → r.transfer ≡ continuation handle
  holds : is_over phase ≡ false → on handle held ≡ kept left waiting
  carried : (own : List Part) → Finish left own → Carry (map whole_of begun) (written ++ own)

-- ---- one part leaves

numbered_handle : (n : ℕ) (x : Transfer) (c : Bool) → begins x ≡ c → (numbered n x).handle ≡ x.handle
numbered_handle n x true h = subst (λ (c : Bool). (if c then record x { delivery_id = Some n } else x).handle ≡ x.handle) (sym h) refl
numbered_handle n x false h = subst (λ (c : Bool). (if c then record x { delivery_id = Some n } else x).handle ≡ x.handle) (sym h) refl

same_handle : (a c : ℕ) → nat_eq a c ≡ true → a ≡ c
same_handle a c h = grind (arith, nat_tests)

eq_same : (a : ℕ) → nat_eq a a ≡ true
eq_same a = grind (arith, nat_tests)

-- what is left stands before the others of its link
kept_on : (handle : ℕ) (o : Option Part) (xs : List Part) → ((r : Part) → o ≡ Some r → r.transfer ≡ continuation handle) → on handle (kept o xs) ≡ kept o (on handle xs)
kept_on handle None xs h = refl
kept_on handle (Some r) xs h = on_own handle r xs (ap (λ (x : Transfer). nat_eq x.handle handle) (h r refl) ∙ eq_same handle)

-- and changes nothing for another link
kept_other : (handle other : ℕ) (o : Option Part) (xs : List Part) → ((r : Part) → o ≡ Some r → r.transfer ≡ continuation other) → nat_eq other handle ≡ false → on handle (kept o xs) ≡ on handle xs
kept_other handle other None xs h d = refl
kept_other handle other (Some r) xs h d = on_other handle r xs (ap (λ (x : Transfer). nat_eq x.handle handle) (h r refl) ∙ d)

begins_none : (n handle : ℕ) (x : Transfer) → x ≡ continuation handle → numbered n x ≡ x
begins_none n handle x h = subst (λ (y : Transfer). numbered n y ≡ y) (sym h) refl

first_same : (x y : Part) (xs ys : List Part) → x ∷ xs ≡ y ∷ ys → x ≡ y
first_same x y xs ys h = cc

rest_same : (x y : Part) (xs ys : List Part) → x ∷ xs ≡ y ∷ ys → xs ≡ ys
rest_same x y xs ys h = cc

-- a delivery begins
begin_held : (handle n : ℕ) (told written : List Part) (phase : SessionState) (x : Part) (xs : List Part) (c : Cut) → IsCut (numbered n x.transfer) x.payload c → x.transfer.handle ≡ handle
    → (begun : List Begun) (waiting : List Part) → told ≡ map part_of begun ++ waiting → x ∷ on handle xs ≡ waiting → ((own : List Part) → own ≡ [] → Carry (map whole_of begun) (written ++ own))
    → Held handle told (written ++ c.first ∷ []) phase (kept c.rest xs)
begin_held handle n told written phase x xs c k h begun waiting all holds carried =
    let e : Begun = record { number = n; part = x } in
    let goes : (r : Part) → c.rest ≡ Some r → r.transfer ≡ continuation handle = (λ r s. k.rest r s ∙ ap continuation (numbered_handle n x.transfer (begins x.transfer) refl ∙ h)) in
    record {
      begun = begun ++ e ∷ [];
      waiting = on handle xs;
      left = c.rest;
      all = all ∙ ap (λ ys. map part_of begun ++ ys) (sym holds) ∙ sym (append_assoc (map part_of begun) (x ∷ []) (on handle xs)) ∙ ap (λ ys. ys ++ on handle xs) (sym (map-append part_of begun (e ∷ [])));
      goes_on = goes;
      holds = λ u. kept_on handle c.rest xs goes;
      carried = λ own f.
          let g : Carry (map whole_of begun) written = subst (λ ps. Carry (map whole_of begun) ps) (append-nil written) (carried [] refl) in
          subst (λ ps. Carry (map whole_of (begun ++ e ∷ [])) ps) (sym (append_assoc written (c.first ∷ []) own))
          (subst (λ ds. Carry ds (written ++ c.first ∷ own)) (sym (map-append whole_of begun (e ∷ [])))
          (carry_push (map whole_of begun) (whole_of e) written (c.first ∷ own) g (k.parts own f)));
    }

-- a delivery goes on
go_on_held : (handle n : ℕ) (told written : List Part) (phase : SessionState) (x : Part) (xs : List Part) (c : Cut) → IsCut (numbered n x.transfer) x.payload c
    → (begun : List Begun) (waiting : List Part) (r : Part) → told ≡ map part_of begun ++ waiting → r.transfer ≡ continuation handle → x ∷ on handle xs ≡ r ∷ waiting
    → ((own : List Part) → ArePartsOf r.transfer r.payload own → Carry (map whole_of begun) (written ++ own))
    → Held handle told (written ++ c.first ∷ []) phase (kept c.rest xs)
go_on_held handle n told written phase x xs c k begun waiting r all is holds carried =
    let same : x ≡ r = first_same x r (on handle xs) waiting holds in
    let t : x.transfer ≡ continuation handle = ap (λ (p : Part). p.transfer) same ∙ is in
    let bare : numbered n x.transfer ≡ x.transfer = begins_none n handle x.transfer t in
    let goes : (q : Part) → c.rest ≡ Some q → q.transfer ≡ continuation handle = (λ q s. k.rest q s ∙ ap (λ (y : Transfer). continuation y.handle) (bare ∙ t)) in
    record {
      begun = begun;
      waiting = waiting;
      left = c.rest;
      all = all;
      goes_on = goes;
      holds = λ u. kept_on handle c.rest xs goes ∙ ap (λ ys. kept c.rest ys) (rest_same x r (on handle xs) waiting holds);
      carried = λ own f.
          let p : ArePartsOf x.transfer x.payload (c.first ∷ own) = subst (λ (y : Transfer). ArePartsOf y x.payload (c.first ∷ own)) bare (k.parts own f) in
          let q : ArePartsOf r.transfer r.payload (c.first ∷ own) = subst (λ (y : Part). ArePartsOf y.transfer y.payload (c.first ∷ own)) same p in
          subst (λ ps. Carry (map whole_of begun) ps) (sym (append_assoc written (c.first ∷ []) own)) (carried (c.first ∷ own) q);
    }

own_held : (handle n : ℕ) (told written : List Part) (phase : SessionState) (x : Part) (xs : List Part) (c : Cut) → IsCut (numbered n x.transfer) x.payload c → x.transfer.handle ≡ handle
    → (begun : List Begun) (waiting : List Part) (left : Option Part) → told ≡ map part_of begun ++ waiting → ((r : Part) → left ≡ Some r → r.transfer ≡ continuation handle) → x ∷ on handle xs ≡ kept left waiting
    → ((own : List Part) → Finish left own → Carry (map whole_of begun) (written ++ own))
    → Held handle told (written ++ c.first ∷ []) phase (kept c.rest xs)
own_held handle n told written phase x xs c k h begun waiting None all goes holds carried = begin_held handle n told written phase x xs c k h begun waiting all holds carried
own_held handle n told written phase x xs c k h begun waiting (Some r) all goes holds carried = go_on_held handle n told written phase x xs c k begun waiting r all (goes r refl) holds carried

other_held : (handle n : ℕ) (told written : List Part) (phase : SessionState) (x : Part) (xs : List Part) (c : Cut) → IsCut (numbered n x.transfer) x.payload c → nat_eq x.transfer.handle handle ≡ false
    → Held handle told written phase (x ∷ xs) → Held handle told written phase (kept c.rest xs)
other_held handle n told written phase x xs c k d h =
    let e : (numbered n x.transfer).handle ≡ x.transfer.handle = numbered_handle n x.transfer (begins x.transfer) refl in
    let o : nat_eq (numbered n x.transfer).handle handle ≡ false = ap (λ y. nat_eq y handle) e ∙ d in
    record {
      begun = h.begun;
      waiting = h.waiting;
      left = h.left;
      all = h.all;
      goes_on = h.goes_on;
      carried = h.carried;
      holds = λ u. kept_other handle (numbered n x.transfer).handle c.rest xs k.rest o ∙ sym (on_other handle x xs d) ∙ h.holds u;
    }

-- ---- a session that goes on

-- what it has written of a link, behind what there was: `before` is what was written of it earlier
record At (handle : ℕ) (base before told : List Part) (s : State) : Type 0 where
  gained : List Part
  output : on handle (transfers s.output) ≡ base ++ gained
  held : Held handle told (before ++ gained) s.state s.held

-- the same is written and held
same_at : (handle : ℕ) (base before told : List Part) (s t : State) → t.output ≡ s.output → t.state ≡ s.state → t.held ≡ s.held → At handle base before told s → At handle base before told t
same_at handle base before told s t o p h k = record {
  gained = k.gained;
  output = ap (λ xs. on handle (transfers xs)) o ∙ k.output;
  held = subst (λ xs. Held handle told (before ++ k.gained) t.state xs) (sym h) (subst (λ x. Held handle told (before ++ k.gained) x s.held) (sym p) k.held);
}

pushed : (xs : List Framed) (x : Framed) → transfers (xs ++ x ∷ []) ≡ transfers xs ++ transfer_in x.body
pushed xs x = flat_map-append (λ (y : Framed). transfer_in y.body) xs (x ∷ []) ∙ ap (λ ys. transfers xs ++ ys) (append-nil (transfer_in x.body))

-- a frame is written that is no Transfer
says_to : (handle : ℕ) (base before told : List Part) (x : Framed) (s t : State) → t.output ≡ s.output ++ x ∷ [] → transfer_in x.body ≡ [] → t.state ≡ s.state → t.held ≡ s.held
    → At handle base before told s → At handle base before told t
says_to handle base before told x s t o n p h k = record {
  gained = k.gained;
  output = ap (λ xs. on handle (transfers xs)) o ∙ ap (λ xs. on handle xs) (pushed s.output x ∙ ap (λ ys. transfers s.output ++ ys) n ∙ append-nil (transfers s.output)) ∙ k.output;
  held = subst (λ xs. Held handle told (before ++ k.gained) t.state xs) (sym h) (subst (λ y. Held handle told (before ++ k.gained) y s.held) (sym p) k.held);
}

leaves_by : (handle : ℕ) (base before told : List Part) (x : Part) (xs : List Part) (s : State) → is_over s.state ≡ false → s.held ≡ x ∷ xs → At handle base before told s
    → (own : Bool) → nat_eq x.transfer.handle handle ≡ own → At handle base before told (leaving x (record s { held = xs }))
leaves_by handle base before told x xs s u h k true e =
    let n = s.windows.next_delivery_id in
    let c : Cut = cut_of s.max_frame_size (numbered n x.transfer) x.payload in
    let cut = is_cut s.max_frame_size (numbered n x.transfer) x.payload in
    let named : x.transfer.handle ≡ handle = same_handle x.transfer.handle handle e in
    let first : nat_eq c.first.transfer.handle handle ≡ true = ap (λ y. nat_eq y handle) (cut.handle ∙ numbered_handle n x.transfer (begins x.transfer) refl) ∙ e in
    let holds : x ∷ on handle xs ≡ kept k.held.left k.held.waiting = sym (on_own handle x xs e) ∙ ap (λ ys. on handle ys) (sym h) ∙ k.held.holds u in
    let p : Part = c.first in
    let f : Framed = record { channel = s.channel; body = b.Transfer c.first.transfer c.first.payload } in
    record {
      gained = k.gained ++ p ∷ [];
      output = ap (λ ys. on handle ys) (pushed s.output f) ∙ on_push handle (transfers s.output) (p ∷ []) ∙ ap (λ ys. on handle (transfers s.output) ++ ys) (on_own handle p [] first) ∙ ap (λ ys. ys ++ p ∷ []) k.output ∙ append_assoc base k.gained (p ∷ []);
      held = subst (λ ys. Held handle told ys s.state (kept c.rest xs)) (append_assoc before k.gained (p ∷ []))
          (own_held handle n told (before ++ k.gained) s.state x xs c cut named k.held.begun k.held.waiting k.held.left k.held.all k.held.goes_on holds k.held.carried);
    }
leaves_by handle base before told x xs s u h k false e =
    let n = s.windows.next_delivery_id in
    let c : Cut = cut_of s.max_frame_size (numbered n x.transfer) x.payload in
    let cut = is_cut s.max_frame_size (numbered n x.transfer) x.payload in
    let first : nat_eq c.first.transfer.handle handle ≡ false = ap (λ y. nat_eq y handle) (cut.handle ∙ numbered_handle n x.transfer (begins x.transfer) refl) ∙ e in
    let p : Part = c.first in
    let f : Framed = record { channel = s.channel; body = b.Transfer c.first.transfer c.first.payload } in
    record {
      gained = k.gained;
      output = ap (λ ys. on handle ys) (pushed s.output f) ∙ on_push handle (transfers s.output) (p ∷ []) ∙ ap (λ ys. on handle (transfers s.output) ++ ys) (on_other handle p [] first) ∙ append-nil (on handle (transfers s.output)) ∙ k.output;
      held = other_held handle n told (before ++ k.gained) s.state x xs c cut e (subst (λ ys. Held handle told (before ++ k.gained) s.state ys) h k.held);
    }

first_at : (handle : ℕ) (base before told : List Part) (xs : List Part) (s : State) → is_over s.state ≡ false → s.held ≡ xs → At handle base before told s → At handle base before told (first_leaving xs s)
first_at handle base before told [] s u h k = k
first_at handle base before told (x ∷ xs) s u h k = leaves_by handle base before told x xs s u h k (nat_eq x.transfer.handle handle) refl

first_phase : (xs : List Part) (s : State) → is_over s.state ≡ false → is_over (first_leaving xs s).state ≡ false
first_phase [] s u = u
first_phase (x ∷ xs) s u = u

releasing_at : (handle : ℕ) (base before told : List Part) (n : ℕ) (s : State) → is_over s.state ≡ false → At handle base before told s → At handle base before told (releasing n s)
unfolding releasing
releasing_at handle base before told zero s u k = k
releasing_at handle base before told (suc n) s u k = releasing_at handle base before told n (first_leaving s.held s) (first_phase s.held s u) (first_at handle base before told s.held s u refl k)

released_at : (handle : ℕ) (base before told : List Part) (s : State) → is_over s.state ≡ false → At handle base before told s → At handle base before told (released s)
released_at handle base before told s u k = releasing_at handle base before told s.windows.allowance s u k

-- ---- a session that stops

-- what it holds is not written any more
stop_held : (handle : ℕ) (told written : List Part) (phase last : SessionState) (held : List Part) → is_over last ≡ true → Held handle told written phase held → Held handle told written last []
stop_held handle told written phase last held e h = record {
  begun = h.begun;
  waiting = h.waiting;
  left = h.left;
  all = h.all;
  goes_on = h.goes_on;
  carried = h.carried;
  holds = λ u. absurd cc;
}

stopping_at : (handle : ℕ) (base before told : List Part) (o : Option SessionStopReason) (why : SessionStopReason) (s : State) → At handle base before told s → At handle base before told (stopping o why s)
stopping_at handle base before told None why s k = record { gained = k.gained; output = k.output; held = k.held }
stopping_at handle base before told (Some first) why s k = k

stopped_at : (handle : ℕ) (base before told : List Part) (phase : SessionState) (why : SessionStopReason) (s : State) → is_over phase ≡ true → At handle base before told s → At handle base before told (stopped phase why s)
stopped_at handle base before told phase why s e k =
    stopping_at handle base before told s.stop_reason why (record s { state = phase; held = [] }) (record { gained = k.gained; output = k.output; held = stop_held handle told (before ++ k.gained) s.state phase s.held e k.held })

-- the frame that ends the session is the last
ended_output : (o : Option SessionStopReason) (why : SessionStopReason) (s : State) (e : Option AmqpError)
    → (saying_end e (stopping o why (record s { state = state.EndSent; held = [] }))).output ≡ (stopping o why (record s { state = state.EndSent; held = [] })).output ++ record { channel = s.channel; body = b.End (record { error = e }) } ∷ []
ended_output None why s e = refl
ended_output (Some first) why s e = refl

over_output : (o : Option SessionStopReason) (why : SessionStopReason) (s : State)
    → (saying_end None (stopping o why (record s { state = state.Unmapped; held = [] }))).output ≡ (stopping o why (record s { state = state.Unmapped; held = [] })).output ++ record { channel = s.channel; body = b.End (record { error = None }) } ∷ []
over_output None why s = refl
over_output (Some first) why s = refl

ending_at : (handle : ℕ) (base before told : List Part) (e : Option AmqpError) (s : State) → At handle base before told s → At handle base before told (ending e s)
ending_at handle base before told e s k =
    says_to handle base before told (record { channel = s.channel; body = b.End (record { error = e }) }) (stopped state.EndSent (own_reason e) s) (ending e s) (ended_output s.stop_reason (own_reason e) s e) refl refl refl
    (stopped_at handle base before told state.EndSent (own_reason e) s refl k)

failing_at : (handle : ℕ) (base before told : List Part) (x : Fault) (s : State) → At handle base before told s → At handle base before told (failing x s).state
failing_at handle base before told x s k =
    let e = ending_at handle base before told (Some (error_for x)) s k in
    record { gained = e.gained; output = e.output; held = e.held }

ended_at : (handle : ℕ) (base before told : List Part) (e : Option AmqpError) (s : State) → At handle base before told s → At handle base before told (ended e s)
ended_at handle base before told e s k =
    says_to handle base before told (record { channel = s.channel; body = b.End (record { error = None }) }) (stopped state.Unmapped (remote_reason e) s) (ended e s) (over_output s.stop_reason (remote_reason e) s) refl refl refl
    (stopped_at handle base before told state.Unmapped (remote_reason e) s refl k)

-- once it is over it stays so
over_held : (handle : ℕ) (told written : List Part) (phase last : SessionState) (held : List Part) → is_over last ≡ true → Held handle told written phase held → Held handle told written last held
over_held handle told written phase last held e h = record {
  begun = h.begun;
  waiting = h.waiting;
  left = h.left;
  all = h.all;
  goes_on = h.goes_on;
  carried = h.carried;
  holds = λ u. absurd cc;
}

answered_at : (handle : ℕ) (base before told : List Part) (e : Option AmqpError) (s : State) → At handle base before told s → At handle base before told (answered e s).state
answered_at handle base before told None s k = record { gained = k.gained; output = k.output; held = over_held handle told (before ++ k.gained) s.state state.Unmapped s.held refl k.held }
answered_at handle base before told (Some e) s k = record { gained = k.gained; output = k.output; held = over_held handle told (before ++ k.gained) s.state state.Unmapped s.held refl k.held }

-- ---- what is read

reporting_at : (handle : ℕ) (base before told : List Part) (s : State) → At handle base before told s → At handle base before told (reporting s)
reporting_at handle base before told s k = says_to handle base before told _ s _ refl refl refl refl k

echo_at : (handle : ℕ) (base before told : List Part) (c : Bool) (s : State) → At handle base before told s → At handle base before told (echo c s)
echo_at handle base before told true s k = reporting_at handle base before told s k
echo_at handle base before told false s k = k

hand_flow_at : (handle : ℕ) (base before told : List Part) (o : Option ℕ) (x : Flow) (s : State) → At handle base before told s → At handle base before told (hand_flow o x s)
hand_flow_at handle base before told None x s k = k
hand_flow_at handle base before told (Some h) x s k = same_at handle base before told s _ refl refl refl k

flow_kept : (handle : ℕ) (base before told : List Part) (astray : Bool) (x : Flow) (s : State) → is_over s.state ≡ false → At handle base before told s → At handle base before told (flow_at astray x s).state
flow_kept handle base before told true x s u k = failing_at handle base before told fault.UnattachedHandle s k
flow_kept handle base before told false x s u k =
    let a : State = record s { windows = windows_flowed x s.windows } in
    let k1 : At handle base before told a = same_at handle base before told s a refl refl refl k in
    echo_at handle base before told x.echo (hand_flow x.handle x (released a)) (hand_flow_at handle base before told x.handle x (released a) (released_at handle base before told a u k1))

report_if : (handle : ℕ) (base before told : List Part) (c : Bool) (s : State) → At handle base before told s → At handle base before told (if c then reporting s else s)
report_if handle base before told true s k = reporting_at handle base before told s k
report_if handle base before told false s k = k

report_at : (handle : ℕ) (base before told : List Part) (s : State) → At handle base before told s → At handle base before told (report s)
report_at handle base before told s k = report_if handle base before told (is_report_due s.windows) s k

transfer_kept : (handle : ℕ) (base before told : List Part) (o : Option Role) (x : Transfer) (payload : List ℕ) (s : State) → At handle base before told s → At handle base before told (transfer_at o x payload s).state
transfer_kept handle base before told None x payload s k = failing_at handle base before told fault.UnattachedHandle s k
transfer_kept handle base before told (Some role.Receiver) x payload s k = failing_at handle base before told fault.TransferFrameToSender s k
transfer_kept handle base before told (Some role.Sender) x payload s k = (let a = handing (input.Transfer x payload) (record s { windows = transfer_read s.windows }) in report_at handle base before told a (same_at handle base before told s a refl refl refl k))

attach_by : (handle : ℕ) (base before told : List Part) (o : Option Role) (x : Attach) (s : State) → At handle base before told s → At handle base before told (attach_at o x s).state
attach_by handle base before told (Some r) x s k = failing_at handle base before told fault.HandleInUse s k
attach_by handle base before told None x s k = record { gained = k.gained; output = k.output; held = k.held }

attach_if : (handle : ℕ) (base before told : List Part) (c : Bool) (e : Error) (o : Option Role) (x : Attach) (s : State) → At handle base before told s
    → At handle base before told (if c then refused_with e s else attach_at o x s).state
attach_if handle base before told true e o x s k = k
attach_if handle base before told false e o x s k = attach_by handle base before told o x s k

detach_kept : (handle : ℕ) (base before told : List Part) (o : Option Role) (x : Detach) (s : State) → At handle base before told s → At handle base before told (detach_at o x s).state
detach_kept handle base before told None x s k = failing_at handle base before told fault.UnattachedHandle s k
detach_kept handle base before told (Some r) x s k = record { gained = k.gained; output = k.output; held = k.held }

mapped_kept : (handle : ℕ) (base before told : List Part) (x : FrameBody) (s : State) → is_over s.state ≡ false → At handle base before told s → At handle base before told (heard_mapped x s).state
mapped_kept handle base before told (b.Attach x) s u k = attach_if handle base before told (nat_lt s.own_handle_max x.handle) FramingError (input_at x.handle s) x s k
mapped_kept handle base before told (b.Flow x) s u k = flow_kept handle base before told (is_astray x.handle s) x s u k
mapped_kept handle base before told (b.Transfer x payload) s u k = transfer_kept handle base before told (input_at x.handle s) x payload s k
mapped_kept handle base before told (b.Disposition x) s u k = same_at handle base before told s _ refl refl refl k
mapped_kept handle base before told (b.Detach x) s u k = detach_kept handle base before told (input_at x.handle s) x s k
mapped_kept handle base before told (b.End x) s u k = ended_at handle base before told x.error s k
mapped_kept handle base before told x s u k = k

-- the session is begun
begun_held : (handle : ℕ) (told written : List Part) (phase last : SessionState) (held : List Part) → is_over phase ≡ false → Held handle told written phase held → Held handle told written last held
begun_held handle told written phase last held u h = record {
  begun = h.begun;
  waiting = h.waiting;
  left = h.left;
  all = h.all;
  goes_on = h.goes_on;
  carried = h.carried;
  holds = λ v. h.holds u;
}

unanswered_kept : (handle : ℕ) (base before told : List Part) (channel : ℕ) (x : FrameBody) (s : State) → is_over s.state ≡ false → At handle base before told s → At handle base before told (heard_unanswered channel x s).state
unanswered_kept handle base before told channel (b.Begin x) s u k =
    released_at handle base before told (mapped channel x s) refl (record { gained = k.gained; output = k.output; held = begun_held handle told (before ++ k.gained) s.state state.Mapped s.held u k.held })
unanswered_kept handle base before told channel (b.End x) s u k = ended_at handle base before told x.error s k
unanswered_kept handle base before told channel x s u k = k

ending_kept : (handle : ℕ) (base before told : List Part) (x : FrameBody) (s : State) → At handle base before told s → At handle base before told (heard_ending x s).state
ending_kept handle base before told (b.Disposition x) s k = same_at handle base before told s _ refl refl refl k
ending_kept handle base before told (b.End x) s k = answered_at handle base before told x.error s k
ending_kept handle base before told x s k = k

heard_kept : (handle : ℕ) (base before told : List Part) (phase : SessionState) (x : Framed) (s : State) → s.state ≡ phase → At handle base before told s → At handle base before told (heard_in phase x s).state
heard_kept handle base before told state.BeginSent x s e k = unanswered_kept handle base before told x.channel x.body s (ap is_over e) k
heard_kept handle base before told state.Mapped x s e k = mapped_kept handle base before told x.body s (ap is_over e) k
heard_kept handle base before told state.EndSent x s e k = ending_kept handle base before told x.body s k
heard_kept handle base before told state.Unmapped x s e k = k

-- ---- what is told

no_more : (told : List Part) → told ++ [] ≡ told
no_more told = append-nil told

-- a Transfer of this link waits behind the others
hold_own : (handle : ℕ) (told written : List Part) (phase : SessionState) (held : List Part) (x : Part) → nat_eq x.transfer.handle handle ≡ true → Held handle told written phase held → Held handle (told ++ x ∷ []) written phase (held ++ x ∷ [])
hold_own handle told written phase held x e h = record {
  begun = h.begun;
  waiting = h.waiting ++ x ∷ [];
  left = h.left;
  all = ap (λ ys. ys ++ x ∷ []) h.all ∙ append_assoc (map part_of h.begun) h.waiting (x ∷ []);
  goes_on = h.goes_on;
  carried = h.carried;
  holds = λ u. on_push handle held (x ∷ []) ∙ ap (λ ys. on handle held ++ ys) (on_own handle x [] e) ∙ ap (λ ys. ys ++ x ∷ []) (h.holds u) ∙ kept_push h.left h.waiting (x ∷ []);
}
  where
    kept_push : (o : Option Part) (xs ys : List Part) → kept o xs ++ ys ≡ kept o (xs ++ ys)
    kept_push None xs ys = refl
    kept_push (Some r) xs ys = refl

hold_other : (handle : ℕ) (told written : List Part) (phase : SessionState) (held : List Part) (x : Part) → nat_eq x.transfer.handle handle ≡ false → Held handle told written phase held → Held handle told written phase (held ++ x ∷ [])
hold_other handle told written phase held x e h = record {
  begun = h.begun;
  waiting = h.waiting;
  left = h.left;
  all = h.all;
  goes_on = h.goes_on;
  carried = h.carried;
  holds = λ u. on_push handle held (x ∷ []) ∙ ap (λ ys. on handle held ++ ys) (on_other handle x [] e) ∙ append-nil (on handle held) ∙ h.holds u;
}

hold_held : (handle : ℕ) (told written : List Part) (phase : SessionState) (held : List Part) (x : Part) (own : Bool) → nat_eq x.transfer.handle handle ≡ own → Held handle told written phase held → Held handle (told ++ on handle (x ∷ [])) written phase (held ++ x ∷ [])
hold_held handle told written phase held x true e h = subst (λ ys. Held handle (told ++ ys) written phase (held ++ x ∷ [])) (sym (on_own handle x [] e)) (hold_own handle told written phase held x e h)
hold_held handle told written phase held x false e h =
    subst (λ ys. Held handle ys written phase (held ++ x ∷ [])) (sym (append-nil told) ∙ ap (λ ys. told ++ ys) (sym (on_other handle x [] e))) (hold_other handle told written phase held x e h)

sending_at : (handle : ℕ) (base before told : List Part) (x : Part) (s : State) → is_over s.state ≡ false → At handle base before told s → At handle base before (told ++ on handle (x ∷ [])) (sending x s)
sending_at handle base before told x s u k =
    released_at handle base before (told ++ on handle (x ∷ [])) (record s { held = s.held ++ x ∷ [] }) u
    (record { gained = k.gained; output = k.output; held = hold_held handle told (before ++ k.gained) s.state s.held x (nat_eq x.transfer.handle handle) refl k.held })

-- the Detach of another link
apart : (x handle other : ℕ) → nat_eq x handle ≡ true → nat_eq other handle ≡ false → nat_eq x other ≡ false
apart x handle other e d = grind (arith, nat_tests)

drop_by : (handle other : ℕ) (x : Part) (xs : List Part) (own theirs : Bool) → nat_eq x.transfer.handle handle ≡ own → nat_eq x.transfer.handle other ≡ theirs → nat_eq other handle ≡ false
    → on handle (cond (not theirs) (x ∷ xs) xs) ≡ on handle (x ∷ xs)
drop_by handle other x xs own false e f d = refl
drop_by handle other x xs true true e f d = (let g = apart x.transfer.handle handle other e d in absurd cc)
drop_by handle other x xs false true e f d = sym (on_other handle x xs e)

dropped_on : (handle other : ℕ) (xs : List Part) → nat_eq other handle ≡ false → on handle (filter (λ (x : Part). not (nat_eq x.transfer.handle other)) xs) ≡ on handle xs
dropped_on handle other [] d = refl
dropped_on handle other (x ∷ xs) d =
    drop_by handle other x (filter (λ (y : Part). not (nat_eq y.transfer.handle other)) xs) (nat_eq x.transfer.handle handle) (nat_eq x.transfer.handle other) refl refl d
    ∙ on_more handle x (filter (λ (y : Part). not (nat_eq y.transfer.handle other)) xs) xs (dropped_on handle other xs d)
  where
    on_more : (handle : ℕ) (x : Part) (xs ys : List Part) → on handle xs ≡ on handle ys → on handle (x ∷ xs) ≡ on handle (x ∷ ys)
    on_more handle x xs ys h = ap (λ zs. cond (nat_eq x.transfer.handle handle) (x ∷ zs) zs) h

dropping_at : (handle other : ℕ) (base before told : List Part) (s : State) → nat_eq other handle ≡ false → At handle base before told s → At handle base before told (dropping other s)
dropping_at handle other base before told s d k =
    let h = k.held in
    record {
      gained = k.gained;
      output = k.output;
      held = record { begun = h.begun; waiting = h.waiting; left = h.left; all = h.all; goes_on = h.goes_on; carried = h.carried; holds = λ u. dropped_on handle other s.held d ∙ h.holds u };
    }

-- nothing more is told
same_told : (handle : ℕ) (base before told : List Part) (s : State) → At handle base before told s → At handle base before (told ++ []) s
same_told handle base before told s k = subst (λ xs. At handle base before xs s) (sym (append-nil told)) k

told_kept : (handle : ℕ) (base before told : List Part) (phase : SessionState) (x : LinkFrame) (s : State) → s.state ≡ phase → Stays handle (tells x) → At handle base before told s
    → At handle base before (told ++ on handle (told_in_phase phase x)) (told_in phase x s).state
told_kept handle base before told state.Mapped (link.Attach x) s e d k = same_told handle base before told _ (says_to handle base before told _ s _ refl refl refl refl k)
told_kept handle base before told state.Mapped (link.Flow x) s e d k = same_told handle base before told _ (says_to handle base before told _ s _ refl refl refl refl k)
told_kept handle base before told state.Mapped (link.Transfer x payload) s e d k = sending_at handle base before told (record { transfer = x; payload = payload }) s (ap is_over e) k
told_kept handle base before told state.Mapped (link.Disposition x c) s e d k = same_told handle base before told _ (says_to handle base before told _ s _ refl refl refl refl k)
told_kept handle base before told state.Mapped (link.Detach x) s e d k = same_told handle base before told _ (says_to handle base before told _ (dropping x.handle s) _ refl refl refl refl (dropping_at handle x.handle base before told s d k))
told_kept handle base before told state.BeginSent x s e d k = same_told handle base before told s k
told_kept handle base before told state.EndSent x s e d k = same_told handle base before told s k
told_kept handle base before told state.Unmapped x s e d k = same_told handle base before told s k

-- ---- over its life

-- what one move writes
record Gains (handle : ℕ) (before told : List Part) (s : State) (m : Move) : Type 0 where
  gained : List Part
  output : on handle (transfers (handed s m ++ (after s m).output)) ≡ on handle (transfers s.output) ++ gained
  held : Held handle (told ++ on handle (told_by s m)) (before ++ gained) (after s m).state (after s m).held

at_first : (handle : ℕ) (before told : List Part) (s : State) → Held handle told before s.state s.held → At handle (on handle (transfers s.output)) before told s
at_first handle before told s h = record {
  gained = [];
  output = sym (append-nil (on handle (transfers s.output)));
  held = subst (λ ys. Held handle told ys s.state s.held) (sym (append-nil before)) h;
}

gains_as : (handle : ℕ) (before told : List Part) (s : State) (m : Move) → handed s m ≡ [] → At handle (on handle (transfers s.output)) before (told ++ on handle (told_by s m)) (after s m) → Gains handle before told s m
gains_as handle before told s m h k = record {
  gained = k.gained;
  output = ap (λ ys. on handle (transfers (ys ++ (after s m).output))) h ∙ k.output;
  held = k.held;
}

first_rest : (xs : List Framed) → first_of xs ++ rest_of xs ≡ xs
first_rest [] = refl
first_rest (x ∷ xs) = refl

asked_kept : (handle : ℕ) (base before told : List Part) (phase : SessionState) (e : Option AmqpError) (s : State) → At handle base before told s → At handle base before told (end_asked phase e s).state
asked_kept handle base before told state.Mapped e s k = ending_at handle base before told e s k
asked_kept handle base before told state.BeginSent e s k = k
asked_kept handle base before told state.EndSent e s k = k
asked_kept handle base before told state.Unmapped e s k = k

refused_kept : (handle : ℕ) (base before told : List Part) (phase : SessionState) (s : State) → At handle base before told s → At handle base before told (attach_refused phase s).state
refused_kept handle base before told state.Mapped s k = failing_at handle base before told fault.RemoteAttachingLinkNameNotFound s k
refused_kept handle base before told state.BeginSent s k = k
refused_kept handle base before told state.EndSent s k = k
refused_kept handle base before told state.Unmapped s k = k

gains : (handle : ℕ) (before told : List Part) (s : State) (m : Move) → Stays handle m → Held handle told before s.state s.held → Gains handle before told s m
gains handle before told s (tells x) d h = gains_as handle before told s (tells x) refl (told_kept handle (on handle (transfers s.output)) before told s.state x s refl d (at_first handle before told s h))
gains handle before told s (hears x) d h = gains_as handle before told s (hears x) refl (same_told handle (on handle (transfers s.output)) before told (after s (hears x)) (heard_kept handle (on handle (transfers s.output)) before told s.state x s refl (at_first handle before told s h)))
gains handle before told s (ends e) d h = gains_as handle before told s (ends e) refl (same_told handle (on handle (transfers s.output)) before told (after s (ends e)) (asked_kept handle (on handle (transfers s.output)) before told s.state e s (at_first handle before told s h)))
gains handle before told s refuses d h = gains_as handle before told s refuses refl (same_told handle (on handle (transfers s.output)) before told (after s refuses) (refused_kept handle (on handle (transfers s.output)) before told s.state s (at_first handle before told s h)))
gains handle before told s (stops why) d h = gains_as handle before told s (stops why) refl (same_told handle (on handle (transfers s.output)) before told (after s (stops why)) (stopped_at handle (on handle (transfers s.output)) before told state.Unmapped why s refl (at_first handle before told s h)))
gains handle before told s hands_frame d h = record {
  gained = [];
  output = ap (λ ys. on handle (transfers ys)) (first_rest s.output) ∙ sym (append-nil (on handle (transfers s.output)));
  held = subst (λ ys. Held handle ys (before ++ []) s.state s.held) (sym (append-nil told)) (subst (λ ys. Held handle told ys s.state s.held) (sym (append-nil before)) h);
}
gains handle before told s hands_input d h = gains_as handle before told s hands_input refl (same_told handle (on handle (transfers s.output)) before told (after s hands_input) (same_at handle (on handle (transfers s.output)) before told s (after s hands_input) refl refl refl (at_first handle before told s h)))

record Lives (handle : ℕ) (before told : List Part) (s : State) (ms : List Move) : Type 0 where
  gained : List Part
  output : on handle (transfers (written s ms)) ≡ on handle (transfers s.output) ++ gained
  held : Held handle (told ++ on handle (laws.told s ms)) (before ++ gained) (after_all s ms).state (after_all s ms).held

spread : (handle : ℕ) (xs ys : List Framed) → on handle (transfers (xs ++ ys)) ≡ on handle (transfers xs) ++ on handle (transfers ys)
spread handle xs ys = ap (λ zs. on handle zs) (flat_map-append (λ (x : Framed). transfer_in x.body) xs ys) ∙ on_push handle (transfers xs) (transfers ys)

lives : (handle : ℕ) (before told : List Part) (s : State) (ms : List Move) → AllStay handle ms → Held handle told before s.state s.held → Lives handle before told s ms
lives handle before told s [] d h = record {
  gained = [];
  output = sym (append-nil (on handle (transfers s.output)));
  held = subst (λ ys. Held handle ys (before ++ []) s.state s.held) (sym (append-nil told)) (subst (λ ys. Held handle told ys s.state s.held) (sym (append-nil before)) h);
}
lives handle before told s (m ∷ ms) d h =
    let g = gains handle before told s m d.0 h in
    let t = after s m in
    let l = lives handle (before ++ g.gained) (told ++ on handle (told_by s m)) t ms d.1 g.held in
    let o = on handle (transfers (handed s m)) in
    record {
      gained = g.gained ++ l.gained;
      output =
          ap (λ ys. on handle (transfers ys)) (append_assoc (handed s m) (handed_all t ms) (after_all t ms).output)
          ∙ spread handle (handed s m) (written t ms)
          ∙ ap (λ ys. o ++ ys) l.output
          ∙ sym (append_assoc o (on handle (transfers t.output)) l.gained)
          ∙ ap (λ ys. ys ++ l.gained) (sym (spread handle (handed s m) t.output) ∙ g.output)
          ∙ append_assoc (on handle (transfers s.output)) g.gained l.gained;
      held =
          subst (λ ys. Held handle ys (before ++ (g.gained ++ l.gained)) (after_all t ms).state (after_all t ms).held)
          (append_assoc told (on handle (told_by s m)) (on handle (laws.told t ms)) ∙ ap (λ ys. told ++ ys) (sym (on_push handle (told_by s m) (laws.told t ms))))
          (subst (λ ys. Held handle ((told ++ on handle (told_by s m)) ++ on handle (laws.told t ms)) ys (after_all t ms).state (after_all t ms).held) (append_assoc before g.gained l.gained) l.held);
    }

-- nothing of the link waits
none_held : (handle : ℕ) (phase : SessionState) (held : List Part) → on handle held ≡ [] → Held handle [] [] phase held
none_held handle phase held h = record {
  begun = [];
  waiting = [];
  left = None;
  all = refl;
  goes_on = λ r e. absurd cc;
  holds = λ u. h;
  carried = λ own f. f;
}

-- what is left of a delivery can be written
ending_parts : (o : Option Part) → (own : List Part) × Finish o own
ending_parts None = ([], refl)
ending_parts (Some r) = (last_part r.transfer r.payload ∷ [], refl)

pub leaves_in_order : LeavesInOrder
leaves_in_order handle s ms h d =
    let l = lives handle [] [] s ms d (none_held handle s.state s.held h) in
    let e = ending_parts l.held.left in
    record {
      begun = l.held.begun;
      waiting = l.held.waiting;
      parts = l.gained;
      later = e.0;
      first = l.held.all;
      output = l.output;
      carried = l.held.carried e.0 e.1;
    }
