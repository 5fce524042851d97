-- What a session takes of its links from a moment at which both ends have begun it: a front, since it takes nothing once it is over.
use Rattle.std.specs.Prelude.{◌≡◌, ◌⊎◌, ℕ, zero, suc, Bool, true, false, nat_lt, List, [], ◌∷◌, ◌++◌, flat_map, Option, Some, None, if◌then◌else◌, refl}
use Rattle.std.proofs.Common.{sym, ◌∙◌, ap, append_assoc, inl, inr}
use Rattle.std.proofs.lemmas.Grind.{flat_map-append}
use Rattle.amqp_composites.specs.declared.error.Error.{Error as AmqpError}
use Rattle.amqp_composites.specs.declared.modes.Role.{Role}
use Rattle.amqp_composites.specs.declared.modes.Role.TheVariants as role
use Rattle.amqp_performatives.specs.declared.attach.Attach.{Attach}
use Rattle.amqp_performatives.specs.declared.detach.Detach.{Detach}
use Rattle.amqp_performatives.specs.declared.flow.Flow.{Flow}
use Rattle.amqp_performatives.specs.declared.transfer.Transfer.{Transfer}
use Rattle.amqp_frames.specs.declared.body.FrameBody.{FrameBody}
use Rattle.amqp_frames.specs.declared.body.FrameBody.TheVariants as b
use Rattle.amqp_frames.specs.declared.shared.LinkFrame.{LinkFrame}
use Rattle.amqp_frames.specs.declared.shared.LinkFrame.TheVariants as frame
use Rattle.amqp_frames.specs.declared.shared.SessionStopReason.{SessionStopReason}
use Rattle.amqp_parts.specs.declared.part.Part.{Part}
use Rattle.amqp_session.specs.declared.session.LinkInput.TheVariants as input
use Rattle.amqp_session.specs.declared.session.SessionState.{SessionState}
use Rattle.amqp_session.specs.declared.session.SessionState.TheVariants as state
use Rattle.amqp_session.specs.declared.error.Error.{Error}
use Rattle.amqp_session.specs.declared.error.Error.TheVariants.{FramingError}
use Rattle.amqp_session.specs.declared.error.Fault.{Fault}
use Rattle.amqp_session.specs.declared.error.Fault.TheVariants as fault
use Rattle.amqp_session.specs.Ends.{stopping, stopped, own_reason, remote_reason, ending, failing, answered, end_asked, attach_refused}
use Rattle.amqp_session.specs.Faults.{error_for}
use Rattle.amqp_session.specs.Frames.{heard_in, heard_mapped, heard_ending, told_in}
use Rattle.amqp_session.specs.Hold.{first_leaving, releasing, released, reporting}
use Rattle.amqp_session.specs.Links.{input_at, attach_at, detach_at, transfer_at, hand_flow, echo, is_astray, flow_at}
use Rattle.amqp_session.specs.State.{State, Framed, handing, refuses as refused_with}
use Rattle.amqp_session.specs.Windows.{transfer_read, is_report_due, windows_flowed}
use Rattle.session_laws.specs.Holding.{Move, tells, hears, ends, refuses, stops, hands_frame, hands_input, after, told_in_phase, told_by, told}
use Rattle.session_lives.specs.Lives as lives
use Rattle.world_lives.specs.EndLives.Laws.{IsFront}

-- this end, or the peer, has ended the session
abbrev is_over : SessionState → Bool
is_over state.EndSent = true
is_over state.Unmapped = true
is_over other = false

-- both ends have begun it
abbrev is_begun : SessionState → Bool
is_begun state.BeginSent = false
is_begun other = true

-- the session goes on as it was or is over
abbrev Phase : State → State → Type 0
Phase s t = (t.state ≡ s.state) ⊎ (is_over t.state ≡ true)

-- ---- what writes and holds

first_same : (xs : List Part) (s : State) → (first_leaving xs s).state ≡ s.state
first_same [] s = refl
first_same (x ∷ xs) s = refl

releasing_same : (n : ℕ) (s : State) → (releasing n s).state ≡ s.state
unfolding releasing
releasing_same zero s = refl
releasing_same (suc n) s = releasing_same n (first_leaving s.held s) ∙ first_same s.held s

released_same : (s : State) → (released s).state ≡ s.state
released_same s = releasing_same s.windows.allowance s

echo_same : (c : Bool) (s : State) → (echo c s).state ≡ s.state
echo_same true s = refl
echo_same false s = refl

hand_same : (o : Option ℕ) (x : Flow) (s : State) → (hand_flow o x s).state ≡ s.state
hand_same None x s = refl
hand_same (Some h) x s = refl

report_same : (c : Bool) (s : State) → (if c then reporting s else s).state ≡ s.state
report_same true s = refl
report_same false s = refl

-- ---- the end

stopping_same : (o : Option SessionStopReason) (why : SessionStopReason) (s : State) → (stopping o why s).state ≡ s.state
stopping_same None why s = refl
stopping_same (Some first) why s = refl

stopped_is : (last : SessionState) (why : SessionStopReason) (s : State) → (stopped last why s).state ≡ last
stopped_is last why s = stopping_same s.stop_reason why (record s { state = last; held = [] })

ending_over : (e : Option AmqpError) (s : State) → is_over (ending e s).state ≡ true
ending_over e s = ap is_over (stopped_is state.EndSent (own_reason e) s)

failing_over : (x : Fault) (s : State) → is_over (failing x s).state.state ≡ true
failing_over x s = ending_over (Some (error_for x)) s

answered_over : (e : Option AmqpError) (s : State) → is_over (answered e s).state.state ≡ true
answered_over None s = refl
answered_over (Some e) s = refl

-- ---- what is read

flow_phase : (astray : Bool) (x : Flow) (s : State) → Phase s (flow_at astray x s).state
flow_phase true x s = inr (failing_over fault.UnattachedHandle s)
flow_phase false x s =
    let t : State = record s { windows = windows_flowed x s.windows } in
    let u = released t in
    inl (echo_same x.echo (hand_flow x.handle x u) ∙ (hand_same x.handle x u ∙ released_same t))

attach_phase : (o : Option Role) (x : Attach) (s : State) → Phase s (attach_at o x s).state
attach_phase (Some r) x s = inr (failing_over fault.HandleInUse s)
attach_phase None x s = inl refl

attach_if : (c : Bool) (e : Error) (o : Option Role) (x : Attach) (s : State) → Phase s (if c then refused_with e s else attach_at o x s).state
attach_if true e o x s = inl refl
attach_if false e o x s = attach_phase o x s

detach_phase : (o : Option Role) (x : Detach) (s : State) → Phase s (detach_at o x s).state
detach_phase None x s = inr (failing_over fault.UnattachedHandle s)
detach_phase (Some r) x s = inl refl

transfer_phase : (o : Option Role) (x : Transfer) (payload : List ℕ) (s : State) → Phase s (transfer_at o x payload s).state
transfer_phase None x payload s = inr (failing_over fault.UnattachedHandle s)
transfer_phase (Some role.Receiver) x payload s = inr (failing_over fault.TransferFrameToSender s)
transfer_phase (Some role.Sender) x payload s =
    let t : State = handing (input.Transfer x payload) (record s { windows = transfer_read s.windows }) in inl (report_same (is_report_due t.windows) t)

mapped_phase : (x : FrameBody) (s : State) → Phase s (heard_mapped x s).state
mapped_phase (b.Attach x) s = attach_if (nat_lt s.own_handle_max x.handle) FramingError (input_at x.handle s) x s
mapped_phase (b.Flow x) s = flow_phase (is_astray x.handle s) x s
mapped_phase (b.Transfer x payload) s = transfer_phase (input_at x.handle s) x payload s
mapped_phase (b.Detach x) s = detach_phase (input_at x.handle s) x s
mapped_phase (b.End x) s = inr (ap is_over (stopped_is state.Unmapped (remote_reason x.error) s))
mapped_phase other s = inl refl

ending_phase : (x : FrameBody) (s : State) → Phase s (heard_ending x s).state
ending_phase (b.End x) s = inr (answered_over x.error s)
ending_phase other s = inl refl

heard_phase : (p : SessionState) (x : Framed) (s : State) → is_begun p ≡ true → Phase s (heard_in p x s).state
heard_phase state.BeginSent x s h = absurd cc
heard_phase state.Mapped x s h = mapped_phase x.body s
heard_phase state.EndSent x s h = ending_phase x.body s
heard_phase state.Unmapped x s h = inl refl

-- ---- what is told and asked

told_phase : (p : SessionState) (x : LinkFrame) (s : State) → Phase s (told_in p x s).state
told_phase state.Mapped (frame.Transfer x payload) s = inl (released_same (record s { held = s.held ++ record { transfer = x; payload = payload } ∷ [] }))
told_phase state.Mapped other s = inl refl
told_phase other x s = inl refl

asked_phase : (p : SessionState) (e : Option AmqpError) (s : State) → Phase s (end_asked p e s).state
asked_phase state.Mapped e s = inr (ending_over e s)
asked_phase other e s = inl refl

refused_phase : (p : SessionState) (s : State) → Phase s (attach_refused p s).state
refused_phase state.Mapped s = inr (failing_over fault.RemoteAttachingLinkNameNotFound s)
refused_phase other s = inl refl

after_phase : (s : State) (m : Move) → is_begun s.state ≡ true → Phase s (after s m)
after_phase s (tells x) h = told_phase s.state x s
after_phase s (hears x) h = heard_phase s.state x s h
after_phase s (ends e) h = asked_phase s.state e s
after_phase s refuses h = refused_phase s.state s
after_phase s (stops why) h = inr (ap is_over (stopped_is state.Unmapped why s))
after_phase s hands_frame h = inl refl
after_phase s hands_input h = inl refl

over_begun : (p : SessionState) → is_over p ≡ true → is_begun p ≡ true
over_begun state.EndSent h = refl
over_begun state.Unmapped h = refl
over_begun state.Mapped h = refl
over_begun state.BeginSent h = absurd cc

begun_then : (s t : State) → is_begun s.state ≡ true → Phase s t → is_begun t.state ≡ true
begun_then s t h (inl e) = ap is_begun e ∙ h
begun_then s t h (inr o) = over_begun t.state o

over_then : (s t : State) → is_over s.state ≡ true → Phase s t → is_over t.state ≡ true
over_then s t h (inl e) = ap is_over e ∙ h
over_then s t h (inr o) = o

-- ---- what it takes of its links

-- the Transfers among frames of links
abbrev pub part_in : LinkFrame → List Part
part_in (frame.Transfer x payload) = record { transfer = x; payload = payload } ∷ []
part_in other = []

abbrev pub parts_given : List LinkFrame → List Part
parts_given xs = flat_map part_in xs

none_in : (p : SessionState) (x : LinkFrame) → is_over p ≡ true → told_in_phase p x ≡ []
none_in state.EndSent x h = refl
none_in state.Unmapped x h = refl
none_in state.BeginSent x h = refl
none_in state.Mapped x h = absurd cc

none_by : (s : State) (m : Move) → is_over s.state ≡ true → told_by s m ≡ []
none_by s (tells x) h = none_in s.state x h
none_by s other h = refl

over_takes : (s : State) (ms : List Move) → is_over s.state ≡ true → told s ms ≡ []
over_takes s [] h = refl
over_takes s (m ∷ ms) h =
    ap (λ (xs : List Part). xs ++ told (after s m) ms) (none_by s m h) ∙ over_takes (after s m) ms (over_then s (after s m) h (after_phase s m (over_begun s.state h)))

mapped_one : (x : LinkFrame) → told_in_phase state.Mapped x ≡ part_in x ++ []
mapped_one (frame.Transfer x payload) = refl
mapped_one other = refl

mapped_by : (s : State) (m : Move) → s.state ≡ state.Mapped → told_by s m ≡ parts_given (lives.told_by m)
mapped_by s (tells x) e = ap (λ p. told_in_phase p x) e ∙ mapped_one x
mapped_by s other e = refl

all_lost : (s : State) (ms : List Move) → is_over s.state ≡ true → IsFront (told s ms) (parts_given (lives.told ms))
all_lost s ms h = record { rest = parts_given (lives.told ms); front = ap (λ (xs : List Part). xs ++ parts_given (lives.told ms)) (over_takes s ms h) }

takes_step : (p : SessionState) (s : State) (m : Move) (ms : List Move) → s.state ≡ p → is_begun s.state ≡ true → IsFront (told (after s m) ms) (parts_given (lives.told ms))
    → IsFront (told s (m ∷ ms)) (parts_given (lives.told (m ∷ ms)))
takes_step state.BeginSent s m ms e h r = (let f = ap is_begun e in absurd cc)
takes_step state.EndSent s m ms e h r = all_lost s (m ∷ ms) (ap is_over e)
takes_step state.Unmapped s m ms e h r = all_lost s (m ∷ ms) (ap is_over e)
takes_step state.Mapped s m ms e h r =
    record {
      rest = r.rest;
      front =
          append_assoc (told_by s m) (told (after s m) ms) r.rest
          ∙ (ap (λ (xs : List Part). told_by s m ++ xs) r.front
          ∙ (ap (λ (xs : List Part). xs ++ parts_given (lives.told ms)) (mapped_by s m e) ∙ sym (flat_map-append part_in (lives.told_by m) (lives.told ms))));
    }

takes_begun : (s : State) (ms : List Move) → is_begun s.state ≡ true → IsFront (told s ms) (parts_given (lives.told ms))
takes_begun s [] h = record { rest = []; front = refl }
takes_begun s (m ∷ ms) h = takes_step s.state s m ms refl h (takes_begun (after s m) ms (begun_then s (after s m) h (after_phase s m h)))

pub takes_front : (s : State) (ms : List Move) → s.state ≡ state.Mapped → IsFront (told s ms) (parts_given (lives.told ms))
takes_front s ms e = takes_begun s ms (ap is_begun e)
