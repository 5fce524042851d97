-- A step of the connection is a step of its end.
use Rattle.std.proofs.Common.{◌≡◌, ◌≤◌, ◌+◌, ◌^◌, ◌⊎◌, inl, inr, ℕ, zero, suc, List, [], ◌∷◌, ◌++◌, Bool, true, false, length, Option, Some, None, Ok, Err, refl, sym, ap, ◌∙◌, subst, append_assoc, length-append, arith}
use Rattle.std.proofs.lemmas.List.{append-nil}
use Rattle.amqp_wire.specs.declared.link.Held.TheVariants.{Full}
use Rattle.amqp_wire.specs.declared.link.Link.{Ghosts}
use Rattle.amqp_wire.specs.declared.link.Stop.TheVariants.{Empty}
use Rattle.amqp_wire.specs.Events.{LinkEvent, NotRead, NotWritten, Includes, Went, reads_in}
use Rattle.amqp_wire.proofs.Events.{includes_left, went_then, reads_in-append}
use Rattle.amqp_transport.specs.declared.frames.Frame.{Frame}
use Rattle.amqp_transport.specs.Stream.{IsPart}
use Rattle.amqp_transport.specs.Clocks.{IsDue as IsBeatDue}
use Rattle.amqp_transport.specs.declared.heart_beat.HeartBeat.{HeartBeat}
use Rattle.amqp_engine.specs.declared.engine.EngineStep.TheVariants as step
use Rattle.amqp_engine.specs.declared.error.Error.{Error as ConnectionFault}
use Rattle.amqp_engine.specs.declared.error.Error.TheVariants as connection
use Rattle.amqp_engine.specs.declared.phase.Phase.{Phase}
use Rattle.amqp_engine.specs.declared.phase.Phase.TheVariants as p
use Rattle.amqp_engine.specs.Faults.{AllOwed}
use Rattle.amqp_engine.specs.Outcomes.{IsHanded, IsOnward, IsWritten, Stepped as EngineStepped}
use Rattle.amqp_engine.specs.Phases.{state_of, is_stopped, has_failed, hears}
use Rattle.amqp_engine.specs.Sentence.{Ran}
use Rattle.amqp_engine.specs.State.{State}
use Rattle.amqp_words.specs.declared.call.Call.{Call}
use Rattle.amqp_words.specs.declared.call.Call.TheVariants.{Close}
use Rattle.amqp_words.specs.declared.reply.Reply.{Reply}
use Rattle.amqp_words.specs.declared.reply.NamedReply.{NamedReply}
use Rattle.amqp_peer.specs.declared.held.Held.{Held}
use Rattle.amqp_peer.specs.declared.held.Held.TheVariants.{Early, Late, Unopened, Moving}
use Rattle.amqp_peer.specs.declared.peer.Progress.{Progress}
use Rattle.amqp_peer.specs.declared.peer.Progress.TheVariants as progress
use Rattle.amqp_peer.specs.Causes.{BeginsWithOpen, HasCause}
use Rattle.amqp_peer.specs.Hearing.{Gathers}
use Rattle.amqp_peer.specs.Held.{IsAwaiting, IsLeaving, IsSound, IsLate, IsExchanged, IsBusy, IsActive, link_at, is_made, is_made_state, reason_of}
use Rattle.amqp_peer.specs.History.{Local, Replied, made_in, link_in, given_in, sent_in, replied_in, moment_in, IsInside}
use Rattle.amqp_peer.specs.Peering.{Peering, Has, HasIn, HasCalled, IsUnmade, IsUnmadeAt, IsMadeIn, IsFaultIn, IsWaiting, IsOpen, IsClosing, HasFailedOpen, HasClosed, IsBrokenIn, IsBrokenHeld, link_of}
use Rattle.amqp_peer.specs.Replies.{pending, connection as made_reply, answered, IsCloseEnd}
use Rattle.amqp_peer.proofs.Refusals.{failure_not}
use Rattle.amqp_peer.specs.Runs.{CallWaits, IsFlushed, IsConcluded, IsSettled, AdvancedFrom, Advanced, Worked, RestedFrom, Rested, first_fault, error_by, error_in, open_failure, open_reply, close_reply, finished, concluded_in, concluded, greeted_if, greeted_in, greeted}
use Rattle.amqp_peer.proofs.Answers.{open_cause, close_cause}
use Rattle.amqp_peer.proofs.Stays.{failed_stops}
use Rattle.amqp_peer.proofs.Grows.{is_running, onward_from, onward_sound, waiting_moves, open_moves, closing_moves, over_moves, moves_in, broken_same, broken_sound, broken_unmade, broken_made, breaks, unmade_same, fault_same, unmade_worked, fault_worked, made_worked, made_came, unmade_failed, fault_failed}
use Rattle.amqp_peer.proofs.Leaves.{still_leaves}
use Rattle.amqp_peer.proofs.Histories.{inside-append, link_in-append, given_in-append, sent_in-append, replied_in-append, moment_in-inside}
use Rattle.amqp_peer.proofs.Said.{IsDue}
use Rattle.amqp_peer.proofs.Gathers.{gathers_late, gathers_none, gathers_same, gathers_join}
use Rattle.amqp_peer.proofs.Beats.{IsTimed, timed}
use Rattle.amqp_peer.proofs.Settled.{read_up_left, blocked_left}
use Rattle.amqp_peer.proofs.Moved.{moved, passed, made_after, link_after, replied_after, running_grows}
use Rattle.amqp_peer.proofs.Quiet.{quiet_replied, running_quiet, called_quiet, broken_quiet, fault_quiet}
use Rattle.amqp_peer.proofs.Written.{out_running}

-- ---- runs of an end

-- what a run of the connection adds to what an end went through
record Moves {L : Type 0} (link : Ghosts L) (n : ℕ) (old new : Peering L) (es : List Local) (answers : List NamedReply) : Type 0 where
  pub inside : IsInside es
  pub went : (d : L) → Went link (link_of d old) (link_in es) (link_of d new)
  pub answered_is : replied_in es ≡ answers
  pub few : reads_in (link_in es) ≤ n
  pub gathers : Gathers old.held new.held es

abbrev advanced : {L : Type 0} (link : Ghosts L) (at n : ℕ) (old new : Peering L) (es : List Local) (answers : List NamedReply) → Moves link n old new es answers → new.replies ≡ old.replies ++ answers → new.kind ≡ old.kind
    → ((h : List Local) → moment_in h ≡ at → Has old h → Has new (es ++ h)) → Advanced link at n old new
advanced link at n old new es answers m a k g =
    record { events = es; inside = m.inside; went = m.went; answers = a ∙ ap (λ (u : List NamedReply). old.replies ++ u) (sym m.answered_is); few = m.few; gathers = m.gathers; kind = k; grows = g }

-- the link went through what the engine's did
pub went_late : {L : Type 0} (link : Ghosts L) (held held' : Held L) (s s' : State L) (r : Ran link s s') → held ≡ Late s → held' ≡ Late s' → (d : L) → Went link (link_at d held) (link_in (moved r)) (link_at d held')
went_late {L} link held held' s s' r e e' d =
    subst (λ (x : L). Went link x (link_in (moved r)) (link_at d held')) (sym (ap (link_at d) e))
    (subst (λ (x : L). Went link s.wire.codec.link (link_in (moved r)) x) (sym (ap (link_at d) e'))
    (subst (λ (es : List LinkEvent). Went link s.wire.codec.link es s'.wire.codec.link) (sym (passed r).link) r.went))

moves : {L : Type 0} (link : Ghosts L) (n : ℕ) (old new : Peering L) (s s' : State L) (r : Ran link s s') → reads_in r.events ≤ n → AllOwed s.phase r.queued → IsHanded s r.given s' → (hears s'.phase ≡ true → hears s.phase ≡ true) → old.held ≡ Late s → new.held ≡ Late s' → Moves link n old new (moved r) []
moves link n old new s s' r f o h l e e' =
    record {
      inside = (passed r).inside;
      went = went_late link old.held new.held s s' r e e';
      answered_is = (passed r).silent;
      few = subst (λ (es : List LinkEvent). reads_in es ≤ n) (sym (passed r).link) f;
      gathers = gathers_late link old.held new.held s s' r o h l e e';
    }

moves_answer : {L : Type 0} (link : Ghosts L) (n : ℕ) (old new : Peering L) (es : List Local) (answer : NamedReply) → Moves link n old new es [] → Moves link n old new (Replied answer ∷ es) (answer ∷ [])
moves_answer link n old new es answer m = record { inside = m.inside; went = m.went; answered_is = ap (λ (u : List NamedReply). u ++ answer ∷ []) m.answered_is; few = m.few; gathers = gathers_same old.held new.held es (Replied answer ∷ es) refl refl m.gathers }

-- so many frames were read or queued
worked_frames : {L : Type 0} {link : Ghosts L} {s s' : State L} (r : Ran link s s') → 1 ≤ length r.given + length r.queued → 1 ≤ length (given_in (moved r)) + length (sent_in (moved r))
worked_frames r w = omega (arith, w, ap length (passed r).heard, ap length (passed r).said)

-- ---- nothing is there

pending_settled : {L : Type 0} (link : Ghosts L) (at : ℕ) (s s' : State L) → IsPart s'.wire.codec.input → IsAwaiting s'.phase → (st : EngineStepped link at s (Ok step.Pending) s') → IsSettled at (Late s') (moved st.run)
pending_settled link at s s' part awaits st =
    let undue : s'.phase ≡ p.Opened → IsBeatDue s'.beat at → ⊥ = λ o d. st.told.undue (sym st.told.phase ∙ o) (subst (λ (z : HeartBeat). IsBeatDue z at) st.told.still d) in
    inl (
      subst (λ (es : List LinkEvent). Includes es (NotRead Empty)) (sym (passed st.run).link) st.told.found,
      (
        record { part = part; awaits = awaits; undue = undue; unelapsed = st.told.unelapsed },
        elim st.told.written [ inl full ↦ inl (subst (λ (es : List LinkEvent). Includes es (NotWritten Full)) (sym (passed st.run).link) full) | inr none ↦ inr none ],
      ),
    )

pub pending_rests : {L : Type 0} (link : Ghosts L) (at : ℕ) (old : Peering L) (s s' : State L) → old.held ≡ Late s → IsPart s'.wire.codec.input → IsAwaiting s'.phase → EngineStepped link at s (Ok step.Pending) s' → Rested link at 1 old (record old { held = Late s' })
pending_rests link at old s s' e part awaits st =
    let r = st.run in
    record {
      run = advanced link at 1 old (record old { held = Late s' }) (moved r) [] (moves link 1 old (record old { held = Late s' }) s s' r st.few st.owed st.handed st.listens e refl) (sym (append-nil old.replies)) refl
          (λ h t x. moves_in link at old.progress old s s' old.fault h r (timed link at s _ s' st) (inl st.owed) t e
          (λ call k prep u. unmade_same link call old.fault s s' h r (λ z. absurd (cc (failed_stops s.phase z, ap is_stopped st.told.phase, st.told.live))) k st.told.phase u)
          (λ call k prep o f. fault_same old.fault s s' h r (λ z. absurd (cc (failed_stops s.phase z, ap is_stopped st.told.phase, st.told.live))) st.told.phase f)
          (λ call k prep b. broken_same s s' h r (λ z. absurd (cc (failed_stops s.phase z, ap is_stopped st.told.phase, st.told.live))) st.told.phase b) (still_leaves s s' st.told.phase) x);
      settled = λ a. pending_settled link at s s' part awaits st;
      concluded = λ a. absurd (cc (a, st.told.live));
      begun = λ x. x;
    }

-- ---- it failed

-- what a step that failed did, unless the transport failed in it
failed_did : {L : Type 0} (link : Ghosts L) (at : ℕ) (s s' : State L) (e : ConnectionFault) (st : EngineStepped link at s (Err e) s') → ((x : _) → e ≡ connection.Memory x → ⊥) → has_failed s'.phase ≡ false → 1 ≤ length st.run.given + length st.run.queued
failed_did link at s s' (connection.Memory x) st n a = absurd (n x refl)
failed_did link at s s' (connection.TransportError t) st n a = absurd (cc (st.told.0, a))
failed_did link at s s' connection.IllegalState st n a = st.told.0
failed_did link at s s' connection.NotImplemented st n a = st.told.0
failed_did link at s s' connection.NotFound st n a = st.told.0
failed_did link at s s' connection.RemoteClosed st n a = absurd st.told
failed_did link at s s' (connection.RemoteClosedWithError x) st n a = absurd st.told

sound_late : {L : Type 0} (held : Held L) (s : State L) → held ≡ Late s → has_failed s.phase ≡ false → IsSound held
sound_late {L} held s e a = subst (λ (x : Held L). IsSound x) (sym e) a

pub failed_advances : {L : Type 0} (link : Ghosts L) (at : ℕ) (old : Peering L) (s s' : State L) (e : ConnectionFault) → old.held ≡ Late s → EngineStepped link at s (Err e) s' → ((x : _) → e ≡ connection.Memory x → ⊥) → has_failed s.phase ≡ false → (IsLeaving s.phase → IsLeaving s'.phase)
    → Worked link at 1 old (record old { held = Late s'; fault = first_fault old.fault e })
failed_advances link at old s s' e l st n sound leaves =
    let r = st.run in
    let new = record old { held = Late s'; fault = first_fault old.fault e } in
    record {
      run = advanced link at 1 old new (moved r) [] (moves link 1 old new s s' r st.few st.owed st.handed st.listens l refl) (sym (append-nil old.replies)) refl
          (λ h t x. moves_in link at old.progress old s s' (first_fault old.fault e) h r (timed link at s _ s' st) (inl st.owed) t l
          (λ call k prep u. unmade_failed link at call old.fault e s s' h st k prep t n u)
          (λ call k prep o f. fault_failed link at call old.fault e s s' h st k o prep t n f) (λ call k prep b. breaks link at call e s s' h st k prep t n) leaves x);
      frames = λ a. worked_frames r (failed_did link at s s' e st n a);
      most = omega arith;
      stays = λ a. sound_late old.held s l sound;
      from = λ a. sound_late old.held s l sound;
    }

-- ---- a reply alone

pub called_keeps : {L : Type 0} (call : Call) (held : Held L) (h : List Local) (r : NamedReply) → HasCause h r.reply → HasCalled call held h → HasCalled call held (Replied r ∷ h)
called_keeps call held h r c k = called_quiet call held h (Replied r ∷ h) (quiet_replied r h) (c, k.caused) k

-- ---- it worked

-- the phase in which a connection is made
made_of : {L : Type 0} (held : Held L) (s : State L) (b : Bool) → held ≡ Late s → is_made held ≡ b → is_made_state (state_of s.phase) ≡ b
made_of held s b e m = sym (ap is_made e) ∙ m

-- where it is not made by the step
worked_has : {L : Type 0} (link : Ghosts L) (at : ℕ) (q : Progress) (old : Peering L) (s s' : State L) (h : List Local) (r : Ran link s s') → IsTimed at s r.given r.queued s' → IsDue (made_in h) s.phase r.queued → moment_in h ≡ at → old.held ≡ Late s → IsOnward s.phase s'.phase
    → (IsLeaving s.phase → IsLeaving s'.phase) → (q ≡ progress.Opening → is_made_state (state_of s'.phase) ≡ false) → HasIn q old h → HasIn q (record old { held = Late s' }) (moved r ++ h)
worked_has link at progress.Idle old s s' h r m d t e o l n x = absurd (cc (sym e ∙ x.holds))
worked_has link at progress.Opening old s s' h r m d t e o l n x = waiting_moves link at old s s' old.fault h r m d t e (λ call k prep u. unmade_worked link at call old.fault s s' h r m.moment k o (n refl) u) x
worked_has link at progress.Open old s s' h r m d t e o l n x = open_moves link at old s s' old.fault h r m d t e (λ call k prep b f. fault_worked old.fault s s' h r o f) x
worked_has link at progress.Closing old s s' h r m d t e o l n x = closing_moves link at old s s' old.fault h r m d t e (λ call k prep b f. fault_worked old.fault s s' h r o f) l x
worked_has link at progress.Over old s s' h r m d t e o l n x = over_moves link at old s s' old.fault h r m d t e (λ call k prep b. broken_sound s' (moved r ++ h) (onward_sound s.phase s'.phase o)) x

pub worked_same : {L : Type 0} (link : Ghosts L) (at : ℕ) (old : Peering L) (s s' : State L) → old.held ≡ Late s → EngineStepped link at s (Ok step.Worked) s' → (IsLeaving s.phase → IsLeaving s'.phase) → (old.progress ≡ progress.Opening → is_made_state (state_of s'.phase) ≡ false)
    → Worked link at 1 old (record old { held = Late s' })
worked_same link at old s s' e st l n =
    let r = st.run in
    record {
      run = advanced link at 1 old (record old { held = Late s' }) (moved r) [] (moves link 1 old (record old { held = Late s' }) s s' r st.few st.owed st.handed st.listens e refl) (sym (append-nil old.replies)) refl
          (λ h t x. worked_has link at old.progress old s s' h r (timed link at s _ s' st) (inl st.owed) t e st.told.onward l n x);
      frames = λ a. worked_frames r st.told.worked;
      most = omega arith;
      stays = λ a. sound_late old.held s e (onward_from s.phase s'.phase st.told.onward);
      from = λ a. sound_late old.held s e (onward_from s.phase s'.phase st.told.onward);
    }

-- where it is
made_has : {L : Type 0} (link : Ghosts L) (at : ℕ) (old : Peering L) (s s' : State L) (h : List Local) (st : EngineStepped link at s (Ok step.Worked) s') → moment_in h ≡ at → old.held ≡ Late s → is_made_state (state_of s'.phase) ≡ true → IsWaiting old h
    → IsOpen (greeted_if true (record old { held = Late s' })) (Replied (made_reply old.name) ∷ moved st.run ++ h)
made_has {L} link at old s s' h st t e n w =
    let r = st.run in
    let k = is_running w.call old.held s h e w.called in
    let u : IsUnmadeAt old.fault s h = subst (λ (x : Held L). IsUnmade old.fault x h) e w.unmade in
    let o = made_worked link w.call old.fault s s' h r k st.told.onward n u in
    let k' = running_grows link at w.call s s' h r (timed link at s _ s' st) (inl st.owed) t k in
    let came = made_came link w.call old.fault s s' h r k st.told.onward n u in
    let lives = onward_sound s.phase s'.phase st.told.onward in
    let flushed : Includes (link_in (moved r ++ h)) (NotWritten Full) ⊎ (s'.wire.codec.output ≡ []) = elim (st.told.written came) [
      | inl f ↦ absurd (cc (f, lives))
      | inr x ↦ elim x [
        | inl y ↦ inl (subst (λ (es : List LinkEvent). Includes es (NotWritten Full)) (sym (link_after h (passed r))) (includes_left r.events (link_in h) (NotWritten Full) y))
        | inr y ↦ inr y
      ]
    ] in
    record {
      call = w.call;
      name = old.name;
      same = refl;
      made = made_after h (passed r) ∙ w.made;
      replied = ap (λ (u : List NamedReply). u ++ made_reply old.name ∷ []) (replied_after h (passed r) ∙ w.replied);
      called = record { holds = running_quiet w.call s' (moved r ++ h) (Replied (made_reply old.name) ∷ moved r ++ h) (quiet_replied (made_reply old.name) (moved r ++ h)) k'; caused = (record { heard = o.0; said = k'.opens; out = out_running w.call s' (moved r ++ h) k' flushed }, (passed r).caused h w.called.caused) };
      is_made = (o.0, fault_quiet old.fault s' (moved r ++ h) (Replied (made_reply old.name) ∷ moved r ++ h) (quiet_replied (made_reply old.name) (moved r ++ h)) o.1);
    }

pub worked_made : {L : Type 0} (link : Ghosts L) (at : ℕ) (old : Peering L) (s s' : State L) → old.held ≡ Late s → EngineStepped link at s (Ok step.Worked) s' → old.progress ≡ progress.Opening → is_made_state (state_of s'.phase) ≡ true
    → Worked link at 1 old (greeted_if true (record old { held = Late s' }))
worked_made {L} link at old s s' e st q n =
    let r = st.run in
    let new = greeted_if true (record old { held = Late s' }) in
    record {
      run = advanced link at 1 old new (Replied (made_reply old.name) ∷ moved r) (made_reply old.name ∷ []) (moves_answer link 1 old new (moved r) (made_reply old.name) (moves link 1 old new s s' r st.few st.owed st.handed st.listens e refl)) refl refl
          (λ h t x. made_has link at old s s' h st t e n (subst (λ (z : Progress). HasIn z old h) q x));
      frames = λ a. worked_frames r st.told.worked;
      most = omega arith;
      stays = λ a. sound_late old.held s e (onward_from s.phase s'.phase st.told.onward);
      from = λ a. sound_late old.held s e (onward_from s.phase s'.phase st.told.onward);
    }

-- ---- it has stopped

-- a fault that was kept stays so where a reply is told
broken_told : {L : Type 0} (held : Held L) (s : State L) (h : List Local) (r : NamedReply) → held ≡ Late s → IsBrokenIn s h → IsBrokenHeld held (Replied r ∷ h)
broken_told {L} held s h r e b = subst (λ (x : Held L). IsBrokenHeld x (Replied r ∷ h)) (sym e) (broken_quiet s h (Replied r ∷ h) (quiet_replied r h) b)

-- a reply changes nothing else
finish_open : {L : Type 0} (old : Peering L) (s : State L) (h : List Local) → old.held ≡ Late s → is_stopped s.phase ≡ true → IsWaiting old h → HasFailedOpen (finished old (open_reply (error_in old))) (Replied (answered old.name (open_reply (error_in old))) ∷ h)
finish_open {L} old s h e z w =
    let k = is_running w.call old.held s h e w.called in
    let u : IsUnmadeAt old.fault s h = subst (λ (x : Held L). IsUnmade old.fault x h) e w.unmade in
    let c : HasCause h (open_reply (error_in old)) = subst (λ (r : _). HasCause h (open_reply (error_by old.fault r))) (sym (ap reason_of e)) (open_cause w.call old.fault s h k z u) in
    record {
      call = w.call;
      name = old.name;
      error = open_failure (error_in old);
      made = w.made;
      replied = inl (ap (λ (u : List NamedReply). u ++ answered old.name (open_reply (error_in old)) ∷ []) w.replied, failure_not (error_in old));
      silent = λ t. absurd (failure_not (error_in old) t);
      called = called_keeps w.call old.held h (answered old.name (open_reply (error_in old))) c w.called;
      done = λ z. subst IsBusy e z;
      broken = broken_told old.held s h (answered old.name (open_reply (error_in old))) e (broken_unmade old.fault s h u);
    }

close_ends : (e : Option ConnectionFault) → IsCloseEnd (close_reply e)
close_ends None = tt
close_ends (Some e) = tt

pub finish_close : {L : Type 0} (old : Peering L) (s : State L) (h : List Local) (call : Call) (name : ℕ) (error : Option (List ℕ)) → old.held ≡ Late s → is_stopped s.phase ≡ true → (has_failed s.phase ≡ true) ⊎ (Includes (link_in h) (NotWritten Full) ⊎ (s.wire.codec.output ≡ []))
    → made_in h ≡ (old.name, Close error) ∷ (name, call) ∷ [] → HasCalled call old.held h → IsMadeIn old.fault old.held h
    → ((r : NamedReply) → (replied_in h ++ r ∷ [] ≡ pending name ∷ made_reply name ∷ pending old.name ∷ r ∷ []) ⊎ (replied_in h ++ r ∷ [] ≡ pending name ∷ made_reply name ∷ r ∷ []))
    → HasClosed (finished old (close_reply (error_in old))) (Replied (answered old.name (close_reply (error_in old))) ∷ h)
finish_close {L} old s h call name error e z f made called is_made replied =
    let k = is_running call old.held s h e called in
    let i : BeginsWithOpen (given_in h) × IsFaultIn old.fault s h = subst (λ (x : Held L). IsMadeIn old.fault x h) e is_made in
    let c : HasCause h (close_reply (error_in old)) = subst (λ (r : _). HasCause h (close_reply (error_by old.fault r))) (sym (ap reason_of e)) (close_cause call old.fault s h k z f i.0 i.1) in
    record {
      call = call;
      name = name;
      closing = old.name;
      error = error;
      reply = close_reply (error_in old);
      made = made;
      end = close_ends (error_in old);
      replied = replied (answered old.name (close_reply (error_in old)));
      called = called_keeps call old.held h (answered old.name (close_reply (error_in old))) c called;
      done = λ z. subst IsBusy e z;
      broken = broken_told old.held s h (answered old.name (close_reply (error_in old))) e (broken_made old.fault s h i.1);
    }

finish_waiting : {L : Type 0} (old : Peering L) (s : State L) (h : List Local) → old.held ≡ Late s → is_stopped s.phase ≡ true → (has_failed s.phase ≡ true) ⊎ (Includes (link_in h) (NotWritten Full) ⊎ (s.wire.codec.output ≡ [])) → IsClosing old h
    → HasClosed (finished old (close_reply (error_in old))) (Replied (answered old.name (close_reply (error_in old))) ∷ h)
finish_waiting old s h e z f w = finish_close old s h w.call w.name w.error e z f w.made w.called w.is_made (λ r. inl (ap (λ (u : List NamedReply). u ++ r ∷ []) w.replied))

-- what was queued is written after a step that rests
pub written_after : {L : Type 0} {link : Ghosts L} {s s' : State L} (h : List Local) (r : Ran link s s') → IsWritten s'.phase r.events s'.wire.codec.output → (has_failed s'.phase ≡ true) ⊎ (Includes (link_in (moved r ++ h)) (NotWritten Full) ⊎ (s'.wire.codec.output ≡ []))
written_after h r (inl f) = inl f
written_after h r (inr (inl y)) = inr (inl (subst (λ (es : List LinkEvent). Includes es (NotWritten Full)) (sym (link_after h (passed r))) (includes_left r.events (link_in h) (NotWritten Full) y)))
written_after h r (inr (inr y)) = inr (inr y)

stopped_has : {L : Type 0} (link : Ghosts L) (at : ℕ) (q : Progress) (old : Peering L) (s s' : State L) (h : List Local) (st : EngineStepped link at s (Ok step.Stopped) s') → (has_failed s.phase ≡ true → st.run.given ≡ []) → moment_in h ≡ at → old.held ≡ Late s → HasIn q old h → HasIn q (record old { held = Late s' }) (moved st.run ++ h)
stopped_has link at q old s s' h st n t e x =
    moves_in link at q old s s' old.fault h st.run (timed link at s _ s' st) (inl st.owed) t e (λ call k prep u. unmade_same link call old.fault s s' h st.run n k st.told.phase u) (λ call k prep o f. fault_same old.fault s s' h st.run n st.told.phase f) (λ call k prep b. broken_same s s' h st.run n st.told.phase b) (still_leaves s s' st.told.phase) x

not_active : {L : Type 0} (s : State L) → is_stopped s.phase ≡ true → IsActive (Late s) → ⊥
not_active s e a = absurd (cc (e, a))

-- what was queued was written as far as the link took it
pub flushed : {L : Type 0} {link : Ghosts L} {s s' : State L} (r : Ran link s s') → IsWritten s'.phase r.events s'.wire.codec.output → IsFlushed (Late s') (moved r)
flushed {L} {link} {s} {s'} r w = subst (λ (es : List LinkEvent). IsWritten s'.phase es s'.wire.codec.output) (sym (passed r).link) w

stopped_quiet : {L : Type 0} (link : Ghosts L) (at : ℕ) (old : Peering L) (s s' : State L) → old.held ≡ Late s → (CallWaits old.progress → ⊥) → (st : EngineStepped link at s (Ok step.Stopped) s') → (has_failed s.phase ≡ true → st.run.given ≡ []) → Rested link at 1 old (record old { held = Late s' })
stopped_quiet link at old s s' e waits st n =
    record {
      run = advanced link at 1 old (record old { held = Late s' }) (moved st.run) [] (moves link 1 old (record old { held = Late s' }) s s' st.run st.few st.owed st.handed st.listens e refl) (sym (append-nil old.replies)) refl
          (λ h t x. stopped_has link at old.progress old s s' h st n t e x);
      settled = λ a. absurd (not_active s' st.told.stopped a);
      concluded = λ a. inl (waits, flushed st.run st.told.written);
      begun = λ x. x;
    }

stopped_answered : {L : Type 0} (link : Ghosts L) (at : ℕ) (old : Peering L) (s s' : State L) (answer : Reply) → old.held ≡ Late s → (st : EngineStepped link at s (Ok step.Stopped) s')
    → ((h : List Local) → moment_in h ≡ at → Has old h → HasFailedOpen (finished (record old { held = Late s' }) answer) (Replied (answered old.name answer) ∷ moved st.run ++ h) ⊎ HasClosed (finished (record old { held = Late s' }) answer) (Replied (answered old.name answer) ∷ moved st.run ++ h))
    → Rested link at 1 old (finished (record old { held = Late s' }) answer)
stopped_answered link at old s s' answer e st g =
    let new = finished (record old { held = Late s' }) answer in
    record {
      run = advanced link at 1 old new (Replied (answered old.name answer) ∷ moved st.run) (answered old.name answer ∷ []) (moves_answer link 1 old new (moved st.run) (answered old.name answer) (moves link 1 old new s s' st.run st.few st.owed st.handed st.listens e refl)) refl refl g;
      settled = λ a. absurd (not_active s' st.told.stopped a);
      concluded = λ a. inl (λ w. w, flushed st.run st.told.written);
      begun = λ x. x;
    }

stopped_in : {L : Type 0} (link : Ghosts L) (at : ℕ) (q : Progress) (old : Peering L) (s s' : State L) → old.progress ≡ q → old.held ≡ Late s → (st : EngineStepped link at s (Ok step.Stopped) s') → (has_failed s.phase ≡ true → st.run.given ≡ []) → Rested link at 1 old (concluded_in q (record old { held = Late s' }))
stopped_in link at progress.Idle old s s' p e st n = stopped_quiet link at old s s' e (subst CallWaits p) st n
stopped_in {L} link at progress.Opening old s s' p e st n =
    stopped_answered link at old s s' (open_reply (error_in (record old { held = Late s' }))) e st
    (λ h t x. inl (finish_open (record old { held = Late s' }) s' (moved st.run ++ h) refl st.told.stopped (stopped_has link at progress.Opening old s s' h st n t e (subst (λ (z : Progress). HasIn z old h) p x))))
stopped_in link at progress.Open old s s' p e st n = stopped_quiet link at old s s' e (subst CallWaits p) st n
stopped_in {L} link at progress.Closing old s s' p e st n =
    stopped_answered link at old s s' (close_reply (error_in (record old { held = Late s' }))) e st
    (λ h t x. inr (finish_waiting (record old { held = Late s' }) s' (moved st.run ++ h) refl st.told.stopped (written_after h st.run st.told.written) (stopped_has link at progress.Closing old s s' h st n t e (subst (λ (z : Progress). HasIn z old h) p x))))
stopped_in link at progress.Over old s s' p e st n = stopped_quiet link at old s s' e (subst CallWaits p) st n

pub stopped_rests : {L : Type 0} (link : Ghosts L) (at : ℕ) (old : Peering L) (s s' : State L) → old.held ≡ Late s → (st : EngineStepped link at s (Ok step.Stopped) s') → (has_failed s.phase ≡ true → st.run.given ≡ []) → Rested link at 1 old (concluded (record old { held = Late s' }))
stopped_rests link at old s s' e st n = stopped_in link at old.progress old s s' refl e st n

-- ---- it greets

greets_if : {L : Type 0} (link : Ghosts L) (at : ℕ) (b : Bool) (old : Peering L) (s s' : State L) → old.progress ≡ progress.Opening → old.held ≡ Late s → EngineStepped link at s (Ok step.Worked) s' → (IsLeaving s.phase → IsLeaving s'.phase) → is_made_state (state_of s'.phase) ≡ b → Worked link at 1 old (greeted_if b (record old { held = Late s' }))
greets_if link at true old s s' p e st l n = worked_made link at old s s' e st p n
greets_if link at false old s s' p e st l n = worked_same link at old s s' e st l (λ z. n)

greets_in : {L : Type 0} (link : Ghosts L) (at : ℕ) (q : Progress) (old : Peering L) (s s' : State L) → old.progress ≡ q → old.held ≡ Late s → EngineStepped link at s (Ok step.Worked) s' → (IsLeaving s.phase → IsLeaving s'.phase) → Worked link at 1 old (greeted_in q (record old { held = Late s' }))
greets_in link at progress.Idle old s s' p e st l = worked_same link at old s s' e st l (λ z. absurd (cc (p, z)))
greets_in link at progress.Opening old s s' p e st l = greets_if link at (is_made_state (state_of s'.phase)) old s s' p e st l refl
greets_in link at progress.Open old s s' p e st l = worked_same link at old s s' e st l (λ z. absurd (cc (p, z)))
greets_in link at progress.Closing old s s' p e st l = worked_same link at old s s' e st l (λ z. absurd (cc (p, z)))
greets_in link at progress.Over old s s' p e st l = worked_same link at old s s' e st l (λ z. absurd (cc (p, z)))

pub worked_advances : {L : Type 0} (link : Ghosts L) (at : ℕ) (old : Peering L) (s s' : State L) → old.held ≡ Late s → EngineStepped link at s (Ok step.Worked) s' → (IsLeaving s.phase → IsLeaving s'.phase) → Worked link at 1 old (greeted (record old { held = Late s' }))
worked_advances link at old s s' e st l = greets_in link at old.progress old s s' refl e st l

-- the frames of a step that worked
pub record Shows {L : Type 0} (link : Ghosts L) (at : ℕ) (given queued : List Frame) (old new : Peering L) : Type 0 where
  pub run : Worked link at 1 old new
  pub given_is : given_in run.run.events ≡ given
  pub sent_is : sent_in run.run.events ≡ queued

shows_same : {L : Type 0} (link : Ghosts L) (at : ℕ) (old : Peering L) (s s' : State L) → old.held ≡ Late s → (st : EngineStepped link at s (Ok step.Worked) s') → (IsLeaving s.phase → IsLeaving s'.phase) → (old.progress ≡ progress.Opening → is_made_state (state_of s'.phase) ≡ false)
    → Shows link at st.run.given st.run.queued old (record old { held = Late s' })
unfolding worked_same
shows_same link at old s s' e st l n = record { run = worked_same link at old s s' e st l n; given_is = (passed st.run).heard; sent_is = (passed st.run).said }

shows_made : {L : Type 0} (link : Ghosts L) (at : ℕ) (old : Peering L) (s s' : State L) → old.held ≡ Late s → (st : EngineStepped link at s (Ok step.Worked) s') → old.progress ≡ progress.Opening → is_made_state (state_of s'.phase) ≡ true
    → Shows link at st.run.given st.run.queued old (greeted_if true (record old { held = Late s' }))
unfolding worked_made
shows_made link at old s s' e st q n = record { run = worked_made link at old s s' e st q n; given_is = (passed st.run).heard; sent_is = (passed st.run).said }

shows_if : {L : Type 0} (link : Ghosts L) (at : ℕ) (b : Bool) (old : Peering L) (s s' : State L) → old.progress ≡ progress.Opening → old.held ≡ Late s → (st : EngineStepped link at s (Ok step.Worked) s') → (IsLeaving s.phase → IsLeaving s'.phase) → is_made_state (state_of s'.phase) ≡ b → Shows link at st.run.given st.run.queued old (greeted_if b (record old { held = Late s' }))
shows_if link at true old s s' p e st l n = shows_made link at old s s' e st p n
shows_if link at false old s s' p e st l n = shows_same link at old s s' e st l (λ z. n)

shows_in : {L : Type 0} (link : Ghosts L) (at : ℕ) (q : Progress) (old : Peering L) (s s' : State L) → old.progress ≡ q → old.held ≡ Late s → (st : EngineStepped link at s (Ok step.Worked) s') → (IsLeaving s.phase → IsLeaving s'.phase) → Shows link at st.run.given st.run.queued old (greeted_in q (record old { held = Late s' }))
shows_in link at progress.Idle old s s' p e st l = shows_same link at old s s' e st l (λ z. absurd (cc (p, z)))
shows_in link at progress.Opening old s s' p e st l = shows_if link at (is_made_state (state_of s'.phase)) old s s' p e st l refl
shows_in link at progress.Open old s s' p e st l = shows_same link at old s s' e st l (λ z. absurd (cc (p, z)))
shows_in link at progress.Closing old s s' p e st l = shows_same link at old s s' e st l (λ z. absurd (cc (p, z)))
shows_in link at progress.Over old s s' p e st l = shows_same link at old s s' e st l (λ z. absurd (cc (p, z)))

pub worked_shows : {L : Type 0} (link : Ghosts L) (at : ℕ) (old : Peering L) (s s' : State L) → old.held ≡ Late s → (st : EngineStepped link at s (Ok step.Worked) s') → (IsLeaving s.phase → IsLeaving s'.phase) → Shows link at st.run.given st.run.queued old (greeted (record old { held = Late s' }))
worked_shows link at old s s' e st l = shows_in link at old.progress old s s' refl e st l

pub failed_shows : {L : Type 0} (link : Ghosts L) (at : ℕ) (old : Peering L) (s s' : State L) (e : ConnectionFault) → old.held ≡ Late s → (st : EngineStepped link at s (Err e) s') → ((x : _) → e ≡ connection.Memory x → ⊥) → has_failed s.phase ≡ false → (IsLeaving s.phase → IsLeaving s'.phase)
    → Shows link at st.run.given st.run.queued old (record old { held = Late s'; fault = first_fault old.fault e })
unfolding failed_advances
failed_shows link at old s s' e l st n sound leaves = record { run = failed_advances link at old s s' e l st n sound leaves; given_is = (passed st.run).heard; sent_is = (passed st.run).said }

-- the frames of a step that rests
pub record Rests {L : Type 0} (link : Ghosts L) (at : ℕ) (given queued : List Frame) (old new : Peering L) : Type 0 where
  pub run : Rested link at 1 old new
  pub given_is : given_in run.run.events ≡ given
  pub sent_is : sent_in run.run.events ≡ queued

pub pending_shows : {L : Type 0} (link : Ghosts L) (at : ℕ) (old : Peering L) (s s' : State L) → old.held ≡ Late s → IsPart s'.wire.codec.input → IsAwaiting s'.phase → (st : EngineStepped link at s (Ok step.Pending) s') → Rests link at st.run.given st.run.queued old (record old { held = Late s' })
unfolding pending_rests
pending_shows link at old s s' e part awaits st = record { run = pending_rests link at old s s' e part awaits st; given_is = (passed st.run).heard; sent_is = (passed st.run).said }

stopped_shows_quiet : {L : Type 0} (link : Ghosts L) (at : ℕ) (old : Peering L) (s s' : State L) → old.held ≡ Late s → (CallWaits old.progress → ⊥) → (st : EngineStepped link at s (Ok step.Stopped) s') → (has_failed s.phase ≡ true → st.run.given ≡ []) → Rests link at st.run.given st.run.queued old (record old { held = Late s' })
unfolding stopped_quiet
stopped_shows_quiet link at old s s' e waits st n = record { run = stopped_quiet link at old s s' e waits st n; given_is = (passed st.run).heard; sent_is = (passed st.run).said }

stopped_shows_in : {L : Type 0} (link : Ghosts L) (at : ℕ) (q : Progress) (old : Peering L) (s s' : State L) (e : old.progress ≡ q) → old.held ≡ Late s → (st : EngineStepped link at s (Ok step.Stopped) s') → (has_failed s.phase ≡ true → st.run.given ≡ []) → Rests link at st.run.given st.run.queued old (concluded_in q (record old { held = Late s' }))
unfolding stopped_in stopped_answered stopped_quiet
stopped_shows_in link at progress.Idle old s s' p e st n = record { run = stopped_in link at progress.Idle old s s' p e st n; given_is = (passed st.run).heard; sent_is = (passed st.run).said }
stopped_shows_in link at progress.Opening old s s' p e st n = record { run = stopped_in link at progress.Opening old s s' p e st n; given_is = (passed st.run).heard; sent_is = (passed st.run).said }
stopped_shows_in link at progress.Open old s s' p e st n = record { run = stopped_in link at progress.Open old s s' p e st n; given_is = (passed st.run).heard; sent_is = (passed st.run).said }
stopped_shows_in link at progress.Closing old s s' p e st n = record { run = stopped_in link at progress.Closing old s s' p e st n; given_is = (passed st.run).heard; sent_is = (passed st.run).said }
stopped_shows_in link at progress.Over old s s' p e st n = record { run = stopped_in link at progress.Over old s s' p e st n; given_is = (passed st.run).heard; sent_is = (passed st.run).said }

pub stopped_shows : {L : Type 0} (link : Ghosts L) (at : ℕ) (old : Peering L) (s s' : State L) → old.held ≡ Late s → (st : EngineStepped link at s (Ok step.Stopped) s') → (has_failed s.phase ≡ true → st.run.given ≡ []) → Rests link at st.run.given st.run.queued old (concluded (record old { held = Late s' }))
stopped_shows link at old s s' e st n = stopped_shows_in link at old.progress old s s' refl e st n

-- ---- steps after steps

abbrev pub advanced_then : {L : Type 0} (link : Ghosts L) (at m n : ℕ) (P : List Local → Type 0) (a b c : Peering L) → AdvancedFrom link at m P a b → Advanced link at n b c → AdvancedFrom link at (m + n) P a c
advanced_then {L} link at m n P a b c x y =
    record {
      events = y.events ++ x.events;
      inside = inside-append y.events x.events y.inside x.inside;
      went = λ d. subst (λ (es : List LinkEvent). Went link (link_of d a) es (link_of d c)) (sym (link_in-append y.events x.events)) (went_then link (link_of d a) (link_of d b) (link_of d c) (link_in x.events) (link_in y.events) (x.went d) (y.went d));
      answers = y.answers ∙ ap (λ (u : List NamedReply). u ++ replied_in y.events) x.answers ∙ append_assoc a.replies (replied_in x.events) (replied_in y.events) ∙ ap (λ (u : List NamedReply). a.replies ++ u) (sym (replied_in-append y.events x.events));
      few = let z = ap reads_in (link_in-append y.events x.events) ∙ reads_in-append (link_in y.events) (link_in x.events) in omega (arith, z, x.few, y.few);
      gathers = gathers_join a.held b.held c.held x.events y.events x.gathers y.gathers;
      kind = y.kind ∙ x.kind;
      grows = λ h t p. subst (λ (u : List Local). Has c u) (sym (append_assoc y.events x.events h)) (y.grows (x.events ++ h) (moment_in-inside x.events h x.inside ∙ t) (x.grows h t p));
    }

abbrev pub advanced_more : {L : Type 0} (link : Ghosts L) (at m n : ℕ) (P : List Local → Type 0) (a b : Peering L) → m ≤ n → AdvancedFrom link at m P a b → AdvancedFrom link at n P a b
advanced_more link at m n P a b l x = record { events = x.events; inside = x.inside; went = x.went; answers = x.answers; few = omega (arith, x.few, l); gathers = x.gathers; kind = x.kind; grows = x.grows }

abbrev pub advanced_none : {L : Type 0} (link : Ghosts L) (at : ℕ) (a : Peering L) → Advanced link at 0 a a
advanced_none link at a = record { events = []; inside = tt; went = λ d. refl; answers = sym (append-nil a.replies); few = omega arith; gathers = gathers_none a.held a.held [] refl (λ z. z) refl refl; kind = refl; grows = λ h t p. p }

unfoldable pub worked_none : {L : Type 0} (link : Ghosts L) (at : ℕ) (a : Peering L) → Worked link at 0 a a
worked_none link at a = record { run = advanced_none link at a; frames = λ z. omega arith; most = omega arith; stays = λ z. z; from = λ z. absurd (omega (arith, z)) }

-- at least one step is among the first or among the others
pub one_among : {P : Type 0} (m n : ℕ) → 1 ≤ m + n → (1 ≤ m → P) → (1 ≤ n → P) → P
one_among zero n l f g = g (omega (arith, l))
one_among (suc m) n l f g = f (omega arith)

-- each step but the last has a frame
pub most_then : (m n i j : ℕ) → m ≤ 1 + i → (1 ≤ n → m ≤ i) → n ≤ 1 + j → m + n ≤ 1 + (i + j)
most_then m zero i j x f y = omega (arith, x)
most_then m (suc n) i j x f y = let z = f (omega arith) in omega (arith, y, z)

unfoldable pub worked_then : {L : Type 0} (link : Ghosts L) (at m n : ℕ) (a b c : Peering L) → Worked link at m a b → Worked link at n b c → Worked link at (m + n) a c
worked_then link at m n a b c x y =
    let g = ap length (given_in-append y.run.events x.run.events) ∙ length-append (given_in x.run.events) (given_in y.run.events) in
    let s = ap length (sent_in-append y.run.events x.run.events) ∙ length-append (sent_in x.run.events) (sent_in y.run.events) in
    let most = most_then m n (length (given_in x.run.events) + length (sent_in x.run.events)) (length (given_in y.run.events) + length (sent_in y.run.events)) x.most (λ z. x.frames (y.from z)) y.most in
    record {
      run = advanced_then link at m n (Has a) a b c x.run y.run;
      frames = λ z. let i = y.frames z in let j = x.frames (y.stays z) in omega (arith, g, s, i, j);
      most = omega (arith, g, s, most);
      stays = λ z. x.stays (y.stays z);
      from = λ z. one_among m n z x.from (λ k. x.stays (y.from k));
    }

pub settled_left : {L : Type 0} (at : ℕ) (held : Held L) (es fs : List Local) → IsSettled at held es → IsSettled at held (es ++ fs)
settled_left at held es fs (inl a) = inl (subst (λ (u : List LinkEvent). Includes u (NotRead Empty)) (sym (link_in-append es fs)) (includes_left (link_in es) (link_in fs) (NotRead Empty) a.0), read_up_left at held es fs a.1)
settled_left at held es fs (inr (inl a)) = inr (inl (blocked_left held es fs a))
settled_left at held es fs (inr (inr (inl a))) =
    let z = ap reads_in (link_in-append es fs) ∙ reads_in-append (link_in es) (link_in fs) in inr (inr (inl (omega (arith, z, a))))
settled_left at held es fs (inr (inr (inr a))) =
    let g = ap length (given_in-append es fs) ∙ length-append (given_in fs) (given_in es) in
    let s = ap length (sent_in-append es fs) ∙ length-append (sent_in fs) (sent_in es) in
    inr (inr (inr (omega (arith, g, s, a))))

flushed_left : {L : Type 0} (held : Held L) (es fs : List Local) → IsFlushed held es → IsFlushed held (es ++ fs)
flushed_left (Early o p) es fs f = f
flushed_left (Late s) es fs (inl f) = inl f
flushed_left (Late s) es fs (inr (inl f)) = inr (inl (subst (λ (u : List LinkEvent). Includes u (NotWritten Full)) (sym (link_in-append es fs)) (includes_left (link_in es) (link_in fs) (NotWritten Full) f)))
flushed_left (Late s) es fs (inr (inr f)) = inr (inr f)
flushed_left (Unopened c) es fs f = f
flushed_left Moving es fs f = f

pub concluded_left : {L : Type 0} (p : Peering L) (es fs : List Local) → IsConcluded p es → IsConcluded p (es ++ fs)
concluded_left p es fs (inl a) = inl (a.0, flushed_left p.held es fs a.1)
concluded_left p es fs (inr a) =
    let g = ap length (given_in-append es fs) ∙ length-append (given_in fs) (given_in es) in
    let s = ap length (sent_in-append es fs) ∙ length-append (sent_in fs) (sent_in es) in
    inr (omega (arith, g, s, a))

unfoldable pub rested_then : {L : Type 0} (link : Ghosts L) (at m n : ℕ) (P : List Local → Type 0) (a b c : Peering L) → AdvancedFrom link at m P a b → Rested link at n b c → RestedFrom link at (m + n) P a c
rested_then link at m n P a b c x y = record { run = advanced_then link at m n P a b c x y.run; settled = λ z. settled_left at c.held y.run.events x.events (y.settled z); concluded = λ z. concluded_left c y.run.events x.events (y.concluded z); begun = y.begun }

unfoldable pub rested_more : {L : Type 0} (link : Ghosts L) (at m n : ℕ) (P : List Local → Type 0) (a b : Peering L) → m ≤ n → RestedFrom link at m P a b → RestedFrom link at n P a b
rested_more link at m n P a b l x = record { run = advanced_more link at m n P a b l x.run; settled = x.settled; concluded = x.concluded; begun = x.begun }

-- all steps were made
pub late_exchanged_not : {L : Type 0} (held : Held L) → IsLate held → IsExchanged held → ⊥
late_exchanged_not (Early o p) l e = l
late_exchanged_not (Late s) l e = e
late_exchanged_not (Unopened c) l e = l
late_exchanged_not Moving l e = l

pub active_sound : (q : Phase) → is_stopped q ≡ false → has_failed q ≡ false
active_sound p.OpenSent a = refl
active_sound p.Opened a = refl
active_sound p.CloseReceived a = refl
active_sound p.Refused a = refl
active_sound (p.Rejected why) a = refl
active_sound p.CloseSent a = refl
active_sound p.Discarding a = refl
active_sound p.Ended a = refl
active_sound p.Failed a = absurd (cc a)

pub late_sound : {L : Type 0} (held : Held L) → IsLate held → IsActive held → IsSound held
late_sound (Early o p) l a = l
late_sound (Late s) l a = active_sound s.phase a
late_sound (Unopened c) l a = l
late_sound Moving l a = l

unfoldable pub rested_spent : {L : Type 0} (link : Ghosts L) (at n : ℕ) (a b : Peering L) → 2 ^ 62 ≤ n → IsLate b.held → Worked link at n a b → Rested link at n a b
rested_spent link at n a b l late x = record { run = x.run; settled = λ z. let i = x.frames (late_sound b.held late z) in inr (inr (inr (omega (arith, l, i)))); concluded = λ z. let i = x.most in inr (omega (arith, l, i)); begun = late_exchanged_not b.held late }
