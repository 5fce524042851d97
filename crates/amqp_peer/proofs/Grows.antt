-- A connection that goes on is still what its history says.
use Rattle.std.proofs.Common.{◌≡◌, ◌≤◌, ◌⊎◌, inl, inr, ℕ, List, [], ◌∷◌, ◌++◌, true, false, length, Option, Some, None, Err, refl, sym, ap, ◌∙◌, subst, arith}
use Rattle.std.proofs.lemmas.List.{append-nil}
use Rattle.amqp_wire.specs.declared.link.Link.{Ghosts}
use Rattle.amqp_transport.specs.declared.frames.Frame.{Frame}
use Rattle.amqp_engine.specs.declared.error.Error.{Error as ConnectionFault}
use Rattle.amqp_engine.specs.declared.error.Error.TheVariants as connection
use Rattle.amqp_engine.specs.declared.phase.Phase.{Phase}
use Rattle.amqp_engine.specs.declared.phase.Phase.TheVariants as p
use Rattle.amqp_engine.specs.declared.phase.Rejection.{Rejection}
use Rattle.amqp_engine.specs.Heard.{IsRejectedFor, IsHeard}
use Rattle.amqp_engine.specs.Outcomes.{IsMoment, IsOnward, IsRefusal, Stepped}
use Rattle.amqp_engine.specs.Phases.{state_of, has_failed}
use Rattle.amqp_engine.specs.Sentence.{Ran}
use Rattle.amqp_engine.specs.State.{State}
use Rattle.amqp_words.specs.declared.call.Call.{Call}
use Rattle.amqp_words.specs.declared.reply.NamedReply.{NamedReply}
use Rattle.amqp_peer.specs.declared.held.Held.{Held}
use Rattle.amqp_peer.specs.declared.held.Held.TheVariants.{Late}
use Rattle.amqp_peer.specs.declared.peer.Progress.{Progress}
use Rattle.amqp_peer.specs.declared.peer.Progress.TheVariants as progress
use Rattle.amqp_peer.specs.Causes.{BeginsWithOpen, IsOther, IsRefusedAs, prepared_in}
use Rattle.amqp_peer.specs.Held.{IsLeaving, IsLeavingIn, is_made_state}
use Rattle.amqp_peer.specs.History.{Local, made_in, given_in, moment_in}
use Rattle.amqp_peer.specs.Replies.{IsOpenRefusal}
use Rattle.amqp_peer.specs.Peering.{Peering, IsHeld, IsSilent, IsRunning, HasCalled, IsFaultless, IsUnheard, IsBrokenIn, IsBrokenHeld, IsUnmadeAt, IsUnmade, IsFaultIn, IsMadeIn, EarlyFault, LateFault, IsWaiting, IsOpen, IsClosing, HasFailedOpen, HasClosed, HasIn}
use Rattle.amqp_peer.specs.Prepared.{prepared_of}
use Rattle.amqp_peer.specs.Runs.{first_fault}
use Rattle.amqp_peer.proofs.Beats.{IsTimed}
use Rattle.amqp_peer.proofs.Faulty.{broken_after, broken_more}
use Rattle.amqp_peer.proofs.Hears.{IsCloseAlone, greeted_begins, mistaken_other, made_begins, heard_length, begins_front, other_front, other_then, parted_short, close_begins_not, close_other_not}
use Rattle.amqp_peer.proofs.Histories.{once_now, once_more, given_in-append}
use Rattle.amqp_peer.proofs.Said.{IsDue}
use Rattle.amqp_peer.proofs.Stays.{failed_stops}
use Rattle.amqp_peer.proofs.Moved.{moved, passed, made_after, given_after, replied_after, running_grows, begins_more}

-- ---- what was heard

-- what an engine has heard after a run
heard_after : {L : Type 0} (link : Ghosts L) (call : Call) (s s' : State L) (h : List Local) (r : Ran link s s') → IsRunning call s h → IsHeard s'.phase s'.reason (given_in (moved r ++ h))
heard_after link call s s' h r k = subst (λ (xs : List Frame). IsHeard s'.phase s'.reason xs) (sym (given_after h (passed r))) (r.heard (given_in h) k.runs.heard)

-- Open stays heard
pub heard_open_more : {L : Type 0} {link : Ghosts L} {s s' : State L} (h : List Local) (r : Ran link s s') → BeginsWithOpen (given_in h) → BeginsWithOpen (given_in (moved r ++ h))
heard_open_more h r o = subst BeginsWithOpen (sym (given_after h (passed r))) (begins_more (given_in h) r.given o)

-- at most one frame is read
one_frame : {L : Type 0} (at : ℕ) (s s' : State L) (given : List Frame) → IsMoment at s given s' → length given ≤ 1
one_frame at s s' given (inl k) = omega (arith, ap length k.0)
one_frame at s s' given (inr k) = omega (arith, ap length k.1)

-- ---- where the connection is not made

-- where something was heard before, nothing new comes first
unheard_more : {L : Type 0} {link : Ghosts L} {s s' : State L} (h : List Local) (r : Ran link s s') → 1 ≤ length (given_in h) → (BeginsWithOpen (given_in h) → ⊥) → BeginsWithOpen (given_in (moved r ++ h)) → ⊥
unheard_more h r n u o = u (begins_front (given_in h) r.given n (subst BeginsWithOpen (given_after h (passed r)) o))

kept_more : {L : Type 0} {link : Ghosts L} {s s' : State L} (h : List Local) (r : Ran link s s') → 1 ≤ length (given_in h) → (IsOther (given_in h) → ⊥) → IsOther (given_in (moved r ++ h)) → ⊥
kept_more h r n u o = u (other_front (given_in h) r.given n (subst IsOther (given_after h (passed r)) o))

-- in place of Open a Close came
close_first : {L : Type 0} (link : Ghosts L) (at : ℕ) (call : Call) (s s' : State L) (h : List Local) (r : Ran link s s') → IsMoment at s r.given s' → IsRunning call s h → s.phase ≡ p.OpenSent → s'.phase ≡ p.CloseReceived → IsCloseAlone (given_in (moved r ++ h))
close_first link at call s s' h r m k e c =
    let none : given_in h ≡ [] = (subst (λ (q : Phase). IsHeard q s.reason (given_in h)) e k.runs.heard).0 in
    let g = given_after h (passed r) in
    let n = one_frame at s s' r.given m in
    parted_short s'.reason (given_in (moved r ++ h)) (omega (arith, ap length g, ap length (ap (λ (xs : List Frame). xs ++ r.given) none), n))
    (subst (λ (q : Phase). IsHeard q s'.reason (given_in (moved r ++ h))) c (heard_after link call s s' h r k))

-- the first frame that came is a Close, or one came before
pub record IsBehind {L : Type 0} {link : Ghosts L} {s s' : State L} (h : List Local) (r : Ran link s s') : Type 0 where
  pub either : IsCloseAlone (given_in (moved r ++ h)) ⊎ (1 ≤ length (given_in h))

behind_in : {L : Type 0} (link : Ghosts L) (at : ℕ) (call : Call) (q : Phase) (s s' : State L) (h : List Local) (r : Ran link s s') → IsMoment at s r.given s' → IsRunning call s h → s.phase ≡ q → IsOnward q s'.phase → is_made_state (state_of s'.phase) ≡ false → IsBehind h r
behind_in link at call p.OpenSent s s' h r m k e (inl o) n = absurd (cc (ap (λ (q : Phase). is_made_state (state_of q)) o, n))
behind_in link at call p.OpenSent s s' h r m k e (inr o) n = record { either = inl (close_first link at call s s' h r m k e o) }
behind_in link at call p.Opened s s' h r m k e o n = record { either = inr (heard_length s.phase s.reason (given_in h) k.runs.heard (ap has_failed e) (λ z. absurd (cc (e, z)))) }
behind_in link at call p.CloseReceived s s' h r m k e o n = record { either = inr (heard_length s.phase s.reason (given_in h) k.runs.heard (ap has_failed e) (λ z. absurd (cc (e, z)))) }
behind_in link at call p.Refused s s' h r m k e o n = record { either = inr (heard_length s.phase s.reason (given_in h) k.runs.heard (ap has_failed e) (λ z. absurd (cc (e, z)))) }
behind_in link at call (p.Rejected why) s s' h r m k e o n = record { either = inr (heard_length s.phase s.reason (given_in h) k.runs.heard (ap has_failed e) (λ z. absurd (cc (e, z)))) }
behind_in link at call p.CloseSent s s' h r m k e o n = record { either = inr (heard_length s.phase s.reason (given_in h) k.runs.heard (ap has_failed e) (λ z. absurd (cc (e, z)))) }
behind_in link at call p.Discarding s s' h r m k e o n = record { either = inr (heard_length s.phase s.reason (given_in h) k.runs.heard (ap has_failed e) (λ z. absurd (cc (e, z)))) }
behind_in link at call p.Ended s s' h r m k e o n = absurd o
behind_in link at call p.Failed s s' h r m k e o n = absurd o

behind_unheard : {L : Type 0} {link : Ghosts L} {s s' : State L} (h : List Local) (r : Ran link s s') → IsBehind h r → (BeginsWithOpen (given_in h) → ⊥) → BeginsWithOpen (given_in (moved r ++ h)) → ⊥
behind_unheard h r b u o = elim b.either [
  | inl c ↦ close_begins_not (given_in (moved r ++ h)) c o
  | inr n ↦ unheard_more h r n u o
]

behind_kept : {L : Type 0} {link : Ghosts L} {s s' : State L} (h : List Local) (r : Ran link s s') → IsBehind h r → (IsOther (given_in h) → ⊥) → IsOther (given_in (moved r ++ h)) → ⊥
behind_kept h r b u o = elim b.either [
  | inl c ↦ close_other_not (given_in (moved r ++ h)) c o
  | inr n ↦ kept_more h r n u o
]

pub onward_sound : (q r : Phase) → IsOnward q r → has_failed r ≡ false
onward_sound p.OpenSent r (inl e) = ap has_failed e
onward_sound p.OpenSent r (inr e) = ap has_failed e
onward_sound p.Opened r o = o
onward_sound p.CloseReceived r o = o
onward_sound p.Refused r o = o
onward_sound (p.Rejected why) r o = o
onward_sound p.CloseSent r o = o
onward_sound p.Discarding r o = o
onward_sound p.Ended r o = absurd o
onward_sound p.Failed r o = absurd o

pub onward_from : (q r : Phase) → IsOnward q r → has_failed q ≡ false
onward_from p.OpenSent r o = refl
onward_from p.Opened r o = refl
onward_from p.CloseReceived r o = refl
onward_from p.Refused r o = refl
onward_from (p.Rejected why) r o = refl
onward_from p.CloseSent r o = refl
onward_from p.Discarding r o = refl
onward_from p.Ended r o = refl
onward_from p.Failed r o = absurd o

is_open_sent : (q : Phase) → (q ≡ p.OpenSent) ⊎ (q ≡ p.OpenSent → ⊥)
is_open_sent p.OpenSent = inl refl
is_open_sent p.Opened = inr (λ e. absurd (cc e))
is_open_sent p.CloseReceived = inr (λ e. absurd (cc e))
is_open_sent p.Refused = inr (λ e. absurd (cc e))
is_open_sent (p.Rejected why) = inr (λ e. absurd (cc e))
is_open_sent p.CloseSent = inr (λ e. absurd (cc e))
is_open_sent p.Discarding = inr (λ e. absurd (cc e))
is_open_sent p.Ended = inr (λ e. absurd (cc e))
is_open_sent p.Failed = inr (λ e. absurd (cc e))

-- where the phase stays, nothing was heard yet, or something was heard before
still_in : {L : Type 0} (link : Ghosts L) (call : Call) (s s' : State L) (h : List Local) (r : Ran link s s') → IsRunning call s h → has_failed s.phase ≡ false → s'.phase ≡ s.phase → (s.phase ≡ p.OpenSent) ⊎ (s.phase ≡ p.OpenSent → ⊥) → (given_in (moved r ++ h) ≡ []) ⊎ (1 ≤ length (given_in h))
still_in link call s s' h r k f e (inl o) = inl (subst (λ (q : Phase). IsHeard q s'.reason (given_in (moved r ++ h))) (e ∙ o) (heard_after link call s s' h r k)).0
still_in link call s s' h r k f e (inr n) = inr (heard_length s.phase s.reason (given_in h) k.runs.heard f n)

begins_not_nil : (xs : List Frame) → xs ≡ [] → BeginsWithOpen xs → ⊥
begins_not_nil xs e o = omega (arith, ap length e, ap length o.is)

other_not_nil : (xs : List Frame) → xs ≡ [] → IsOther xs → ⊥
other_not_nil xs e o = omega (arith, ap length e, ap length o.is)

still_unheard : {L : Type 0} (link : Ghosts L) (call : Call) (s s' : State L) (h : List Local) (r : Ran link s s') → IsRunning call s h → has_failed s.phase ≡ false → s'.phase ≡ s.phase → (BeginsWithOpen (given_in h) → ⊥) → BeginsWithOpen (given_in (moved r ++ h)) → ⊥
still_unheard link call s s' h r k f e u o = elim (still_in link call s s' h r k f e (is_open_sent s.phase)) [
  | inl z ↦ begins_not_nil (given_in (moved r ++ h)) z o
  | inr n ↦ unheard_more h r n u o
]

still_kept : {L : Type 0} (link : Ghosts L) (call : Call) (s s' : State L) (h : List Local) (r : Ran link s s') → IsRunning call s h → has_failed s.phase ≡ false → s'.phase ≡ s.phase → (IsOther (given_in h) → ⊥) → IsOther (given_in (moved r ++ h)) → ⊥
still_kept link call s s' h r k f e u o = elim (still_in link call s s' h r k f e (is_open_sent s.phase)) [
  | inl z ↦ other_not_nil (given_in (moved r ++ h)) z o
  | inr n ↦ kept_more h r n u o
]

-- ---- an open or accept that waits, and a connection that is made

-- where the transport had failed before
-- a fault stays while the connection reads and queues nothing where its transport has failed
early_more : {L : Type 0} {link : Ghosts L} (e : ConnectionFault) (s s' : State L) (h : List Local) (r : Ran link s s') → (has_failed s.phase ≡ true → (r.given ≡ []) × (has_failed s'.phase ≡ true)) → EarlyFault e s h → EarlyFault e s' (moved r ++ h)
early_more (connection.Memory a) s s' h r n u = u
early_more (connection.TransportError t) s s' h r n u = ((n u.0).1, broken_more t (moved r) h ((passed r).heard ∙ (n u.0).0) ((passed r).said ∙ (r.stays (failed_stops s.phase u.0)).none) u.1)
early_more connection.IllegalState s s' h r n u = once_more (λ g. IsOther (given_in g)) (moved r) h u
early_more connection.NotImplemented s s' h r n u = u
early_more connection.NotFound s s' h r n u = u
early_more connection.RemoteClosed s s' h r n u = u
early_more (connection.RemoteClosedWithError x) s s' h r n u = u

pub late_more : {L : Type 0} {link : Ghosts L} (e : ConnectionFault) (s s' : State L) (h : List Local) (r : Ran link s s') → (has_failed s.phase ≡ true → (r.given ≡ []) × (has_failed s'.phase ≡ true)) → LateFault e s h → LateFault e s' (moved r ++ h)
late_more (connection.Memory a) s s' h r n u = u
late_more (connection.TransportError t) s s' h r n u = ((n u.0).1, broken_more t (moved r) h ((passed r).heard ∙ (n u.0).0) ((passed r).said ∙ (r.stays (failed_stops s.phase u.0)).none) u.1)
late_more connection.IllegalState s s' h r n u = once_more (λ g. IsRefusedAs connection.IllegalState (given_in g)) (moved r) h u
late_more connection.NotImplemented s s' h r n u = once_more (λ g. IsRefusedAs connection.NotImplemented (given_in g)) (moved r) h u
late_more connection.NotFound s s' h r n u = once_more (λ g. IsRefusedAs connection.NotFound (given_in g)) (moved r) h u
late_more connection.RemoteClosed s s' h r n u = u
late_more (connection.RemoteClosedWithError x) s s' h r n u = u

pub broken_same : {L : Type 0} {link : Ghosts L} (s s' : State L) (h : List Local) (r : Ran link s s') → (has_failed s.phase ≡ true → r.given ≡ []) → s'.phase ≡ s.phase → IsBrokenIn s h → IsBrokenIn s' (moved r ++ h)
broken_same s s' h r n e b z =
    let y = sym (ap has_failed e) ∙ z in
    let i = b y in
    record { fault = i.fault; how = broken_more i.fault (moved r) h ((passed r).heard ∙ n y) ((passed r).said ∙ (r.stays (failed_stops s.phase y)).none) i.how }

pub broken_sound : {L : Type 0} (s : State L) (h : List Local) → has_failed s.phase ≡ false → IsBrokenIn s h
broken_sound s h e z = absurd (cc (e, z))

pub broken_unmade : {L : Type 0} (fault : Option ConnectionFault) (s : State L) (h : List Local) → IsUnmadeAt fault s h → IsBrokenIn s h
broken_unmade None s h u = broken_sound s h u.sound
broken_unmade (Some e) s h u = u.1.1

pub broken_made : {L : Type 0} (fault : Option ConnectionFault) (s : State L) (h : List Local) → IsFaultIn fault s h → IsBrokenIn s h
broken_made None s h f = broken_sound s h f
broken_made (Some e) s h f = f.1

-- where the phase stays
pub unmade_same : {L : Type 0} (link : Ghosts L) (call : Call) (fault : Option ConnectionFault) (s s' : State L) (h : List Local) (r : Ran link s s') → (has_failed s.phase ≡ true → r.given ≡ []) → IsRunning call s h → s'.phase ≡ s.phase → IsUnmadeAt fault s h → IsUnmadeAt fault s' (moved r ++ h)
unmade_same link call None s s' h r n k e u =
    record { unheard = still_unheard link call s s' h r k u.sound e u.unheard; kept = still_kept link call s s' h r k u.sound e u.kept; sound = ap has_failed e ∙ u.sound }
unmade_same link call (Some f) s s' h r n k e u =
    (early_more f s s' h r (λ z. (n z, ap has_failed e ∙ z)) u.0, (λ z. let y = sym (ap has_failed e) ∙ z in still_unheard link call s s' h r k y e (u.1.0 y), broken_same s s' h r n e u.1.1))

pub fault_same : {L : Type 0} {link : Ghosts L} (fault : Option ConnectionFault) (s s' : State L) (h : List Local) (r : Ran link s s') → (has_failed s.phase ≡ true → r.given ≡ []) → s'.phase ≡ s.phase → IsFaultIn fault s h → IsFaultIn fault s' (moved r ++ h)
fault_same None s s' h r n e f = ap has_failed e ∙ f
fault_same (Some x) s s' h r n e f = (late_more x s s' h r (λ z. (n z, ap has_failed e ∙ z)) f.0, broken_same s s' h r n e f.1)

-- where a step worked
pub unmade_worked : {L : Type 0} (link : Ghosts L) (at : ℕ) (call : Call) (fault : Option ConnectionFault) (s s' : State L) (h : List Local) (r : Ran link s s') → IsMoment at s r.given s' → IsRunning call s h → IsOnward s.phase s'.phase → is_made_state (state_of s'.phase) ≡ false → IsUnmadeAt fault s h → IsUnmadeAt fault s' (moved r ++ h)
unmade_worked link at call None s s' h r m k o n u =
    let b = behind_in link at call s.phase s s' h r m k refl o n in
    record { unheard = behind_unheard h r b u.unheard; kept = behind_kept h r b u.kept; sound = onward_sound s.phase s'.phase o }
unmade_worked link at call (Some f) s s' h r m k o n u =
    (early_more f s s' h r (λ z. absurd (cc (onward_from s.phase s'.phase o, z))) u.0, (λ z. behind_unheard h r (behind_in link at call s.phase s s' h r m k refl o n) (u.1.0 (onward_from s.phase s'.phase o)), broken_sound s' (moved r ++ h) (onward_sound s.phase s'.phase o)))

pub fault_worked : {L : Type 0} {link : Ghosts L} (fault : Option ConnectionFault) (s s' : State L) (h : List Local) (r : Ran link s s') → IsOnward s.phase s'.phase → IsFaultIn fault s h → IsFaultIn fault s' (moved r ++ h)
fault_worked None s s' h r o f = onward_sound s.phase s'.phase o
fault_worked (Some x) s s' h r o f = (late_more x s s' h r (λ z. absurd (cc (onward_from s.phase s'.phase o, z))) f.0, broken_sound s' (moved r ++ h) (onward_sound s.phase s'.phase o))

-- where the connection is made by it: a fault from before is one of a made connection
late_of_early : {L : Type 0} (e : ConnectionFault) (s : State L) (h : List Local) → BeginsWithOpen (given_in h) → EarlyFault e s h → LateFault e s h
late_of_early (connection.Memory a) s h o u = u
late_of_early (connection.TransportError t) s h o u = u
late_of_early connection.IllegalState s h o u =
    absurd (other_then (given_in u.earlier) (given_in u.later) u.held (subst BeginsWithOpen (ap given_in u.split ∙ given_in-append u.later u.earlier) o))
late_of_early connection.NotImplemented s h o u = absurd u
late_of_early connection.NotFound s h o u = absurd u
late_of_early connection.RemoteClosed s h o u = u
late_of_early (connection.RemoteClosedWithError e) s h o u = u

pub made_worked : {L : Type 0} (link : Ghosts L) (call : Call) (fault : Option ConnectionFault) (s s' : State L) (h : List Local) (r : Ran link s s') → IsRunning call s h → IsOnward s.phase s'.phase → is_made_state (state_of s'.phase) ≡ true → IsUnmadeAt fault s h → BeginsWithOpen (given_in (moved r ++ h)) × IsFaultIn fault s' (moved r ++ h)
made_worked link call None s s' h r k o e u = (made_begins s'.phase s'.reason (given_in (moved r ++ h)) e (heard_after link call s s' h r k), onward_sound s.phase s'.phase o)
made_worked link call (Some f) s s' h r k o e u =
    let b = made_begins s'.phase s'.reason (given_in (moved r ++ h)) e (heard_after link call s s' h r k) in
    (b, (late_of_early f s' (moved r ++ h) b (early_more f s s' h r (λ z. absurd (cc (onward_from s.phase s'.phase o, z))) u.0), broken_sound s' (moved r ++ h) (onward_sound s.phase s'.phase o)))

-- the frame that made it came in this step
pub unheard_of : {L : Type 0} (fault : Option ConnectionFault) (s : State L) (h : List Local) → IsUnmadeAt fault s h → has_failed s.phase ≡ false → BeginsWithOpen (given_in h) → ⊥
unheard_of None s h u e = u.unheard
unheard_of (Some f) s h u e = u.1.0 e

came_now : (xs ys : List Frame) → (BeginsWithOpen xs → ⊥) → BeginsWithOpen (xs ++ ys) → 1 ≤ length ys
came_now xs [] u o = absurd (u (subst BeginsWithOpen (append-nil xs) o))
came_now xs (y ∷ ys) u o = omega arith

pub made_came : {L : Type 0} (link : Ghosts L) (call : Call) (fault : Option ConnectionFault) (s s' : State L) (h : List Local) (r : Ran link s s') → IsRunning call s h → IsOnward s.phase s'.phase → is_made_state (state_of s'.phase) ≡ true → IsUnmadeAt fault s h → 1 ≤ length r.given
made_came link call fault s s' h r k o e u =
    came_now (given_in h) r.given (unheard_of fault s h u (onward_from s.phase s'.phase o))
    (subst BeginsWithOpen (given_after h (passed r)) (made_begins s'.phase s'.reason (given_in (moved r ++ h)) e (heard_after link call s s' h r k)))

-- ---- faults

-- a frame that is refused in place of Open
refused_other : {L : Type 0} (link : Ghosts L) (call : Call) (s s' : State L) (h : List Local) (r : Ran link s s') → IsRunning call s h → s'.phase ≡ p.Refused → IsOther (given_in (moved r ++ h))
refused_other link call s s' h r k e = mistaken_other s'.reason (given_in (moved r ++ h)) (subst (λ (q : Phase). IsHeard q s'.reason (given_in (moved r ++ h))) e (heard_after link call s s' h r k))

pub opened_heard : {L : Type 0} (call : Call) (s : State L) (h : List Local) → IsRunning call s h → s.phase ≡ p.Opened → BeginsWithOpen (given_in h)
opened_heard call s h k e = greeted_begins (given_in h) (subst (λ (q : Phase). IsHeard q s.reason (given_in h)) e k.runs.heard).0

refusal_other : {L : Type 0} (link : Ghosts L) (call : Call) (q : Phase) (e : ConnectionFault) (s s' : State L) (h : List Local) (r : Ran link s s') → IsRunning call s h → IsFaultless s h → s.phase ≡ q → IsRefusal q e s'.phase → (e ≡ connection.IllegalState) × IsOther (given_in (moved r ++ h))
refusal_other link call p.OpenSent e s s' h r k f z c = (c.0, refused_other link call s s' h r k c.1)
refusal_other link call p.Opened e s s' h r k f z c = absurd (f.unheard (opened_heard call s h k z))
refusal_other link call p.CloseReceived e s s' h r k f z c = absurd c
refusal_other link call p.Refused e s s' h r k f z c = absurd c
refusal_other link call (p.Rejected why) e s s' h r k f z c = absurd c
refusal_other link call p.CloseSent e s s' h r k f z c = absurd c
refusal_other link call p.Discarding e s s' h r k f z c = absurd c
refusal_other link call p.Ended e s s' h r k f z c = absurd c
refusal_other link call p.Failed e s s' h r k f z c = absurd c

early_cause : {L : Type 0} (link : Ghosts L) (at : ℕ) (call : Call) (e : ConnectionFault) (s s' : State L) (h : List Local) (st : Stepped link at s (Err e) s') → IsRunning call s h → IsFaultless s h → prepared_in (made_in h) ≡ prepared_of call → moment_in h ≡ at → (a : (x : _) → e ≡ connection.Memory x → ⊥) → EarlyFault e s' (moved st.run ++ h)
early_cause link at call (connection.Memory x) s s' h st k f prep m a = absurd (a x refl)
early_cause link at call (connection.TransportError t) s s' h st k f prep m a = (st.told.0, broken_after link at call s s' h st.run t k prep m st.told.2 (st.told.1 k.calm))
early_cause link at call connection.IllegalState s s' h st k f prep m a = once_now (λ g. IsOther (given_in g)) (moved st.run ++ h) (refusal_other link call s.phase connection.IllegalState s s' h st.run k f refl st.told.1).1
early_cause link at call connection.NotImplemented s s' h st k f prep m a = absurd (cc (refusal_other link call s.phase connection.NotImplemented s s' h st.run k f refl st.told.1).0)
early_cause link at call connection.NotFound s s' h st k f prep m a = absurd (cc (refusal_other link call s.phase connection.NotFound s s' h st.run k f refl st.told.1).0)
early_cause link at call connection.RemoteClosed s s' h st k f prep m a = absurd st.told
early_cause link at call (connection.RemoteClosedWithError x) s s' h st k f prep m a = absurd st.told

-- after a frame that is refused Open is not heard either
refusal_unheard : {L : Type 0} (link : Ghosts L) (call : Call) (q : Phase) (e : ConnectionFault) (s s' : State L) (h : List Local) (r : Ran link s s') → IsRunning call s h → IsUnheard s h → s.phase ≡ q → IsRefusal q e s'.phase → BeginsWithOpen (given_in (moved r ++ h)) → ⊥
refusal_unheard link call p.OpenSent e s s' h r k f z c o = other_then (given_in (moved r ++ h)) [] (refused_other link call s s' h r k c.1) (subst BeginsWithOpen (sym (append-nil (given_in (moved r ++ h)))) o)
refusal_unheard link call p.Opened e s s' h r k f z c o = f (ap has_failed z) (opened_heard call s h k z)
refusal_unheard link call p.CloseReceived e s s' h r k f z c o = c
refusal_unheard link call p.Refused e s s' h r k f z c o = c
refusal_unheard link call (p.Rejected why) e s s' h r k f z c o = c
refusal_unheard link call p.CloseSent e s s' h r k f z c o = c
refusal_unheard link call p.Discarding e s s' h r k f z c o = c
refusal_unheard link call p.Ended e s s' h r k f z c o = c
refusal_unheard link call p.Failed e s s' h r k f z c o = c

refused_unheard : {L : Type 0} (link : Ghosts L) (at : ℕ) (call : Call) (e : ConnectionFault) (s s' : State L) (h : List Local) (st : Stepped link at s (Err e) s') → (a : (x : _) → e ≡ connection.Memory x → ⊥) → IsRunning call s h → IsUnheard s h → has_failed s'.phase ≡ false → BeginsWithOpen (given_in (moved st.run ++ h)) → ⊥
refused_unheard link at call (connection.Memory x) s s' h st a k f z o = a x refl
refused_unheard link at call (connection.TransportError t) s s' h st a k f z o = absurd (cc (st.told.0, z))
refused_unheard link at call connection.IllegalState s s' h st a k f z o = refusal_unheard link call s.phase connection.IllegalState s s' h st.run k f refl st.told.1 o
refused_unheard link at call connection.NotImplemented s s' h st a k f z o = refusal_unheard link call s.phase connection.NotImplemented s s' h st.run k f refl st.told.1 o
refused_unheard link at call connection.NotFound s s' h st a k f z o = refusal_unheard link call s.phase connection.NotFound s s' h st.run k f refl st.told.1 o
refused_unheard link at call connection.RemoteClosed s s' h st a k f z o = absurd st.told
refused_unheard link at call (connection.RemoteClosedWithError x) s s' h st a k f z o = absurd st.told

-- where the transport fails in a step
refusal_sound : (e : ConnectionFault) (q r : Phase) → IsRefusal q e r → has_failed r ≡ false
refusal_sound e p.OpenSent r c = ap has_failed c.1
refusal_sound e p.Opened r c = ap has_failed c.2
refusal_sound e p.CloseReceived r c = absurd c
refusal_sound e p.Refused r c = absurd c
refusal_sound e (p.Rejected why) r c = absurd c
refusal_sound e p.CloseSent r c = absurd c
refusal_sound e p.Discarding r c = absurd c
refusal_sound e p.Ended r c = absurd c
refusal_sound e p.Failed r c = absurd c

-- where it had failed before
refusal_from : (e : ConnectionFault) (q r : Phase) → IsRefusal q e r → has_failed q ≡ false
refusal_from e p.OpenSent r c = refl
refusal_from e p.Opened r c = refl
refusal_from e p.CloseReceived r c = refl
refusal_from e p.Refused r c = refl
refusal_from e (p.Rejected why) r c = refl
refusal_from e p.CloseSent r c = refl
refusal_from e p.Discarding r c = refl
refusal_from e p.Ended r c = refl
refusal_from e p.Failed r c = absurd c

failed_again : {L : Type 0} (link : Ghosts L) (at : ℕ) (e : ConnectionFault) (s s' : State L) (st : Stepped link at s (Err e) s') → (a : (x : _) → e ≡ connection.Memory x → ⊥) → has_failed s.phase ≡ true → (st.run.given ≡ []) × (has_failed s'.phase ≡ true)
failed_again link at (connection.Memory x) s s' st a z = absurd (a x refl)
failed_again link at (connection.TransportError t) s s' st a z = (st.told.2, st.told.0)
failed_again link at connection.IllegalState s s' st a z = absurd (cc (refusal_from connection.IllegalState s.phase s'.phase st.told.1, z))
failed_again link at connection.NotImplemented s s' st a z = absurd (cc (refusal_from connection.NotImplemented s.phase s'.phase st.told.1, z))
failed_again link at connection.NotFound s s' st a z = absurd (cc (refusal_from connection.NotFound s.phase s'.phase st.told.1, z))
failed_again link at connection.RemoteClosed s s' st a z = absurd st.told
failed_again link at (connection.RemoteClosedWithError x) s s' st a z = absurd st.told

pub breaks : {L : Type 0} (link : Ghosts L) (at : ℕ) (call : Call) (e : ConnectionFault) (s s' : State L) (h : List Local) (st : Stepped link at s (Err e) s') → IsRunning call s h → prepared_in (made_in h) ≡ prepared_of call → moment_in h ≡ at → (a : (x : _) → e ≡ connection.Memory x → ⊥) → IsBrokenIn s' (moved st.run ++ h)
breaks link at call (connection.Memory x) s s' h st k prep m a = absurd (a x refl)
breaks link at call (connection.TransportError t) s s' h st k prep m a = λ z. record { fault = t; how = broken_after link at call s s' h st.run t k prep m st.told.2 (st.told.1 k.calm) }
breaks link at call connection.IllegalState s s' h st k prep m a = broken_sound s' (moved st.run ++ h) (refusal_sound connection.IllegalState s.phase s'.phase st.told.1)
breaks link at call connection.NotImplemented s s' h st k prep m a = broken_sound s' (moved st.run ++ h) (refusal_sound connection.NotImplemented s.phase s'.phase st.told.1)
breaks link at call connection.NotFound s s' h st k prep m a = broken_sound s' (moved st.run ++ h) (refusal_sound connection.NotFound s.phase s'.phase st.told.1)
breaks link at call connection.RemoteClosed s s' h st k prep m a = absurd st.told
breaks link at call (connection.RemoteClosedWithError x) s s' h st k prep m a = absurd st.told

pub unmade_failed : {L : Type 0} (link : Ghosts L) (at : ℕ) (call : Call) (fault : Option ConnectionFault) (e : ConnectionFault) (s s' : State L) (h : List Local) (st : Stepped link at s (Err e) s') → IsRunning call s h → prepared_in (made_in h) ≡ prepared_of call → moment_in h ≡ at → (a : (x : _) → e ≡ connection.Memory x → ⊥)
    → IsUnmadeAt fault s h → IsUnmadeAt (first_fault fault e) s' (moved st.run ++ h)
unmade_failed link at call None e s s' h st k prep m a u = (early_cause link at call e s s' h st k u prep m a, (refused_unheard link at call e s s' h st a k (λ z. u.unheard), breaks link at call e s s' h st k prep m a))
unmade_failed link at call (Some f) e s s' h st k prep m a u = (early_more f s s' h st.run (failed_again link at e s s' st a) u.0, (refused_unheard link at call e s s' h st a k u.1.0, breaks link at call e s s' h st k prep m a))

-- a frame that is refused behind Open
rejected_stray : {L : Type 0} (link : Ghosts L) (call : Call) (why : Rejection) (s s' : State L) (h : List Local) (r : Ran link s s') → IsRunning call s h → s'.phase ≡ p.Rejected why → IsRejectedFor why (given_in (moved r ++ h))
rejected_stray link call why s s' h r k e = (subst (λ (q : Phase). IsHeard q s'.reason (given_in (moved r ++ h))) e (heard_after link call s s' h r k)).0

unheard_yet : {L : Type 0} (call : Call) (s : State L) (h : List Local) → IsRunning call s h → s.phase ≡ p.OpenSent → BeginsWithOpen (given_in h) → ⊥
unheard_yet call s h k e o = begins_not_nil (given_in h) (subst (λ (q : Phase). IsHeard q s.reason (given_in h)) e k.runs.heard).0 o

refusal_stray : {L : Type 0} (link : Ghosts L) (call : Call) (q : Phase) (e : ConnectionFault) (s s' : State L) (h : List Local) (r : Ran link s s') → IsRunning call s h → BeginsWithOpen (given_in h) → s.phase ≡ q → IsRefusal q e s'.phase → IsRefusedAs e (given_in (moved r ++ h))
refusal_stray link call p.OpenSent e s s' h r k o z c = absurd (unheard_yet call s h k z o)
refusal_stray link call p.Opened e s s' h r k o z c = (c.0, c.1, rejected_stray link call c.0 s s' h r k c.2)
refusal_stray link call p.CloseReceived e s s' h r k o z c = absurd c
refusal_stray link call p.Refused e s s' h r k o z c = absurd c
refusal_stray link call (p.Rejected why) e s s' h r k o z c = absurd c
refusal_stray link call p.CloseSent e s s' h r k o z c = absurd c
refusal_stray link call p.Discarding e s s' h r k o z c = absurd c
refusal_stray link call p.Ended e s s' h r k o z c = absurd c
refusal_stray link call p.Failed e s s' h r k o z c = absurd c

late_cause : {L : Type 0} (link : Ghosts L) (at : ℕ) (call : Call) (e : ConnectionFault) (s s' : State L) (h : List Local) (st : Stepped link at s (Err e) s') → IsRunning call s h → BeginsWithOpen (given_in h) → prepared_in (made_in h) ≡ prepared_of call → moment_in h ≡ at → (a : (x : _) → e ≡ connection.Memory x → ⊥) → LateFault e s' (moved st.run ++ h)
late_cause link at call (connection.Memory x) s s' h st k o prep m a = absurd (a x refl)
late_cause link at call (connection.TransportError t) s s' h st k o prep m a = (st.told.0, broken_after link at call s s' h st.run t k prep m st.told.2 (st.told.1 k.calm))
late_cause link at call connection.IllegalState s s' h st k o prep m a = once_now (λ g. IsRefusedAs connection.IllegalState (given_in g)) (moved st.run ++ h) (refusal_stray link call s.phase connection.IllegalState s s' h st.run k o refl st.told.1)
late_cause link at call connection.NotImplemented s s' h st k o prep m a = once_now (λ g. IsRefusedAs connection.NotImplemented (given_in g)) (moved st.run ++ h) (refusal_stray link call s.phase connection.NotImplemented s s' h st.run k o refl st.told.1)
late_cause link at call connection.NotFound s s' h st k o prep m a = once_now (λ g. IsRefusedAs connection.NotFound (given_in g)) (moved st.run ++ h) (refusal_stray link call s.phase connection.NotFound s s' h st.run k o refl st.told.1)
late_cause link at call connection.RemoteClosed s s' h st k o prep m a = absurd st.told
late_cause link at call (connection.RemoteClosedWithError x) s s' h st k o prep m a = absurd st.told

pub fault_failed : {L : Type 0} (link : Ghosts L) (at : ℕ) (call : Call) (fault : Option ConnectionFault) (e : ConnectionFault) (s s' : State L) (h : List Local) (st : Stepped link at s (Err e) s') → IsRunning call s h → BeginsWithOpen (given_in h) → prepared_in (made_in h) ≡ prepared_of call → moment_in h ≡ at → (a : (x : _) → e ≡ connection.Memory x → ⊥)
    → IsFaultIn fault s h → IsFaultIn (first_fault fault e) s' (moved st.run ++ h)
fault_failed link at call None e s s' h st k o prep m a u = (late_cause link at call e s s' h st k o prep m a, breaks link at call e s s' h st k prep m a)
fault_failed link at call (Some f) e s s' h st k o prep m a u = (late_more f s s' h st.run (failed_again link at e s s' st a) u.0, breaks link at call e s s' h st k prep m a)

-- ---- an end whose connection went on

-- the connection of an end
pub is_running : {L : Type 0} (call : Call) (held : Held L) (s : State L) (h : List Local) → held ≡ Late s → HasCalled call held h → IsRunning call s h
is_running {L} call held s h e c = subst (λ (x : Held L). IsHeld call x h) e c.holds

pub called_moves : {L : Type 0} (link : Ghosts L) (at : ℕ) (call : Call) (held : Held L) (s s' : State L) (h : List Local) (r : Ran link s s') → IsTimed at s r.given r.queued s' → IsDue (made_in h) s.phase r.queued → moment_in h ≡ at → held ≡ Late s → HasCalled call held h → HasCalled call (Late s') (moved r ++ h)
called_moves link at call held s s' h r m d t e c = record { holds = running_grows link at call s s' h r m d t (is_running call held s h e c); caused = (passed r).caused h c.caused }

-- Whatever becomes of its fault: the same calls, the same replies.
pub waiting_moves : {L : Type 0} (link : Ghosts L) (at : ℕ) (old : Peering L) (s s' : State L) (fault : Option ConnectionFault) (h : List Local) (r : Ran link s s') → IsTimed at s r.given r.queued s' → IsDue (made_in h) s.phase r.queued → moment_in h ≡ at → old.held ≡ Late s
    → ((call : Call) → IsRunning call s h → prepared_in (made_in h) ≡ prepared_of call → IsUnmadeAt old.fault s h → IsUnmadeAt fault s' (moved r ++ h))
    → IsWaiting old h → IsWaiting (record old { held = Late s'; fault = fault }) (moved r ++ h)
waiting_moves {L} link at old s s' fault h r m d t e f w =
    record {
      call = w.call;
      made = made_after h (passed r) ∙ w.made;
      replied = replied_after h (passed r) ∙ w.replied;
      called = called_moves link at w.call old.held s s' h r m d t e w.called;
      unmade = f w.call (is_running w.call old.held s h e w.called) (ap prepared_in w.made) (subst (λ (x : Held L). IsUnmade old.fault x h) e w.unmade);
    }

pub open_moves : {L : Type 0} (link : Ghosts L) (at : ℕ) (old : Peering L) (s s' : State L) (fault : Option ConnectionFault) (h : List Local) (r : Ran link s s') → IsTimed at s r.given r.queued s' → IsDue (made_in h) s.phase r.queued → moment_in h ≡ at → old.held ≡ Late s
    → ((call : Call) → IsRunning call s h → prepared_in (made_in h) ≡ prepared_of call → BeginsWithOpen (given_in h) → IsFaultIn old.fault s h → IsFaultIn fault s' (moved r ++ h))
    → IsOpen old h → IsOpen (record old { held = Late s'; fault = fault }) (moved r ++ h)
open_moves {L} link at old s s' fault h r m d t e g w =
    let i : BeginsWithOpen (given_in h) × IsFaultIn old.fault s h = subst (λ (x : Held L). IsMadeIn old.fault x h) e w.is_made in
    record {
      call = w.call;
      name = w.name;
      same = w.same;
      made = made_after h (passed r) ∙ w.made;
      replied = replied_after h (passed r) ∙ w.replied;
      called = called_moves link at w.call old.held s s' h r m d t e w.called;
      is_made = (heard_open_more h r i.0, g w.call (is_running w.call old.held s h e w.called) (ap prepared_in w.made) i.0 i.1);
    }

pub closing_moves : {L : Type 0} (link : Ghosts L) (at : ℕ) (old : Peering L) (s s' : State L) (fault : Option ConnectionFault) (h : List Local) (r : Ran link s s') → IsTimed at s r.given r.queued s' → IsDue (made_in h) s.phase r.queued → moment_in h ≡ at → old.held ≡ Late s
    → ((call : Call) → IsRunning call s h → prepared_in (made_in h) ≡ prepared_of call → BeginsWithOpen (given_in h) → IsFaultIn old.fault s h → IsFaultIn fault s' (moved r ++ h))
    → (IsLeaving s.phase → IsLeaving s'.phase) → IsClosing old h → IsClosing (record old { held = Late s'; fault = fault }) (moved r ++ h)
closing_moves {L} link at old s s' fault h r m d t e g l w =
    let i : BeginsWithOpen (given_in h) × IsFaultIn old.fault s h = subst (λ (x : Held L). IsMadeIn old.fault x h) e w.is_made in
    record {
      call = w.call;
      name = w.name;
      error = w.error;
      made = made_after h (passed r) ∙ w.made;
      replied = replied_after h (passed r) ∙ w.replied;
      called = called_moves link at w.call old.held s s' h r m d t e w.called;
      is_made = (heard_open_more h r i.0, g w.call (is_running w.call old.held s h e w.called) (ap prepared_in w.made) i.0 i.1);
      leaves = l (subst (λ (x : Held L). IsLeavingIn x) e w.leaves);
    }

pub over_moves : {L : Type 0} (link : Ghosts L) (at : ℕ) (old : Peering L) (s s' : State L) (fault : Option ConnectionFault) (h : List Local) (r : Ran link s s') → IsTimed at s r.given r.queued s' → IsDue (made_in h) s.phase r.queued → moment_in h ≡ at → old.held ≡ Late s
    → ((call : Call) → IsRunning call s h → prepared_in (made_in h) ≡ prepared_of call → IsBrokenIn s h → IsBrokenIn s' (moved r ++ h)) → HasFailedOpen old h ⊎ HasClosed old h → HasFailedOpen (record old { held = Late s'; fault = fault }) (moved r ++ h) ⊎ HasClosed (record old { held = Late s'; fault = fault }) (moved r ++ h)
over_moves {L} link at old s s' fault h r m d t e b (inl w) =
    inl (record {
      call = w.call;
      name = w.name;
      error = w.error;
      made = made_after h (passed r) ∙ w.made;
      replied = subst (λ (u : List NamedReply). IsOpenRefusal w.name w.error u) (sym (replied_after h (passed r))) w.replied;
      silent = λ z. absurd (subst (λ (x : Held L). IsSilent x h) e (w.silent z));
      called = called_moves link at w.call old.held s s' h r m d t e w.called;
      done = λ z. z;
      broken = b w.call (is_running w.call old.held s h e w.called) (ap prepared_in w.made) (subst (λ (x : Held L). IsBrokenHeld x h) e w.broken);
    })
over_moves {L} link at old s s' fault h r m d t e b (inr w) =
    inr (record {
      call = w.call;
      name = w.name;
      closing = w.closing;
      error = w.error;
      reply = w.reply;
      made = made_after h (passed r) ∙ w.made;
      end = w.end;
      replied = elim w.replied [ inl z ↦ inl (replied_after h (passed r) ∙ z) | inr z ↦ inr (replied_after h (passed r) ∙ z) ];
      called = called_moves link at w.call old.held s s' h r m d t e w.called;
      done = λ z. z;
      broken = b w.call (is_running w.call old.held s h e w.called) (ap prepared_in w.made) (subst (λ (x : Held L). IsBrokenHeld x h) e w.broken);
    })

pub moves_in : {L : Type 0} (link : Ghosts L) (at : ℕ) (q : Progress) (old : Peering L) (s s' : State L) (fault : Option ConnectionFault) (h : List Local) (r : Ran link s s') → IsTimed at s r.given r.queued s' → IsDue (made_in h) s.phase r.queued → moment_in h ≡ at → old.held ≡ Late s
    → ((call : Call) → IsRunning call s h → prepared_in (made_in h) ≡ prepared_of call → IsUnmadeAt old.fault s h → IsUnmadeAt fault s' (moved r ++ h))
    → ((call : Call) → IsRunning call s h → prepared_in (made_in h) ≡ prepared_of call → BeginsWithOpen (given_in h) → IsFaultIn old.fault s h → IsFaultIn fault s' (moved r ++ h))
    → ((call : Call) → IsRunning call s h → prepared_in (made_in h) ≡ prepared_of call → IsBrokenIn s h → IsBrokenIn s' (moved r ++ h))
    → (IsLeaving s.phase → IsLeaving s'.phase) → HasIn q old h → HasIn q (record old { held = Late s'; fault = fault }) (moved r ++ h)
moves_in link at progress.Idle old s s' fault h r m d t e f g b l n = absurd (cc (sym e ∙ n.holds))
moves_in link at progress.Opening old s s' fault h r m d t e f g b l w = waiting_moves link at old s s' fault h r m d t e f w
moves_in link at progress.Open old s s' fault h r m d t e f g b l w = open_moves link at old s s' fault h r m d t e g w
moves_in link at progress.Closing old s s' fault h r m d t e f g b l w = closing_moves link at old s s' fault h r m d t e g l w
moves_in link at progress.Over old s s' fault h r m d t e f g b l w = over_moves link at old s s' fault h r m d t e b w
