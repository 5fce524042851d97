-- What a step hands to the sessions above the connection.
use Rattle.std.proofs.Common.{◌≡◌, ℕ, List, Bool, true, false, Result, Ok, Err, refl, sym, subst}
use Rattle.amqp_wire.specs.declared.link.Link.{Ghosts}
use Rattle.amqp_engine.specs.declared.engine.EngineStep.{EngineStep}
use Rattle.amqp_engine.specs.declared.engine.EngineStep.TheVariants as step
use Rattle.amqp_engine.specs.declared.error.Error.{Error as ConnectionFault}
use Rattle.amqp_engine.specs.Outcomes.{Stepped as EngineStepped}
use Rattle.amqp_engine.specs.State.{State}
use Rattle.amqp_peer.specs.declared.held.Held.{Held}
use Rattle.amqp_peer.specs.declared.held.Held.TheVariants.{Late}
use Rattle.amqp_peer.specs.declared.peer.Progress.{Progress}
use Rattle.amqp_peer.specs.declared.peer.Progress.TheVariants as progress
use Rattle.amqp_peer.specs.Handed.{HandsOn, HandsLast}
use Rattle.amqp_peer.specs.Hearing.{Handed}
use Rattle.amqp_peer.specs.Held.{SteppedLate, is_made}
use Rattle.amqp_peer.specs.History.{Local, given_in, sent_in}
use Rattle.amqp_peer.specs.Peering.{Peering}
use Rattle.amqp_peer.specs.Runs.{greeted, greeted_in, greeted_if, concluded, concluded_in, first_fault, without_memory}
use Rattle.amqp_peer.proofs.Advances.{worked_shows, failed_shows, pending_shows, stopped_shows}
use Rattle.amqp_peer.proofs.Gives.{handed_by}
use Rattle.amqp_peer.proofs.Leaves.{steps_leave, fails_sound}
use Rattle.amqp_peer.proofs.Parts.{pending_part, pending_awaits}
use Rattle.amqp_peer.proofs.Turns.{LateStep, late_step, kept}

-- whatever the step answers
hands : {L : Type 0} (link : Ghosts L) (at : ℕ) (old new : Held L) (s s' : State L) (result : Result EngineStep ConnectionFault) (st : EngineStepped link at s result s') (events : List Local) → old ≡ Late s → new ≡ Late s' → given_in events ≡ st.run.given → sent_in events ≡ st.run.queued → Handed old new events
hands link at old new s s' result st events e n g q = handed_by old new s s' st.run.given st.run.queued events st.owed st.handed st.listens e n g q

greeted_held_if : {L : Type 0} (b : Bool) (p : Peering L) → (greeted_if b p).held ≡ p.held
greeted_held_if true p = refl
greeted_held_if false p = refl

greeted_held : {L : Type 0} (q : Progress) (p : Peering L) → (greeted_in q p).held ≡ p.held
greeted_held progress.Idle p = refl
greeted_held progress.Opening p = greeted_held_if (is_made p.held) p
greeted_held progress.Open p = refl
greeted_held progress.Closing p = refl
greeted_held progress.Over p = refl

concluded_held : {L : Type 0} (q : Progress) (p : Peering L) → (concluded_in q p).held ≡ p.held
concluded_held progress.Idle p = refl
concluded_held progress.Opening p = refl
concluded_held progress.Open p = refl
concluded_held progress.Closing p = refl
concluded_held progress.Over p = refl

-- a step that worked
worked_late : {L : Type 0} (link : Ghosts L) (at : ℕ) (old : Peering L) (held : Held L) → LateStep link at old.held (Ok step.Worked) held → HandsOn link at old (greeted (record old { held = held }))
worked_late {L} link at old held k =
    let w = worked_shows link at old k.s k.s' k.is k.step (steps_leave link at k.s k.s' (Ok step.Worked) k.does) in
    let now : Peering L = greeted (record old { held = Late k.s' }) in
    subst (λ (z : Held L). HandsOn link at old (greeted (record old { held = z }))) (sym k.becomes)
    (w.run, hands link at old.held now.held k.s k.s' (Ok step.Worked) k.step w.run.run.events k.is (greeted_held old.progress (record old { held = Late k.s' })) w.given_is w.sent_is)

pub worked_hands : {L : Type 0} (link : Ghosts L) (at : ℕ) (old : Peering L) (held : Held L) → SteppedLate link at old.held (Ok step.Worked) held → HandsOn link at old (greeted (record old { held = held }))
worked_hands link at old held h = worked_late link at old held (late_step link at old.held (Ok step.Worked) held h)

-- a step that found nothing to do
pub pending_hands : {L : Type 0} (link : Ghosts L) (at : ℕ) (old : Peering L) (held : Held L) → SteppedLate link at old.held (Ok step.Pending) held → HandsLast link at old (record old { held = held })
pending_hands {L} link at old held h =
    let k = late_step link at old.held (Ok step.Pending) held h in
    let r = pending_shows link at old k.s k.s' k.is (pending_part link at k.s k.s' k.does) (pending_awaits link at k.s k.s' k.does) k.step in
    subst (λ (z : Held L). HandsLast link at old (record old { held = z })) (sym k.becomes)
    (r.run, hands link at old.held (Late k.s') k.s k.s' (Ok step.Pending) k.step r.run.run.events k.is refl r.given_is r.sent_is)

-- a step after which the connection has stopped
pub stopped_hands : {L : Type 0} (link : Ghosts L) (at : ℕ) (old : Peering L) (held : Held L) → SteppedLate link at old.held (Ok step.Stopped) held → HandsLast link at old (concluded (record old { held = held }))
stopped_hands {L} link at old held h =
    let k = late_step link at old.held (Ok step.Stopped) held h in
    let r = stopped_shows link at old k.s k.s' k.is k.step k.none in
    let now : Peering L = concluded (record old { held = Late k.s' }) in
    subst (λ (z : Held L). HandsLast link at old (concluded (record old { held = z }))) (sym k.becomes)
    (r.run, hands link at old.held now.held k.s k.s' (Ok step.Stopped) k.step r.run.run.events k.is (concluded_held old.progress (record old { held = Late k.s' })) r.given_is r.sent_is)

-- a step that failed
pub failed_hands : {L : Type 0} (link : Ghosts L) (at : ℕ) (old : Peering L) (held : Held L) (e x : ConnectionFault) → SteppedLate link at old.held (Err e) held → without_memory e ≡ Ok x → HandsOn link at old (record old { held = held; fault = first_fault old.fault x })
failed_hands {L} link at old held e x h w =
    let n = kept e x w in
    let k = late_step link at old.held (Err x) held (subst (λ (y : ConnectionFault). SteppedLate link at old.held (Err y) held) (sym n.same) h) in
    let r = failed_shows link at old k.s k.s' x k.is k.step n.not_memory (fails_sound link at k.s k.s' x k.does) (steps_leave link at k.s k.s' (Err x) k.does) in
    subst (λ (z : Held L). HandsOn link at old (record old { held = z; fault = first_fault old.fault x })) (sym k.becomes)
    (r.run, hands link at old.held (Late k.s') k.s k.s' (Err x) k.step r.run.run.events k.is refl r.given_is r.sent_is)
