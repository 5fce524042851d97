-- A connection that is open, as its sessions are told.
use Rattle.std.proofs.Common.{◌≡◌, true, refl}
use Rattle.amqp_engine.specs.declared.phase.Phase.{Phase}
use Rattle.amqp_engine.specs.declared.phase.Phase.TheVariants as p
use Rattle.amqp_engine.specs.Phases.{hears, state_of}
use Rattle.amqp_peer.specs.declared.held.Held.{Held}
use Rattle.amqp_peer.specs.declared.held.Held.TheVariants.{Early, Late, Unopened, Moving}
use Rattle.amqp_peer.specs.Hearing.{hears_in, IsOpenIn}
use Rattle.amqp_peer.specs.Held.{IsLate}
use Rattle.amqp_peer.specs.Passing.{is_opened, is_opened_state}

pub opened_late : {L : Type 0} (h : Held L) → is_opened h ≡ true → IsLate h
opened_late (Early o q) e = absurd (cc e)
opened_late (Late s) e = tt
opened_late (Unopened c) e = absurd (cc e)
opened_late Moving e = absurd (cc e)

opened_phase : (q : Phase) → is_opened_state (state_of q) ≡ true → hears q ≡ true → q ≡ p.Opened
opened_phase p.OpenSent e h = absurd (cc e)
opened_phase p.Opened e h = refl
opened_phase p.CloseReceived e h = absurd (cc e)
opened_phase p.Refused e h = absurd (cc e)
opened_phase (p.Rejected why) e h = absurd (cc h)
opened_phase p.CloseSent e h = absurd (cc e)
opened_phase p.Discarding e h = absurd (cc e)
opened_phase p.Ended e h = absurd (cc e)
opened_phase p.Failed e h = absurd (cc e)

-- it is open, or hears no more
pub opened_hears : {L : Type 0} (h : Held L) → is_opened h ≡ true → hears_in h ≡ true → IsOpenIn h
opened_hears (Early o q) e h = absurd (cc e)
opened_hears (Late s) e h = opened_phase s.phase e h
opened_hears (Unopened c) e h = absurd (cc e)
opened_hears Moving e h = absurd (cc e)
