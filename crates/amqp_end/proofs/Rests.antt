-- An end that has done what its sessions ask of it, and goes on.
use Rattle.std.specs.Prelude.{if◌then◌else◌}
use Rattle.std.proofs.Common.{◌≡◌, ◌∙◌, List, [], Bool, true, false, Option, Some, None, refl, sym, ap, subst}
use Rattle.std.proofs.lemmas.Option.{none-some}
use Rattle.amqp_sessions.specs.amqp_calls.declared.reply.NamedReply.{NamedReply}
use Rattle.amqp_engine.specs.declared.phase.Phase.{Phase}
use Rattle.amqp_engine.specs.declared.phase.Phase.TheVariants as p
use Rattle.amqp_engine.specs.Phases.{is_stopped, state_of}
use Rattle.amqp_frames.specs.declared.shared.ConnectionStopReason.{ConnectionStopReason}
use Rattle.amqp_peer.specs.declared.held.Held.{Held}
use Rattle.amqp_peer.specs.declared.held.Held.TheVariants.{Early, Late, Unopened, Moving}
use Rattle.amqp_peer.specs.Held.{IsLate, reason_of}
use Rattle.amqp_peer.specs.Passing.{is_opened, is_opened_state}
use Rattle.amqp_peer.specs.Peering.{Peering}
use Rattle.amqp_sessions.specs.State.{State, seen}
use Rattle.amqp_sessions.specs.declared.sessions.Sessions.{Sessions}
use Rattle.amqp_end.specs.declared.end.End.{End}
use Rattle.amqp_end.specs.Rests.{HasSaid, IsSaid, Rests}
use Rattle.amqp_end.specs.Taken.{TakenOut}
use Rattle.amqp_end.proofs.Goes.{early_heard}
use Rattle.amqp_end.proofs.Opened.{opened_late}

opened_goes_on : (q : Phase) → is_opened_state (state_of q) ≡ true → is_stopped q ≡ false
opened_goes_on p.OpenSent e = refl
opened_goes_on p.Opened e = refl
opened_goes_on p.CloseReceived e = refl
opened_goes_on p.Refused e = refl
opened_goes_on (p.Rejected why) e = refl
opened_goes_on p.CloseSent e = refl
opened_goes_on p.Discarding e = refl
opened_goes_on p.Ended e = absurd (cc e)
opened_goes_on p.Failed e = absurd (cc e)

unstopped : (b : Bool) (reason why : ConnectionStopReason) → b ≡ false → Some why ≡ (if b then Some reason else None) → ⊥
unstopped true reason why h e = absurd (cc h)
unstopped false reason why h e = none-some why (sym e)

-- a connection that is open has not stopped
open_unstopped : {L : Type 0} (h : Held L) (why : ConnectionStopReason) → Some why ≡ reason_of h → is_opened h ≡ true → ⊥
open_unstopped (Early o q) why e h = none-some why (sym e)
open_unstopped (Unopened c) why e h = none-some why (sym e)
open_unstopped Moving why e h = none-some why (sym e)
open_unstopped (Late s) why e h = unstopped (is_stopped s.phase) s.reason why (opened_goes_on s.phase h) e

-- a connection that has stopped
pub said_stopped : {L : Type 0} (a b : End L) (why : ConnectionStopReason) → Some why ≡ reason_of a.connection.held → b.connection ≡ a.connection → IsSaid b
said_stopped {L} a b why e h o = absurd (open_unstopped a.connection.held why e (subst (λ (p : Peering L). is_opened p.held ≡ true) h o))

-- a connection that has not begun
pub early_rests : {L : Type 0} (e : End L) → (IsLate e.connection.held → ⊥) → Rests e
early_rests e k = record { heard = early_heard e.connection.held k; said = λ o. absurd (k (opened_late e.connection.held o)) }

-- nothing is said any more, and the connection is held as it was
said_same : {L : Type 0} (a b : End L) → b.connection.held ≡ a.connection.held → (seen b.sessions).output ≡ (seen a.sessions).output → (seen b.sessions).freed ≡ (seen a.sessions).freed → IsSaid a → IsSaid b
said_same {L} a b h o f k e = let x = k (subst (λ (z : Held L). is_opened z ≡ true) h e) in record { output = o ∙ x.output; freed = f ∙ x.freed }

pub said_still : {L : Type 0} (a b : End L) → b.connection ≡ a.connection → b.sessions ≡ a.sessions → IsSaid a → IsSaid b
said_still {L} a b h s = said_same a b (ap (λ (z : Peering L). z.held) h) (ap (λ (z : Sessions). (seen z).output) s) (ap (λ (z : Sessions). (seen z).freed) s)

-- answers are taken out
pub said_taken : {L : Type 0} (a m : End L) (answers : List NamedReply) → TakenOut a m answers → IsSaid a → IsSaid m
said_taken {L} a m answers o = said_same a m (ap (λ (z : Peering L). z.held) o.connection) (ap (λ (z : State). z.output) o.sessions) (ap (λ (z : State). z.freed) o.sessions)
