-- How the close of a connection stands in a history.
use Rattle.std.specs.Prelude.{if◌then◌else◌}
use Rattle.std.proofs.Common.{◌≡◌, ◌⊎◌, inl, inr, ℕ, Bool, true, false, List, [], Some, None, refl, sym, ap, ◌∙◌, subst}
use Rattle.amqp_frames.specs.declared.shared.ConnectionStopReason.{ConnectionStopReason}
use Rattle.amqp_frames.specs.declared.shared.ConnectionStopReason.TheVariants.{RemoteClosed}
use Rattle.amqp_engine.specs.Heard.{IsReason, HasLeft}
use Rattle.amqp_engine.specs.Phases.{is_stopped}
use Rattle.amqp_engine.proofs.Reasons.{reason_told}
use Rattle.amqp_words.specs.declared.call.Call.{Call}
use Rattle.amqp_peer.specs.declared.held.Held.{Held}
use Rattle.amqp_peer.specs.declared.held.Held.TheVariants.{Early, Late, Unopened, Moving}
use Rattle.amqp_peer.specs.declared.peer.Progress.{Progress}
use Rattle.amqp_peer.specs.declared.peer.Progress.TheVariants as progress
use Rattle.amqp_peer.specs.Causes.{IsTied, IsReadTo}
use Rattle.amqp_peer.specs.Held.{reason_of}
use Rattle.amqp_peer.specs.History.{Local, given_in}
use Rattle.amqp_peer.specs.Peering.{Peering, Has, HasIn, IsHeld}
use Rattle.served_connection.specs.ServeLaws.Closes.{IsClosedByPeer}
use Rattle.served_connection.proofs.ServeLaws.Frames.{some_left}

-- ---- what was read

-- where frames were read, they are those of the bytes
pub read_to : (h : List Local) → IsTied h → (given_in h ≡ [] → ⊥) → (rest : List ℕ) × IsReadTo h rest
read_to h t n = read_by h t.heard n
  where
    read_by : (h : List Local) → (given_in h ≡ []) ⊎ ((rest : List ℕ) × IsReadTo h rest) → (given_in h ≡ [] → ⊥) → (rest : List ℕ) × IsReadTo h rest
    read_by h (inl e) n = absurd (n e)
    read_by h (inr k) n = k

-- ---- the peer has closed the connection

reason_if : (stopped : Bool) (reason why : ConnectionStopReason) → (if stopped then Some reason else None) ≡ Some why → reason ≡ why
reason_if true reason why e = cc
reason_if false reason why e = cc

held_left : {L : Type 0} (call : Call) (held : Held L) (h : List Local) → IsHeld call held h → reason_of held ≡ Some RemoteClosed → HasLeft None (given_in h)
held_left call (Early o p) h k e = cc
held_left call (Late s) h k e =
    subst (λ (r : ConnectionStopReason). IsReason r (given_in h)) (reason_if (is_stopped s.phase) s.reason RemoteClosed e) (reason_told k.unwritten k.arrived s _ k.runs)
held_left call (Unopened c) h k e = cc
held_left call Moving h k e = cc

early_left : {L : Type 0} (held early : Held L) (h : List Local) → held ≡ early → reason_of early ≡ None → reason_of held ≡ Some RemoteClosed → HasLeft None (given_in h)
early_left {L} held early h is none e = let same = ap (λ (x : Held L). reason_of x) is in cc

left_in : {L : Type 0} (q : Progress) (p : Peering L) (h : List Local) → HasIn q p h → reason_of p.held ≡ Some RemoteClosed → HasLeft None (given_in h)
left_in progress.Idle p h x e = early_left p.held (Early x.opening x.prepared) h x.holds refl e
left_in progress.Opening p h x e = held_left x.call p.held h x.called.holds e
left_in progress.Open p h x e = held_left x.call p.held h x.called.holds e
left_in progress.Closing p h x e = held_left x.call p.held h x.called.holds e
left_in progress.Over p h (inl x) e = held_left x.call p.held h x.called.holds e
left_in progress.Over p h (inr x) e = held_left x.call p.held h x.called.holds e

pub closed_by_peer : {L : Type 0} (p : Peering L) (h : List Local) → Has p h → IsTied h → reason_of p.held ≡ Some RemoteClosed → IsClosedByPeer h
closed_by_peer p h x t e =
    let left = left_in p.progress p h x e in
    let k = read_to h t (λ n. some_left left.front _ [] (sym left.is ∙ n)) in
    record { rest = k.0; read = k.1; left = left }
