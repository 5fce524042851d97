-- The frames that wait for the sessions.
use Rattle.std.proofs.Common.{◌≡◌, List, [], ◌∷◌, Some, sym, ap, ◌∙◌}
use Rattle.std.proofs.lemmas.Option.{none-some}
use Rattle.amqp_transport.specs.declared.frames.Frame.{Frame}
use Rattle.amqp_peer.specs.declared.held.Held.{Held}
use Rattle.amqp_peer.specs.declared.held.Held.TheVariants.{Early, Late, Unopened, Moving}
use Rattle.amqp_peer.specs.Passing.{TakesIncoming}

abbrev pub incoming_of : {L : Type 0} → Held L → List Frame
incoming_of (Early o p) = []
incoming_of (Late s) = s.channels.incoming
incoming_of (Unopened c) = []
incoming_of Moving = []

-- the first of them is taken off
pub incoming_taken : {L : Type 0} (h : Held L) (x : Frame) (h' : Held L) → TakesIncoming h (Some x) h' → incoming_of h ≡ x ∷ incoming_of h'
incoming_taken (Early o p) x h' t = absurd (none-some x (sym t.0))
incoming_taken (Unopened c) x h' t = absurd (none-some x (sym t.0))
incoming_taken Moving x h' t = absurd (none-some x (sym t.0))
incoming_taken {L} (Late s) x h' t = t.2.channels.0 ∙ ap (λ (k : Held L). x ∷ incoming_of k) (sym t.1)
