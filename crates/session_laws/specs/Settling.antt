-- What becomes of the messages that a sender has sent (OASIS AMQP 1.0, part 2, section 2.6.12).
use Rattle.std.specs.Prelude.{◌≡◌, ◌⊎◌, ℕ, true, List, [], ◌∷◌, ◌++◌}
use Rattle.amqp_termini.specs.declared.outcome.Outcome.TheVariants.{Accepted}
use Rattle.amqp_sender.specs.declared.sender.Settlement.{Settlement}
use Rattle.amqp_sender.specs.declared.sender.Settlement.TheVariants.{Unsettled, Settled}
use Rattle.amqp_sender.specs.Sender.{State}
use Rattle.amqp_sender.specs.Settling.{settlement_of}
use Rattle.session_laws.specs.Messages.{Message}
use Rattle.session_laws.specs.Sending.{Move, hears_disposition, after_all, sent}

-- what a Disposition says of the delivery with that tag
abbrev pub heard_by : Move → List (List ℕ × Settlement)
heard_by (hears_disposition covered settled x) = (covered.delivery_tag, settlement_of x) ∷ []
heard_by other = []

abbrev pub heard : List Move → List (List ℕ × Settlement)
heard [] = []
heard (m ∷ ms) = heard_by m ++ heard ms

abbrev pub IsAmong : {X : Type 0} → X → List X → Type 0
IsAmong x [] = ⊥
IsAmong x (y ∷ ys) = (x ≡ y) ⊎ IsAmong x ys

-- a message that was sent is not settled, or it was accepted since it was sent settled, or a Disposition said so of its tag
abbrev pub IsSettled : List (List ℕ × Settlement) → Message → Settlement → Type 0
IsSettled told m Unsettled = Unit {0}
IsSettled told m x = ((m.settled ≡ true) × (x ≡ Settled (Accepted (record {})))) ⊎ IsAmong (m.tag, x) told

-- each message has its settlement
abbrev pub AreSettled : List (List ℕ × Settlement) → List Message → List Settlement → Type 0
AreSettled told [] [] = Unit {0}
AreSettled told [] (x ∷ xs) = ⊥
AreSettled told (m ∷ ms) [] = ⊥
AreSettled told (m ∷ ms) (x ∷ xs) = IsSettled told m x × AreSettled told ms xs

-- whatever a sender goes through from its first moment on: what it answers for a message was heard of that message
abbrev pub OutcomesWereHeard : Type 0
OutcomesWereHeard = (s : State) (ms : List Move) → s.settlements ≡ [] → s.unsettled ≡ [] → AreSettled (heard ms) (sent s ms) (after_all s ms).settlements
