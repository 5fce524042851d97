-- What a receiver answers of what it reads, whoever has sent it (OASIS AMQP 1.0, part 2, sections 2.6.14 and 2.7.5).
use Rattle.std.specs.Prelude.{◌≡◌, ℕ, Bool, false, not, ◌&&◌, List, [], ◌∷◌, ◌++◌, Option, Some, None, if◌then◌else◌}
use Rattle.amqp_parts.specs.declared.part.Part.{Part}
use Rattle.amqp_receiver.specs.Delivering.{all_bytes}
use Rattle.amqp_receiver.specs.Receiver.{State}
use Rattle.session_laws.specs.Receiving.{Move, read, Answer, Given, Exceeded, Failed, answered, IsReady}
use Rattle.served_connection.specs.ListenLaws.Carried.{joined}

-- ---- the deliveries of one link

abbrev pub bytes_in : Option (List ℕ) → List (List ℕ)
bytes_in None = []
bytes_in (Some bytes) = bytes ∷ []

-- the bytes of the delivery that a part ends, where those of it came before
abbrev pub whole_of : Option (List ℕ) → Part → List (List ℕ)
whole_of begun p =
    if not p.transfer.more && not p.transfer.aborted then bytes_in (joined begun p.transfer.resume p.payload) else []

-- those that have come behind it of a delivery of which more is to come
abbrev pub begun_behind : Option (List ℕ) → Part → Option (List ℕ)
begun_behind begun p =
    if p.transfer.more && not p.transfer.aborted then joined begun p.transfer.resume p.payload else None

-- the bytes of the deliveries that these parts carry whole, one after another
unfoldable pub wholes : Option (List ℕ) → List Part → List (List ℕ)
wholes begun [] = []
wholes begun (p ∷ ps) = whole_of begun p ++ wholes (begun_behind begun p) ps

-- no part resumes a delivery
unfoldable pub AreNew : List Part → Type 0
AreNew [] = Unit {0}
AreNew (p ∷ ps) = (p.transfer.resume ≡ false) × AreNew ps

-- ---- the answers

-- a delivery with those bytes was given, or there was no credit for it
abbrev pub IsAnswer : List ℕ → Answer → Type 0
IsAnswer bytes (Given credit x) = all_bytes x.payloads ≡ bytes
IsAnswer bytes (Exceeded credit) = Unit {0}
IsAnswer bytes (Failed e) = ⊥

abbrev pub AreAnswers : List (List ℕ) → List Answer → Type 0
AreAnswers [] [] = Unit {0}
AreAnswers [] (a ∷ more) = ⊥
AreAnswers (w ∷ ws) [] = ⊥
AreAnswers (w ∷ ws) (a ∷ more) = IsAnswer w a × AreAnswers ws more

-- no answer is another error
abbrev pub IsFine : Answer → Type 0
IsFine (Given credit x) = Unit {0}
IsFine (Exceeded credit) = Unit {0}
IsFine (Failed e) = ⊥

abbrev pub AreFine : List Answer → Type 0
AreFine [] = Unit {0}
AreFine (a ∷ more) = IsFine a × AreFine more

-- the answers are those of the first deliveries, in order
pub record AreFirst (ws : List (List ℕ)) (xs : List Answer) : Type 0 where
  pub first : List (List ℕ)
  pub others : List (List ℕ)
  pub all : ws ≡ first ++ others
  pub answers : AreAnswers first xs

-- Whatever a receiver goes through from a moment at which both ends have attached the link and nothing waits, however
-- its deliveries were cut: where no part that it reads resumes one, and no answer is an error but that there was no
-- credit, its answers are those of the first deliveries that the parts carry whole, in order, each with its bytes.
abbrev pub AnswersWhatIsWhole : Type 0
AnswersWhatIsWhole =
    (s : State) (ms : List Move) (later : List Part) → IsReady s → AreNew (read ms) → AreFine (answered s ms)
    → AreFirst (wholes None (read ms ++ later)) (answered s ms)
