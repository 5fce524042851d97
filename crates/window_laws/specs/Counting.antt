-- What two ends tell each other of how many Transfers were written and read (OASIS AMQP 1.0, part 2, section 2.5.6).
use Rattle.std.specs.Prelude.{◌≡◌, ℕ, ◌+◌, ◌%◌, ◌<◌, ◌≤◌, List, [], ◌∷◌, ◌++◌, length, All, Some}
use Rattle.amqp_frames.specs.declared.body.FrameBody.{FrameBody}
use Rattle.amqp_frames.specs.declared.body.FrameBody.TheVariants as b
use Rattle.amqp_session.specs.State.{Framed}
use Rattle.session_laws.specs.Holding.{Move, transfers}
use Rattle.window_laws.specs.Starting.{Start, reads, writes, first_number}

-- the number of the Transfer behind so many others, where the first one has that number (section 2.8.10)
abbrev pub number_at : ℕ → ℕ → ℕ
number_at first n = (first + n) % 4294967296

-- how many Transfers there are among frames
abbrev pub count : List Framed → ℕ
count xs = length (transfers xs)

-- how many there were, and this frame behind them
abbrev pub behind : ℕ → FrameBody → ℕ
behind n (b.Transfer x payload) = n + 1
behind n other = n

-- each frame is as P says where so many Transfers were before it
abbrev pub InOrder : (ℕ → FrameBody → Type 0) → ℕ → List Framed → Type 0
InOrder P n [] = Unit {0}
InOrder P n (x ∷ xs) = P n x.body × InOrder P (behind n x.body) xs

-- ---- the end that writes Transfers

-- a Begin or a Flow names as next-outgoing-id the number of the next Transfer
abbrev pub NamesNext : ℕ → ℕ → FrameBody → Type 0
NamesNext first n (b.Begin x) = x.next_outgoing_id ≡ number_at first n
NamesNext first n (b.Flow x) = x.next_outgoing_id ≡ number_at first n
NamesNext first n other = Unit {0}

-- the frames of an end that numbers its Transfers one by one, the first by that number
abbrev pub Numbers : ℕ → List Framed → Type 0
Numbers first xs = InOrder (NamesNext first) 0 xs

-- so does a session, whatever it goes through
abbrev pub NumbersItsTransfers : Type 0
NumbersItsTransfers =
    (t : Start) (ns : List Move) → first_number t < 4294967296 → Numbers (first_number t) (writes t ns)

-- ---- the end that reads them

-- a Flow names as next-incoming-id the number of the Transfer behind so many; a Begin was written at first
abbrev pub Reports : ℕ → ℕ → FrameBody → Type 0
Reports first n (b.Begin x) = ⊥
Reports first n (b.Flow x) = x.next_incoming_id ≡ Some (number_at first n)
Reports first n other = Unit {0}

-- Of a peer that numbers its Transfers one by one: each Flow that a move adds to what a session writes reports all
-- Transfers that it has read by then.
abbrev pub ReportsWhatItHeard : Type 0
ReportsWhatItHeard =
    (u : Start) (js : List Move) (m : Move) (new : List Framed) (first : ℕ) → Numbers first (reads u (js ++ m ∷ []))
    → writes u (js ++ m ∷ []) ≡ writes u js ++ new
    → All (λ (x : Framed). Reports first (count (reads u (js ++ m ∷ []))) x.body) new

-- a Flow names the number of the Transfer behind some that are no more than so many
abbrev pub ReportsWithin : ℕ → ℕ → FrameBody → Type 0
ReportsWithin first n (b.Flow x) = (r : ℕ) × ((r ≤ n) × (x.next_incoming_id ≡ Some (number_at first r)))
ReportsWithin first n other = Unit {0}

-- and no Flow reports more than it has read
abbrev pub ReportsNoMore : Type 0
ReportsNoMore =
    (u : Start) (js : List Move) (first : ℕ) → Numbers first (reads u js)
    → All (λ (x : Framed). ReportsWithin first (count (reads u js)) x.body) (writes u js)
