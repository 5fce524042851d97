-- No session writes more Transfers than the window of the other allows (OASIS AMQP 1.0, part 2, section 2.5.6).
use Rattle.std.specs.Prelude.{◌≡◌, ℕ, ◌+◌, ◌<◌, ◌≤◌, List, [], ◌∷◌, ◌++◌, All}
use Rattle.amqp_frames.specs.declared.body.FrameBody.{FrameBody}
use Rattle.amqp_frames.specs.declared.body.FrameBody.TheVariants as b
use Rattle.amqp_session.specs.State.{Framed}
use Rattle.session_laws.specs.Holding.{Move, transfers}
use Rattle.window_laws.specs.Starting.{Start, reads, writes, window, first_number}
use Rattle.window_laws.specs.Announcing.{Announces}
use Rattle.window_laws.specs.Counting.{count, ReportsWithin}

-- each of two sessions has read a front of what the other has written
pub record Hear (t : Start) (ns : List Move) (u : Start) (js : List Move) : Type 0 where
  pub unread : List Framed
  pub hears : reads u js ++ unread ≡ writes t ns
  pub unanswered : List Framed
  pub answers : reads t ns ++ unanswered ≡ writes u js

-- Two sessions, each from its begin on, whatever it goes through: the one has written no more Transfers than the other
-- has read and its window, as long as that is less than 2^32.
abbrev pub KeepsTheWindow : Type 0
KeepsTheWindow =
    (t : Start) (ns : List Move) (u : Start) (js : List Move) → Hear t ns u js → first_number t < 4294967296
    → count (reads u js) + window u < 4294967296 → count (writes t ns) ≤ count (reads u js) + window u

-- Whatever a session goes through and reads: where each Begin and each Flow of that announces this window, and no Flow
-- reports more than so many Transfers, it has written no more than those and the window, as long as that is less than
-- 2^32.
abbrev pub KeepsWhatItHears : Type 0
KeepsWhatItHears =
    (t : Start) (ns : List Move) (size most : ℕ) → first_number t < 4294967296 → most + size < 4294967296
    → All (λ (x : Framed). Announces size x.body) (reads t ns)
    → All (λ (x : Framed). ReportsWithin (first_number t) most x.body) (reads t ns)
    → count (writes t ns) ≤ most + size

-- a move of the one session, or of the other
pub data Step : Type 0 where
  moves_one : Move → Step
  moves_other : Move → Step

abbrev pub moves_of_one : List Step → List Move
moves_of_one [] = []
moves_of_one (moves_one m ∷ xs) = m ∷ moves_of_one xs
moves_of_one (moves_other m ∷ xs) = moves_of_one xs

abbrev pub moves_of_other : List Step → List Move
moves_of_other [] = []
moves_of_other (moves_one m ∷ xs) = moves_of_other xs
moves_of_other (moves_other m ∷ xs) = m ∷ moves_of_other xs

-- from here on they go through these moves, and at each moment each has read a front of what the other has written
abbrev pub GoOn : Start → List Move → Start → List Move → List Step → Type 0
GoOn t ns u js [] = Hear t ns u js
GoOn t ns u js (moves_one m ∷ xs) = Hear t ns u js × GoOn t (ns ++ m ∷ []) u js xs
GoOn t ns u js (moves_other m ∷ xs) = Hear t ns u js × GoOn t ns u (js ++ m ∷ []) xs

-- so it is at every moment, however many Transfers there were: numbers may go round
abbrev pub KeepsTheWindowForEver : Type 0
KeepsTheWindowForEver =
    (t u : Start) (steps : List Step) → GoOn t [] u [] steps → first_number t < 4294967296 → window u < 4294967296
    → count (writes t (moves_of_one steps)) ≤ count (reads u (moves_of_other steps)) + window u

abbrev pub IsNotBegin : FrameBody → Type 0
IsNotBegin (b.Begin x) = ⊥
IsNotBegin other = Unit {0}

-- and none before it has read a Begin
abbrev pub WaitsForTheBegin : Type 0
WaitsForTheBegin =
    (t : Start) (ns : List Move) → All (λ (x : Framed). IsNotBegin x.body) (reads t ns) → transfers (writes t ns) ≡ []
