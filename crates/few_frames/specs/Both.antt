-- How many frames two sessions write (OASIS AMQP 1.0, part 2, section 2.5).
use Rattle.std.specs.Prelude.{ℕ, ◌+◌, ◌*◌, ◌/◌, ◌≤◌, max, List, length}
use Rattle.session_laws.specs.Holding.{Move}
use Rattle.window_laws.specs.Starting.{Start, writes, window}
use Rattle.window_laws.specs.Keeping.{Hear}
use Rattle.few_frames.specs.Sessions.{TellNone, total, told_by, pieces_by}

-- half of the window with which a session was built, and at least one
abbrev pub half : Start → ℕ
half u = max (window u / 2) 1

-- what its links tell: a frame that is no Transfer as one, a Transfer as its parts
abbrev pub told : List Move → ℕ
told ms = total told_by ms + total pieces_by ms

-- Two sessions, each of which has read a front of what the other has written, have written no more frames than those
-- of their links, a Begin and an End each, and their reports; and each report stands for half of a window of the
-- other's Transfers.
pub record WriteFew (t : Start) (ns : List Move) (u : Start) (js : List Move) : Type 0 where
  pub reports : ℕ
  pub due : half t * reports ≤ total pieces_by js
  pub other_reports : ℕ
  pub other_due : half u * other_reports ≤ total pieces_by ns
  pub few : length (writes t ns) + length (writes u js) ≤ 4 + (told ns + told js) + (reports + other_reports)

-- whatever both go through, each from its begin on, where no Flow of their links asks for an answer
abbrev pub BothWriteFew : Type 0
BothWriteFew =
    (t : Start) (ns : List Move) (u : Start) (js : List Move) → Hear t ns u js → TellNone ns → TellNone js
    → WriteFew t ns u js
