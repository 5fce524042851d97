-- How many frames a session writes, and for what (OASIS AMQP 1.0, part 2, sections 2.5 and 2.7).
use Rattle.std.specs.Prelude.{◌≡◌, ℕ, ◌+◌, ◌*◌, ◌≤◌, true, false, List, [], ◌∷◌, ◌++◌}
use Rattle.amqp_frames.specs.declared.body.FrameBody.{FrameBody}
use Rattle.amqp_frames.specs.declared.body.FrameBody.TheVariants as b
use Rattle.amqp_frames.specs.declared.shared.LinkFrame.{LinkFrame}
use Rattle.amqp_frames.specs.declared.shared.LinkFrame.TheVariants as link
use Rattle.amqp_link.specs.Link.{body_of}
use Rattle.amqp_session.specs.State.{State, Framed}
use Rattle.amqp_session.specs.Windows.{report_after}
use Rattle.session_laws.specs.Holding.{Move, tells, hears, ends, refuses, after, handed, written}
use Rattle.session_laws.specs.Speaking.{bodies}
use Rattle.few_frames.specs.Kinds.{AsksNone, AskNone, Each, count, transfer_in, other_in, echo_in, pieces, all_pieces}

-- ---- what one move makes it write

-- What is read, and what is written for it. A Begin and a Flow let Transfers go that wait; a Flow answers a Flow with
-- echo, or reports Transfers that were read, and asks for no answer; an End answers an End, or a frame for which the
-- session is ended. Nothing answers any other frame.
abbrev pub IsAnswer : FrameBody → FrameBody → Type 0
IsAnswer (b.Begin x) (b.Transfer y payload) = Unit {0}
IsAnswer (b.Flow x) (b.Transfer y payload) = Unit {0}
IsAnswer (b.Flow x) (b.Flow y) = (x.echo ≡ true) × (y.echo ≡ false)
IsAnswer (b.Flow x) (b.End y) = Unit {0}
IsAnswer (b.Transfer x payload) (b.Flow y) = y.echo ≡ false
IsAnswer (b.Transfer x payload) (b.End y) = Unit {0}
IsAnswer (b.Attach x) (b.End y) = Unit {0}
IsAnswer (b.Detach x) (b.End y) = Unit {0}
IsAnswer (b.End x) (b.End y) = Unit {0}
IsAnswer x y = ⊥

-- A frame of a link, and what is written for it: that frame, in a Flow with the state of the session; a Transfer in
-- parts, behind those that wait.
abbrev pub IsTold : LinkFrame → FrameBody → Type 0
IsTold (link.Attach x) y = y ≡ b.Attach x
IsTold (link.Flow x) (b.Flow y) = y.echo ≡ x.echo
IsTold (link.Transfer x payload) (b.Transfer y part) = Unit {0}
IsTold (link.Disposition x covered) y = y ≡ b.Disposition x
IsTold (link.Detach x) y = y ≡ b.Detach x
IsTold x y = ⊥

abbrev pub IsEnd : FrameBody → Type 0
IsEnd (b.End x) = Unit {0}
IsEnd other = ⊥

abbrev pub IsMade : Move → FrameBody → Type 0
IsMade (tells x) y = IsTold x y
IsMade (hears x) y = IsAnswer x.body y
IsMade (ends e) y = y ≡ b.End (record { error = e })
IsMade refuses y = IsEnd y
IsMade other y = ⊥

-- a move writes frames behind all others, each of which it makes, and at most one that is no Transfer
pub record Makes (s : State) (m : Move) : Type 0 where
  pub new : List Framed
  pub written : handed s m ++ (after s m).output ≡ s.output ++ new
  pub made : Each (IsMade m) (bodies new)
  pub few : count other_in (bodies new) ≤ 1

abbrev pub SessionMakesFew : Type 0
SessionMakesFew = (s : State) (m : Move) → Makes s m

-- ---- what it asks for

-- the Flows of its links ask for no answer
abbrev pub TellsNone : Move → Type 0
TellsNone (tells x) = AsksNone (body_of x)
TellsNone other = Unit {0}

abbrev pub TellNone : List Move → Type 0
TellNone [] = Unit {0}
TellNone (m ∷ ms) = TellsNone m × TellNone ms

-- whatever a session goes through: where no Flow of its links asks for an answer, none that it writes does
abbrev pub SessionAsksNone : Type 0
SessionAsksNone =
    (s : State) (ms : List Move) → AskNone (bodies s.output) → TellNone ms → AskNone (bodies (written s ms))

-- ---- over a life

abbrev pub total : (Move → ℕ) → List Move → ℕ
total f [] = 0
total f (m ∷ ms) = f m + total f ms

-- a frame of a link that is no Transfer
abbrev pub told_by : Move → ℕ
told_by (tells x) = other_in (body_of x)
told_by other = 0

-- into how many frames a Transfer of a link is cut at most
abbrev pub pieces_in : LinkFrame → ℕ
pieces_in (link.Transfer x payload) = pieces payload
pieces_in other = 0

abbrev pub pieces_by : Move → ℕ
pieces_by (tells x) = pieces_in x
pieces_by other = 0

-- what is read
abbrev pub read_by : (FrameBody → ℕ) → Move → ℕ
read_by f (hears x) = f x.body
read_by f other = 0

-- Of what it writes from a moment on: the Transfers are no more than the parts of those that its links tell and have
-- told; all other frames are no more than those that its links tell, the Flows with echo that it reads, its reports
-- and an End; and each report stands for half of its window of Transfers.
pub record Writes (s : State) (ms : List Move) : Type 0 where
  pub transfers : count transfer_in (bodies (written s ms)) ≤
      count transfer_in (bodies s.output) + all_pieces s.held + total pieces_by ms
  pub reports : ℕ
  pub due : report_after s.windows * reports ≤ s.windows.unreported + total (read_by transfer_in) ms
  pub others : count other_in (bodies (written s ms)) ≤
      count other_in (bodies s.output) + 1 + total told_by ms + total (read_by echo_in) ms + reports

-- whatever a session goes through
abbrev pub SessionWritesFew : Type 0
SessionWritesFew = (s : State) (ms : List Move) → Writes s ms
