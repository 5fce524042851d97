-- How many frames a sender writes, and for what (OASIS AMQP 1.0, part 2, sections 2.6 and 2.7).
use Rattle.std.specs.Prelude.{◌≡◌, ℕ, ◌+◌, ◌≤◌, true, false, List, [], ◌∷◌, ◌++◌, length}
use Rattle.amqp_frames.specs.declared.body.FrameBody.{FrameBody}
use Rattle.amqp_frames.specs.declared.body.FrameBody.TheVariants as b
use Rattle.amqp_link.specs.Parting.{wants_handle}
use Rattle.amqp_sender.specs.Sender.{State}
use Rattle.session_laws.specs.Sending.{Move, sends, parts, abandons, reattaches, hears_attach, hears_flow, hears_transfer, hears_disposition, hears_detach, after, handed, written}
use Rattle.few_frames.specs.Kinds.{AskNone, Each, one_if}
use Rattle.few_frames.specs.Links.{may_write}

-- What makes it write what: a message its Transfer, a Flow that says drain a Flow that asks for no answer, an
-- unsettled Disposition a settled one; a Detach is answered by one, and one refuses a frame that has no place.
abbrev pub IsMade : Move → FrameBody → Type 0
IsMade (sends payload format settled batchable) (b.Transfer y part) = Unit {0}
IsMade (parts closes error) (b.Detach y) = y.closed ≡ closes
IsMade abandons (b.Detach y) = y.closed ≡ true
IsMade (reattaches handle) (b.Attach y) = Unit {0}
IsMade (hears_attach x) (b.Detach y) = y.closed ≡ true
IsMade (hears_flow x) (b.Flow y) = (x.drain ≡ true) × (y.echo ≡ false)
IsMade (hears_flow x) (b.Detach y) = y.closed ≡ true
IsMade hears_transfer (b.Detach y) = y.closed ≡ true
IsMade (hears_disposition covered settled x) (b.Disposition y) = (settled ≡ false) × (y.settled ≡ true)
IsMade (hears_detach d) (b.Detach y) = y.closed ≡ d.closed
IsMade m y = ⊥

-- a move writes at most one frame, behind all others
pub record Makes (s : State) (m : Move) : Type 0 where
  pub new : List FrameBody
  pub written : handed s m ++ (after s m).link.output ≡ s.link.output ++ new
  pub made : Each (IsMade m) new
  pub few : length new ≤ 1

abbrev pub SenderMakesFew : Type 0
SenderMakesFew = (s : State) (m : Move) → Makes s m

-- whatever a sender goes through, it asks for no answer
abbrev pub SenderAsksNone : Type 0
SenderAsksNone = (s : State) (ms : List Move) → AskNone s.link.output → AskNone (written s ms)

-- ---- over a life

-- a link is attached again only where that is due (section 2.6.6)
abbrev pub IsDue : State → Move → Type 0
IsDue s (reattaches handle) = wants_handle s.link.phase ≡ true
IsDue s other = Unit {0}

abbrev pub AllDue : State → List Move → Type 0
AllDue s [] = Unit {0}
AllDue s (m ∷ ms) = IsDue s m × AllDue (after s m) ms

-- a message: its Transfer, and the Disposition that settles it in mode Second; and the Flow that answers one with
-- drain
abbrev pub cost : Move → ℕ
cost (sends payload format settled batchable) = 2
cost (hears_flow x) = one_if x.drain
cost other = 0

abbrev pub total : List Move → ℕ
total [] = 0
total (m ∷ ms) = cost m + total ms

-- Whatever a sender goes through: it writes no more than two frames for each message that it sends and each delivery
-- that is not settled, one for each Flow with drain, and those by which it attaches and detaches. No other frame that
-- it reads adds to that.
abbrev pub SenderWritesFew : Type 0
SenderWritesFew =
    (s : State) (ms : List Move) → AllDue s ms
    → length (written s ms) ≤ length s.link.output + may_write s.link.phase + length s.unsettled + total ms
