-- How many frames a receiver writes, and for what (OASIS AMQP 1.0, part 2, sections 2.6 and 2.7).
use Rattle.std.specs.Prelude.{◌≡◌, ℕ, ◌+◌, ◌≤◌, true, false, not, List, [], ◌∷◌, ◌++◌, length}
use Rattle.amqp_frames.specs.declared.body.FrameBody.{FrameBody}
use Rattle.amqp_frames.specs.declared.body.FrameBody.TheVariants as b
use Rattle.amqp_link.specs.Parting.{wants_handle}
use Rattle.amqp_receiver.specs.Receiver.{State}
use Rattle.session_laws.specs.Giving.{handed, written}
use Rattle.session_laws.specs.Receiving.{Move, receives, disposes, disposes_by, sets_credit, drains, tells_properties, reattaches, after}
use Rattle.few_frames.specs.Kinds.{AskNone, Each, count, one_if}
use Rattle.few_frames.specs.Links.{may_write}

-- a frame of a receiver: no Transfer, and no Flow that asks for an answer
abbrev pub IsReceivers : FrameBody → Type 0
IsReceivers (b.Transfer x payload) = ⊥
IsReceivers (b.Flow x) = x.echo ≡ false
IsReceivers other = Unit {0}

-- nor one that asks for credit to be used up (section 2.6.7)
abbrev pub AsksNoMore : FrameBody → Type 0
AsksNoMore (b.Transfer x payload) = ⊥
AsksNoMore (b.Flow x) = (x.echo ≡ false) × (x.drain ≡ false)
AsksNoMore other = Unit {0}

-- only the call that drains makes it write a Flow that says drain
abbrev pub IsMade : Move → FrameBody → Type 0
IsMade drains x = IsReceivers x
IsMade other x = AsksNoMore x

-- a link is attached again only where that is due (section 2.6.6)
abbrev pub IsDue : State → Move → Type 0
IsDue s (reattaches handle) = wants_handle s.link.phase ≡ true
IsDue s other = Unit {0}

abbrev pub AllDue : State → List Move → Type 0
AllDue s [] = Unit {0}
AllDue s (m ∷ ms) = IsDue s m × AllDue (after s m) ms

-- What a call may write: one that settles deliveries a Disposition for each, and a Flow with new credit; one that
-- receives a message that is accepted as it is given the same; one that gives credit, asks to drain or tells how the
-- link stands, a Flow. No frame that is read adds to that.
abbrev pub cost : Move → ℕ
cost (receives spells) = 2
cost (disposes infos state) = length infos + 1
cost (disposes_by view infos state) = length infos + 1
cost (sets_credit credit) = 1
cost drains = 1
cost tells_properties = 1
cost other = 0

abbrev pub total : List Move → ℕ
total [] = 0
total (m ∷ ms) = cost m + total ms

-- what is still to come beside: what attaches and detaches the link, the first credit once both ends have attached,
-- and what the book has ordered
abbrev pub left : State → ℕ
left s = may_write s.link.phase + one_if (not s.link.is_made) + length s.book.orders

-- a move writes frames behind all others: no Flow that asks for an answer, and no more than may come
pub record Makes (s : State) (m : Move) : Type 0 where
  pub new : List FrameBody
  pub written : handed s m ++ (after s m).link.output ≡ s.link.output ++ new
  pub made : Each (IsMade m) new
  pub few : IsDue s m → length new + left (after s m) ≤ left s + cost m

abbrev pub ReceiverMakesFew : Type 0
ReceiverMakesFew = (s : State) (m : Move) → Makes s m

-- whatever a receiver goes through, it asks for no answer
abbrev pub ReceiverAsksNone : Type 0
ReceiverAsksNone = (s : State) (ms : List Move) → AskNone s.link.output → AskNone (written s ms)

-- whatever a receiver goes through: what it writes is bounded by its calls
abbrev pub ReceiverWritesFew : Type 0
ReceiverWritesFew =
    (s : State) (ms : List Move) → AllDue s ms → length (written s ms) ≤ length s.link.output + left s + total ms

-- ---- Flows with drain

abbrev pub drain_in : FrameBody → ℕ
drain_in (b.Flow x) = one_if x.drain
drain_in other = 0

abbrev pub drains_by : Move → ℕ
drains_by drains = 1
drains_by other = 0

abbrev pub drains_in : List Move → ℕ
drains_in [] = 0
drains_in (m ∷ ms) = drains_by m + drains_in ms

-- whatever a receiver goes through: it writes no more Flows with drain than calls drain
abbrev pub ReceiverDrainsFew : Type 0
ReceiverDrainsFew =
    (s : State) (ms : List Move) → count drain_in (written s ms) ≤ count drain_in s.link.output + drains_in ms
