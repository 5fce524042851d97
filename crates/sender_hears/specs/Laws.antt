-- What one sender hears among all links of an end (OASIS AMQP 1.0, part 2, sections 2.6.7 and 2.6.12).
use Rattle.std.specs.Prelude.{◌≡◌, ℕ, List, ◌++◌, Some}
use Rattle.amqp_link_calls.specs.Called.{Called}
use Rattle.amqp_link_calls.specs.Side.{Sender}
use Rattle.amqp_links.specs.State.{State, link_of}
use Rattle.amqp_sender.specs.Sender.{State as SenderState}
use Rattle.link_lives.specs.Deeds.{Deed, IsDeed, Did, handed, all_handed, IsOther, AreOther}
use Rattle.link_lives.specs.Laws.{SenderGoes}
use Rattle.link_lives.specs.Logs.{Entry, told, own, IsFree}
use Rattle.sender_hears.specs.Deeds.{words_for, words_in}
use Rattle.sender_hears.specs.Lives.{Keeps}
use Rattle.sender_hears.specs.Words.{words}

-- What went to the sessions, and what still is to, is what was to go and what the links have told, in order. Each link
-- that stood before, and that no call of the deed makes, goes on by moves that tell what is in the log of it; a sender
-- hears in them what is for it, and no more.
pub record DeedHeard (d : Deed) (old new : State) : Type 0 where
  pub log : List Entry
  pub output : handed d ++ new.output ≡ old.output ++ told log
  pub each : (n : ℕ) → IsOther n d → IsFree n old → Keeps n old (own n log) (words_for d old n) new

-- whatever the links of an end do
abbrev pub DeedsAreHeard : Type 0
DeedsAreHeard = (d : Deed) (old new : State) → IsDeed old d new → DeedHeard d old new

-- A sender that stood before goes on as link_lives has it, and of Flows and of its deliveries it hears just what is for
-- it, in order.
pub record SenderLearns (n session : ℕ) (s : SenderState) (ds : List Deed) (old new : State) (did : Did old ds new)
    : Type 0 where
  pub goes : SenderGoes n session s ds old new did
  pub hears : words goes.moves ≡ words_in old ds new did n

abbrev pub OneSenderHears : Type 0
OneSenderHears =
    (n : ℕ) (l : Called) (s : SenderState) (ds : List Deed) (old new : State) (did : Did old ds new)
    → link_of n old ≡ Some l → l.side ≡ Sender s → AreOther n ds → IsFree n old
    → SenderLearns n l.session s ds old new did
