-- A sender is alone on its handle (OASIS AMQP 1.0, part 2, sections 2.6.2 and 2.6.3).
use Rattle.std.specs.Prelude.{◌≡◌, ℕ, true, List, Some}
use Rattle.amqp_link_calls.specs.Called.{Called}
use Rattle.amqp_link_calls.specs.Side.{Sender}
use Rattle.amqp_links.specs.Parts.{is_heard}
use Rattle.amqp_links.specs.State.{State, link_of}
use Rattle.amqp_sender.specs.Sender.{State as SenderState}
use Rattle.link_lives.specs.Deeds.{Deed, Did, AreApart}
use Rattle.link_lives.specs.Laws.{SenderGoes}
use Rattle.link_tables_agree.specs.Sound.{AreSound, AreNewIn}

-- A sender that stood before goes on by moves. Where both ends have not sent their Detach yet behind all that, no
-- other link of its session has written a Transfer on its handle.
pub record GoesApart (n : ℕ) (l : Called) (t : SenderState) (ds : List Deed) (old new : State) (did : Did old ds new)
    : Type 0 where
  pub sender : SenderGoes n l.session t ds old new did
  pub apart : (handle : ℕ) → t.link.own.handle ≡ handle → is_heard sender.link ≡ true
      → AreApart handle l.session n sender.log

abbrev pub SendsApart : Type 0
SendsApart =
    (n : ℕ) (l : Called) (t : SenderState) (ds : List Deed) (old new : State) (did : Did old ds new)
    → AreSound old → AreNewIn old ds new did → link_of n old ≡ Some l → l.side ≡ Sender t
    → GoesApart n l t ds old new did
