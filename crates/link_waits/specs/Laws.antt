-- Whatever the links of an end do, each call that waits does so for the peer (OASIS AMQP 1.0, part 2, section 2.6).
use Rattle.std.specs.Prelude.{Bool, List}
use Rattle.amqp_links.specs.State.{State, no_links}
use Rattle.link_lives.specs.Deeds.{Deed, Did}
use Rattle.link_waits.specs.Waits.{AreWaiting, AreOrderly}

-- so it is where there are no links
abbrev pub NoneWaits : Type 0
NoneWaits = (accepts : Bool) → AreWaiting (no_links accepts)

-- and each deed keeps it
abbrev pub AllWaitOn : Type 0
AllWaitOn =
    (ds : List Deed) (old new : State) (did : Did old ds new)
    → AreOrderly old ds new did → AreWaiting old → AreWaiting new
