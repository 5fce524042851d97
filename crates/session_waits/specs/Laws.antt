-- Whatever the sessions of an end do, each call that waits does so for the peer (OASIS AMQP 1.0, part 2, section 2.5).
use Rattle.std.specs.Prelude.{List}
use Rattle.amqp_sessions.specs.State.{State, none_begun}
use Rattle.session_lives.specs.Deeds.{Deed, Did}
use Rattle.session_lives.specs.Logs.{AreKeyed}
use Rattle.session_waits.specs.Waits.{AreWaiting, AreOrderly}

-- so it is where no session was begun
abbrev pub NoneWaits : Type 0
NoneWaits = AreWaiting none_begun

-- and each deed keeps it, as long as the connection has not stopped
abbrev pub AllWaitOn : Type 0
AllWaitOn =
    (ds : List Deed) (old new : State) (did : Did old ds new)
    → AreOrderly old ds new did → AreKeyed old → AreWaiting old → AreWaiting new
