-- The idle time of an end and the heartbeat for its peer's (OASIS AMQP 1.0, part 2, section 2.4.5).
use Rattle.std.specs.Prelude.{ℕ, ◌+◌, ◌-◌, ◌/◌, ◌<◌, ◌≤◌, Option, Some, None}
use Rattle.amqp_transport.specs.declared.idle_clock.IdleClock.{IdleClock}
use Rattle.amqp_transport.specs.declared.heart_beat.HeartBeat.{HeartBeat}

-- an idle time above 0 has passed since the clock was started
pub record HasElapsed (clock : IdleClock) (at : ℕ) : Type 0 where
  pub runs : 0 < clock.idle
  pub passed : clock.since + clock.idle ≤ at

-- how many whole periods have passed since the start
abbrev pub periods : HeartBeat → ℕ → ℕ
periods beat at = (at - beat.start) / beat.period

-- it has begun, and no beat was given since the last whole period
abbrev pub IsNew : ℕ → Option ℕ → Type 0
IsNew n None = Unit {0}
IsNew n (Some last) = last < n

pub record IsDue (beat : HeartBeat) (at : ℕ) : Type 0 where
  pub runs : 0 < beat.period
  pub begun : beat.start ≤ at
  pub new : IsNew (periods beat at) beat.last
