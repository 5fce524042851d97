-- What a link went through in one call.
use Rattle.std.specs.Prelude.{◌≡◌, ◌<◌, ◌≤◌, ℕ, List, [], ◌++◌, length, Option, Some, None, Result, Ok, Err}
use Rattle.list_laws.specs.Told.{Loses, Gains, IsEmptyIfTold}
use Rattle.amqp_wire.specs.Link.{Rose}
use Rattle.amqp_wire.specs.declared.link.Link.{Ghosts}
use Rattle.amqp_wire.specs.declared.link.Stop.{Stop}
use Rattle.amqp_wire.specs.declared.link.Stop.TheVariants.{Empty, End, Failed}
use Rattle.amqp_wire.specs.declared.link.Held.{Held}
use Rattle.amqp_wire.specs.declared.link.Held.TheVariants.{Full, Failed as FailedWrite, Memory}
use Rattle.amqp_wire.specs.declared.codec.Filled.{Filled}
use Rattle.amqp_wire.specs.declared.codec.Filled.TheVariants.{More, Stopped}

-- reads gave these bytes
pub record Gave {L : Type 0} (link : Ghosts L) (old : L) (bytes : List ℕ) (new : L) : Type 0 where
  pub input : Loses (link.input old) (link.input new) bytes
  pub output : link.output new ≡ link.output old
  pub mark : link.mark new ≡ link.mark old
  pub faults : link.faults old ≤ link.faults new

-- why a read gave nothing
abbrev pub IsWhy : {L : Type 0} → Ghosts L → L → Stop → L → Type 0
IsWhy link old Empty new = IsEmptyIfTold (link.ready old)
IsWhy link old End new = link.can_end old
IsWhy link old Failed new = Rose (link.faults old) (link.faults new)

-- a read gave no bytes, and this answer
pub record GaveNone {L : Type 0} (link : Ghosts L) (old : L) (stop : Stop) (new : L) : Type 0 where
  pub gave : Gave link old [] new
  pub why : IsWhy link old stop new

-- the last read gave no bytes, or there was none
abbrev pub StoppedBy : {L : Type 0} → Ghosts L → L → Option Stop → L → Type 0
StoppedBy link old None new = new ≡ old
StoppedBy link old (Some stop) new = GaveNone link old stop new

-- reads gave these bytes, and the last of them this answer; where there are no bytes, no read gave any
pub record ReadBy {L : Type 0} (link : Ghosts L) (old : L) (bytes : List ℕ) (stop : Option Stop) (new : L) : Type 0 where
  pub mid : L
  pub gave : Gave link old bytes mid
  pub none : bytes ≡ [] → mid ≡ old
  pub last : StoppedBy link mid stop new

-- writes took these bytes
pub record Took {L : Type 0} (link : Ghosts L) (old : L) (bytes : List ℕ) (new : L) : Type 0 where
  pub output : Gains (link.output old) (link.output new) bytes
  pub input : link.input new ≡ link.input old
  pub ready : link.ready new ≡ link.ready old
  pub mark : link.mark new ≡ link.mark old
  pub faults : link.faults old ≤ link.faults new

-- why a write took nothing
abbrev pub IsWhyHeld : {L : Type 0} → Ghosts L → L → Held → L → Type 0
IsWhyHeld link old Full new = link.can_fill old
IsWhyHeld link old FailedWrite new = Rose (link.faults old) (link.faults new)
IsWhyHeld link old Memory new = Unit {0}

-- a write took no bytes, and answered this
pub record TookNone {L : Type 0} (link : Ghosts L) (old : L) (held : Held) (new : L) : Type 0 where
  pub took : Took link old [] new
  pub why : IsWhyHeld link old held new

-- the last write took no bytes, or there was none
abbrev pub HeldBy : {L : Type 0} → Ghosts L → L → Option Held → L → Type 0
HeldBy link old None new = new ≡ old
HeldBy link old (Some held) new = TookNone link old held new

-- writes took these bytes, and the last of them this answer
pub record WroteBy {L : Type 0} (link : Ghosts L) (old : L) (bytes : List ℕ) (held : Option Held) (new : L) : Type 0 where
  pub mid : L
  pub took : Took link old bytes mid
  pub last : HeldBy link mid held new

-- one read into the input
abbrev pub FilledBy : {L E : Type 0} → Ghosts L → List ℕ → L → Result Filled E → List ℕ → L → Type 0
FilledBy link old from (Err e) new to = (new ≡ old) × (to ≡ from)
FilledBy link old from (Ok More) new to = (bytes : List ℕ) × (0 < length bytes) × (new ≡ old ++ bytes) × Gave link from bytes to
FilledBy link old from (Ok (Stopped stop)) new to = (new ≡ old) × GaveNone link from stop to
