-- What passes at a link, event by event.
use Rattle.std.specs.Prelude.{◌≡◌, ◌<◌, ◌+◌, ◌⊎◌, ℕ, List, [], ◌∷◌, ◌++◌, length}
use Rattle.amqp_wire.specs.declared.link.Link.{Ghosts}
use Rattle.amqp_wire.specs.declared.link.Stop.{Stop}
use Rattle.amqp_wire.specs.declared.link.Stop.TheVariants.{Failed}
use Rattle.amqp_wire.specs.declared.link.Held.{Held}
use Rattle.amqp_wire.specs.declared.link.Held.TheVariants.{Failed as FailedWrite}
use Rattle.amqp_wire.specs.Steps.{Gave, GaveNone, Took, TookNone}

-- a read that gave bytes, writes that took bytes, and a read or a write that moved none
pub data LinkEvent : Type 0 where
  Read : List ℕ → LinkEvent
  Wrote : List ℕ → LinkEvent
  NotRead : Stop → LinkEvent
  NotWritten : Held → LinkEvent

abbrev pub IsEvent : {L : Type 0} → Ghosts L → L → LinkEvent → L → Type 0
IsEvent link old (Read bytes) new = (0 < length bytes) × Gave link old bytes new
IsEvent link old (Wrote bytes) new = Took link old bytes new
IsEvent link old (NotRead stop) new = GaveNone link old stop new
IsEvent link old (NotWritten held) new = TookNone link old held new

-- a link went through these events, the newest first
abbrev pub Went : {L : Type 0} → Ghosts L → L → List LinkEvent → L → Type 0
Went link old [] new = new ≡ old
Went {L} link old (x ∷ events) new = (mid : L) × Went link old events mid × IsEvent link mid x new

-- the bytes that the reads gave, in order
abbrev pub read_of : List LinkEvent → List ℕ
read_of [] = []
read_of (Read bytes ∷ events) = read_of events ++ bytes
read_of (Wrote bytes ∷ events) = read_of events
read_of (NotRead stop ∷ events) = read_of events
read_of (NotWritten held ∷ events) = read_of events

-- the bytes that the writes took, in order
abbrev pub wrote_of : List LinkEvent → List ℕ
wrote_of [] = []
wrote_of (Read bytes ∷ events) = wrote_of events
wrote_of (Wrote bytes ∷ events) = wrote_of events ++ bytes
wrote_of (NotRead stop ∷ events) = wrote_of events
wrote_of (NotWritten held ∷ events) = wrote_of events

-- how many reads gave bytes
abbrev pub reads_in : List LinkEvent → ℕ
reads_in [] = 0
reads_in (Read bytes ∷ events) = reads_in events + 1
reads_in (Wrote bytes ∷ events) = reads_in events
reads_in (NotRead stop ∷ events) = reads_in events
reads_in (NotWritten held ∷ events) = reads_in events

-- this event is among them
abbrev pub Includes : List LinkEvent → LinkEvent → Type 0
Includes [] y = ⊥
Includes (x ∷ events) y = (x ≡ y) ⊎ Includes events y

-- the link failed, at a read or at a write
abbrev pub HasFailed : List LinkEvent → Type 0
HasFailed events = Includes events (NotRead Failed) ⊎ Includes events (NotWritten FailedWrite)
