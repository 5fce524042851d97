-- What one call of a source or a sink does.
use Rattle.std.specs.Prelude.{◌≡◌, ◌<◌, ◌≤◌, List, ℕ, Option, length, take}
use Rattle.list_laws.specs.Told.{Loses, Gains, IsEmptyIfTold}
use Rattle.amqp_wire.specs.declared.source.SourceRead.{SourceRead}
use Rattle.amqp_wire.specs.declared.source.SourceRead.TheVariants.{Bytes, End, Failed as FailedRead}
use Rattle.amqp_wire.specs.declared.source.SinkWrite.{SinkWrite}
use Rattle.amqp_wire.specs.declared.source.SinkWrite.TheVariants.{Took, Failed as FailedWrite, Memory}

-- a read into a buffer that has room found nothing: what was told is used up
abbrev pub IsUsedUp : Option (List ℕ) → List ℕ → Type 0
IsUsedUp old buf = 0 < length buf → IsEmptyIfTold old

-- what a read gave: its bytes are the first of the buffer; no bytes are an end
abbrev pub SourceReads : Option (List ℕ) → Option (List ℕ) → SourceRead → List ℕ → Type 0
SourceReads old new (Bytes n) buf = (n ≤ length buf) × Loses old new (take n buf) × (n ≡ 0 → IsUsedUp old buf)
SourceReads old new End buf = (new ≡ old) × IsUsedUp old buf
SourceReads old new FailedRead buf = new ≡ old

-- what a write took, of a piece that is not empty
abbrev pub SinkWrites : Option (List ℕ) → Option (List ℕ) → SinkWrite → List ℕ → Type 0
SinkWrites old new (Took n) piece = (n ≤ length piece) × (0 < length piece → 0 < n) × Gains old new (take n piece)
SinkWrites old new FailedWrite piece = new ≡ old
SinkWrites old new Memory piece = new ≡ old
