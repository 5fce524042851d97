-- What one call of a link does.
use Rattle.std.specs.Prelude.{◌≡◌, ◌<◌, ◌≤◌, ◌⊎◌, ◌^◌, ◌-◌, List, ℕ, Option, length, take, ⊤}
use Rattle.list_laws.specs.Told.{Loses, Gains, IsEmptyIfTold}
use Rattle.amqp_wire.specs.declared.link.LinkRead.{LinkRead}
use Rattle.amqp_wire.specs.declared.link.LinkRead.TheVariants.{Bytes, Empty, End, Failed as FailedRead}
use Rattle.amqp_wire.specs.declared.link.LinkWrite.{LinkWrite}
use Rattle.amqp_wire.specs.declared.link.LinkWrite.TheVariants.{Took, Full, Failed as FailedWrite, Memory}

-- what a read gave: its bytes are the first of the buffer
abbrev pub Reads : Option (List ℕ) → Option (List ℕ) → Option (List ℕ) → LinkRead → List ℕ → Type 0
Reads old new ready (Bytes n) buf = (0 < n) × (n ≤ length buf) × Loses old new (take n buf)
Reads old new ready Empty buf = (new ≡ old) × (0 < length buf → IsEmptyIfTold ready)
Reads old new ready End buf = new ≡ old
Reads old new ready FailedRead buf = new ≡ old

-- what a write took, of a piece that is not empty
abbrev pub Writes : Option (List ℕ) → Option (List ℕ) → LinkWrite → List ℕ → Type 0
Writes old new (Took n) piece = (n ≤ length piece) × (0 < length piece → 0 < n) × Gains old new (take n piece)
Writes old new Full piece = new ≡ old
Writes old new FailedWrite piece = new ≡ old
Writes old new Memory piece = new ≡ old

-- a count of faults rose, or stands at its last value
abbrev pub Rose : ℕ → ℕ → Type 0
Rose before now = (before < now) ⊎ (now ≡ 2 ^ 64 - 1)

-- a count of faults does not fall, and a failure comes only where it rose
pub record HasCause (before now : ℕ) (failed : Type 0) : Type 0 where
  pub later : before ≤ now
  pub rose : failed → Rose before now

-- the answer is that the link failed
abbrev pub IsFailedRead : LinkRead → Type 0
IsFailedRead FailedRead = ⊤
IsFailedRead (Bytes n) = ⊥
IsFailedRead Empty = ⊥
IsFailedRead End = ⊥

-- the answer is that the link failed
abbrev pub IsFailedWrite : LinkWrite → Type 0
IsFailedWrite FailedWrite = ⊤
IsFailedWrite (Took n) = ⊥
IsFailedWrite Full = ⊥
IsFailedWrite Memory = ⊥
