-- What a listener writes.
use Rattle.std.specs.Prelude.{◌≡◌, ℕ, List, [], ◌∷◌, ◌++◌, Option, codes, decimal}
use Rattle.list_laws.specs.Told.{Gains}
use Rattle.amqp_streams.specs.Streams.{WritesFront}
use Rattle.amqp_served.specs.declared.ending.Ending.{Ending}
use Rattle.amqp_served.specs.declared.ending.Ending.TheVariants.{Done, Usage, Memory, ReadFault, WriteFault, PeerFault, TimedOut}

-- `messages`, a number and a line feed
abbrev pub count_text : ℕ → List ℕ
count_text n = codes "messages " ++ decimal n ++ 10 ∷ []

-- how a run ends that had something to write
abbrev pub IsWritten : Ending → Type 0
IsWritten Done = Unit {0}
IsWritten Memory = Unit {0}
IsWritten WriteFault = Unit {0}
IsWritten _ = ⊥

-- how a run ends that had nothing to write
abbrev pub IsUnwritten : Ending → Type 0
IsUnwritten Usage = Unit {0}
IsUnwritten ReadFault = Unit {0}
IsUnwritten PeerFault = Unit {0}
IsUnwritten TimedOut = Unit {0}
IsUnwritten _ = ⊥

-- such a line was written whole
pub record WritesCount (written written' : Option (List ℕ)) : Type 0 where
  pub count : ℕ
  pub wrote : Gains written written' (count_text count)

-- a front of such a line was written
pub record WritesSome (written written' : Option (List ℕ)) : Type 0 where
  pub count : ℕ
  pub front : WritesFront (count_text count) written written'
