-- What the command `gen` asks for, and what it writes.
use Rattle.std.specs.Prelude.{◌≡◌, ℕ, List, Option, ⊤}
use Rattle.list_laws.specs.Told.{Gains}
use Rattle.amqp_streams.specs.Streams.{WritesFront}
use Rattle.amqp_wire.specs.declared.status.Status.{Status}
use Rattle.amqp_wire.specs.declared.status.Status.TheVariants.{Done, Usage, BadScript, BadStep, Memory, ReadFault, WriteFault, TooLong}
use Rattle.amqp_gen.specs.declared.run.GenRun.{GenRun}
use Rattle.amqp_gen.specs.Run.{steps_of, IsGenRun}
use Rattle.amqp_session_world.specs.Turn.{IsFirstInvalid}
use Rattle.amqp_gen.specs.Tally.{text_of}

-- the lines of a run
pub record IsGenText (start count : ℕ) (text : List ℕ) : Type 0 where
  pub run : GenRun
  pub ran : IsGenRun start count run
  pub lines : text ≡ text_of run.tally run.bytes

-- they were written whole
pub record WritesGen (start count : ℕ) (written written' : Option (List ℕ)) : Type 0 where
  pub text : List ℕ
  pub lines : IsGenText start count text
  pub wrote : Gains written written' text

-- a front of them was written
pub record WritesSomeGen (start count : ℕ) (written written' : Option (List ℕ)) : Type 0 where
  pub text : List ℕ
  pub lines : IsGenText start count text
  pub front : WritesFront text written written'

-- how a run ends that has no lines: its first step that is not valid is named
abbrev pub IsGenUnwritten : ℕ → ℕ → Status → Type 0
IsGenUnwritten start count Done = ⊥
IsGenUnwritten start count Usage = ⊥
IsGenUnwritten start count (BadScript line) = ⊥
IsGenUnwritten start count (BadStep index) = IsFirstInvalid (steps_of start count) index
IsGenUnwritten start count Memory = ⊤
IsGenUnwritten start count ReadFault = ⊥
IsGenUnwritten start count WriteFault = ⊥
IsGenUnwritten start count TooLong = ⊥

-- how it ends once it has them
abbrev pub IsGenWritten : Status → Type 0
IsGenWritten Done = ⊤
IsGenWritten Usage = ⊥
IsGenWritten (BadScript line) = ⊥
IsGenWritten (BadStep index) = ⊥
IsGenWritten Memory = ⊤
IsGenWritten ReadFault = ⊥
IsGenWritten WriteFault = ⊤
IsGenWritten TooLong = ⊥
