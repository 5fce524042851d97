-- What a run of the program did.
use Rattle.std.specs.Prelude.{◌≡◌, List, ℕ, length, Option, Some, None, ⊤}
use Rattle.list_laws.specs.Told.{Gains}
use Rattle.amqp_wire.specs.declared.status.Status.{Status}
use Rattle.amqp_wire.specs.declared.status.Status.TheVariants.{Done, Usage, BadScript, BadStep, Memory, ReadFault, WriteFault, TooLong}
use Rattle.amqp_calls.specs.declared.step.Step.{Step}
use Rattle.amqp_script_runs.specs.Runs.{IsTextFor, IsBadFor}
use Rattle.amqp_streams.specs.Streams.{ReadsScript, WritesFront}
use Rattle.amqp_requests.specs.Request.{Request, RunScript, DeriveKey, key_text}
use Rattle.amqp_run.specs.Script.{Says, IsBadLine}

-- the text of a trace of the steps of the script that a source gave
pub record IsRunText (left left' : Option (List ℕ)) (text : List ℕ) : Type 0 where
  pub script : List ℕ
  pub steps : List Step
  pub read : ReadsScript left left' script
  pub says : Says script steps
  pub shown : IsTextFor steps text

-- the text of a key; nothing is read for it
abbrev pub IsAskedText : Option Request → Option (List ℕ) → Option (List ℕ) → List ℕ → Type 0
IsAskedText None left left' text = ⊥
IsAskedText (Some RunScript) left left' text = IsRunText left left' text
IsAskedText (Some (DeriveKey hash rounds length password salt)) left left' text = (left' ≡ left) × (text ≡ key_text hash rounds length password salt)

-- a text of this kind was written whole
pub record WritesAll (IsText : List ℕ → Type 0) (written written' : Option (List ℕ)) : Type 0 where
  pub text : List ℕ
  pub asked : IsText text
  pub wrote : Gains written written' text

-- a front of a text of this kind was written
pub record WritesSome (IsText : List ℕ → Type 0) (written written' : Option (List ℕ)) : Type 0 where
  pub text : List ℕ
  pub asked : IsText text
  pub front : WritesFront text written written'

-- the script that a source gave has this first line outside the grammar
pub record HasBadLine (left left' : Option (List ℕ)) (line : ℕ) : Type 0 where
  pub script : List ℕ
  pub read : ReadsScript left left' script
  pub bad : IsBadLine script line

-- the script that a source gave says steps of which this is the first that is not valid
pub record HasBadStep (left left' : Option (List ℕ)) (index : ℕ) : Type 0 where
  pub script : List ℕ
  pub steps : List Step
  pub read : ReadsScript left left' script
  pub says : Says script steps
  pub bad : IsBadFor steps index

-- the program ended before it wrote
abbrev pub IsUnwritten : Status → Type 0
IsUnwritten Done = ⊥
IsUnwritten WriteFault = ⊥
IsUnwritten Memory = ⊥
IsUnwritten Usage = ⊤
IsUnwritten (BadScript line) = ⊤
IsUnwritten (BadStep index) = ⊤
IsUnwritten ReadFault = ⊤
IsUnwritten TooLong = ⊤
