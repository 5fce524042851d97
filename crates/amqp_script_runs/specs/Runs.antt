-- The text that a run of the two ends gives for the steps of a script.
use Rattle.std.specs.Prelude.{◌≡◌, List, ℕ, length, Option, Some, None}
use Rattle.amqp_words.specs.declared.step.Step.{Step as PlainStep}
use Rattle.amqp_words.specs.declared.trace.Entry.{Entry as PlainEntry}
use Rattle.amqp_world.specs.Explains.{past_of, Explained, AreMade, IsFirstInvalid}
use Rattle.amqp_script.specs.TraceText.{text_of as plain_text_of}
use Rattle.amqp_calls.specs.declared.step.Step.{Step}
use Rattle.amqp_calls.specs.declared.trace.Entry.{Entry}
use Rattle.amqp_calls.specs.Plain.{plain_steps}
use Rattle.amqp_session_script.specs.TraceText.{text_of}
use Rattle.amqp_session_world.specs.Turn.{IsFirstInvalid as IsFirstInvalidWithSessions}
use Rattle.trace_topics.specs.Explained.{Explained as ExplainedWithSessions}

-- the text of a trace that explains these steps of connections, and that the two ends made
pub record IsExplainedText (steps : List PlainStep) (text : List ℕ) : Type 0 where
  pub entries : List PlainEntry
  pub form : length entries ≡ length steps
  pub explained : Explained (past_of steps entries)
  pub made : AreMade steps entries
  pub shown : text ≡ plain_text_of entries

-- the text of a trace with an entry for each of these steps, which two ends with sessions made, and what is known of it
pub record IsMadeText (steps : List Step) (text : List ℕ) : Type 0 where
  pub entries : List Entry
  pub form : length entries ≡ length steps
  pub explained : ExplainedWithSessions steps entries
  pub shown : text ≡ text_of entries

-- steps of connections alone are explained; others are made by two ends with sessions
abbrev pub IsTextIn : Option (List PlainStep) → List Step → List ℕ → Type 0
IsTextIn None steps text = IsMadeText steps text
IsTextIn (Some plain) steps text = IsExplainedText plain text

abbrev pub IsTextFor : List Step → List ℕ → Type 0
IsTextFor steps text = IsTextIn (plain_steps steps) steps text

-- the first step that is not valid: for the two ends of connections, or for those with sessions
abbrev pub IsBadIn : Option (List PlainStep) → List Step → ℕ → Type 0
IsBadIn None steps i = IsFirstInvalidWithSessions steps i
IsBadIn (Some plain) steps i = IsFirstInvalid plain i

abbrev pub IsBadFor : List Step → ℕ → Type 0
IsBadFor steps i = IsBadIn (plain_steps steps) steps i
