-- What `show` writes.
use Rattle.std.specs.Prelude.{List, ℕ, [], ◌∷◌, ◌&&◌, if◌then◌else◌, Option, Some, None, codes, bytes_eq}
use Rattle.amqp_calls.specs.declared.step.Step.{Step}
use Rattle.amqp_script_runs.specs.Runs.{IsTextFor}
use Rattle.amqp_show.specs.Show.{IsShown}
use Rattle.amqp_show.specs.Picture.{IsPicture}
use Rattle.amqp_streams.specs.Streams.{ReadsScript}
use Rattle.amqp_run.specs.declared.show.Form.{Form}
use Rattle.amqp_run.specs.declared.show.Form.TheVariants.{Lines, Picture}
use Rattle.amqp_run.specs.Script.{Says}

-- lines of text, or the picture of them
abbrev pub IsFormed : Form → List ℕ → List ℕ → List ℕ → Type 0
IsFormed Lines script trace text = IsShown script trace text
IsFormed Picture script trace text = IsPicture script trace text

-- what is shown of the script that a source gave, and of the text of a trace of its steps
pub record IsShownText (form : Form) (left left' : Option (List ℕ)) (text : List ℕ) : Type 0 where
  pub script : List ℕ
  pub steps : List Step
  pub trace : List ℕ
  pub read : ReadsScript left left' script
  pub says : Says script steps
  pub traced : IsTextFor steps trace
  pub shown : IsFormed form script trace text

-- `show` and `show --svg`
abbrev pub form_in : List (List ℕ) → Option Form
form_in (word ∷ []) = if bytes_eq word (codes "show") then Some Lines else None
form_in (word ∷ option ∷ []) = if bytes_eq word (codes "show") && bytes_eq option (codes "--svg") then Some Picture else None
form_in _ = None
