-- A script and its trace, for a reader.
use Rattle.std.specs.Prelude.{◌≡◌, ◌+◌, List, ℕ, [], ◌∷◌, ◌++◌, ◌==◌, if◌then◌else◌, decimal, Option, Some}
use Rattle.amqp_show.specs.declared.voice.Side.{Side}
use Rattle.amqp_show.specs.declared.voice.Side.TheVariants.{Client, Listener}
use Rattle.amqp_show.specs.Lines.{lines_of}
use Rattle.amqp_show.specs.Hidden.{hidden}
use Rattle.amqp_show.specs.Voice.{cut_text}
use Rattle.amqp_show.specs.Told.{Tells}

-- the end of a line of a script: `l` is the listener
abbrev pub side_in : List ℕ → Side
side_in [] = Client
side_in (b ∷ line) = if b == 108 then Listener else Client

-- the number of a step and its line, in which a password is `***`
abbrev pub step_text : ℕ → List ℕ → List ℕ
step_text step line = decimal step ++ 32 ∷ hidden line ++ 10 ∷ []

-- what a trace tells of a step: the other end has said what it had
abbrev pub StepTells : Side → ℕ → Option (List ℕ) → Option (List ℕ) → List (List ℕ) → List ℕ → Option (List ℕ) → Option (List ℕ) → List (List ℕ) → Type 0
StepTells Client step client listener trace text client' listener' rest = Tells step Client client trace text client' rest × (listener' ≡ listener)
StepTells Listener step client listener trace text client' listener' rest = Tells step Listener listener trace text listener' rest × (client' ≡ client)

-- From a step on: its line, what the trace tells of it, and so on; at the end the bytes of both ends that no line told.
pub data Shows : ℕ → Option (List ℕ) → Option (List ℕ) → List (List ℕ) → List (List ℕ) → List ℕ → Type 0 where
  no_step : (step : ℕ) (client listener : Option (List ℕ)) (trace : List (List ℕ)) → Shows step client listener [] trace (cut_text Client client ++ cut_text Listener listener)
  one_step : (step : ℕ) (client listener client' listener' : Option (List ℕ)) (line told text : List ℕ) (lines trace rest : List (List ℕ))
      → StepTells (side_in line) step client listener trace told client' listener' rest
      → Shows (step + 1) client' listener' lines rest text
      → Shows step client listener (line ∷ lines) trace (step_text step line ++ told ++ text)

-- the text that is shown of a script and its trace
abbrev pub IsShown : List ℕ → List ℕ → List ℕ → Type 0
IsShown script trace text = Shows 0 (Some []) (Some []) (lines_of script) (lines_of trace) text
