-- What a trace tells of a step.
use Rattle.std.specs.Prelude.{◌≡◌, List, ℕ, [], ◌∷◌, ◌++◌, codes, decimal, Option, Some, None, Result, Ok, Err}
use Rattle.hex.specs.declared.error.FromHexError.{FromHexError}
use Rattle.hex.specs.Hex.{decode_of}
use Rattle.amqp_show.specs.declared.voice.Side.{Side}
use Rattle.amqp_show.specs.Lines.{behind, HasNone}
use Rattle.amqp_show.specs.Voice.{Writes}

-- bytes that hexadecimal spells
abbrev pub spelled : Result (List ℕ) FromHexError → Option (List ℕ)
spelled (Ok bytes) = Some bytes
spelled (Err e) = None

abbrev pub spelled_by : Option (List ℕ) → Option (List ℕ)
spelled_by None = None
spelled_by (Some digits) = spelled (decode_of digits)

-- the bytes that a line tells of behind its step: `wrote HEX`
abbrev pub wrote_in : List ℕ → Option (List ℕ)
wrote_in told = spelled_by (behind (codes "wrote ") told)

-- the line of a reply, `NAME REPLY`
abbrev pub reply_text : List ℕ → List ℕ
reply_text told = codes "    " ++ told ++ 10 ∷ []

-- the lines of bytes that were written, or of a reply
abbrev pub AddsTold : Side → Option (List ℕ) → List ℕ → Option (List ℕ) → List ℕ → Option (List ℕ) → Type 0
AddsTold side None told before text after = (text ≡ reply_text told) × (after ≡ before)
AddsTold side (Some bytes) told before text after = Writes side before bytes text after

-- how the lines of a step begin: `STEP `
abbrev pub front_of : ℕ → List ℕ
front_of step = decimal step ++ 32 ∷ []

-- The lines of a step that the lines of a trace begin with, what its end has not said before and after, and the lines behind.
pub data Tells : ℕ → Side → Option (List ℕ) → List (List ℕ) → List ℕ → Option (List ℕ) → List (List ℕ) → Type 0 where
  no_more : (step : ℕ) (side : Side) (before : Option (List ℕ)) (lines : List (List ℕ)) → HasNone (front_of step) lines → Tells step side before lines [] before lines
  one_more : (step : ℕ) (side : Side) (before between after : Option (List ℕ)) (line told said text : List ℕ) (lines rest : List (List ℕ))
      → behind (front_of step) line ≡ Some told
      → AddsTold side (wrote_in told) told before said between
      → Tells step side between lines text after rest
      → Tells step side before (line ∷ lines) (said ++ text) after rest
