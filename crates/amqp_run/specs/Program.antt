-- What a run of a command did: of its source what was left before and after, and how many faults there had been; of its sink what was
-- written before and after, and how many faults there had been.
use Rattle.std.specs.Prelude.{◌≡◌, ◌≤◌, ◌↔◌, ◌⊎◌, List, ℕ, [], ◌∷◌, Bool, true, false, Option, Some, None, codes, bytes_eq}
use Rattle.amqp_wire.specs.Link.{Rose}
use Rattle.amqp_wire.specs.declared.status.Status.{Status}
use Rattle.amqp_wire.specs.declared.status.Status.TheVariants as status
use Rattle.amqp_streams.specs.Streams.{ReadsUpTo}
use Rattle.amqp_requests.specs.Request.{RunScript, request_in}
use Rattle.amqp_conversation.specs.declared.decode.BadBytes.{BadBytes as Bad}
use Rattle.amqp_decoder.specs.declared.ending.Ending.{Ending}
use Rattle.amqp_decoder.specs.declared.ending.Ending.TheVariants as ending
use Rattle.amqp_decoder.specs.Decoder.{WritesLines, WritesSomeLines, IsNoHexadecimal}
use Rattle.amqp_run.specs.declared.show.Form.{Form}
use Rattle.amqp_run.specs.declared.program.ProgramEnd.{ProgramEnd}
use Rattle.amqp_run.specs.declared.program.ProgramEnd.TheVariants.{Program, Decoder}
use Rattle.amqp_run.specs.Asked.{IsAskedText, WritesAll, WritesSome, HasBadLine, HasBadStep, IsUnwritten}
use Rattle.amqp_run.specs.Show.{form_in, IsShownText}

abbrev pub is_decode : List (List ℕ) → Bool
is_decode (word ∷ []) = bytes_eq word (codes "decode")
is_decode _ = false

-- `decode`: the lines of the headers and frames that the bytes spell, in order, up to the first byte that begins none
pub record Decodes (e : Ending) (left left' : Option (List ℕ)) (read read' : ℕ) (written written' : Option (List ℕ)) (wrote wrote' : ℕ) : Type 0 where
  pub done : e ≡ ending.Done → WritesLines left left' None written written'
  pub bad_bytes : (bad : Bad) → e ≡ ending.BadBytes bad → WritesLines left left' (Some bad) written written'
  pub no_hexadecimal : e ≡ ending.NoHexadecimal → IsNoHexadecimal left left' × (written' ≡ written)
  pub memory : e ≡ ending.Memory → (written' ≡ written) ⊎ WritesSomeLines left left' written written'
  pub read_fault : e ≡ ending.ReadFault → Rose read read' × (written' ≡ written)
  pub write_fault : e ≡ ending.WriteFault → Rose wrote wrote'
  pub write_front : e ≡ ending.WriteFault → WritesSomeLines left left' written written'
  pub too_long : ReadsUpTo 16777216 left left' (e ≡ ending.TooLong)
  pub unwritten : e ≡ ending.TooLong → written' ≡ written
  pub source_later : read ≤ read'
  pub sink_later : wrote ≤ wrote'

-- `show`: what is shown of the script, and of the text of its trace
pub record Shows (form : Form) (s : Status) (left left' : Option (List ℕ)) (read read' : ℕ) (written written' : Option (List ℕ)) (wrote wrote' : ℕ) : Type 0 where
  pub done : s ≡ status.Done → WritesAll (IsShownText form left left') written written'
  pub usage : s ≡ status.Usage → ⊥
  pub bad_script : (n : ℕ) → s ≡ status.BadScript n → HasBadLine left left' n
  pub bad_step : (i : ℕ) → s ≡ status.BadStep i → HasBadStep left left' i
  pub memory : s ≡ status.Memory → (written' ≡ written) ⊎ WritesSome (IsShownText form left left') written written'
  pub read_fault : s ≡ status.ReadFault → Rose read read'
  pub write_fault : s ≡ status.WriteFault → Rose wrote wrote'
  pub write_front : s ≡ status.WriteFault → WritesSome (IsShownText form left left') written written'
  pub too_long : ReadsUpTo 16777216 left left' (s ≡ status.TooLong)
  pub unwritten : IsUnwritten s → written' ≡ written
  pub source_later : read ≤ read'
  pub sink_later : wrote ≤ wrote'

-- `world` and `kdf`, and words that are no command: the text that they ask for
pub record Answers (words : List (List ℕ)) (s : Status) (left left' : Option (List ℕ)) (read read' : ℕ) (written written' : Option (List ℕ)) (wrote wrote' : ℕ) (Unread : Type 0) : Type 0 where
  pub done : s ≡ status.Done → WritesAll (IsAskedText (request_in words) left left') written written'
  pub usage : s ≡ status.Usage ↔ (request_in words ≡ None)
  pub bad_script : (n : ℕ) → s ≡ status.BadScript n → (request_in words ≡ Some RunScript) × HasBadLine left left' n
  pub bad_step : (i : ℕ) → s ≡ status.BadStep i → (request_in words ≡ Some RunScript) × HasBadStep left left' i
  pub read_fault : s ≡ status.ReadFault → (request_in words ≡ Some RunScript) × Rose read read'
  pub too_long : ReadsUpTo 16777216 left left' (s ≡ status.TooLong)
  pub write_fault : s ≡ status.WriteFault → Rose wrote wrote'
  pub write_front : s ≡ status.WriteFault → WritesSome (IsAskedText (request_in words) left left') written written'
  pub memory : s ≡ status.Memory → (written' ≡ written) ⊎ WritesSome (IsAskedText (request_in words) left left') written written'
  pub unwritten : IsUnwritten s → written' ≡ written
  pub unread : (request_in words ≡ Some RunScript → ⊥) → Unread
  pub source_later : read ≤ read'
  pub sink_later : wrote ≤ wrote'

-- What the words ask for, done: `decode`, `show`, or any other.
pub data Ran (words : List (List ℕ)) (left left' : Option (List ℕ)) (read read' : ℕ)
    (written written' : Option (List ℕ)) (wrote wrote' : ℕ) (Unread : Type 0) : ProgramEnd → Type 0 where
  decode' : (e : Ending) → is_decode words ≡ true → Decodes e left left' read read' written written' wrote wrote'
      → Ran words left left' read read' written written' wrote wrote' Unread (Decoder e)
  show' : (form : Form) (s : Status) → form_in words ≡ Some form
      → Shows form s left left' read read' written written' wrote wrote'
      → Ran words left left' read read' written written' wrote wrote' Unread (Program s)
  other' : (s : Status) → is_decode words ≡ false → form_in words ≡ None
      → Answers words s left left' read read' written written' wrote wrote' Unread
      → Ran words left left' read read' written written' wrote wrote' Unread (Program s)
