-- What a run that decodes did.
use Rattle.std.specs.Prelude.{◌≡◌, List, ℕ, Option, Ok}
use Rattle.list_laws.specs.Told.{Gains}
use Rattle.hex.specs.Hex.{decode_of}
use Rattle.amqp_streams.specs.Streams.{ReadsScript, WritesFront}
use Rattle.amqp_conversation.specs.declared.decode.BadBytes.{BadBytes}
use Rattle.amqp_conversation.specs.Shows.{IsDecoded}
use Rattle.amqp_decoder.specs.Digits.{without_spaces}

-- the lines of the bytes that a source gave in hexadecimal, all of them or those before the first that begin no header or frame
pub record IsLines (left left' : Option (List ℕ)) (bad : Option BadBytes) (text : List ℕ) : Type 0 where
  pub given : List ℕ
  pub bytes : List ℕ
  pub read : ReadsScript left left' given
  pub spelled : decode_of (without_spaces given) ≡ Ok bytes
  pub lines : IsDecoded bytes text bad

-- what a source gave is no hexadecimal
pub record IsNoHexadecimal (left left' : Option (List ℕ)) : Type 0 where
  pub given : List ℕ
  pub read : ReadsScript left left' given
  pub unspelled : (bytes : List ℕ) → decode_of (without_spaces given) ≡ Ok bytes → ⊥

-- these lines were written whole
pub record WritesLines (left left' : Option (List ℕ)) (bad : Option BadBytes) (written written' : Option (List ℕ)) : Type 0 where
  pub text : List ℕ
  pub lines : IsLines left left' bad text
  pub wrote : Gains written written' text

-- a front of such lines was written
pub record WritesSomeLines (left left' : Option (List ℕ)) (written written' : Option (List ℕ)) : Type 0 where
  pub text : List ℕ
  pub bad : Option BadBytes
  pub lines : IsLines left left' bad text
  pub front : WritesFront text written written'
