-- Base64 of a known number of bytes.
use Rattle.std.proofs.Common.{rules, ◌≡◌, ℕ, ◌<◌, ◌≤◌, List, length, Ok, Err, arith, ap, ◌∙◌, length-append}
use Rattle.std.proofs.lemmas.List.{length-replicate}
use Rattle.base64.specs.Engines.{standard}
use Rattle.base64.specs.GeneralPurpose.{IsBytes, IsStrict, encode_of, decode_of}
use Rattle.base64.specs.declared.decode.DecodeError.{DecodeError}
use Rattle.base64.proofs.EngineFacts.{decode_of_iff, decode_of_strict}
use Rattle.base64.proofs.RoundTrip.{length-encode_symbols}
use Rattle.sasl_scram.specs.Refusals.{Spells}

strict : IsStrict standard
strict = search rules

encoded_short : (bytes : List ℕ) → length bytes ≤ 64 → length (encode_of standard bytes) ≤ 88
encoded_short bytes h =
    simp (length-append, length-encode_symbols, length-replicate) (omega arith)

-- too many symbols
pub spells_short : (text bytes : List ℕ) (size : ℕ) → size ≤ 64 → 88 < length text → Spells text bytes size → ⊥
spells_short text bytes size small long s =
    let short = encoded_short bytes (omega arith) in
    let same : length text ≡ length (encode_of standard bytes) = ap length s.2 in
    omega arith

-- what was decoded is spelled
pub spells : (text bytes : List ℕ) (size : ℕ) → IsBytes text → IsBytes bytes → length bytes ≡ size
    → decode_of standard text ≡ Ok bytes → Spells text bytes size
spells text bytes size wide narrow same e = (narrow, same, decode_of_strict standard text bytes strict wide e)

-- what is spelled is what was decoded
pub spells_decoded : (text bytes found : List ℕ) (size : ℕ) → IsBytes text → decode_of standard text ≡ Ok found
    → Spells text bytes size → length found ≡ size
spells_decoded text bytes found size wide e s =
    let f : decode_of standard text ≡ Ok bytes = (decode_of_iff standard text bytes strict wide s.0).1 s.2 in
    let same : found ≡ bytes = cc in
    ap length same ∙ s.1

pub spells_refused : (text bytes : List ℕ) (size : ℕ) (error : DecodeError) → IsBytes text → decode_of standard text ≡ Err error
    → Spells text bytes size → ⊥
spells_refused text bytes size error wide e s =
    let f : decode_of standard text ≡ Ok bytes = (decode_of_iff standard text bytes strict wide s.0).1 s.2 in
    cc
