-- The frames of a negotiation (OASIS AMQP 1.0, part 5, section 5.3.1; part 2, section 2.3).
use Rattle.std.specs.Prelude.{◌≡◌, ℕ, List, [], ◌∷◌, ◌++◌, ◌≤◌, length, drop, flat_map, All}
use Rattle.sasl_exchange.specs.amqp_sasl_bodies.declared.sasl_body.SaslBody.{SaslBody}
use Rattle.sasl_exchange.specs.amqp_sasl_bodies.SaslBytes.{SpellsSasl}
use Rattle.amqp_data.specs.Data.{item, no_items, items_depth}
use Rattle.sasl_exchange.specs.amqp_value.Canonical.{canonical_items, AreSized}
use Rattle.sasl_exchange.specs.amqp_sasl_bodies.SaslBody.{of_sasl_body}
use Rattle.amqp_wire.specs.Frame.{HasBody, frame_of}

-- the protocol header of the SASL layer (part 5, section 5.3.2)
abbrev pub sasl_header : List ℕ
sasl_header = 65 ∷ 77 ∷ 81 ∷ 80 ∷ 3 ∷ 1 ∷ 0 ∷ 0 ∷ []

-- bytes that are one SASL frame of at most 512 bytes, whose body is x
pub record IsSaslFrame (piece : List ℕ) (x : SaslBody) : Type 0 where
  pub start : ℕ
  pub channel : ℕ
  pub body : HasBody 1 512 piece (length piece) start channel
  pub spelled : SpellsSasl (drop start piece) x

-- the bytes are frames with these bodies one after another, and then a rest
abbrev pub Carries : List ℕ → List SaslBody → List ℕ → Type 0
Carries bytes [] rest = bytes ≡ rest
Carries bytes (x ∷ xs) rest = (piece : List ℕ) × (more : List ℕ) × (bytes ≡ piece ++ more) × IsSaslFrame piece x × Carries more xs rest

-- the SASL header was read, then frames with these bodies, and then a rest
pub record Heard (read : List ℕ) (bodies : List SaslBody) (rest : List ℕ) : Type 0 where
  pub tail : List ℕ
  pub header : read ≡ sasl_header ++ tail
  pub frames : Carries tail bodies rest

-- the bytes that are written of a body
abbrev pub canonical_of : SaslBody → List ℕ
canonical_of x = canonical_items (item (of_sasl_body x) no_items) ++ []

-- a length in it has no room in 32 bits, or it is nested too deep
abbrev pub IsOversized : SaslBody → Type 0
IsOversized x = AreSized (item (of_sasl_body x) no_items) → items_depth (item (of_sasl_body x) no_items) ≤ 34 → ⊥

-- a frame of at most 512 bytes (part 5, section 5.3.1) has room for the bytes that are written of a body, and they spell it
pub record HasSaslFrame (x : SaslBody) : Type 0 where
  pub fits : length (canonical_of x) ≤ 504
  pub spelled : SpellsSasl (canonical_of x) x

-- the frame that is written of a body
abbrev pub sasl_frame : SaslBody → List ℕ
sasl_frame x = frame_of 1 0 (canonical_of x)

-- the SASL header and the frames of these bodies
abbrev pub said : List SaslBody → List ℕ
said bodies = sasl_header ++ flat_map sasl_frame bodies

-- what was written is the SASL header and whole SASL frames of at most 512 bytes (part 5, section 5.3.1), the last of which may be cut off
pub record IsOnlySasl (wrote : List ℕ) : Type 0 where
  pub bodies : List SaslBody
  pub rest : List ℕ
  pub frames : wrote ++ rest ≡ said bodies
  pub framed : All HasSaslFrame bodies
