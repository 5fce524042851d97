-- What one end wrote of a SASL layer and what the other read of it (OASIS AMQP 1.0, part 5, section 5.3; part 2, section 2.3).
use Rattle.std.specs.Prelude.{◌≡◌, ◌⊎◌, ◌<◌, ℕ, List, ◌++◌, length, flat_map, All}
use Rattle.amqp_sasl_bodies.specs.declared.sasl_body.SaslBody.{SaslBody}
use Rattle.amqp_opening.specs.Opening.{amqp_header}
use Rattle.amqp_wire.specs.Size.{size_of}
use Rattle.sasl_gate.specs.Frames.{HasSaslFrame, Heard, said, sasl_frame}

-- what follows the SASL layer: the front of the AMQP header, or the whole of it and then anything
abbrev pub IsAfterSasl : List ℕ → Type 0
IsAfterSasl bytes = (rest : List ℕ) × ((bytes ++ rest ≡ amqp_header) ⊎ (bytes ≡ amqp_header ++ rest))

-- a rest that begins with no whole frame
abbrev pub IsPart : List ℕ → Type 0
IsPart bytes = (length bytes < 4) ⊎ (length bytes < size_of bytes)

-- the bodies that were given are the first of those that were sent, and what is left is the frames of the others and what follows
pub record AreFirstSent (given sent : List SaslBody) (left after : List ℕ) : Type 0 where
  pub others : List SaslBody
  pub sent_is : sent ≡ given ++ others
  pub left_is : left ≡ flat_map sasl_frame others ++ after

-- What one end wrote, with what is queued there, is this SASL layer and what follows; the other read so much of it, and these bytes are to
-- come
pub record IsSaid (read coming after : List ℕ) (sent : List SaslBody) : Type 0 where
  pub frames : All HasSaslFrame sent
  pub after_is : IsAfterSasl after
  pub stream : read ++ coming ≡ said sent ++ after

-- What one end wrote, with what is queued there, is this SASL layer and what follows; the other read so much of it, was given these bodies
-- and has this rest, and these bytes are to come.
pub record IsRead (read rest coming after : List ℕ) (given sent : List SaslBody) : Type 0 where
  pub frames : All HasSaslFrame sent
  pub after_is : IsAfterSasl after
  pub heard : Heard read given rest
  pub stream : read ++ coming ≡ said sent ++ after
