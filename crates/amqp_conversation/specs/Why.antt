-- Why the body of a frame is none.
use Rattle.std.specs.Prelude.{ℕ, ◌+◌, ◌-◌, ◌≤◌, List, length, drop, take}
use Rattle.amqp_pieces.specs.declared.FrameKind.{FrameKind}
use Rattle.amqp_pieces.specs.declared.FrameKind.TheVariants.{Amqp, Sasl}
use Rattle.amqp_pieces.specs.declared.Piece.TheVariants.{Frame}
use Rattle.amqp_pieces.specs.Pieces.{Begins}
use Rattle.amqp_faults.specs.declared.fault.Fault.{Fault}
use Rattle.amqp_body_faults.specs.Bodies.{IsBodyFault}
use Rattle.amqp_body_faults.specs.Sasl.{IsSaslFault}

-- the bytes begin with a frame whose body has these ends
pub record HasFrame (bytes : List ℕ) (kind : FrameKind) (start size : ℕ) : Type 0 where
  pub channel : ℕ
  pub begins : Begins bytes (Frame kind channel start size)
  pub order : start ≤ size
  pub within : size ≤ length bytes

-- the bytes begin with a frame whose body is none, at that place of the frame and for that reason
pub data IsWhy : List ℕ → Fault → Type 0 where
  amqp' : (bytes : List ℕ) (start size : ℕ) (fault : Fault) → HasFrame bytes Amqp start size → IsBodyFault (take (size - start) (drop start bytes)) fault → IsWhy bytes (record { offset = start + fault.offset; reason = fault.reason })
  sasl' : (bytes : List ℕ) (start size : ℕ) (fault : Fault) → HasFrame bytes Sasl start size → IsSaslFault (take (size - start) (drop start bytes)) fault → IsWhy bytes (record { offset = start + fault.offset; reason = fault.reason })
