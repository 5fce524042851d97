-- The frame that bytes begin with.
use Rattle.std.proofs.Common.{◌≡◌, ℕ, ◌≤◌, List, length, sym, subst}
use Rattle.amqp_pieces.specs.declared.FrameKind.{FrameKind}
use Rattle.amqp_pieces.specs.declared.FrameKind.TheVariants.{Amqp, Sasl}
use Rattle.amqp_pieces.specs.declared.Piece.{Piece}
use Rattle.amqp_pieces.specs.declared.Piece.TheVariants.{Frame}
use Rattle.amqp_pieces.specs.Pieces.{Begins, size_of_piece}
use Rattle.amqp_conversation.specs.Why.{HasFrame}

pub has_frame : (bytes : List ℕ) (piece : Piece) (kind : FrameKind) (channel start size : ℕ) → piece ≡ Frame kind channel start size → Begins bytes piece → size_of_piece piece ≤ length bytes → HasFrame bytes kind start size
has_frame bytes piece kind channel start size e b le =
    let begins : Begins bytes (Frame kind channel start size) = subst (λ (z : Piece). Begins bytes z) e b in
    record { channel = channel; begins = begins; order = begins.1.most; within = subst (λ (z : Piece). size_of_piece z ≤ length bytes) e le }
