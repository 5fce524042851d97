-- Bytes begin with one piece at most, and with none where there is a fault.
use Rattle.std.proofs.Common.{◌≡◌, ◌⊎◌, inl, inr, ℕ, List, refl, sym, ap, ◌∙◌, arith}
use Rattle.amqp_pieces.specs.declared.FrameKind.{FrameKind}
use Rattle.amqp_pieces.specs.declared.FrameKind.TheVariants.{Amqp, Sasl}
use Rattle.amqp_pieces.specs.declared.Piece.{Piece}
use Rattle.amqp_pieces.specs.declared.Piece.TheVariants.{Header, Frame}
use Rattle.amqp_pieces.specs.declared.Fault.{Fault}
use Rattle.amqp_pieces.specs.declared.Fault.TheVariants as fault
use Rattle.amqp_pieces.specs.Pieces.{Begins, BeginsNone, type_of}

pub fault_no_piece : (bytes : List ℕ) (piece : Piece) (f : Fault) → Begins bytes piece → BeginsNone bytes f → ⊥
fault_no_piece bytes (Header p a b c) fault.CutShort h (inl x) = absurd (omega (arith, h.1, x.1))
fault_no_piece bytes (Header p a b c) fault.CutShort h (inr x) = x.0 h.0
fault_no_piece bytes (Header p a b c) fault.Size h x = x.0 h.0
fault_no_piece bytes (Header p a b c) fault.Type h x = x.0 h.0
fault_no_piece bytes (Frame k channel start size) fault.CutShort h (inl x) = h.0 x.0
fault_no_piece bytes (Frame k channel start size) fault.CutShort h (inr (unlike, inl short)) = absurd (omega (arith, h.1.whole.size.there, short))
fault_no_piece bytes (Frame k channel start size) fault.CutShort h (inr (unlike, inr cut)) = absurd (omega (arith, h.1.whole.all, cut.less))
fault_no_piece bytes (Frame k channel start size) fault.Size h (unlike, inl (there, inl small)) = absurd (omega (arith, h.1.whole.size.least, small))
fault_no_piece bytes (Frame k channel start size) fault.Size h (unlike, inl (there, inr large)) = absurd (omega (arith, h.1.whole.size.most, large))
fault_no_piece bytes (Frame k channel start size) fault.Size h (unlike, inr bad) = absurd (grind (arith, bad.bad, h.1.least, h.1.most, h.1.start_is, h.1.size_is))
fault_no_piece bytes (Frame Amqp channel start size) fault.Type h x = x.1.amqp h.1.type
fault_no_piece bytes (Frame Sasl channel start size) fault.Type h x = x.1.sasl h.1.type

one_kind : (x : ℕ) (one other : FrameKind) → x ≡ type_of one → x ≡ type_of other → one ≡ other
one_kind x Amqp Amqp e f = refl
one_kind x Amqp Sasl e f = absurd (omega (arith, e, f))
one_kind x Sasl Amqp e f = absurd (omega (arith, e, f))
one_kind x Sasl Sasl e f = refl

pub one_piece : (bytes : List ℕ) (one other : Piece) → Begins bytes one → Begins bytes other → one ≡ other
one_piece bytes (Header p a b c) (Header q d e f) h j = cc
one_piece bytes (Header p a b c) (Frame k channel start size) h j = absurd (j.0 h.0)
one_piece bytes (Frame k channel start size) (Header p a b c) h j = absurd (h.0 j.0)
one_piece bytes (Frame k channel start size) (Frame l other from count) h j =
    let kinds = one_kind _ k l h.1.type j.1.type in
    let channels = h.1.channel_is ∙ sym j.1.channel_is in
    let starts = h.1.start_is ∙ sym j.1.start_is in
    let sizes = h.1.size_is ∙ sym j.1.size_is in cc
