-- Bad bytes say nothing.
use Rattle.std.proofs.Common.{◌≡◌, ℕ, List, take, drop, refl, sym, ap, subst, ◌∙◌, ◌-◌}
use Rattle.amqp_pieces.specs.declared.FrameKind.TheVariants.{Amqp, Sasl}
use Rattle.amqp_pieces.specs.declared.Piece.{Piece}
use Rattle.amqp_pieces.specs.declared.Piece.TheVariants.{Header, Frame}
use Rattle.amqp_pieces.specs.declared.Fault.{Fault}
use Rattle.amqp_pieces.specs.declared.Fault.TheVariants as fault
use Rattle.amqp_pieces.specs.Pieces.{Begins, BeginsNone}
use Rattle.amqp_pieces.proofs.Unlike.{fault_no_piece, one_piece}
use Rattle.amqp_frames.specs.Body.{SpellsBody}
use Rattle.amqp_sasl_bodies.specs.SaslBytes.{SpellsSasl}
use Rattle.amqp_conversation.specs.declared.said.Reason.{Reason}
use Rattle.amqp_conversation.specs.declared.said.Reason.TheVariants as reason
use Rattle.amqp_conversation.specs.Said.{Says, header', amqp', sasl', HasBadBody, no_body, no_sasl_body, IsBad}

faulty : (bytes : List ℕ) (f : Fault) (size : ℕ) (said : List ℕ) → BeginsNone bytes f → Says bytes size said → ⊥
faulty bytes f size said bad (header' _ p major minor revision begins) = fault_no_piece bytes (Header p major minor revision) f begins bad
faulty bytes f size said bad (amqp' _ _ channel start _ body begins spells text) = fault_no_piece bytes (Frame Amqp channel start size) f begins bad
faulty bytes f size said bad (sasl' _ channel start _ body begins spells) = fault_no_piece bytes (Frame Sasl channel start size) f begins bad

-- where a piece's body lies
abbrev start_of_piece : Piece → ℕ
start_of_piece (Header p major minor revision) = 0
start_of_piece (Frame k channel start size) = start

abbrev size_of_frame : Piece → ℕ
size_of_frame (Header p major minor revision) = 0
size_of_frame (Frame k channel start size) = size

abbrev is_header : Piece → Type 0
is_header (Header p major minor revision) = Unit {0}
is_header (Frame k channel start size) = ⊥

abbrev is_amqp : Piece → Type 0
is_amqp (Header p major minor revision) = ⊥
is_amqp (Frame Amqp channel start size) = Unit {0}
is_amqp (Frame Sasl channel start size) = ⊥

same_body : (bytes : List ℕ) (one other : Piece) → one ≡ other → take (size_of_frame one - start_of_piece one) (drop (start_of_piece one) bytes) ≡ take (size_of_frame other - start_of_piece other) (drop (start_of_piece other) bytes)
same_body bytes one other e = ap (λ (p : Piece). take (size_of_frame p - start_of_piece p) (drop (start_of_piece p) bytes)) e

bad_body : (bytes : List ℕ) (size : ℕ) (said : List ℕ) → HasBadBody bytes → Says bytes size said → ⊥
bad_body bytes size said (no_body _ channel start count begins nothing) (header' _ p major minor revision other) =
    subst is_header (one_piece bytes (Header p major minor revision) (Frame Amqp channel start count) other begins) tt
bad_body bytes size said (no_body _ channel start count begins nothing) (amqp' _ _ c from _ body other spells text) =
    nothing body (subst (λ (z : List ℕ). SpellsBody z body) (same_body bytes (Frame Amqp c from size) (Frame Amqp channel start count) (one_piece bytes _ _ other begins)) spells)
bad_body bytes size said (no_body _ channel start count begins nothing) (sasl' _ c from _ body other spells) =
    subst is_amqp (one_piece bytes (Frame Amqp channel start count) (Frame Sasl c from size) begins other) tt
bad_body bytes size said (no_sasl_body _ channel start count begins nothing) (header' _ p major minor revision other) =
    subst is_header (one_piece bytes (Header p major minor revision) (Frame Sasl channel start count) other begins) tt
bad_body bytes size said (no_sasl_body _ channel start count begins nothing) (amqp' _ _ c from _ body other spells text) =
    subst is_amqp (one_piece bytes (Frame Amqp c from size) (Frame Sasl channel start count) other begins) tt
bad_body bytes size said (no_sasl_body _ channel start count begins nothing) (sasl' _ c from _ body other spells) =
    nothing body (subst (λ (z : List ℕ). SpellsSasl z body) (same_body bytes (Frame Sasl c from size) (Frame Sasl channel start count) (one_piece bytes _ _ other begins)) spells)

pub bad_says_nothing : (bytes : List ℕ) (r : Reason) (size : ℕ) (said : List ℕ) → IsBad bytes r → Says bytes size said → ⊥
bad_says_nothing bytes reason.CutShort size said bad says = faulty bytes fault.CutShort size said bad says
bad_says_nothing bytes reason.Size size said bad says = faulty bytes fault.Size size said bad says
bad_says_nothing bytes reason.Type size said bad says = faulty bytes fault.Type size said bad says
bad_says_nothing bytes reason.Body size said bad says = bad_body bytes size said bad says
