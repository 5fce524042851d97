-- What a piece says, from what its body is.
use Rattle.std.proofs.Common.{◌≡◌, ◌-◌, ℕ, List, refl, sym, subst, Result, Ok, Err, drop, take}
use Rattle.amqp_pieces.specs.declared.FrameKind.TheVariants.{Amqp, Sasl}
use Rattle.amqp_pieces.specs.declared.Piece.TheVariants.{Header, Frame}
use Rattle.amqp_pieces.specs.declared.Piece.{Piece}
use Rattle.amqp_pieces.specs.Pieces.{Begins, size_of_piece}
use Rattle.amqp_conversation.specs.declared.said.Reason.TheVariants as reason
use Rattle.amqp_conversation.specs.declared.said.SaidError.{SaidError}
use Rattle.amqp_conversation.specs.declared.said.SaidError.TheVariants.{Memory, Bad}
use Rattle.amqp_conversation.specs.Said.{Says, header', header_text, amqp', sasl', HasBadBody, no_body, no_sasl_body}
use Rattle.amqp_conversation.specs.Reading.{SaysAmqp, SaysSasl, SpellsNoBody, SpellsNoSasl, GivesText}

gives : {X : Type 0} (view : X → List ℕ) (r : Result X SaidError) (A B : List ℕ → Type 0) (N M : Type 0) → ((t : List ℕ) → A t → B t) → (N → M) → GivesText view r A N → GivesText view r B M
gives view (Ok x) A B N M f g h = f (view x) h
gives view (Err (Memory a)) A B N M f g h = h
gives view (Err (Bad reason.Body)) A B N M f g h = g h
gives view (Err (Bad reason.CutShort)) A B N M f g h = h
gives view (Err (Bad reason.Size)) A B N M f g h = h
gives view (Err (Bad reason.Type)) A B N M f g h = h

pub gives_amqp : {X : Type 0} (view : X → List ℕ) (r : Result X SaidError) (bytes : List ℕ) (piece : Piece) (channel start size : ℕ) → piece ≡ Frame Amqp channel start size → Begins bytes piece → GivesText view r (SaysAmqp channel (take (size - start) (drop start bytes))) (SpellsNoBody (take (size - start) (drop start bytes))) → GivesText view r (Says bytes (size_of_piece piece)) (HasBadBody bytes)
gives_amqp view r bytes piece channel start size e begins h =
    let here = subst (λ (p : Piece). Begins bytes p) e begins in
    subst (λ (p : Piece). GivesText view r (Says bytes (size_of_piece p)) (HasBadBody bytes)) (sym e)
    (gives view r _ _ _ _ (λ t s. amqp' bytes t channel start size s.body here s.spells s.said) (λ n. no_body bytes channel start size here n) h)

pub gives_sasl : {X : Type 0} (view : X → List ℕ) (r : Result X SaidError) (bytes : List ℕ) (piece : Piece) (channel start size : ℕ) → piece ≡ Frame Sasl channel start size → Begins bytes piece → GivesText view r (SaysSasl (take (size - start) (drop start bytes))) (SpellsNoSasl (take (size - start) (drop start bytes))) → GivesText view r (Says bytes (size_of_piece piece)) (HasBadBody bytes)
gives_sasl view r bytes piece channel start size e begins h =
    let here = subst (λ (p : Piece). Begins bytes p) e begins in
    subst (λ (p : Piece). GivesText view r (Says bytes (size_of_piece p)) (HasBadBody bytes)) (sym e)
    (gives view r _ _ _ _ (λ t s. subst (λ (z : List ℕ). Says bytes size z) (sym s.said) (sasl' bytes channel start size s.body here s.spells)) (λ n. no_sasl_body bytes channel start size here n) h)

pub gives_header : (bytes text : List ℕ) (piece : Piece) (p major minor revision : ℕ) → piece ≡ Header p major minor revision → Begins bytes piece → text ≡ header_text p major minor revision → Says bytes (size_of_piece piece) text
gives_header bytes text piece p major minor revision e begins said =
    let here = subst (λ (q : Piece). Begins bytes q) e begins in
    subst (λ (q : Piece). Says bytes (size_of_piece q) text) (sym e) (subst (λ (z : List ℕ). Says bytes 8 z) (sym said) (header' bytes p major minor revision here))
