-- An end that writes bytes in parts says what it says where it writes them at once.
use Rattle.std.proofs.Common.{◌≡◌, ◌≤◌, ◌<◌, ◌-◌, ◌∙◌, ℕ, List, ◌++◌, Option, Some, None, length, take, drop, get_or, refl, sym, ap, subst, arith, append_assoc, length-append, length-drop}
use Rattle.std.proofs.lemmas.List.{get_or_append_left, take-append-le, drop-append-le}
use Rattle.std.proofs.lemmas.Option.{same_Some}
use Rattle.amqp_wire.specs.Size.{size_of, start_of, channel_of}
use Rattle.amqp_pieces.specs.declared.FrameKind.TheVariants.{Amqp, Sasl}
use Rattle.amqp_pieces.specs.declared.Piece.{Piece}
use Rattle.amqp_pieces.specs.declared.Piece.TheVariants.{Header, Frame}
use Rattle.amqp_pieces.specs.Pieces.{HasLetters, Begins}
use Rattle.amqp_frames.specs.Body.{SpellsBody}
use Rattle.amqp_sasl_bodies.specs.SaslBytes.{SpellsSasl}
use Rattle.amqp_conversation.specs.declared.said.Reason.TheVariants as reason
use Rattle.amqp_conversation.specs.Said.{Says, header', amqp', sasl'}
use Rattle.amqp_show.specs.declared.voice.Side.{Side}
use Rattle.amqp_show.specs.Voice.{spoken_text, Speaks, says, stops}

same_byte : (a b : List ℕ) (k : ℕ) → k < length a → get_or (a ++ b) k 0 ≡ get_or a k 0
same_byte a b k lt = get_or_append_left a b 0 k lt

letters_on : (a b : List ℕ) → HasLetters a → HasLetters (a ++ b)
letters_on a b l =
    record {
      there = omega (arith, l.there, length-append a b);
      first = same_byte a b 0 (omega (arith, l.there)) ∙ l.first;
      second = same_byte a b 1 (omega (arith, l.there)) ∙ l.second;
      third = same_byte a b 2 (omega (arith, l.there)) ∙ l.third;
      fourth = same_byte a b 3 (omega (arith, l.there)) ∙ l.fourth;
    }

letters_back : (a b : List ℕ) → 4 ≤ length a → HasLetters (a ++ b) → HasLetters a
letters_back a b there l =
    record {
      there = there;
      first = sym (same_byte a b 0 (omega (arith, there))) ∙ l.first;
      second = sym (same_byte a b 1 (omega (arith, there))) ∙ l.second;
      third = sym (same_byte a b 2 (omega (arith, there))) ∙ l.third;
      fourth = sym (same_byte a b 3 (omega (arith, there))) ∙ l.fourth;
    }

size_on : (a b : List ℕ) → 8 ≤ length a → size_of (a ++ b) ≡ size_of a
size_on a b there = rw (same_byte a b 0 (omega (arith, there)), same_byte a b 1 (omega (arith, there)), same_byte a b 2 (omega (arith, there)), same_byte a b 3 (omega (arith, there))) refl

start_on : (a b : List ℕ) → 8 ≤ length a → start_of (a ++ b) ≡ start_of a
start_on a b there = rw (same_byte a b 4 (omega (arith, there))) refl

channel_on : (a b : List ℕ) → 8 ≤ length a → channel_of (a ++ b) ≡ channel_of a
channel_on a b there = rw (same_byte a b 6 (omega (arith, there)), same_byte a b 7 (omega (arith, there))) refl

-- what begins bytes begins them with bytes more
begins_on : (a b : List ℕ) (piece : Piece) → Begins a piece → Begins (a ++ b) piece
begins_on a b (Header p major minor revision) h =
    let long : 8 ≤ length a = h.1 in (
      letters_on a b h.0,
      omega (arith, long, length-append a b),
      h.2 ∙ sym (same_byte a b 4 (omega (arith, long))),
      h.3 ∙ sym (same_byte a b 5 (omega (arith, long))),
      h.4 ∙ sym (same_byte a b 6 (omega (arith, long))),
      h.5 ∙ sym (same_byte a b 7 (omega (arith, long))),
    )
begins_on a b (Frame k channel start size) h =
    let long : 8 ≤ length a = omega (arith, h.1.whole.size.least, h.1.whole.all) in
    let sizes = size_on a b long in (
      λ l. h.0 (letters_back a b (omega (arith, long)) l),
      record {
        whole = record {
          size = record {
            there = omega (arith, long, length-append a b);
            least = omega (arith, sizes, h.1.whole.size.least);
            most = omega (arith, sizes, h.1.whole.size.most);
          };
          all = omega (arith, sizes, h.1.whole.all, length-append a b);
        };
        size_is = h.1.size_is ∙ sym sizes;
        start_is = h.1.start_is ∙ sym (start_on a b long);
        channel_is = h.1.channel_is ∙ sym (channel_on a b long);
        least = h.1.least;
        most = h.1.most;
        type = same_byte a b 5 (omega (arith, long)) ∙ h.1.type;
      },
    )

part_on : (a b : List ℕ) (start size : ℕ) → start ≤ size → size ≤ length a → take (size - start) (drop start (a ++ b)) ≡ take (size - start) (drop start a)
part_on a b start size most all =
    ap (λ (z : List ℕ). take (size - start) z) (drop-append-le start a b (omega (arith, most, all)))
    ∙ take-append-le (size - start) (drop start a) b (omega (arith, most, all, length-drop start a))

says_on : (a b : List ℕ) (size : ℕ) (said : List ℕ) → Says a size said → Says (a ++ b) size said
says_on a b size said (header' _ p major minor revision begins) = header' (a ++ b) p major minor revision (begins_on a b (Header p major minor revision) begins)
says_on a b size said (amqp' _ _ channel start _ body begins spells text) =
    amqp' (a ++ b) said channel start size body (begins_on a b (Frame Amqp channel start size) begins)
    (subst (λ (z : List ℕ). SpellsBody z body) (sym (part_on a b start size begins.1.most (omega (arith, begins.1.size_is, begins.1.whole.all)))) spells) text
says_on a b size said (sasl' _ channel start _ body begins spells) =
    sasl' (a ++ b) channel start size body (begins_on a b (Frame Sasl channel start size) begins)
    (subst (λ (z : List ℕ). SpellsSasl z body) (sym (part_on a b start size begins.1.most (omega (arith, begins.1.size_is, begins.1.whole.all)))) spells)

says_within : (a : List ℕ) (size : ℕ) (said : List ℕ) → Says a size said → size ≤ length a
says_within a size said (header' _ p major minor revision begins) = begins.1
says_within a size said (amqp' _ _ channel start _ body begins spells text) = omega (arith, begins.1.size_is, begins.1.whole.all)
says_within a size said (sasl' _ channel start _ body begins spells) = omega (arith, begins.1.size_is, begins.1.whole.all)

speaks_on : (side : Side) (a b t t' left : List ℕ) (l l' : Option (List ℕ)) → Speaks side a t l → l ≡ Some left → Speaks side (left ++ b) t' l' → Speaks side (a ++ b) (t ++ t') l'
speaks_on side a b t t' left l l' (says _ _ said text _ size here more) is next =
    let rest = speaks_on side (drop size a) b text t' left l l' more is next in
    subst (λ (z : List ℕ). Speaks side (a ++ b) z l') (sym (append_assoc (spoken_text side said) text t'))
    (says side (a ++ b) said (text ++ t') l' size (says_on a b size said here) (subst (λ (z : List ℕ). Speaks side z (text ++ t') l') (sym (drop-append-le size a b (says_within a size said here))) rest))
speaks_on side a b t t' left l l' (stops _ _ reason.CutShort bad) is next = subst (λ (z : List ℕ). Speaks side (z ++ b) t' l') (sym (same_Some a left is)) next
speaks_on side a b t t' left l l' (stops _ _ reason.Size bad) is next = let none : None ≡ Some left = is in cc
speaks_on side a b t t' left l l' (stops _ _ reason.Type bad) is next = let none : None ≡ Some left = is in cc
speaks_on side a b t t' left l l' (stops _ _ reason.Body bad) is next = let none : None ≡ Some left = is in cc

pub speaks_joined : (side : Side) (a b t t' left : List ℕ) (l' : Option (List ℕ)) → Speaks side a t (Some left) → Speaks side (left ++ b) t' l' → Speaks side (a ++ b) (t ++ t') l'
speaks_joined side a b t t' left l' first next = speaks_on side a b t t' left (Some left) l' first refl next
