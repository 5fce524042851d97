-- What an end hears behind the headers is what the other said there.
use Rattle.std.proofs.Common.{◌≡◌, ◌⊎◌, inl, inr, ℕ, List, [], ◌∷◌, ◌++◌, drop, Bool, true, false, refl, sym, ap, ◌∙◌, subst, append_assoc, append-nil, All, flat_map}
use Rattle.std.specs.Prelude.{slice_index}
use Rattle.amqp_sasl_bodies.specs.declared.sasl_body.SaslBody.{SaslBody}
use Rattle.amqp_opening.specs.Opening.{amqp_header}
use Rattle.amqp_transport.specs.declared.frames.Frame.{Frame}
use Rattle.amqp_transport.specs.Kinds.{amqp_spells, amqp_bytes, amqp_channel, amqp_again}
use Rattle.amqp_transport.specs.Stream.{Joined, AreFirst}
use Rattle.amqp_transport.specs.OneItem.{one_frame}
use Rattle.amqp_transport.proofs.Readings.{first_frames}
use Rattle.amqp_engine.specs.Sentence.{bytes_of_all}
use Rattle.sasl_gate.specs.Frames.{Carries, Heard, said, sasl_header, sasl_frame}
use Rattle.sasl_gate.specs.Frames.{HasSaslFrame}
use Rattle.amqp_pairs.specs.Streams.{IsAfterSasl, IsRead}
use Rattle.amqp_pairs.proofs.Streams.{first_said, no_frame_after, written}
use Rattle.std.proofs.lemmas.List.Elements.{All-head, All-tail}
use Rattle.amqp_engine.specs.State.{IsFramed}
use Rattle.amqp_peer.specs.Causes.{IsLayerRead, IsLayerWritten, IsTail}

-- the frames that were given are the first of those that were queued, and what is left and to come is those of the others
abbrev pub AreFirstFrames : List Frame → List Frame → List ℕ → Type 0
AreFirstFrames given sent left = AreFirst 0 amqp_bytes amqp_channel amqp_again given sent left

-- ---- behind the headers

header_not_nil : (xs : List ℕ) → amqp_header ++ xs ≡ [] → ⊥
header_not_nil xs e = absurd (cc e)

tail_of : (sent : List Frame) (tail : List ℕ) → IsTail sent tail → (tail ≡ []) ⊎ (tail ≡ amqp_header ++ bytes_of_all sent)
tail_of sent tail (inl (s, inl e)) = inl e
tail_of sent tail (inl (s, inr e)) = inr (e ∙ sym (append-nil amqp_header) ∙ ap (λ (xs : List Frame). amqp_header ++ bytes_of_all xs) (sym s))
tail_of sent tail (inr e) = inr e

-- an end hears the first of the frames that were queued where both stand behind the same header
pub heard_behind : (behind left tail rest : List ℕ) (given sent : List Frame) → All IsFramed sent → IsTail sent tail → Joined 0 amqp_spells behind given rest
    → amqp_header ++ (behind ++ left) ≡ tail → AreFirstFrames given sent (rest ++ left)
heard_behind behind left tail rest given sent framed t j e = elim (tail_of sent tail t) [
  | inl n ↦ absurd (header_not_nil (behind ++ left) (e ∙ n))
  | inr m ↦ first_frames 0 amqp_spells amqp_bytes amqp_channel amqp_again one_frame behind left rest given sent framed j (ap (drop 8) (e ∙ m))
]

-- ---- with a SASL layer

carries_more : (bytes : List ℕ) (bodies : List SaslBody) (rest more : List ℕ) → Carries bytes bodies rest → Carries (bytes ++ more) bodies (rest ++ more)
carries_more bytes [] rest more c = ap (λ (u : List ℕ). u ++ more) c
carries_more bytes (x ∷ bodies) rest more (piece, left, e, f, c) =
    (piece, left ++ more, ap (λ (u : List ℕ). u ++ more) e ∙ append_assoc piece left more, f, carries_more left bodies rest more c)

heard_more : (head : List ℕ) (bodies : List SaslBody) (more : List ℕ) → Heard head bodies [] → Heard (head ++ more) bodies more
heard_more head bodies more h = record {
  tail = h.tail ++ more;
  header = ap (λ (u : List ℕ). u ++ more) h.header ∙ append_assoc sasl_header h.tail more;
  frames = carries_more h.tail bodies [] more h.frames;
}

after_tail : (sent : List Frame) (tail : List ℕ) → (tail ≡ []) ⊎ (tail ≡ amqp_header ++ bytes_of_all sent) → IsAfterSasl tail
after_tail sent tail (inl e) = (amqp_header, inl (ap (λ (u : List ℕ). u ++ amqp_header) e))
after_tail sent tail (inr e) = (bytes_of_all sent, inr e)

-- the AMQP header is no frame of the layer
behind_layer : (others : List SaslBody) (more tail : List ℕ) → All HasSaslFrame others → amqp_header ++ more ≡ flat_map sasl_frame others ++ tail → amqp_header ++ more ≡ tail
behind_layer [] more tail a e = e
behind_layer (y ∷ ys) more tail a e =
    absurd (no_frame_after (sasl_frame y) (flat_map sasl_frame ys ++ tail) (amqp_header ++ more) y (written y (All-head HasSaslFrame y ys a)) (more, inr refl) (sym (append_assoc (sasl_frame y) (flat_map sasl_frame ys) tail) ∙ sym e))

all_behind : (first others : List SaslBody) → All HasSaslFrame (first ++ others) → All HasSaslFrame others
all_behind [] others a = a
all_behind (y ∷ ys) others a = all_behind ys others (All-tail HasSaslFrame y (ys ++ others) a)

layer_behind : (head head' behind left tail : List ℕ) (bodies bodies' : List SaslBody) (sent : List Frame) → Heard head bodies [] → All HasSaslFrame bodies' → head' ≡ said bodies' → IsTail sent tail
    → (head ++ (amqp_header ++ behind)) ++ left ≡ head' ++ tail → amqp_header ++ (behind ++ left) ≡ tail
layer_behind head head' behind left tail bodies bodies' sent h a w t e =
    let r : IsRead (head ++ (amqp_header ++ behind)) (amqp_header ++ behind) left tail bodies bodies' = record {
      frames = a;
      after_is = after_tail sent tail (tail_of sent tail t);
      heard = heard_more head bodies (amqp_header ++ behind) h;
      stream = e ∙ ap (λ (u : List ℕ). u ++ tail) w;
    } in
    let f = first_said (head ++ (amqp_header ++ behind)) (amqp_header ++ behind) left tail bodies bodies' r in
    behind_layer f.others (behind ++ left) tail (all_behind bodies f.others (subst (λ (u : List SaslBody). All HasSaslFrame u) f.sent_is a))
    (sym (append_assoc amqp_header behind left) ∙ f.left_is)

-- ---- one end has the layer and the other has not

pub headers_differ : (xs ys : List ℕ) → sasl_header ++ xs ≡ amqp_header ++ ys → ⊥
headers_differ xs ys e = absurd (cc (ap (λ (u : List ℕ). slice_index u 4) e))

sasl_not_nil : (xs : List ℕ) → sasl_header ++ xs ≡ [] → ⊥
sasl_not_nil xs e = absurd (cc e)

sasl_not_tail : (xs tail : List ℕ) (sent : List Frame) → sasl_header ++ xs ≡ tail → IsTail sent tail → ⊥
sasl_not_tail xs tail sent e t = elim (tail_of sent tail t) [ inl n ↦ sasl_not_nil xs (e ∙ n) | inr m ↦ headers_differ xs (bytes_of_all sent) (e ∙ m) ]

-- both stand behind the same headers
same_behind : (read_layer written_layer : Bool) (head head' behind left tail : List ℕ) (sent : List Frame) → IsLayerRead read_layer head → IsLayerWritten written_layer head' → IsTail sent tail
    → (head ++ (amqp_header ++ behind)) ++ left ≡ head' ++ tail → amqp_header ++ (behind ++ left) ≡ tail
same_behind true true head head' behind left tail sent (bodies, h) (bodies', a, w) t e = layer_behind head head' behind left tail bodies bodies' sent h a w t e
same_behind true false head head' behind left tail sent (bodies, h) w t e =
    absurd (sasl_not_tail ((h.tail ++ (amqp_header ++ behind)) ++ left) tail sent
    (sym (append_assoc sasl_header (h.tail ++ (amqp_header ++ behind)) left) ∙ ap (λ (u : List ℕ). u ++ left) (sym (append_assoc sasl_header h.tail (amqp_header ++ behind)) ∙ ap (λ (u : List ℕ). u ++ (amqp_header ++ behind)) (sym h.header))
    ∙ e ∙ ap (λ (u : List ℕ). u ++ tail) w) t)
same_behind false true head head' behind left tail sent h (bodies', a, w) t e =
    absurd (headers_differ (flat_map sasl_frame bodies' ++ tail) (behind ++ left)
    (sym (append_assoc sasl_header (flat_map sasl_frame bodies') tail) ∙ ap (λ (u : List ℕ). u ++ tail) (sym w) ∙ sym e ∙ ap (λ (u : List ℕ). (u ++ (amqp_header ++ behind)) ++ left) h ∙ append_assoc amqp_header behind left))
same_behind false false head head' behind left tail sent h w t e =
    sym (append_assoc amqp_header behind left) ∙ ap (λ (u : List ℕ). (u ++ (amqp_header ++ behind)) ++ left) (sym h) ∙ e ∙ ap (λ (u : List ℕ). u ++ tail) w

-- an end hears the first of the frames that the other queued
pub heard_first : (read_layer written_layer : Bool) (head head' behind left tail rest : List ℕ) (given sent : List Frame) → IsLayerRead read_layer head → IsLayerWritten written_layer head' → IsTail sent tail
    → All IsFramed sent → Joined 0 amqp_spells behind given rest → (head ++ (amqp_header ++ behind)) ++ left ≡ head' ++ tail → AreFirstFrames given sent (rest ++ left)
heard_first read_layer written_layer head head' behind left tail rest given sent r w t framed j e =
    heard_behind behind left tail rest given sent framed t j (same_behind read_layer written_layer head head' behind left tail sent r w t e)
