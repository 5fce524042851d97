-- What the other end queued begins with no frame that is refused.
use Rattle.std.proofs.Common.{◌≡◌, ◌<◌, ◌≤◌, ◌+◌, ◌*◌, inl, inr, ℕ, List, [], ◌∷◌, ◌++◌, length, take, drop, refl, sym, ap, ◌∙◌, subst, arith, length-append, All}
use Rattle.std.proofs.Math.Path.{ap₂}
use Rattle.std.proofs.lemmas.List.{take-append-le, take_at, get_or-take, get_or_append_left}
use Rattle.std.proofs.lemmas.List.Elements.{All-head}
use Rattle.std.specs.Prelude.{slice_index}
use Rattle.amqp_wire.specs.declared.frame.Front.TheVariants.{Refused, Foreign}
use Rattle.amqp_wire.specs.Frame.{HasBody, IsFront, frame_of}
use Rattle.amqp_wire.specs.Size.{size_of, start_of}
use Rattle.amqp_wire.proofs.Cuts.{size_of-append}
use Rattle.amqp_transport.specs.declared.frames.Frame.{Frame}
use Rattle.amqp_transport.specs.Causes.{IsUnspelled}
use Rattle.amqp_transport.specs.Kinds.{amqp_spells, amqp_bytes, amqp_channel, amqp_again}
use Rattle.amqp_transport.specs.Stream.{IsFrame}
use Rattle.amqp_transport.proofs.Readings.{frame_size, written}
use Rattle.amqp_engine.specs.Sentence.{bytes_of_all, size_of_frame}
use Rattle.amqp_engine.specs.State.{IsFramed}
use Rattle.amqp_peer.specs.Causes.{StartsWithin}

-- the bytes of a frame
abbrev bytes_of : Frame → List ℕ
bytes_of y = frame_of 0 (amqp_channel y) (amqp_bytes y)

framed : (y : Frame) → IsFramed y → IsFrame 0 amqp_spells (bytes_of y) (amqp_again y)
framed y h = written 0 amqp_spells amqp_bytes amqp_channel amqp_again y h

bytes_length : (y : Frame) → length (bytes_of y) ≡ size_of_frame y
bytes_length y = omega arith

-- a rest of four bytes or more that begins with the bytes of a frame
record Begins (y : Frame) (rest : List ℕ) : Type 0 where
  pub frame : IsFrame 0 amqp_spells (bytes_of y) (amqp_again y)
  pub size : size_of rest ≡ length (bytes_of y)

begins : (y : Frame) (rest left more : List ℕ) → IsFramed y → 4 ≤ length rest → rest ++ left ≡ bytes_of y ++ more → Begins y rest
begins y rest left more h l e =
    let f = framed y h in
    record { frame = f; size = sym (size_of-append rest left l) ∙ ap size_of e ∙ (frame_size 0 amqp_spells (bytes_of y) more (amqp_again y) f).0 }

-- and where the frame is there whole, it is the front of the rest
whole_front : (y : Frame) (rest left more : List ℕ) → length (bytes_of y) ≤ length rest → rest ++ left ≡ bytes_of y ++ more → take (length (bytes_of y)) rest ≡ bytes_of y
whole_front y rest left more l e = sym (take-append-le (length (bytes_of y)) rest left l) ∙ ap (take (length (bytes_of y))) e ∙ take_at (bytes_of y) more (length (bytes_of y)) refl

nothing_there : (rest left : List ℕ) → 4 ≤ length rest → rest ++ left ≡ [] → ⊥
nothing_there rest left l e = omega (arith, ap length e, length-append rest left)

byte_at : (y : Frame) (rest : List ℕ) (i : ℕ) → i < length (bytes_of y) → take (length (bytes_of y)) rest ≡ bytes_of y → slice_index rest i ≡ slice_index (bytes_of y) i
byte_at y rest i l e = sym (get_or-take (length (bytes_of y)) rest i 0 l) ∙ ap (λ (u : List ℕ). slice_index u i) e

-- ---- its body is spelled

spelled_front : (y : Frame) (rest : List ℕ) (limit size start channel : ℕ) → IsFrame 0 amqp_spells (bytes_of y) (amqp_again y) → HasBody 0 limit rest size start channel → size ≡ length (bytes_of y)
    → take (length (bytes_of y)) rest ≡ bytes_of y → amqp_spells channel (drop start (take size rest)) (amqp_again y)
spelled_front y rest limit size start channel f b n e =
    let least : 8 ≤ length (bytes_of y) = omega (arith, f.body.size_is, f.body.whole.size.least) in
    let s : f.start ≡ start = f.body.start_is ∙ ap (λ (i : ℕ). 4 * i) (sym (byte_at y rest 4 (omega arith) e)) ∙ sym b.start_is in
    let c : f.channel ≡ channel = f.body.channel_is ∙ sym (ap₂ (λ (i j : ℕ). i * 256 + j) (byte_at y rest 6 (omega arith) e) (byte_at y rest 7 (omega arith) e)) ∙ sym b.channel_is in
    subst (λ (u : List ℕ). amqp_spells channel (drop start u) (amqp_again y)) (sym (ap (λ (i : ℕ). take i rest) n ∙ e))
    (subst (λ (i : ℕ). amqp_spells channel (drop i (bytes_of y)) (amqp_again y)) s (subst (λ (i : ℕ). amqp_spells i (drop f.start (bytes_of y)) (amqp_again y)) c f.spelled))

pub unspelled_not : (rest left : List ℕ) (limit : ℕ) (others : List Frame) → All IsFramed others → rest ++ left ≡ bytes_of_all others → IsUnspelled 0 amqp_spells limit rest → ⊥
unspelled_not rest left limit [] a e u = nothing_there rest left u.body.whole.size.there e
unspelled_not rest left limit (y ∷ ys) a e u =
    let b = begins y rest left (bytes_of_all ys) (All-head IsFramed y ys a) u.body.whole.size.there e in
    let n : u.size ≡ length (bytes_of y) = u.body.size_is ∙ b.size in
    let w = whole_front y rest left (bytes_of_all ys) (omega (arith, b.size, u.body.whole.all)) e in
    u.none (amqp_again y) (spelled_front y rest limit u.size u.start u.channel b.frame u.body n w)

-- ---- it is of this type

pub foreign_not : (rest left : List ℕ) (limit : ℕ) (others : List Frame) → All IsFramed others → rest ++ left ≡ bytes_of_all others → IsFront 0 limit rest Foreign → ⊥
foreign_not rest left limit [] a e u = nothing_there rest left u.0.size.there e
foreign_not rest left limit (y ∷ ys) a e (whole, least, most, type) =
    let b = begins y rest left (bytes_of_all ys) (All-head IsFramed y ys a) whole.size.there e in
    let long : 8 ≤ length (bytes_of y) = omega (arith, b.frame.body.size_is, b.frame.body.whole.size.least) in
    let w = whole_front y rest left (bytes_of_all ys) (omega (arith, b.size, whole.all)) e in
    type (byte_at y rest 5 (omega arith) w ∙ b.frame.body.type)

-- ---- its size is within the limit, and its body begins behind the eight bytes

byte_early : (y : Frame) (rest left more : List ℕ) (i : ℕ) → i < length rest → i < length (bytes_of y) → rest ++ left ≡ bytes_of y ++ more → slice_index rest i ≡ slice_index (bytes_of y) i
byte_early y rest left more i l m e = sym (get_or_append_left rest left 0 i l) ∙ ap (λ (u : List ℕ). slice_index u i) e ∙ get_or_append_left (bytes_of y) more 0 i m

pub refused_not : (rest left : List ℕ) (limit : ℕ) (others : List Frame) → All IsFramed others → StartsWithin limit others → rest ++ left ≡ bytes_of_all others → IsFront 0 limit rest Refused → ⊥
refused_not rest left limit [] a w e (inl (l, s)) = nothing_there rest left l e
refused_not rest left limit [] a w e (inr r) = nothing_there rest left r.size.there e
refused_not rest left limit (y ∷ ys) a w e (inl (l, s)) =
    let b = begins y rest left (bytes_of_all ys) (All-head IsFramed y ys a) l e in
    let n : size_of rest ≡ size_of_frame y = b.size ∙ bytes_length y in
    elim s [ inl less ↦ omega (arith, n, less) | inr more ↦ omega (arith, n, more, w) ]
refused_not rest left limit (y ∷ ys) a w e (inr r) =
    let b = begins y rest left (bytes_of_all ys) (All-head IsFramed y ys a) r.size.there e in
    let long : 8 ≤ length (bytes_of y) = omega (arith, b.frame.body.size_is, b.frame.body.whole.size.least) in
    let byte = byte_early y rest left (bytes_of_all ys) 4 (omega (arith, r.there)) (omega (arith, long)) e in
    let start : start_of rest ≡ b.frame.start = ap (λ (i : ℕ). 4 * i) byte ∙ sym b.frame.body.start_is in
    elim r.bad [ inl less ↦ omega (arith, start, less, b.frame.body.least) | inr more ↦ omega (arith, start, more, b.frame.body.most, b.size) ]
