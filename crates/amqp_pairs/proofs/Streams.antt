-- What is read of a SASL layer is what was written of it.
use Rattle.std.proofs.Common.{◌≡◌, ◌⊎◌, ◌+◌, ◌<◌, ◌≤◌, ◌^◌, inl, inr, ℕ, List, [], ◌∷◌, ◌++◌, length, take, drop, refl, sym, ap, ◌∙◌, subst, arith, append_assoc, length-append, append-nil, All, flat_map}
use Rattle.std.proofs.Math.Path.{ap₂}
use Rattle.std.proofs.lemmas.List.{take_at, drop_at}
use Rattle.std.proofs.lemmas.List.Elements.{All-head, All-tail}
use Rattle.std.proofs.lemmas.Option.{same_Some}
use Rattle.amqp_sasl_bodies.specs.declared.sasl_body.SaslBody.{SaslBody}
use Rattle.amqp_sasl_bodies.specs.SaslBody.{sasl_body_in}
use Rattle.amqp_sasl_bodies.specs.SaslBytes.{SpellsSasl}
use Rattle.amqp_opening.specs.Opening.{amqp_header}
use Rattle.amqp_value.proofs.Complete.{begins_no_other}
use Rattle.amqp_wire.specs.Frame.{frame_of}
use Rattle.amqp_wire.specs.Size.{size_of}
use Rattle.amqp_wire.proofs.Cuts.{size_of-append}
use Rattle.sasl_gate.specs.Frames.{Carries, HasSaslFrame, Heard, IsSaslFrame, canonical_of, said, sasl_frame, sasl_header}
use Rattle.amqp_pairs.specs.Streams.{AreFirstSent, IsAfterSasl, IsPart, IsRead}

-- ---- one frame

-- the size in front of a frame is its length
pub frame_size : (piece more : List ℕ) (x : SaslBody) → IsSaslFrame piece x → (size_of (piece ++ more) ≡ length piece) × (8 ≤ length piece) × (length piece ≤ 512)
frame_size piece more x f =
    let least : 8 ≤ length piece = omega (arith, f.body.size_is, f.body.whole.size.least) in
    let most : length piece ≤ 512 = omega (arith, f.body.size_is, f.body.whole.size.most) in
    (size_of-append piece more (omega arith) ∙ sym f.body.size_is, least, most)

-- two frames that begin the same bytes are the same bytes
same_piece : (p q a b : List ℕ) (x y : SaslBody) → IsSaslFrame p x → IsSaslFrame q y → p ++ a ≡ q ++ b → (p ≡ q) × (a ≡ b)
same_piece p q a b x y f g e =
    let n : length p ≡ length q = sym (frame_size p a x f).0 ∙ ap size_of e ∙ (frame_size q b y g).0 in (
      sym (take_at p a (length q) n) ∙ ap (take (length q)) e ∙ take_at q b (length q) refl,
      sym (drop_at p a (length q) n) ∙ ap (drop (length q)) e ∙ drop_at q b (length q) refl,
    )

-- bytes spell one body at most
one_body : (bytes : List ℕ) (x y : SaslBody) → SpellsSasl bytes x → SpellsSasl bytes y → x ≡ y
one_body bytes x y s t =
    let same = begins_no_other bytes bytes [] [] s.value t.value refl s.spelled t.spelled in
    same_Some x y (sym s.says ∙ ap sasl_body_in same.1 ∙ t.says)

same_body : (p q : List ℕ) (x y : SaslBody) → IsSaslFrame p x → IsSaslFrame q y → p ≡ q → x ≡ y
same_body p q x y f g e =
    let h = subst (λ (u : List ℕ). IsSaslFrame u x) e f in
    let s : h.start ≡ g.start = h.body.start_is ∙ sym g.body.start_is in
    one_body (drop g.start q) x y (subst (λ (i : ℕ). SpellsSasl (drop i q) x) s h.spelled) g.spelled

-- ---- what is written

frame_of-size : (kind channel : ℕ) (body : List ℕ) → 8 + length body < 2 ^ 32 → size_of (frame_of kind channel body) ≡ 8 + length body
frame_of-size kind channel body l = omega arith

frame_of-length : (kind channel : ℕ) (body : List ℕ) → length (frame_of kind channel body) ≡ 8 + length body
frame_of-length kind channel body = omega arith

frame_is : (body : List ℕ) (x : SaslBody) → length body ≤ 504 → SpellsSasl body x → IsSaslFrame (frame_of 1 0 body) x
frame_is body x l s =
    let n = frame_of-length 1 0 body in
    let z = frame_of-size 1 0 body (omega arith) in
    record {
      start = 8;
      channel = 0;
      body = record {
        whole = record { size = record { there = omega arith; least = omega arith; most = omega arith }; all = omega arith };
        size_is = n ∙ sym z;
        start_is = refl;
        channel_is = omega arith;
        least = omega arith;
        most = omega arith;
        type = refl;
      };
      spelled = s;
    }

-- what is written of a body is a frame of it
pub written : (x : SaslBody) → HasSaslFrame x → IsSaslFrame (sasl_frame x) x
written x h = frame_is (canonical_of x) x h.fits h.spelled

-- ---- what follows

-- the AMQP header would be a size far above the limit
header_size : (rest : List ℕ) → 512 < size_of (amqp_header ++ rest)
header_size rest = omega arith

after_size : (after : List ℕ) → IsAfterSasl after → 4 ≤ length after → 512 < size_of after
after_size after (rest, inl e) l =
    let same : size_of (amqp_header ++ []) ≡ size_of after = ap size_of (append-nil amqp_header) ∙ ap size_of (sym e) ∙ size_of-append after rest l in
    let high = header_size [] in
    omega arith
after_size after (rest, inr e) l =
    let same : size_of after ≡ size_of (amqp_header ++ rest) = ap size_of e in
    let high = header_size rest in
    omega arith

-- so no frame begins there
pub no_frame_after : (piece more after : List ℕ) (x : SaslBody) → IsSaslFrame piece x → IsAfterSasl after → piece ++ more ≡ after → ⊥
no_frame_after piece more after x f a e =
    let size = frame_size piece more x f in
    let long : 4 ≤ length after = omega (arith, size.1, ap length e, length-append piece more) in
    let high = after_size after a long in
    omega (arith, size.0, size.2, high, ap size_of e)

-- ---- the stream

first_of_stream : (tail flight rest after : List ℕ) (given sent : List SaslBody) → All HasSaslFrame sent → IsAfterSasl after → Carries tail given rest
    → tail ++ flight ≡ flat_map sasl_frame sent ++ after → AreFirstSent given sent (rest ++ flight) after
first_of_stream tail flight rest after [] sent a f c e =
    record { others = sent; sent_is = refl; left_is = ap (λ (u : List ℕ). u ++ flight) (sym c) ∙ e }
first_of_stream tail flight rest after (x ∷ xs) [] a f (piece, more, d, g, c) e =
    absurd (no_frame_after piece (more ++ flight) after x g f (sym (append_assoc piece more flight) ∙ ap (λ (u : List ℕ). u ++ flight) (sym d) ∙ e))
first_of_stream tail flight rest after (x ∷ xs) (y ∷ ys) a f (piece, more, d, g, c) e =
    let h = written y (All-head HasSaslFrame y ys a) in
    let same = same_piece piece (sasl_frame y) (more ++ flight) (flat_map sasl_frame ys ++ after) x y g h
    (sym (append_assoc piece more flight) ∙ ap (λ (u : List ℕ). u ++ flight) (sym d) ∙ e ∙ append_assoc (sasl_frame y) (flat_map sasl_frame ys) after) in
    let body : x ≡ y = same_body piece (sasl_frame y) x y g h same.0 in
    let r = first_of_stream more flight rest after xs ys (All-tail HasSaslFrame y ys a) f c same.1 in
    record {
      others = r.others;
      sent_is = ap₂ (λ (b : SaslBody) (zs : List SaslBody). b ∷ zs) (sym body) r.sent_is;
      left_is = r.left_is;
    }

pub first_said : (read rest coming after : List ℕ) (given sent : List SaslBody) → IsRead read rest coming after given sent → AreFirstSent given sent (rest ++ coming) after
first_said read rest coming after given sent r =
    let left : sasl_header ++ (r.heard.tail ++ coming) ≡ read ++ coming = ap (λ (u : List ℕ). u ++ coming) (sym r.heard.header) in
    let both : sasl_header ++ (r.heard.tail ++ coming) ≡ sasl_header ++ (flat_map sasl_frame sent ++ after) = left ∙ r.stream in
    first_of_stream r.heard.tail coming rest after given sent r.frames r.after_is r.heard.frames (ap (drop 8) both)

-- a part begins with no frame
part_not : (piece more rest : List ℕ) (x : SaslBody) → IsSaslFrame piece x → IsPart rest → rest ≡ piece ++ more → ⊥
part_not piece more rest x f p e =
    let z = frame_size piece more x f in
    let l = ap length e ∙ length-append piece more in
    let s = ap size_of e ∙ z.0 in
    elim p [ inl a ↦ omega (arith, z.1, l) | inr b ↦ omega (arith, z.1, l, s) ]

none_left : (others : List SaslBody) (rest after : List ℕ) → All HasSaslFrame others → IsPart rest → rest ≡ flat_map sasl_frame others ++ after → others ≡ []
none_left [] rest after a p e = refl
none_left (y ∷ ys) rest after a p e =
    absurd (part_not (sasl_frame y) (flat_map sasl_frame ys ++ after) rest y (written y (All-head HasSaslFrame y ys a)) p (e ∙ append_assoc (sasl_frame y) (flat_map sasl_frame ys) after))

pub all_behind : (first others : List SaslBody) → All HasSaslFrame (first ++ others) → All HasSaslFrame others
all_behind [] others a = a
all_behind (y ∷ ys) others a = all_behind ys others (All-tail HasSaslFrame y (ys ++ others) a)

pub all_said : (read rest after : List ℕ) (given sent : List SaslBody) → IsRead read rest [] after given sent → IsPart rest → (given ≡ sent) × (rest ≡ after)
all_said read rest after given sent h p =
    let r = first_said read rest [] after given sent h in
    let left : rest ≡ flat_map sasl_frame r.others ++ after = sym (append-nil rest) ∙ r.left_is in
    let none = none_left r.others rest after (all_behind given r.others (subst (λ (u : List SaslBody). All HasSaslFrame u) r.sent_is h.frames)) p left in (
      sym (append-nil given) ∙ ap (λ (u : List SaslBody). given ++ u) (sym none) ∙ sym r.sent_is,
      left ∙ ap (λ (u : List SaslBody). flat_map sasl_frame u ++ after) none,
    )

-- ---- what is read of bytes that were written, whatever follows them

-- a rest that begins with no whole frame
short_not : (piece more rest : List ℕ) (x : SaslBody) → IsSaslFrame piece x → IsPart rest ⊎ (length rest < 8) → rest ≡ piece ++ more → ⊥
short_not piece more rest x f (inl p) e = part_not piece more rest x f p e
short_not piece more rest x f (inr few) e = omega (arith, few, (frame_size piece more x f).1, ap length e, length-append piece more)

frames_taken_of : (tail after rest : List ℕ) (given sent : List SaslBody) → All HasSaslFrame sent → IsPart rest ⊎ (length rest < 8) → Carries tail given rest
    → tail ≡ flat_map sasl_frame sent ++ after → (others : List SaslBody) × (given ≡ sent ++ others)
frames_taken_of tail after rest given [] a p c e = (given, refl)
frames_taken_of tail after rest [] (y ∷ ys) a p c e =
    absurd (short_not (sasl_frame y) (flat_map sasl_frame ys ++ after) rest y (written y (All-head HasSaslFrame y ys a)) p
    (sym c ∙ e ∙ append_assoc (sasl_frame y) (flat_map sasl_frame ys) after))
frames_taken_of tail after rest (x ∷ xs) (y ∷ ys) a p (piece, more, d, g, c) e =
    let h = written y (All-head HasSaslFrame y ys a) in
    let same = same_piece piece (sasl_frame y) more (flat_map sasl_frame ys ++ after) x y g h (sym d ∙ e ∙ append_assoc (sasl_frame y) (flat_map sasl_frame ys) after) in
    let body : x ≡ y = same_body piece (sasl_frame y) x y g h same.0 in
    let r = frames_taken_of more after rest xs ys (All-tail HasSaslFrame y ys a) p c same.1 in
    (r.0, ap₂ (λ (b : SaslBody) (zs : List SaslBody). b ∷ zs) body r.1)

-- an end that has read these bodies and has no whole frame left was given them
pub all_taken : (read after rest : List ℕ) (given sent : List SaslBody) → All HasSaslFrame sent → IsPart rest ⊎ (length rest < 8) → Heard read given rest
    → read ≡ said sent ++ after → (others : List SaslBody) × (given ≡ sent ++ others)
all_taken read after rest given sent a p h e =
    let both : sasl_header ++ h.tail ≡ sasl_header ++ (flat_map sasl_frame sent ++ after) = sym h.header ∙ e in
    frames_taken_of h.tail after rest given sent a p h.frames (ap (drop 8) both)
