-- What is read of a stream.
use Rattle.std.proofs.Common.{◌≡◌, ◌+◌, ◌<◌, ◌≤◌, ◌^◌, inl, inr, ℕ, List, [], ◌∷◌, ◌++◌, length, take, drop, refl, sym, ap, ◌∙◌, subst, arith, append_assoc, length-append}
use Rattle.std.proofs.Math.Path.{ap₂}
use Rattle.std.proofs.lemmas.List.{take_at, drop_at}
use Rattle.std.proofs.lemmas.List.Elements.{All-head, All-tail}
use Rattle.std.specs.Prelude.{map, All}
use Rattle.amqp_wire.specs.Size.{size_of}
use Rattle.amqp_wire.specs.Frame.{frame_of}
use Rattle.amqp_transport.specs.Stream.{IsFrame, Joined, IsPart, HasFrame, AreFirst, stream_of}
use Rattle.amqp_wire.proofs.Cuts.{size_of-append}

-- the size in front of a frame is its length
pub frame_size : {X : Type 0} (kind : ℕ) (spells : ℕ → List ℕ → X → Type 0) (piece more : List ℕ) (x : X) → IsFrame kind spells piece x → (size_of (piece ++ more) ≡ length piece) × (8 ≤ length piece)
frame_size kind spells piece more x f =
    let least : 8 ≤ length piece = omega (arith, f.body.size_is, f.body.whole.size.least) in
    (size_of-append piece more (omega arith) ∙ sym f.body.size_is, least)

-- a part begins no frame
pub part_not : {X : Type 0} (kind : ℕ) (spells : ℕ → List ℕ → X → Type 0) (piece more r : List ℕ) (x : X) → IsFrame kind spells piece x → IsPart r → r ≡ piece ++ more → ⊥
part_not kind spells piece more r x f p e =
    let z = frame_size kind spells piece more x f in
    let l = ap length e ∙ length-append piece more in
    let s = ap size_of e ∙ z.0 in
    elim p [ inl a ↦ omega (arith, z.1, l) | inr b ↦ omega (arith, z.1, l, s) ]

-- two frames that begin the same bytes are the same bytes
pub same_piece : {X : Type 0} (kind : ℕ) (spells : ℕ → List ℕ → X → Type 0) (p q a b : List ℕ) (x y : X) → IsFrame kind spells p x → IsFrame kind spells q y → p ++ a ≡ q ++ b → (p ≡ q) × (a ≡ b)
same_piece kind spells p q a b x y f g e =
    let n : length p ≡ length q = sym (frame_size kind spells p a x f).0 ∙ ap size_of e ∙ (frame_size kind spells q b y g).0 in (
      sym (take_at p a (length q) n) ∙ ap (take (length q)) e ∙ take_at q b (length q) refl,
      sym (drop_at p a (length q) n) ∙ ap (drop (length q)) e ∙ drop_at q b (length q) refl,
    )

-- one frame is one item
pub same_item : {X : Type 0} (kind : ℕ) (spells : ℕ → List ℕ → X → Type 0) (one : (c : ℕ) (bytes : List ℕ) (x y : X) → spells c bytes x → spells c bytes y → x ≡ y) (p q : List ℕ) (x y : X) → IsFrame kind spells p x → IsFrame kind spells q y → p ≡ q → x ≡ y
same_item kind spells one p q x y f g e =
    let h = subst (λ (u : List ℕ). IsFrame kind spells u x) e f in
    let s : h.start ≡ g.start = h.body.start_is ∙ sym g.body.start_is in
    let c : h.channel ≡ g.channel = h.body.channel_is ∙ sym g.body.channel_is in
    one g.channel (drop g.start q) x y (subst (λ (i : ℕ). spells i (drop g.start q) x) c (subst (λ (i : ℕ). spells h.channel (drop i q) x) s h.spelled)) g.spelled

pub one_reading : {X : Type 0} (kind : ℕ) (spells : ℕ → List ℕ → X → Type 0) (one : (c : ℕ) (bytes : List ℕ) (x y : X) → spells c bytes x → spells c bytes y → x ≡ y) (bytes : List ℕ) (xs ys : List X) (r s : List ℕ) → Joined kind spells bytes xs r → Joined kind spells bytes ys s → IsPart r → IsPart s → (xs ≡ ys) × (r ≡ s)
one_reading kind spells one bytes [] [] r s j k p q = (refl, sym j ∙ k)
one_reading kind spells one bytes [] (y ∷ ys) r s j (piece, more, e, f, k) p q = absurd (part_not kind spells piece more r y f p (sym j ∙ e))
one_reading kind spells one bytes (x ∷ xs) [] r s (piece, more, e, f, j) k p q = absurd (part_not kind spells piece more s x f q (sym k ∙ e))
one_reading {X} kind spells one bytes (x ∷ xs) (y ∷ ys) r s (piece, more, e, f, j) (piece', more', e', f', k) p q =
    let same = same_piece kind spells piece piece' more more' x y f f' (sym e ∙ e') in
    let rest = one_reading kind spells one more' xs ys r s (subst (λ (u : List ℕ). Joined kind spells u xs r) same.1 j) k p q in
    (ap₂ (λ (a : X) (as' : List X). a ∷ as') (same_item kind spells one piece piece' x y f f' same.0) rest.0, rest.1)

-- what is written begins with its length
frame_of-size : (kind channel : ℕ) (body : List ℕ) → 8 + length body < 2 ^ 32 → size_of (frame_of kind channel body) ≡ 8 + length body
frame_of-size kind channel body l = omega arith

frame_of-length : (kind channel : ℕ) (body : List ℕ) → length (frame_of kind channel body) ≡ 8 + length body
frame_of-length kind channel body = omega arith

frame_is : {X : Type 0} (kind : ℕ) (spells : ℕ → List ℕ → X → Type 0) (channel : ℕ) (body : List ℕ) (x : X) → 8 + length body < 2 ^ 32 → channel < 2 ^ 16 → spells channel body x → IsFrame kind spells (frame_of kind channel body) x
frame_is {X} kind spells channel body x l c s =
    let n = frame_of-length kind channel body in
    let z = frame_of-size kind channel body l in
    record {
      start = 8;
      channel = channel;
      body = record {
        whole = record { size = record { there = omega arith; least = omega arith; most = omega arith }; all = omega arith };
        size_is = n ∙ sym z;
        start_is = refl;
        channel_is = omega arith;
        least = omega arith;
        most = omega arith;
        type = refl;
      };
      spelled = s;
    }

-- what is written of an item is one frame
pub written : {X : Type 0} (kind : ℕ) (spells : ℕ → List ℕ → X → Type 0) (canonical : X → List ℕ) (channel : X → ℕ) (again : X → X) (x : X) → HasFrame spells canonical channel again x → IsFrame kind spells (frame_of kind (channel x) (canonical x)) (again x)
written kind spells canonical channel again x h = frame_is kind spells (channel x) (canonical x) (again x) h.size_fits h.channel_fits h.spelled

-- no bytes begin with a frame
frame_not_nil : {X : Type 0} (kind : ℕ) (spells : ℕ → List ℕ → X → Type 0) (piece more : List ℕ) (x : X) → IsFrame kind spells piece x → piece ++ more ≡ [] → ⊥
frame_not_nil kind spells piece more x f e = omega (arith, (frame_size kind spells piece more x f).1, ap length e, length-append piece more)

pub first_frames : {X : Type 0} (kind : ℕ) (spells : ℕ → List ℕ → X → Type 0) (canonical : X → List ℕ) (channel : X → ℕ) (again : X → X) (one : (c : ℕ) (bytes : List ℕ) (x y : X) → spells c bytes x → spells c bytes y → x ≡ y) (read flight rest : List ℕ) (xs ys : List X) → All (HasFrame spells canonical channel again) ys → Joined kind spells read xs rest → read ++ flight ≡ stream_of kind canonical channel ys → AreFirst kind canonical channel again xs ys (rest ++ flight)
first_frames kind spells canonical channel again one read flight rest [] ys a j e =
    record { first = []; others = ys; split = refl; items = refl; stream = ap (λ (u : List ℕ). u ++ flight) (sym j) ∙ e }
first_frames kind spells canonical channel again one read flight rest (x ∷ xs) [] a (piece, more, d, f, j) e =
    absurd (frame_not_nil kind spells piece (more ++ flight) x f (sym (append_assoc piece more flight) ∙ ap (λ (u : List ℕ). u ++ flight) (sym d) ∙ e))
first_frames {X} kind spells canonical channel again one read flight rest (x ∷ xs) (y ∷ ys) a (piece, more, d, f, j) e =
    let g = written kind spells canonical channel again y (All-head (HasFrame spells canonical channel again) y ys a) in
    let same = same_piece kind spells piece (frame_of kind (channel y) (canonical y)) (more ++ flight) (stream_of kind canonical channel ys) x (again y) f g
    (sym (append_assoc piece more flight) ∙ ap (λ (u : List ℕ). u ++ flight) (sym d) ∙ e) in
    let item = same_item kind spells one piece (frame_of kind (channel y) (canonical y)) x (again y) f g same.0 in
    let r = first_frames kind spells canonical channel again one more flight rest xs ys (All-tail (HasFrame spells canonical channel again) y ys a) j same.1 in
    record {
      first = y ∷ r.first;
      others = r.others;
      split = ap (λ (zs : List X). y ∷ zs) r.split;
      items = ap₂ (λ (b : X) (zs : List X). b ∷ zs) item r.items;
      stream = r.stream;
    }

-- each item that was written can be read, one after another
pub joined_stream : {X : Type 0} (kind : ℕ) (spells : ℕ → List ℕ → X → Type 0) (canonical : X → List ℕ) (channel : X → ℕ) (again : X → X) (ys : List X) → All (HasFrame spells canonical channel again) ys → Joined kind spells (stream_of kind canonical channel ys) (map again ys) []
joined_stream kind spells canonical channel again [] a = refl
joined_stream kind spells canonical channel again (y ∷ ys) a = (
  frame_of kind (channel y) (canonical y),
  stream_of kind canonical channel ys,
  refl,
  written kind spells canonical channel again y (All-head (HasFrame spells canonical channel again) y ys a),
  joined_stream kind spells canonical channel again ys (All-tail (HasFrame spells canonical channel again) y ys a),
)

pub all_frames : {X : Type 0} (kind : ℕ) (spells : ℕ → List ℕ → X → Type 0) (canonical : X → List ℕ) (channel : X → ℕ) (again : X → X) (one : (c : ℕ) (bytes : List ℕ) (x y : X) → spells c bytes x → spells c bytes y → x ≡ y) (rest : List ℕ) (xs ys : List X) → All (HasFrame spells canonical channel again) ys → Joined kind spells (stream_of kind canonical channel ys) xs rest → IsPart rest → (xs ≡ map again ys) × (rest ≡ [])
all_frames kind spells canonical channel again one rest xs ys a j p =
    one_reading kind spells one (stream_of kind canonical channel ys) xs (map again ys) rest [] j (joined_stream kind spells canonical channel again ys a) p (inl (omega arith))
