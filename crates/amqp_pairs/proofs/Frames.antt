-- No header and no frame of a SASL layer that was written is refused.
use Rattle.std.proofs.Common.{◌≡◌, ◌<◌, ◌≤◌, inl, inr, ℕ, List, [], ◌∷◌, ◌++◌, length, take, drop, refl, ap, sym, ◌∙◌, subst, append_assoc, arith, append-nil, flat_map, All}
use Rattle.std.specs.Prelude.{slice_index}
use Rattle.std.proofs.lemmas.List.{take_at, take-append-le, take-append-drop, get_or_append_left}
use Rattle.std.proofs.lemmas.List.Elements.{All-head}
use Rattle.amqp_sasl_bodies.specs.declared.sasl_body.SaslBody.{SaslBody}
use Rattle.amqp_sasl_bodies.specs.SaslBytes.{SpellsSasl}
use Rattle.amqp_wire.specs.Frame.{IsBadOffset, IsRefusedSize, IsWhole}
use Rattle.amqp_wire.specs.Size.{size_of, start_of}
use Rattle.amqp_wire.proofs.Cuts.{size_of-append}
use Rattle.sasl_exchange.specs.declared.error.NegotiationError.{NegotiationError}
use Rattle.sasl_exchange.specs.declared.error.NegotiationError.TheVariants.{Memory, ProtocolHeaderMismatch, NotImplemented, SaslError, ScramError, Io, DecodeError, IllegalState, FramingError}
use Rattle.sasl_gate.specs.Frames.{HasSaslFrame, IsSaslFrame, sasl_frame, sasl_header}
use Rattle.sasl_gate.specs.Negotiation.{FrameCause, HeaderCause, IsUndecodable}
use Rattle.amqp_pairs.specs.Streams.{IsRead, IsSaid}
use Rattle.amqp_pairs.proofs.Streams.{all_behind, first_said, frame_size, written}

-- ---- the header

-- the first eight bytes are the SASL header
header_read : (read coming after : List ℕ) (sent : List SaslBody) → IsSaid read coming after sent → 8 ≤ length read → take 8 read ≡ sasl_header
header_read read coming after sent s l =
    sym (take-append-le 8 read coming l) ∙ ap (take 8) s.stream

pub header_taken : (read coming after : List ℕ) (sent : List SaslBody) (e : NegotiationError) → IsSaid read coming after sent → HeaderCause e read → ⊥
header_taken read coming after sent (Memory a) s c = c
header_taken read coming after sent (ProtocolHeaderMismatch h) s (l, is, not) = not (is ∙ header_read read coming after sent s l)
header_taken read coming after sent NotImplemented s c = c
header_taken read coming after sent (SaslError code d) s c = c
header_taken read coming after sent (ScramError kind) s c = c
header_taken read coming after sent (Io kind) s c = c
header_taken read coming after sent DecodeError s c = c
header_taken read coming after sent IllegalState s c = c
header_taken read coming after sent FramingError s c = c

-- ---- a frame

-- bytes of which the first are a frame that was written, with those to come
module _ (piece rest coming others : List ℕ) (x : SaslBody) (f : IsSaslFrame piece x) (same : rest ++ coming ≡ piece ++ others) where
  size_there : 4 ≤ length rest → size_of rest ≡ length piece
  size_there l = sym (size_of-append rest coming l) ∙ ap size_of same ∙ (frame_size piece others x f).0

  -- where they are there whole, the frame is
  piece_there : IsWhole 512 rest → rest ≡ piece ++ drop (length piece) rest
  piece_there w =
      let n : size_of rest ≡ length piece = size_there w.size.there in
      let all : length piece ≤ length rest = subst (λ (i : ℕ). i ≤ length rest) n w.all in
      let front : take (length piece) rest ≡ piece = sym (take-append-le (length piece) rest coming all) ∙ ap (take (length piece)) same ∙ take_at piece others (length piece) refl in
      sym (take-append-drop (length piece) rest) ∙ ap (λ (u : List ℕ). u ++ drop (length piece) rest) front

  byte_there : (i : ℕ) → i < length piece → IsWhole 512 rest → slice_index rest i ≡ slice_index piece i
  byte_there i l w = ap (λ (u : List ℕ). slice_index u i) (piece_there w) ∙ get_or_append_left piece (drop (length piece) rest) 0 i l

  long : 8 ≤ length piece
  long = (frame_size piece others x f).1

  byte_early : (i : ℕ) → i < length rest → i < length piece → slice_index rest i ≡ slice_index piece i
  byte_early i l m = sym (get_or_append_left rest coming 0 i l) ∙ ap (λ (u : List ℕ). slice_index u i) same ∙ get_or_append_left piece others 0 i m

  start_early : 8 ≤ length rest → start_of rest ≡ f.start
  start_early l = let i = byte_early 4 (omega (arith, l)) (omega (arith, long)) in omega (arith, i, f.body.start_is)

  start_there : IsWhole 512 rest → start_of rest ≡ f.start
  start_there w = let i = byte_there 4 (omega (arith, long)) w in omega (arith, i, f.body.start_is)

  type_there : IsWhole 512 rest → slice_index rest 5 ≡ 1
  type_there w = byte_there 5 (omega (arith, long)) w ∙ f.body.type

  no_bad_size : IsRefusedSize 512 rest → ⊥
  no_bad_size (l, inl low) = let n = size_there l in omega (arith, n, low, long)
  no_bad_size (l, inr high) = let n = size_there l in omega (arith, n, high, (frame_size piece others x f).2)

  no_bad_offset : 8 ≤ length rest → IsBadOffset rest → ⊥
  no_bad_offset l (inl low) = let s = start_early l in omega (arith, s, low, f.body.least)
  no_bad_offset l (inr high) =
      let s = start_early l in
      let n = size_there (omega (arith, l)) in
      omega (arith, s, n, high, f.body.most)

  spelled_there : IsUndecodable rest → ⊥
  spelled_there u =
      let w = u.body.whole in
      let n : u.size ≡ length piece = u.body.size_is ∙ size_there w.size.there in
      let s : u.start ≡ f.start = u.body.start_is ∙ start_there w in
      let front : take (length piece) rest ≡ piece = ap (take (length piece)) (piece_there w) ∙ take_at piece (drop (length piece) rest) (length piece) refl in
      u.none x (subst (λ (i : ℕ). SpellsSasl (drop i (take u.size rest)) x) (sym s)
      (subst (λ (i : ℕ). SpellsSasl (drop f.start (take i rest)) x) (sym n)
      (subst (λ (b : List ℕ). SpellsSasl (drop f.start b) x) (sym front) f.spelled)))

  -- it is not refused
  taken : (e : NegotiationError) → FrameCause e rest → ⊥
  taken (Memory a) c = c
  taken (ProtocolHeaderMismatch h) c = c
  taken NotImplemented (w, least, most, other) = other (type_there w)
  taken (SaslError code d) c = c
  taken (ScramError kind) c = c
  taken (Io kind) c = c
  taken DecodeError c = spelled_there c
  taken IllegalState c = c
  taken FramingError (inl size) = no_bad_size size
  taken FramingError (inr refused) = no_bad_offset refused.there refused.bad

-- nothing is no frame that is refused
none_there : (rest : List ℕ) → rest ≡ [] → 4 ≤ length rest → ⊥
none_there rest e l = let n = ap length e in omega (arith, n, l)

pub nothing_refused_of : (rest : List ℕ) (e : NegotiationError) → rest ≡ [] → FrameCause e rest → ⊥
nothing_refused_of rest (Memory a) none c = c
nothing_refused_of rest (ProtocolHeaderMismatch h) none c = c
nothing_refused_of rest NotImplemented none (w, least, most, other) = none_there rest none w.size.there
nothing_refused_of rest (SaslError code d) none c = c
nothing_refused_of rest (ScramError kind) none c = c
nothing_refused_of rest (Io kind) none c = c
nothing_refused_of rest DecodeError none u = none_there rest none u.body.whole.size.there
nothing_refused_of rest IllegalState none c = c
nothing_refused_of rest FramingError none (inl (l, bad)) = none_there rest none l
nothing_refused_of rest FramingError none (inr refused) = none_there rest none refused.size.there

-- ---- the frames

behind_all : (rest coming after : List ℕ) (others : List SaslBody) (e : NegotiationError) → All HasSaslFrame others → rest ++ coming ≡ flat_map sasl_frame others ++ after → FrameCause e rest → others ≡ []
behind_all rest coming after [] e a is c = refl
behind_all rest coming after (y ∷ ys) e a is c =
    absurd (taken (sasl_frame y) rest coming (flat_map sasl_frame ys ++ after) y (written y (All-head HasSaslFrame y ys a)) (is ∙ append_assoc (sasl_frame y) (flat_map sasl_frame ys) after) e c)

-- a frame is refused only behind all bodies
pub frames_taken : (read rest coming after : List ℕ) (given sent : List SaslBody) (e : NegotiationError) → IsRead read rest coming after given sent → FrameCause e rest
    → (given ≡ sent) × (rest ++ coming ≡ after)
frames_taken read rest coming after given sent e h c =
    let r = first_said read rest coming after given sent h in
    let others_framed = all_behind given r.others (subst (λ (u : List SaslBody). All HasSaslFrame u) r.sent_is h.frames) in
    let none = behind_all rest coming after r.others e others_framed r.left_is c in (
      sym (append-nil given) ∙ ap (λ (u : List SaslBody). given ++ u) (sym none) ∙ sym r.sent_is,
      r.left_is ∙ ap (λ (u : List SaslBody). flat_map sasl_frame u ++ after) none,
    )
