use Rattle.std.proofs.Common.{◌≡◌, ◌+◌, ◌*◌, ◌≤◌, ◌⊎◌, inl, inr, ℕ, List, [], ◌∷◌, ◌++◌, length, take, drop, Option, Some, None, Result, Ok, Err, refl, sym, ap, ◌∙◌, subst, arith, append_assoc, take-append-drop}
use Rattle.std.proofs.Math.Path.{ap₂}
use Rattle.std.proofs.lemmas.Bool.{cases_lt}
use Rattle.std.proofs.lemmas.List.{append-nil, length-take-le, get_or-take}
use Rattle.amqp_wire.specs.declared.link.Link.{Ghosts}
use Rattle.amqp_wire.specs.declared.link.Stop.{Stop}
use Rattle.amqp_wire.specs.declared.link.Stop.TheVariants.{Empty, End, Failed}
use Rattle.amqp_wire.specs.declared.frame.Front.{Front}
use Rattle.amqp_wire.specs.declared.frame.Front.TheVariants.{Partial, Refused, Foreign, Whole}
use Rattle.amqp_transport.specs.declared.transport.Error.{Error}
use Rattle.amqp_transport.specs.declared.transport.Error.TheVariants.{Memory, Io, IdleTimeoutElapsed, DecodeError, NotImplemented, FramingError}
use Rattle.amqp_transport.specs.declared.transport.Next.{Next}
use Rattle.amqp_transport.specs.declared.transport.Next.TheVariants.{Frame, Pending, Ended}
use Rattle.amqp_wire.specs.Size.{size_of}
use Rattle.amqp_wire.specs.Frame.{HasBody, IsFront}
use Rattle.amqp_wire.specs.Events.{LinkEvent, NotRead}
use Rattle.amqp_wire.specs.declared.link.IoKind.TheVariants.{Fault, End as EndKind}
use Rattle.amqp_wire.specs.Codec.{Codec, limits_of}
use Rattle.amqp_transport.specs.Wire.{Wire, Waits, Ends, Fails, Answered, IsMemory, IsIdle, Polled, PolledAt, keeping}
use Rattle.amqp_transport.specs.Stream.{IsFrame, Joined, frames_of, Grew}
use Rattle.amqp_transport.specs.Causes.{IsCause, IsLast, Allows, clock_after, kept_after}
use Rattle.amqp_transport.proofs.Passing.{Passed, events_of, passed, fed_reads}
use Rattle.amqp_wire.proofs.Cuts.{size_of-take}

-- bytes that come later are part of the rest
pub joined_more : {X : Type 0} (kind : ℕ) (spells : ℕ → List ℕ → X → Type 0) (bytes : List ℕ) (xs : List X) (rest more : List ℕ) → Joined kind spells bytes xs rest → Joined kind spells (bytes ++ more) xs (rest ++ more)
joined_more kind spells bytes [] rest more j = ap (λ (u : List ℕ). u ++ more) j
joined_more kind spells bytes (x ∷ xs) rest more (piece, left, e, f, j) =
    (piece, left ++ more, ap (λ (u : List ℕ). u ++ more) e ∙ append_assoc piece left more, f, joined_more kind spells left xs rest more j)

-- a frame that is taken off the rest is one more
pub joined_push : {X : Type 0} (kind : ℕ) (spells : ℕ → List ℕ → X → Type 0) (bytes : List ℕ) (xs : List X) (piece rest : List ℕ) (x : X) → IsFrame kind spells piece x → Joined kind spells bytes xs (piece ++ rest) → Joined kind spells bytes (xs ++ x ∷ []) rest
joined_push kind spells bytes [] piece rest x f j = (piece, rest, j, f, refl)
joined_push kind spells bytes (y ∷ xs) piece rest x f (p, left, e, g, j) = (p, left, e, g, joined_push kind spells left xs piece rest x f j)

-- the first frame of the input
pub front_is_frame : {X : Type 0} (kind limit : ℕ) (spells : ℕ → List ℕ → X → Type 0) (all : List ℕ) (size start channel : ℕ) (x : X) → HasBody kind limit all size start channel → spells channel (drop start (take size all)) x → IsFrame kind spells (take size all) x
front_is_frame {X} kind limit spells all size start channel x h s =
    let n : size ≤ length all = omega (arith, h.size_is, h.whole.all) in
    let k : length (take size all) ≡ size = length-take-le size all n in
    let least : 8 ≤ size = omega (arith, h.size_is, h.whole.size.least) in
    let z : size_of (take size all) ≡ size = size_of-take size all (omega arith) n ∙ sym h.size_is in
    record {
      start = start;
      channel = channel;
      body = record {
        whole = record { size = record { there = omega arith; least = omega arith; most = omega arith }; all = omega arith };
        size_is = k ∙ sym z;
        start_is = h.start_is ∙ ap (λ i. 4 * i) (sym (get_or-take size all 4 0 (omega arith)));
        channel_is = h.channel_is ∙ ap₂ (λ i j. i * 256 + j) (sym (get_or-take size all 6 0 (omega arith))) (sym (get_or-take size all 7 0 (omega arith)));
        least = h.least;
        most = omega (arith, h.most);
        type = get_or-take size all 5 0 (omega arith) ∙ h.type;
      };
      spelled = s;
    }

pub record Still {L X : Type 0} (fed : Codec L) (result : Result (Next X) Error) (new : Codec L) : Type 0 where
  pub codec : new ≡ fed
  pub none : frames_of result ≡ []

pub record TookOne {L X : Type 0} (kind : ℕ) (spells : ℕ → List ℕ → X → Type 0) (fed : Codec L) (result : Result (Next X) Error) (new : Codec L) : Type 0 where
  pub size : ℕ
  pub x : X
  pub codec : new ≡ record fed { input = drop size fed.input }
  pub one : frames_of result ≡ x ∷ []
  pub frame : IsFrame kind spells (take size fed.input) x

pub fails_still : {L X : Type 0} (old : Wire L) (e : Error) (result : Result (Next X) Error) (new : Wire L) → Fails old e result new → Still old.codec result new.codec
fails_still {L} {X} old e result new f = record { codec = ap (λ (w : Wire L). w.codec) f.kept; none = ap (λ (r : Result (Next X) Error). frames_of r) f.error }

pub waits_still : {L X : Type 0} (at : ℕ) (old : Wire L) (otherwise : Result (Next X) Error) (after : Wire L) (result : Result (Next X) Error) (new : Wire L) → frames_of otherwise ≡ [] → after.codec ≡ old.codec → Waits at old otherwise after result new → Still old.codec result new.codec
waits_still {L} {X} at old otherwise after result new n e w =
    elim (cases_lt 0 old.clock.idle) [
      | inl pos ↦ elim (cases_lt at (old.clock.since + old.clock.idle)) [
        | inl less ↦ let p = w.other (λ i. absurd (omega (arith, i.passed, less))) in record { codec = ap (λ (v : Wire L). v.codec) p.1 ∙ e; none = ap (λ (r : Result (Next X) Error). frames_of r) p.0 ∙ n }
        | inr past ↦ fails_still old IdleTimeoutElapsed result new (w.idle (record { runs = pos; passed = past }))
      ]
      | inr none ↦ let p = w.other (λ i. absurd (omega (arith, i.runs, none))) in record { codec = ap (λ (v : Wire L). v.codec) p.1 ∙ e; none = ap (λ (r : Result (Next X) Error). frames_of r) p.0 ∙ n }
    ]

no_frames : {X : Type 0} (result : Result (Next X) Error) → IsMemory result → frames_of result ≡ []
no_frames (Ok x) h = absurd h
no_frames (Err e) h = refl

pub ends_still : {L X : Type 0} (input : List ℕ) (old : Wire L) (result : Result (Next X) Error) (new : Wire L) → old.codec.input ≡ input → Ends old result new → Still old.codec result new.codec
ends_still {L} {X} [] old result new e w = let p = w.whole e in record { codec = ap (λ (v : Wire L). v.codec) p.1; none = ap (λ (r : Result (Next X) Error). frames_of r) p.0 }
ends_still {L} {X} (b ∷ bs) old result new e w = fails_still old _ result new (w.cut (λ n. absurd (cc (e, n))))

pub answered : {L X : Type 0} (kind limit : ℕ) (spells : ℕ → List ℕ → X → Type 0) (front : Front) (stop : Option Stop) (at : ℕ) (old : Wire L) (result : Result (Next X) Error) (new : Wire L) → IsFront kind limit old.codec.input front → Answered spells front stop at old result new → Still old.codec result new.codec ⊎ TookOne kind spells old.codec result new.codec
answered kind limit spells Refused stop at old result new f p = inl (fails_still old _ result new p)
answered kind limit spells Foreign stop at old result new f p = inl (fails_still old _ result new p)
answered kind limit spells Partial None at old result new f p = absurd p
answered kind limit spells Partial (Some Empty) at old result new f p = inl (waits_still at old _ _ result new refl refl p)
answered kind limit spells Partial (Some Failed) at old result new f p = inl (waits_still at old _ _ result new refl refl p)
answered kind limit spells Partial (Some End) at old result new f p = inl (ends_still old.codec.input old result new refl p)
answered {L} kind limit spells (Whole size start channel) stop at old (Ok (Frame x)) new f p =
    inr (record { size = size; x = x; codec = ap (λ (v : Wire L). v.codec) p.1; one = refl; frame = front_is_frame kind limit spells old.codec.input size start channel x f p.0 })
answered kind limit spells (Whole size start channel) stop at old (Ok Pending) new f p = absurd p
answered kind limit spells (Whole size start channel) stop at old (Ok Ended) new f p = absurd p
answered {L} kind limit spells (Whole size start channel) stop at old (Err (Memory a)) new f p = inl (record { codec = ap (λ (v : Wire L). v.codec) p; none = refl })
answered {L} kind limit spells (Whole size start channel) stop at old (Err DecodeError) new f p = inl (record { codec = ap (λ (v : Wire L). v.codec) p.1; none = refl })
answered kind limit spells (Whole size start channel) stop at old (Err (Io k)) new f p = absurd p
answered kind limit spells (Whole size start channel) stop at old (Err IdleTimeoutElapsed) new f p = absurd p
answered kind limit spells (Whole size start channel) stop at old (Err NotImplemented) new f p = absurd p
answered kind limit spells (Whole size start channel) stop at old (Err FramingError) new f p = absurd p

kept_again : (X : Type 0) (e : Error) (kept : Option Error) → kept ≡ Some e → kept ≡ kept_after {X = X} (Err e) kept
kept_again X (Memory a) kept k = refl
kept_again X (Io i) kept k = k
kept_again X IdleTimeoutElapsed kept k = k
kept_again X DecodeError kept k = k
kept_again X NotImplemented kept k = k
kept_again X FramingError kept k = k

-- what a poll leaves beside the input, and why it answers so
pub record Told {L X : Type 0} (kind : ℕ) (spells : ℕ → List ℕ → X → Type 0) (limit at : ℕ) (events : List LinkEvent) (old : Wire L) (result : Result (Next X) Error) (new : Wire L) : Type 0 where
  pub clock : new.clock ≡ clock_after result at old.clock
  pub kept : new.kept ≡ kept_after result old.kept
  pub cause : IsCause kind spells limit old.codec.input old.clock at events result

told_is : {L X : Type 0} (kind : ℕ) (spells : ℕ → List ℕ → X → Type 0) (limit at : ℕ) (events : List LinkEvent) (old : Wire L) (result other : Result (Next X) Error) (new after : Wire L) → result ≡ other → new ≡ after → Told kind spells limit at events old other after → Told kind spells limit at events old result new
told_is {L} {X} kind spells limit at events old result other new after r n t =
    subst (λ (q : Result (Next X) Error). Told kind spells limit at events old q new) (sym r) (subst (λ (w : Wire L). Told kind spells limit at events old other w) (sym n) t)

told_fails : {L X : Type 0} (kind : ℕ) (spells : ℕ → List ℕ → X → Type 0) (limit at : ℕ) (events : List LinkEvent) (old : Wire L) (e : Error) (result : Result (Next X) Error) (new : Wire L) → Some e ≡ kept_after {X = X} (Err e) old.kept → IsCause kind spells limit old.codec.input old.clock at events (Err e) → Fails old e result new → Told kind spells limit at events old result new
told_fails {L} {X} kind spells limit at events old e result new k c f =
    told_is kind spells limit at events old result (Err e) new (keeping old e) f.error f.kept (record { clock = refl; kept = k; cause = c })

is_idle : {L : Type 0} (w : Wire L) (at : ℕ) → IsIdle w at ⊎ (IsIdle w at → ⊥)
is_idle w at =
    elim (cases_lt 0 w.clock.idle) [
      | inl pos ↦ elim (cases_lt at (w.clock.since + w.clock.idle)) [
        | inl less ↦ inr (λ i. absurd (omega (arith, i.passed, less)))
        | inr past ↦ inl (record { runs = pos; passed = past })
      ]
      | inr none ↦ inr (λ i. absurd (omega (arith, i.runs, none)))
    ]

told_waits : {L X : Type 0} (kind : ℕ) (spells : ℕ → List ℕ → X → Type 0) (limit at : ℕ) (events : List LinkEvent) (old : Wire L) (otherwise : Result (Next X) Error) (after : Wire L) (result : Result (Next X) Error) (new : Wire L) → Told kind spells limit at events old otherwise after → Waits at old otherwise after result new → Told kind spells limit at events old result new
told_waits kind spells limit at events old otherwise after result new t w =
    elim (is_idle old at) [
      | inl i ↦ told_fails kind spells limit at events old IdleTimeoutElapsed result new refl i (w.idle i)
      | inr n ↦ let p = w.other n in told_is kind spells limit at events old result otherwise new after p.0 p.1 t
    ]

told_ends : {L X : Type 0} (kind : ℕ) (spells : ℕ → List ℕ → X → Type 0) (limit at : ℕ) (events : List LinkEvent) (input : List ℕ) (old : Wire L) (result : Result (Next X) Error) (new : Wire L) → old.codec.input ≡ input → IsLast events (NotRead End) → Ends old result new → Told kind spells limit at events old result new
told_ends {L} {X} kind spells limit at events [] old result new e i w =
    let p = w.whole e in told_is kind spells limit at events old result (Ok Ended) new old p.0 p.1 (record { clock = refl; kept = refl; cause = (i, e) })
told_ends kind spells limit at events (b ∷ bs) old result new e i w = told_fails kind spells limit at events old (Io EndKind) result new refl i (w.cut (λ n. absurd (cc (e, n))))

pub told : {L X : Type 0} (kind : ℕ) (spells : ℕ → List ℕ → X → Type 0) (limit at : ℕ) (front : Front) (stop : Option Stop) (bytes : List ℕ) (old : Wire L) (result : Result (Next X) Error) (new : Wire L) → IsFront kind limit old.codec.input front → Answered spells front stop at old result new → Told kind spells limit at (events_of bytes stop) old result new
told kind spells limit at Refused stop bytes old result new f p = told_fails kind spells limit at (events_of bytes stop) old FramingError result new refl f p
told kind spells limit at Foreign stop bytes old result new f p = told_fails kind spells limit at (events_of bytes stop) old NotImplemented result new refl f p
told kind spells limit at Partial None bytes old result new f p = absurd p
told kind spells limit at Partial (Some Empty) bytes old result new f p = told_waits kind spells limit at _ old (Ok Pending) old result new (record { clock = refl; kept = refl; cause = refl }) p
told kind spells limit at Partial (Some Failed) bytes old result new f p = told_waits kind spells limit at _ old (Err (Io Fault)) (keeping old (Io Fault)) result new (record { clock = refl; kept = refl; cause = refl }) p
told kind spells limit at Partial (Some End) bytes old result new f p = told_ends kind spells limit at _ old.codec.input old result new refl refl p
told {L} kind spells limit at (Whole size start channel) stop bytes old (Ok (Frame x)) new f p =
    record { clock = ap (λ (w : Wire L). w.clock) p.1; kept = ap (λ (w : Wire L). w.kept) p.1; cause = tt }
told kind spells limit at (Whole size start channel) stop bytes old (Ok Pending) new f p = absurd p
told kind spells limit at (Whole size start channel) stop bytes old (Ok Ended) new f p = absurd p
told {L} kind spells limit at (Whole size start channel) stop bytes old (Err (Memory a)) new f p = record { clock = ap (λ (w : Wire L). w.clock) p; kept = ap (λ (w : Wire L). w.kept) p; cause = tt }
told {L} kind spells limit at (Whole size start channel) stop bytes old (Err DecodeError) new f p =
    record { clock = ap (λ (w : Wire L). w.clock) p.1; kept = ap (λ (w : Wire L). w.kept) p.1; cause = record { size = size; start = start; channel = channel; body = f; none = p.0 } }
told kind spells limit at (Whole size start channel) stop bytes old (Err (Io k)) new f p = absurd p
told kind spells limit at (Whole size start channel) stop bytes old (Err IdleTimeoutElapsed) new f p = absurd p
told kind spells limit at (Whole size start channel) stop bytes old (Err NotImplemented) new f p = absurd p
told kind spells limit at (Whole size start channel) stop bytes old (Err FramingError) new f p = absurd p

-- all that a poll leaves but the input
pub record Leaves {L X : Type 0} (kind : ℕ) (spells : ℕ → List ℕ → X → Type 0) (old : Wire L) (at : ℕ) (bytes : List ℕ) (events : List LinkEvent) (result : Result (Next X) Error) (new : Wire L) : Type 0 where
  pub output : new.codec.output ≡ old.codec.output
  pub limits : limits_of new.codec ≡ limits_of old.codec
  pub clock : new.clock ≡ clock_after result at old.clock
  pub kept : new.kept ≡ kept_after result old.kept
  pub cause : old.kept ≡ None → IsCause kind spells old.codec.decoder (old.codec.input ++ bytes) old.clock at events result

-- the frames go on so far
abbrev Grows : {L X : Type 0} → ℕ → (ℕ → List ℕ → X → Type 0) → Wire L → List ℕ → Result (Next X) Error → Wire L → Type 0
Grows {L} {X} kind spells old bytes result new = (read : List ℕ) (frames : List X) → Joined kind spells read frames old.codec.input → Joined kind spells (read ++ bytes) (frames ++ frames_of result) new.codec.input

grows_still : {L X : Type 0} (kind : ℕ) (spells : ℕ → List ℕ → X → Type 0) (old : Wire L) (result : Result (Next X) Error) (new : Wire L) (bytes : List ℕ) → new.codec.input ≡ old.codec.input ++ bytes → frames_of result ≡ [] → Grows kind spells old bytes result new
grows_still {L} {X} kind spells old result new bytes i n =
    λ read frames j.
    subst (λ (xs : List X). Joined kind spells (read ++ bytes) (frames ++ xs) new.codec.input) (sym n)
    (subst (λ (xs : List X). Joined kind spells (read ++ bytes) xs new.codec.input) (sym (append-nil frames))
    (subst (λ (u : List ℕ). Joined kind spells (read ++ bytes) frames u) (sym i) (joined_more kind spells read frames old.codec.input bytes j)))

grows_one : {L X : Type 0} (kind : ℕ) (spells : ℕ → List ℕ → X → Type 0) (old : Wire L) (result : Result (Next X) Error) (new : Wire L) (bytes piece : List ℕ) (x : X) → old.codec.input ++ bytes ≡ piece ++ new.codec.input → IsFrame kind spells piece x → frames_of result ≡ x ∷ [] → Grows kind spells old bytes result new
grows_one {L} {X} kind spells old result new bytes piece x i f n =
    λ read frames j.
    subst (λ (xs : List X). Joined kind spells (read ++ bytes) (frames ++ xs) new.codec.input) (sym n)
    (joined_push kind spells (read ++ bytes) frames piece new.codec.input x f
    (subst (λ (u : List ℕ). Joined kind spells (read ++ bytes) frames u) i (joined_more kind spells read frames old.codec.input bytes j)))

grew_so : {L X : Type 0} (link : Ghosts L) (kind : ℕ) (spells : ℕ → List ℕ → X → Type 0) (old : Wire L) (at : ℕ) (result : Result (Next X) Error) (new : Wire L) (bytes : List ℕ) (events : List LinkEvent) → Passed link old.codec.link bytes events new.codec.link → Allows old.kept result → Leaves kind spells old at bytes events result new → Grows kind spells old bytes result new → Grew link kind spells old at result new
grew_so {L} {X} link kind spells old at result new bytes events p a l g =
    record {
      events = events;
      went = p.went;
      silent = p.silent;
      few = p.few;
      output = l.output;
      limits = l.limits;
      clock = l.clock;
      kept = l.kept;
      again = a;
      cause = λ k. subst (λ (u : List ℕ). IsCause kind spells old.codec.decoder (old.codec.input ++ u) old.clock at events result) (sym p.read) (l.cause k);
      grows = λ read frames j. subst (λ (u : List ℕ). Joined kind spells (read ++ u) (frames ++ frames_of result) new.codec.input) (sym p.read) (g read frames j);
    }

allows_all : {X : Type 0} (kept : Option Error) (result : Result (Next X) Error) → kept ≡ None → Allows kept result
allows_all {X} kept result k = subst (λ (o : Option Error). Allows {X = X} o result) (sym k) tt

-- an error is answered again
grew_again : {L X : Type 0} (link : Ghosts L) (kind : ℕ) (spells : ℕ → List ℕ → X → Type 0) (old : Wire L) (at : ℕ) (e : Error) → old.kept ≡ Some e → Grew link kind spells old at (Err e) old
grew_again {L} {X} link kind spells old at e k =
    grew_so link kind spells old at (Err e) old [] []
    (record { went = refl; silent = refl; few = omega arith; read = refl }) (subst (λ (k : Option Error). Allows {X = X} k (Err e)) (sym k) refl)
    (record { output = refl; limits = refl; clock = refl; kept = kept_again X e old.kept k; cause = λ n. absurd (cc (k, n)) })
    (grows_still kind spells old (Err e) old [] (sym (append-nil old.codec.input)) refl)

memory_leaves : {L X : Type 0} (kind : ℕ) (spells : ℕ → List ℕ → X → Type 0) (old : Wire L) (at : ℕ) (bytes : List ℕ) (events : List LinkEvent) (result : Result (Next X) Error) (codec : Codec L) → IsMemory result → codec.output ≡ old.codec.output → limits_of codec ≡ limits_of old.codec → Leaves kind spells old at bytes events result (record old { codec = codec })
memory_leaves kind spells old at bytes events (Ok x) codec m o l = absurd m
memory_leaves kind spells old at bytes events (Err (Memory a)) codec m o l = record { output = o; limits = l; clock = refl; kept = refl; cause = λ k. tt }
memory_leaves kind spells old at bytes events (Err (Io k)) codec m o l = absurd m
memory_leaves kind spells old at bytes events (Err IdleTimeoutElapsed) codec m o l = absurd m
memory_leaves kind spells old at bytes events (Err DecodeError) codec m o l = absurd m
memory_leaves kind spells old at bytes events (Err NotImplemented) codec m o l = absurd m
memory_leaves kind spells old at bytes events (Err FramingError) codec m o l = absurd m

pub grew_at : {L X : Type 0} (link : Ghosts L) (kind : ℕ) (spells : ℕ → List ℕ → X → Type 0) (kept : Option Error) (old : Wire L) (at : ℕ) (result : Result (Next X) Error) (new : Wire L) → old.kept ≡ kept → PolledAt kept link kind spells old at result new → Grew link kind spells old at result new
grew_at {L} {X} link kind spells (Some e) old at result new k p =
    subst (λ (r : Result (Next X) Error). Grew link kind spells old at r new) (sym p.0) (subst (λ (w : Wire L). Grew link kind spells old at (Err e) w) (sym p.1) (grew_again link kind spells old at e k))
grew_at {L} {X} link kind spells None old at result new k (inr (m, w)) =
    let i : new.codec.input ≡ old.codec.input ++ w.bytes = ap (λ (c : Codec L). c.input) w.fed.rest in
    grew_so link kind spells old at result new w.bytes (events_of w.bytes None)
    (passed link old.codec.link new.codec.link w.bytes None (fed_reads link old.codec new.codec w.bytes w.fed)) (allows_all old.kept result k)
    (subst (λ (v : Wire L). Leaves kind spells old at w.bytes (events_of w.bytes None) result v) (sym w.rest)
    (memory_leaves kind spells old at w.bytes (events_of w.bytes None) result new.codec m (ap (λ (c : Codec L). c.output) w.fed.rest) (ap (λ (c : Codec L). limits_of c) w.fed.rest)))
    (grows_still kind spells old result new w.bytes i (no_frames result m))
grew_at {L} {X} link kind spells None old at result new k (inl a) =
    let t = told kind spells old.codec.decoder at a.front a.stop a.bytes (record old { codec = a.fed }) result new a.begins a.answer in
    let i : a.fed.input ≡ old.codec.input ++ a.bytes = ap (λ (c : Codec L). c.input) a.rest in
    let o : a.fed.output ≡ old.codec.output = ap (λ (c : Codec L). c.output) a.rest in
    let l : limits_of a.fed ≡ limits_of old.codec = ap (λ (c : Codec L). limits_of c) a.rest in
    let r = passed link old.codec.link a.fed.link a.bytes a.stop a.reads in
    let c : IsCause kind spells old.codec.decoder (old.codec.input ++ a.bytes) old.clock at (events_of a.bytes a.stop) result =
    subst (λ (u : List ℕ). IsCause kind spells old.codec.decoder u old.clock at (events_of a.bytes a.stop) result) i t.cause in
    elim (answered kind old.codec.decoder spells a.front a.stop at (record old { codec = a.fed }) result new a.begins a.answer) [
      | inl s ↦ grew_so link kind spells old at result new a.bytes (events_of a.bytes a.stop)
          (subst (λ (c : Codec L). Passed link old.codec.link a.bytes (events_of a.bytes a.stop) c.link) (sym s.codec) r) (allows_all old.kept result k)
          (record { output = ap (λ (c : Codec L). c.output) s.codec ∙ o; limits = ap (λ (c : Codec L). limits_of c) s.codec ∙ l; clock = t.clock; kept = t.kept; cause = λ n. c })
          (grows_still kind spells old result new a.bytes (ap (λ (c : Codec L). c.input) s.codec ∙ i) s.none)
      | inr f ↦ grew_so link kind spells old at result new a.bytes (events_of a.bytes a.stop)
          (subst (λ (c : Codec L). Passed link old.codec.link a.bytes (events_of a.bytes a.stop) c.link) (sym f.codec) r) (allows_all old.kept result k)
          (record { output = ap (λ (c : Codec L). c.output) f.codec ∙ o; limits = ap (λ (c : Codec L). limits_of c) f.codec ∙ l; clock = t.clock; kept = t.kept; cause = λ n. c })
          (grows_one kind spells old result new a.bytes (take f.size a.fed.input) f.x
          (sym i ∙ sym (take-append-drop f.size a.fed.input) ∙ ap (λ (u : List ℕ). take f.size a.fed.input ++ u) (sym (ap (λ (c : Codec L). c.input) f.codec))) f.frame f.one)
    ]

pub grew : {L X : Type 0} (link : Ghosts L) (kind : ℕ) (spells : ℕ → List ℕ → X → Type 0) (old : Wire L) (at : ℕ) (result : Result (Next X) Error) (new : Wire L) → Polled link kind spells old at result new → Grew link kind spells old at result new
grew link kind spells old at result new p = grew_at link kind spells old.kept old at result new refl p
