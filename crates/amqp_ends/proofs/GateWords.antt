-- What an end with a SASL layer reads of one without, and of one with such a layer.
use Rattle.std.proofs.Common.{◌≡◌, ◌⊎◌, ◌≤◌, inl, inr, ℕ, List, [], ◌∷◌, ◌++◌, length, take, Bool, true, false, None, refl, sym, ap, ◌∙◌, arith, append_assoc, append-nil, length-append, All}
use Rattle.std.proofs.lemmas.List.{take-append-le}
use Rattle.amqp_sasl_bodies.specs.declared.sasl_body.SaslBody.{SaslBody}
use Rattle.amqp_engine.specs.Sentence.{bytes_of_all}
use Rattle.amqp_transport.specs.declared.frames.Frame.{Frame}
use Rattle.amqp_wire.specs.declared.link.IoKind.TheVariants.{Fault, End}
use Rattle.amqp_wire.specs.Events.{LinkEvent, HasFailed}
use Rattle.sasl_exchange.specs.declared.error.NegotiationError.{NegotiationError}
use Rattle.sasl_exchange.specs.declared.error.NegotiationError.TheVariants.{Memory, ProtocolHeaderMismatch, NotImplemented, SaslError, ScramError, Io, DecodeError, IllegalState, FramingError}
use Rattle.sasl_gate.specs.Frames.{HasSaslFrame, Heard, said, sasl_header}
use Rattle.sasl_gate.specs.Negotiation.{LinkCause}
use Rattle.amqp_opening.specs.Opening.{amqp_header}
use Rattle.amqp_pairs.specs.Streams.{IsAfterSasl, IsSaid}
use Rattle.amqp_peer.specs.amqp_words.declared.call.Call.{Call}
use Rattle.amqp_peer.specs.Causes.{has_layer, is_layer, IsLayerWritten, IsTail, IsTied}
use Rattle.amqp_peer.specs.History.{Local, made_in, read_in, wrote_in}
use Rattle.amqp_peer.specs.Layers.{layer_in}
use Rattle.amqp_ends.specs.Joined.{IsCalm}

-- ---- the link

unfailed : (events : List LinkEvent) → IsCalm events → HasFailed events → ⊥
unfailed events c f = elim f [ inl r ↦ c.unfailed_reads r | inr w ↦ c.unfailed_writes w ]

-- a calm link is no cause
pub link_blameless : (e : NegotiationError) (events : List LinkEvent) → IsCalm events → LinkCause e events → ⊥
link_blameless (Memory a) events c l = l
link_blameless (ProtocolHeaderMismatch h) events c l = l
link_blameless NotImplemented events c l = l
link_blameless (SaslError code d) events c l = l
link_blameless (ScramError kind) events c l = l
link_blameless (Io Fault) events c l = unfailed events c l
link_blameless (Io End) events c l = c.unended l
link_blameless DecodeError events c l = l
link_blameless IllegalState events c l = l
link_blameless FramingError events c l = l

-- ---- the first bytes

-- what was read, with the bytes to come, is the AMQP header and more, or nothing
pub record IsPlainRead (read : List ℕ) : Type 0 where
  pub coming : List ℕ
  pub more : List ℕ
  pub is : (read ++ coming ≡ []) ⊎ (read ++ coming ≡ amqp_header ++ more)

pub none_read : (read coming : List ℕ) → 8 ≤ length read → read ++ coming ≡ [] → ⊥
none_read read coming l e = omega (arith, l, ap length e, length-append read coming)

-- its first eight bytes are that header
pub plain_front : (read : List ℕ) → IsPlainRead read → 8 ≤ length read → take 8 read ≡ amqp_header
plain_front read p l = elim p.is as (λ _. take 8 read ≡ amqp_header) [
  | inl e ↦ absurd (none_read read p.coming l e)
  | inr e ↦ sym (take-append-le 8 read p.coming l) ∙ ap (take 8) e
]

-- the SASL header was not read
headers_apart : (xs ys : List ℕ) → sasl_header ++ xs ≡ amqp_header ++ ys → ⊥
headers_apart xs ys e = absurd (cc e)

header_there : (xs : List ℕ) → sasl_header ++ xs ≡ [] → ⊥
header_there xs e = absurd (cc e)

pub plain_deaf : (read rest : List ℕ) (given : List SaslBody) → IsPlainRead read → Heard read given rest → ⊥
plain_deaf read rest given p h =
    let is : read ++ p.coming ≡ sasl_header ++ (h.tail ++ p.coming) = ap (λ (u : List ℕ). u ++ p.coming) h.header ∙ append_assoc sasl_header h.tail p.coming in
    elim p.is as (λ _. ⊥) [ inl e ↦ header_there (h.tail ++ p.coming) (sym is ∙ e) | inr e ↦ headers_apart (h.tail ++ p.coming) p.more (sym is ∙ e) ]

-- nothing was read
pub nothing_read : (read left : List ℕ) → read ++ left ≡ [] → IsPlainRead read
nothing_read read left e = record { coming = left; more = []; is = inl e }

-- ---- an end without a SASL layer

pub layer_is : (calls : List (ℕ × Call)) → has_layer calls ≡ is_layer (layer_in calls)
layer_is [] = refl
layer_is (call ∷ []) = refl
layer_is (call ∷ earlier ∷ calls) = layer_is (earlier ∷ calls)

plain_tail : (sent : List Frame) (tail : List ℕ) → IsTail sent tail → (tail ≡ []) ⊎ ((more : List ℕ) × (tail ≡ amqp_header ++ more))
plain_tail sent tail (inl (s, inl e)) = inl e
plain_tail sent tail (inl (s, inr e)) = inr ([], e ∙ sym (append-nil amqp_header))
plain_tail sent tail (inr e) = inr (bytes_of_all sent, e)

headless : (layer : Bool) (head : List ℕ) → layer ≡ false → IsLayerWritten layer head → head ≡ []
headless true head e w = absurd (cc e)
headless false head e w = w

-- the other end has none
pub plain_read : (g far : List Local) (left : List ℕ) → IsTied far → read_in g ++ left ≡ wrote_in far → layer_in (made_in far) ≡ None → IsPlainRead (read_in g)
plain_read g far left t e none =
    let q = t.said in
    let head : q.head ≡ [] = headless (has_layer (made_in far)) q.head (layer_is (made_in far) ∙ ap is_layer none) q.layer in
    let stream : read_in g ++ (left ++ q.out) ≡ q.tail =
    sym (append_assoc (read_in g) left q.out) ∙ ap (λ (u : List ℕ). u ++ q.out) e ∙ q.wrote ∙ ap (λ (u : List ℕ). u ++ q.tail) head in
    elim (plain_tail _ q.tail q.talk) as (λ _. IsPlainRead (read_in g)) [
      | inl n ↦ record { coming = left ++ q.out; more = []; is = inl (stream ∙ n) }
      | inr (more, m) ↦ record { coming = left ++ q.out; more = more; is = inr (stream ∙ m) }
    ]

-- ---- an end with one

-- what is behind the layer of the other end
abbrev pub IsBehind : Type 0 → List ℕ → List ℕ → Type 0
IsBehind Passes after more = (after ≡ []) ⊎ (Passes × (after ≡ amqp_header ++ more))

pub behind_is : (Passes : Type 0) (after more : List ℕ) → IsBehind Passes after more → IsAfterSasl after
behind_is Passes after more (inl e) = (amqp_header, inl (ap (λ (u : List ℕ). u ++ amqp_header) e))
behind_is Passes after more (inr (p, e)) = (more, inr e)

-- behind an exchange that has ended no frame follows
pub ended_behind : (Passes : Type 0) (after : List ℕ) → (after ≡ []) ⊎ (Passes × (after ≡ amqp_header)) → IsBehind Passes after []
ended_behind Passes after (inl e) = inl e
ended_behind Passes after (inr (p, e)) = inr (p, e ∙ sym (append-nil amqp_header))

-- what one end reads of another
pub said_to : (read wrote left out after : List ℕ) (sent : List SaslBody) → All HasSaslFrame sent → IsAfterSasl after → wrote ++ out ≡ said sent ++ after → read ++ left ≡ wrote
    → IsSaid read (left ++ out) after sent
said_to read wrote left out after sent f a w e =
    record { frames = f; after_is = a; stream = sym (append_assoc read left out) ∙ ap (λ (u : List ℕ). u ++ out) e ∙ w }

-- where all bodies were taken, the next eight bytes are the AMQP header
pub rest_front : (Passes : Type 0) (rest coming after more : List ℕ) → IsBehind Passes after more → rest ++ coming ≡ after → 8 ≤ length rest → take 8 rest ≡ amqp_header
rest_front Passes rest coming after more (inl n) e l = absurd (none_read rest coming l (e ∙ n))
rest_front Passes rest coming after more (inr (p, m)) e l = sym (take-append-le 8 rest coming l) ∙ ap (take 8) (e ∙ m)
