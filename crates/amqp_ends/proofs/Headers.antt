-- An end whose transport failed behind the headers has written its own, and one that waits before it has not read that of the other.
use Rattle.std.proofs.Common.{◌≡◌, ◌<◌, ◌≤◌, inl, inr, ℕ, List, [], ◌∷◌, ◌++◌, length, Bool, true, false, Option, Some, None, refl, sym, ap, ◌∙◌, subst, arith, append_assoc, append-nil, length-append, flat_map}
use Rattle.amqp_sasl_bodies.specs.declared.sasl_body.SaslBody.{SaslBody}
use Rattle.amqp_transport.specs.declared.transport.Error.{Error as TransportFault}
use Rattle.amqp_transport.specs.declared.transport.Error.TheVariants as fault
use Rattle.amqp_wire.specs.declared.frame.Front.TheVariants.{Partial}
use Rattle.amqp_wire.specs.Events.{wrote_of}
use Rattle.amqp_wire.specs.Frame.{IsFront}
use Rattle.amqp_wire.specs.Size.{size_of}
use Rattle.amqp_wire.proofs.Events.{wrote_of-append}
use Rattle.sasl_gate.specs.Frames.{Heard, sasl_frame}
use Rattle.amqp_opening.specs.declared.authentication.SaslCall.{SaslCall}
use Rattle.amqp_opening.specs.Opening.{amqp_header}
use Rattle.amqp_pairs.specs.Streams.{IsRead}
use Rattle.amqp_pairs.proofs.Streams.{all_said, first_said}
use Rattle.amqp_peer.specs.amqp_words.declared.call.Call.{Call}
use Rattle.amqp_peer.specs.Causes.{EndsExchange, HasHeader, IsBroken, IsBrokenBy, IsLayerWritten, TransportCause, has_layer}
use Rattle.amqp_peer.specs.History.{Local, Made, Polled, AtLink, Exchanged, Got, Put, Replied, Once, made_in, link_in, read_in, wrote_in}
use Rattle.amqp_peer.specs.Layers.{layer_in, HasExchange, IsAwaiting, for_layer, for_body, for_header, IsResting}
use Rattle.amqp_peer.proofs.Histories.{link_in-append, made_in-append, once_more}
use Rattle.amqp_ends.specs.Honest.{IsHonestFault}
use Rattle.amqp_ends.specs.Joined.{Meets}
use Rattle.amqp_ends.proofs.Conversations.{headers_differ}
use Rattle.amqp_ends.proofs.Honesty.{once_fault}
use Rattle.amqp_ends.proofs.QuietLayers.{part_of}
use Rattle.amqp_ends.proofs.Sizes.{never_refused}

-- ---- it stays written

asked_later : (calls more : List (ℕ × Call)) → 1 ≤ length calls → has_layer (more ++ calls) ≡ has_layer calls
asked_later calls [] l = refl
asked_later [] (m ∷ more) l = absurd (omega (arith, l))
asked_later (c ∷ calls) (m ∷ []) l = refl
asked_later (c ∷ calls) (m ∷ n ∷ more) l = asked_later (c ∷ calls) (n ∷ more) l

header_later : (later g : List Local) → 1 ≤ length (made_in g) → HasHeader g → HasHeader (later ++ g)
header_later later g l t = record {
  head = t.head;
  behind = t.behind ++ wrote_in later;
  layer = subst (λ (b : Bool). IsLayerWritten b t.head) (sym (ap has_layer (made_in-append later g) ∙ asked_later (made_in g) (made_in later) l)) t.layer;
  wrote = ap wrote_of (link_in-append later g) ∙ wrote_of-append (link_in later) (link_in g) ∙ ap (λ (u : List ℕ). u ++ wrote_in later) t.wrote ∙ append_assoc t.head (amqp_header ++ t.behind) (wrote_in later)
      ∙ ap (λ (u : List ℕ). t.head ++ u) (append_assoc amqp_header t.behind (wrote_in later));
}

-- ---- behind the exchange of headers

exchanged_header : (g : List Local) → EndsExchange g → (1 ≤ length (made_in g)) × HasHeader g
exchanged_header [] e = absurd e
exchanged_header (Made at name call ∷ g) e = absurd e
exchanged_header (Polled at ∷ g) e = absurd e
exchanged_header (AtLink x ∷ g) e = absurd e
exchanged_header (Exchanged ∷ g) e = (e.called, header_later (Exchanged ∷ []) g e.called e.own)
exchanged_header (Got x ∷ g) e = absurd e
exchanged_header (Put x ∷ g) e = absurd e
exchanged_header (Replied r ∷ g) e = absurd e

once_header : (h : List Local) → Once EndsExchange h → HasHeader h
once_header h o =
    let e = exchanged_header o.earlier o.held in
    subst HasHeader (sym o.split) (header_later o.later o.earlier e.0 e.1)

-- between two ends a transport fails behind it alone
fault_began : (h far later g : List Local) → Meets h far → Meets far h → h ≡ later ++ g → (e : TransportFault) → IsHonestFault e → TransportCause e g → Once EndsExchange g
fault_began h far later g m n split (fault.Memory a) k c = absurd k
fault_began h far later g m n split (fault.Io kind) k c = absurd k
fault_began h far later g m n split fault.IdleTimeoutElapsed k c = c.began
fault_began h far later g m n split fault.DecodeError k c = absurd k
fault_began h far later g m n split fault.NotImplemented k c = absurd k
fault_began h far later g m n split fault.FramingError k (inl refused) = absurd (never_refused h far m n (record { later = later; earlier = g; split = split; held = refused }))
fault_began h far later g m n split fault.FramingError k (inr large) = large.began

pub fault_header : (h far later g : List Local) → Meets h far → Meets far h → h ≡ later ++ g → (e : TransportFault) → IsHonestFault e → IsBrokenBy e g → HasHeader h
fault_header h far later g m n split e k b =
    let whole : h ≡ (later ++ b.later) ++ b.earlier = split ∙ ap (λ (u : List Local). later ++ u) b.split ∙ sym (append_assoc later b.later b.earlier) in
    once_header h (subst (Once EndsExchange) (sym whole) (once_more EndsExchange (later ++ b.later) b.earlier (fault_began h far (later ++ b.later) b.earlier m n whole e k b.cause)))

pub broken_header : (h far : List Local) → Meets h far → Meets far h → IsBroken h → HasHeader h
broken_header h far m n b = fault_header h far [] h m n refl b.fault (once_fault [] h far m b.fault b.how) b.how

-- ---- an end that has read it does not wait for it

long_header : (far : List Local) → HasHeader far → 8 ≤ length (wrote_in far)
long_header far t = omega (arith, ap length t.wrote, length-append t.head (amqp_header ++ t.behind), length-append amqp_header t.behind)

few_not : (h far : List Local) → read_in h ≡ wrote_in far → length (read_in h) < 8 → HasHeader far → ⊥
few_not h far e few t = omega (arith, ap length e, few, long_header far t)

-- its size would be far above the limit of a SASL frame
header_size : (rest : List ℕ) → 512 < size_of (amqp_header ++ rest)
header_size rest = omega arith

no_part : (rest behind : List ℕ) → rest ≡ amqp_header ++ behind → IsFront 1 512 rest Partial → ⊥
no_part rest behind e (inl few) = omega (arith, few, ap length e, length-append amqp_header behind)
no_part rest behind e (inr cut) = omega (arith, cut.size.most, ap size_of e, header_size behind)

module _ (h far : List Local) (reads : read_in h ≡ wrote_in far) (t : HasHeader far) where
  -- the other has no SASL layer
  plain_not : (given : List SaslBody) (rest : List ℕ) → Heard (read_in h) given rest → t.head ≡ [] → ⊥
  plain_not given rest f none =
      headers_differ f.tail t.behind (sym f.header ∙ reads ∙ t.wrote ∙ ap (λ (u : List ℕ). u ++ (amqp_header ++ t.behind)) none)

  -- the other has one
  reading : (given : List SaslBody) (rest : List ℕ) → Heard (read_in h) given rest → (l : IsLayerWritten true t.head) → IsRead (read_in h) rest [] (amqp_header ++ t.behind) given l.0
  reading given rest f (bodies, framed, head) =
      record { frames = framed; after_is = (t.behind, inr refl); heard = f; stream = append-nil (read_in h) ∙ reads ∙ t.wrote ∙ ap (λ (u : List ℕ). u ++ (amqp_header ++ t.behind)) head }

  body_not : (given : List SaslBody) (rest : List ℕ) → Heard (read_in h) given rest → IsFront 1 512 rest Partial → IsLayerWritten true t.head → ⊥
  body_not given rest f front l =
      no_part rest t.behind (all_said (read_in h) rest (amqp_header ++ t.behind) given l.0 (reading given rest f l) (part_of rest front)).1 front

  header_not : (given : List SaslBody) (rest : List ℕ) → Heard (read_in h) given rest → length rest < 8 → IsLayerWritten true t.head → ⊥
  header_not given rest f few l =
      let r = first_said (read_in h) rest [] (amqp_header ++ t.behind) given l.0 (reading given rest f l) in
      omega (arith, few, ap length r.left_is, length-append rest [], length-append (flat_map sasl_frame r.others) (amqp_header ++ t.behind), length-append amqp_header t.behind)

  layered_not : (b : Bool) (c : SaslCall) (k : HasExchange c h) → IsLayerWritten b t.head → IsAwaiting c h k → ⊥
  layered_not b c k l (for_layer u v a few) = few_not h far reads few t
  layered_not false c k l (for_body rest u a f front) = plain_not k.given rest f l
  layered_not false c k l (for_header rest u a f few) = plain_not k.given rest f l
  layered_not true c k l (for_body rest u a f front) = body_not k.given rest f front l
  layered_not true c k l (for_header rest u a f few) = header_not k.given rest f few l

  waits_not : (c : Option SaslCall) → IsResting c h → ⊥
  waits_not None r = few_not h far reads r.few t
  waits_not (Some c) r = layered_not (has_layer (made_in far)) c r.exchange t.layer r.awaits

pub header_unread : (h far : List Local) → read_in h ≡ wrote_in far → IsResting (layer_in (made_in h)) h → HasHeader far → ⊥
header_unread h far reads r t = waits_not h far reads t (layer_in (made_in h)) r
