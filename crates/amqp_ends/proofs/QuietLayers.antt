-- Two ends with a SASL layer that have written all that they queued, where nothing is in flight.
use Rattle.std.proofs.Common.{◌≡◌, ◌≢◌, inl, inr, ℕ, List, [], ◌∷◌, ◌++◌, length, Bool, true, Some, refl, sym, ap, ◌∙◌, subst, arith, append_assoc, append-nil, length-append, All, flat_map}
use Rattle.std.proofs.lemmas.List.Elements.{All-head, All-tail}
use Rattle.amqp_sasl_bodies.specs.declared.sasl_body.SaslBody.{SaslBody}
use Rattle.amqp_wire.specs.declared.frame.Front.TheVariants.{Partial}
use Rattle.amqp_wire.specs.Frame.{IsFront}
use Rattle.amqp_engine.specs.Sentence.{bytes_of_all}
use Rattle.sasl_exchange.specs.declared.exchange.Turn.TheVariants.{Send, Receive, Pass}
use Rattle.sasl_gate.specs.Frames.{Carries, HasSaslFrame, Heard, said, sasl_frame, sasl_header}
use Rattle.sasl_gate.specs.Negotiation.{IsHeard}
use Rattle.amqp_opening.specs.declared.authentication.SaslCall.{SaslCall}
use Rattle.amqp_opening.specs.Authentication.{turn_by}
use Rattle.amqp_opening.specs.Opening.{amqp_header}
use Rattle.amqp_pairs.specs.Streams.{IsAfterSasl, IsPart, IsRead, IsSaid}
use Rattle.amqp_pairs.proofs.Streams.{all_behind, all_said, first_said, no_frame_after, written}
use Rattle.amqp_peer.specs.amqp_words.declared.call.Call.{Call}
use Rattle.amqp_peer.specs.Causes.{BeginsWithOpen, IsLayerWritten, has_layer, is_layer}
use Rattle.amqp_peer.specs.History.{Local, made_in, sent_in, read_in, wrote_in}
use Rattle.amqp_peer.specs.Layers.{layer_in, HasExchange}
use Rattle.amqp_peer.specs.Rest.{IsAllOut, RestsBehind}
use Rattle.amqp_ends.proofs.QuietEnds.{AreOpposed, both_pass, given_some, heard_all, opposed_ends}

-- ---- where an end stands

-- it waits for a body, or it has passed and the AMQP header follows its frames
pub data Place (c : SaslCall) (h : List Local) (k : HasExchange c h) : Type 0 where
  at_body : (rest : List ℕ) → turn_by k.x ≡ Receive → k.after ≡ [] → Heard (read_in h) k.given rest → IsPart rest → Place c h k
  behind_it : (rest more : List ℕ) → turn_by k.x ≡ Pass → k.after ≡ amqp_header ++ more → Heard (read_in h) k.given rest → Place c h k

-- what it read and did not take
abbrev pub rest_at : {c : SaslCall} {h : List Local} {k : HasExchange c h} → Place c h k → List ℕ
rest_at (at_body rest t a f p) = rest
rest_at (behind_it rest more t a f) = rest

-- an end that has written all that it queued
pub record Placed (c : SaslCall) (h : List Local) : Type 0 where
  pub exchange : HasExchange c h
  pub all : exchange.out ≡ []
  pub place : Place c h exchange

-- a rest that begins with no whole frame
pub part_of : (rest : List ℕ) → IsFront 1 512 rest Partial → IsPart rest
part_of rest (inl few) = inl few
part_of rest (inr cut) = inr cut.less

-- ---- the bytes

pub wrote_all : (c : SaslCall) (h : List Local) (k : HasExchange c h) → k.out ≡ [] → wrote_in h ≡ said k.sent ++ k.after
wrote_all c h k e = sym (append-nil (wrote_in h)) ∙ ap (λ (u : List ℕ). wrote_in h ++ u) (sym e) ∙ k.wrote

after_of : (c : SaslCall) (h : List Local) (k : HasExchange c h) → IsAfterSasl k.after
after_of c h k = elim k.behind [
  | inl e ↦ (amqp_header, inl (ap (λ (u : List ℕ). u ++ amqp_header) e))
  | inr e ↦ (bytes_of_all (sent_in h), inr e.1)
]

reading : (c far : SaslCall) (h g : List Local) (k : HasExchange c h) (m : HasExchange far g) (rest : List ℕ) → m.out ≡ [] → read_in h ≡ wrote_in g → Heard (read_in h) k.given rest
    → IsRead (read_in h) rest [] m.after k.given m.sent
reading c far h g k m rest all e f =
    record { frames = m.framed; after_is = after_of far g m; heard = f; stream = append-nil (read_in h) ∙ e ∙ wrote_all far g m all }

-- ---- what was given is what was sent

-- what one end reads of another that has written all
saying : (c : SaslCall) (h : List Local) (k : HasExchange c h) (read : List ℕ) → k.out ≡ [] → read ≡ wrote_in h → IsSaid read [] k.after k.sent
saying c h k read all e = record { frames = k.framed; after_is = after_of c h k; stream = append-nil read ∙ e ∙ wrote_all c h k all }

all_given : (c far : SaslCall) (h g : List Local) (k : HasExchange c h) (p : Place c h k) (m : HasExchange far g) → AreOpposed c far → k.out ≡ [] → m.out ≡ [] → read_in h ≡ wrote_in g → read_in g ≡ wrote_in h
    → (k.given ≡ m.sent) × (rest_at p ≡ m.after)
all_given c far h g k (at_body rest t a f p) m o own all e e' = all_said (read_in h) rest m.after k.given m.sent (reading c far h g k m rest all e f) p
all_given c far h g k (behind_it rest more t a f) m o own all e e' =
    let r = heard_all k.x m.x k.given k.sent m.given m.sent (read_in h) rest [] m.after (read_in g) [] k.after (opposed_ends c far k.x m.x o k.made m.made) k.held m.held
    (saying far g m (read_in h) all e) m.heard (saying c h k (read_in g) own e') f t in
    (r.0, sym (append-nil rest) ∙ r.1)

idle : (c : SaslCall) (h : List Local) (k : HasExchange c h) → Place c h k → turn_by k.x ≢ Send
idle c h k (at_body rest t a f p) e = absurd (cc (sym t ∙ e))
idle c h k (behind_it rest more t a f) e = absurd (cc (sym t ∙ e))

-- two such ends have both passed, and what the one did not take is what the other wrote behind its frames
pub record HavePassed (c far : SaslCall) (h g : List Local) (k : HasExchange c h) (p : Place c h k) (m : HasExchange far g) : Type 0 where
  pub passes : turn_by k.x ≡ Pass
  pub far_passes : turn_by m.x ≡ Pass
  pub rest_is : rest_at p ≡ m.after

pub have_passed : (c far : SaslCall) (h g : List Local) (k : HasExchange c h) (p : Place c h k) (n : Placed far g) → AreOpposed c far → AreOpposed far c
    → k.out ≡ [] → read_in h ≡ wrote_in g → read_in g ≡ wrote_in h → HavePassed c far h g k p n.exchange
have_passed c far h g k p n o q all reads far_reads =
    let m = n.exchange in
    let heard = all_given c far h g k p m o all n.all reads far_reads in
    let told = all_given far c g h m n.place k q n.all all far_reads reads in
    let both = both_pass k.x m.x k.given k.sent m.given m.sent (opposed_ends c far k.x m.x o k.made m.made) k.held m.held heard.0 told.0 (idle c h k p) (idle far g m n.place) in
    record { passes = both.0; far_passes = both.1; rest_is = heard.1 }

-- ---- an end behind the headers

-- the frames of bodies are read as these bodies
carries_said : (bodies : List SaslBody) (more : List ℕ) → All HasSaslFrame bodies → Carries (flat_map sasl_frame bodies ++ more) bodies more
carries_said [] more a = refl
carries_said (y ∷ ys) more a = (
  sasl_frame y,
  flat_map sasl_frame ys ++ more,
  append_assoc (sasl_frame y) (flat_map sasl_frame ys) more,
  written y (All-head HasSaslFrame y ys a),
  carries_said ys more (All-tail HasSaslFrame y ys a),
)

pub heard_said : (bodies : List SaslBody) (more : List ℕ) → All HasSaslFrame bodies → Heard (said bodies ++ more) bodies more
heard_said bodies more a = record { tail = flat_map sasl_frame bodies ++ more; header = append_assoc sasl_header (flat_map sasl_frame bodies) more; frames = carries_said bodies more a }

-- the AMQP header is no frame of the layer
pub none_behind : (others : List SaslBody) (more tail : List ℕ) → All HasSaslFrame others → amqp_header ++ more ≡ flat_map sasl_frame others ++ tail → others ≡ []
none_behind [] more tail a e = refl
none_behind (y ∷ ys) more tail a e =
    absurd (no_frame_after (sasl_frame y) (flat_map sasl_frame ys ++ tail) (amqp_header ++ more) y (written y (All-head HasSaslFrame y ys a)) (more, inr refl) (sym (append_assoc (sasl_frame y) (flat_map sasl_frame ys) tail) ∙ sym e))

no_length : (xs : List ℕ) → length xs ≡ 0 → xs ≡ []
no_length [] e = refl
no_length (x ∷ xs) e = absurd (omega (arith, e))

nothing_more : (xs ys : List ℕ) → xs ++ ys ≡ xs → ys ≡ []
nothing_more xs ys e = no_length ys (omega (arith, ap length e, length-append xs ys))

-- the same bytes behind two readings of the layer: nothing is still to go out
nothing_out : (bodies sent : List SaslBody) (bytes out : List ℕ) → All HasSaslFrame bodies → All HasSaslFrame sent → (said bodies ++ (amqp_header ++ bytes)) ++ out ≡ said sent ++ (amqp_header ++ bytes) → out ≡ []
nothing_out bodies sent bytes out a b e =
    let r : IsRead (said bodies ++ (amqp_header ++ bytes)) (amqp_header ++ bytes) out (amqp_header ++ bytes) bodies sent =
    record { frames = b; after_is = (bytes, inr refl); heard = heard_said bodies (amqp_header ++ bytes) a; stream = e } in
    let f = first_said (said bodies ++ (amqp_header ++ bytes)) (amqp_header ++ bytes) out (amqp_header ++ bytes) bodies sent r in
    let none = none_behind f.others (bytes ++ out) (amqp_header ++ bytes) (all_behind bodies f.others (subst (λ (u : List SaslBody). All HasSaslFrame u) f.sent_is b))
    (sym (append_assoc amqp_header bytes out) ∙ f.left_is) in
    nothing_more (amqp_header ++ bytes) out (f.left_is ∙ ap (λ (u : List SaslBody). flat_map sasl_frame u ++ (amqp_header ++ bytes)) none)

-- what such an end wrote
pub wrote_behind : (g : List Local) (r : IsAllOut g) → wrote_in g ≡ r.queued.head ++ (amqp_header ++ bytes_of_all (sent_in g))
wrote_behind g r =
    sym (append-nil (wrote_in g)) ∙ ap (λ (u : List ℕ). wrote_in g ++ u) (sym r.none) ∙ r.queued.wrote ∙ ap (λ (u : List ℕ). r.queued.head ++ u) r.behind

pub asked_layer : (calls : List (ℕ × Call)) → has_layer calls ≡ is_layer (layer_in calls)
asked_layer [] = refl
asked_layer (call ∷ []) = refl
asked_layer (call ∷ earlier ∷ calls) = asked_layer (earlier ∷ calls)

opens_not : (sent : List _) → BeginsWithOpen sent → sent ≡ [] → ⊥
opens_not sent o e = absurd (cc (sym o.is ∙ e))

-- it has passed
record IsBehind (c : SaslCall) (g : List Local) (k : HasExchange c g) : Type 0 where
  pub passes : turn_by k.x ≡ Pass
  pub after_is : k.after ≡ amqp_header ++ bytes_of_all (sent_in g)

is_behind : (c : SaslCall) (g : List Local) (k : HasExchange c g) → BeginsWithOpen (sent_in g) → IsBehind c g k
is_behind c g k o = elim k.behind [ inl e ↦ absurd (opens_not (sent_in g) o (k.unopened e)) | inr e ↦ record { passes = e.0; after_is = e.1 } ]

out_behind : (c : SaslCall) (g : List Local) (k : HasExchange c g) (r : IsAllOut g) → IsBehind c g k → IsLayerWritten true r.queued.head → k.out ≡ []
out_behind c g k r b (bodies, framed, head) =
    nothing_out bodies k.sent (bytes_of_all (sent_in g)) k.out framed k.framed
    (ap (λ (u : List ℕ). (u ++ (amqp_header ++ bytes_of_all (sent_in g))) ++ k.out) (sym head) ∙ ap (λ (u : List ℕ). u ++ k.out) (sym (wrote_behind g r)) ∙ k.wrote ∙ ap (λ (u : List ℕ). said k.sent ++ u) b.after_is)

place_behind : (c : SaslCall) (g : List Local) (k : HasExchange c g) → IsBehind c g k → IsHeard (read_in g) k.given → Place c g k
place_behind c g k b (inl e) = absurd (given_some k.x k.given k.sent b.passes k.held e)
place_behind c g k b (inr (rest, f)) = behind_it rest (bytes_of_all (sent_in g)) b.passes b.after_is f

pub placed_behind : (c : SaslCall) (g : List Local) → layer_in (made_in g) ≡ Some c → RestsBehind g → HasExchange c g → Placed c g
placed_behind c g e r k =
    let b = is_behind c g k r.opens in
    let layer = subst (λ (z : Bool). IsLayerWritten z r.out.queued.head) (asked_layer (made_in g) ∙ ap is_layer e) r.out.queued.layer in
    record { exchange = k; all = out_behind c g k r.out b layer; place = place_behind c g k b k.heard }
