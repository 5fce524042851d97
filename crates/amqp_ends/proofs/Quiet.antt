-- Two ends between which nothing is in flight do not both wait.
use Rattle.std.proofs.Common.{◌≡◌, ◌<◌, ◌≤◌, ◌⊎◌, inl, inr, ℕ, List, [], ◌∷◌, ◌++◌, length, Bool, Option, Some, None, refl, sym, ap, ◌∙◌, subst, arith, append_assoc, append-nil, length-append, flat_map}
use Rattle.std.specs.Prelude.{⊤}
use Rattle.amqp_engine.specs.Sentence.{bytes_of_all}
use Rattle.sasl_gate.specs.Frames.{said, sasl_frame, sasl_header}
use Rattle.amqp_opening.specs.declared.authentication.SaslCall.{SaslCall}
use Rattle.amqp_opening.specs.declared.authentication.SaslCall.TheVariants as layer
use Rattle.amqp_opening.specs.Opening.{amqp_header}
use Rattle.amqp_peer.specs.amqp_words.declared.call.Call.{Call}
use Rattle.amqp_peer.specs.amqp_words.declared.call.Call.TheVariants.{Open, Accept, Close}
use Rattle.amqp_peer.specs.declared.peer.PeerKind.{PeerKind}
use Rattle.amqp_peer.specs.declared.peer.PeerKind.TheVariants.{Client, Listener}
use Rattle.amqp_peer.specs.Causes.{IsLayerRead, is_layer}
use Rattle.amqp_peer.specs.History.{Local, made_in, sent_in, read_in, wrote_in}
use Rattle.amqp_peer.specs.Layers.{layer_in, HasExchange, HasLayer, IsAwaiting, for_layer, for_body, for_header, IsRestingWith, IsResting}
use Rattle.amqp_peer.specs.Prepared.{sasl_of}
use Rattle.amqp_peer.specs.Rest.{OpenWaits, CloseWaits, RestsBehind}
use Rattle.amqp_ends.specs.Quiet.{Begins, BeginsIn, AreOpposite, IsQuiet}
use Rattle.amqp_ends.proofs.Conversations.{headers_differ}
use Rattle.amqp_ends.proofs.QuietEnds.{AreOpposed}
use Rattle.amqp_ends.proofs.QuietFrames.{open_waits_not, close_waits_not}
use Rattle.amqp_ends.proofs.QuietLayers.{at_body, behind_it, Placed, have_passed, wrote_all, wrote_behind, asked_layer, placed_behind, part_of}

-- ---- a client and a listener

-- a layer that an end of this kind may ask for
abbrev IsLayerOf : PeerKind → Option SaslCall → Type 0
IsLayerOf kind None = ⊤
IsLayerOf Client (Some (layer.Client profile host)) = ⊤
IsLayerOf Client (Some (layer.Listener acceptor)) = ⊥
IsLayerOf Listener (Some (layer.Client profile host)) = ⊥
IsLayerOf Listener (Some (layer.Listener acceptor)) = ⊤

call_layer : (kind : PeerKind) (call : Call) → Begins kind call → IsLayerOf kind (sasl_of call)
call_layer Client (Open settings host None) b = tt
call_layer Client (Open settings host (Some profile)) b = tt
call_layer Client (Accept settings sasl) b = absurd b
call_layer Client (Close error) b = absurd b
call_layer Listener (Open settings host sasl) b = absurd b
call_layer Listener (Accept settings None) b = tt
call_layer Listener (Accept settings (Some acceptor)) b = tt
call_layer Listener (Close error) b = absurd b

layer_of : (kind : PeerKind) (calls : List (ℕ × Call)) → BeginsIn kind calls → IsLayerOf kind (layer_in calls)
layer_of kind [] b = tt
layer_of kind (call ∷ []) b = call_layer kind call.1 b
layer_of kind (call ∷ earlier ∷ calls) b = layer_of kind (earlier ∷ calls) b

opposed_as : (c far : SaslCall) → (IsLayerOf Client (Some c) × IsLayerOf Listener (Some far)) ⊎ (IsLayerOf Listener (Some c) × IsLayerOf Client (Some far)) → AreOpposed c far × AreOpposed far c
opposed_as (layer.Client p host) (layer.Client q other) (inl o) = absurd o.1
opposed_as (layer.Client p host) (layer.Client q other) (inr o) = absurd o.0
opposed_as (layer.Client p host) (layer.Listener q) o = (tt, tt)
opposed_as (layer.Listener p) (layer.Client q host) o = (tt, tt)
opposed_as (layer.Listener p) (layer.Listener q) (inl o) = absurd o.0
opposed_as (layer.Listener p) (layer.Listener q) (inr o) = absurd o.1

pub opposed : (calls others : List (ℕ × Call)) (c far : SaslCall) → AreOpposite calls others → layer_in calls ≡ Some c → layer_in others ≡ Some far → AreOpposed c far × AreOpposed far c
opposed calls others c far o e f =
    let at : (kind : PeerKind) → BeginsIn kind calls → IsLayerOf kind (Some c) = λ kind b. subst (λ (z : Option SaslCall). IsLayerOf kind z) e (layer_of kind calls b) in
    let there : (kind : PeerKind) → BeginsIn kind others → IsLayerOf kind (Some far) = λ kind b. subst (λ (z : Option SaslCall). IsLayerOf kind z) f (layer_of kind others b) in
    opposed_as c far (elim o [ inl x ↦ inl (at Client x.0, there Listener x.1) | inr x ↦ inr (at Listener x.0, there Client x.1) ])

-- ---- an end that waits has written a header

pub said_enough : (bodies : List _) (after : List ℕ) → 8 ≤ length (said bodies ++ after)
said_enough bodies after = omega (arith, length-append (said bodies) after, length-append sasl_header (flat_map sasl_frame bodies))

wrote_enough : (c : Option SaslCall) (h : List Local) → IsResting c h ⊎ RestsBehind h → 8 ≤ length (wrote_in h)
wrote_enough None h (inl r) = omega (arith, ap length r.wrote)
wrote_enough (Some c) h (inl r) = subst (λ (u : List ℕ). 8 ≤ length u) (sym (wrote_all c h r.exchange r.all)) (said_enough r.exchange.sent r.exchange.after)
wrote_enough c h (inr r) =
    omega (arith, ap length (wrote_behind h r.out), length-append r.out.queued.head (amqp_header ++ bytes_of_all (sent_in h)), length-append amqp_header (bytes_of_all (sent_in h)))

few_not : (h g : List Local) → read_in h ≡ wrote_in g → length (read_in h) < 8 → 8 ≤ length (wrote_in g) → ⊥
few_not h g e few enough = omega (arith, ap length e, few, enough)

-- ---- with a SASL layer at this end

-- the other end went on without a layer: it read the AMQP header first
plain_not : (c : SaslCall) (h g : List Local) (k : HasExchange c h) → k.out ≡ [] → read_in g ≡ wrote_in h → RestsBehind g → layer_in (made_in g) ≡ None → ⊥
plain_not c h g k all e r n =
    let none : r.read.head ≡ [] = subst (λ (z : Bool). IsLayerRead z r.read.head) (asked_layer (made_in g) ∙ ap is_layer n) r.read.layer in
    headers_differ (flat_map sasl_frame k.sent ++ k.after) r.read.behind
    (sym (append_assoc sasl_header (flat_map sasl_frame k.sent) k.after) ∙ sym (wrote_all c h k all) ∙ sym e ∙ r.read.read ∙ ap (λ (u : List ℕ). u ++ (amqp_header ++ r.read.behind)) none)

-- the other has a layer too, and has written all
placed_not : (c far : SaslCall) (h g : List Local) (k : HasExchange c h) → k.out ≡ [] → IsAwaiting c h k → Placed far g → AreOpposed c far × AreOpposed far c
    → read_in h ≡ wrote_in g → read_in g ≡ wrote_in h → 8 ≤ length (wrote_in g) → ⊥
placed_not c far h g k all (for_layer u v a few) n o e f enough = few_not h g e few enough
placed_not c far h g k all (for_body rest t a heard front) n o e f enough =
    let m = have_passed c far h g k (at_body rest t a heard (part_of rest front)) n o.0 o.1 all e f in
    absurd (cc (sym t ∙ m.passes))
placed_not c far h g k all (for_header rest t a heard few) n o e f enough =
    let m = have_passed c far h g k (behind_it rest [] t (a ∙ sym (append-nil _)) heard) n o.0 o.1 all e f in
    elim n.place [
      | at_body other s b told part ↦ absurd (cc (sym s ∙ m.far_passes))
      | behind_it other more s b told ↦ omega (arith, few, ap length (m.rest_is ∙ b), length-append amqp_header more)
    ]

-- where the other waits in the exchange of headers
placed_resting : (c : SaslCall) (g : List Local) (r : IsRestingWith c g) → IsAwaiting c g r.exchange → (length (read_in g) < 8) ⊎ Placed c g
placed_resting c g r (for_layer u v a few) = inl few
placed_resting c g r (for_body rest t a heard front) = inr (record { exchange = r.exchange; all = r.all; place = at_body rest t a heard (part_of rest front) })
placed_resting c g r (for_header rest t a heard few) = inr (record { exchange = r.exchange; all = r.all; place = behind_it rest [] t (a ∙ sym (append-nil _)) heard })

-- the other end wrote, so its user and password were in the profile
exchange_of : (c : SaslCall) (g : List Local) → HasLayer (Some c) g → 8 ≤ length (wrote_in g) → HasExchange c g
exchange_of c g (inl k) enough = k
exchange_of c g (inr n) enough = absurd (omega (arith, ap length n.1, enough))

layered_not : (c : SaslCall) (far : Option SaslCall) (h g : List Local) → IsRestingWith c h → HasLayer far g → layer_in (made_in h) ≡ Some c → layer_in (made_in g) ≡ far → IsQuiet h g → IsResting far g ⊎ RestsBehind g → ⊥
layered_not c None h g r l x y q (inl s) = few_not g h q.far_reads s.few (wrote_enough (Some c) h (inl r))
layered_not c None h g r l x y q (inr s) = plain_not c h g r.exchange r.all q.far_reads s y
layered_not c (Some far) h g r l x y q (inl s) = elim (placed_resting far g s s.awaits) [
  | inl few ↦ few_not g h q.far_reads few (wrote_enough (Some c) h (inl r))
  | inr n ↦ placed_not c far h g r.exchange r.all r.awaits n (opposed (made_in h) (made_in g) c far q.kinds x y) q.reads q.far_reads (wrote_enough (Some far) g (inl s))
]
layered_not c (Some far) h g r l x y q (inr s) =
    let enough = wrote_enough (Some far) g (inr s) in
    placed_not c far h g r.exchange r.all r.awaits (placed_behind far g y s (exchange_of far g l enough)) (opposed (made_in h) (made_in g) c far q.kinds x y) q.reads q.far_reads enough

-- ---- the laws

waits_not : (c far : Option SaslCall) (h g : List Local) → IsResting c h → HasLayer far g → layer_in (made_in h) ≡ c → layer_in (made_in g) ≡ far → IsQuiet h g → IsResting far g ⊎ RestsBehind g → ⊥
waits_not None far h g r l x y q s = few_not h g q.reads r.few (wrote_enough far g s)
waits_not (Some c) far h g r l x y q s = layered_not c far h g r l x y q s

pub headers_do_not_wait : (h g : List Local) → IsQuiet h g → IsResting (layer_in (made_in h)) h → IsResting (layer_in (made_in g)) g ⊎ RestsBehind g → ⊥
headers_do_not_wait h g q r s = waits_not (layer_in (made_in h)) (layer_in (made_in g)) h g r q.far_layer refl refl q s

pub other_way : (calls far : List (ℕ × Call)) → AreOpposite calls far → AreOpposite far calls
other_way calls far (inl o) = inr (o.1, o.0)
other_way calls far (inr o) = inl (o.1, o.0)

pub turned : (h g : List Local) → IsQuiet h g → IsQuiet g h
turned h g q = record {
  reads = q.far_reads;
  far_reads = q.reads;
  tied = q.far_tied;
  far_tied = q.tied;
  said = q.far_said;
  far_said = q.said;
  layer = q.far_layer;
  far_layer = q.layer;
  kinds = other_way (made_in h) (made_in g) q.kinds;
}

pub openings_do_not_wait : (h g : List Local) → IsQuiet h g → RestsBehind h → OpenWaits h → RestsBehind g ⊎ IsResting (layer_in (made_in g)) g → ⊥
openings_do_not_wait h g q r w (inl s) = open_waits_not h g q r w s
openings_do_not_wait h g q r w (inr s) = headers_do_not_wait g h (turned h g q) s (inr r)

pub closes_do_not_wait : (h g : List Local) → IsQuiet h g → RestsBehind h → CloseWaits h → RestsBehind g ⊎ IsResting (layer_in (made_in g)) g → ⊥
closes_do_not_wait h g q r w (inl s) = close_waits_not h g q r w s
closes_do_not_wait h g q r w (inr s) = headers_do_not_wait g h (turned h g q) s (inr r)
