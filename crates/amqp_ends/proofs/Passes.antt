-- Two ends whose layers agree pass both.
use Rattle.std.proofs.Common.{◌≡◌, ◌⊎◌, ◌≤◌, inl, inr, ℕ, List, [], ◌∷◌, ◌++◌, length, Bool, true, Option, Some, None, refl, sym, ap, ◌∙◌, subst, arith, append_assoc, append-nil, All, flat_map}
use Rattle.amqp_sasl_bodies.specs.declared.sasl_body.SaslBody.{SaslBody}
use Rattle.amqp_wire.specs.Events.{LinkEvent}
use Rattle.amqp_transport.specs.declared.transport.Error.{Error as TransportFault}
use Rattle.sasl_exchange.specs.declared.error.NegotiationError.{NegotiationError}
use Rattle.sasl_exchange.specs.declared.exchange.Turn.TheVariants.{Pass}
use Rattle.sasl_gate.specs.Frames.{HasSaslFrame, said, sasl_frame}
use Rattle.amqp_opening.specs.declared.authentication.SaslCall.{SaslCall}
use Rattle.amqp_opening.specs.Authentication.{turn_by}
use Rattle.amqp_opening.specs.Opening.{amqp_header}
use Rattle.amqp_pairs.specs.Streams.{IsRead}
use Rattle.amqp_pairs.proofs.Streams.{all_behind, first_said}
use Rattle.amqp_peer.specs.amqp_words.declared.call.Call.{Call}
use Rattle.amqp_peer.specs.amqp_words.declared.open_error.OpenError.{OpenError}
use Rattle.amqp_peer.specs.amqp_words.declared.open_error.OpenError.TheVariants as failed
use Rattle.amqp_peer.specs.amqp_words.declared.reply.Reply.TheVariants as reply
use Rattle.amqp_peer.specs.amqp_words.declared.reply.NamedReply.{NamedReply}
use Rattle.amqp_peer.specs.Causes.{AllCaused, HasCause, HasHeader, IsBrokenBy, IsLayerWritten, OpenCauseIn, is_layer}
use Rattle.amqp_peer.specs.History.{Local, Made, Polled, AtLink, Exchanged, Got, Put, Replied, made_in, link_in, replied_in, read_in, wrote_in}
use Rattle.amqp_peer.specs.Layers.{layer_in, HasExchange, HasLayer, IsResting}
use Rattle.amqp_peer.specs.Replies.{pending, open_failed}
use Rattle.amqp_peer.proofs.Histories.{made_in-append}
use Rattle.amqp_ends.specs.Gates.{Agree}
use Rattle.amqp_ends.specs.Honest.{IsHonest, IsHonestFault}
use Rattle.amqp_ends.specs.Joined.{IsCalm, Meets}
use Rattle.amqp_ends.specs.Passes.{AreAgreed, FacedOnce, FacedWhenTold, HasPassed, IsThrough}
use Rattle.amqp_ends.specs.Standing.{IsVast, Stands, uncalled, in_headers, behind, parted, refused, broken, vast}
use Rattle.amqp_ends.specs.Wants.{AreStill}
use Rattle.amqp_ends.proofs.Agreed.{agreed_not, agreed_turned}
use Rattle.amqp_ends.proofs.GateFair.{negotiation_fair, silence_fair}
use Rattle.amqp_ends.proofs.Headers.{broken_header, fault_header, header_unread}
use Rattle.amqp_ends.proofs.Honesty.{calm_before, opening_honest}
use Rattle.amqp_ends.proofs.Quiet.{headers_do_not_wait, other_way}
use Rattle.amqp_ends.proofs.QuietLayers.{asked_layer, heard_said, none_behind}
use Rattle.amqp_ends.proofs.Wants.{IsTurnedDown, header_out, meets, meets_back, quiet, refused_called, was_called}

-- ---- the layer is that of the first call

layer_later : (calls more : List (ℕ × Call)) → 1 ≤ length calls → layer_in (more ++ calls) ≡ layer_in calls
layer_later calls [] l = refl
layer_later [] (m ∷ more) l = absurd (omega (arith, l))
layer_later (c ∷ calls) (m ∷ []) l = refl
layer_later (c ∷ calls) (m ∷ n ∷ more) l = layer_later (c ∷ calls) (n ∷ more) l

pub layer_then : (h later before : List Local) → h ≡ later ++ before → 1 ≤ length (made_in before) → layer_in (made_in h) ≡ layer_in (made_in before)
layer_then h later before split l = ap (λ (u : List Local). layer_in (made_in u)) split ∙ ap layer_in (made_in-append later before) ∙ layer_later (made_in before) (made_in later) l

pub caused_called : (calls : List (ℕ × Call)) (e : NegotiationError) (events : List LinkEvent) → OpenCauseIn calls e events → 1 ≤ length calls
caused_called [] e events c = absurd c
caused_called (call ∷ calls) e events c = omega arith

-- ---- the last reply, when it was made

pub record LastReply (h : List Local) (r : NamedReply) : Type 0 where
  pub later : List Local
  pub before : List Local
  pub split : h ≡ later ++ Replied r ∷ before
  pub caused : HasCause before r.reply

none_last : (rs : List NamedReply) (r : NamedReply) → [] ≡ rs ++ r ∷ [] → ⊥
none_last [] r e = absurd (cc e)
none_last (q ∷ rs) r e = absurd (cc e)

last_same : (xs ys : List NamedReply) (a b : NamedReply) → xs ++ a ∷ [] ≡ ys ++ b ∷ [] → a ≡ b
last_same [] [] a b e = cc e
last_same [] (y ∷ ys) a b e = absurd (none_last ys b (cc e))
last_same (x ∷ xs) [] a b e = absurd (none_last xs a (cc (sym e)))
last_same (x ∷ xs) (y ∷ ys) a b e = last_same xs ys a b (cc e)

then_reply : (x : Local) (h : List Local) (r : NamedReply) → LastReply h r → LastReply (x ∷ h) r
then_reply x h r l = record { later = x ∷ l.later; before = l.before; split = ap (λ (u : List Local). x ∷ u) l.split; caused = l.caused }

pub last_reply : (h : List Local) (rs : List NamedReply) (r : NamedReply) → AllCaused h → replied_in h ≡ rs ++ r ∷ [] → LastReply h r
last_reply [] rs r c e = absurd (none_last rs r e)
last_reply (Made at name call ∷ h) rs r c e = then_reply (Made at name call) h r (last_reply h rs r c e)
last_reply (Polled at ∷ h) rs r c e = then_reply (Polled at) h r (last_reply h rs r c e)
last_reply (AtLink x ∷ h) rs r c e = then_reply (AtLink x) h r (last_reply h rs r c e)
last_reply (Exchanged ∷ h) rs r c e = then_reply Exchanged h r (last_reply h rs r c e)
last_reply (Got x ∷ h) rs r c e = then_reply (Got x) h r (last_reply h rs r c e)
last_reply (Put x ∷ h) rs r c e = then_reply (Put x) h r (last_reply h rs r c e)
last_reply (Replied q ∷ h) rs r c e =
    let same = last_same (replied_in h) rs q r e in
    record { later = []; before = h; split = ap (λ (z : NamedReply). Replied z ∷ h) same; caused = subst (λ (z : NamedReply). HasCause h z.reply) same c.0 }

-- ---- an end that is refused has written its AMQP header

module _ (h far : List Local) (left far_left : List ℕ) (a : AreStill h far left far_left) where
  -- its transport failed behind the headers
  pub carries : (later g : List Local) (r : NamedReply) (e : TransportFault) → h ≡ later ++ Replied r ∷ g → IsHonestFault e → IsBrokenBy e g → HasHeader h
  carries later g r e split k b =
      fault_header h far (later ++ Replied r ∷ []) g (meets h far left far_left a) (meets_back h far left far_left a) (split ∙ sym (append_assoc later (Replied r ∷ []) g)) e k b

  -- its refusal is honest
  pub refused_honestly : (name : ℕ) (e : OpenError) (l : LastReply h (open_failed name e)) → IsHonest (reply.OpenError e)
  refused_honestly name e l =
      let told : Local = Replied (open_failed name e) in
      opening_honest e (l.later ++ told ∷ []) l.before far (subst (λ (g : List Local). Meets g far) (l.split ∙ sym (append_assoc l.later (told ∷ []) l.before)) (meets h far left far_left a)) l.caused

  module _ (agreed : Agree (layer_in (made_in h)) (layer_in (made_in far))) (faced : FacedWhenTold h far) where
    -- its negotiation does not fail
    negotiates : (later g : List Local) (name : ℕ) (e : NegotiationError) → h ≡ later ++ Replied (open_failed name (failed.Negotiation e)) ∷ g → OpenCauseIn (made_in g) e (link_in g) → ⊥
    negotiates later g name e split c =
        let told : Local = Replied (open_failed name (failed.Negotiation e)) in
        let k : FacedOnce g far = faced later g name e split in
        let calm : IsCalm (link_in g) = calm_before later (told ∷ g) (subst (λ (u : List Local). IsCalm (link_in u)) split a.calm) in
        let near : layer_in (made_in h) ≡ layer_in (made_in g) = layer_then h later (told ∷ g) split (caused_called (made_in g) e (link_in g) c) in
        let agrees : Agree (layer_in (made_in g)) (layer_in (made_in far)) = subst (λ (z : Option SaslCall). Agree z (layer_in (made_in far))) near agreed in
        elim k.begun as (λ _. ⊥) [
          | inl called ↦ agreed_not (layer_in (made_in g)) (layer_in (made_in k.before))
              (subst (λ (z : Option SaslCall). Agree (layer_in (made_in g)) z) (layer_then far k.since k.before k.split called) agrees)
              e (negotiation_fair g k.before calm k.faces e c)
          | inr none ↦ agreed_not (layer_in (made_in g)) (layer_in (made_in far)) agrees e (silence_fair g k.before calm k.faces e none (layer_in (made_in far)) c)
        ]

    opens : (name : ℕ) (e : OpenError) → LastReply h (open_failed name e) → IsHonest (reply.OpenError e) → HasHeader h
    opens name (failed.Negotiation e) l k = absurd (negotiates l.later l.before name e l.split l.caused)
    opens name (failed.TransportError e) l k = carries l.later l.before (open_failed name (failed.TransportError e)) e l.split k l.caused
    opens name failed.RemoteClosed l k = absurd k
    opens name (failed.RemoteClosedWithError e) l k = absurd k
    opens name failed.IllegalState l k = absurd k

    refused_header : (name : ℕ) (e : OpenError) → LastReply h (open_failed name e) → HasHeader h
    refused_header name e l = opens name e l (refused_honestly name e l)

    turned_down : IsTurnedDown h → HasHeader h
    turned_down (none, (name, e, inl all)) = refused_header name e (last_reply h (pending name ∷ []) (open_failed name e) a.answered.caused all.0)
    turned_down (none, (name, e, inr all)) = refused_header name e (last_reply h [] (open_failed name e) a.answered.caused all.0)

-- ---- an AMQP header stands behind an exchange that has passed

header_not : (others : List SaslBody) (more : List ℕ) → All HasSaslFrame others → amqp_header ++ more ≡ flat_map sasl_frame others ++ [] → ⊥
header_not others more framed e =
    let none = none_behind others more [] framed e in
    absurd (cc (e ∙ ap (λ (u : List SaslBody). flat_map sasl_frame u ++ []) none))

unpassed_not : (c : SaslCall) (h : List Local) (k : HasExchange c h) (t : HasHeader h) → IsLayerWritten true t.head → k.after ≡ [] → ⊥
unpassed_not c h k t (bodies, framed, head) none =
    let after = amqp_header ++ t.behind in
    let bytes : (said bodies ++ after) ++ k.out ≡ said k.sent ++ [] =
    ap (λ (u : List ℕ). (u ++ after) ++ k.out) (sym head) ∙ ap (λ (u : List ℕ). u ++ k.out) (sym t.wrote) ∙ k.wrote ∙ ap (λ (u : List ℕ). said k.sent ++ u) none in
    let r : IsRead (said bodies ++ after) after k.out [] bodies k.sent =
    record { frames = k.framed; after_is = (amqp_header, inl refl); heard = heard_said bodies after framed; stream = bytes } in
    let f = first_said (said bodies ++ after) after k.out [] bodies k.sent r in
    header_not f.others (t.behind ++ k.out) (all_behind bodies f.others (subst (λ (u : List SaslBody). All HasSaslFrame u) f.sent_is k.framed))
    (sym (append_assoc amqp_header t.behind k.out) ∙ f.left_is)

has_passed : (c : SaslCall) (h : List Local) → layer_in (made_in h) ≡ Some c → (k : HasExchange c h) → HasHeader h → turn_by k.x ≡ Pass
has_passed c h is k t =
    let layer = subst (λ (z : Bool). IsLayerWritten z t.head) (asked_layer (made_in h) ∙ ap is_layer is) t.layer in
    elim k.behind [ inl none ↦ absurd (unpassed_not c h k t layer none) | inr e ↦ e.0 ]

header_unwritten : (head tail : List ℕ) → head ++ (amqp_header ++ tail) ≡ [] → ⊥
header_unwritten [] tail e = absurd (cc e)
header_unwritten (x ∷ head) tail e = absurd (cc e)

passed_in : (c : Option SaslCall) (h : List Local) → layer_in (made_in h) ≡ c → HasLayer c h → HasHeader h → HasPassed c h
passed_in None h is k t = tt
passed_in (Some c) h is (inl k) t = (k, has_passed c h is k t)
passed_in (Some c) h is (inr n) t = absurd (header_unwritten t.head t.behind (sym t.wrote ∙ n.1))

-- ---- two ends

pub still_turned : (h far : List Local) (left far_left : List ℕ) → AreStill h far left far_left → AreStill far h far_left left
still_turned h far left far_left a = record {
  stands = a.far_stands;
  far_stands = a.stands;
  reads = a.far_reads;
  far_reads = a.reads;
  calm = a.far_calm;
  far_calm = a.calm;
  tied = a.far_tied;
  far_tied = a.tied;
  said = a.far_said;
  far_said = a.said;
  layer = a.far_layer;
  far_layer = a.layer;
  kinds = other_way (made_in h) (made_in far) a.kinds;
  answered = a.far_answered;
  far_answered = a.answered;
}

pub vast_turned : (h far : List Local) → IsVast far ⊎ IsVast h → IsVast h ⊎ IsVast far
vast_turned h far (inl v) = inr v
vast_turned h far (inr v) = inl v

agreed_still : (h far : List Local) (left far_left : List ℕ) → AreAgreed h far left far_left → AreAgreed far h far_left left
agreed_still h far left far_left a = record {
  still = still_turned h far left far_left a.still;
  called = a.far_called;
  far_called = a.called;
  agreed = agreed_turned (layer_in (made_in h)) (layer_in (made_in far)) a.agreed;
  faced = a.far_faced;
  far_faced = a.faced;
  few = λ v. a.few (vast_turned h far v);
}

-- it has written its AMQP header, or waits in the exchange of headers
stands_so : (h far : List Local) (left far_left : List ℕ) → AreAgreed h far left far_left → Stands h left → HasHeader h ⊎ (IsResting (layer_in (made_in h)) h × (left ≡ []))
stands_so h far left far_left a (uncalled m w) = absurd (was_called (made_in h) a.called m)
stands_so h far left far_left a (in_headers v r l) = inr (r, l)
stands_so h far left far_left a (behind r c l) = inl (header_out h r.out)
stands_so h far left far_left a (parted c o w) = inl (header_out h o)
stands_so h far left far_left a (refused s w) = inl (turned_down h far left far_left a.still a.agreed a.faced (refused_called h a.still.answered a.called s w))
stands_so h far left far_left a (broken b) = inl (broken_header h far (meets h far left far_left a.still) (meets_back h far left far_left a.still) b)
stands_so h far left far_left a (vast v) = absurd (a.few (inl v))

pub read_all : (h far : List Local) (left far_left : List ℕ) → AreStill h far left far_left → left ≡ [] → read_in h ≡ wrote_in far
read_all h far left far_left a l = sym (append-nil (read_in h)) ∙ ap (λ (u : List ℕ). read_in h ++ u) (sym l) ∙ a.reads

-- two ends do not both wait there, nor one for another that has written its header
header_of : (h far : List Local) (left far_left : List ℕ) → AreStill h far left far_left → HasHeader h ⊎ (IsResting (layer_in (made_in h)) h × (left ≡ [])) → HasHeader far ⊎ (IsResting (layer_in (made_in far)) far × (far_left ≡ [])) → HasHeader h
header_of h far left far_left a (inl t) s = t
header_of h far left far_left a (inr (r, l)) (inl t) = absurd (header_unread h far (read_all h far left far_left a l) r t)
header_of h far left far_left a (inr (r, l)) (inr (s, f)) = absurd (headers_do_not_wait h far (quiet h far left far_left a l f) r (inl s))

through : (h far : List Local) (left far_left : List ℕ) → AreAgreed h far left far_left → IsThrough h
through h far left far_left a =
    let b = agreed_still h far left far_left a in
    let t = header_of h far left far_left a.still (stands_so h far left far_left a a.still.stands) (stands_so far h far_left left b b.still.stands) in
    record { header = t; passed = passed_in (layer_in (made_in h)) h refl a.still.layer t }

pub both_through : (h far : List Local) (left far_left : List ℕ) → AreAgreed h far left far_left → IsThrough h × IsThrough far
both_through h far left far_left a = (through h far left far_left a, through far h far_left left (agreed_still h far left far_left a))
