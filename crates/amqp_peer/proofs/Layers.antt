-- The exchange of an end that asked for a SASL layer.
use Rattle.std.proofs.Common.{◌≡◌, ◌<◌, ◌⊎◌, inl, inr, ℕ, List, [], ◌++◌, length, Bool, true, Option, Some, None, refl, sym, ap, ◌∙◌, subst, append_assoc, arith}
use Rattle.std.proofs.lemmas.List.{append-nil}
use Rattle.std.proofs.lemmas.List.Elements.{All-nil}
use Rattle.amqp_wire.specs.Events.{LinkEvent, read_of, wrote_of}
use Rattle.amqp_wire.proofs.Events.{read_of-append, wrote_of-append}
use Rattle.amqp_transport.specs.declared.frames.Frame.{Frame}
use Rattle.amqp_engine.specs.Sentence.{bytes_of_all}
use Rattle.amqp_engine.specs.State.{State}
use Rattle.sasl_exchange.specs.declared.error.NegotiationError.{NegotiationError}
use Rattle.sasl_exchange.specs.declared.exchange.Turn.TheVariants.{Pass}
use Rattle.sasl_gate.specs.declared.gate.negotiation.Phase.{Phase}
use Rattle.sasl_gate.specs.declared.gate.negotiation.Phase.TheVariants as phase
use Rattle.sasl_gate.specs.Frames.{HasSaslFrame, Heard, said}
use Rattle.sasl_gate.specs.Negotiation.{Negotiating, IsHeard, HasIn as HasNegotiation, IsAtRestIn}
use Rattle.sasl_gate.proofs.Negotiations.{heard_more}
use Rattle.amqp_opening.specs.declared.authentication.Authentication.{Authentication}
use Rattle.amqp_opening.specs.declared.authentication.SaslCall.{SaslCall}
use Rattle.amqp_opening.specs.declared.opening.Stage.{Stage}
use Rattle.amqp_opening.specs.declared.opening.Stage.TheVariants as stage
use Rattle.amqp_opening.specs.Authentication.{peer_mechanism, MadeFor, HasAllowedTexts, asked_so, turn_by}
use Rattle.amqp_opening.specs.Opening.{amqp_header, Opened, HasPassed, IsPlain, HasIntro, HasAt, HasOpening, HasEnding, HasEndedSasl, IsAtRestAt}
use Rattle.amqp_words.specs.declared.call.Call.{Call}
use Rattle.amqp_peer.specs.declared.held.Held.{Held}
use Rattle.amqp_peer.specs.declared.held.Held.TheVariants.{Early, Late, Unopened, Moving}
use Rattle.amqp_peer.specs.declared.peer.Progress.{Progress}
use Rattle.amqp_peer.specs.declared.peer.Progress.TheVariants as progress
use Rattle.amqp_peer.specs.declared.prepared.Prepared.{Prepared}
use Rattle.amqp_peer.specs.Causes.{MadeIn, BeginsWithOpen}
use Rattle.amqp_peer.specs.Held.{IsActive, IsSorted}
use Rattle.amqp_peer.specs.History.{Local, made_in, link_in, sent_in, wrote_in}
use Rattle.amqp_peer.specs.Layers.{layer_in, HasExchange, HasLayer, for_layer, for_body, for_header, IsResting, IsRestingOrOpen}
use Rattle.amqp_peer.specs.Peering.{Peering, Has, HasIn, IsHeld, IsHeldAt, IsExchanging, IsRunning}
use Rattle.amqp_peer.specs.Prepared.{sasl_of}
use Rattle.amqp_peer.proofs.Written.{talk}

-- ---- the exchange while the headers are exchanged

-- without frames the AMQP header is all that follows the exchange
header_alone : (h : List Local) → sent_in h ≡ [] → amqp_header ≡ amqp_header ++ bytes_of_all (sent_in h)
header_alone h s = ap (λ (xs : List Frame). amqp_header ++ bytes_of_all xs) (sym s)

-- in the negotiation
abbrev negotiates : {L : Type 0} (c : SaslCall) (q : Phase) (n : Negotiating L Authentication) (h : List Local) → MadeFor c n.exchange → sent_in h ≡ [] → HasNegotiation peer_mechanism q n (link_in h) → HasExchange c h
negotiates c phase.Header n h m s k =
    record { x = n.exchange; made = m; asked = asked_so c n.exchange m; given = []; sent = []; heard = inl refl; framed = All-nil HasSaslFrame; out = n.codec.output; after = []; wrote = k.wrote; behind = inl refl; unopened = λ e. s; held = k.held }
negotiates c phase.Frames n h m s k = record {
  x = n.exchange;
  made = m;
  asked = asked_so c n.exchange m;
  given = k.given;
  sent = k.sent;
  heard = inr (n.codec.input, k.heard);
  framed = k.framed;
  out = n.codec.output;
  after = [];
  wrote = k.wrote ∙ sym (append-nil (said k.sent));
  behind = inl refl;
  unopened = λ e. s;
  held = k.held;
}
negotiates c (phase.Failed e) n h m s k = record {
  x = n.exchange;
  made = m;
  asked = asked_so c n.exchange m;
  given = k.given;
  sent = k.sent;
  heard = k.heard;
  framed = k.framed;
  out = n.codec.output;
  after = [];
  wrote = k.wrote ∙ sym (append-nil (said k.sent));
  behind = inl refl;
  unopened = λ e. s;
  held = k.held;
}

-- once it has passed
abbrev passes : (c : SaslCall) (x : Authentication) (rest unwritten : List ℕ) (h : List Local) → MadeFor c x → sent_in h ≡ [] → HasPassed peer_mechanism x rest unwritten (link_in h) → HasExchange c h
passes c x rest unwritten h m s k = record {
  x = x;
  made = m;
  asked = asked_so c x m;
  given = k.given;
  sent = k.sent;
  heard = inr (rest, k.heard);
  framed = k.framed;
  out = unwritten;
  after = amqp_header;
  wrote = ap (λ (u : List ℕ). u ++ unwritten) k.wrote ∙ append_assoc (said k.sent) k.part unwritten ∙ ap (λ (u : List ℕ). said k.sent ++ u) k.header;
  behind = inr (k.turn, header_alone h s);
  unopened = λ e. s;
  held = k.held;
}

exchange_at : {L : Type 0} (c : SaslCall) (b : Bool) (s : Stage) (n : Negotiating L Authentication) (h : List Local) → b ≡ true → MadeFor c n.exchange → sent_in h ≡ [] → HasAt peer_mechanism b s n (link_in h) → HasExchange c h
exchange_at c b stage.Idle n h e m s k = absurd k
exchange_at c b stage.Negotiating n h e m s k = negotiates c n.phase n h m s k.1
exchange_at c b stage.Header n h e m s k =
    passes c n.exchange n.codec.input n.codec.output h m s (subst (λ (z : Bool). HasIntro z peer_mechanism n.exchange n.codec.input n.codec.output (link_in h)) e k)
exchange_at c b stage.Exchanged n h e m s k =
    passes c n.exchange (amqp_header ++ n.codec.input) n.codec.output h m s (subst (λ (z : Bool). HasIntro z peer_mechanism n.exchange (amqp_header ++ n.codec.input) n.codec.output (link_in h)) e k.0)
exchange_at c b stage.Ended n h e m s k = absurd k

layer_opening : {L : Type 0} (c : Option SaslCall) (o : Opened L Authentication) (h : List Local) → MadeIn c o.has_sasl o.negotiation.exchange → sent_in h ≡ [] → HasOpening peer_mechanism o (link_in h) → HasLayer c h
layer_opening None o h m s k = tt
layer_opening (Some c) o h m s k = inl (exchange_at c o.has_sasl o.stage o.negotiation h m.0 m.1 s k)

pub layer_exchanging : {L : Type 0} (call : Call) (o : Opened L Authentication) (p : Option Prepared) (h : List Local) → IsExchanging call o p h → HasLayer (sasl_of call) h
layer_exchanging call o p h k = layer_opening (sasl_of call) o h k.made k.sent k.opening

-- ---- the exchange of an end that has failed

behind_ended : (x : Authentication) (after : List ℕ) (h : List Local) → sent_in h ≡ [] → (after ≡ []) ⊎ ((turn_by x ≡ Pass) × (after ≡ amqp_header)) → (after ≡ []) ⊎ ((turn_by x ≡ Pass) × (after ≡ amqp_header ++ bytes_of_all (sent_in h)))
behind_ended x after h s (inl e) = inl e
behind_ended x after h s (inr (t, e)) = inr (t, e ∙ header_alone h s)

exchange_ended : (c : SaslCall) (x : Authentication) (e : NegotiationError) (h : List Local) → MadeFor c x → sent_in h ≡ [] → HasEnding peer_mechanism true x e (link_in h) → HasExchange c h
exchange_ended c x e h m s k =
    let n : HasEndedSasl peer_mechanism x e (link_in h) k.cause = k.exchange in
    record { x = x; made = m; asked = asked_so c x m; given = n.given; sent = n.sent; heard = n.heard; framed = n.framed; out = n.out; after = n.after; wrote = n.wrote; behind = behind_ended x n.after h s n.behind; unopened = λ z. s; held = n.held }

layer_by_ending : (c : Option SaslCall) (layer : Bool) (x : Authentication) (e : NegotiationError) (h : List Local) → MadeIn c layer x → sent_in h ≡ [] → HasEnding peer_mechanism layer x e (link_in h) → HasLayer c h
layer_by_ending None layer x e h m s k = tt
layer_by_ending (Some c) layer x e h m s k = inl (exchange_ended c x e h m.1 s (subst (λ (b : Bool). HasEnding peer_mechanism b x e (link_in h)) m.0 k))

pub layer_ended : (call : Call) (layer : Bool) (x : Authentication) (e : NegotiationError) (h : List Local) → MadeIn (sasl_of call) layer x → sent_in h ≡ [] → HasEnding peer_mechanism layer x e (link_in h) → HasLayer (sasl_of call) h
layer_ended call layer x e h m s k = layer_by_ending (sasl_of call) layer x e h m s k

-- its user or password is outside the profile
pub layer_refused : (call : Call) (c : SaslCall) (h : List Local) → sasl_of call ≡ Some c → ¬ HasAllowedTexts c → link_in h ≡ [] → HasLayer (sasl_of call) h
layer_refused call c h e n l = subst (λ (z : Option SaslCall). HasLayer z h) (sym e) (inr (n, ap wrote_of l))

-- ---- what changes nothing of it

exchange_same : (c : SaslCall) (h h' : List Local) → link_in h' ≡ link_in h → sent_in h' ≡ sent_in h → HasExchange c h → HasExchange c h'
exchange_same c h h' l s k =
    record {
      x = k.x;
      made = k.made;
      asked = k.asked;
      given = k.given;
      sent = k.sent;
      heard = subst (λ (es : List LinkEvent). IsHeard (read_of es) k.given) (sym l) k.heard;
      framed = k.framed;
      out = k.out;
      after = k.after;
      wrote = ap (λ (es : List LinkEvent). wrote_of es ++ k.out) l ∙ k.wrote;
      behind = subst (λ (xs : List Frame). (k.after ≡ []) ⊎ ((turn_by k.x ≡ Pass) × (k.after ≡ amqp_header ++ bytes_of_all xs))) (sym s) k.behind;
      unopened = λ e. s ∙ k.unopened e;
      held = k.held;
    }

pub layer_same : (c : Option SaslCall) (h h' : List Local) → link_in h' ≡ link_in h → sent_in h' ≡ sent_in h → HasLayer c h → HasLayer c h'
layer_same None h h' l s k = tt
layer_same (Some c) h h' l s (inl k) = inl (exchange_same c h h' l s k)
layer_same (Some c) h h' l s (inr k) = inr (k.0, ap wrote_of l ∙ k.1)

-- ---- the exchange behind the headers

header_not : (bytes : List ℕ) → amqp_header ++ bytes ≡ [] → ⊥
header_not bytes e = omega (arith, ap length e)

exchange_running : {L : Type 0} (c : SaslCall) (call : Call) (s : State L) (h : List Local) (k : IsRunning call s h) → MadeIn (Some c) k.layer k.x → HasExchange c h
exchange_running c call s h k m =
    let n : HasPassed peer_mechanism k.x (amqp_header ++ k.arrived) k.unwritten k.before = subst (λ (b : Bool). HasIntro b peer_mechanism k.x (amqp_header ++ k.arrived) k.unwritten k.before) m.0 k.intro in
    record {
      x = k.x;
      made = m.1;
      asked = asked_so c k.x m.1;
      given = n.given;
      sent = n.sent;
      heard = inr (
        (amqp_header ++ k.arrived) ++ read_of k.since,
        subst (λ (u : List ℕ). Heard u n.given ((amqp_header ++ k.arrived) ++ read_of k.since)) (sym (ap read_of k.passed ∙ read_of-append k.since k.before))
            (heard_more (read_of k.before) (read_of k.since) (amqp_header ++ k.arrived) n.given n.heard),
      );
      framed = n.framed;
      out = s.wire.codec.output;
      after = amqp_header ++ bytes_of_all (sent_in h);
      wrote = ap (λ (u : List ℕ). u ++ s.wire.codec.output) (ap wrote_of k.passed ∙ wrote_of-append k.since k.before ∙ ap (λ (u : List ℕ). u ++ wrote_of k.since) n.wrote ∙ append_assoc (said n.sent) n.part (wrote_of k.since))
          ∙ append_assoc (said n.sent) (n.part ++ wrote_of k.since) s.wire.codec.output
          ∙ ap (λ (u : List ℕ). said n.sent ++ u) (talk n.part k.unwritten (wrote_of k.since) s.wire.codec.output (bytes_of_all (sent_in h)) n.header k.runs.out);
      behind = inr (n.turn, refl);
      unopened = λ e. absurd (header_not (bytes_of_all (sent_in h)) e);
      held = n.held;
    }

layer_by_running : {L : Type 0} (c : Option SaslCall) (call : Call) (s : State L) (h : List Local) (k : IsRunning call s h) → MadeIn c k.layer k.x → HasLayer c h
layer_by_running None call s h k m = tt
layer_by_running (Some c) call s h k m = inl (exchange_running c call s h k m)

-- ---- the exchange at any time

layer_early : {L : Type 0} (s : Stage) (call : Call) (o : Opened L Authentication) (p : Option Prepared) (h : List Local) → IsHeldAt s call o p h → HasLayer (sasl_of call) h
layer_early stage.Idle call o p h k = absurd k
layer_early stage.Negotiating call o p h k = layer_exchanging call o p h k
layer_early stage.Header call o p h k = layer_exchanging call o p h k
layer_early stage.Exchanged call o p h k = layer_exchanging call o p h k
layer_early stage.Ended call o p h k = k.exchange

layer_held : {L : Type 0} (call : Call) (held : Held L) (h : List Local) → IsHeld call held h → HasLayer (sasl_of call) h
layer_held call (Early o p) h k = layer_early o.stage call o p h k
layer_held call (Late s) h k = layer_by_running (sasl_of call) call s h k k.made
layer_held call (Unopened c) h k = k.exchange
layer_held call Moving h k = absurd k

-- by the calls
layer_as : (cs : List (ℕ × Call)) (h : List Local) → made_in h ≡ cs → HasLayer (layer_in cs) h → HasLayer (layer_in (made_in h)) h
layer_as cs h e k = subst (λ (u : List (ℕ × Call)). HasLayer (layer_in u) h) (sym e) k

layer_law : {L : Type 0} (q : Progress) (p : Peering L) (h : List Local) → HasIn q p h → HasLayer (layer_in (made_in h)) h
layer_law progress.Idle p h x = layer_as [] h x.made tt
layer_law progress.Opening p h x = layer_as _ h x.made (layer_held x.call p.held h x.called.holds)
layer_law progress.Open p h x = layer_as _ h x.made (layer_held x.call p.held h x.called.holds)
layer_law progress.Closing p h x = layer_as _ h x.made (layer_held x.call p.held h x.called.holds)
layer_law progress.Over p h (inl x) = layer_as _ h x.made (layer_held x.call p.held h x.called.holds)
layer_law progress.Over p h (inr x) = layer_as _ h x.made (layer_held x.call p.held h x.called.holds)

pub exchange_law : {L : Type 0} (p : Peering L) (h : List Local) → Has p h → (c : SaslCall) → layer_in (made_in h) ≡ Some c → HasExchange c h ⊎ ((¬ HasAllowedTexts c) × (wrote_in h ≡ []))
exchange_law p h x c e = subst (λ (z : Option SaslCall). HasLayer z h) e (layer_law p.progress p h x)

-- ---- an end that waits in the exchange of headers

-- in the negotiation
rests_negotiating : {L : Type 0} (c : SaslCall) (q : Phase) (n : Negotiating L Authentication) (h : List Local) → MadeFor c n.exchange → sent_in h ≡ [] → HasNegotiation peer_mechanism q n (link_in h) → IsAtRestIn peer_mechanism q n → IsResting (Some c) h
rests_negotiating c phase.Header n h m s k r =
    record { exchange = negotiates c phase.Header n h m s k; all = r.0; awaits = for_layer refl refl refl (subst (λ (u : List ℕ). length u < 8) (sym k.read) r.1); unopened = s }
rests_negotiating c phase.Frames n h m s k r =
    record { exchange = negotiates c phase.Frames n h m s k; all = r.0; awaits = for_body n.codec.input r.1 refl k.heard r.2; unopened = s }
rests_negotiating c (phase.Failed e) n h m s k r = absurd r

-- behind it
rests_passed : (c : SaslCall) (x : Authentication) (rest unwritten : List ℕ) (h : List Local) → MadeFor c x → sent_in h ≡ [] → HasPassed peer_mechanism x rest unwritten (link_in h) → unwritten ≡ [] → length rest < 8 → IsResting (Some c) h
rests_passed c x rest unwritten h m s k all few = record { exchange = passes c x rest unwritten h m s k; all = all; awaits = for_header rest k.turn refl k.heard few; unopened = s }

-- without a SASL layer
rests_plain : (rest unwritten : List ℕ) (h : List Local) → sent_in h ≡ [] → IsPlain rest unwritten (link_in h) → unwritten ≡ [] → length rest < 8 → IsResting None h
rests_plain rest unwritten h s k all few =
    record {
      wrote = sym (append-nil (wrote_in h)) ∙ ap (λ (u : List ℕ). wrote_in h ++ u) (sym all) ∙ k.wrote;
      few = subst (λ (u : List ℕ). length u < 8) (sym k.heard) few;
      unopened = s;
    }

rests_at : {L : Type 0} (c : Option SaslCall) (b : Bool) (s : Stage) (n : Negotiating L Authentication) (h : List Local) → MadeIn c b n.exchange → sent_in h ≡ [] → HasAt peer_mechanism b s n (link_in h) → IsAtRestAt peer_mechanism s n → IsResting c h
rests_at c b stage.Idle n h m s k r = absurd r
rests_at None b stage.Negotiating n h m s k r = absurd (cc (sym m ∙ k.0))
rests_at (Some c) b stage.Negotiating n h m s k r = rests_negotiating c n.phase n h m.1 s k.1 r
rests_at None b stage.Header n h m s k r =
    rests_plain n.codec.input n.codec.output h s (subst (λ (z : Bool). HasIntro z peer_mechanism n.exchange n.codec.input n.codec.output (link_in h)) m k) r.0 r.1
rests_at (Some c) b stage.Header n h m s k r =
    rests_passed c n.exchange n.codec.input n.codec.output h m.1 s (subst (λ (z : Bool). HasIntro z peer_mechanism n.exchange n.codec.input n.codec.output (link_in h)) m.0 k) r.0 r.1
rests_at c b stage.Exchanged n h m s k r = absurd r
rests_at c b stage.Ended n h m s k r = absurd r

rests_exchanging : {L : Type 0} (call : Call) (o : Opened L Authentication) (p : Option Prepared) (h : List Local) → IsExchanging call o p h → IsAtRestAt peer_mechanism o.stage o.negotiation → IsResting (sasl_of call) h
rests_exchanging call o p h k r = rests_at (sasl_of call) o.has_sasl o.stage o.negotiation h k.made k.sent k.opening r

rests_early : {L : Type 0} (s : Stage) (call : Call) (o : Opened L Authentication) (p : Option Prepared) (h : List Local) → o.stage ≡ s → IsHeldAt s call o p h → IsAtRestAt peer_mechanism s o.negotiation → IsResting (sasl_of call) h
rests_early stage.Idle call o p h e k r = absurd r
rests_early stage.Negotiating call o p h e k r = rests_exchanging call o p h k (subst (λ (s : Stage). IsAtRestAt peer_mechanism s o.negotiation) (sym e) r)
rests_early stage.Header call o p h e k r = rests_exchanging call o p h k (subst (λ (s : Stage). IsAtRestAt peer_mechanism s o.negotiation) (sym e) r)
rests_early stage.Exchanged call o p h e k r = absurd r
rests_early stage.Ended call o p h e k r = absurd r

rests_held : {L : Type 0} (at : ℕ) (call : Call) (held : Held L) (h : List Local) → IsHeld call held h → IsActive held → IsSorted at held → IsResting (sasl_of call) h ⊎ BeginsWithOpen (sent_in h)
rests_held at call (Early o p) h k a s = inl (rests_early o.stage call o p h refl k s)
rests_held at call (Late w) h k a s = inr k.opens
rests_held at call (Unopened c) h k a s = absurd a
rests_held at call Moving h k a s = absurd k

-- by the calls
rests_as : (cs : List (ℕ × Call)) (h : List Local) → made_in h ≡ cs → IsResting (layer_in cs) h ⊎ BeginsWithOpen (sent_in h) → IsRestingOrOpen h
rests_as cs h e k = subst (λ (u : List (ℕ × Call)). IsResting (layer_in u) h ⊎ BeginsWithOpen (sent_in h)) (sym e) k

rests_in : {L : Type 0} (at : ℕ) (q : Progress) (p : Peering L) (h : List Local) → HasIn q p h → IsActive p.held → IsSorted at p.held → IsRestingOrOpen h
rests_in {L} at progress.Idle p h x a s =
    absurd (subst (λ (z : Stage). IsAtRestAt peer_mechanism z x.opening.negotiation) x.untouched.stage (subst (λ (u : Held L). IsSorted at u) x.holds s))
rests_in at progress.Opening p h x a s = rests_as _ h x.made (rests_held at x.call p.held h x.called.holds a s)
rests_in at progress.Open p h x a s = rests_as _ h x.made (rests_held at x.call p.held h x.called.holds a s)
rests_in at progress.Closing p h x a s = rests_as _ h x.made (rests_held at x.call p.held h x.called.holds a s)
rests_in at progress.Over p h (inl x) a s = rests_as _ h x.made (rests_held at x.call p.held h x.called.holds a s)
rests_in at progress.Over p h (inr x) a s = rests_as _ h x.made (rests_held at x.call p.held h x.called.holds a s)

pub rest_law : {L : Type 0} (at : ℕ) (p : Peering L) (h : List Local) → Has p h → IsActive p.held → IsSorted at p.held → IsRestingOrOpen h
rest_law at p h x a s = rests_in at p.progress p h x a s
