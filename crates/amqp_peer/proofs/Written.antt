-- What an end wrote and read behind its headers.
use Rattle.std.proofs.Common.{◌≡◌, ◌⊎◌, inl, inr, ℕ, List, [], ◌∷◌, ◌++◌, Bool, true, false, Option, Some, None, refl, sym, ap, ◌∙◌, subst, append_assoc}
use Rattle.std.proofs.lemmas.List.{append-nil}
use Rattle.std.proofs.lemmas.List.Elements.{All-nil}
use Rattle.amqp_sasl_bodies.specs.declared.sasl_body.SaslBody.{SaslBody}
use Rattle.amqp_wire.specs.declared.link.Held.TheVariants.{Full}
use Rattle.amqp_wire.specs.Events.{LinkEvent, NotWritten, Includes, read_of, wrote_of}
use Rattle.amqp_wire.proofs.Events.{read_of-append, wrote_of-append}
use Rattle.amqp_transport.specs.declared.frames.Frame.{Frame}
use Rattle.amqp_transport.specs.Kinds.{amqp_spells}
use Rattle.amqp_transport.specs.Stream.{Joined}
use Rattle.amqp_transport.proofs.Streams.{joined_more}
use Rattle.amqp_engine.specs.Sentence.{bytes_of_all}
use Rattle.amqp_engine.specs.State.{State}
use Rattle.amqp_engine.proofs.Said.{said_form}
use Rattle.sasl_gate.specs.Frames.{Carries, HasSaslFrame, said, sasl_header, IsOnlySasl}
use Rattle.amqp_opening.specs.declared.authentication.Authentication.{Authentication}
use Rattle.amqp_opening.specs.declared.authentication.SaslCall.{SaslCall}
use Rattle.amqp_opening.specs.Authentication.{peer_mechanism}
use Rattle.amqp_opening.specs.Opening.{amqp_header, Opened, HasIntro, HasPassed, IsPlain, IsGuarded}
use Rattle.amqp_opening.proofs.Exchanges.{gated_from, gated_passed}
use Rattle.amqp_opening.proofs.Openings.{has_guarded}
use Rattle.amqp_words.specs.declared.call.Call.{Call}
use Rattle.amqp_peer.specs.declared.prepared.Prepared.{Prepared}
use Rattle.amqp_peer.specs.Causes.{MadeIn, has_layer, IsLayerRead, IsLayerWritten, IsTail, IsReadTo, IsQueued, IsOut}
use Rattle.amqp_peer.specs.Gated.{IsTalk, IsGatedIn}
use Rattle.amqp_peer.specs.History.{Local, made_in, link_in, given_in, sent_in, read_in, wrote_in, at_link}
use Rattle.amqp_peer.specs.Peering.{IsExchanging, IsRunning, HasWritten}
use Rattle.amqp_peer.specs.Prepared.{sasl_of}
use Rattle.amqp_peer.proofs.Histories.{link_in-append, link_in-at, given_in-append, given_in-at, made_in-keeps, inside-at}

-- ---- what comes before the AMQP header

-- the frames apart from what follows them
pub record Carried (tail : List ℕ) (bodies : List SaslBody) (rest : List ℕ) : Type 0 where
  pub head : List ℕ
  pub is : tail ≡ head ++ rest
  pub frames : Carries head bodies []

carried : (tail : List ℕ) (bodies : List SaslBody) (rest : List ℕ) → Carries tail bodies rest → Carried tail bodies rest
carried tail [] rest c = record { head = []; is = c; frames = refl }
carried tail (x ∷ bodies) rest (piece, more, e, f, c) =
    let t = carried more bodies rest c in
    record { head = piece ++ t.head; is = e ∙ ap (λ (u : List ℕ). piece ++ u) t.is ∙ sym (append_assoc piece t.head rest); frames = (piece, t.head, refl, f, t.frames) }

-- what was read before the AMQP header
pub record Before (layer : Bool) (read rest : List ℕ) : Type 0 where
  pub head : List ℕ
  pub is : read ≡ head ++ rest
  pub layered : IsLayerRead layer head

pub intro_read : (layer : Bool) (x : Authentication) (rest unwritten : List ℕ) (events : List LinkEvent) → HasIntro layer peer_mechanism x rest unwritten events → Before layer (read_of events) rest
intro_read true x rest unwritten events h =
    let t = carried h.heard.tail h.given rest h.heard.frames in
    record { head = sasl_header ++ t.head; is = h.heard.header ∙ ap (λ (u : List ℕ). sasl_header ++ u) t.is ∙ sym (append_assoc sasl_header t.head rest); layered = (h.given, record { tail = t.head; header = refl; frames = t.frames }) }
intro_read false x rest unwritten events h = record { head = []; is = h.heard; layered = refl }

-- what was written before the AMQP header, and what of that header
pub record Introduced (layer : Bool) (unwritten wrote : List ℕ) : Type 0 where
  pub head : List ℕ
  pub part : List ℕ
  pub is : wrote ≡ head ++ part
  pub header : part ++ unwritten ≡ amqp_header
  pub layered : IsLayerWritten layer head

pub intro_wrote : (layer : Bool) (x : Authentication) (rest unwritten : List ℕ) (events : List LinkEvent) → HasIntro layer peer_mechanism x rest unwritten events → Introduced layer unwritten (wrote_of events)
intro_wrote true x rest unwritten events h = record { head = said h.sent; part = h.part; is = h.wrote; header = h.header; layered = (h.sent, h.framed, refl) }
intro_wrote false x rest unwritten events h = record { head = []; part = wrote_of events; is = refl; header = h.wrote; layered = refl }

-- ---- what was written

-- behind a part of the header, the rest of it and frames
pub talk : (part unwritten since output bytes : List ℕ) → part ++ unwritten ≡ amqp_header → since ++ output ≡ unwritten ++ bytes → (part ++ since) ++ output ≡ amqp_header ++ bytes
talk part unwritten since output bytes h o =
    append_assoc part since output ∙ ap (λ (u : List ℕ). part ++ u) o ∙ sym (append_assoc part unwritten bytes) ∙ ap (λ (u : List ℕ). u ++ bytes) h

gated_guarded : (c : Option SaslCall) (layer : Bool) (x : Authentication) (events : List LinkEvent) → MadeIn c layer x → IsGuarded peer_mechanism layer x events → IsGatedIn c (wrote_of events) (read_of events)
gated_guarded None layer x events m g = inl (subst (λ (l : Bool). IsGuarded peer_mechanism l x events) m g)
gated_guarded (Some c) layer x events m g = gated_from IsTalk c x events m.1 (subst (λ (l : Bool). IsGuarded peer_mechanism l x events) m.0 g) (λ part b. inl b)

pub written_guarded : (call : Call) (layer : Bool) (x : Authentication) (h : List Local) → MadeIn (sasl_of call) layer x → IsGuarded peer_mechanism layer x (link_in h) → HasWritten call h
written_guarded call layer x h m g = gated_guarded (sasl_of call) layer x (link_in h) m g

pub written_exchanging : {L : Type 0} (call : Call) (o : Opened L Authentication) (p : Option Prepared) (h : List Local) → IsExchanging call o p h → HasWritten call h
written_exchanging call o p h k = gated_guarded (sasl_of call) o.has_sasl o.negotiation.exchange (link_in h) k.made (has_guarded peer_mechanism o (link_in h) k.opening)

gated_running : {L : Type 0} (c : Option SaslCall) (call : Call) (s : State L) (h : List Local) (k : IsRunning call s h) → MadeIn c k.layer k.x → IsGatedIn c (wrote_in h) (read_in h)
gated_running None call s h k m =
    let plain : IsPlain (amqp_header ++ k.arrived) k.unwritten k.before = subst (λ (l : Bool). HasIntro l peer_mechanism k.x (amqp_header ++ k.arrived) k.unwritten k.before) m k.intro in
    inr (record {
      frames = sent_in h;
      rest = s.wire.codec.output;
      is = ap (λ (u : List ℕ). u ++ s.wire.codec.output) (ap wrote_of k.passed ∙ wrote_of-append k.since k.before)
          ∙ talk (wrote_of k.before) k.unwritten (wrote_of k.since) s.wire.codec.output (bytes_of_all (sent_in h)) plain.wrote k.runs.out;
      form = said_form s.phase (sent_in h) k.runs.said;
    })
gated_running (Some c) call s h k m =
    let passed : HasPassed peer_mechanism k.x (amqp_header ++ k.arrived) k.unwritten k.before = subst (λ (l : Bool). HasIntro l peer_mechanism k.x (amqp_header ++ k.arrived) k.unwritten k.before) m.0 k.intro in
    gated_passed IsTalk c k.x (amqp_header ++ k.arrived) k.unwritten (wrote_of k.since) (read_of k.since) (wrote_in h) (read_in h) k.before m.1 passed
    (inr (record {
      frames = sent_in h;
      rest = s.wire.codec.output;
      is = talk passed.part k.unwritten (wrote_of k.since) s.wire.codec.output (bytes_of_all (sent_in h)) passed.header k.runs.out;
      form = said_form s.phase (sent_in h) k.runs.said;
    }))
    (ap wrote_of k.passed ∙ wrote_of-append k.since k.before) (ap read_of k.passed ∙ read_of-append k.since k.before)

pub written_running : {L : Type 0} (call : Call) (s : State L) (h : List Local) → IsRunning call s h → HasWritten call h
written_running call s h k = gated_running (sasl_of call) call s h k k.made

-- ---- what was queued

-- an end that made no call queued nothing
pub queued_idle : (h : List Local) → made_in h ≡ [] → link_in h ≡ [] → sent_in h ≡ [] → IsQueued h
queued_idle h m l s =
    record {
      head = [];
      tail = [];
      out = [];
      wrote = ap (λ (es : List LinkEvent). wrote_of es ++ []) l;
      layer = subst (λ (cs : List (ℕ × Call)). IsLayerWritten (has_layer cs) []) (sym m) refl;
      talk = inl (s, inl refl);
    }

-- without frames
queued_by : (layer : Bool) (head tail out : List ℕ) (h : List Local) → has_layer (made_in h) ≡ layer → wrote_of (link_in h) ++ out ≡ head ++ tail → IsLayerWritten layer head → IsTail (sent_in h) tail → IsQueued h
queued_by layer head tail out h e w l t = record { head = head; tail = tail; out = out; wrote = w; layer = subst (λ (b : Bool). IsLayerWritten b head) (sym e) l; talk = t }

queued_only : (h : List Local) → has_layer (made_in h) ≡ true → sent_in h ≡ [] → IsOnlySasl (wrote_of (link_in h)) → IsQueued h
queued_only h e s only = queued_by true (said only.bodies) [] only.rest h e (only.frames ∙ sym (append-nil (said only.bodies))) (only.bodies, only.framed, refl) (inl (s, inl refl))

queued_passed : (x : Authentication) (rest unwritten : List ℕ) (h : List Local) → has_layer (made_in h) ≡ true → sent_in h ≡ [] → HasPassed peer_mechanism x rest unwritten (link_in h) → IsQueued h
queued_passed x rest unwritten h e s p =
    queued_by true (said p.sent) amqp_header unwritten h e
    (ap (λ (u : List ℕ). u ++ unwritten) p.wrote ∙ append_assoc (said p.sent) p.part unwritten ∙ ap (λ (u : List ℕ). said p.sent ++ u) p.header) (p.sent, p.framed, refl) (inl (s, inr refl))

-- where a SASL layer was refused before its header was written
pub queued_nothing : (h : List Local) → has_layer (made_in h) ≡ true → link_in h ≡ [] → sent_in h ≡ [] → IsQueued h
queued_nothing h e l s = queued_only h e s (record { bodies = []; rest = said []; framed = All-nil HasSaslFrame; frames = ap (λ (es : List LinkEvent). wrote_of es ++ said []) l })

pub queued_guarded : (layer : Bool) (x : Authentication) (h : List Local) → has_layer (made_in h) ≡ layer → sent_in h ≡ [] → IsGuarded peer_mechanism layer x (link_in h) → IsQueued h
queued_guarded true x h e s (inl only) = queued_only h e s only
queued_guarded true x h e s (inr p) = queued_passed x p.0 p.1 h e s p.2
queued_guarded false x h e s g = queued_by false [] amqp_header g.0 h e g.1 refl (inl (s, inr refl))

pub queued_exchanging : {L : Type 0} (call : Call) (o : Opened L Authentication) (p : Option Prepared) (h : List Local) → IsExchanging call o p h → IsQueued h
queued_exchanging call o p h k = queued_guarded o.has_sasl o.negotiation.exchange h k.asked k.sent (has_guarded peer_mechanism o (link_in h) k.opening)

-- behind the headers
abbrev pub queued_running : {L : Type 0} (call : Call) (s : State L) (h : List Local) → IsRunning call s h → IsQueued h
queued_running call s h k =
    let i = intro_wrote k.layer k.x (amqp_header ++ k.arrived) k.unwritten k.before k.intro in
    record {
      head = i.head;
      tail = amqp_header ++ bytes_of_all (sent_in h);
      out = s.wire.codec.output;
      wrote = ap (λ (u : List ℕ). u ++ s.wire.codec.output) (ap wrote_of k.passed ∙ wrote_of-append k.since k.before ∙ ap (λ (u : List ℕ). u ++ wrote_of k.since) i.is ∙ append_assoc i.head i.part (wrote_of k.since))
          ∙ append_assoc i.head (i.part ++ wrote_of k.since) s.wire.codec.output
          ∙ ap (λ (u : List ℕ). i.head ++ u) (talk i.part k.unwritten (wrote_of k.since) s.wire.codec.output (bytes_of_all (sent_in h)) i.header k.runs.out);
      layer = subst (λ (b : Bool). IsLayerWritten b i.head) (sym k.asked) i.layered;
      talk = inr refl;
    }

-- all of it is written, unless the link was full
pub out_running : {L : Type 0} (call : Call) (s : State L) (h : List Local) → IsRunning call s h → Includes (link_in h) (NotWritten Full) ⊎ (s.wire.codec.output ≡ []) → IsOut h
out_running call s h k all = record { queued = queued_running call s h k; all = all }

-- ---- what was read

-- the frames that were read, and then what is left, also where more came
pub read_running : {L : Type 0} (call : Call) (s : State L) (h : List Local) (events : List LinkEvent) → IsRunning call s h → IsReadTo (at_link events ++ h) (s.wire.codec.input ++ read_of events)
read_running call s h events k =
    let i = intro_read k.layer k.x (amqp_header ++ k.arrived) k.unwritten k.before k.intro in
    record {
      head = i.head;
      behind = (k.arrived ++ read_of k.since) ++ read_of events;
      read = ap read_of (link_in-append (at_link events) h ∙ ap (λ (u : List LinkEvent). u ++ link_in h) (link_in-at events))
          ∙ read_of-append events (link_in h)
          ∙ ap (λ (u : List ℕ). u ++ read_of events) (ap read_of k.passed ∙ read_of-append k.since k.before ∙ ap (λ (u : List ℕ). u ++ read_of k.since) i.is
          ∙ append_assoc i.head (amqp_header ++ k.arrived) (read_of k.since) ∙ ap (λ (u : List ℕ). i.head ++ u) (append_assoc amqp_header k.arrived (read_of k.since)))
          ∙ append_assoc i.head (amqp_header ++ (k.arrived ++ read_of k.since)) (read_of events)
          ∙ ap (λ (u : List ℕ). i.head ++ u) (append_assoc amqp_header (k.arrived ++ read_of k.since) (read_of events));
      layer = subst (λ (b : Bool). IsLayerRead b i.head) (sym (ap has_layer (made_in-keeps (at_link events) h (inside-at events)) ∙ k.asked)) i.layered;
      joined = subst (λ (xs : List Frame). Joined 0 amqp_spells ((k.arrived ++ read_of k.since) ++ read_of events) xs (s.wire.codec.input ++ read_of events))
          (sym (given_in-append (at_link events) h ∙ ap (λ (u : List Frame). given_in h ++ u) (given_in-at events) ∙ append-nil (given_in h)))
          (joined_more 0 amqp_spells (k.arrived ++ read_of k.since) (given_in h) s.wire.codec.input (read_of events) k.runs.joined);
    }
