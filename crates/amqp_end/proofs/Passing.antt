-- What passed at the link of an end with sessions and links.
use Rattle.std.proofs.Common.{◌≡◌, ◌∙◌, inl, inr, ℕ, List, [], ◌∷◌, ◌++◌, Option, Some, Result, Ok, Err, refl, sym, ap, subst}
use Rattle.std.proofs.lemmas.List.{append-nil}
use Rattle.amqp_wire.specs.declared.link.Link.{Ghosts}
use Rattle.amqp_wire.specs.Events.{LinkEvent, Went}
use Rattle.amqp_wire.proofs.Events.{went_then}
use Rattle.amqp_frames.specs.declared.shared.IncomingSession.{IncomingSession}
use Rattle.amqp_links.specs.State.{State as Links, seen as linked}
use Rattle.amqp_transport.specs.declared.frames.Frame.{Frame}
use Rattle.amqp_engine.specs.declared.error.AllocSessionError.{AllocSessionError}
use Rattle.amqp_engine.specs.declared.error.AllocSessionError.TheVariants.{ChannelMaxReached, Memory}
use Rattle.amqp_engine.specs.Calls.{Allocates}
use Rattle.amqp_engine.specs.State.{State as Engine}
use Rattle.amqp_sessions.specs.amqp_link_words.declared.link_call.LinkCall.{LinkCall}
use Rattle.amqp_words.specs.declared.call.Call.{Call as ConnectionCall}
use Rattle.amqp_peer.specs.declared.held.Held.{Held}
use Rattle.amqp_peer.specs.declared.held.Held.TheVariants.{Early, Late, Unopened, Moving}
use Rattle.amqp_peer.specs.Held.{link_at}
use Rattle.amqp_peer.specs.History.{Local, Made, Polled, link_in}
use Rattle.amqp_peer.specs.Passing.{IsHeldAlone, TakesIncoming, TakesSession, AllocatesLate, freed_in}
use Rattle.amqp_peer.specs.Peering.{Peering, link_of}
use Rattle.amqp_peer.proofs.Laws.{link_in-append}
use Rattle.amqp_sessions.specs.State.{State, seen}
use Rattle.amqp_end.specs.declared.end.End.{End}
use Rattle.amqp_end.specs.Goes.{Goes as Going}
use Rattle.amqp_end.specs.Deeds.{Deed, Makes, Polls, Goes, Moves, Hears, Writes, Seats, Lacks, Frees, Accepts, Asks, LinksHear, LinksWrite, LinksLack, LinksKnow, LinksLook, Tells, TellsFirst, IsDeed, Did, adds, behind}

-- ---- one part of the connection

-- what passed at its link, and which side it is stays
pub record Passes {L : Type 0} (link : Ghosts L) (old new : Peering L) (events : List Local) : Type 0 where
  pub went : (d : L) → Went link (link_of d old) (link_in events) (link_of d new)
  pub kind : new.kind ≡ old.kind

passes_same : {L : Type 0} (link : Ghosts L) (a b : Peering L) → ((d : L) → link_of d b ≡ link_of d a) → b.kind ≡ a.kind → Passes link a b []
passes_same link a b same kind = record { went = same; kind = kind }

passes_still : {L : Type 0} (link : Ghosts L) (a b : Peering L) → b ≡ a → Passes link a b []
passes_still {L} link a b e = passes_same link a b (λ d. ap (λ (z : Peering L). link_of d z) e) (ap (λ (z : Peering L). z.kind) e)

passes_events : {L : Type 0} (link : Ghosts L) (a b : Peering L) (es fs : List Local) → es ≡ fs → Passes link a b es → Passes link a b fs
passes_events link a b es fs e k = subst (λ (u : List Local). Passes link a b u) e k

-- behind a call or a poll
passes_first : {L : Type 0} (link : Ghosts L) (a b : Peering L) (es : List Local) (first : Local) → link_in (first ∷ []) ≡ [] → Passes link a b es → Passes link a b (es ++ first ∷ [])
passes_first {L} link a b es first e k =
    let same : link_in (es ++ first ∷ []) ≡ link_in es = link_in-append es (first ∷ []) ∙ ap (λ (u : List LinkEvent). link_in es ++ u) e ∙ append-nil (link_in es) in
    record { went = λ d. subst (λ (u : List LinkEvent). Went link (link_of d a) u (link_of d b)) (sym same) (k.went d); kind = k.kind }

held_kind : {L : Type 0} (a b : Peering L) → IsHeldAlone a b → b.kind ≡ a.kind
held_kind {L} a b h = ap (λ (p : Peering L). p.kind) h

incoming_link : {L : Type 0} (d : L) (h : Held L) (x : Option Frame) (h' : Held L) → TakesIncoming h x h' → link_at d h' ≡ link_at d h
incoming_link {L} d (Early o p) x h' t = ap (λ (k : Held L). link_at d k) t.1
incoming_link {L} d (Late s) x h' t = ap (λ (k : Held L). link_at d k) t.1 ∙ ap (λ (z : Engine L). z.wire.codec.link) t.2.rest
incoming_link {L} d (Unopened c) x h' t = ap (λ (k : Held L). link_at d k) t.1
incoming_link {L} d Moving x h' t = ap (λ (k : Held L). link_at d k) t.1

session_link : {L : Type 0} (d : L) (h : Held L) (x : Option IncomingSession) (h' : Held L) → TakesSession h x h' → link_at d h' ≡ link_at d h
session_link {L} d (Early o p) x h' t = ap (λ (k : Held L). link_at d k) t.1
session_link {L} d (Late s) x h' t = ap (λ (k : Held L). link_at d k) t.1 ∙ ap (λ (z : Engine L). z.wire.codec.link) t.2.rest
session_link {L} d (Unopened c) x h' t = ap (λ (k : Held L). link_at d k) t.1
session_link {L} d Moving x h' t = ap (λ (k : Held L). link_at d k) t.1

freed_link : {L : Type 0} (d : L) (h : Held L) (channel : ℕ) → link_at d (freed_in h channel) ≡ link_at d h
freed_link d (Early o p) channel = refl
freed_link d (Late s) channel = refl
freed_link d (Unopened c) channel = refl
freed_link d Moving channel = refl

engine_allocated : {L : Type 0} (s : Engine L) (r : Result ℕ AllocSessionError) (s' : Engine L) → Allocates s r s' → s'.wire.codec.link ≡ s.wire.codec.link
engine_allocated {L} s (Ok channel) s' t = ap (λ (z : Engine L). z.wire.codec.link) t.2
engine_allocated {L} s (Err ChannelMaxReached) s' t = ap (λ (z : Engine L). z.wire.codec.link) t.1
engine_allocated {L} s (Err (Memory a)) s' t = ap (λ (z : Engine L). z.wire.codec.link) t

allocated_link : {L : Type 0} (d : L) (h : Held L) (r : Result ℕ AllocSessionError) (h' : Held L) → AllocatesLate h r h' → link_at d h' ≡ link_at d h
allocated_link d (Early o p) r h' t = absurd t
allocated_link d (Unopened c) r h' t = absurd t
allocated_link d Moving r h' t = absurd t
allocated_link {L} d (Late s) r h' t = ap (λ (k : Held L). link_at d k) t.1 ∙ engine_allocated s r t.0 t.2

-- ---- one deed

passes_incoming : {L : Type 0} (link : Ghosts L) (a : Peering L) (x : Option Frame) (b : Peering L) → TakesIncoming a.held x b.held → IsHeldAlone a b → Passes link a b []
passes_incoming link a x b t h = passes_same link a b (λ d. incoming_link d a.held x b.held t) (held_kind a b h)

passes_session : {L : Type 0} (link : Ghosts L) (a : Peering L) (x : Option IncomingSession) (b : Peering L) → TakesSession a.held x b.held → IsHeldAlone a b → Passes link a b []
passes_session link a x b t h = passes_same link a b (λ d. session_link d a.held x b.held t) (held_kind a b h)

passes_allocated : {L : Type 0} (link : Ghosts L) (a : Peering L) (r : Result ℕ AllocSessionError) (b : Peering L) → AllocatesLate a.held r b.held → IsHeldAlone a b → Passes link a b []
passes_allocated link a r b t h = passes_same link a b (λ d. allocated_link d a.held r b.held t) (held_kind a b h)

passes_freed : {L : Type 0} (link : Ghosts L) (a b : Peering L) (channel : ℕ) → b ≡ record a { held = freed_in a.held channel } → Passes link a b []
passes_freed {L} link a b channel e = passes_same link a b (λ d. ap (λ (z : Peering L). link_of d z) e ∙ freed_link d a.held channel) (ap (λ (z : Peering L). z.kind) e)

passes_told : {L : Type 0} (link : Ghosts L) (a b : Peering L) → b ≡ record a { replies = [] } → Passes link a b []
passes_told {L} link a b e = passes_same link a b (λ d. ap (λ (z : Peering L). link_of d z) e) (ap (λ (z : Peering L). z.kind) e)

deed_passes : {L : Type 0} (link : Ghosts L) (at : ℕ) (d : Deed) (p p' : Peering L) (s s' : State) (l l' : Links) → IsDeed link at p s l d p' s' l' → Passes link p p' (adds at d)
deed_passes link at (Makes name call events) p p' s s' l l' h = passes_first link p p' events (Made at name call) refl (passes_events link p p' h.0.0.events events h.0.1 (record { went = h.0.0.went; kind = h.0.0.kind }))
deed_passes link at (Polls events) p p' s s' l l' h = passes_first link p p' events (Polled at) refl (passes_events link p p' h.0.0.events events h.0.1 (record { went = h.0.0.went; kind = h.0.0.kind }))
deed_passes link at (Goes events) p p' s s' l l' (inl k, e, f) = passes_events link p p' k.0.0.run.events events k.1 (record { went = k.0.0.run.went; kind = k.0.0.run.kind })
deed_passes link at (Goes events) p p' s s' l l' (inr k, e, f) = passes_events link p p' k.0.0.run.events events k.1 (record { went = k.0.0.run.went; kind = k.0.0.run.kind })
deed_passes link at (Moves m) p p' s s' l l' h = passes_still link p p' h.0
deed_passes link at (Hears x) p p' s s' l l' h = passes_incoming link p (Some x) p' h.0 h.1
deed_passes {L} link at (Writes x events) p p' s s' l l' h =
    let k = h.0.sent in
    passes_events link p p' k.events events h.0.adds (record { went = λ d. subst (λ (u : List LinkEvent). Went link (link_of d p) u (link_of d p')) (sym k.silent) (k.link_is d); kind = k.kind })
deed_passes link at (Seats channel) p p' s s' l l' h = passes_allocated link p (Ok channel) p' h.0 h.1
deed_passes link at (Lacks e) p p' s s' l l' h = passes_allocated link p (Err e) p' h.0 h.1
deed_passes link at (Frees channel) p p' s s' l l' h = passes_freed link p p' channel h.1
deed_passes link at (Accepts name x channel limit incoming) p p' s s' l l' h = passes_session link p (Some incoming) p' h.0 h.1
deed_passes link at (Asks name call) p p' s s' l l' h = passes_still link p p' h.0
deed_passes link at (LinksHear session x) p p' s s' l l' h = passes_still link p p' h.0
deed_passes link at (LinksWrite session x) p p' s s' l l' h = passes_still link p p' h.0
deed_passes link at (LinksLack session) p p' s s' l l' h = passes_still link p p' h.0
deed_passes link at LinksKnow p p' s s' l l' h = passes_still link p p' h.0
deed_passes link at LinksLook p p' s s' l l' h = passes_still link p p' h.0
deed_passes link at (Tells answers) p p' s s' l l' h = passes_told link p p' h.0
deed_passes link at (TellsFirst name answers) p p' s s' l l' h = passes_told link p p' h.0

-- ---- all of them

passes_then : {L : Type 0} (link : Ghosts L) (a b c : Peering L) (es fs : List Local) → Passes link a b es → Passes link b c fs → Passes link a c (fs ++ es)
passes_then {L} link a b c es fs x y = record {
  went = λ d. subst (λ (u : List LinkEvent). Went link (link_of d a) u (link_of d c)) (sym (link_in-append fs es)) (went_then link (link_of d a) (link_of d b) (link_of d c) (link_in es) (link_in fs) (x.went d) (y.went d));
  kind = y.kind ∙ x.kind;
}

pub did_passes : {L : Type 0} (link : Ghosts L) (at : ℕ) (ds : List Deed) (p p' : Peering L) (s s' : State) (l l' : Links) → Did link at p s l ds p' s' l' → Passes link p p' (behind at ds [])
did_passes link at [] p p' s s' l l' h = passes_still link p p' h.0
did_passes link at (d ∷ ds) p p' s s' l l' h =
    passes_then link p h.0 p' (behind at ds []) (adds at d) (did_passes link at ds p h.0 s h.1 l h.2 h.3) (deed_passes link at d h.0 p' h.1 s' h.2 l' h.4)

pub goes_passes : {L : Type 0} (link : Ghosts L) (at : ℕ) {call : Option ℕ} (calls : List (ℕ × ConnectionCall)) {asks : List (ℕ × LinkCall)} (a b : End L) (g : Going link at call calls asks a b) → Passes link a.connection b.connection (behind at g.deeds [])
goes_passes link at calls a b g = did_passes link at g.deeds a.connection b.connection (seen a.sessions) (seen b.sessions) (linked a.links) (linked b.links) g.did
