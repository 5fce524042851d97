-- What an opening went through, joined.
use Rattle.std.proofs.Common.{◌≡◌, ◌<◌, ◌≤◌, inl, inr, ℕ, Bool, true, false, List, [], ◌++◌, length, take, drop, Option, Some, None, Result, Ok, Err, refl, sym, ap, ◌∙◌, subst, append_assoc, arith}
use Rattle.std.proofs.lemmas.List.{append-nil, take-append-drop}
use Rattle.std.specs.declared.alloc.AllocError.{AllocError}
use Rattle.sasl_gate.specs.amqp_sasl_bodies.declared.sasl_body.SaslBody.{SaslBody}
use Rattle.amqp_wire.specs.declared.link.Link.{Ghosts}
use Rattle.amqp_wire.specs.declared.link.Stop.{Stop}
use Rattle.amqp_wire.specs.declared.link.Stop.TheVariants.{Empty, End, Failed as FailedRead}
use Rattle.amqp_wire.specs.declared.link.Held.{Held}
use Rattle.amqp_wire.specs.declared.link.Held.TheVariants.{Full, Failed as FailedWrite}
use Rattle.amqp_wire.specs.declared.link.IoKind.TheVariants.{Fault, End as InputEnd}
use Rattle.amqp_wire.specs.declared.reading.Wait.{Wait}
use Rattle.amqp_wire.specs.declared.reading.Wait.TheVariants.{Stopped, Spent}
use Rattle.amqp_wire.specs.Codec.{Codec, Flushed}
use Rattle.amqp_wire.specs.Events.{LinkEvent, NotRead, read_of, wrote_of}
use Rattle.amqp_wire.specs.Reading.{ReadOn}
use Rattle.amqp_wire.proofs.Events.{went_then, read_of-append, wrote_of-append, reads_in-append, includes_left}
use Rattle.sasl_gate.specs.sasl_exchange.declared.error.NegotiationError.{NegotiationError}
use Rattle.sasl_gate.specs.sasl_exchange.declared.error.NegotiationError.TheVariants.{Memory, ProtocolHeaderMismatch, NotImplemented, SaslError, ScramError, Io, DecodeError, IllegalState, FramingError}
use Rattle.sasl_gate.specs.sasl_exchange.declared.exchange.Exchange.{Ghosts as Mechanism}
use Rattle.sasl_gate.specs.declared.gate.negotiation.GatePoll.TheVariants as gate
use Rattle.sasl_gate.specs.declared.gate.negotiation.Phase.{Phase}
use Rattle.sasl_gate.specs.declared.gate.negotiation.Phase.TheVariants.{Header as HeaderPhase, Frames, Failed}
use Rattle.sasl_gate.specs.Frames.{Heard, said, sasl_header}
use Rattle.sasl_gate.specs.Negotiation.{Negotiating, LinkCause, at_link as link_failed, IsOutcomeOut, HasFrames, HasFailure, HasIn, Has, IsAtRestOrFull as IsNegotiationAtRestOrFull, IsMemoryOr, GoesOn, IsPassed, Polled}
use Rattle.sasl_gate.proofs.Gates.{only_sasl}
use Rattle.sasl_gate.proofs.Negotiations.{flush_events, goes_flushed, heard_more, held_later}
use Rattle.amqp_opening.specs.declared.opening.OpeningPoll.{OpeningPoll}
use Rattle.amqp_opening.specs.declared.opening.OpeningPoll.TheVariants as poll
use Rattle.amqp_opening.specs.declared.opening.Stage.{Stage}
use Rattle.amqp_opening.specs.declared.opening.Stage.TheVariants.{Idle, Negotiating as NegotiatingStage, Header, Exchanged, Ended}
use Rattle.amqp_opening.specs.Opening.{amqp_header, Opened, begun, begun_plain, IsUnderWay, HasPassed, HasIntro, HasAt, HasOpening, IsGuarded, IsSaslCause, in_negotiation, at_amqp_header, at_link, at_plain_header, IsSaslCauseAfter, HasEnding, Moves, Keeps, IsAtRestAt, IsAtRest, IsAtRestOrFull, ComesTo, Ran, IsStopEnd, IsMemoryIn}

-- ---- how it begins

-- with a SASL layer
pub has_begun : {L X : Type 0} (m : Mechanism X) (o : Opened L X) (x : X) (events : List LinkEvent) → m.holds x [] [] → o.negotiation.codec.input ≡ [] → o.negotiation.codec.output ≡ []
    → o.negotiation.phase ≡ HeaderPhase → events ≡ [] → HasOpening m (begun o x) events
has_begun m o x events held input output phase none = (
  refl,
  subst (λ (p : Phase). HasIn m p (begun o x).negotiation events) (sym phase)
      (record {
        read = ap read_of none ∙ sym input;
        wrote = ap (λ (u : List LinkEvent). wrote_of u ++ (o.negotiation.codec.output ++ sasl_header)) none ∙ ap (λ (u : List ℕ). u ++ sasl_header) output;
        held = held;
      }),
)

-- without
pub has_begun_plain : {L X : Type 0} (m : Mechanism X) (o : Opened L X) (events : List LinkEvent) → o.negotiation.codec.input ≡ [] → o.negotiation.codec.output ≡ [] → events ≡ []
    → HasOpening m (begun_plain o) events
has_begun_plain m o events input output none =
    record {
      heard = ap read_of none ∙ sym input;
      wrote = ap (λ (u : List LinkEvent). wrote_of u ++ (o.negotiation.codec.output ++ amqp_header)) none ∙ ap (λ (u : List ℕ). u ++ amqp_header) output;
    }

-- ---- what it says

-- before the AMQP header of the other end nothing else was written
intro_guarded : {X : Type 0} (m : Mechanism X) (s : Bool) (x : X) (rest unwritten : List ℕ) (events : List LinkEvent) → HasIntro s m x rest unwritten events → IsGuarded m s x events
intro_guarded m true x rest unwritten events h = inr (rest, unwritten, h)
intro_guarded m false x rest unwritten events h = (unwritten, h.wrote)

sasl_guarded : {L X : Type 0} (m : Mechanism X) (s : Bool) (n : Negotiating L X) (events : List LinkEvent) → s ≡ true → Has m n events → IsGuarded m s n.exchange events
sasl_guarded m s n events e h = subst (λ (b : Bool). IsGuarded m b n.exchange events) (sym e) (inl (only_sasl m n events h))

guarded_at : {L X : Type 0} (m : Mechanism X) (s : Bool) (stage : Stage) (n : Negotiating L X) (events : List LinkEvent) → HasAt m s stage n events → IsGuarded m s n.exchange events
guarded_at m s Idle n events h = absurd h
guarded_at m s NegotiatingStage n events h = sasl_guarded m s n events h.0 h.1
guarded_at m s Header n events h = intro_guarded m s n.exchange n.codec.input n.codec.output events h
guarded_at m s Exchanged n events h = intro_guarded m s n.exchange (amqp_header ++ n.codec.input) n.codec.output events h.0
guarded_at m s Ended n events h = absurd h

-- an opening that has begun is guarded
pub has_guarded : {L X : Type 0} (m : Mechanism X) (o : Opened L X) (events : List LinkEvent) → HasOpening m o events → IsGuarded m o.has_sasl o.negotiation.exchange events
has_guarded m o events h = guarded_at m o.has_sasl o.stage o.negotiation events h

-- both AMQP headers are there
pub has_exchanged : {L X : Type 0} (m : Mechanism X) (o : Opened L X) (events : List LinkEvent) → o.stage ≡ Exchanged → HasOpening m o events
    → HasIntro o.has_sasl m o.negotiation.exchange (amqp_header ++ o.negotiation.codec.input) o.negotiation.codec.output events × (o.negotiation.codec.output ≡ [])
has_exchanged m o events stage h = subst (λ (s : Stage). HasAt m o.has_sasl s o.negotiation events) stage h

-- the link that it holds is no part of what it says
negotiation_with : {L X : Type 0} (m : Mechanism X) (p : Phase) (n : Negotiating L X) (w : L) (events : List LinkEvent) → HasIn m p n events → HasIn m p (record n { codec = record n.codec { link = w } }) events
negotiation_with m HeaderPhase n w events h = record { read = h.read; wrote = h.wrote; held = h.held }
negotiation_with m Frames n w events h = record { given = h.given; sent = h.sent; heard = h.heard; wrote = h.wrote; framed = h.framed; held = h.held }
negotiation_with m (Failed e) n w events h =
    record { given = h.given; sent = h.sent; heard = h.heard; wrote = h.wrote; framed = h.framed; held = h.held; cause = h.cause; after = h.after; told = h.told }

at_with : {L X : Type 0} (m : Mechanism X) (s : Bool) (stage : Stage) (n : Negotiating L X) (w : L) (events : List LinkEvent) → HasAt m s stage n events → HasAt m s stage (record n { codec = record n.codec { link = w } }) events
at_with m s Idle n w events h = absurd h
at_with m s NegotiatingStage n w events h = (h.0, negotiation_with m n.phase n w events h.1)
at_with m s Header n w events h = h
at_with m s Exchanged n w events h = h
at_with m s Ended n w events h = absurd h

pub has_with_link : {L X : Type 0} (m : Mechanism X) (o : Opened L X) (w : L) (events : List LinkEvent) → HasOpening m o events
    → HasOpening m (record o { negotiation = record o.negotiation { codec = record o.negotiation.codec { link = w } } }) events
has_with_link m o w events h = at_with m o.has_sasl o.stage o.negotiation w events h

-- ---- one thing after another

rests_later : {L X : Type 0} (m : Mechanism X) (es fs : List LinkEvent) (o : Opened L X) → IsAtRestOrFull m fs o → IsAtRestOrFull m (fs ++ es) o
rests_later m es fs o (inl p) = inl p
rests_later m es fs o (inr p) = inr (includes_left fs es _ p)

keeps_after : {L X : Type 0} (m : Mechanism X) (a b c : Opened L X) (es fs : List LinkEvent) → Keeps m a es b → Keeps m b fs c → Keeps m a (fs ++ es) c
keeps_after m a b c es fs p q before h = subst (λ (u : List LinkEvent). HasOpening m c u) (sym (append_assoc fs es before)) (q (es ++ before) (p before h))

comes_after : {L X : Type 0} (m : Mechanism X) (a b c : Opened L X) (es fs : List LinkEvent) (n : ℕ) (r : Result OpeningPoll AllocError) → Keeps m a es b → ComesTo m b fs r c n → ComesTo m a (fs ++ es) r c n
comes_after m a b c es fs n (Ok poll.Pending) g q = (q.0, held_later es fs n q.1, keeps_after m a b c es fs g q.2, rests_later m es fs c q.3)
comes_after m a b c es fs n (Ok poll.Exchanged) g q = (q.0, keeps_after m a b c es fs g q.1)
comes_after m a b c es fs n (Ok (poll.Failed e)) g q =
    (q.0, λ before h. subst (λ (u : List LinkEvent). HasEnding m c.has_sasl c.negotiation.exchange e u) (sym (append_assoc fs es before)) (q.1 (es ++ before) (g before h)))
comes_after m a b c es fs n (Err e) g q = tt

-- a run after something else
pub ran_after : {L X : Type 0} (link : Ghosts L) (m : Mechanism X) (a b c : Opened L X) (l k n : ℕ) (es : List LinkEvent) (r : Result OpeningPoll AllocError)
    → m.same a.negotiation.exchange c.negotiation.exchange → Moves link m a l es b k → Keeps m a es b → Ran link m b k r c n → Ran link m a l r c n
ran_after link m a b c l k n es r s p g q =
    record {
      events = q.events ++ es;
      moves = record {
        went = went_then link a.negotiation.codec.link b.negotiation.codec.link c.negotiation.codec.link es q.events p.went q.moves.went;
        counted = omega (arith, reads_in-append q.events es, p.counted, q.moves.counted);
        kept = s;
        layer = q.moves.layer ∙ p.layer;
      };
      comes = comes_after m a b c es q.events n r g q.comes;
    }

-- want of memory after something else
pub ran_memory : {L X : Type 0} (link : Ghosts L) (m : Mechanism X) (a b : Opened L X) (l k : ℕ) (es : List LinkEvent) (e : AllocError) → Moves link m a l es b k → Ran {E = AllocError} link m a l (Err e) b k
ran_memory link m a b l k es e p = record { events = es; moves = p; comes = tt }

pub moves_none : {L X : Type 0} (link : Ghosts L) (m : Mechanism X) (a b : Opened L X) (left : ℕ) → m.same a.negotiation.exchange b.negotiation.exchange → b.negotiation.codec.link ≡ a.negotiation.codec.link → b.has_sasl ≡ a.has_sasl → Moves link m a left [] b left
moves_none link m a b left s e l = record { went = e; counted = omega arith; kept = s; layer = l }

-- ---- while the AMQP header of the other end is awaited

-- an opening with another codec
abbrev pub with_codec : {L X : Type 0} → Opened L X → Codec L → Opened L X
with_codec o c = record o { negotiation = record o.negotiation { codec = c } }

-- what an opening has then
abbrev Awaits : {L X : Type 0} → Mechanism X → Opened L X → List LinkEvent → Type 0
Awaits m o events = HasIntro o.has_sasl m o.negotiation.exchange o.negotiation.codec.input o.negotiation.codec.output events

to_awaits : {L X : Type 0} (m : Mechanism X) (o : Opened L X) (events : List LinkEvent) → o.stage ≡ Header → HasOpening m o events → Awaits m o events
to_awaits m o events stage h = subst (λ (s : Stage). HasAt m o.has_sasl s o.negotiation events) stage h

of_awaits : {L X : Type 0} (m : Mechanism X) (o : Opened L X) (events : List LinkEvent) → o.stage ≡ Header → Awaits m o events → HasOpening m o events
of_awaits m o events stage h = subst (λ (s : Stage). HasAt m o.has_sasl s o.negotiation events) (sym stage) h

under_way : (s : Stage) → s ≡ Header → IsUnderWay s
under_way s e = subst IsUnderWay (sym e) tt

-- other bytes were read and written
intro_moved : {X : Type 0} (m : Mechanism X) (s : Bool) (x : X) (rest more out out' bytes : List ℕ) (before after : List LinkEvent) → read_of after ≡ read_of before ++ more → wrote_of after ≡ wrote_of before ++ bytes → out ≡ bytes ++ out'
    → HasIntro s m x rest out before → HasIntro s m x (rest ++ more) out' after
intro_moved m true x rest more out out' bytes before after r w o h =
    record {
      given = h.given;
      sent = h.sent;
      heard = subst (λ (u : List ℕ). Heard u h.given (rest ++ more)) (sym r) (heard_more (read_of before) more rest h.given h.heard);
      part = h.part ++ bytes;
      wrote = w ∙ ap (λ (u : List ℕ). u ++ bytes) h.wrote ∙ append_assoc (said h.sent) h.part bytes;
      header = append_assoc h.part bytes out' ∙ ap (λ (u : List ℕ). h.part ++ u) (sym o) ∙ h.header;
      framed = h.framed;
      held = h.held;
      turn = h.turn;
    }
intro_moved m false x rest more out out' bytes before after r w o h =
    record {
      heard = r ∙ ap (λ (u : List ℕ). u ++ more) h.heard;
      wrote = ap (λ (u : List ℕ). u ++ out') w ∙ append_assoc (wrote_of before) bytes out' ∙ ap (λ (u : List ℕ). wrote_of before ++ u) (sym o) ∙ h.wrote;
    }

awaits_moved : {L X : Type 0} (m : Mechanism X) (o : Opened L X) (c : Codec L) (before after : List LinkEvent) (more bytes : List ℕ) → o.stage ≡ Header
    → read_of after ≡ read_of before ++ more → c.input ≡ o.negotiation.codec.input ++ more → wrote_of after ≡ wrote_of before ++ bytes → o.negotiation.codec.output ≡ bytes ++ c.output
    → HasOpening m o before → Awaits m (with_codec o c) after
awaits_moved m o c before after more bytes stage r i w out h =
    subst (λ (u : List ℕ). HasIntro o.has_sasl m o.negotiation.exchange u c.output after) (sym i)
    (intro_moved m o.has_sasl o.negotiation.exchange o.negotiation.codec.input more o.negotiation.codec.output c.output bytes before after r w out (to_awaits m o before stage h))

-- it failed behind an exchange that has passed
passed_ended : {X : Type 0} (m : Mechanism X) (x : X) (e : NegotiationError) (rest unwritten : List ℕ) (events : List LinkEvent) (cause : IsSaslCause m x e events) (h : HasPassed m x rest unwritten events)
    → IsSaslCauseAfter m x e events h.given h.sent cause → IsOutcomeOut e events h.sent → HasEnding m true x e events
passed_ended m x e rest unwritten events cause h about told =
    record {
      guarded = inr (rest, unwritten, h);
      cause = cause;
      exchange = record {
        given = h.given;
        sent = h.sent;
        heard = inr (rest, h.heard);
        framed = h.framed;
        out = unwritten;
        after = amqp_header;
        wrote = ap (λ (u : List ℕ). u ++ unwritten) h.wrote ∙ append_assoc (said h.sent) h.part unwritten ∙ ap (λ (u : List ℕ). said h.sent ++ u) h.header;
        behind = inr (h.turn, refl);
        held = h.held;
        about = about;
        told = told;
      };
    }

-- an error of the link is of no outcome
link_told : (e : NegotiationError) (events : List LinkEvent) (sent : List SaslBody) → LinkCause e events → IsOutcomeOut e events sent
link_told (Memory a) events sent c = tt
link_told (ProtocolHeaderMismatch h) events sent c = tt
link_told NotImplemented events sent c = tt
link_told (SaslError code payload) events sent c = absurd c
link_told (ScramError kind) events sent c = tt
link_told (Io kind) events sent c = tt
link_told DecodeError events sent c = tt
link_told IllegalState events sent c = tt
link_told FramingError events sent c = tt

-- the link failed
link_ending : {X : Type 0} (m : Mechanism X) (s : Bool) (x : X) (e : NegotiationError) (rest unwritten : List ℕ) (events : List LinkEvent) → HasIntro s m x rest unwritten events → LinkCause e events → HasEnding m s x e events
link_ending m true x e rest unwritten events h c = passed_ended m x e rest unwritten events (in_negotiation (link_failed c)) h tt (link_told e events h.sent c)
link_ending m false x e rest unwritten events h c = record { guarded = (unwritten, h.wrote); cause = at_link c; exchange = tt }

ends_link : {L X : Type 0} (m : Mechanism X) (o : Opened L X) (e : NegotiationError) (events : List LinkEvent) → Awaits m o events → LinkCause e events → HasEnding m o.has_sasl o.negotiation.exchange e events
ends_link m o e events h c = link_ending m o.has_sasl o.negotiation.exchange e o.negotiation.codec.input o.negotiation.codec.output events h c

-- bytes came in
pub moves_read : {L X : Type 0} (link : Ghosts L) (m : Mechanism X) (o : Opened L X) (c : Codec L) (w : Wait) (left k : ℕ) → m.same o.negotiation.exchange o.negotiation.exchange
    → (r : ReadOn link o.negotiation.codec left w c k) → Moves link m o left r.events (with_codec o c) k
moves_read link m o c w left k s r = record { went = r.went; counted = r.counted; kept = s; layer = refl }

awaits_read : {L X : Type 0} (link : Ghosts L) (m : Mechanism X) (o : Opened L X) (c : Codec L) (w : Wait) (left k : ℕ) → o.stage ≡ Header
    → (r : ReadOn link o.negotiation.codec left w c k) (before : List LinkEvent) → HasOpening m o before → Awaits m (with_codec o c) (r.events ++ before)
awaits_read link m o c w left k stage r before h =
    awaits_moved m o c before (r.events ++ before) (read_of r.events) [] stage (read_of-append r.events before) r.input
    (wrote_of-append r.events before ∙ ap (λ (u : List ℕ). wrote_of before ++ u) r.silent) (sym r.output) h

pub keeps_read : {L X : Type 0} (link : Ghosts L) (m : Mechanism X) (o : Opened L X) (c : Codec L) (w : Wait) (left k : ℕ) → o.stage ≡ Header
    → (r : ReadOn link o.negotiation.codec left w c k) → Keeps m o r.events (with_codec o c)
keeps_read link m o c w left k stage r before h = of_awaits m (with_codec o c) (r.events ++ before) stage (awaits_read link m o c w left k stage r before h)

-- it waits for that header
rests_header : {L X : Type 0} (m : Mechanism X) (o : Opened L X) (c : Codec L) → o.stage ≡ Header → c.output ≡ [] → length c.input < 8 → IsAtRest m (with_codec o c)
rests_header {L} {X} m o c stage out few = subst (λ (s : Stage). IsAtRestAt m s (record o.negotiation { codec = c })) (sym stage) (out, few)

-- all reads are made
pub ran_spent : {L X : Type 0} (link : Ghosts L) (m : Mechanism X) (o : Opened L X) (c : Codec L) (left k : ℕ) → o.stage ≡ Header → m.same o.negotiation.exchange o.negotiation.exchange
    → o.negotiation.codec.output ≡ [] → length c.input < 8 → ReadOn link o.negotiation.codec left Spent c k → Ran {E = AllocError} link m o left (Ok poll.Pending) (with_codec o c) k
ran_spent link m o c left k stage s out few r =
    record { events = r.events; moves = moves_read link m o c Spent left k s r; comes = (under_way o.stage stage, inr (inr r.end), keeps_read link m o c Spent left k stage r, inl (rests_header m o c stage (r.output ∙ out) few)) }

-- a read ended it
ran_read_failed : {L X : Type 0} (link : Ghosts L) (m : Mechanism X) (o : Opened L X) (c : Codec L) (stop : Stop) (e : NegotiationError) (left k : ℕ) → o.stage ≡ Header → m.same o.negotiation.exchange o.negotiation.exchange
    → (r : ReadOn link o.negotiation.codec left (Stopped stop) c k) → ((before : List LinkEvent) → LinkCause e (r.events ++ before)) → Ran {E = AllocError} link m o left (Ok (poll.Failed e)) (record (with_codec o c) { stage = Ended }) k
ran_read_failed link m o c stop e left k stage s r cause =
    record {
      events = r.events;
      moves = record { went = r.went; counted = r.counted; kept = s; layer = refl };
      comes = (refl, λ before h. ends_link m (with_codec o c) e (r.events ++ before) (awaits_read link m o c (Stopped stop) left k stage r before h) (cause before));
    }

-- a read gave nothing
pub ran_stopped : {L X : Type 0} (link : Ghosts L) (m : Mechanism X) (o : Opened L X) (c : Codec L) (stop : Stop) (left k : ℕ) (result : OpeningPoll) (new : Opened L X) → o.stage ≡ Header → m.same o.negotiation.exchange o.negotiation.exchange
    → o.negotiation.codec.output ≡ [] → length c.input < 8 → ReadOn link o.negotiation.codec left (Stopped stop) c k → IsStopEnd stop (with_codec o c) result new → Ran {E = AllocError} link m o left (Ok result) new k
ran_stopped {L} {X} link m o c Empty left k result new stage s out few r e =
    subst (λ (t : OpeningPoll). Ran {E = AllocError} link m o left (Ok t) new k) (sym e.0) (subst (λ (p : Opened L X). Ran {E = AllocError} link m o left (Ok poll.Pending) p k) (sym e.1)
    (record { events = r.events; moves = moves_read link m o c (Stopped Empty) left k s r; comes = (under_way o.stage stage, inl r.end, keeps_read link m o c (Stopped Empty) left k stage r, inl (rests_header m o c stage (r.output ∙ out) few)) }))
ran_stopped {L} {X} link m o c End left k result new stage s out few r e =
    subst (λ (t : OpeningPoll). Ran {E = AllocError} link m o left (Ok t) new k) (sym e.0) (subst (λ (p : Opened L X). Ran {E = AllocError} link m o left (Ok (poll.Failed (Io InputEnd))) p k) (sym e.1)
    (ran_read_failed link m o c End (Io InputEnd) left k stage s r (λ before. includes_left r.events before (NotRead End) r.end)))
ran_stopped {L} {X} link m o c FailedRead left k result new stage s out few r e =
    subst (λ (t : OpeningPoll). Ran {E = AllocError} link m o left (Ok t) new k) (sym e.0) (subst (λ (p : Opened L X). Ran {E = AllocError} link m o left (Ok (poll.Failed (Io Fault))) p k) (sym e.1)
    (ran_read_failed link m o c FailedRead (Io Fault) left k stage s r (λ before. inl (includes_left r.events before (NotRead FailedRead) r.end))))

-- what was queued went out
flush_read : (bytes : List ℕ) (held : Option Held) (before : List LinkEvent) → read_of (flush_events bytes held ++ before) ≡ read_of before ++ []
flush_read bytes None before = sym (append-nil (read_of before))
flush_read bytes (Some held) before = sym (append-nil (read_of before))

flush_wrote : (bytes : List ℕ) (held : Option Held) (before : List LinkEvent) → wrote_of (flush_events bytes held ++ before) ≡ wrote_of before ++ bytes
flush_wrote bytes None before = refl
flush_wrote bytes (Some held) before = refl

pub moves_flushed : {L X : Type 0} (link : Ghosts L) (m : Mechanism X) (o : Opened L X) (c : Codec L) (held : Option Held) (left : ℕ) → m.same o.negotiation.exchange o.negotiation.exchange
    → (f : Flushed link o.negotiation.codec held c) → Moves link m o left (flush_events f.bytes held) (with_codec o c) left
moves_flushed link m o c held left s f =
    let g = goes_flushed link m (record o.negotiation { phase = Frames }) c held left tt s f in
    record { went = g.went; counted = g.counted; kept = s; layer = refl }

awaits_flushed : {L X : Type 0} (link : Ghosts L) (m : Mechanism X) (o : Opened L X) (c : Codec L) (held : Option Held) → o.stage ≡ Header
    → (f : Flushed link o.negotiation.codec held c) (before : List LinkEvent) → HasOpening m o before → Awaits m (with_codec o c) (flush_events f.bytes held ++ before)
awaits_flushed {L} link m o c held stage f before h =
    let i : c.input ≡ o.negotiation.codec.input = ap (λ (k : Codec L). k.input) f.rest in
    awaits_moved m o c before (flush_events f.bytes held ++ before) [] f.bytes stage (flush_read f.bytes held before) (i ∙ sym (append-nil o.negotiation.codec.input))
    (flush_wrote f.bytes held before) f.out h

pub keeps_flushed : {L X : Type 0} (link : Ghosts L) (m : Mechanism X) (o : Opened L X) (c : Codec L) (held : Option Held) → o.stage ≡ Header
    → (f : Flushed link o.negotiation.codec held c) → Keeps m o (flush_events f.bytes held) (with_codec o c)
keeps_flushed link m o c held stage f before h = of_awaits m (with_codec o c) (flush_events f.bytes held ++ before) stage (awaits_flushed link m o c held stage f before h)

-- no more was taken
pub ran_full : {L X : Type 0} (link : Ghosts L) (m : Mechanism X) (o : Opened L X) (c : Codec L) (left : ℕ) → o.stage ≡ Header → m.same o.negotiation.exchange o.negotiation.exchange
    → Flushed link o.negotiation.codec (Some Full) c → Ran {E = AllocError} link m o left (Ok poll.Pending) (with_codec o c) left
ran_full link m o c left stage s f =
    record { events = flush_events f.bytes (Some Full); moves = moves_flushed link m o c (Some Full) left s f; comes = (under_way o.stage stage, inr (inl (inl refl)), keeps_flushed link m o c (Some Full) stage f, inr (inl refl)) }

-- the link failed
pub ran_failed : {L X : Type 0} (link : Ghosts L) (m : Mechanism X) (o : Opened L X) (c : Codec L) (left : ℕ) → o.stage ≡ Header → m.same o.negotiation.exchange o.negotiation.exchange
    → Flushed link o.negotiation.codec (Some FailedWrite) c → Ran {E = AllocError} link m o left (Ok (poll.Failed (Io Fault))) (record (with_codec o c) { stage = Ended }) left
ran_failed link m o c left stage s f =
    let g = moves_flushed link m o c (Some FailedWrite) left s f in
    record {
      events = flush_events f.bytes (Some FailedWrite);
      moves = record { went = g.went; counted = g.counted; kept = g.kept; layer = refl };
      comes = (
        refl,
        λ before h. ends_link m (with_codec o c) (Io Fault) (flush_events f.bytes (Some FailedWrite) ++ before) (awaits_flushed link m o c (Some FailedWrite) stage f before h) (inr (inl refl)),
      );
    }

-- the AMQP header was read
pub ran_exchanged : {L X : Type 0} (link : Ghosts L) (m : Mechanism X) (o : Opened L X) (left : ℕ) → o.stage ≡ Header → m.same o.negotiation.exchange o.negotiation.exchange → o.negotiation.codec.output ≡ [] → take 8 o.negotiation.codec.input ≡ amqp_header
    → Ran {E = AllocError} link m o left (Ok poll.Exchanged) (record o { negotiation = record o.negotiation { codec = record o.negotiation.codec { input = drop 8 o.negotiation.codec.input } }; stage = Exchanged }) left
ran_exchanged link m o left stage s out t =
    let cut : o.negotiation.codec.input ≡ amqp_header ++ drop 8 o.negotiation.codec.input = sym (take-append-drop 8 o.negotiation.codec.input) ∙ ap (λ (u : List ℕ). u ++ drop 8 o.negotiation.codec.input) t in
    record {
      events = [];
      moves = record { went = refl; counted = omega arith; kept = s; layer = refl };
      comes = (
        refl,
        λ before h. (subst (λ (u : List ℕ). HasIntro o.has_sasl m o.negotiation.exchange u o.negotiation.codec.output before) cut (to_awaits m o before stage h), out),
      );
    }

-- another header was read
header_ending : {X : Type 0} (m : Mechanism X) (s : Bool) (x : X) (rest unwritten : List ℕ) (events : List LinkEvent) → HasIntro s m x rest unwritten events → 8 ≤ length rest → (take 8 rest ≡ amqp_header → ⊥)
    → HasEnding m s x NotImplemented events
header_ending m true x rest unwritten events h l ne =
    passed_ended m x NotImplemented rest unwritten events (at_amqp_header h.given h.sent rest h.heard h.held h.turn l ne refl) h (refl, refl) tt
header_ending m false x rest unwritten events h l ne =
    record {
      guarded = (unwritten, h.wrote);
      cause = at_plain_header (subst (λ (u : List ℕ). 8 ≤ length u) (sym h.heard) l) (λ e. ne (ap (λ (u : List ℕ). take 8 u) (sym h.heard) ∙ e)) refl;
      exchange = tt;
    }

pub ran_mismatch : {L X : Type 0} (link : Ghosts L) (m : Mechanism X) (o : Opened L X) (left : ℕ) → o.stage ≡ Header → m.same o.negotiation.exchange o.negotiation.exchange → 8 ≤ length o.negotiation.codec.input
    → (take 8 o.negotiation.codec.input ≡ amqp_header → ⊥) → Ran {E = AllocError} link m o left (Ok (poll.Failed NotImplemented)) (record o { stage = Ended }) left
ran_mismatch link m o left stage s l ne =
    record {
      events = [];
      moves = record { went = refl; counted = omega arith; kept = s; layer = refl };
      comes = (
        refl,
        λ before h. header_ending m o.has_sasl o.negotiation.exchange o.negotiation.codec.input o.negotiation.codec.output before (to_awaits m o before stage h) l ne,
      );
    }

-- ---- while the negotiation goes on

-- what an opening has then
to_negotiates : {L X : Type 0} (m : Mechanism X) (o : Opened L X) (events : List LinkEvent) → o.stage ≡ NegotiatingStage → HasOpening m o events → (o.has_sasl ≡ true) × Has m o.negotiation events
to_negotiates m o events stage h = subst (λ (s : Stage). HasAt m o.has_sasl s o.negotiation events) stage h

-- the negotiation has passed, and the own header is queued
passed_intro : {L X : Type 0} (m : Mechanism X) (n : Negotiating L X) (events : List LinkEvent) → IsPassed m n → Has m n events → HasPassed m n.exchange n.codec.input (n.codec.output ++ amqp_header) events
passed_intro {L} {X} m n events p h =
    let f : HasFrames m n events = subst (λ (q : Phase). HasIn m q n events) p.phase h in
    record {
      given = f.given;
      sent = f.sent;
      heard = f.heard;
      part = [];
      wrote = sym (append-nil (wrote_of events)) ∙ ap (λ (u : List ℕ). wrote_of events ++ u) (sym p.flushed) ∙ f.wrote ∙ sym (append-nil (said f.sent));
      header = ap (λ (u : List ℕ). u ++ amqp_header) p.flushed;
      framed = f.framed;
      held = f.held;
      turn = p.turn;
    }

pub keeps_passed : {L X : Type 0} (m : Mechanism X) (o : Opened L X) → o.stage ≡ NegotiatingStage → IsPassed m o.negotiation
    → Keeps m o [] (record o { negotiation = record o.negotiation { codec = record o.negotiation.codec { output = o.negotiation.codec.output ++ amqp_header } }; stage = Header })
keeps_passed m o stage p before h =
    let n = to_negotiates m o before stage h in
    subst (λ (b : Bool). HasIntro b m o.negotiation.exchange o.negotiation.codec.input (o.negotiation.codec.output ++ amqp_header) before) (sym n.0) (passed_intro m o.negotiation before p n.1)

-- the negotiation went on
pub moves_polled : {L X : Type 0} (link : Ghosts L) (m : Mechanism X) (o : Opened L X) (n : Negotiating L X) (left k : ℕ) (events : List LinkEvent) → GoesOn link m o.negotiation left events n k → Moves link m o left events (record o { negotiation = n }) k
moves_polled link m o n left k events g = record { went = g.went; counted = g.counted; kept = g.kept; layer = refl }

pub keeps_polled : {L X : Type 0} (link : Ghosts L) (m : Mechanism X) (o : Opened L X) (n : Negotiating L X) (left k : ℕ) (events : List LinkEvent) → o.stage ≡ NegotiatingStage → GoesOn link m o.negotiation left events n k → Keeps m o events (record o { negotiation = n })
keeps_polled link m o n left k events stage g before h =
    let old = to_negotiates m o before stage h in
    subst (λ (s : Stage). HasAt m o.has_sasl s n (events ++ before)) (sym stage) (old.0, g.grows before old.1)

-- a negotiation that is at rest is an opening that is
rests_polled : {L X : Type 0} (m : Mechanism X) (o : Opened L X) (n : Negotiating L X) (events : List LinkEvent) → o.stage ≡ NegotiatingStage → IsNegotiationAtRestOrFull m events n → IsAtRestOrFull m events (record o { negotiation = n })
rests_polled m o n events stage (inl p) = inl (subst (λ (s : Stage). IsAtRestAt m s n) (sym stage) p)
rests_polled m o n events stage (inr p) = inr p

pub ran_pending : {L X : Type 0} (link : Ghosts L) (m : Mechanism X) (o : Opened L X) (n : Negotiating L X) (left k : ℕ) → o.stage ≡ NegotiatingStage → Polled link m o.negotiation left (Ok gate.Pending) n k → Ran {E = AllocError} link m o left (Ok poll.Pending) (record o { negotiation = n }) k
ran_pending link m o n left k stage p =
    record { events = p.events; moves = moves_polled link m o n left k p.events p.goes; comes = (subst IsUnderWay (sym stage) tt, p.answer.0, keeps_polled link m o n left k p.events stage p.goes, rests_polled m o n p.events stage p.answer.1) }

-- it failed
failed_ending : {L X : Type 0} (m : Mechanism X) (s : Bool) (n : Negotiating L X) (e : NegotiationError) (events : List LinkEvent) → s ≡ true → HasFailure m e n events → HasEnding m s n.exchange e events
failed_ending m s n e events t f =
    subst (λ (b : Bool). HasEnding m b n.exchange e events) (sym t)
    (record {
      guarded = inl (record { bodies = f.sent; rest = n.codec.output; frames = f.wrote; framed = f.framed });
      cause = in_negotiation f.cause;
      exchange = record {
        given = f.given;
        sent = f.sent;
        heard = f.heard;
        framed = f.framed;
        out = n.codec.output;
        after = [];
        wrote = f.wrote ∙ sym (append-nil (said f.sent));
        behind = inl refl;
        held = f.held;
        about = f.after;
        told = f.told;
      };
    })

pub ran_refused : {L X : Type 0} (link : Ghosts L) (m : Mechanism X) (o : Opened L X) (n : Negotiating L X) (left k : ℕ) (e : NegotiationError) → o.stage ≡ NegotiatingStage → Polled link m o.negotiation left (Err e) n k → n.phase ≡ Failed e
    → Ran {E = AllocError} link m o left (Ok (poll.Failed e)) (record o { negotiation = n; stage = Ended }) k
ran_refused link m o n left k e stage p phase =
    record {
      events = p.events;
      moves = record { went = p.goes.went; counted = p.goes.counted; kept = p.goes.kept; layer = refl };
      comes = (
        refl,
        λ before h.
            let old = to_negotiates m o before stage h in
            failed_ending m o.has_sasl n e (p.events ++ before) old.0 (subst (λ (q : Phase). HasIn m q n (p.events ++ before)) phase (p.goes.grows before old.1)),
      );
    }

some_none : {A : Type 0} (a : A) → None ≡ Some a → ⊥
some_none a e = cc

failed_as : (e : NegotiationError) (p : Phase) → IsMemoryIn e None → IsMemoryOr e (p ≡ Failed e) → p ≡ Failed e
failed_as (Memory a) p i m = absurd (some_none a i)
failed_as (ProtocolHeaderMismatch h) p i m = m
failed_as NotImplemented p i m = m
failed_as (SaslError code d) p i m = m
failed_as (ScramError kind) p i m = m
failed_as (Io kind) p i m = m
failed_as DecodeError p i m = m
failed_as IllegalState p i m = m
failed_as FramingError p i m = m

-- it failed, and not for want of memory
pub ran_error : {L X : Type 0} (link : Ghosts L) (m : Mechanism X) (o : Opened L X) (n : Negotiating L X) (left k : ℕ) (e : NegotiationError) → o.stage ≡ NegotiatingStage → Polled link m o.negotiation left (Err e) n k → IsMemoryIn e None
    → Ran {E = AllocError} link m o left (Ok (poll.Failed e)) (record o { negotiation = n; stage = Ended }) k
ran_error link m o n left k e stage p i = ran_refused link m o n left k e stage p (failed_as e n.phase i p.answer)
