-- The heartbeat of an end is that of its connection.
use Rattle.std.proofs.Common.{◌≡◌, ◌≤◌, ◌+◌, inl, inr, ℕ, List, [], ◌∷◌, ◌++◌, length, false, Option, Result, Ok, Err, refl, sym, ap, ◌∙◌, subst, arith}
use Rattle.std.proofs.lemmas.List.{append-nil}
use Rattle.amqp_composites.specs.declared.error.Error.{Error as AmqpError}
use Rattle.amqp_frames.specs.declared.body.FrameBody.{FrameBody}
use Rattle.amqp_frames.specs.declared.body.FrameBody.TheVariants as b
use Rattle.amqp_frames.specs.declared.shared.ConnectionStopReason.{ConnectionStopReason}
use Rattle.amqp_wire.specs.Events.{LinkEvent}
use Rattle.amqp_transport.specs.declared.frames.Frame.{Frame}
use Rattle.amqp_transport.specs.declared.heart_beat.HeartBeat.{HeartBeat}
use Rattle.amqp_transport.specs.declared.transport.Error.TheVariants as fault
use Rattle.amqp_engine.specs.declared.error.Error.{Error as ConnectionFault}
use Rattle.amqp_engine.specs.declared.error.Error.TheVariants as connection
use Rattle.amqp_engine.specs.declared.phase.Phase.{Phase}
use Rattle.amqp_engine.specs.declared.phase.Phase.TheVariants as p
use Rattle.amqp_engine.specs.Beats.{beat_read, beat_said, IsDueFor, IsBeat}
use Rattle.amqp_engine.specs.Heard.{IsGreeted, IsHeard, IsOver}
use Rattle.amqp_engine.specs.Closers.{Closer, Nobody, This, Peer, closer_by, closer_after, IsCloser, KeepsCloser}
use Rattle.amqp_engine.specs.Outcomes.{IsMoment, IsClosedBy, HasClosed, Stepped}
use Rattle.amqp_engine.specs.declared.engine.EngineStep.{EngineStep}
use Rattle.amqp_engine.proofs.Closers.{keeps_same, keeps_failing, keeps_closing}
use Rattle.amqp_wire.specs.declared.link.Link.{Ghosts}
use Rattle.amqp_engine.specs.Phases.{has_failed}
use Rattle.amqp_engine.specs.State.{State, no_beat}
use Rattle.amqp_peer.specs.Beats.{beat_heard, beat_in, AllBeats}
use Rattle.amqp_peer.specs.Closers.{closer_in}
use Rattle.amqp_peer.specs.History.{Local, Made, Polled, AtLink, Exchanged, Got, Put, Replied, given_in, sent_in, moment_in, at_link, got, put}
use Rattle.amqp_peer.proofs.Histories.{given_in-append, given_in-at, moment_in-inside, inside-at}

-- when a run began, what it makes of the heartbeat, and that it keeps whose Close came first
pub record IsTimed {L : Type 0} (at : ℕ) (old : State L) (given queued : List Frame) (new : State L) : Type 0 where
  pub moment : IsMoment at old given new
  pub beat : IsBeat at old given queued new
  pub closer : KeepsCloser old given queued new

pub timed : {L : Type 0} (link : Ghosts L) (at : ℕ) (old : State L) (result : Result EngineStep ConnectionFault) (new : State L) (st : Stepped link at old result new) → IsTimed at old st.run.given st.run.queued new
timed link at old result new st = record { moment = st.moment; beat = st.beat; closer = st.closer }

-- ---- what passed at the link alone

beat_in-at : (es : List LinkEvent) (h : List Local) → beat_in (at_link es ++ h) ≡ beat_in h
beat_in-at [] h = refl
beat_in-at (x ∷ es) h = beat_in-at es h

beats-at : (es : List LinkEvent) (h : List Local) → AllBeats h → AllBeats (at_link es ++ h)
beats-at [] h a = a
beats-at (x ∷ es) h a = beats-at es h a

-- ---- an end that read or queued no frame

not_last : (xs : List Frame) (x : Frame) → xs ++ x ∷ [] ≡ [] → ⊥
not_last [] x e = absurd (cc e)
not_last (y ∷ xs) x e = absurd (cc e)

pub unsent_beats : (h : List Local) → sent_in h ≡ [] → AllBeats h
unsent_beats [] e = tt
unsent_beats (Made at name call ∷ h) e = unsent_beats h e
unsent_beats (Polled at ∷ h) e = unsent_beats h e
unsent_beats (AtLink x ∷ h) e = unsent_beats h e
unsent_beats (Exchanged ∷ h) e = unsent_beats h e
unsent_beats (Got x ∷ h) e = unsent_beats h e
unsent_beats (Put x ∷ h) e = absurd (not_last (sent_in h) x e)
unsent_beats (Replied r ∷ h) e = unsent_beats h e

pub silent_beat : (h : List Local) → given_in h ≡ [] → sent_in h ≡ [] → beat_in h ≡ no_beat
silent_beat [] g e = refl
silent_beat (Made at name call ∷ h) g e = silent_beat h g e
silent_beat (Polled at ∷ h) g e = silent_beat h g e
silent_beat (AtLink x ∷ h) g e = silent_beat h g e
silent_beat (Exchanged ∷ h) g e = silent_beat h g e
silent_beat (Got x ∷ h) g e = absurd (not_last (given_in h) x g)
silent_beat (Put x ∷ h) g e = absurd (not_last (sent_in h) x e)
silent_beat (Replied r ∷ h) g e = silent_beat h g e

said_period : (body : FrameBody) (at : ℕ) (beat : HeartBeat) → (beat_said body at beat).period ≡ beat.period
said_period (b.Open x) at beat = refl
said_period (b.Begin x) at beat = refl
said_period (b.Attach x) at beat = refl
said_period (b.Flow x) at beat = refl
said_period (b.Transfer x y) at beat = refl
said_period (b.Disposition x) at beat = refl
said_period (b.Detach x) at beat = refl
said_period (b.End x) at beat = refl
said_period (b.Close x) at beat = refl
said_period b.Empty at beat = refl

-- where no frame was read no beat is due
pub unheard_period : (h : List Local) → given_in h ≡ [] → (beat_in h).period ≡ 0
unheard_period [] g = refl
unheard_period (Made at name call ∷ h) g = unheard_period h g
unheard_period (Polled at ∷ h) g = unheard_period h g
unheard_period (AtLink x ∷ h) g = unheard_period h g
unheard_period (Exchanged ∷ h) g = unheard_period h g
unheard_period (Got x ∷ h) g = absurd (not_last (given_in h) x g)
unheard_period (Put x ∷ h) g = said_period x.body (moment_in h) (beat_in h) ∙ unheard_period h g
unheard_period (Replied r ∷ h) g = unheard_period h g

-- ---- a run of the connection

-- where a frame was read before, another begins no beat
beat_behind : (given front more : List Frame) (x : Frame) (body : FrameBody) (at : ℕ) (beat : HeartBeat) → given ≡ front ++ x ∷ more → beat ≡ beat_heard given body at beat
beat_behind given [] more x body at beat e = sym (ap (λ (xs : List Frame). beat_heard xs body at beat) e)
beat_behind given (y ∷ front) more x body at beat e = sym (ap (λ (xs : List Frame). beat_heard xs body at beat) e)

beat_over : (reason : ConnectionStopReason) (given : List Frame) (body : FrameBody) (at : ℕ) (beat : HeartBeat) → IsOver reason given → beat ≡ beat_heard given body at beat
beat_over reason given body at beat (inl o) = beat_behind given o.front [] _ body at beat o.is
beat_over reason given body at beat (inr (inl o)) = beat_behind given [] [] _ body at beat o.is
beat_over reason given body at beat (inr (inr o)) = beat_behind given o.front [] _ body at beat o.is

beat_greeted : (given : List Frame) (body : FrameBody) (at : ℕ) (beat : HeartBeat) → IsGreeted given → beat ≡ beat_heard given body at beat
beat_greeted given body at beat g = beat_behind given [] g.more _ body at beat g.is

heard_beat : (q : Phase) (reason : ConnectionStopReason) (given : List Frame) (body : FrameBody) (at : ℕ) (beat : HeartBeat) → has_failed q ≡ false → IsHeard q reason given → beat_read q body at beat ≡ beat_heard given body at beat
heard_beat p.OpenSent reason given body at beat f h = sym (ap (λ (xs : List Frame). beat_heard xs body at beat) h.0)
heard_beat p.Opened reason given body at beat f h = beat_greeted given body at beat h.0
heard_beat p.CloseReceived reason given body at beat f h = beat_behind given h.front [] _ body at beat h.is
heard_beat p.Refused reason given body at beat f h = beat_behind given [] [] _ body at beat h.is
heard_beat (p.Rejected why) reason given body at beat f h = beat_behind given h.0.it.front [] _ body at beat h.0.it.is
heard_beat p.CloseSent reason given body at beat f h = beat_greeted given body at beat h.0
heard_beat p.Discarding reason given body at beat f h = beat_greeted given body at beat h.0
heard_beat p.Ended reason given body at beat f h = beat_over reason given body at beat h
heard_beat p.Failed reason given body at beat f h = absurd (cc f)

given_past : (events : List LinkEvent) (h : List Local) → given_in (at_link events ++ h) ≡ given_in h
given_past events h = given_in-append (at_link events) h ∙ ap (λ (xs : List Frame). given_in h ++ xs) (given_in-at events) ∙ append-nil (given_in h)

moment_past : (events : List LinkEvent) (h : List Local) → moment_in (at_link events ++ h) ≡ moment_in h
moment_past events h = moment_in-inside (at_link events) h (inside-at events)

-- the heartbeat goes on
pub beat_moved : {L : Type 0} (at : ℕ) (old new : State L) (events : List LinkEvent) (given queued : List Frame) (h : List Local) → IsBeat at old given queued new → IsHeard old.phase old.reason (given_in h) → moment_in h ≡ at → old.beat ≡ beat_in h → new.beat ≡ beat_in ((put queued ++ (got given ++ at_link events)) ++ h)
beat_moved at old new events [] [] h b k m e = b ∙ e ∙ sym (beat_in-at events h)
beat_moved at old new events [] (x ∷ []) h b k m e =
    b.1 ∙ ap (λ (n : ℕ). beat_said x.body n old.beat) (sym m ∙ sym (moment_past events h)) ∙ ap (λ (z : HeartBeat). beat_said x.body (moment_in (at_link events ++ h)) z) (e ∙ sym (beat_in-at events h))
beat_moved at old new events [] (x ∷ y ∷ xs) h b k m e = absurd b
beat_moved at old new events (x ∷ []) [] h b k m e =
    b.1 ∙ heard_beat old.phase old.reason (given_in h) x.body at old.beat b.0 k
    ∙ ap (λ (xs : List Frame). beat_heard xs x.body at old.beat) (sym (given_past events h))
    ∙ ap (λ (n : ℕ). beat_heard (given_in (at_link events ++ h)) x.body n old.beat) (sym m ∙ sym (moment_past events h))
    ∙ ap (λ (z : HeartBeat). beat_heard (given_in (at_link events ++ h)) x.body (moment_in (at_link events ++ h)) z) (e ∙ sym (beat_in-at events h))
beat_moved at old new events (x ∷ []) (y ∷ ys) h b k m e = absurd b
beat_moved at old new events (x ∷ y ∷ xs) queued h b k m e = absurd b

-- and what was queued was due
pub beats_moved : {L : Type 0} (at : ℕ) (old new : State L) (events : List LinkEvent) (given queued : List Frame) (h : List Local) → IsBeat at old given queued new → moment_in h ≡ at → old.beat ≡ beat_in h → AllBeats h → AllBeats ((put queued ++ (got given ++ at_link events)) ++ h)
beats_moved at old new events [] [] h b m e a = beats-at events h a
beats_moved at old new events [] (x ∷ []) h b m e a = (
  subst (λ (n : ℕ). IsDueFor x.body n (beat_in (at_link events ++ h))) (sym m ∙ sym (moment_past events h))
      (subst (λ (z : HeartBeat). IsDueFor x.body at z) (e ∙ sym (beat_in-at events h)) b.0),
  beats-at events h a,
)
beats_moved at old new events [] (x ∷ y ∷ xs) h b m e a = absurd b
beats_moved at old new events (x ∷ []) [] h b m e a = beats-at events h a
beats_moved at old new events (x ∷ []) (y ∷ ys) h b m e a = absurd b
beats_moved at old new events (x ∷ y ∷ xs) queued h b m e a = absurd b

-- and it is kept whose Close came first

closer_in-at : (es : List LinkEvent) (h : List Local) → closer_in (at_link es ++ h) ≡ closer_in h
closer_in-at [] h = refl
closer_in-at (x ∷ es) h = closer_in-at es h

closer_parts : (events : List LinkEvent) (given queued : List Frame) (h : List Local) → length given + length queued ≤ 1 → closer_in ((put queued ++ (got given ++ at_link events)) ++ h) ≡ closer_after given queued (closer_in h)
closer_parts events [] [] h l = closer_in-at events h
closer_parts events [] (x ∷ []) h l = ap (λ (c : Closer). closer_by This x.body c) (closer_in-at events h)
closer_parts events [] (x ∷ y ∷ xs) h l = absurd (omega (arith, l))
closer_parts events (x ∷ []) [] h l = ap (λ (c : Closer). closer_by Peer x.body c) (closer_in-at events h)
closer_parts events (x ∷ []) (y ∷ ys) h l = absurd (omega (arith, l))
closer_parts events (x ∷ y ∷ xs) queued h l = absurd (omega (arith, l))

one_of : {L : Type 0} (at : ℕ) (old : State L) (given queued : List Frame) (new : State L) → IsBeat at old given queued new → length given + length queued ≤ 1
one_of at old [] [] new b = omega arith
one_of at old [] (x ∷ []) new b = omega arith
one_of at old [] (x ∷ y ∷ xs) new b = absurd b
one_of at old (x ∷ []) [] new b = omega arith
one_of at old (x ∷ []) (y ∷ ys) new b = absurd b
one_of at old (x ∷ y ∷ xs) queued new b = absurd b

pub closer_moved : {L : Type 0} (at : ℕ) (old new : State L) (events : List LinkEvent) (given queued : List Frame) (h : List Local) → IsTimed at old given queued new → IsCloser old.phase old.reason (closer_in h) → IsCloser new.phase new.reason (closer_in ((put queued ++ (got given ++ at_link events)) ++ h))
closer_moved at old new events given queued h t k =
    subst (λ (c : Closer). IsCloser new.phase new.reason c) (sym (closer_parts events given queued h (one_of at old given queued new t.beat))) (t.closer (closer_in h) k)

-- where no frame was read or queued, nobody closed
pub silent_closer : (h : List Local) → given_in h ≡ [] → sent_in h ≡ [] → closer_in h ≡ Nobody
silent_closer [] g e = refl
silent_closer (Made at name call ∷ h) g e = silent_closer h g e
silent_closer (Polled at ∷ h) g e = silent_closer h g e
silent_closer (AtLink x ∷ h) g e = silent_closer h g e
silent_closer (Exchanged ∷ h) g e = silent_closer h g e
silent_closer (Got x ∷ h) g e = absurd (not_last (given_in h) x g)
silent_closer (Put x ∷ h) g e = absurd (not_last (sent_in h) x e)
silent_closer (Replied r ∷ h) g e = silent_closer h g e

-- ---- a close

none_beats : {L : Type 0} (at : ℕ) (s s' : State L) (queued : List Frame) → queued ≡ [] → s'.beat ≡ s.beat → IsBeat at s [] queued s'
none_beats at s s' queued e b = subst (λ (qs : List Frame). IsBeat at s [] qs s') (sym e) b

told_beats : {L : Type 0} (at : ℕ) (s s' : State L) (y : Option AmqpError) (queued : List Frame) (result : Result Unit ConnectionFault) → IsClosedBy s y queued result s' → IsBeat at s [] queued s'
told_beats {L} at s s' y queued (Ok u) c = subst (λ (qs : List Frame). IsBeat at s [] qs s') (sym c.0) (tt, ap (λ (t : State L). t.beat) c.1)
told_beats {L} at s s' y queued (Err (connection.Memory a)) c = none_beats at s s' queued c.0 (ap (λ (t : State L). t.beat) c.1)
told_beats {L} at s s' y queued (Err connection.IllegalState) c = none_beats at s s' queued c.0 (ap (λ (t : State L). t.beat) c.2)
told_beats {L} at s s' y queued (Err (connection.TransportError fault.FramingError)) c = none_beats at s s' queued c.0 (ap (λ (t : State L). t.beat) c.2)
told_beats at s s' y queued (Err (connection.TransportError (fault.Memory a))) c = absurd c
told_beats at s s' y queued (Err (connection.TransportError (fault.Io k))) c = absurd c
told_beats at s s' y queued (Err (connection.TransportError fault.IdleTimeoutElapsed)) c = absurd c
told_beats at s s' y queued (Err (connection.TransportError fault.DecodeError)) c = absurd c
told_beats at s s' y queued (Err (connection.TransportError fault.NotImplemented)) c = absurd c
told_beats at s s' y queued (Err connection.NotImplemented) c = absurd c
told_beats at s s' y queued (Err connection.NotFound) c = absurd c
told_beats at s s' y queued (Err connection.RemoteClosed) c = absurd c
told_beats at s s' y queued (Err (connection.RemoteClosedWithError e)) c = absurd c

pub closed_beats : {L : Type 0} (at : ℕ) (s s' : State L) (y : Option AmqpError) (given queued : List Frame) (result : Result Unit ConnectionFault) → given ≡ [] → IsClosedBy s y queued result s' → IsBeat at s given queued s'
closed_beats at s s' y given queued result g c = subst (λ (gs : List Frame). IsBeat at s gs queued s') (sym g) (told_beats at s s' y queued result c)

none_keeps : {L : Type 0} (s s' : State L) (queued : List Frame) → queued ≡ [] → KeepsCloser s [] [] s' → KeepsCloser s [] queued s'
none_keeps s s' queued e k = subst (λ (qs : List Frame). KeepsCloser s [] qs s') (sym e) k

told_keeps : {L : Type 0} (s s' : State L) (y : Option AmqpError) (queued : List Frame) (result : Result Unit ConnectionFault) → IsClosedBy s y queued result s' → KeepsCloser s [] queued s'
told_keeps s s' y queued (Ok u) c = subst (λ (qs : List Frame). KeepsCloser s [] qs s') (sym c.0) (keeps_closing s s' y c.2 c.1)
told_keeps s s' y queued (Err (connection.Memory a)) c = none_keeps s s' queued c.0 (keeps_same s s' c.1)
told_keeps s s' y queued (Err connection.IllegalState) c = none_keeps s s' queued c.0 (keeps_same s s' c.2)
told_keeps s s' y queued (Err (connection.TransportError fault.FramingError)) c = none_keeps s s' queued c.0 (keeps_failing s s s' c.2)
told_keeps s s' y queued (Err (connection.TransportError (fault.Memory a))) c = absurd c
told_keeps s s' y queued (Err (connection.TransportError (fault.Io k))) c = absurd c
told_keeps s s' y queued (Err (connection.TransportError fault.IdleTimeoutElapsed)) c = absurd c
told_keeps s s' y queued (Err (connection.TransportError fault.DecodeError)) c = absurd c
told_keeps s s' y queued (Err (connection.TransportError fault.NotImplemented)) c = absurd c
told_keeps s s' y queued (Err connection.NotImplemented) c = absurd c
told_keeps s s' y queued (Err connection.NotFound) c = absurd c
told_keeps s s' y queued (Err connection.RemoteClosed) c = absurd c
told_keeps s s' y queued (Err (connection.RemoteClosedWithError e)) c = absurd c

-- a close was asked for
pub closed_timed : {L : Type 0} (link : Ghosts L) (at : ℕ) (s : State L) (y : Option AmqpError) (result : Result Unit ConnectionFault) (s' : State L) (c : HasClosed link s y result s') → IsTimed at s c.run.given c.run.queued s'
closed_timed link at s y result s' c = record {
  moment = inl (c.none, c.run.since c.none);
  beat = closed_beats at s s' y c.run.given c.run.queued result c.none c.told;
  closer = subst (λ (gs : List Frame). KeepsCloser s gs c.run.queued s') (sym c.none) (told_keeps s s' y c.run.queued result c.told);
}
