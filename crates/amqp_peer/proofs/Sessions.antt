-- What the sessions above a connection do at an end.
use Rattle.std.proofs.Common.{◌≡◌, ◌⊎◌, inl, inr, ℕ, List, [], ◌++◌, Bool, true, false, Option, Result, Ok, Err, refl, sym, ap, ◌∙◌, subst}
use Rattle.amqp_wire.specs.declared.link.Link.{Ghosts}
use Rattle.amqp_wire.specs.Events.{LinkEvent}
use Rattle.amqp_frames.specs.declared.shared.IncomingSession.{IncomingSession}
use Rattle.amqp_transport.specs.declared.frames.Frame.{Frame}
use Rattle.amqp_engine.specs.declared.error.AllocSessionError.{AllocSessionError}
use Rattle.amqp_engine.specs.declared.error.AllocSessionError.TheVariants as alloc
use Rattle.amqp_engine.specs.Beats.{IsBeat}
use Rattle.amqp_engine.specs.Calls.{Allocates, SendsIf, with_channels}
use Rattle.amqp_engine.specs.Channels.{Channels, seat_taken, seat_freed}
use Rattle.amqp_engine.specs.Closers.{KeepsCloser}
use Rattle.amqp_engine.specs.Faults.{AllOwed}
use Rattle.amqp_engine.specs.Phases.{is_open}
use Rattle.amqp_engine.specs.State.{State, sending}
use Rattle.amqp_engine.proofs.Runs.{RanBy, none_by}
use Rattle.amqp_engine.proofs.Steps.{alike_channels}
use Rattle.amqp_peer.specs.declared.held.Held.{Held}
use Rattle.amqp_peer.specs.declared.held.Held.TheVariants.{Early, Late, Unopened, Moving}
use Rattle.amqp_peer.specs.History.{Local, moment_in, got, put, at_link}
use Rattle.amqp_peer.specs.Passing.{TakesIncoming, TakesSession, AllocatesLate, freed_in, SendsLate, PassesIf, PassesLate, Passes}
use Rattle.amqp_peer.specs.Peering.{Peering, Has}
use Rattle.amqp_peer.proofs.Beats.{IsTimed}
use Rattle.amqp_peer.proofs.Grows.{moves_in, unmade_same, fault_same, broken_same}
use Rattle.amqp_peer.proofs.Moved.{moved}

-- ---- the channels alone change

-- what a run adds to a history
moved_is : {L : Type 0} {link : Ghosts L} {s s' : State L} (es : List LinkEvent) (gs qs : List Frame) (by : RanBy link s es gs qs s') → moved by.run ≡ put qs ++ (got gs ++ at_link es)
moved_is es gs qs by =
    ap (λ (u : List Frame). put u ++ (got by.run.given ++ at_link by.run.events)) by.queued_is
    ∙ ap (λ (u : List Frame). put qs ++ (got u ++ at_link by.run.events)) by.given_is
    ∙ ap (λ (u : List LinkEvent). put qs ++ (got gs ++ at_link u)) by.events_is

rechanneled_timed : {L : Type 0} (link : Ghosts L) (at : ℕ) (s : State L) (c : Channels) (by : RanBy link s [] [] [] (with_channels s c)) → IsTimed at s by.run.given by.run.queued (with_channels s c)
rechanneled_timed link at s c by =
    record {
      moment = inl (by.given_is, refl);
      beat = subst (λ (gs : List Frame). IsBeat at s gs by.run.queued (with_channels s c)) (sym by.given_is) (subst (λ (qs : List Frame). IsBeat at s [] qs (with_channels s c)) (sym by.queued_is) refl);
      closer = subst (λ (gs : List Frame). KeepsCloser s gs by.run.queued (with_channels s c)) (sym by.given_is) (subst (λ (qs : List Frame). KeepsCloser s [] qs (with_channels s c)) (sym by.queued_is) (λ z k. k));
    }

rechanneled_in : {L : Type 0} (link : Ghosts L) (old : Peering L) (s : State L) (c : Channels) (h : List Local) (by : RanBy link s [] [] [] (with_channels s c)) → old.held ≡ Late s → Has old h → Has (record old { held = Late (with_channels s c) }) (moved by.run ++ h)
rechanneled_in link old s c h by e x =
    moves_in link (moment_in h) old.progress old s (with_channels s c) old.fault h by.run (rechanneled_timed link (moment_in h) s c by) (inl (subst (AllOwed s.phase) (sym by.queued_is) tt)) refl e
    (λ call k prep u. unmade_same link call old.fault s (with_channels s c) h by.run (λ z. by.given_is) k refl u)
    (λ call k prep o f. fault_same old.fault s (with_channels s c) h by.run (λ z. by.given_is) refl f)
    (λ call k prep b. broken_same s (with_channels s c) h by.run (λ z. by.given_is) refl b) (λ l. l) x

pub has_rechanneled : {L : Type 0} (link : Ghosts L) (old : Peering L) (s : State L) (c : Channels) (h : List Local) → old.held ≡ Late s → Has old h → Has (record old { held = Late (with_channels s c) }) h
has_rechanneled {L} link old s c h e x =
    let by = none_by link s (with_channels s c) (alike_channels s c) in
    subst (λ (u : List Local). Has (record old { held = Late (with_channels s c) }) (u ++ h)) (moved_is [] [] [] by) (rechanneled_in link old s c h by e x)

-- what holds the link stays, but for the channels
record Rechannels {L : Type 0} (held held' : Held L) : Type 0 where
  pub either : (held' ≡ held) ⊎ ((s : State L) × (c : Channels) × (held ≡ Late s) × (held' ≡ Late (with_channels s c)))

same_channels : {L : Type 0} (held held' : Held L) → held' ≡ held → Rechannels held held'
same_channels held held' e = record { either = inl e }

other_channels : {L : Type 0} (s s' : State L) (c : Channels) (held' : Held L) → held' ≡ Late s' → s' ≡ with_channels s c → Rechannels (Late s) held'
other_channels {L} s s' c held' e r = record { either = inr (s, c, refl, e ∙ ap (λ (z : State L). Late z) r) }

has_after : {L : Type 0} (link : Ghosts L) (old : Peering L) (held : Held L) → Rechannels old.held held → (h : List Local) → Has old h → Has (record old { held = held }) h
has_after {L} link old held r h x = elim r.either [
  | inl e ↦ subst (λ (z : Held L). Has (record old { held = z }) h) (sym e) x
  | inr k ↦ subst (λ (z : Held L). Has (record old { held = z }) h) (sym k.3) (has_rechanneled link old k.0 k.1 h k.2 x)
]

takes_rechannels : {L : Type 0} (held : Held L) (x : Option Frame) (held' : Held L) → TakesIncoming held x held' → Rechannels held held'
takes_rechannels (Early o p) x held' t = same_channels (Early o p) held' t.1
takes_rechannels (Late s) x held' t = other_channels s t.0 t.0.channels held' t.1 t.2.rest
takes_rechannels (Unopened c) x held' t = same_channels (Unopened c) held' t.1
takes_rechannels Moving x held' t = same_channels Moving held' t.1

pub takes_has : {L : Type 0} (link : Ghosts L) (old : Peering L) (x : Option Frame) (held : Held L) → TakesIncoming old.held x held → (h : List Local) → Has old h → Has (record old { held = held }) h
takes_has link old x held t = has_after link old held (takes_rechannels old.held x held t)

session_rechannels : {L : Type 0} (held : Held L) (x : Option IncomingSession) (held' : Held L) → TakesSession held x held' → Rechannels held held'
session_rechannels (Early o p) x held' t = same_channels (Early o p) held' t.1
session_rechannels (Late s) x held' t = other_channels s t.0 t.0.channels held' t.1 t.2.rest
session_rechannels (Unopened c) x held' t = same_channels (Unopened c) held' t.1
session_rechannels Moving x held' t = same_channels Moving held' t.1

pub session_has : {L : Type 0} (link : Ghosts L) (old : Peering L) (x : Option IncomingSession) (held : Held L) → TakesSession old.held x held → (h : List Local) → Has old h → Has (record old { held = held }) h
session_has link old x held t = has_after link old held (session_rechannels old.held x held t)

allocates_channels : {L : Type 0} (s s' : State L) (result : Result ℕ AllocSessionError) (held' : Held L) → held' ≡ Late s' → Allocates s result s' → Rechannels (Late s) held'
allocates_channels s s' (Ok channel) held' e a = other_channels s s' (record s.channels { seats = seat_taken s.channels.seats channel }) held' e a.2
allocates_channels {L} s s' (Err alloc.ChannelMaxReached) held' e a = same_channels (Late s) held' (e ∙ ap (λ (z : State L). Late z) a.1)
allocates_channels {L} s s' (Err (alloc.Memory w)) held' e a = same_channels (Late s) held' (e ∙ ap (λ (z : State L). Late z) a)

allocates_rechannels : {L : Type 0} (held : Held L) (result : Result ℕ AllocSessionError) (held' : Held L) → AllocatesLate held result held' → Rechannels held held'
allocates_rechannels (Early o p) result held' t = absurd t
allocates_rechannels (Late s) result held' t = allocates_channels s t.0 result held' t.1 t.2
allocates_rechannels (Unopened c) result held' t = absurd t
allocates_rechannels Moving result held' t = absurd t

pub allocates_has : {L : Type 0} (link : Ghosts L) (old : Peering L) (result : Result ℕ AllocSessionError) (held : Held L) → AllocatesLate old.held result held → (h : List Local) → Has old h → Has (record old { held = held }) h
allocates_has link old result held t = has_after link old held (allocates_rechannels old.held result held t)

freed_rechannels : {L : Type 0} (held : Held L) (channel : ℕ) → Rechannels held (freed_in held channel)
freed_rechannels (Early o p) channel = same_channels (Early o p) (Early o p) refl
freed_rechannels (Late s) channel = record { either = inr (s, seat_freed channel s.channels, refl, refl) }
freed_rechannels (Unopened c) channel = same_channels (Unopened c) (Unopened c) refl
freed_rechannels Moving channel = same_channels Moving Moving refl

pub freed_has : {L : Type 0} (link : Ghosts L) (old : Peering L) (channel : ℕ) (held : Held L) → held ≡ freed_in old.held channel → (h : List Local) → Has old h → Has (record old { held = held }) h
freed_has {L} link old channel held e =
    has_after link old held (subst (λ (z : Held L). Rechannels old.held z) (sym e) (freed_rechannels old.held channel))

-- ---- a frame of a session is queued

passes_if : {L : Type 0} (b : Bool) (s s' : State L) (x : Frame) (old new : Peering L) (u : Unit {0}) → SendsIf b s x (sending s x) (Ok u) s' → new ≡ record old { held = Late s' } → PassesIf b s x old new
passes_if {L} true s s' x old new u t e = inl (record { fits = t.1; framed = t.3; is = e ∙ ap (λ (z : State L). record old { held = Late z }) t.2 })
passes_if false s s' x old new u t e = absurd (cc t.0)

passes_in : {L : Type 0} (held held' : Held L) (x : Frame) (old new : Peering L) (u : Unit {0}) → SendsLate x held (Ok u) held' → new ≡ record old { held = held' } → PassesLate held x old new
passes_in (Early o p) held' x old new u t e = absurd t
passes_in {L} (Late s) held' x old new u t e = passes_if (is_open s.phase) s t.0 x old new u t.2 (e ∙ ap (λ (z : Held L). record old { held = z }) t.1)
passes_in (Unopened c) held' x old new u t e = absurd t
passes_in Moving held' x old new u t e = absurd t

-- it was queued
pub passes : {L : Type 0} (old : Peering L) (held : Held L) (x : Frame) (u : Unit {0}) → SendsLate x old.held (Ok u) held → Passes x old (record old { held = held })
passes old held x u t = passes_in old.held held x old (record old { held = held }) u t refl
