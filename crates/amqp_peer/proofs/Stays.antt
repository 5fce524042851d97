-- A connection whose transport has failed reads and queues nothing more.
use Rattle.std.proofs.Common.{◌≡◌, ◌≤◌, inl, ℕ, List, [], Bool, true, false, Result, Ok, refl, sym, ap, ◌∙◌, subst, arith}
use Rattle.amqp_wire.specs.declared.link.Link.{Ghosts}
use Rattle.amqp_wire.specs.Events.{LinkEvent, reads_in}
use Rattle.amqp_transport.specs.declared.frames.Frame.{Frame}
use Rattle.amqp_transport.specs.declared.transport.Flush.{Flush}
use Rattle.amqp_transport.specs.declared.transport.Flush.TheVariants as flush
use Rattle.amqp_engine.specs.declared.engine.EngineStep.{EngineStep}
use Rattle.amqp_engine.specs.declared.engine.EngineStep.TheVariants as step
use Rattle.amqp_engine.specs.declared.error.Error.{Error}
use Rattle.amqp_engine.specs.declared.phase.Phase.{Phase}
use Rattle.amqp_engine.specs.declared.phase.Phase.TheVariants as p
use Rattle.amqp_engine.specs.Calls.{Acts, FlushesIf, ThenActs, Steps}
use Rattle.amqp_engine.specs.Faults.{AllOwed}
use Rattle.amqp_engine.specs.Beats.{IsBeat}
use Rattle.amqp_engine.specs.Closers.{IsCloser, KeepsCloser}
use Rattle.amqp_engine.specs.Outcomes.{IsHanded, IsTold, Stepped}
use Rattle.amqp_engine.specs.Phases.{is_stopped, has_failed, hears}
use Rattle.amqp_engine.specs.State.{State}
use Rattle.amqp_engine.proofs.Runs.{none_by, alike_same}

pub failed_stops : (q : Phase) → has_failed q ≡ true → is_stopped q ≡ true
failed_stops p.OpenSent f = absurd (cc f)
failed_stops p.Opened f = absurd (cc f)
failed_stops p.CloseReceived f = absurd (cc f)
failed_stops p.Refused f = absurd (cc f)
failed_stops (p.Rejected why) f = absurd (cc f)
failed_stops p.CloseSent f = absurd (cc f)
failed_stops p.Discarding f = absurd (cc f)
failed_stops p.Ended f = absurd (cc f)
failed_stops p.Failed f = refl

-- what an engine does then
acts_failed : {L : Type 0} (q : Phase) (link : Ghosts L) (at : ℕ) (s new : State L) (result : Result EngineStep Error) → has_failed q ≡ true → Acts q link at s result new → (result ≡ Ok step.Stopped) × (new ≡ s)
acts_failed p.OpenSent link at s new result f a = absurd (cc f)
acts_failed p.Opened link at s new result f a = absurd (cc f)
acts_failed p.CloseReceived link at s new result f a = absurd (cc f)
acts_failed p.Refused link at s new result f a = absurd (cc f)
acts_failed (p.Rejected why) link at s new result f a = absurd (cc f)
acts_failed p.CloseSent link at s new result f a = absurd (cc f)
acts_failed p.Discarding link at s new result f a = absurd (cc f)
acts_failed p.Ended link at s new result f a = absurd (cc f)
acts_failed p.Failed link at s new result f a = a

steps_failed : {L : Type 0} (link : Ghosts L) (at : ℕ) (s new : State L) (result : Result EngineStep Error) → has_failed s.phase ≡ true → Steps link at s result new → (result ≡ Ok step.Stopped) × (new ≡ s)
steps_failed {L} link at s new result f d =
    let i : FlushesIf true link s d.flush d.mid = subst (λ (b : Bool). FlushesIf b link s d.flush d.mid) f d.flushes in
    let a : ThenActs link at (Ok flush.Empty) s result new = subst (λ (t : State L). ThenActs link at (Ok flush.Empty) t result new) i.1 (subst (λ (r : Result Flush Error). ThenActs link at r d.mid result new) i.0 d.acts) in
    acts_failed s.phase link at s new result f a

-- a step, in which no frame is read where the transport had failed
pub record Stays {L : Type 0} (link : Ghosts L) (at : ℕ) (s : State L) (result : Result EngineStep Error) (new : State L) : Type 0 where
  pub step : Stepped link at s result new
  pub none : has_failed s.phase ≡ true → step.run.given ≡ []

stays_failed : {L : Type 0} (link : Ghosts L) (at : ℕ) (s new : State L) (result : Result EngineStep Error) → has_failed s.phase ≡ true → result ≡ Ok step.Stopped → new ≡ s → Stays link at s result new
stays_failed {L} link at s new result f r e =
    let b = none_by link s new (alike_same s new e) in
    let phase : new.phase ≡ s.phase = ap (λ (t : State L). t.phase) e in
    let failed : has_failed new.phase ≡ true = ap has_failed phase ∙ f in
    record {
      step = record {
        run = b.run;
        few = subst (λ (es : List LinkEvent). reads_in es ≤ 1) (sym b.events_is) (omega arith);
        moment = inl (b.given_is, ap (λ (t : State L). t.wire.clock.since) e);
        told = subst (λ (x : Result EngineStep Error). IsTold at s b.run.events b.run.given b.run.queued x new) (sym r) (record { stopped = failed_stops new.phase failed; phase = phase; written = inl failed });
        owed = subst (λ (xs : List Frame). AllOwed s.phase xs) (sym b.queued_is) tt;
        handed = subst (λ (xs : List Frame). IsHanded s xs new) (sym b.given_is) (ap (λ (t : State L). t.channels) e);
        listens = λ h. sym (ap hears phase) ∙ h;
        idles = λ i. b.given_is;
        closer = subst (λ (gs : List Frame). KeepsCloser s gs b.run.queued new) (sym b.given_is) (subst (λ (qs : List Frame). KeepsCloser s [] qs new) (sym b.queued_is) (λ c k. subst (λ (t : State L). IsCloser t.phase t.reason c) (sym e) k));
        beat = subst (λ (gs : List Frame). IsBeat at s gs b.run.queued new) (sym b.given_is) (subst (λ (qs : List Frame). IsBeat at s [] qs new) (sym b.queued_is) (ap (λ (t : State L). t.beat) e));
      };
      none = λ z. b.given_is;
    }

stays_if : {L : Type 0} (b : Bool) (link : Ghosts L) (at : ℕ) (s new : State L) (result : Result EngineStep Error) → has_failed s.phase ≡ b → Steps link at s result new → Stepped link at s result new → Stays link at s result new
stays_if true link at s new result f d st = let i = steps_failed link at s new result f d in stays_failed link at s new result f i.0 i.1
stays_if false link at s new result f d st = record { step = st; none = λ z. absurd (cc (f, z)) }

pub stays : {L : Type 0} (link : Ghosts L) (at : ℕ) (s new : State L) (result : Result EngineStep Error) → Steps link at s result new → Stepped link at s result new → Stays link at s result new
stays link at s new result d st = stays_if (has_failed s.phase) link at s new result refl d st
