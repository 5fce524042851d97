-- What an answer says of its call.
use Rattle.std.proofs.Common.{◌≡◌, ◌≤◌, ◌⊎◌, [], ◌∷◌, ◌++◌, inl, inr, ℕ, List, Bool, true, false, Option, Some, None, Result, Ok, Err, arith, refl, sym, ap, ◌∙◌, subst}
use Rattle.std.specs.Prelude.{◌↔◌}
use Rattle.amqp_wire.specs.declared.link.Link.{Ghosts}
use Rattle.amqp_wire.specs.declared.link.Held.{Held}
use Rattle.amqp_wire.specs.declared.link.Held.TheVariants.{Full, Failed as HeldFailed, Memory as HeldMemory}
use Rattle.amqp_wire.specs.declared.link.Stop.TheVariants.{Empty, End as EndStop, Failed}
use Rattle.amqp_wire.specs.declared.link.IoKind.TheVariants.{Fault, End}
use Rattle.amqp_wire.specs.declared.frame.Front.TheVariants.{Refused, Foreign}
use Rattle.amqp_wire.specs.Events.{LinkEvent, NotRead, NotWritten, Includes, read_of, reads_in}
use Rattle.amqp_wire.specs.Frame.{IsFront}
use Rattle.amqp_wire.specs.Codec.{Codec}
use Rattle.amqp_wire.proofs.Events.{includes_left, includes_right, read_of-append, reads_in-append}
use Rattle.amqp_composites.specs.declared.error.Error.{Error as AmqpError}
use Rattle.amqp_transport.specs.amqp_frames.declared.body.FrameBody.{FrameBody}
use Rattle.amqp_transport.specs.amqp_frames.declared.body.FrameBody.TheVariants as b
use Rattle.amqp_transport.specs.declared.frames.Frame.{Frame}
use Rattle.amqp_transport.specs.declared.idle_clock.IdleClock.{IdleClock}
use Rattle.amqp_transport.specs.declared.transport.Error.{Error as TransportFault}
use Rattle.amqp_transport.specs.declared.transport.Error.TheVariants as fault
use Rattle.amqp_transport.specs.declared.transport.Flush.{Flush}
use Rattle.amqp_transport.specs.declared.transport.Next.{Next}
use Rattle.amqp_transport.specs.declared.transport.Next.TheVariants as next
use Rattle.amqp_transport.specs.Causes.{IsUnspelled, Allows, IsLast}
use Rattle.amqp_transport.proofs.Passing.{last_included, last_left}
use Rattle.amqp_transport.specs.Clocks.{IsDue, HasElapsed}
use Rattle.amqp_transport.specs.Kinds.{amqp_spells, no_frame}
use Rattle.amqp_transport.specs.Stream.{Grew, frames_of}
use Rattle.amqp_transport.specs.Wire.{Wire, flush_of}
use Rattle.amqp_engine.specs.declared.engine.EngineStep.{EngineStep}
use Rattle.amqp_engine.specs.declared.engine.EngineStep.TheVariants as step
use Rattle.amqp_engine.specs.declared.error.Error.{Error}
use Rattle.amqp_engine.specs.declared.error.Error.TheVariants as error
use Rattle.amqp_engine.specs.declared.phase.Phase.{Phase}
use Rattle.amqp_engine.specs.declared.phase.Phase.TheVariants as p
use Rattle.amqp_engine.specs.declared.phase.Rejection.{Rejection}
use Rattle.amqp_engine.specs.declared.phase.Rejection.TheVariants as rejection
use Rattle.amqp_engine.specs.declared.sessions.Plan.{Plan}
use Rattle.amqp_engine.specs.declared.sessions.Plan.TheVariants as plan
use Rattle.amqp_engine.specs.Phases.{is_stopped, has_failed, is_open}
use Rattle.amqp_engine.specs.Plans.{rejection_told}
use Rattle.amqp_engine.specs.Machine.{received, answer_to, plan_of, admitted_answer, phase_after, awaited, awaited_answer, arrived, arrived_answer, outlasted}
use Rattle.amqp_engine.specs.State.{State, failing, closing, close_frame, error_for, beating}
use Rattle.amqp_engine.specs.Calls.{Puts, IsMemory, Steps, Acts, ThenActs, Reads, After, Writes, FlushesIf, AfterFlush, Sends, SendsIf}
use Rattle.amqp_engine.specs.Sentence.{IsCalm}
use Rattle.amqp_engine.specs.Faults.{IsFault, IsOwed, AllOwed, input_of}
use Rattle.amqp_engine.specs.Beats.{beat_said, IsDueFor, IsBeat}
use Rattle.amqp_engine.specs.Closers.{Closer, This, closer_by, IsCloser, KeepsCloser}
use Rattle.amqp_engine.specs.Outcomes.{IsHanded, IsIdle, IsWritten, HasWaited, HasRested, IsRefusal, HasWorked, IsOnward, IsTold, IsMoment, Stepped, IsClosedBy, HasClosed}
use Rattle.amqp_engine.proofs.Hearing.{IsListening, rejected_greeted}
use Rattle.amqp_engine.proofs.Runs.{RanBy, CanFollow, alike_refl, alike_same, alike_failing, none_by, then_by, read_by, flushed_by}
use Rattle.amqp_engine.proofs.Steps.{in_phase, heard_in, listening_holds, queued_of, puts_by, reached, beats_follow, answers_follow, closes_follow, open_follows, is_open_only}
use Rattle.amqp_engine.proofs.Writes.{write_events}
use Rattle.amqp_engine.specs.Phases.{hears}
use Rattle.amqp_engine.proofs.Closers.{Reads as IsReading, keeps_same, keeps_failing, keeps_after, closing_keeps, keeps_answering, keeps_refusing, keeps_wire}
use Rattle.amqp_engine.proofs.Beats.{beat_after, beat_wire, pending_unelapsed}
use Rattle.amqp_engine.proofs.Handed.{Hands, idles_after, hands_same, hands_failing, hands_beside, hands_after, hands_wire}

-- an answer to a frame that calls for a Close
record Refuses (phase : Phase) (result : Result EngineStep Error) (next : Phase) : Type 0 where
  pub why : Rejection
  pub is : result ≡ Err (rejection_told why)
  pub refusal : IsRefusal phase (rejection_told why) next

refused : Refuses p.OpenSent (Err error.IllegalState) p.Refused
refused = record { why = rejection.IllegalState; is = refl; refusal = (refl, refl) }

rejected : (why : Rejection) → Refuses p.Opened (Err (rejection_told why)) (p.Rejected why)
rejected why = record { why = why; is = refl; refusal = (why, refl, refl) }

-- an answer to a frame, and the phase then
abbrev IsAnswer : Phase → Result EngineStep Error → Phase → Type 0
IsAnswer phase result next = ((result ≡ Ok step.Worked) × IsOnward phase next) ⊎ Refuses phase result next

awaited_so : {L : Type 0} (at : ℕ) (s : State L) (body : FrameBody) → IsAnswer p.OpenSent (awaited_answer body) (awaited at s body).phase
awaited_so at s (b.Open y) = inl (refl, inl refl)
awaited_so at s (b.Close y) = inl (refl, inr refl)
awaited_so at s b.Empty = inr refused
awaited_so at s (b.Begin y) = inr refused
awaited_so at s (b.Attach y) = inr refused
awaited_so at s (b.Flow y) = inr refused
awaited_so at s (b.Transfer y z) = inr refused
awaited_so at s (b.Disposition y) = inr refused
awaited_so at s (b.Detach y) = inr refused
awaited_so at s (b.End y) = inr refused

admitted_so : (q : Plan) (phase : Phase) → has_failed phase ≡ false → IsAnswer p.Opened (admitted_answer q) (phase_after q phase)
admitted_so (plan.Reject why) phase h = inr (rejected why)
admitted_so plan.Deliver phase h = inl (refl, h)
admitted_so plan.Answer phase h = inl (refl, h)
admitted_so plan.End phase h = inl (refl, h)
admitted_so plan.Ask phase h = inl (refl, h)

arrived_so : {L : Type 0} (s : State L) (x : Frame) (body : FrameBody) → has_failed s.phase ≡ false → IsAnswer p.Opened (arrived_answer (plan_of s x) body) (arrived s x body).phase
arrived_so s x (b.Open y) h = inr (rejected rejection.IllegalState)
arrived_so s x (b.Close y) h = inl (refl, refl)
arrived_so s x b.Empty h = inl (refl, h)
arrived_so s x (b.Begin y) h = admitted_so (plan_of s x) s.phase h
arrived_so s x (b.Attach y) h = admitted_so (plan_of s x) s.phase h
arrived_so s x (b.Flow y) h = admitted_so (plan_of s x) s.phase h
arrived_so s x (b.Transfer y z) h = admitted_so (plan_of s x) s.phase h
arrived_so s x (b.Disposition y) h = admitted_so (plan_of s x) s.phase h
arrived_so s x (b.Detach y) h = admitted_so (plan_of s x) s.phase h
arrived_so s x (b.End y) h = admitted_so (plan_of s x) s.phase h

outlasted_so : {L : Type 0} (s : State L) (body : FrameBody) → has_failed s.phase ≡ false → has_failed (outlasted s body).phase ≡ false
outlasted_so s (b.Close y) h = refl
outlasted_so s (b.Open y) h = h
outlasted_so s b.Empty h = h
outlasted_so s (b.Begin y) h = h
outlasted_so s (b.Attach y) h = h
outlasted_so s (b.Flow y) h = h
outlasted_so s (b.Transfer y z) h = h
outlasted_so s (b.Disposition y) h = h
outlasted_so s (b.Detach y) h = h
outlasted_so s (b.End y) h = h

-- a frame that is read is answered by Worked, or refused
answer_so : {L : Type 0} (q : Phase) (at : ℕ) (s : State L) (x : Frame) → IsListening q → has_failed s.phase ≡ false → IsAnswer q (answer_to q s x) (received q at s x).phase
answer_so p.OpenSent at s x l h = awaited_so at s x.body
answer_so p.Opened at s x l h = arrived_so s x x.body h
answer_so p.CloseSent at s x l h = inl (refl, outlasted_so s x.body h)
answer_so p.Discarding at s x l h = inl (refl, outlasted_so s x.body h)
answer_so p.CloseReceived at s x l h = absurd l
answer_so p.Refused at s x l h = absurd l
answer_so (p.Rejected why) at s x l h = absurd l
answer_so p.Ended at s x l h = absurd l
answer_so p.Failed at s x l h = absurd l

told_is : {L : Type 0} (at : ℕ) (old : State L) (events : List LinkEvent) (given queued : List Frame) (result other : Result EngineStep Error) (new : State L) → result ≡ other → IsTold at old events given queued other new → IsTold at old events given queued result new
told_is at old events given queued result other new e t = subst (λ (r : Result EngineStep Error). IsTold at old events given queued r new) (sym e) t

told_refusal : {L : Type 0} (at : ℕ) (old : State L) (events : List LinkEvent) (given queued : List Frame) (why : Rejection) (new : State L) → HasWorked given queued → IsRefusal old.phase (rejection_told why) new.phase → IsTold at old events given queued (Err (rejection_told why)) new
told_refusal at old events given queued rejection.IllegalState new w r = (w, r)
told_refusal at old events given queued rejection.NotImplemented new w r = (w, r)
told_refusal at old events given queued rejection.NotFound new w r = (w, r)
told_refusal at old events given queued rejection.FramingError new w r = (w, r)

-- an error of the transport, which ends the engine
told_fault : {L : Type 0} (at : ℕ) (old s : State L) (events : List LinkEvent) (e : TransportFault) (result : Result EngineStep Error) (new : State L) → result ≡ Err (error.TransportError e) → new ≡ failing s → (IsCalm old → IsFault at old events e) → IsTold at old events [] [] result new
told_fault {L} at old s events e result new r n f = told_is at old events [] [] result (Err (error.TransportError e)) new r (ap (λ (t : State L). has_failed t.phase) n, f, refl)

-- an answer that gives something comes only where no error is kept
fresh : (kept : Option TransportFault) (y : Next Frame) → Allows kept (Ok y) → kept ≡ None
fresh None y a = refl
fresh (Some e) y a = absurd (cc a)

-- what passed before moved no bytes in
input_is : {L : Type 0} (old : State L) (es fs : List LinkEvent) → read_of es ≡ [] → input_of old (fs ++ es) ≡ input_of old fs
input_is old es fs n = ap (λ (u : List ℕ). old.wire.codec.input ++ u) (read_of-append fs es ∙ ap (λ (u : List ℕ). u ++ read_of fs) n)

included : (fs es : List LinkEvent) (y : LinkEvent) → IsLast fs y → Includes (fs ++ es) y
included fs es y p = includes_left fs es y (last_included fs y p)

-- the transport gave an error
told_err : {L : Type 0} (link : Ghosts L) (at : ℕ) (old : State L) (wire : Wire L) (e : TransportFault) (result : Result EngineStep Error) (new : State L) (g : Grew link 0 amqp_spells old.wire at (Err e) wire) (es : List LinkEvent) → IsListening old.phase → read_of es ≡ [] → After at (record old { wire = wire }) (Err e) result new → IsTold at old (g.events ++ es) [] [] result new
told_err link at old wire (fault.Memory m) result new g es l n a = told_is at old (g.events ++ es) [] [] result (Err (error.Memory m)) new a.0 tt
told_err link at old wire (fault.Io Fault) result new g es l n a =
    told_fault at old (record old { wire = wire }) (g.events ++ es) (fault.Io Fault) result new a.0 a.1 (λ c. inl (included g.events es (NotRead Failed) (g.cause (c (listening_holds old.phase l)))))
told_err link at old wire (fault.Io End) result new g es l n a =
    told_fault at old (record old { wire = wire }) (g.events ++ es) (fault.Io End) result new a.0 a.1 (λ c. included g.events es (NotRead EndStop) (g.cause (c (listening_holds old.phase l))))
told_err link at old wire fault.IdleTimeoutElapsed result new g es l n a =
    told_fault at old (record old { wire = wire }) (g.events ++ es) fault.IdleTimeoutElapsed result new a.0 a.1 (λ c. g.cause (c (listening_holds old.phase l)))
told_err link at old wire fault.DecodeError result new g es l n a =
    told_fault at old (record old { wire = wire }) (g.events ++ es) fault.DecodeError result new a.0 a.1
    (λ c. subst (λ (u : List ℕ). IsUnspelled 0 amqp_spells old.wire.codec.decoder u) (sym (input_is old es g.events n)) (g.cause (c (listening_holds old.phase l))))
told_err link at old wire fault.NotImplemented result new g es l n a =
    told_fault at old (record old { wire = wire }) (g.events ++ es) fault.NotImplemented result new a.0 a.1
    (λ c. subst (λ (u : List ℕ). IsFront 0 old.wire.codec.decoder u Foreign) (sym (input_is old es g.events n)) (g.cause (c (listening_holds old.phase l))))
told_err link at old wire fault.FramingError result new g es l n a =
    told_fault at old (record old { wire = wire }) (g.events ++ es) fault.FramingError result new a.0 a.1
    (λ c. inl (subst (λ (u : List ℕ). IsFront 0 old.wire.codec.decoder u Refused) (sym (input_is old es g.events n)) (g.cause (c (listening_holds old.phase l)))))

listening_live : (q : Phase) → IsListening q → is_stopped q ≡ false
listening_live p.OpenSent l = refl
listening_live p.Opened l = refl
listening_live p.CloseReceived l = refl
listening_live p.Refused l = refl
listening_live (p.Rejected why) l = refl
listening_live p.CloseSent l = refl
listening_live p.Discarding l = refl
listening_live p.Ended l = absurd l
listening_live p.Failed l = absurd l

-- what was written before is written, where nothing is queued since
written_then : {L : Type 0} (old new : State L) (fs es : List LinkEvent) → has_failed old.phase ≡ false → new.wire.codec.output ≡ old.wire.codec.output → IsWritten old.phase es old.wire.codec.output → Includes (fs ++ es) (NotWritten Full) ⊎ (new.wire.codec.output ≡ [])
written_then old new fs es h o (inl f) = absurd (cc (h, f))
written_then old new fs es h o (inr (inl i)) = inl (includes_right fs es (NotWritten Full) i)
written_then old new fs es h o (inr (inr e)) = inr (o ∙ e)

told_pending : {L : Type 0} (link : Ghosts L) (at : ℕ) (old : State L) (wire : Wire L) (new : State L) (g : Grew link 0 amqp_spells old.wire at (Ok next.Pending) wire) (es : List LinkEvent) → IsListening old.phase → (old.phase ≡ p.Opened → IsDue old.beat at → ⊥) → (HasElapsed wire.clock at → ⊥) → IsWritten old.phase es old.wire.codec.output → new ≡ record old { wire = wire } → HasWaited at old (g.events ++ es) new
told_pending {L} link at old wire new g es l u i w n =
    let phase : new.phase ≡ old.phase = ap (λ (t : State L). t.phase) n in
    record {
      last = last_left g.events es (NotRead Empty) (g.cause (fresh old.wire.kept next.Pending g.again));
      found = included g.events es (NotRead Empty) (g.cause (fresh old.wire.kept next.Pending g.again));
      written = written_then old new g.events es (listening_holds old.phase l) (ap (λ (t : State L). t.wire.codec.output) n ∙ g.output) w;
      phase = phase;
      live = ap is_stopped phase ∙ listening_live old.phase l;
      undue = u;
      still = ap (λ (t : State L). t.beat) n;
      unelapsed = subst (λ (t : State L). HasElapsed t.wire.clock at → ⊥) (sym n) i;
    }

told_after : {L : Type 0} (link : Ghosts L) (at : ℕ) (old : State L) (wire : Wire L) (answer : Result (Next Frame) TransportFault) (result : Result EngineStep Error) (new : State L) (g : Grew link 0 amqp_spells old.wire at answer wire) (es : List LinkEvent) → IsListening old.phase → (old.phase ≡ p.Opened → IsDue old.beat at → ⊥) → (answer ≡ Ok next.Pending → HasElapsed wire.clock at → ⊥) → read_of es ≡ [] → new.wire.codec.output ≡ old.wire.codec.output → IsWritten old.phase es old.wire.codec.output → After at (record old { wire = wire }) answer result new → IsTold at old (g.events ++ es) (frames_of answer) [] result new
told_after {L} link at old wire (Ok (next.Frame x)) result new g es l u i n o w a =
    let s : State L = record old { wire = wire } in
    let live = listening_holds old.phase l in
    let worked : HasWorked (x ∷ []) [] = omega arith in
    let phase : (received old.phase at s x).phase ≡ new.phase = sym (ap (λ (t : State L). t.phase) a.1) in
    elim (answer_so old.phase at s x l live) [
      | inl k ↦ told_is at old (g.events ++ es) (x ∷ []) [] result (Ok step.Worked) new (a.0 ∙ k.0)
          (record { worked = worked; onward = subst (λ (q : Phase). IsOnward old.phase q) phase k.1; written = λ i. inr (written_then old new g.events es live o w) })
      | inr r ↦ told_is at old (g.events ++ es) (x ∷ []) [] result (Err (rejection_told r.why)) new (a.0 ∙ r.is)
          (told_refusal at old (g.events ++ es) (x ∷ []) [] r.why new worked (subst (λ (q : Phase). IsRefusal old.phase (rejection_told r.why) q) phase r.refusal))
    ]
told_after link at old wire (Ok next.Pending) result new g es l u i n o w a =
    told_is at old (g.events ++ es) [] [] result (Ok step.Pending) new a.0 (told_pending link at old wire new g es l u (i refl) w a.1)
told_after link at old wire (Ok next.Ended) result new g es l u i n o w a =
    told_fault at old (record old { wire = wire }) (g.events ++ es) (fault.Io End) result new a.0 a.1 (λ c. included g.events es (NotRead EndStop) (g.cause (fresh old.wire.kept next.Ended g.again)).0)
told_after link at old wire (Err e) result new g es l u i n o w a = told_err link at old wire e result new g es l n a

-- what is done after the flush, with what its answer says, whatever was written before
record Acted {L : Type 0} (link : Ghosts L) (at : ℕ) (old : State L) (result : Result EngineStep Error) (new : State L) : Type 0 where
  pub events : List LinkEvent
  pub given : List Frame
  pub queued : List Frame
  pub by : RanBy link old events given queued new
  pub few : reads_in events ≤ 1
  pub moment : IsMoment at old given new
  pub told : (es : List LinkEvent) → read_of es ≡ [] → IsWritten old.phase es old.wire.codec.output → IsTold at old (events ++ es) given queued result new
  pub owed : AllOwed old.phase queued
  pub hands : Hands old given new
  pub idles : IsIdle result → given ≡ []
  pub beat : IsBeat at old given queued new
  pub closer : KeepsCloser old given queued new

-- no frame is given
moment_none : {L : Type 0} (link : Ghosts L) (at : ℕ) (old new : State L) (events : List LinkEvent) (queued : List Frame) → RanBy link old events [] queued new → IsMoment at old [] new
moment_none link at old new events queued r = inl (refl, r.run.since r.given_is)

moment_after : {L : Type 0} (link : Ghosts L) (at : ℕ) (old : State L) (wire : Wire L) (answer : Result (Next Frame) TransportFault) (result : Result EngineStep Error) (new : State L) (g : Grew link 0 amqp_spells old.wire at answer wire) → After at (record old { wire = wire }) answer result new → new.wire.clock ≡ wire.clock → RanBy link old g.events (frames_of answer) [] new → IsMoment at old (frames_of answer) new
moment_after link at old wire (Ok (next.Frame x)) result new g a c r = inr (x, refl, ap (λ (k : IdleClock). k.since) (c ∙ g.clock))
moment_after link at old wire (Ok next.Pending) result new g a c r = moment_none link at old new g.events [] r
moment_after link at old wire (Ok next.Ended) result new g a c r = moment_none link at old new g.events [] r
moment_after link at old wire (Err e) result new g a c r = moment_none link at old new g.events [] r

listening_reads : (q : Phase) → IsListening q → IsReading q
listening_reads p.OpenSent l = tt
listening_reads p.Opened l = tt
listening_reads p.CloseReceived l = absurd l
listening_reads p.Refused l = absurd l
listening_reads (p.Rejected why) l = absurd l
listening_reads p.CloseSent l = tt
listening_reads p.Discarding l = tt
listening_reads p.Ended l = absurd l
listening_reads p.Failed l = absurd l

acted_reads : {L : Type 0} (link : Ghosts L) (at : ℕ) (old : State L) (result : Result EngineStep Error) (new : State L) → IsListening old.phase → (old.phase ≡ p.Opened → IsDue old.beat at → ⊥) → Reads link at old result new → Acted link at old result new
acted_reads link at old result new l u r =
    let k = reached link at old r.wire r.answer result new l r.joined r.does in
    let by = read_by link at old r.wire r.answer new r.joined k.beside k.heard k.calm k.bounds in
    record {
      events = r.joined.events;
      given = frames_of r.answer;
      queued = [];
      by = by;
      few = r.joined.few;
      moment = moment_after link at old r.wire r.answer result new r.joined r.does k.beside.clock by;
      told = λ es n w. told_after link at old r.wire r.answer result new r.joined es l u (λ e. pending_unelapsed link at old.wire r.wire r.answer e r.polled) n (k.beside.output ∙ r.joined.output) w r.does;
      owed = tt;
      hands = hands_wire old r.wire (frames_of r.answer) new (hands_after at (record old { wire = r.wire }) r.answer result new r.does);
      idles = λ i. idles_after at (record old { wire = r.wire }) r.answer result new r.does i;
      beat = beat_wire at old r.wire (frames_of r.answer) [] new (beat_after at (record old { wire = r.wire }) r.answer result new (listening_holds old.phase l) r.does);
      closer = keeps_wire old r.wire (frames_of r.answer) [] new (keeps_after at (record old { wire = r.wire }) r.answer result new (listening_reads old.phase l) r.does);
    }

-- nothing was done
acted_none : {L : Type 0} (link : Ghosts L) (at : ℕ) (old : State L) (result : Result EngineStep Error) (new : State L) → RanBy link old [] [] [] new → ((es : List LinkEvent) → IsWritten old.phase es old.wire.codec.output → IsTold at old es [] [] result new) → new ≡ old → Acted link at old result new
acted_none {L} link at old result new r t n =
    record { events = []; given = []; queued = []; by = r; few = omega arith; moment = moment_none link at old new [] [] r; told = λ es k w. t es w; owed = tt; hands = hands_same old new n; idles = λ i. refl; beat = ap (λ (t : State L). t.beat) n; closer = keeps_same old new n }

-- memory was wanting
acted_wants : {L : Type 0} (link : Ghosts L) (at : ℕ) (old : State L) (result : Result EngineStep Error) (new : State L) → IsMemory result → new ≡ old → Acted link at old result new
acted_wants link at old (Ok v) new m e = absurd m
acted_wants link at old (Err (error.Memory a)) new m e = acted_none link at old (Err (error.Memory a)) new (none_by link old new (alike_same old new e)) (λ es w. tt) e
acted_wants link at old (Err (error.TransportError f)) new m e = absurd m
acted_wants link at old (Err error.IllegalState) new m e = absurd m
acted_wants link at old (Err error.NotImplemented) new m e = absurd m
acted_wants link at old (Err error.NotFound) new m e = absurd m
acted_wants link at old (Err error.RemoteClosed) new m e = absurd m
acted_wants link at old (Err (error.RemoteClosedWithError f)) new m e = absurd m

-- an end that owes a frame goes on to a phase that has not failed
owed_onward : (q next : Phase) (x : Frame) → IsOwed q x → has_failed next ≡ false → IsOnward q next
owed_onward p.OpenSent next x o h = absurd o
owed_onward p.Opened next x o h = h
owed_onward p.CloseReceived next x o h = h
owed_onward p.Refused next x o h = h
owed_onward (p.Rejected why) next x o h = h
owed_onward p.CloseSent next x o h = absurd o
owed_onward p.Discarding next x o h = absurd o
owed_onward p.Ended next x o h = absurd o
owed_onward p.Failed next x o h = absurd o

told_puts : {L : Type 0} (at : ℕ) (old : State L) (x : Frame) (after : State L) (es : List LinkEvent) (result : Result EngineStep Error) (new : State L) → IsOwed old.phase x → has_failed after.phase ≡ false → Puts old x after step.Worked result new → IsTold at old es [] (queued_of x result) result new
told_puts {L} at old x after es (Ok v) new o h q =
    let worked : HasWorked [] (x ∷ []) = omega arith in
    let live : has_failed new.phase ≡ false = ap (λ (t : State L). has_failed t.phase) q.2 ∙ h in
    told_is at old es [] (x ∷ []) (Ok v) (Ok step.Worked) new (ap (λ (z : EngineStep). Ok z) q.0)
    (record { worked = worked; onward = owed_onward old.phase new.phase x o live; written = λ i. absurd (omega (arith, i)) })
told_puts at old x after es (Err (error.Memory a)) new o h q = tt
told_puts at old x after es (Err (error.TransportError fault.FramingError)) new o h q =
    told_fault at old old es fault.FramingError (Err (error.TransportError fault.FramingError)) new refl q.1 (λ c. inr (x, o, q.0))
told_puts at old x after es (Err (error.TransportError (fault.Memory a))) new o h q = absurd q
told_puts at old x after es (Err (error.TransportError (fault.Io k))) new o h q = absurd q
told_puts at old x after es (Err (error.TransportError fault.IdleTimeoutElapsed)) new o h q = absurd q
told_puts at old x after es (Err (error.TransportError fault.DecodeError)) new o h q = absurd q
told_puts at old x after es (Err (error.TransportError fault.NotImplemented)) new o h q = absurd q
told_puts at old x after es (Err error.IllegalState) new o h q = absurd q
told_puts at old x after es (Err error.NotImplemented) new o h q = absurd q
told_puts at old x after es (Err error.NotFound) new o h q = absurd q
told_puts at old x after es (Err error.RemoteClosed) new o h q = absurd q
told_puts at old x after es (Err (error.RemoteClosedWithError y)) new o h q = absurd q

owed_of : {A : Type 0} (phase : Phase) (x : Frame) (result : Result A Error) → IsOwed phase x → AllOwed phase (queued_of x result)
owed_of phase x (Ok v) o = o
owed_of phase x (Err e) o = tt

hands_puts : {L : Type 0} (old : State L) (x : Frame) (after : State L) (result : Result EngineStep Error) (new : State L) → after.channels ≡ old.channels → (hears after.phase ≡ true → hears old.phase ≡ true) → Puts old x after step.Worked result new → Hands old [] new
hands_puts old x after (Ok v) new c l q = hands_beside old after new c l q.2
hands_puts old x after (Err (error.Memory a)) new c l q = hands_same old new q
hands_puts old x after (Err (error.TransportError fault.FramingError)) new c l q = hands_failing old new q.1
hands_puts old x after (Err (error.TransportError (fault.Memory a))) new c l q = absurd q
hands_puts old x after (Err (error.TransportError (fault.Io k))) new c l q = absurd q
hands_puts old x after (Err (error.TransportError fault.IdleTimeoutElapsed)) new c l q = absurd q
hands_puts old x after (Err (error.TransportError fault.DecodeError)) new c l q = absurd q
hands_puts old x after (Err (error.TransportError fault.NotImplemented)) new c l q = absurd q
hands_puts old x after (Err error.IllegalState) new c l q = absurd q
hands_puts old x after (Err error.NotImplemented) new c l q = absurd q
hands_puts old x after (Err error.NotFound) new c l q = absurd q
hands_puts old x after (Err error.RemoteClosed) new c l q = absurd q
hands_puts old x after (Err (error.RemoteClosedWithError y)) new c l q = absurd q

beat_puts : {L : Type 0} (at : ℕ) (old : State L) (x : Frame) (after : State L) (result : Result EngineStep Error) (new : State L) → IsDueFor x.body at old.beat → after.beat ≡ beat_said x.body at old.beat → Puts old x after step.Worked result new → IsBeat at old [] (queued_of x result) new
beat_puts {L} at old x after (Ok v) new d c q = (d, ap (λ (t : State L). t.beat) q.2 ∙ c)
beat_puts {L} at old x after (Err (error.Memory a)) new d c q = ap (λ (t : State L). t.beat) q
beat_puts {L} at old x after (Err (error.TransportError fault.FramingError)) new d c q = ap (λ (t : State L). t.beat) q.1
beat_puts at old x after (Err (error.TransportError (fault.Memory a))) new d c q = absurd q
beat_puts at old x after (Err (error.TransportError (fault.Io k))) new d c q = absurd q
beat_puts at old x after (Err (error.TransportError fault.IdleTimeoutElapsed)) new d c q = absurd q
beat_puts at old x after (Err (error.TransportError fault.DecodeError)) new d c q = absurd q
beat_puts at old x after (Err (error.TransportError fault.NotImplemented)) new d c q = absurd q
beat_puts at old x after (Err error.IllegalState) new d c q = absurd q
beat_puts at old x after (Err error.NotImplemented) new d c q = absurd q
beat_puts at old x after (Err error.NotFound) new d c q = absurd q
beat_puts at old x after (Err error.RemoteClosed) new d c q = absurd q
beat_puts at old x after (Err (error.RemoteClosedWithError y)) new d c q = absurd q

-- what a frame that is queued makes of it
abbrev KeepsBy : {L : Type 0} → State L → Frame → State L → Type 0
KeepsBy old x after = (c : Closer) → IsCloser old.phase old.reason c → IsCloser after.phase after.reason (closer_by This x.body c)

closer_puts : {L : Type 0} (old : State L) (x : Frame) (after : State L) (result : Result EngineStep Error) (new : State L) → KeepsBy old x after → Puts old x after step.Worked result new → KeepsCloser old [] (queued_of x result) new
closer_puts {L} old x after (Ok v) new k q = λ c h. subst (λ (t : State L). IsCloser t.phase t.reason (closer_by This x.body c)) (sym q.2) (k c h)
closer_puts old x after (Err (error.Memory a)) new k q = keeps_same old new q
closer_puts old x after (Err (error.TransportError fault.FramingError)) new k q = keeps_failing old old new q.1
closer_puts old x after (Err (error.TransportError (fault.Memory a))) new k q = absurd q
closer_puts old x after (Err (error.TransportError (fault.Io z))) new k q = absurd q
closer_puts old x after (Err (error.TransportError fault.IdleTimeoutElapsed)) new k q = absurd q
closer_puts old x after (Err (error.TransportError fault.DecodeError)) new k q = absurd q
closer_puts old x after (Err (error.TransportError fault.NotImplemented)) new k q = absurd q
closer_puts old x after (Err error.IllegalState) new k q = absurd q
closer_puts old x after (Err error.NotImplemented) new k q = absurd q
closer_puts old x after (Err error.NotFound) new k q = absurd q
closer_puts old x after (Err error.RemoteClosed) new k q = absurd q
closer_puts old x after (Err (error.RemoteClosedWithError y)) new k q = absurd q

in_closer : {L : Type 0} (old : State L) (q : Phase) (c : Closer) → old.phase ≡ q → IsCloser old.phase old.reason c → IsCloser q old.reason c
in_closer old q c e k = subst (λ (z : Phase). IsCloser z old.reason c) e k

-- a frame that is owed
acted_puts : {L : Type 0} (link : Ghosts L) (at : ℕ) (old : State L) (x : Frame) (after : State L) (result : Result EngineStep Error) (new : State L) → CanFollow old x after → IsOwed old.phase x → has_failed after.phase ≡ false → after.channels ≡ old.channels → (hears after.phase ≡ true → hears old.phase ≡ true) → IsDueFor x.body at old.beat → after.beat ≡ beat_said x.body at old.beat → KeepsBy old x after → Puts old x after step.Worked result new → Acted link at old result new
acted_puts link at old x after result new f o h c l d t k q =
    let by = puts_by link old x after step.Worked result new f q in
    record {
      events = [];
      given = [];
      queued = queued_of x result;
      by = by;
      few = omega arith;
      moment = moment_none link at old new [] (queued_of x result) by;
      told = λ es n w. told_puts at old x after es result new o h q;
      owed = owed_of old.phase x result o;
      hands = hands_puts old x after result new c l q;
      idles = λ i. refl;
      beat = beat_puts at old x after result new d t q;
      closer = closer_puts old x after result new k q;
    }

owed_in : {L : Type 0} (old : State L) (q : Phase) (x : Frame) → old.phase ≡ q → IsOwed q x → IsOwed old.phase x
owed_in old q x e o = subst (λ (r : Phase). IsOwed r x) (sym e) o

listens_in : {L : Type 0} (old : State L) (q : Phase) → old.phase ≡ q → IsListening q → IsListening old.phase
listens_in old q e l = subst (λ (r : Phase). IsListening r) (sym e) l

acted_rests : {L : Type 0} (link : Ghosts L) (at : ℕ) (old : State L) (result : Result EngineStep Error) (new : State L) → is_stopped old.phase ≡ true → result ≡ Ok step.Stopped → new ≡ old → Acted link at old result new
acted_rests {L} link at old result new s r n =
    acted_none link at old result new (none_by link old new (alike_same old new n))
    (λ es w. told_is at old es [] [] result (Ok step.Stopped) new r (subst (λ (t : State L). HasRested old es t) (sym n) (record { stopped = s; phase = refl; written = w }))) n

acted : {L : Type 0} (q : Phase) (link : Ghosts L) (at : ℕ) (old : State L) (result : Result EngineStep Error) (new : State L) → old.phase ≡ q → Acts q link at old result new → Acted link at old result new
acted p.OpenSent link at old result new e a = acted_reads link at old result new (listens_in old p.OpenSent e tt) (λ f. absurd (cc (e, f))) a
acted p.Opened link at old result new e (inl w) = acted_puts link at old no_frame (beating old no_frame at) result new (beats_follow old at e) (owed_in old p.Opened no_frame e refl) (ap has_failed e) refl (λ h. h) w.0 refl (λ c k. k) w.1
acted p.Opened link at old result new e (inr (n, inl r)) = acted_reads link at old result new (listens_in old p.Opened e tt) (λ f. n) r
acted p.Opened link at old result new e (inr (n, inr m)) = acted_wants link at old result new m.0 m.1
acted p.CloseReceived link at old result new e a =
    acted_puts link at old (close_frame None) _ result new (answers_follow old (λ sent s. in_phase old p.CloseReceived sent e s) (λ before h. inl (heard_in old p.CloseReceived before e h)) (ap is_stopped e)) (owed_in old p.CloseReceived (close_frame None) e refl) refl refl (λ h. absurd (cc h)) tt refl (λ c k. keeps_answering old.reason c (in_closer old p.CloseReceived c e k)) a
acted p.Refused link at old result new e a =
    acted_puts link at old (close_frame None) _ result new (answers_follow old (λ sent s. in_phase old p.Refused sent e s) (λ before h. inr (inl (heard_in old p.Refused before e h))) (ap is_stopped e)) (owed_in old p.Refused (close_frame None) e refl) refl refl (λ h. absurd (cc h)) tt refl (λ c k. keeps_refusing old.reason c (in_closer old p.Refused c e k)) a
acted (p.Rejected why) link at old result new e (inl a) =
    acted_puts link at old (close_frame (Some (error_for why))) (closing old (Some (error_for why))) result new
    (closes_follow old (Some (error_for why)) (λ sent s. in_phase old (p.Rejected why) sent e s) (λ before h. rejected_greeted before (heard_in old (p.Rejected why) before e h).0.it) (ap is_stopped e)) (owed_in old (p.Rejected why) (close_frame (Some (error_for why))) e refl) refl refl (λ h. absurd (cc h)) tt refl (λ c k. closing_keeps old (Some (error_for why)) c (in_closer old (p.Rejected why) c e k)) a
acted (p.Rejected why) link at old result new e (inr m) = acted_wants link at old result new m.0 m.1
acted p.CloseSent link at old result new e a = acted_reads link at old result new (listens_in old p.CloseSent e tt) (λ f. absurd (cc (e, f))) a
acted p.Discarding link at old result new e a = acted_reads link at old result new (listens_in old p.Discarding e tt) (λ f. absurd (cc (e, f))) a
acted p.Ended link at old result new e a = acted_rests link at old result new (ap is_stopped e) a.0 a.1
acted p.Failed link at old result new e a = acted_rests link at old result new (ap is_stopped e) a.0 a.1

stepped_so : {L : Type 0} (link : Ghosts L) (at : ℕ) (old : State L) (events : List LinkEvent) (given queued : List Frame) (result : Result EngineStep Error) (new : State L) → RanBy link old events given queued new → reads_in events ≤ 1 → IsMoment at old given new → IsTold at old events given queued result new → AllOwed old.phase queued → Hands old given new → (IsIdle result → given ≡ []) → IsBeat at old given queued new → KeepsCloser old given queued new → Stepped link at old result new
stepped_so link at old events given queued result new b f m t o k i c z =
    record {
      run = b.run;
      few = subst (λ (es : List LinkEvent). reads_in es ≤ 1) (sym b.events_is) f;
      moment = subst (λ (gs : List Frame). IsMoment at old gs new) (sym b.given_is) m;
      told = subst (λ (es : List LinkEvent). IsTold at old es b.run.given b.run.queued result new) (sym b.events_is)
          (subst (λ (gs : List Frame). IsTold at old events gs b.run.queued result new) (sym b.given_is)
          (subst (λ (qs : List Frame). IsTold at old events given qs result new) (sym b.queued_is) t));
      owed = subst (λ (qs : List Frame). AllOwed old.phase qs) (sym b.queued_is) o;
      handed = subst (λ (gs : List Frame). IsHanded old gs new) (sym b.given_is) k.handed;
      listens = k.listens;
      idles = λ z. b.given_is ∙ i z;
      beat = subst (λ (gs : List Frame). IsBeat at old gs b.run.queued new) (sym b.given_is) (subst (λ (qs : List Frame). IsBeat at old given qs new) (sym b.queued_is) c);
      closer = subst (λ (gs : List Frame). KeepsCloser old gs b.run.queued new) (sym b.given_is) (subst (λ (qs : List Frame). KeepsCloser old given qs new) (sym b.queued_is) z);
    }

-- after the link took bytes
abbrev sent_state : {L : Type 0} → State L → L → List ℕ → State L
sent_state s link output = record s { wire = record s.wire { codec = record s.wire.codec { link = link; output = output } } }

told_fault_before : {L : Type 0} (at : ℕ) (old : State L) (to : L) (output : List ℕ) (events : List LinkEvent) (e : TransportFault) → IsFault at (sent_state old to output) events e → IsFault at old events e
told_fault_before at old to output events (fault.Memory a) f = f
told_fault_before at old to output events (fault.Io Fault) f = f
told_fault_before at old to output events (fault.Io End) f = f
told_fault_before at old to output events fault.IdleTimeoutElapsed f = f
told_fault_before at old to output events fault.DecodeError f = f
told_fault_before at old to output events fault.NotImplemented f = f
told_fault_before at old to output events fault.FramingError f = f

told_before : {L : Type 0} (at : ℕ) (old : State L) (to : L) (output : List ℕ) (events : List LinkEvent) (given queued : List Frame) (result : Result EngineStep Error) (new : State L) → IsTold at (sent_state old to output) events given queued result new → IsTold at old events given queued result new
told_before at old to output events given queued (Ok step.Worked) new t = record { worked = t.worked; onward = t.onward; written = t.written }
told_before at old to output events given queued (Ok step.Pending) new t = record { last = t.last; found = t.found; written = t.written; phase = t.phase; live = t.live; undue = t.undue; still = t.still; unelapsed = t.unelapsed }
told_before at old to output events given queued (Ok step.Stopped) new t = record { stopped = t.stopped; phase = t.phase; written = t.written }
told_before at old to output events given queued (Err (error.Memory a)) new t = t
told_before at old to output events given queued (Err (error.TransportError e)) new t = (t.0, λ c. told_fault_before at old to output events e (t.1 c), t.2)
told_before at old to output events given queued (Err error.IllegalState) new t = t
told_before at old to output events given queued (Err error.NotImplemented) new t = t
told_before at old to output events given queued (Err error.NotFound) new t = t
told_before at old to output events given queued (Err error.RemoteClosed) new t = t
told_before at old to output events given queued (Err (error.RemoteClosedWithError e)) new t = t

few_then : (es fs : List LinkEvent) → reads_in es ≡ 0 → reads_in fs ≤ 1 → reads_in (fs ++ es) ≤ 1
few_then es fs n f = omega (arith, reads_in-append fs es, n, f)

-- what was written, and then what was done
stepped_acts : {L : Type 0} (link : Ghosts L) (at : ℕ) (old : State L) (to : L) (output : List ℕ) (es : List LinkEvent) (result : Result EngineStep Error) (new : State L) → RanBy link old es [] [] (sent_state old to output) → reads_in es ≡ 0 → read_of es ≡ [] → IsWritten old.phase es output → Acted link at (sent_state old to output) result new → Stepped link at old result new
stepped_acts link at old to output es result new b n r w a =
    stepped_so link at old (a.events ++ es) a.given a.queued result new (then_by link old (sent_state old to output) new es a.events [] a.given [] a.queued b a.by)
    (few_then es a.events n a.few) a.moment (told_before at old to output (a.events ++ es) a.given a.queued result new (a.told es r w)) a.owed (hands_wire old (record old.wire { codec = record old.wire.codec { link = to; output = output } }) a.given new a.hands) a.idles
    (beat_wire at old (record old.wire { codec = record old.wire.codec { link = to; output = output } }) a.given a.queued new a.beat)
    (keeps_wire old (record old.wire { codec = record old.wire.codec { link = to; output = output } }) a.given a.queued new a.closer)

-- the flush failed, or memory was wanting
stepped_held : {L : Type 0} (link : Ghosts L) (at : ℕ) (old : State L) (to : L) (output : List ℕ) (es : List LinkEvent) (result : Result EngineStep Error) (new : State L) → RanBy link old es [] [] (sent_state old to output) → reads_in es ≡ 0 → RanBy link (sent_state old to output) [] [] [] new → IsTold at old es [] [] result new → Hands (sent_state old to output) [] new → new.beat ≡ old.beat → KeepsCloser old [] [] new → Stepped link at old result new
stepped_held link at old to output es result new b n c t k i z =
    let by = then_by link old (sent_state old to output) new es [] [] [] [] [] b c in
    stepped_so link at old es [] [] result new by (omega (arith, n)) (moment_none link at old new es [] by) t tt (hands_wire old (record old.wire { codec = record old.wire.codec { link = to; output = output } }) [] new k) (λ y. refl) i z

acts_of : {L : Type 0} (link : Ghosts L) (at : ℕ) (f : Flush) (flush : Result Flush Error) (s mid : State L) (result : Result EngineStep Error) (new : State L) → flush ≡ Ok f → mid ≡ s → ThenActs link at flush mid result new → Acted link at s result new
acts_of {L} link at f flush s mid result new e m a =
    let d : ThenActs link at (Ok f) s result new = subst (λ (t : State L). ThenActs link at (Ok f) t result new) m (subst (λ (r : Result Flush Error). ThenActs link at r mid result new) e a) in
    acted s.phase link at s result new refl d

-- by how the flush ended
stepped_flush : {L : Type 0} (link : Ghosts L) (at : ℕ) (old : State L) (to : L) (output : List ℕ) (bytes : List ℕ) (held : Option Held) (flush : Result Flush Error) (mid : State L) (result : Result EngineStep Error) (new : State L) → RanBy link old (write_events bytes held) [] [] (sent_state old to output) → (held ≡ None → output ≡ []) → AfterFlush (sent_state old to output) (flush_of held) flush mid → ThenActs link at flush mid result new → Stepped link at old result new
stepped_flush link at old to output bytes None flush mid result new b all d a =
    stepped_acts link at old to output (write_events bytes None) result new b refl refl (inr (inr (all refl))) (acts_of link at _ flush (sent_state old to output) mid result new d.0 d.1 a)
stepped_flush link at old to output bytes (Some Full) flush mid result new b all d a =
    stepped_acts link at old to output (write_events bytes (Some Full)) result new b refl refl (inr (inl (inl refl))) (acts_of link at _ flush (sent_state old to output) mid result new d.0 d.1 a)
stepped_flush {L} link at old to output bytes (Some HeldFailed) flush mid result new b all d a =
    let e : ThenActs link at (Err (error.TransportError (fault.Io Fault))) mid result new = subst (λ (r : Result Flush Error). ThenActs link at r mid result new) d.0 a in
    let n : new ≡ failing (sent_state old to output) = e.1 ∙ d.1 in
    stepped_held link at old to output (write_events bytes (Some HeldFailed)) result new b refl (none_by link (sent_state old to output) new (alike_failing (sent_state old to output) new n))
    (told_fault at old (sent_state old to output) (write_events bytes (Some HeldFailed)) (fault.Io Fault) result new e.0 n (λ c. inr (inl refl))) (hands_failing (sent_state old to output) new n) (ap (λ (t : State L). t.beat) n) (keeps_failing old (sent_state old to output) new n)
stepped_flush {L} link at old to output bytes (Some HeldMemory) flush mid result new b all d a =
    let e : ThenActs link at (Err (error.Memory (record {}))) mid result new = subst (λ (r : Result Flush Error). ThenActs link at r mid result new) d.0 a in
    stepped_held link at old to output (write_events bytes (Some HeldMemory)) result new b refl (none_by link (sent_state old to output) new (alike_same (sent_state old to output) new (e.1 ∙ d.1)))
    (told_is at old (write_events bytes (Some HeldMemory)) [] [] result (Err (error.Memory (record {}))) new e.0 tt) (hands_same (sent_state old to output) new (e.1 ∙ d.1)) (ap (λ (t : State L). t.beat) (e.1 ∙ d.1)) (keeps_same (sent_state old to output) new (e.1 ∙ d.1))

-- the answer of the flush and what is left of the transport are told by how the flush ended
stepped_writes : {L : Type 0} (link : Ghosts L) (at : ℕ) (old : State L) (flush : Result Flush Error) (mid : State L) (result : Result EngineStep Error) (new : State L) → Writes link old flush mid → ThenActs link at flush mid result new → Stepped link at old result new
stepped_writes {L} link at old flush mid result new w a =
    let f = w.flushed in
    let same : record old { wire = w.wire } ≡ sent_state old w.wire.codec.link w.wire.codec.output =
    ap (λ (v : Wire L). record old { wire = v }) (f.rest ∙ ap (λ (c : Codec L). record old.wire { codec = c }) f.flushed.rest) in
    stepped_flush link at old w.wire.codec.link w.wire.codec.output f.flushed.bytes f.held flush mid result new
    (subst (λ (t : State L). RanBy link old (write_events f.flushed.bytes f.held) [] [] t) same (flushed_by link old w.wire w.answer f)) f.flushed.all
    (subst (λ (t : State L). AfterFlush t (flush_of f.held) flush mid) same (subst (λ (r : Result Flush TransportFault). AfterFlush (record old { wire = w.wire }) r flush mid) f.answer w.does)) a

stepped_if : {L : Type 0} (failed : Bool) (link : Ghosts L) (at : ℕ) (old : State L) (flush : Result Flush Error) (mid : State L) (result : Result EngineStep Error) (new : State L) → has_failed old.phase ≡ failed → FlushesIf failed link old flush mid → ThenActs link at flush mid result new → Stepped link at old result new
stepped_if true link at old flush mid result new h f a =
    stepped_acts link at old old.wire.codec.link old.wire.codec.output [] result new (none_by link old old (alike_refl old)) refl refl (inl h) (acts_of link at _ flush old mid result new f.0 f.1 a)
stepped_if false link at old flush mid result new h w a = stepped_writes link at old flush mid result new w a

pub stepped : {L : Type 0} (link : Ghosts L) (at : ℕ) (old : State L) (result : Result EngineStep Error) (new : State L) → Steps link at old result new → Stepped link at old result new
stepped link at old result new s = stepped_if (has_failed old.phase) link at old s.flush s.mid result new refl s.flushes s.acts

-- a Close
closed_told : {L : Type 0} (old : State L) (y : Option AmqpError) (result : Result Unit Error) (new : State L) → old.phase ≡ p.Opened → Puts old (close_frame y) (closing old y) tt result new → IsClosedBy old y (queued_of (close_frame y) result) result new
closed_told old y (Ok v) new o q = (refl, q.2, o)
closed_told old y (Err (error.Memory a)) new o q = (refl, q)
closed_told old y (Err (error.TransportError fault.FramingError)) new o q = (refl, q.0, q.1)
closed_told old y (Err (error.TransportError (fault.Memory a))) new o q = absurd q
closed_told old y (Err (error.TransportError (fault.Io k))) new o q = absurd q
closed_told old y (Err (error.TransportError fault.IdleTimeoutElapsed)) new o q = absurd q
closed_told old y (Err (error.TransportError fault.DecodeError)) new o q = absurd q
closed_told old y (Err (error.TransportError fault.NotImplemented)) new o q = absurd q
closed_told old y (Err error.IllegalState) new o q = absurd q
closed_told old y (Err error.NotImplemented) new o q = absurd q
closed_told old y (Err error.NotFound) new o q = absurd q
closed_told old y (Err error.RemoteClosed) new o q = absurd q
closed_told old y (Err (error.RemoteClosedWithError e)) new o q = absurd q

closed_so : {L : Type 0} (link : Ghosts L) (old : State L) (y : Option AmqpError) (queued : List Frame) (result : Result Unit Error) (new : State L) → RanBy link old [] [] queued new → IsClosedBy old y queued result new → HasClosed link old y result new
closed_so link old y queued result new b t =
    record { run = b.run; silent = b.events_is; none = b.given_is; told = subst (λ (qs : List Frame). IsClosedBy old y qs result new) (sym b.queued_is) t }

closed_if : {L : Type 0} (open_now : Bool) (link : Ghosts L) (old : State L) (y : Option AmqpError) (result : Result Unit Error) (new : State L) → is_open old.phase ≡ open_now → SendsIf open_now old (close_frame y) (closing old y) result new → HasClosed link old y result new
closed_if true link old y result new o q =
    closed_so link old y (queued_of (close_frame y) result) result new (puts_by link old (close_frame y) (closing old y) tt result new (open_follows old y (is_open_only old.phase o)) q) (closed_told old y result new (is_open_only old.phase o) q)
closed_if false link old y result new o q =
    closed_so link old y [] result new (none_by link old new (alike_same old new q.1))
    (subst (λ (r : Result Unit Error). IsClosedBy old y [] r new) (sym q.0) (refl, o, q.1))

pub closed : {L : Type 0} (link : Ghosts L) (old : State L) (y : Option AmqpError) (result : Result Unit Error) (new : State L) → Sends old (close_frame y) (closing old y) result new → HasClosed link old y result new
closed link old y result new q = closed_if (is_open old.phase) link old y result new refl q

-- Stopped comes exactly where the connection had stopped
onward_live : (q next : Phase) → IsOnward q next → is_stopped q ≡ false
onward_live p.OpenSent next i = refl
onward_live p.Opened next i = refl
onward_live p.CloseReceived next i = refl
onward_live p.Refused next i = refl
onward_live (p.Rejected why) next i = refl
onward_live p.CloseSent next i = refl
onward_live p.Discarding next i = refl
onward_live p.Ended next i = absurd i
onward_live p.Failed next i = absurd i

stops_told : {L : Type 0} (at : ℕ) (old : State L) (events : List LinkEvent) (given queued : List Frame) (answer : EngineStep) (new : State L) → IsTold at old events given queued (Ok answer) new → (answer ≡ step.Stopped) ↔ (is_stopped old.phase ≡ true)
stops_told at old events given queued step.Worked new t = (λ e. absurd (cc e), λ e. let live = onward_live old.phase new.phase t.onward in absurd (cc (e, live)))
stops_told at old events given queued step.Pending new t = (λ e. absurd (cc e), λ e. let live = ap is_stopped (sym t.phase) ∙ t.live in absurd (cc (e, live)))
stops_told at old events given queued step.Stopped new t = (λ e. ap is_stopped (sym t.phase) ∙ t.stopped, λ e. refl)

pub stops_so : {L : Type 0} (link : Ghosts L) (at : ℕ) (old new : State L) (answer : EngineStep) → Steps link at old (Ok answer) new → (answer ≡ step.Stopped) ↔ (is_stopped old.phase ≡ true)
stops_so link at old new answer s = let k = stepped link at old (Ok answer) new s in stops_told at old k.run.events k.run.given k.run.queued answer new k.told
