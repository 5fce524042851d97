-- What a read comes to, by what the transport gave.
use Rattle.std.proofs.Common.{◌≡◌, ℕ, true, false, Result, Ok, refl, sym, ap, ◌∙◌, subst}
use Rattle.amqp_wire.specs.declared.link.Link.{Ghosts}
use Rattle.amqp_transport.specs.declared.frames.Frame.{Frame}
use Rattle.amqp_transport.specs.declared.transport.Error.{Error as TransportFault}
use Rattle.amqp_transport.specs.declared.transport.Next.{Next}
use Rattle.amqp_transport.specs.declared.transport.Next.TheVariants as next
use Rattle.amqp_transport.specs.Kinds.{amqp_spells}
use Rattle.amqp_transport.specs.Stream.{Grew}
use Rattle.amqp_transport.specs.Wire.{Wire, Polled}
use Rattle.amqp_engine.specs.declared.engine.EngineStep.{EngineStep}
use Rattle.amqp_engine.specs.declared.error.Error.{Error}
use Rattle.amqp_engine.specs.declared.phase.Phase.{Phase}
use Rattle.amqp_engine.specs.declared.phase.Phase.TheVariants as p
use Rattle.amqp_transport.specs.amqp_frames.declared.body.FrameBody.{FrameBody}
use Rattle.amqp_transport.specs.amqp_frames.declared.body.FrameBody.TheVariants as b
use Rattle.amqp_transport.specs.amqp_frames.Session.{of_session}
use Rattle.amqp_engine.specs.declared.sessions.Plan.{Plan}
use Rattle.amqp_engine.specs.State.{State}
use Rattle.amqp_engine.specs.Machine.{arrived, arrived_answer, admitted, admitted_answer, plan_of, received, answer_to}
use Rattle.amqp_engine.specs.Calls.{Reads, After}

-- the transport gave that
pub reads_so : {L : Type 0} (link : Ghosts L) (at : ℕ) (old new : State L) (answer given : Result (Next Frame) TransportFault) (wire : Wire L) (result : Result EngineStep Error) → Polled link 0 amqp_spells old.wire at answer wire → Grew link 0 amqp_spells old.wire at answer wire → answer ≡ given → After at (record old { wire = wire }) given result new → Reads link at old result new
reads_so {L} link at old new answer given wire result p j e d =
    record { answer = answer; wire = wire; polled = p; joined = j; does = subst (λ (a : Result (Next Frame) TransportFault). After at (record old { wire = wire }) a result new) (sym e) d }

-- an answer in two parts
pub nested : (answer : Result (Next Frame) TransportFault) (n m : Next Frame) → answer ≡ Ok n → n ≡ m → answer ≡ Ok m
nested answer n m e f = e ∙ ap (λ (k : Next Frame). Ok k) f

-- a session's frame goes by its plan
arrived_session : {L : Type 0} (s : State L) (x : Frame) (q : Plan) (body : FrameBody) → of_session body ≡ true → (arrived s x body ≡ admitted (plan_of s x) s x) × (arrived_answer q body ≡ admitted_answer q)
arrived_session s x q (b.Open y) e = absurd (cc e)
arrived_session s x q (b.Close y) e = absurd (cc e)
arrived_session s x q b.Empty e = absurd (cc e)
arrived_session s x q (b.Begin y) e = (refl, refl)
arrived_session s x q (b.Attach y) e = (refl, refl)
arrived_session s x q (b.Flow y) e = (refl, refl)
arrived_session s x q (b.Transfer y z) e = (refl, refl)
arrived_session s x q (b.Disposition y) e = (refl, refl)
arrived_session s x q (b.Detach y) e = (refl, refl)
arrived_session s x q (b.End y) e = (refl, refl)

-- another frame is not
arrived_other : {L : Type 0} (s : State L) (x y : Frame) (body : FrameBody) → of_session body ≡ false → arrived s x body ≡ arrived s y body
arrived_other s x y (b.Open z) e = refl
arrived_other s x y (b.Close z) e = refl
arrived_other s x y b.Empty e = refl
arrived_other s x y (b.Begin z) e = absurd (cc e)
arrived_other s x y (b.Attach z) e = absurd (cc e)
arrived_other s x y (b.Flow z) e = absurd (cc e)
arrived_other s x y (b.Transfer z w) e = absurd (cc e)
arrived_other s x y (b.Disposition z) e = absurd (cc e)
arrived_other s x y (b.Detach z) e = absurd (cc e)
arrived_other s x y (b.End z) e = absurd (cc e)

answered_other : (q r : Plan) (body : FrameBody) → of_session body ≡ false → arrived_answer q body ≡ arrived_answer r body
answered_other q r (b.Open z) e = refl
answered_other q r (b.Close z) e = refl
answered_other q r b.Empty e = refl
answered_other q r (b.Begin z) e = absurd (cc e)
answered_other q r (b.Attach z) e = absurd (cc e)
answered_other q r (b.Flow z) e = absurd (cc e)
answered_other q r (b.Transfer z w) e = absurd (cc e)
answered_other q r (b.Disposition z) e = absurd (cc e)
answered_other q r (b.Detach z) e = absurd (cc e)
answered_other q r (b.End z) e = absurd (cc e)

pub opened_after : {L : Type 0} (at : ℕ) (s : State L) (x : Frame) (result : Result EngineStep Error) (new : State L) → s.phase ≡ p.Opened → result ≡ arrived_answer (plan_of s x) x.body → new ≡ arrived s x x.body → After at s (Ok (next.Frame x)) result new
opened_after {L} at s x result new e r n =
    (subst (λ (q : Phase). result ≡ answer_to q s x) (sym e) r, subst (λ (q : Phase). new ≡ received q at s x) (sym e) n)

-- what a plan says of a frame that was made again of its parts
pub session_after : {L : Type 0} (at : ℕ) (s : State L) (x y : Frame) (q : Plan) (result : Result EngineStep Error) (new : State L) → s.phase ≡ p.Opened → y ≡ x → of_session x.body ≡ true → q ≡ plan_of s y → result ≡ admitted_answer q → new ≡ admitted q s y → After at s (Ok (next.Frame x)) result new
session_after {L} at s x y q result new e same o plan_is r n =
    let q_is : q ≡ plan_of s x = plan_is ∙ ap (λ (z : Frame). plan_of s z) same in
    let a = arrived_session s x (plan_of s x) x.body o in
    opened_after at s x result new e (r ∙ ap admitted_answer q_is ∙ sym a.1)
    (n ∙ ap (λ (z : Frame). admitted q s z) same ∙ ap (λ (r : Plan). admitted r s x) q_is ∙ sym a.0)

pub other_after : {L : Type 0} (at : ℕ) (s t : State L) (x y : Frame) (q : Plan) (body : FrameBody) (result : Result EngineStep Error) (new : State L) → s.phase ≡ p.Opened → body ≡ x.body → of_session body ≡ false → result ≡ arrived_answer q body → t ≡ s → new ≡ arrived t y body → After at s (Ok (next.Frame x)) result new
other_after {L} at s t x y q body result new e b o r t_is n =
    opened_after at s x result new e (r ∙ answered_other q (plan_of s x) body o ∙ ap (λ (z : FrameBody). arrived_answer (plan_of s x) z) b)
    (n ∙ ap (λ (u : State L). arrived u y body) t_is ∙ arrived_other s y x body o ∙ ap (λ (z : FrameBody). arrived s x z) b)
