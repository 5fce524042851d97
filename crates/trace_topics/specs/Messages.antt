-- Messages between the two ends of a trace (OASIS AMQP 1.0, part 2, sections 2.6.2 and 2.6.12).
use Rattle.std.specs.Prelude.{ℕ, List}
use Rattle.amqp_words.specs.declared.step.End.{End as Side}
use Rattle.amqp_calls.specs.declared.step.Step.{Step}
use Rattle.amqp_calls.specs.declared.trace.Entry.{Entry}
use Rattle.amqp_link_calls.specs.Called.{Called}
use Rattle.amqp_receiver.specs.Receiver.{State as ReceiverState}
use Rattle.amqp_sender.specs.Sender.{State as SenderState}
use Rattle.amqp_sessions.specs.Parts.{EndpointState}
use Rattle.amqp_world.specs.History.{other}
use Rattle.amqp_session_world.specs.Carried.{AreCarried}
use Rattle.world_lives.specs.Lived.{MomentOf}
use Rattle.world_lives.specs.WorldLinks.Cutting.{AreBehind}
use Rattle.world_lives.specs.WorldLinks.Starting.{Awaits, Starts, HasNotBegun, Carries}

-- From two moments behind the same steps, what a receiver answers are the first of the messages that the sender at the
-- other end has sent, in order and unchanged: where both ends have attached the link, the first one on that handle of
-- the session, and as long as neither leaves it.
abbrev pub MessagesCarry : (steps : List Step) (entries : List Entry) → AreCarried steps entries → Type 0
MessagesCarry steps entries k =
    (e : Side) (c handle : ℕ)
    (p : MomentOf e steps entries k.made) (m : ℕ) (d : Called) (u : ReceiverState) (y : EndpointState)
    (q : MomentOf (other e) steps entries k.made) (n : ℕ) (l : Called) (t : SenderState) (x : EndpointState)
    → AreBehind e steps entries k.made p q → Awaits c handle m d u y _ _ _ _ p → Starts c n l t x _ _ _ _ q
    → HasNotBegun handle l t _ _ _ _ q → Carries handle m n d l u t y x _ _ _ _ p _ _ _ _ q
