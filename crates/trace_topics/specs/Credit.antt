-- Credit between the two ends of a trace (OASIS AMQP 1.0, part 2, section 2.6.7).
use Rattle.std.specs.Prelude.{ℕ, List}
use Rattle.amqp_words.specs.declared.step.End.{End as Side}
use Rattle.amqp_calls.specs.declared.step.Step.{Step}
use Rattle.amqp_calls.specs.declared.trace.Entry.{Entry}
use Rattle.amqp_link_calls.specs.Called.{Called}
use Rattle.amqp_receiver.specs.Receiver.{State as ReceiverState}
use Rattle.amqp_sender.specs.Sender.{State as SenderState}
use Rattle.amqp_sessions.specs.Parts.{EndpointState}
use Rattle.amqp_world.specs.History.{other}
use Rattle.amqp_session_world.specs.Carried.{AreCarried}
use Rattle.world_lives.specs.Lived.{MomentOf}
use Rattle.world_lives.specs.WordsCarry.Carrying.{Grants, Listens, Carries}

-- From two moments at which no Flow of a link is on its way, a sender sends by credit that the receiver at the other end
-- has given.
abbrev pub CreditCarries : (steps : List Step) (entries : List Entry) → AreCarried steps entries → Type 0
CreditCarries steps entries k =
    (e : Side) (c handle : ℕ)
    (p : MomentOf e steps entries k.made) (m : ℕ) (d : Called) (u : ReceiverState) (y : EndpointState)
    (q : MomentOf (other e) steps entries k.made) (n : ℕ) (l : Called) (t : SenderState) (x : EndpointState)
    → Grants c m d u y _ _ _ _ p → Listens c handle n l t x _ _ _ _ q
    → Carries c handle m n d l u t y x _ _ _ _ p _ _ _ _ q
