-- A delivery that was complete is what a call that receives tells of.
use Rattle.std.proofs.Common.{◌≡◌, inl, inr, Some, Result, Ok, Err}
use Rattle.amqp_receiver.specs.declared.delivering.RecvReply.{RecvReply}
use Rattle.amqp_receiver.specs.declared.delivering.RecvReply.TheVariants.{Pending, Ready}
use Rattle.amqp_receiver.specs.declared.error.RecvError.{RecvError}
use Rattle.amqp_receiver.specs.declared.error.RecvError.TheVariants as error
use Rattle.amqp_receiver.specs.Delivering.{Gives, Receives}
use Rattle.amqp_receiver.specs.Receiver.{State}
use Rattle.amqp_receiver.specs.Receiving.{Got, Step}

pub given : (result : Result RecvReply RecvError) (x : Got) (step : Step) (new : State) → step.answer ≡ Some (Ok x) → Gives result x step.state new → Receives result step new
given (Ok Pending) x step new answer gives = absurd gives
given (Ok (Ready d)) x step new answer gives = (x, (answer, gives))
given (Err (error.Memory a)) x step new answer gives = inl tt
given (Err e) x step new answer gives = inr (x, (answer, gives))
