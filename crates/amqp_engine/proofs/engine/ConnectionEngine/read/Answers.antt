use Rattle.std.proofs.Common.{refl, ap, Ok, Err}
use Rattle.amqp_transport.specs.declared.transport.Next.TheVariants as next
use Rattle.amqp_engine.specs.declared.error.Error.{Error}
use Rattle.amqp_engine.proofs.Reading.{reads_so, nested}
use Rattle.amqp_engine.proofs.engine.ConnectionEngine.read.Goals as goal

pub returns-in-Ok-Frame : goal.returns-in-Ok-Frame
returns-in-Ok-Frame g c = rw (← c.self.view_is) (reads_so g.L.Link c.args.at _ _ c.poll_next.result (Ok (next.Frame c.in-Ok-Frame.frame)) c.poll_next.new.self _ c.poll_next.ensures.answer c.poll_next.ensures.joined (nested _ _ _ c.in-Ok-Frame.is c.in-Ok-Frame.field-0-is) (c.receive.ensures.answer, c.receive.ensures.state))

pub returns-in-Ok-Pending : goal.returns-in-Ok-Pending
returns-in-Ok-Pending g c = rw (← c.self.view_is) (reads_so g.L.Link c.args.at _ _ c.poll_next.result (Ok next.Pending) c.poll_next.new.self _ c.poll_next.ensures.answer c.poll_next.ensures.joined (nested _ _ _ c.in-Ok-Pending.is c.in-Ok-Pending.field-0-is) (refl, refl))

pub returns-in-Ok-Ended : goal.returns-in-Ok-Ended
returns-in-Ok-Ended g c = rw (← c.self.view_is) (reads_so g.L.Link c.args.at _ _ c.poll_next.result (Ok next.Ended) c.poll_next.new.self _ c.poll_next.ensures.answer c.poll_next.ensures.joined (nested _ _ _ c.in-Ok-Ended.is c.in-Ok-Ended.field-0-is) (refl, c.fail.ensures))

pub returns-in-Err : goal.returns-in-Err
returns-in-Err g c = rw (← c.self.view_is) (reads_so g.L.Link c.args.at _ _ c.poll_next.result (Err c.in-Err.error) c.poll_next.new.self _ c.poll_next.ensures.answer c.poll_next.ensures.joined c.in-Err.is (ap (λ (e : Error). Err e) c.fail_by.ensures.value, c.fail_by.ensures.state))
