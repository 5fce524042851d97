use Rattle.std.proofs.Common.{ap}
use Rattle.amqp_waiting_words.specs.Command.{asked}
use Rattle.amqp_waiting.proofs.Passing.{passed_listen, passed_connect, passed_send, passed_receive}
use Rattle.amqp_waiting.proofs.run.run_waiting.Goals as goal

pub returns-in-Listen-clause-passed : goal.returns-in-Listen-clause-passed
returns-in-Listen-clause-passed g c = λ is.
    passed_listen _ c.args.command.now c.in-Listen.port (g.K.Sink.written c.args.sink.now) (g.K.Sink.written c.listen.new.sink) c.in-Listen.is (c.listen.ensures.passed is)

pub returns-in-Connect-clause-passed : goal.returns-in-Connect-clause-passed
returns-in-Connect-clause-passed g c = λ is.
    passed_connect _ c.args.command.now c.in-Connect.port c.in-Connect.count (g.K.Sink.written c.args.sink.now) (g.K.Sink.written c.args.sink.now) c.in-Connect.is (c.connect.ensures.passed is)

pub returns-in-Send-clause-passed : goal.returns-in-Send-clause-passed
returns-in-Send-clause-passed g c = λ is.
    passed_send _ (asked c.args.command.now) _ _ _ _ (g.K.Sink.written c.args.sink.now) (g.K.Sink.written c.args.sink.now) (ap asked c.in-Send.is) (c.send.ensures.done is)

pub returns-in-Receive-clause-passed : goal.returns-in-Receive-clause-passed
returns-in-Receive-clause-passed g c = λ is.
    passed_receive _ (asked c.args.command.now) _ _ _ _ (g.K.Sink.written c.args.sink.now) (g.K.Sink.written c.receive.new.sink) (ap asked c.in-Receive.is) (c.receive.ensures.client is)
