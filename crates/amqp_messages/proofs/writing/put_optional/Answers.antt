use Rattle.amqp_messages.proofs.Added.{present_none, present_some}
use Rattle.amqp_messages.proofs.writing.put_optional.Goals as goal

pub returns-in-None-clause-adds : goal.returns-in-None-clause-adds
returns-in-None-clause-adds g c = present_none c.args.kind g.T.Content.writes c.args.section.now c.args.out.now c.in-None.is

pub returns-in-Some-clause-adds : goal.returns-in-Some-clause-adds
returns-in-Some-clause-adds g c = present_some c.args.kind g.T.Content.writes c.args.section.now c.in-Some.content c.number.result c.write.result c.args.out.now c.write.new.out c.in-Some.is c.number.ensures c.write.ensures.adds
