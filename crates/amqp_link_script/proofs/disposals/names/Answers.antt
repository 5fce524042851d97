use Rattle.amqp_link_script.specs.Disposals.{names_in}
use Rattle.amqp_link_script.proofs.Names.{name_more}
use Rattle.amqp_link_script.proofs.disposals.names.Goals as goal

pub names-preserved : goal.names-preserved
names-preserved c =
    name_more c.names.names c.push.new.self c.names.rest.now c.in-Some.first.now c.in-Some.after.now c.in-Ok.name (names_in c.args.word.now) c.in_ok-push-in-Ok.ensures.ok c.in-Some.ensures c.in-Ok.ensures c.names.invariant
