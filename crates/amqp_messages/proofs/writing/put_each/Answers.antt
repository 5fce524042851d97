use Rattle.std.proofs.Common.{arith}
use Rattle.std.proofs.lemmas.Result.{err_from_is_err_and}
use Rattle.amqp_messages.proofs.Added.{each_goes_on, each_stops, each_done}
use Rattle.amqp_messages.proofs.writing.put_each.Goals as goal

pub returns-in_err-write : goal.returns-in_err-write
returns-in_err-write g c =
    let p = err_from_is_err_and c.from_residual.result c.from_residual.ensures.1 in
    rw (p.1, p.2)
    (each_stops c.args.kind g.T.Content.writes c.in_err-write.field-0.0 c.args.out.now c.loop-content.out c.write.new.out c.write.new.out c.args.sections.now c.loop-content.content-index c.content-item.result c.number.result c.number.ensures c.loop-content-test.true c.content-item.is c.loop-content.invariant c.in_err-write.ensures.adds)

pub loop-content-preserved : goal.loop-content-preserved
loop-content-preserved g c =
    each_goes_on c.args.kind g.T.Content.writes c.args.out.now c.loop-content.out c.write.new.out c.args.sections.now c.loop-content.content-index c.content-item.result c.number.result c.number.ensures c.loop-content-test.true c.content-item.is c.loop-content.invariant c.in_ok-write.ensures.adds

pub returns : goal.returns
returns g c = each_done c.args.kind g.T.Content.writes c.args.out.now c.loop-content.out c.args.sections.now c.loop-content.content-index (omega (arith, c.loop-content-test.false)) c.loop-content.invariant
