use Rattle.amqp_script.proofs.Escapes.{units_more}
use Rattle.amqp_script.proofs.script.escape.unescape.Goals as goal

pub units-preserved : goal.units-preserved
units-preserved c =
    units_more c.units.bytes.items c.push.new.self.items c.units.rest.now c.in-Some.byte c.in-Some.size _ c.in_ok-push.ensures.items
    c.in-Some.ensures.byte c.units.invariant
