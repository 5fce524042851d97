use Rattle.std.proofs.Common.{codes}
use Rattle.served_connection.proofs.ServeLaws.Runs.{connected_run}
use Rattle.served_connection.proofs.connection.connect_on.Goals as goal

pub returns-clause-bytes : goal.returns-clause-bytes
returns-clause-bytes g c = λ first kind fresh is.
    let s = c.connect_on.ensures.done is in
    record { connected = s; frames = connected_run g.L.Link first kind c.args.end.now c.connect_on.new.end (codes "m") c.args.count s fresh }
