use Rattle.served_connection.proofs.Runs.{served_by}
use Rattle.served_connection.proofs.connection.serve_on.Goals as goal

pub returns-clause-bytes : goal.returns-clause-bytes
returns-clause-bytes g c = λ first kind fresh is.
    served_by g.L.Link first kind c.args.end.now c.serve_on.new.end (g.K.Sink.written c.args.sink.now) (g.K.Sink.written c.serve_on.new.sink) fresh (c.serve_on.ensures.done is)
