use Rattle.std.proofs.Common.{ap, sym, ◌∙◌}
use Rattle.sasl_scram.proofs.Listener.{checked, refused}
use Rattle.sasl_scram.proofs.server.ScramServer.on_client_final.Goals as goal

pub returns-in-Err-clause-err : goal.returns-in-Err-clause-err
returns-in-Err-clause-err g c =
    let stored = g.P.ScramCredentialProvider.stored c.self.inside.provider in
    rw (← c.self.view_is) (refused g.D.HashFn.digest g.D.HashFn.BLOCK g.D.HashFn.OUTPUT stored c.self.inside.nonce c.self.inside.phase
    c.in-Challenged.challenge c.in-Some.keys.now c.args.text.now c.in-Err.error c.in-Challenged.is c.self.invariant.phase_is
    (ap stored (sym c.as_str.ensures) ∙ sym c.in-Some.ensures) c.in-Err.ensures.err)

pub returns-clause-check : goal.returns-clause-check
returns-clause-check g c =
    let stored = g.P.ScramCredentialProvider.stored c.self.inside.provider in
    rw (← c.self.view_is) (checked g.D.HashFn.digest g.D.HashFn.BLOCK g.D.HashFn.OUTPUT stored c.self.inside.nonce c.self.inside.phase
    c.in-Challenged.challenge c.in-Some.keys.now c.args.text.now c.in-Ok.reply c.in-Challenged.is c.self.invariant.phase_is
    (ap stored (sym c.as_str.ensures) ∙ sym c.in-Some.ensures) c.in-Ok.ensures.ok)
