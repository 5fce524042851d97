use Rattle.sasl_gate.specs.sasl_exchange.Credentials.{credentials_of}
use Rattle.amqp_opening.proofs.Made.{client_made, client_begins, client_refused}
use Rattle.amqp_opening.proofs.authentication.client_exchange.Goals as goal

pub returns-in-Ok-clause-ok : goal.returns-in-Ok-clause-ok
returns-in-Ok-clause-ok c = rw c.in-Ok.ensures.ok (client_made (credentials_of c.args.profile) c.args.hostname c.requires c.in-Ok.ensures.allowed)

pub returns-in-Ok-clause-begins : goal.returns-in-Ok-clause-begins
returns-in-Ok-clause-begins c = rw c.in-Ok.ensures.ok (client_begins (credentials_of c.args.profile) c.args.hostname)

pub returns-in-Err-clause-err : goal.returns-in-Err-clause-err
returns-in-Err-clause-err c = client_refused (credentials_of c.args.profile) c.in-Err.kind c.error_of.result c.in-Err.ensures.err c.error_of.ensures
