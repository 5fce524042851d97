use Rattle.sasl_exchange.proofs.Plains.{no_plain, plain_made, no_password}
use Rattle.sasl_exchange.proofs.init_texts.read_plain.Goals as goal

pub returns-in_default-clause-missing : goal.returns-in_default-clause-missing
returns-in_default-clause-missing c = let none = rw c.in_default.is at c.split_at_zero.ensures.missing in no_plain c.args.text.now none

pub returns-in-Some-split_at_zero-clause-found : goal.returns-in-Some-split_at_zero-clause-found
returns-in-Some-split_at_zero-clause-found c =
    plain_made c.in-Some.field-0-0.now c.in-Some.rest.now c.in-Some-split_at_zero.user.now c.in-Some-split_at_zero.password.now c.args.text.now
    c.in-Some.ensures.found.0 c.in-Some.ensures.found.1 c.in-Some-split_at_zero.ensures.found.0 c.in-Some-split_at_zero.ensures.found.1

pub returns-in-None-clause-missing : goal.returns-in-None-clause-missing
returns-in-None-clause-missing c =
    no_password c.in-Some.field-0-0.now c.in-Some.rest.now c.args.text.now c.in-Some.ensures.found.0 c.in-Some.ensures.found.1 c.in-None.ensures.missing
