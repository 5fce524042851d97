use Rattle.std.proofs.Common.{Ok, Err, arith}
use Rattle.amqp_value.specs.declared.error.ValueError.TheVariants as errors
use Rattle.amqp_skips.proofs.Lengths.{the_length, no_length, passes_values}
use Rattle.amqp_skips.proofs.skip.skip_value.Goals as goal

pub returns-in-Some-clause-found : goal.returns-in-Some-clause-found
returns-in-Some-clause-found c = the_length 32 c.args.input.now c.in-Some.rest.now (λ i. omega (arith, c.type_inv.input i)) c.in-Some.ensures.past

pub returns-in-Some-clause-values : goal.returns-in-Some-clause-values
returns-in-Some-clause-values c = passes_values (Ok _) 32 c.args.input.now (the_length 32 c.args.input.now c.in-Some.rest.now (λ i. omega (arith, c.type_inv.input i)) c.in-Some.ensures.past)

pub returns-in-None-clause-found : goal.returns-in-None-clause-found
returns-in-None-clause-found c = no_length 32 c.args.input.now c.in-None.ensures.past

pub returns-in-None-clause-values : goal.returns-in-None-clause-values
returns-in-None-clause-values c = passes_values (Err errors.Decode) 32 c.args.input.now (no_length 32 c.args.input.now c.in-None.ensures.past)
