use Rattle.std.proofs.Common.{arith}
use Rattle.amqp_skips.specs.Skipped.{skipped}
use Rattle.amqp_skips.proofs.Walked.{all_steps}
use Rattle.amqp_skips.proofs.Lengths.{the_start, no_start}
use Rattle.amqp_skips.proofs.skip.section_start.Goals as goal

pub returns-in-None : goal.returns-in-None
returns-in-None c = no_start 33 c.sections.counter c.args.place c.args.input.now c.sections.rest.now c.sections.invariant.0 c.in-None.ensures.past c.sections-test.true

pub returns : goal.returns
returns c = the_start 33 c.args.place c.args.input.now c.sections.rest.now (λ i. omega (arith, c.type_inv.input i)) (all_steps (skipped 33) c.sections.counter c.args.place c.args.input.now c.sections.rest.now c.sections.invariant.0 (omega arith))
