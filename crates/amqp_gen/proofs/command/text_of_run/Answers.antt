use Rattle.amqp_gen.proofs.command.text_of_run.Goals as goal

pub returns-in-Err-BadStep-clause-ends : goal.returns-in-Err-BadStep-clause-ends
returns-in-Err-BadStep-clause-ends c = c.in-Err-BadStep.ensures.bad _ (cc)
