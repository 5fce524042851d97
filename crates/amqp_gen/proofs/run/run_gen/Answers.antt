use Rattle.std.proofs.Common.{◌∙◌, List, subst}
use Rattle.amqp_calls.specs.declared.step.Step.{Step}
use Rattle.amqp_session_world.specs.Turn.{IsFirstInvalid}
use Rattle.amqp_gen.proofs.run.run_gen.Goals as goal

pub returns-clause-bad : goal.returns-clause-bad
returns-clause-bad c = λ i e.
    subst (λ (steps : List Step). IsFirstInvalid steps i) (c.as_slice.ensures.value ∙ c.in_ok-steps.ensures.0) (c.in-Err.ensures.bad i (cc e))
