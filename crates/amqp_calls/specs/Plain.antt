-- Steps of connections alone.
use Rattle.std.specs.Prelude.{ℕ, List, [], ◌∷◌, Option, Some, None}
use Rattle.amqp_words.specs.declared.step.Act.{Act as ConnectionAct}
use Rattle.amqp_words.specs.declared.step.Act.TheVariants as plain
use Rattle.amqp_words.specs.declared.step.End.{End}
use Rattle.amqp_words.specs.declared.step.Step.{Step as ConnectionStep}
use Rattle.amqp_calls.specs.declared.call.Call.TheVariants.{Connection, Session, Link}
use Rattle.amqp_calls.specs.declared.step.Act.{Act}
use Rattle.amqp_calls.specs.declared.step.Act.TheVariants.{Take, TakeAll, Call}
use Rattle.amqp_calls.specs.declared.step.Step.{Step}

-- an act that makes no call for a session or a link
abbrev pub plain_act : Act → Option ConnectionAct
plain_act (Take n) = Some (plain.Take n)
plain_act TakeAll = Some plain.TakeAll
plain_act (Call (Connection call)) = Some (plain.Call call)
plain_act (Call (Session call)) = None
plain_act (Call (Link call)) = None

abbrev pub step_with : End → ℕ → Option ConnectionAct → Option ConnectionStep
step_with end at None = None
step_with end at (Some act) = Some (record { end = end; at = at; act = act })

abbrev pub plain_step : Step → Option ConnectionStep
plain_step s = step_with s.end s.at (plain_act s.act)

abbrev pub before : Option ConnectionStep → Option (List ConnectionStep) → Option (List ConnectionStep)
before None steps = None
before (Some s) None = None
before (Some s) (Some steps) = Some (s ∷ steps)

-- steps none of which makes a call for a session
abbrev pub plain_steps : List Step → Option (List ConnectionStep)
plain_steps [] = Some []
plain_steps (s ∷ steps) = before (plain_step s) (plain_steps steps)
