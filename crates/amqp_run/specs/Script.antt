-- What a script says.
use Rattle.std.specs.Prelude.{◌≡◌, List, ℕ, Some}
use Rattle.amqp_words.specs.declared.step.Step.{Step as ConnectionStep}
use Rattle.amqp_calls.specs.declared.step.Step.{Step}
use Rattle.amqp_calls.specs.Plain.{plain_steps}
use Rattle.amqp_script.specs.Script.{Spells as SpellsConnections, IsFirstBad as IsFirstBadOfConnections}
use Rattle.amqp_session_script.specs.Script.{Spells, IsFirstBad, HasNoSessionWords}

-- the script says these steps; steps of connections alone it says in the grammar of connections
pub record Says (script : List ℕ) (steps : List Step) : Type 0 where
  pub spelled : Spells script steps
  pub connections : (plain : List ConnectionStep) → plain_steps steps ≡ Some plain → SpellsConnections script plain

-- this line is the first outside the grammar; without words of sessions, the first outside that of connections
pub record IsBadLine (script : List ℕ) (line : ℕ) : Type 0 where
  pub bad : IsFirstBad script line
  pub connections : HasNoSessionWords script → IsFirstBadOfConnections script line
