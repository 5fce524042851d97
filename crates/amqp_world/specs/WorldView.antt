use Rattle.std.specs.Prelude.{List, Bool, refl}
use Rattle.std.specs.Coded.{Coded, code_by, coded×, coded_bool}
use Rattle.amqp_wire.specs.Piped.{Piped}
use Rattle.amqp_peer.specs.Peering.{Peering}
use Rattle.amqp_words.specs.declared.step.Step.{Step}
use Rattle.amqp_words.specs.declared.trace.Entry.{Entry}
use Rattle.amqp_world.specs.declared.both.Both.{Both}
use Rattle.amqp_world.specs.contracts.both.Both as both

-- the steps made, their entries, both ends, and whether memory was wanting
pub record WorldView : Type 0 where
  pub steps : List Step
  pub entries : List Entry
  pub client : Peering Piped
  pub listener : Peering Piped
  pub failed : Bool

-- a view is stored as both ends and what they made, and whether memory was wanting
abbrev pub view_code : Coded WorldView
view_code =
    code_by (Both × Bool) (coded× both.the_row.coded coded_bool)
    (λ w. (record { client = w.client; listener = w.listener; steps = w.steps; trace = record { entries = w.entries }; moment = 0 }, w.failed))
    (λ p. record { steps = p.0.steps; entries = p.0.trace.entries; client = p.0.client; listener = p.0.listener; failed = p.1 }) (λ _. refl)
