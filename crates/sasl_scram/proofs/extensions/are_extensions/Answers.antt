use Rattle.std.proofs.Common.{rules, sym, ◌∙◌}
use Rattle.std.proofs.lemmas.Bool.{eqb-true}
use Rattle.sasl_scram.proofs.ExtensionLists.{more_extensions, fewer_extensions, no_extensions, empty_extensions, not_empty}
use Rattle.sasl_scram.proofs.extensions.are_extensions.Goals as goal

pub extensions-preserved : goal.extensions-preserved
extensions-preserved c = record {
  enough = λ e. c.extensions.invariant.enough (more_extensions _ _ c.in-Some.ensures.found e);
  needed = λ e. fewer_extensions _ _ c.in-Some.ensures.found (c.extensions.invariant.needed e);
}

pub returns-in-None : goal.returns-in-None
returns-in-None c = (
  λ f. absurd (search rules),
  λ e.
      absurd (no_extensions c.extensions.rest.now (not_empty c.extensions.rest.now (sym c.is_empty.ensures ∙ c.extensions-test.true)) c.in-None.ensures.missing (c.extensions.invariant.needed e)),
)

pub returns : goal.returns
returns c = (λ _. c.extensions.invariant.enough (empty_extensions c.extensions.rest.now (eqb-true _ 0 (sym c.is_empty.ensures ∙ c.extensions-test.false))), λ _. search rules)
