use Rattle.std.proofs.Common.{◌≡◌, ℕ, List, subst, ◌∙◌}
use Rattle.amqp_data.specs.View.{view}
use Rattle.amqp_value.specs.Canonical.{canonical}
use Rattle.amqp_value.specs.Grammar.{Spells}
use Rattle.amqp_readback.proofs.Values.{all_read, never_refused, not_deep, not_long}
use Rattle.amqp_readback.proofs.value.value_read_back.Goals as goal

pub returns-clause-again : goal.returns-clause-again
returns-clause-again c =
    let v = view c.args.value.now in
    let is : c.as_slice.result.now ≡ canonical v = c.as_slice.ensures ∙ c.in_ok-bytes.ensures.ok in
    let spelled = subst (λ (z : List ℕ). Spells z v) c.in_ok-bytes.ensures.ok c.in_ok-bytes.ensures.spelled in
    all_read c.read_value.result c.as_slice.result.now (canonical v) v c.read_value.ensures.only is spelled c.in_ok-bytes.ensures.nests

pub returns-clause-deep : goal.returns-clause-deep
returns-clause-deep c e = absurd (not_deep c.read_value.result c.read_value.ensures.refused e)

pub returns-clause-size : goal.returns-clause-size
returns-clause-size c e = absurd (not_long c.read_value.result c.read_value.ensures.refused e)

pub returns-clause-refused : goal.returns-clause-refused
returns-clause-refused c =
    let v = view c.args.value.now in
    let is : c.as_slice.result.now ≡ canonical v = c.as_slice.ensures ∙ c.in_ok-bytes.ensures.ok in
    let spelled = subst (λ (z : List ℕ). Spells z v) c.in_ok-bytes.ensures.ok c.in_ok-bytes.ensures.spelled in
    never_refused c.read_value.result c.as_slice.result.now (canonical v) v c.read_value.ensures.refused c.read_value.ensures.none is spelled c.in_ok-bytes.ensures.nests
