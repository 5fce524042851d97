use Rattle.std.proofs.Common.{ap, sym, ◌∙◌}
use Rattle.std.proofs.lemmas.Bool.{true≢false}
use Rattle.amqp_data.specs.SameLaws.{HasDistinctKeys-from, distinct_keys-from}
use Rattle.amqp_data.specs.Same.{distinct_keys}
use Rattle.amqp_data.specs.View.{pairs_view}
use Rattle.amqp_data.proofs.value.OrderedMap.from_entries.Goals as goal

pub invariant_of-result : goal.invariant_of-result
invariant_of-result c =
    HasDistinctKeys-from (pairs_view c.args.entries.items) (ap (λ es. distinct_keys (pairs_view es)) (sym c.deref.ensures.value) ∙ sym c.in_ok-has_distinct_keys.ensures ∙ c.if-branch.true)

pub returns-then-branch-clause-distinct : goal.returns-then-branch-clause-distinct
returns-then-branch-clause-distinct c =
    HasDistinctKeys-from (pairs_view c.args.entries.items) (ap (λ es. distinct_keys (pairs_view es)) (sym c.deref.ensures.value) ∙ sym c.in_ok-has_distinct_keys.ensures ∙ c.if-branch.true)

pub returns-else-branch-clause-refused : goal.returns-else-branch-clause-refused
returns-else-branch-clause-refused c e h =
    true≢false (sym (distinct_keys-from (pairs_view c.args.entries.items) h) ∙ ap (λ es. distinct_keys (pairs_view es)) (sym c.deref.ensures.value) ∙ sym c.in_ok-has_distinct_keys.ensures ∙ c.if-branch.false)
