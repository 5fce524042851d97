use Rattle.std.proofs.Common.{ℕ, List, Option, Bor, sym, subst}
use Rattle.amqp_faults.specs.Sees.{Sees}
use Rattle.amqp_skips.specs.Skipped.{skipped}
use Rattle.amqp_skips.proofs.Walked.{none_behind, too_deep, no_bytes, no_code, behind_code}
use Rattle.amqp_skips.proofs.walk.+skip.Goals as goal

pub past-returns-then-levels-eq0-clause-past : goal.past-returns-then-levels-eq0-clause-past
past-returns-then-levels-eq0-clause-past t c = too_deep c.args.levels c.args.bytes.now c.if-levels-eq0.true

pub past-returns-in_err-first-clause-past : goal.past-returns-in_err-first-clause-past
past-returns-in_err-first-clause-past t c = rw c.from_residual.ensures (no_bytes c.args.levels c.args.bytes.now c.if-levels-eq0.false c.in_err-first.ensures)

pub past-returns-in_err-form-clause-past : goal.past-returns-in_err-form-clause-past
past-returns-in_err-form-clause-past t c =
    rw c.from_residual-in_err-form.ensures (no_code c.args.levels c.in_ok-first.first c.args.bytes.now c.in_ok-first.rest.now c.if-levels-eq0.false c.in_ok-first.ensures (sym c.in_err-form.ensures))

pub past-returns-clause-past : goal.past-returns-clause-past
past-returns-clause-past t c =
    subst (λ (z : Option (List ℕ)). Sees (λ (x : Bor (List ℕ)). x.now) c.past_form.result z)
    (sym (behind_code c.args.levels c.in_ok-first.first c.args.bytes.now c.in_ok-first.rest.now c.in_ok-form.form c.if-levels-eq0.false c.in_ok-first.ensures (sym c.in_ok-form.ensures))) c.past_form.ensures.past

pub past_values-returns-in_err-rest-clause-past : goal.past_values-returns-in_err-rest-clause-past
past_values-returns-in_err-rest-clause-past t c =
    rw c.from_residual.ensures (none_behind (skipped c.args.levels) c.values.counter c.args.count c.args.bytes.now c.values.rest.now c.values.invariant.0 c.in_err-rest.ensures.past c.values-test.true)
