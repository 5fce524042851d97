use Rattle.std.proofs.Common.{◌≡◌, ◌+◌, ◌<◌, ℕ, ap, subst, arith, length, length-append, ◌∷◌, []}
use Rattle.std.proofs.lemmas.Bool.Decides.{nat_tests}
use Rattle.amqp_script.proofs.Pieces.{cut_shorter}
use Rattle.amqp_session_script.specs.Script.{IsFirstBad}
use Rattle.amqp_session_script.proofs.Lines.{lines_more, bad_more, line_bad, tail_bad, all_said}
use Rattle.amqp_session_script.proofs.script.parse.Goals as goal

pub lines-preserved : goal.lines-preserved
lines-preserved c =
    record {
      count =
          omega (
            arith,
            ap length c.in_ok-push_step-in-Ok.ensures,
            length-append c.lines.steps.items (c.in-Ok.step ∷ []),
            cut_shorter 10 c.lines.rest.now c.in-Some.line.now c.in-Some.after.now c.in-Some.ensures,
            c.lines.invariant.count,
          );
      said = lines_more c.lines.steps.items c.push_step.new.steps.items c.in-Ok.step c.lines.rest.now c.in-Some.line.now c.in-Some.after.now c.args.text.now c.in_ok-push_step-in-Ok.ensures c.in-Some.ensures
          c.in-Ok.ensures c.lines.invariant.said;
      bad = bad_more c.lines.steps.items c.push_step.new.steps.items c.in-Ok.step c.lines.rest.now c.in-Some.line.now c.in-Some.after.now c.args.text.now c.in_ok-push_step-in-Ok.ensures c.in-Some.ensures
          c.in-Ok.ensures c.lines.invariant.bad;
    }

pub returns-in_default-clause-bad : goal.returns-in_default-clause-bad
returns-in_default-clause-bad c = λ n e.
    let same : c.len.result + 1 ≡ n = cc in
    let number : length c.lines.steps.items + 1 ≡ n = omega (arith, same, c.len.ensures) in
    let some : 0 < length c.lines.rest.now = grind (arith, nat_tests) in
    subst (λ (k : ℕ). IsFirstBad c.args.text.now k) number (tail_bad c.lines.steps.items c.lines.rest.now c.args.text.now c.in_default.ensures some c.lines.invariant.bad)

pub returns-in-Err-Outside-clause-bad : goal.returns-in-Err-Outside-clause-bad
returns-in-Err-Outside-clause-bad c = λ n e.
    let same : c.len.result + 1 ≡ n = cc in
    let number : length c.lines.steps.items + 1 ≡ n = omega (arith, same, c.len.ensures) in
    subst (λ (k : ℕ). IsFirstBad c.args.text.now k) number (line_bad c.lines.steps.items c.lines.rest.now c.in-Some.line.now c.in-Some.after.now c.args.text.now c.in-Some.ensures (rw c.in-Err-Outside.field-0-is at c.in-Err-Outside.ensures) c.lines.invariant.bad)

pub returns-clause-ok : goal.returns-clause-ok
returns-clause-ok c =
    let none : length c.lines.rest.now ≡ 0 = grind (arith, nat_tests) in
    all_said c.lines.steps.items c.lines.rest.now c.args.text.now none c.lines.invariant.said
