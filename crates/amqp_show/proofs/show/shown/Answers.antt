use Rattle.std.proofs.Common.{◌∙◌, ◌++◌, ℕ, List, ap, arith}
use Rattle.amqp_show.specs.Lines.{lines_of}
use Rattle.amqp_show.specs.Left.{lines_left}
use Rattle.amqp_show.specs.Voice.{unsaid}
use Rattle.amqp_show.proofs.Steps.{step_more, step_last}
use Rattle.amqp_show.proofs.show.shown.Goals as goal

pub steps-preserved : goal.steps-preserved
steps-preserved c =
    record {
      count = omega (arith, c.steps.invariant.count, c.in-Some.ensures.shorter);
      shown =
          step_more c.steps.step (unsaid c.steps.ends.client) (unsaid c.steps.ends.listener) (unsaid c.told_of.new.ends.client) (unsaid c.told_of.new.ends.listener)
          c.in-Some.line.now c.in_ok-told.told.text.items c.steps.out.items c.push_step.new.out.items c.extend_from_slice.new.self.items
          (lines_of c.steps.lines.now) (lines_of c.in-Some.after.now) (lines_of c.args.script.now) (lines_left c.steps.rest) (lines_left c.in_ok-told.told.rest) (lines_of c.args.trace.now)
          c.in-Some.ensures.lines
          c.in_ok-told.ensures
          c.in_ok-push_step.ensures
          (c.in_ok-extend_from_slice.ensures.items ∙ ap (λ (z : List ℕ). c.push_step.new.out.items ++ z) c.as_slice.ensures.value)
          c.steps.invariant.shown;
    }

pub returns : goal.returns
returns c =
    step_last c.steps.step (unsaid c.steps.ends.client) (unsaid c.steps.ends.listener) c.steps.out.items c.push_cuts.new.out.items
    (lines_of c.steps.lines.now) (lines_of c.args.script.now) (lines_left c.steps.rest) (lines_of c.args.trace.now)
    c.in_default.ensures.lines
    c.in_ok-push_cuts.ensures
    c.steps.invariant.shown
