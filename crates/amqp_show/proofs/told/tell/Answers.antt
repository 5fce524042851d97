use Rattle.std.proofs.Common.{◌∙◌, ◌++◌, ℕ, List, ap}
use Rattle.amqp_show.specs.Left.{lines_left}
use Rattle.amqp_show.specs.Voice.{unsaid}
use Rattle.amqp_show.proofs.Tales.{told_more, told_all}
use Rattle.amqp_show.proofs.told.tell.Goals as goal

pub lines-preserved : goal.lines-preserved
lines-preserved c =
    told_more c.args.step c.args.side (unsaid c.args.voice.now) (unsaid c.lines.voice) (unsaid c.told_line.new.voice) (lines_left c.args.trace) (lines_left c.lines.rest) (lines_left c.in-Some.after)
    c.as_slice.result.now c.in-Some.told.now c.in_ok-said.said.items c.lines.text.items c.extend_from_slice.new.self.items
    (c.as_slice.ensures.value ∙ c.in_ok-front.ensures)
    c.in-Some.ensures.first
    c.in_ok-said.ensures
    (c.in_ok-extend_from_slice.ensures.items ∙ ap (λ (z : List ℕ). c.lines.text.items ++ z) c.as_slice-in-Some.ensures.value)
    c.lines.invariant

pub returns : goal.returns
returns c =
    told_all c.args.step c.args.side (unsaid c.args.voice.now) (unsaid c.lines.voice) (lines_left c.args.trace) (lines_left c.lines.rest)
    c.as_slice.result.now c.lines.text.items
    (c.as_slice.ensures.value ∙ c.in_ok-front.ensures)
    c.in_default.ensures.first
    c.lines.invariant
