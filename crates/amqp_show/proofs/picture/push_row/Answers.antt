use Rattle.std.proofs.Common.{◌≡◌, ◌∙◌, ◌++◌, ℕ, List, drop, sym, ap, subst}
use Rattle.std.specs.Prelude.{OnOk}
use Rattle.amqp_show.specs.declared.voice.Side.{Side}
use Rattle.amqp_show.specs.declared.layout.Row.{Row}
use Rattle.amqp_show.specs.declared.layout.Row.TheVariants.{Step}
use Rattle.amqp_show.specs.declared.layout.Layout.{Layout}
use Rattle.amqp_show.specs.Layout.{kind_of, mark_of}
use Rattle.amqp_show.specs.Picture.{step_row, row_text}
use Rattle.amqp_show.proofs.picture.push_row.Goals as goal

step_is_row : (layout : Layout) (y : ℕ) (side : Side) (line words : List ℕ) (kind : Row) → kind ≡ kind_of line → kind ≡ Step → words ≡ drop (mark_of kind) line → step_row layout y side words ≡ row_text layout y side line
step_is_row layout y side line words kind is step behind =
    let here : kind_of line ≡ Step = sym is ∙ step in
    rw here (ap (step_row layout y side) (behind ∙ ap (λ (k : Row). drop (mark_of k) line) step))

pub returns-in-Step : goal.returns-in-Step
returns-in-Step c =
    let same = step_is_row c.args.layout c.args.y c.args.side c.args.line.now c.behind_mark-words.result.now c.row_of-row.result c.row_of-row.ensures c.in-Step.is (c.behind_mark-words.ensures ∙ ap (λ (k : ℕ). drop k c.args.line.now) c.mark.ensures) in
    subst (λ (z : List ℕ). OnOk c.push_step_row.result (c.push_step_row.new.out.items ≡ c.args.out.now.items ++ z)) same c.push_step_row.ensures
