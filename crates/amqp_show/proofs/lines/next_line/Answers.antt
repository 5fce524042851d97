use Rattle.std.proofs.Common.{◌+◌, ◌∙◌, List, ℕ, ◌∷◌, take, ap, sym}
use Rattle.std.proofs.lemmas.List.{take_rest}
use Rattle.amqp_show.specs.Lines.{lines_of}
use Rattle.amqp_show.proofs.Cuts.{first_line, no_line}
use Rattle.amqp_show.proofs.lines.next_line.Goals as goal

pub returns-in-Some-clause-lines : goal.returns-in-Some-clause-lines
returns-in-Some-clause-lines c =
    first_line c.args.text.now c.in-Some.place (sym c.in-Some.ensures) ∙ ap (λ (z : List ℕ). take c.in-Some.place c.args.text.now ∷ lines_of z) (sym (take_rest c.args.text.now (c.in-Some.place + 1)))

pub returns-in-None-clause-lines : goal.returns-in-None-clause-lines
returns-in-None-clause-lines c = no_line c.args.text.now (sym c.in-None.ensures)
