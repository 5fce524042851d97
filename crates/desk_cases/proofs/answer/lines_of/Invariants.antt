use Rattle.std.specs.Prelude.{◌≡◌, vec_len}
use Rattle.desk_cases.proofs.answer.lines_of.Given as goal

abbrev pub invariant-loop-line : goal.invariant-loop-line
invariant-loop-line g l = vec_len l.seats ≡ vec_len l.fn.seats
