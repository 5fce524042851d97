-- The lines of a text that are still to be read.
use Rattle.std.specs.Prelude.{List, ℕ, [], ◌∷◌, option_map, unwrap_or}
use Rattle.amqp_show.specs.declared.lines.Lines.{Lines}
use Rattle.amqp_show.specs.Lines.{lines_of}

abbrev pub lines_left : Lines → List (List ℕ)
lines_left lines = unwrap_or (option_map (λ p. p.0.now ∷ lines_of p.1.now) lines.first) []
