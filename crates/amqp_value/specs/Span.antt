-- Bytes in a row.
use Rattle.std.specs.Prelude.{ℕ, List, ◌++◌}
use Rattle.amqp_value.specs.declared.payload.Span.{Span}
use Rattle.amqp_value.specs.Pieces.{joined}

-- the front, the pieces and the back, one after another
abbrev pub spanned : Span → List ℕ
spanned s = s.front.now ++ (joined s.pieces.now ++ s.back.now)
