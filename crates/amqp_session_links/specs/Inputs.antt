-- What was read for a link and waits, in order.
use Rattle.std.specs.Prelude.{◌≡◌, List, [], ◌∷◌, Option, Some, None}
use Rattle.amqp_session.specs.declared.session.LinkInput.{LinkInput}

-- the first input of a queue is taken off
abbrev pub Pops : List LinkInput → Option LinkInput → List LinkInput → Type 0
Pops old None new = (old ≡ []) × (new ≡ [])
Pops old (Some x) new = old ≡ x ∷ new
