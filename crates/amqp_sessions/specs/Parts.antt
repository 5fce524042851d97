-- A session endpoint, as the rules see it (OASIS AMQP 1.0, part 2, sections 2.5.1 and 2.5.4).
use Rattle.std.specs.Prelude.{◌≡◌, ℕ, Bool, false, map, List, [], ◌∷◌, Option, Some, None}
use Rattle.amqp_session.specs.declared.session.LinkInput.{LinkInput}
use Rattle.amqp_session.specs.State.{State as Session, Framed}

-- the session; the name of the `end` that waits for the peer's End; whether calls have left it, since its `end` was refused: it stands
-- until the peer's End is read; whether its links were told that nothing more comes
pub record EndpointState : Type 0 where
  pub session : Session
  pub ending : Option ℕ
  pub is_left : Bool
  pub is_over : Bool

-- an endpoint at which no call waits
abbrev pub idle : Session → EndpointState
idle s = record { session = s; ending = None; is_left = false; is_over = false }

-- the endpoint, whose session has gone on to that state
abbrev pub with_session : Session → EndpointState → EndpointState
with_session s e = record e { session = s }

-- the first frame of a queue is taken off
abbrev pub Pops : List Framed → Option Framed → List Framed → Type 0
Pops old None new = (old ≡ []) × (new ≡ [])
Pops old (Some x) new = old ≡ x ∷ new

-- what a session has for its links, under its name
abbrev pub named : ℕ → List LinkInput → List (ℕ × LinkInput)
named name xs = map (λ x. (name, x)) xs

-- the first of what sessions have for their links is taken off
abbrev pub PopsInput : List (ℕ × LinkInput) → Option (ℕ × LinkInput) → List (ℕ × LinkInput) → Type 0
PopsInput old None new = (old ≡ []) × (new ≡ [])
PopsInput old (Some x) new = old ≡ x ∷ new
