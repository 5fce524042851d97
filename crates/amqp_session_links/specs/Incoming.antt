-- The Attaches of the peer that wait, and what was read behind them (OASIS AMQP 1.0, part 2, section 2.6.3).
use Rattle.std.specs.Prelude.{◌≡◌, ℕ, nat_eq, List, [], ◌∷◌, ◌++◌, Option, Some, None}
use Rattle.std.specs.Map.{lookup, set_value}
use Rattle.indexmap.specs.IndexMap.{insert_entry, swap_remove_entry}
use Rattle.amqp_performatives.specs.declared.attach.Attach.{Attach}
use Rattle.amqp_session.specs.declared.session.LinkInput.{LinkInput}
use Rattle.amqp_session_links.specs.State.{State}

-- an Attach waits behind all others
abbrev pub attach_pushed : Attach → State → State
attach_pushed x s = record s { attaches = s.attaches ++ x ∷ [] }

-- the first of them
abbrev pub first_of : List Attach → Option Attach
first_of [] = None
first_of (x ∷ xs) = Some x

abbrev pub rest_of : List Attach → List Attach
rest_of [] = []
rest_of (x ∷ xs) = xs

-- it waits no more
abbrev pub attach_taken : State → State
attach_taken s = record s { attaches = rest_of s.attaches }

-- what was read of a handle of the peer that no link has is kept
abbrev pub kept_at : Option (List LinkInput) → ℕ → LinkInput → State → State
kept_at None remote x s = record s { early = insert_entry nat_eq s.early remote (x ∷ []) }
kept_at (Some xs) remote x s = record s { early = set_value (nat_eq remote) s.early (xs ++ x ∷ []) }

abbrev pub kept : ℕ → LinkInput → State → State
kept remote x s = kept_at (lookup (nat_eq remote) s.early) remote x s

-- all that was read of it
abbrev pub inputs_in : Option (List LinkInput) → List LinkInput
inputs_in None = []
inputs_in (Some xs) = xs

abbrev pub early_of : ℕ → State → List LinkInput
early_of remote s = inputs_in (lookup (nat_eq remote) s.early)

-- it is taken
abbrev pub early_taken : ℕ → State → State
early_taken remote s = record s { early = swap_remove_entry (nat_eq remote) s.early }

-- what is left of it is kept
abbrev pub early_put : ℕ → List LinkInput → State → State
early_put remote [] s = s
early_put remote (x ∷ xs) s = record s { early = insert_entry nat_eq s.early remote (x ∷ xs) }
