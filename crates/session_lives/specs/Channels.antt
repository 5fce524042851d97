-- The channels of a session (OASIS AMQP 1.0, part 2, sections 2.2 and 2.5.1).
use Rattle.std.specs.Prelude.{◌≡◌, ℕ, nat_eq, Bool, true, false, List, [], ◌∷◌, flat_map, Some, if◌then◌else◌}
use Rattle.amqp_session.specs.declared.session.SessionState.{SessionState}
use Rattle.amqp_session.specs.declared.session.SessionState.TheVariants as state
use Rattle.amqp_session.specs.State.{State, Framed}
use Rattle.session_laws.specs.Holding.{Move, after_all, handed_all}

-- the peer has begun the session too, whatever has become of it since
abbrev pub is_begun : SessionState → Bool
is_begun state.BeginSent = false
is_begun other = true

-- it has, on that channel
abbrev pub IsJoined : ℕ → State → Type 0
IsJoined c s = (s.remote_channel ≡ Some c) × (is_begun s.state ≡ true)

-- these frames are on that channel
abbrev pub AllOn : ℕ → List Framed → Type 0
AllOn c [] = Unit {0}
AllOn c (x ∷ xs) = (x.channel ≡ c) × AllOn c xs

-- behind moves a session is on its channel still, and so is what it has written and what it is still to write
pub record SpeaksOn (c : ℕ) (s : State) (ms : List Move) : Type 0 where
  pub channel : (after_all s ms).channel ≡ c
  pub written : AllOn c (handed_all s ms)
  pub left : AllOn c (after_all s ms).output

-- whatever a session goes through
abbrev pub SpeaksOnItsOwn : Type 0
SpeaksOnItsOwn = (c : ℕ) (s : State) (ms : List Move) → s.channel ≡ c → AllOn c s.output → SpeaksOn c s ms

-- those of these frames that are on that channel
abbrev pub on_if : ℕ → Framed → List Framed
on_if c x = if nat_eq c x.channel then x ∷ [] else []

abbrev pub on : ℕ → List Framed → List Framed
on c xs = flat_map (on_if c) xs

-- no other session than that of the name has written on that channel
abbrev pub IsApart : ℕ → ℕ → ℕ × Framed → Type 0
IsApart c n e = nat_eq n e.0 ≡ false → nat_eq c e.1.channel ≡ false

abbrev pub AreApart : ℕ → ℕ → List (ℕ × Framed) → Type 0
AreApart c n [] = Unit {0}
AreApart c n (e ∷ log) = IsApart c n e × AreApart c n log
