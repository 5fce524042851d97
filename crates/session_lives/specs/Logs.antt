-- What all sessions of an end write and give to links, one after another (OASIS AMQP 1.0, part 2, section 2.5).
use Rattle.std.specs.Prelude.{◌≡◌, ℕ, nat_eq, List, [], ◌∷◌, ◌++◌, flat_map, Option, Some, None, if◌then◌else◌}
use Rattle.std.specs.List.{IsDistinct}
use Rattle.std.specs.Map.{keys_of, values_of}
use Rattle.amqp_frames.specs.declared.shared.LinkFrame.{LinkFrame}
use Rattle.amqp_session.specs.declared.session.LinkInput.{LinkInput}
use Rattle.amqp_session.specs.State.{State as Session, Framed}
use Rattle.amqp_sessions.specs.Parts.{EndpointState}
use Rattle.amqp_sessions.specs.State.{State, endpoint_of}
use Rattle.session_lives.specs.Lives.{Share, nothing, Lives}

-- no two sessions have one name
abbrev pub AreKeyed : State → Type 0
AreKeyed s = IsDistinct nat_eq (keys_of s.endpoints)

-- what the session of that name has among what sessions have
abbrev pub own_in : {X : Type 0} → ℕ → ℕ × X → List X
own_in n e = if nat_eq n e.0 then e.1 ∷ [] else []

abbrev pub own : {X : Type 0} → ℕ → List (ℕ × X) → List X
own n xs = flat_map (own_in n) xs

-- what comes to a session: frames that it hears, and frames that its links give it
pub record Came : Type 0 where
  pub heard : List Framed
  pub told : List LinkFrame

-- that, and what goes out of it
abbrev pub share : Came → List Framed → List LinkInput → Share
share c frames inputs = record { heard = c.heard; told = c.told; wrote = frames; gave = inputs }

-- what has become of a session: it stands still, or was let go, or there was none and is none
abbrev pub Fate : Option EndpointState → Share → Option EndpointState → Type 0
Fate None a None = a ≡ nothing
Fate None a (Some f) = ⊥
Fate (Some e) a None = (t : Session) × Lives e.session a t
Fate (Some e) a (Some f) = Lives e.session a f.session

-- The sessions of an end go on. What is to be written, and what is there for links, is what was and then that of
-- these logs. To each session that no call makes that came, and what is in the logs of it went out of it.
pub record Goes (Among : ℕ → Type 0) (came : ℕ → Came) (old new : State) : Type 0 where
  pub wrote : List (ℕ × Framed)
  pub gave : List (ℕ × LinkInput)
  pub output : new.output ≡ old.output ++ values_of wrote
  pub incoming : new.incoming ≡ old.incoming ++ gave
  pub keyed : AreKeyed new
  pub each : (n : ℕ) → Among n
      → Fate (endpoint_of n old) (share (came n) (own n wrote) (own n gave)) (endpoint_of n new)
