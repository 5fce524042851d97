-- Sessions that are alone on their channel (OASIS AMQP 1.0, part 2, section 2.5.1).
use Rattle.std.specs.Prelude.{◌≡◌, ℕ, nat_eq, false, List, [], ◌∷◌, Some}
use Rattle.amqp_sessions.specs.Parts.{EndpointState}
use Rattle.amqp_sessions.specs.State.{State, endpoint_of}
use Rattle.session_lives.specs.Channels.{AreApart}
use Rattle.session_lives.specs.Deeds.{Deed, Begins, Accepts, Did, AreOther}
use Rattle.session_lives.specs.Laws.{SessionLives}
use Rattle.session_lives.specs.Sound.{AreSound, AreNewIn}

-- no session but that of the name is on that channel
abbrev pub StandsAlone : ℕ → ℕ → State → Type 0
StandsAlone c v s = (n : ℕ) (e : EndpointState) → endpoint_of n s ≡ Some e → e.session.channel ≡ c → n ≡ v

-- no session is made on it
abbrev pub IsElsewhere : ℕ → Deed → Type 0
IsElsewhere c (Begins name x channel limit) = nat_eq c channel ≡ false
IsElsewhere c (Accepts name x channel limit incoming) = nat_eq c channel ≡ false
IsElsewhere c d = Unit {0}

abbrev pub AreElsewhere : ℕ → List Deed → Type 0
AreElsewhere c [] = Unit {0}
AreElsewhere c (d ∷ ds) = IsElsewhere c d × AreElsewhere c ds

-- The session of that name goes through a life. On a channel on which no other stands, and none is made, no other has
-- written.
pub record LivesAlone (n : ℕ) (e : EndpointState) (ds : List Deed) (old new : State) (did : Did old ds new) : Type 0 where
  pub life : SessionLives n e ds old new did
  pub alone : (c : ℕ) → StandsAlone c n old → AreElsewhere c ds → AreApart c n life.log

-- whatever the sessions of an end do
abbrev pub SpeaksAlone : Type 0
SpeaksAlone =
    (n : ℕ) (e : EndpointState) (ds : List Deed) (old new : State) (did : Did old ds new)
    → AreSound old → AreNewIn old ds new did → endpoint_of n old ≡ Some e → AreOther n ds
    → LivesAlone n e ds old new did
