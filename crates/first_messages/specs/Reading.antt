-- What a session has for its links before the first Transfer of one (OASIS AMQP 1.0, part 2, sections 2.5.1 and 2.6.2).
use Rattle.std.specs.Prelude.{◌≡◌, ◌⊎◌, ℕ, List, [], ◌∷◌, ◌++◌, Some}
use Rattle.amqp_sessions.specs.Parts.{EndpointState}
use Rattle.amqp_sessions.specs.State.{State, none_begun, endpoint_of}
use Rattle.session_laws.specs.Handing.{inputs}
use Rattle.session_laws.specs.Holding.{transfers}
use Rattle.session_laws.specs.Messages.{on as on_handle}
use Rattle.session_lives.specs.Channels.{IsJoined, on}
use Rattle.session_lives.specs.Deeds.{Deed, Did, read_in, gave_in, IsOther, AreOther}
use Rattle.session_lives.specs.Logs.{own}
use Rattle.session_lives.specs.Sound.{AreNewIn}

-- a session of that name is made once at most
abbrev pub IsMadeOnce : ℕ → List Deed → Type 0
IsMadeOnce n [] = Unit {0}
IsMadeOnce n (d ∷ ds) = (IsOther n d × IsMadeOnce n ds) ⊎ AreOther n ds

-- it has given its links no Transfer on the handle, has none for them, and none is on its way to them
pub record IsUnread (handle n : ℕ) (e : EndpointState) (ds : List Deed) (new : State) : Type 0 where
  pub handed : on_handle handle (inputs e.session.incoming) ≡ []
  pub gave : on_handle handle (inputs (own n (gave_in ds ++ new.incoming))) ≡ []

-- so it is with a session that the peer has begun on a channel on which none was read, whatever the sessions of an
-- end do
abbrev pub NoneIsRead : Type 0
NoneIsRead =
    (c handle n : ℕ) (e : EndpointState) (ds : List Deed) (new : State) (did : Did none_begun ds new)
    → AreNewIn none_begun ds new did → IsMadeOnce n ds → endpoint_of n new ≡ Some e → IsJoined c e.session
    → on_handle handle (transfers (on c (read_in ds))) ≡ [] → IsUnread handle n e ds new
