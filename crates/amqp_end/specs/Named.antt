-- Under which names an end does something, and on which channels its sessions are.
use Rattle.std.specs.Prelude.{◌≡◌, ◌⊎◌, ℕ, List, [], ◌∷◌, Option, Some, None, Ok, ⊤}
use Rattle.amqp_links.specs.State.{State as Links, seen as linked}
use Rattle.amqp_peer.specs.Passing.{IsHeldAlone, AllocatesLate}
use Rattle.amqp_peer.specs.Peering.{Peering}
use Rattle.amqp_sessions.specs.declared.sessions.Waiting.{Waiting}
use Rattle.amqp_sessions.specs.declared.sessions.Waiting.TheVariants.{Begin, Accept}
use Rattle.amqp_sessions.specs.State.{State, seen}
use Rattle.amqp_wire.specs.declared.link.Link.{Ghosts}
use Rattle.amqp_end.specs.declared.end.End.{End}
use Rattle.amqp_end.specs.Deeds.{Deed, Moves, Accepts, Asks, Seats, Did}
use Rattle.amqp_end.specs.Moves.{Move, Begun, Awaiting, Refused, Ended}

-- ---- names

-- a call of that name waits for a Begin of the peer
abbrev pub Awaits : ℕ → Option Waiting → Type 0
Awaits name None = ⊥
Awaits name (Some (Begin other)) = ⊥
Awaits name (Some (Accept other numbers)) = other ≡ name

-- it is the name of the call that is made, if one is, or of the one that waits for a Begin of the peer
abbrev pub IsBy : Option ℕ → State → ℕ → Type 0
IsBy call s name = (call ≡ Some name) ⊎ Awaits name s.waiting

-- what the sessions do for a call they do under its name
abbrev pub IsMoved : Option ℕ → State → Move → Type 0
IsMoved call s (Begun name x channel limit) = call ≡ Some name
IsMoved call s (Awaiting name x) = call ≡ Some name
IsMoved call s (Refused name error) = IsBy call s name
IsMoved call s (Ended name session condition) = call ≡ Some name
IsMoved call s m = ⊤

-- and so does the end, with the sessions before the deed
abbrev pub IsNamed : Option ℕ → State → Deed → Type 0
IsNamed call s (Moves m) = IsMoved call s m
IsNamed call s (Accepts name x channel limit incoming) = IsBy call s name
IsNamed call s (Asks name x) = call ≡ Some name
IsNamed call s d = ⊤

-- Of the deeds at most one is done under the name of the call that is made. The others have no name, or that of a call that
-- waits.
abbrev pub AreNamed : {L : Type 0} (link : Ghosts L) (at : ℕ) (call : Option ℕ) (p : Peering L) (s : State) (l : Links)
    (ds : List Deed) (p' : Peering L) (s' : State) (l' : Links) → Did link at p s l ds p' s' l' → Type 0
AreNamed link at call p s l [] p' s' l' h = ⊤
AreNamed link at call p s l (d ∷ ds) p' s' l' h =
    (IsNamed None h.1 d × AreNamed link at call p s l ds h.0 h.1 h.2 h.3)
    ⊎ (IsNamed call h.1 d × AreNamed link at None p s l ds h.0 h.1 h.2 h.3)

-- ---- channels

-- the channel of a session that is begun or accepted
abbrev pub moved_on : Move → Option ℕ
moved_on (Begun name x channel limit) = Some channel
moved_on m = None

abbrev pub seated_on : Deed → Option ℕ
seated_on (Moves m) = moved_on m
seated_on (Accepts name x channel limit incoming) = Some channel
seated_on d = None

-- it was taken for it just before, if there is one
abbrev pub IsTaken : Option ℕ → List Deed → Type 0
IsTaken None before = ⊤
IsTaken (Some channel) before = (rest : List Deed) × (before ≡ Seats channel ∷ rest)

-- each session is on the channel that was taken for it, the newest deed first
abbrev pub AreSeated : List Deed → Type 0
AreSeated [] = ⊤
AreSeated (d ∷ ds) = IsTaken (seated_on d) ds × AreSeated ds

-- a channel is taken at the connection, and no more
pub record TakesSeat {L : Type 0} (channel : ℕ) (old new : End L) : Type 0 where
  pub allocates : AllocatesLate old.connection.held (Ok channel) new.connection.held
  pub rest : IsHeldAlone old.connection new.connection
  pub sessions : seen new.sessions ≡ seen old.sessions
  pub links : linked new.links ≡ linked old.links
  pub last : new.last ≡ old.last
  pub failed : new.failed ≡ old.failed
  pub replies : new.replies.items ≡ old.replies.items
