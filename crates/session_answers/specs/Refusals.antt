-- What calls for sessions an end refuses by itself (OASIS AMQP 1.0, part 2, sections 2.4.6 and 2.7.1).
use Rattle.std.specs.Prelude.{ℕ, List, [], ◌∷◌}
use Rattle.amqp_wire.specs.declared.link.Link.{Ghosts}
use Rattle.amqp_links.specs.State.{State as Links}
use Rattle.amqp_peer.specs.Peering.{Peering}
use Rattle.amqp_session.specs.declared.error.BeginError.{BeginError}
use Rattle.amqp_session.specs.declared.error.BeginError.TheVariants.{IllegalState, LocalChannelMaxReached}
use Rattle.amqp_sessions.specs.State.{State}
use Rattle.amqp_end.specs.Deeds.{Deed, Did}
use Rattle.session_answers.specs.Passing.{added, refused_of}

-- its connection is not open, or no channel up to the agreed channel-max is free
abbrev pub IsOwn : BeginError → Type 0
IsOwn IllegalState = Unit {0}
IsOwn LocalChannelMaxReached = Unit {0}
IsOwn error = ⊥

abbrev pub AreOwn : List (ℕ × BeginError) → Type 0
AreOwn [] = Unit {0}
AreOwn (x ∷ xs) = IsOwn x.1 × AreOwn xs

-- whatever an end does, it refuses calls by itself for these alone
abbrev pub EndsRefuse : {L : Type 0} → Ghosts L → Type 0
EndsRefuse {L} link =
    (at : ℕ) (q : Peering L) (s : State) (l : Links) (ds : List Deed) (q' : Peering L) (s' : State) (l' : Links)
    → Did link at q s l ds q' s' l' → AreOwn (added refused_of ds)
