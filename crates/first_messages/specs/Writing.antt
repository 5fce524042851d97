-- What the sessions of an end write on a channel before the first Transfer of a link (OASIS AMQP 1.0, part 2, sections
-- 2.5.1 and 2.6.2).
use Rattle.std.specs.Prelude.{◌≡◌, ℕ, nat_eq, List, [], ◌∷◌, ◌++◌, flat_map, Some, if◌then◌else◌}
use Rattle.amqp_frames.specs.declared.shared.LinkFrame.{LinkFrame}
use Rattle.amqp_frames.specs.declared.shared.LinkFrame.TheVariants as link
use Rattle.amqp_parts.specs.declared.part.Part.{Part}
use Rattle.amqp_sessions.specs.Parts.{EndpointState}
use Rattle.amqp_sessions.specs.State.{State, none_begun, endpoint_of}
use Rattle.session_laws.specs.Holding.{transfers}
use Rattle.session_laws.specs.Messages.{on as on_handle}
use Rattle.session_lives.specs.Channels.{on}
use Rattle.session_lives.specs.Deeds.{Deed, Begins, Accepts, Takes, Did, wrote_in}
use Rattle.first_messages.specs.Before.{HasNone}

-- no session but that of the name is made on that channel
abbrev pub IsOwn : ℕ → ℕ → Deed → Type 0
IsOwn c v (Begins name x channel limit) = channel ≡ c → name ≡ v
IsOwn c v (Accepts name x channel limit incoming) = channel ≡ c → name ≡ v
IsOwn c v d = Unit {0}

abbrev pub AreOwn : ℕ → ℕ → List Deed → Type 0
AreOwn c v [] = Unit {0}
AreOwn c v (d ∷ ds) = IsOwn c v d × AreOwn c v ds

-- the frames that links give to the session of that name, whether it stands or not
abbrev pub given_of : ℕ → Deed → List LinkFrame
given_of v (Takes session x) = if nat_eq v session then x ∷ [] else []
given_of v d = []

abbrev pub given_in : ℕ → List Deed → List LinkFrame
given_in v [] = []
given_in v (d ∷ ds) = given_of v d ++ given_in v ds

-- the Transfers among such frames
abbrev pub part_in : LinkFrame → List Part
part_in (link.Transfer x payload) = record { transfer = x; payload = payload } ∷ []
part_in other = []

abbrev pub parts_of : List LinkFrame → List Part
parts_of xs = flat_map part_in xs

-- none on the handle was written on the channel, or is to be; no other session is on it; and none waits in that session
pub record IsUnwritten (c handle v : ℕ) (ds : List Deed) (new : State) : Type 0 where
  pub written : on_handle handle (transfers (on c (wrote_in ds ++ new.output))) ≡ []
  pub alone : (n : ℕ) (e : EndpointState) → endpoint_of n new ≡ Some e → e.session.channel ≡ c → n ≡ v
  pub waits : (e : EndpointState) → endpoint_of v new ≡ Some e → HasNone handle e.session

-- whatever the sessions of an end do
abbrev pub NoneIsWritten : Type 0
NoneIsWritten =
    (c handle v : ℕ) (ds : List Deed) (new : State) → Did none_begun ds new → AreOwn c v ds
    → on_handle handle (parts_of (given_in v ds)) ≡ [] → IsUnwritten c handle v ds new
