-- What all links of an end tell, one after another (OASIS AMQP 1.0, part 2, section 2.6).
use Rattle.std.specs.Prelude.{◌≡◌, ℕ, nat_eq, Bool, false, List, [], ◌∷◌, ◌++◌, flat_map, Option, Some, None, if◌then◌else◌}
use Rattle.amqp_parts.specs.declared.part.Part.{Part}
use Rattle.amqp_links.specs.amqp_link_calls.Called.{Called}
use Rattle.amqp_session_links.specs.declared.place.WaitingAccept.{WaitingAccept}
use Rattle.amqp_session_links.specs.State.{State as Place}
use Rattle.amqp_links.specs.Parts.{Told, Frame, Astray}
use Rattle.amqp_links.specs.State.{State, place_of, link_of}
use Rattle.link_lives.specs.Lives.{Event, Wrote, Went}

-- the link of that name has told that; or the peer has attached a link on that session that no call awaits
pub data Entry : Type 0 where
  Of : ℕ → Event → Entry
  Strayed : ℕ → Entry

-- what the link of that name has told
abbrev pub event_of : ℕ → Entry → List Event
event_of n (Of link e) = if nat_eq link n then e ∷ [] else []
event_of n (Strayed session) = []

abbrev pub own : ℕ → List Entry → List Event
own n log = flat_map (event_of n) log

-- what is to be done on the sessions for it
abbrev pub told_of : Event → List Told
told_of (Wrote session x) = Frame session x ∷ []
told_of other = []

abbrev pub told_in : Entry → List Told
told_in (Of link e) = told_of e
told_in (Strayed session) = Astray session ∷ []

abbrev pub told : List Entry → List Told
told log = flat_map told_in log

-- whether the call that waits for an Attach has that name
abbrev pub is_named : ℕ → Option WaitingAccept → Bool
is_named n None = false
is_named n (Some accept) = nat_eq accept.name n

abbrev pub accepts_as : ℕ → Option Place → Bool
accepts_as n None = false
accepts_as n (Some p) = is_named n p.accepting

-- no call of that name waits for an Attach
abbrev pub IsFree : ℕ → State → Type 0
IsFree n s = (session : ℕ) → accepts_as n (place_of session s) ≡ false

-- what has become of a link: it stands still, or there was none and is none
abbrev pub Fate : Option Called → List Event → List Part → Option Called → Type 0
Fate None events parts None = events ≡ []
Fate None events parts (Some m) = ⊥
Fate (Some l) events parts None = ⊥
Fate (Some l) events parts (Some m) = Went l events parts m

-- the link of that name has told that and read these Transfers
pub record Keeps (n : ℕ) (old : State) (events : List Event) (parts : List Part) (new : State) : Type 0 where
  pub free : IsFree n new
  pub fate : Fate (link_of n old) events parts (link_of n new)

-- The links of an end go on. What they have to write is what they have told, in order. Each link that no call makes has
-- told what is in the log of it, and a receiver has read these Transfers.
pub record Goes (Among : ℕ → Type 0) (parts : ℕ → List Part) (old new : State) : Type 0 where
  pub log : List Entry
  pub output : new.output ≡ old.output ++ told log
  pub each : (n : ℕ) → Among n → IsFree n old → Keeps n old (own n log) (parts n) new
