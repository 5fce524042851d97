-- What the sessions of an end and their links hand to one another.
use Rattle.std.specs.Prelude.{◌≡◌, ◌⊎◌, ◌≤◌, ◌+◌, ◌^◌, ℕ, Bool, true, false, List, [], ◌∷◌}
use Rattle.amqp_wire.specs.declared.link.Link.{Ghosts}
use Rattle.amqp_links.specs.State.{seen as linked}
use Rattle.amqp_sessions.specs.State.{seen}
use Rattle.amqp_end.specs.declared.end.End.{End}
use Rattle.amqp_end.specs.Deeds.{Deed, LinksHear, LinksWrite, LinksLack, Did}

-- how many things they hand over in a deed, and in deeds
abbrev pub handed_of : Deed → ℕ
handed_of (LinksHear session x) = 1
handed_of (LinksWrite session x) = 1
handed_of (LinksLack session) = 1
handed_of deed = 0

abbrev pub handed_by : List Deed → ℕ
handed_by [] = 0
handed_by (d ∷ ds) = handed_of d + handed_by ds

-- the links have heard all that the sessions have for them, and the sessions were given all that the links write
pub record IsHanded {L : Type 0} (e : End L) : Type 0 where
  pub heard : (seen e.sessions).incoming ≡ []
  pub written : (linked e.links).output ≡ []

-- so many things, or more, were handed over in what an end did
pub record HandedOver {L : Type 0} (link : Ghosts L) (at many : ℕ) (old new : End L) : Type 0 where
  pub deeds : List Deed
  pub did : Did link at old.connection (seen old.sessions) (linked old.links) deeds new.connection (seen new.sessions) (linked new.links)
  pub enough : many ≤ handed_by deeds

-- Nothing is left between sessions and links; or they have handed 2^62 things to one another in what the end did: so many, and no more, it
-- lets them in a row.
abbrev pub HandsAll : {L : Type 0} → Ghosts L → ℕ → End L → End L → Type 0
HandsAll link at old new = IsHanded new ⊎ HandedOver link at (2 ^ 62) old new

-- where nothing is left, nothing comes to be left
abbrev pub KeepsHanded : {L : Type 0} → Ghosts L → ℕ → End L → End L → Type 0
KeepsHanded link at old new = IsHanded old → HandsAll link at old new

-- what is left stays
pub record KeepsBetween {L : Type 0} (old new : End L) : Type 0 where
  pub incoming : (seen new.sessions).incoming ≡ (seen old.sessions).incoming
  pub output : (linked new.links).output ≡ (linked old.links).output

-- one thing was handed over; or there was none to be heard, none to be given to the sessions, or neither
abbrev pub HearsOne : {L : Type 0} → Ghosts L → End L → End L → Bool → Type 0
HearsOne link old new true = (at : ℕ) → HandedOver link at 1 old new
HearsOne link old new false = (seen new.sessions).incoming ≡ []

abbrev pub WritesOne : {L : Type 0} → Ghosts L → End L → End L → Bool → Type 0
WritesOne link old new true = (at : ℕ) → HandedOver link at 1 old new
WritesOne link old new false = ((linked new.links).output ≡ []) × ((seen new.sessions).incoming ≡ (seen old.sessions).incoming)

abbrev pub HandsOne : {L : Type 0} → Ghosts L → End L → End L → Bool → Type 0
HandsOne link old new true = (at : ℕ) → HandedOver link at 1 old new
HandsOne link old new false = IsHanded new
