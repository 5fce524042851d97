-- What the links of an end do, one after another.
use Rattle.std.specs.Prelude.{◌≡◌, ℕ, nat_eq, false, List, [], ◌∷◌, ◌++◌, flat_map, Option, Some, None, if◌then◌else◌}
use Rattle.amqp_link_words.specs.declared.link_call.LinkCall.{LinkCall}
use Rattle.amqp_parts.specs.declared.part.Part.{Part}
use Rattle.amqp_session.specs.declared.session.LinkInput.{LinkInput}
use Rattle.amqp_session.specs.declared.session.LinkInput.TheVariants as input
use Rattle.amqp_links.specs.Calling.{Calls}
use Rattle.amqp_links.specs.Hearing.{link_from_at}
use Rattle.amqp_links.specs.Inputs.{input_read}
use Rattle.amqp_links.specs.Parts.{Told, Frame, Astray}
use Rattle.amqp_links.specs.State.{State, place_of, TakesOutput}
use Rattle.amqp_links.specs.Timing.{at_moment, looked}
use Rattle.session_laws.specs.Messages.{transfer_in, on}
use Rattle.link_lives.specs.Lives.{Event, Wrote}
use Rattle.link_lives.specs.Logs.{Entry, Of, Strayed}

-- a call of that name is made, with the highest handle that it may take; they hear what their session has for them; the
-- first that they have to write goes to its session; they are told the moment; they look at the clock; their answers are
-- taken
pub data Deed : Type 0 where
  Asks : ℕ → LinkCall → Option ℕ → Deed
  Hears : ℕ → LinkInput → Deed
  Hands : Told → Deed
  Knows : ℕ → Deed
  Looks : Deed
  Tells : Deed

-- the links before a deed and behind it
abbrev pub IsDeed : State → Deed → State → Type 0
IsDeed old (Asks name call max) new = Calls name call max old new
IsDeed old (Hears session x) new = new ≡ input_read session x old
IsDeed old (Hands x) new = TakesOutput old (Some x) new
IsDeed old (Knows at) new = new ≡ at_moment at old
IsDeed old Looks new = new ≡ looked old
IsDeed old Tells new = new ≡ record old { replies = [] }

-- the links did these, one after another
abbrev pub Did : State → List Deed → State → Type 0
Did old [] new = new ≡ old
Did old (d ∷ ds) new = (s : State) × (IsDeed old d s × Did s ds new)

-- what goes to the sessions
abbrev pub handed : Deed → List Told
handed (Hands x) = x ∷ []
handed d = []

abbrev pub all_handed : List Deed → List Told
all_handed [] = []
all_handed (d ∷ ds) = handed d ++ all_handed ds

-- a call does not have that name
abbrev pub IsOther : ℕ → Deed → Type 0
IsOther n (Asks name call max) = nat_eq name n ≡ false
IsOther n d = Unit {0}

abbrev pub AreOther : ℕ → List Deed → Type 0
AreOther n [] = Unit {0}
AreOther n (d ∷ ds) = IsOther n d × AreOther n ds

-- a Transfer on a handle of the peer is for the link of that handle
abbrev pub part_for : Option ℕ → Part → ℕ → List Part
part_for None x n = []
part_for (Some link) x n = if nat_eq link n then x ∷ [] else []

-- the Transfers that the link of that name is to read
abbrev pub parts_for : Deed → State → ℕ → List Part
parts_for (Hears session (input.Transfer x payload)) s n =
    part_for (link_from_at x.handle (place_of session s)) (record { transfer = x; payload = payload }) n
parts_for d s n = []

-- the Transfers that it is to read in all of them, in order
abbrev pub parts_in : (old : State) (ds : List Deed) (new : State) → Did old ds new → ℕ → List Part
parts_in old [] new h n = []
parts_in old (d ∷ ds) new h n = parts_for d old n ++ parts_in h.0 ds new h.1.1 n

-- ---- the Transfers of a link on their way to its session

abbrev pub part_told : ℕ → Told → List Part
part_told session (Frame other x) = if nat_eq other session then transfer_in x else []
part_told session (Astray other) = []

-- the Transfers among what goes to that session
abbrev pub parts_told : ℕ → List Told → List Part
parts_told session xs = flat_map (part_told session) xs

abbrev pub part_wrote : ℕ → Event → List Part
part_wrote session (Wrote other x) = if nat_eq other session then transfer_in x else []
part_wrote session other = []

-- no other link has written a Transfer on the handle in that session
abbrev pub IsApart : ℕ → ℕ → ℕ → Entry → Type 0
IsApart handle session n (Of link e) = nat_eq link n ≡ false → on handle (part_wrote session e) ≡ []
IsApart handle session n (Strayed other) = Unit {0}

abbrev pub AreApart : ℕ → ℕ → ℕ → List Entry → Type 0
AreApart handle session n [] = Unit {0}
AreApart handle session n (x ∷ xs) = IsApart handle session n x × AreApart handle session n xs
