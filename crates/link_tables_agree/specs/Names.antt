-- The names of calls on links: where each is used once, each call that makes a link has a new one.
use Rattle.std.specs.Prelude.{ℕ, nat_eq, Bool, List, [], ◌∷◌, ◌++◌}
use Rattle.std.specs.List.{IsDistinct}
use Rattle.amqp_links.specs.State.{State, no_links}
use Rattle.link_lives.specs.Deeds.{Deed, Asks, Did, AreOther}
use Rattle.link_tables_agree.specs.Sound.{IsUnused, AreSound, AreNewIn}

-- the names of the calls that are made, in order
abbrev pub asked_of : Deed → List ℕ
asked_of (Asks name call max) = name ∷ []
asked_of d = []

abbrev pub asked_in : List Deed → List ℕ
asked_in [] = []
asked_in (d ∷ ds) = asked_of d ++ asked_in ds

-- a name that is not used stays so, as long as no call has it
abbrev pub UnusedStays : Type 0
UnusedStays =
    (n : ℕ) (ds : List Deed) (old new : State) (did : Did old ds new)
    → AreOther n ds → AreNewIn old ds new did → AreSound old → IsUnused n old → IsUnused n new

-- from where there are no links, whether the end accepts links or attaches them
abbrev pub NamesAreNew : Type 0
NamesAreNew =
    (accepts : Bool) (ds : List Deed) (new : State) (did : Did (no_links accepts) ds new)
    → IsDistinct nat_eq (asked_in ds) → AreNewIn (no_links accepts) ds new did
