-- How a sender is detached, and attached again so that it may be closed (OASIS AMQP 1.0, part 2, sections 2.6.3 to 2.6.6).
use Rattle.std.specs.Prelude.{ℕ, nat_lt, List, [], ◌∷◌, map, Option, Some, None, if◌then◌else◌}
use Rattle.amqp_termini.specs.declared.unsettled.UnsettledDelivery.{UnsettledDelivery}
use Rattle.amqp_link.specs.Parting as link
use Rattle.amqp_sender.specs.Sender.{State}

-- a delivery that is not settled: its tag, and its place among all that were sent
abbrev pub Entry : Type 0
Entry = List ℕ × ℕ

-- a delivery among others, behind those whose places are lower
abbrev pub placed : Entry → List Entry → List Entry
placed e [] = e ∷ []
placed e (x ∷ xs) = if nat_lt x.1 e.1 then x ∷ placed e xs else e ∷ x ∷ xs

-- deliveries by their places, which is the order in which they were sent
abbrev pub by_place : List Entry → List Entry
by_place [] = []
by_place (e ∷ es) = placed e (by_place es)

-- what the Attach says of a delivery: its tag, and nothing more is known
abbrev pub told_of : Entry → UnsettledDelivery
told_of e = record { delivery_tag = e.0; state = None }

-- the deliveries that are not settled, in the order in which they were sent
abbrev pub all_told : List Entry → List UnsettledDelivery
all_told entries = map told_of (by_place entries)

-- an Attach of a link without such deliveries has no map of them
abbrev pub map_of : List UnsettledDelivery → Option (List UnsettledDelivery)
map_of [] = None
map_of (x ∷ xs) = Some (x ∷ xs)

-- the Attach says where the delivery-count is now, and there is no credit (section 2.6.7)
abbrev pub reattached : ℕ → State → State
reattached handle s = record s { link = link.reattached handle (map_of (all_told s.unsettled)) (Some s.delivery_count) s.link; credit = 0 }
