-- Deliveries that are not settled (OASIS AMQP 1.0, part 2, section 2.7.3).
use Rattle.std.specs.Prelude.{◌≡◌, ℕ, List, [], ◌∷◌, Option, Some, None, Result, Ok, Err, refl, if◌then◌else◌}
use Rattle.std.specs.Str.{bytes_eq}
use Rattle.amqp_composites.specs.amqp_data.Data.{Amqp, Pairs, dict, no_pairs, pair, HasDistinctKeys}
use Rattle.amqp_composites.specs.amqp_fields.Again.{IsField, optional_again}
use Rattle.amqp_composites.specs.amqp_fields.Fields.{◌>>=◌, binary_in, of_binary, optional, maybe, IsValid}
use Rattle.amqp_composites.specs.amqp_fields.declared.error.BaseError.{BaseError}
use Rattle.amqp_composites.specs.amqp_fields.declared.error.BaseError.TheVariants as errors
use Rattle.amqp_termini.specs.declared.unsettled.UnsettledDelivery.{UnsettledDelivery}
use Rattle.amqp_termini.specs.declared.state.DeliveryState.{DeliveryState}
use Rattle.amqp_termini.specs.State.{state_in, of_state, IsStateValid, state_field}

-- before those behind it, if they are read
abbrev pub put_before : UnsettledDelivery → Option (List UnsettledDelivery) → Option (List UnsettledDelivery)
put_before u read = read >>= λ us. Some (u ∷ us)

-- the deliveries that a map tells of: their tags with a delivery state or null
abbrev pub deliveries_in : Pairs → Option (List UnsettledDelivery)
deliveries_in no_pairs = Some []
deliveries_in (pair k v ps) =
    binary_in k >>= λ tag. optional state_in v >>= λ state. put_before (record { delivery_tag = tag; state = state }) (deliveries_in ps)

abbrev pub unsettled_in : Amqp → Option (List UnsettledDelivery)
unsettled_in (dict ps) = deliveries_in ps
unsettled_in v = None

-- the map that tells of them
abbrev pub pairs_of : List UnsettledDelivery → Pairs
pairs_of [] = no_pairs
pairs_of (u ∷ us) = pair (of_binary u.delivery_tag) (maybe of_state u.state) (pairs_of us)

abbrev pub of_unsettled : List UnsettledDelivery → Amqp
of_unsettled us = dict (pairs_of us)

-- no tag comes twice
abbrev pub HasDistinctTags : List UnsettledDelivery → Type 0
HasDistinctTags us = HasDistinctKeys (pairs_of us)

abbrev pub AreStatesValid : List UnsettledDelivery → Type 0
AreStatesValid [] = Unit {0}
AreStatesValid (u ∷ us) = IsValid IsStateValid u.state × AreStatesValid us

-- the state of the first delivery with that tag, if there is such a delivery
abbrev pub state_of : List ℕ → List UnsettledDelivery → Option (Option DeliveryState)
state_of tag [] = None
state_of tag (u ∷ us) = if bytes_eq u.delivery_tag tag then Some u.state else state_of tag us

-- what was returned is that map, unless memory ran out
abbrev pub MakesPairs : {X : Type 0} → (X → Pairs) → Result X BaseError → Pairs → Type 0
MakesPairs view (Ok x) ps = view x ≡ ps
MakesPairs view (Err (errors.Memory a)) ps = Unit {0}
MakesPairs view (Err errors.Decode) ps = ⊥
MakesPairs view (Err errors.Size) ps = ⊥

-- what was returned is the deliveries that are read, unless memory ran out
abbrev pub GivesDeliveries : {X : Type 0} → (X → List UnsettledDelivery) → Result X BaseError → Option (List UnsettledDelivery) → Type 0
GivesDeliveries view (Ok x) read = read ≡ Some (view x)
GivesDeliveries view (Err (errors.Memory a)) read = Unit {0}
GivesDeliveries view (Err errors.Decode) read = read ≡ None
GivesDeliveries view (Err errors.Size) read = ⊥

-- ---- what is written is read again

state_again_or_null : (s : Option DeliveryState) → IsValid IsStateValid s → optional state_in (maybe of_state s) ≡ Some s
state_again_or_null s h = optional_again state_in of_state IsStateValid state_field.again state_field.there s h

deliveries_again : (us : List UnsettledDelivery) → AreStatesValid us → deliveries_in (pairs_of us) ≡ Some us
deliveries_again [] h = refl
deliveries_again (u ∷ us) h = rw (state_again_or_null u.state h.0, deliveries_again us h.1) refl

pub unsettled_again : (us : List UnsettledDelivery) → AreStatesValid us → unsettled_in (of_unsettled us) ≡ Some us
unsettled_again us h = deliveries_again us h

pub unsettled_field : IsField unsettled_in of_unsettled AreStatesValid
unsettled_field = record { again = unsettled_again; there = λ x. tt }
