-- What workers give back.
use Rattle.std.specs.Prelude.{◌≡◌, ℕ, suc, ◌<◌, List, [], ◌∷◌, map, length, slice_index_or, Result, Ok}
use Rattle.std.proofs.Common.{arith, subst, sym}
use Rattle.amqp_delivery.specs.declared.info.DeliveryInfo.{DeliveryInfo}
use Rattle.amqp_threads.specs.Seats.{Seat}
use Rattle.amqp_threads.specs.declared.error.DeskError.{DeskError}
use Rattle.amqp_disposers.specs.Work.{Serves, ServesAt, EachServes, AllServe}

abbrev pub oks : List Seat → List (Result Seat DeskError)
oks ts = map Ok ts

head_serves : (s t : Seat) (ss : List Seat) (infos : List DeliveryInfo) → ServesAt (s ∷ ss) infos 0 (Ok t) → Serves s infos t
head_serves s t ss infos at = subst (λ (x : Seat). Serves x infos t) (sym (at.seat_is s)) at.serves

each_served : (ss : List Seat) (infos : List DeliveryInfo) (ts : List Seat) → length (oks ts) ≡ length ss → ((i : ℕ) (d : Result Seat DeskError) → i < length ss → ServesAt ss infos i (slice_index_or (oks ts) i d)) → AllServe ss infos ts
each_served [] infos [] count each = tt
each_served [] infos (t ∷ ts) count each = absurd (omega arith)
each_served (s ∷ ss) infos [] count each = absurd (omega arith)
each_served (s ∷ ss) infos (t ∷ ts) count each = (
  head_serves s t ss infos (each 0 (Ok t) (omega arith)),
  each_served ss infos ts (omega arith) (λ i d lt. (let at = each (suc i) d (omega arith) in record { seat = at.seat; seat_is = at.seat_is; serves = at.serves })),
)

pub all_served : (ss : List Seat) (infos : List DeliveryInfo) (rs : List (Result Seat DeskError)) (ts : List Seat) → EachServes ss infos rs → rs ≡ map Ok ts → AllServe ss infos ts
all_served ss infos rs ts each is = by (subst (λ (xs : List (Result Seat DeskError)). EachServes ss infos xs) is each)
  where
    by : EachServes ss infos (oks ts) → AllServe ss infos ts
    by e = each_served ss infos ts e.count e.each
