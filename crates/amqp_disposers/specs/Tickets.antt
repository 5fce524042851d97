-- What workers do that take their turns by tickets.
use Rattle.std.specs.Prelude.{◌≡◌, ℕ, ◌<◌, ◌++◌, List, [], ◌∷◌, length, slice_index_or, Result, IfOk}
use Rattle.amqp_delivery.specs.declared.calls.BookCall.TheVariants.{Accept}
use Rattle.amqp_delivery.specs.declared.info.DeliveryInfo.{DeliveryInfo}
use Rattle.amqp_threads.specs.Seats as desk
use Rattle.book_lock.specs.Seats.{Seat}
use Rattle.std.specs.declared.alloc.AllocError.{AllocError}
use Rattle.amqp_disposers.specs.Work.{Serves, calls_in, seats_in}

-- a seat as a desk with one lock has it
abbrev pub plain : Seat → desk.Seat
plain s = record { number = s.number; view = s.view; receipts = s.receipts }

-- the seat accepted this delivery
abbrev pub AcceptsOnce : Seat → DeliveryInfo → Seat → Type 0
AcceptsOnce old info new =
    (new.number ≡ old.number) × (new.view ≡ old.view) × (new.table ≡ old.table)
    × (calls_in new.receipts ≡ calls_in old.receipts ++ Accept old.view info ∷ []) × (seats_in new.receipts ≡ seats_in old.receipts ++ old.number ∷ [])

-- the seat accepted these deliveries
pub record TicketServes (old : Seat) (infos : List DeliveryInfo) (new : Seat) : Type 0 where
  pub serves : Serves (plain old) infos (plain new)
  pub table : new.table ≡ old.table

-- the i-th seat accepted these deliveries, or its worker answered an error
pub record TicketServesAt (ss : List Seat) (infos : List DeliveryInfo) (i : ℕ) (r : Result Seat AllocError) : Type 0 where
  pub seat : Seat
  pub seat_is : (d : Seat) → slice_index_or ss i d ≡ seat
  pub serves : IfOk r (λ t. TicketServes seat infos t)

-- as many answers as seats, each at its seat's place
pub record EachTicketServes (ss : List Seat) (infos : List DeliveryInfo) (rs : List (Result Seat AllocError)) : Type 0 where
  pub count : length rs ≡ length ss
  pub each : (i : ℕ) (d : Result Seat AllocError) → i < length ss → TicketServesAt ss infos i (slice_index_or rs i d)

-- each seat accepted these deliveries
abbrev pub AllTicketsServe : List Seat → List DeliveryInfo → List Seat → Type 0
AllTicketsServe [] infos [] = Unit {0}
AllTicketsServe [] infos (t ∷ ts) = ⊥
AllTicketsServe (s ∷ ss) infos [] = ⊥
AllTicketsServe (s ∷ ss) infos (t ∷ ts) = TicketServes s infos t × AllTicketsServe ss infos ts
