-- What workers do.
use Rattle.std.specs.Prelude.{◌≡◌, ℕ, ◌+◌, ◌*◌, ◌<◌, ◌≤◌, ◌++◌, List, [], ◌∷◌, map, length, slice_index_or, Result, IfOk}
use Rattle.amqp_delivery.specs.Book.{Book, view_of}
use Rattle.amqp_delivery.specs.declared.calls.BookCall.{BookCall}
use Rattle.amqp_delivery.specs.declared.calls.BookCall.TheVariants.{Accept}
use Rattle.amqp_delivery.specs.declared.info.DeliveryInfo.{DeliveryInfo}
use Rattle.amqp_delivery.specs.declared.info.DisposerView.{DisposerView}
use Rattle.book_history.specs.History.{Event, Replays}
use Rattle.book_history.specs.declared.entry.Receipt.{Receipt}
use Rattle.amqp_threads.specs.Seats.{Seat}
use Rattle.amqp_threads.specs.declared.error.DeskError.{DeskError}

abbrev pub calls_in : List Receipt → List BookCall
calls_in rs = map (λ r. r.entry.call) rs

abbrev pub seats_in : List Receipt → List ℕ
seats_in rs = map (λ r. r.entry.seat) rs

-- the seat accepted these deliveries
pub record Serves (old : Seat) (infos : List DeliveryInfo) (new : Seat) : Type 0 where
  pub number : new.number ≡ old.number
  pub view : new.view ≡ old.view
  pub calls : calls_in new.receipts ≡ calls_in old.receipts ++ map (λ i. Accept old.view i) infos
  pub seats : seats_in new.receipts ≡ seats_in old.receipts ++ map (λ i. old.number) infos

-- the i-th seat accepted these deliveries, or its worker answered an error
pub record ServesAt (ss : List Seat) (infos : List DeliveryInfo) (i : ℕ) (r : Result Seat DeskError) : Type 0 where
  pub seat : Seat
  pub seat_is : (d : Seat) → slice_index_or ss i d ≡ seat
  pub serves : IfOk r (λ t. Serves seat infos t)

-- as many answers as seats, each at its seat's place
pub record EachServes (ss : List Seat) (infos : List DeliveryInfo) (rs : List (Result Seat DeskError)) : Type 0 where
  pub count : length rs ≡ length ss
  pub each : (i : ℕ) (d : Result Seat DeskError) → i < length ss → ServesAt ss infos i (slice_index_or rs i d)

-- each seat accepted these deliveries
abbrev pub AllServe : List Seat → List DeliveryInfo → List Seat → Type 0
AllServe [] infos [] = Unit {0}
AllServe [] infos (t ∷ ts) = ⊥
AllServe (s ∷ ss) infos [] = ⊥
AllServe (s ∷ ss) infos (t ∷ ts) = Serves s infos t × AllServe ss infos ts

-- the calls of a history, weighed
abbrev pub total : (BookCall → ℕ) → List Event → ℕ
total w [] = 0
total w (e ∷ es) = w e.call + total w es

-- acceptances of these deliveries, weighed
abbrev pub accepted_total : (BookCall → ℕ) → DisposerView → List DeliveryInfo → ℕ
accepted_total w view [] = 0
accepted_total w view (info ∷ infos) = w (Accept view info) + accepted_total w view infos

-- so many workers accepted these deliveries: the history has as many calls, and each acceptance as often as there are workers
pub record Ran (b : Book) (infos : List DeliveryInfo) (workers : ℕ) (history : List Event) (left : Book) : Type 0 where
  pub replays : Replays b history left
  pub calls : length history ≡ workers * length infos
  pub covers : (w : BookCall → ℕ) → workers * accepted_total w (view_of b 0) infos ≤ total w history
