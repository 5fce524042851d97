-- Why a desk is not closed.
use Rattle.std.specs.Prelude.{◌≡◌, ℕ, ◌<◌, List, [], ◌∷◌, take, get_or, length, slice_get, Some, refl}
use Rattle.std.proofs.Common.{ap, sym, ◌∙◌}
use Rattle.std.proofs.lemmas.Option.{slice_get_read}
use Rattle.amqp_delivery.specs.Book.{Book}
use Rattle.book_history.specs.History.{Event, Replays}
use Rattle.book_history.specs.Receipts.{next_place}
use Rattle.book_history.specs.declared.entry.Receipt.{Receipt}
use Rattle.amqp_threads.specs.Seats.{Seat, calls_of}
use Rattle.amqp_threads.specs.Closing.{DiffersAt, FailsIn, MayFail, Differing}
use Rattle.amqp_threads.specs.declared.error.DeskError.{DeskError}
use Rattle.amqp_threads.specs.declared.error.DeskError.TheVariants.{Memory, Differs}

pub is_differing : (history : List Event) (receipts : List Receipt) (i : ℕ) (r : Receipt) (low : ℕ) (error : DeskError) → slice_get receipts i ≡ Some r → low ≡ next_place (take i receipts) → DiffersAt history r low error → Differing history receipts error
is_differing history receipts i r low (Memory error) at is d = tt
is_differing history receipts i r low (Differs receipt entry) at is d = (i, rw d.0 at, d.1, rw (← is) d.2)

fails_at : (seats : List Seat) (k : ℕ) (s : Seat) (history : List Event) (error : DeskError) → slice_get seats k ≡ Some s → Differing history s.receipts error → FailsIn history seats error
fails_at seats k s history (Memory error) at d = tt
fails_at seats k s history (Differs receipt entry) at d = (k, s, at, d)

pub fails_in : (seats ys : List Seat) (k : ℕ) (s : Seat) (history : List Event) (error : DeskError) → ys ≡ seats → k < length ys → s ≡ get_or ys k s → Differing history s.receipts error → FailsIn history seats error
fails_in seats ys k s history error same lt is d = fails_at seats k s history error (ap (λ (zs : List Seat). slice_get zs k) (sym same) ∙ slice_get_read ys (length ys) k s refl lt is) d

-- what fails in the history of a book may fail
pub may_fail : (first last : Book) (seats : List Seat) (history : List Event) (error : DeskError) → Replays first history last → length history ≡ calls_of seats → FailsIn history seats error → MayFail first seats error
may_fail first last seats history (Memory error) replays calls fails = tt
may_fail first last seats history (Differs receipt entry) replays calls fails = (last, history, replays, calls, fails)
