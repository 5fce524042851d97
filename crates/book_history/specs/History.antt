-- What a history says of a book.
use Rattle.std.specs.Prelude.{◌≡◌, ℕ, Bool, true, false, List, [], ◌∷◌}
use Rattle.amqp_delivery.specs.Book.{Book}
use Rattle.amqp_delivery.specs.Step.{Reply, step}
use Rattle.amqp_delivery.specs.declared.calls.BookCall.{BookCall}
use Rattle.amqp_delivery.specs.declared.calls.BookReply.{BookReply}
use Rattle.amqp_delivery.specs.declared.calls.BookReply.TheVariants as reply

-- an entry of a history
pub record Event : Type 0 where
  pub seat : ℕ
  pub call : BookCall
  pub reply : Reply

-- the entries of a history, and room for how many more
pub record Log : Type 0 where
  pub events : List Event
  pub room : ℕ

-- the entry of a call that a seat makes on a book
abbrev pub event_of : ℕ → Book → BookCall → Event
event_of seat b call = record { seat = seat; call = call; reply = (step b call).reply }

-- from the first book the entries are steps that lead to the last, and each reply is its step's
abbrev pub Replays : Book → List Event → Book → Type 0
Replays b [] c = b ≡ c
Replays b (e ∷ es) c = (e.reply ≡ (step b e.call).reply) × Replays (step b e.call).book es c

-- a reply without orders
abbrev pub is_bare : BookReply → Bool
is_bare (reply.Done found refilled) = true
is_bare (reply.Taken orders) = false
is_bare reply.Stale = true

abbrev pub IsBare : BookReply → Type 0
IsBare r = is_bare r ≡ true
