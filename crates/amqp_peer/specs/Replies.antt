-- Which replies calls may have.
use Rattle.std.specs.Prelude.{◌≡◌, ◌⊎◌, ℕ, List, [], ◌∷◌}
use Rattle.sasl_exchange.specs.declared.error.NegotiationError.TheVariants.{ScramError}
use Rattle.sasl_scram.specs.declared.error.ScramErrorKind.TheVariants.{TextNotAllowed}
use Rattle.amqp_words.specs.declared.open_error.OpenError.{OpenError}
use Rattle.amqp_words.specs.declared.open_error.OpenError.TheVariants as failed
use Rattle.amqp_words.specs.declared.call.Call.{Call}
use Rattle.amqp_words.specs.declared.reply.Reply.{Reply}
use Rattle.amqp_words.specs.declared.reply.Reply.TheVariants as reply
use Rattle.amqp_words.specs.declared.reply.NamedReply.{NamedReply}

abbrev pub pending : ℕ → NamedReply
pending name = record { name = name; reply = reply.Pending }

abbrev pub connection : ℕ → NamedReply
connection name = record { name = name; reply = reply.Connection }

abbrev pub open_failed : ℕ → OpenError → NamedReply
open_failed name e = record { name = name; reply = reply.OpenError e }

abbrev pub answered : ℕ → Reply → NamedReply
answered name r = record { name = name; reply = r }

-- how a close is answered in the end
abbrev pub IsCloseEnd : Reply → Type 0
IsCloseEnd reply.Pending = ⊥
IsCloseEnd reply.Connection = ⊥
IsCloseEnd reply.Closed = Unit {0}
IsCloseEnd (reply.OpenError e) = ⊥
IsCloseEnd (reply.ConnectionError e) = Unit {0}

-- the error for a user or a password outside the profile
abbrev pub texts_refused : OpenError
texts_refused = failed.Negotiation (ScramError TextNotAllowed)

-- an open or accept has failed by this error: after it waited, or at once, and at once for its user or password alone
abbrev pub IsOpenRefusal : ℕ → OpenError → List NamedReply → Type 0
IsOpenRefusal n e replies = ((replies ≡ pending n ∷ open_failed n e ∷ []) × (¬ (e ≡ texts_refused))) ⊎ ((replies ≡ open_failed n e ∷ []) × (e ≡ texts_refused))

-- an open or accept waits, is answered after it waited, or has failed
abbrev pub AreOpening : ℕ → List NamedReply → Type 0
AreOpening n replies = (replies ≡ pending n ∷ []) ⊎ ((replies ≡ pending n ∷ connection n ∷ []) ⊎ ((e : OpenError) × IsOpenRefusal n e replies))

-- a close after it waits, is answered after it waited, or is answered at once
abbrev pub AreClosing : ℕ → ℕ → List NamedReply → Type 0
AreClosing n m replies =
    (replies ≡ pending n ∷ connection n ∷ pending m ∷ [])
    ⊎ ((r : Reply) × IsCloseEnd r × ((replies ≡ pending n ∷ connection n ∷ pending m ∷ answered m r ∷ []) ⊎ (replies ≡ pending n ∷ connection n ∷ answered m r ∷ [])))

-- the replies so far to the calls so far, the newest call first: an open or accept, and then a close
abbrev pub AreReplies : List (ℕ × Call) → List NamedReply → Type 0
AreReplies [] replies = replies ≡ []
AreReplies (first ∷ []) replies = AreOpening first.0 replies
AreReplies (close ∷ first ∷ []) replies = AreClosing first.0 close.0 replies
AreReplies (call ∷ close ∷ first ∷ calls) replies = ⊥

-- one of these replies is that the connection is made
abbrev pub IsConnected : List NamedReply → Type 0
IsConnected [] = ⊥
IsConnected (r ∷ rs) = (r.reply ≡ reply.Connection) ⊎ IsConnected rs
