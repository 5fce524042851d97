-- What happens at the connections of two ends with sessions and links, step after step.
use Rattle.std.specs.Prelude.{◌+◌, ℕ, List, [], ◌∷◌, ◌++◌, Bool, true, false, if◌then◌else◌, length}
use Rattle.amqp_words.specs.declared.call.Call.{Call as ConnectionCall}
use Rattle.amqp_words.specs.declared.step.End.{End as Side}
use Rattle.amqp_words.specs.declared.step.End.TheVariants.{Client, Listener}
use Rattle.amqp_end.specs.amqp_calls.declared.reply.NamedReply.{NamedReply}
use Rattle.amqp_end.specs.amqp_calls.declared.step.Step.{Step}
use Rattle.amqp_end.specs.amqp_calls.declared.trace.Entry.{Entry}
use Rattle.amqp_peer.specs.History.{Local, Polled}
use Rattle.amqp_world.specs.History.{is_same}
use Rattle.amqp_end.specs.Deeds.{Deed, behind}
use Rattle.amqp_session_world.specs.Turn.{View, calls_of, IsTurnAt, IsTurn, Turns}

-- what happened at the connection of an end, and what the end did, the newest first
pub record Life : Type 0 where
  pub h : List Local
  pub deeds : List Deed

-- nothing happened
abbrev pub unlived : Life
unlived = record { h = []; deeds = [] }

-- the same behind a step of the end, which begins with its moment
abbrev pub lived : ℕ → List Deed → Life → Life
lived at ds l = record { h = behind at ds (Polled at ∷ l.h); deeds = ds ++ l.deeds }

abbrev pub lived_if : Bool → ℕ → List Deed → Life → Life
lived_if true at ds l = lived at ds l
lived_if false at ds l = l

-- what the end of a step did in it
abbrev pub done_at : (e : Side) (name : ℕ) (old : View) (step : Step) (new : View) (entry : Entry) → IsTurnAt e name old step new entry → List Deed
done_at Client name old step new entry t = t.goes.deeds
done_at Listener name old step new entry t = t.goes.deeds

abbrev pub done : (old : View) (step : Step) (new : View) → IsTurn old step new → List Deed
done old step new t = done_at step.end (length old.entries) old step new t.entry t.turned

-- the life of an end behind steps
abbrev pub life_of : Side → (old : View) (steps : List Step) (new : View) → Turns old steps new → Life → Life
life_of e old [] new t l = l
life_of e old (s ∷ ss) new t l = life_of e t.0 ss new t.2 (lived_if (is_same e s.end) s.at (done old s t.0 t.1) l)

-- ---- what stands in a trace

-- the bytes that an end wrote in these steps
abbrev pub wrote_at : Side → List Step → List Entry → List ℕ
wrote_at e [] entries = []
wrote_at e (s ∷ ss) [] = []
wrote_at e (s ∷ ss) (x ∷ xs) = (if is_same e s.end then x.wrote.items else []) ++ wrote_at e ss xs

-- its answers in them, in order
abbrev pub told_at : Side → List Step → List Entry → List NamedReply
told_at e [] entries = []
told_at e (s ∷ ss) [] = []
told_at e (s ∷ ss) (x ∷ xs) = (if is_same e s.end then x.replies.items else []) ++ told_at e ss xs

-- the calls that it made on its connection in them, the newest first; the name of a call is the position of its step, and the first is at n
abbrev pub calls_at : Side → ℕ → List Step → List (ℕ × ConnectionCall)
calls_at e n [] = []
calls_at e n (s ∷ ss) = calls_at e (n + 1) ss ++ (if is_same e s.end then calls_of n s.act else [])
