-- What has happened, as a list of events, the newest first.
use Rattle.std.specs.Prelude.{◌+◌, List, ℕ, [], ◌∷◌, ◌++◌, length, take, Bool, true, false, if◌then◌else◌}
use Rattle.amqp_words.specs.declared.call.Call.{Call}
use Rattle.amqp_words.specs.declared.reply.NamedReply.{NamedReply}
use Rattle.amqp_peer.specs.History.{Local, Made, Polled}
use Rattle.amqp_words.specs.declared.step.End.{End}
use Rattle.amqp_words.specs.declared.step.End.TheVariants.{Client, Listener}
use Rattle.amqp_words.specs.declared.step.Act.{Act}
use Rattle.amqp_words.specs.declared.step.Act.TheVariants as act
use Rattle.amqp_words.specs.declared.step.Step.{Step}
use Rattle.amqp_words.specs.declared.trace.Entry.{Entry}

-- a step and its entry
pub record Event : Type 0 where
  pub step : Step
  pub entry : Entry

abbrev pub is_same : End → End → Bool
is_same Client Client = true
is_same Client Listener = false
is_same Listener Client = false
is_same Listener Listener = true

-- the other of the two ends
abbrev pub other : End → End
other Client = Listener
other Listener = Client

-- the bytes that an end wrote
abbrev pub wrote : End → List Event → List ℕ
wrote e [] = []
wrote e (x ∷ past) = if is_same e x.step.end then wrote e past ++ x.entry.wrote else wrote e past

-- how far a step moves the mark in the other end's bytes, of which there are `all`
abbrev pub moved : Act → ℕ → ℕ → ℕ
moved (act.Take n) done all = done + n
moved act.TakeAll done all = all
moved (act.Call call) done all = done

-- how many bytes of the other end's were moved to an end
abbrev pub taken : End → List Event → ℕ
taken e [] = 0
taken e (x ∷ past) = if is_same e x.step.end then moved x.step.act (taken e past) (length (wrote (other e) past)) else taken e past

-- the bytes that were moved to an end
abbrev pub read : End → List Event → List ℕ
read e past = take (taken e past) (wrote (other e) past)

abbrev pub called : Act → ℕ → List (ℕ × Call) → List (ℕ × Call)
called (act.Take n) name calls = calls
called act.TakeAll name calls = calls
called (act.Call call) name calls = (name, call) ∷ calls

-- the calls at an end with their names, the newest first; a call's name is the position of its step
abbrev pub calls : End → List Event → List (ℕ × Call)
calls e [] = []
calls e (x ∷ past) = if is_same e x.step.end then called x.step.act (length past) (calls e past) else calls e past

-- what an act begins at its end, at a moment: a call of this name, else a poll
abbrev pub begun : ℕ → ℕ → Act → Local
begun at name (act.Take n) = Polled at
begun at name act.TakeAll = Polled at
begun at name (act.Call call) = Made at name call

-- all replies at an end, in order
abbrev pub replied : End → List Event → List NamedReply
replied e [] = []
replied e (x ∷ past) = if is_same e x.step.end then replied e past ++ x.entry.replies else replied e past

-- the moment of the last step
abbrev pub last_moment : List Event → ℕ
last_moment [] = 0
last_moment (x ∷ past) = x.step.at
