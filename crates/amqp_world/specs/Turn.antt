-- What one step does.
use Rattle.std.specs.Prelude.{◌≡◌, ◌+◌, ◌≤◌, ℕ, [], ◌∷◌, ◌++◌, Some, length, take, drop, false, ⊤}
use Rattle.amqp_wire.specs.declared.link.Link.{Ghosts}
use Rattle.amqp_wire.specs.Piped.{Piped}
use Rattle.amqp_peer.specs.Peering.{Peering, fresh, link_of, with_link_of, MayCall}
use Rattle.amqp_peer.specs.Runs.{Stepped}
use Rattle.amqp_words.specs.declared.step.End.{End}
use Rattle.amqp_words.specs.declared.step.End.TheVariants.{Client, Listener}
use Rattle.amqp_words.specs.declared.step.Act.{Act}
use Rattle.amqp_words.specs.declared.step.Act.TheVariants.{Take, TakeAll, Call}
use Rattle.amqp_words.specs.declared.step.Step.{Step}
use Rattle.amqp_words.specs.declared.trace.Entry.{Entry}
use Rattle.amqp_world.specs.History.{moved, begun}
use Rattle.amqp_world.specs.Valid.{kind_of}
use Rattle.amqp_world.specs.WorldView.{WorldView}

-- what a pipe tells as a link: all its bytes; it never fills, ends or fails
abbrev pub piping : Ghosts Piped
piping = record {
  input = λ p. Some p.input;
  ready = λ p. Some p.input;
  output = λ p. Some p.output;
  mark = λ p. p.mark;
  can_fill = λ p. ⊥;
  can_end = λ p. ⊥;
  faults = λ p. 0;
}

-- a pipe through which nothing passed
abbrev pub empty_pipe : Piped
empty_pipe = record { input = []; output = []; mark = 0 }

-- the pipe of an end
abbrev pub pipe_of : Peering Piped → Piped
pipe_of p = link_of empty_pipe p

-- an act's call may be made
abbrev pub MayAct : Peering Piped → ℕ → Act → Type 0
MayAct near name (Take n) = ⊤
MayAct near name TakeAll = ⊤
MayAct near name (Call call) = MayCall near name call

-- an act may be made at the end `near`, whose other is `far`
abbrev pub CanAct : Peering Piped → Peering Piped → ℕ → Act → Type 0
CanAct near far name (Take n) = (pipe_of far).mark + n ≤ length (pipe_of far).output
CanAct near far name TakeAll = ⊤
CanAct near far name (Call call) = MayCall near name call

-- a pipe to whose input so many bytes were added, the first that were not taken of the far pipe's output
abbrev pub fed : Piped → Piped → ℕ → Piped
fed near far count = record near { input = near.input ++ take count (drop far.mark far.output) }

-- a pipe from whose output so many bytes more were taken
abbrev pub drained : Piped → ℕ → Piped
drained far count = record far { mark = far.mark + count }

-- an end after bytes of the far pipe came to its input
abbrev pub given : Peering Piped → Piped → ℕ → Peering Piped
given near far count = with_link_of near (fed (pipe_of near) far count)

-- an end after bytes of its output were taken
abbrev pub marked : Peering Piped → ℕ → Peering Piped
marked far count = with_link_of far (drained (pipe_of far) count)

-- One step of the end `near`, whose other is `far`: the bytes by which the far mark moves came to its input, it made one call
-- or one poll, and its replies were taken out. The entry has these and what it wrote. The far end is as before but for its mark.
pub record Turned (near far : Peering Piped) (name at : ℕ) (act : Act) (near' far' : Peering Piped) (entry : Entry) : Type 0 where
  pub count : ℕ
  pub counted : (pipe_of far).mark + count ≡ moved act (pipe_of far).mark (length (pipe_of far).output)
  pub far_end : far' ≡ marked far count
  pub ran : Peering Piped
  pub stepped : Stepped piping (given near (pipe_of far) count) (begun at name act) ran
  pub replies : entry.replies ≡ ran.replies
  pub output : (pipe_of ran).output ≡ (pipe_of near).output ++ entry.wrote
  pub near_end : near' ≡ record ran { replies = [] }
  pub alive : near'.failed ≡ near.failed

-- one step of this end after a view of the world
abbrev pub IsTurnAt : End → WorldView → Step → WorldView → Entry → Type 0
IsTurnAt Client old step new entry = Turned old.client old.listener (length old.steps) step.at step.act new.client new.listener entry
IsTurnAt Listener old step new entry = Turned old.listener old.client (length old.steps) step.at step.act new.listener new.client entry

-- The step's end made one step, the other end is as before but for its mark, and one entry follows those before.
pub record IsTurn (old : WorldView) (step : Step) (new : WorldView) : Type 0 where
  pub entry : Entry
  pub entries : new.entries ≡ old.entries ++ entry ∷ []
  pub turned : IsTurnAt step.end old step new entry

-- no step was made, and nothing happened at the ends
abbrev pub start : WorldView
start = record { steps = []; entries = []; client = fresh empty_pipe (kind_of Client); listener = fresh empty_pipe (kind_of Listener); failed = false }
