-- Both ends against the past.
use Rattle.std.specs.Prelude.{◌≡◌, ◌≤◌, List, [], ◌++◌, length, Bool, false}
use Rattle.amqp_wire.specs.Piped.{Piped}
use Rattle.amqp_peer.specs.Frames.{sessions_of}
use Rattle.amqp_peer.specs.History.{Local, made_in, link_in, sent_in, replied_in, read_in, wrote_in}
use Rattle.amqp_peer.specs.Held.{IsExchanged}
use Rattle.amqp_peer.specs.Peering.{Peering, Has}
use Rattle.amqp_words.specs.declared.step.End.{End}
use Rattle.amqp_words.specs.declared.step.End.TheVariants.{Client, Listener}
use Rattle.amqp_world.specs.declared.both.Both.{Both}
use Rattle.amqp_world.specs.History.{Event, wrote, taken, read, calls, replied, last_moment}
use Rattle.amqp_world.specs.Valid.{kind_of}
use Rattle.amqp_engine.specs.Heard.{AllUnclosed}
use Rattle.amqp_ends.specs.Joined.{IsCalm}
use Rattle.amqp_ends.specs.Passes.{FacedWhenTold}
use Rattle.amqp_ends.specs.Quiet.{BeginsIn}
use Rattle.amqp_ends.specs.Standing.{Stands}
use Rattle.amqp_world.specs.Causes.{Follows, NobodyCloses}
use Rattle.amqp_world.specs.Explains.{past_of, Explained}
use Rattle.amqp_world.specs.WorldView.{WorldView}
use Rattle.amqp_world.specs.Turn.{pipe_of}

-- The end e, whose other is f, is where the past leaves it. It has a history that follows the past, with its calls and replies; what it
-- read and what its link still holds is what was moved to it, and what it wrote is its link's output. It queued no frame of a session.
pub record Side (e f : End) (p : Peering Piped) (past : List Event) : Type 0 where
  pub h : List Local
  pub has : Has p h
  pub made : made_in h ≡ calls e past
  pub follows : Follows e past h
  pub got : read_in h ++ (pipe_of p).input ≡ read e past
  pub sent : wrote_in h ≡ wrote e past
  pub answered : replied_in h ≡ replied e past
  pub calm : IsCalm (link_in h)
  pub unsaid : sessions_of (sent_in h) ≡ []
  pub unclosed : NobodyCloses past → AllUnclosed (sent_in h)
  pub stands : Stands h (pipe_of p).input
  pub begins : BeginsIn (kind_of e) (calls e past)
  pub output : (pipe_of p).output ≡ wrote e past
  pub mark : (pipe_of p).mark ≡ taken f past
  pub bound : (pipe_of p).mark ≤ length (pipe_of p).output
  pub empty : p.replies ≡ []
  pub begun : IsExchanged p.held → ⊥
  pub kind : p.kind ≡ kind_of e
  pub alive : p.failed ≡ false

-- Both ends are where the past leaves them. Each faced the other when it told of a negotiation that failed.
pub record Sides (p q : Peering Piped) (past : List Event) : Type 0 where
  pub client : Side Client Listener p past
  pub listener : Side Listener Client q past
  pub faced : FacedWhenTold client.h listener.h
  pub far_faced : FacedWhenTold listener.h client.h

abbrev pub past_in : Both → List Event
past_in b = past_of b.steps b.trace.entries

-- both ends are where the past leaves them, and the past is explained
pub record Related (b : Both) : Type 0 where
  pub form : length b.steps ≡ length b.trace.entries
  pub sides : Sides b.client b.listener (past_in b)
  pub explained : Explained (past_in b)
  pub moment : b.moment ≡ last_moment (past_in b)

-- what is seen of both ends and what was made
abbrev pub view_of : Both → Bool → WorldView
view_of b failed = record { steps = b.steps; entries = b.trace.entries; client = b.client; listener = b.listener; failed = failed }
