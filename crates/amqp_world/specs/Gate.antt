-- What both ends may have written.
use Rattle.std.specs.Prelude.{List}
use Rattle.amqp_peer.specs.Gated.{IsGated}
use Rattle.amqp_words.specs.declared.step.End.{End}
use Rattle.amqp_world.specs.History.{Event, wrote, read, calls}

-- each end wrote only what its calls and what was moved to it allow
abbrev pub Gate : List Event → Type 0
Gate past = (e : End) → IsGated (calls e past) (wrote e past) (read e past)
