-- Looking up a key of a map and changing its value (OASIS AMQP 1.0, part 1, section 1.6.23).
use Rattle.std.specs.Prelude.{Option, Some, None, if◌then◌else◌}
use Rattle.amqp_data.specs.Data.{Amqp, Pairs, no_pairs, pair}
use Rattle.amqp_data.specs.Same.{same}

-- the value at the key, if the key is there
unfoldable pub lookup : Amqp → Pairs → Option Amqp
lookup k no_pairs = None
lookup k (pair l w ps) = if same l k then Some w else lookup k ps

-- the value at the key: in the key's place if the key is there, else at the end
unfoldable pub inserted : Amqp → Amqp → Pairs → Pairs
inserted k v no_pairs = pair k v no_pairs
inserted k v (pair l w ps) = if same l k then pair l v ps else pair l w (inserted k v ps)
