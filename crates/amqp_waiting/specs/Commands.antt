-- What the commands that wait for a peer have done.
use Rattle.std.specs.Prelude.{◌≡◌, ℕ, List, Option}
use Rattle.amqp_served.specs.Count.{WritesCount}
use Rattle.amqp_waiting_words.specs.Command.{Asked, listens, connects, sends, receives}
use Rattle.amqp_clients.specs.Delivered.{WritesLines}

-- what a command has written that did all
abbrev pub HasWritten : Asked → Option (List ℕ) → Option (List ℕ) → Type 0
HasWritten (listens port) w v = WritesCount w v
HasWritten (connects port count) w v = v ≡ w
HasWritten (sends url address messages options) w v = v ≡ w
HasWritten (receives url address count options) w v = WritesLines count w v

-- a command that writes nothing
abbrev pub IsQuiet : Asked → Type 0
IsQuiet (listens port) = ⊥
IsQuiet (connects port count) = Unit {0}
IsQuiet (sends url address messages options) = Unit {0}
IsQuiet (receives url address count options) = ⊥

-- a command that names its peer by a URL
abbrev pub HasUrl : Asked → Type 0
HasUrl (listens port) = ⊥
HasUrl (connects port count) = ⊥
HasUrl (sends url address messages options) = Unit {0}
HasUrl (receives url address count options) = Unit {0}
