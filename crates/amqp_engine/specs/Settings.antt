-- What an engine keeps of both ends' Opens (OASIS AMQP 1.0, part 2, section 2.7.1).
use Rattle.std.specs.Prelude.{Bool, true, false, max, min}
use Rattle.amqp_transport.specs.amqp_performatives.declared.open.Open.{Open}
use Rattle.amqp_engine.specs.declared.connection.Settings.{Settings}
use Rattle.amqp_engine.specs.declared.connection.EndKind.{EndKind}
use Rattle.amqp_engine.specs.declared.connection.EndKind.TheVariants.{Client, Listener}

-- before the peer's Open was read
abbrev pub settings_of : Bool → Open → Settings
settings_of is_listener open_sent = record { is_listener = is_listener; largest_read = max open_sent.max_frame_size 512; largest_written = 512; channel_max = open_sent.channel_max }

-- what the end says of itself
abbrev pub open_of : EndKind → Open
open_of (Client end) = end.local_open
open_of (Listener end) = end.local_open

-- its peer may begin sessions
abbrev pub takes_sessions : EndKind → Bool
takes_sessions (Client end) = false
takes_sessions (Listener end) = true

abbrev pub settings_of_end : EndKind → Settings
settings_of_end end = settings_of (takes_sessions end) (open_of end)

-- after it was read
abbrev pub agreed : Settings → Open → Settings
agreed s open_read = record s { largest_written = max open_read.max_frame_size 512; channel_max = min s.channel_max open_read.channel_max }
