-- What a line says of an end as its connection begins (OASIS AMQP 1.0, part 2, section 2.7.1).
use Rattle.std.specs.Prelude.{List, ℕ, ◌-◌, ◌^◌, Option, Some, None}
use Rattle.amqp_words.specs.declared.call.ConnectionSettings.{ConnectionSettings}
use Rattle.amqp_script.specs.declared.script.keys.Key.TheVariants.{Id, Host, Max, Channels, Idle}
use Rattle.amqp_script.specs.Number.{number_in}
use Rattle.amqp_script.specs.Fields.{text_in, field_in, optional_in, default_in}

-- the largest frame in bytes, below 2^32
abbrev pub max_in : List (List ℕ) → Option ℕ
max_in arguments = default_in 262144 (number_in (2 ^ 32 - 1)) Max arguments

-- the highest number of a channel, below 2^16
abbrev pub channels_in : List (List ℕ) → Option ℕ
channels_in arguments = default_in 255 (number_in (2 ^ 16 - 1)) Channels arguments

-- the idle time in milliseconds, below 2^32
abbrev pub idle_in : List (List ℕ) → Option (Option ℕ)
idle_in arguments = optional_in (number_in (2 ^ 32 - 1)) Idle arguments

abbrev pub settings_of : Option (List ℕ) → Option (Option (List ℕ)) → Option ℕ → Option ℕ → Option (Option ℕ) → Option ConnectionSettings
settings_of None _ _ _ _ = None
settings_of (Some id) None _ _ _ = None
settings_of (Some id) (Some host) None _ _ = None
settings_of (Some id) (Some host) (Some max) None _ = None
settings_of (Some id) (Some host) (Some max) (Some channels) None = None
settings_of (Some id) (Some host) (Some max) (Some channels) (Some idle) =
    Some (record { container_id = id; hostname = host; max_frame_size = max; channel_max = channels; idle_time_out = idle })

-- what the arguments say of an end: its id has to be there
abbrev pub settings_in : List (List ℕ) → Option ConnectionSettings
settings_in arguments =
    settings_of (field_in text_in Id arguments) (optional_in text_in Host arguments) (max_in arguments) (channels_in arguments) (idle_in arguments)
