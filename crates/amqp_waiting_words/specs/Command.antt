-- What the words of a command line ask for (README, "listen and connect" and "send and receive").
use Rattle.std.specs.Prelude.{ℕ, Bool, true, false, ◌||◌, if◌then◌else◌, List, [], ◌∷◌, Option, Some, None, codes, bytes_eq}
use Rattle.amqp_script.specs.Number.{number_in}
use Rattle.amqp_waiting_words.specs.declared.command.Command.{Command}
use Rattle.amqp_waiting_words.specs.declared.command.Command.TheVariants as command
use Rattle.amqp_waiting_words.specs.declared.command.Mechanism.{Mechanism}
use Rattle.amqp_waiting_words.specs.declared.command.Mechanism.TheVariants.{Absent, Anonymous, Plain, ScramSha1, ScramSha256, ScramSha512}
use Rattle.amqp_waiting_words.specs.declared.command.OptionRead.{OptionRead}
use Rattle.amqp_waiting_words.specs.declared.command.OptionRead.TheVariants as read
use Rattle.amqp_waiting_words.specs.declared.command.Options.{Options}
use Rattle.amqp_waiting_words.specs.declared.command.Parted.{Parted}

-- what is asked for, as data
pub data Asked : Type 0 where
  listens : ℕ → Asked
  connects : ℕ → ℕ → Asked
  sends : List ℕ → List ℕ → List (List ℕ) → Options → Asked
  receives : List ℕ → List ℕ → ℕ → Options → Asked

abbrev pub asked : Command → Asked
asked (command.Listen port) = listens port
asked (command.Connect port count) = connects port count
asked (command.Send url address messages options) = sends url.now address.now messages.now options
asked (command.Receive url address count options) = receives url.now address.now count options

-- options, and the words behind them
pub record Front : Type 0 where
  pub options : Options
  pub rest : List (List ℕ)

abbrev pub parted : Parted → Front
parted p = record { options = p.options; rest = p.rest.now }

-- a port, and how many messages
abbrev pub port_in : List ℕ → Option ℕ
port_in word = number_in 65535 word

abbrev pub count_in : List ℕ → Option ℕ
count_in word = number_in 10000 word

-- a name of a mechanism
abbrev pub scram_in : List ℕ → Option Mechanism
scram_in word =
    if bytes_eq word (codes "scram-sha-1") then Some ScramSha1 else
    if bytes_eq word (codes "scram-sha-256") then Some ScramSha256 else
    if bytes_eq word (codes "scram-sha-512") then Some ScramSha512 else None

abbrev pub mechanism_in : List ℕ → Option Mechanism
mechanism_in word =
    if bytes_eq word (codes "none") then Some Absent else
    if bytes_eq word (codes "anonymous") then Some Anonymous else
    if bytes_eq word (codes "plain") then Some Plain else scram_in word

-- an option with its value; another word is none
abbrev pub with_sasl : Options → Option Mechanism → OptionRead
with_sasl o None = read.Bad
with_sasl o (Some m) = read.Read (record o { sasl = Some m })

abbrev pub with_timeout : Options → Option ℕ → OptionRead
with_timeout o None = read.Bad
with_timeout o (Some seconds) = read.Read (record o { timeout = Some seconds })

abbrev pub option_in : Options → List ℕ → List ℕ → OptionRead
option_in o word value =
    if bytes_eq word (codes "--sasl") then with_sasl o (mechanism_in value) else
    if bytes_eq word (codes "--timeout") then with_timeout o (number_in 1000000 value) else read.Absent

-- the options at the front of some words, with these before; the last value of an option counts
abbrev pub options_in : Options → List (List ℕ) → Option Front
options_in o [] = Some (record { options = o; rest = [] })
options_in o (word ∷ []) = Some (record { options = o; rest = word ∷ [] })
options_in o (word ∷ value ∷ rest) =
    elim (option_in o word value) [ read.Read p ↦ options_in p rest | read.Bad ↦ None | read.Absent ↦ Some (record { options = o; rest = word ∷ value ∷ rest }) ]

abbrev pub no_options : Options
no_options = record { sasl = None; timeout = None }

-- `URL ADDRESS MESSAGE..` behind the options
abbrev pub send_any : Options → List ℕ → List ℕ → List (List ℕ) → Option Asked
send_any o url address [] = None
send_any o url address (m ∷ ms) = Some (sends url address (m ∷ ms) o)

abbrev pub send_after : Options → List (List ℕ) → Option Asked
send_after o (url ∷ address ∷ messages) = send_any o url address messages
send_after o _ = None

abbrev pub send_behind : Option Front → Option Asked
send_behind None = None
send_behind (Some f) = send_after f.options f.rest

abbrev pub send_in : List (List ℕ) → Option Asked
send_in words = send_behind (options_in no_options words)

-- `URL ADDRESS COUNT` behind the options
abbrev pub receive_counted : Options → List ℕ → List ℕ → Option ℕ → Option Asked
receive_counted o url address None = None
receive_counted o url address (Some count) = Some (receives url address count o)

abbrev pub receive_after : Options → List (List ℕ) → Option Asked
receive_after o (url ∷ address ∷ number ∷ []) = receive_counted o url address (count_in number)
receive_after o _ = None

abbrev pub receive_behind : Option Front → Option Asked
receive_behind None = None
receive_behind (Some f) = receive_after f.options f.rest

abbrev pub receive_in : List (List ℕ) → Option Asked
receive_in words = receive_behind (options_in no_options words)

-- `PORT`
abbrev pub listen_at : Option ℕ → Option Asked
listen_at None = None
listen_at (Some port) = Some (listens port)

abbrev pub listen_in : List (List ℕ) → Option Asked
listen_in (at ∷ []) = listen_at (port_in at)
listen_in _ = None

-- `PORT COUNT`
abbrev pub connect_at : Option ℕ → Option ℕ → Option Asked
connect_at (Some port) (Some count) = Some (connects port count)
connect_at _ _ = None

abbrev pub connect_in : List (List ℕ) → Option Asked
connect_in (at ∷ number ∷ []) = connect_at (port_in at) (count_in number)
connect_in _ = None

-- what the words ask for, where they are one of these commands
abbrev pub command_in : List (List ℕ) → Option Asked
command_in [] = None
command_in (word ∷ rest) =
    if bytes_eq word (codes "listen") then listen_in rest else
    if bytes_eq word (codes "connect") then connect_in rest else
    if bytes_eq word (codes "send") then send_in rest else
    if bytes_eq word (codes "receive") then receive_in rest else None

-- whether the first word is that of such a command
abbrev pub is_waiting : List (List ℕ) → Bool
is_waiting [] = false
is_waiting (word ∷ rest) = (bytes_eq word (codes "listen") || bytes_eq word (codes "connect")) || bytes_eq word (codes "send") || bytes_eq word (codes "receive")
