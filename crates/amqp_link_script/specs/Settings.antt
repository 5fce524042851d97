-- What a line says of an end of a link (OASIS AMQP 1.0, part 2, section 2.7.3).
use Rattle.std.specs.Prelude.{List, ℕ, Bool, [], ◌∷◌, ◌-◌, ◌^◌, true, if◌then◌else◌, Option, Some, None, option_map, option_and_then, codes, bytes_eq}
use Rattle.amqp_composites.specs.declared.modes.SenderSettleMode.{SenderSettleMode}
use Rattle.amqp_composites.specs.declared.modes.SenderSettleMode.TheVariants as snd
use Rattle.amqp_composites.specs.declared.modes.ReceiverSettleMode.{ReceiverSettleMode}
use Rattle.amqp_composites.specs.declared.modes.ReceiverSettleMode.TheVariants as rcv
use Rattle.amqp_fields.specs.Fields.{◌>>=◌}
use Rattle.amqp_delivery.specs.declared.info.CreditMode.{CreditMode}
use Rattle.amqp_delivery.specs.declared.info.CreditMode.TheVariants.{Manual, Auto}
use Rattle.amqp_link.specs.declared.settings.AcceptSettings.{AcceptSettings}
use Rattle.amqp_sender.specs.declared.settings.SenderSettings.{SenderSettings}
use Rattle.amqp_receiver.specs.declared.settings.ReceiverSettings.{ReceiverSettings}
use Rattle.amqp_script.specs.Number.{number_in}
use Rattle.amqp_script.specs.Fields.{text_in, or_else}
use Rattle.amqp_link_script.specs.declared.keys.LinkKey.TheVariants.{Name, Source, Target, Snd, Rcv, Max, Count, Dynamic, Credit, Dyn, Auto}
use Rattle.amqp_link_script.specs.Keys.{has_only, value_of, optional_text_in, flag_in, count_in, max_in}

abbrev pub sender_mode_of : List ℕ → Option SenderSettleMode
sender_mode_of word =
    if bytes_eq word (codes "unsettled") then Some snd.Unsettled else
    if bytes_eq word (codes "settled") then Some snd.Settled else
    if bytes_eq word (codes "mixed") then Some snd.Mixed else None

-- when the sender settles: as each message says where no key says it
abbrev pub sender_mode_in : List (List ℕ) → Option SenderSettleMode
sender_mode_in arguments = or_else snd.Mixed sender_mode_of (value_of Snd arguments)

abbrev pub receiver_mode_of : List ℕ → Option ReceiverSettleMode
receiver_mode_of word =
    if bytes_eq word (codes "first") then Some rcv.First else
    if bytes_eq word (codes "second") then Some rcv.Second else None

-- when the receiver settles: first where no key says it
abbrev pub receiver_mode_in : List (List ℕ) → Option ReceiverSettleMode
receiver_mode_in arguments = or_else rcv.First receiver_mode_of (value_of Rcv arguments)

abbrev pub credit_mode_of : List ℕ → Option CreditMode
credit_mode_of word = if bytes_eq word (codes "manual") then Some Manual else option_map Auto (number_in (2 ^ 32 - 1) word)

-- when a receiver gives credit: 200 again and again where no key says it
abbrev pub credit_mode_in : List (List ℕ) → Option CreditMode
credit_mode_in arguments = or_else (Auto 200) credit_mode_of (value_of Credit arguments)

-- the name of a link, which has to be there
abbrev pub link_name_in : List (List ℕ) → Option (List ℕ)
link_name_in arguments = option_and_then text_in (value_of Name arguments)

unfoldable pub sender_of : List (List ℕ) → Option SenderSettings
sender_of arguments = do
  name ← link_name_in arguments
  source ← optional_text_in Source arguments
  target ← optional_text_in Target arguments
  dynamic ← flag_in Dynamic arguments
  snd_settle_mode ← sender_mode_in arguments
  rcv_settle_mode ← receiver_mode_in arguments
  max_message_size ← max_in arguments
  initial_delivery_count ← count_in arguments
  Some (record {
    name = name;
    source = source;
    target = target;
    dynamic = dynamic;
    snd_settle_mode = snd_settle_mode;
    rcv_settle_mode = rcv_settle_mode;
    max_message_size = max_message_size;
    initial_delivery_count = initial_delivery_count;
    verify = true;
  })

-- what the arguments say of a sender
abbrev pub sender_in : List (List ℕ) → Option SenderSettings
sender_in arguments =
    if has_only (Name ∷ Source ∷ Target ∷ Snd ∷ Rcv ∷ Max ∷ Count ∷ Dynamic ∷ []) arguments then sender_of arguments else None

unfoldable pub receiver_of : List (List ℕ) → Option ReceiverSettings
receiver_of arguments = do
  name ← link_name_in arguments
  source ← optional_text_in Source arguments
  target ← optional_text_in Target arguments
  dynamic ← flag_in Dynamic arguments
  snd_settle_mode ← sender_mode_in arguments
  rcv_settle_mode ← receiver_mode_in arguments
  max_message_size ← max_in arguments
  credit_mode ← credit_mode_in arguments
  auto_accept ← flag_in Auto arguments
  Some (record {
    name = name;
    source = source;
    target = target;
    dynamic = dynamic;
    snd_settle_mode = snd_settle_mode;
    rcv_settle_mode = rcv_settle_mode;
    max_message_size = max_message_size;
    credit_mode = credit_mode;
    auto_accept = auto_accept;
    verify = true;
  })

-- what the arguments say of a receiver
abbrev pub receiver_in : List (List ℕ) → Option ReceiverSettings
receiver_in arguments =
    if has_only (Name ∷ Source ∷ Target ∷ Snd ∷ Rcv ∷ Max ∷ Credit ∷ Auto ∷ Dynamic ∷ []) arguments then receiver_of arguments else None

unfoldable pub accept_of : List (List ℕ) → Option (AcceptSettings × CreditMode × Bool)
accept_of arguments = do
  max_message_size ← max_in arguments
  initial_delivery_count ← count_in arguments
  dynamic_address ← optional_text_in Dyn arguments
  credit_mode ← credit_mode_in arguments
  auto_accept ← flag_in Auto arguments
  Some (
    record {
      max_message_size = max_message_size;
      initial_delivery_count = initial_delivery_count;
      dynamic_address = dynamic_address;
    },
    credit_mode,
    auto_accept,
  )

-- what the arguments say of a link that is accepted; as a receiver when it gives credit, and whether it accepts by itself
abbrev pub accept_in : List (List ℕ) → Option (AcceptSettings × CreditMode × Bool)
accept_in arguments = if has_only (Max ∷ Credit ∷ Auto ∷ Count ∷ Dyn ∷ []) arguments then accept_of arguments else None
