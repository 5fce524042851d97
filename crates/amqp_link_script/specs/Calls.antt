-- The calls for links that a word and its arguments say. A message stands in them as its argument is written.
use Rattle.std.specs.Prelude.{List, ℕ, [], ◌∷◌, ◌-◌, ◌^◌, true, if◌then◌else◌, Option, Some, None}
use Rattle.amqp_fields.specs.Fields.{◌>>=◌}
use Rattle.amqp_link_words.specs.declared.link_call.Sendable.{Sendable}
use Rattle.amqp_link_words.specs.declared.link_call.LinkCall.{LinkCall}
use Rattle.amqp_link_words.specs.declared.link_call.Disposal.TheVariants as disposal
use Rattle.amqp_link_words.specs.declared.link_call.LinkCall.TheVariants as link
use Rattle.amqp_link_words.specs.declared.regulation.Regulation.TheVariants as regulation
use Rattle.amqp_script.specs.Number.{number_in}
use Rattle.amqp_link_script.specs.declared.keys.LinkKey.TheVariants.{Settled, Batchable, Timeout}
use Rattle.amqp_link_script.specs.declared.words.LinkWord.{LinkWord}
use Rattle.amqp_link_script.specs.declared.words.LinkWord.TheVariants as word
use Rattle.amqp_link_script.specs.Keys.{has_only, flag_in, optional_choice_in, timeout_in}
use Rattle.amqp_link_script.specs.Names.{name_in, one_name_in}
use Rattle.amqp_link_script.specs.Partings.{on_detach_call_in, detach_call_in, close_call_in, abandon_call_in}
use Rattle.amqp_link_script.specs.Settings.{sender_in, receiver_in, accept_in}
use Rattle.amqp_link_script.specs.Disposals.{state_in, names_in}
use Rattle.amqp_link_script.specs.Regulating.{credit_mode_call_in, auto_call_in, regulating_call_in, disposer_call_in, dispose_by_call_in}

unfoldable pub sender_call_in : List (List ℕ) → Option LinkCall
sender_call_in [] = None
sender_call_in (session ∷ arguments) = do
  session ← name_in session
  settings ← sender_in arguments
  Some (link.Sender session settings)

unfoldable pub receiver_call_in : List (List ℕ) → Option LinkCall
receiver_call_in [] = None
receiver_call_in (session ∷ arguments) = do
  session ← name_in session
  settings ← receiver_in arguments
  Some (link.Receiver session settings)

unfoldable pub accept_call_in : List (List ℕ) → Option LinkCall
accept_call_in [] = None
accept_call_in (session ∷ arguments) = do
  session ← name_in session
  accept ← accept_in arguments
  Some (link.Accept session accept.0 accept.1 accept.2)

unfoldable pub written_of : List ℕ → List (List ℕ) → Option Sendable
written_of message arguments = do
  settled ← optional_choice_in Settled arguments
  batchable ← flag_in Batchable arguments
  Some (record { payload = message; has_body = true; settled = settled; batchable = batchable })

-- a message as it is written, and how it is sent
abbrev pub written_in : List ℕ → List (List ℕ) → Option Sendable
written_in message arguments = if has_only (Settled ∷ Batchable ∷ Timeout ∷ []) arguments then written_of message arguments else None

-- the call that sends a message, with a time or without
abbrev pub sending_of : ℕ → Sendable → Option ℕ → LinkCall
sending_of sender message None = link.Send sender message
sending_of sender message (Some timeout) = link.SendTimed sender message timeout

unfoldable pub send_call_in : List (List ℕ) → Option LinkCall
send_call_in [] = None
send_call_in (sender ∷ []) = None
send_call_in (sender ∷ message ∷ arguments) = do
  sender ← name_in sender
  message ← written_in message arguments
  timeout ← timeout_in arguments
  Some (sending_of sender message timeout)

unfoldable pub outcome_call_in : List (List ℕ) → Option LinkCall
outcome_call_in arguments = do
  send ← one_name_in arguments
  Some (link.Outcome send)

unfoldable pub recv_call_in : List (List ℕ) → Option LinkCall
recv_call_in arguments = do
  receiver ← one_name_in arguments
  Some (link.Recv receiver)

unfoldable pub credit_call_in : List (List ℕ) → Option LinkCall
credit_call_in arguments = do
  receiver ← one_name_in arguments
  Some (link.Credit receiver)

unfoldable pub dispose_of : List ℕ → List ℕ → List ℕ → Option LinkCall
dispose_of receiver state deliveries = do
  receiver ← name_in receiver
  disposal ← state_in state
  names ← names_in deliveries
  Some (link.Dispose receiver disposal names)

abbrev pub dispose_call_in : List (List ℕ) → Option LinkCall
dispose_call_in [] = None
dispose_call_in (receiver ∷ []) = None
dispose_call_in (receiver ∷ state ∷ []) = None
dispose_call_in (receiver ∷ state ∷ deliveries ∷ []) = dispose_of receiver state deliveries
dispose_call_in (receiver ∷ state ∷ deliveries ∷ more ∷ others) = None

unfoldable pub set_credit_of : List ℕ → List ℕ → Option LinkCall
set_credit_of receiver credit = do
  receiver ← name_in receiver
  credit ← number_in (2 ^ 32 - 1) credit
  Some (link.SetCredit receiver credit)

abbrev pub set_credit_call_in : List (List ℕ) → Option LinkCall
set_credit_call_in [] = None
set_credit_call_in (receiver ∷ []) = None
set_credit_call_in (receiver ∷ credit ∷ []) = set_credit_of receiver credit
set_credit_call_in (receiver ∷ credit ∷ more ∷ others) = None

-- what a word of links and its arguments say
abbrev pub call_in : LinkWord → List (List ℕ) → Option LinkCall
call_in word.Sender arguments = sender_call_in arguments
call_in word.Receiver arguments = receiver_call_in arguments
call_in word.AcceptLink arguments = accept_call_in arguments
call_in word.Send arguments = send_call_in arguments
call_in word.Outcome arguments = outcome_call_in arguments
call_in word.Recv arguments = recv_call_in arguments
call_in word.Dispose arguments = dispose_call_in arguments
call_in word.SetCredit arguments = set_credit_call_in arguments
call_in word.Credit arguments = credit_call_in arguments
call_in word.CreditMode arguments = credit_mode_call_in arguments
call_in word.Auto arguments = auto_call_in arguments
call_in word.Drain arguments = regulating_call_in regulation.Drain arguments
call_in word.SendProperties arguments = regulating_call_in regulation.Properties arguments
call_in word.Disposer arguments = disposer_call_in arguments
call_in word.DisposerAccept arguments = dispose_by_call_in disposal.Accepted arguments
call_in word.DisposerRelease arguments = dispose_by_call_in disposal.Released arguments
call_in word.OnDetach arguments = on_detach_call_in arguments
call_in word.Detach arguments = detach_call_in arguments
call_in word.CloseLink arguments = close_call_in arguments
call_in word.Abandon arguments = abandon_call_in arguments
