-- The calls by which a receiver goes on otherwise, and those of its disposers.
use Rattle.std.specs.Prelude.{List, ℕ, [], ◌∷◌, Option, Some, None}
use Rattle.amqp_fields.specs.Fields.{◌>>=◌}
use Rattle.amqp_link_words.specs.declared.link_call.Disposal.{Disposal}
use Rattle.amqp_link_words.specs.declared.link_call.LinkCall.{LinkCall}
use Rattle.amqp_link_words.specs.declared.link_call.LinkCall.TheVariants as link
use Rattle.amqp_link_words.specs.declared.regulation.Regulation.{Regulation}
use Rattle.amqp_link_words.specs.declared.regulation.Regulation.TheVariants.{CreditMode, AutoAccept}
use Rattle.amqp_link_script.specs.Keys.{choice_in}
use Rattle.amqp_link_script.specs.Names.{name_in, one_name_in}
use Rattle.amqp_link_script.specs.Settings.{credit_mode_of}

unfoldable pub credit_mode_call_of : List ℕ → List ℕ → Option LinkCall
credit_mode_call_of receiver mode = do
  receiver ← name_in receiver
  mode ← credit_mode_of mode
  Some (link.Regulate receiver (CreditMode mode))

abbrev pub credit_mode_call_in : List (List ℕ) → Option LinkCall
credit_mode_call_in [] = None
credit_mode_call_in (receiver ∷ []) = None
credit_mode_call_in (receiver ∷ mode ∷ []) = credit_mode_call_of receiver mode
credit_mode_call_in (receiver ∷ mode ∷ more ∷ others) = None

unfoldable pub auto_call_of : List ℕ → List ℕ → Option LinkCall
auto_call_of receiver choice = do
  receiver ← name_in receiver
  value ← choice_in choice
  Some (link.Regulate receiver (AutoAccept value))

abbrev pub auto_call_in : List (List ℕ) → Option LinkCall
auto_call_in [] = None
auto_call_in (receiver ∷ []) = None
auto_call_in (receiver ∷ choice ∷ []) = auto_call_of receiver choice
auto_call_in (receiver ∷ choice ∷ more ∷ others) = None

unfoldable pub regulating_call_in : Regulation → List (List ℕ) → Option LinkCall
regulating_call_in regulation arguments = do
  receiver ← one_name_in arguments
  Some (link.Regulate receiver regulation)

unfoldable pub disposer_call_in : List (List ℕ) → Option LinkCall
disposer_call_in arguments = do
  receiver ← one_name_in arguments
  Some (link.Disposer receiver)

unfoldable pub dispose_by_of : Disposal → List ℕ → List ℕ → Option LinkCall
dispose_by_of disposal disposer delivery = do
  disposer ← name_in disposer
  delivery ← name_in delivery
  Some (link.DisposeBy disposer disposal delivery)

abbrev pub dispose_by_call_in : Disposal → List (List ℕ) → Option LinkCall
dispose_by_call_in disposal [] = None
dispose_by_call_in disposal (disposer ∷ []) = None
dispose_by_call_in disposal (disposer ∷ delivery ∷ []) = dispose_by_of disposal disposer delivery
dispose_by_call_in disposal (disposer ∷ delivery ∷ more ∷ others) = None
