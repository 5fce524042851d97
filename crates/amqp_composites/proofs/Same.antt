-- Equality of plain data tells which are the same.
use Rattle.std.proofs.Common.{◌≡◌, Bool, true, Option, Some, None, refl, ap, subst}
use Rattle.std.specs.Bool.{Decides}
use Rattle.std.specs.Cmp.{IsEquivalence}
use Rattle.std.specs.Option.{option_eq}
use Rattle.std.proofs.lemmas.Slice.Eq.{bytes_eq-Decides}
use Rattle.amqp_fields.specs.amqp_data.SameLaws.{same_pairs_decides}
use Rattle.amqp_composites.specs.declared.error.Error.{Error}
use Rattle.amqp_composites.specs.declared.modes.Role.{Role}
use Rattle.amqp_composites.specs.declared.modes.Role.TheVariants as role
use Rattle.amqp_composites.specs.declared.modes.SenderSettleMode.{SenderSettleMode}
use Rattle.amqp_composites.specs.declared.modes.SenderSettleMode.TheVariants as sends
use Rattle.amqp_composites.specs.declared.modes.ReceiverSettleMode.{ReceiverSettleMode}
use Rattle.amqp_composites.specs.declared.modes.ReceiverSettleMode.TheVariants as receives
use Rattle.amqp_composites.specs.contracts.error.ErrorPartialEq.TheImpl as errors
use Rattle.amqp_composites.specs.contracts.error.ErrorEq.TheImpl.Laws as error_laws
use Rattle.amqp_composites.specs.contracts.modes.RolePartialEq.TheImpl as roles
use Rattle.amqp_composites.specs.contracts.modes.RoleEq.TheImpl.Laws as role_laws
use Rattle.amqp_composites.specs.contracts.modes.SenderSettleModePartialEq.TheImpl as sender_modes
use Rattle.amqp_composites.specs.contracts.modes.SenderSettleModeEq.TheImpl.Laws as sender_mode_laws
use Rattle.amqp_composites.specs.contracts.modes.ReceiverSettleModePartialEq.TheImpl as receiver_modes
use Rattle.amqp_composites.specs.contracts.modes.ReceiverSettleModeEq.TheImpl.Laws as receiver_mode_laws
pub use Rattle.std.specs.Cmp.{first_so, second_so}

-- a test by which none but the same are equal decides which are the same
pub decides_by : {A : Type 0} {E : A → A → Bool} → IsEquivalence E → ((x y : A) → E x y ≡ true → x ≡ y) → (x y : A) → Decides (E x y) (x ≡ y)
decides_by {A} {E} laws same x y = (same x y, λ e. subst (λ z. E x z ≡ true) e (laws.refl x))

module _ {A : Type 0} {E : A → A → Bool} (decides : (x y : A) → Decides (E x y) (x ≡ y)) where
  pub same_options : (x y : Option A) → option_eq E x y ≡ true → x ≡ y
  same_options None None e = refl
  same_options None (Some y) e = absurd cc
  same_options (Some x) None e = absurd cc
  same_options (Some x) (Some y) e = ap Some ((decides x y).0 e)

  same_option : (x : Option A) → option_eq E x x ≡ true
  same_option None = refl
  same_option (Some x) = (decides x x).1 refl

  pub options_decide : (x y : Option A) → Decides (option_eq E x y) (x ≡ y)
  options_decide x y = (same_options x y, λ e. subst (λ z. option_eq E x z ≡ true) e (same_option x))

-- ---- roles and modes

role_same : (x y : Role) → roles.ghosts.eq x y ≡ true → x ≡ y
role_same role.Sender role.Sender e = refl
role_same role.Receiver role.Receiver e = refl
role_same x y e = absurd cc

pub role_decides : (x y : Role) → Decides (roles.ghosts.eq x y) (x ≡ y)
role_decides = decides_by role_laws.laws-law role_same

sender_mode_same : (x y : SenderSettleMode) → sender_modes.ghosts.eq x y ≡ true → x ≡ y
sender_mode_same sends.Unsettled sends.Unsettled e = refl
sender_mode_same sends.Settled sends.Settled e = refl
sender_mode_same sends.Mixed sends.Mixed e = refl
sender_mode_same x y e = absurd cc

pub sender_mode_decides : (x y : SenderSettleMode) → Decides (sender_modes.ghosts.eq x y) (x ≡ y)
sender_mode_decides = decides_by sender_mode_laws.laws-law sender_mode_same

receiver_mode_same : (x y : ReceiverSettleMode) → receiver_modes.ghosts.eq x y ≡ true → x ≡ y
receiver_mode_same receives.First receives.First e = refl
receiver_mode_same receives.Second receives.Second e = refl
receiver_mode_same x y e = absurd cc

pub receiver_mode_decides : (x y : ReceiverSettleMode) → Decides (receiver_modes.ghosts.eq x y) (x ≡ y)
receiver_mode_decides = decides_by receiver_mode_laws.laws-law receiver_mode_same

-- ---- errors

error_same : (x y : Error) → errors.ghosts.eq x y ≡ true → x ≡ y
error_same x y e0 =
    let e1 = second_so _ _ e0 in
    let condition = (bytes_eq-Decides x.condition y.condition).0 (first_so _ _ e0) in
    let description = same_options bytes_eq-Decides x.description y.description (first_so _ _ e1) in
    let info = same_options same_pairs_decides x.info y.info (second_so _ _ e1) in
    λ i. record { condition = condition i; description = description i; info = info i }

pub error_decides : (x y : Error) → Decides (errors.ghosts.eq x y) (x ≡ y)
error_decides = decides_by error_laws.laws-law error_same
