-- Roles and settle modes (OASIS AMQP 1.0, part 2, sections 2.8.1 to 2.8.3).
use Rattle.std.specs.Prelude.{◌≡◌, ℕ, Bool, true, false, nat_eq, IsTrue, Option, Some, None, refl, ◌==◌, if◌then◌else◌}
use Rattle.amqp_fields.specs.amqp_data.Data.{Amqp, scalar, boolean, ubyte}
use Rattle.amqp_fields.specs.Again.{IsField, Each}
use Rattle.amqp_composites.specs.declared.modes.Role.{Role}
use Rattle.amqp_composites.specs.declared.modes.Role.TheVariants as role
use Rattle.amqp_composites.specs.declared.modes.SenderSettleMode.{SenderSettleMode}
use Rattle.amqp_composites.specs.declared.modes.SenderSettleMode.TheVariants as sender
use Rattle.amqp_composites.specs.declared.modes.ReceiverSettleMode.{ReceiverSettleMode}
use Rattle.amqp_composites.specs.declared.modes.ReceiverSettleMode.TheVariants as receiver

abbrev pub role_in : Amqp → Option Role
role_in (scalar (boolean b)) = if b then Some role.Receiver else Some role.Sender
role_in v = None

abbrev pub of_role : Role → Amqp
of_role role.Sender = scalar (boolean false)
of_role role.Receiver = scalar (boolean true)

pub role_again : (x : Role) → Unit {0} → role_in (of_role x) ≡ Some x
role_again role.Sender h = refl
role_again role.Receiver h = refl

pub role_field : IsField role_in of_role Each
role_field = record { again = role_again; there = elim [ role.Sender ↦ tt | role.Receiver ↦ tt ] }

abbrev pub sender_mode_number : SenderSettleMode → ℕ
sender_mode_number sender.Unsettled = 0
sender_mode_number sender.Settled = 1
sender_mode_number sender.Mixed = 2

abbrev pub sender_mode_in : Amqp → Option SenderSettleMode
sender_mode_in (scalar (ubyte n)) = if n == 0 then Some sender.Unsettled else if n == 1 then Some sender.Settled else if n == 2 then Some sender.Mixed else None
sender_mode_in v = None

abbrev pub of_sender_mode : SenderSettleMode → Amqp
of_sender_mode x = scalar (ubyte (sender_mode_number x))

pub sender_mode_again : (x : SenderSettleMode) → Unit {0} → sender_mode_in (of_sender_mode x) ≡ Some x
sender_mode_again sender.Unsettled h = refl
sender_mode_again sender.Settled h = refl
sender_mode_again sender.Mixed h = refl

pub sender_mode_field : IsField sender_mode_in of_sender_mode Each
sender_mode_field = record { again = sender_mode_again; there = λ x. tt }

abbrev pub same_sender_mode : SenderSettleMode → SenderSettleMode → Bool
same_sender_mode x y = nat_eq (sender_mode_number x) (sender_mode_number y)

pub sender_modes_are : (x y : SenderSettleMode) → IsTrue (same_sender_mode x y) → x ≡ y
sender_modes_are sender.Unsettled sender.Unsettled e = refl
sender_modes_are sender.Settled sender.Settled e = refl
sender_modes_are sender.Mixed sender.Mixed e = refl
sender_modes_are x y e = absurd cc

abbrev pub receiver_mode_number : ReceiverSettleMode → ℕ
receiver_mode_number receiver.First = 0
receiver_mode_number receiver.Second = 1

abbrev pub receiver_mode_in : Amqp → Option ReceiverSettleMode
receiver_mode_in (scalar (ubyte n)) = if n == 0 then Some receiver.First else if n == 1 then Some receiver.Second else None
receiver_mode_in v = None

abbrev pub of_receiver_mode : ReceiverSettleMode → Amqp
of_receiver_mode x = scalar (ubyte (receiver_mode_number x))

pub receiver_mode_again : (x : ReceiverSettleMode) → Unit {0} → receiver_mode_in (of_receiver_mode x) ≡ Some x
receiver_mode_again receiver.First h = refl
receiver_mode_again receiver.Second h = refl

pub receiver_mode_field : IsField receiver_mode_in of_receiver_mode Each
receiver_mode_field = record { again = receiver_mode_again; there = λ x. tt }

abbrev pub same_receiver_mode : ReceiverSettleMode → ReceiverSettleMode → Bool
same_receiver_mode x y = nat_eq (receiver_mode_number x) (receiver_mode_number y)

pub receiver_modes_are : (x y : ReceiverSettleMode) → IsTrue (same_receiver_mode x y) → x ≡ y
receiver_modes_are receiver.First receiver.First e = refl
receiver_modes_are receiver.Second receiver.Second e = refl
receiver_modes_are x y e = absurd cc
