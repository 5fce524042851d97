use Rattle.std.proofs.Common.{◌≡◌, Ok, sym, subst}
use Rattle.amqp_messages.specs.Reading.{IsTheMessage, SpellsMessage}
use Rattle.amqp_messages.specs.declared.message.Body.{Body}
use Rattle.amqp_messages.specs.declared.message.Message.{Message}
use Rattle.amqp_receiver.specs.Delivering.{all_bytes}
use Rattle.amqp_receiver.proofs.delivering.placed_message_in.Goals as goal

pub returns : goal.returns
returns c = subst (λ (m : Message Body). IsTheMessage (Ok m) (SpellsMessage (all_bytes c.args.payloads.items))) (sym c.in_ok-place.ensures) c.in_ok-message.ensures
