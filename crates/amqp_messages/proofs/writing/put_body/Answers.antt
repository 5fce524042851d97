use Rattle.std.proofs.Common.{sym, subst}
use Rattle.std.specs.Prelude.{Ok}
use Rattle.amqp_data.specs.Data.{Amqp}
use Rattle.amqp_data.specs.View.{view}
use Rattle.amqp_messages.specs.declared.kind.SectionKind.TheVariants as kind
use Rattle.amqp_messages.specs.declared.message.Body.{Body}
use Rattle.amqp_messages.specs.Message.{said}
use Rattle.amqp_messages.specs.Writing.{body_items, AddsAll}
use Rattle.amqp_messages.proofs.Added.{one_section, none}
use Rattle.amqp_messages.proofs.writing.put_body.Goals as goal

pub returns-in-Value : goal.returns-in-Value
returns-in-Value c =
    subst (λ (z : Body). AddsAll c.write_described_value.result c.args.out.now c.write_described_value.new.out (body_items (said z))) (sym c.in-Value.is)
    (one_section kind.Value (λ (v : Amqp). v) (view c.in-Value.value) c.number.result c.write_described_value.result c.args.out.now c.write_described_value.new.out c.number.ensures c.write_described_value.ensures)

pub returns-in-Empty : goal.returns-in-Empty
returns-in-Empty c = subst (λ (z : Body). AddsAll (Ok tt) c.args.out.now c.args.out.now (body_items (said z))) (sym c.in-Empty.is) (none c.args.out.now)
