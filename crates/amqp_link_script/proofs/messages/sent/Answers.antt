use Rattle.std.proofs.Common.{◌∙◌, ap, sym}
use Rattle.amqp_link_script.specs.Messages.{form_in}
use Rattle.amqp_link_script.proofs.Sent.{no_bytes}
use Rattle.amqp_link_script.proofs.messages.sent.Goals as goal

pub returns-in-Ok : goal.returns-in-Ok
returns-in-Ok c =
    no_bytes c.args.written c.in-Ok.form c.in-Err-encoded_form.error (ap form_in (sym c.as_slice.ensures) ∙ c.in-Ok.ensures) c.in-Err-encoded_form.ensures
