use Rattle.std.proofs.Common.{◌++◌, sym, ◌∙◌, ap, append-nil}
use Rattle.sasl_scram.proofs.Escapes.{escaped_of-nil, escaped_step}
use Rattle.sasl_scram.proofs.escape.append_escaped.Goals as goal

pub bytes-init : goal.bytes-init
bytes-init c = sym (ap (λ xs. c.args.text.now ++ xs) escaped_of-nil ∙ append-nil c.args.text.now)

pub bytes-preserved : goal.bytes-preserved
bytes-preserved c = c.in_ok-append_byte.ensures
    ∙ escaped_step c.args.text.now c.bytes.text c.args.user.now c.bytes.byte-index c.bytes-test.true c.bytes.invariant
