use Rattle.std.proofs.Common.{ℕ, List, subst, arith}
use Rattle.std.proofs.lemmas.List.{nil_from_length, take_rest}
use Rattle.std.proofs.lemmas.Result.{err_from_is_err_and}
use Rattle.amqp_described.specs.amqp_fields.Fields.{Gives}
use Rattle.amqp_frames.specs.Body.{framed}
use Rattle.amqp_frames.proofs.Read.{the_empty, unread, unsaid, said_body}
use Rattle.amqp_frames.proofs.reading.decode_body.Goals as goal

pub returns-then-is_empty : goal.returns-then-is_empty
returns-then-is_empty c = the_empty c.args.input.now (nil_from_length c.args.input.now (grind (arith, c.is_empty.ensures, c.if-is_empty.true)))

pub returns-in_err-value : goal.returns-in_err-value
returns-in_err-value c =
    let p = err_from_is_err_and c.from_residual.result c.from_residual.ensures.1 in
    rw (p.1, p.2) (unread c.in_err-value.field-0.0 c.args.input.now (grind (arith, c.is_empty.ensures, c.if-is_empty.false)) c.in_err-value.ensures)

pub returns-in_err-performative : goal.returns-in_err-performative
returns-in_err-performative c =
    let p = err_from_is_err_and c.from_residual-in_err-performative.result c.from_residual-in_err-performative.ensures.1 in
    rw (p.1, p.2) (unsaid c.in_err-performative.field-0.0 c.args.input.now (c.in_ok-value.value, c.in_ok-value.used) (grind (arith, c.is_empty.ensures, c.if-is_empty.false)) c.in_ok-value.ensures c.in_err-performative.ensures)

pub returns : goal.returns
returns c =
    let input = c.args.input.now in
    let framed_rest = subst (λ (z : List ℕ). Gives c.frame_of.result (framed c.in_ok-performative.performative z)) (take_rest input c.in_ok-value.used) c.frame_of.ensures in
    said_body c.frame_of.result input (c.in_ok-value.value, c.in_ok-value.used) c.in_ok-performative.performative (grind (arith, c.is_empty.ensures, c.if-is_empty.false)) c.in_ok-value.ensures c.in_ok-performative.ensures framed_rest
