use Rattle.std.proofs.Common.{◌<◌, length, sym, ◌∙◌, arith}
use Rattle.std.proofs.lemmas.Bool.{eqb-false}
use Rattle.sasl_scram.proofs.Escapes.{escaped_of-nil, read_byte_more, left_after, none_left}
use Rattle.sasl_scram.proofs.escape.unescape.Goals as goal

pub bytes-init : goal.bytes-init
bytes-init c = record {
  read = rw (c.new-user.ensures.items, escaped_of-nil);
  left = λ user e. (user, e);
}

pub returns-in_default : goal.returns-in_default
returns-in_default c = λ user e.
    let left = c.bytes.invariant.left user e in
    let some : 0 < length c.bytes.rest.now = omega (arith, eqb-false (length c.bytes.rest.now) 0 (sym c.is_empty.ensures ∙ c.bytes-test.true)) in
    none_left c.bytes.rest.now left.0 some c.in_default.ensures.missing left.1

pub bytes-preserved : goal.bytes-preserved
bytes-preserved c = record {
  read = rw c.in_ok-push.ensures.items (read_byte_more c.args.name.now c.bytes.user.items c.bytes.rest.now c.in-Some.byte c.in-Some.tail.now c.bytes.invariant.read c.in-Some.ensures.found);
  left = λ user e. let left = c.bytes.invariant.left user e in left_after c.bytes.rest.now c.in-Some.byte c.in-Some.tail.now left.0 c.in-Some.ensures.found left.1;
}
