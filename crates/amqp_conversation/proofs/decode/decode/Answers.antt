use Rattle.std.proofs.Common.{◌≡◌, ◌≤◌, ◌+◌, ◌-◌, ◌++◌, ℕ, List, length, drop, take, sym, ap, subst, ◌∙◌, arith, Err}
use Rattle.amqp_conversation.specs.declared.said.SaidError.{SaidError}
use Rattle.std.proofs.lemmas.List.{take_rest, length-drop, length-take-le}
use Rattle.amqp_conversation.specs.Said.{Says, IsBad}
use Rattle.std.specs.Prelude.{IfSome}
use Rattle.amqp_conversation.specs.Why.{IsWhy}
use Rattle.amqp_conversation.specs.Shows.{line_text}
use Rattle.amqp_conversation.proofs.Going.{piece_more, no_piece_more, all_pieces}
use Rattle.amqp_conversation.proofs.decode.decode.Goals as goal

pub pieces-preserved : goal.pieces-preserved
pieces-preserved c =
    let bytes = c.args.bytes.now in
    let rest = take_rest c.args.bytes.now c.pieces.offset in
    record {
      within = omega (arith, c.pieces.invariant.within, c.in-Ok.ensures.size.1, ap length rest, length-drop c.pieces.offset c.args.bytes.now);
      shown = piece_more c.args.bytes.now c.pieces.text.items c.push_line.new.out.items c.in-Ok.said.text.items c.pieces.offset c.in-Ok.said.size
          (subst (λ (z : List ℕ). Says z c.in-Ok.said.size c.in-Ok.said.text.items) rest c.in-Ok.ensures.ok)
          (c.in_ok-push_line.ensures ∙ ap (λ (z : List ℕ). c.pieces.text.items ++ line_text c.pieces.offset c.in-Ok.said.size z) c.as_slice.ensures.value)
          c.pieces.invariant.shown;
    }

pub returns : goal.returns
returns c =
    let same : c.pieces.offset ≡ length c.args.bytes.now = omega (arith, c.pieces.invariant.within, c.pieces-test.false) in
    record { decoded = all_pieces c.args.bytes.now c.pieces.text.items c.pieces.offset same (no_piece_more c.args.bytes.now c.pieces.text.items c.pieces.offset c.pieces.invariant.shown) }

pub returns-in-Err-Bad : goal.returns-in-Err-Bad
returns-in-Err-Bad c =
    record {
      decoded = record {
        rest = drop c.pieces.offset c.args.bytes.now;
        shows = no_piece_more c.args.bytes.now c.pieces.text.items c.pieces.offset c.pieces.invariant.shown;
        is_bad = rw c.in-Err-Bad.reason-is (subst (λ (z : List ℕ). IsBad z c.in-Err-Bad.reason) (take_rest c.args.bytes.now c.pieces.offset) (c.in-Err-Bad.ensures.bad c.in-Err-Bad.reason (ap (λ (z : SaidError). Err z) c.in-Err-Bad.field-0-is)));
        why = subst (λ (z : List ℕ). IfSome c.in_ok-fault-in-Err-Bad.fault (IsWhy z)) (take_rest c.args.bytes.now c.pieces.offset) c.in_ok-fault-in-Err-Bad.ensures;
      };
    }
