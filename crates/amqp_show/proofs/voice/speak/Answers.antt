use Rattle.std.proofs.Common.{◌∙◌, ◌++◌, ℕ, List, Err, length, sym, ap, subst, arith}
use Rattle.std.proofs.lemmas.List.{take_rest, length-drop}
use Rattle.amqp_conversation.specs.declared.said.SaidError.{SaidError}
use Rattle.amqp_conversation.specs.Said.{Says, IsBad}
use Rattle.amqp_show.specs.Voice.{spoken_text}
use Rattle.amqp_show.proofs.Speech.{said_more, said_all, said_stop}
use Rattle.amqp_show.proofs.voice.speak.Goals as goal

pub pieces-preserved : goal.pieces-preserved
pieces-preserved c =
    let rest = take_rest c.args.bytes.now c.pieces.end in
    record {
      within = omega (arith, c.pieces.invariant.within, c.in-Ok.ensures.size.1, ap length rest, length-drop c.pieces.end c.args.bytes.now);
      said = said_more c.args.side c.args.bytes.now c.pieces.text.items c.push_spoken.new.out.items c.in-Ok.said.text.items c.pieces.end c.in-Ok.said.size
          (subst (λ (z : List ℕ). Says z c.in-Ok.said.size c.in-Ok.said.text.items) rest c.in-Ok.ensures.ok)
          (c.in_ok-push_spoken.ensures ∙ ap (λ (z : List ℕ). c.pieces.text.items ++ spoken_text c.args.side z) c.as_slice.ensures.value)
          c.pieces.invariant.said;
    }

pub returns-clause-speaks : goal.returns-clause-speaks
returns-clause-speaks c =
    said_all c.args.side c.args.bytes.now c.pieces.text.items c.pieces.end c.pieces.invariant.said (omega (arith, c.pieces-test.false))

pub returns-in-Err-Bad-clause-speaks : goal.returns-in-Err-Bad-clause-speaks
returns-in-Err-Bad-clause-speaks c =
    said_stop c.args.side c.args.bytes.now c.pieces.text.items c.in_ok-spoken-in-Err-Bad.spoken.text.items c.pieces.end c.in_ok-spoken-in-Err-Bad.spoken.end c.in_ok-spoken-in-Err-Bad.spoken.is_over c.in-Err-Bad.reason
    c.pieces.invariant.said
    (subst (λ (z : List ℕ). IsBad z c.in-Err-Bad.reason) (take_rest c.args.bytes.now c.pieces.end) (c.in-Err-Bad.ensures.bad c.in-Err-Bad.reason (ap (λ (z : SaidError). Err z) c.in-Err-Bad.field-0-is)))
    (rw (sym c.in-Err-Bad.reason-is) c.in_ok-spoken-in-Err-Bad.ensures.text)
    c.in_ok-spoken-in-Err-Bad.ensures.end
    (rw (sym c.in-Err-Bad.reason-is) c.in_ok-spoken-in-Err-Bad.ensures.is_over)
