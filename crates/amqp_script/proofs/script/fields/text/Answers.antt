use Rattle.std.proofs.Common.{◌≡◌, ◌∙◌, List, ℕ, Some, ap, sym}
use Rattle.amqp_script.specs.Escape.{unescaped}
use Rattle.amqp_script.proofs.Escapes.{text_some, text_none}
use Rattle.amqp_script.proofs.script.fields.text.Goals as goal

pub returns-in-Ok : goal.returns-in-Ok
returns-in-Ok c =
    let said : unescaped c.args.argument.now ≡ Some c.as_slice.result.now = c.in_ok-bytes.ensures.ok ∙ ap (λ (u : List ℕ). Some u) (sym c.as_slice.ensures.value) in
    text_some c.args.argument.now c.as_slice.result.now said c.in-Ok.ensures.utf8 ∙ ap (λ (u : List ℕ). Some u) (sym c.in-Ok.ensures.ok)

pub returns-in-Err-NotUtf8 : goal.returns-in-Err-NotUtf8
returns-in-Err-NotUtf8 c =
    let said : unescaped c.args.argument.now ≡ Some c.as_slice.result.now = c.in_ok-bytes.ensures.ok ∙ ap (λ (u : List ℕ). Some u) (sym c.as_slice.ensures.value) in
    text_none c.args.argument.now c.as_slice.result.now said (c.in-Err-NotUtf8.ensures.refused (cc))
