use Rattle.std.proofs.Common.{List, ℕ, ◌++◌, ap, ◌∙◌}
use Rattle.amqp_conversation.proofs.said.amqp_line.Goals as goal

pub returns : goal.returns
returns c =
    let added = c.in_ok-push_body.ensures in
    record { said = added.text; is_said = added.is_text; framed = added.added ∙ ap (λ (z : List ℕ). z ++ added.text) c.in_ok-text.ensures }
