use Rattle.std.proofs.Common.{◌∙◌, ◌++◌, List, ℕ, ap, sym, append_assoc, codes}
use Rattle.amqp_error_texts.specs.LinkText.{info_text, base_text}
use Rattle.amqp_error_texts.proofs.Chains.{three_added}
use Rattle.amqp_error_texts.proofs.links.push_decode.Goals as goal

pub returns : goal.returns
returns c =
    three_added c.args.out.now.items (codes "MessageDecode ") (info_text c.args.info.now) (codes " " ++ base_text c.args.error) _ _ _
    c.in_ok-extend_from_slice.ensures.items c.in_ok-push_info.ensures
    (c.in_ok-push_words.ensures ∙ ap (λ (u : List ℕ). c.push_info.new.out.items ++ (codes " " ++ u)) c.base_name.ensures)
    ∙ ap (λ (u : List ℕ). c.args.out.now.items ++ (codes "MessageDecode " ++ u)) (sym (append_assoc (info_text c.args.info.now) (codes " ") (base_text c.args.error)))
