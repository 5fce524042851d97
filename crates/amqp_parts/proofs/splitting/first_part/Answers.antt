use Rattle.std.proofs.Common.{◌≡◌}
use Rattle.std.specs.Prelude.{is_some}
use Rattle.std.proofs.lemmas.Result.{IfOk-weaker}
use Rattle.amqp_parts.specs.declared.splitting.Cut.{Cut}
use Rattle.amqp_parts.specs.Cut.{cut_at, cut_of}
use Rattle.amqp_parts.proofs.Cutting.{cut_within, cut_said}
use Rattle.amqp_parts.proofs.splitting.first_part.Goals as goal

pub cut_at-requires-clause-within : goal.cut_at-requires-clause-within
cut_at-requires-clause-within c = cut_within c.args.max_frame c.args.transfer _ c.in_ok-len.len (rw (← c.len.ensures.value) c.in_ok-len.ensures.length)

pub returns : goal.returns
returns c = IfOk-weaker c.cut_at.result (λ (z : Cut). z ≡ cut_at c.in_ok-len.len (record c.args.transfer { more = is_some c.in_ok-len.len }) c.args.payload) (λ (z : Cut). z ≡ cut_of c.args.max_frame c.args.transfer c.args.payload) (λ cut h. cut_said c.args.max_frame c.args.transfer c.args.payload c.in_ok-len.len cut (rw (← c.len.ensures.value) c.in_ok-len.ensures.length) h) (rw (← c.in_ok-len.ensures.said) c.cut_at.ensures)
