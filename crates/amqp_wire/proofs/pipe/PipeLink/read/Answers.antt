use Rattle.std.proofs.Common.{◌+◌, ◌-◌, ◌∙◌, ap, take, drop, arith}
use Rattle.std.proofs.lemmas.List.{length-take-le}
use Rattle.amqp_wire.specs.Piped.{Piped}
use Rattle.amqp_wire.proofs.Fronts.{read_front}
use Rattle.amqp_wire.proofs.pipe.PipeLink.read.Goals as goal

pub returns-clause-bytes : goal.returns-clause-bytes
returns-clause-bytes c =
    let f = c.self.inside.front in
    let n = c.min-count.result in
    let r = read_front _ c.self.inside.input.items c.copy_from_slice.new.self _ f n (ap (λ (p : Piped). p.input) c.self.view_is)
    (c.copy_from_slice.ensures.after ∙ ap (λ d. take (f + n - f) (drop f d)) c.deref.ensures.value) (c.copy_from_slice.ensures.len ∙ length-take-le n _ (omega arith)) in (
      omega arith,
      r.0,
      r.1,
    )
