use Rattle.std.proofs.Common.{◌≡◌, ◌+◌, ◌-◌, ◌∙◌, inl, inr, ap, length, take, drop, arith, length-append, length-drop}
use Rattle.std.proofs.lemmas.List.{length-take-le}
use Rattle.amqp_wire.specs.Memory.{Supply}
use Rattle.amqp_wire.proofs.Fronts.{read_front}
use Rattle.amqp_wire.proofs.memory.MemorySourceSource.read.Goals as goal

pub returns-clause-bytes : goal.returns-clause-bytes
returns-clause-bytes c =
    let f = c.self.inside.front in
    let n = c.min-count.result in
    let part = c.copy_from_slice.new.self in
    let rest = drop n c.args.buf.now in
    let e : length part ≡ n = c.copy_from_slice.ensures.len ∙ length-take-le n _ (omega arith) in
    let r = read_front _ c.self.inside.bytes.items part rest f n (ap (λ (s : Supply). s.left) c.self.view_is)
    (c.copy_from_slice.ensures.after ∙ ap (λ d. take (f + n - f) (drop f d)) c.deref.ensures.value) e in (
      r.0,
      r.1,
      λ none room. elim c.else-count-eq0.either [
        | inl w ↦ absurd (omega (arith, none, room, w.1, e, length-append part rest, length-drop n c.args.buf.now))
        | inr w ↦ absurd (w none)
      ],
    )
