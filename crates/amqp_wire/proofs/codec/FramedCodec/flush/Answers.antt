use Rattle.std.proofs.Common.{take, ◌++◌, ap, ◌∙◌, sym, take-append-drop}
use Rattle.amqp_wire.proofs.Links.{took_front, sent_more}
use Rattle.amqp_wire.proofs.codec.FramedCodec.flush.Goals as goal

pub loop-self-preserved : goal.loop-self-preserved
loop-self-preserved g c =
    let old = c.loop-self.self-inside.output.items in
    record {
      limits = c.loop-self.invariant.limits;
      sent = (
        _,
        sent_more g.L.Link _ _ _ (take c.in-Took.count old) _ _ c.loop-self.invariant.sent.1
            (took_front g.L.Link _ _ c.in-Took.count _ old c.as_slice.ensures c.in-Took.ensures.bytes.2 c.write.ensures.kept c.write.ensures.ready c.write.ensures.mark c.write.ensures.cause.later)
            (sym (take-append-drop c.in-Took.count old) ∙ ap (λ xs. take c.in-Took.count old ++ xs) (sym c.advance.ensures.items)),
      );
    }
