use Rattle.std.proofs.Common.{ℕ, List, inr, subst}
use Rattle.amqp_streams.specs.Streams.{WritesFront}
use Rattle.amqp_gen.specs.Command.{WritesSomeGen}
use Rattle.amqp_gen.proofs.command.run_command.Goals as goal

pub returns-in-Ok-clause-memory : goal.returns-in-Ok-clause-memory
returns-in-Ok-clause-memory g c = λ e.
    let old = g.K.Sink.written c.args.sink.now in
    let new = g.K.Sink.written c.write_lines.new.sink in
    let some : WritesSomeGen c.args.start c.args.count old new = record {
      text = c.in-Ok.text.items;
      lines = c.in-Ok.ensures.lines;
      front = subst (λ (text : List ℕ). WritesFront text old new) c.as_slice.ensures.value c.write_lines.ensures.front;
    } in
    inr some
