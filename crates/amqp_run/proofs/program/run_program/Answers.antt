use Rattle.std.proofs.Common.{◌≡◌}
use Rattle.amqp_run.specs.Program.{Decodes, Shows, Answers, decode', show', other'}
use Rattle.amqp_run.proofs.program.run_program.Goals as goal

pub returns-then-is_decode : goal.returns-then-is_decode
returns-then-is_decode g c =
    let r = c.run_decode.ensures in
    let S = g.S.Source in
    let K = g.K.Sink in
    let old = c.args in
    let new = c.run_decode.new in
    let ran : Decodes c.run_decode.result (S.left old.source.now) (S.left new.source) (S.faults old.source.now) (S.faults new.source)
    (K.written old.sink.now) (K.written new.sink) (K.faults old.sink.now) (K.faults new.sink) = record {
      done = r.done;
      bad_bytes = r.bad_bytes;
      no_hexadecimal = r.no_hexadecimal;
      memory = r.memory;
      read_fault = r.read_fault;
      write_fault = r.write_fault;
      write_front = r.write_front;
      too_long = r.too_long;
      unwritten = r.unwritten;
      source_later = r.source_later;
      sink_later = r.sink_later;
    } in
    decode' _ (cc) ran

pub returns-in-Some : goal.returns-in-Some
returns-in-Some g c =
    let r = c.run_show.ensures in
    let S = g.S.Source in
    let K = g.K.Sink in
    let old = c.args in
    let new = c.run_show.new in
    let ran : Shows c.in-Some.form c.run_show.result (S.left old.source.now) (S.left new.source) (S.faults old.source.now) (S.faults new.source)
    (K.written old.sink.now) (K.written new.sink) (K.faults old.sink.now) (K.faults new.sink) = record {
      done = r.done;
      usage = r.usage;
      bad_script = r.bad_script;
      bad_step = r.bad_step;
      memory = r.memory;
      read_fault = r.read_fault;
      write_fault = r.write_fault;
      write_front = r.write_front;
      too_long = r.too_long;
      unwritten = r.unwritten;
      source_later = r.source_later;
      sink_later = r.sink_later;
    } in
    show' c.in-Some.form _ (cc) ran

pub returns : goal.returns
returns g c =
    let r = c.run_request.ensures in
    let S = g.S.Source in
    let K = g.K.Sink in
    let old = c.args in
    let new = c.run_request.new in
    let ran : Answers old.words.now c.run_request.result (S.left old.source.now) (S.left new.source) (S.faults old.source.now) (S.faults new.source)
    (K.written old.sink.now) (K.written new.sink) (K.faults old.sink.now) (K.faults new.sink) (new.source ≡ old.source.now) = record {
      done = r.done;
      usage = r.usage;
      bad_script = r.bad_script;
      bad_step = r.bad_step;
      read_fault = r.read_fault;
      too_long = r.too_long;
      write_fault = r.write_fault;
      write_front = r.write_front;
      memory = r.memory;
      unwritten = r.unwritten;
      unread = r.unread;
      source_later = r.source_later;
      sink_later = r.sink_later;
    } in
    other' _ (cc) (cc) ran
