use Rattle.std.specs.Prelude.{Ok, Err}
use Rattle.std.proofs.lemmas.Result.{err_from_is_err_and}
use Rattle.amqp_messages.specs.Message.{seen}
use Rattle.amqp_messages.specs.Writing.{◌&◌, head_items, about_items, rest_items}
use Rattle.amqp_messages.proofs.Added.{follow, stop}
use Rattle.amqp_messages.proofs.writing.put_message.Goals as goal

pub returns-in_err-put_head-clause-adds : goal.returns-in_err-put_head-clause-adds
returns-in_err-put_head-clause-adds c =
    let p = err_from_is_err_and c.from_residual.result c.from_residual.ensures.1 in
    let m = seen c.args.message.now in
    rw (p.1, p.2) (stop c.in_err-put_head.field-0.0 c.args.out.now c.put_head.new.out c.put_head.new.out (head_items m) (about_items m & rest_items m) c.in_err-put_head.ensures.adds)

pub returns-in_err-put_about-clause-adds : goal.returns-in_err-put_about-clause-adds
returns-in_err-put_about-clause-adds c =
    let p = err_from_is_err_and c.from_residual-in_err-put_about.result c.from_residual-in_err-put_about.ensures.1 in
    let m = seen c.args.message.now in
    rw (p.1, p.2)
    (follow (Err c.in_err-put_about.field-0.0) c.args.out.now c.put_head.new.out c.put_about.new.out (head_items m) (about_items m & rest_items m) c.in_ok-put_head.ensures.adds
    (stop c.in_err-put_about.field-0.0 c.put_head.new.out c.put_about.new.out c.put_about.new.out (about_items m) (rest_items m) c.in_err-put_about.ensures.adds))

pub returns-in_err-put_rest-clause-adds : goal.returns-in_err-put_rest-clause-adds
returns-in_err-put_rest-clause-adds c =
    let p = err_from_is_err_and c.from_residual-in_err-put_rest.result c.from_residual-in_err-put_rest.ensures.1 in
    let m = seen c.args.message.now in
    rw (p.1, p.2)
    (follow (Err c.in_err-put_rest.field-0.0) c.args.out.now c.put_head.new.out c.put_rest.new.out (head_items m) (about_items m & rest_items m) c.in_ok-put_head.ensures.adds
    (follow (Err c.in_err-put_rest.field-0.0) c.put_head.new.out c.put_about.new.out c.put_rest.new.out (about_items m) (rest_items m) c.in_ok-put_about.ensures.adds c.in_err-put_rest.ensures.adds))

pub returns-clause-adds : goal.returns-clause-adds
returns-clause-adds c =
    let m = seen c.args.message.now in
    follow (Ok tt) c.args.out.now c.put_head.new.out c.put_rest.new.out (head_items m) (about_items m & rest_items m) c.in_ok-put_head.ensures.adds
    (follow (Ok tt) c.put_head.new.out c.put_about.new.out c.put_rest.new.out (about_items m) (rest_items m) c.in_ok-put_about.ensures.adds c.in_ok-put_rest.ensures.adds)
