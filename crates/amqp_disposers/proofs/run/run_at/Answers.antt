use Rattle.std.proofs.Common.{List, length, IfOk, ap, subst, sym, arith}
use Rattle.amqp_delivery.specs.Book.{Book, view_of}
use Rattle.book_history.specs.History.{Replays}
use Rattle.amqp_threads.specs.Seats.{Seat}
use Rattle.amqp_disposers.specs.Work.{AllServe}
use Rattle.amqp_disposers.proofs.Covering.{covers, ran}
use Rattle.amqp_disposers.proofs.run.run_at.Goals as goal

pub close-requires-clause-all : goal.close-requires-clause-all
close-requires-clause-all g c =
    let s = subst (λ (ss : List Seat). AllServe ss c.args.infos.now c.in_ok-seats.seats.items) c.into_vec.ensures c.in_ok-seats.ensures in
    let n = covers (view_of c.args.book.book 0) c.args.workers c.in_ok-desk.seats c.args.infos.now c.in_ok-seats.seats.items c.in_ok-desk.ensures.count c.in_ok-desk.ensures.seats s in
    omega (arith, n.count, ap length c.new-2.ensures, c.requires.parts, c.requires.one_each)

pub close-requires-clause-some : goal.close-requires-clause-some
close-requires-clause-some g c =
    let s = subst (λ (ss : List Seat). AllServe ss c.args.infos.now c.in_ok-seats.seats.items) c.into_vec.ensures c.in_ok-seats.ensures in
    let n = covers (view_of c.args.book.book 0) c.args.workers c.in_ok-desk.seats c.args.infos.now c.in_ok-seats.seats.items c.in_ok-desk.ensures.count c.in_ok-desk.ensures.seats s in
    omega (arith, n.count, ap length c.new-2.ensures, c.requires.some)

pub returns : goal.returns
returns g c =
    let s = subst (λ (ss : List Seat). AllServe ss c.args.infos.now c.in_ok-seats.seats.items) c.into_vec.ensures c.in_ok-seats.ensures in
    let n = covers (view_of c.args.book.book 0) c.args.workers c.in_ok-desk.seats c.args.infos.now c.in_ok-seats.seats.items c.in_ok-desk.ensures.count c.in_ok-desk.ensures.seats s in
    ran c.args.book.book c.args.infos.now c.args.workers c.in_ok-seats.seats.items c.new-2.result c.close.result n c.new-2.ensures
    (subst (λ (b : Book). IfOk c.close.result (λ r. Replays b r.1.events r.0.book)) (sym c.requires.book) c.close.ensures.replay) c.close.ensures.calls c.close.ensures.stand
