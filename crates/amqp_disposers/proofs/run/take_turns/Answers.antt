use Rattle.std.proofs.Common.{arith, subst, sym}
use Rattle.amqp_delivery.specs.Book.{Book, view_of}
use Rattle.book_history.specs.History.{Replays}
use Rattle.amqp_disposers.proofs.Turning.{at_of, tickets_served, turned}
use Rattle.amqp_disposers.proofs.run.take_turns.Goals as goal

pub run_all-requires-after_bounds : goal.run_all-requires-after_bounds
run_all-requires-after_bounds g c κs within =
    at_of c.in-Ok.desk.table.shared.table_id (view_of c.args.book.book 0) c.args.workers c.in-Ok.seats.items c.in-Ok.ensures.count c.in-Ok.ensures.seats

pub close-requires-clause-some : goal.close-requires-clause-some
close-requires-clause-some g c =
    let t = c.in-Ok.desk.table.shared.table_id in
    let s = tickets_served c.args.book.book t c.args.workers c.args.infos.now c.in-Ok.seats.items c.in_ok-seats.seats.items c.in-Ok.ensures.count c.in-Ok.ensures.seats c.in_ok-seats.ensures in
    omega (arith, s.count, c.requires.some, c.in_ok-seats.seats.ok.0)

pub close-requires-clause-tables : goal.close-requires-clause-tables
close-requires-clause-tables g c =
    let t = c.in-Ok.desk.table.shared.table_id in
    (tickets_served c.args.book.book t c.args.workers c.args.infos.now c.in-Ok.seats.items c.in_ok-seats.seats.items c.in-Ok.ensures.count c.in-Ok.ensures.seats c.in_ok-seats.ensures).at

pub close-requires-clause-all : goal.close-requires-clause-all
close-requires-clause-all g c n lt =
    let t = c.in-Ok.desk.table.shared.table_id in
    let s = tickets_served c.args.book.book t c.args.workers c.args.infos.now c.in-Ok.seats.items c.in_ok-seats.seats.items c.in-Ok.ensures.count c.in-Ok.ensures.seats c.in_ok-seats.ensures in
    s.here n (omega (arith, lt, c.in-Ok.ensures.numbers))

pub returns : goal.returns
returns g c =
    let t = c.in-Ok.desk.table.shared.table_id in
    let s = tickets_served c.args.book.book t c.args.workers c.args.infos.now c.in-Ok.seats.items c.in_ok-seats.seats.items c.in-Ok.ensures.count c.in-Ok.ensures.seats c.in_ok-seats.ensures in
    turned c.args.book.book c.close.result.0.book t c.args.workers c.args.infos.now c.in_ok-seats.seats.items c.close.result.1.events s
    (subst (λ (b : Book). Replays b c.close.result.1.events c.close.result.0.book) (sym c.requires.book) c.close.ensures.replay) c.close.ensures.own
    (λ n far. c.close.ensures.others n (omega (arith, far, c.in-Ok.ensures.numbers)))
