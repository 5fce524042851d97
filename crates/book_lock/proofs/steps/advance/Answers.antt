use Rattle.std.proofs.Common.{arith, ◌+◌, ap, sym}
use Rattle.book_lock.proofs.Keeping.{advance_allows}
use Rattle.book_lock.proofs.steps.advance.Goals as goal

pub store-requires : goal.store-requires
store-requires g c = (
  c.requires.table,
  omega (arith, c.requires.words),
  advance_allows c.args.lock.now.key c.args.lock.now.table_id.slots c.args.place.now.id (c.args.ticket + 1) c.args.place.now.me c.requires.holds.0 c.requires.holds.1 c.requires.turn c.requires.holds.2 c.requires.holds.3 c.requires.holds.4 (ap (λ n. n + 1) (sym c.requires.ticket)),
)
