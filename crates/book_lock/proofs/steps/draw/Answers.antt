use Rattle.std.proofs.Common.{arith, ◌+◌, refl}
use Rattle.book_lock.proofs.Keeping.{draw_allows}
use Rattle.book_lock.proofs.steps.draw.Goals as goal

pub compare_exchange-found-requires : goal.compare_exchange-found-requires
compare_exchange-found-requires g c = (
  c.requires.table,
  omega (arith, c.requires.words),
  draw_allows c.args.lock.now.key c.args.lock.now.table_id.slots c.args.place.now.id c.args.next (c.args.next + 1) c.args.place.now.me c.requires.idle.0 c.requires.idle.1 refl,
)
