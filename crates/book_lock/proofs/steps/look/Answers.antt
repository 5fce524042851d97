use Rattle.std.proofs.Common.{arith}
use Rattle.book_lock.proofs.Keeping.{look_allows}
use Rattle.book_lock.proofs.steps.look.Goals as goal

pub load-found-requires : goal.load-found-requires
load-found-requires g c = (
  c.requires.table,
  omega (arith, c.requires.words),
  look_allows c.args.lock.now.key c.args.lock.now.table_id.slots c.args.place.now.id c.args.place.now.me c.requires.waits.0 c.requires.waits.1 c.requires.number,
)
