use Rattle.std.proofs.Common.{arith}
use Rattle.book_lock.proofs.Keeping.{meet_allows}
use Rattle.book_lock.proofs.steps.compare.Goals as goal

pub load-requires : goal.load-requires
load-requires g c = (
  c.requires.table,
  omega (arith, c.requires.words),
  meet_allows c.args.lock.now.key c.args.lock.now.table_id.slots c.args.place.now.id c.args.place.now.me c.requires.idle,
)
