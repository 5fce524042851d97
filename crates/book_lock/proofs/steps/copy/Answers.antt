use Rattle.std.proofs.Common.{arith}
use Rattle.book_lock.proofs.Keeping.{copy_allows}
use Rattle.book_lock.proofs.steps.copy.Goals as goal

pub split_seat-requires : goal.split_seat-requires
split_seat-requires g c = (
  c.requires.table,
  omega (arith, c.requires.words),
  copy_allows c.args.lock.now.key c.args.place.now.id c.args.place.now.me.0 c.requires.idle,
)
