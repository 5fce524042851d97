use Rattle.std.proofs.Common.{arith}
use Rattle.book_lock.proofs.Keeping.{join_allows}
use Rattle.book_lock.proofs.steps.join.Goals as goal

pub join_seat-requires : goal.join_seat-requires
join_seat-requires g c = (
  c.requires.table,
  c.requires.other_table,
  c.requires.other,
  omega (arith, c.requires.words),
  join_allows c.args.lock.now.key c.args.place.now.id c.args.other.id c.args.place.now.me.0 c.args.other.me.0 c.requires.idle c.requires.other_idle,
)
