use Rattle.std.proofs.Common.{arith}
use Rattle.book_lock.proofs.Keeping.{split_allows}
use Rattle.book_lock.proofs.steps.split.Goals as goal

pub split_seat-requires : goal.split_seat-requires
split_seat-requires g c = (
  c.requires.table,
  omega (arith, c.requires.words),
  split_allows c.args.lock.now.key c.args.place.now.id c.args.place.now.me.0 c.requires.idle c.requires.numbers.0 c.requires.numbers.1 c.requires.numbers.2 c.requires.told,
)
