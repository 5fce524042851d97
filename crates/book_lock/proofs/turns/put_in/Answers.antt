use Rattle.std.proofs.Common.{None}
use Rattle.book_lock.proofs.Keeping.{held_last}
use Rattle.book_lock.proofs.turns.put_in.Goals as goal

pub exchange-empty-requires : goal.exchange-empty-requires
exchange-empty-requires g c = (c.requires.table, (None, held_last c.args.place.now.me.1 None c.requires.out))
