use Rattle.std.proofs.Common.{Some}
use Rattle.book_lock.proofs.Keeping.{held_last}
use Rattle.book_lock.proofs.turns.take_out.Goals as goal

pub exchange-requires : goal.exchange-requires
exchange-requires g c = (c.requires.table, (Some c.requires.begun.0, held_last c.args.place.now.me.1 (Some c.requires.begun.0) c.requires.begun.1))
