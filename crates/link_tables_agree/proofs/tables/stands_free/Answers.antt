use Rattle.link_tables_agree.proofs.Sound.{stands_free}
use Rattle.link_tables_agree.proofs.tables.stands_free.Goals as goal

pub returns : goal.returns
returns c = stands_free
