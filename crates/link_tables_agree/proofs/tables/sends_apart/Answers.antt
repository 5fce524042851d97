use Rattle.link_tables_agree.proofs.Sends.{sends_apart}
use Rattle.link_tables_agree.proofs.tables.sends_apart.Goals as goal

pub returns : goal.returns
returns c = sends_apart
