use Rattle.link_tables_agree.proofs.Sound.{holds_alone}
use Rattle.link_tables_agree.proofs.tables.holds_alone.Goals as goal

pub returns : goal.returns
returns c = holds_alone
