use Rattle.link_tables_agree.proofs.Names.{unused_stays, names_are_new}
use Rattle.link_tables_agree.proofs.tables.names_are_new.Goals as goal

pub returns-clause-stays : goal.returns-clause-stays
returns-clause-stays c = unused_stays

pub returns-clause-once : goal.returns-clause-once
returns-clause-once c = names_are_new
