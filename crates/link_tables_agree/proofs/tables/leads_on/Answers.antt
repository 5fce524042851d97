use Rattle.link_tables_agree.proofs.Leads.{leads_on}
use Rattle.link_tables_agree.proofs.tables.leads_on.Goals as goal

pub returns : goal.returns
returns c = leads_on
