use Rattle.world_lives.proofs.WorldLinks.Agreeing.{links_agree, handles_lead}
use Rattle.world_lives.proofs.links.links_agree.Goals as goal

pub returns-clause-agree : goal.returns-clause-agree
returns-clause-agree c = links_agree

pub returns-clause-lead : goal.returns-clause-lead
returns-clause-lead c = handles_lead
