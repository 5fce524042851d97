use Rattle.served_connection.proofs.ServeLaws.Deeds.{lives_do}
use Rattle.served_connection.proofs.ServeLaws.History.{lives_begin, lives_go}
use Rattle.served_connection.proofs.laws.ends_live.Goals as goal

pub returns-clause-begins : goal.returns-clause-begins
returns-clause-begins g c = lives_begin g.L.Link

pub returns-clause-goes : goal.returns-clause-goes
returns-clause-goes g c = lives_go g.L.Link

pub returns-clause-deeds : goal.returns-clause-deeds
returns-clause-deeds g c = lives_do g.L.Link
