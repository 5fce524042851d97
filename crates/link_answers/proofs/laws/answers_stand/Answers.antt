use Rattle.link_answers.proofs.Deeds.{none_stands, answers_stand}
use Rattle.link_answers.proofs.laws.answers_stand.Goals as goal

pub returns-clause-begins : goal.returns-clause-begins
returns-clause-begins g c = none_stands

pub returns-clause-goes : goal.returns-clause-goes
returns-clause-goes g c = answers_stand g.L.Link
