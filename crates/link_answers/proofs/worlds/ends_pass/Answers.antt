use Rattle.link_answers.proofs.Comes.{none_comes_first, ends_pass}
use Rattle.link_answers.proofs.worlds.ends_pass.Goals as goal

pub returns-clause-begins : goal.returns-clause-begins
returns-clause-begins g c = none_comes_first

pub returns-clause-goes : goal.returns-clause-goes
returns-clause-goes g c = ends_pass g.L.Link
