use Rattle.link_answers.proofs.Meeting.{ends_meet}
use Rattle.link_answers.proofs.worlds.ends_meet.Goals as goal

pub returns : goal.returns
returns c = ends_meet
