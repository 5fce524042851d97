use Rattle.trace_topics.proofs.Explained.{explained}
use Rattle.trace_topics.proofs.laws.traces_are_explained.Goals as goal

pub returns : goal.returns
returns c = explained
