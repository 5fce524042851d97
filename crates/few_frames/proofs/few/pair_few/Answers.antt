use Rattle.few_frames.proofs.Whole.{pair_writes_few}
use Rattle.few_frames.proofs.few.pair_few.Goals as goal

pub returns : goal.returns
returns c = pair_writes_few
