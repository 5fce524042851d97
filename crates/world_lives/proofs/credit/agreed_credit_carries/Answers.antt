use Rattle.world_lives.proofs.WordsCarry.Carrying.{agreed_credit_carries}
use Rattle.world_lives.proofs.credit.agreed_credit_carries.Goals as goal

pub returns : goal.returns
returns c = agreed_credit_carries
