use Rattle.list_laws.proofs.Told.{gains_then}
use Rattle.list_laws.proofs.told_laws.gains_then.Goals as goal

pub returns : goal.returns
returns c = gains_then
