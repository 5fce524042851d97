use Rattle.std.proofs.Common.{refl}
use Rattle.list_laws.proofs.Told.{gains_none}
use Rattle.list_laws.proofs.told_laws.gains_none.Goals as goal

pub returns : goal.returns
returns c = λ a. gains_none a a refl
