use Rattle.std.proofs.Common.{refl}
use Rattle.list_laws.proofs.Told.{loses_none}
use Rattle.list_laws.proofs.told_laws.loses_none.Goals as goal

pub returns : goal.returns
returns c = λ a. loses_none a a refl
