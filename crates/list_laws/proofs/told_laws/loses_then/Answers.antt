use Rattle.list_laws.proofs.Told.{loses_then}
use Rattle.list_laws.proofs.told_laws.loses_then.Goals as goal

pub returns : goal.returns
returns c = loses_then
