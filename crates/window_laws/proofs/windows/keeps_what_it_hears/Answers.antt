use Rattle.window_laws.proofs.Keeps.{keeps_what_it_hears}
use Rattle.window_laws.proofs.windows.keeps_what_it_hears.Goals as goal

pub returns : goal.returns
returns c = keeps_what_it_hears
