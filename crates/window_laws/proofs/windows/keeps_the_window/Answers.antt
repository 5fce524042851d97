use Rattle.window_laws.proofs.Keeps.{keeps_the_window, waits_for_the_begin}
use Rattle.window_laws.proofs.Together.{keeps_the_window_for_ever}
use Rattle.window_laws.proofs.windows.keeps_the_window.Goals as goal

pub returns-clause-within : goal.returns-clause-within
returns-clause-within c = keeps_the_window

pub returns-clause-for_ever : goal.returns-clause-for_ever
returns-clause-for_ever c = keeps_the_window_for_ever

pub returns-clause-first : goal.returns-clause-first
returns-clause-first c = waits_for_the_begin
