use Rattle.link_tables_agree.proofs.Sound.{none_is_sound, sound_is_kept}
use Rattle.link_tables_agree.proofs.tables.tables_agree.Goals as goal

pub returns-clause-none : goal.returns-clause-none
returns-clause-none c = none_is_sound

pub returns-clause-kept : goal.returns-clause-kept
returns-clause-kept c = sound_is_kept
