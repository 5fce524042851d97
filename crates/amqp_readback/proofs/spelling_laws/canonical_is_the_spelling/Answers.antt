use Rattle.amqp_readback.proofs.Spelled.{canonical_spells, canonical_alone, canonical_apart}
use Rattle.amqp_readback.proofs.spelling_laws.canonical_is_the_spelling.Goals as goal

pub returns-clause-spells : goal.returns-clause-spells
returns-clause-spells c = canonical_spells

pub returns-clause-alone : goal.returns-clause-alone
returns-clause-alone c = canonical_alone

pub returns-clause-apart : goal.returns-clause-apart
returns-clause-apart c = canonical_apart
