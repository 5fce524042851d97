use Rattle.amqp_script.proofs.Pieces.{pieces_cut, pieces_whole}
use Rattle.amqp_script.proofs.script.words.first_word.Goals as goal

pub returns-in-Some : goal.returns-in-Some
returns-in-Some c = pieces_cut 32 c.args.line.now c.in-Some.word.now c.in-Some.rest.now c.in-Some.ensures

pub returns-in-None : goal.returns-in-None
returns-in-None c = pieces_whole 32 c.args.line.now c.in-None.ensures
