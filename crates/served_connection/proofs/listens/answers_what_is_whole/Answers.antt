use Rattle.served_connection.proofs.ListenLaws.Wholly.{answers_what_is_whole}
use Rattle.served_connection.proofs.listens.answers_what_is_whole.Goals as goal

pub returns : goal.returns
returns c = answers_what_is_whole
