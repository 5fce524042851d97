use Rattle.std.proofs.Common.{◌≡◌, ◌++◌, length}
use Rattle.amqp_show.specs.declared.voice.Side.TheVariants.{Client}
use Rattle.amqp_show.specs.Lines.{lines_of}
use Rattle.amqp_show.specs.Picture.{head_text, rows_text}
use Rattle.amqp_show.proofs.picture.picture.Given as goal

abbrev pub invariant-lines : goal.invariant-lines
invariant-lines l = l.out.items ++ rows_text l.layout l.y l.side (lines_of l.rest) ≡ head_text l.layout ++ rows_text l.layout 44 Client (lines_of l.text)

abbrev pub decreases-lines : goal.decreases-lines
decreases-lines l = length l.rest
