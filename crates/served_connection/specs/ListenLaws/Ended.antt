-- How many deliveries frames bring to their end (OASIS AMQP 1.0, part 2, sections 2.6.14 and 2.7.5).
use Rattle.std.specs.Prelude.{ℕ, ◌+◌, Bool, not, ◌&&◌, List, [], ◌∷◌, if◌then◌else◌}
use Rattle.amqp_performatives.specs.declared.transfer.Transfer.{Transfer}
use Rattle.amqp_frames.specs.declared.body.FrameBody.{FrameBody}
use Rattle.amqp_frames.specs.declared.body.FrameBody.TheVariants as b
use Rattle.amqp_transport.specs.declared.frames.Frame.{Frame}

-- a Transfer ends its delivery: it says that no more comes, and does not abort it
abbrev pub ends : Transfer → Bool
ends x = not x.more && not x.aborted

abbrev pub end_of : Transfer → ℕ
end_of x = if ends x then 1 else 0

abbrev pub ended_by : FrameBody → ℕ
ended_by (b.Transfer x payload) = end_of x
ended_by body = 0

-- how many deliveries the frames end
unfoldable pub ended_in : List Frame → ℕ
ended_in [] = 0
ended_in (x ∷ xs) = ended_by x.body + ended_in xs
