-- Bytes that come in while something is waited for.
use Rattle.std.specs.Prelude.{◌≡◌, ◌+◌, ℕ, List, [], ◌++◌, Result, Ok, Err, ⊤}
use Rattle.amqp_wire.specs.declared.link.Link.{Ghosts}
use Rattle.amqp_wire.specs.declared.frame.Front.{Front}
use Rattle.amqp_wire.specs.declared.frame.Front.TheVariants.{Partial, Refused, Foreign, Whole}
use Rattle.amqp_wire.specs.declared.reading.Wait.{Wait}
use Rattle.amqp_wire.specs.declared.reading.Wait.TheVariants.{Over, Stopped, Spent}
use Rattle.amqp_wire.specs.declared.reading.Arrival.{Arrival}
use Rattle.amqp_wire.specs.Codec.{Codec, limits_of}
use Rattle.amqp_wire.specs.Events.{LinkEvent, NotRead, Went, read_of, wrote_of, reads_in, Includes}

-- the wait that an answer tells; want of memory tells none
abbrev pub wait_in : {E : Type 0} → Result Wait E → Wait
wait_in (Ok w) = w
wait_in (Err e) = Over

abbrev pub wait_of : {E : Type 0} → Result Arrival E → Wait
wait_of (Ok a) = a.wait
wait_of (Err e) = Over

-- why a wait ended
abbrev pub IsWaitEnd : Wait → List LinkEvent → ℕ → Type 0
IsWaitEnd Over events left = ⊤
IsWaitEnd (Stopped stop) events left = Includes events (NotRead stop)
IsWaitEnd Spent events left = left ≡ 0

-- A codec took in what came, and nothing else of it changed; the reads that gave bytes are gone from those that were left.
pub record ReadOn {L : Type 0} (link : Ghosts L) (old : Codec L) (left : ℕ) (wait : Wait) (new : Codec L) (left' : ℕ) : Type 0 where
  pub events : List LinkEvent
  pub went : Went link old.link events new.link
  pub silent : wrote_of events ≡ []
  pub input : new.input ≡ old.input ++ read_of events
  pub output : new.output ≡ old.output
  pub limits : limits_of new ≡ limits_of old
  pub counted : left' + reads_in events ≡ left
  pub end : IsWaitEnd wait events left'

-- the wait is over exactly where the front is known
abbrev pub IsKnown : Front → Wait → Type 0
IsKnown Partial Over = ⊥
IsKnown Partial (Stopped stop) = ⊤
IsKnown Partial Spent = ⊤
IsKnown Refused w = w ≡ Over
IsKnown Foreign w = w ≡ Over
IsKnown (Whole size start channel) w = w ≡ Over
