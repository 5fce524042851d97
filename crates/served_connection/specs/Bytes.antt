-- What runs over links have done, with what stands in their bytes (OASIS AMQP 1.0, part 2, sections 2.3 to 2.6).
use Rattle.std.specs.Prelude.{◌≤◌, ℕ, length, List, [], Option}
use Rattle.list_laws.specs.Told.{Gains}
use Rattle.amqp_wire.specs.declared.link.Link.{Ghosts}
use Rattle.amqp_transport.specs.declared.frames.Frame.{Frame}
use Rattle.amqp_end.specs.declared.end.End.{End}
use Rattle.amqp_end.specs.Deeds.{heard_by}
use Rattle.amqp_peer.specs.declared.peer.PeerKind.TheVariants.{Client, Listener}
use Rattle.amqp_served.specs.Count.{count_text}
use Rattle.amqp_serve.specs.Endings.{WasServed}
use Rattle.amqp_serve.specs.Ran.{Connected}
use Rattle.served_connection.specs.ServeLaws.History.{IsFresh}
use Rattle.served_connection.specs.ServeLaws.Runs.{ServedFrames, ConnectedFrames, served_life}
use Rattle.served_connection.specs.ListenLaws.Carried.{AreAnew, carried}
use Rattle.served_connection.specs.ListenLaws.Ended.{ended_in}

-- the frames that the sessions of an end heard while it was served
abbrev pub frames_heard : {L : Type 0} (link : Ghosts L) (old new : End L) (count : ℕ) → WasServed link old new count → List Frame
frames_heard link old new count served = heard_by (served_life link old new count served).deeds

-- An end was served, the line of so many messages was written, and this stands in the bytes of its link. It counts no more messages than
-- the frames that its sessions heard end deliveries, and, where no Transfer resumes one, than they carry deliveries whole (section 2.6.14).
pub record Served {L : Type 0} (link : Ghosts L) (first : L) (old new : End L) (written written' : Option (List ℕ)) : Type 0 where
  pub count : ℕ
  pub served : WasServed link old new count
  pub wrote : Gains written written' (count_text count)
  pub frames : ServedFrames link first old new count served
  pub came : count ≤ ended_in (frames_heard link old new count served)
  pub whole : AreAnew (frames_heard link old new count served) → count ≤ length (carried [] (frames_heard link old new count served))

-- an end has sent that string so many times and closed the connection, and this stands in the bytes of its link
pub record Sent {L : Type 0} (link : Ghosts L) (first : L) (old new : End L) (text : List ℕ) (count : ℕ) : Type 0 where
  pub connected : Connected link old new text count
  pub frames : ConnectedFrames link first old new text count connected

-- ---- over a link, from the first call on

-- an end of a listener over that link, on which nothing was done, was served
pub record HasServed {L : Type 0} (link : Ghosts L) (first : L) (written written' : Option (List ℕ)) : Type 0 where
  pub old : End L
  pub new : End L
  pub fresh : IsFresh first Listener old
  pub served : Served link first old new written written'

-- an end of a client over that link, on which nothing was done, has sent that string so many times
pub record HasSent {L : Type 0} (link : Ghosts L) (first : L) (text : List ℕ) (count : ℕ) : Type 0 where
  pub old : End L
  pub new : End L
  pub fresh : IsFresh first Client old
  pub sent : Sent link first old new text count
