-- What the sessions of an end do, one after another.
use Rattle.std.specs.Prelude.{◌≡◌, ℕ, nat_eq, false, List, [], ◌∷◌, ◌++◌, Option, Some, None, if◌then◌else◌}
use Rattle.amqp_calls.specs.declared.call.SessionNumbers.{SessionNumbers}
use Rattle.amqp_frames.specs.declared.shared.ConnectionStopReason.{ConnectionStopReason}
use Rattle.amqp_frames.specs.declared.shared.IncomingSession.{IncomingSession}
use Rattle.amqp_frames.specs.declared.shared.LinkFrame.{LinkFrame}
use Rattle.amqp_session.specs.declared.error.BeginError.{BeginError}
use Rattle.amqp_session.specs.declared.session.LinkInput.{LinkInput}
use Rattle.amqp_session.specs.Begin as session
use Rattle.amqp_session.specs.State.{Framed}
use Rattle.amqp_sessions.specs.Calls.{settings, entered, begun, awaiting, accepted, ended}
use Rattle.amqp_sessions.specs.Frames.{place_of, joined, refused, heard, written, refusing}
use Rattle.amqp_sessions.specs.Parts.{EndpointState}
use Rattle.amqp_sessions.specs.State.{State, endpoint_of, handed_out, TakesFrame, TakesInput, TakesChannel}
use Rattle.amqp_sessions.specs.Stops.{halted, concluded}
use Rattle.indexmap.specs.IndexMap.{swap_remove_entry}
use Rattle.std.specs.Map.{lookup}
use Rattle.session_lives.specs.Logs.{Came}

-- a session is begun under that name; a Begin of the peer is awaited; it is answered under that name; a call is
-- refused; a call ends a session; the frames of a session are to go out; a Close is out; the connection has stopped;
-- a frame is read; the first that is to be written goes to the connection; a channel is given back; the first of what
-- is there for links goes to them; a link of a session writes a frame; a session is ended for an Attach of no link;
-- the answers are taken
pub data Deed : Type 0 where
  Begins : ℕ → SessionNumbers → ℕ → ℕ → Deed
  Awaits : ℕ → SessionNumbers → Deed
  Accepts : ℕ → SessionNumbers → ℕ → ℕ → IncomingSession → Deed
  Refuses : ℕ → BeginError → Deed
  Ends : ℕ → ℕ → Option (List ℕ) → Deed
  HandsOut : ℕ → Deed
  Halts : ConnectionStopReason → Deed
  Concludes : ConnectionStopReason → Deed
  Hears : Framed → Deed
  Writes : Framed → Deed
  Frees : ℕ → Deed
  Gives : ℕ → LinkInput → Deed
  Takes : ℕ → LinkFrame → Deed
  Lacks : ℕ → Deed
  Tells : Deed

-- the sessions before a deed and behind it
abbrev pub IsDeed : State → Deed → State → Type 0
IsDeed old (Begins name x channel limit) new = new ≡ begun name x channel limit old
IsDeed old (Awaits name x) new = new ≡ awaiting name x old
IsDeed old (Accepts name x channel limit incoming) new = new ≡ accepted name x channel limit incoming old
IsDeed old (Refuses name error) new = new ≡ refused name error old
IsDeed old (Ends name session condition) new = new ≡ ended name session condition old
IsDeed old (HandsOut name) new = new ≡ handed_out name old
IsDeed old (Halts why) new = new ≡ halted why old
IsDeed old (Concludes why) new = new ≡ concluded why old
IsDeed old (Hears x) new = new ≡ heard x old
IsDeed old (Writes x) new = TakesFrame old (Some x) new
IsDeed old (Frees channel) new = TakesChannel old (Some channel) new
IsDeed old (Gives session x) new = TakesInput old (Some (session, x)) new
IsDeed old (Takes session x) new = new ≡ written session x old
IsDeed old (Lacks session) new = new ≡ refusing session old
IsDeed old Tells new = new ≡ record old { replies = [] }

-- the sessions did these, one after another
abbrev pub Did : State → List Deed → State → Type 0
Did old [] new = new ≡ old
Did old (d ∷ ds) new = (s : State) × (IsDeed old d s × Did s ds new)

-- ---- what is read

-- the frames that are read, in order
abbrev pub read_of : Deed → List Framed
read_of (Hears x) = x ∷ []
read_of d = []

abbrev pub read_in : List Deed → List Framed
read_in [] = []
read_in (d ∷ ds) = read_of d ++ read_in ds

-- ---- what goes out of them

-- the frames that go to the connection
abbrev pub wrote_of : Deed → List Framed
wrote_of (Writes x) = x ∷ []
wrote_of d = []

abbrev pub wrote_in : List Deed → List Framed
wrote_in [] = []
wrote_in (d ∷ ds) = wrote_of d ++ wrote_in ds

-- what goes to links, each under the name of its session
abbrev pub gave_of : Deed → List (ℕ × LinkInput)
gave_of (Gives session x) = (session, x) ∷ []
gave_of d = []

abbrev pub gave_in : List Deed → List (ℕ × LinkInput)
gave_in [] = []
gave_in (d ∷ ds) = gave_of d ++ gave_in ds

-- ---- what comes to one of them

-- where a session stands
abbrev pub where_there : {X : Type 0} → Option EndpointState → List X → List X
where_there None xs = []
where_there (Some e) xs = xs

abbrev pub hears_if : Option ℕ → ℕ → Framed → List Framed
hears_if None n x = []
hears_if (Some name) n x = if nat_eq n name then x ∷ [] else []

-- a frame is heard by the session that its channel leads to (section 2.5.1)
abbrev pub hears_by : Framed → State → ℕ → List Framed
hears_by x s n = where_there (endpoint_of n s) (hears_if (place_of x s) n x)

abbrev pub hears_all : List Framed → State → ℕ → List Framed
hears_all [] s n = []
hears_all (x ∷ xs) s n = hears_by x s n ++ hears_all xs (heard x s) n

-- a session that is accepted is the one on that channel from then on, and frames that came before are heard
abbrev pub early_at : Option (List Framed) → ℕ → State → ℕ → List Framed
early_at None remote s n = []
early_at (Some xs) remote s n = hears_all xs (record s { early = swap_remove_entry (nat_eq remote) s.early }) n

abbrev pub hears_early : ℕ → State → ℕ → List Framed
hears_early remote s n = early_at (lookup (nat_eq remote) s.early) remote s n

abbrev pub joining : ℕ → SessionNumbers → ℕ → ℕ → IncomingSession → State → State
joining name x channel limit incoming s =
    joined name incoming.channel (entered name channel (session.accepted (settings x limit) channel incoming) s)

-- the frames that the session of that name hears in a deed
abbrev pub heard_of : Deed → State → ℕ → List Framed
heard_of (Hears x) s n = hears_by x s n
heard_of (Accepts name x channel limit incoming) s n =
    hears_early incoming.channel (joining name x channel limit incoming s) n
heard_of d s n = []

-- the frames that links give it
abbrev pub told_of : Deed → State → ℕ → List LinkFrame
told_of (Takes session x) s n = where_there (endpoint_of n s) (if nat_eq n session then x ∷ [] else [])
told_of d s n = []

abbrev pub came_of : Deed → State → ℕ → Came
came_of d s n = record { heard = heard_of d s n; told = told_of d s n }

abbrev pub came_in : (old : State) (ds : List Deed) (new : State) → Did old ds new → ℕ → Came
came_in old [] new h n = record { heard = []; told = [] }
came_in old (d ∷ ds) new h n =
    let rest = came_in h.0 ds new h.1.1 n in
    record { heard = heard_of d old n ++ rest.heard; told = told_of d old n ++ rest.told }

-- ---- names

-- no session is made under that name
abbrev pub IsOther : ℕ → Deed → Type 0
IsOther n (Begins name x channel limit) = nat_eq n name ≡ false
IsOther n (Accepts name x channel limit incoming) = nat_eq n name ≡ false
IsOther n d = Unit {0}

abbrev pub AreOther : ℕ → List Deed → Type 0
AreOther n [] = Unit {0}
AreOther n (d ∷ ds) = IsOther n d × AreOther n ds
