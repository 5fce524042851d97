-- The laws of ends that cross (OASIS AMQP 1.0, part 2, sections 2.6.5 and 2.6.6).
use Rattle.std.specs.Prelude.{◌≡◌, Bool, List, ◌++◌, ◌⊎◌}
use Rattle.amqp_link.specs.amqp_frames.declared.body.FrameBody.{FrameBody}
use Rattle.amqp_link.specs.declared.endpoint.LinkPhase.TheVariants as phase
use Rattle.amqp_link.specs.declared.endpoint.DetachPoll.TheVariants.{Pending}
use Rattle.amqp_link.specs.Link.{Link}
use Rattle.amqp_link.specs.Parting.{parted_poll}
use Rattle.crossing_laws.specs.Ends.{IsUp, AreAttached, Asked, Anew, Counts, Leaves, Cross, OnTheWay, leaving, reads}
use Rattle.crossing_laws.specs.Agreement.{Answered, Agree, has_unsettled, told, written}
use Rattle.crossing_laws.specs.Lives.{Move, after_all, Meet, Stands}

-- Two ends that have read each other's Attach and refuse nothing in it, and whatever each has gone through since: as long as both stand,
-- they are attached to each other.
abbrev pub EndsStayAttached : Type 0
EndsStayAttached =
    (s r : Link) (ms ns : List Move) → Meet s r → s.phase ≡ phase.Attached → r.phase ≡ phase.Attached
    → Stands (after_all s ms) → Stands (after_all r ns)
    → AreAttached (after_all s ms) (after_all r ns)

-- One end leaves the link: once each has read what the other has written, both are detached, and a call that comes later is told so.
abbrev pub OneEndLeaves : Type 0
OneEndLeaves =
    (s : Link) (k : Asked) (n : Anew) (xs : List FrameBody) (r : Link) (m : Anew) (ys : List FrameBody)
    → IsUp s → IsUp r → Leaves s k n xs r m ys → Answered s k n xs r m ys

-- Whatever both ends are asked, with whatever errors, and at whatever handles they attach again: once each has read what the other has
-- written, they agree.
abbrev pub EndsAgree : Type 0
EndsAgree =
    (s : Link) (k : Asked) (n : Anew) (xs : List FrameBody) (r : Link) (l : Asked) (m : Anew) (ys : List FrameBody)
    → AreAttached s r → Counts n → Cross s k n xs r l m ys → Agree s k n xs r l m ys

-- The call of an end waits, or the end has written all that it writes, and the call is told how it went.
abbrev pub WaitsOrIsTold : Link → Asked → Asked → Bool → List FrameBody → List FrameBody → Type 0
WaitsOrIsTold t k l unsettled xs all =
    (parted_poll k.closes t ≡ Pending) ⊎ ((parted_poll k.closes t ≡ told k.closes l.closes l.error unsettled) × (xs ≡ all))

-- at every moment on the way each has written the first of these frames, and its call waits for the last of them
pub record Within (s : Link) (k : Asked) (n : Anew) (xs read : List FrameBody)
    (r : Link) (l : Asked) (m : Anew) (ys heard : List FrameBody) : Type 0 where
  pub later : List FrameBody
  pub one : xs ++ later ≡ written s k n l m
  pub after : List FrameBody
  pub other : ys ++ after ≡ written r l m k n
  pub told_one : WaitsOrIsTold (reads n read (leaving k s)) k l (has_unsettled n m) xs (written s k n l m)
  pub told_other : WaitsOrIsTold (reads m heard (leaving l r)) l k (has_unsettled n m) ys (written r l m k n)

abbrev pub NothingElseIsWritten : Type 0
NothingElseIsWritten =
    (s : Link) (k : Asked) (n : Anew) (xs read : List FrameBody) (r : Link) (l : Asked) (m : Anew) (ys heard : List FrameBody)
    → AreAttached s r → Counts n → OnTheWay s k n xs read r l m ys heard → Within s k n xs read r l m ys heard

-- and there are such frames
abbrev pub CrossingIsMet : Type 0
CrossingIsMet =
    (s : Link) (k : Asked) (n : Anew) (r : Link) (l : Asked) (m : Anew)
    → AreAttached s r → Counts n → Cross s k n (written s k n l m) r l m (written r l m k n)
