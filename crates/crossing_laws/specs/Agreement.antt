-- How two ends that both leave a link come out of it (OASIS AMQP 1.0, part 2, section 2.6.6).
use Rattle.std.specs.Prelude.{◌≡◌, Bool, true, false, ◌||◌, is_some, List, [], ◌∷◌, Option, Some, None}
use Rattle.amqp_composites.specs.declared.error.Error.{Error as AmqpError}
use Rattle.amqp_link.specs.amqp_frames.declared.body.FrameBody.{FrameBody}
use Rattle.amqp_link.specs.amqp_frames.declared.body.FrameBody.TheVariants as b
use Rattle.amqp_link.specs.declared.endpoint.DetachPoll.{DetachPoll}
use Rattle.amqp_link.specs.declared.endpoint.DetachPoll.TheVariants.{Done, Failed}
use Rattle.amqp_link.specs.declared.endpoint.LinkPhase.TheVariants as phase
use Rattle.amqp_link.specs.declared.error.DetachError.TheVariants as error
use Rattle.amqp_link.specs.Link.{Link, agree, illegal_state, is_closed_by_one}
use Rattle.amqp_link.specs.Parting.{again, parting, parted_poll, parted_by, detach_news}
use Rattle.crossing_laws.specs.Ends.{Anew, Asked, leaving, reads}

-- one of the ends has deliveries that are not settled
abbrev pub has_unsettled : Anew → Anew → Bool
has_unsettled n m = is_some n.unsettled || is_some m.unsettled

-- the error of the Detach by which such a link is closed on its further attachment
abbrev pub closing_error : Bool → Option AmqpError
closing_error true = Some illegal_state
closing_error false = None

-- What an end writes: its Detach; and where one end closes the link and the other does not, an Attach and a closing Detach.
abbrev pub written_for : Bool → Link → Asked → Anew → Bool → List FrameBody
written_for true s k n unsettled = b.Detach (record { handle = s.own.handle; closed = k.closes; error = k.error }) ∷ []
written_for false s k n unsettled =
    b.Detach (record { handle = s.own.handle; closed = k.closes; error = k.error })
    ∷ b.Attach (again n.handle n.unsettled n.count s.own)
    ∷ b.Detach (record { handle = n.handle; closed = true; error = closing_error unsettled }) ∷ []

abbrev pub written : Link → Asked → Anew → Asked → Anew → List FrameBody
written s k n l m = written_for (agree k.closes l.closes) s k n (has_unsettled n m)

-- whether the last Detach among frames closes the link, where the one before them did that
abbrev pub last_closes : Bool → List FrameBody → Bool
last_closes closed [] = closed
last_closes closed (b.Detach d ∷ xs) = last_closes d.closed xs
last_closes closed (other ∷ xs) = last_closes closed xs

-- the link went as the call has asked, but the peer's Detach tells an error
abbrev pub left_by : Bool → Option AmqpError → DetachPoll
left_by closed None = Done
left_by true (Some e) = Failed (error.RemoteClosedWithError e)
left_by false (Some e) = Failed (error.RemoteDetachedWithError e)

-- What the call is told: whether it closes the link, whether the peer's does, the error that this tells, and whether deliveries are not
-- settled. A call that detaches a link which the peer closes is told so; a link whose deliveries are not settled is closed, but not as it
-- was asked.
abbrev pub told : Bool → Bool → Option AmqpError → Bool → DetachPoll
told true true e unsettled = left_by true e
told false false e unsettled = left_by false e
told closes closed e true = Failed error.IllegalState
told true false e false = left_by false e
told false true e false = Failed error.ClosedByRemote

-- An end that was asked k, and its peer l: both have detached, the link is closed where either of them closes it, the call is told this,
-- and a call that waits for the peer's Detach is told of that.
pub record Parted (k : Asked) (l : Asked) (unsettled : Bool) (s : Link) : Type 0 where
  pub phase : s.phase ≡ phase.Detached
  pub closed : is_closed_by_one s ≡ (k.closes || l.closes)
  pub answer : parted_poll k.closes s ≡ told k.closes l.closes l.error unsettled
  pub news : detach_news s ≡ Some (parted_by l.closes l.error)

-- what a call is told of a link that both ends have detached before
abbrev pub told_late : Bool → Bool → DetachPoll
told_late true false = Failed error.ClosedByRemote
told_late closed closes = Done

-- An end that is asked l once it has answered the Detach of its peer, which was asked k.
pub record PartedLate (k : Asked) (l : Asked) (s : Link) : Type 0 where
  pub phase : s.phase ≡ phase.Detached
  pub closed : is_closed_by_one s ≡ k.closes
  pub answer : (parting l.closes l.error s).answer ≡ told_late k.closes l.closes
  pub silent : (parting l.closes l.error s).link ≡ s
  pub news : detach_news s ≡ Some (parted_by k.closes k.error)

-- One end leaves the link, and the other answers at once: each writes one Detach, of which both close the link or neither does.
pub record Answered (s : Link) (k : Asked) (n : Anew) (xs : List FrameBody)
    (r : Link) (m : Anew) (ys : List FrameBody) : Type 0 where
  pub wrote : xs ≡ b.Detach (record { handle = s.own.handle; closed = k.closes; error = k.error }) ∷ []
  pub answered : ys ≡ b.Detach (record { handle = r.own.handle; closed = k.closes; error = None }) ∷ []
  pub one : Parted k (record { closes = k.closes; error = None }) false (reads n ys (leaving k s))
  pub other : (l : Asked) → PartedLate k l (reads m xs r)

-- both ends have written just this, which closes the link where either of them closes it, and have come out of it alike
pub record Agree (s : Link) (k : Asked) (n : Anew) (xs : List FrameBody)
    (r : Link) (l : Asked) (m : Anew) (ys : List FrameBody) : Type 0 where
  pub wrote : xs ≡ written s k n l m
  pub answered : ys ≡ written r l m k n
  pub one_closes : last_closes false xs ≡ (k.closes || l.closes)
  pub other_closes : last_closes false ys ≡ (k.closes || l.closes)
  pub one : Parted k l (has_unsettled n m) (reads n ys (leaving k s))
  pub other : Parted l k (has_unsettled n m) (reads m xs (leaving l r))
