-- Two ends of a link whose Detaches cross on the way (OASIS AMQP 1.0, part 2, sections 2.6.5 and 2.6.6).
use Rattle.std.specs.Prelude.{◌≡◌, ℕ, Bool, true, false, List, [], ◌∷◌, ◌++◌, Option, Some, None, if◌then◌else◌}
use Rattle.amqp_composites.specs.declared.error.Error.{Error as AmqpError}
use Rattle.amqp_composites.specs.declared.modes.Role.TheVariants as role
use Rattle.amqp_link.specs.amqp_frames.amqp_termini.declared.unsettled.UnsettledDelivery.{UnsettledDelivery}
use Rattle.amqp_link.specs.amqp_frames.Body.{read_again_body}
use Rattle.amqp_link.specs.amqp_frames.declared.body.FrameBody.{FrameBody}
use Rattle.amqp_link.specs.amqp_frames.declared.body.FrameBody.TheVariants as b
use Rattle.amqp_link.specs.amqp_performatives.declared.attach.Attach.{Attach}
use Rattle.amqp_link.specs.declared.endpoint.LinkPhase.TheVariants as phase
use Rattle.amqp_link.specs.Link.{Link, attach_read, unexpected, detach_read}
use Rattle.amqp_link.specs.Parting.{parting, wants_handle, reattached}
use Rattle.amqp_link.specs.Rules.{fault_of}

-- ---- two ends that have attached a link to each other

-- both ends have attached the link, neither has said that it leaves it, and the session has not stopped
pub record IsUp (s : Link) : Type 0 where
  pub phase : s.phase ≡ phase.Attached
  pub made : s.is_made ≡ true
  pub unclosed : s.is_closed ≡ false
  pub unread : s.remote ≡ None
  pub kept : s.is_gone ≡ false
  pub free : s.is_stuck ≡ false
  pub unsaid : s.last_error ≡ None
  pub runs : s.stop_reason ≡ None

-- an end has nothing against that Attach of its peer (section 2.6.3)
abbrev pub Suits : Link → Attach → Type 0
Suits s x = fault_of s.own.role false s.verify s.own.snd_settle_mode x ≡ None

-- a sender and a receiver, of which neither has anything against what the other says of the link
pub record AreAttached (s r : Link) : Type 0 where
  pub sends : s.own.role ≡ role.Sender
  pub receives : r.own.role ≡ role.Receiver
  pub one : IsUp s
  pub other : IsUp r
  pub suits : Suits s r.own
  pub suited : Suits r s.own

-- ---- what an end does

-- what an end says as it attaches the link again: its handle, the deliveries that are not settled, and of a sender where its
-- delivery-count is (section 2.7.3)
pub record Anew : Type 0 where
  pub handle : ℕ
  pub unsettled : Option (List UnsettledDelivery)
  pub count : Option ℕ

-- a sender says where its delivery-count is, a receiver does not have to
abbrev pub Counts : Anew → Type 0
Counts n = (count : ℕ) × (n.count ≡ Some count)

-- what it is asked: whether to close the link, and the error that its Detach tells
pub record Asked : Type 0 where
  pub closes : Bool
  pub error : Option AmqpError

-- it writes its Detach
abbrev pub leaving : Asked → Link → Link
leaving k s = (parting k.closes k.error s).link

-- a frame of the peer was read
abbrev pub heard : FrameBody → Link → Link
heard (b.Attach x) s = attach_read x s
heard (b.Detach d) s = detach_read d s
heard other s = unexpected s

-- a link that is to be closed on a further attachment is attached again (section 2.6.6)
abbrev pub attached_again : Anew → Link → Link
attached_again n s = if wants_handle s.phase then reattached n.handle n.unsettled n.count s else s

-- frames that the peer has written are read, one after another
abbrev pub reads : Anew → List FrameBody → Link → Link
reads n [] s = s
reads n (x ∷ xs) s = reads n xs (attached_again n (heard (read_again_body x) s))

-- Each end was asked to leave the link before it read the other's Detach, and has then read all that the other has written
-- since it was asked.
pub record Cross (s : Link) (k : Asked) (n : Anew) (xs : List FrameBody)
    (r : Link) (l : Asked) (m : Anew) (ys : List FrameBody) : Type 0 where
  pub one : (reads n ys (leaving k s)).output ≡ s.output ++ xs
  pub other : (reads m xs (leaving l r)).output ≡ r.output ++ ys

-- One end was asked to leave the link, and the other was not; each has read all that the other has written since.
pub record Leaves (s : Link) (k : Asked) (n : Anew) (xs : List FrameBody)
    (r : Link) (m : Anew) (ys : List FrameBody) : Type 0 where
  pub one : (reads n ys (leaving k s)).output ≡ s.output ++ xs
  pub other : (reads m xs r).output ≡ r.output ++ ys

-- Each end was asked to leave the link before it read the other's Detach, and has read the first of what the other has written since: the
-- one has read these, and written those.
pub record OnTheWay (s : Link) (k : Asked) (n : Anew) (xs read : List FrameBody)
    (r : Link) (l : Asked) (m : Anew) (ys heard : List FrameBody) : Type 0 where
  pub one : (reads n read (leaving k s)).output ≡ s.output ++ xs
  pub other : (reads m heard (leaving l r)).output ≡ r.output ++ ys
  pub unread : List FrameBody
  pub reads : read ++ unread ≡ ys
  pub unheard : List FrameBody
  pub hears : heard ++ unheard ≡ xs
