-- A sender and a receiver that both leave their link (OASIS AMQP 1.0, part 2, sections 2.6.5 and 2.6.6).
use Rattle.std.specs.Prelude.{◌≡◌, ℕ, List, [], ◌∷◌, ◌++◌, Some, None, if◌then◌else◌}
use Rattle.amqp_link.specs.amqp_frames.Body.{read_again_body}
use Rattle.amqp_link.specs.amqp_frames.declared.body.FrameBody.{FrameBody}
use Rattle.amqp_link.specs.amqp_frames.declared.body.FrameBody.TheVariants as b
use Rattle.amqp_link.specs.Link.{attach_read, detach_read, unexpected}
use Rattle.amqp_link.specs.Parting.{wants_handle}
use Rattle.amqp_receiver.specs.Parting as receiver_parting
use Rattle.amqp_receiver.specs.Receiver as receiver
use Rattle.amqp_sender.specs.Parting as sender_parting
use Rattle.amqp_sender.specs.Sender as sender
use Rattle.amqp_sender.specs.Sending as sending
use Rattle.crossing_laws.specs.Agreement.{Parted, has_unsettled, written}
use Rattle.crossing_laws.specs.Ends.{Anew, Asked, AreAttached, leaving}

-- ---- a sender

-- what it says as it attaches again at that handle
abbrev pub sender_anew : ℕ → sender.State → Anew
sender_anew handle s = record {
  handle = handle;
  unsettled = sender_parting.map_of (sender_parting.all_told s.unsettled);
  count = Some s.delivery_count;
}

abbrev pub sender_leaves : Asked → sender.State → sender.State
sender_leaves k s = record s { link = leaving k s.link }

abbrev pub sender_heard : FrameBody → sender.State → sender.State
sender_heard (b.Attach x) s = record s { link = attach_read x s.link }
sender_heard (b.Detach d) s = record s { link = detach_read d s.link }
sender_heard (b.Flow x) s = sending.flow_read x s
sender_heard other s = record s { link = unexpected s.link }

abbrev pub sender_again : ℕ → sender.State → sender.State
sender_again handle s = if wants_handle s.link.phase then sender_parting.reattached handle s else s

abbrev pub sender_reads : ℕ → List FrameBody → sender.State → sender.State
sender_reads handle [] s = s
sender_reads handle (x ∷ xs) s = sender_reads handle xs (sender_again handle (sender_heard (read_again_body x) s))

-- ---- a receiver

abbrev pub receiver_anew : ℕ → receiver.State → Anew
receiver_anew handle s =
    record { handle = handle; unsettled = receiver_parting.map_of (receiver_parting.unsettled_of s); count = None }

abbrev pub receiver_leaves : Asked → receiver.State → receiver.State
receiver_leaves k s = record s { link = leaving k s.link }

abbrev pub receiver_heard : FrameBody → receiver.State → receiver.State
receiver_heard (b.Attach x) s = receiver.attach_read x s
receiver_heard (b.Detach d) s = record s { link = detach_read d s.link }
receiver_heard (b.Flow x) s = receiver.flow_read x s
receiver_heard (b.Transfer x payload) s = receiver.transfer_read x payload s
receiver_heard other s = record s { link = unexpected s.link }

abbrev pub receiver_again : ℕ → receiver.State → receiver.State
receiver_again handle s = if wants_handle s.link.phase then receiver_parting.reattached handle s else s

abbrev pub receiver_reads : ℕ → List FrameBody → receiver.State → receiver.State
receiver_reads handle [] s = s
receiver_reads handle (x ∷ xs) s = receiver_reads handle xs (receiver_again handle (receiver_heard (read_again_body x) s))

-- ---- both

-- Each was asked to leave the link before it read the other's Detach, would attach again at that handle, and has read all that the other
-- has written since.
pub record EndpointsCross (s : sender.State) (k : Asked) (handle : ℕ) (xs : List FrameBody)
    (r : receiver.State) (l : Asked) (other_handle : ℕ) (ys : List FrameBody) : Type 0 where
  pub one : (sender_reads handle ys (sender_leaves k s)).link.output ≡ s.link.output ++ xs
  pub other : (receiver_reads other_handle xs (receiver_leaves l r)).link.output ≡ r.link.output ++ ys

-- both have written just this, and have come out of it alike
pub record EndpointsAgree (s : sender.State) (k : Asked) (handle : ℕ) (xs : List FrameBody)
    (r : receiver.State) (l : Asked) (other_handle : ℕ) (ys : List FrameBody) : Type 0 where
  pub wrote : xs ≡ written s.link k (sender_anew handle s) l (receiver_anew other_handle r)
  pub answered : ys ≡ written r.link l (receiver_anew other_handle r) k (sender_anew handle s)
  pub one :
      Parted k l (has_unsettled (sender_anew handle s) (receiver_anew other_handle r))
      (sender_reads handle ys (sender_leaves k s)).link
  pub other :
      Parted l k (has_unsettled (sender_anew handle s) (receiver_anew other_handle r))
      (receiver_reads other_handle xs (receiver_leaves l r)).link

-- once each has read what the other has written, they agree
abbrev pub SenderAndReceiverAgree : Type 0
SenderAndReceiverAgree =
    (s : sender.State) (k : Asked) (handle : ℕ) (xs : List FrameBody)
    (r : receiver.State) (l : Asked) (other_handle : ℕ) (ys : List FrameBody)
    → AreAttached s.link r.link → EndpointsCross s k handle xs r l other_handle ys → EndpointsAgree s k handle xs r l other_handle ys

-- and there are such frames
abbrev pub SenderAndReceiverMeet : Type 0
SenderAndReceiverMeet =
    (s : sender.State) (k : Asked) (handle : ℕ) (r : receiver.State) (l : Asked) (other_handle : ℕ) → AreAttached s.link r.link
    → EndpointsCross s k handle (written s.link k (sender_anew handle s) l (receiver_anew other_handle r))
    r l other_handle (written r.link l (receiver_anew other_handle r) k (sender_anew handle s))
