-- What a sender and a receiver read of a link that they leave, their links read.
use Rattle.std.specs.Prelude.{◌≡◌, ℕ, Bool, true, false, not, ◌&&◌, ◌||◌, List, [], ◌∷◌, Option, Some, None, if◌then◌else◌, refl}
use Rattle.std.proofs.Common.{sym, ◌∙◌, ap, subst}
use Rattle.amqp_link.specs.amqp_frames.Body.{read_again_body}
use Rattle.amqp_link.specs.amqp_frames.declared.body.FrameBody.{FrameBody}
use Rattle.amqp_link.specs.amqp_frames.declared.body.FrameBody.TheVariants as b
use Rattle.amqp_link.specs.amqp_performatives.declared.attach.Attach.{Attach}
use Rattle.amqp_link.specs.amqp_performatives.declared.detach.Detach.{Detach}
use Rattle.amqp_link.specs.amqp_performatives.declared.flow.Flow.{Flow}
use Rattle.amqp_link.specs.amqp_performatives.declared.transfer.Transfer.{Transfer}
use Rattle.amqp_link.specs.declared.endpoint.LinkPhase.{LinkPhase}
use Rattle.amqp_link.specs.declared.endpoint.LinkPhase.TheVariants as phase
use Rattle.amqp_link.specs.declared.error.AttachFault.{AttachFault}
use Rattle.amqp_link.specs.Link as link
use Rattle.amqp_link.specs.Link.{Link, attach_in, detach_in, unexpected_in, reclosed_unless, phase_behind, agree, has_unsettled as tells_unsettled}
use Rattle.amqp_link.specs.Parting.{wants_handle, reattached}
use Rattle.amqp_link.specs.Rules.{fault_of}
use Rattle.amqp_receiver.specs.Parting as receiver_parting
use Rattle.amqp_receiver.specs.Receiver as receiver
use Rattle.amqp_sender.specs.Parting as sender_parting
use Rattle.amqp_sender.specs.Sender as sender
use Rattle.amqp_sender.specs.Sending as sending
use Rattle.crossing_laws.specs.Agreement.{Agree, Parted, written}
use Rattle.crossing_laws.specs.Agreement as agreement
use Rattle.crossing_laws.specs.Ends.{IsUp, Anew, Asked, Cross, leaving, heard, attached_again, reads}
use Rattle.crossing_laws.specs.Endpoints.{sender_anew, sender_leaves, sender_heard, sender_again, sender_reads, receiver_anew, receiver_leaves, receiver_heard, receiver_again, receiver_reads, SenderAndReceiverAgree, SenderAndReceiverMeet}
use Rattle.crossing_laws.proofs.Agrees.{ends_agree, crossing_is_met}
use Rattle.crossing_laws.proofs.Stages.{up, still_up}

-- ---- a link that was left

-- it is not attached any more, and was once
Gone : LinkPhase → Type 0
Gone phase.AttachSent = ⊥
Gone phase.Attached = ⊥
Gone other = Unit {0}

Left : Link → Type 0
Left s = Gone s.phase × (s.is_made ≡ true)

reclosed_left : (o : Option AttachFault) (u : Bool) (s : Link) → s.is_made ≡ true → Left (reclosed_unless o u s)
unfolding Gone Left
reclosed_left (Some x) u s m = (tt, m)
reclosed_left None true s m = (tt, m)
reclosed_left None false s m = (tt, m)

attach_left : (p : LinkPhase) (x : Attach) (s : Link) → Gone p → s.is_made ≡ true → Left (attach_in p x (record s { phase = p }))
unfolding Gone Left
attach_left phase.AttachSent x s g m = absurd g
attach_left phase.Attached x s g m = absurd g
attach_left phase.ReattachSent x s g m = reclosed_left (fault_of s.own.role false s.verify s.own.snd_settle_mode x) (tells_unsettled s.own || tells_unsettled x) (record s { phase = phase.ReattachSent }) m
attach_left other x s g m = (tt, m)

behind_gone : (a c : Bool) → Gone (phase_behind a c)
unfolding Gone
behind_gone true c = tt
behind_gone false true = tt
behind_gone false false = tt

detach_left : (p : LinkPhase) (d : Detach) (s : Link) → Gone p → s.is_made ≡ true → Left (detach_in p d (record s { phase = p }))
unfolding Gone Left
detach_left phase.AttachSent d s g m = absurd g
detach_left phase.Attached d s g m = absurd g
detach_left phase.DetachSent d s g m = (behind_gone (agree s.is_closed d.closed) s.is_parting, m)
detach_left phase.CloseSent d s g m = (behind_gone (agree s.is_closed d.closed) s.is_parting, m)
detach_left other d s g m = (tt, m)

unexpected_left : (p : LinkPhase) (s : Link) → Gone p → s.is_made ≡ true → Left (unexpected_in p (record s { phase = p }))
unfolding Gone Left
unexpected_left phase.AttachSent s g m = absurd g
unexpected_left phase.Attached s g m = absurd g
unexpected_left other s g m = (tt, m)

heard_left : (x : FrameBody) (s : Link) → Left s → Left (heard x s)
unfolding Left
heard_left (b.Attach x) s l = attach_left s.phase x s l.0 l.1
heard_left (b.Detach d) s l = detach_left s.phase d s l.0 l.1
heard_left other s l = unexpected_left s.phase s l.0 l.1

either_left : (t : Bool) (n : Anew) (s : Link) → Left s → Left (if t then reattached n.handle n.unsettled n.count s else s)
unfolding Gone Left
either_left true n s l = (tt, l.1)
either_left false n s l = l

again_left : (n : Anew) (s : Link) → Left s → Left (attached_again n s)
again_left n s l = either_left (wants_handle s.phase) n s l

-- ---- a sender

sender_flow : (p : LinkPhase) (x : Flow) (s : sender.State) → Gone p → sending.flow_in p x s ≡ record s { link = link.unexpected s.link }
unfolding Gone
sender_flow phase.AttachSent x s g = absurd g
sender_flow phase.Attached x s g = absurd g
sender_flow other x s g = refl

sender_hears : (x : FrameBody) (s : sender.State) → Left s.link → sender_heard x s ≡ record s { link = heard x s.link }
unfolding Left
sender_hears (b.Attach x) s l = refl
sender_hears (b.Detach d) s l = refl
sender_hears (b.Flow x) s l = sender_flow s.link.phase x s l.0
sender_hears other s l = refl

-- it attaches again as its link does, and says the same of its deliveries
sender_either : (t : Bool) (handle : ℕ) (s : sender.State)
    → ((if t then sender_parting.reattached handle s else s).link ≡ (if t then reattached handle (sender_anew handle s).unsettled (Some s.delivery_count) s.link else s.link))
    × (sender_anew handle (if t then sender_parting.reattached handle s else s) ≡ sender_anew handle s)
sender_either true handle s = (refl, refl)
sender_either false handle s = (refl, refl)

sender_steps : (x : FrameBody) (handle : ℕ) (s : sender.State) → Left s.link
    → ((sender_again handle (sender_heard x s)).link ≡ attached_again (sender_anew handle s) (heard x s.link)) × (sender_anew handle (sender_again handle (sender_heard x s)) ≡ sender_anew handle s)
sender_steps x handle s l =
    let e = sender_hears x s l in
    let t : sender.State = record s { link = heard x s.link } in
    let a = sender_either (wants_handle t.link.phase) handle t in
    (ap (λ (u : sender.State). (sender_again handle u).link) e ∙ a.0, ap (λ (u : sender.State). sender_anew handle (sender_again handle u)) e ∙ a.1)

sender_projects : (handle : ℕ) (xs : List FrameBody) (s : sender.State) → Left s.link → (sender_reads handle xs s).link ≡ reads (sender_anew handle s) xs s.link
sender_projects handle [] s l = refl
sender_projects handle (x ∷ xs) s l =
    let y = read_again_body x in
    let n = sender_anew handle s in
    let t = sender_again handle (sender_heard y s) in
    let a = sender_steps y handle s l in
    let k = subst Left (sym a.0) (again_left n (heard y s.link) (heard_left y s.link l)) in
    sender_projects handle xs t k ∙ ap (λ m. reads m xs t.link) a.1 ∙ ap (λ u. reads n xs u) a.0

-- ---- a receiver

receiver_flow : (p : LinkPhase) (x : Flow) (s : receiver.State) → Gone p → receiver.flow_in p x s ≡ record s { link = link.unexpected s.link }
unfolding Gone
receiver_flow phase.AttachSent x s g = absurd g
receiver_flow phase.Attached x s g = absurd g
receiver_flow other x s g = refl

receiver_transfer : (p : LinkPhase) (x : Transfer) (payload : List ℕ) (s : receiver.State) → Gone p → receiver.transfer_in p x payload s ≡ record s { link = link.unexpected s.link }
unfolding Gone
receiver_transfer phase.AttachSent x payload s g = absurd g
receiver_transfer phase.Attached x payload s g = absurd g
receiver_transfer other x payload s g = refl

receiver_attach : (x : Attach) (s : receiver.State) → s.link.is_made ≡ true → receiver.attach_read x s ≡ record s { link = link.attach_read x s.link }
receiver_attach x s m = ap (λ v. receiver.opened_if (not v && (link.attach_read x s.link).is_made) x.initial_delivery_count (record s { link = link.attach_read x s.link })) m

receiver_hears : (x : FrameBody) (s : receiver.State) → Left s.link → receiver_heard x s ≡ record s { link = heard x s.link }
unfolding Left
receiver_hears (b.Attach x) s l = receiver_attach x s l.1
receiver_hears (b.Detach d) s l = refl
receiver_hears (b.Flow x) s l = receiver_flow s.link.phase x s l.0
receiver_hears (b.Transfer x payload) s l = receiver_transfer s.link.phase x payload s l.0
receiver_hears other s l = refl

receiver_either : (t : Bool) (handle : ℕ) (s : receiver.State)
    → ((if t then receiver_parting.reattached handle s else s).link ≡ (if t then reattached handle (receiver_anew handle s).unsettled None s.link else s.link))
    × (receiver_anew handle (if t then receiver_parting.reattached handle s else s) ≡ receiver_anew handle s)
receiver_either true handle s = (refl, refl)
receiver_either false handle s = (refl, refl)

receiver_steps : (x : FrameBody) (handle : ℕ) (s : receiver.State) → Left s.link
    → ((receiver_again handle (receiver_heard x s)).link ≡ attached_again (receiver_anew handle s) (heard x s.link)) × (receiver_anew handle (receiver_again handle (receiver_heard x s)) ≡ receiver_anew handle s)
receiver_steps x handle s l =
    let e = receiver_hears x s l in
    let t : receiver.State = record s { link = heard x s.link } in
    let a = receiver_either (wants_handle t.link.phase) handle t in
    (ap (λ (u : receiver.State). (receiver_again handle u).link) e ∙ a.0, ap (λ (u : receiver.State). receiver_anew handle (receiver_again handle u)) e ∙ a.1)

receiver_projects : (handle : ℕ) (xs : List FrameBody) (s : receiver.State) → Left s.link → (receiver_reads handle xs s).link ≡ reads (receiver_anew handle s) xs s.link
receiver_projects handle [] s l = refl
receiver_projects handle (x ∷ xs) s l =
    let y = read_again_body x in
    let n = receiver_anew handle s in
    let t = receiver_again handle (receiver_heard y s) in
    let a = receiver_steps y handle s l in
    let k = subst Left (sym a.0) (again_left n (heard y s.link) (heard_left y s.link l)) in
    receiver_projects handle xs t k ∙ ap (λ m. reads m xs t.link) a.1 ∙ ap (λ u. reads n xs u) a.0

-- ---- both

-- an end that has written its Detach has left the link
left_up : (closes : Bool) (k : Asked) (s : Link) → k.closes ≡ closes → s.is_made ≡ true → Left (leaving k (up s))
unfolding Gone Left
left_up closes k s e m = subst (λ t. Left (leaving (record { closes = t; error = k.error }) (up s))) (sym e) (at closes)
  where
    at : (t : Bool) → Left (leaving (record { closes = t; error = k.error }) (up s))
    at true = (tt, m)
    at false = (tt, m)

left_behind : (k : Asked) (s : Link) → IsUp s → Left (leaving k s)
left_behind k s u = subst (λ t. Left (leaving k t)) (sym (still_up s u)) (left_up k.closes k s refl u.made)

sender_side : (handle : ℕ) (k : Asked) (s : sender.State) (ys : List FrameBody) → IsUp s.link
    → (sender_reads handle ys (sender_leaves k s)).link ≡ reads (sender_anew handle s) ys (leaving k s.link)
sender_side handle k s ys u = sender_projects handle ys (sender_leaves k s) (left_behind k s.link u)

receiver_side : (handle : ℕ) (l : Asked) (r : receiver.State) (xs : List FrameBody) → IsUp r.link
    → (receiver_reads handle xs (receiver_leaves l r)).link ≡ reads (receiver_anew handle r) xs (leaving l r.link)
receiver_side handle l r xs u = receiver_projects handle xs (receiver_leaves l r) (left_behind l r.link u)

pub sender_and_receiver_agree : SenderAndReceiverAgree
sender_and_receiver_agree s k handle xs r l other_handle ys a x =
    let n = sender_anew handle s in
    let m = receiver_anew other_handle r in
    let u = agreement.has_unsettled n m in
    let p = sender_side handle k s ys a.one in
    let q = receiver_side other_handle l r xs a.other in
    let c : Cross s.link k n xs r.link l m ys = record { one = ap (λ (t : Link). t.output) (sym p) ∙ x.one; other = ap (λ (t : Link). t.output) (sym q) ∙ x.other } in
    let e = ends_agree s.link k n xs r.link l m ys a (s.delivery_count, refl) c in
    record {
      wrote = e.wrote;
      answered = e.answered;
      one = subst (λ t. Parted k l u t) (sym p) e.one;
      other = subst (λ t. Parted l k u t) (sym q) e.other;
    }

pub sender_and_receiver_meet : SenderAndReceiverMeet
sender_and_receiver_meet s k handle r l other_handle a =
    let n = sender_anew handle s in
    let m = receiver_anew other_handle r in
    let c = crossing_is_met s.link k n r.link l m a (s.delivery_count, refl) in
    record {
      one = ap (λ (t : Link). t.output) (sender_side handle k s (written r.link l m k n) a.one) ∙ c.one;
      other = ap (λ (t : Link). t.output) (receiver_side other_handle l r (written s.link k n l m) a.other) ∙ c.other;
    }
