-- An end that reads frames only adds to what it has to write.
use Rattle.std.specs.Prelude.{◌≡◌, Bool, true, false, ◌||◌, List, [], ◌∷◌, ◌++◌, Option, Some, None, if◌then◌else◌, refl}
use Rattle.std.proofs.Common.{sym, ◌∙◌, ap, append_assoc}
use Rattle.std.proofs.lemmas.List.{append-nil, append_cancel_left}
use Rattle.amqp_link.specs.amqp_frames.Body.{read_again_body}
use Rattle.amqp_link.specs.amqp_frames.declared.body.FrameBody.{FrameBody}
use Rattle.amqp_link.specs.amqp_frames.declared.body.FrameBody.TheVariants as b
use Rattle.amqp_link.specs.amqp_performatives.declared.attach.Attach.{Attach}
use Rattle.amqp_link.specs.amqp_performatives.declared.detach.Detach.{Detach}
use Rattle.amqp_link.specs.declared.endpoint.LinkPhase.{LinkPhase}
use Rattle.amqp_link.specs.declared.endpoint.LinkPhase.TheVariants as phase
use Rattle.amqp_link.specs.declared.error.AttachFault.{AttachFault}
use Rattle.amqp_link.specs.declared.error.AttachFault.TheVariants as fault
use Rattle.amqp_link.specs.Faults.{error_for}
use Rattle.amqp_link.specs.Link.{Link, answered, unexpected_in, reclosed_unless, attach_in, detach_in, has_unsettled, illegal_state}
use Rattle.amqp_link.specs.Parting.{again, reattached, wants_handle}
use Rattle.amqp_link.specs.Rules.{fault_of}
use Rattle.crossing_laws.specs.Ends.{Anew, heard, attached_again, reads}

-- what it has to write behind this is what it had, and that
unfoldable pub Grew : List FrameBody → List FrameBody → Type 0
Grew old new = (more : List FrameBody) × (new ≡ old ++ more)

pub still : (xs : List FrameBody) → Grew xs xs
unfolding Grew
still xs = ([], sym (append-nil xs))

pub more_of : (xs ys : List FrameBody) → Grew xs (xs ++ ys)
unfolding Grew
more_of xs ys = (ys, refl)

pub grew_then : (xs ys zs : List FrameBody) → Grew xs ys → Grew ys zs → Grew xs zs
unfolding Grew
grew_then xs ys zs (m, p) (n, q) = (m ++ n, q ∙ ap (λ us. us ++ n) p ∙ append_assoc xs m n)

answered_grows : (o : Option AttachFault) (x : Attach) (s : Link) → Grew s.output (answered o x s).output
answered_grows None x s = still s.output
answered_grows (Some fault.IncomingTargetIsNone) x s = still s.output
answered_grows (Some fault.IncomingSourceIsNone) x s = still s.output
answered_grows (Some other) x s = more_of s.output (b.Detach (record { handle = s.own.handle; closed = true; error = error_for other }) ∷ [])

unexpected_grows : (p : LinkPhase) (s : Link) → Grew s.output (unexpected_in p s).output
unexpected_grows phase.AttachSent s = more_of s.output (b.Detach (record { handle = s.own.handle; closed = true; error = error_for fault.NonAttachFrameReceived }) ∷ [])
unexpected_grows phase.DetachExpected s = more_of s.output (b.Detach (record { handle = s.own.handle; closed = true; error = error_for fault.ExpectImmediateDetach }) ∷ [])
unexpected_grows other s = still s.output

reclosed_grows : (o : Option AttachFault) (unsettled : Bool) (s : Link) → Grew s.output (reclosed_unless o unsettled s).output
reclosed_grows (Some x) unsettled s = more_of s.output (b.Detach (record { handle = s.own.handle; closed = true; error = error_for x }) ∷ [])
reclosed_grows None true s = more_of s.output (b.Detach (record { handle = s.own.handle; closed = true; error = Some illegal_state }) ∷ [])
reclosed_grows None false s = more_of s.output (b.Detach (record { handle = s.own.handle; closed = true; error = None }) ∷ [])

attach_grows : (p : LinkPhase) (x : Attach) (s : Link) → Grew s.output (attach_in p x s).output
attach_grows phase.AttachSent x s = answered_grows (fault_of s.own.role false s.verify s.own.snd_settle_mode x) x s
attach_grows phase.ReattachSent x s = reclosed_grows (fault_of s.own.role false s.verify s.own.snd_settle_mode x) (has_unsettled s.own || has_unsettled x) s
attach_grows other x s = unexpected_grows s.phase s

detach_grows : (p : LinkPhase) (d : Detach) (s : Link) → Grew s.output (detach_in p d s).output
detach_grows phase.AttachSent d s = more_of s.output (b.Detach (record { handle = s.own.handle; closed = d.closed; error = None }) ∷ [])
detach_grows phase.DetachExpected d s = more_of s.output (b.Detach (record { handle = s.own.handle; closed = d.closed; error = None }) ∷ [])
detach_grows phase.Attached d s = more_of s.output (b.Detach (record { handle = s.own.handle; closed = d.closed; error = None }) ∷ [])
detach_grows other d s = still s.output

heard_grows : (x : FrameBody) (s : Link) → Grew s.output (heard x s).output
heard_grows (b.Attach x) s = attach_grows s.phase x s
heard_grows (b.Detach d) s = detach_grows s.phase d s
heard_grows other s = unexpected_grows s.phase s

either_grows : (t : Bool) (n : Anew) (s : Link) → Grew s.output (if t then reattached n.handle n.unsettled n.count s else s).output
either_grows true n s = more_of s.output (b.Attach (again n.handle n.unsettled n.count s.own) ∷ [])
either_grows false n s = still s.output

pub reads_grows : (n : Anew) (xs : List FrameBody) (s : Link) → Grew s.output (reads n xs s).output
reads_grows n [] s = still s.output
reads_grows n (x ∷ xs) s =
    let t = heard (read_again_body x) s in
    grew_then s.output (attached_again n t).output (reads n (x ∷ xs) s).output
    (grew_then s.output t.output (attached_again n t).output (heard_grows (read_again_body x) s) (either_grows (wants_handle t.phase) n t))
    (reads_grows n xs (attached_again n t))

-- what it had to write at last, seen from the first
pub whole : (start one : List FrameBody) (xs ys : List FrameBody) → Grew one ys → one ≡ start ++ xs → (zs : List FrameBody) → ys ≡ start ++ zs → Grew xs zs
unfolding Grew
whole start one xs ys (more, p) q zs e =
    (more, append_cancel_left start zs (xs ++ more) (sym e ∙ p ∙ ap (λ us. us ++ more) q ∙ append_assoc start xs more))
