-- The limit of messages on which two Attaches agree.
use Rattle.std.specs.Prelude.{◌≡◌, ℕ, min, nat_eq, Bool, true, false, Option, Some, None, if◌then◌else◌, refl}
use Rattle.std.proofs.Common.{sym, ◌∙◌, ap, inl, inr, arith}
use Rattle.std.proofs.lemmas.Bool.Decides.{nat_tests}
use Rattle.amqp_performatives.specs.declared.attach.Attach.{Attach}
use Rattle.amqp_link.specs.declared.error.AttachFault.{AttachFault}
use Rattle.amqp_link.specs.declared.error.AttachFault.TheVariants as fault
use Rattle.amqp_link.specs.Accept.{echoed, accept_fault, accepted}
use Rattle.amqp_link.specs.Link.{Link, is_attached, attach_read, asked, answered, accepting, lesser, size_of}
use Rattle.amqp_link.specs.Rules.{fault_of}
use Rattle.session_laws.specs.Laws.{StandsBy, LimitsAgree}

lesser_none : (x : ℕ) → lesser x 0 ≡ x
lesser_none x = by (nat_eq x 0) refl
  where
    by : (c : Bool) → nat_eq x 0 ≡ c → (if c then 0 else x) ≡ x
    by true h = grind (arith, nat_tests)
    by false h = refl

lesser_swap : (x y : ℕ) → lesser x y ≡ lesser y x
lesser_swap x y = by (nat_eq x 0) (nat_eq y 0) refl refl
  where
    by : (c d : Bool) → nat_eq x 0 ≡ c → nat_eq y 0 ≡ d → (if c then y else if d then x else min x y) ≡ (if d then x else if c then y else min y x)
    by true true h k = grind (arith, nat_tests)
    by true false h k = refl
    by false true h k = refl
    by false false h k = grind arith

-- an answer by which the link is attached
answered_size : (f : Option AttachFault) (x : Attach) (l : Link) → is_attached (answered f x l).phase ≡ true → is_attached l.phase ≡ false → (answered f x l).max_message_size ≡ lesser l.max_message_size (size_of x.max_message_size)
answered_size None x l h n = refl
answered_size (Some fault.IncomingTargetIsNone) x l h n = absurd cc
answered_size (Some fault.IncomingSourceIsNone) x l h n = absurd cc
answered_size (Some other) x l h n = absurd cc

asked_size : (mine theirs : Attach) (verify : Bool) → is_attached (attach_read theirs (asked verify mine)).phase ≡ true → (attach_read theirs (asked verify mine)).max_message_size ≡ lesser (size_of mine.max_message_size) (size_of theirs.max_message_size)
asked_size mine theirs verify h =
    answered_size (fault_of mine.role false verify mine.snd_settle_mode theirs) theirs (asked verify mine) h refl
    ∙ ap (λ (n : ℕ). lesser n (size_of theirs.max_message_size)) (lesser_none (size_of mine.max_message_size))

accepting_size : (f : Option AttachFault) (size : ℕ) (own : Attach) → is_attached (accepting f size own).phase ≡ true → (accepting f size own).max_message_size ≡ lesser (size_of own.max_message_size) size
accepting_size None size own h = refl
accepting_size (Some x) size own h = absurd cc

-- the lesser of both, where each has a limit
stands_size : (mine theirs : Attach) (l : Link) → StandsBy mine theirs l → is_attached l.phase ≡ true → l.max_message_size ≡ lesser (size_of mine.max_message_size) (size_of theirs.max_message_size)
stands_size mine theirs l (inl k) h =
    let p : is_attached (attach_read theirs (asked k.0 mine)).phase ≡ true = sym (ap (λ (n : Link). is_attached n.phase) k.1) ∙ h in
    ap (λ (n : Link). n.max_message_size) k.1 ∙ asked_size mine theirs k.0 p
stands_size mine theirs l (inr k) h =
    let p : is_attached (accepted k.0 k.1.0 theirs).phase ≡ true = sym (ap (λ (n : Link). is_attached n.phase) k.1.1.1) ∙ h in
    ap (λ (n : Link). n.max_message_size) k.1.1.1
    ∙ (accepting_size (accept_fault k.0 theirs) (size_of theirs.max_message_size) (echoed k.0 k.1.0 theirs) p
    ∙ ap (λ (x : Attach). lesser (size_of x.max_message_size) (size_of theirs.max_message_size)) (sym k.1.1.0))

pub limits_agree : LimitsAgree
limits_agree mine theirs l n a c h k =
    stands_size mine theirs l a h ∙ (lesser_swap (size_of mine.max_message_size) (size_of theirs.max_message_size) ∙ sym (stands_size theirs mine n c k))
