-- An end that was asked to leave its link, as it reads what the other end writes.
use Rattle.std.specs.Prelude.{◌≡◌, ℕ, Bool, true, false, ◌||◌, is_some, List, [], ◌∷◌, ◌++◌, Option, Some, None, refl}
use Rattle.std.proofs.Common.{◌∙◌, ap}
use Rattle.amqp_composites.specs.declared.error.Error.{Error as AmqpError}
use Rattle.amqp_link.specs.amqp_frames.Body.{read_again_body}
use Rattle.amqp_link.specs.amqp_frames.declared.body.FrameBody.{FrameBody}
use Rattle.amqp_link.specs.amqp_frames.declared.body.FrameBody.TheVariants as b
use Rattle.amqp_link.specs.amqp_performatives.Attach.{written}
use Rattle.amqp_link.specs.amqp_performatives.declared.attach.Attach.{Attach}
use Rattle.amqp_link.specs.amqp_performatives.declared.detach.Detach.{Detach}
use Rattle.amqp_link.specs.declared.endpoint.LinkPhase.TheVariants as phase
use Rattle.amqp_link.specs.Link.{Link, agree, reclosing, reclosed_unless}
use Rattle.amqp_link.specs.Parting.{again, reattached, detaching, late_poll}
use Rattle.amqp_link.specs.Rules.{fault_of}
use Rattle.crossing_laws.specs.Ends.{IsUp, Anew, Asked, leaving, heard, attached_again, reads}
use Rattle.crossing_laws.specs.Agreement.{has_unsettled, closing_error, told_late, Parted, PartedLate}

-- ---- the states that it goes through

abbrev pub up : Link → Link
up s = record s { phase = phase.Attached; is_closed = false; remote = None; is_gone = false; is_stuck = false; last_error = None; stop_reason = None }

abbrev pub said : Link → Asked → FrameBody
said s k = b.Detach (record { handle = s.own.handle; closed = k.closes; error = k.error })

abbrev pub answer : ℕ → Asked → Detach
answer handle l = record { handle = handle; closed = l.closes; error = l.error }

-- it has written its Detach
abbrev pub begun : Asked → Link → Link
begun k s = detaching k.closes k.error (up s)

-- the peer's Detach was read, and nothing follows
abbrev pub ended : Asked → ℕ → Asked → Link → Link
ended k h l s = record (begun k s) { phase = phase.Detached; remote = Some (answer h l) }

-- the peer's Detach was read, and it has attached again
abbrev pub renewed : Asked → Anew → ℕ → Asked → Link → Link
renewed k n h l s = reattached n.handle n.unsettled n.count (record (begun k s) { phase = phase.HandleWanted; remote = Some (answer h l) })

-- the peer's Attach was read
abbrev pub reclosed : Asked → Anew → ℕ → Asked → Bool → Link → Link
reclosed k n h l unsettled s = reclosing (closing_error unsettled) unsettled (renewed k n h l s)

-- the peer's closing Detach was read
abbrev pub parted : Asked → Anew → ℕ → Asked → Bool → Option AmqpError → Link → Link
parted k n h l unsettled e s = record (reclosed k n h l unsettled s) { phase = phase.Detached; last_error = e }

-- ---- from one to the next

pub still_up : (s : Link) → IsUp s → s ≡ up s
still_up s u =
    ap (λ p. record s { phase = p }) u.phase
    ∙ ap (λ p. record s { phase = phase.Attached; is_closed = p }) u.unclosed
    ∙ ap (λ p. record s { phase = phase.Attached; is_closed = false; remote = p }) u.unread
    ∙ ap (λ p. record s { phase = phase.Attached; is_closed = false; remote = None; is_gone = p }) u.kept
    ∙ ap (λ p. record s { phase = phase.Attached; is_closed = false; remote = None; is_gone = false; is_stuck = p }) u.free
    ∙ ap (λ p. record s { phase = phase.Attached; is_closed = false; remote = None; is_gone = false; is_stuck = false; last_error = p }) u.unsaid
    ∙ ap (λ p. record s { phase = phase.Attached; is_closed = false; remote = None; is_gone = false; is_stuck = false; last_error = None; stop_reason = p }) u.runs

pub begins : (k : Asked) (s : Link) → leaving k (up s) ≡ begun k s
begins k s = refl

-- nothing more comes of a link that both ends have detached
heard_done : (x : FrameBody) (s : Link) → heard x (record s { phase = phase.Detached }) ≡ record s { phase = phase.Detached }
heard_done (b.Attach x) s = refl
heard_done (b.Detach d) s = refl
heard_done other s = refl

pub reads_done : (n : Anew) (xs : List FrameBody) (s : Link) → reads n xs (record s { phase = phase.Detached }) ≡ record s { phase = phase.Detached }
reads_done n [] s = refl
reads_done n (x ∷ xs) s = ap (λ t. reads n xs (attached_again n t)) (heard_done (read_again_body x) s) ∙ reads_done n xs s

-- both ends close the link, or neither does
pub ends_at_once : (c : Bool) (e f : Option AmqpError) (n : Anew) (h : ℕ) (xs : List FrameBody) (s : Link)
    → reads n (b.Detach (answer h (record { closes = c; error = f })) ∷ xs) (begun (record { closes = c; error = e }) s)
    ≡ ended (record { closes = c; error = e }) h (record { closes = c; error = f }) s
ends_at_once true e f n h xs s = reads_done n xs (ended (record { closes = true; error = e }) h (record { closes = true; error = f }) s)
ends_at_once false e f n h xs s = reads_done n xs (ended (record { closes = false; error = e }) h (record { closes = false; error = f }) s)

-- one does, and the other does not
pub renews : (c d : Bool) → agree c d ≡ false → (e f : Option AmqpError) (n : Anew) (h : ℕ) (xs : List FrameBody) (s : Link)
    → reads n (b.Detach (answer h (record { closes = d; error = f })) ∷ xs) (begun (record { closes = c; error = e }) s)
    ≡ reads n xs (renewed (record { closes = c; error = e }) n h (record { closes = d; error = f }) s)
renews true false p e f n h xs s = refl
renews false true p e f n h xs s = refl
renews true true p e f n h xs s = absurd cc
renews false false p e f n h xs s = absurd cc

reclosed_by : (t : Bool) (s : Link) → reclosed_unless None t s ≡ reclosing (closing_error t) t s
reclosed_by true s = refl
reclosed_by false s = refl

or_none : (t u : Bool) → ((t || false) || (u || false)) ≡ (t || u)
or_none true u = refl
or_none false true = refl
or_none false false = refl

pub recloses : (k : Asked) (n : Anew) (h : ℕ) (l : Asked) (m : Anew) (x : Attach) (xs : List FrameBody) (s : Link)
    → fault_of s.own.role false s.verify s.own.snd_settle_mode (written (again m.handle m.unsettled m.count x)) ≡ None
    → reads n (b.Attach (again m.handle m.unsettled m.count x) ∷ xs) (renewed k n h l s)
    ≡ reads n xs (reclosed k n h l (has_unsettled n m) s)
recloses k n h l m x xs s p =
    ap (λ o. reads n xs (attached_again n (reclosed_unless o ((is_some n.unsettled || false) || (is_some m.unsettled || false)) (renewed k n h l s)))) p
    ∙ ap (λ t. reads n xs (attached_again n (reclosed_unless None t (renewed k n h l s)))) (or_none (is_some n.unsettled) (is_some m.unsettled))
    ∙ ap (λ t. reads n xs (attached_again n t)) (reclosed_by (has_unsettled n m) (renewed k n h l s))

-- an end that was not asked answers at once
abbrev pub left : Asked → ℕ → Link → Link
left k h s = record (up s) { phase = phase.Detached; remote = Some (answer h k); output = s.output ++ b.Detach (record { handle = s.own.handle; closed = k.closes; error = None }) ∷ [] }

pub answers : (k : Asked) (n : Anew) (h : ℕ) (xs : List FrameBody) (s : Link) → reads n (b.Detach (answer h k) ∷ xs) (up s) ≡ left k h s
answers k n h xs s = reads_done n xs (left k h s)

pub parts : (k : Asked) (n : Anew) (h : ℕ) (l : Asked) (unsettled : Bool) (g : ℕ) (e : Option AmqpError) (xs : List FrameBody) (s : Link)
    → reads n (b.Detach (record { handle = g; closed = true; error = e }) ∷ xs) (reclosed k n h l unsettled s) ≡ parted k n h l unsettled e s
parts k n h l unsettled g e xs s = reads_done n xs (parted k n h l unsettled e s)

-- ---- what it comes to

late_is : (c d : Bool) → late_poll c d ≡ told_late c d
late_is true true = refl
late_is true false = refl
late_is false d = refl

pub ended_is : (c : Bool) (e f : Option AmqpError) (h : ℕ) (unsettled : Bool) (s : Link)
    → Parted (record { closes = c; error = e }) (record { closes = c; error = f }) unsettled (ended (record { closes = c; error = e }) h (record { closes = c; error = f }) s)
ended_is true e None h unsettled s = record { phase = refl; closed = refl; answer = refl; news = refl }
ended_is true e (Some f) h unsettled s = record { phase = refl; closed = refl; answer = refl; news = refl }
ended_is false e None h unsettled s = record { phase = refl; closed = refl; answer = refl; news = refl }
ended_is false e (Some f) h unsettled s = record { phase = refl; closed = refl; answer = refl; news = refl }

pub left_is : (k l : Asked) (h : ℕ) (s : Link) → PartedLate k l (left k h s)
left_is k l h s = record { phase = refl; closed = refl; answer = late_is k.closes l.closes; silent = refl; news = refl }

pub parted_is : (c d : Bool) → agree c d ≡ false → (e f : Option AmqpError) (n : Anew) (h : ℕ) (unsettled : Bool) (s : Link)
    → Parted (record { closes = c; error = e }) (record { closes = d; error = f }) unsettled
    (parted (record { closes = c; error = e }) n h (record { closes = d; error = f }) unsettled (closing_error unsettled) s)
parted_is true false p e f n h true s = record { phase = refl; closed = refl; answer = refl; news = refl }
parted_is true false p e None n h false s = record { phase = refl; closed = refl; answer = refl; news = refl }
parted_is true false p e (Some f) n h false s = record { phase = refl; closed = refl; answer = refl; news = refl }
parted_is false true p e f n h true s = record { phase = refl; closed = refl; answer = refl; news = refl }
parted_is false true p e f n h false s = record { phase = refl; closed = refl; answer = refl; news = refl }
parted_is true true p e f n h unsettled s = absurd cc
parted_is false false p e f n h unsettled s = absurd cc
