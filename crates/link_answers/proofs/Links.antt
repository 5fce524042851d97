-- What a link stands for, as a frame is read and as a call is made.
use Rattle.std.specs.Prelude.{◌≡◌, ℕ, Bool, true, false, ◌||◌, Contains, List, [], ◌∷◌, ◌++◌, map, Option, Some, None, Ok, Err, if◌then◌else◌, refl}
use Rattle.std.proofs.Common.{sym, ◌∙◌, ap, subst, append_assoc}
use Rattle.std.proofs.lemmas.List.{append-nil, map-append}
use Rattle.std.proofs.lemmas.List.Elements.{Contains-append_left, Contains-push}
use Rattle.amqp_composites.specs.declared.error.Error.{Error as AmqpError}
use Rattle.amqp_composites.specs.declared.modes.Role.{Role}
use Rattle.amqp_composites.specs.declared.modes.Role.TheVariants as role
use Rattle.amqp_frames.specs.declared.body.FrameBody.{FrameBody}
use Rattle.amqp_frames.specs.declared.body.FrameBody.TheVariants as b
use Rattle.amqp_frames.specs.declared.shared.SessionStopReason.{SessionStopReason}
use Rattle.amqp_link.specs.declared.endpoint.AttachPoll.TheVariants.{Pending, Done}
use Rattle.amqp_link.specs.declared.endpoint.LinkPhase.{LinkPhase}
use Rattle.amqp_link.specs.declared.endpoint.LinkPhase.TheVariants as phase
use Rattle.amqp_link.specs.declared.error.AttachError.{AttachError}
use Rattle.amqp_link.specs.declared.error.AttachError.TheVariants as error
use Rattle.amqp_link.specs.declared.error.AttachFault.{AttachFault}
use Rattle.amqp_link.specs.declared.error.AttachFault.TheVariants as fault
use Rattle.amqp_link.specs.Faults.{error_for, told_of}
use Rattle.amqp_link.specs.Link.{Link, agreed_as, saying, closing, refused, answered, failing, failed_for, absent_terminus, agree, has_unsettled, tells, is_awaited, is_done, is_heard, attach_read, reclosing, reclosed_unless, unexpected, detach_read, phase_behind, polled, poll_waiting, poll_failing, stopped}
use Rattle.amqp_link.specs.Parting.{parting, abandoned, unplaced, reattached, wants_handle, sent_phase}
use Rattle.amqp_link.specs.Rules.{fault_of}
use Rattle.amqp_performatives.specs.declared.attach.Attach.{Attach}
use Rattle.amqp_performatives.specs.declared.detach.Detach.{Detach}
use Rattle.amqp_termini.specs.declared.unsettled.UnsettledDelivery.{UnsettledDelivery}
use Rattle.link_answers.specs.Standing.{Given, Written, HasWritten, IsDetach, IsAnswered, IsDetached, Any, HasError, AttachFails}
use Rattle.link_answers.specs.Keeping.{has_left, LinkStands}

-- frames of a link on a session
abbrev pub under : ℕ → ℕ → List FrameBody → List Written
under n session xs = map (λ x. (n, (session, x))) xs

pub under_both : (n session : ℕ) (w : List Written) (xs ys : List FrameBody) → (w ++ under n session xs) ++ under n session ys ≡ w ++ under n session (xs ++ ys)
under_both n session w xs ys =
    append_assoc w (under n session xs) (under n session ys) ∙ ap (λ (v : List Written). w ++ v) (sym (map-append (λ (x : FrameBody). (n, (session, x))) xs ys))

-- ---- more is out

abbrev pub Wider : List Written → List Written → Type 0
Wider w v = (x : Written) → Contains w x → Contains v x

pub wider_more : (w v : List Written) → Wider w (w ++ v)
wider_more w v = λ x k. Contains-append_left w v x k

pub written_wider : (Kind : FrameBody → Type 0) (n : ℕ) (w v : List Written) → Wider w v → HasWritten Kind n w → HasWritten Kind n v
written_wider Kind n w v f k = (k.0, (k.1.0, (k.1.1.0, f (n, (k.0, k.1.0)) k.1.1.1)))

pub link_wider : (g : Given) (n : ℕ) (w v : List Written) (l : Link) → Wider w v → LinkStands g w n l → LinkStands g v n l
link_wider g n w v l f k = record {
  made = k.made;
  out = λ h. written_wider IsDetach n w v f (k.out h);
  over = k.over;
  remote = k.remote;
  failure = k.failure;
  last = k.last;
}

-- what the Detach says
pub detached_so : (P Q : Detach → Type 0) (g : Given) (n : ℕ) → ((x : Detach) → P x → Q x) → IsDetached P g n → IsDetached Q g n
detached_so P Q g n f k = record { answered = k.answered; detach = k.detach; is_so = f k.detach k.is_so; handle = k.handle; read = k.read }

told_stands : (g : Given) (n : ℕ) (x : AttachFault) → AttachFails g n (told_of x)
told_stands g n fault.NonAttachFrameReceived = tt
told_stands g n other = tt

some_error : (g : Given) (n : ℕ) (x e : AttachError) → Some x ≡ Some e → AttachFails g n x → AttachFails g n e
some_error g n x e h k = let s : x ≡ e = cc in subst (AttachFails g n) s k

-- a link of this end on that session goes on: it puts out these, and what it was to stand for it stands for
pub record Turn (g : Given) (n session : ℕ) (l m : Link) : Type 0 where
  pub name : m.own.name ≡ l.own.name
  pub more : List FrameBody
  pub output : m.output ≡ l.output ++ more
  pub stands : (w : List Written) → LinkStands g w n l → LinkStands g (w ++ under n session more) n m

-- it says nothing
pub record Quiet (g : Given) (n : ℕ) (l m : Link) : Type 0 where
  pub name : m.own.name ≡ l.own.name
  pub output : m.output ≡ l.output
  pub stands : (w : List Written) → LinkStands g w n l → LinkStands g w n m

module _ (g : Given) (n : ℕ) where
  quiet_same : (l : Link) → Quiet g n l l
  quiet_same l = record { name = refl; output = refl; stands = λ w k. k }

  told_quiet : (l : Link) → Quiet g n l (record l { failure = None })
  told_quiet l = record { name = refl; output = refl; stands = λ w k. record { made = k.made; out = k.out; over = k.over; remote = k.remote; failure = λ e h. absurd cc; last = k.last } }

  waits_quiet : (c : Bool) (l : Link) → Quiet g n l (if c then tells (Ok Pending) l else tells (Err error.IllegalState) l).link
  waits_quiet true l = quiet_same l
  waits_quiet false l = quiet_same l

  waiting_quiet : (o : Option SessionStopReason) (l : Link) → Quiet g n l (poll_waiting o l).link
  waiting_quiet (Some why) l = quiet_same l
  waiting_quiet None l = waits_quiet (is_awaited l.phase) l

  fails_quiet : (c : Bool) (e : AttachError) (l : Link) → Quiet g n l (if c then tells (Err e) (record l { failure = None }) else poll_waiting l.stop_reason l).link
  fails_quiet true e l = told_quiet l
  fails_quiet false e l = waiting_quiet l.stop_reason l

  failure_quiet : (f : Option AttachError) (l : Link) → Quiet g n l (poll_failing f l).link
  failure_quiet None l = waiting_quiet l.stop_reason l
  failure_quiet (Some e) l = fails_quiet (l.accepts || is_done l.phase) e l

  made_quiet : (c : Bool) (l : Link) → Quiet g n l (if c then tells (Ok Done) l else poll_failing l.failure l).link
  made_quiet true l = quiet_same l
  made_quiet false l = failure_quiet l.failure l

  pub polled_quiet : (l : Link) → Quiet g n l (polled l).link
  polled_quiet l = made_quiet l.is_made l

  pub stopped_quiet : (why : SessionStopReason) (l : Link) → Quiet g n l (stopped why l)
  stopped_quiet why l = record { name = refl; output = refl; stands = λ w k. record { made = k.made; out = k.out; over = k.over; remote = k.remote; failure = k.failure; last = k.last } }

  unplaced_at : (p : LinkPhase) (l : Link) → wants_handle p ≡ true → Quiet g n (record l { phase = p }) (unplaced (record l { phase = p }))
  unplaced_at phase.HandleWanted l h =
      record { name = refl; output = refl; stands = λ w k. record { made = k.made; out = λ h. k.out refl; over = λ h. k.over refl; remote = k.remote; failure = k.failure; last = k.last } }
  unplaced_at p l h = absurd cc

  pub unplaced_quiet : (l : Link) → wants_handle l.phase ≡ true → Quiet g n l (unplaced l)
  unplaced_quiet l h = unplaced_at l.phase l h

  -- a link that both ends have left is let go
  gone_at : (p : LinkPhase) (l : Link) → is_done p ≡ true → Quiet g n (record l { phase = p }) (abandoned (record l { phase = p }))
  gone_at phase.Detached l h =
      record { name = refl; output = refl; stands = λ w k. record { made = k.made; out = k.out; over = k.over; remote = k.remote; failure = k.failure; last = k.last } }
  gone_at p l h = absurd cc

  pub gone_quiet : (l : Link) → is_done l.phase ≡ true → Quiet g n l (abandoned l)
  gone_quiet l h = gone_at l.phase l h

module _ (g : Given) (n session : ℕ) where
  quietly : (l m : Link) → m.own.name ≡ l.own.name → m.output ≡ l.output → ((w : List Written) → LinkStands g w n l → LinkStands g w n m) → Turn g n session l m
  quietly l m e o f = record { name = e; more = []; output = o ∙ sym (append-nil l.output); stands = λ w k. link_wider g n w (w ++ []) m (wider_more w []) (f w k) }

  pub turn_quiet : (l m : Link) → Quiet g n l m → Turn g n session l m
  turn_quiet l m q = quietly l m q.name q.output q.stands

  -- it says one frame
  abbrev speaks : (l m : Link) (x : FrameBody) → m.own.name ≡ l.own.name → m.output ≡ l.output ++ x ∷ [] → ((w : List Written) → LinkStands g w n l → LinkStands g (w ++ (n, (session, x)) ∷ []) n m) → Turn g n session l m
  speaks l m x e o f = record { name = e; more = x ∷ []; output = o; stands = f }

  pub turn_same : (l m : Link) → m ≡ l → Turn g n session l m
  turn_same l m e = subst (λ (x : Link). Turn g n session l x) (sym e) (quietly l l refl refl (λ w k. k))

  pub turn_then : (l m k : Link) → Turn g n session l m → Turn g n session m k → Turn g n session l k
  turn_then l m k a c = record {
    name = c.name ∙ a.name;
    more = a.more ++ c.more;
    output = c.output ∙ (ap (λ (xs : List FrameBody). xs ++ c.more) a.output ∙ append_assoc l.output a.more c.more);
    stands = λ w h.
        subst (λ (v : List Written). LinkStands g v n k) (under_both n session w a.more c.more) (c.stands (w ++ under n session a.more) (a.stands w h));
  }

  pub turn_either : (c : Bool) (l m k : Link) → Turn g n session l m → Turn g n session l k → Turn g n session l (if c then m else k)
  turn_either true l m k p q = p
  turn_either false l m k p q = q

  -- this end's Detach is out
  said : (w : List Written) (d : Detach) → HasWritten IsDetach n (w ++ (n, (session, b.Detach d)) ∷ [])
  said w d = (session, (b.Detach d, (tt, Contains-push w (n, (session, b.Detach d)))))

  abbrev pub saying_turn : (x : FrameBody) (l : Link) → Turn g n session l (saying x l)
  saying_turn x l = speaks l (saying x l) x refl refl (λ w k. (let j = link_wider g n w (w ++ (n, (session, x)) ∷ []) l (wider_more w ((n, (session, x)) ∷ [])) k in record { made = j.made; out = j.out; over = j.over; remote = j.remote; failure = j.failure; last = j.last }))

  pub refused_turn : (x : AttachFault) (l : Link) → Turn g n session l (refused x l)
  refused_turn x l =
      let d : Detach = record { handle = l.own.handle; closed = true; error = error_for x } in
      speaks l (refused x l) (b.Detach d) refl refl (λ w k. record {
        made = k.made;
        out = λ h. said w d;
        over = λ h. absurd cc;
        remote = k.remote;
        failure = λ e h. some_error g n (told_of x) e h (told_stands g n x);
        last = k.last;
      })

  unexpected_at : (p : LinkPhase) (l : Link) → Turn g n session (record l { phase = p }) (unexpected (record l { phase = p }))
  unexpected_at phase.AttachSent l = refused_turn fault.NonAttachFrameReceived (record l { phase = phase.AttachSent })
  unexpected_at phase.DetachExpected l = refused_turn fault.ExpectImmediateDetach (record l { phase = phase.DetachExpected })
  unexpected_at p l = turn_same _ _ refl

  pub unexpected_turn : (l : Link) → Turn g n session l (unexpected l)
  unexpected_turn l = unexpected_at l.phase l

  pub closing_turn : (e : Option AmqpError) (l : Link) → Turn g n session l (closing e l)
  closing_turn e l =
      let d : Detach = record { handle = l.own.handle; closed = true; error = e } in
      speaks l (closing e l) (b.Detach d) refl refl (λ w k. record { made = k.made; out = λ h. said w d; over = λ h. absurd cc; remote = k.remote; failure = k.failure; last = k.last })

  -- ---- an Attach of the peer is read

  awaits : (p : LinkPhase) (l : Link) → has_left p ≡ false → is_heard p ≡ true → Turn g n session l (record l { phase = p })
  awaits p l a c = quietly l (record l { phase = p }) refl refl (λ w k. record {
    made = k.made;
    out = λ h. (let f : false ≡ true = sym a ∙ h in absurd cc);
    over = λ h. (let f : false ≡ true = sym h ∙ c in absurd cc);
    remote = k.remote;
    failure = k.failure;
    last = k.last;
  })

  agreed_name : (r : Role) (own x : Attach) → (agreed_as r own x).name ≡ own.name
  agreed_name role.Sender own x = refl
  agreed_name role.Receiver own x = refl

  answered_turn : (f : Option AttachFault) (x : Attach) (l : Link) → IsAnswered g n → Turn g n session l (answered f x l)
  answered_turn None x l a = quietly l (answered None x l) (agreed_name l.own.role l.own x) refl (λ w k. record { made = λ h. a; out = λ h. absurd cc; over = λ h. absurd cc; remote = k.remote; failure = k.failure; last = k.last })
  answered_turn (Some fault.IncomingTargetIsNone) x l a = awaits phase.DetachExpected l refl refl
  answered_turn (Some fault.IncomingSourceIsNone) x l a = awaits phase.DetachExpected l refl refl
  answered_turn (Some other) x l a = refused_turn other l

  recloses : (e : Option AmqpError) (stuck : Bool) (l : Link) → Turn g n session (record l { phase = phase.ReattachSent }) (reclosing e stuck (record l { phase = phase.ReattachSent }))
  recloses e stuck l =
      let m : Link = record l { phase = phase.ReattachSent } in
      let d : Detach = record { handle = l.own.handle; closed = true; error = e } in
      speaks m (reclosing e stuck m) (b.Detach d) refl refl (λ w k. record { made = k.made; out = λ h. said w d; over = λ h. k.over refl; remote = k.remote; failure = k.failure; last = k.last })

  reclosed_turn : (f : Option AttachFault) (unsettled : Bool) (l : Link) → Turn g n session (record l { phase = phase.ReattachSent }) (reclosed_unless f unsettled (record l { phase = phase.ReattachSent }))
  reclosed_turn (Some x) u l = recloses (error_for x) true l
  reclosed_turn None true l = recloses _ true l
  reclosed_turn None false l = recloses None false l

  attach_at : (p : LinkPhase) (x : Attach) (l : Link) → IsAnswered g n → Turn g n session (record l { phase = p }) (attach_read x (record l { phase = p }))
  attach_at phase.AttachSent x l a = answered_turn (fault_of l.own.role false l.verify l.own.snd_settle_mode x) x (record l { phase = phase.AttachSent }) a
  attach_at phase.ReattachSent x l a = reclosed_turn (fault_of l.own.role false l.verify l.own.snd_settle_mode x) (has_unsettled l.own || has_unsettled x) l
  attach_at phase.DetachExpected x l a = unexpected_at phase.DetachExpected l
  attach_at p x l a = turn_same _ _ refl

  pub attach_turn : (x : Attach) (l : Link) → IsAnswered g n → Turn g n session l (attach_read x l)
  attach_turn x l a = attach_at l.phase x l a

  -- ---- a Detach of the peer is read

  fails_for : (o : Option AmqpError) (x : AttachFault) → ((e : AmqpError) → o ≡ Some e → IsDetached (HasError e) g n) → AttachFails g n (failed_for o x)
  fails_for (Some e) x h = h e refl
  fails_for None x h = told_stands g n x

  module _ (d : Detach) (read : IsDetached (λ x. x ≡ d) g n) where
    was_read : IsDetached Any g n
    was_read = detached_so (λ x. x ≡ d) Any g n (λ x e. tt) read

    with_error : (e : AmqpError) → d.error ≡ Some e → IsDetached (HasError e) g n
    with_error e h = detached_so (λ x. x ≡ d) (HasError e) g n (λ x f. ap (λ (y : Detach). y.error) f ∙ h) read

    it_is : (x : Detach) → Some d ≡ Some x → IsDetached (λ y. y ≡ x) g n
    it_is x h = let s : d ≡ x = cc in subst (λ (z : Detach). IsDetached (λ y. y ≡ z) g n) s read

    failing_turn : (x : AttachFault) (l : Link) → Turn g n session l (failing x d l)
    failing_turn x l =
        let own : Detach = record { handle = l.own.handle; closed = d.closed; error = None } in
        speaks l (failing x d l) (b.Detach own) refl refl (λ w k. record {
          made = k.made;
          out = λ h. said w own;
          over = λ h. was_read;
          remote = k.remote;
          failure = λ e h. some_error g n (failed_for d.error x) e h (fails_for d.error x with_error);
          last = k.last;
        })

    met_turn : (l : Link) (a c : Bool) → has_left l.phase ≡ true → Turn g n session l (record l { phase = phase_behind a c; remote = Some d })
    met_turn l a c left = quietly l (record l { phase = phase_behind a c; remote = Some d }) refl refl (λ w k. record {
      made = k.made;
      out = λ h. k.out left;
      over = λ h. was_read;
      remote = λ x h. it_is x h;
      failure = k.failure;
      last = k.last;
    })

    detach_at : (p : LinkPhase) (l : Link) → Turn g n session (record l { phase = p }) (detach_read d (record l { phase = p }))
    detach_at phase.AttachSent l = failing_turn fault.NonAttachFrameReceived (record l { phase = phase.AttachSent })
    detach_at phase.DetachExpected l = failing_turn (absent_terminus l.own.role) (record l { phase = phase.DetachExpected })
    detach_at phase.Refused l =
        let m : Link = record l { phase = phase.Refused } in
        quietly m (detach_read d m) refl refl (λ w k. record { made = k.made; out = λ h. k.out refl; over = λ h. was_read; remote = k.remote; failure = k.failure; last = k.last })
    detach_at phase.Attached l =
        let m : Link = record l { phase = phase.Attached } in
        let own : Detach = record { handle = l.own.handle; closed = d.closed; error = None } in
        speaks m (detach_read d m) (b.Detach own) refl refl (λ w k. record { made = k.made; out = λ h. said w own; over = λ h. was_read; remote = λ x h. it_is x h; failure = k.failure; last = k.last })
    detach_at phase.DetachSent l = met_turn (record l { phase = phase.DetachSent }) (agree l.is_closed d.closed) l.is_parting refl
    detach_at phase.CloseSent l = met_turn (record l { phase = phase.CloseSent }) (agree l.is_closed d.closed) l.is_parting refl
    detach_at phase.RecloseSent l =
        let m : Link = record l { phase = phase.RecloseSent } in
        quietly m (detach_read d m) refl refl (λ w k. record { made = k.made; out = λ h. k.out refl; over = λ h. was_read; remote = k.remote; failure = k.failure; last = λ e h. with_error e h })
    detach_at p l = turn_same _ _ refl

    pub detach_turn : (l : Link) → Turn g n session l (detach_read d l)
    detach_turn l = detach_at l.phase l

  -- ---- what is asked of it

  pub polled_turn : (l : Link) → Turn g n session l (polled l).link
  polled_turn l = turn_quiet l (polled l).link (polled_quiet g n l)

  -- whether a call waits until it is left, and whether it was let go
  marked : (l : Link) (a c : Bool) → Turn g n session l (record l { is_parting = a; is_gone = c })
  marked l a c = quietly l (record l { is_parting = a; is_gone = c }) refl refl (λ w k. record { made = k.made; out = k.out; over = k.over; remote = k.remote; failure = k.failure; last = k.last })

  detaching_turn : (closes : Bool) (x : Option AmqpError) (l : Link) → Turn g n session (record l { is_gone = false; phase = phase.Attached; stop_reason = None }) (parting closes x (record l { is_gone = false; phase = phase.Attached; stop_reason = None })).link
  detaching_turn closes x l =
      let m : Link = record l { is_gone = false; phase = phase.Attached; stop_reason = None } in
      let d : Detach = record { handle = l.own.handle; closed = closes; error = x } in
      speaks m (parting closes x m).link (b.Detach d) refl refl (λ w k. record { made = k.made; out = λ h. said w d; over = λ h. heard closes h; remote = k.remote; failure = k.failure; last = k.last })
    where
      heard : (c : Bool) → is_heard (sent_phase c) ≡ false → IsDetached Any g n
      heard true h = absurd cc
      heard false h = absurd cc

  parting_at : (gone : Bool) (p : LinkPhase) (o : Option SessionStopReason) (closes : Bool) (x : Option AmqpError) (l : Link)
      → Turn g n session (record l { is_gone = gone; phase = p; stop_reason = o }) (parting closes x (record l { is_gone = gone; phase = p; stop_reason = o })).link
  parting_at true p o closes x l = turn_same _ _ refl
  parting_at false phase.AttachSent o closes x l = turn_same _ _ refl
  parting_at false phase.DetachExpected o closes x l = turn_same _ _ refl
  parting_at false phase.Refused o closes x l = turn_same _ _ refl
  parting_at false phase.Attached (Some why) closes x l = turn_same _ _ refl
  parting_at false phase.Attached None closes x l = detaching_turn closes x l
  parting_at false phase.HalfClosed (Some why) closes x l = turn_same _ _ refl
  parting_at false phase.HalfClosed None closes x l =
      let m : Link = record l { is_gone = false; phase = phase.HalfClosed; stop_reason = None } in
      quietly m (parting closes x m).link refl refl (λ w k. record { made = k.made; out = λ h. k.out refl; over = λ h. k.over refl; remote = k.remote; failure = k.failure; last = k.last })
  parting_at false phase.Detached o closes x l = turn_same _ _ refl
  parting_at false p (Some why) closes x l = turn_same _ _ refl
  parting_at false p None closes x l = marked (record l { is_gone = false; phase = p; stop_reason = None }) true false

  pub parting_turn : (closes : Bool) (x : Option AmqpError) (l : Link) → Turn g n session l (parting closes x l).link
  parting_turn closes x l = parting_at l.is_gone l.phase l.stop_reason closes x l

  abandoned_at : (p : LinkPhase) (o : Option SessionStopReason) (l : Link) → Turn g n session (record l { phase = p; stop_reason = o }) (abandoned (record l { phase = p; stop_reason = o }))
  abandoned_at phase.Attached None l =
      let m : Link = record l { phase = phase.Attached; stop_reason = None } in
      turn_then m (closing None m) (abandoned m) (closing_turn None m) (marked (closing None m) l.is_parting true)
  abandoned_at p o l = marked (record l { phase = p; stop_reason = o }) l.is_parting true

  pub abandoned_turn : (l : Link) → Turn g n session l (abandoned l)
  abandoned_turn l = abandoned_at l.phase l.stop_reason l

  reattached_at : (p : LinkPhase) (handle : ℕ) (u : Option (List UnsettledDelivery)) (count : Option ℕ) (l : Link) → wants_handle p ≡ true → Turn g n session (record l { phase = p }) (reattached handle u count (record l { phase = p }))
  reattached_at phase.HandleWanted handle u count l h =
      let m : Link = record l { phase = phase.HandleWanted } in
      let m' = reattached handle u count m in
      speaks m m' (b.Attach m'.own) refl refl (λ w k.
      (let j = link_wider g n w (w ++ (n, (session, b.Attach m'.own)) ∷ []) m (wider_more w ((n, (session, b.Attach m'.own)) ∷ [])) k in
      record { made = k.made; out = λ h. j.out refl; over = λ h. k.over refl; remote = k.remote; failure = k.failure; last = k.last }))
  reattached_at p handle u count l h = absurd cc

  pub reattached_turn : (handle : ℕ) (u : Option (List UnsettledDelivery)) (count : Option ℕ) (l : Link) → wants_handle l.phase ≡ true → Turn g n session l (reattached handle u count l)
  reattached_turn handle u count l h = reattached_at l.phase handle u count l h
