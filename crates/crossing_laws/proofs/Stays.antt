-- An attached link stays as it was.
use Rattle.std.specs.Prelude.{◌≡◌, Bool, true, false, ◌||◌, List, [], ◌∷◌, Option, Some, None, Ok, Err, if◌then◌else◌, refl}
use Rattle.std.proofs.Common.{sym, ◌∙◌, ap, subst, inl, inr}
use Rattle.amqp_composites.specs.declared.error.Error.{Error as AmqpError}
use Rattle.amqp_link.specs.amqp_frames.declared.shared.SessionStopReason.{SessionStopReason}
use Rattle.amqp_link.specs.amqp_performatives.declared.attach.Attach.{Attach}
use Rattle.amqp_link.specs.amqp_performatives.declared.detach.Detach.{Detach}
use Rattle.amqp_link.specs.declared.endpoint.AttachPoll.TheVariants.{Pending, Done}
use Rattle.amqp_link.specs.declared.endpoint.LinkPhase.{LinkPhase}
use Rattle.amqp_link.specs.declared.endpoint.LinkPhase.TheVariants as phase
use Rattle.amqp_link.specs.declared.error.AttachError.{AttachError}
use Rattle.amqp_link.specs.declared.error.AttachError.TheVariants as error
use Rattle.amqp_link.specs.declared.error.AttachFault.{AttachFault}
use Rattle.amqp_link.specs.declared.error.DetachError.TheVariants as detach_error
use Rattle.amqp_link.specs.declared.endpoint.DetachPoll.TheVariants as poll
use Rattle.amqp_link.specs.Link.{Link, Polled, tells, is_awaited, is_done, has_unsettled, attach_in, detach_in, unexpected_in, reclosed_unless, phase_behind, agree, poll_waiting, poll_failing, polled, is_attached, closing}
use Rattle.amqp_link.specs.Parting as parting
use Rattle.amqp_link.specs.Parting.{Parted, parting_unless, parting_in, detaching, sent_phase, abandoned_in}
use Rattle.amqp_link.specs.Rules.{fault_of}
use Rattle.crossing_laws.specs.Laws.{EndsStayAttached}
use Rattle.crossing_laws.specs.Ends.{IsUp, Suits, AreAttached}
use Rattle.crossing_laws.specs.Lives as Lives
use Rattle.crossing_laws.specs.Lives.{Stands}
use Rattle.crossing_laws.proofs.Attaches.{Base, sender_asked, receiver_asked}

module _ (own : Attach) (verify : Bool) where
  -- nothing was said of leaving it, and it says of itself what it said
  abbrev Facts : Link → Type 0
  Facts s = (s.own ≡ own) × (s.verify ≡ verify) × (s.is_closed ≡ false) × (s.remote ≡ None) × (s.is_stuck ≡ false) × (s.last_error ≡ None) × (s.is_made ≡ true)

  -- so it is as long as it is attached
  abbrev Holds : LinkPhase → Link → Type 0
  Holds phase.AttachSent s = ⊥
  Holds phase.Attached s = Facts s
  Holds other s = Unit {0}

  abbrev Kept : Link → Type 0
  Kept s = Holds s.phase s

  moved : (p : LinkPhase) (s t : Link) → (Facts s → Facts t) → Holds p s → Holds p t
  moved phase.AttachSent s t f h = h
  moved phase.Attached s t f h = f h
  moved other s t f h = tt

  reclosed_kept : (o : Option AttachFault) (u : Bool) (s : Link) → Kept (reclosed_unless o u s)
  reclosed_kept (Some x) u s = tt
  reclosed_kept None true s = tt
  reclosed_kept None false s = tt

  attach_kept : (p : LinkPhase) (x : Attach) (s : Link) → Holds p s → Kept (attach_in p x (record s { phase = p }))
  attach_kept phase.AttachSent x s h = absurd h
  attach_kept phase.Attached x s h = h
  attach_kept phase.ReattachSent x s h = reclosed_kept (fault_of s.own.role false s.verify s.own.snd_settle_mode x) (has_unsettled s.own || has_unsettled x) (record s { phase = phase.ReattachSent })
  attach_kept other x s h = tt

  behind_kept : (a c : Bool) (s : Link) → Holds (phase_behind a c) s
  behind_kept true c s = tt
  behind_kept false true s = tt
  behind_kept false false s = tt

  detach_kept : (p : LinkPhase) (d : Detach) (s : Link) → Holds p s → Kept (detach_in p d (record s { phase = p }))
  detach_kept phase.AttachSent d s h = absurd h
  detach_kept phase.Attached d s h = tt
  detach_kept phase.DetachSent d s h = behind_kept (agree s.is_closed d.closed) s.is_parting (record s { phase = phase_behind (agree s.is_closed d.closed) s.is_parting; remote = Some d })
  detach_kept phase.CloseSent d s h = behind_kept (agree s.is_closed d.closed) s.is_parting (record s { phase = phase_behind (agree s.is_closed d.closed) s.is_parting; remote = Some d })
  detach_kept other d s h = tt

  unexpected_kept : (p : LinkPhase) (s : Link) → Holds p s → Kept (unexpected_in p (record s { phase = p }))
  unexpected_kept phase.AttachSent s h = absurd h
  unexpected_kept phase.Attached s h = h
  unexpected_kept other s h = tt

  -- ---- a poll

  one_of : (t : Bool) (a c : Polled) → Kept a.link → Kept c.link → Kept (if t then a else c).link
  one_of true a c h k = h
  one_of false a c h k = k

  waiting_kept : (o : Option SessionStopReason) (s : Link) → Kept s → Kept (poll_waiting o s).link
  waiting_kept (Some why) s h = h
  waiting_kept None s h = one_of (is_awaited s.phase) (tells (Ok Pending) s) (tells (Err error.IllegalState) s) h h

  failing_kept : (o : Option AttachError) (s : Link) → Kept s → Kept (poll_failing o s).link
  failing_kept None s h = waiting_kept s.stop_reason s h
  failing_kept (Some e) s h =
      one_of (s.accepts || is_done s.phase) (tells (Err e) (record s { failure = None })) (poll_waiting s.stop_reason s)
      (moved s.phase s (record s { failure = None }) (λ f. f) h) (waiting_kept s.stop_reason s h)

  polled_kept : (s : Link) → Kept s → Kept (polled s).link
  polled_kept s h = one_of s.is_made (tells (Ok Done) s) (poll_failing s.failure s) h (failing_kept s.failure s h)

  -- ---- a call that leaves it

  either_of : (t : Bool) (a c : Parted) → Kept a.link → Kept c.link → Kept (if t then a else c).link
  either_of true a c h k = h
  either_of false a c h k = k

  unless_kept : (o : Option SessionStopReason) (t s : Link) → Kept t → Kept s → Kept (parting_unless o t s).link
  unless_kept (Some why) t s h k = k
  unless_kept None t s h k = h

  sent_kept : (closes : Bool) (s : Link) → Holds (sent_phase closes) s
  sent_kept true s = tt
  sent_kept false s = tt

  parting_kept : (p : LinkPhase) (closes : Bool) (e : Option AmqpError) (s : Link) → Holds p s → Kept (parting_in p closes e (record s { phase = p })).link
  parting_kept phase.AttachSent closes e s h = absurd h
  parting_kept phase.DetachExpected closes e s h = tt
  parting_kept phase.Refused closes e s h = tt
  parting_kept phase.Attached closes e s h =
      let t = record s { phase = phase.Attached } in
      unless_kept s.stop_reason (detaching closes e t) t (sent_kept closes (detaching closes e t)) h
  parting_kept phase.Detached closes e s h = tt
  parting_kept phase.HalfClosed closes e s h =
      let t = record s { phase = phase.HalfClosed } in unless_kept s.stop_reason (record t { phase = phase.HandleWanted; is_parting = true }) t tt tt
  parting_kept other closes e s h =
      let t = record s { phase = other } in unless_kept s.stop_reason (record t { is_parting = true }) t tt tt

  parts_kept : (closes : Bool) (e : Option AmqpError) (s : Link) → Kept s → Kept (parting.parting closes e s).link
  parts_kept closes e s h = either_of s.is_gone (parting.tells (poll.Failed detach_error.IllegalState) s) (parting_in s.phase closes e s) h (parting_kept s.phase closes e s h)

  abandoned_kept : (p : LinkPhase) (o : Option SessionStopReason) (s : Link) → Holds p s → Kept (abandoned_in p o (record s { phase = p }))
  abandoned_kept phase.AttachSent o s h = absurd h
  abandoned_kept phase.Attached None s h = tt
  abandoned_kept phase.Attached (Some why) s h = h
  abandoned_kept other o s h = tt

  fails_kept : (p : LinkPhase) (e : Option AmqpError) (s : Link) → Holds p s → Kept (if is_attached p then closing e (record s { phase = p }) else record s { phase = p })
  fails_kept phase.AttachSent e s h = absurd h
  fails_kept phase.Attached e s h = tt
  fails_kept other e s h = tt

  -- ---- a life

  after_kept : (s : Link) (m : Lives.Move) → Kept s → Kept (Lives.after s m)
  after_kept s (Lives.hears_attach x) h = attach_kept s.phase x s h
  after_kept s (Lives.hears_detach d) h = detach_kept s.phase d s h
  after_kept s Lives.hears_other h = unexpected_kept s.phase s h
  after_kept s (Lives.stops why) h = moved s.phase s (Lives.after s (Lives.stops why)) (λ f. f) h
  after_kept s Lives.polls h = polled_kept s h
  after_kept s (Lives.parts closes e) h = parts_kept closes e s h
  after_kept s Lives.abandons h = abandoned_kept s.phase s.stop_reason s h
  after_kept s (Lives.reattaches n) h = tt
  after_kept s Lives.stays h = tt
  after_kept s (Lives.says x) h = moved s.phase s (Lives.after s (Lives.says x)) (λ f. f) h
  after_kept s (Lives.fails e) h = fails_kept s.phase e s h
  after_kept s Lives.hands_over h = moved s.phase s (Lives.after s Lives.hands_over) (λ f. f) h

  all_kept : (ms : List Lives.Move) (s : Link) → Kept s → Kept (Lives.after_all s ms)
  all_kept [] s h = h
  all_kept (m ∷ ms) s h = all_kept ms (Lives.after s m) (after_kept s m h)

-- ---- both ends

facts_of : (own : Attach) (verify : Bool) (s : Link) → Kept own verify s → s.phase ≡ phase.Attached → Facts own verify s
facts_of own verify s h e = subst (λ p. Holds own verify p s) e h

kept_of : (own : Attach) (verify : Bool) (s : Link) → Facts own verify s → s.phase ≡ phase.Attached → Kept own verify s
kept_of own verify s f e = subst (λ p. Holds own verify p s) (sym e) f

is_up : (own : Attach) (verify : Bool) (s : Link) → Facts own verify s → Stands s → IsUp s
is_up own verify s f a = record { phase = a.attached; made = f.6; unclosed = f.2; unread = f.3; kept = a.kept; free = f.4; unsaid = f.5; runs = a.runs }

suits_then : (own peer : Attach) (verify : Bool) (s : Link) (x : Attach) → s.own ≡ own → s.verify ≡ verify → x ≡ peer
    → fault_of own.role false verify own.snd_settle_mode peer ≡ None → Suits s x
suits_then own peer verify s x e f g h =
    ap (λ (o : Attach). fault_of o.role false s.verify o.snd_settle_mode x) e ∙ ap (λ v. fault_of own.role false v own.snd_settle_mode x) f
    ∙ ap (λ y. fault_of own.role false verify own.snd_settle_mode y) g ∙ h

stay_attached : (s r : Link) (ms ns : List Lives.Move) → Base s r → s.phase ≡ phase.Attached → r.phase ≡ phase.Attached → Stands (Lives.after_all s ms) → Stands (Lives.after_all r ns)
    → AreAttached (Lives.after_all s ms) (Lives.after_all r ns)
stay_attached s r ms ns m a b c d =
    let t = Lives.after_all s ms in
    let u = Lives.after_all r ns in
    let f = facts_of s.own s.verify t (all_kept s.own s.verify ms s (kept_of s.own s.verify s (refl, refl, m.one.0, m.one.1, m.one.2, m.one.3, m.one.4) a)) c.attached in
    let g = facts_of r.own r.verify u (all_kept r.own r.verify ns r (kept_of r.own r.verify r (refl, refl, m.other.0, m.other.1, m.other.2, m.other.3, m.other.4) b)) d.attached in
    record {
      sends = ap (λ (o : Attach). o.role) f.0 ∙ m.sends;
      receives = ap (λ (o : Attach). o.role) g.0 ∙ m.receives;
      one = is_up s.own s.verify t f c;
      other = is_up r.own r.verify u g d;
      suits = suits_then s.own r.own s.verify t u.own f.0 f.1 g.0 m.suits;
      suited = suits_then r.own s.own r.verify u t.own g.0 g.1 f.0 m.suited;
    }

pub ends_stay_attached : EndsStayAttached
ends_stay_attached s r ms ns (inl m) a b c d = stay_attached s r ms ns (sender_asked s r m a b) a b c d
ends_stay_attached s r ms ns (inr m) a b c d = stay_attached s r ms ns (receiver_asked s r m a b) a b c d
