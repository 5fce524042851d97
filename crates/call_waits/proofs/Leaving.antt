-- A link is left, by its peer, by calls, or since its session is over.
use Rattle.std.specs.Prelude.{◌≡◌, ℕ, Bool, true, false, ◌&&◌, is_some, List, [], Option, Some, None, Result, Ok, Err, if◌then◌else◌, refl}
use Rattle.std.proofs.Common.{sym, ◌∙◌, ap, subst}
use Rattle.amqp_composites.specs.declared.error.Error.{Error as AmqpError}
use Rattle.amqp_performatives.specs.declared.detach.Detach.{Detach}
use Rattle.amqp_frames.specs.declared.shared.SessionStopReason.{SessionStopReason}
use Rattle.amqp_link.specs.declared.endpoint.AttachPoll.{AttachPoll}
use Rattle.amqp_link.specs.declared.endpoint.AttachPoll.TheVariants.{Pending, Done}
use Rattle.amqp_link.specs.declared.endpoint.LinkPhase.{LinkPhase}
use Rattle.amqp_link.specs.declared.endpoint.LinkPhase.TheVariants as phase
use Rattle.amqp_link.specs.declared.error.AttachError.{AttachError}
use Rattle.amqp_link.specs.declared.error.DetachError.{DetachError}
use Rattle.amqp_link.specs.declared.error.DetachError.TheVariants as detach
use Rattle.amqp_link.specs.declared.error.IllegalLinkStateError.{IllegalLinkStateError}
use Rattle.amqp_link.specs.Link as link
use Rattle.amqp_link.specs.Link.{Link, is_awaited, is_done}
use Rattle.amqp_link.specs.Parting as parting
use Rattle.amqp_link_words.specs.declared.link_call.Parting.{Parting}
use Rattle.amqp_link_words.specs.declared.link_call.Parting.TheVariants as words
use Rattle.amqp_link_words.specs.declared.link_reply.LinkReply.{LinkReply}
use Rattle.amqp_link_words.specs.declared.link_reply.LinkReply.TheVariants as reply
use Rattle.amqp_link_calls.specs.Answering.{attach_told, attach_answered_to, attach_answered, attach_answered_now, outcomes_answered_now}
use Rattle.amqp_link_calls.specs.Called.{Called, with_side, answering, stopped}
use Rattle.amqp_link_calls.specs.Hearing as hearing
use Rattle.amqp_link_calls.specs.Leaving.{closed_by, known, left_by, part_reply, told_part, part_answered_to, part_answered, part_answered_now, asked_part, detach_asked, closed_side, closed_unless, credit_taken, closes, close_asked, closed_at_once, abandoned, leaves, awaits_part, part_given_up, awaits_both, is_parting, wants_handle, handle_given, handle_refused}
use Rattle.amqp_link_calls.specs.Replies.{is_pending, error_of}
use Rattle.amqp_link_calls.specs.Side as side
use Rattle.amqp_link_calls.specs.Side.{Side, Sender, Receiver, link_of, with_link, is_stopped, polled, polled_answer}
use Rattle.amqp_link_calls.specs.declared.leave.PartKind.{PartKind}
use Rattle.amqp_link_calls.specs.declared.leave.PartKind.TheVariants as kind
use Rattle.amqp_link_calls.specs.declared.leave.WaitingPart.{WaitingPart}
use Rattle.amqp_receiver.specs.Receiver.{State as ReceiverState}
use Rattle.call_waits.specs.Waits.{PartWaits, OutcomeWaits, IsIdle, Waits}
use Rattle.call_waits.proofs.Links as links
use Rattle.call_waits.proofs.Links.{Stays, Awaits, LetGo, keeps_on, parting_keeps}
use Rattle.call_waits.proofs.Sides.{Keeps, unsettled_link, parts_keeps, lets_go, reattached_holds}
use Rattle.call_waits.proofs.Receivers as receivers
use Rattle.call_waits.proofs.Pending.{attach_never, part_pending, asked_pending}
use Rattle.call_waits.proofs.Keeping.{PartFits, Rests, rests, Base, base_then, base_rests, Loose, loose_on, loose_then, loose_attach, Calm, calm_on, calm_either, calm_part, calm_waits, waits_by, side_base, side_calm, none_some, nothing_waits, none_once, idle_waits}
use Rattle.call_waits.proofs.Answering.{attach_calm, attach_now_calm, attach_now_fits, outcomes_now_calm, outcomes_now_fits}

-- ---- a call that leaves the link is answered

let_go_loose : (k : Called) → Loose k (with_side (side.abandoned k.side) k)
let_go_loose k =
    let a = lets_go k.side in
    record {
      base = side_base (side.abandoned k.side) k (ap is_some a.stop) (λ place h. unsettled_link (parting.abandoned (link_of k.side)) k.side place h);
      awaits = a.awaits;
      attaching = λ n e. e;
    }

closed_loose : (x : LinkReply) (k : Called) → Loose k (closed_by x k)
closed_loose reply.Closed k = let_go_loose k
closed_loose other k = loose_on k

pub closed_parting : (x : LinkReply) (k : Called) → (closed_by x k).parting ≡ k.parting
closed_parting reply.Closed k = refl
closed_parting other k = refl

-- of the link, all but the call that leaves it
gone_loose : (w : WaitingPart) (k : Called) → Loose k (record k { parting = None; leaving = left_by w.kind k.leaving })
gone_loose w k =
    record {
      base = record { stop = refl; waiting = λ place n e. (e, λ h. h); once = λ h. h; idle = λ i. record { stopped = i.stopped; attaching = i.attaching; parting = refl; waiting = i.waiting }; concluded = λ h. h };
      awaits = λ h. h;
      attaching = λ n e. e;
    }

answering_loose : (name : ℕ) (x : LinkReply) (k : Called) → Loose k (answering name x k)
answering_loose name x k =
    record {
      base = record { stop = refl; waiting = λ place n e. (e, λ h. h); once = λ h. h; idle = λ i. record { stopped = i.stopped; attaching = i.attaching; parting = i.parting; waiting = i.waiting }; concluded = λ h. h };
      awaits = λ h. h;
      attaching = λ n e. e;
    }

loose_either : (b : Bool) (l m n : Called) → Loose l m → Loose l n → Loose l (if b then m else n)
loose_either true l m n p q = p
loose_either false l m n p q = q

told_part_loose : (x : LinkReply) (w : WaitingPart) (k : Called) → Loose k (told_part x w k)
told_part_loose x w k =
    let m : Called = record k { parting = None; leaving = left_by w.kind k.leaving } in
    let n = closed_by x m in
    loose_either (is_pending x) k k (answering w.name x n) (loose_on k)
    (loose_then k n (answering w.name x n) (loose_then k m n (gone_loose w k) (closed_loose x m)) (answering_loose w.name x n))

part_to_loose : (o : Option WaitingPart) (k : Called) → Loose k (part_answered_to o k)
part_to_loose None k = loose_on k
part_to_loose (Some w) k = told_part_loose (known w.kind k.side) w k

pub part_loose : (k : Called) → Loose k (part_answered k)
part_loose k = part_to_loose k.parting k

part_now_loose : (k : Called) → Loose k (part_answered_now k)
part_now_loose k = loose_either (is_stopped k.side) k k (part_answered k) (loose_on k) (part_loose k)

same_part : (v w : WaitingPart) → Some v ≡ Some w → v ≡ w
same_part v w e = cc

told_part_by : (b : Bool) (x : LinkReply) (w : WaitingPart) (k : Called) → k.parting ≡ Some w → (b ≡ true → PartWaits w.kind k.side)
    → PartFits (if b then k else answering w.name x (closed_by x (record k { parting = None; leaving = left_by w.kind k.leaving })))
told_part_by true x w k at f = λ v e h. subst (λ (u : WaitingPart). PartWaits u.kind k.side) (same_part w v (sym at ∙ e)) (f refl)
told_part_by false x w k at f = λ v e h.
    none_some _ (closed_by x (record k { parting = None; leaving = left_by w.kind k.leaving })).parting v (closed_parting x (record k { parting = None; leaving = left_by w.kind k.leaving })) e

part_to_fits : (o : Option WaitingPart) (k : Called) → k.parting ≡ o → PartFits (part_answered_to o k)
part_to_fits None k at = λ v e h. none_some _ k.parting v at e
part_to_fits (Some w) k at = told_part_by (is_pending (known w.kind k.side)) (known w.kind k.side) w k at (λ h. (part_pending w.kind k.side h).1)

part_now_by : (b : Bool) (k : Called) → is_stopped k.side ≡ b → PartFits (if b then k else part_answered k)
part_now_by true k e = λ v a h. (let f : true ≡ false = sym e ∙ h in absurd cc)
part_now_by false k e = part_to_fits k.parting k refl

part_now_fits : (k : Called) → PartFits (part_answered_now k)
part_now_fits k = part_now_by (is_stopped k.side) k refl

-- ---- the peer's Detach

detach_stop_by : (p : LinkPhase) (d : Detach) (l : Link) → (link.detach_read d (record l { phase = p })).stop_reason ≡ l.stop_reason
detach_stop_by phase.AttachSent d l = refl
detach_stop_by phase.DetachExpected d l = refl
detach_stop_by phase.Refused d l = refl
detach_stop_by phase.Attached d l = refl
detach_stop_by phase.DetachSent d l = refl
detach_stop_by phase.CloseSent d l = refl
detach_stop_by phase.RecloseSent d l = refl
detach_stop_by p d l = refl

detach_stop : (d : Detach) (s : Side) → is_stopped (side.detach_read d s) ≡ is_stopped s
detach_stop d (Sender s) = ap is_some (detach_stop_by s.link.phase d s.link)
detach_stop d (Receiver s) = ap is_some (detach_stop_by s.link.phase d s.link)

pub hears_detach : (d : Detach) (l : Called) → Waits l → Waits (hearing.detach_read d l)
hears_detach d l w =
    let t = side.detach_read d l.side in
    let k = with_side t l in
    let m = attach_answered_now k in
    let n = part_answered_now m in
    let r = outcomes_answered_now n in
    let a : Base l k = side_base t l (detach_stop d l.side) (λ place h. unsettled_link (link.detach_read d (link_of l.side)) l.side place h) in
    let b = attach_now_calm k in
    let c = part_now_loose m in
    let e = outcomes_now_calm n in
    let there : Base l n = base_then l m n (base_then l k m a b.loose.base) c.base in
    let rest : Rests n = base_rests l n there (rests l w) in
    waits_by r (loose_attach n r e.loose (loose_attach m n c (attach_now_fits k))) (calm_part n r e (part_now_fits m)) (outcomes_now_fits n rest.unsettled) (base_rests n r e.loose.base rest)

-- ---- the session stops, and is over

first_some : (o : Option SessionStopReason) (why : SessionStopReason) → is_some (link.first_reason o why) ≡ true
first_some None why = refl
first_some (Some first) why = refl

stopped_side : (why : SessionStopReason) (s : Side) → is_stopped (side.stopped why s) ≡ true
stopped_side why (Sender s) = first_some s.link.stop_reason why
stopped_side why (Receiver s) = first_some s.link.stop_reason why

pub session_stops : (why : SessionStopReason) (l : Called) → Waits l → Waits (stopped why l)
session_stops why l w =
    record {
      attach = λ name e h. absurd_stopped _ h;
      part = λ v e h. absurd_stopped _ h;
      unsettled = λ place name e. unsettled_link (link.stopped why (link_of l.side)) l.side place (w.unsettled place name e);
      outcome = λ place name e h. absurd_stopped _ h;
      once = w.once;
      over = λ h. (let i = w.over h in record { stopped = stopped_side why l.side; attaching = i.attaching; parting = i.parting; waiting = i.waiting });
    }
  where
    absurd_stopped : (P : Type 0) → is_stopped (side.stopped why l.side) ≡ false → P
    absurd_stopped P h = let f : true ≡ false = sym (stopped_side why l.side) ∙ h in absurd cc

told_none : (r : Result AttachPoll AttachError) (name : ℕ) (k : Called) → (r ≡ Ok Pending → ⊥) → (attach_told r name k).attaching ≡ None
told_none (Ok Pending) name k f = absurd (f refl)
told_none (Ok Done) name k f = refl
told_none (Err x) name k f = refl

attach_none : (o : Option ℕ) (k : Called) → k.attaching ≡ o → is_stopped k.side ≡ true → (attach_answered_to o k).attaching ≡ None
attach_none None k at e = at
attach_none (Some name) k at e = told_none (polled_answer k.side) name (with_side (polled k.side) k) (attach_never k.side e)

part_none_by : (b : Bool) (x : LinkReply) (w : WaitingPart) (k : Called) → (b ≡ true → ⊥)
    → (if b then k else answering w.name x (closed_by x (record k { parting = None; leaving = left_by w.kind k.leaving }))).parting ≡ None
part_none_by true x w k f = absurd (f refl)
part_none_by false x w k f = closed_parting x (record k { parting = None; leaving = left_by w.kind k.leaving })

part_none : (o : Option WaitingPart) (k : Called) → k.parting ≡ o → is_stopped k.side ≡ true → (part_answered_to o k).parting ≡ None
part_none None k at e = at
part_none (Some w) k at e =
    part_none_by (is_pending (known w.kind k.side)) (known w.kind k.side) w k (λ h. (let f : false ≡ true = sym (part_pending w.kind k.side h).0 ∙ e in cc))

none_by : (o : Option ℕ) → ((name : ℕ) → o ≡ Some name → ⊥) → o ≡ None
none_by None f = refl
none_by (Some name) f = absurd (f name refl)

pub concluded_idle : (l : Called) → is_stopped l.side ≡ true → IsIdle (hearing.concluded l)
concluded_idle l e =
    let k : Called = record l { is_concluded = true } in
    let m = attach_answered k in
    let n = part_answered m in
    let a = attach_calm k in
    let c = part_loose m in
    let none : m.attaching ≡ None = attach_none k.attaching k refl e in
    let stop : is_stopped m.side ≡ true = a.loose.base.stop ∙ e in
    record {
      stopped = c.base.stop ∙ stop;
      attaching = none_by n.attaching (λ name h. none_some _ m.attaching name none (c.attaching name h));
      parting = part_none m.parting m refl stop;
      waiting = refl;
    }

pub session_concludes : (l : Called) → is_stopped l.side ≡ true → Waits (hearing.concluded l)
session_concludes l e = idle_waits (hearing.concluded l) (concluded_idle l e)

-- ---- calls

-- a call is asked that waits, or has left the link
asked_fits : (b : Bool) (name : ℕ) (k : PartKind) (l : Called) → (b ≡ true → (is_stopped l.side ≡ false) × PartWaits k l.side) → Waits l → Waits (asked_part b name k l)
asked_fits false name k l f w =
    record { attach = w.attach; part = w.part; unsettled = w.unsettled; outcome = w.outcome; once = w.once; over = λ h. (let i = w.over h in record { stopped = i.stopped; attaching = i.attaching; parting = i.parting; waiting = i.waiting }) }
asked_fits true name k l f w =
    record {
      attach = w.attach;
      part = λ v e h. subst (λ (u : WaitingPart). PartWaits u.kind l.side) (same_part (record { name = name; kind = k }) v e) (f refl).1;
      unsettled = w.unsettled;
      outcome = w.outcome;
      once = w.once;
      over = λ h. (let g : true ≡ false = sym (w.over h).stopped ∙ (f refl).0 in absurd cc);
    }

unstopped : (s : Side) → (link_of s).stop_reason ≡ None → is_stopped s ≡ false
unstopped s e = ap is_some e

parts_pending : (c : Bool) (x : Option AmqpError) (k : PartKind) (s : Side) → ((t : Side) → is_done (link_of t).phase ≡ false → PartWaits k t) → is_pending (part_reply c (side.parts c x s).answer) ≡ true
    → (is_stopped (side.parts c x s).side ≡ false) × PartWaits k (side.parts c x s).side
parts_pending c x k (Sender s) f h =
    let a = asked_pending c x s.link h in (unstopped (side.parts c x (Sender s)).side ((parting_keeps c x s.link).stays.stop ∙ a.0), f (side.parts c x (Sender s)).side a.1)
parts_pending c x k (Receiver s) f h =
    let a = asked_pending c x s.link h in (unstopped (side.parts c x (Receiver s)).side ((parting_keeps c x s.link).stays.stop ∙ a.0), f (side.parts c x (Receiver s)).side a.1)

pub asks_detach : (name : ℕ) (x : Option (List ℕ)) (l : Called) → Waits l → Waits (detach_asked name x l).called
asks_detach name x l w =
    let m = side.parts false (error_of x) l.side in
    asked_fits (is_pending (part_reply false m.answer)) name kind.Detach (with_side m.side l) (λ h. parts_pending false (error_of x) kind.Detach l.side (λ t e. e) h)
    (calm_waits l (with_side m.side l) (side_calm m.side l (parts_keeps false (error_of x) l.side)) w)

-- ---- a call that closes the link

record IsClosed (s : Side) (m : side.PartedSide) : Type 0 where
  keeps : Keeps s m.side
  waits : is_pending (part_reply true m.answer) ≡ true → (is_stopped m.side ≡ false) × (is_done (link_of m.side).phase ≡ false)

receiver_parts : (x : Option AmqpError) (s t : ReceiverState) → receivers.Stays s t → IsClosed (Receiver s) (record { side = Receiver (closes x t).state; answer = (closes x t).answer })
receiver_parts x s t k =
    let m = parting_keeps true x t.link in
    let a = links.keeps_then s.link t.link (closes x t).state.link k.keeps m in
    record {
      keeps = record { holds = record { stays = a.stays; unsettled = λ place h. h }; awaits = a.awaits };
      waits = λ h. (let p = asked_pending true x t.link h in (unstopped (Receiver (closes x t).state) (m.stays.stop ∙ p.0), p.1));
    }

closes_unless : (o : Option IllegalLinkStateError) (x : AmqpError) (s t : ReceiverState) → receivers.Stays s t
    → IsClosed (Receiver s) (record { side = Receiver (closed_unless o x t).state; answer = (closed_unless o x t).answer })
closes_unless (Some e) x s t k = record { keeps = record { holds = record { stays = k.keeps.stays; unsettled = λ place h. h }; awaits = k.keeps.awaits }; waits = λ h. absurd cc }
closes_unless None x s t k = receiver_parts (Some x) s t k

receiver_closes : (x : Option AmqpError) (s : ReceiverState) → IsClosed (Receiver s) (closed_side x (Receiver s))
receiver_closes None s = receiver_parts None s s (receivers.still s)
receiver_closes (Some x) s = closes_unless (credit_taken s).answer x s (credit_taken s).state (receivers.credit_set_stays 0 s)

side_closes : (x : Option AmqpError) (s : Side) → IsClosed s (closed_side x s)
side_closes x (Sender s) =
    let a = parting_keeps true x s.link in
    record {
      keeps = parts_keeps true x (Sender s);
      waits = λ h. (let p = asked_pending true x s.link h in (unstopped (side.parts true x (Sender s)).side (a.stays.stop ∙ p.0), p.1));
    }
side_closes x (Receiver s) = receiver_closes x s

-- a link that is let go while no call leaves it
let_go_waits : (l m : Called) → m.side ≡ side.abandoned l.side → m.attaching ≡ l.attaching → m.parting ≡ None → m.waiting ≡ [] → m.is_concluded ≡ l.is_concluded → Waits l → Waits m
let_go_waits l m s a p e c w =
    let g = lets_go l.side in
    let stop : is_stopped m.side ≡ is_stopped l.side = ap is_stopped s ∙ ap is_some g.stop in
    record {
      attach = λ name at h. subst (λ t. is_awaited (link_of t).phase ≡ true) (sym s) (g.awaits (w.attach name (sym a ∙ at) (sym stop ∙ h)));
      part = λ v at h. none_some _ m.parting v p at;
      unsettled = λ place name at. nothing_waits m place name _ e at;
      outcome = λ place name at h. nothing_waits m place name _ e at;
      once = none_once m e;
      over = λ h. (let i = w.over (sym c ∙ h) in record { stopped = stop ∙ i.stopped; attaching = a ∙ i.attaching; parting = p; waiting = e });
    }

close_by : (x : LinkReply) (name : ℕ) (l : Called) → l.parting ≡ None → (is_pending x ≡ true → (is_stopped l.side ≡ false) × (is_done (link_of l.side).phase ≡ false)) → Waits l
    → Waits (closed_at_once x (asked_part (is_pending x) name kind.Close l))
close_by reply.Closed name l p f w = let_go_waits l (closed_at_once reply.Closed (asked_part false name kind.Close l)) refl refl p refl refl w
close_by x name l p f w = asked_fits (is_pending x) name kind.Close l f w

pub asks_close : (name : ℕ) (x : Option (List ℕ)) (l : Called) → l.parting ≡ None → Waits l → Waits (close_asked name x l).called
asks_close name x l p w =
    let m = closed_side (error_of x) l.side in
    let c = side_closes (error_of x) l.side in
    close_by (part_reply true m.answer) name (with_side m.side l) p c.waits (calm_waits l (with_side m.side l) (side_calm m.side l c.keeps) w)

pub leaves_waits : (name : ℕ) (x : Parting) (l : Called) → l.parting ≡ None → Waits l → Waits (leaves name x l).called
leaves_waits name words.OnDetach l p w = asked_fits (is_pending (known kind.OnDetach l.side)) name kind.OnDetach l (λ h. part_pending kind.OnDetach l.side h) w
leaves_waits name (words.Detach x timeout) l p w = asks_detach name x l w
leaves_waits name (words.Close x) l p w = asks_close name x l p w
leaves_waits name words.Abandon l p w = let_go_waits l (abandoned l) refl refl p refl refl w

-- its time is over
given_up_calm : (l : Called) → Calm l (record l { parting = None })
given_up_calm l =
    record {
      loose = record {
        base = record { stop = refl; waiting = λ place n e. (e, λ h. h); once = λ h. h; idle = λ i. record { stopped = i.stopped; attaching = i.attaching; parting = refl; waiting = i.waiting }; concluded = λ h. h };
        awaits = λ h. h;
        attaching = λ n e. e;
      };
      stays = (keeps_on (link_of l.side)).stays;
      parting = λ v e. absurd cc;
    }

pub part_given_up_calm : (name : ℕ) (l : Called) → Calm l (part_given_up name l)
part_given_up_calm name l = calm_either (awaits_part name l.parting) l (record l { parting = None }) l (given_up_calm l) (calm_on l)

-- ---- a further attachment

wanted : (p : LinkPhase) (P : Type 0) → parting.wants_handle p ≡ true → is_awaited p ≡ true → P
wanted phase.HandleWanted P h e = absurd cc
wanted p P h e = absurd cc

both_true : (a b : Bool) → (a && b) ≡ true → (a ≡ true) × (b ≡ true)
both_true true true h = (refl, refl)
both_true true false h = absurd cc
both_true false b h = absurd cc

pub handle_calm : (handle : ℕ) (l : Called) → wants_handle l ≡ true → Calm l (handle_given handle l)
handle_calm handle l h =
    let t = side.reattached handle l.side in
    let k = reattached_holds handle l.side in
    side_calm t l (record { holds = k; awaits = λ e. wanted (link_of l.side).phase _ (both_true (is_parting l.parting) (parting.wants_handle (link_of l.side).phase) h).1 e })

-- the call is told that the link stays as it is
record Refuses (c : Bool) (o : Option SessionStopReason) : Type 0 where
  error : DetachError
  told : part_reply c (parting.stuck_poll o) ≡ reply.DetachError error

refuses : (c : Bool) (o : Option SessionStopReason) → Refuses c o
refuses c (Some why) = record { error = detach.SessionStopped why; told = refl }
refuses c None = record { error = detach.IllegalState; told = refl }

record Unplaced (w : WaitingPart) (t : Side) : Type 0 where
  error : DetachError
  told : known w.kind t ≡ reply.DetachError error

unplaced_by : (k : PartKind) (s : Side) → awaits_both k ≡ true → Unplaced (record { name = 0; kind = k }) (side.unplaced s)
unplaced_by kind.OnDetach s h = absurd cc
unplaced_by kind.Detach (Sender s) h = let a = refuses false s.link.stop_reason in record { error = a.error; told = a.told }
unplaced_by kind.Detach (Receiver s) h = let a = refuses false s.link.stop_reason in record { error = a.error; told = a.told }
unplaced_by kind.Close (Sender s) h = let a = refuses true s.link.stop_reason in record { error = a.error; told = a.told }
unplaced_by kind.Close (Receiver s) h = let a = refuses true s.link.stop_reason in record { error = a.error; told = a.told }

unplaced_stop : (s : Side) → is_stopped (side.unplaced s) ≡ is_stopped s
unplaced_stop (Sender s) = refl
unplaced_stop (Receiver s) = refl

unplaced_outcome : (s : Side) → OutcomeWaits s → OutcomeWaits (side.unplaced s)
unplaced_outcome (Sender s) p = (p.0, λ d c. refl)
unplaced_outcome (Receiver s) p = (p.0, λ d c. refl)

refused_by : (o : Option WaitingPart) (l : Called) → l.parting ≡ o → is_parting o ≡ true → parting.wants_handle (link_of l.side).phase ≡ true → Waits l → Waits (part_answered_to o (with_side (side.unplaced l.side) l))
refused_by None l at h q w = absurd cc
refused_by (Some v) l at h q w =
    let t = side.unplaced l.side in
    let k = with_side t l in
    let a = unplaced_by v.kind l.side h in
    subst (λ x. Waits (told_part x v k)) (sym a.told)
    (record {
      attach = λ name e n. wanted (link_of l.side).phase _ q (w.attach name e (sym (unplaced_stop l.side) ∙ n));
      part = λ u e n. absurd cc;
      unsettled = λ place name e. unsettled_link (parting.unplaced (link_of l.side)) l.side place (w.unsettled place name e);
      outcome = λ place name e n. unplaced_outcome l.side (w.outcome place name e (sym (unplaced_stop l.side) ∙ n));
      once = w.once;
      over = λ e. none_some _ l.parting v (w.over e).parting at;
    })

pub refused_waits : (l : Called) → wants_handle l ≡ true → Waits l → Waits (handle_refused l)
refused_waits l h w =
    let a = both_true (is_parting l.parting) (parting.wants_handle (link_of l.side).phase) h in refused_by l.parting l refl a.0 a.1 w
