-- Calls that have waited at a link are answered by no delivery.
use Rattle.std.specs.Prelude.{◌≡◌, ℕ, nat_eq, Bool, true, false, not, ◌||◌, List, [], ◌∷◌, ◌++◌, map, Option, Some, None, Result, Ok, Err, if◌then◌else◌, refl, ◌+◌}
use Rattle.std.proofs.Common.{sym, ◌∙◌, ap, subst, arith}
use Rattle.std.specs.Map.{lookup}
use Rattle.indexmap.specs.IndexMap.{swap_remove_entry}
use Rattle.amqp_termini.specs.declared.state.DeliveryState.{DeliveryState}
use Rattle.amqp_composites.specs.declared.modes.Role.{Role}
use Rattle.amqp_composites.specs.declared.modes.Role.TheVariants as role
use Rattle.amqp_performatives.specs.declared.attach.Attach.{Attach}
use Rattle.amqp_performatives.specs.declared.detach.Detach.{Detach}
use Rattle.amqp_frames.specs.declared.shared.CoveredDelivery.{CoveredDelivery}
use Rattle.amqp_link.specs.declared.endpoint.AttachPoll.{AttachPoll}
use Rattle.amqp_link.specs.declared.endpoint.AttachPoll.TheVariants.{Pending, Done}
use Rattle.amqp_link.specs.declared.endpoint.DetachPoll.{DetachPoll}
use Rattle.amqp_link.specs.declared.endpoint.DetachPoll.TheVariants as poll
use Rattle.amqp_link.specs.declared.error.AttachError.{AttachError}
use Rattle.amqp_link.specs.declared.error.DetachError.{DetachError}
use Rattle.amqp_link.specs.declared.error.IllegalLinkStateError.{IllegalLinkStateError}
use Rattle.amqp_sender.specs.declared.error.SendError.{SendError}
use Rattle.amqp_sender.specs.declared.sender.OutcomePoll.{OutcomePoll}
use Rattle.amqp_sender.specs.declared.sender.OutcomePoll.TheVariants as outcome
use Rattle.amqp_sender.specs.declared.sender.SendReply.{SendReply}
use Rattle.amqp_sender.specs.declared.sender.SendReply.TheVariants as sent
use Rattle.amqp_sender.specs.Settling as settling
use Rattle.amqp_link_words.specs.declared.link_call.Disposal.{Disposal}
use Rattle.amqp_link_words.specs.declared.link_call.Parting.{Parting}
use Rattle.amqp_link_words.specs.declared.link_call.Parting.TheVariants as parting
use Rattle.amqp_link_words.specs.declared.link_call.Sendable.{Sendable}
use Rattle.amqp_link_words.specs.declared.link_reply.LinkReply.{LinkReply}
use Rattle.amqp_link_words.specs.declared.link_reply.LinkReply.TheVariants as reply
use Rattle.amqp_link_words.specs.declared.link_reply.NamedLinkReply.{NamedLinkReply}
use Rattle.amqp_link_words.specs.declared.regulation.Regulation.{Regulation}
use Rattle.amqp_delivery.specs.declared.info.DeliveryInfo.{DeliveryInfo}
use Rattle.amqp_delivery.specs.declared.info.DisposerView.{DisposerView}
use Rattle.amqp_session.specs.declared.session.LinkInput.{LinkInput}
use Rattle.amqp_session.specs.declared.session.LinkInput.TheVariants as input
use Rattle.amqp_link_calls.specs.declared.leave.PartKind.{PartKind}
use Rattle.amqp_link_calls.specs.declared.leave.PartKind.TheVariants as kind
use Rattle.amqp_link_calls.specs.declared.leave.WaitingPart.{WaitingPart}
use Rattle.amqp_link_calls.specs.Answering.{attach_told, attach_polled, attach_answered_to, attach_answered, attach_answered_now, accept_told, accept_reply_for, accept_answered, accept_reply, outcome_at, tells_of_stop, put_off, outcome_now, outcome_answered_to, outcome_answered, told_by, outcomes_answered, outcomes_answered_now}
use Rattle.amqp_link_calls.specs.Called.{Called, with_side, answering, stopped, awaits_outcome}
use Rattle.amqp_link_calls.specs.Calling.{sends, sending_of, having_sent, awaiting, outcome_asked, outcome_given_up, disposes, disposing, sets_credit}
use Rattle.amqp_link_calls.specs.Disposers.{disposes_by, disposing_by}
use Rattle.amqp_link_calls.specs.Hearing as hearing
use Rattle.amqp_link_calls.specs.Leaving.{done_reply, part_reply, news_reply, known, closed_by, told_part, left_by, part_answered_to, part_answered, part_answered_now, asked_part, detach_asked, closed_side, closed_at_once, close_asked, abandoned, leaves, part_given_up, awaits_part, handle_given, handle_refused}
use Rattle.amqp_link_calls.specs.Regulating.{regulates, regulating}
use Rattle.amqp_link_calls.specs.Replies.{made_reply, attach_error, accept_error, sent_reply, outcome_reply, disposal_reply, credit_reply, is_pending, error_of}
use Rattle.amqp_link_calls.specs.Side as side
use Rattle.amqp_link_calls.specs.Side.{Side, Sender, Receiver, is_stopped, is_closed_by_both, polled, polled_answer, role_of, parted_poll, detach_news}
use Rattle.amqp_links.specs.Parts.{emptied, is_heard, heard, disposition_heard}
use Rattle.amqp_receiver.specs.Receiver as receiver
use Rattle.served_connection.proofs.ListenLaws.Totals.{total, total_nil, total_cons, total_push, total_append}
use Rattle.served_connection.proofs.ListenLaws.Weights.{is_given, given_of}

-- ---- answers that give no delivery

made_gives : (r : Role) → is_given (made_reply r) ≡ 0
made_gives role.Sender = refl
made_gives role.Receiver = refl

attach_gives : (r : Role) (e : AttachError) → is_given (attach_error r e) ≡ 0
attach_gives role.Sender e = refl
attach_gives role.Receiver e = refl

pub accept_gives : (r : Role) (e : AttachError) → is_given (accept_error r e) ≡ 0
accept_gives role.Sender e = refl
accept_gives role.Receiver e = refl

accept_for_gives : (r : Result AttachPoll AttachError) (s : Side) → is_given (accept_reply_for r s) ≡ 0
accept_for_gives (Ok Pending) s = refl
accept_for_gives (Ok Done) s = made_gives (role_of s)
accept_for_gives (Err e) s = accept_gives (role_of s) e

pub accept_reply_gives : (l : Called) → is_given (accept_reply l) ≡ 0
accept_reply_gives l = accept_for_gives (polled_answer l.side) l.side

outcome_gives : (r : Result OutcomePoll SendError) → is_given (outcome_reply r) ≡ 0
outcome_gives (Ok outcome.Pending) = refl
outcome_gives (Ok (outcome.Ready x)) = refl
outcome_gives (Err e) = refl

outcome_at_gives : (place : ℕ) (s : Side) → is_given (outcome_at place s) ≡ 0
outcome_at_gives place (Sender s) = outcome_gives (settling.outcome_at place s)
outcome_at_gives place (Receiver s) = refl

gives_either : (b : Bool) (x y : LinkReply) → is_given x ≡ 0 → is_given y ≡ 0 → is_given (if b then x else y) ≡ 0
gives_either true x y p q = p
gives_either false x y p q = q

pub outcome_now_gives : (place : ℕ) (l : Called) → is_given (outcome_now place l) ≡ 0
outcome_now_gives place l = gives_either _ reply.Pending (outcome_at place l.side) refl (outcome_at_gives place l.side)

sent_gives : (r : Result SendReply SendError) → is_given (sent_reply r) ≡ 0
sent_gives (Ok (sent.Sent token)) = refl
sent_gives (Ok sent.Pending) = refl
sent_gives (Err e) = refl

pub sends_gives : (x : Sendable) (s : Side) → is_given (sends x s).reply ≡ 0
sends_gives x (Sender s) = sent_gives (sending_of x s).answer
sends_gives x (Receiver s) = refl

disposal_gives : (o : Option IllegalLinkStateError) → is_given (disposal_reply o) ≡ 0
disposal_gives None = refl
disposal_gives (Some e) = refl

pub disposes_gives : (x : Disposal) (infos : List DeliveryInfo) (s : Side) → is_given (disposes x infos s).reply ≡ 0
disposes_gives x infos (Sender s) = refl
disposes_gives x infos (Receiver s) = disposal_gives (disposing x infos s).answer

pub disposes_by_gives : (view : DisposerView) (x : Disposal) (infos : List DeliveryInfo) (s : Side) → is_given (disposes_by view x infos s).reply ≡ 0
disposes_by_gives view x infos (Sender s) = refl
disposes_by_gives view x infos (Receiver s) = disposal_gives (disposing_by view x infos s).answer

credit_gives : (o : Option IllegalLinkStateError) → is_given (credit_reply o) ≡ 0
credit_gives None = refl
credit_gives (Some e) = refl

pub sets_credit_gives : (credit : ℕ) (s : Side) → is_given (sets_credit credit s).reply ≡ 0
sets_credit_gives credit (Sender s) = refl
sets_credit_gives credit (Receiver s) = credit_gives (receiver.credit_set credit s).answer

pub regulates_gives : (x : Regulation) (s : Side) → is_given (regulates x s).reply ≡ 0
regulates_gives x (Sender s) = refl
regulates_gives x (Receiver s) = credit_gives (regulating x s).answer

done_gives : (closes : Bool) → is_given (done_reply closes) ≡ 0
done_gives true = refl
done_gives false = refl

part_gives : (closes : Bool) (p : DetachPoll) → is_given (part_reply closes p) ≡ 0
part_gives closes poll.Pending = refl
part_gives closes poll.Done = done_gives closes
part_gives closes (poll.Failed e) = refl

news_gives : (o : Option DetachError) → is_given (news_reply o) ≡ 0
news_gives None = refl
news_gives (Some e) = refl

known_gives : (k : PartKind) (s : Side) → is_given (known k s) ≡ 0
known_gives kind.OnDetach s = news_gives (detach_news s)
known_gives kind.Detach s = part_gives false (parted_poll false s)
known_gives kind.Close s = part_gives true (parted_poll true s)

pub leaves_gives : (name : ℕ) (x : Parting) (l : Called) → is_given (leaves name x l).reply ≡ 0
leaves_gives name parting.OnDetach l = known_gives kind.OnDetach l.side
leaves_gives name (parting.Detach error timeout) l = part_gives false (side.parts false (error_of error) l.side).answer
leaves_gives name (parting.Close error) l = part_gives true (closed_side (error_of error) l.side).answer
leaves_gives name parting.Abandon l = refl

-- ---- what a link has for calls that have waited

-- it gives no more deliveries than it gave
abbrev pub Quiet : Called → Called → Type 0
Quiet l m = total given_of m.answers ≡ total given_of l.answers

quiet_answering : (name : ℕ) (x : LinkReply) (l : Called) → is_given x ≡ 0 → Quiet l (answering name x l)
quiet_answering name x l h =
    let r : NamedLinkReply = record { name = name; reply = x } in
    let e : total given_of (l.answers ++ r ∷ []) ≡ total given_of l.answers + is_given x = total_push given_of l.answers r in
    omega (arith, e, h)

quiet_then : (l m n : Called) → Quiet l m → Quiet m n → Quiet l n
quiet_then l m n p q = q ∙ p

quiet_either : (b : Bool) (l m n : Called) → Quiet l m → Quiet l n → Quiet l (if b then m else n)
quiet_either true l m n p q = p
quiet_either false l m n p q = q

attach_told_quiet : (r : Result AttachPoll AttachError) (name : ℕ) (l : Called) → Quiet l (attach_told r name l)
attach_told_quiet (Ok Pending) name l = refl
attach_told_quiet (Ok Done) name l = quiet_answering name (made_reply (role_of l.side)) (record l { attaching = None; is_made = true }) (made_gives (role_of l.side))
attach_told_quiet (Err e) name l = quiet_answering name (attach_error (role_of l.side) e) (record l { attaching = None }) (attach_gives (role_of l.side) e)

attach_to_quiet : (o : Option ℕ) (l : Called) → Quiet l (attach_answered_to o l)
attach_to_quiet None l = refl
attach_to_quiet (Some name) l = attach_told_quiet (polled_answer l.side) name (with_side (polled l.side) l)

attach_answered_quiet : (l : Called) → Quiet l (attach_answered l)
attach_answered_quiet l = attach_to_quiet l.attaching l

attach_now_quiet : (l : Called) → Quiet l (attach_answered_now l)
attach_now_quiet l = quiet_either (is_stopped l.side) l l (attach_answered l) refl (attach_answered_quiet l)

accept_told_quiet : (r : Result AttachPoll AttachError) (l : Called) → Quiet l (accept_told r l)
accept_told_quiet (Ok Pending) l = refl
accept_told_quiet (Ok Done) l = refl
accept_told_quiet (Err e) l = refl

pub accept_answered_quiet : (l : Called) → Quiet l (accept_answered l)
accept_answered_quiet l = accept_told_quiet (polled_answer l.side) (with_side (polled l.side) l)

outcome_to_quiet : (o : Option ℕ) (place : ℕ) (l : Called) → Quiet l (outcome_answered_to o place l)
outcome_to_quiet None place l = refl
outcome_to_quiet (Some name) place l =
    quiet_answering name (outcome_at place l.side) (record l { waiting = swap_remove_entry (nat_eq place) l.waiting }) (outcome_at_gives place l.side)

outcome_answered_quiet : (place : ℕ) (l : Called) → Quiet l (outcome_answered place l)
outcome_answered_quiet place l = outcome_to_quiet (lookup (nat_eq place) l.waiting) place l

told_gives : (s : Side) (ws : List (ℕ × ℕ)) → total given_of (map (told_by s) ws) ≡ 0
told_gives s [] = total_nil given_of
told_gives s (w ∷ ws) = omega (arith, total_cons given_of (told_by s w) (map (told_by s) ws), outcome_at_gives w.0 s, told_gives s ws)

pub outcomes_quiet : (l : Called) → Quiet l (outcomes_answered l)
outcomes_quiet l = omega (arith, total_append given_of l.answers (map (told_by l.side) l.waiting), told_gives l.side l.waiting)

outcomes_now_quiet : (l : Called) → Quiet l (outcomes_answered_now l)
outcomes_now_quiet l = quiet_either (is_stopped l.side || not (is_closed_by_both l.side)) l l (outcomes_answered l) refl (outcomes_quiet l)

closed_by_quiet : (x : LinkReply) (l : Called) → Quiet l (closed_by x l)
closed_by_quiet reply.Closed l = refl
closed_by_quiet other l = refl

told_part_quiet : (x : LinkReply) (w : WaitingPart) (l : Called) → is_given x ≡ 0 → Quiet l (told_part x w l)
told_part_quiet x w l h =
    let m : Called = record l { parting = None; leaving = left_by w.kind l.leaving } in
    let n = closed_by x m in
    quiet_either (is_pending x) l l (answering w.name x n) refl (quiet_then l n (answering w.name x n) (closed_by_quiet x m) (quiet_answering w.name x n h))

part_to_quiet : (o : Option WaitingPart) (l : Called) → Quiet l (part_answered_to o l)
part_to_quiet None l = refl
part_to_quiet (Some w) l = told_part_quiet (known w.kind l.side) w l (known_gives w.kind l.side)

part_answered_quiet : (l : Called) → Quiet l (part_answered l)
part_answered_quiet l = part_to_quiet l.parting l

part_now_quiet : (l : Called) → Quiet l (part_answered_now l)
part_now_quiet l = quiet_either (is_stopped l.side) l l (part_answered l) refl (part_answered_quiet l)

-- ---- what is heard

pub attach_quiet : (x : Attach) (l : Called) → Quiet l (hearing.attach_read x l)
attach_quiet x l = attach_now_quiet (with_side (side.attach_read x l.side) l)

detach_quiet : (d : Detach) (l : Called) → Quiet l (hearing.detach_read d l)
detach_quiet d l =
    let m = with_side (side.detach_read d l.side) l in
    let n = attach_answered_now m in
    let o = part_answered_now n in
    quiet_then l n (outcomes_answered_now o) (attach_now_quiet m) (quiet_then n o (outcomes_answered_now o) (part_now_quiet n) (outcomes_now_quiet o))

pub concluded_quiet : (l : Called) → Quiet l (hearing.concluded l)
concluded_quiet l =
    let k : Called = record l { is_concluded = true } in
    let m = attach_answered k in
    let n = part_answered m in
    quiet_then l m (outcomes_answered n) (attach_answered_quiet k) (quiet_then m n (outcomes_answered n) (part_answered_quiet m) (outcomes_quiet n))

pub heard_quiet : (x : LinkInput) (l : Called) → Quiet l (heard x l)
heard_quiet (input.Flow x) l = refl
heard_quiet (input.Transfer x payload) l = refl
heard_quiet (input.Detach x) l = detach_quiet x l
heard_quiet other l = refl

done_quiet : (o : Option ℕ) (b : Bool) (l : Called) → Quiet l (hearing.done_answered o b l)
done_quiet (Some place) true l = outcome_answered_quiet place l
done_quiet (Some place) false l = refl
done_quiet None b l = refl

disposition_at_quiet : (t : Side) (covered : CoveredDelivery) (settled : Bool) (x : Option DeliveryState) (l : Called) → Quiet l (hearing.disposition_at t covered settled x l)
disposition_at_quiet (Sender t) covered settled x l =
    let u = settling.disposition_read covered settled x t in
    let place = settling.place_of covered.delivery_tag t in
    done_quiet place (hearing.is_done place u) (with_side (Sender u) l)
disposition_at_quiet (Receiver t) covered settled x l = refl

pub disposition_quiet : (covered : CoveredDelivery) (settled : Bool) (x : Option DeliveryState) (l : Called) → Quiet l (disposition_heard covered settled x l)
disposition_quiet covered settled x l = quiet_either (is_heard l) l (hearing.disposition_read covered settled x l) l (disposition_at_quiet l.side covered settled x l) refl

pub refused_quiet : (l : Called) → Quiet l (handle_refused l)
refused_quiet l = part_answered_quiet (with_side (side.unplaced l.side) l)

-- ---- calls

waits_quiet : (b : Bool) (name place : ℕ) (l : Called) → Quiet l (awaiting b name place l)
waits_quiet true name place l = refl
waits_quiet false name place l = refl

pub outcome_asked_quiet : (name place : ℕ) (l : Called) → Quiet l (outcome_asked name place l)
outcome_asked_quiet name place l = waits_quiet (is_pending (outcome_now place l)) name place l

pub outcome_given_up_quiet : (name place : ℕ) (l : Called) → Quiet l (outcome_given_up name place l)
outcome_given_up_quiet name place l = quiet_either (awaits_outcome name place l) l (record l { waiting = swap_remove_entry (nat_eq place) l.waiting }) l refl refl

pub part_given_up_quiet : (name : ℕ) (l : Called) → Quiet l (part_given_up name l)
part_given_up_quiet name l = quiet_either (awaits_part name l.parting) l (record l { parting = None }) l refl refl

asked_quiet : (b : Bool) (name : ℕ) (k : PartKind) (l : Called) → Quiet l (asked_part b name k l)
asked_quiet true name k l = refl
asked_quiet false name k l = refl

at_once_quiet : (x : LinkReply) (l : Called) → Quiet l (closed_at_once x l)
at_once_quiet reply.Closed l = outcomes_quiet (closed_by reply.Closed l)
at_once_quiet other l = refl

pub leaves_quiet : (name : ℕ) (x : Parting) (l : Called) → Quiet l (leaves name x l).called
leaves_quiet name parting.OnDetach l = asked_quiet (is_pending (known kind.OnDetach l.side)) name kind.OnDetach l
leaves_quiet name (parting.Detach error timeout) l =
    let m = side.parts false (error_of error) l.side in asked_quiet (is_pending (part_reply false m.answer)) name kind.Detach (with_side m.side l)
leaves_quiet name (parting.Close error) l =
    let t = closed_side (error_of error) l.side in
    let x = part_reply true t.answer in
    let m = with_side t.side l in
    let n = asked_part (is_pending x) name kind.Close m in
    quiet_then l n (closed_at_once x n) (asked_quiet (is_pending x) name kind.Close m) (at_once_quiet x n)
leaves_quiet name parting.Abandon l = outcomes_quiet (with_side (side.abandoned l.side) l)
