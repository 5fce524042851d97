-- One link with the calls that wait at it goes on.
use Rattle.std.specs.Prelude.{◌≡◌, ℕ, nat_eq, Bool, true, false, not, ◌||◌, List, [], ◌∷◌, ◌++◌, map, Option, Some, None, Result, Ok, Err, if◌then◌else◌, refl}
use Rattle.std.proofs.Common.{sym, ◌∙◌, subst}
use Rattle.std.specs.Map.{lookup}
use Rattle.indexmap.specs.IndexMap.{swap_remove_entry}
use Rattle.amqp_termini.specs.declared.state.DeliveryState.{DeliveryState}
use Rattle.amqp_performatives.specs.declared.attach.Attach.{Attach}
use Rattle.amqp_performatives.specs.declared.detach.Detach.{Detach}
use Rattle.amqp_frames.specs.declared.shared.CoveredDelivery.{CoveredDelivery}
use Rattle.amqp_frames.specs.declared.shared.SessionStopReason.{SessionStopReason}
use Rattle.amqp_link.specs.declared.endpoint.AttachPoll.{AttachPoll}
use Rattle.amqp_link.specs.declared.endpoint.AttachPoll.TheVariants.{Pending, Done}
use Rattle.amqp_link.specs.declared.error.AttachError.{AttachError}
use Rattle.amqp_link_words.specs.declared.link_reply.LinkReply.{LinkReply}
use Rattle.amqp_link_words.specs.declared.link_reply.LinkReply.TheVariants as reply
use Rattle.amqp_parts.specs.declared.part.Part.{Part}
use Rattle.amqp_session.specs.declared.session.LinkInput.{LinkInput}
use Rattle.amqp_session.specs.declared.session.LinkInput.TheVariants as input
use Rattle.amqp_receiver.specs.Receiving as receiving
use Rattle.amqp_sender.specs.Settling as settling
use Rattle.amqp_links.specs.amqp_link_calls.declared.leave.WaitingPart.{WaitingPart}
use Rattle.amqp_links.specs.amqp_link_calls.Answering.{attach_told, attach_polled, attach_answered_to, attach_answered, attach_answered_now, outcome_answered_to, outcome_answered, outcomes_answered, outcomes_answered_now, outcome_now}
use Rattle.amqp_links.specs.amqp_link_calls.Called.{Called, with_side, answering, stopped, awaits_outcome}
use Rattle.amqp_links.specs.amqp_link_calls.Hearing as hearing
use Rattle.amqp_links.specs.amqp_link_calls.Leaving.{closed_by, known, told_part, asked_part, detach_asked, closed_side, closed_at_once, close_asked, abandoned, leaves, part_reply, awaits_part, part_given_up, part_answered_to, part_answered, part_answered_now, handle_given, handle_refused, left_by}
use Rattle.amqp_links.specs.amqp_link_calls.Calling as calling
use Rattle.amqp_links.specs.amqp_link_calls.declared.leave.PartKind.{PartKind}
use Rattle.amqp_links.specs.amqp_link_calls.declared.leave.PartKind.TheVariants as kind
use Rattle.amqp_link_words.specs.declared.link_call.Parting.{Parting}
use Rattle.amqp_link_words.specs.declared.link_call.Parting.TheVariants as parting
use Rattle.amqp_links.specs.amqp_link_calls.Replies.{is_pending, error_of}
use Rattle.amqp_links.specs.amqp_link_calls.Side as side
use Rattle.amqp_links.specs.amqp_link_calls.Side.{Side, Sender, Receiver, link_of, is_stopped, is_closed_by_both, polled, polled_answer}
use Rattle.amqp_links.specs.Parts.{output_of, emptied, is_heard, heard, disposition_heard}
use Rattle.link_lives.specs.Lives.{Event, Wrote, Lives, Went}
use Rattle.link_lives.proofs.Sides.{lives_then, lives_on, emptied_lives, polled_lives, attach_lives, flow_lives, transfer_lives, detach_lives, stopped_lives, parts_lives, closed_lives, abandoned_lives, unplaced_lives, reattached_lives, sender_disposition, receiver_disposition}

pub went_side : (l : Called) (t : Side) (es : List Event) (ps : List Part) → Lives l.session l.side es ps t → Went l es ps (with_side t l)
went_side l t es ps p = record { session = refl; lives = p }

-- what leaves session and side as they are
pub went_on : (l m n : Called) (es : List Event) (ps : List Part) → Went l es ps m → n.session ≡ m.session → n.side ≡ m.side → Went l es ps n
went_on l m n es ps p s e = record { session = s ∙ p.session; lives = subst (λ x. Lives l.session l.side es ps x) (sym e) p.lives }

pub went_still : (l : Called) → Went l [] [] l
went_still l = record { session = refl; lives = lives_on l.session l.side }

pub went_same : (l m : Called) → m.session ≡ l.session → m.side ≡ l.side → Went l [] [] m
went_same l m s e = went_on l l m [] [] (went_still l) s e

pub went_then : (l m n : Called) (es fs : List Event) (ps qs : List Part) → Went l es ps m → Went m fs qs n → Went l (es ++ fs) (ps ++ qs) n
went_then l m n es fs ps qs p q =
    record {
      session = q.session ∙ p.session;
      lives = lives_then l.session l.side m.side n.side es fs ps qs p.lives (subst (λ x. Lives x m.side fs qs n.side) p.session q.lives);
    }

pub went_either : (b : Bool) (l m n : Called) (es : List Event) (ps : List Part) → Went l es ps m → Went l es ps n → Went l es ps (if b then m else n)
went_either true l m n es ps p q = p
went_either false l m n es ps p q = q

-- ---- answers to calls that wait

attach_told_went : (r : Result AttachPoll AttachError) (name : ℕ) (l : Called) → Went l [] [] (attach_told r name l)
attach_told_went (Ok Pending) name l = went_still l
attach_told_went (Ok Done) name l = went_same l _ refl refl
attach_told_went (Err e) name l = went_same l _ refl refl

attach_polled_went : (name : ℕ) (l : Called) → Went l [] [] (attach_polled name l)
attach_polled_went name l =
    let m = with_side (polled l.side) l in
    went_then l m (attach_polled name l) [] [] [] [] (went_side l (polled l.side) [] [] (polled_lives l.session l.side)) (attach_told_went (polled_answer l.side) name m)

attach_answered_to_went : (o : Option ℕ) (l : Called) → Went l [] [] (attach_answered_to o l)
attach_answered_to_went None l = went_still l
attach_answered_to_went (Some name) l = attach_polled_went name l

pub attach_answered_went : (l : Called) → Went l [] [] (attach_answered l)
attach_answered_went l = attach_answered_to_went l.attaching l

attach_now_went : (l : Called) → Went l [] [] (attach_answered_now l)
attach_now_went l = went_either (is_stopped l.side) l l (attach_answered l) [] [] (went_still l) (attach_answered_went l)

outcome_to_went : (o : Option ℕ) (place : ℕ) (l : Called) → Went l [] [] (outcome_answered_to o place l)
outcome_to_went None place l = went_still l
outcome_to_went (Some name) place l = went_same l _ refl refl

outcome_answered_went : (place : ℕ) (l : Called) → Went l [] [] (outcome_answered place l)
outcome_answered_went place l = outcome_to_went (lookup (nat_eq place) l.waiting) place l

pub outcomes_went : (l : Called) → Went l [] [] (outcomes_answered l)
outcomes_went l = went_same l _ refl refl

outcomes_now_went : (l : Called) → Went l [] [] (outcomes_answered_now l)
outcomes_now_went l = went_either (is_stopped l.side || not (is_closed_by_both l.side)) l l (outcomes_answered l) [] [] (went_still l) (outcomes_went l)

pub closed_by_went : (x : LinkReply) (l : Called) → Went l [] [] (closed_by x l)
closed_by_went reply.Closed l = went_side l (side.abandoned l.side) [] [] (abandoned_lives l.session l.side)
closed_by_went other l = went_still l

told_part_went : (x : LinkReply) (w : WaitingPart) (l : Called) → Went l [] [] (told_part x w l)
told_part_went x w l =
    let m : Called = record l { parting = None; leaving = left_by w.kind l.leaving } in
    let p = went_then l m (closed_by x m) [] [] [] [] (went_same l m refl refl) (closed_by_went x m) in
    went_either (is_pending x) l l (answering w.name x (closed_by x m)) [] [] (went_still l) (went_on l (closed_by x m) _ [] [] p refl refl)

part_to_went : (o : Option WaitingPart) (l : Called) → Went l [] [] (part_answered_to o l)
part_to_went None l = went_still l
part_to_went (Some w) l = told_part_went (known w.kind l.side) w l

part_answered_went : (l : Called) → Went l [] [] (part_answered l)
part_answered_went l = part_to_went l.parting l

part_now_went : (l : Called) → Went l [] [] (part_answered_now l)
part_now_went l = went_either (is_stopped l.side) l l (part_answered l) [] [] (went_still l) (part_answered_went l)

-- ---- what is heard

pub attach_went : (x : Attach) (l : Called) → Went l [] [] (hearing.attach_read x l)
attach_went x l =
    let m = with_side (side.attach_read x l.side) l in
    went_then l m (attach_answered_now m) [] [] [] [] (went_side l (side.attach_read x l.side) [] [] (attach_lives l.session x l.side)) (attach_now_went m)

detach_went : (d : Detach) (l : Called) → Went l [] [] (hearing.detach_read d l)
detach_went d l =
    let m = with_side (side.detach_read d l.side) l in
    let n = attach_answered_now m in
    let o = part_answered_now n in
    let p = went_then l m n [] [] [] [] (went_side l (side.detach_read d l.side) [] [] (detach_lives l.session d l.side)) (attach_now_went m) in
    let q = went_then l n o [] [] [] [] p (part_now_went n) in
    went_then l o (outcomes_answered_now o) [] [] [] [] q (outcomes_now_went o)

pub concluded_went : (l : Called) → Went l [] [] (hearing.concluded l)
concluded_went l =
    let k : Called = record l { is_concluded = true } in
    let m = attach_answered k in
    let n = part_answered m in
    let p = went_then l k m [] [] [] [] (went_same l k refl refl) (attach_answered_went k) in
    went_then l n (outcomes_answered n) [] [] [] [] (went_then l m n [] [] [] [] p (part_answered_went m)) (outcomes_went n)

-- the Transfers that a link reads as it hears that
unfoldable pub part_in : LinkInput → List Part
part_in (input.Transfer x payload) = record { transfer = x; payload = payload } ∷ []
part_in other = []

pub heard_went : (x : LinkInput) (l : Called) → Went l [] (part_in x) (heard x l)
unfolding part_in
heard_went (input.Flow x) l = went_side l (side.flow_read x l.side) [] [] (flow_lives l.session x l.side)
heard_went (input.Transfer x payload) l = went_side l (side.transfer_read x payload l.side) [] (record { transfer = x; payload = payload } ∷ []) (transfer_lives l.session x payload l.side)
heard_went (input.Detach x) l = detach_went x l
heard_went other l = went_still l

done_went : (o : Option ℕ) (b : Bool) (l : Called) → Went l [] [] (hearing.done_answered o b l)
done_went (Some place) true l = outcome_answered_went place l
done_went o b l = went_still l

disposition_at_went : (t : Side) (covered : CoveredDelivery) (settled : Bool) (x : Option DeliveryState) (l : Called) → l.side ≡ t → Went l [] [] (hearing.disposition_at t covered settled x l)
disposition_at_went (Sender t) covered settled x l e =
    let u = settling.disposition_read covered settled x t in
    let m = with_side (Sender u) l in
    let place = settling.place_of covered.delivery_tag t in
    went_then l m (hearing.done_answered place (hearing.is_done place u) m) [] [] [] []
    (went_side l (Sender u) [] [] (subst (λ a. Lives l.session a [] [] (Sender u)) (sym e) (sender_disposition l.session covered settled x t)))
    (done_went place (hearing.is_done place u) m)
disposition_at_went (Receiver t) covered settled x l e =
    let u = Receiver (receiving.disposition_read covered settled t) in
    went_side l u [] [] (subst (λ a. Lives l.session a [] [] u) (sym e) (receiver_disposition l.session covered settled t))

pub disposition_went : (covered : CoveredDelivery) (settled : Bool) (x : Option DeliveryState) (l : Called) → Went l [] [] (disposition_heard covered settled x l)
disposition_went covered settled x l = went_either (is_heard l) l (hearing.disposition_read covered settled x l) l [] [] (disposition_at_went l.side covered settled x l refl) (went_still l)

-- ---- what it does by itself

pub emptied_went : (l : Called) → Went l (map (Wrote l.session) (output_of l)) [] (emptied l)
emptied_went l = went_side l (side.with_link (record (link_of l.side) { output = [] }) l.side) (map (Wrote l.session) (output_of l)) [] (emptied_lives l.session l.side)

pub given_went : (handle : ℕ) (l : Called) → Went l [] [] (handle_given handle l)
given_went handle l = went_side l (side.reattached handle l.side) [] [] (reattached_lives l.session handle l.side)

pub refused_went : (l : Called) → Went l [] [] (handle_refused l)
refused_went l =
    let m = with_side (side.unplaced l.side) l in
    went_then l m (part_answered m) [] [] [] [] (went_side l (side.unplaced l.side) [] [] (unplaced_lives l.session l.side)) (part_answered_went m)

pub stopped_went : (why : SessionStopReason) (l : Called) → Went l [] [] (stopped why l)
stopped_went why l = went_side l (side.stopped why l.side) [] [] (stopped_lives l.session why l.side)

-- ---- calls

pub waits_went : (b : Bool) (name place : ℕ) (l : Called) → Went l [] [] (calling.awaiting b name place l)
waits_went true name place l = went_same l _ refl refl
waits_went false name place l = went_still l

pub outcome_asked_went : (name place : ℕ) (l : Called) → Went l [] [] (calling.outcome_asked name place l)
outcome_asked_went name place l = waits_went (is_pending (outcome_now place l)) name place l

pub outcome_given_up_went : (name place : ℕ) (l : Called) → Went l [] [] (calling.outcome_given_up name place l)
outcome_given_up_went name place l = went_either (awaits_outcome name place l) l (record l { waiting = swap_remove_entry (nat_eq place) l.waiting }) l [] [] (went_same l _ refl refl) (went_still l)

pub part_given_up_went : (name : ℕ) (l : Called) → Went l [] [] (part_given_up name l)
part_given_up_went name l = went_either (awaits_part name l.parting) l (record l { parting = None }) l [] [] (went_same l _ refl refl) (went_still l)

asked_part_went : (b : Bool) (name : ℕ) (k : PartKind) (l : Called) → Went l [] [] (asked_part b name k l)
asked_part_went true name k l = went_same l _ refl refl
asked_part_went false name k l = went_same l _ refl refl

detach_asked_went : (name : ℕ) (error : Option (List ℕ)) (l : Called) → Went l [] [] (detach_asked name error l).called
detach_asked_went name error l =
    let m = with_side (side.parts false (error_of error) l.side).side l in
    went_then l m (detach_asked name error l).called [] [] [] [] (went_side l (side.parts false (error_of error) l.side).side [] [] (parts_lives l.session false (error_of error) l.side))
    (asked_part_went (is_pending (part_reply false (side.parts false (error_of error) l.side).answer)) name kind.Detach m)

at_once_went : (x : LinkReply) (l : Called) → Went l [] [] (closed_at_once x l)
at_once_went reply.Closed l = went_then l (closed_by reply.Closed l) (outcomes_answered (closed_by reply.Closed l)) [] [] [] [] (closed_by_went reply.Closed l) (outcomes_went (closed_by reply.Closed l))
at_once_went other l = went_still l

close_asked_went : (name : ℕ) (error : Option (List ℕ)) (l : Called) → Went l [] [] (close_asked name error l).called
close_asked_went name error l =
    let t = closed_side (error_of error) l.side in
    let x = part_reply true t.answer in
    let m = with_side t.side l in
    let n = asked_part (is_pending x) name kind.Close m in
    let p = went_then l m n [] [] [] [] (went_side l t.side [] [] (closed_lives l.session (error_of error) l.side)) (asked_part_went (is_pending x) name kind.Close m) in
    went_then l n (closed_at_once x n) [] [] [] [] p (at_once_went x n)

abandoned_went : (l : Called) → Went l [] [] (abandoned l)
abandoned_went l = went_on l (with_side (side.abandoned l.side) l) (abandoned l) [] [] (went_side l (side.abandoned l.side) [] [] (abandoned_lives l.session l.side)) refl refl

pub leaves_went : (name : ℕ) (x : Parting) (l : Called) → Went l [] [] (leaves name x l).called
leaves_went name parting.OnDetach l = asked_part_went (is_pending (known kind.OnDetach l.side)) name kind.OnDetach l
leaves_went name (parting.Detach error timeout) l = detach_asked_went name error l
leaves_went name (parting.Close error) l = close_asked_went name error l
leaves_went name parting.Abandon l = abandoned_went l
