-- Calls with a time go on, and no more deliveries end.
use Rattle.std.specs.Prelude.{◌≡◌, ℕ, Bool, true, false, List, [], ◌∷◌, ◌++◌, map, Option, Some, None, refl}
use Rattle.std.proofs.Common.{sym, ◌∙◌, ap}
use Rattle.std.proofs.lemmas.List.{append-nil}
use Rattle.amqp_sender.specs.declared.sender.DeliveryToken.{DeliveryToken}
use Rattle.amqp_link_calls.specs.Answering as known
use Rattle.amqp_link_calls.specs.Called.{Called, awaits_outcome}
use Rattle.amqp_link_calls.specs.Calling.{sends, token_of, having_sent, outcome_asked, outcome_given_up}
use Rattle.amqp_link_calls.specs.Leaving.{awaits_part, part_given_up}
use Rattle.amqp_link_calls.specs.Replies.{is_pending}
use Rattle.amqp_link_words.specs.declared.link_call.Sendable.{Sendable}
use Rattle.amqp_link_words.specs.declared.link_reply.LinkReply.{LinkReply}
use Rattle.amqp_link_words.specs.declared.link_reply.LinkReply.TheVariants as reply
use Rattle.amqp_links.specs.declared.timed.Awaited.{Awaited}
use Rattle.amqp_links.specs.declared.timed.Awaited.TheVariants.{Credit, Outcome, Detach}
use Rattle.amqp_links.specs.declared.timed.TimedCall.{TimedCall}
use Rattle.amqp_links.specs.declared.timed.Timer.{Timer}
use Rattle.amqp_links.specs.State.{State, link_of, with_link, answering}
use Rattle.amqp_links.specs.Timing.{is_due, timer, timed_of, waiting_as, waiting_for, waiting_no_more, send_kept, awaiting_as, awaiting_at, awaiting, sent, unsent, tried, trying_at, message_for, trying, tried_again, elapsed_if, outcome_elapsed, part_elapsed, elapsed, looked_at, all_looked, looked, waiting_send, waiting_told, told_waiting_as, told_waiting, timed_sending, waiting_part, part_told}
use Rattle.amqp_links.specs.Taking.{taken_up}
use Rattle.link_lives.proofs.Sides.{sent_events, sends_lives}
use Rattle.link_lives.proofs.Called.{went_side, outcome_asked_went, outcome_given_up_went, part_given_up_went}
use Rattle.served_connection.proofs.ListenLaws.Weights.{is_given}
use Rattle.served_connection.proofs.ListenLaws.Quiet.{outcome_asked_quiet, outcome_given_up_quiet, part_given_up_quiet, outcome_now_gives, sends_gives}
use Rattle.served_connection.proofs.ListenLaws.Going.{Falls, falls_then, falls_same, falls_still, falls_either, falls_answers, link_stays}
use Rattle.served_connection.proofs.ListenLaws.Taking.{taken_falls}

pub having_sent_falls : (link : ℕ) (x : Sendable) (l : Called) (s : State) → link_of link s ≡ Some l → Falls s (with_link link (having_sent x l) s)
having_sent_falls link x l s at =
    link_stays link l (having_sent x l) (sent_events x l.side) s (with_link link (having_sent x l) s) at (went_side l (sends x l.side).side (sent_events x l.side) [] (sends_lives l.session x l.side)) refl refl refl refl

pub kept_falls : (name link : ℕ) (o : Option DeliveryToken) (s : State) → Falls s (send_kept name link o s)
kept_falls name link None s = falls_still s
kept_falls name link (Some token) s = falls_same s (send_kept name link (Some token) s) refl refl refl

awaiting_falls_as : (answer : LinkReply) (link : ℕ) (t : Timer) (token : DeliveryToken) (s : State) → is_given answer ≡ 0 → Falls s (awaiting_as answer link t token s)
awaiting_falls_as answer link t token s h =
    falls_either (is_pending answer) s (waiting_for t (Outcome token) link s) (waiting_no_more link (answering t.name answer s)) (falls_still s) (falls_answers t.name answer s h)

awaiting_falls_at : (o : Option Called) (link : ℕ) (t : Timer) (token : DeliveryToken) (s : State) → link_of link s ≡ o → Falls s (awaiting_at o link t token s)
awaiting_falls_at None link t token s at = falls_still s
awaiting_falls_at (Some l) link t token s at =
    let u = with_link link (outcome_asked t.name token.place l) s in
    let x = known.outcome_now token.place l in
    falls_then s u (awaiting_as x link t token u) (link_stays link l (outcome_asked t.name token.place l) [] s u at (outcome_asked_went t.name token.place l) (outcome_asked_quiet t.name token.place l) refl refl refl)
    (awaiting_falls_as x link t token u (outcome_now_gives token.place l))

sent_falls : (link : ℕ) (t : Timer) (token : DeliveryToken) (s : State) → Falls s (sent link t token s)
sent_falls link t token s =
    let u = answering t.name reply.Sent (send_kept t.name link (Some token) s) in
    falls_then s u (awaiting link t token u) (falls_answers t.name reply.Sent s refl) (awaiting_falls_at (link_of link u) link t token u refl)

unsent_falls : (answer : LinkReply) (name link : ℕ) (s : State) → is_given answer ≡ 0 → Falls s (unsent answer name link s)
unsent_falls answer name link s h =
    falls_either (is_pending answer) s s (waiting_no_more link (answering name answer s)) (falls_still s) (falls_answers name answer s h)

tried_falls : (o : Option DeliveryToken) (answer : LinkReply) (link : ℕ) (t : Timer) (s : State) → is_given answer ≡ 0 → Falls s (tried o answer link t s)
tried_falls None answer link t s h = unsent_falls answer t.name link s h
tried_falls (Some token) answer link t s h = sent_falls link t token s

trying_falls_at : (o : Option Called) (link : ℕ) (t : Timer) (x : Sendable) (s : State) → link_of link s ≡ o → Falls s (trying_at o link t x s)
trying_falls_at None link t x s at = falls_still s
trying_falls_at (Some l) link t x s at =
    let u = with_link link (having_sent x l) s in
    let m = sends x l.side in
    falls_then s u (tried (token_of x l.side) m.reply link t u) (having_sent_falls link x l s at) (tried_falls (token_of x l.side) m.reply link t u (sends_gives x l.side))

trying_falls : (o : Option (Timer × Sendable)) (link : ℕ) (s : State) → Falls s (trying o link s)
trying_falls None link s = falls_still s
trying_falls (Some x) link s = trying_falls_at (link_of link s) link x.0 x.1 s refl

pub tried_again_falls : (always : Bool) (link : ℕ) (s : State) → Falls s (tried_again always link s)
tried_again_falls always link s = trying_falls (message_for always (timed_of link s) s.moment) link s

-- ---- a time that is over

elapsed_falls_if : (b : Bool) (name : ℕ) (s : State) → Falls s (elapsed_if b name s)
elapsed_falls_if b name s = falls_either b s (answering name reply.Elapsed s) s (falls_answers name reply.Elapsed s refl) (falls_still s)

outcome_elapsed_falls : (o : Option Called) (name link : ℕ) (token : DeliveryToken) (s : State) → link_of link s ≡ o → Falls s (outcome_elapsed o name link token s)
outcome_elapsed_falls None name link token s at = falls_still s
outcome_elapsed_falls (Some l) name link token s at =
    let u = with_link link (outcome_given_up name token.place l) s in
    let b = awaits_outcome name token.place l in
    falls_then s u (elapsed_if b name u) (link_stays link l (outcome_given_up name token.place l) [] s u at (outcome_given_up_went name token.place l) (outcome_given_up_quiet name token.place l) refl refl refl) (elapsed_falls_if b name u)

part_elapsed_falls : (o : Option Called) (name link : ℕ) (s : State) → link_of link s ≡ o → Falls s (part_elapsed o name link s)
part_elapsed_falls None name link s at = falls_still s
part_elapsed_falls (Some l) name link s at =
    let u = with_link link (part_given_up name l) s in
    let b = awaits_part name l.parting in
    falls_then s u (elapsed_if b name u) (link_stays link l (part_given_up name l) [] s u at (part_given_up_went name l) (part_given_up_quiet name l) refl refl refl) (elapsed_falls_if b name u)

elapsed_falls : (x : Awaited) (name link : ℕ) (s : State) → Falls s (elapsed x name link s)
elapsed_falls (Credit message) name link s = falls_answers name reply.Elapsed s refl
elapsed_falls (Outcome token) name link s = outcome_elapsed_falls (link_of link s) name link token s refl
elapsed_falls Detach name link s = part_elapsed_falls (link_of link s) name link s refl

looked_falls_at : (link : ℕ) (x : TimedCall) (s : State) → Falls s (looked_at link x s)
looked_falls_at link x s =
    falls_either (is_due x.timer s.moment) s (elapsed x.awaited x.timer.name link s) (waiting_as link x s) (elapsed_falls x.awaited x.timer.name link s) (falls_still s)

all_looked_fall : (cs : List (ℕ × TimedCall)) (s : State) → Falls s (all_looked cs s)
all_looked_fall [] s = falls_still s
all_looked_fall (c ∷ cs) s =
    let t = looked_at c.0 c.1 s in falls_then s t (all_looked cs t) (looked_falls_at c.0 c.1 s) (all_looked_fall cs t)

pub looked_falls : (s : State) → Falls s (looked s)
looked_falls s =
    let t : State = record s { timed = [] } in falls_then s t (all_looked s.timed t) (falls_same s t refl refl refl) (all_looked_fall s.timed t)

-- ---- the calls

waiting_told_falls : (b : Bool) (name link : ℕ) (s : State) → Falls s (waiting_told b name link s)
waiting_told_falls true name link s = falls_answers name reply.Elapsed s refl
waiting_told_falls false name link s = falls_answers name reply.Pending s refl

told_waiting_falls : (o : Option (ℕ × Bool)) (link : ℕ) (s : State) → Falls s (told_waiting_as o link s)
told_waiting_falls None link s = falls_still s
told_waiting_falls (Some x) link s = waiting_told_falls x.1 x.0 link s

pub timed_sending_falls : (name link : ℕ) (x : Sendable) (duration : ℕ) (s : State) → Falls s (timed_sending name link x duration s)
timed_sending_falls name link x duration s =
    let a = waiting_for (timer name duration s) (Credit x) link s in
    let b = tried_again true link a in
    let c = told_waiting link b in
    falls_then s a (taken_up link c) (falls_same s a refl refl refl)
    (falls_then a b (taken_up link c) (tried_again_falls true link a)
    (falls_then b c (taken_up link c) (told_waiting_falls (waiting_send (timed_of link b) b.moment) link b) (taken_falls link c)))

waiting_part_falls : (t : Timer) (link : ℕ) (s : State) → Falls s (waiting_part t link s)
waiting_part_falls t link s =
    falls_either (is_due t s.moment) s (part_elapsed (link_of link s) t.name link s) (waiting_for t Detach link (answering t.name reply.Pending s)) (part_elapsed_falls (link_of link s) t.name link s refl) (falls_answers t.name reply.Pending s refl)

pub part_told_falls : (o : Option ℕ) (answer : LinkReply) (name link : ℕ) (s : State) → is_given answer ≡ 0 → Falls s (part_told o answer name link s)
part_told_falls None answer name link s h = falls_answers name answer s h
part_told_falls (Some duration) answer name link s h =
    falls_either (is_pending answer) s (waiting_part (timer name duration s) link s) (answering name answer s) (waiting_part_falls (timer name duration s) link s) (falls_answers name answer s h)
