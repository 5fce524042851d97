-- Calls with a time go on, and calls wait as before.
use Rattle.std.specs.Prelude.{◌≡◌, ℕ, Bool, true, false, List, [], ◌∷◌, Option, Some, None, refl}
use Rattle.amqp_sender.specs.declared.sender.DeliveryToken.{DeliveryToken}
use Rattle.amqp_link_calls.specs.Answering as known
use Rattle.amqp_link_calls.specs.Called.{Called, awaits_outcome}
use Rattle.amqp_link_calls.specs.Calling.{sends, token_of, having_sent, outcome_asked, outcome_given_up}
use Rattle.amqp_link_calls.specs.Leaving.{awaits_part, part_given_up}
use Rattle.amqp_link_calls.specs.Replies.{is_pending}
use Rattle.amqp_link_words.specs.declared.link_call.Sendable.{Sendable}
use Rattle.amqp_link_words.specs.declared.link_reply.LinkReply.{LinkReply}
use Rattle.amqp_link_words.specs.declared.link_reply.LinkReply.TheVariants as reply
use Rattle.amqp_links.specs.declared.timed.Awaited.{Awaited}
use Rattle.amqp_links.specs.declared.timed.Awaited.TheVariants.{Credit, Outcome, Detach}
use Rattle.amqp_links.specs.declared.timed.TimedCall.{TimedCall}
use Rattle.amqp_links.specs.declared.timed.Timer.{Timer}
use Rattle.amqp_links.specs.State.{State, link_of, with_link, answering}
use Rattle.amqp_links.specs.Taking.{taken_up}
use Rattle.amqp_links.specs.Timing.{is_due, timer, timed_of, waiting_as, waiting_for, waiting_no_more, send_kept, awaiting_as, awaiting_at, sent, unsent, tried, trying_at, message_for, trying, tried_again, elapsed_if, outcome_elapsed, part_elapsed, elapsed, looked_at, all_looked, looked, waiting_send, waiting_told, told_waiting_as, told_waiting, timed_sending, waiting_part, part_told}
use Rattle.call_waits.specs.Moves.{Sends, AsksOutcome, GivesUpOutcome, GivesUpPart}
use Rattle.call_waits.proofs.Moves.{waits_on}
use Rattle.link_waits.proofs.Steps.{Goes, goes_still, goes_then, goes_either, goes_same, link_goes}
use Rattle.link_waits.proofs.Taking.{taken_goes}

pub sent_goes : (link : ℕ) (x : Sendable) (l : Called) (s : State) → link_of link s ≡ Some l → Goes s (with_link link (having_sent x l) s)
sent_goes link x l s at = link_goes link l (having_sent x l) s (with_link link (having_sent x l) s) at (λ w. waits_on (Sends x) l tt w) refl refl

pub asked_goes : (name place link : ℕ) (l : Called) (s : State) → link_of link s ≡ Some l → Goes s (with_link link (outcome_asked name place l) s)
asked_goes name place link l s at = link_goes link l (outcome_asked name place l) s (with_link link (outcome_asked name place l) s) at (λ w. waits_on (AsksOutcome name place) l tt w) refl refl

pub kept_goes : (name link : ℕ) (o : Option DeliveryToken) (s : State) → Goes s (send_kept name link o s)
kept_goes name link None s = goes_still s
kept_goes name link (Some token) s = goes_same s (send_kept name link (Some token) s) refl refl

-- ---- a message that waits for credit

awaiting_as_goes : (answer : LinkReply) (link : ℕ) (t : Timer) (token : DeliveryToken) (s : State) → Goes s (awaiting_as answer link t token s)
awaiting_as_goes answer link t token s =
    goes_either (is_pending answer) s (waiting_for t (Outcome token) link s) (waiting_no_more link (answering t.name answer s))
    (goes_same s (waiting_for t (Outcome token) link s) refl refl) (goes_same s (waiting_no_more link (answering t.name answer s)) refl refl)

awaiting_by : (o : Option Called) (link : ℕ) (t : Timer) (token : DeliveryToken) (s : State) → link_of link s ≡ o → Goes s (awaiting_at o link t token s)
awaiting_by None link t token s at = goes_still s
awaiting_by (Some l) link t token s at =
    let u = with_link link (outcome_asked t.name token.place l) s in
    let x = known.outcome_now token.place l in
    goes_then s u (awaiting_as x link t token u) (asked_goes t.name token.place link l s at) (awaiting_as_goes x link t token u)

sent_by : (link : ℕ) (t : Timer) (token : DeliveryToken) (s : State) → Goes s (sent link t token s)
sent_by link t token s =
    let u = answering t.name reply.Sent (send_kept t.name link (Some token) s) in
    goes_then s u (sent link t token s) (goes_same s u refl refl) (awaiting_by (link_of link u) link t token u refl)

unsent_goes : (answer : LinkReply) (name link : ℕ) (s : State) → Goes s (unsent answer name link s)
unsent_goes answer name link s =
    goes_either (is_pending answer) s s (waiting_no_more link (answering name answer s)) (goes_still s) (goes_same s (waiting_no_more link (answering name answer s)) refl refl)

tried_by : (o : Option DeliveryToken) (answer : LinkReply) (link : ℕ) (t : Timer) (s : State) → Goes s (tried o answer link t s)
tried_by None answer link t s = unsent_goes answer t.name link s
tried_by (Some token) answer link t s = sent_by link t token s

trying_by : (o : Option Called) (link : ℕ) (t : Timer) (x : Sendable) (s : State) → link_of link s ≡ o → Goes s (trying_at o link t x s)
trying_by None link t x s at = goes_still s
trying_by (Some l) link t x s at =
    let u = with_link link (having_sent x l) s in
    goes_then s u (trying_at (Some l) link t x s) (sent_goes link x l s at) (tried_by (token_of x l.side) (sends x l.side).reply link t u)

trying_goes : (o : Option (Timer × Sendable)) (link : ℕ) (s : State) → Goes s (trying o link s)
trying_goes None link s = goes_still s
trying_goes (Some x) link s = trying_by (link_of link s) link x.0 x.1 s refl

pub tried_again_goes : (always : Bool) (link : ℕ) (s : State) → Goes s (tried_again always link s)
tried_again_goes always link s = trying_goes (message_for always (timed_of link s) s.moment) link s

-- ---- a time that is over

elapsed_if_goes : (b : Bool) (name : ℕ) (s : State) → Goes s (elapsed_if b name s)
elapsed_if_goes b name s = goes_either b s (answering name reply.Elapsed s) s (goes_same s (answering name reply.Elapsed s) refl refl) (goes_still s)

outcome_elapsed_goes : (o : Option Called) (name link : ℕ) (token : DeliveryToken) (s : State) → link_of link s ≡ o → Goes s (outcome_elapsed o name link token s)
outcome_elapsed_goes None name link token s at = goes_still s
outcome_elapsed_goes (Some l) name link token s at =
    let u = with_link link (outcome_given_up name token.place l) s in
    goes_then s u (outcome_elapsed (Some l) name link token s) (link_goes link l (outcome_given_up name token.place l) s u at (λ w. waits_on (GivesUpOutcome name token.place) l tt w) refl refl)
    (elapsed_if_goes (awaits_outcome name token.place l) name u)

part_elapsed_goes : (o : Option Called) (name link : ℕ) (s : State) → link_of link s ≡ o → Goes s (part_elapsed o name link s)
part_elapsed_goes None name link s at = goes_still s
part_elapsed_goes (Some l) name link s at =
    let u = with_link link (part_given_up name l) s in
    goes_then s u (part_elapsed (Some l) name link s) (link_goes link l (part_given_up name l) s u at (λ w. waits_on (GivesUpPart name) l tt w) refl refl)
    (elapsed_if_goes (awaits_part name l.parting) name u)

elapsed_goes : (a : Awaited) (name link : ℕ) (s : State) → Goes s (elapsed a name link s)
elapsed_goes (Credit message) name link s = goes_same s (elapsed (Credit message) name link s) refl refl
elapsed_goes (Outcome token) name link s = outcome_elapsed_goes (link_of link s) name link token s refl
elapsed_goes Detach name link s = part_elapsed_goes (link_of link s) name link s refl

looked_at_goes : (link : ℕ) (x : TimedCall) (s : State) → Goes s (looked_at link x s)
looked_at_goes link x s =
    goes_either (is_due x.timer s.moment) s (elapsed x.awaited x.timer.name link s) (waiting_as link x s) (elapsed_goes x.awaited x.timer.name link s) (goes_same s (waiting_as link x s) refl refl)

all_looked_go : (cs : List (ℕ × TimedCall)) (s : State) → Goes s (all_looked cs s)
all_looked_go [] s = goes_still s
all_looked_go (c ∷ cs) s = let t = looked_at c.0 c.1 s in goes_then s t (all_looked cs t) (looked_at_goes c.0 c.1 s) (all_looked_go cs t)

pub looked_goes : (s : State) → Goes s (looked s)
looked_goes s = let t : State = record s { timed = [] } in goes_then s t (all_looked s.timed t) (goes_same s t refl refl) (all_looked_go s.timed t)

-- ---- the calls

waiting_told_goes : (b : Bool) (name link : ℕ) (s : State) → Goes s (waiting_told b name link s)
waiting_told_goes true name link s = goes_same s (waiting_told true name link s) refl refl
waiting_told_goes false name link s = goes_same s (waiting_told false name link s) refl refl

told_waiting_goes : (o : Option (ℕ × Bool)) (link : ℕ) (s : State) → Goes s (told_waiting_as o link s)
told_waiting_goes None link s = goes_still s
told_waiting_goes (Some x) link s = waiting_told_goes x.1 x.0 link s

pub timed_sending_goes : (name link : ℕ) (x : Sendable) (duration : ℕ) (s : State) → Goes s (timed_sending name link x duration s)
timed_sending_goes name link x duration s =
    let a = waiting_for (timer name duration s) (Credit x) link s in
    let b = tried_again true link a in
    let c = told_waiting link b in
    goes_then s a (taken_up link c) (goes_same s a refl refl)
    (goes_then a b (taken_up link c) (tried_again_goes true link a)
    (goes_then b c (taken_up link c) (told_waiting_goes (waiting_send (timed_of link b) b.moment) link b) (taken_goes link c)))

waiting_part_goes : (t : Timer) (link : ℕ) (s : State) → Goes s (waiting_part t link s)
waiting_part_goes t link s =
    goes_either (is_due t s.moment) s (part_elapsed (link_of link s) t.name link s) (waiting_for t Detach link (answering t.name reply.Pending s))
    (part_elapsed_goes (link_of link s) t.name link s refl) (goes_same s (waiting_for t Detach link (answering t.name reply.Pending s)) refl refl)

pub part_told_goes : (o : Option ℕ) (answer : LinkReply) (name link : ℕ) (s : State) → Goes s (part_told o answer name link s)
part_told_goes None answer name link s = goes_same s (part_told None answer name link s) refl refl
part_told_goes (Some duration) answer name link s =
    goes_either (is_pending answer) s (waiting_part (timer name duration s) link s) (answering name answer s) (waiting_part_goes (timer name duration s) link s) (goes_same s (answering name answer s) refl refl)
