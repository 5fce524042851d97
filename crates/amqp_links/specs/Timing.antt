-- Calls with a time: they wait for credit and the outcome of a message, or for the peer's Detach, but only so long
-- (OASIS AMQP 1.0, part 2, sections 2.6.6, 2.6.7 and 2.6.12).
use Rattle.std.specs.Prelude.{ℕ, ◌-◌, nat_eq, nat_le, Bool, true, false, not, ◌||◌, if◌then◌else◌}
use Rattle.std.specs.Prelude.{List, [], ◌∷◌, Option, Some, None}
use Rattle.std.specs.Map.{lookup}
use Rattle.indexmap.specs.IndexMap.{insert_entry, swap_remove_entry}
use Rattle.amqp_link_calls.specs.Answering as known
use Rattle.amqp_link_calls.specs.Called.{Called, awaits_outcome}
use Rattle.amqp_link_calls.specs.Calling.{sends, token_of, having_sent, outcome_asked, outcome_given_up}
use Rattle.amqp_link_calls.specs.Leaving.{awaits_part, part_given_up}
use Rattle.amqp_link_calls.specs.Replies.{is_pending}
use Rattle.amqp_link_calls.specs.amqp_link_words.declared.link_call.Sendable.{Sendable}
use Rattle.amqp_link_calls.specs.amqp_link_words.declared.link_reply.LinkReply.{LinkReply}
use Rattle.amqp_link_calls.specs.amqp_link_words.declared.link_reply.LinkReply.TheVariants as reply
use Rattle.amqp_sender.specs.declared.sender.DeliveryToken.{DeliveryToken}
use Rattle.amqp_links.specs.declared.links.SentDelivery.{SentDelivery}
use Rattle.amqp_links.specs.declared.timed.Awaited.{Awaited}
use Rattle.amqp_links.specs.declared.timed.Awaited.TheVariants.{Credit, Outcome, Detach}
use Rattle.amqp_links.specs.declared.timed.TimedCall.{TimedCall}
use Rattle.amqp_links.specs.declared.timed.Timer.{Timer}
use Rattle.amqp_links.specs.State.{State, link_of, with_link, answering}
use Rattle.amqp_links.specs.Taking.{taken_up}

-- ---- moments

-- the links know the moment of a step, in milliseconds
abbrev pub at_moment : ℕ → State → State
at_moment at s = record s { moment = at }

-- the time of a call is over
abbrev pub is_due : Timer → ℕ → Bool
is_due t now = nat_le t.duration (now - t.since)

-- a call of that name is made now
abbrev pub timer : ℕ → ℕ → State → Timer
timer name duration s = record { name = name; since = s.moment; duration = duration }

-- ---- the calls that wait

abbrev pub timed_of : ℕ → State → Option TimedCall
timed_of link s = lookup (nat_eq link) s.timed

abbrev pub waiting_as : ℕ → TimedCall → State → State
waiting_as link x s = record s { timed = insert_entry nat_eq s.timed link x }

abbrev pub waiting_for : Timer → Awaited → ℕ → State → State
waiting_for t awaited link s = waiting_as link (record { timer = t; awaited = awaited }) s

abbrev pub waiting_no_more : ℕ → State → State
waiting_no_more link s = record s { timed = swap_remove_entry (nat_eq link) s.timed }

-- the call of that name waits at the link to send its message, or for its outcome
abbrev pub sends_at : ℕ → Awaited → Called → Bool
sends_at name (Credit message) l = true
sends_at name (Outcome token) l = awaits_outcome name token.place l
sends_at name Detach l = false

-- a send with a time waits at the link
abbrev pub is_sending_at : Option TimedCall → Option Called → Bool
is_sending_at None l = false
is_sending_at (Some x) None = false
is_sending_at (Some x) (Some l) = sends_at x.timer.name x.awaited l

abbrev pub is_sending : ℕ → State → Bool
is_sending link s = is_sending_at (timed_of link s) (link_of link s)

-- ---- a message that waits for credit

-- a message that was sent is known by the name of its call
abbrev pub send_kept : ℕ → ℕ → Option DeliveryToken → State → State
send_kept name link None s = s
send_kept name link (Some token) s =
    record s { sends = insert_entry nat_eq s.sends name (record { link = link; token = token }) }

-- what has become of it is told, or awaited
abbrev pub awaiting_as : LinkReply → ℕ → Timer → DeliveryToken → State → State
awaiting_as answer link t token s =
    if is_pending answer then waiting_for t (Outcome token) link s
    else waiting_no_more link (answering t.name answer s)

abbrev pub awaiting_at : Option Called → ℕ → Timer → DeliveryToken → State → State
awaiting_at None link t token s = s
awaiting_at (Some l) link t token s =
    awaiting_as (known.outcome_now token.place l) link t token (with_link link (outcome_asked t.name token.place l) s)

abbrev pub awaiting : ℕ → Timer → DeliveryToken → State → State
awaiting link t token s = awaiting_at (link_of link s) link t token s

-- the message was sent
abbrev pub sent : ℕ → Timer → DeliveryToken → State → State
sent link t token s = awaiting link t token (answering t.name reply.Sent (send_kept t.name link (Some token) s))

-- it was not: it waits on, or is refused
abbrev pub unsent : LinkReply → ℕ → ℕ → State → State
unsent answer name link s = if is_pending answer then s else waiting_no_more link (answering name answer s)

abbrev pub tried : Option DeliveryToken → LinkReply → ℕ → Timer → State → State
tried None answer link t s = unsent answer t.name link s
tried (Some token) answer link t s = sent link t token s

-- it is sent where that can be now
abbrev pub trying_at : Option Called → ℕ → Timer → Sendable → State → State
trying_at None link t message s = s
trying_at (Some l) link t message s =
    tried (token_of message l.side) (sends message l.side).reply link t (with_link link (having_sent message l) s)

abbrev pub message_of : Timer → Awaited → Option (Timer × Sendable)
message_of t (Credit message) = Some (t, message)
message_of t other = None

-- the message is tried whatever the time, or only while that is not over: credit that comes later is not used
abbrev pub message_for : Bool → Option TimedCall → ℕ → Option (Timer × Sendable)
message_for always None now = None
message_for always (Some x) now = if always || not (is_due x.timer now) then message_of x.timer x.awaited else None

abbrev pub trying : Option (Timer × Sendable) → ℕ → State → State
trying None link s = s
trying (Some x) link s = trying_at (link_of link s) link x.0 x.1 s

-- a message that waits for credit on the link is tried again
abbrev pub tried_again : Bool → ℕ → State → State
tried_again always link s = trying (message_for always (timed_of link s) s.moment) link s

-- ---- a time that is over

-- a call that waits no more is told so, if it has waited
abbrev pub elapsed_if : Bool → ℕ → State → State
elapsed_if waited name s = if waited then answering name reply.Elapsed s else s

abbrev pub outcome_elapsed : Option Called → ℕ → ℕ → DeliveryToken → State → State
outcome_elapsed None name link token s = s
outcome_elapsed (Some l) name link token s =
    elapsed_if (awaits_outcome name token.place l) name (with_link link (outcome_given_up name token.place l) s)

abbrev pub part_elapsed : Option Called → ℕ → ℕ → State → State
part_elapsed None name link s = s
part_elapsed (Some l) name link s =
    elapsed_if (awaits_part name l.parting) name (with_link link (part_given_up name l) s)

-- the call waits no more: a message that has waited for credit is not sent, a handshake goes on
abbrev pub elapsed : Awaited → ℕ → ℕ → State → State
elapsed (Credit message) name link s = answering name reply.Elapsed s
elapsed (Outcome token) name link s = outcome_elapsed (link_of link s) name link token s
elapsed Detach name link s = part_elapsed (link_of link s) name link s

abbrev pub looked_at : ℕ → TimedCall → State → State
looked_at link x s = if is_due x.timer s.moment then elapsed x.awaited x.timer.name link s else waiting_as link x s

abbrev pub all_looked : List (ℕ × TimedCall) → State → State
all_looked [] s = s
all_looked (c ∷ cs) s = all_looked cs (looked_at c.0 c.1 s)

-- each call whose time is over, and that still waits, is told so
abbrev pub looked : State → State
looked s = all_looked s.timed (record s { timed = [] })

-- ---- the calls

-- a send that waits for credit: its name, and whether its time is over
abbrev pub waiting_send_of : Timer → Awaited → ℕ → Option (ℕ × Bool)
waiting_send_of t (Credit message) now = Some (t.name, is_due t now)
waiting_send_of t other now = None

abbrev pub waiting_send : Option TimedCall → ℕ → Option (ℕ × Bool)
waiting_send None now = None
waiting_send (Some x) now = waiting_send_of x.timer x.awaited now

-- it is told that it waits, or that its time is over at once
abbrev pub waiting_told : Bool → ℕ → ℕ → State → State
waiting_told true name link s = waiting_no_more link (answering name reply.Elapsed s)
waiting_told false name link s = answering name reply.Pending s

abbrev pub told_waiting_as : Option (ℕ × Bool) → ℕ → State → State
told_waiting_as None link s = s
told_waiting_as (Some x) link s = waiting_told x.1 x.0 link s

abbrev pub told_waiting : ℕ → State → State
told_waiting link s = told_waiting_as (waiting_send (timed_of link s) s.moment) link s

-- a message is sent, and what becomes of it is awaited so long
abbrev pub timed_sending : ℕ → ℕ → Sendable → ℕ → State → State
timed_sending name link message duration s =
    taken_up link (told_waiting link (tried_again true link (waiting_for (timer name duration s) (Credit message) link s)))

-- a call detaches a link and waits so long, or not at all
abbrev pub waiting_part : Timer → ℕ → State → State
waiting_part t link s =
    if is_due t s.moment then part_elapsed (link_of link s) t.name link s
    else waiting_for t Detach link (answering t.name reply.Pending s)

abbrev pub part_told_in : ℕ → LinkReply → ℕ → ℕ → State → State
part_told_in duration answer name link s =
    if is_pending answer then waiting_part (timer name duration s) link s else answering name answer s

-- a call that leaves a link is answered
abbrev pub part_told : Option ℕ → LinkReply → ℕ → ℕ → State → State
part_told None answer name link s = answering name answer s
part_told (Some duration) answer name link s = part_told_in duration answer name link s
