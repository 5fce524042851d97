-- How calls that have waited at a link are answered (OASIS AMQP 1.0, part 2, sections 2.6.3 and 2.6.12).
use Rattle.std.specs.Prelude.{ℕ, nat_eq, Bool, true, false, not, ◌&&◌, ◌||◌, [], ◌++◌, map, Option, Some, None, Result, Ok, Err, if◌then◌else◌}
use Rattle.std.specs.Map.{lookup}
use Rattle.indexmap.specs.IndexMap.{swap_remove_entry}
use Rattle.amqp_frames.specs.declared.shared.SessionStopReason.{SessionStopReason}
use Rattle.amqp_frames.specs.declared.shared.SessionStopReason.TheVariants as why
use Rattle.amqp_link.specs.declared.endpoint.AttachPoll.{AttachPoll}
use Rattle.amqp_link.specs.declared.endpoint.AttachPoll.TheVariants.{Pending, Done}
use Rattle.amqp_link.specs.declared.error.AttachError.{AttachError}
use Rattle.amqp_link.specs.declared.error.LinkStateError.{LinkStateError}
use Rattle.amqp_link.specs.declared.error.LinkStateError.TheVariants.{SessionStopped}
use Rattle.amqp_link_words.specs.amqp_sender.declared.error.SendError.{SendError}
use Rattle.amqp_link_words.specs.amqp_sender.declared.error.SendError.TheVariants as error
use Rattle.amqp_link_words.specs.amqp_sender.Settling as settling
use Rattle.amqp_link_words.specs.declared.link_reply.LinkReply.{LinkReply}
use Rattle.amqp_link_words.specs.declared.link_reply.LinkReply.TheVariants as reply
use Rattle.amqp_link_words.specs.declared.link_reply.NamedLinkReply.{NamedLinkReply}
use Rattle.amqp_link_calls.specs.Called.{Called, with_side, answering}
use Rattle.amqp_link_calls.specs.Replies.{made_reply, attach_error, accept_error, no_sender, outcome_reply}
use Rattle.amqp_link_calls.specs.Side.{Side, Sender, Receiver, role_of, is_stopped, is_closed_by_both, polled_answer, polled}

-- ---- the attach

-- the call that attaches the link is told how far that is, and waits on while the peer's answer is awaited
abbrev pub attach_told : Result AttachPoll AttachError → ℕ → Called → Called
attach_told (Ok Pending) name s = s
attach_told (Ok Done) name s = answering name (made_reply (role_of s.side)) (record s { attaching = None; is_made = true })
attach_told (Err e) name s = answering name (attach_error (role_of s.side) e) (record s { attaching = None })

abbrev pub attach_polled : ℕ → Called → Called
attach_polled name s = attach_told (polled_answer s.side) name (with_side (polled s.side) s)

abbrev pub attach_answered_to : Option ℕ → Called → Called
attach_answered_to None s = s
attach_answered_to (Some name) s = attach_polled name s

abbrev pub attach_answered : Called → Called
attach_answered s = attach_answered_to s.attaching s

-- the call that accepts a link is told at once
abbrev pub accept_told : Result AttachPoll AttachError → Called → Called
accept_told (Ok Done) s = record s { is_made = true }
accept_told other s = s

abbrev pub accept_reply_for : Result AttachPoll AttachError → Side → LinkReply
accept_reply_for (Ok Pending) s = reply.Pending
accept_reply_for (Ok Done) s = made_reply (role_of s)
accept_reply_for (Err e) s = accept_error (role_of s) e

abbrev pub accept_answered : Called → Called
accept_answered s = accept_told (polled_answer s.side) (with_side (polled s.side) s)

abbrev pub accept_reply : Called → LinkReply
accept_reply s = accept_reply_for (polled_answer s.side) s.side

-- ---- outcomes

-- what is known of the outcome of the delivery at a place; a receiver has sent none
abbrev pub outcome_at : ℕ → Side → LinkReply
outcome_at place (Sender s) = outcome_reply (settling.outcome_at place s)
outcome_at place (Receiver s) = no_sender

-- behind the own End a Disposition may still come (section 2.5.5): that the session has stopped is told once it is over
abbrev pub is_own_end : SessionStopReason → Bool
is_own_end why.Ended = true
is_own_end (why.EndedWithError e) = true
is_own_end other = false

abbrev pub is_stop : LinkStateError → Bool
is_stop (SessionStopped reason) = is_own_end reason
is_stop other = false

abbrev pub is_of_stop : SendError → Bool
is_of_stop (error.LinkStateError e) = is_stop e
is_of_stop other = false

abbrev pub tells_of_stop : LinkReply → Bool
tells_of_stop (reply.SendError e) = is_of_stop e
tells_of_stop answer = false

abbrev pub put_off : Bool → LinkReply → LinkReply
put_off is_over answer = if not is_over && tells_of_stop answer then reply.Pending else answer

-- what a call for the outcome of the delivery at a place is told
abbrev pub outcome_now : ℕ → Called → LinkReply
outcome_now place s = put_off s.is_concluded (outcome_at place s.side)

abbrev pub outcome_answered_to : Option ℕ → ℕ → Called → Called
outcome_answered_to None place s = s
outcome_answered_to (Some name) place s =
    answering name (outcome_at place s.side) (record s { waiting = swap_remove_entry (nat_eq place) s.waiting })

-- the call that waits for the outcome of that delivery is answered
abbrev pub outcome_answered : ℕ → Called → Called
outcome_answered place s = outcome_answered_to (lookup (nat_eq place) s.waiting) place s

-- the answer of the call that waits for the outcome at a place
abbrev pub told_by : Side → ℕ × ℕ → NamedLinkReply
told_by side w = record { name = w.1; reply = outcome_at w.0 side }

-- each call that waits for an outcome is answered
abbrev pub outcomes_answered : Called → Called
outcomes_answered s = record s { waiting = []; answers = s.answers ++ map (told_by s.side) s.waiting }

-- ---- when they are

-- once the session has stopped, calls that wait learn of it when it is over
abbrev pub attach_answered_now : Called → Called
attach_answered_now s = if is_stopped s.side then s else attach_answered s

abbrev pub outcomes_answered_now : Called → Called
outcomes_answered_now s = if is_stopped s.side || not (is_closed_by_both s.side) then s else outcomes_answered s

-- the answers are taken
abbrev pub answers_taken : Called → Called
answers_taken s = record s { answers = [] }
