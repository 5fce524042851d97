-- How links of the peer are accepted (OASIS AMQP 1.0, part 2, section 2.6.3).
use Rattle.std.specs.Prelude.{ℕ, Bool, true, false, List, [], ◌∷◌, Option, Some, None, if◌then◌else◌}
use Rattle.amqp_composites.specs.declared.modes.Role.{Role}
use Rattle.amqp_composites.specs.declared.modes.Role.TheVariants as role
use Rattle.amqp_link.specs.declared.error.AttachError.{AttachError}
use Rattle.amqp_link_calls.specs.Answering.{accept_answered, accept_reply}
use Rattle.amqp_link_calls.specs.Called.{Called, accepted}
use Rattle.amqp_link_calls.specs.Replies.{accept_error}
use Rattle.amqp_link_calls.specs.amqp_link_words.declared.link_reply.AcceptError.TheVariants.{LocalSender, LocalReceiver}
use Rattle.amqp_link_calls.specs.amqp_link_words.declared.link_reply.LinkReply.{LinkReply}
use Rattle.amqp_link_calls.specs.amqp_link_words.declared.link_reply.LinkReply.TheVariants as reply
use Rattle.amqp_performatives.specs.declared.attach.Attach.{Attach}
use Rattle.amqp_session_links.specs.amqp_session.declared.session.LinkInput.{LinkInput}
use Rattle.amqp_session_links.specs.declared.place.Claim.{Claim}
use Rattle.amqp_session_links.specs.declared.place.Claim.TheVariants.{Handle, Refused}
use Rattle.amqp_session_links.specs.declared.place.WaitingAccept.{WaitingAccept}
use Rattle.amqp_session_links.specs.Incoming.{attach_pushed, first_of, attach_taken, early_of, early_taken, early_put}
use Rattle.amqp_session_links.specs.State.{State as Place, awaiting_attach, accept_taken}
use Rattle.amqp_links.specs.Attaching.{claimed, standing, joining}
use Rattle.amqp_link_calls.specs.Leaving.{is_reattaching}
use Rattle.amqp_links.specs.Hearing.{is_detach, hearing, other_role, answered_at, attach_heard, answer_read}
use Rattle.amqp_links.specs.State.{State, place_of, link_of, at_place, answering}
use Rattle.amqp_links.specs.Taking.{taken_up}

-- the first Attach that waits on the session
abbrev pub first_at : Option Place → Option Attach
first_at None = None
first_at (Some p) = first_of p.attaches

abbrev pub first_attach : ℕ → State → Option Attach
first_attach session s = first_at (place_of session s)

-- the role of this end on its link, and the name of that
abbrev pub role_and_name : Option Attach → Option (Role × List ℕ)
role_and_name None = None
role_and_name (Some x) = Some (other_role x.role, x.name)

-- what was read behind the Attach
abbrev pub early_at : ℕ → Option Place → List LinkInput
early_at remote None = []
early_at remote (Some p) = early_of remote p

-- the link hears it, up to its Detach: what came later is of another link
abbrev pub heard_early : ℕ → ℕ → ℕ → List LinkInput → State → State
heard_early session link remote [] s = s
heard_early session link remote (x ∷ xs) s =
    let t = hearing session link remote x s in
    if is_detach x then at_place session (early_put remote xs) t else heard_early session link remote xs t

abbrev pub catching_up : ℕ → ℕ → ℕ → State → State
catching_up session link remote s =
    heard_early session link remote (early_at remote (place_of session s)) (at_place session (early_taken remote) s)

-- the link that answers the Attach stands under the name of its call
abbrev pub attach_accepted : ℕ → WaitingAccept → ℕ → Attach → State → State
attach_accepted session accept handle x s =
    let l = accepted session accept.settings accept.credit_mode accept.auto_accept handle x in
    let t = joining session x.handle accept.name (standing accept.name (accept_answered l) s) in
    catching_up session accept.name x.handle (taken_up accept.name (answering accept.name (accept_reply l) t))

abbrev pub first_accepted_at : Option Attach → ℕ → WaitingAccept → ℕ → State → State
first_accepted_at None session accept handle s = s
first_accepted_at (Some x) session accept handle s = attach_accepted session accept handle x s

abbrev pub first_accepted : ℕ → WaitingAccept → ℕ → State → State
first_accepted session accept handle s =
    first_accepted_at (first_attach session s) session accept handle (at_place session attach_taken s)

abbrev pub met_by : Claim → ℕ → WaitingAccept → Role → State → State
met_by (Handle handle) session accept role s = first_accepted session accept handle s
met_by (Refused error) session accept role s = answering accept.name (accept_error role error) s

abbrev pub met_at : Option Attach → ℕ → WaitingAccept → State → State
met_at None session accept s = s
met_at (Some x) session accept s =
    let c = claimed session x.name (other_role x.role) accept.name accept.handle_max s in
    met_by c.answer session accept (other_role x.role) c.state

-- a call meets the first Attach that waits: where the link gets no handle the Attach waits still
abbrev pub met : ℕ → WaitingAccept → State → State
met session accept s = met_at (first_attach session s) session accept s

-- a call waits for an Attach
abbrev pub waiting : ℕ → WaitingAccept → State → State
waiting session accept s = answering accept.name reply.Pending (at_place session (awaiting_attach accept) s)

-- a call accepts the first link that waits, or waits for the next
abbrev pub accepting_at : Option Attach → ℕ → WaitingAccept → State → State
accepting_at None session accept s = waiting session accept s
accepting_at (Some x) session accept s = met session accept s

abbrev pub accepting : ℕ → WaitingAccept → State → State
accepting session accept s = accepting_at (first_attach session s) session accept s

-- the call that waits for an Attach takes it
abbrev pub accept_of : Option Place → Option WaitingAccept
accept_of None = None
accept_of (Some p) = p.accepting

abbrev pub meeting : Option WaitingAccept → ℕ → State → State
meeting None session s = s
meeting (Some accept) session s = met session accept s

abbrev pub waiting_met : ℕ → State → State
waiting_met session s = meeting (accept_of (place_of session s)) session (at_place session accept_taken s)

abbrev pub attach_waits : ℕ → Attach → State → State
attach_waits session x s = waiting_met session (at_place session (attach_pushed x) s)

abbrev pub reattaching_as : ℕ → Option Called → Option ℕ
reattaching_as link None = None
reattaching_as link (Some l) = if is_reattaching l then Some link else None

-- the link of this end that was attached again and awaits that Attach
abbrev pub reattaching_at : Option ℕ → State → Option ℕ
reattaching_at None s = None
reattaching_at (Some link) s = reattaching_as link (link_of link s)

abbrev pub awaiting : ℕ → Attach → State → Option ℕ
awaiting session x s = reattaching_at (answered_at x (place_of session s)) s

abbrev pub attach_for : Option ℕ → ℕ → Attach → State → State
attach_for None session x s = attach_waits session x s
attach_for (Some link) session x s = attach_heard session link x s

-- an Attach of the peer was read: an end that accepts lets it wait for a call, but for that of a link which it has attached again; the
-- other has attached the link itself
abbrev pub attach_came : Bool → ℕ → Attach → State → State
attach_came true session x s = attach_for (awaiting session x s) session x s
attach_came false session x s = answer_read session x s
