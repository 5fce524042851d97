-- How links are attached by calls (OASIS AMQP 1.0, part 2, section 2.6.3).
use Rattle.std.specs.Prelude.{ℕ, nat_eq, List, Option, Some, None}
use Rattle.indexmap.specs.IndexMap.{insert_entry}
use Rattle.amqp_composites.specs.declared.modes.Role.{Role}
use Rattle.amqp_composites.specs.declared.modes.Role.TheVariants as role
use Rattle.amqp_link.specs.declared.error.AttachError.TheVariants.{SessionNotMapped}
use Rattle.amqp_link_calls.specs.Called.{Called, sender_asked, receiver_asked}
use Rattle.amqp_link_calls.specs.amqp_link_words.declared.link_reply.LinkReply.TheVariants as reply
use Rattle.amqp_link_calls.specs.amqp_receiver.declared.settings.ReceiverSettings.{ReceiverSettings}
use Rattle.amqp_sender.specs.declared.settings.SenderSettings.{SenderSettings}
use Rattle.amqp_session_links.specs.declared.place.Claim.{Claim}
use Rattle.amqp_session_links.specs.declared.place.Claim.TheVariants.{Handle, Refused}
use Rattle.amqp_session_links.specs.Claims.{claiming, joined}
use Rattle.amqp_session_links.specs.State.{State as Place, awaiting_answer}
use Rattle.amqp_links.specs.State.{State, Claimed, place_of, with_place, at_place, answering}
use Rattle.amqp_links.specs.Taking.{taken_up}

abbrev pub claimed_at : Option Place → ℕ → List ℕ → Role → ℕ → Option ℕ → State → Claimed
claimed_at None session name role link max s = record { answer = Refused SessionNotMapped; state = s }
claimed_at (Some p) session name role link max s =
    record { answer = (claiming name role link max p).answer; state = with_place session (claiming name role link max p).state s }

-- a link of that name and role asks for a handle on the session
abbrev pub claimed : ℕ → List ℕ → Role → ℕ → Option ℕ → State → Claimed
claimed session name role link max s = claimed_at (place_of session s) session name role link max s

-- the link stands under the name of its call
abbrev pub standing : ℕ → Called → State → State
standing name l s = record s { endpoints = insert_entry nat_eq s.endpoints name l }

-- the call waits for the peer's answer
abbrev pub begun : ℕ → ℕ → Called → State → State
begun name session l s = taken_up name (answering name reply.Pending (at_place session (awaiting_answer name) (standing name l s)))

abbrev pub sender_by : Claim → ℕ → ℕ → SenderSettings → State → State
sender_by (Handle handle) name session x s = begun name session (sender_asked name session x handle) s
sender_by (Refused error) name session x s = answering name (reply.SenderAttachError error) s

-- a call attaches a sender
abbrev pub attaching_sender : ℕ → ℕ → SenderSettings → Option ℕ → State → State
attaching_sender name session x max s =
    let c = claimed session x.name role.Sender name max s in sender_by c.answer name session x c.state

abbrev pub receiver_by : Claim → ℕ → ℕ → ReceiverSettings → State → State
receiver_by (Handle handle) name session x s = begun name session (receiver_asked name session x handle) s
receiver_by (Refused error) name session x s = answering name (reply.ReceiverAttachError error) s

-- a call attaches a receiver
abbrev pub attaching_receiver : ℕ → ℕ → ReceiverSettings → Option ℕ → State → State
attaching_receiver name session x max s =
    let c = claimed session x.name role.Receiver name max s in receiver_by c.answer name session x c.state

-- the link has that handle of the peer
abbrev pub joining : ℕ → ℕ → ℕ → State → State
joining session remote link s = at_place session (joined remote link) s
