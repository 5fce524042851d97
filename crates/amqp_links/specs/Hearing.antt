-- What links hear of their peers (OASIS AMQP 1.0, part 2, sections 2.6 and 2.7).
use Rattle.std.specs.Prelude.{ℕ, Bool, true, false, List, [], ◌∷◌, ◌++◌, Option, Some, None, if◌then◌else◌}
use Rattle.amqp_composites.specs.declared.modes.Role.{Role}
use Rattle.amqp_composites.specs.declared.modes.Role.TheVariants as role
use Rattle.amqp_link_calls.specs.Called.{Called}
use Rattle.amqp_link_calls.specs.Hearing.{attach_read}
use Rattle.amqp_link_tables.specs.Calls.{link_from, link_named}
use Rattle.amqp_performatives.specs.declared.attach.Attach.{Attach}
use Rattle.amqp_session_links.specs.amqp_session.declared.session.LinkInput.{LinkInput}
use Rattle.amqp_session_links.specs.amqp_session.declared.session.LinkInput.TheVariants as input
use Rattle.amqp_session_links.specs.Claims.{parted}
use Rattle.amqp_session_links.specs.Incoming.{kept}
use Rattle.amqp_session_links.specs.State.{State as Place}
use Rattle.amqp_links.specs.Attaching.{joining}
use Rattle.amqp_links.specs.Numbering.{numbering}
use Rattle.amqp_links.specs.Parts.{Astray, heard}
use Rattle.amqp_links.specs.State.{State, place_of, link_of, with_link, at_place}
use Rattle.amqp_links.specs.Taking.{taken_up}
use Rattle.amqp_links.specs.Timing.{tried_again}

-- ---- frames on the handle of the peer

abbrev pub is_detach : LinkInput → Bool
is_detach (input.Detach x) = true
is_detach x = false

-- a Detach makes the handle of the peer free
abbrev pub parting : Bool → ℕ → ℕ → State → State
parting true session remote s = at_place session (parted remote) s
parting false session remote s = s

abbrev pub hearing_at : Option Called → ℕ → LinkInput → State → State
hearing_at None link x s = s
hearing_at (Some l) link x s = with_link link (heard x l) s

-- the link hears a frame; a delivery that it begins is known by its number, and a message that has waited for credit is tried again
abbrev pub hearing : ℕ → ℕ → ℕ → LinkInput → State → State
hearing session link remote x s =
    let t = numbering session link x (parting (is_detach x) session remote s) in
    taken_up link (tried_again (is_detach x) link (hearing_at (link_of link t) link x t))

-- the link of that handle of the peer
abbrev pub link_from_at : ℕ → Option Place → Option ℕ
link_from_at remote None = None
link_from_at remote (Some p) = link_from remote p.table

abbrev pub frame_at : Option ℕ → ℕ → ℕ → LinkInput → State → State
frame_at None session remote x s = at_place session (kept remote x) s
frame_at (Some link) session remote x s = hearing session link remote x s

-- a frame was read on that handle: its link hears it, and where there is none it is kept
abbrev pub frame_read : ℕ → ℕ → LinkInput → State → State
frame_read session remote x s = frame_at (link_from_at remote (place_of session s)) session remote x s

-- ---- the peer's answer to an Attach of this end

abbrev pub other_role : Role → Role
other_role role.Sender = role.Receiver
other_role role.Receiver = role.Sender

abbrev pub attach_heard_at : Option Called → ℕ → Attach → State → State
attach_heard_at None link x s = s
attach_heard_at (Some l) link x s = with_link link (attach_read x l) s

abbrev pub attach_heard : ℕ → ℕ → Attach → State → State
attach_heard session link x s =
    let t = joining session x.handle link s in taken_up link (attach_heard_at (link_of link t) link x t)

-- the link of this end that an Attach answers: of the same name, in the other role (section 2.6.1)
abbrev pub answered_at : Attach → Option Place → Option ℕ
answered_at x None = None
answered_at x (Some p) = link_named x.name (other_role x.role) p.table

abbrev pub answer_read_at : Option ℕ → ℕ → Attach → State → State
answer_read_at None session x s = record s { output = s.output ++ Astray session ∷ [] }
answer_read_at (Some link) session x s = attach_heard session link x s

-- an Attach was read at an end that attaches links itself
abbrev pub answer_read : ℕ → Attach → State → State
answer_read session x s = answer_read_at (answered_at x (place_of session s)) session x s
