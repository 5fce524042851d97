-- What has become of a link: what it has to write, the answers of calls that have waited, and its handle once it is over (OASIS AMQP
-- 1.0, part 2, sections 2.6.3 and 2.6.6).
use Rattle.std.specs.Prelude.{ℕ, Bool, true, false, not, ◌&&◌, is_some, List, ◌++◌, map, Option, Some, None, if◌then◌else◌}
use Rattle.amqp_link_calls.specs.Answering.{answers_taken}
use Rattle.amqp_link_calls.specs.Called.{Called}
use Rattle.amqp_composites.specs.declared.modes.Role.{Role}
use Rattle.amqp_link.specs.declared.error.AttachError.TheVariants.{SessionNotMapped}
use Rattle.amqp_link_calls.specs.Leaving.{wants_handle, handle_given, handle_refused}
use Rattle.amqp_link_calls.specs.Side.{role_of}
use Rattle.amqp_link_calls.specs.amqp_link_words.declared.link_reply.LinkReply.{LinkReply}
use Rattle.amqp_session_links.specs.declared.place.Claim.{Claim}
use Rattle.amqp_session_links.specs.declared.place.Claim.TheVariants.{Handle, Refused}
use Rattle.amqp_session_links.specs.Claims.{is_at, released, spending, reclaiming}
use Rattle.amqp_session_links.specs.State.{State as Place, attach_ended}
use Rattle.amqp_links.specs.Parts.{Frame, output_of, emptied, handle_of, name_of, is_over}
use Rattle.amqp_links.specs.State.{State, Claimed, place_of, link_of, with_place, with_link, at_place, answering, answering_all}

-- what the link has to write goes behind what is to be done
abbrev pub written_at : Option Called → ℕ → State → State
written_at None link s = s
written_at (Some l) link s = record (with_link link (emptied l) s) { output = s.output ++ map (Frame l.session) (output_of l) }

abbrev pub written : ℕ → State → State
written link s = written_at (link_of link s) link s

-- the calls that have waited at the link are answered
abbrev pub told_at : Option Called → ℕ → State → State
told_at None link s = s
told_at (Some l) link s = answering_all l.answers (with_link link (answers_taken l) s)

abbrev pub told : ℕ → State → State
told link s = told_at (link_of link s) link s

-- whether the session takes the attach of the link for waiting
abbrev pub attaching_at : Option Place → ℕ → Bool
attaching_at None link = false
attaching_at (Some p) link = is_at p.attaching link

-- the session on which the attach of the link has waited, where it was answered
abbrev pub told_on_at : Option Called → ℕ → State → Option ℕ
told_on_at None link s = None
told_on_at (Some l) link s = if not (is_some l.attaching) && attaching_at (place_of l.session s) link then Some l.session else None

abbrev pub told_on : ℕ → State → Option ℕ
told_on link s = told_on_at (link_of link s) link s

-- the name of a link that was not made is spent
abbrev pub spent_by_at : Option Called → ℕ → State → State
spent_by_at None session s = s
spent_by_at (Some l) session s = if l.is_made then s else at_place session (spending (name_of l)) s

abbrev pub spent_by : ℕ → ℕ → State → State
spent_by session link s = spent_by_at (link_of link s) session s

-- then the session waits no more
abbrev pub attach_told_on : Option ℕ → ℕ → State → State
attach_told_on None link s = s
attach_told_on (Some session) link s = spent_by session link (at_place session attach_ended s)

abbrev pub attach_told : ℕ → State → State
attach_told link s = attach_told_on (told_on link s) link s

-- a link that is over gives its handle back
abbrev pub freed_at : Option Called → ℕ → State → State
freed_at None link s = s
freed_at (Some l) link s = if is_over l then at_place l.session (released (handle_of l) link) s else s

abbrev pub freed : ℕ → State → State
freed link s = freed_at (link_of link s) link s

-- what a link gets of its session that is to be attached again, and the links behind it
abbrev pub reclaimed_at : Option Place → ℕ → List ℕ → Role → ℕ → State → Claimed
reclaimed_at None session name role link s = record { answer = Refused SessionNotMapped; state = s }
reclaimed_at (Some p) session name role link s =
    record { answer = (reclaiming name role link p).answer; state = with_place session (reclaiming name role link p).state s }

abbrev pub reclaimed : ℕ → List ℕ → Role → ℕ → State → Claimed
reclaimed session name role link s = reclaimed_at (place_of session s) session name role link s

-- a handle: its Attach is to be written; none: the call that leaves it is answered
abbrev pub given_at : Option Called → ℕ → ℕ → State → State
given_at None handle link s = s
given_at (Some l) handle link s = with_link link (handle_given handle l) s

abbrev pub refused_at : Option Called → ℕ → State → State
refused_at None link s = s
refused_at (Some l) link s = with_link link (handle_refused l) s

abbrev pub placed_by : Claim → ℕ → State → State
placed_by (Handle handle) link s = written link (given_at (link_of link s) handle link s)
placed_by (Refused error) link s = told link (refused_at (link_of link s) link s)

abbrev pub placed : ℕ → List ℕ → Role → ℕ → State → State
placed session name role link s = let c = reclaimed session name role link s in placed_by c.answer link c.state

-- a link that is to be closed on a further attachment is attached again (section 2.6.6)
abbrev pub reattached_at : Option Called → ℕ → State → State
reattached_at None link s = s
reattached_at (Some l) link s = if wants_handle l then placed l.session (name_of l) (role_of l.side) link s else s

abbrev pub reattached : ℕ → State → State
reattached link s = reattached_at (link_of link s) link s

-- all of it
abbrev pub taken_up : ℕ → State → State
taken_up link s = reattached link (freed link (attach_told link (told link (written link s))))

-- a call on a link is answered, and what has become of the link is taken up
abbrev pub finished : ℕ → ℕ → LinkReply → State → State
finished name link reply s = taken_up link (answering name reply s)
