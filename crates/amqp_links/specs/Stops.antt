-- The end of a session, as its links see it (OASIS AMQP 1.0, part 2, sections 2.5.4 and 2.6.5).
use Rattle.std.specs.Prelude.{ℕ, true, List, [], ◌∷◌, Option, Some, None}
use Rattle.amqp_frames.specs.declared.shared.SessionStopReason.{SessionStopReason}
use Rattle.amqp_link_calls.specs.Answering.{answers_taken}
use Rattle.amqp_link_calls.specs.Hearing.{concluded}
use Rattle.amqp_link_calls.specs.Called.{Called}
use Rattle.amqp_link_calls.specs.Called as called
use Rattle.amqp_session_links.specs.State.{State as Place, stopped}
use Rattle.amqp_links.specs.State.{State, place_of, link_of, with_link, at_place, answering_all}
use Rattle.amqp_links.specs.Taking.{attach_told}
use Rattle.amqp_links.specs.Timing.{tried_again}

-- the links of a session
abbrev pub links_at : Option Place → List ℕ
links_at None = []
links_at (Some p) = p.links

-- one of them stops: a message that has waited for credit is refused
abbrev pub stopped_at : Option Called → ℕ → SessionStopReason → State → State
stopped_at None link why s = s
stopped_at (Some l) link why s = tried_again true link (with_link link (called.stopped why l) s)

abbrev pub all_stopped : List ℕ → SessionStopReason → State → State
all_stopped [] why s = s
all_stopped (l ∷ ls) why s = all_stopped ls why (stopped_at (link_of l s) l why s)

-- the session has stopped: its links take no more calls
abbrev pub session_stopped : ℕ → SessionStopReason → State → State
session_stopped session why s = at_place session (stopped why) (all_stopped (links_at (place_of session s)) why s)

-- each call that waits at a link is answered
abbrev pub concluded_at : Option Called → ℕ → State → State
concluded_at None link s = s
concluded_at (Some l) link s = attach_told link (answering_all (concluded l).answers (with_link link (answers_taken (concluded l)) s))

abbrev pub all_concluded : List ℕ → State → State
all_concluded [] s = s
all_concluded (l ∷ ls) s = all_concluded ls (concluded_at (link_of l s) l s)

-- nothing more comes of the session: an accept goes on waiting
abbrev pub session_over : ℕ → State → State
session_over session s = all_concluded (links_at (place_of session s)) s
