-- The calls that leave links (OASIS AMQP 1.0, part 2, sections 2.6.4 to 2.6.6).
use Rattle.std.specs.Prelude.{ℕ, Bool, true, false, List, Option, Some, None}
use Rattle.amqp_link_calls.specs.Called.{Called}
use Rattle.amqp_link_calls.specs.Leaving.{leaves}
use Rattle.amqp_link_calls.specs.amqp_link_words.declared.link_call.Parting.{Parting}
use Rattle.amqp_link_calls.specs.amqp_link_words.declared.link_call.Parting.TheVariants as parting
use Rattle.amqp_session_links.specs.Claims.{spending}
use Rattle.amqp_links.specs.Parts.{name_of}
use Rattle.amqp_links.specs.State.{State, with_link, at_place}
use Rattle.amqp_links.specs.Taking.{taken_up}
use Rattle.amqp_links.specs.Timing.{part_told}

-- a call that detaches, closes or abandons a link
abbrev pub is_leaving : Parting → Bool
is_leaving parting.OnDetach = false
is_leaving other = true

-- from then on no attach may use its name
abbrev pub spent_if : Bool → ℕ → List ℕ → State → State
spent_if true session name s = at_place session (spending name) s
spent_if false session name s = s

-- how long the call waits, where it waits only so long
abbrev pub timeout_of : Parting → Option ℕ
timeout_of (parting.Detach error timeout) = timeout
timeout_of other = None

abbrev pub leaving_at : Option Called → ℕ → ℕ → Parting → State → State
leaving_at None name link x s = s
leaving_at (Some l) name link x s =
    let t = spent_if (is_leaving x) l.session (name_of l) (with_link link (leaves name x l).called s) in
    taken_up link (part_told (timeout_of x) (leaves name x l).reply name link t)
