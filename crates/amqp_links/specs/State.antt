-- The links of an end, as their rules see them (OASIS AMQP 1.0, part 2, section 2.6).
use Rattle.std.specs.Prelude.{◌≡◌, ℕ, nat_eq, Bool, List, [], ◌∷◌, ◌++◌, Option, Some, None}
use Rattle.std.specs.Map.{lookup, set_value}
use Rattle.amqp_link_calls.specs.Called.{Called}
use Rattle.amqp_link_calls.specs.amqp_link_words.declared.link_reply.LinkReply.{LinkReply}
use Rattle.amqp_link_calls.specs.amqp_link_words.declared.link_reply.NamedLinkReply.{NamedLinkReply}
use Rattle.amqp_session_links.specs.declared.place.Claim.{Claim}
use Rattle.amqp_session_links.specs.State.{State as Place, none_attached}
use Rattle.indexmap.specs.IndexMap.{insert_entry}
use Rattle.amqp_links.specs.declared.links.GivenDelivery.{GivenDelivery}
use Rattle.amqp_links.specs.declared.links.KeptDisposer.{KeptDisposer}
use Rattle.amqp_links.specs.declared.links.Links.{Links}
use Rattle.amqp_links.specs.declared.links.SentDelivery.{SentDelivery}
use Rattle.amqp_links.specs.declared.timed.TimedCall.{TimedCall}
use Rattle.amqp_links.specs.Parts.{Told, Pops}

-- whether this end accepts the links of the peer; what the links of each session share; the links by the names of the calls that made
-- them; the messages that were sent, the deliveries that were given and the disposers that were made, by the names of their calls; the calls
-- with a time, by the links at which they wait; the moment of the step, in milliseconds; what is to be done on the sessions; the answers that
-- were not taken
pub record State : Type 0 where
  pub accepts : Bool
  pub sessions : List (ℕ × Place)
  pub endpoints : List (ℕ × Called)
  pub sends : List (ℕ × SentDelivery)
  pub deliveries : List (ℕ × GivenDelivery)
  pub disposers : List (ℕ × KeptDisposer)
  pub timed : List (ℕ × TimedCall)
  pub moment : ℕ
  pub output : List Told
  pub replies : List NamedLinkReply

-- what a link gets of its session, and the links behind it
pub record Claimed : Type 0 where
  pub answer : Claim
  pub state : State

abbrev pub seen : Links → State
seen s = record {
  accepts = s.accepts;
  sessions = s.sessions.entries;
  endpoints = s.endpoints.entries;
  sends = s.sends.entries;
  deliveries = s.deliveries.entries;
  disposers = s.disposers.entries;
  timed = s.timed.entries;
  moment = s.moment;
  output = s.output;
  replies = s.replies.items;
}

-- there are no links
abbrev pub no_links : Bool → State
no_links accepts = record { accepts = accepts; sessions = []; endpoints = []; sends = []; deliveries = []; disposers = []; timed = []; moment = 0; output = []; replies = [] }

-- what the links of the session of that name share
abbrev pub place_of : ℕ → State → Option Place
place_of session s = lookup (nat_eq session) s.sessions

-- the link of that name
abbrev pub link_of : ℕ → State → Option Called
link_of link s = lookup (nat_eq link) s.endpoints

-- they go on to another state
abbrev pub with_place : ℕ → Place → State → State
with_place session p s = record s { sessions = set_value (nat_eq session) s.sessions p }

abbrev pub with_link : ℕ → Called → State → State
with_link link l s = record s { endpoints = set_value (nat_eq link) s.endpoints l }

-- the session goes on by that step, if it is known
abbrev pub stepped : Option Place → ℕ → (Place → Place) → State → State
stepped None session f s = s
stepped (Some p) session f s = with_place session (f p) s

abbrev pub at_place : ℕ → (Place → Place) → State → State
at_place session f s = stepped (place_of session s) session f s

-- the session is known from now on
abbrev pub entered_at : Option Place → ℕ → State → State
entered_at None session s = record s { sessions = insert_entry nat_eq s.sessions session none_attached }
entered_at (Some p) session s = s

abbrev pub entered : ℕ → State → State
entered session s = entered_at (place_of session s) session s

-- the call of that name is answered
abbrev pub answering : ℕ → LinkReply → State → State
answering name reply s = record s { replies = s.replies ++ record { name = name; reply = reply } ∷ [] }

-- calls that have waited are answered
abbrev pub answering_all : List NamedLinkReply → State → State
answering_all answers s = record s { replies = s.replies ++ answers }

-- the first of what is to be done is taken off
abbrev pub TakesOutput : State → Option Told → State → Type 0
TakesOutput old taken new = Pops old.output taken new.output × (new ≡ record old { output = new.output })
