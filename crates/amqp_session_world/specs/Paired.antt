-- Which sessions of two ends pair, and what that asks of an attach (OASIS AMQP 1.0, part 2, sections 2.5.1 and 2.6.1).
use Rattle.std.specs.Prelude.{ℕ, nat_eq, Bool, true, false, not, List, [], ◌∷◌, Option, Some, None}
use Rattle.std.specs.Map.{lookup}
use Rattle.indexmap.specs.IndexMap.{insert_entry}
use Rattle.amqp_wire.specs.Piped.{Piped}
use Rattle.amqp_words.specs.declared.step.End.{End as Side}
use Rattle.amqp_words.specs.declared.step.End.TheVariants.{Client, Listener}
use Rattle.amqp_link_words.specs.declared.link_call.LinkCall.{LinkCall}
use Rattle.amqp_link_words.specs.declared.link_call.LinkCall.TheVariants.{Sender, Receiver}
use Rattle.amqp_end.specs.amqp_calls.declared.call.Call.{Call as AnyCall}
use Rattle.amqp_end.specs.amqp_calls.declared.call.Call.TheVariants.{Link}
use Rattle.amqp_end.specs.amqp_calls.declared.reply.NamedReply.{NamedReply}
use Rattle.amqp_end.specs.amqp_calls.declared.reply.Reply.{Reply}
use Rattle.amqp_end.specs.amqp_calls.declared.reply.Reply.TheVariants as told
use Rattle.amqp_end.specs.amqp_calls.declared.reply.SessionReply.TheVariants as reply
use Rattle.amqp_end.specs.amqp_calls.declared.step.Act.{Act}
use Rattle.amqp_end.specs.amqp_calls.declared.step.Act.TheVariants.{Call}
use Rattle.amqp_end.specs.amqp_links.May.{is_spent_on}
use Rattle.amqp_end.specs.amqp_links.State.{seen as linked}
use Rattle.amqp_end.specs.declared.end.End.{End}
use Rattle.amqp_session_world.specs.declared.pairs.SessionPairs.{SessionPairs}

-- the last session that the listener was told of; for each that the client was told of, by the name of its call, that of the listener's
pub record Paired : Type 0 where
  pub last : Option ℕ
  pub pairs : List (ℕ × ℕ)

abbrev pub seen : SessionPairs → Paired
seen s = record { last = s.last; pairs = s.pairs.entries }

-- no session was begun
abbrev pub none_paired : Paired
none_paired = record { last = None; pairs = [] }

-- whether an answer says that a session is begun at both ends
abbrev pub is_begun : Reply → Bool
is_begun (told.Session reply.Session) = true
is_begun answer = false

-- ---- what answers tell

-- the listener's sessions are told of in the order of their Begins
abbrev pub accepted_if : Bool → ℕ → Paired → Paired
accepted_if true name p = record p { last = Some name }
accepted_if false name p = p

abbrev pub all_accepted : List NamedReply → Paired → Paired
all_accepted [] p = p
all_accepted (r ∷ rs) p = all_accepted rs (accepted_if (is_begun r.reply) r.name p)

-- a client begins one session at a time: that of which it is told pairs with the last of the listener's
abbrev pub paired_with : Option ℕ → ℕ → Paired → Paired
paired_with None name p = p
paired_with (Some other) name p = record p { pairs = insert_entry nat_eq p.pairs name other }

abbrev pub begun_if : Bool → ℕ → Paired → Paired
begun_if true name p = paired_with p.last name p
begun_if false name p = p

abbrev pub all_begun : List NamedReply → Paired → Paired
all_begun [] p = p
all_begun (r ∷ rs) p = all_begun rs (begun_if (is_begun r.reply) r.name p)

-- the answers of a step of that end
abbrev pub paired_by : Side → List NamedReply → Paired → Paired
paired_by Client replies p = all_begun replies p
paired_by Listener replies p = all_accepted replies p

-- ---- what an attach asks

-- whether the name is used up on that session of the other end, where the session has one to pair with
abbrev pub is_spent_at : Option ℕ → List ℕ → End Piped → Bool
is_spent_at None name far = false
is_spent_at (Some there) name far = is_spent_on there name (linked far.links)

abbrev pub is_spent_there : ℕ → List ℕ → Paired → End Piped → Bool
is_spent_there session name p far = is_spent_at (lookup (nat_eq session) p.pairs) name far

-- an attach takes no name that calls of the other end have used up on the session that pairs with its own
abbrev pub spares_for : Paired → End Piped → LinkCall → Bool
spares_for p far (Sender session settings) = not (is_spent_there session settings.name p far)
spares_for p far (Receiver session settings) = not (is_spent_there session settings.name p far)
spares_for p far call = true

abbrev pub spares_in : Paired → End Piped → AnyCall → Bool
spares_in p far (Link call) = spares_for p far call
spares_in p far call = true

abbrev pub spares : Paired → End Piped → Act → Bool
spares p far (Call call) = spares_in p far call
spares p far act = true
