-- What a run tells of the messages that it sends (OASIS AMQP 1.0, part 2, sections 2.6.12 and 2.7.6).
use Rattle.std.specs.Prelude.{◌≡◌, ◌<◌, ℕ, false, List, [], ◌∷◌, ◌++◌, Option}
use Rattle.amqp_calls.specs.declared.call.Call.{Call}
use Rattle.amqp_calls.specs.declared.call.Call.TheVariants as on
use Rattle.amqp_calls.specs.declared.reply.Reply.TheVariants as answer
use Rattle.amqp_termini.specs.declared.outcome.Outcome.{Outcome}
use Rattle.amqp_link_words.specs.declared.link_call.LinkCall.TheVariants as ask
use Rattle.amqp_link_words.specs.declared.link_call.Sendable.{Sendable}
use Rattle.amqp_link_words.specs.declared.link_reply.LinkReply.TheVariants as reply
use Rattle.amqp_links.specs.Calling.{Calls}
use Rattle.amqp_links.specs.State.{State as Links, seen as linked, no_links, link_of}
use Rattle.amqp_session.specs.declared.session.LinkInput.{LinkInput}
use Rattle.amqp_sessions.specs.State.{seen, none_begun}
use Rattle.amqp_wire.specs.declared.link.Link.{Ghosts}
use Rattle.amqp_end.specs.Deeds.{Deed, LinksHear, told_by}
use Rattle.amqp_end.specs.declared.end.End.{End}
use Rattle.amqp_serve.specs.Deeds.{deeds_in}
use Rattle.amqp_serve.specs.Ran.{Turn, calls, polls, waits, tells, forgets, IsTurn, Ran}
use Rattle.session_laws.specs.Settling.{IsAmong}
use Rattle.connect_laws.specs.Ruling.{IsSending, IsRuled}

-- what the links of an end heard of its sessions in deeds, of which it has the newest first, each under the name of
-- its session
abbrev pub inputs_of : Deed → List (ℕ × LinkInput)
inputs_of (LinksHear session x) = (session, x) ∷ []
inputs_of deed = []

abbrev pub inputs_by : List Deed → List (ℕ × LinkInput)
inputs_by [] = []
inputs_by (d ∷ ds) = inputs_by ds ++ inputs_of d

-- a call that is none on a link, or attaches a sender, sends, or asks for an outcome
abbrev pub IsOfSender : Call → Type 0
IsOfSender (on.Connection call) = Unit {0}
IsOfSender (on.Session call) = Unit {0}
IsOfSender (on.Link call) = IsSending call

-- a turn with such a call, if with one
abbrev pub IsTurnOfSender : Turn → Type 0
IsTurnOfSender (calls name call) = IsOfSender call
IsTurnOfSender polls = Unit {0}
IsTurnOfSender waits = Unit {0}
IsTurnOfSender (tells rs) = Unit {0}
IsTurnOfSender (forgets name) = Unit {0}

abbrev pub AreOfSender : List Turn → Type 0
AreOfSender [] = Unit {0}
AreOfSender (t ∷ ts) = AreOfSender ts × IsTurnOfSender t

-- A run of such turns. A call sends the message over the link, whose name is lower, and later another asks for the
-- outcome of that call.
pub record AsksOutcome {L : Type 0} (link : Ghosts L) (old new : End L) (sender : ℕ) (message : Sendable)
    (name asking : ℕ) : Type 0 where
  pub before : List Turn
  pub ready : End L
  pub begins : Ran link old before ready
  pub sent : End L
  pub sends : IsTurn link ready (calls name (on.Link (ask.Send sender message))) sent
  pub between : List Turn
  pub awaits : End L
  pub goes : Ran link sent between awaits
  pub asked : End L
  pub asks : IsTurn link awaits (calls asking (on.Link (ask.Outcome name))) asked
  pub later : List Turn
  pub ends : Ran link asked later new
  pub of_before : AreOfSender before
  pub of_between : AreOfSender between
  pub of_later : AreOfSender later
  pub link_first : sender < name

-- what the end did in it, the newest first
abbrev pub deeds_by : {L : Type 0} (link : Ghosts L) (old new : End L) (sender : ℕ) (message : Sendable)
    (name asking : ℕ) → AsksOutcome link old new sender message name asking → List Deed
deeds_by link old new sender message name asking k =
    deeds_in link k.asked k.later new k.ends ++ (k.asks.2.deeds ++ (deeds_in link k.sent k.between k.awaits k.goes
    ++ (k.sends.2.deeds ++ deeds_in link old k.before k.ready k.begins)))

-- for the call of that name the links have sent the message, and that outcome is its own, by what was heard
pub record IsRuledIn (heard : List (ℕ × LinkInput)) (sender : ℕ) (message : Sendable) (name : ℕ) (outcome : Outcome)
    : Type 0 where
  pub max : Option ℕ
  pub ready : Links
  pub sent : Links
  pub sends : Calls name (ask.Send sender message) max ready sent
  pub ruled : IsRuled heard (link_of sender ready) message outcome

-- whatever such a run tells of the outcome, from where no session was begun and no link attached
abbrev pub RunsTellOutcomes : {L : Type 0} → Ghosts L → Type 0
RunsTellOutcomes {L} link =
    (old new : End L) (sender : ℕ) (message : Sendable) (name asking : ℕ) (outcome : Outcome)
    (k : AsksOutcome link old new sender message name asking)
    → seen old.sessions ≡ none_begun → linked old.links ≡ no_links false
    → IsAmong (record { name = asking; reply = answer.Link (reply.Outcome outcome) })
    (told_by (deeds_by link old new sender message name asking k))
    → IsRuledIn (inputs_by (deeds_by link old new sender message name asking k)) sender message name outcome
