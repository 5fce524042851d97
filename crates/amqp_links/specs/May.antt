-- Which calls the links of an end take (OASIS AMQP 1.0, part 2, sections 2.6.3 and 2.6.12).
use Rattle.std.specs.Prelude.{◌≡◌, ℕ, nat_eq, ◌==◌, Bool, true, false, not, ◌&&◌, IsTrue, List, [], ◌∷◌, Option, Some, None}
use Rattle.std.specs.Map.{lookup}
use Rattle.amqp_composites.specs.declared.modes.Role.{Role}
use Rattle.amqp_composites.specs.declared.modes.Role.TheVariants as role
use Rattle.amqp_link_calls.specs.Called.{Called, takes_calls, may_abandon, is_awaited}
use Rattle.amqp_link_calls.specs.Side.{role_of}
use Rattle.amqp_link_tables.specs.Calls.{is_spent}
use Rattle.amqp_link_calls.specs.amqp_link_words.declared.link_call.LinkCall.{LinkCall}
use Rattle.amqp_link_calls.specs.amqp_link_words.declared.link_call.LinkCall.TheVariants as call
use Rattle.amqp_link_calls.specs.amqp_link_words.declared.link_call.Parting.{Parting}
use Rattle.amqp_link_calls.specs.amqp_link_words.declared.link_call.Parting.TheVariants as parting
use Rattle.amqp_sender.specs.declared.sender.DeliveryToken.{DeliveryToken}
use Rattle.amqp_session_links.specs.State.{State as Place, is_busy}
use Rattle.amqp_links.specs.declared.links.GivenDelivery.{GivenDelivery}
use Rattle.amqp_links.specs.declared.links.KeptDisposer.{KeptDisposer}
use Rattle.amqp_links.specs.declared.links.SentDelivery.{SentDelivery}
use Rattle.amqp_links.specs.State.{State, place_of, link_of}
use Rattle.amqp_links.specs.Timing.{is_sending}

-- whether a call waits on the session
abbrev pub busy_at : Option Place → Bool
busy_at None = false
busy_at (Some p) = is_busy p

abbrev pub is_busy_on : ℕ → State → Bool
is_busy_on session s = busy_at (place_of session s)

-- whether no attach may use that name again on the session
abbrev pub spent_at : List ℕ → Option Place → Bool
spent_at name None = false
spent_at name (Some p) = is_spent name p.table

abbrev pub is_spent_on : ℕ → List ℕ → State → Bool
is_spent_on session name s = spent_at name (place_of session s)

-- an attach: no other call waits there, and the name was not used up
abbrev pub may_attach : ℕ → List ℕ → State → Bool
may_attach session name s = not (is_busy_on session s) && not (is_spent_on session name s)

-- whether two roles are the same
abbrev pub same_role : Role → Role → Bool
same_role role.Sender role.Sender = true
same_role role.Receiver role.Receiver = true
same_role x y = false

-- whether the link was made, with this end in that role, and takes calls, while no send with a time waits there
abbrev pub made_as : Role → Option Called → Bool
made_as role None = false
made_as role (Some l) = takes_calls l && same_role (role_of l.side) role

abbrev pub is_made : ℕ → Role → State → Bool
is_made link role s = made_as role (link_of link s) && not (is_sending link s)

-- whether that message was sent, and no call waits for its outcome
abbrev pub may_ask_at : DeliveryToken → Option Called → Bool
may_ask_at token None = false
may_ask_at token (Some l) = not (is_awaited token.place l)

abbrev pub may_ask_for : Option SentDelivery → State → Bool
may_ask_for None s = false
may_ask_for (Some sent) s = may_ask_at sent.token (link_of sent.link s)

abbrev pub may_ask : ℕ → State → Bool
may_ask send s = may_ask_for (lookup (nat_eq send) s.sends) s

-- whether that receiver gave each of these deliveries
abbrev pub given_by : ℕ → Option GivenDelivery → Bool
given_by link None = false
given_by link (Some given) = given.link == link

abbrev pub are_given : ℕ → List ℕ → State → Bool
are_given link [] s = true
are_given link (d ∷ ds) s = given_by link (lookup (nat_eq d) s.deliveries) && are_given link ds s

abbrev pub is_any : List ℕ → Bool
is_any [] = false
is_any (d ∷ ds) = true

abbrev pub may_dispose : ℕ → List ℕ → State → Bool
may_dispose link deliveries s = is_made link role.Receiver s && (is_any deliveries && are_given link deliveries s)

-- whether that disposer was made, and its receiver gave the delivery
abbrev pub may_dispose_by : Option KeptDisposer → ℕ → State → Bool
may_dispose_by None delivery s = false
may_dispose_by (Some x) delivery s = given_by x.link (lookup (nat_eq delivery) s.deliveries)

-- whether a call that leaves the link is taken
abbrev pub may_leave_at : Parting → Option Called → Bool
may_leave_at x None = false
may_leave_at parting.Abandon (Some l) = may_abandon l
may_leave_at other (Some l) = takes_calls l

abbrev pub may_leave : ℕ → Parting → State → Bool
may_leave link x s = may_leave_at x (link_of link s) && not (is_sending link s)

-- whether a call is taken
abbrev pub may_call : LinkCall → State → Bool
may_call (call.Sender session settings) s = may_attach session settings.name s
may_call (call.Receiver session settings) s = may_attach session settings.name s
may_call (call.Accept session settings credit_mode auto_accept) s = not (is_busy_on session s)
may_call (call.Send link message) s = message.has_body && is_made link role.Sender s
may_call (call.SendTimed link message timeout) s = message.has_body && is_made link role.Sender s
may_call (call.Outcome send) s = may_ask send s
may_call (call.Recv link) s = is_made link role.Receiver s
may_call (call.Dispose link disposal deliveries) s = may_dispose link deliveries s
may_call (call.SetCredit link credit) s = is_made link role.Receiver s
may_call (call.Credit link) s = is_made link role.Receiver s
may_call (call.Regulate link regulation) s = is_made link role.Receiver s
may_call (call.Disposer link) s = is_made link role.Receiver s
may_call (call.DisposeBy disposer disposal delivery) s = may_dispose_by (lookup (nat_eq disposer) s.disposers) delivery s
may_call (call.Part link x) s = may_leave link x s

abbrev pub MayCall : State → LinkCall → Type 0
MayCall s x = IsTrue (may_call x s)
