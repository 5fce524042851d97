-- The calls on links (OASIS AMQP 1.0, part 2, sections 2.6.7 and 2.6.12).
use Rattle.std.specs.Prelude.{◌≡◌, ℕ, Bool, nat_eq, List, Option, Some, None}
use Rattle.std.specs.Map.{lookup}
use Rattle.indexmap.specs.IndexMap.{insert_entry}
use Rattle.amqp_delivery.specs.declared.info.CreditMode.{CreditMode}
use Rattle.amqp_delivery.specs.declared.info.DeliveryInfo.{DeliveryInfo}
use Rattle.amqp_link.specs.declared.settings.AcceptSettings.{AcceptSettings}
use Rattle.amqp_link_calls.specs.Answering as answering_of
use Rattle.amqp_link_calls.specs.Called.{Called, with_side}
use Rattle.amqp_link_calls.specs.Calling.{Receives, sends, token_of, having_sent, outcome_asked, having_received, disposes, sets_credit}
use Rattle.amqp_link_calls.specs.Side.{credit_of}
use Rattle.amqp_link_calls.specs.amqp_link_words.declared.link_call.Disposal.{Disposal}
use Rattle.amqp_link_calls.specs.amqp_link_words.declared.link_call.LinkCall.{LinkCall}
use Rattle.amqp_link_calls.specs.amqp_link_words.declared.link_call.LinkCall.TheVariants as call
use Rattle.amqp_link_calls.specs.amqp_link_words.declared.link_call.Sendable.{Sendable}
use Rattle.amqp_link_calls.specs.amqp_link_words.declared.link_reply.LinkReply.{LinkReply}
use Rattle.amqp_link_calls.specs.amqp_link_words.declared.link_reply.LinkReply.TheVariants as reply
use Rattle.amqp_sender.specs.declared.sender.DeliveryToken.{DeliveryToken}
use Rattle.amqp_session_links.specs.declared.place.WaitingAccept.{WaitingAccept}
use Rattle.amqp_links.specs.declared.links.SentDelivery.{SentDelivery}
use Rattle.amqp_links.specs.Accepting.{accepting}
use Rattle.amqp_links.specs.Leaving.{leaving_at}
use Rattle.amqp_links.specs.Attaching.{attaching_sender, attaching_receiver}
use Rattle.amqp_links.specs.Disposers.{infos_of, disposer_made, disposing_by}
use Rattle.amqp_links.specs.Numbering.{given_left, is_done, disposed_left}
use Rattle.amqp_links.specs.Regulating.{regulating_at}
use Rattle.amqp_links.specs.State.{State, entered, link_of, with_link, answering}
use Rattle.amqp_links.specs.Taking.{finished}
use Rattle.amqp_links.specs.Timing.{send_kept, timed_sending}

-- ---- sending

abbrev pub sending_at : Option Called → ℕ → ℕ → Sendable → State → State
sending_at None name link x s = s
sending_at (Some l) name link x s =
    finished name link (sends x l.side).reply (send_kept name link (token_of x l.side) (with_link link (having_sent x l) s))

abbrev pub outcome_at : Option Called → ℕ → ℕ → DeliveryToken → State → State
outcome_at None name link token s = s
outcome_at (Some l) name link token s =
    finished name link (answering_of.outcome_now token.place l) (with_link link (outcome_asked name token.place l) s)

abbrev pub outcome_for : Option SentDelivery → ℕ → State → State
outcome_for None name s = s
outcome_for (Some x) name s = outcome_at (link_of x.link s) name x.link x.token s

-- ---- receiving

-- what names the delivery, where the answer is one
abbrev pub info_of : LinkReply → Option DeliveryInfo
info_of (reply.Delivery info message) = Some info
info_of reply = None

-- a delivery that was given is known by the name of its call
abbrev pub delivery_kept : ℕ → ℕ → Option DeliveryInfo → State → State
delivery_kept name link None s = s
delivery_kept name link (Some info) s =
    record s { deliveries = insert_entry nat_eq s.deliveries name (record { link = link; info = info }) }

-- the receiver is asked, and answers so
abbrev pub received_with : LinkReply → Called → ℕ → ℕ → State → State
received_with answer l name link s =
    let t = with_link link (with_side (having_received answer l.side) l) s in
    finished name link answer (given_left link (info_of answer) (delivery_kept name link (info_of answer) t))

abbrev pub ReceivesAt : Option Called → ℕ → ℕ → State → State → Type 0
ReceivesAt None name link old new = new ≡ old
ReceivesAt (Some l) name link old new = (answer : LinkReply) × (Receives answer l.side × (new ≡ received_with answer l name link old))

abbrev pub disposing_at : Option Called → ℕ → ℕ → Disposal → List DeliveryInfo → State → State
disposing_at None name link x infos s = s
disposing_at (Some l) name link x infos s =
    let m = disposes x infos l.side in
    finished name link m.reply (disposed_left (is_done m.reply) link infos (with_link link (with_side m.side l) s))

abbrev pub disposing : ℕ → ℕ → Disposal → List ℕ → State → State
disposing name link x deliveries s = disposing_at (link_of link s) name link x (infos_of deliveries s.deliveries) s

abbrev pub crediting_at : Option Called → ℕ → ℕ → ℕ → State → State
crediting_at None name link credit s = s
crediting_at (Some l) name link credit s =
    finished name link (sets_credit credit l.side).reply (with_link link (with_side (sets_credit credit l.side).side l) s)

abbrev pub credit_at : Option Called → ℕ → State → State
credit_at None name s = s
credit_at (Some l) name s = answering name (reply.Credit (credit_of l.side)) s

-- ---- all calls

-- a call that accepts a link, as it waits
abbrev pub waiting_as : ℕ → AcceptSettings → CreditMode → Bool → Option ℕ → WaitingAccept
waiting_as name settings credit_mode auto_accept max =
    record { name = name; settings = settings; credit_mode = credit_mode; auto_accept = auto_accept; handle_max = max }

-- a call of that name is made; `max` is the highest handle of this end on its session
abbrev pub Calls : ℕ → LinkCall → Option ℕ → State → State → Type 0
Calls name (call.Sender session settings) max old new = new ≡ attaching_sender name session settings max (entered session old)
Calls name (call.Receiver session settings) max old new = new ≡ attaching_receiver name session settings max (entered session old)
Calls name (call.Accept session settings credit_mode auto_accept) max old new =
    new ≡ accepting session (waiting_as name settings credit_mode auto_accept max) (entered session old)
Calls name (call.Send link message) max old new = new ≡ sending_at (link_of link old) name link message old
Calls name (call.SendTimed link message timeout) max old new = new ≡ timed_sending name link message timeout old
Calls name (call.Outcome send) max old new = new ≡ outcome_for (lookup (nat_eq send) old.sends) name old
Calls name (call.Recv link) max old new = ReceivesAt (link_of link old) name link old new
Calls name (call.Dispose link disposal deliveries) max old new = new ≡ disposing name link disposal deliveries old
Calls name (call.SetCredit link credit) max old new = new ≡ crediting_at (link_of link old) name link credit old
Calls name (call.Credit link) max old new = new ≡ credit_at (link_of link old) name old
Calls name (call.Regulate link regulation) max old new = new ≡ regulating_at (link_of link old) name link regulation old
Calls name (call.Disposer link) max old new = new ≡ disposer_made (link_of link old) name link old
Calls name (call.DisposeBy disposer disposal delivery) max old new =
    new ≡ disposing_by (lookup (nat_eq disposer) old.disposers) name disposal delivery old
Calls name (call.Part link parting) max old new = new ≡ leaving_at (link_of link old) name link parting old
