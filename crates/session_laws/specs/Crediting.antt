-- Credit, from the receiver that gives it to the sender that uses it (OASIS AMQP 1.0, part 2, section 2.6.7).
use Rattle.std.specs.Prelude.{◌≡◌, ℕ, ◌<◌, List, [], ◌∷◌, ◌++◌, map, flat_map, Option, Some}
use Rattle.amqp_performatives.specs.declared.flow.Flow.{Flow}
use Rattle.amqp_link.specs.Numbers.{minus}
use Rattle.amqp_receiver.specs.Receiver.{State as Receiver}
use Rattle.amqp_sender.specs.Sender.{State as Sender}
use Rattle.amqp_session.specs.State.{State as Session, Framed}
use Rattle.session_laws.specs.Messages.{Message}
use Rattle.session_laws.specs.Sending as sending
use Rattle.session_laws.specs.Sending.{hears_flow, sent_by, Grant, AllShort}
use Rattle.session_laws.specs.Holding as session
use Rattle.session_laws.specs.Handing.{handed_over, heard}
use Rattle.session_laws.specs.Receiving as receiving
use Rattle.session_laws.specs.Settling.{IsAmong}
use Rattle.session_laws.specs.Speaking.{AreAmong, bodies, flows, flows_on, brought, spoken}
use Rattle.session_laws.specs.Giving.{written}

-- a Flow says a delivery-count and a credit
pub record IsTold (x : Flow) : Type 0 where
  pub count : ℕ
  pub credit : ℕ
  pub says_count : x.delivery_count ≡ Some count
  pub says_credit : x.link_credit ≡ Some credit

abbrev pub AreTold : List Flow → Type 0
AreTold [] = Unit {0}
AreTold (x ∷ xs) = IsTold x × AreTold xs

-- what such a Flow gives: so many deliveries behind that delivery-count
abbrev pub grants_at : Option ℕ → Option ℕ → List Grant
grants_at (Some count) (Some credit) = record { count = count; credit = credit } ∷ []
grants_at count credit = []

abbrev pub grant_in : Flow → List Grant
grant_in x = grants_at x.delivery_count x.link_credit

-- all that a receiver has given
abbrev pub granted : Receiver → List receiving.Move → List Grant
granted r ks = flat_map grant_in (flows (written r ks))

-- the delivery-counts at which messages were sent, in order
abbrev pub counts_by : Sender → sending.Move → List ℕ
counts_by s m = map (λ (x : Message). s.delivery_count) (sent_by s m)

abbrev pub counts : Sender → List sending.Move → List ℕ
counts s [] = []
counts s (m ∷ ms) = counts_by s m ++ counts (sending.after s m) ms

-- the Flows that a sender hears
abbrev pub flows_by : sending.Move → List Flow
flows_by (hears_flow x) = x ∷ []
flows_by other = []

abbrev pub flows_heard : List sending.Move → List Flow
flows_heard ms = flat_map flows_by ms

-- credit was given for a message: its delivery-count is behind that of a Flow by less than the credit there, modulo
-- 2^32 (section 2.8.10)
abbrev pub IsGranted : List Grant → ℕ → Type 0
IsGranted gave count = (g : Grant) × (IsAmong g gave × (minus count g.count < g.credit))

abbrev pub AreGranted : List Grant → List ℕ → Type 0
AreGranted gave [] = Unit {0}
AreGranted gave (n ∷ ns) = IsGranted gave n × AreGranted gave ns

-- The way of Flows from a receiver with that handle over both sessions to a sender that has no credit at first. The
-- session at the receiver takes of it what it writes; the other one hears a front of what that writes, and the
-- sender hears what its session hands over on the handle.
pub record Way (handle : ℕ) (s : Sender) (ms : List sending.Move) (t : Session) (ns : List session.Move) (u : Session) (js : List session.Move) (r : Receiver) (ks : List receiving.Move) : Type 0 where
  pub told : AreTold (flows r.link.output)
  pub orders : r.book.orders ≡ []
  pub unsaid : flows_on handle (bodies u.output) ≡ []
  pub takes : AreAmong (flows_on handle (spoken u js)) (flows (written r ks))
  pub unheard : List Framed
  pub hears : heard ns ++ unheard ≡ session.written u js
  pub unhanded : flows_on handle (brought t.incoming) ≡ []
  pub learns : AreAmong (flows_heard ms) (flows_on handle (brought (handed_over t ns)))
  pub credit : s.credit ≡ 0
  pub short : AllShort ms

-- no message is sent that the receiver has not given credit for
abbrev pub SendsWhatIsGranted : Type 0
SendsWhatIsGranted =
    (handle : ℕ) (s : Sender) (ms : List sending.Move) (t : Session) (ns : List session.Move) (u : Session)
    (js : List session.Move) (r : Receiver) (ks : List receiving.Move)
    → Way handle s ms t ns u js r ks → AreGranted (granted r ks) (counts s ms)
