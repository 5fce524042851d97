-- Credit, from the receiver that gives it to the sender that uses it, where of the frames that its session hears no
-- more is known than the Flows of the link (OASIS AMQP 1.0, part 2, section 2.6.7).
use Rattle.std.specs.Prelude.{◌≡◌, ◌⊎◌, ℕ, List, []}
use Rattle.amqp_receiver.specs.Receiver.{State as Receiver}
use Rattle.amqp_sender.specs.Sender.{State as Sender}
use Rattle.amqp_session.specs.State.{State as Session}
use Rattle.session_laws.specs.Sending as sending
use Rattle.session_laws.specs.Sending.{Grant, granted_all, Keeps, AllShort}
use Rattle.session_laws.specs.Holding as session
use Rattle.session_laws.specs.Handing.{handed_over, heard}
use Rattle.session_laws.specs.Receiving as receiving
use Rattle.session_laws.specs.Settling.{IsAmong}
use Rattle.session_laws.specs.Speaking.{AreAmong, bodies, flows, flows_on, brought, spoken}
use Rattle.session_laws.specs.Giving.{written}
use Rattle.session_laws.specs.Crediting.{AreTold, granted, counts, flows_heard, AreGranted}

-- The way of Flows as `Way` of session_laws has it, but that of what the session at the sender hears only this is
-- asked: each Flow on the handle is one that the session at the receiver has written.
pub record Way (handle : ℕ) (s : Sender) (ms : List sending.Move) (t : Session) (ns : List session.Move) (u : Session)
    (js : List session.Move) (r : Receiver) (ks : List receiving.Move) : Type 0 where
  pub told : AreTold (flows r.link.output)
  pub orders : r.book.orders ≡ []
  pub unsaid : flows_on handle (bodies u.output) ≡ []
  pub takes : AreAmong (flows_on handle (spoken u js)) (flows (written r ks))
  pub hears : AreAmong (flows_on handle (bodies (heard ns))) (flows_on handle (bodies (session.written u js)))
  pub unhanded : flows_on handle (brought t.incoming) ≡ []
  pub learns : AreAmong (flows_heard ms) (flows_on handle (brought (handed_over t ns)))
  pub credit : s.credit ≡ 0
  pub short : AllShort ms

-- nothing was given
abbrev pub no_grant : Grant
no_grant = record { count = 0; credit = 0 }

-- Each message was sent for credit that the receiver has given. The last Flow that counts at the sender is one that
-- the receiver has written, with its delivery-count and its link-credit, or it gave nothing; and the credit that
-- the sender has is what that gave, less what was sent since.
pub record Credited (s : Sender) (ms : List sending.Move) (gave : List Grant) : Type 0 where
  pub sent : AreGranted gave (counts s ms)
  pub last : ((granted_all s ms no_grant).credit ≡ 0) ⊎ IsAmong (granted_all s ms no_grant) gave
  pub keeps : Keeps (granted_all s ms no_grant) (sending.after_all s ms)

abbrev pub CreditIsGranted : Type 0
CreditIsGranted =
    (handle : ℕ) (s : Sender) (ms : List sending.Move) (t : Session) (ns : List session.Move) (u : Session)
    (js : List session.Move) (r : Receiver) (ks : List receiving.Move)
    → Way handle s ms t ns u js r ks → Credited s ms (granted r ks)
