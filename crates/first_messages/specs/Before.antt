-- A session and a sender before the first message of a link (OASIS AMQP 1.0, part 2, sections 2.6.2 and 2.6.12).
use Rattle.std.specs.Prelude.{◌≡◌, ℕ, List, []}
use Rattle.amqp_sender.specs.Sender.{State as Sender}
use Rattle.amqp_session.specs.State.{State as Session}
use Rattle.session_laws.specs.Handing.{inputs, heard, handed_over}
use Rattle.session_laws.specs.Holding as session
use Rattle.session_laws.specs.Holding.{told}
use Rattle.session_laws.specs.Messages.{transfers, on}
use Rattle.session_laws.specs.Sending as sending

-- a session holds no Transfer on the handle, and is to write none
pub record HasNone (handle : ℕ) (s : Session) : Type 0 where
  pub held : on handle s.held ≡ []
  pub output : on handle (session.transfers s.output) ≡ []

-- it has written none, and so it is still
pub record SaidNone (handle : ℕ) (s : Session) (ms : List session.Move) : Type 0 where
  pub behind : HasNone handle (session.after_all s ms)
  pub written : on handle (session.transfers (session.written s ms)) ≡ []

-- whatever it goes through, as long as it takes none of its links
abbrev pub SaysNone : Type 0
SaysNone =
    (handle : ℕ) (s : Session) (ms : List session.Move) → on handle (told s ms) ≡ [] → HasNone handle s
    → SaidNone handle s ms

-- as long as it hears none, a session that has none for its links hands none over
abbrev pub HandsNone : Type 0
HandsNone =
    (handle : ℕ) (s : Session) (ms : List session.Move) → on handle (session.transfers (heard ms)) ≡ []
    → on handle (inputs s.incoming) ≡ [] → on handle (inputs (handed_over s ms)) ≡ []

-- a sender knew of no message, it has sent none, and has written no Transfer
pub record SentNone (s : Sender) (ms : List sending.Move) : Type 0 where
  pub knew : s.settlements ≡ []
  pub sent : sending.sent s ms ≡ []
  pub written : transfers s.link.output ≡ [] → transfers (sending.written s ms) ≡ []

-- a sender keeps what becomes of each message that it has sent: one that knows of none has sent none
abbrev pub UnsentWritesNone : Type 0
UnsentWritesNone =
    (s : Sender) (ms : List sending.Move) → (sending.after_all s ms).settlements ≡ [] → SentNone s ms
