-- The way back of Dispositions, where of the frames that the sender's session hears no more is known than the
-- Dispositions of receivers (OASIS AMQP 1.0, part 2, section 2.6.12).
use Rattle.std.specs.Prelude.{◌≡◌, ℕ, List, [], ◌∷◌}
use Rattle.amqp_receiver.specs.Receiver.{State as Receiver}
use Rattle.amqp_sender.specs.Sender.{State as Sender}
use Rattle.amqp_session.specs.State.{State as Session}
use Rattle.session_laws.specs.Sending as sending
use Rattle.session_laws.specs.Sending.{sent}
use Rattle.session_laws.specs.Holding as session
use Rattle.session_laws.specs.Handing.{handed_over, heard}
use Rattle.session_laws.specs.Receiving as receiving
use Rattle.session_laws.specs.Speaking.{AreAmong, bodies, rulings, brought, spoken}
use Rattle.session_laws.specs.Numbering.{Step, inputs_of, AreShort, told, news}
use Rattle.session_laws.specs.Laws.{Path}
use Rattle.session_laws.specs.Outcomes.{Life, given_by, written_by, AreSilent, lefts, AreApart, Told}

-- The way back as `Back` of session_laws has it, but that of what the sender's session hears only this is asked: each
-- Disposition of a receiver is one that the session at the receivers has written.
pub record Back (handle : ℕ) (s : Sender) (ms : List sending.Move) (t : Session) (ns : List session.Move) (u : Session)
    (js : List session.Move) (lives : List Life) : Type 0 where
  pub silent : AreSilent lives
  pub unsaid : rulings (bodies u.output) ≡ []
  pub takes : AreAmong (rulings (spoken u js)) (rulings (written_by lives))
  pub hears : AreAmong (rulings (bodies (heard ns))) (rulings (bodies (session.written u js)))
  pub unhanded : rulings (brought t.incoming) ≡ []
  pub unleft : lefts t.incoming ≡ []
  pub steps : List Step
  pub reads : AreAmong (inputs_of steps) (handed_over t ns)
  pub short : AreShort steps
  pub learns : AreAmong (news ms) (told handle [] steps)
  pub unsettled : s.unsettled ≡ []
  pub unknown : s.settlements ≡ []
  pub apart : AreApart (sent s ms)

-- An outcome that is told is one that the other end gave for that message. The session at the receivers may be seen in
-- two ways, as it hears the Transfers and as it writes the Dispositions.
abbrev pub OutcomesReturn : Type 0
OutcomesReturn =
    (handle : ℕ) (s : Sender) (ms : List sending.Move) (t : Session) (ns : List session.Move) (u : Session)
    (js is : List session.Move) (r : Receiver) (ks : List receiving.Move) (others : List Life)
    → Path handle s ms t ns u js r ks
    → Back handle s ms t ns u is (record { receiver = r; moves = ks } ∷ others)
    → Told s ms r ks (given_by (record { receiver = r; moves = ks } ∷ others))
