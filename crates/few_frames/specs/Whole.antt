-- How many frames two ends write that have one link (OASIS AMQP 1.0, part 2, sections 2.5 and 2.6).
use Rattle.std.specs.Prelude.{◌≡◌, ℕ, ◌+◌, ◌*◌, ◌≤◌, List, [], ◌∷◌, ◌++◌, length, map}
use Rattle.amqp_frames.specs.declared.body.FrameBody.{FrameBody}
use Rattle.amqp_link.specs.Link.{body_of}
use Rattle.amqp_receiver.specs.Receiver.{State as Receiver}
use Rattle.amqp_sender.specs.Sender.{State as Sender}
use Rattle.session_laws.specs.Giving as receiver
use Rattle.session_laws.specs.Holding.{Move, tells}
use Rattle.session_laws.specs.Messages.{part_of, transfers}
use Rattle.session_laws.specs.Receiving as receiving
use Rattle.session_laws.specs.Sending as sending
use Rattle.session_laws.specs.Sending.{sent, written}
use Rattle.window_laws.specs.Keeping.{Hear}
use Rattle.window_laws.specs.Starting.{Start, writes}
use Rattle.few_frames.specs.Both.{half}
use Rattle.few_frames.specs.Ends.{HearsFlows, at_first, sends_in}
use Rattle.few_frames.specs.Kinds.{AskNone, MovesNone, Each, all_pieces}
use Rattle.few_frames.specs.Receivers.{drains_in}
use Rattle.few_frames.specs.Receivers as of_receiver
use Rattle.few_frames.specs.Senders as of_sender

-- the frames that links tell a session
abbrev pub said_by : Move → List FrameBody
said_by (tells x) = body_of x ∷ []
said_by other = []

abbrev pub said : List Move → List FrameBody
said [] = []
said (m ∷ ms) = said_by m ++ said ms

-- A sender on a session, and a receiver on the session at the other end. Each session has read a front of what the
-- other has written, and is told a front of what its link writes and nothing else; the sender has heard a front of
-- the Flows of the receiver.
pub record Pair (s : Sender) (ms : List sending.Move) (t : Start) (ns : List Move) (u : Start) (js : List Move) (r : Receiver) (ks : List receiving.Move) : Type 0 where
  pub sessions : Hear t ns u js
  pub untold : List FrameBody
  pub tells : said ns ++ untold ≡ written s ms
  pub other_untold : List FrameBody
  pub other_tells : said js ++ other_untold ≡ receiver.written r ks
  pub flows : HearsFlows s ms r ks
  pub due : of_sender.AllDue s ms
  pub other_due : of_receiver.AllDue r ks
  pub asks : AskNone s.link.output
  pub other_asks : AskNone r.link.output
  pub moves : Each MovesNone r.link.output

-- the bytes of the messages that were sent, one that has none counted as one, and of those to be written at first
abbrev pub bytes_in : Sender → List sending.Move → ℕ
bytes_in s ms = all_pieces (transfers s.link.output) + all_pieces (map part_of (sent s ms))

-- Both sessions have written no more frames than the calls at both links ask for, the bytes of the messages, a Begin
-- and an End each, and reports; and half of the receiver's window for each report is no more than those bytes.
pub record PairFew (s : Sender) (ms : List sending.Move) (t : Start) (ns : List Move) (u : Start) (js : List Move) (r : Receiver) (ks : List receiving.Move) : Type 0 where
  pub reports : ℕ
  pub due : half u * reports ≤ bytes_in s ms
  pub few : length (writes t ns) + length (writes u js) ≤
      4 + at_first s r + (sends_in ms + sends_in ms) + (of_receiver.total ks + drains_in ks) + bytes_in s ms + reports

abbrev pub PairWritesFew : Type 0
PairWritesFew =
    (s : Sender) (ms : List sending.Move) (t : Start) (ns : List Move) (u : Start) (js : List Move) (r : Receiver)
    (ks : List receiving.Move) → Pair s ms t ns u js r ks → PairFew s ms t ns u js r ks
