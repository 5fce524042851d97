-- How many frames both ends of a link write (OASIS AMQP 1.0, part 2, section 2.6).
use Rattle.std.specs.Prelude.{◌≡◌, ℕ, ◌+◌, ◌≤◌, Bool, List, [], ◌∷◌, ◌++◌, length, map, Option}
use Rattle.amqp_performatives.specs.declared.flow.Flow.{Flow}
use Rattle.amqp_receiver.specs.Receiver.{State as Receiver}
use Rattle.amqp_sender.specs.Sender.{State as Sender}
use Rattle.session_laws.specs.Crediting.{flows_heard}
use Rattle.session_laws.specs.Giving as receiver
use Rattle.session_laws.specs.Receiving as receiving
use Rattle.session_laws.specs.Sending as sending
use Rattle.session_laws.specs.Sending.{sends, written}
use Rattle.session_laws.specs.Speaking.{flows}
use Rattle.few_frames.specs.Kinds.{count}
use Rattle.few_frames.specs.Links.{may_write}
use Rattle.few_frames.specs.Receivers.{drain_in, drains_in, left}
use Rattle.few_frames.specs.Receivers as of_receiver
use Rattle.few_frames.specs.Senders as of_sender

-- what a Flow says of its link, beside the state of its session
pub record Credit : Type 0 where
  pub delivery_count : Option ℕ
  pub link_credit : Option ℕ
  pub drain : Bool

abbrev pub credit_in : Flow → Credit
credit_in x = record { delivery_count = x.delivery_count; link_credit = x.link_credit; drain = x.drain }

-- the sender has heard a front of the Flows that the receiver has written
pub record HearsFlows (s : Sender) (ms : List sending.Move) (r : Receiver) (ks : List receiving.Move) : Type 0 where
  pub unheard : List Credit
  pub hears : map credit_in (flows_heard ms) ++ unheard ≡ map credit_in (flows (receiver.written r ks))

-- the calls that send
abbrev pub sends_by : sending.Move → ℕ
sends_by (sends payload format settled batchable) = 1
sends_by other = 0

abbrev pub sends_in : List sending.Move → ℕ
sends_in [] = 0
sends_in (m ∷ ms) = sends_by m + sends_in ms

-- what both may write at first, without a call
abbrev pub at_first : Sender → Receiver → ℕ
at_first s r =
    length s.link.output + may_write s.link.phase + length s.unsettled
    + (length r.link.output + left r + count drain_in r.link.output)

-- Both ends of a link write no more frames than their calls ask for: two for each message, what the receiver's calls
-- may write, and one for each call that drains; and what both may write at first.
abbrev pub EndsWriteFew : Type 0
EndsWriteFew =
    (s : Sender) (ms : List sending.Move) (r : Receiver) (ks : List receiving.Move) → of_sender.AllDue s ms
    → of_receiver.AllDue r ks → HearsFlows s ms r ks
    → length (written s ms) + length (receiver.written r ks) ≤
    at_first s r + (sends_in ms + sends_in ms) + (of_receiver.total ks + drains_in ks)
