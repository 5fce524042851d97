-- What every gate has in common.
use Rattle.std.proofs.Common.{◌≡◌, ℕ, List, [], ◌++◌, sym, ap, ◌∙◌, subst}
use Rattle.std.proofs.lemmas.List.{append-nil}
use Rattle.std.proofs.lemmas.List.Elements.{All-nil}
use Rattle.sasl_exchange.specs.amqp_sasl_bodies.declared.sasl_body.SaslBody.{SaslBody}
use Rattle.amqp_wire.specs.Codec.{Codec}
use Rattle.amqp_wire.specs.Events.{LinkEvent, read_of, wrote_of}
use Rattle.sasl_exchange.specs.declared.exchange.Exchange.{Ghosts as Mechanism}
use Rattle.sasl_exchange.specs.declared.exchange.Turn.TheVariants.{Pass}
use Rattle.sasl_gate.specs.declared.gate.negotiation.Phase.{Phase}
use Rattle.sasl_gate.specs.declared.gate.negotiation.Phase.TheVariants.{Header, Frames, Failed}
use Rattle.sasl_gate.specs.Frames.{sasl_header, HasSaslFrame, Heard, said, IsOnlySasl}
use Rattle.sasl_gate.specs.Gates.{started}
use Rattle.sasl_gate.specs.Negotiation.{Negotiating, HasFrames, HasIn, Has, IsPassed}

only_sasl_in : {L X : Type 0} (m : Mechanism X) (p : Phase) (n : Negotiating L X) (events : List LinkEvent) → HasIn m p n events → IsOnlySasl (wrote_of events)
only_sasl_in m Header n events h = record { bodies = []; rest = n.codec.output; frames = h.wrote; framed = All-nil HasSaslFrame }
only_sasl_in m Frames n events h = record { bodies = h.sent; rest = n.codec.output; frames = h.wrote; framed = h.framed }
only_sasl_in m (Failed e) n events h = record { bodies = h.sent; rest = n.codec.output; frames = h.wrote; framed = h.framed }

-- a negotiation writes nothing but SASL
pub only_sasl : {L X : Type 0} (m : Mechanism X) (n : Negotiating L X) (events : List LinkEvent) → Has m n events → IsOnlySasl (wrote_of events)
only_sasl m n events h = only_sasl_in m n.phase n events h

-- an exchange that has passed: its bodies were read, and then a rest, and its bodies were written
pub record Whole {X : Type 0} (m : Mechanism X) (x : X) (rest wrote read : List ℕ) : Type 0 where
  pub given : List SaslBody
  pub sent : List SaslBody
  pub heard : Heard read given rest
  pub wrote_is : wrote ≡ said sent
  pub held : m.holds x given sent
  pub turn : m.turn_of x ≡ Pass

-- that of a negotiation
pub passed_whole : {L X : Type 0} (m : Mechanism X) (n : Negotiating L X) (events : List LinkEvent) → Has m n events → IsPassed m n
    → Whole m n.exchange n.codec.input (wrote_of events) (read_of events)
passed_whole m n events h passed =
    let f : HasFrames m n events = subst (λ (p : Phase). HasIn m p n events) passed.phase h in
    record {
      given = f.given;
      sent = f.sent;
      heard = f.heard;
      wrote_is = sym (append-nil (wrote_of events)) ∙ ap (λ (u : List ℕ). wrote_of events ++ u) (sym passed.flushed) ∙ f.wrote;
      held = f.held;
      turn = passed.turn;
    }

-- a negotiation that begins over a codec with nothing read and nothing queued has the empty history
pub begins : {L X : Type 0} (m : Mechanism X) (codec : Codec L) (x : X) → codec.input ≡ [] → codec.output ≡ [] → m.holds x [] [] → Has m (started codec x) []
begins m codec x input output held = record { read = sym input; wrote = ap (λ (u : List ℕ). u ++ sasl_header) output; held = held }
