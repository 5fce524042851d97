-- What an end hears is what the other end says.
use Rattle.std.proofs.Common.{◌≡◌, inl, inr, ℕ, List, [], ◌∷◌, ◌++◌, refl, sym, ap, ◌∙◌, append_assoc, All}
use Rattle.std.proofs.lemmas.List.Elements.{All-tail}
use Rattle.amqp_transport.specs.declared.frames.Frame.{Frame}
use Rattle.amqp_wire.specs.Events.{read_of}
use Rattle.amqp_wire.proofs.Events.{read_of-append}
use Rattle.amqp_engine.specs.State.{IsFramed}
use Rattle.amqp_peer.specs.Causes.{has_layer, IsReadTo, IsTied}
use Rattle.amqp_peer.specs.History.{Local, made_in, link_in, given_in, sent_in, read_in, wrote_in}
use Rattle.amqp_peer.proofs.Histories.{link_in-append}
use Rattle.amqp_ends.specs.Joined.{Hears}
use Rattle.amqp_ends.proofs.Conversations.{AreFirstFrames, heard_first}

-- of the bytes that an end read, those behind its frames begin the frames that the other queued and it has not taken
pub stream_at : (h far : List Local) (rest left : List ℕ) → IsReadTo h rest → (t : IsTied far) → read_in h ++ left ≡ wrote_in far → AreFirstFrames (given_in h) (sent_in far) (rest ++ (left ++ t.said.out))
stream_at h far rest left r t e =
    let q = t.said in
    heard_first (has_layer (made_in h)) (has_layer (made_in far)) r.head q.head r.behind (left ++ q.out) q.tail rest (given_in h) (sent_in far) r.layer q.layer q.talk t.framed r.joined
    (ap (λ (u : List ℕ). u ++ (left ++ q.out)) (sym r.read) ∙ sym (append_assoc (read_in h) left q.out) ∙ ap (λ (u : List ℕ). u ++ q.out) e ∙ q.wrote)

pub hears : (h far : List Local) (left : List ℕ) → IsTied h → IsTied far → read_in h ++ left ≡ wrote_in far → Hears (given_in h) (sent_in far)
hears h far left t u e = elim t.heard [
  | inl n ↦ record { first = []; others = sent_in far; split = refl; items = n }
  | inr (rest, r) ↦ let f = stream_at h far rest left r u e in record { first = f.first; others = f.others; split = f.split; items = f.items }
]

-- what was read before is the front of what was read
pub read_before : (later h : List Local) (left : List ℕ) (all : List ℕ) → read_in (later ++ h) ++ left ≡ all → read_in h ++ (read_in later ++ left) ≡ all
read_before later h left all e =
    sym (append_assoc (read_in h) (read_in later) left) ∙ ap (λ (u : List ℕ). u ++ left) (sym (ap read_of (link_in-append later h) ∙ read_of-append (link_in later) (link_in h))) ∙ e

pub framed_behind : (first others : List Frame) → All IsFramed (first ++ others) → All IsFramed others
framed_behind [] others a = a
framed_behind (y ∷ ys) others a = framed_behind ys others (All-tail IsFramed y (ys ++ others) a)
