-- Where nothing is in flight, an end behind the headers has taken all frames of the other.
use Rattle.std.proofs.Common.{◌≡◌, ℕ, List, [], ◌∷◌, ◌++◌, refl, sym, ap, ◌∙◌, subst, append-nil, All}
use Rattle.std.proofs.lemmas.List.{map-append}
use Rattle.std.proofs.lemmas.List.Elements.{All-head}
use Rattle.std.specs.Prelude.{map}
use Rattle.amqp_frames.specs.declared.body.FrameBody.TheVariants as b
use Rattle.amqp_transport.specs.declared.frames.Frame.{Frame}
use Rattle.amqp_transport.specs.Kinds.{amqp_spells, amqp_bytes, amqp_channel, amqp_again}
use Rattle.amqp_transport.specs.Stream.{IsPart}
use Rattle.amqp_transport.proofs.Readings.{part_not, written}
use Rattle.amqp_engine.specs.Sentence.{bytes_of_all}
use Rattle.amqp_engine.specs.State.{IsFramed, bytes_of}
use Rattle.amqp_peer.specs.Causes.{BeginsWithOpen, EndsWithClose, IsTied}
use Rattle.amqp_peer.specs.History.{Local, given_in, sent_in, read_in, wrote_in}
use Rattle.amqp_peer.specs.Rest.{OpenWaits, CloseWaits, IsAllOut, RestsBehind}
use Rattle.amqp_peer.specs.Said.{HasClose}
use Rattle.amqp_ends.specs.Quiet.{IsQuiet}
use Rattle.amqp_ends.proofs.Hearing.{stream_at, framed_behind}

-- ---- all were taken

-- a part begins with no frame, so none is left
none_left : (others : List Frame) (rest : List ℕ) → All IsFramed others → IsPart rest → rest ≡ bytes_of_all others → others ≡ []
none_left [] rest a p e = refl
none_left (y ∷ ys) rest a p e =
    absurd (part_not 0 amqp_spells (bytes_of y) (bytes_of_all ys) rest (amqp_again y) (written 0 amqp_spells amqp_bytes amqp_channel amqp_again y (All-head IsFramed y ys a)) p e)

pub all_taken : (h far : List Local) → RestsBehind h → IsAllOut far → IsTied far → read_in h ≡ wrote_in far → given_in h ≡ map amqp_again (sent_in far)
all_taken h far r s t e =
    let q = s.queued in
    let u : IsTied far = record { heard = t.heard; said = q; framed = t.framed; sized = t.sized; starts = t.starts } in
    let f = stream_at h far r.rest [] r.read u (append-nil (read_in h) ∙ e) in
    let left : r.rest ≡ bytes_of_all f.others = sym (append-nil r.rest) ∙ ap (λ (x : List ℕ). r.rest ++ x) (sym s.none) ∙ f.stream in
    let none = none_left f.others r.rest (framed_behind f.first f.others (subst (λ (xs : List Frame). All IsFramed xs) f.split t.framed)) r.part left in
    let all : sent_in far ≡ f.first = f.split ∙ ap (λ (xs : List Frame). f.first ++ xs) none ∙ append-nil f.first in
    f.items ∙ ap (λ (xs : List Frame). map amqp_again xs) (sym all)

-- ---- an Open, and a Close

open_taken : (given sent : List Frame) → BeginsWithOpen sent → given ≡ map amqp_again sent → given ≡ [] → ⊥
open_taken given sent o e n = absurd (cc (sym n ∙ e ∙ ap (λ (xs : List Frame). map amqp_again xs) o.is))

pub close_taken : (given sent : List Frame) → EndsWithClose sent → given ≡ map amqp_again sent → HasClose given
close_taken given sent c e = record {
  front = map amqp_again c.front;
  channel = c.channel;
  last = c.last;
  more = [];
  is = e ∙ ap (λ (xs : List Frame). map amqp_again xs) c.is ∙ map-append amqp_again c.front (record { channel = c.channel; body = b.Close c.last } ∷ []);
}

-- ---- behind the headers neither end waits for a frame that the other sent

pub open_waits_not : (h far : List Local) → IsQuiet h far → RestsBehind h → OpenWaits h → RestsBehind far → ⊥
open_waits_not h far q r w s = open_taken (given_in h) (sent_in far) s.opens (all_taken h far r s.out q.far_tied q.reads) (r.opening w)

pub close_waits_not : (h far : List Local) → IsQuiet h far → RestsBehind h → CloseWaits h → RestsBehind far → ⊥
close_waits_not h far q r w s = s.unclosed (close_taken (given_in far) (sent_in h) (r.closing w) (all_taken far h s r.out q.tied q.far_reads))
