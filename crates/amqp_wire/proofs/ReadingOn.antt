use Rattle.std.proofs.Common.{◌≡◌, ◌<◌, ◌+◌, ◌++◌, ℕ, List, [], ◌∷◌, length, refl, sym, ap, ◌∙◌, append_assoc, arith, inl}
use Rattle.std.proofs.lemmas.List.{append-nil}
use Rattle.amqp_wire.specs.declared.link.Link.{Ghosts}
use Rattle.amqp_wire.specs.declared.link.Stop.{Stop}
use Rattle.amqp_wire.specs.declared.reading.Wait.{Wait}
use Rattle.amqp_wire.specs.declared.reading.Wait.TheVariants.{Over, Stopped, Spent}
use Rattle.amqp_wire.specs.Codec.{Codec, limits_of}
use Rattle.amqp_wire.specs.Steps.{Gave, GaveNone}
use Rattle.amqp_wire.specs.Events.{LinkEvent, Read, NotRead, read_of, wrote_of}
use Rattle.amqp_wire.specs.Reading.{IsWaitEnd, ReadOn}
use Rattle.amqp_wire.proofs.Events.{went_then, read_of-append, wrote_of-append, reads_in-append, includes_left}

-- nothing was read
pub read_on_none : {L : Type 0} (link : Ghosts L) (a : Codec L) (left : ℕ) → ReadOn link a left Over a left
read_on_none link a left = record { events = []; went = refl; silent = refl; input = sym (append-nil a.input); output = refl; limits = refl; counted = omega arith; end = tt }

-- no read was left
pub read_on_spent : {L : Type 0} (link : Ghosts L) (a : Codec L) (left : ℕ) → left ≡ 0 → ReadOn link a left Spent a left
read_on_spent link a left e = record { events = []; went = refl; silent = refl; input = sym (append-nil a.input); output = refl; limits = refl; counted = omega arith; end = e }

-- one read gave bytes
pub read_on_more : {L : Type 0} (link : Ghosts L) (a b : Codec L) (left left' : ℕ) (bytes : List ℕ) → 0 < length bytes → b.input ≡ a.input ++ bytes → Gave link a.link bytes b.link → b ≡ record a { link = b.link; input = b.input } → left' + 1 ≡ left → ReadOn link a left Over b left'
read_on_more {L} link a b left left' bytes some i g e c =
    record { events = Read bytes ∷ []; went = (a.link, refl, (some, g)); silent = refl; input = i; output = ap (λ (k : Codec L). k.output) e; limits = ap (λ (k : Codec L). limits_of k) e; counted = omega arith; end = tt }

-- one read gave nothing
pub read_on_stop : {L : Type 0} (link : Ghosts L) (a b : Codec L) (left : ℕ) (stop : Stop) → b.input ≡ a.input → GaveNone link a.link stop b.link → b ≡ record a { link = b.link; input = b.input } → ReadOn link a left (Stopped stop) b left
read_on_stop {L} link a b left stop i g e =
    record { events = NotRead stop ∷ []; went = (a.link, refl, g); silent = refl; input = i ∙ sym (append-nil a.input); output = ap (λ (k : Codec L). k.output) e; limits = ap (λ (k : Codec L). limits_of k) e; counted = omega arith; end = inl refl }

end_later : (w : Wait) (es fs : List LinkEvent) (left : ℕ) → IsWaitEnd w fs left → IsWaitEnd w (fs ++ es) left
end_later Over es fs left p = tt
end_later (Stopped stop) es fs left p = includes_left fs es (NotRead stop) p
end_later Spent es fs left p = p

-- reads after reads
pub read_on_then : {L : Type 0} (link : Ghosts L) (a b c : Codec L) (l m n : ℕ) (v w : Wait) → ReadOn link a l v b m → ReadOn link b m w c n → ReadOn link a l w c n
read_on_then link a b c l m n v w p q =
    record {
      events = q.events ++ p.events;
      went = went_then link a.link b.link c.link p.events q.events p.went q.went;
      silent = wrote_of-append q.events p.events ∙ ap (λ (u : List ℕ). u ++ wrote_of q.events) p.silent ∙ q.silent;
      input = q.input ∙ ap (λ (u : List ℕ). u ++ read_of q.events) p.input ∙ append_assoc a.input (read_of p.events) (read_of q.events) ∙ ap (λ (u : List ℕ). a.input ++ u) (sym (read_of-append q.events p.events));
      output = q.output ∙ p.output;
      limits = q.limits ∙ p.limits;
      counted = omega (arith, reads_in-append q.events p.events, p.counted, q.counted);
      end = end_later w p.events q.events n q.end;
    }
