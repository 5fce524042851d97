-- No frame that one end wrote is refused for its size by the other.
use Rattle.std.proofs.Common.{◌≡◌, ◌≤◌, inl, inr, ℕ, List, [], ◌∷◌, ◌++◌, length, max, Option, Some, refl, sym, ap, ◌∙◌, subst, arith, All}
use Rattle.std.specs.Prelude.{map}
use Rattle.amqp_transport.specs.declared.frames.Frame.{Frame}
use Rattle.amqp_transport.specs.Kinds.{amqp_again}
use Rattle.amqp_engine.specs.Sentence.{AllWithin, read_limit, read_limit_by, write_limit, write_limit_by}
use Rattle.amqp_engine.specs.State.{open_frame, close_frame, IsFramed}
use Rattle.amqp_peer.specs.amqp_words.declared.call.Call.{Call}
use Rattle.amqp_peer.specs.declared.prepared.Prepared.{Prepared}
use Rattle.amqp_peer.specs.Causes.{prepared_in, largest_of, IsRefusedAt, StartsWithin}
use Rattle.amqp_peer.specs.History.{Local, made_in, given_in, sent_in, read_in, wrote_in, Once}
use Rattle.amqp_peer.specs.Said.{IsSaidFor, HasSaid}
use Rattle.amqp_peer.proofs.Histories.{made_in-append}
use Rattle.amqp_ends.specs.Joined.{Hears, Meets}
use Rattle.amqp_ends.proofs.Hearing.{stream_at, hears, read_before, framed_behind}
use Rattle.amqp_ends.proofs.Rests.{refused_not}

-- ---- what an end says begins with its Open

-- nothing, or the Open that the first call asks for
pub data OpensSo (p : Option Prepared) (sent : List Frame) : Type 0 where
  silent : sent ≡ [] → OpensSo p sent
  begun : (own : Prepared) (more : List Frame) → p ≡ Some own → sent ≡ open_frame own.end ∷ more → OpensSo p sent

opens_so : (p : Option Prepared) (calls : List (ℕ × Call)) (given sent : List Frame) → IsSaidFor p calls given sent → OpensSo p sent
opens_so p calls given sent (inl e) = silent e
opens_so p calls given sent (inr (inl s)) = begun s.own s.more s.is_own s.is
opens_so p calls given sent (inr (inr (front, error, s, e, cause))) = begun s.own (s.more ++ close_frame error ∷ []) s.is_own (e ∙ ap (λ (xs : List Frame). xs ++ close_frame error ∷ []) s.is)

opens : (h : List Local) → HasSaid h → OpensSo (prepared_in (made_in h)) (sent_in h)
opens h s = opens_so (prepared_in (made_in h)) (made_in h) (given_in h) (sent_in h) s

-- ---- the first call stays the first

prepared_below : (cs ds : List (ℕ × Call)) → 1 ≤ length ds → prepared_in (cs ++ ds) ≡ prepared_in ds
prepared_below [] ds l = refl
prepared_below (c ∷ []) [] l = absurd (omega (arith, l))
prepared_below (c ∷ []) (d ∷ ds) l = refl
prepared_below (c ∷ d ∷ cs) ds l = prepared_below (d ∷ cs) ds l

prepared_before : (later h : List Local) → 1 ≤ length (made_in h) → prepared_in (made_in (later ++ h)) ≡ prepared_in (made_in h)
prepared_before later h l = ap prepared_in (made_in-append later h) ∙ prepared_below (made_in later) (made_in h) l

-- ---- limits

-- what the other may write is at most what this end reads once it has read the Open of the other
limit_by : (p : Option Prepared) (sent given first others : List Frame) → OpensSo p sent → sent ≡ first ++ others → given ≡ map amqp_again first → write_limit given ≤ max 512 (largest_of p)
limit_by p sent given [] others o split items = omega (arith, ap write_limit items)
limit_by p sent given (y ∷ ys) others (silent n) split items = absurd (cc (sym n ∙ split))
limit_by p sent given (y ∷ ys) others (begun own more is_own is) split items =
    let opening : open_frame own.end ≡ y = cc (sym is ∙ split) in
    omega (arith, ap largest_of is_own, ap write_limit items ∙ ap (λ (z : Frame). write_limit_by (amqp_again z).body) (sym opening))

within_others : (limit limit' : ℕ) (first others : List Frame) → limit ≤ limit' → AllWithin limit (first ++ others) → StartsWithin limit' others
within_others limit limit' [] [] l a = tt
within_others limit limit' [] (y ∷ ys) l a = omega (arith, l, a.0)
within_others limit limit' (x ∷ first) others l a = within_others limit limit' first others l a.1

-- of the frames that the other said, the first that an end has not taken is one that it may read
may_read : (p q : Option Prepared) (sent given far_sent far_given first others : List Frame) → OpensSo p sent → Hears far_given sent → OpensSo q far_sent → AllWithin (write_limit far_given) far_sent → StartsWithin 512 far_sent
    → far_sent ≡ first ++ others → given ≡ map amqp_again first → StartsWithin (read_limit (largest_of p) given) others
may_read p q sent given far_sent far_given [] others o s o' a w split items =
    subst (λ (xs : List Frame). StartsWithin (read_limit (largest_of p) xs) others) (sym items) (subst (StartsWithin 512) split w)
may_read p q sent given far_sent far_given (y ∷ ys) others o s (silent n) a w split items = absurd (cc (sym n ∙ split))
may_read p q sent given far_sent far_given (y ∷ ys) others o s (begun own more is_own is) a w split items =
    let opening : open_frame own.end ≡ y = cc (sym is ∙ split) in
    let limit : read_limit (largest_of p) given ≡ max 512 (largest_of p) = ap (read_limit (largest_of p)) items ∙ ap (λ (z : Frame). read_limit_by (largest_of p) (amqp_again z).body) (sym opening) in
    let least = limit_by p sent far_given s.first s.others o s.split s.items in
    within_others (write_limit far_given) (read_limit (largest_of p) given) (y ∷ ys) others (omega (arith, least, limit)) (subst (AllWithin (write_limit far_given)) split a)

-- ---- no frame is refused

refused_so : (later h far : List Local) → Meets (later ++ h) far → Meets far (later ++ h) → IsRefusedAt h → ⊥
refused_so later h far m n c =
    let left = read_in later ++ m.left in
    let f = stream_at h far c.rest left c.read m.far_tied (read_before later h m.left (wrote_in far) m.reads) in
    let framed : All IsFramed f.others = framed_behind f.first f.others (subst (λ (xs : List Frame). All IsFramed xs) f.split m.far_tied.framed) in
    let p : Option Prepared = prepared_in (made_in (later ++ h)) in
    let limit : c.limit ≡ read_limit (largest_of p) (given_in h) = c.is_limit ∙ ap (λ (o : Option Prepared). read_limit (largest_of o) (given_in h)) (sym (prepared_before later h c.called)) in
    let reads : StartsWithin (read_limit (largest_of p) (given_in h)) f.others =
    may_read p (prepared_in (made_in far)) (sent_in (later ++ h)) (given_in h) (sent_in far) (given_in far) f.first f.others (opens (later ++ h) n.far_said) (hears far (later ++ h) n.left n.tied n.far_tied n.reads)
    (opens far m.far_said) m.far_tied.sized m.far_tied.starts f.split f.items in
    refused_not c.rest (left ++ m.far_tied.said.out) c.limit f.others framed (subst (λ (k : ℕ). StartsWithin k f.others) (sym limit) reads) f.stream c.refused

pub never_refused : (h far : List Local) → Meets h far → Meets far h → Once IsRefusedAt h → ⊥
never_refused h far m n o =
    let m' : Meets (o.later ++ o.earlier) far = subst (λ (g : List Local). Meets g far) o.split m in
    let n' : Meets far (o.later ++ o.earlier) = subst (Meets far) o.split n in
    refused_so o.later o.earlier far m' n' o.held
