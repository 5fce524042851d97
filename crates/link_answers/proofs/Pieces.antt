-- The parts of a Transfer of a link: what is cut off one and what is left of it are parts of the same.
use Rattle.std.proofs.Common.{◌≡◌, inl, inr, ◌∙◌, ap, subst, refl, sym, append_assoc, ℕ, Bool, true, false, List, [], ◌++◌, take, drop, length, All, Option, Some, None, if◌then◌else◌}
use Rattle.std.proofs.lemmas.List.{append-nil, take-append-drop}
use Rattle.std.proofs.lemmas.List.Elements.{All-cons}
use Rattle.amqp_frames.specs.declared.body.FrameBody.{FrameBody}
use Rattle.amqp_frames.specs.declared.body.FrameBody.TheVariants as b
use Rattle.amqp_parts.specs.Cut.{cut_length, cut_at, cut_of}
use Rattle.amqp_parts.specs.declared.part.Part.{Part}
use Rattle.amqp_parts.specs.declared.splitting.Cut.{Cut}
use Rattle.amqp_parts.specs.Split.{saying_more, saying_last, continuation}
use Rattle.amqp_performatives.specs.declared.transfer.Transfer.{Transfer}
use Rattle.amqp_session.specs.Hold.{begins, numbered, kept}
use Rattle.link_answers.specs.Coming.{IsPart, IsPiece}

-- a Transfer is a part of itself
pub part_itself : (x : Transfer) → IsPart x x
part_itself x = inl refl

-- whatever it says of more
part_more : (x whole : Transfer) → IsPart x whole → IsPart (saying_more x) whole
part_more x whole (inl e) = inl (ap saying_more e)
part_more x whole (inr e) = inr (ap saying_more e)

part_last : (x whole : Transfer) → IsPart x whole → IsPart (saying_last x) whole
part_last x whole (inl e) = inl (ap saying_last e)
part_last x whole (inr e) = inr (ap saying_last e)

-- and with a number, where it begins a delivery
abbrev with_number : ℕ → Transfer → Transfer
with_number n x = record x { delivery_id = Some n }

begins_none : (x whole : Transfer) → begins x ≡ true → x ≡ record (continuation whole.handle) { more = x.more } → ⊥
begins_none x whole t e = (let tag : begins x ≡ false = ap begins e in cc)

part_numbered : (n : ℕ) (x whole : Transfer) → IsPart x whole → IsPart (numbered n x) whole
part_numbered n x whole h = by (begins x) refl h
  where
    by : (c : Bool) → begins x ≡ c → IsPart x whole → IsPart (if c then with_number n x else x) whole
    by true t (inl e) = inl (ap (with_number n) e)
    by true t (inr e) = absurd (begins_none x whole t e)
    by false t k = k

-- what goes on with it names its link
part_rest : (x whole : Transfer) → IsPart x whole → IsPart (continuation x.handle) whole
part_rest x whole (inl e) = inr (ap (λ (y : Transfer). continuation y.handle) e)
part_rest x whole (inr e) = inr (ap (λ (y : Transfer). continuation y.handle) e)

module _ (Is : FrameBody → Type 0) where
  abbrev pub PieceStands : Part → Type 0
  PieceStands x = IsPiece Is x.transfer x.payload

  -- what links give is a piece of itself
  pub piece_itself : (x : Transfer) (payload : List ℕ) → Is (b.Transfer x payload) → IsPiece Is x payload
  piece_itself x payload h = record {
    whole = x;
    before = [];
    later = [];
    is = subst (λ (bytes : List ℕ). Is (b.Transfer x bytes)) (sym (append-nil payload)) h;
    part = part_itself x;
  }

  -- with other words on the same delivery
  piece_said : (x y : Transfer) (payload : List ℕ) → ((whole : Transfer) → IsPart x whole → IsPart y whole) → IsPiece Is x payload → IsPiece Is y payload
  piece_said x y payload f k = record { whole = k.whole; before = k.before; later = k.later; is = k.is; part = f k.whole k.part }

  -- the first bytes, and those behind them
  piece_front : (x : Transfer) (front rest : List ℕ) → IsPiece Is x (front ++ rest) → IsPiece Is x front
  piece_front x front rest k = record {
    whole = k.whole;
    before = k.before;
    later = rest ++ k.later;
    is = subst (λ (bytes : List ℕ). Is (b.Transfer k.whole (k.before ++ bytes))) (append_assoc front rest k.later) k.is;
    part = k.part;
  }

  piece_rest : (x : Transfer) (front rest : List ℕ) → IsPiece Is x (front ++ rest) → IsPiece Is x rest
  piece_rest x front rest k = record {
    whole = k.whole;
    before = k.before ++ front;
    later = k.later;
    is = subst (λ (bytes : List ℕ). Is (b.Transfer k.whole bytes)) (ap (λ (bytes : List ℕ). k.before ++ bytes) (append_assoc front rest k.later) ∙ sym (append_assoc k.before front (rest ++ k.later))) k.is;
    part = k.part;
  }

  piece_split : (n : ℕ) (x : Transfer) (payload : List ℕ) → IsPiece Is x payload → IsPiece Is x (take n payload ++ drop n payload)
  piece_split n x payload k = subst (IsPiece Is x) (sym (take-append-drop n payload)) k

  -- what waits, with what is left in front of it
  pub keeps : (o : Option Part) (xs : List Part) → ((x : Part) → o ≡ Some x → PieceStands x) → All PieceStands xs → All PieceStands (kept o xs)
  keeps None xs f h = h
  keeps (Some x) xs f h = All-cons PieceStands x xs (f x refl) h

  -- what is cut off, and what is left
  pub record Cuts (c : Cut) : Type 0 where
    pub first : PieceStands c.first
    pub rest : (x : Part) → c.rest ≡ Some x → PieceStands x

  cuts_at : (o : Option ℕ) (x : Transfer) (payload : List ℕ) → IsPiece Is x payload → Cuts (cut_at o x payload)
  cuts_at None x payload k = record { first = piece_said x (saying_last x) payload (part_last x) k; rest = λ y e. absurd cc }
  cuts_at (Some n) x payload k =
      let whole : IsPiece Is x (take n payload ++ drop n payload) = piece_split n x payload k in
      let left : IsPiece Is (continuation x.handle) (drop n payload) = piece_said x (continuation x.handle) (drop n payload) (part_rest x) (piece_rest x (take n payload) (drop n payload) whole) in
      let rest : Part = record { transfer = continuation x.handle; payload = drop n payload } in
      record {
        first = piece_said x (saying_more x) (take n payload) (part_more x) (piece_front x (take n payload) (drop n payload) whole);
        rest = λ y e. (let same : rest ≡ y = cc in subst PieceStands same left);
      }

  pub cuts : (frame n : ℕ) (x : Part) → PieceStands x → Cuts (cut_of frame (numbered n x.transfer) x.payload)
  unfolding cut_of
  cuts frame n x k =
      let y : Transfer = numbered n x.transfer in
      cuts_at (cut_length frame y (length x.payload)) y x.payload (piece_said x.transfer y x.payload (part_numbered n x.transfer) k)
