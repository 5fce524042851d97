-- At every moment each of two ends has written the first of what it writes.
use Rattle.std.specs.Prelude.{◌≡◌, Bool, true, false, is_some, List, [], ◌∷◌, ◌++◌, ◌⊎◌, Option, refl}
use Rattle.std.proofs.Common.{sym, ◌∙◌, ap, subst, inl, inr}
use Rattle.std.proofs.lemmas.List.{append-nil}
use Rattle.amqp_composites.specs.declared.error.Error.{Error as AmqpError}
use Rattle.amqp_link.specs.amqp_frames.declared.body.FrameBody.{FrameBody}
use Rattle.amqp_link.specs.declared.endpoint.DetachPoll.TheVariants.{Pending}
use Rattle.amqp_link.specs.Link.{Link, agree}
use Rattle.amqp_link.specs.Parting.{parted_poll}
use Rattle.crossing_laws.specs.Ends.{Anew, Asked, OnTheWay, reads}
use Rattle.crossing_laws.specs.Agreement.{has_unsettled, told, written_for, written}
use Rattle.crossing_laws.specs.Laws.{WaitsOrIsTold, Within, NothingElseIsWritten}
use Rattle.crossing_laws.proofs.Grows.{Grew}
use Rattle.crossing_laws.proofs.Stages.{up, said, begun, ended, renewed, reclosed, still_up, ended_is, parted_is}
use Rattle.crossing_laws.proofs.Agrees.{Fits, sender_fits, receiver_fits, attach_of, close_of, none_read, one_read, two_read, ended_reads, one_reads, two_reads, three_reads, two_written, three_written, written_is, either_way, agree_same, agree_other}

-- ---- three frames against three

-- an end writes these three, one by one as it reads those three: it has read p and written xs
record Speaks (waits told : Type 0) (a0 a1 a2 b0 b1 b2 : FrameBody) (p xs : List FrameBody) : Type 0 where
  start : Grew (a0 ∷ []) xs
  one : (ws : List FrameBody) → p ≡ b0 ∷ ws → Grew (a0 ∷ a1 ∷ []) xs
  two : (ws : List FrameBody) → p ≡ b0 ∷ b1 ∷ ws → Grew (a0 ∷ a1 ∷ a2 ∷ []) xs
  just_none : p ≡ [] → xs ≡ a0 ∷ []
  just_one : p ≡ b0 ∷ [] → xs ≡ a0 ∷ a1 ∷ []
  just_two : p ≡ b0 ∷ b1 ∷ [] → xs ≡ a0 ∷ a1 ∷ a2 ∷ []
  three : (ws : List FrameBody) → p ≡ b0 ∷ b1 ∷ b2 ∷ ws → xs ≡ a0 ∷ a1 ∷ a2 ∷ []
  waits_none : p ≡ [] → waits
  waits_one : p ≡ b0 ∷ [] → waits
  waits_two : p ≡ b0 ∷ b1 ∷ [] → waits
  is_told : (ws : List FrameBody) → p ≡ b0 ∷ b1 ∷ b2 ∷ ws → told

-- the front of a list is empty, or begins as the list does
Front : FrameBody → List FrameBody → List FrameBody → List FrameBody → Type 0
Front x p rest ys = (p ≡ []) ⊎ ((q : List FrameBody) × (p ≡ x ∷ q) × (q ++ rest ≡ ys))

front : (x : FrameBody) (p rest ys : List FrameBody) → p ++ rest ≡ x ∷ ys → Front x p rest ys
unfolding Front
front x [] rest ys e = inl refl
front x (y ∷ p) rest ys e = inr (p, cc, cc)

empty : (p rest : List FrameBody) → p ++ rest ≡ [] → p ≡ []
empty [] rest e = refl
empty (x ∷ p) rest e = absurd cc

-- what an end has written at each moment
Shape : FrameBody → FrameBody → FrameBody → List FrameBody → Type 0
Shape b0 b1 b2 ys = (ys ≡ b0 ∷ []) ⊎ ((ys ≡ b0 ∷ b1 ∷ []) ⊎ ((more : List FrameBody) × (ys ≡ b0 ∷ b1 ∷ b2 ∷ more)))

-- the first of three frames
Three : Type 0 → Type 0 → FrameBody → FrameBody → FrameBody → List FrameBody → Type 0
Three waits told a0 a1 a2 xs = (later : List FrameBody) × (xs ++ later ≡ a0 ∷ a1 ∷ a2 ∷ []) × (waits ⊎ (told × (xs ≡ a0 ∷ a1 ∷ a2 ∷ [])))

three_of_one : (waits told : Type 0) (a0 a1 a2 : FrameBody) (xs : List FrameBody) → xs ≡ a0 ∷ [] → waits → Three waits told a0 a1 a2 xs
unfolding Three
three_of_one waits told a0 a1 a2 xs e w = (a1 ∷ a2 ∷ [], ap (λ (z : List FrameBody). z ++ a1 ∷ a2 ∷ []) e, inl w)

three_of_two : (waits told : Type 0) (a0 a1 a2 : FrameBody) (xs : List FrameBody) → xs ≡ a0 ∷ a1 ∷ [] → waits → Three waits told a0 a1 a2 xs
unfolding Three
three_of_two waits told a0 a1 a2 xs e w = (a2 ∷ [], ap (λ (z : List FrameBody). z ++ a2 ∷ []) e, inl w)

three_of_three : (waits told : Type 0) (a0 a1 a2 : FrameBody) (xs : List FrameBody) → xs ≡ a0 ∷ a1 ∷ a2 ∷ [] → waits → Three waits told a0 a1 a2 xs
unfolding Three
three_of_three waits told a0 a1 a2 xs e w = ([], append-nil xs ∙ e, inl w)

three_told : (waits told : Type 0) (a0 a1 a2 : FrameBody) (xs : List FrameBody) → xs ≡ a0 ∷ a1 ∷ a2 ∷ [] → told → Three waits told a0 a1 a2 xs
unfolding Three
three_told waits told a0 a1 a2 xs e w = ([], append-nil xs ∙ e, inr (w, e))

behind : (a : FrameBody) (p q r : List FrameBody) → p ≡ a ∷ q → q ≡ r → p ≡ a ∷ r
behind a p q r e f = e ∙ ap (λ (z : List FrameBody). a ∷ z) f

module _ (waits told waits_there told_there : Type 0) (a0 a1 a2 b0 b1 b2 : FrameBody) (p rest xs q left ys : List FrameBody) (s : Speaks waits told a0 a1 a2 b0 b1 b2 p xs) (r : Speaks waits_there told_there b0 b1 b2 a0 a1 a2 q ys) (reads : p ++ rest ≡ ys) (hears : q ++ left ≡ xs) where
  fourth : (q1 x2 : List FrameBody) → q ≡ a0 ∷ q1 → Front a1 q1 left x2 → Shape b0 b1 b2 ys
  unfolding Shape Grew Front
  fourth q1 x2 e (inl n) = inr (inl (r.just_one (behind a0 q q1 [] e n)))
  fourth q1 x2 e (inr (q2, f, g)) = inr (inr (r.two q2 (behind a0 q q1 (a1 ∷ q2) e f)))

  second : (q1 x1 y1 : List FrameBody) → xs ≡ a0 ∷ x1 → q ≡ a0 ∷ q1 → q1 ++ left ≡ x1 → Front b0 p rest y1 → Shape b0 b1 b2 ys
  unfolding Shape Grew Front
  second q1 x1 y1 x e g (inl n) =
      let w = s.just_none n in
      let z : x1 ≡ [] = cc in
      inr (inl (r.just_one (behind a0 q q1 [] e (empty q1 left (g ∙ z)))))
  second q1 x1 y1 x e g (inr (p1, f, h)) =
      let w = (s.one p1 f).1 in
      let z : x1 ≡ a1 ∷ (s.one p1 f).0 = cc in
      fourth q1 (s.one p1 f).0 e (front a1 q1 left (s.one p1 f).0 (g ∙ z))

  first : (x1 y1 : List FrameBody) → xs ≡ a0 ∷ x1 → Front a0 q left x1 → Front b0 p rest y1 → Shape b0 b1 b2 ys
  unfolding Shape Grew Front
  first x1 y1 x (inl n) f = inl (r.just_none n)
  first x1 y1 x (inr (q1, e, g)) f = second q1 x1 y1 x e g f

  shape : Shape b0 b1 b2 ys
  unfolding Grew
  shape = first s.start.0 r.start.0 s.start.1 (front a0 q left s.start.0 (hears ∙ s.start.1)) (front b0 p rest r.start.0 (reads ∙ r.start.1))

  one_or : (p1 : List FrameBody) → p ≡ b0 ∷ p1 → p1 ≡ [] → Three waits told a0 a1 a2 xs
  one_or p1 e n = let y = behind b0 p p1 [] e n in three_of_two waits told a0 a1 a2 xs (s.just_one y) (s.waits_one y)

  two_or : (p1 p2 : List FrameBody) → p ≡ b0 ∷ p1 → p1 ≡ b1 ∷ p2 → p2 ≡ [] → Three waits told a0 a1 a2 xs
  two_or p1 p2 e f n = let y = behind b0 p p1 (b1 ∷ []) e (behind b1 p1 p2 [] f n) in three_of_three waits told a0 a1 a2 xs (s.just_two y) (s.waits_two y)

  behind_two : (p1 p2 more : List FrameBody) → p ≡ b0 ∷ p1 → p1 ≡ b1 ∷ p2 → Front b2 p2 rest more → Three waits told a0 a1 a2 xs
  unfolding Front
  behind_two p1 p2 more e f (inl n) = two_or p1 p2 e f n
  behind_two p1 p2 more e f (inr (p3, g, h)) = let y = behind b0 p p1 (b1 ∷ b2 ∷ p3) e (behind b1 p1 p2 (b2 ∷ p3) f g) in three_told waits told a0 a1 a2 xs (s.three p3 y) (s.is_told p3 y)

  behind_one : (p1 more : List FrameBody) → p ≡ b0 ∷ p1 → Front b1 p1 rest (b2 ∷ more) → Three waits told a0 a1 a2 xs
  unfolding Front
  behind_one p1 more e (inl n) = one_or p1 e n
  behind_one p1 more e (inr (p2, f, g)) = behind_two p1 p2 more e f (front b2 p2 rest more g)

  begun_with : (more : List FrameBody) → Front b0 p rest (b1 ∷ b2 ∷ more) → Three waits told a0 a1 a2 xs
  unfolding Front
  begun_with more (inl n) = three_of_one waits told a0 a1 a2 xs (s.just_none n) (s.waits_none n)
  begun_with more (inr (p1, e, f)) = behind_one p1 more e (front b1 p1 rest (b2 ∷ more) f)

  last_two : (p1 : List FrameBody) → p ≡ b0 ∷ p1 → Front b1 p1 rest [] → Three waits told a0 a1 a2 xs
  unfolding Front
  last_two p1 e (inl n) = one_or p1 e n
  last_two p1 e (inr (p2, f, g)) = two_or p1 p2 e f (empty p2 rest g)

  of_two : Front b0 p rest (b1 ∷ []) → Three waits told a0 a1 a2 xs
  unfolding Front
  of_two (inl n) = three_of_one waits told a0 a1 a2 xs (s.just_none n) (s.waits_none n)
  of_two (inr (p1, e, f)) = last_two p1 e (front b1 p1 rest [] f)

  of_one : Front b0 p rest [] → Three waits told a0 a1 a2 xs
  unfolding Front
  of_one (inl n) = three_of_one waits told a0 a1 a2 xs (s.just_none n) (s.waits_none n)
  of_one (inr (p1, e, f)) = one_or p1 e (empty p1 rest f)

  by_shape : Shape b0 b1 b2 ys → Three waits told a0 a1 a2 xs
  unfolding Shape
  by_shape (inl e) = of_one (front b0 p rest [] (reads ∙ e))
  by_shape (inr (inl e)) = of_two (front b0 p rest (b1 ∷ []) (reads ∙ e))
  by_shape (inr (inr (more, e))) = begun_with more (front b0 p rest (b1 ∷ b2 ∷ more) (reads ∙ e))

  three_at_most : Three waits told a0 a1 a2 xs
  three_at_most = by_shape shape

-- ---- one end closes the link, and the other does not

abbrev Waits : Asked → Link → Type 0
Waits k t = parted_poll k.closes t ≡ Pending

abbrev Told : Asked → Asked → Bool → Link → Type 0
Told k l unsettled t = parted_poll k.closes t ≡ told k.closes l.closes l.error unsettled

waits_at : (c : Bool) (e : Option AmqpError) (s : Link) → parted_poll c (begun (record { closes = c; error = e }) s) ≡ Pending
waits_at true e s = refl
waits_at false e s = refl

speaks : (c d : Bool) → agree c d ≡ false → (e f : Option AmqpError) (n m : Anew) (s r : Link) → Fits s m r → (xs p : List FrameBody)
    → (reads n p (begun (record { closes = c; error = e }) s)).output ≡ s.output ++ xs
    → Speaks (Waits (record { closes = c; error = e }) (reads n p (begun (record { closes = c; error = e }) s)))
    (Told (record { closes = c; error = e }) (record { closes = d; error = f }) (has_unsettled n m) (reads n p (begun (record { closes = c; error = e }) s)))
    (said s (record { closes = c; error = e })) (attach_of n s) (close_of n (has_unsettled n m)) (said r (record { closes = d; error = f })) (attach_of m r) (close_of m (has_unsettled n m)) p xs
speaks c d g e f n m s r fit xs p x =
    let k : Asked = record { closes = c; error = e } in
    let l : Asked = record { closes = d; error = f } in
    let u = has_unsettled n m in
    let o = (reads n p (begun k s)).output in
    record {
      start = none_read n k s xs p x;
      one = λ ws y. one_read c d g e f n s r xs p ws y x;
      two = λ ws y. two_read c d g e f n m s r fit xs p ws y x;
      just_none = λ y. written_is s (begun k s) xs (said s k ∷ []) o (ap (λ zs. (reads n zs (begun k s)).output) y) x refl;
      just_one = λ y. written_is s (renewed k n r.own.handle l s) xs (said s k ∷ attach_of n s ∷ []) o (ap (λ (t : Link). t.output) (one_reads c d g e f n s r p [] y)) x (two_written n k r.own.handle l s);
      just_two = λ y. written_is s (reclosed k n r.own.handle l u s) xs (said s k ∷ attach_of n s ∷ close_of n u ∷ []) o (ap (λ (t : Link). t.output) (two_reads c d g e f n m s r fit p [] y)) x (three_written n k r.own.handle l u s);
      three = λ ws y. written_is s (reclosed k n r.own.handle l u s) xs (said s k ∷ attach_of n s ∷ close_of n u ∷ []) o (ap (λ (t : Link). t.output) (three_reads c d g e f n m s r fit p ws y)) x (three_written n k r.own.handle l u s);
      waits_none = λ y. ap (λ zs. parted_poll c (reads n zs (begun k s))) y ∙ waits_at c e s;
      waits_one = λ y. ap (parted_poll c) (one_reads c d g e f n s r p [] y);
      waits_two = λ y. ap (parted_poll c) (two_reads c d g e f n m s r fit p [] y);
      is_told = λ ws y. ap (parted_poll c) (three_reads c d g e f n m s r fit p ws y) ∙ (parted_is c d g e f n r.own.handle u s).answer;
    }

told_then : (s : Link) (k l : Asked) (u : Bool) (xs front all : List FrameBody) (t : Link) → front ≡ all
    → Waits k t ⊎ (Told k l u t × (xs ≡ front)) → WaitsOrIsTold t k l u xs all
told_then s k l u xs front all t e (inl w) = inl w
told_then s k l u xs front all t e (inr (a, f)) = inr (a, f ∙ e)

other : (c d : Bool) → agree c d ≡ false → (e f : Option AmqpError) (n m : Anew) (s r : Link) (xs p ys q : List FrameBody) → Fits s m r → Fits r n s
    → OnTheWay (up s) (record { closes = c; error = e }) n xs p (up r) (record { closes = d; error = f }) m ys q
    → Within (up s) (record { closes = c; error = e }) n xs p (up r) (record { closes = d; error = f }) m ys q
unfolding Three
other c d g e f n m s r xs p ys q fit fits w =
    let k : Asked = record { closes = c; error = e } in
    let l : Asked = record { closes = d; error = f } in
    let u = has_unsettled n m in
    let h = agree_other c d g in
    let uv : has_unsettled m n ≡ u = either_way (is_some m.unsettled) (is_some n.unsettled) in
    let a = speaks c d g e f n m s r fit xs p w.one in
    let wa = Waits k (reads n p (begun k s)) in
    let ta = Told k l u (reads n p (begun k s)) in
    let wb = Waits l (reads m q (begun l r)) in
    let tb = Told l k u (reads m q (begun l r)) in
    let b = subst (λ t. Speaks wb (Told l k t (reads m q (begun l r))) (said r l) (attach_of m r) (close_of m t) (said s k) (attach_of n s) (close_of n t) q ys) uv (speaks d c h f e m n r s fits ys q w.other) in
    let x = three_at_most wa ta wb tb (said s k) (attach_of n s) (close_of n u) (said r l) (attach_of m r) (close_of m u) p w.unread xs q w.unheard ys a b w.reads w.hears in
    let y = three_at_most wb tb wa ta (said r l) (attach_of m r) (close_of m u) (said s k) (attach_of n s) (close_of n u) q w.unheard ys p w.unread xs b a w.hears w.reads in
    let all_a = ap (λ t. written_for t (up s) k n u) (sym g) in
    let all_b = ap (λ t. written_for false (up r) l m t) (sym uv) ∙ ap (λ t. written_for t (up r) l m (has_unsettled m n)) (sym h) in
    record {
      later = x.0;
      one = x.1 ∙ all_a;
      after = y.0;
      other = y.1 ∙ all_b;
      told_one = told_then (up s) k l u xs (said s k ∷ attach_of n s ∷ close_of n u ∷ []) (written (up s) k n l m) (reads n p (begun k s)) all_a x.2;
      told_other = told_then (up r) l k u ys (said r l ∷ attach_of m r ∷ close_of m u ∷ []) (written (up r) l m k n) (reads m q (begun l r)) all_b y.2;
    }

-- ---- both close it, or neither does

alone : (c : Bool) (e f : Option AmqpError) (n : Anew) (s r : Link) (xs p rest y1 : List FrameBody)
    → Front (said r (record { closes = c; error = f })) p rest y1
    → (reads n p (begun (record { closes = c; error = e }) s)).output ≡ s.output ++ xs
    → xs ≡ said s (record { closes = c; error = e }) ∷ []
unfolding Front
alone c e f n s r xs p rest y1 (inl y) x =
    let k : Asked = record { closes = c; error = e } in
    written_is s (begun k s) xs (said s k ∷ []) (reads n p (begun k s)).output (ap (λ zs. (reads n zs (begun k s)).output) y) x refl
alone c e f n s r xs p rest y1 (inr (p1, y, z)) x =
    let k : Asked = record { closes = c; error = e } in
    let l : Asked = record { closes = c; error = f } in
    written_is s (ended k r.own.handle l s) xs (said s k ∷ []) (reads n p (begun k s)).output (ap (λ (t : Link). t.output) (ended_reads c e f n s r p p1 y)) x refl

told_alone : (c : Bool) (e f : Option AmqpError) (n m : Anew) (s r : Link) (xs p rest y1 all : List FrameBody)
    → Front (said r (record { closes = c; error = f })) p rest y1 → xs ≡ all
    → WaitsOrIsTold (reads n p (begun (record { closes = c; error = e }) s)) (record { closes = c; error = e }) (record { closes = c; error = f }) (has_unsettled n m) xs all
unfolding Front
told_alone c e f n m s r xs p rest y1 all (inl y) x = inl (ap (λ zs. parted_poll c (reads n zs (begun (record { closes = c; error = e }) s))) y ∙ waits_at c e s)
told_alone c e f n m s r xs p rest y1 all (inr (p1, y, z)) x =
    inr (ap (parted_poll c) (ended_reads c e f n s r p p1 y) ∙ (ended_is c e f r.own.handle (has_unsettled n m) s).answer, x)

same : (c : Bool) (e f : Option AmqpError) (n m : Anew) (s r : Link) (xs p ys q : List FrameBody)
    → OnTheWay (up s) (record { closes = c; error = e }) n xs p (up r) (record { closes = c; error = f }) m ys q
    → Within (up s) (record { closes = c; error = e }) n xs p (up r) (record { closes = c; error = f }) m ys q
unfolding Grew
same c e f n m s r xs p ys q w =
    let k : Asked = record { closes = c; error = e } in
    let l : Asked = record { closes = c; error = f } in
    let a = none_read n k s xs p w.one in
    let b = none_read m l r ys q w.other in
    let fp = front (said r l) p w.unread b.0 (w.reads ∙ b.1) in
    let fq = front (said s k) q w.unheard a.0 (w.hears ∙ a.1) in
    let uv : has_unsettled m n ≡ has_unsettled n m = either_way (is_some m.unsettled) (is_some n.unsettled) in
    let x : xs ≡ written (up s) k n l m = alone c e f n s r xs p w.unread b.0 fp w.one ∙ ap (λ t. written_for t (up s) k n (has_unsettled n m)) (sym (agree_same c)) in
    let y : ys ≡ written (up r) l m k n = alone c f e m r s ys q w.unheard a.0 fq w.other ∙ ap (λ t. written_for t (up r) l m (has_unsettled m n)) (sym (agree_same c)) in
    record {
      later = [];
      one = append-nil xs ∙ x;
      after = [];
      other = append-nil ys ∙ y;
      told_one = told_alone c e f n m s r xs p w.unread b.0 (written (up s) k n l m) fp x;
      told_other = subst (λ t. WaitsOrIsTold (reads m q (begun l r)) l k t ys (written (up r) l m k n)) uv (told_alone c f e m n r s ys q w.unheard a.0 (written (up r) l m k n) fq y);
    }

within : (c d : Bool) (e f : Option AmqpError) (n m : Anew) (s r : Link) (xs p ys q : List FrameBody) → Fits s m r → Fits r n s
    → OnTheWay (up s) (record { closes = c; error = e }) n xs p (up r) (record { closes = d; error = f }) m ys q
    → Within (up s) (record { closes = c; error = e }) n xs p (up r) (record { closes = d; error = f }) m ys q
within true true e f n m s r xs p ys q fit fits w = same true e f n m s r xs p ys q w
within false false e f n m s r xs p ys q fit fits w = same false e f n m s r xs p ys q w
within true false e f n m s r xs p ys q fit fits w = other true false refl e f n m s r xs p ys q fit fits w
within false true e f n m s r xs p ys q fit fits w = other false true refl e f n m s r xs p ys q fit fits w

pub nothing_else_is_written : NothingElseIsWritten
nothing_else_is_written s k n xs p r l m ys q a count w =
    let e = still_up s a.one in
    let f = still_up r a.other in
    let v = subst (λ t. OnTheWay (up s) k n xs p t l m ys q) f (subst (λ t. OnTheWay t k n xs p r l m ys q) e w) in
    let fit = sender_fits s.own.role a.sends s.verify s.own.snd_settle_mode m r.own a.suits in
    let fits = receiver_fits r.own.role a.receives r.verify r.own.snd_settle_mode n s.own count a.suited in
    subst (λ t. Within t k n xs p r l m ys q) (sym e) (subst (λ t. Within (up s) k n xs p t l m ys q) (sym f) (within k.closes l.closes k.error l.error n m s r xs p ys q fit fits v))
