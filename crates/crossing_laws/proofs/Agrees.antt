-- Two ends that both leave a link come out of it alike.
use Rattle.std.specs.Prelude.{◌≡◌, ℕ, Bool, true, false, ◌||◌, is_some, is_none, List, [], ◌∷◌, ◌++◌, Option, None, if◌then◌else◌, refl}
use Rattle.std.proofs.Common.{sym, ◌∙◌, ap, subst, append_assoc}
use Rattle.std.proofs.lemmas.List.{append_cancel_left}
use Rattle.amqp_composites.specs.declared.error.Error.{Error as AmqpError}
use Rattle.amqp_composites.specs.declared.modes.Role.{Role}
use Rattle.amqp_composites.specs.declared.modes.Role.TheVariants as role
use Rattle.amqp_composites.specs.declared.modes.SenderSettleMode.{SenderSettleMode}
use Rattle.amqp_link.specs.amqp_frames.declared.body.FrameBody.{FrameBody}
use Rattle.amqp_link.specs.amqp_frames.declared.body.FrameBody.TheVariants as b
use Rattle.amqp_link.specs.amqp_performatives.Attach.{written as as_read}
use Rattle.amqp_link.specs.amqp_performatives.declared.attach.Attach.{Attach}
use Rattle.amqp_link.specs.declared.error.AttachFault.{AttachFault}
use Rattle.amqp_link.specs.declared.error.AttachFault.TheVariants as fault
use Rattle.amqp_link.specs.Link.{Link, agree}
use Rattle.amqp_link.specs.Parting.{again}
use Rattle.amqp_link.specs.Rules.{first_fault, fault_of, receiver_termini, is_coordinator}
use Rattle.crossing_laws.specs.Ends.{Anew, Asked, Counts, Leaves, Cross, reads}
use Rattle.crossing_laws.specs.Agreement.{has_unsettled, closing_error, last_closes, written_for, written, Parted, PartedLate, Answered, Agree}
use Rattle.crossing_laws.specs.Laws.{OneEndLeaves, EndsAgree, CrossingIsMet}
use Rattle.crossing_laws.proofs.Grows.{Grew, reads_grows, whole}
use Rattle.crossing_laws.proofs.Stages.{up, said, begun, ended, renewed, reclosed, parted, still_up, ends_at_once, renews, recloses, answers, left_is, parts, ended_is, parted_is}

-- ---- what the peer says as it attaches again is as good as before

-- the end takes that Attach of a peer that attaches again
abbrev pub Fits : Link → Anew → Link → Type 0
Fits s m r = fault_of s.own.role false s.verify s.own.snd_settle_mode (as_read (again m.handle m.unsettled m.count r.own)) ≡ None

pub sender_fits : (p : Role) → p ≡ role.Sender → (verify : Bool) (mode : SenderSettleMode) (m : Anew) (x : Attach)
    → fault_of p false verify mode x ≡ None → fault_of p false verify mode (as_read (again m.handle m.unsettled m.count x)) ≡ None
sender_fits role.Sender e verify mode m x q = q
sender_fits role.Receiver e verify mode m x q = absurd cc

third : (t u v : Bool) (f g h : AttachFault) (o : Option AttachFault) → first_fault t f (first_fault u g (first_fault v h o)) ≡ None → first_fault t f (first_fault u g o) ≡ None
third true u v f g h o e = absurd cc
third false true v f g h o e = absurd cc
third false false true f g h o e = absurd cc
third false false false f g h o e = e

pub receiver_fits : (p : Role) → p ≡ role.Receiver → (verify : Bool) (mode : SenderSettleMode) (n : Anew) (x : Attach) → Counts n
    → fault_of p false verify mode x ≡ None → fault_of p false verify mode (as_read (again n.handle n.unsettled n.count x)) ≡ None
receiver_fits role.Sender e verify mode n x c q = absurd cc
receiver_fits role.Receiver e verify mode n x c q =
    let rest : Option AttachFault = if verify then receiver_termini false x else None in
    subst (λ (o : Option ℕ). first_fault (is_coordinator x.target) fault.CoordinatorIsNotImplemented (first_fault (is_none x.source) fault.IncomingSourceIsNone (first_fault (is_none o) fault.InitialDeliveryCountIsNone rest)) ≡ None) (sym c.1)
    (third (is_coordinator x.target) (is_none x.source) (is_none x.initial_delivery_count) fault.CoordinatorIsNotImplemented fault.IncomingSourceIsNone fault.InitialDeliveryCountIsNone rest q)

-- ---- one end, by what it has read

abbrev pub attach_of : Anew → Link → FrameBody
attach_of n s = b.Attach (again n.handle n.unsettled n.count s.own)

abbrev pub close_of : Anew → Bool → FrameBody
close_of n unsettled = b.Detach (record { handle = n.handle; closed = true; error = closing_error unsettled })

-- it has read the front of what the peer writes, and so it has written that front
seen_at : (n : Anew) (k : Asked) (s t : Link) (xs ys ws front : List FrameBody) → reads n ys (begun k s) ≡ reads n ws t → t.output ≡ s.output ++ front
    → (reads n ys (begun k s)).output ≡ s.output ++ xs → Grew front xs
seen_at n k s t xs ys ws front p q e = whole s.output t.output front (reads n ws t).output (reads_grows n ws t) q xs (ap (λ (u : Link). u.output) (sym p) ∙ e)

pub none_read : (n : Anew) (k : Asked) (s : Link) (xs ys : List FrameBody) → (reads n ys (begun k s)).output ≡ s.output ++ xs → Grew (said s k ∷ []) xs
none_read n k s xs ys e = seen_at n k s (begun k s) xs ys ys (said s k ∷ []) refl refl e

pub two_written : (n : Anew) (k : Asked) (h : ℕ) (l : Asked) (s : Link) → (renewed k n h l s).output ≡ s.output ++ said s k ∷ attach_of n s ∷ []
two_written n k h l s = append_assoc s.output (said s k ∷ []) (attach_of n s ∷ [])

pub three_written : (n : Anew) (k : Asked) (h : ℕ) (l : Asked) (unsettled : Bool) (s : Link)
    → (reclosed k n h l unsettled s).output ≡ s.output ++ said s k ∷ attach_of n s ∷ close_of n unsettled ∷ []
three_written n k h l unsettled s =
    ap (λ (us : List FrameBody). us ++ close_of n unsettled ∷ []) (two_written n k h l s)
    ∙ append_assoc s.output (said s k ∷ attach_of n s ∷ []) (close_of n unsettled ∷ [])

-- both ends close the link, or neither does: nothing follows
pub ended_reads : (c : Bool) (e f : Option AmqpError) (n : Anew) (s r : Link) (ys ws : List FrameBody) → ys ≡ said r (record { closes = c; error = f }) ∷ ws
    → reads n ys (begun (record { closes = c; error = e }) s) ≡ ended (record { closes = c; error = e }) r.own.handle (record { closes = c; error = f }) s
ended_reads c e f n s r ys ws y = ap (λ zs. reads n zs (begun (record { closes = c; error = e }) s)) y ∙ ends_at_once c e f n r.own.handle ws s

-- one does: it attaches again
pub one_reads : (c d : Bool) → agree c d ≡ false → (e f : Option AmqpError) (n : Anew) (s r : Link) (ys ws : List FrameBody) → ys ≡ said r (record { closes = d; error = f }) ∷ ws
    → reads n ys (begun (record { closes = c; error = e }) s) ≡ reads n ws (renewed (record { closes = c; error = e }) n r.own.handle (record { closes = d; error = f }) s)
one_reads c d p e f n s r ys ws y = ap (λ zs. reads n zs (begun (record { closes = c; error = e }) s)) y ∙ renews c d p e f n r.own.handle ws s

pub two_reads : (c d : Bool) → agree c d ≡ false → (e f : Option AmqpError) (n m : Anew) (s r : Link) → Fits s m r → (ys ws : List FrameBody)
    → ys ≡ said r (record { closes = d; error = f }) ∷ attach_of m r ∷ ws
    → reads n ys (begun (record { closes = c; error = e }) s)
    ≡ reads n ws (reclosed (record { closes = c; error = e }) n r.own.handle (record { closes = d; error = f }) (has_unsettled n m) s)
two_reads c d p e f n m s r fit ys ws y =
    one_reads c d p e f n s r ys (attach_of m r ∷ ws) y
    ∙ recloses (record { closes = c; error = e }) n r.own.handle (record { closes = d; error = f }) m r.own ws s fit

pub three_reads : (c d : Bool) → agree c d ≡ false → (e f : Option AmqpError) (n m : Anew) (s r : Link) → Fits s m r → (ys ws : List FrameBody)
    → ys ≡ said r (record { closes = d; error = f }) ∷ attach_of m r ∷ close_of m (has_unsettled n m) ∷ ws
    → reads n ys (begun (record { closes = c; error = e }) s)
    ≡ parted (record { closes = c; error = e }) n r.own.handle (record { closes = d; error = f }) (has_unsettled n m) (closing_error (has_unsettled n m)) s
three_reads c d p e f n m s r fit ys ws y =
    two_reads c d p e f n m s r fit ys (close_of m (has_unsettled n m) ∷ ws) y
    ∙ parts (record { closes = c; error = e }) n r.own.handle (record { closes = d; error = f }) (has_unsettled n m) m.handle (closing_error (has_unsettled n m)) ws s

pub one_read : (c d : Bool) → agree c d ≡ false → (e f : Option AmqpError) (n : Anew) (s r : Link) (xs ys ws : List FrameBody)
    → ys ≡ said r (record { closes = d; error = f }) ∷ ws
    → (reads n ys (begun (record { closes = c; error = e }) s)).output ≡ s.output ++ xs
    → Grew (said s (record { closes = c; error = e }) ∷ attach_of n s ∷ []) xs
one_read c d p e f n s r xs ys ws y o =
    let k : Asked = record { closes = c; error = e } in
    let l : Asked = record { closes = d; error = f } in
    seen_at n k s (renewed k n r.own.handle l s) xs ys ws (said s k ∷ attach_of n s ∷ []) (one_reads c d p e f n s r ys ws y) (two_written n k r.own.handle l s) o

pub two_read : (c d : Bool) → agree c d ≡ false → (e f : Option AmqpError) (n m : Anew) (s r : Link) → Fits s m r → (xs ys ws : List FrameBody)
    → ys ≡ said r (record { closes = d; error = f }) ∷ attach_of m r ∷ ws
    → (reads n ys (begun (record { closes = c; error = e }) s)).output ≡ s.output ++ xs
    → Grew (said s (record { closes = c; error = e }) ∷ attach_of n s ∷ close_of n (has_unsettled n m) ∷ []) xs
two_read c d p e f n m s r fit xs ys ws y o =
    let k : Asked = record { closes = c; error = e } in
    let l : Asked = record { closes = d; error = f } in
    let u = has_unsettled n m in
    seen_at n k s (reclosed k n r.own.handle l u s) xs ys ws (said s k ∷ attach_of n s ∷ close_of n u ∷ []) (two_reads c d p e f n m s r fit ys ws y) (three_written n k r.own.handle l u s) o

-- ---- whether the last Detach closes the link

one_closes : (c : Bool) (s : Link) (e f : Option AmqpError) → last_closes false (said s (record { closes = c; error = e }) ∷ []) ≡ (c || c)
one_closes true s e f = refl
one_closes false s e f = refl

all_close : (c d : Bool) → agree c d ≡ false → true ≡ (c || d)
all_close true d p = refl
all_close false true p = refl
all_close false false p = absurd cc

-- ---- both ends

pub either_way : (t u : Bool) → (t || u) ≡ (u || t)
either_way true true = refl
either_way true false = refl
either_way false true = refl
either_way false false = refl

pub agree_same : (c : Bool) → agree c c ≡ true
agree_same true = refl
agree_same false = refl

pub agree_other : (c d : Bool) → agree c d ≡ false → agree d c ≡ false
agree_other true false p = refl
agree_other false true p = refl
agree_other true true p = absurd cc
agree_other false false p = absurd cc

-- what an end has written that has nothing more to write
pub written_is : (s t : Link) (xs front : List FrameBody) (o : List FrameBody) → o ≡ t.output → o ≡ s.output ++ xs → t.output ≡ s.output ++ front → xs ≡ front
written_is s t xs front o p e q = append_cancel_left s.output xs front (sym e ∙ p ∙ q)

same : (c : Bool) (e f : Option AmqpError) (n m : Anew) (s r : Link) (xs ys : List FrameBody)
    → Cross (up s) (record { closes = c; error = e }) n xs (up r) (record { closes = c; error = f }) m ys
    → Agree (up s) (record { closes = c; error = e }) n xs (up r) (record { closes = c; error = f }) m ys
unfolding Grew
same c e f n m s r xs ys x =
    let k : Asked = record { closes = c; error = e } in
    let l : Asked = record { closes = c; error = f } in
    let a = none_read n k s xs ys x.one in
    let o = none_read m l r ys xs x.other in
    let p = ended_reads c e f n s r ys o.0 o.1 in
    let q = ended_reads c f e m r s xs a.0 a.1 in
    let w = written_is s (ended k r.own.handle l s) xs (said s k ∷ []) (reads n ys (begun k s)).output (ap (λ (t : Link). t.output) p) x.one refl in
    let v = written_is r (ended l s.own.handle k r) ys (said r l ∷ []) (reads m xs (begun l r)).output (ap (λ (t : Link). t.output) q) x.other refl in
    record {
      wrote = w ∙ ap (λ t. written_for t (up s) k n (has_unsettled n m)) (sym (agree_same c));
      answered = v ∙ ap (λ t. written_for t (up r) l m (has_unsettled m n)) (sym (agree_same c));
      one_closes = ap (last_closes false) w ∙ one_closes c s e f;
      other_closes = ap (last_closes false) v ∙ one_closes c r f e;
      one = subst (λ t. Parted k l (has_unsettled n m) t) (sym p) (ended_is c e f r.own.handle (has_unsettled n m) s);
      other = subst (λ t. Parted l k (has_unsettled n m) t) (sym q) (ended_is c f e s.own.handle (has_unsettled n m) r);
    }

other : (c d : Bool) → agree c d ≡ false → (e f : Option AmqpError) (n m : Anew) (s r : Link) (xs ys : List FrameBody) → Fits s m r → Fits r n s
    → Cross (up s) (record { closes = c; error = e }) n xs (up r) (record { closes = d; error = f }) m ys
    → Agree (up s) (record { closes = c; error = e }) n xs (up r) (record { closes = d; error = f }) m ys
unfolding Grew
other c d g e f n m s r xs ys fit fits x =
    let k : Asked = record { closes = c; error = e } in
    let l : Asked = record { closes = d; error = f } in
    let h = agree_other c d g in
    let u = has_unsettled n m in
    let v = has_unsettled m n in
    let uv : v ≡ u = either_way (is_some m.unsettled) (is_some n.unsettled) in
    let a0 = none_read n k s xs ys x.one in
    let b0 = none_read m l r ys xs x.other in
    let a1 = one_read c d g e f n s r xs ys b0.0 b0.1 x.one in
    let b1 = one_read d c h f e m r s ys xs a0.0 a0.1 x.other in
    let a2 = two_read c d g e f n m s r fit xs ys b1.0 b1.1 x.one in
    let b2 = two_read d c h f e m n r s fits ys xs a1.0 a1.1 x.other in
    let a = three_reads c d g e f n m s r fit ys b2.0 (b2.1 ∙ ap (λ t. said r l ∷ attach_of m r ∷ close_of m t ∷ b2.0) uv) in
    let o = three_reads d c h f e m n r s fits xs a2.0 (a2.1 ∙ ap (λ t. said s k ∷ attach_of n s ∷ close_of n t ∷ a2.0) (sym uv)) in
    let w = written_is s (parted k n r.own.handle l u (closing_error u) s) xs (said s k ∷ attach_of n s ∷ close_of n u ∷ []) (reads n ys (begun k s)).output (ap (λ (t : Link). t.output) a) x.one (three_written n k r.own.handle l u s) in
    let z = written_is r (parted l m s.own.handle k v (closing_error v) r) ys (said r l ∷ attach_of m r ∷ close_of m v ∷ []) (reads m xs (begun l r)).output (ap (λ (t : Link). t.output) o) x.other (three_written m l s.own.handle k v r) in
    record {
      wrote = w ∙ ap (λ t. written_for t (up s) k n u) (sym g);
      answered = z ∙ ap (λ t. written_for t (up r) l m v) (sym h);
      one_closes = ap (last_closes false) w ∙ all_close c d g;
      other_closes = ap (last_closes false) z ∙ all_close c d g;
      one = subst (λ t. Parted k l u t) (sym a) (parted_is c d g e f n r.own.handle u s);
      other = subst (λ t. Parted l k t (reads m xs (begun l r))) uv (subst (λ t. Parted l k v t) (sym o) (parted_is d c h f e m s.own.handle v r));
    }

agree_at : (c d : Bool) (e f : Option AmqpError) (n m : Anew) (s r : Link) (xs ys : List FrameBody) → Fits s m r → Fits r n s
    → Cross (up s) (record { closes = c; error = e }) n xs (up r) (record { closes = d; error = f }) m ys
    → Agree (up s) (record { closes = c; error = e }) n xs (up r) (record { closes = d; error = f }) m ys
agree_at true true e f n m s r xs ys fit fits x = same true e f n m s r xs ys x
agree_at false false e f n m s r xs ys fit fits x = same false e f n m s r xs ys x
agree_at true false e f n m s r xs ys fit fits x = other true false refl e f n m s r xs ys fit fits x
agree_at false true e f n m s r xs ys fit fits x = other false true refl e f n m s r xs ys fit fits x

pub ends_agree : EndsAgree
ends_agree s k n xs r l m ys a count x =
    let e = still_up s a.one in
    let f = still_up r a.other in
    let y = subst (λ t. Cross (up s) k n xs t l m ys) f (subst (λ t. Cross t k n xs r l m ys) e x) in
    let fit = sender_fits s.own.role a.sends s.verify s.own.snd_settle_mode m r.own a.suits in
    let fits = receiver_fits r.own.role a.receives r.verify r.own.snd_settle_mode n s.own count a.suited in
    subst (λ t. Agree t k n xs r l m ys) (sym e) (subst (λ t. Agree (up s) k n xs t l m ys) (sym f) (agree_at k.closes l.closes k.error l.error n m s r xs ys fit fits y))

-- ---- there is such an exchange

met_other : (c d : Bool) (g : agree c d ≡ false) (e f : Option AmqpError) (n m : Anew) (s r : Link) → Fits s m r
    → (reads n (written_for (agree d c) (up r) (record { closes = d; error = f }) m (has_unsettled m n)) (begun (record { closes = c; error = e }) s)).output
    ≡ s.output ++ written_for (agree c d) (up s) (record { closes = c; error = e }) n (has_unsettled n m)
met_other c d g e f n m s r fit =
    let k : Asked = record { closes = c; error = e } in
    let l : Asked = record { closes = d; error = f } in
    let u = has_unsettled n m in
    let uv : has_unsettled m n ≡ u = either_way (is_some m.unsettled) (is_some n.unsettled) in
    let ys = said r l ∷ attach_of m r ∷ close_of m u ∷ [] in
    let said_so : written_for (agree d c) (up r) l m (has_unsettled m n) ≡ ys = ap (λ t. written_for t (up r) l m (has_unsettled m n)) (agree_other c d g) ∙ ap (λ t. written_for false (up r) l m t) uv in
    ap (λ zs. (reads n zs (begun k s)).output) said_so
    ∙ ap (λ (t : Link). t.output) (three_reads c d g e f n m s r fit ys [] refl)
    ∙ three_written n k r.own.handle l u s
    ∙ ap (λ t. s.output ++ written_for t (up s) k n u) (sym g)

met_at : (c d : Bool) (e f : Option AmqpError) (n m : Anew) (s r : Link) → Fits s m r
    → (reads n (written (up r) (record { closes = d; error = f }) m (record { closes = c; error = e }) n) (begun (record { closes = c; error = e }) s)).output
    ≡ s.output ++ written (up s) (record { closes = c; error = e }) n (record { closes = d; error = f }) m
met_at true true e f n m s r fit = refl
met_at false false e f n m s r fit = refl
met_at true false e f n m s r fit = met_other true false refl e f n m s r fit
met_at false true e f n m s r fit = met_other false true refl e f n m s r fit

met_at_both : (k l : Asked) (n m : Anew) (s r : Link) → Fits s m r → Fits r n s
    → Cross (up s) k n (written (up s) k n l m) (up r) l m (written (up r) l m k n)
met_at_both k l n m s r fit fits = record {
  one = met_at k.closes l.closes k.error l.error n m s r fit;
  other = met_at l.closes k.closes l.error k.error m n r s fits;
}

pub crossing_is_met : CrossingIsMet
crossing_is_met s k n r l m a count =
    let e = still_up s a.one in
    let f = still_up r a.other in
    let fit = sender_fits s.own.role a.sends s.verify s.own.snd_settle_mode m r.own a.suits in
    let fits = receiver_fits r.own.role a.receives r.verify r.own.snd_settle_mode n s.own count a.suited in
    subst (λ t. Cross t k n (written t k n l m) r l m (written r l m k n)) (sym e)
    (subst (λ t. Cross (up s) k n (written (up s) k n l m) t l m (written t l m k n)) (sym f) (met_at_both k l n m s r fit fits))

-- ---- one end leaves the link, and the other answers

leaves_at : (k : Asked) (n : Anew) (s : Link) (xs : List FrameBody) (r : Link) (m : Anew) (ys : List FrameBody)
    → Leaves (up s) k n xs (up r) m ys → Answered (up s) k n xs (up r) m ys
unfolding Grew
leaves_at k n s xs r m ys x =
    let l : Asked = record { closes = k.closes; error = None } in
    let a = none_read n k s xs ys x.one in
    let p = ap (λ zs. reads m zs (up r)) a.1 ∙ answers k m s.own.handle a.0 r in
    let v = append_cancel_left r.output ys (said r l ∷ []) (sym x.other ∙ ap (λ (t : Link). t.output) p) in
    let q = ended_reads k.closes k.error None n s r ys [] v in
    let w = written_is s (ended k r.own.handle l s) xs (said s k ∷ []) (reads n ys (begun k s)).output (ap (λ (t : Link). t.output) q) x.one refl in
    record {
      wrote = w;
      answered = v;
      one = subst (λ t. Parted k l false t) (sym q) (ended_is k.closes k.error None r.own.handle false s);
      other = λ j. subst (λ t. PartedLate k j t) (sym p) (left_is k j s.own.handle r);
    }

pub one_end_leaves : OneEndLeaves
one_end_leaves s k n xs r m ys a o x =
    let e = still_up s a in
    let f = still_up r o in
    let y = subst (λ t. Leaves (up s) k n xs t m ys) f (subst (λ t. Leaves t k n xs r m ys) e x) in
    subst (λ t. Answered t k n xs r m ys) (sym e) (subst (λ t. Answered (up s) k n xs t m ys) (sym f) (leaves_at k n s xs r m ys y))
