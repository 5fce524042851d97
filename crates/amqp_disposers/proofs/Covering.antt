-- What receipts of several seats say of one history.
use Rattle.std.specs.Prelude.{◌≡◌, ℕ, zero, suc, Bool, true, false, ◌+◌, ◌*◌, ◌<◌, ◌≤◌, ◌==◌, if◌then◌else◌, List, [], ◌∷◌, map, drop, get_or, length, slice_get, Some, Result, Ok, Err, IfOk, refl}
use Rattle.std.proofs.Common.{arith, sym, ◌∙◌, ap, subst, drop-cons, add-one, suc-mul}
use Rattle.std.proofs.lemmas.Bool.Decides.{nat_tests}
use Rattle.std.proofs.lemmas.Option.{slice_get_within, get_or_from_slice_get}
use Rattle.amqp_delivery.specs.declared.calls.BookCall.{BookCall}
use Rattle.amqp_delivery.specs.declared.calls.BookCall.TheVariants.{Accept}
use Rattle.amqp_delivery.specs.declared.info.DeliveryInfo.{DeliveryInfo}
use Rattle.amqp_delivery.specs.declared.info.DisposerView.{DisposerView}
use Rattle.amqp_delivery.specs.Book.{Book, Shelf, view_of}
use Rattle.book_history.specs.History.{Event, Log, Replays}
use Rattle.book_history.specs.Receipts.{Stand}
use Rattle.book_history.specs.declared.entry.Receipt.{Receipt}
use Rattle.amqp_threads.specs.Seats.{Seat, new_seat, calls_of}
use Rattle.amqp_disposers.specs.Work.{calls_in, seats_in, Serves, AllServe, Ran, total, accepted_total}

-- what an entry weighs for a seat
abbrev pub own : (BookCall → ℕ) → ℕ → Event → ℕ
own w k e = if e.seat == k then w e.call else 0

-- the entries of a seat in a history, weighed
abbrev pub weight : (BookCall → ℕ) → ℕ → List Event → ℕ
weight w k [] = 0
weight w k (e ∷ es) = own w k e + weight w k es

abbrev pub receipts_weight : (BookCall → ℕ) → List Receipt → ℕ
receipts_weight w [] = 0
receipts_weight w (r ∷ rs) = w r.entry.call + receipts_weight w rs

abbrev pub OfSeat : ℕ → List Receipt → Type 0
OfSeat k [] = Unit {0}
OfSeat k (r ∷ rs) = (r.entry.seat ≡ k) × OfSeat k rs

-- the seats have the numbers from n on
abbrev pub Numbered : ℕ → List Seat → Type 0
Numbered n [] = Unit {0}
Numbered n (s ∷ ss) = (s.number ≡ n) × Numbered (n + 1) ss

abbrev pub seats_weight : (BookCall → ℕ) → List Seat → List Event → ℕ
seats_weight w [] h = 0
seats_weight w (s ∷ ss) h = weight w s.number h + seats_weight w ss h

abbrev pub hits : (BookCall → ℕ) → List Seat → Event → ℕ
hits w [] e = 0
hits w (s ∷ ss) e = own w s.number e + hits w ss e

drop_less : (w : BookCall → ℕ) (k : ℕ) (h : List Event) (low m : ℕ) → low ≤ m → weight w k (drop m h) ≤ weight w k (drop low h)
drop_less w k [] zero zero le = omega arith
drop_less w k [] zero (suc m) le = omega arith
drop_less w k [] (suc low) zero le = omega arith
drop_less w k [] (suc low) (suc m) le = omega arith
drop_less w k (e ∷ es) zero zero le = omega arith
drop_less w k (e ∷ es) zero (suc m) le = let d = drop_less w k es zero m (omega arith) in omega arith
drop_less w k (e ∷ es) (suc low) zero le = absurd (omega arith)
drop_less w k (e ∷ es) (suc low) (suc m) le = drop_less w k es low m (omega arith)

own_is : (w : BookCall → ℕ) (k : ℕ) (e : Event) → e.seat ≡ k → own w k e ≡ w e.call
own_is w k e is = grind (arith, nat_tests)

-- the receipts of a seat weigh no more than its entries
stand_le : (w : BookCall → ℕ) (k low : ℕ) (h : List Event) (rs : List Receipt) → Stand low h rs → OfSeat k rs → receipts_weight w rs ≤ weight w k (drop low h)
stand_le w k low h [] stand of = omega arith
stand_le w k low h (r ∷ rs) stand of =
    let lt = slice_get_within h r.place r.entry stand.1 in
    let at : get_or h r.place r.entry ≡ r.entry = get_or_from_slice_get h r.place r.entry r.entry stand.1 in
    let cut : drop r.place h ≡ r.entry ∷ drop (r.place + 1) h = drop-cons h r.place r.entry lt ∙ (ap (λ (x : Event). x ∷ drop (suc r.place) h) at ∙ ap (λ (n : ℕ). r.entry ∷ drop n h) (sym (add-one r.place))) in
    let more = stand_le w k (r.place + 1) h rs stand.2 of.1 in
    let less = drop_less w k h low r.place stand.0 in
    let here : weight w k (drop r.place h) ≡ own w k r.entry + weight w k (drop (r.place + 1) h) = ap (weight w k) cut in
    let mine = own_is w k r.entry of.0 in
    omega arith

own_apart : (w : BookCall → ℕ) (k : ℕ) (e : Event) → e.seat < k → own w k e ≡ 0
own_apart w k e lt = grind (arith, nat_tests)

no_hits : (w : BookCall → ℕ) (n : ℕ) (ss : List Seat) (e : Event) → Numbered n ss → e.seat < n → hits w ss e ≡ 0
no_hits w n [] e of lt = omega arith
no_hits w n (s ∷ ss) e of lt = let a = no_hits w (n + 1) ss e of.1 (omega arith) in let b = own_apart w s.number e (omega (arith, of.0)) in omega arith

one_hit_at : (w : BookCall → ℕ) (n : ℕ) (s : Seat) (ss : List Seat) (e : Event) → s.number ≡ n → Numbered (n + 1) ss → hits w ss e ≤ w e.call → (b : Bool) → (e.seat == s.number) ≡ b → own w s.number e + hits w ss e ≤ w e.call
one_hit_at w n s ss e at of rest true is =
    let same : e.seat ≡ s.number = grind (arith, nat_tests) in
    let a = own_is w s.number e same in let b = no_hits w (n + 1) ss e of (omega arith) in omega arith
one_hit_at w n s ss e at of rest false is = rw is rest'
  where
    rest' : 0 + hits w ss e ≤ w e.call
    rest' = omega arith

-- an entry counts for one seat at most
one_hit : (w : BookCall → ℕ) (n : ℕ) (ss : List Seat) (e : Event) → Numbered n ss → hits w ss e ≤ w e.call
one_hit w n [] e of = omega arith
one_hit w n (s ∷ ss) e of = one_hit_at w n s ss e of.0 of.1 (one_hit w (n + 1) ss e of.1) (e.seat == s.number) refl

pub grows : (w : BookCall → ℕ) (ss : List Seat) (e : Event) (es : List Event) → seats_weight w ss (e ∷ es) ≡ hits w ss e + seats_weight w ss es
grows w [] e es = omega arith
grows w (s ∷ ss) e es = let a = grows w ss e es in omega arith

-- all seats together weigh no more than the history
pub seats_le : (w : BookCall → ℕ) (n : ℕ) (ss : List Seat) (h : List Event) → Numbered n ss → seats_weight w ss h ≤ total w h
seats_le w n [] [] of = omega arith
seats_le w n (s ∷ ss) [] of = let a = seats_le w (n + 1) ss [] of.1 in omega arith
seats_le w n ss (e ∷ es) of = let a = seats_le w n ss es of in let b = one_hit w n ss e of in let c = grows w ss e es in omega arith

-- ---- what seats keep that accepted these deliveries

of_seat : (k : ℕ) (rs : List Receipt) (infos : List DeliveryInfo) → seats_in rs ≡ map (λ (i : DeliveryInfo). k) infos → OfSeat k rs
of_seat k [] infos is = tt
of_seat k (r ∷ rs) [] is = absurd cc
of_seat k (r ∷ rs) (i ∷ infos) is = let a : r.entry.seat ≡ k = cc in let b : seats_in rs ≡ map (λ (i : DeliveryInfo). k) infos = cc in (a, of_seat k rs infos b)

accepted_weight : (w : BookCall → ℕ) (view : DisposerView) (rs : List Receipt) (infos : List DeliveryInfo) → calls_in rs ≡ map (λ (i : DeliveryInfo). Accept view i) infos → receipts_weight w rs ≡ accepted_total w view infos
accepted_weight w view [] [] is = refl
accepted_weight w view [] (i ∷ infos) is = absurd cc
accepted_weight w view (r ∷ rs) [] is = absurd cc
accepted_weight w view (r ∷ rs) (i ∷ infos) is =
    let a : r.entry.call ≡ Accept view i = cc in
    let b : calls_in rs ≡ map (λ (i : DeliveryInfo). Accept view i) infos = cc in
    let c = ap w a in let d = accepted_weight w view rs infos b in omega arith

calls_length : (rs : List Receipt) (view : DisposerView) (infos : List DeliveryInfo) → calls_in rs ≡ map (λ (i : DeliveryInfo). Accept view i) infos → length rs ≡ length infos
calls_length [] view [] is = refl
calls_length [] view (i ∷ infos) is = absurd cc
calls_length (r ∷ rs) view [] is = absurd cc
calls_length (r ∷ rs) view (i ∷ infos) is =
    let b : calls_in rs ≡ map (λ (i : DeliveryInfo). Accept view i) infos = cc in
    let d = calls_length rs view infos b in omega arith

-- a seat that was new
record Fresh (view : DisposerView) (k : ℕ) (infos : List DeliveryInfo) (t : Seat) : Type 0 where
  number : t.number ≡ k
  calls : calls_in t.receipts ≡ map (λ (i : DeliveryInfo). Accept view i) infos
  seats : seats_in t.receipts ≡ map (λ (i : DeliveryInfo). k) infos

fresh : (view : DisposerView) (k : ℕ) (infos : List DeliveryInfo) (s t : Seat) → s ≡ new_seat view k → Serves s infos t → Fresh view k infos t
fresh view k infos s t is serves = by (subst (λ (x : Seat). Serves x infos t) is serves)
  where
    by : Serves (new_seat view k) infos t → Fresh view k infos t
    by v = record { number = v.number; calls = v.calls; seats = v.seats }

-- what is known of the seats from n on
record Served (view : DisposerView) (n m : ℕ) (infos : List DeliveryInfo) (ts : List Seat) : Type 0 where
  numbered : Numbered n ts
  count : length ts ≡ m
  calls : calls_of ts ≡ m * length infos
  weigh : (w : BookCall → ℕ) (h : List Event) → ((k : ℕ) (s : Seat) → slice_get ts k ≡ Some s → Stand 0 h s.receipts) → m * accepted_total w view infos ≤ seats_weight w ts h

mul_step : (a b c m : ℕ) → c ≡ m → a ≡ b * m → c + a ≡ suc b * m
mul_step a b c m h e = omega (arith, suc-mul b m)

le_step : (a b c m : ℕ) → m ≤ c → b * m ≤ a → suc b * m ≤ c + a
le_step a b c m h e = omega (arith, suc-mul b m)

served_from : (view : DisposerView) (n : ℕ) (ss : List Seat) (infos : List DeliveryInfo) (ts : List Seat) → ((k : ℕ) → k < length ss → slice_get ss k ≡ Some (new_seat view (n + k))) → AllServe ss infos ts → Served view n (length ss) infos ts
served_from view n [] infos [] news all = record { numbered = tt; count = refl; calls = omega arith; weigh = λ w h stand. omega arith }
served_from view n [] infos (t ∷ ts) news all = absurd all
served_from view n (s ∷ ss) infos [] news all = absurd all
served_from view n (s ∷ ss) infos (t ∷ ts) news all =
    let first : Some s ≡ Some (new_seat view (n + 0)) = news 0 (omega arith) in
    let zero_more : n + 0 ≡ n = omega arith in
    let is : s ≡ new_seat view n = subst (λ (m : ℕ). s ≡ new_seat view m) zero_more cc in
    let f = fresh view n infos s t is all.0 in
    let shift : (k : ℕ) → n + suc k ≡ (n + 1) + k = λ k. omega arith in
    let rest = served_from view (n + 1) ss infos ts (λ k lt. subst (λ (m : ℕ). slice_get ss k ≡ Some (new_seat view m)) (shift k) (news (suc k) (omega arith))) all.1 in
    record {
      numbered = (f.number, rest.numbered);
      count = (let c = rest.count in omega arith);
      calls = mul_step (calls_of ts) (length ss) (length t.receipts) (length infos) (calls_length t.receipts view infos f.calls) rest.calls;
      weigh = λ w h stand.
          let mine : receipts_weight w t.receipts ≤ weight w n (drop 0 h) = stand_le w n 0 h t.receipts (stand 0 t refl) (of_seat n t.receipts infos f.seats) in
          let own_weight = accepted_weight w view t.receipts infos f.calls in
          let at : weight w t.number h ≡ weight w n h = ap (λ (m : ℕ). weight w m h) f.number in
          let others = rest.weigh w h (λ k s is. stand (suc k) s is) in
          le_step (seats_weight w ts h) (length ss) (weight w t.number h) (accepted_total w view infos) (omega arith) others;
    }

-- seats that were new and accepted these deliveries: how many they are, how many calls they made, and what their history weighs
pub record Covers (view : DisposerView) (m : ℕ) (infos : List DeliveryInfo) (ts : List Seat) : Type 0 where
  pub count : length ts ≡ m
  pub calls : calls_of ts ≡ m * length infos
  pub weigh : (w : BookCall → ℕ) (h : List Event) → ((k : ℕ) (s : Seat) → slice_get ts k ≡ Some s → Stand 0 h s.receipts) → m * accepted_total w view infos ≤ total w h

plus : (k : ℕ) → k ≡ 0 + k
plus k = omega arith

pub covers : (view : DisposerView) (m : ℕ) (ss : List Seat) (infos : List DeliveryInfo) (ts : List Seat) → length ss ≡ m → ((k : ℕ) → k < m → slice_get ss k ≡ Some (new_seat view k)) → AllServe ss infos ts → Covers view m infos ts
covers view m ss infos ts len news all =
    let s = served_from view 0 ss infos ts (λ k lt. subst (λ (n : ℕ). slice_get ss k ≡ Some (new_seat view n)) (plus k) (news k (omega arith))) all in
    record {
      count = s.count ∙ len;
      calls = s.calls ∙ ap (λ (n : ℕ). n * length infos) len;
      weigh = λ w h stand.
          let a = s.weigh w h stand in let b = seats_le w 0 ts h s.numbered in
          let c = ap (λ (n : ℕ). n * accepted_total w view infos) len in omega arith;
    }

-- what the desk gives back was run by so many workers
pub ran : {D : Type 0} (b : Book) (infos : List DeliveryInfo) (m : ℕ) (ts given : List Seat) (r : Result (Shelf × Log) D) → Covers (view_of b 0) m infos ts → given ≡ ts
    → IfOk r (λ x. Replays b x.1.events x.0.book) → IfOk r (λ x. length x.1.events ≡ calls_of given)
    → IfOk r (λ x. (k : ℕ) (s : Seat) → slice_get given k ≡ Some s → Stand 0 x.1.events s.receipts) → IfOk r (λ x. Ran b infos m x.1.events x.0.book)
ran b infos m ts given (Err e) n is replays calls stand = tt
ran b infos m ts given (Ok x) n is replays calls stand = record {
  replays = replays;
  calls = calls ∙ (ap calls_of is ∙ n.calls);
  covers = λ w. n.weigh w x.1.events (λ k s at. stand k s (ap (λ (ss : List Seat). slice_get ss k) is ∙ at));
}
