-- How a receiver takes the parts of deliveries.
use Rattle.std.specs.Prelude.{◌≡◌, ℕ, ◌+◌, ◌≤◌, nat_eq, nat_lt, not, ◌&&◌, Bool, true, false, List, [], ◌∷◌, ◌++◌, length, map, Option, Some, None, Result, Ok, Err, unwrap_or, if◌then◌else◌, refl}
use Rattle.std.proofs.Common.{sym, ◌∙◌, ap, append-nil, append_assoc, subst, arith, length-append}
use Rattle.std.proofs.lemmas.Bool.Decides.{nat_tests}
use Rattle.amqp_performatives.specs.declared.transfer.Transfer.{Transfer}
use Rattle.amqp_parts.specs.declared.part.Part.{Part}
use Rattle.amqp_parts.specs.Join as parts
use Rattle.amqp_parts.specs.Split.{saying_more, saying_last, continuation, last_part}
use Rattle.amqp_delivery.specs.Book.{completed, registered}
use Rattle.amqp_receiver.specs.declared.error.RecvError.{RecvError}
use Rattle.amqp_receiver.specs.declared.error.RecvError.TheVariants as error
use Rattle.amqp_receiver.specs.Delivering.{all_bytes}
use Rattle.amqp_receiver.specs.Receiver.{State}
use Rattle.amqp_receiver.specs.Receiving.{Got, Step, taken, buffered, given_if, entered, settled_if, forgotten, too_large, is_too_large, info_of}
use Rattle.session_laws.specs.Messages.{Delivery, whole_of, ArePartsOf, Carry}
use Rattle.session_laws.specs.Receiving.{IsAnswer, Given, AllFit}

-- ---- the deliveries that are still to be taken

-- of a delivery some parts were taken, and these bytes are to come
pub record IsBegun (b : parts.Incomplete) (d : Delivery) (back : List ℕ) : Type 0 where
  pub transfer : b.transfer ≡ saying_more (whole_of d).transfer
  pub bytes : all_bytes b.payloads ++ back ≡ d.message.payload
  pub size : b.size ≤ length (all_bytes b.payloads)

-- these parts are those of the deliveries that are not answered, but for what was taken of the first one
abbrev pub Waits : Option parts.Incomplete → List Delivery → List Part → Type 0
Waits None ds xs = Carry (map whole_of ds) xs
Waits (Some b) [] xs = ⊥
Waits (Some b) (d ∷ ds) xs =
    (back : List ℕ) × ((own : List Part) × ((others : List Part) × ((xs ≡ own ++ others) × ArePartsOf (continuation d.message.handle) back own × Carry (map whole_of ds) others × IsBegun b d back)))

-- what is answered for a delivery
abbrev pub Says : Delivery → ℕ → Result Got RecvError → Type 0
Says d credit (Ok x) = IsAnswer d (Given credit x)
Says d credit (Err error.TransferLimitExceeded) = credit ≡ 0
Says d credit (Err e) = ⊥

-- a part was taken: the delivery goes on, or it is answered
abbrev pub Comes : Option (Result Got RecvError) → ℕ → State → List Delivery → List Part → Type 0
Comes None credit t ds rest = (t.book.credit ≡ credit) × Waits t.buffer ds rest
Comes (Some a) credit t ds rest =
    (d : Delivery) × ((more : List Delivery) × ((ds ≡ d ∷ more) × (t.buffer ≡ None) × Carry (map whole_of more) rest × Says d credit a))

pub record Taken (s : State) (ds : List Delivery) (rest : List Part) (step : Step) : Type 0 where
  pub link : step.state.link ≡ s.link
  pub incoming : step.state.incoming ≡ s.incoming
  pub comes : Comes step.answer s.book.credit step.state ds rest

-- ---- what stays

record Alike (s t : State) : Type 0 where
  link : t.link ≡ s.link
  incoming : t.incoming ≡ s.incoming
  buffer : t.buffer ≡ s.buffer
  credit : t.book.credit ≡ s.book.credit

forgotten_alike : (o : Option (List ℕ)) (s : State) → Alike s (forgotten o s)
forgotten_alike None s = record { link = refl; incoming = refl; buffer = refl; credit = refl }
forgotten_alike (Some tag) s = record { link = refl; incoming = refl; buffer = refl; credit = refl }

enters_alike : (c : Bool) (s t : State) → Alike s t → Alike s (if c then s else t)
enters_alike true s t h = record { link = refl; incoming = refl; buffer = refl; credit = refl }
enters_alike false s t h = h

settles_alike : (c : Bool) (s t : State) → Alike s t → Alike s (if c then t else s)
settles_alike true s t h = h
settles_alike false s t h = record { link = refl; incoming = refl; buffer = refl; credit = refl }

entered_alike : (x : Transfer) (s : State) → Alike s (entered x s)
entered_alike x s = enters_alike (unwrap_or x.settled false) s (record s { book = registered s.book (info_of x) }) (record { link = refl; incoming = refl; buffer = refl; credit = refl })

settled_alike : (x : Transfer) (s : State) → Alike s (settled_if x s)
settled_alike x s = settles_alike (unwrap_or x.settled false) s (forgotten x.delivery_tag s) (forgotten_alike x.delivery_tag s)

-- ---- sizes

fits_by : (limit n m : ℕ) → n ≤ m → (z : Bool) → nat_eq limit 0 ≡ z → (c : Bool) → nat_lt limit m ≡ c → (d : Bool) → nat_lt limit n ≡ d → (not z && c) ≡ false → (not z && d) ≡ false
fits_by limit n m le true e c f d g h = refl
fits_by limit n m le false e c f false g h = refl
fits_by limit n m le false e false f true g h = grind (arith, nat_tests)
fits_by limit n m le false e true f true g h = absurd cc

-- what is smaller fits too
pub fits_less : (limit n m : ℕ) → n ≤ m → is_too_large m limit ≡ false → is_too_large n limit ≡ false
fits_less limit n m le h = fits_by limit n m le (nat_eq limit 0) refl (nat_lt limit m) refl (nat_lt limit n) refl h

counted_less : (n : ℕ) (payload : List ℕ) (m : ℕ) → n + length payload ≤ m → parts.counted n payload ≤ m
counted_less n payload m h = omega (arith, h)

-- the test of the size is passed
sized : (P : Step → Type 0) (c : Bool) (x y : Step) → c ≡ false → P y → P (if c then x else y)
sized P true x y h p = absurd cc
sized P false x y h p = p

chosen : (P : Step → Type 0) (c : Bool) (x y : Step) → c ≡ true → P x → P (if c then x else y)
chosen P true x y h p = p
chosen P false x y h p = absurd cc

-- ---- a delivery is complete

given_taken : (s u : State) (d : Delivery) (ds : List Delivery) (rest : List Part) (payloads : List (List ℕ)) → u.link ≡ s.link → u.incoming ≡ s.incoming → u.buffer ≡ None → Carry (map whole_of ds) rest
    → all_bytes payloads ≡ d.message.payload → (c : Bool) → nat_lt 0 s.book.credit ≡ c → Taken s (d ∷ ds) rest (given_if c (saying_last (whole_of d).transfer) payloads u)
given_taken s u d ds rest payloads l i n k e true h = record {
  link = l;
  incoming = i;
  comes = (d, (ds, (refl, n, k, (grind (arith, nat_tests), refl, refl, e))));
}
given_taken s u d ds rest payloads l i n k e false h = record {
  link = l;
  incoming = i;
  comes = (d, (ds, (refl, n, k, grind (arith, nat_tests))));
}

complete_taken : (s u : State) (d : Delivery) (ds : List Delivery) (rest : List Part) (payloads : List (List ℕ)) (size : ℕ) → u.link ≡ s.link → u.incoming ≡ s.incoming → u.buffer ≡ None → u.book.credit ≡ s.book.credit
    → Carry (map whole_of ds) rest → all_bytes payloads ≡ d.message.payload → (x : Transfer) → x ≡ saying_last (whole_of d).transfer
    → Taken s (d ∷ ds) rest (buffered (record { transfer = x; payloads = payloads; size = size }) u)
complete_taken s u d ds rest payloads size l i n c k e x h =
    subst (λ (y : Transfer). Taken s (d ∷ ds) rest (buffered (record { transfer = y; payloads = payloads; size = size }) u)) (sym h)
    (given_taken s (record u { book = completed u.book }) d ds rest payloads l i n k e (nat_lt 0 u.book.credit) (ap (λ y. nat_lt 0 y) (sym c)))

-- more of it is to come
more_taken : (s u : State) (d : Delivery) (ds : List Delivery) (rest own others : List Part) (back : List ℕ) (payloads : List (List ℕ)) (size : ℕ) → u.link ≡ s.link → u.incoming ≡ s.incoming → u.book.credit ≡ s.book.credit
    → rest ≡ own ++ others → ArePartsOf (continuation d.message.handle) back own → Carry (map whole_of ds) others → all_bytes payloads ++ back ≡ d.message.payload → size ≤ length (all_bytes payloads)
    → (x : Transfer) → x ≡ saying_more (whole_of d).transfer → Taken s (d ∷ ds) rest (buffered (record { transfer = x; payloads = payloads; size = size }) u)
more_taken s u d ds rest own others back payloads size l i c r p k e z x h =
    subst (λ (y : Transfer). Taken s (d ∷ ds) rest (buffered (record { transfer = y; payloads = payloads; size = size }) u)) (sym h)
    (record { link = l; incoming = i; comes = (c, (back, (own, (others, (r, p, k, record { transfer = refl; bytes = e; size = z }))))) })

-- ---- a first part

one_part : (xs : List ℕ) → all_bytes (xs ∷ []) ≡ xs
one_part xs = append-nil xs

starts_last : (s : State) (d : Delivery) (ds : List Delivery) (rest : List Part) (limit : ℕ) → s.link.max_message_size ≡ limit → is_too_large (length d.message.payload) limit ≡ false → Carry (map whole_of ds) rest
    → Taken s (d ∷ ds) rest (taken (saying_last (whole_of d).transfer) d.message.payload (record s { buffer = None }))
unfolding taken
starts_last s d ds rest limit m f k =
    let x = saying_last (whole_of d).transfer in
    let t : State = record s { buffer = None } in
    let u = entered_alike x t in
    let small : parts.counted 0 d.message.payload ≤ length d.message.payload = counted_less 0 d.message.payload (length d.message.payload) (omega arith) in
    let fits : is_too_large (parts.counted 0 d.message.payload) s.link.max_message_size ≡ false = fits_less s.link.max_message_size _ _ small (ap (λ y. is_too_large (length d.message.payload) y) m ∙ f) in
    sized (λ y. Taken s (d ∷ ds) rest y) (is_too_large (parts.counted 0 d.message.payload) s.link.max_message_size) (too_large (parts.counted 0 d.message.payload) t) (buffered (record { transfer = x; payloads = d.message.payload ∷ []; size = parts.counted 0 d.message.payload }) (entered x t)) fits
    (complete_taken s (entered x t) d ds rest (d.message.payload ∷ []) (parts.counted 0 d.message.payload) u.link u.incoming u.buffer u.credit k (one_part d.message.payload) x refl)

starts_more : (s : State) (d : Delivery) (ds : List Delivery) (rest own others : List Part) (front back : List ℕ) (limit : ℕ) → s.link.max_message_size ≡ limit → is_too_large (length d.message.payload) limit ≡ false
    → front ++ back ≡ d.message.payload → rest ≡ own ++ others → ArePartsOf (continuation d.message.handle) back own → Carry (map whole_of ds) others
    → Taken s (d ∷ ds) rest (taken (saying_more (whole_of d).transfer) front (record s { buffer = None }))
unfolding taken
starts_more s d ds rest own others front back limit m f e r p k =
    let x = saying_more (whole_of d).transfer in
    let t : State = record s { buffer = None } in
    let u = entered_alike x t in
    let len = ap length e in
    let long = length-append front back in
    let small : parts.counted 0 front ≤ length d.message.payload = counted_less 0 front (length d.message.payload) (omega (arith, len, long)) in
    let fits : is_too_large (parts.counted 0 front) s.link.max_message_size ≡ false = fits_less s.link.max_message_size _ _ small (ap (λ y. is_too_large (length d.message.payload) y) m ∙ f) in
    let bytes : all_bytes (front ∷ []) ++ back ≡ d.message.payload = ap (λ y. y ++ back) (one_part front) ∙ e in
    let size : parts.counted 0 front ≤ length (all_bytes (front ∷ [])) = (let o = ap length (one_part front) in counted_less 0 front (length (all_bytes (front ∷ []))) (omega (arith, o))) in
    sized (λ y. Taken s (d ∷ ds) rest y) (is_too_large (parts.counted 0 front) s.link.max_message_size) (too_large (parts.counted 0 front) t) (buffered (record { transfer = x; payloads = front ∷ []; size = parts.counted 0 front }) (entered x t)) fits
    (more_taken s (entered x t) d ds rest own others back (front ∷ []) (parts.counted 0 front) u.link u.incoming u.credit r p k bytes size x refl)

-- ---- a further part

joins_more : (d : Delivery) (c : Bool) → d.message.settled ≡ c → parts.joined (saying_more (whole_of d).transfer) (saying_more (continuation d.message.handle)) ≡ saying_more (whole_of d).transfer
joins_more d true h = subst (λ (y : Bool). record (saying_more (whole_of d).transfer) { settled = parts.settled_by (Some y) None } ≡ record (saying_more (whole_of d).transfer) { settled = Some y }) (sym h) refl
joins_more d false h = subst (λ (y : Bool). record (saying_more (whole_of d).transfer) { settled = parts.settled_by (Some y) None } ≡ record (saying_more (whole_of d).transfer) { settled = Some y }) (sym h) refl

joins_last : (d : Delivery) (c : Bool) → d.message.settled ≡ c → parts.joined (saying_more (whole_of d).transfer) (saying_last (continuation d.message.handle)) ≡ saying_last (whole_of d).transfer
joins_last d true h = subst (λ (y : Bool). record (saying_last (whole_of d).transfer) { settled = parts.settled_by (Some y) None } ≡ record (saying_last (whole_of d).transfer) { settled = Some y }) (sym h) refl
joins_last d false h = subst (λ (y : Bool). record (saying_last (whole_of d).transfer) { settled = parts.settled_by (Some y) None } ≡ record (saying_last (whole_of d).transfer) { settled = Some y }) (sym h) refl

bytes_push : (xs : List (List ℕ)) (x : List ℕ) → all_bytes (xs ++ x ∷ []) ≡ all_bytes xs ++ x
bytes_push [] x = append-nil x
bytes_push (y ∷ ys) x = ap (λ z. y ++ z) (bytes_push ys x) ∙ sym (append_assoc y (all_bytes ys) x)

-- what was taken of the delivery
abbrev buffer_of : Delivery → List (List ℕ) → ℕ → parts.Incomplete
buffer_of d payloads size = record { transfer = saying_more (whole_of d).transfer; payloads = payloads; size = size }

goes_last : (s : State) (d : Delivery) (ds : List Delivery) (rest : List Part) (back : List ℕ) (payloads : List (List ℕ)) (size limit : ℕ) → s.link.max_message_size ≡ limit → is_too_large (length d.message.payload) limit ≡ false
    → all_bytes payloads ++ back ≡ d.message.payload → size ≤ length (all_bytes payloads) → Carry (map whole_of ds) rest
    → Taken s (d ∷ ds) rest (taken (saying_last (continuation d.message.handle)) back (record s { buffer = Some (buffer_of d payloads size) }))
unfolding taken
goes_last s d ds rest back payloads size limit m f e z k =
    let t : State = record s { buffer = None } in
    let x = parts.joined (saying_more (whole_of d).transfer) (saying_last (continuation d.message.handle)) in
    let u = settled_alike x t in
    let len = ap length e in
    let long = length-append (all_bytes payloads) back in
    let small : parts.counted size back ≤ length d.message.payload = counted_less size back (length d.message.payload) (omega (arith, len, long, z)) in
    let fits : is_too_large (parts.counted size back) s.link.max_message_size ≡ false = fits_less s.link.max_message_size _ _ small (ap (λ y. is_too_large (length d.message.payload) y) m ∙ f) in
    sized (λ y. Taken s (d ∷ ds) rest y) (is_too_large (parts.counted size back) s.link.max_message_size) (too_large (parts.counted size back) (record s { buffer = Some (buffer_of d payloads size) })) (buffered (record { transfer = x; payloads = payloads ++ back ∷ []; size = parts.counted size back }) (settled_if x t)) fits
    (complete_taken s (settled_if x t) d ds rest (payloads ++ back ∷ []) (parts.counted size back) u.link u.incoming u.buffer u.credit k (bytes_push payloads back ∙ e) x (joins_last d d.message.settled refl))

goes_more : (s : State) (d : Delivery) (ds : List Delivery) (rest own others : List Part) (front back : List ℕ) (payloads : List (List ℕ)) (size limit : ℕ) → s.link.max_message_size ≡ limit
    → is_too_large (length d.message.payload) limit ≡ false → all_bytes payloads ++ (front ++ back) ≡ d.message.payload → size ≤ length (all_bytes payloads)
    → rest ≡ own ++ others → ArePartsOf (continuation d.message.handle) back own → Carry (map whole_of ds) others
    → Taken s (d ∷ ds) rest (taken (saying_more (continuation d.message.handle)) front (record s { buffer = Some (buffer_of d payloads size) }))
unfolding taken
goes_more s d ds rest own others front back payloads size limit m f e z r p k =
    let t : State = record s { buffer = None } in
    let x = parts.joined (saying_more (whole_of d).transfer) (saying_more (continuation d.message.handle)) in
    let u = settled_alike x t in
    let len = ap length e in
    let long = length-append (all_bytes payloads) (front ++ back) in
    let longer = length-append front back in
    let small : parts.counted size front ≤ length d.message.payload = counted_less size front (length d.message.payload) (omega (arith, len, long, longer, z)) in
    let fits : is_too_large (parts.counted size front) s.link.max_message_size ≡ false = fits_less s.link.max_message_size _ _ small (ap (λ y. is_too_large (length d.message.payload) y) m ∙ f) in
    let all = bytes_push payloads front in
    let bytes : all_bytes (payloads ++ front ∷ []) ++ back ≡ d.message.payload = ap (λ y. y ++ back) all ∙ append_assoc (all_bytes payloads) front back ∙ e in
    let count = ap length all in
    let joint = length-append (all_bytes payloads) front in
    let least : parts.counted size front ≤ length (all_bytes (payloads ++ front ∷ [])) = counted_less size front (length (all_bytes (payloads ++ front ∷ []))) (omega (arith, count, joint, z)) in
    sized (λ y. Taken s (d ∷ ds) rest y) (is_too_large (parts.counted size front) s.link.max_message_size) (too_large (parts.counted size front) (record s { buffer = Some (buffer_of d payloads size) })) (buffered (record { transfer = x; payloads = payloads ++ front ∷ []; size = parts.counted size front }) (settled_if x t)) fits
    (more_taken s (settled_if x t) d ds rest own others back (payloads ++ front ∷ []) (parts.counted size front) u.link u.incoming u.credit r p k bytes least x (joins_more d d.message.settled refl))

-- ---- any part

first_is : (x y : Part) (xs ys : List Part) → x ∷ xs ≡ y ∷ ys → x ≡ y
first_is x y xs ys h = cc

rest_is : (x y : Part) (xs ys : List Part) → x ∷ xs ≡ y ∷ ys → xs ≡ ys
rest_is x y xs ys h = cc

-- a part that says and has that
as_said : (P : Transfer → List ℕ → Type 0) (p : Part) (x : Transfer) (payload : List ℕ) → p.transfer ≡ x → p.payload ≡ payload → P x payload → P p.transfer p.payload
as_said P p x payload e f h = subst (λ y. P y p.payload) (sym e) (subst (λ y. P x y) (sym f) h)

started_by : (s : State) (d : Delivery) (ds : List Delivery) (p : Part) (rest : List Part) (limit : ℕ) → s.link.max_message_size ≡ limit → is_too_large (length d.message.payload) limit ≡ false
    → (own others : List Part) → p ∷ rest ≡ own ++ others → ArePartsOf (whole_of d).transfer d.message.payload own → Carry (map whole_of ds) others
    → Taken s (d ∷ ds) rest (taken p.transfer p.payload (record s { buffer = None }))
started_by s d ds p rest limit m f [] others e a k = absurd a
started_by s d ds p rest limit m f (q ∷ []) others e a k =
    let same : p ≡ last_part (whole_of d).transfer d.message.payload = first_is p q rest others e ∙ a in
    as_said (λ x y. Taken s (d ∷ ds) rest (taken x y (record s { buffer = None }))) p _ _ (ap (λ (x : Part). x.transfer) same) (ap (λ (x : Part). x.payload) same)
    (starts_last s d ds rest limit m f (subst (λ xs. Carry (map whole_of ds) xs) (sym (rest_is p q rest others e)) k))
started_by s d ds p rest limit m f (q ∷ r ∷ qs) others e a k =
    let same : p ≡ q = first_is p q rest ((r ∷ qs) ++ others) e in
    as_said (λ x y. Taken s (d ∷ ds) rest (taken x y (record s { buffer = None }))) p _ q.payload (ap (λ (x : Part). x.transfer) same ∙ a.1.0) (ap (λ (x : Part). x.payload) same)
    (starts_more s d ds rest (r ∷ qs) others q.payload a.0 limit m f a.1.1 (rest_is p q rest ((r ∷ qs) ++ others) e) a.1.2 k)

went_by : (s : State) (d : Delivery) (ds : List Delivery) (p : Part) (rest : List Part) (limit : ℕ) (payloads : List (List ℕ)) (size : ℕ) (back : List ℕ) → s.link.max_message_size ≡ limit
    → is_too_large (length d.message.payload) limit ≡ false → all_bytes payloads ++ back ≡ d.message.payload → size ≤ length (all_bytes payloads)
    → (own others : List Part) → p ∷ rest ≡ own ++ others → ArePartsOf (continuation d.message.handle) back own → Carry (map whole_of ds) others
    → Taken s (d ∷ ds) rest (taken p.transfer p.payload (record s { buffer = Some (buffer_of d payloads size) }))
went_by s d ds p rest limit payloads size back m f b z [] others e a k = absurd a
went_by s d ds p rest limit payloads size back m f b z (q ∷ []) others e a k =
    let same : p ≡ last_part (continuation d.message.handle) back = first_is p q rest others e ∙ a in
    as_said (λ x y. Taken s (d ∷ ds) rest (taken x y (record s { buffer = Some (buffer_of d payloads size) }))) p _ _ (ap (λ (x : Part). x.transfer) same) (ap (λ (x : Part). x.payload) same)
    (goes_last s d ds rest back payloads size limit m f b z (subst (λ xs. Carry (map whole_of ds) xs) (sym (rest_is p q rest others e)) k))
went_by s d ds p rest limit payloads size back m f b z (q ∷ r ∷ qs) others e a k =
    let same : p ≡ q = first_is p q rest ((r ∷ qs) ++ others) e in
    as_said (λ x y. Taken s (d ∷ ds) rest (taken x y (record s { buffer = Some (buffer_of d payloads size) }))) p _ q.payload (ap (λ (x : Part). x.transfer) same ∙ a.1.0) (ap (λ (x : Part). x.payload) same)
    (goes_more s d ds rest (r ∷ qs) others q.payload a.0 payloads size limit m f (ap (λ y. all_bytes payloads ++ y) a.1.1 ∙ b) z (rest_is p q rest ((r ∷ qs) ++ others) e) a.1.2 k)

no_parts : (P : Type 0) (p : Part) (rest : List Part) → p ∷ rest ≡ [] → P
no_parts P p rest h = absurd cc

abbrev having : Transfer → List (List ℕ) → ℕ → parts.Incomplete
having x payloads size = record { transfer = x; payloads = payloads; size = size }

-- the buffer of a delivery that was begun
buffer_is : (b : parts.Incomplete) (d : Delivery) → b.transfer ≡ saying_more (whole_of d).transfer → b ≡ buffer_of d b.payloads b.size
buffer_is b d h = ap (λ x. having x b.payloads b.size) h

pub takes : (o : Option parts.Incomplete) (s : State) (ds : List Delivery) (p : Part) (rest : List Part) (limit : ℕ) → s.link.max_message_size ≡ limit → AllFit limit ds → Waits o ds (p ∷ rest)
    → Taken s ds rest (taken p.transfer p.payload (record s { buffer = o }))
takes None s [] p rest limit m f w = no_parts _ p rest w
takes None s (d ∷ ds) p rest limit m f w = started_by s d ds p rest limit m f.0 w.0 w.1.0 w.1.1.0 w.1.1.1 w.1.1.2
takes (Some b) s [] p rest limit m f w = absurd w
takes (Some b) s (d ∷ ds) p rest limit m f w =
    let k = w.1.1.1.3 in
    subst (λ (x : parts.Incomplete). Taken s (d ∷ ds) rest (taken p.transfer p.payload (record s { buffer = Some x }))) (sym (buffer_is b d k.transfer))
    (went_by s d ds p rest limit b.payloads b.size w.0 m f.0 k.bytes k.size w.1.0 w.1.1.0 w.1.1.1.0 w.1.1.1.1 w.1.1.1.2)
