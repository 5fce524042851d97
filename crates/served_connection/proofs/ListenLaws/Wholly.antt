-- The answers of a receiver are those of the deliveries that it reads whole.
use Rattle.std.specs.Prelude.{◌≡◌, ℕ, Bool, true, false, not, ◌&&◌, nat_lt, unwrap_or, map, List, [], ◌∷◌, ◌++◌, Option, Some, None, Result, Ok, Err, if◌then◌else◌, refl}
use Rattle.std.specs.Option.{option_map}
use Rattle.std.proofs.Common.{sym, ◌∙◌, ap, subst, append_assoc}
use Rattle.std.proofs.lemmas.List.{append-nil, map-append}
use Rattle.amqp_termini.specs.declared.state.DeliveryState.{DeliveryState}
use Rattle.amqp_performatives.specs.declared.transfer.Transfer.{Transfer}
use Rattle.amqp_parts.specs.declared.incomplete.PartError.{PartError}
use Rattle.amqp_parts.specs.declared.incomplete.PartError.TheVariants as part
use Rattle.amqp_parts.specs.declared.part.Part.{Part}
use Rattle.amqp_parts.specs.Join as parts
use Rattle.amqp_delivery.specs.Book.{registered, completed}
use Rattle.amqp_link.specs.declared.endpoint.LinkPhase.{LinkPhase}
use Rattle.amqp_link.specs.declared.endpoint.LinkPhase.TheVariants as phase
use Rattle.amqp_link.specs.declared.error.LinkStateError.{LinkStateError}
use Rattle.amqp_link.specs.declared.error.LinkStateError.TheVariants.{IllegalState}
use Rattle.amqp_link.specs.Link as link
use Rattle.amqp_link.specs.Link.{Link}
use Rattle.amqp_receiver.specs.declared.error.RecvError.{RecvError}
use Rattle.amqp_receiver.specs.declared.error.RecvError.TheVariants as error
use Rattle.amqp_receiver.specs.declared.receiver.Incoming.{Incoming}
use Rattle.amqp_receiver.specs.Delivering.{all_bytes}
use Rattle.amqp_receiver.specs.Receiver.{State, transfer_in}
use Rattle.amqp_receiver.specs.Receiving.{Got, Step, goes, fails, closes, info_of, forgotten, aborted_at, belongs, is_second, is_first, given_if, complete, buffered, stated_at, stated, entered, settled_if, started_unless, continued, joined_to, without_state, joined, total as size_of, too_large, is_too_large, is_stray_state, taken_whole, taken, next, receiving, ended_as, ended, received}
use Rattle.session_laws.specs.Receiving.{Move, receives, hears_transfer, given_behind, after, after_all, read_by, read, Answer, answer_in, answered_by, answered, IsReady}
use Rattle.session_laws.proofs.Links.{Fixed}
use Rattle.served_connection.specs.ListenLaws.Carried.{joined as bytes_with}
use Rattle.served_connection.specs.ListenLaws.Received.{bytes_in, whole_of, begun_behind, wholes, AreNew, IsAnswer, AreAnswers, IsFine, AreFine, AreFirst, AnswersWhatIsWhole}
use Rattle.served_connection.proofs.ListenLaws.Receivers.{waiting_same}
use Rattle.served_connection.proofs.ListenLaws.Stays.{Stays, behind_stays, unexpected_stays, IsBeside, move_stays}

-- the bytes of a delivery of which more is to come
abbrev begun_of : Option parts.Incomplete → Option (List ℕ)
begun_of None = None
begun_of (Some b) = Some (all_bytes b.payloads)

bytes_more : (ps : List (List ℕ)) (p : List ℕ) → all_bytes (ps ++ p ∷ []) ≡ all_bytes ps ++ p
bytes_more [] p = append-nil p
bytes_more (q ∷ qs) p = ap (λ xs. q ++ xs) (bytes_more qs p) ∙ sym (append_assoc q (all_bytes qs) p)

one_part : (p : List ℕ) → all_bytes (p ∷ []) ≡ p
one_part p = append-nil p

-- ---- one Transfer

-- the answer is fine
abbrev Fine : ℕ → Step → Type 0
Fine credit step = AreFine (answer_in credit step.answer)

-- a part was taken: no delivery was whole, or one was and is answered; and what has come of the next
abbrev Comes : Option (List ℕ) → Part → State → State → Option (Result Got RecvError) → Type 0
Comes begun p s t None = (whole_of begun p ≡ []) × (begun_behind begun p ≡ begun_of t.buffer) × (t.link ≡ s.link)
Comes begun p s t (Some (Ok x)) = (whole_of begun p ≡ all_bytes x.payloads ∷ []) × (begun_behind begun p ≡ begun_of t.buffer) × (t.link ≡ s.link)
Comes begun p s t (Some (Err error.TransferLimitExceeded)) =
    (bytes : List ℕ) × (whole_of begun p ≡ bytes ∷ []) × (begun_behind begun p ≡ begun_of t.buffer) × (t.link ≡ s.link)
Comes begun p s t (Some (Err e)) = ⊥

-- where the answer is fine
abbrev Takes : ℕ → Option (List ℕ) → Part → State → Step → Type 0
Takes credit begun p s step = Fine credit step → Comes begun p s step.state step.answer

known : (P : Step → Type 0) (b : Bool) (t u : Step) → (b ≡ true → P t) → (b ≡ false → P u) → P (if b then t else u)
known P true t u p q = p refl
known P false t u p q = q refl

and_false : (b : Bool) → (b && false) ≡ false
and_false true = refl
and_false false = refl

-- what a part comes to that is aborted, that says that more comes, and that ends its delivery
aborted_whole : (begun : Option (List ℕ)) (p : Part) → p.transfer.aborted ≡ true → (whole_of begun p ≡ []) × (begun_behind begun p ≡ None)
aborted_whole begun p a =
    let bytes = bytes_with begun p.transfer.resume p.payload in
    let x : (not p.transfer.more && not p.transfer.aborted) ≡ false = ap (λ (c : Bool). not p.transfer.more && not c) a ∙ and_false (not p.transfer.more) in
    let y : (p.transfer.more && not p.transfer.aborted) ≡ false = ap (λ (c : Bool). p.transfer.more && not c) a ∙ and_false p.transfer.more in
    (ap (λ (c : Bool). if c then bytes_in bytes else []) x, ap (λ (c : Bool). if c then bytes else None) y)

more_whole : (begun : Option (List ℕ)) (p : Part) (bytes : List ℕ) → p.transfer.aborted ≡ false → p.transfer.more ≡ true → bytes_with begun p.transfer.resume p.payload ≡ Some bytes
    → (whole_of begun p ≡ []) × (begun_behind begun p ≡ Some bytes)
more_whole begun p bytes a m e =
    let x : (not p.transfer.more && not p.transfer.aborted) ≡ false = ap (λ (c : Bool). not c && not p.transfer.aborted) m in
    let y : (p.transfer.more && not p.transfer.aborted) ≡ true = ap (λ (c : Bool). c && not p.transfer.aborted) m ∙ ap (λ (c : Bool). true && not c) a in
    (ap (λ (c : Bool). if c then bytes_in (bytes_with begun p.transfer.resume p.payload) else []) x, ap (λ (c : Bool). if c then bytes_with begun p.transfer.resume p.payload else None) y ∙ e)

last_whole : (begun : Option (List ℕ)) (p : Part) (bytes : List ℕ) → p.transfer.aborted ≡ false → p.transfer.more ≡ false → bytes_with begun p.transfer.resume p.payload ≡ Some bytes
    → (whole_of begun p ≡ bytes ∷ []) × (begun_behind begun p ≡ None)
last_whole begun p bytes a m e =
    let x : (not p.transfer.more && not p.transfer.aborted) ≡ true = ap (λ (c : Bool). not c && not p.transfer.aborted) m ∙ ap (λ (c : Bool). true && not c) a in
    let y : (p.transfer.more && not p.transfer.aborted) ≡ false = ap (λ (c : Bool). c && not p.transfer.aborted) m in
    (ap (λ (c : Bool). if c then bytes_in (bytes_with begun p.transfer.resume p.payload) else []) x ∙ ap bytes_in e, ap (λ (c : Bool). if c then bytes_with begun p.transfer.resume p.payload else None) y)

-- ---- the delivery that was begun is the same, and the link

record Kept (s t : State) : Type 0 where
  buffer : t.buffer ≡ s.buffer
  link : t.link ≡ s.link

kept_then : (s t u : State) → Kept s t → Kept t u → Kept s u
kept_then s t u a c = record { buffer = c.buffer ∙ a.buffer; link = c.link ∙ a.link }

kept_if : (b : Bool) (s t u : State) → Kept u s → Kept u t → Kept u (if b then s else t)
kept_if true s t u p q = p
kept_if false s t u p q = q

forgotten_kept : (o : Option (List ℕ)) (s : State) → Kept s (forgotten o s)
forgotten_kept None s = record { buffer = refl; link = refl }
forgotten_kept (Some tag) s = record { buffer = refl; link = refl }

stated_at_kept : (o : Option (List ℕ)) (x : DeliveryState) (s : State) → Kept s (stated_at o x s)
stated_at_kept None x s = record { buffer = refl; link = refl }
stated_at_kept (Some tag) x s = record { buffer = refl; link = refl }

stated_kept : (o : Option DeliveryState) (x : Transfer) (s : State) → Kept s (stated o x s)
stated_kept None x s = record { buffer = refl; link = refl }
stated_kept (Some state) x s = stated_at_kept x.delivery_tag state s

entered_kept : (x : Transfer) (s : State) → Kept s (entered x s)
entered_kept x s =
    kept_if (unwrap_or x.settled false) s (record s { book = registered s.book (info_of x) }) s (record { buffer = refl; link = refl }) (record { buffer = refl; link = refl })

settled_kept : (x : Transfer) (s : State) → Kept s (settled_if x s)
settled_kept x s = kept_if (unwrap_or x.settled false) (forgotten x.delivery_tag s) s s (forgotten_kept x.delivery_tag s) (record { buffer = refl; link = refl })

-- ---- the rows

-- a delivery is whole, and nothing is begun
abbrev IsWhole : Option (List ℕ) → Part → List (List ℕ) → Type 0
IsWhole begun p payloads = (whole_of begun p ≡ all_bytes payloads ∷ []) × (begun_behind begun p ≡ None)

given_takes : (c : Bool) (credit : ℕ) (begun : Option (List ℕ)) (p : Part) (y : Transfer) (payloads : List (List ℕ)) (s u : State) → IsWhole begun p payloads → u.buffer ≡ None → u.link ≡ s.link
    → Takes credit begun p s (given_if c y payloads u)
given_takes true credit begun p y payloads s u w n l f = (w.0, w.1 ∙ sym (ap begun_of n), l)
given_takes false credit begun p y payloads s u w n l f =
    let k = forgotten_kept y.delivery_tag u in (all_bytes payloads, w.0, w.1 ∙ sym (ap begun_of (k.buffer ∙ n)), k.link ∙ l)

complete_takes : (credit : ℕ) (begun : Option (List ℕ)) (p : Part) (b : parts.Incomplete) (s u : State) → IsWhole begun p b.payloads → u.buffer ≡ None → u.link ≡ s.link → Takes credit begun p s (complete b u)
complete_takes credit begun p b s u w n l =
    known (Takes credit begun p s) (is_second b.transfer.rcv_settle_mode && is_first u.book.mode) (fails error.IllegalRcvSettleModeInTransfer (forgotten b.transfer.delivery_tag u))
    (given_if (nat_lt 0 u.book.credit) b.transfer b.payloads (record u { book = completed u.book })) (λ h f. absurd f.0)
    (λ h. given_takes (nat_lt 0 u.book.credit) credit begun p b.transfer b.payloads s (record u { book = completed u.book }) w n l)

buffered_takes : (credit : ℕ) (begun : Option (List ℕ)) (p : Part) (b : parts.Incomplete) (s u : State) → p.transfer.aborted ≡ false → b.transfer.more ≡ p.transfer.more
    → bytes_with begun p.transfer.resume p.payload ≡ Some (all_bytes b.payloads) → u.buffer ≡ None → u.link ≡ s.link → Takes credit begun p s (buffered b u)
buffered_takes credit begun p b s u a m e n l =
    known (Takes credit begun p s) b.transfer.more (goes (record u { buffer = Some b })) (complete b u)
    (λ h f. let w = more_whole begun p (all_bytes b.payloads) a (sym m ∙ h) e in (w.0, w.1, l))
    (λ h. complete_takes credit begun p b s u (last_whole begun p (all_bytes b.payloads) a (sym m ∙ h) e) n l)

started_takes : (o : Option PartError) (state : Option DeliveryState) (credit : ℕ) (p : Part) (y : Transfer) (s : State) → p.transfer.aborted ≡ false → y.more ≡ p.transfer.more → p.transfer.resume ≡ false
    → s.buffer ≡ None → Takes credit None p s (started_unless o state y p.payload s)
started_takes (Some part.DeliveryTagIsNone) state credit p y s a m r n f = absurd f.0
started_takes (Some other) state credit p y s a m r n f = absurd f.0
started_takes None state credit p y s a m r n f =
    let e : bytes_with None p.transfer.resume p.payload ≡ Some (all_bytes (p.payload ∷ [])) = ap (λ (c : Bool). bytes_with None c p.payload) r ∙ ap (λ xs. Some xs) (sym (one_part p.payload)) in
    let k = kept_then s (entered y s) (stated state y (entered y s)) (entered_kept y s) (stated_kept state y (entered y s)) in
    buffered_takes credit None p (parts.begun y p.payload) s (stated state y (entered y s)) a m e (k.buffer ∙ n) k.link f

continued_takes : (b : parts.Incomplete) (state : Option DeliveryState) (credit : ℕ) (p : Part) (y : Transfer) (s : State) → p.transfer.aborted ≡ false → y.more ≡ p.transfer.more
    → Takes credit (Some (all_bytes b.payloads)) p s (continued b state y p.payload s)
continued_takes b state credit p y s a m =
    let c = parts.appended b y p.payload in
    let t : State = record s { buffer = None } in
    let u = settled_if c.transfer t in
    let e : Some (all_bytes b.payloads ++ p.payload) ≡ Some (all_bytes c.payloads) = ap (λ xs. Some xs) (sym (bytes_more b.payloads p.payload)) in
    let k = kept_then t u (stated state c.transfer u) (settled_kept c.transfer t) (stated_kept state c.transfer u) in
    known (Takes credit (Some (all_bytes b.payloads)) p s) (parts.agrees b.transfer y) (buffered c (stated state c.transfer u)) (closes error.InconsistentFieldInMultiFrameDelivery s)
    (λ h. buffered_takes credit (Some (all_bytes b.payloads)) p c s (stated state c.transfer u) a m e k.buffer k.link) (λ h f. absurd f.0)

joined_takes : (o : Option parts.Incomplete) (state : Option DeliveryState) (credit : ℕ) (p : Part) (y : Transfer) (s : State) → s.buffer ≡ o → p.transfer.aborted ≡ false → y.more ≡ p.transfer.more → p.transfer.resume ≡ false
    → Takes credit (begun_of o) p s (joined_to o state y p.payload s)
joined_takes None state credit p y s at a m r = started_takes (parts.lacks y.delivery_id y.delivery_tag) state credit p y s a m r at
joined_takes (Some b) state credit p y s at a m r = continued_takes b state credit p y s a m

whole_takes : (credit : ℕ) (p : Part) (s : State) → p.transfer.aborted ≡ false → p.transfer.resume ≡ false → Takes credit (begun_of s.buffer) p s (taken_whole p.transfer p.payload s)
whole_takes credit p s a r =
    let x = p.transfer in
    let n = size_of x p.payload s in
    known (Takes credit (begun_of s.buffer) p s) (is_stray_state x s) (closes error.DeliveryTagIsNone s) (if is_too_large n s.link.max_message_size then too_large n s else joined x p.payload s) (λ h f. absurd f.0)
    (λ h. known (Takes credit (begun_of s.buffer) p s) (is_too_large n s.link.max_message_size) (too_large n s) (joined x p.payload s) (λ g f. absurd f.0)
    (λ g. joined_takes s.buffer x.state credit p (without_state x) s refl a refl r))

aborted_takes : (o : Option parts.Incomplete) (credit : ℕ) (begun : Option (List ℕ)) (p : Part) (s : State) → s.buffer ≡ o → (whole_of begun p ≡ []) × (begun_behind begun p ≡ None) → Takes credit begun p s (aborted_at o p.transfer s)
aborted_takes None credit begun p s at w f = (w.0, w.1 ∙ sym (ap begun_of at), refl)
aborted_takes (Some b) credit begun p s at w g =
    let t : State = record s { buffer = None } in
    let k = forgotten_kept b.transfer.delivery_tag t in
    known (Takes credit begun p s) (parts.is_same_delivery b.transfer p.transfer) (goes (forgotten b.transfer.delivery_tag t)) (closes error.InconsistentFieldInMultiFrameDelivery s)
    (λ h f. (w.0, w.1 ∙ sym (ap begun_of k.buffer), k.link)) (λ h f. absurd f.0) g

takes : (credit : ℕ) (p : Part) (s : State) → p.transfer.resume ≡ false → Takes credit (begun_of s.buffer) p s (taken p.transfer p.payload s)
unfolding taken
takes credit p s r =
    let x = p.transfer in
    let begun = begun_of s.buffer in
    known (Takes credit begun p s) x.aborted (aborted_at s.buffer x s) (if x.resume && not (belongs s.buffer x) then goes s else taken_whole x p.payload s)
    (λ a. aborted_takes s.buffer credit begun p s refl (aborted_whole begun p a))
    (λ a. known (Takes credit begun p s) (x.resume && not (belongs s.buffer x)) (goes s) (taken_whole x p.payload s)
    (λ h f. let g : false ≡ true = sym (ap (λ (c : Bool). c && not (belongs s.buffer x)) r) ∙ h in absurd cc) (λ h. whole_takes credit p s a r))

-- ---- one call

abbrev part_in : Incoming → Part
part_in x = record { transfer = x.transfer; payload = x.payload }

abbrev parts_in : List Incoming → List Part
parts_in xs = map part_in xs

wholes_cons : (begun : Option (List ℕ)) (p : Part) (ps : List Part) → wholes begun (p ∷ ps) ≡ whole_of begun p ++ wholes (begun_behind begun p) ps
unfolding wholes
wholes_cons begun p ps = refl

new_tail : (p : Part) (ps : List Part) → AreNew (p ∷ ps) → (p.transfer.resume ≡ false) × AreNew ps
unfolding AreNew
new_tail p ps h = h

-- of the deliveries that wait or are still to come some were answered, and the others wait
record Recv (s t : State) (ws : List (List ℕ)) (rest : List Part) (xs : List Answer) : Type 0 where
  link : t.link ≡ s.link
  first : List (List ℕ)
  others : List (List ℕ)
  all : ws ≡ first ++ others
  answers : AreAnswers first xs
  waits : others ≡ wholes (begun_of t.buffer) (parts_in t.incoming ++ rest)
  new : AreNew (parts_in t.incoming)

-- a part with the bytes of those behind it
split : (begun : Option (List ℕ)) (p : Part) (ps : List Part) (o : Option parts.Incomplete) (ws : List (List ℕ)) → whole_of begun p ≡ ws → begun_behind begun p ≡ begun_of o
    → wholes begun (p ∷ ps) ≡ ws ++ wholes (begun_of o) ps
split begun p ps o ws w e = wholes_cons begun p ps ∙ (ap (λ xs. xs ++ wholes (begun_behind begun p) ps) w ∙ ap (λ (x : Option (List ℕ)). ws ++ wholes x ps) e)

-- how a call goes on behind a part
Goes : ℕ → State → List (List ℕ) → List Part → Step → Type 0
Goes credit s ws rest step = AreFine (answer_in credit step.answer) → Recv s step.state ws rest (answer_in credit step.answer)

recv_next : (credit : ℕ) (p : Part) (xs : List Incoming) (s v t : State) (ws : List (List ℕ)) (rest : List Part) (go : State → Step) (a : Option (Result Got RecvError)) → v.link ≡ s.link → t.incoming ≡ xs
    → ws ≡ wholes (begun_of v.buffer) (p ∷ (parts_in xs ++ rest)) → AreNew (parts_in xs) → (AreFine (answer_in credit a) → Comes (begun_of v.buffer) p v t a)
    → (t.link ≡ s.link → ws ≡ wholes (begun_of t.buffer) (parts_in xs ++ rest) → Goes credit s ws rest (go t)) → Goes credit s ws rest (next a t go)
unfolding Goes
recv_next credit p xs s v t ws rest go None l i w n c g f =
    let k = c tt in g (k.2 ∙ l) (w ∙ split (begun_of v.buffer) p (parts_in xs ++ rest) t.buffer [] k.0 k.1) f
recv_next credit p xs s v t ws rest go (Some (Ok x)) l i w n c g f =
    let k = c f in
    let one : ws ≡ all_bytes x.payloads ∷ wholes (begun_of t.buffer) (parts_in xs ++ rest) = w ∙ split (begun_of v.buffer) p (parts_in xs ++ rest) t.buffer (all_bytes x.payloads ∷ []) k.0 k.1 in
    record {
      link = k.2 ∙ l;
      first = all_bytes x.payloads ∷ [];
      others = wholes (begun_of t.buffer) (parts_in xs ++ rest);
      all = one;
      answers = (refl, tt);
      waits = ap (λ ys. wholes (begun_of t.buffer) (parts_in ys ++ rest)) (sym i);
      new = subst (λ ys. AreNew (parts_in ys)) (sym i) n;
    }
recv_next credit p xs s v t ws rest go (Some (Err error.TransferLimitExceeded)) l i w n c g f =
    let k = c f in
    let one : ws ≡ k.0 ∷ wholes (begun_of t.buffer) (parts_in xs ++ rest) = w ∙ split (begun_of v.buffer) p (parts_in xs ++ rest) t.buffer (k.0 ∷ []) k.1 k.2 in
    record {
      link = k.3 ∙ l;
      first = k.0 ∷ [];
      others = wholes (begun_of t.buffer) (parts_in xs ++ rest);
      all = one;
      answers = (tt, tt);
      waits = ap (λ ys. wholes (begun_of t.buffer) (parts_in ys ++ rest)) (sym i);
      new = subst (λ ys. AreNew (parts_in ys)) (sym i) n;
    }
recv_next credit p xs s v t ws rest go (Some (Err e)) l i w n c g f = absurd (c f)

none_answered : (s t : State) (ws : List (List ℕ)) (rest : List Part) → t.link ≡ s.link → ws ≡ wholes (begun_of t.buffer) (parts_in t.incoming ++ rest) → AreNew (parts_in t.incoming) → Recv s t ws rest []
none_answered s t ws rest l w n = record { link = l; first = []; others = ws; all = refl; answers = tt; waits = w; new = n }

-- nothing waits: it is said that the link gives no more, or nothing
ended_goes : (o : Option LinkStateError) (credit : ℕ) (s t : State) (ws : List (List ℕ)) (rest : List Part) → t.link ≡ s.link → ws ≡ wholes (begun_of t.buffer) (parts_in t.incoming ++ rest) → AreNew (parts_in t.incoming)
    → Goes credit s ws rest (ended_as o t)
unfolding Goes
ended_goes None credit s t ws rest l w n f = none_answered s t ws rest l w n
ended_goes (Some e) credit s t ws rest l w n f = none_answered s t ws rest l w n

-- what waits is taken in order, and then it is asked whether more can come
abbrev then_ended : Step → Step
then_ended r = next r.answer r.state ended

abbrev all_received : List Incoming → State → Step
all_received xs u = then_ended (receiving xs u)

next_next : (a : Option (Result Got RecvError)) (t : State) (go : State → Step) → then_ended (next a t go) ≡ next a t (λ u. then_ended (go u))
next_next None t go = refl
next_next (Some a) t go = refl

all_goes : (xs : List Incoming) (credit : ℕ) (s u : State) (ws : List (List ℕ)) (rest : List Part) → u.incoming ≡ xs → u.link ≡ s.link → AreNew (parts_in xs) → ws ≡ wholes (begun_of u.buffer) (parts_in xs ++ rest)
    → Goes credit s ws rest (all_received xs u)
all_goes [] credit s u ws rest i l n w =
    let is : parts_in u.incoming ≡ [] = ap parts_in i in
    ended_goes (link.ended_by u.link.remote u.link.stop_reason) credit s u ws rest l (w ∙ ap (λ ys. wholes (begun_of u.buffer) (ys ++ rest)) (sym is)) (subst (λ ys. AreNew ys) (sym is) n)
all_goes (x ∷ xs) credit s u ws rest i l n w =
    let v : State = record u { incoming = xs } in
    let p = part_in x in
    let t = taken x.transfer x.payload v in
    let m = new_tail p (parts_in xs) n in
    let goes : Goes credit s ws rest (next t.answer t.state (λ y. all_received xs y)) =
    recv_next credit p xs s v t.state ws rest (λ y. all_received xs y) t.answer l (waiting_same x.transfer x.payload v) w m.1 (takes credit p v m.0)
    (λ k z. all_goes xs credit s t.state ws rest (waiting_same x.transfer x.payload v) k m.1 z) in
    subst (λ (y : Step). Goes credit s ws rest y) (sym (next_next t.answer t.state (λ y. receiving xs y))) goes

recv_by : (closed : Bool) (credit : ℕ) (s : State) (ws : List (List ℕ)) (rest : List Part) → AreNew (parts_in s.incoming) → ws ≡ wholes (begun_of s.buffer) (parts_in s.incoming ++ rest)
    → Goes credit s ws rest (if closed then fails (error.LinkStateError IllegalState) s else all_received s.incoming s)
unfolding Goes
recv_by true credit s ws rest n w f = none_answered s s ws rest refl w n
recv_by false credit s ws rest n w f = all_goes s.incoming credit s s ws rest refl refl n w f

recv : (credit : ℕ) (s : State) (ws : List (List ℕ)) (rest : List Part) → AreNew (parts_in s.incoming) → ws ≡ wholes (begun_of s.buffer) (parts_in s.incoming ++ rest) → AreFine (answer_in credit (received s).answer)
    → Recv s (received s).state ws rest (answer_in credit (received s).answer)
unfolding Goes
recv credit s ws rest n w f = recv_by s.link.is_closed credit s ws rest n w f

-- ---- over its life

-- what is not answered waits, or is still to be read, until the link is attached no more
record Lives (ws : List (List ℕ)) (unread : List Part) (s : State) : Type 0 where
  rest : List Part
  waits : ws ≡ wholes (begun_of s.buffer) (parts_in s.incoming ++ rest)
  is : link.is_attached s.link.phase ≡ true → rest ≡ unread
  met : link.is_awaited s.link.phase ≡ false
  new : AreNew (parts_in s.incoming)

-- the same wait, and the link has gone on so
goes_on : (ws : List (List ℕ)) (unread others : List Part) (s t : State) → t.incoming ≡ s.incoming → t.buffer ≡ s.buffer → Fixed s.link t.link
    → (k : Lives ws unread s) → (link.is_attached t.link.phase ≡ true → k.rest ≡ others) → Lives ws others t
goes_on ws unread others s t i b l k e = record {
  rest = k.rest;
  waits = subst (λ o. ws ≡ wholes (begun_of o) (parts_in t.incoming ++ k.rest)) (sym b) (subst (λ xs. ws ≡ wholes (begun_of s.buffer) (parts_in xs ++ k.rest)) (sym i) k.waits);
  is = e;
  met = l.met k.met;
  new = subst (λ xs. AreNew (parts_in xs)) (sym i) k.new;
}

goes_stays : (ws : List (List ℕ)) (unread : List Part) (s t : State) → Stays s t → Lives ws unread s → Lives ws unread t
goes_stays ws unread s t q k = goes_on ws unread unread s t q.incoming q.buffer q.link k (λ e. k.is (q.link.attached k.met e))

in_push : (xs : List Incoming) (x : Incoming) (rest : List Part) → parts_in (xs ++ x ∷ []) ++ rest ≡ parts_in xs ++ part_in x ∷ rest
in_push xs x rest = ap (λ ys. ys ++ rest) (map-append part_in xs (x ∷ [])) ∙ append_assoc (parts_in xs) (part_in x ∷ []) rest

new_push : (xs : List Incoming) (x : Incoming) → AreNew (parts_in xs) → x.transfer.resume ≡ false → AreNew (parts_in (xs ++ x ∷ []))
unfolding AreNew
new_push [] x n r = (r, tt)
new_push (y ∷ ys) x n r = (n.0, new_push ys x n.1 r)

-- a Transfer is read
reads : (p : LinkPhase) (ws : List (List ℕ)) (unread : List Part) (x : Transfer) (payload : List ℕ) (s : State) → s.link.phase ≡ p → x.resume ≡ false
    → Lives ws (record { transfer = x; payload = payload } ∷ unread) s → Lives ws unread (transfer_in p x payload s)
reads phase.Attached ws unread x payload s e r k =
    let y : Incoming = record { transfer = x; payload = payload } in
    record {
      rest = unread;
      waits = subst (λ ys. ws ≡ wholes (begun_of s.buffer) ys) (sym (in_push s.incoming y unread)) (subst (λ ys. ws ≡ wholes (begun_of s.buffer) (parts_in s.incoming ++ ys)) (k.is (ap link.is_attached e)) k.waits);
      is = λ a. refl;
      met = k.met;
      new = new_push s.incoming y k.new r;
    }
reads phase.AttachSent ws unread x payload s e r k = (let m = k.met in let n = ap link.is_awaited e in absurd cc)
reads phase.DetachExpected ws unread x payload s e r k = (let m = k.met in let n = ap link.is_awaited e in absurd cc)
reads phase.Refused ws unread x payload s e r k = (let m = k.met in let n = ap link.is_awaited e in absurd cc)
reads p ws unread x payload s e r k =
    let q = unexpected_stays s in
    goes_on ws _ unread s _ q.incoming q.buffer q.link k (λ f. let a = q.link.attached k.met f in let n = ap link.is_attached e in absurd cc)

-- what a move answers, and what waits behind it
record Tells (ws : List (List ℕ)) (unread : List Part) (xs : List Answer) (t : State) : Type 0 where
  first : List (List ℕ)
  others : List (List ℕ)
  all : ws ≡ first ++ others
  answers : AreAnswers first xs
  lives : Lives others unread t

says_nothing : (ws : List (List ℕ)) (unread : List Part) (s : State) (m : Move) → IsBeside m → Lives ws unread s → Tells ws unread [] (after s m)
says_nothing ws unread s m h k = record { first = []; others = ws; all = refl; answers = tt; lives = goes_stays ws unread s (after s m) (move_stays s m h) k }

says_received : (ws : List (List ℕ)) (unread : List Part) (spells : Bool) (s : State) → AreFine (answered_by s (receives spells)) → Lives ws unread s → Tells ws unread (answered_by s (receives spells)) (after s (receives spells))
says_received ws unread spells s f k =
    let r = recv s.book.credit s ws k.rest k.new k.waits f in
    let t = (received s).state in
    record {
      first = r.first;
      others = r.others;
      all = r.all;
      answers = r.answers;
      lives = goes_stays r.others unread t _ (behind_stays spells (received s).answer t) (record {
        rest = k.rest;
        waits = r.waits;
        is = λ e. k.is (sym (ap (λ (l : Link). link.is_attached l.phase) r.link) ∙ e);
        met = ap (λ (l : Link). link.is_awaited l.phase) r.link ∙ k.met;
        new = r.new;
      });
    }

says : (ws : List (List ℕ)) (unread : List Part) (s : State) (m : Move) → AreNew (read_by m) → AreFine (answered_by s m) → Lives ws (read_by m ++ unread) s → Tells ws unread (answered_by s m) (after s m)
says ws unread s (receives spells) n f k = says_received ws unread spells s f k
says ws unread s (hears_transfer x payload) n f k =
    record { first = []; others = ws; all = refl; answers = tt; lives = reads s.link.phase ws unread x payload s refl (new_tail (record { transfer = x; payload = payload }) [] n).0 k }
says ws unread s m n f k = says_nothing ws unread s m tt k

are_both : (vs ws : List (List ℕ)) (xs ys : List Answer) → AreAnswers vs xs → AreAnswers ws ys → AreAnswers (vs ++ ws) (xs ++ ys)
are_both [] ws [] ys h k = k
are_both [] ws (x ∷ xs) ys h k = absurd h
are_both (v ∷ vs) ws [] ys h k = absurd h
are_both (v ∷ vs) ws (x ∷ xs) ys h k = (h.0, are_both vs ws xs ys h.1 k)

fine_both : (xs ys : List Answer) → AreFine (xs ++ ys) → AreFine xs × AreFine ys
fine_both [] ys f = (tt, f)
fine_both (x ∷ xs) ys f = let g = fine_both xs ys f.1 in ((f.0, g.0), g.1)

new_both : (ps qs : List Part) → AreNew (ps ++ qs) → AreNew ps × AreNew qs
unfolding AreNew
new_both [] qs n = (tt, n)
new_both (p ∷ ps) qs n = let m = new_both ps qs n.1 in ((n.0, m.0), m.1)

lives : (ws : List (List ℕ)) (later : List Part) (s : State) (ms : List Move) → AreNew (read ms) → AreFine (answered s ms) → Lives ws (read ms ++ later) s → AreFirst ws (answered s ms)
lives ws later s [] n f k = record { first = []; others = ws; all = refl; answers = tt }
lives ws later s (m ∷ ms) n f k =
    let new = new_both (read_by m) (read ms) n in
    let fine = fine_both (answered_by s m) (answered (after s m) ms) f in
    let one = says ws (read ms ++ later) s m new.0 fine.0 (subst (λ ys. Lives ws ys s) (append_assoc (read_by m) (read ms) later) k) in
    let more = lives one.others later (after s m) ms new.1 fine.1 one.lives in
    record {
      first = one.first ++ more.first;
      others = more.others;
      all = one.all ∙ ap (λ ys. one.first ++ ys) more.all ∙ sym (append_assoc one.first more.first more.others);
      answers = are_both one.first more.first (answered_by s m) (answered (after s m) ms) one.answers more.answers;
    }

none_new : AreNew []
unfolding AreNew
none_new = tt

attached_met : (p : LinkPhase) → link.is_attached p ≡ true → link.is_awaited p ≡ false
attached_met phase.AttachSent h = absurd cc
attached_met phase.DetachExpected h = absurd cc
attached_met phase.Refused h = absurd cc
attached_met p h = refl

pub answers_what_is_whole : AnswersWhatIsWhole
answers_what_is_whole s ms later ready n f =
    lives (wholes None (read ms ++ later)) later s ms n f (record {
      rest = read ms ++ later;
      waits = sym (ap (λ o. wholes (begun_of o) (parts_in s.incoming ++ (read ms ++ later))) ready.buffer ∙ ap (λ xs. wholes None (parts_in xs ++ (read ms ++ later))) ready.waiting);
      is = λ e. refl;
      met = attached_met s.link.phase ready.attached;
      new = subst (λ xs. AreNew (parts_in xs)) (sym ready.waiting) none_new;
    })
