-- What a receiver answers, over its life.
use Rattle.std.specs.Prelude.{◌≡◌, ℕ, Bool, true, false, not, ◌&&◌, List, [], ◌∷◌, ◌++◌, map, Option, Some, None, Result, Ok, Err, unwrap_or, if◌then◌else◌, refl}
use Rattle.std.proofs.Common.{sym, ◌∙◌, ap, append_assoc, subst}
use Rattle.std.proofs.lemmas.List.{map-append}
use Rattle.amqp_termini.specs.declared.state.DeliveryState.{DeliveryState}
use Rattle.amqp_performatives.specs.declared.attach.Attach.{Attach}
use Rattle.amqp_performatives.specs.declared.flow.Flow.{Flow}
use Rattle.amqp_performatives.specs.declared.transfer.Transfer.{Transfer}
use Rattle.amqp_frames.specs.declared.shared.CoveredDelivery.{CoveredDelivery}
use Rattle.amqp_parts.specs.declared.part.Part.{Part}
use Rattle.amqp_delivery.specs.Book.{disposed_all, view_of, restarted, attached}
use Rattle.amqp_delivery.specs.States.{accepted}
use Rattle.amqp_delivery.specs.declared.calls.BookReply.{BookReply}
use Rattle.amqp_delivery.specs.declared.info.CreditMode.{CreditMode}
use Rattle.amqp_delivery.specs.declared.info.CreditMode.TheVariants.{Manual, Auto}
use Rattle.amqp_delivery.specs.declared.info.DeliveryInfo.{DeliveryInfo}
use Rattle.amqp_delivery.specs.declared.info.DisposerView.{DisposerView}
use Rattle.amqp_delivery.specs.declared.orders.Order.{Order}
use Rattle.amqp_link.specs.declared.endpoint.LinkPhase.{LinkPhase}
use Rattle.amqp_link.specs.declared.endpoint.LinkPhase.TheVariants as phase
use Rattle.amqp_link.specs.declared.error.IllegalLinkStateError.{IllegalLinkStateError}
use Rattle.amqp_link.specs.declared.error.LinkStateError.{LinkStateError}
use Rattle.amqp_link.specs.declared.error.LinkStateError.TheVariants.{IllegalState}
use Rattle.amqp_link.specs.Link as link
use Rattle.amqp_link.specs.Link.{Link}
use Rattle.amqp_receiver.specs.declared.error.RecvError.{RecvError}
use Rattle.amqp_receiver.specs.declared.error.RecvError.TheVariants as error
use Rattle.amqp_receiver.specs.declared.receiver.Incoming.{Incoming}
use Rattle.amqp_receiver.specs.AutoAccept.{accepted_at_once, is_open, unwritten}
use Rattle.amqp_receiver.specs.Disposing.{writing, written, undrained, is_refill, disposing_in_book, disposing_unless}
use Rattle.amqp_receiver.specs.Parting.{map_of, unsettled_of}
use Rattle.amqp_receiver.specs.Receiver.{State, giving_first, opened_if, giving_unless, attach_read, transfer_in, drain_read, flow_in, telling_credit}
use Rattle.amqp_receiver.specs.Receiving.{Got, Step, fails, taken, next, receiving, ended_as, ended, received, forgotten, disposition_read}
use Rattle.amqp_receiver.specs.Regulating.{drained_unless, told_unless}
use Rattle.session_laws.specs.Messages.{Delivery, whole_of, Carry}
use Rattle.session_laws.specs.Receiving.{Move, receives, disposes, disposes_by, sets_credit, sets_credit_mode, sets_auto_accept, drains, tells_properties, polls, parts, abandons, reattaches, stays, hears_attach, hears_flow, hears_transfer, hears_disposition, hears_detach, stops, hands_over, given_behind, after, read_by, read, Answer, answer_in, answered_by, answered, AreAnswers, AllFit, Answers, AnswersInOrder}
use Rattle.session_laws.proofs.Links.{Fixed, fixed, fixed_same, fixed_then, unexpected_moves, attach_moves, detach_moves, polled_moves, parting_moves, abandoned_moves, unplaced_moves, reattached_moves, stopped_moves}
use Rattle.session_laws.proofs.Takes.{Waits, Says, Comes, Taken, takes}

-- ---- one call

abbrev part_in : Incoming → Part
part_in x = record { transfer = x.transfer; payload = x.payload }

-- the Transfers that wait
abbrev parts_in : List Incoming → List Part
parts_in xs = map part_in xs

-- all that waits was taken, or a delivery is answered
abbrev Ends : Option (Result Got RecvError) → ℕ → State → List Delivery → List Part → Type 0
Ends None credit t ds rest = (t.incoming ≡ []) × Waits t.buffer ds rest
Ends (Some a) credit t ds rest =
    (d : Delivery) × ((more : List Delivery) × ((ds ≡ d ∷ more) × (t.buffer ≡ None) × Carry (map whole_of more) (parts_in t.incoming ++ rest) × Says d credit a))

record Gets (s : State) (credit : ℕ) (ds : List Delivery) (rest : List Part) (step : Step) : Type 0 where
  link : step.state.link ≡ s.link
  ends : Ends step.answer credit step.state ds rest

got_next : (s t : State) (credit : ℕ) (xs : List Incoming) (ds : List Delivery) (rest : List Part) → t.link ≡ s.link → t.incoming ≡ xs
    → ((u : State) → u.incoming ≡ xs → u.book.credit ≡ credit → u.link ≡ s.link → Waits u.buffer ds (parts_in xs ++ rest) → Gets s credit ds rest (receiving xs u))
    → (a : Option (Result Got RecvError)) → Comes a credit t ds (parts_in xs ++ rest) → Gets s credit ds rest (next a t (λ u. receiving xs u))
got_next s t credit xs ds rest l i go None c = go t i c.0 l c.1
got_next s t credit xs ds rest l i go (Some a) c = record {
  link = l;
  ends = (c.0, (c.1.0, (c.1.1.0, c.1.1.1, subst (λ ys. Carry (map whole_of c.1.0) (parts_in ys ++ rest)) (sym i) c.1.1.2, c.1.1.3)));
}

got : (xs : List Incoming) (s u : State) (credit : ℕ) (ds : List Delivery) (rest : List Part) (limit : ℕ) → u.incoming ≡ xs → u.book.credit ≡ credit → u.link ≡ s.link → s.link.max_message_size ≡ limit → AllFit limit ds
    → Waits u.buffer ds (parts_in xs ++ rest) → Gets s credit ds rest (receiving xs u)
got [] s u credit ds rest limit i c l m f w = record { link = l; ends = (i, w) }
got (x ∷ xs) s u credit ds rest limit i c l m f w =
    let v : State = record u { incoming = xs } in
    let n : v.link.max_message_size ≡ limit = ap (λ (y : Link). y.max_message_size) l ∙ m in
    let k : Taken v ds (parts_in xs ++ rest) (taken x.transfer x.payload v) = takes u.buffer v ds (part_in x) (parts_in xs ++ rest) limit n f w in
    let t = taken x.transfer x.payload v in
    got_next s t.state credit xs ds rest (k.link ∙ l) k.incoming (λ y j d e z. got xs s y credit ds rest limit j d e m f z) t.answer
    (subst (λ y. Comes t.answer y t.state ds (parts_in xs ++ rest)) c k.comes)

-- what a call answers, and what it leaves
record Recv (s t : State) (ds : List Delivery) (rest : List Part) (xs : List Answer) : Type 0 where
  link : t.link ≡ s.link
  first : List Delivery
  others : List Delivery
  all : ds ≡ first ++ others
  answers : AreAnswers first xs
  waits : Waits t.buffer others (parts_in t.incoming ++ rest)

said_answer : (d : Delivery) (credit : ℕ) (a : Result Got RecvError) → Says d credit a → AreAnswers (d ∷ []) (answer_in credit (Some a))
said_answer d credit (Ok x) h = (h, tt)
said_answer d credit (Err error.TransferLimitExceeded) h = (h, tt)
said_answer d credit (Err (error.LinkStateError e)) h = absurd h
said_answer d credit (Err e) h = absurd h

none_answered : (s t : State) (credit : ℕ) (ds : List Delivery) (rest : List Part) (answers : List Answer) → answers ≡ [] → t.link ≡ s.link → t.incoming ≡ [] → Waits t.buffer ds rest → Recv s t ds rest answers
none_answered s t credit ds rest answers e l i w = record {
  link = l;
  first = [];
  others = ds;
  all = refl;
  answers = subst (λ xs. AreAnswers [] xs) (sym e) tt;
  waits = subst (λ xs. Waits t.buffer ds (parts_in xs ++ rest)) (sym i) w;
}

ended_recv : (s t : State) (credit : ℕ) (ds : List Delivery) (rest : List Part) (o : Option LinkStateError) → t.link ≡ s.link → t.incoming ≡ [] → Waits t.buffer ds rest → Recv s (ended_as o t).state ds rest (answer_in credit (ended_as o t).answer)
ended_recv s t credit ds rest None l i w = none_answered s t credit ds rest [] refl l i w
ended_recv s t credit ds rest (Some e) l i w = none_answered s t credit ds rest [] refl l i w

recv_next : (s t : State) (credit : ℕ) (ds : List Delivery) (rest : List Part) → t.link ≡ s.link → (a : Option (Result Got RecvError)) → Ends a credit t ds rest → Recv s (next a t ended).state ds rest (answer_in credit (next a t ended).answer)
recv_next s t credit ds rest l None e = ended_recv s t credit ds rest (link.ended_by t.link.remote t.link.stop_reason) l e.0 e.1
recv_next s t credit ds rest l (Some a) e = record {
  link = l;
  first = e.0 ∷ [];
  others = e.1.0;
  all = e.1.1.0;
  answers = said_answer e.0 credit a e.1.1.3;
  waits = subst (λ o. Waits o e.1.0 (parts_in t.incoming ++ rest)) (sym e.1.1.1) e.1.1.2;
}

-- a link that this end has closed gives no more
abbrev recv_as : Bool → State → Step
recv_as closed s = if closed then fails (error.LinkStateError IllegalState) s else (let t = receiving s.incoming s in next t.answer t.state ended)

recv_by : (s : State) (ds : List Delivery) (rest : List Part) (limit : ℕ) → s.link.max_message_size ≡ limit → AllFit limit ds → Waits s.buffer ds (parts_in s.incoming ++ rest) → (closed : Bool)
    → Recv s (recv_as closed s).state ds rest (answer_in s.book.credit (recv_as closed s).answer)
recv_by s ds rest limit m f w true = record { link = refl; first = []; others = ds; all = refl; answers = tt; waits = w }
recv_by s ds rest limit m f w false =
    let g = got s.incoming s s s.book.credit ds rest limit refl refl refl m f w in
    recv_next s (receiving s.incoming s).state s.book.credit ds rest g.link (receiving s.incoming s).answer g.ends

recv : (s : State) (ds : List Delivery) (rest : List Part) (limit : ℕ) → s.link.max_message_size ≡ limit → AllFit limit ds → Waits s.buffer ds (parts_in s.incoming ++ rest) → Recv s (received s).state ds rest (answer_in s.book.credit (received s).answer)
recv s ds rest limit m f w = recv_by s ds rest limit m f w s.link.is_closed

-- ---- what changes nothing of what is to be answered

record Quiet (s t : State) : Type 0 where
  incoming : t.incoming ≡ s.incoming
  buffer : t.buffer ≡ s.buffer
  link : Fixed s.link t.link

-- a link that may write
abbrev IsSame : Link → Link → Type 0
IsSame l n = (n.phase ≡ l.phase) × (n.max_message_size ≡ l.max_message_size)

quiet_at : (s t : State) → t.incoming ≡ s.incoming → t.buffer ≡ s.buffer → IsSame s.link t.link → Quiet s t
quiet_at s t i b l = record { incoming = i; buffer = b; link = fixed_same s.link t.link l.0 l.1 }

quiet : (s t : State) → t.incoming ≡ s.incoming → t.buffer ≡ s.buffer → t.link.phase ≡ s.link.phase → t.link.max_message_size ≡ s.link.max_message_size → Quiet s t
quiet s t i b p m = quiet_at s t i b (p, m)

nothing : (s : State) → Quiet s s
nothing s = quiet s s refl refl refl refl

quiet_then : (s t u : State) → Quiet s t → Quiet t u → Quiet s u
quiet_then s t u a c = record { incoming = c.incoming ∙ a.incoming; buffer = c.buffer ∙ a.buffer; link = fixed_then s.link t.link u.link a.link c.link }

moves : (s : State) (l : Link) → Fixed s.link l → Quiet s (record s { link = l })
moves s l h = record { incoming = refl; buffer = refl; link = h }

writing_same : (os : List Order) (l : Link) → IsSame l (writing os l)
writing_same [] l = (refl, refl)
writing_same (o ∷ os) l = writing_same os _

written_quiet : (s : State) → Quiet s (written s)
written_quiet s = quiet_at s (written s) refl refl (writing_same s.book.orders s.link)

undrained_quiet : (r : BookReply) (s t : State) → Quiet s t → Quiet s (undrained r t)
undrained_quiet r s t h = drained_by (is_refill r)
  where
    drained_by : (c : Bool) → Quiet s (if c then record t { is_draining = false } else t)
    drained_by true = quiet_then s t _ h (quiet t _ refl refl refl refl)
    drained_by false = h

in_book_quiet : (view : DisposerView) (infos : List DeliveryInfo) (state : DeliveryState) (s : State) → Quiet s (disposing_in_book view infos state s)
in_book_quiet view infos state s = (let o = disposed_all s.book view infos state in undrained_quiet o.reply s (record s { book = o.book }) (quiet s _ refl refl refl refl))

disposing_quiet : (o : Option IllegalLinkStateError) (view : DisposerView) (infos : List DeliveryInfo) (state : DeliveryState) (s : State) → Quiet s (disposing_unless o view infos state s).state
disposing_quiet (Some e) view infos state s = nothing s
disposing_quiet None view infos state s = quiet_then s (disposing_in_book view infos state s) _ (in_book_quiet view infos state s) (written_quiet (disposing_in_book view infos state s))

open_quiet : (c : Bool) (s : State) → Quiet s (if c then written s else unwritten s)
open_quiet true s = written_quiet s
open_quiet false s = quiet s _ refl refl refl refl

accept_quiet : (c : Bool) (info : DeliveryInfo) (s : State) → Quiet s (if c then accepted_at_once info s else s)
accept_quiet true info s =
    let t = disposing_in_book (view_of s.book s.link.own.handle) (info ∷ []) accepted s in quiet_then s t _ (in_book_quiet (view_of s.book s.link.own.handle) (info ∷ []) accepted s) (open_quiet (is_open t) t)
accept_quiet false info s = nothing s

behind_quiet : (spells : Bool) (a : Option (Result Got RecvError)) (s : State) → Quiet s (given_behind spells a s)
behind_quiet true (Some (Ok x)) s = accept_quiet s.auto_accept x.info s
behind_quiet true (Some (Err e)) s = nothing s
behind_quiet true None s = nothing s
behind_quiet false a s = nothing s

credit_quiet : (o : Option IllegalLinkStateError) (credit : ℕ) (s : State) → Quiet s (giving_unless o credit s).state
credit_quiet (Some e) credit s = nothing s
credit_quiet None credit s = quiet s _ refl refl refl refl

asks_quiet : (c : Bool) (s t : State) → Quiet s t → Quiet s (if c then t else telling_credit true (record t { is_draining = true }))
asks_quiet true s t h = h
asks_quiet false s t h = quiet_then s t _ h (quiet t _ refl refl refl refl)

drain_quiet : (o : Option IllegalLinkStateError) (s : State) → Quiet s (drained_unless o s).state
drain_quiet (Some e) s = nothing s
drain_quiet None s = asks_quiet s.is_draining s (record s { book = restarted s.book }) (quiet s _ refl refl refl refl)

told_quiet : (o : Option IllegalLinkStateError) (s : State) → Quiet s (told_unless o s).state
told_quiet (Some e) s = nothing s
told_quiet None s = quiet s _ refl refl refl refl

first_quiet : (mode : CreditMode) (s t : State) → Quiet s t → Quiet s (giving_first mode t)
first_quiet Manual s t h = h
first_quiet (Auto credit) s t h = quiet_then s t _ h (quiet t _ refl refl refl refl)

opens_quiet : (c : Bool) (count : Option ℕ) (s t : State) → Quiet s t → Quiet s (opened_if c count t)
opens_quiet true count s t h = (let u : State = record t { book = attached t.book (unwrap_or count 0); initial = unwrap_or count 0 } in first_quiet t.book.credit_mode s u (quiet_then s t u h (quiet t u refl refl refl refl)))
opens_quiet false count s t h = h

attach_quiet : (x : Attach) (s : State) → Quiet s (attach_read x s)
attach_quiet x s =
    opens_quiet (not s.link.is_made && (link.attach_read x s.link).is_made) x.initial_delivery_count s (record s { link = link.attach_read x s.link }) (moves s (link.attach_read x s.link) (fixed s.link _ (attach_moves s.link.phase x s.link)))

drains_quiet : (c : Bool) (o : Option ℕ) (s : State) → Quiet s (drain_read c o s)
drains_quiet true (Some count) s = quiet s _ refl refl refl refl
drains_quiet true None s = nothing s
drains_quiet false o s = nothing s

flow_quiet : (p : LinkPhase) (x : Flow) (s : State) → Quiet s (flow_in p x s)
flow_quiet phase.Attached x s = drains_quiet x.drain x.delivery_count s
flow_quiet p x s = moves s _ (fixed _ _ (unexpected_moves s.link.phase s.link))

forgotten_quiet : (o : Option (List ℕ)) (s : State) → Quiet s (forgotten o s)
forgotten_quiet None s = nothing s
forgotten_quiet (Some tag) s = quiet s _ refl refl refl refl

disposition_quiet : (covered : CoveredDelivery) (settled : Bool) (s : State) → Quiet s (disposition_read covered settled s)
disposition_quiet covered true s = forgotten_quiet (Some covered.delivery_tag) s
disposition_quiet covered false s = nothing s

-- ---- over its life

-- what is not answered waits, or is still to be read, until the link is attached no more
record Lives (limit : ℕ) (ds : List Delivery) (unread : List Part) (s : State) : Type 0 where
  rest : List Part
  waits : Waits s.buffer ds (parts_in s.incoming ++ rest)
  is : link.is_attached s.link.phase ≡ true → rest ≡ unread
  met : link.is_awaited s.link.phase ≡ false
  size : s.link.max_message_size ≡ limit
  fits : AllFit limit ds

goes_quiet : (limit : ℕ) (ds : List Delivery) (unread : List Part) (s t : State) → Quiet s t → Lives limit ds unread s → Lives limit ds unread t
goes_quiet limit ds unread s t q k = record {
  rest = k.rest;
  waits = subst (λ o. Waits o ds (parts_in t.incoming ++ k.rest)) (sym q.buffer) (subst (λ xs. Waits s.buffer ds (parts_in xs ++ k.rest)) (sym q.incoming) k.waits);
  is = λ e. k.is (q.link.attached k.met e);
  met = q.link.met k.met;
  size = q.link.size k.met ∙ k.size;
  fits = k.fits;
}

in_push : (xs : List Incoming) (x : Incoming) (rest : List Part) → parts_in (xs ++ x ∷ []) ++ rest ≡ parts_in xs ++ part_in x ∷ rest
in_push xs x rest = ap (λ ys. ys ++ rest) (map-append part_in xs (x ∷ [])) ∙ append_assoc (parts_in xs) (part_in x ∷ []) rest

-- a Transfer is read
reads : (p : LinkPhase) (limit : ℕ) (ds : List Delivery) (unread : List Part) (x : Transfer) (payload : List ℕ) (s : State) → s.link.phase ≡ p → Lives limit ds (record { transfer = x; payload = payload } ∷ unread) s
    → Lives limit ds unread (transfer_in p x payload s)
reads phase.Attached limit ds unread x payload s e k = record {
  rest = unread;
  waits = subst (λ ys. Waits s.buffer ds ys) (sym (in_push s.incoming (record { transfer = x; payload = payload }) unread)) (subst (λ ys. Waits s.buffer ds (parts_in s.incoming ++ ys)) (k.is (ap link.is_attached e)) k.waits);
  is = λ a. refl;
  met = k.met;
  size = k.size;
  fits = k.fits;
}
reads phase.AttachSent limit ds unread x payload s e k = (let m = k.met in let n = ap link.is_awaited e in absurd cc)
reads phase.DetachExpected limit ds unread x payload s e k = (let m = k.met in let n = ap link.is_awaited e in absurd cc)
reads phase.Refused limit ds unread x payload s e k = (let m = k.met in let n = ap link.is_awaited e in absurd cc)
reads p limit ds unread x payload s e k = lost limit ds _ unread s _ (moves s _ (fixed _ _ (unexpected_moves s.link.phase s.link))) (ap link.is_attached e) k
  where
    lost : (limit : ℕ) (ds : List Delivery) (unread others : List Part) (s t : State) → Quiet s t → link.is_attached s.link.phase ≡ false → Lives limit ds unread s → Lives limit ds others t
    lost limit ds unread others s t q n k = record {
      rest = k.rest;
      waits = subst (λ o. Waits o ds (parts_in t.incoming ++ k.rest)) (sym q.buffer) (subst (λ xs. Waits s.buffer ds (parts_in xs ++ k.rest)) (sym q.incoming) k.waits);
      is = λ e. (let a = q.link.attached k.met e in absurd cc);
      met = q.link.met k.met;
      size = q.link.size k.met ∙ k.size;
      fits = k.fits;
    }

-- the deliveries that a move answers, and what waits behind it
record Tells (limit : ℕ) (ds : List Delivery) (unread : List Part) (xs : List Answer) (t : State) : Type 0 where
  first : List Delivery
  others : List Delivery
  all : ds ≡ first ++ others
  answers : AreAnswers first xs
  lives : Lives limit others unread t

says_nothing : (limit : ℕ) (ds : List Delivery) (unread : List Part) (s t : State) → Quiet s t → Lives limit ds unread s → Tells limit ds unread [] t
says_nothing limit ds unread s t q k = record { first = []; others = ds; all = refl; answers = tt; lives = goes_quiet limit ds unread s t q k }

fits_others : (limit : ℕ) (xs ys : List Delivery) → AllFit limit (xs ++ ys) → AllFit limit ys
fits_others limit [] ys h = h
fits_others limit (x ∷ xs) ys h = fits_others limit xs ys h.1

says_received : (limit : ℕ) (ds : List Delivery) (unread : List Part) (spells : Bool) (s : State) → Lives limit ds unread s → Tells limit ds unread (answered_by s (receives spells)) (after s (receives spells))
says_received limit ds unread spells s k =
    let r = recv s ds k.rest limit k.size k.fits k.waits in
    let t = (received s).state in
    record {
      first = r.first;
      others = r.others;
      all = r.all;
      answers = r.answers;
      lives = goes_quiet limit r.others unread t _ (behind_quiet spells (received s).answer t) (record {
        rest = k.rest;
        waits = r.waits;
        is = λ e. k.is (sym (ap (λ (l : Link). link.is_attached l.phase) r.link) ∙ e);
        met = ap (λ (l : Link). link.is_awaited l.phase) r.link ∙ k.met;
        size = ap (λ (l : Link). l.max_message_size) r.link ∙ k.size;
        fits = fits_others limit r.first r.others (subst (λ xs. AllFit limit xs) r.all k.fits);
      });
    }

says : (limit : ℕ) (ds : List Delivery) (unread : List Part) (s : State) (m : Move) → Lives limit ds (read_by m ++ unread) s → Tells limit ds unread (answered_by s m) (after s m)
says limit ds unread s (receives spells) k = says_received limit ds unread spells s k
says limit ds unread s (disposes infos state) k = says_nothing limit ds unread s _ (disposing_quiet (link.disposal_refusal s.link) (view_of s.book s.link.own.handle) infos state s) k
says limit ds unread s (disposes_by view infos state) k = says_nothing limit ds unread s _ (disposing_quiet (link.disposal_refusal s.link) view infos state s) k
says limit ds unread s (sets_credit credit) k = says_nothing limit ds unread s _ (credit_quiet (link.disposal_refusal s.link) credit s) k
says limit ds unread s (sets_credit_mode mode) k = says_nothing limit ds unread s _ (quiet s _ refl refl refl refl) k
says limit ds unread s (sets_auto_accept value) k = says_nothing limit ds unread s _ (quiet s _ refl refl refl refl) k
says limit ds unread s drains k = says_nothing limit ds unread s _ (drain_quiet (link.disposal_refusal s.link) s) k
says limit ds unread s tells_properties k = says_nothing limit ds unread s _ (told_quiet (link.disposal_refusal s.link) s) k
says limit ds unread s polls k = says_nothing limit ds unread s _ (moves s _ (fixed _ _ (polled_moves s.link))) k
says limit ds unread s (parts closes error) k = says_nothing limit ds unread s _ (moves s _ (fixed _ _ (parting_moves s.link.is_gone s.link.phase s.link.stop_reason closes error s.link))) k
says limit ds unread s abandons k = says_nothing limit ds unread s _ (moves s _ (fixed _ _ (abandoned_moves s.link.phase s.link.stop_reason s.link))) k
says limit ds unread s (reattaches handle) k = says_nothing limit ds unread s _ (moves s _ (fixed _ _ (reattached_moves handle (map_of (unsettled_of s)) None s.link))) k
says limit ds unread s stays k = says_nothing limit ds unread s _ (moves s _ (fixed _ _ (unplaced_moves s.link))) k
says limit ds unread s (hears_attach x) k = says_nothing limit ds unread s _ (attach_quiet x s) k
says limit ds unread s (hears_flow x) k = says_nothing limit ds unread s _ (flow_quiet s.link.phase x s) k
says limit ds unread s (hears_transfer x payload) k = record { first = []; others = ds; all = refl; answers = tt; lives = reads s.link.phase limit ds unread x payload s refl k }
says limit ds unread s (hears_disposition covered settled) k = says_nothing limit ds unread s _ (disposition_quiet covered settled s) k
says limit ds unread s (hears_detach d) k = says_nothing limit ds unread s _ (moves s _ (fixed _ _ (detach_moves s.link.phase d s.link))) k
says limit ds unread s (stops why) k = says_nothing limit ds unread s _ (moves s _ (fixed _ _ (stopped_moves why s.link))) k
says limit ds unread s hands_over k = says_nothing limit ds unread s _ (quiet s _ refl refl refl refl) k

are_both : (ds es : List Delivery) (xs ys : List Answer) → AreAnswers ds xs → AreAnswers es ys → AreAnswers (ds ++ es) (xs ++ ys)
are_both [] es [] ys h k = k
are_both [] es (x ∷ xs) ys h k = absurd h
are_both (d ∷ ds) es [] ys h k = absurd h
are_both (d ∷ ds) es (x ∷ xs) ys h k = (h.0, are_both ds es xs ys h.1 k)

lives : (limit : ℕ) (ds : List Delivery) (later : List Part) (s : State) (ms : List Move) → Lives limit ds (read ms ++ later) s → Answers ds (answered s ms)
lives limit ds later s [] k = record { first = []; others = ds; all = refl; answers = tt }
lives limit ds later s (m ∷ ms) k =
    let one = says limit ds (read ms ++ later) s m (subst (λ ys. Lives limit ds ys s) (append_assoc (read_by m) (read ms) later) k) in
    let more = lives limit one.others later (after s m) ms one.lives in
    record {
      first = one.first ++ more.first;
      others = more.others;
      all = one.all ∙ ap (λ ys. one.first ++ ys) more.all ∙ sym (append_assoc one.first more.first more.others);
      answers = are_both one.first more.first (answered_by s m) (answered (after s m) ms) one.answers more.answers;
    }

pub attached_met : (p : LinkPhase) → link.is_attached p ≡ true → link.is_awaited p ≡ false
attached_met phase.Attached h = refl
attached_met phase.AttachSent h = absurd cc
attached_met phase.DetachExpected h = absurd cc
attached_met phase.Refused h = absurd cc
attached_met p h = refl

pub answers_in_order : AnswersInOrder
answers_in_order s ms ds later r f c =
    lives s.link.max_message_size ds later s ms (record {
      rest = read ms ++ later;
      waits = subst (λ o. Waits o ds (parts_in s.incoming ++ (read ms ++ later))) (sym r.buffer) (subst (λ xs. Carry (map whole_of ds) (parts_in xs ++ (read ms ++ later))) (sym r.waiting) c);
      is = λ e. refl;
      met = attached_met s.link.phase r.attached;
      size = refl;
      fits = f;
    })
