-- From the sender to the receiver.
use Rattle.std.specs.Prelude.{◌≡◌, ℕ, List, [], ◌∷◌, ◌++◌, map, refl}
use Rattle.std.proofs.Common.{sym, ◌∙◌, ap, append_assoc, subst}
use Rattle.std.proofs.lemmas.List.{map-append}
use Rattle.amqp_parts.specs.declared.part.Part.{Part}
use Rattle.amqp_receiver.specs.Receiver.{State as Receiver}
use Rattle.amqp_sender.specs.Sender.{State as Sender}
use Rattle.amqp_session.specs.State.{State as Session}
use Rattle.session_laws.specs.Messages.{Message, Delivery, part_of, whole_of, transfers, on, Carry}
use Rattle.session_laws.specs.Sending as sending
use Rattle.session_laws.specs.Sending.{sent}
use Rattle.session_laws.specs.Holding as session
use Rattle.session_laws.specs.Holding.{Begun}
use Rattle.session_laws.specs.Handing.{inputs, handed_over, heard}
use Rattle.session_laws.specs.Receiving as receiving
use Rattle.session_laws.specs.Receiving.{AllFit, Answers, read, answered}
use Rattle.session_laws.specs.Laws.{MessagesArriveInOrder, Path, message_of}
use Rattle.session_laws.proofs.Sends.{Fits, all_fit, writes_what_is_sent}
use Rattle.session_laws.proofs.Hands.{hands_in_order}
use Rattle.session_laws.proofs.Holds.{leaves_in_order}
use Rattle.session_laws.proofs.Receives.{answers_in_order, attached_met}
use Rattle.session_laws.proofs.Sizes.{limits_agree}

-- what has begun to leave are messages, with their numbers
record Named (begun : List Begun) (xs : List Message) : Type 0 where
  deliveries : List Delivery
  others : List Message
  all : xs ≡ map message_of deliveries ++ others
  same : map session.whole_of begun ≡ map whole_of deliveries

first_same : (p q : Part) (ps qs : List Part) → p ∷ ps ≡ q ∷ qs → p ≡ q
first_same p q ps qs h = cc

rest_same : (p q : Part) (ps qs : List Part) → p ∷ ps ≡ q ∷ qs → ps ≡ qs
rest_same p q ps qs h = cc

one_named : (b : Begun) (x : Message) → b.part ≡ part_of x → session.whole_of b ≡ whole_of (record { number = b.number; message = x })
one_named b x h = ap (λ (p : Part). session.whole_of (record { number = b.number; part = p })) h

named : (begun : List Begun) (rest : List Part) (xs : List Message) → map session.part_of begun ++ rest ≡ map part_of xs → Named begun xs
named [] rest xs h = record { deliveries = []; others = xs; all = refl; same = refl }
named (b ∷ bs) rest [] h = absurd cc
named (b ∷ bs) rest (x ∷ xs) h =
    let d : Delivery = record { number = b.number; message = x } in
    let n = named bs rest xs (rest_same b.part (part_of x) (map session.part_of bs ++ rest) (map part_of xs) h) in
    let e : session.whole_of b ≡ whole_of d = one_named b x (first_same b.part (part_of x) (map session.part_of bs ++ rest) (map part_of xs) h) in
    record {
      deliveries = d ∷ n.deliveries;
      others = n.others;
      all = ap (λ ys. x ∷ ys) n.all;
      same = ap (λ y. y ∷ map session.whole_of bs) e ∙ ap (λ ys. whole_of d ∷ ys) n.same;
    }

fit_deliveries : (limit : ℕ) (ds : List Delivery) (others : List Message) → Fits limit (map message_of ds ++ others) → AllFit limit ds
fit_deliveries limit [] others h = tt
fit_deliveries limit (d ∷ ds) others h = (h.0, fit_deliveries limit ds others h.1)

-- what the session took of the link, and what is left of what the sender wrote
took : (begun : List Begun) (waiting untold asked wrote xs : List Part) → asked ≡ map session.part_of begun ++ waiting → asked ++ untold ≡ wrote → wrote ≡ xs
    → map session.part_of begun ++ (waiting ++ untold) ≡ xs
took begun waiting untold asked wrote xs a t w =
    sym (append_assoc (map session.part_of begun) waiting untold) ∙ (ap (λ (ys : List Part). ys ++ untold) (sym a) ∙ (t ∙ w))

-- what was written of it, where nothing was before
came : (xs unread wrote base parts : List Part) → xs ++ unread ≡ wrote → wrote ≡ base ++ parts → base ≡ [] → xs ++ unread ≡ parts
came xs unread wrote base parts r w e = r ∙ (w ∙ ap (λ (ys : List Part). ys ++ parts) e)

-- what is still to be read, and still to be written
brought : (ds es : List Part) (xs unread parts later : List Part) → ds ≡ es → xs ++ unread ≡ parts → Carry ds (parts ++ later) → Carry es (xs ++ (unread ++ later))
brought ds es xs unread parts later e r c =
    let p : parts ++ later ≡ xs ++ (unread ++ later) = ap (λ (ys : List Part). ys ++ later) (sym r) ∙ append_assoc xs unread later in
    subst (λ (ys : List Part). Carry es ys) p (subst (λ (ys : List Part). Carry ys (parts ++ later)) e c)

-- the messages that are answered, and the others
parted : (xs : List Message) (ds first more : List Delivery) (others : List Message) → xs ≡ map message_of ds ++ others → ds ≡ first ++ more → xs ≡ map message_of first ++ (map message_of more ++ others)
parted xs ds first more others a e =
    a ∙ (ap (λ (ys : List Delivery). map message_of ys ++ others) e
    ∙ (ap (λ (ys : List Message). ys ++ others) (map-append message_of first more) ∙ append_assoc (map message_of first) (map message_of more) others))

-- the messages that have begun to leave, with their numbers, and the parts that were written of them
pub record Leave (handle : ℕ) (s : Sender) (ms : List sending.Move) (t : Session) (ns : List session.Move) : Type 0 where
  pub deliveries : List Delivery
  pub others : List Message
  pub all : sent s ms ≡ map message_of deliveries ++ others
  pub parts : List Part
  pub later : List Part
  pub output : on handle (session.transfers (session.written t ns)) ≡ on handle (session.transfers t.output) ++ parts
  pub carried : Carry (map whole_of deliveries) (parts ++ later)

pub leave : (handle : ℕ) (s : Sender) (ms : List sending.Move) (t : Session) (ns : List session.Move) (u : Session) (js : List session.Move) (r : Receiver) (ks : List receiving.Move) → Path handle s ms t ns u js r ks → Leave handle s ms t ns
leave handle s ms t ns u js r ks p =
    let l = leaves_in_order handle t ns p.unheld p.stays in
    let wrote : transfers (sending.written s ms) ≡ map part_of (sent s ms) = writes_what_is_sent s ms ∙ ap (λ (ys : List Part). ys ++ map part_of (sent s ms)) p.unsent in
    let n = named l.begun (l.waiting ++ p.untold) (sent s ms) (took l.begun l.waiting p.untold (on handle (session.told t ns)) (transfers (sending.written s ms)) (map part_of (sent s ms)) l.first p.takes wrote) in
    record {
      deliveries = n.deliveries;
      others = n.others;
      all = n.all;
      parts = l.parts;
      later = l.later;
      output = l.output;
      carried = subst (λ (ds : List Part). Carry ds (l.parts ++ l.later)) n.same l.carried;
    }

-- what the receiver has read, and what is still to be read of what was heard and written
heard_of : (xs unread given lost got unheard wrote base : List Part) → xs ++ unread ≡ got → got ≡ base ++ given → base ≡ [] → (all : List Part) → given ++ lost ≡ all → all ++ unheard ≡ wrote → xs ++ (unread ++ (lost ++ unheard)) ≡ wrote
heard_of xs unread given lost got unheard wrote base r o e all f h =
    let a : xs ++ unread ≡ given = came xs unread got base given r o e in
    sym (append_assoc xs unread (lost ++ unheard))
    ∙ (ap (λ (ys : List Part). ys ++ (lost ++ unheard)) a ∙ (sym (append_assoc given lost unheard) ∙ (ap (λ (ys : List Part). ys ++ unheard) f ∙ h)))

-- the receiver answers the first of them
pub answer : (handle : ℕ) (s : Sender) (ms : List sending.Move) (t : Session) (ns : List session.Move) (u : Session) (js : List session.Move) (r : Receiver) (ks : List receiving.Move) → Path handle s ms t ns u js r ks
    → (l : Leave handle s ms t ns) → Answers l.deliveries (answered r ks)
answer handle s ms t ns u js r ks p l =
    let g = hands_in_order handle u js p.begun in
    let out = on handle (session.transfers (session.written t ns)) in
    let later = p.unread ++ (g.lost ++ p.unheard) in
    let h : read ks ++ later ≡ out =
    heard_of (read ks) p.unread g.gained g.lost (on handle (inputs (handed_over u js))) p.unheard out (on handle (inputs u.incoming)) p.reads g.output p.unhanded (on handle (session.transfers (heard js))) g.front p.hears in
    let c : read ks ++ later ≡ l.parts = came (read ks) later out (on handle (session.transfers t.output)) l.parts h l.output p.unwritten in
    let fits = all_fit r.link.max_message_size s ms (attached_met s.link.phase p.attached) (limits_agree p.mine p.theirs s.link r.link p.sends_by p.receives_by p.attached p.ready.attached) in
    answers_in_order r ks l.deliveries (later ++ l.later) p.ready
    (fit_deliveries r.link.max_message_size l.deliveries l.others (subst (λ (ys : List Message). Fits r.link.max_message_size ys) l.all fits))
    (brought (map whole_of l.deliveries) (map whole_of l.deliveries) (read ks) later l.parts l.later refl c l.carried)

pub messages_arrive_in_order : MessagesArriveInOrder
messages_arrive_in_order handle s ms t ns u js r ks p =
    let l = leave handle s ms t ns u js r ks p in
    let a = answer handle s ms t ns u js r ks p l in
    record { deliveries = a.first; others = map message_of a.others ++ l.others; all = parted (sent s ms) l.deliveries a.first a.others l.others l.all a.all; answers = a.answers }
