-- From the sender to the receiver, where both links have one limit of messages.
use Rattle.std.specs.Prelude.{◌≡◌, ℕ, List, [], ◌∷◌, ◌++◌, map, refl}
use Rattle.std.proofs.Common.{sym, ◌∙◌, ap, append_assoc, subst}
use Rattle.std.proofs.lemmas.List.{map-append}
use Rattle.amqp_parts.specs.declared.part.Part.{Part}
use Rattle.session_laws.specs.Messages.{Message, Delivery, part_of, whole_of, transfers, on, Carry}
use Rattle.session_laws.specs.Sending as sending
use Rattle.session_laws.specs.Sending.{sent}
use Rattle.session_laws.specs.Holding as session
use Rattle.session_laws.specs.Holding.{Begun, AllStay}
use Rattle.session_laws.specs.Handing.{inputs, handed_over, heard}
use Rattle.session_laws.specs.Receiving.{AllFit, read}
use Rattle.session_laws.specs.Laws.{message_of}
use Rattle.first_messages.specs.Arriving.{MessagesArriveWithin}
use Rattle.session_laws.proofs.Sends.{Fits, all_fit, writes_what_is_sent}
use Rattle.session_laws.proofs.Hands.{hands_in_order}
use Rattle.session_laws.proofs.Holds.{leaves_in_order}
use Rattle.session_laws.proofs.Receives.{answers_in_order, attached_met}

-- what has begun to leave are messages, with their numbers
record Named (begun : List Begun) (xs : List Message) : Type 0 where
  deliveries : List Delivery
  others : List Message
  all : xs ≡ map message_of deliveries ++ others
  same : map session.whole_of begun ≡ map whole_of deliveries

first_same : (p q : Part) (ps qs : List Part) → p ∷ ps ≡ q ∷ qs → p ≡ q
first_same p q ps qs h = cc

rest_same : (p q : Part) (ps qs : List Part) → p ∷ ps ≡ q ∷ qs → ps ≡ qs
rest_same p q ps qs h = cc

one_named : (b : Begun) (x : Message) → b.part ≡ part_of x → session.whole_of b ≡ whole_of (record { number = b.number; message = x })
one_named b x h = ap (λ (p : Part). session.whole_of (record { number = b.number; part = p })) h

named : (begun : List Begun) (rest : List Part) (xs : List Message) → map session.part_of begun ++ rest ≡ map part_of xs → Named begun xs
named [] rest xs h = record { deliveries = []; others = xs; all = refl; same = refl }
named (b ∷ bs) rest [] h = absurd cc
named (b ∷ bs) rest (x ∷ xs) h =
    let d : Delivery = record { number = b.number; message = x } in
    let n = named bs rest xs (rest_same b.part (part_of x) (map session.part_of bs ++ rest) (map part_of xs) h) in
    let e : session.whole_of b ≡ whole_of d = one_named b x (first_same b.part (part_of x) (map session.part_of bs ++ rest) (map part_of xs) h) in
    record {
      deliveries = d ∷ n.deliveries;
      others = n.others;
      all = ap (λ ys. x ∷ ys) n.all;
      same = ap (λ y. y ∷ map session.whole_of bs) e ∙ ap (λ ys. whole_of d ∷ ys) n.same;
    }

fit_deliveries : (limit : ℕ) (ds : List Delivery) (others : List Message) → Fits limit (map message_of ds ++ others) → AllFit limit ds
fit_deliveries limit [] others h = tt
fit_deliveries limit (d ∷ ds) others h = (h.0, fit_deliveries limit ds others h.1)

-- one list behind another, of which the second is known in two ways
joined_as : (xs ys zs whole : List Part) → xs ++ ys ≡ zs → (more : List Part) → zs ++ more ≡ whole → xs ++ (ys ++ more) ≡ whole
joined_as xs ys zs whole e more f = sym (append_assoc xs ys more) ∙ (ap (λ (vs : List Part). vs ++ more) e ∙ f)

behind_none : (xs base parts : List Part) → xs ≡ base ++ parts → base ≡ [] → xs ≡ parts
behind_none xs base parts e n = e ∙ ap (λ (vs : List Part). vs ++ parts) n

-- the messages that are answered, and the others
parted : (xs : List Message) (ds first more : List Delivery) (others : List Message) → xs ≡ map message_of ds ++ others → ds ≡ first ++ more → xs ≡ map message_of first ++ (map message_of more ++ others)
parted xs ds first more others a e =
    a ∙ (ap (λ (ys : List Delivery). map message_of ys ++ others) e
    ∙ (ap (λ (ys : List Message). ys ++ others) (map-append message_of first more) ∙ append_assoc (map message_of first) (map message_of more) others))

pub messages_arrive_within : MessagesArriveWithin
messages_arrive_within handle s ms t ns u js r ks p =
    let l = leaves_in_order handle t ns p.has_none.held p.stays in
    let wrote : transfers (sending.written s ms) ≡ map part_of (sent s ms) = writes_what_is_sent s ms ∙ ap (λ (ys : List Part). ys ++ map part_of (sent s ms)) p.unsent in
    let begun : map session.part_of l.begun ++ (l.waiting ++ p.untold) ≡ map part_of (sent s ms) =
    joined_as (map session.part_of l.begun) l.waiting (on handle (session.told t ns)) (map part_of (sent s ms)) (sym l.first) p.untold (p.takes ∙ wrote) in
    let n = named l.begun (l.waiting ++ p.untold) (sent s ms) begun in
    let g = hands_in_order handle u js p.begun in
    let out = on handle (session.transfers (session.written t ns)) in
    let gave : read ks ++ p.unread ≡ g.gained = p.reads ∙ behind_none (on handle (inputs (handed_over u js))) (on handle (inputs u.incoming)) g.gained g.output p.unhanded in
    let later = p.unread ++ (g.lost ++ p.unheard) in
    let came : read ks ++ later ≡ out =
    joined_as (read ks) p.unread g.gained out gave (g.lost ++ p.unheard) (joined_as g.gained g.lost (on handle (session.transfers (heard js))) out g.front p.unheard p.hears) in
    let parts : read ks ++ later ≡ l.parts = came ∙ behind_none out (on handle (session.transfers t.output)) l.parts l.output p.has_none.output in
    let fits = all_fit r.link.max_message_size s ms (attached_met s.link.phase p.attached) p.limit in
    let fit = fit_deliveries r.link.max_message_size n.deliveries n.others (subst (λ (ys : List Message). Fits r.link.max_message_size ys) n.all fits) in
    let carried : Carry (map whole_of n.deliveries) (l.parts ++ l.later) = subst (λ (ds : List Part). Carry ds (l.parts ++ l.later)) n.same l.carried in
    let left : l.parts ++ l.later ≡ read ks ++ (later ++ l.later) = ap (λ (ys : List Part). ys ++ l.later) (sym parts) ∙ append_assoc (read ks) later l.later in
    let a = answers_in_order r ks n.deliveries (later ++ l.later) p.ready fit (subst (λ (ys : List Part). Carry (map whole_of n.deliveries) ys) left carried) in
    record { deliveries = a.first; others = map message_of a.others ++ n.others; all = parted (sent s ms) n.deliveries a.first a.others n.others n.all a.all; answers = a.answers }
