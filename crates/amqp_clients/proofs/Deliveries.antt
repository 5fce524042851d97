-- What follows of runs in which messages are sent and received.
use Rattle.std.proofs.Common.{◌≡◌, ◌∙◌, ℕ, ◌+◌, ◌<◌, ◌≤◌, length, take, get_or, Bool, true, false, if◌then◌else◌, List, [], ◌∷◌, ◌++◌, Option, Some, None, refl, sym, ap, subst, inl, inr, zero, suc, add-one, arith}
use Rattle.std.proofs.lemmas.List.{take_more}
use Rattle.std.specs.Prelude.{IfSome}
use Rattle.list_laws.specs.Told.{Gains}
use Rattle.amqp_wire.specs.Link.{Rose}
use Rattle.amqp_wire.specs.declared.link.Link.{Ghosts}
use Rattle.amqp_calls.specs.declared.call.Call.{Call}
use Rattle.amqp_calls.specs.declared.reply.Reply.{Reply}
use Rattle.amqp_end.specs.declared.end.End.{End}
use Rattle.amqp_link_words.specs.declared.link_call.Sendable.{Sendable}
use Rattle.amqp_served_calls.specs.Calls.{recv_call, accept_delivery_call, send_call, outcome_call, IsStringMessage}
use Rattle.amqp_serve.specs.Answers.{HasAnswer}
use Rattle.amqp_serve.specs.Ran.{Turn, Ran, told, Makes, RanOn, RanSilently, AskedNow, Settled, Left}
use Rattle.amqp_serve.proofs.Runs.{told_append, ran_then, ran_none, ran_on, ran_asked_now, makes_before, makes_behind, has_before, has_behind, last_has}
use Rattle.amqp_clients.specs.Bodies.{line_in}
use Rattle.amqp_clients.specs.declared.receiving.ReceiveFailure.{ReceiveFailure}
use Rattle.amqp_clients.specs.declared.receiving.ReceiveFailure.TheVariants as failure
use Rattle.amqp_clients.specs.Delivered.{IsCause, is_accepted, refusals, DeliveredOne, Delivered, GaveMessage, Gave, IsLine, AcceptedBy, Got, GotAll, Received, SentAndLeft, WritesLines}

-- ---- messages that are sent

delivered_as : {L : Type 0} (link : Ghosts L) (a b : End L) (sender : ℕ) (text : List ℕ) (message : Sendable) (reply : Reply) (accepted : Bool) → IsStringMessage text message → Settled link a b sender message reply → accepted ≡ is_accepted reply → DeliveredOne link a b text (if accepted then 0 else 1)
delivered_as link a b sender text message reply accepted is x answer =
    record { sender = sender; message = message; is = is; outcome = reply; settled = x; counted = ap (λ (c : Bool). if c then 0 else 1) answer }

-- with the message that was made for that text
pub delivered_by : {L : Type 0} (link : Ghosts L) (a b : End L) (sender : ℕ) (given text : List ℕ) (found : Option Sendable) (message : Sendable) (reply : Reply) (accepted : Bool) → given ≡ text → IfSome found (IsStringMessage given) → found ≡ Some message → Settled link a b sender message reply → accepted ≡ is_accepted reply → DeliveredOne link a b text (if accepted then 0 else 1)
delivered_by link a b sender given text found message reply accepted e is made x answer =
    let of_given = subst (λ (m : Option Sendable). IfSome m (IsStringMessage given)) made is in
    delivered_as link a b sender text message reply accepted (subst (λ (t : List ℕ). IsStringMessage t message) e of_given) x answer

settled_behind : {L : Type 0} (link : Ghosts L) (a b c : End L) (sender : ℕ) (message : Sendable) (reply : Reply) → RanOn link a b → Settled link b c sender message reply → Settled link a c sender message reply
settled_behind link a b c sender message reply x y = record {
  turns = y.turns ++ x.turns;
  ran = ran_then link a b c x.turns y.turns x.ran y.ran;
  name = y.name;
  sends = makes_behind y.name (send_call sender message) y.turns x.turns y.sends;
  reply = y.reply;
  answered = rw (told_append y.turns x.turns) (has_behind y.name y.reply (told x.turns) (told y.turns) y.answered);
  sent = y.sent;
  asking = y.asking;
  asks = makes_behind y.asking (outcome_call y.name) y.turns x.turns y.asks;
  told_so = rw (told_append y.turns x.turns) (has_behind y.asking reply (told x.turns) (told y.turns) y.told_so);
  kind = y.kind;
}

one_behind : {L : Type 0} (link : Ghosts L) (a b c : End L) (text : List ℕ) (n : ℕ) → RanOn link a b → DeliveredOne link b c text n → DeliveredOne link a c text n
one_behind link a b c text n x y = record {
  sender = y.sender;
  message = y.message;
  is = y.is;
  outcome = y.outcome;
  settled = settled_behind link a b c y.sender y.message y.outcome x y.settled;
  counted = y.counted;
}

pub delivered_none : {L : Type 0} (link : Ghosts L) (a : End L) → Delivered link a [] 0 a
unfolding Delivered
delivered_none link a = (ran_none link a, refl)

-- one more
delivered_snoc : {L : Type 0} (link : Ghosts L) (a b c : End L) (texts : List (List ℕ)) (text : List ℕ) (r s : ℕ) → Delivered link a texts r b → DeliveredOne link b c text s → Delivered link a (texts ++ text ∷ []) (r + s) c
unfolding Delivered
delivered_snoc link a b c [] text r s x y = (c, s, 0, one_behind link a b c text s x.0 y, (ran_none link c, refl), omega (arith, x.1))
delivered_snoc link a b c (t ∷ ts) text r s x y =
    (x.0, x.1, x.2 + s, x.3, delivered_snoc link x.0 b c ts text x.2 s x.4 y, omega (arith, x.5))

-- one more of the list
pub delivered_next : {L : Type 0} (link : Ghosts L) (a b c : End L) (texts : List (List ℕ)) (text : List ℕ) (i r s t : ℕ) → i < length texts → text ≡ get_or texts i text → Delivered link a (take i texts) r b → DeliveredOne link b c text s → t ≡ r + s → Delivered link a (take (i + 1) texts) t c
delivered_next link a b c texts text i r s t lt is x y n =
    let front : take (i + 1) texts ≡ take i texts ++ text ∷ [] = take_more texts i text lt ∙ ap (λ (z : List ℕ). take i texts ++ z ∷ []) (sym is) in
    subst (λ (l : List (List ℕ)). Delivered link a l t c) (sym front)
    (subst (λ (k : ℕ). Delivered link a (take i texts ++ text ∷ []) k c) (sym n) (delivered_snoc link a b c (take i texts) text r s x y))

-- behind a run without messages
pub delivered_on : {L : Type 0} (link : Ghosts L) (a b c : End L) (texts : List (List ℕ)) (r : ℕ) → RanOn link a b → Delivered link b texts r c → Delivered link a texts r c
unfolding Delivered
delivered_on link a b c [] r x y = (ran_on link a b c x y.0, y.1)
delivered_on link a b c (t ∷ ts) r x y = (y.0, y.1, y.2, one_behind link a b y.0 t y.1 x y.3, y.4, y.5)

pub at_most_one : (b : Bool) → (if b then 0 else 1) ≤ 1
at_most_one true = omega arith
at_most_one false = omega arith

pub sent_and_left : {L : Type 0} (link : Ghosts L) (a b c d e : End L) (texts : List (List ℕ)) (r : ℕ) → RanOn link a b → RanOn link b c → Delivered link c texts r d → Left link d e → SentAndLeft link a e texts r
sent_and_left link a b c d e texts r x y z left =
    record { between = d; delivered = delivered_on link a c d texts r (ran_on link a b c x y) z; left = left }

-- ---- messages that are received

pub gave_message : {L : Type 0} (link : Ghosts L) (a b : End L) (receiver name : ℕ) (answer : Option Reply) (reply : Reply) (line : List ℕ) → AskedNow link a b name (recv_call receiver) answer → answer ≡ Some reply → line_in reply ≡ Some line → GaveMessage link a b receiver name line
gave_message link a b receiver name answer reply line x is has = record {
  turns = x.asked.turns;
  ran = x.asked.ran;
  asks = x.makes;
  reply = reply;
  answered = last_has name (told x.asked.turns) reply (sym x.asked.said ∙ is);
  is = has;
}

-- the same where there is a line, else an end ran
pub gave_by : {L : Type 0} (link : Ghosts L) (a b : End L) (receiver name : ℕ) (call : Call) (answer : Option Reply) (reply : Reply) (line : List ℕ) (found : Bool) → call ≡ recv_call receiver → AskedNow link a b name call answer → answer ≡ Some reply → IsLine reply line found → Gave link a b receiver name line found
gave_by link a b receiver name call answer reply line false e x is has = ran_asked_now link a b name call answer x
gave_by link a b receiver name call answer reply line true e x is has =
    gave_message link a b receiver name answer reply line (subst (λ (k : Call). AskedNow link a b name k answer) e x) is has

-- behind a run without messages
pub gave_on : {L : Type 0} (link : Ghosts L) (a b c : End L) (receiver name : ℕ) (line : List ℕ) → RanOn link a b → GaveMessage link b c receiver name line → GaveMessage link a c receiver name line
gave_on link a b c receiver name line x y = record {
  turns = y.turns ++ x.turns;
  ran = ran_then link a b c x.turns y.turns x.ran y.ran;
  asks = makes_behind name (recv_call receiver) y.turns x.turns y.asks;
  reply = y.reply;
  answered = rw (told_append y.turns x.turns) (has_behind name y.reply (told x.turns) (told y.turns) y.answered);
  is = y.is;
}

pub accepted_by : {L : Type 0} (link : Ghosts L) (a b c : End L) (receiver delivery name : ℕ) (answer : Option Reply) → AskedNow link a b name (accept_delivery_call receiver delivery) answer → RanSilently link b c → AcceptedBy link a c receiver delivery
accepted_by link a b c receiver delivery name answer x y = record {
  turns = y.turns ++ x.asked.turns;
  ran = ran_then link a b c x.asked.turns y.turns x.asked.ran y.ran;
  name = name;
  accepts = makes_before name (accept_delivery_call receiver delivery) y.turns x.asked.turns x.makes;
}

pub got_by : {L : Type 0} (link : Ghosts L) (a b c : End L) (receiver name : ℕ) (line : List ℕ) (w v : Option (List ℕ)) → GaveMessage link a b receiver name line → Gains w v line → AcceptedBy link b c receiver name → Got link a c receiver w v
got_by link a b c receiver name line w v x wrote y = record { name = name; line = line; between = b; gave = x; wrote = wrote; accepted = y }

pub got_none : {L : Type 0} (link : Ghosts L) (a : End L) (receiver : ℕ) (w : Option (List ℕ)) → GotAll link a receiver w 0 a w
unfolding GotAll
got_none link a receiver w = (ran_none link a, refl)

-- one more, behind a run without messages
pub got_more : {L : Type 0} (link : Ghosts L) (a b c d : End L) (receiver : ℕ) (w u v : Option (List ℕ)) (n : ℕ) → GotAll link a receiver w n b u → RanOn link b c → Got link c d receiver u v → GotAll link a receiver w (n + 1) d v
unfolding GotAll
got_more link a b c d receiver w u v n x y z =
    subst (λ (k : ℕ). GotAll link a receiver w k d v) (sym (add-one n))
    (b, u, x, record { name = z.name; line = z.line; between = z.between; gave = gave_on link b c z.between receiver z.name z.line y z.gave; wrote = z.wrote; accepted = z.accepted })

-- behind a run without messages
got_on : {L : Type 0} (link : Ghosts L) (a b c : End L) (receiver : ℕ) (w v : Option (List ℕ)) (n : ℕ) → RanOn link a b → GotAll link b receiver w n c v → GotAll link a receiver w n c v
unfolding GotAll
got_on link a b c receiver w v zero x y = (ran_on link a b c x y.0, y.1)
got_on link a b c receiver w v (suc n) x y = (y.0, y.1, got_on link a b y.0 receiver w y.1 n x y.2, y.3)

pub received_by : {L : Type 0} (link : Ghosts L) (a b c d e : End L) (receiver : ℕ) (w v : Option (List ℕ)) (n : ℕ) → RanOn link a b → RanOn link b c → GotAll link c receiver w n d v → Left link d e → Received link a e n w v
received_by link a b c d e receiver w v n x y z left =
    record { receiver = receiver; between = d; got = got_on link a c d receiver w v n (ran_on link a b c x y) z; left = left }

-- what was written of them
lines_in : {L : Type 0} (link : Ghosts L) (a b : End L) (receiver : ℕ) (w v : Option (List ℕ)) (n : ℕ) → GotAll link a receiver w n b v → WritesLines n w v
unfolding GotAll WritesLines
lines_in link a b receiver w v zero x = x.1
lines_in link a b receiver w v (suc n) x = (x.1, x.3.gave.reply, x.3.line, lines_in link a x.0 receiver w x.1 n x.2, x.3.gave.is, x.3.wrote)

pub lines_of : {L : Type 0} (link : Ghosts L) (a b : End L) (w v : Option (List ℕ)) (n : ℕ) → Received link a b n w v → WritesLines n w v
lines_of link a b w v n x = lines_in link a x.between x.receiver w v n x.got

-- ---- why runs go no further

rose_since : (a b c : ℕ) → a ≤ b → Rose b c → Rose a c
rose_since a b c h (inl x) = inl (omega arith)
rose_since a b c h (inr x) = inr x

-- a cause that came behind others
pub cause_since : (a b c : ℕ) (why : ReceiveFailure) → a ≤ b → IsCause b c why → IsCause a c why
cause_since a b c failure.Sink h x = rose_since a b c h x
cause_since a b c (failure.End why) h x = x
