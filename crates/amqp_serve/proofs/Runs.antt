-- What follows of turns that are taken one after another.
use Rattle.std.proofs.Common.{◌≡◌, ◌∙◌, ℕ, ◌+◌, ◌≤◌, ◌==◌, Bool, true, false, if◌then◌else◌, List, [], ◌∷◌, ◌++◌, Option, Some, None, refl, sym, ap, subst, inl, inr, append_assoc, zero, suc, zero-add, add-one, arith}
use Rattle.std.proofs.lemmas.Bool.Decides.{nat_tests}
use Rattle.std.proofs.lemmas.List.{append-nil}
use Rattle.amqp_wire.specs.declared.link.Link.{Ghosts}
use Rattle.amqp_calls.specs.declared.call.Call.{Call}
use Rattle.amqp_calls.specs.declared.reply.NamedReply.{NamedReply}
use Rattle.amqp_calls.specs.declared.reply.Reply.{Reply}
use Rattle.amqp_end.specs.Asks.{MayAsk}
use Rattle.amqp_end.specs.Goes.{Goes, on_connection, on_links}
use Rattle.amqp_end.specs.declared.end.End.{End}
use Rattle.amqp_frames.specs.declared.shared.ConnectionStopReason.{ConnectionStopReason}
use Rattle.amqp_peer.specs.Held.{reason_of}
use Rattle.amqp_peer.specs.Peering.{link_of, with_link_of}
use Rattle.amqp_served_news.specs.News.{news_of_lem}
use Rattle.amqp_served.specs.Served.{counted, owed_made}
use Rattle.amqp_served.specs.declared.news.News.{News}
use Rattle.amqp_served.specs.declared.news.News.TheVariants as news
use Rattle.amqp_served.specs.declared.served.Act.{Act}
use Rattle.amqp_served.specs.declared.served.Act.TheVariants as act
use Rattle.amqp_served.specs.declared.served.Served.{Served}
use Rattle.amqp_link_words.specs.declared.link_call.Sendable.{Sendable}
use Rattle.amqp_served_calls.specs.Calls.{accept_delivery_call, send_call, outcome_call, close_call, IsStringMessage}
use Rattle.amqp_serve.specs.Acts.{call_for}
use Rattle.amqp_serve.specs.Endings.{WasServed}
use Rattle.amqp_serve.specs.declared.answers.AnswerKind.TheVariants.{Granted}
use Rattle.amqp_serve.specs.Answers.{kind_of, or_else, answer_in, last_answer, HasAnswer, counted_all, is_sent, is_outcome, is_closing}
use Rattle.amqp_serve.specs.Ran.{Waited, WaitedFor, IsStopped, Took, Forgot, Turn, calls, polls, waits, tells, forgets, Ran, told, is_accept, accepts, Called, IsClosed, RanSilently, Makes, RanOn, Asked, AskedNow, Waits, Answered, SentBy, Settled, SentAll, Left, ConnectedWith, Connected, Heard}

-- ---- lists of answers

or_none : (x : Option Reply) → or_else x None ≡ x
or_none (Some x) = refl
or_none None = refl

or_assoc : (x y z : Option Reply) → or_else (or_else x y) z ≡ or_else x (or_else y z)
or_assoc (Some x) y z = refl
or_assoc None y z = refl

pub last_append : (name : ℕ) (xs ys : List NamedReply) → last_answer name (xs ++ ys) ≡ or_else (last_answer name ys) (last_answer name xs)
unfolding last_answer
last_append name [] ys = sym (or_none (last_answer name ys))
last_append name (x ∷ xs) ys =
    ap (λ (r : Option Reply). or_else r (answer_in name x)) (last_append name xs ys) ∙ or_assoc (last_answer name ys) (last_answer name xs) (answer_in name x)

-- one more answer
pub last_more : (name : ℕ) (xs : List NamedReply) (x : NamedReply) → last_answer name (xs ++ x ∷ []) ≡ or_else (answer_in name x) (last_answer name xs)
unfolding last_answer
last_more name xs x = last_append name xs (x ∷ [])

picked_by : (name : ℕ) (xs : List NamedReply) (x : NamedReply) (b : Bool) → (x.name == name) ≡ b → last_answer name (xs ++ x ∷ []) ≡ or_else (if b then Some x.reply else None) (last_answer name xs)
picked_by name xs x b h = last_more name xs x ∙ ap (λ (c : Bool). or_else (if c then Some x.reply else None) (last_answer name xs)) h

are_equal : (a b : ℕ) → a ≡ b → (a == b) ≡ true
are_equal a b h = grind (arith, nat_tests)

are_same : (a b : ℕ) → (a == b) ≡ true → a ≡ b
are_same a b h = grind (arith, nat_tests)

are_not : (a b : ℕ) → (a ≡ b → ⊥) → (a == b) ≡ false
are_not a b h = grind (arith, nat_tests)

-- one more, to the call of that name
pub answer_found : (name : ℕ) (xs : List NamedReply) (x : NamedReply) → x.name ≡ name → Some x.reply ≡ last_answer name (xs ++ x ∷ [])
answer_found name xs x h = sym (picked_by name xs x true (are_equal x.name name h))

-- one more, to another
pub answer_kept : (name : ℕ) (xs : List NamedReply) (x : NamedReply) (answer : Option Reply) → (x.name ≡ name → ⊥) → answer ≡ last_answer name xs → answer ≡ last_answer name (xs ++ x ∷ [])
answer_kept name xs x answer h before = before ∙ sym (picked_by name xs x false (are_not x.name name h))

pub counted_append : (xs ys : List NamedReply) (n : ℕ) → counted_all (xs ++ ys) n ≡ counted_all ys (counted_all xs n)
unfolding counted_all
counted_append [] ys n = refl
counted_append (x ∷ xs) ys n = counted_append xs ys (counted (news_of_lem x.reply) n)

-- one more answer
pub counted_more : (xs : List NamedReply) (x : NamedReply) (n : ℕ) → counted_all (xs ++ x ∷ []) n ≡ counted (news_of_lem x.reply) (counted_all xs n)
unfolding counted_all
counted_more xs x n = counted_append xs (x ∷ []) n

picked : (b : Bool) (y r : Reply) → (if b then Some y else None) ≡ Some r → y ≡ r
picked true y r e = (cc)
picked false y r e = (cc)

is_picked : (b : Bool) (y r : Reply) → (if b then Some y else None) ≡ Some r → b ≡ true
is_picked true y r e = refl
is_picked false y r e = (cc)

-- an answer that is told is one of them
has_at : (name : ℕ) (x : NamedReply) (r : Reply) → answer_in name x ≡ Some r → (x.name ≡ name) × (x.reply ≡ r)
has_at name x r e = (are_same x.name name (is_picked (x.name == name) x.reply r e), picked (x.name == name) x.reply r e)

has_step : (name : ℕ) (x : NamedReply) (xs : List NamedReply) (z : Option Reply) (r : Reply) → ((y : Reply) → z ≡ Some y → HasAnswer name y xs) → or_else z (answer_in name x) ≡ Some r → HasAnswer name r (x ∷ xs)
unfolding HasAnswer
has_step name x xs (Some y) r before e = let is : y ≡ r = (cc) in inr (before r (ap (λ (v : Reply). Some v) is))
has_step name x xs None r before e = inl (has_at name x r e)

-- the last answer is one of them
pub last_has : (name : ℕ) (xs : List NamedReply) (r : Reply) → last_answer name xs ≡ Some r → HasAnswer name r xs
unfolding last_answer
last_has name [] r e = (cc)
last_has name (x ∷ xs) r e = has_step name x xs (last_answer name xs) r (λ y is. last_has name xs y is) e

pub has_before : (name : ℕ) (r : Reply) (xs ys : List NamedReply) → HasAnswer name r xs → HasAnswer name r (xs ++ ys)
unfolding HasAnswer
has_before name r [] ys h = absurd h
has_before name r (x ∷ xs) ys (inl h) = inl h
has_before name r (x ∷ xs) ys (inr h) = inr (has_before name r xs ys h)

pub has_behind : (name : ℕ) (r : Reply) (xs ys : List NamedReply) → HasAnswer name r ys → HasAnswer name r (xs ++ ys)
unfolding HasAnswer
has_behind name r [] ys h = h
has_behind name r (x ∷ xs) ys h = inr (has_behind name r xs ys h)

-- ---- turns

no_reason : (why : ConnectionStopReason) (r : Option ConnectionStopReason) → None ≡ r → r ≡ Some why → ⊥
no_reason why r none some = (cc)

pub told_append : (us ts : List Turn) → told (us ++ ts) ≡ told ts ++ told us
unfolding told
told_append [] ts = sym (append-nil (told ts))
told_append (calls name call ∷ us) ts = told_append us ts
told_append (polls ∷ us) ts = told_append us ts
told_append (waits ∷ us) ts = told_append us ts
told_append (tells rs ∷ us) ts = ap (λ (l : List NamedReply). l ++ rs) (told_append us ts) ∙ append_assoc (told ts) (told us) rs
told_append (forgets name ∷ us) ts = told_append us ts

-- calls made before and behind others
pub makes_before : (name : ℕ) (call : Call) (us ts : List Turn) → Makes name call ts → Makes name call (us ++ ts)
unfolding Makes
makes_before name call [] ts h = h
makes_before name call (calls n c ∷ us) ts h = inr (makes_before name call us ts h)
makes_before name call (polls ∷ us) ts h = makes_before name call us ts h
makes_before name call (waits ∷ us) ts h = makes_before name call us ts h
makes_before name call (tells rs ∷ us) ts h = makes_before name call us ts h
makes_before name call (forgets n ∷ us) ts h = makes_before name call us ts h

pub makes_behind : (name : ℕ) (call : Call) (us ts : List Turn) → Makes name call us → Makes name call (us ++ ts)
unfolding Makes
makes_behind name call [] ts h = absurd h
makes_behind name call (calls n c ∷ us) ts (inl h) = inl h
makes_behind name call (calls n c ∷ us) ts (inr h) = inr (makes_behind name call us ts h)
makes_behind name call (polls ∷ us) ts h = makes_behind name call us ts h
makes_behind name call (waits ∷ us) ts h = makes_behind name call us ts h
makes_behind name call (tells rs ∷ us) ts h = makes_behind name call us ts h
makes_behind name call (forgets n ∷ us) ts h = makes_behind name call us ts h

pub ran_then : {L : Type 0} (link : Ghosts L) (a b c : End L) (ts us : List Turn) → Ran link a ts b → Ran link b us c → Ran link a (us ++ ts) c
unfolding Ran
ran_then {L} link a b c ts [] x y = subst (λ (z : End L). Ran link a ts z) (sym y) x
ran_then link a b c ts (u ∷ us) x y = (y.0, ran_then link a b y.0 ts us x y.1, y.2)

pub waited_for : {L : Type 0} (link : Ghosts L) (a b : End L) (w : L) → b ≡ record a { connection = with_link_of a.connection w } → ((d : L) → Waited link (link_of d a.connection) w) → WaitedFor link a b
waited_for link a b w e h = record { after = w; rest = e; waited = h }

pub stopped_by : {L : Type 0} (e : End L) (why : ConnectionStopReason) → Some why ≡ reason_of e.connection.held → IsStopped e
stopped_by e why is = record { why = why; is = sym is }

pub not_stopped : {L : Type 0} (e : End L) → None ≡ reason_of e.connection.held → IsStopped e → ⊥
not_stopped e is s = no_reason s.why (reason_of e.connection.held) is s.is

pub silent_none : {L : Type 0} (link : Ghosts L) (a : End L) → RanSilently link a a
unfolding Ran told
silent_none link a = record { turns = []; ran = refl; silent = refl }

pub silent_on : {L : Type 0} (link : Ghosts L) (a b c : End L) (at : ℕ) → WaitedFor link a b → Goes link at None [] [] b c → RanSilently link a c
unfolding Ran told
silent_on link a b c at w g = record { turns = polls ∷ waits ∷ []; ran = (b, (a, refl, w), (at, g)); silent = refl }

pub silent_forgot : {L : Type 0} (link : Ghosts L) (a b : End L) (name : ℕ) → Forgot name a b → RanSilently link a b
unfolding Ran told
silent_forgot link a b name f = record { turns = forgets name ∷ []; ran = (a, refl, f); silent = refl }

pub asked_now : {L : Type 0} (link : Ghosts L) (a b c : End L) (name at : ℕ) (call : Call) (rs : List NamedReply) (answer : Option Reply) → MayAsk a name call → Goes link at (Some name) (on_connection name call) (on_links name call) (record a { last = Some name }) b → Took b c → rs ≡ b.replies.items → answer ≡ last_answer name rs → AskedNow link a c name call answer
unfolding Ran told Makes
asked_now link a b c name at call rs answer may g t e is = record {
  asked = record { turns = tells rs ∷ calls name call ∷ []; ran = (b, (a, refl, (may, at, g)), (e, t)); said = is };
  makes = inl (refl, refl);
}

pub asked_later : {L : Type 0} (link : Ghosts L) (a b c : End L) (name : ℕ) (rs : List NamedReply) (answer : Option Reply) → RanSilently link a b → Took b c → rs ≡ b.replies.items → answer ≡ last_answer name rs → Asked link a c name answer
unfolding Ran told
asked_later link a b c name rs answer s t e is = record {
  turns = tells rs ∷ s.turns;
  ran = (b, s.ran, (e, t));
  said = is ∙ ap (λ (l : List NamedReply). last_answer name (l ++ rs)) (sym s.silent);
}

pub waits_first : {L : Type 0} (link : Ghosts L) (a b : End L) (name : ℕ) (call : Call) (answer : Option Reply) → AskedNow link a b name call answer → Waits link a b name call answer
waits_first link a b name call answer x = record { turns = x.asked.turns; ran = x.asked.ran; makes = x.makes; said = λ reply e. sym x.asked.said ∙ e }

waits_by : (name : ℕ) (xs ys : List NamedReply) (answer : Option Reply) (reply : Reply) → answer ≡ last_answer name ys → answer ≡ Some reply → last_answer name (xs ++ ys) ≡ Some reply
waits_by name xs ys answer reply e is = last_append name xs ys ∙ ap (λ (r : Option Reply). or_else r (last_answer name xs)) (sym e ∙ is)

pub waits_more : {L : Type 0} (link : Ghosts L) (a b c : End L) (name : ℕ) (call : Call) (before answer : Option Reply) → Waits link a b name call before → Asked link b c name answer → Waits link a c name call answer
waits_more link a b c name call before answer x y = record {
  turns = y.turns ++ x.turns;
  ran = ran_then link a b c x.turns y.turns x.ran y.ran;
  makes = makes_before name call y.turns x.turns x.makes;
  said = λ reply is. ap (λ (l : List NamedReply). last_answer name l) (told_append y.turns x.turns) ∙ waits_by name (told x.turns) (told y.turns) answer reply y.said is;
}

pub answered_by : {L : Type 0} (link : Ghosts L) (a b : End L) (name : ℕ) (call : Call) (answer : Option Reply) (reply : Reply) → Waits link a b name call answer → answer ≡ Some reply → kind_of reply ≡ Granted → Answered link a b name call reply
answered_by link a b name call answer reply x is kind = record { turns = x.turns; ran = x.ran; makes = x.makes; answer = x.said reply is; kind = kind }

-- ---- ends that ran

pub ran_none : {L : Type 0} (link : Ghosts L) (a : End L) → RanOn link a a
unfolding Ran
ran_none link a = record { turns = []; ran = refl }

pub ran_on : {L : Type 0} (link : Ghosts L) (a b c : End L) → RanOn link a b → RanOn link b c → RanOn link a c
ran_on link a b c x y = record { turns = y.turns ++ x.turns; ran = ran_then link a b c x.turns y.turns x.ran y.ran }

pub ran_silently : {L : Type 0} (link : Ghosts L) (a b : End L) → RanSilently link a b → RanOn link a b
ran_silently link a b x = record { turns = x.turns; ran = x.ran }

pub ran_asked : {L : Type 0} (link : Ghosts L) (a b : End L) (name : ℕ) (answer : Option Reply) → Asked link a b name answer → RanOn link a b
ran_asked link a b name answer x = record { turns = x.turns; ran = x.ran }

pub ran_asked_now : {L : Type 0} (link : Ghosts L) (a b : End L) (name : ℕ) (call : Call) (answer : Option Reply) → AskedNow link a b name call answer → RanOn link a b
ran_asked_now link a b name call answer x = ran_asked link a b name answer x.asked

pub ran_answered : {L : Type 0} (link : Ghosts L) (a b : End L) (name : ℕ) (call : Call) (reply : Reply) → Answered link a b name call reply → RanOn link a b
ran_answered link a b name call reply x = record { turns = x.turns; ran = x.ran }

pub ran_left : {L : Type 0} (link : Ghosts L) (a b : End L) → Left link a b → RanOn link a b
ran_left link a b x = record { turns = x.turns; ran = x.ran }

-- ---- messages that are sent

pub sent_now : {L : Type 0} (link : Ghosts L) (a b : End L) (name : ℕ) (call : Call) (answer : Option Reply) (reply : Reply) → AskedNow link a b name call answer → answer ≡ Some reply → is_sent reply ≡ true → SentBy link a b name call
sent_now link a b name call answer reply x is h = record {
  turns = x.asked.turns;
  ran = x.asked.ran;
  makes = x.makes;
  reply = reply;
  answered = last_has name (told x.asked.turns) reply (sym x.asked.said ∙ is);
  sent = h;
}

-- behind a run
pub sent_on : {L : Type 0} (link : Ghosts L) (a b c : End L) (name : ℕ) (call : Call) → RanOn link a b → SentBy link b c name call → SentBy link a c name call
sent_on link a b c name call x y = record {
  turns = y.turns ++ x.turns;
  ran = ran_then link a b c x.turns y.turns x.ran y.ran;
  makes = makes_behind name call y.turns x.turns y.makes;
  reply = y.reply;
  answered = rw (told_append y.turns x.turns) (has_behind name y.reply (told x.turns) (told y.turns) y.answered);
  sent = y.sent;
}

-- and then its outcome was asked for
pub settled_by : {L : Type 0} (link : Ghosts L) (a b c : End L) (name asking sender : ℕ) (message : Sendable) (reply : Reply) → SentBy link a b name (send_call sender message) → Answered link b c asking (outcome_call name) reply → is_outcome reply ≡ true → Settled link a c sender message reply
settled_by link a b c name asking sender message reply x y is = record {
  turns = y.turns ++ x.turns;
  ran = ran_then link a b c x.turns y.turns x.ran y.ran;
  name = name;
  sends = makes_before name (send_call sender message) y.turns x.turns x.makes;
  reply = x.reply;
  answered = rw (told_append y.turns x.turns) (has_before name x.reply (told x.turns) (told y.turns) x.answered);
  sent = x.sent;
  asking = asking;
  asks = makes_behind asking (outcome_call name) y.turns x.turns y.makes;
  told_so = rw (told_append y.turns x.turns) (has_behind asking reply (told x.turns) (told y.turns) (last_has asking (told y.turns) reply y.answer));
  kind = is;
}

-- before a run
pub settled_on : {L : Type 0} (link : Ghosts L) (a b c : End L) (sender : ℕ) (message : Sendable) (reply : Reply) → Settled link a b sender message reply → RanSilently link b c → Settled link a c sender message reply
settled_on link a b c sender message reply x y = record {
  turns = y.turns ++ x.turns;
  ran = ran_then link a b c x.turns y.turns x.ran y.ran;
  name = x.name;
  sends = makes_before x.name (send_call sender message) y.turns x.turns x.sends;
  reply = x.reply;
  answered = rw (told_append y.turns x.turns) (has_before x.name x.reply (told x.turns) (told y.turns) x.answered);
  sent = x.sent;
  asking = x.asking;
  asks = makes_before x.asking (outcome_call x.name) y.turns x.turns x.asks;
  told_so = rw (told_append y.turns x.turns) (has_before x.asking reply (told x.turns) (told y.turns) x.told_so);
  kind = x.kind;
}

pub all_none : {L : Type 0} (link : Ghosts L) (a : End L) (sender : ℕ) (message : Sendable) → SentAll link a sender message 0 a
unfolding SentAll
all_none link a sender message = ran_none link a

pub all_more : {L : Type 0} (link : Ghosts L) (a b c : End L) (sender : ℕ) (message : Sendable) (n : ℕ) (outcome : Reply) → SentAll link a sender message n b → Settled link b c sender message outcome → SentAll link a sender message (n + 1) c
unfolding SentAll
all_more link a b c sender message n outcome x y =
    subst (λ (k : ℕ). SentAll link a sender message k c) (sym (add-one n)) (b, outcome, x, y)

-- behind a run
pub all_on : {L : Type 0} (link : Ghosts L) (a b c : End L) (sender : ℕ) (message : Sendable) (n : ℕ) → RanOn link a b → SentAll link b sender message n c → SentAll link a sender message n c
unfolding SentAll
all_on link a b c sender message zero x y = ran_on link a b c x y
all_on link a b c sender message (suc n) x y = (y.0, y.1, all_on link a b y.0 sender message n x y.2, y.3)

-- ---- connections that are closed

pub left_by : {L : Type 0} (link : Ghosts L) (a b : End L) (name : ℕ) (reply : Reply) → Answered link a b name close_call reply → is_closing reply ≡ true → Left link a b
left_by link a b name reply x is = record {
  turns = x.turns;
  ran = x.ran;
  name = name;
  closes = x.makes;
  reply = reply;
  answered = last_has name (told x.turns) reply x.answer;
  closed = is;
}

-- behind a run
pub left_on : {L : Type 0} (link : Ghosts L) (a b c : End L) → RanOn link a b → Left link b c → Left link a c
left_on link a b c x y = record {
  turns = y.turns ++ x.turns;
  ran = ran_then link a b c x.turns y.turns x.ran y.ran;
  name = y.name;
  closes = makes_behind y.name close_call y.turns x.turns y.closes;
  reply = y.reply;
  answered = rw (told_append y.turns x.turns) (has_behind y.name y.reply (told x.turns) (told y.turns) y.answered);
  closed = y.closed;
}

-- behind two runs
pub left_after : {L : Type 0} (link : Ghosts L) (a b c d : End L) → RanOn link a b → RanOn link b c → Left link c d → Left link a d
left_after link a b c d x y z = left_on link a c d (ran_on link a b c x y) z

pub connected_by : {L : Type 0} (link : Ghosts L) (a b c d e : End L) (sender : ℕ) (message : Sendable) (n : ℕ) → RanOn link a b → RanOn link b c → SentAll link c sender message n d → Left link d e → ConnectedWith link a e message n
connected_by link a b c d e sender message n entered attached sent left =
    record { sender = sender; between = d; sent = all_on link a c d sender message n (ran_on link a b c entered attached) sent; left = left }

pub connected_text : {L : Type 0} (link : Ghosts L) (a b : End L) (text : List ℕ) (message : Sendable) (n : ℕ) → IsStringMessage text message → ConnectedWith link a b message n → Connected link a b text n
connected_text link a b text message n is x = record { message = message; is = is; connected = x }

-- ---- messages that come

accepts_append : (us ts : List Turn) → accepts (us ++ ts) ≡ accepts us + accepts ts
unfolding accepts
accepts_append [] ts = sym (zero-add (accepts ts))
accepts_append (calls name call ∷ us) ts = rw (accepts_append us ts) (omega arith)
accepts_append (polls ∷ us) ts = accepts_append us ts
accepts_append (waits ∷ us) ts = accepts_append us ts
accepts_append (tells rs ∷ us) ts = accepts_append us ts
accepts_append (forgets name ∷ us) ts = accepts_append us ts

-- what more messages came is owed: one answer, and many
owed_more : (news : News) (m o : ℕ) → o ≤ m → (counted news o ≤ counted news m) × (counted news m + o ≤ m + counted news o)
owed_more news.Opened m o h = (h, omega arith)
owed_more news.Closed m o h = (h, omega arith)
owed_more news.Session m o h = (h, omega arith)
owed_more news.Receiver m o h = (h, omega arith)
owed_more news.Sender m o h = (h, omega arith)
owed_more news.NoLink m o h = (h, omega arith)
owed_more news.Delivery m o h = (omega arith, omega arith)
owed_more news.NoMessage m o h = (h, omega arith)
owed_more news.Nothing m o h = (h, omega arith)
owed_more news.Fault m o h = (h, omega arith)

owed_sum : (p q big small m o : ℕ) → p + o ≤ m + q → big + q ≤ p + small → big + o ≤ m + small
owed_sum p q big small m o x y = omega arith

owed_all : (rs : List NamedReply) (m o : ℕ) → o ≤ m → counted_all rs m + o ≤ m + counted_all rs o
unfolding counted_all
owed_all [] m o h = omega arith
owed_all (x ∷ xs) m o h =
    let one = owed_more (news_of_lem x.reply) m o h in
    let rest = owed_all xs (counted (news_of_lem x.reply) m) (counted (news_of_lem x.reply) o) one.0 in
    owed_sum (counted (news_of_lem x.reply) m) (counted (news_of_lem x.reply) o) (counted_all xs (counted (news_of_lem x.reply) m)) (counted_all xs (counted (news_of_lem x.reply) o)) m o one.1 rest

-- nothing was done with the end, and the numbers are as they were
pub heard_kept : {L : Type 0} (link : Ghosts L) (a : End L) (s t : Served) → t.messages ≡ s.messages → t.owed ≡ s.owed → Heard link a a s t
unfolding Ran told accepts counted_all
heard_kept link a s t messages owed = record { turns = []; ran = refl; counts = messages; owes = omega arith }

pub heard_then : {L : Type 0} (link : Ghosts L) (a b c : End L) (s t u : Served) → Heard link a b s t → Heard link b c t u → Heard link a c s u
heard_then link a b c s t u x y = record {
  turns = y.turns ++ x.turns;
  ran = ran_then link a b c x.turns y.turns x.ran y.ran;
  counts = y.counts ∙ ap (λ (i : ℕ). counted_all (told y.turns) i) x.counts ∙ sym (counted_append (told x.turns) (told y.turns) s.messages) ∙ ap (λ (l : List NamedReply). counted_all l s.messages) (sym (told_append y.turns x.turns));
  owes = rw (accepts_append y.turns x.turns) (omega (arith, x.owes, y.owes));
}

-- the same, where the numbers do not change before and behind it
kept_around : {L : Type 0} (link : Ghosts L) (a b : End L) (s s' t t' : Served) → Heard link a b s' t' → s'.messages ≡ s.messages → s'.owed ≡ s.owed → t.messages ≡ t'.messages → t.owed ≡ t'.owed → Heard link a b s t
kept_around link a b s s' t t' x sm so tm to = record {
  turns = x.turns;
  ran = x.ran;
  counts = tm ∙ x.counts ∙ ap (λ (i : ℕ). counted_all (told x.turns) i) sm;
  owes = omega (arith, x.owes);
}

heard_silently : {L : Type 0} (link : Ghosts L) (a b : End L) (s : Served) → RanSilently link a b → Heard link a b s s
unfolding counted_all
heard_silently link a b s x = record { turns = x.turns; ran = x.ran; counts = ap (λ (l : List NamedReply). counted_all l s.messages) (sym x.silent); owes = omega arith }

-- before a run in which no answer was taken
pub heard_before : {L : Type 0} (link : Ghosts L) (a b c : End L) (s t : Served) → Heard link a b s t → RanSilently link b c → Heard link a c s t
heard_before link a b c s t x y = heard_then link a b c s t t x (heard_silently link b c t y)

-- behind a run in which no answer was taken
pub heard_behind : {L : Type 0} (link : Ghosts L) (a b c : End L) (s s' t : Served) → RanSilently link a b → s'.messages ≡ s.messages → s'.owed ≡ s.owed → Heard link b c s' t → Heard link a c s t
heard_behind link a b c s s' t x messages owed y =
    kept_around link a c s s' t t (heard_then link a b c s' s' t (heard_silently link a b s' x) y) messages owed refl refl

pub heard_took : {L : Type 0} (link : Ghosts L) (a b : End L) (rs : List NamedReply) (s t : Served) → Took a b → rs ≡ a.replies.items → t.messages ≡ counted_all rs s.messages → t.owed ≡ counted_all rs s.owed → Heard link a b s t
unfolding Ran told accepts
heard_took link a b rs s t k e messages owed = record {
  turns = tells rs ∷ [];
  ran = (a, refl, (e, k));
  counts = messages;
  owes = omega (arith, owed_all rs s.messages s.owed s.within);
}

pub called_by : {L : Type 0} (link : Ghosts L) (a b : End L) (name at : ℕ) (call : Call) → MayAsk a name call → Goes link at (Some name) (on_connection name call) (on_links name call) (record a { last = Some name }) b → Called link a b name call
called_by link a b name at call may g = record { may = may; moment = at; goes = g }

-- the call of an act pays what it owes
pays : (call : Call) (act : Act) (o : ℕ) → Some call ≡ call_for act → o ≤ owed_made act o + (if is_accept call then 1 else 0)
pays call act.AcceptConnection o e = omega arith
pays call act.AcceptSession o e = omega arith
pays call (act.AcceptLink session) o e = omega arith
pays call (act.Settle receiver delivery) o e = let is : call ≡ accept_delivery_call receiver delivery = (cc) in rw is (omega arith)
pays call (act.Receive receiver) o e = omega arith
pays call act.Wait o e = omega arith
pays call act.Finish o e = omega arith

heard_made : {L : Type 0} (link : Ghosts L) (a b : End L) (name : ℕ) (call : Call) (act : Act) (s t : Served) → Called link a b name call → Some call ≡ call_for act → t.messages ≡ s.messages → t.owed ≡ owed_made act s.owed → Heard link a b s t
unfolding Ran told accepts counted_all
heard_made link a b name call act s t x e messages owed = record {
  turns = calls name call ∷ [];
  ran = (a, refl, (x.may, x.moment, x.goes));
  counts = messages;
  owes = omega (arith, pays call act s.owed e);
}

-- the call of an act was made, and then the answers were taken
pub heard_called : {L : Type 0} (link : Ghosts L) (a b c : End L) (name : ℕ) (call : Call) (act : Act) (s t u v : Served) → Called link a b name call → Some call ≡ call_for act → t.messages ≡ s.messages → t.owed ≡ owed_made act s.owed → Heard link b c t u → v.messages ≡ u.messages → v.owed ≡ u.owed → Heard link a c s v
heard_called link a b c name call act s t u v x e messages owed y um uo =
    kept_around link a c s s v u (heard_then link a b c s t u (heard_made link a b name call act s t x e messages owed) y) refl refl um uo

pub served_by : {L : Type 0} (link : Ghosts L) (a b : End L) (s t : Served) (count : ℕ) → Heard link a b s t → s.messages ≡ 0 → s.owed ≡ 0 → IsClosed b → t.owed ≡ 0 → count ≡ t.messages → WasServed link a b count
served_by link a b s t count x messages owed closed settled is = record {
  turns = x.turns;
  ran = x.ran;
  counts = is ∙ x.counts ∙ ap (λ (i : ℕ). counted_all (told x.turns) i) messages;
  accepted = omega (arith, x.owes);
  closed = closed;
}
