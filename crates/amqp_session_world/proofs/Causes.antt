-- Replies in a history, and the calls that they answer.
use Rattle.std.specs.Prelude.{◌==◌, All}
use Rattle.std.proofs.Common.{◌≡◌, inl, inr, ℕ, Bool, true, false, cond, List, [], ◌∷◌, ◌++◌, refl, sym, ap, subst}
use Rattle.std.proofs.lemmas.Bool.{eq-eqb}
use Rattle.std.proofs.lemmas.List.Elements.{All-nil, All-cons, All-head, All-tail, All-push, All-weaker, All-filter}
use Rattle.amqp_words.specs.declared.call.Call.{Call}
use Rattle.amqp_words.specs.declared.open_error.OpenError.{OpenError}
use Rattle.amqp_words.specs.declared.reply.NamedReply.{NamedReply}
use Rattle.amqp_peer.specs.Causes.{AllCaused}
use Rattle.amqp_peer.specs.History.{Local, Made, Polled, AtLink, Exchanged, Got, Put, Replied, replied_in}
use Rattle.amqp_peer.specs.Replies.{pending, connection, open_failed, answered, IsOpenRefusal, AreOpening, AreClosing, AreReplies}
use Rattle.amqp_session_world.specs.Answers.{replies_to, AreFirst, IsCausedIn}

-- ---- each reply has its cause

caused_later : (x : Local) (h : List Local) (r : NamedReply) → IsCausedIn h r → IsCausedIn (x ∷ h) r
caused_later x h r k = record { later = x ∷ k.later; earlier = k.earlier; split = ap (λ (u : List Local). x ∷ u) k.split; cause = k.cause }

all_later : (x : Local) (h : List Local) → All (λ (r : NamedReply). IsCausedIn h r) (replied_in h) → All (λ (r : NamedReply). IsCausedIn (x ∷ h) r) (replied_in h)
all_later x h k = All-weaker (λ (r : NamedReply). IsCausedIn h r) (λ (r : NamedReply). IsCausedIn (x ∷ h) r) (λ r. caused_later x h r) (replied_in h) k

pub all_caused : (h : List Local) → AllCaused h → All (λ (r : NamedReply). IsCausedIn h r) (replied_in h)
all_caused [] k = All-nil (λ (r : NamedReply). IsCausedIn [] r)
all_caused (Made at name c ∷ h) k = all_later (Made at name c) h (all_caused h k)
all_caused (Polled at ∷ h) k = all_later (Polled at) h (all_caused h k)
all_caused (AtLink x ∷ h) k = all_later (AtLink x) h (all_caused h k)
all_caused (Exchanged ∷ h) k = all_later Exchanged h (all_caused h k)
all_caused (Got x ∷ h) k = all_later (Got x) h (all_caused h k)
all_caused (Put x ∷ h) k = all_later (Put x) h (all_caused h k)
all_caused (Replied r ∷ h) k =
    All-push (λ (x : NamedReply). IsCausedIn (Replied r ∷ h) x) (replied_in h) r (all_later (Replied r) h (all_caused h k.1)) (record { later = []; earlier = h; split = refl; cause = k.0 })

-- ---- each reply is to a call

all_one : (P : NamedReply → Type 0) (r : NamedReply) → P r → All P (r ∷ [])
all_one P r k = All-cons P r [] k (All-nil P)

all_two : (P : NamedReply → Type 0) (r s : NamedReply) → P r → P s → All P (r ∷ s ∷ [])
all_two P r s k j = All-cons P r (s ∷ []) k (all_one P s j)

all_as : (P : NamedReply → Type 0) (rs xs : List NamedReply) → rs ≡ xs → All P xs → All P rs
all_as P rs xs e k = subst (λ (u : List NamedReply). All P u) (sym e) k

all_refused : (P : ℕ → Type 0) (n : ℕ) (e : OpenError) (rs : List NamedReply) → IsOpenRefusal n e rs → P n → All (λ (r : NamedReply). P r.name) rs
all_refused P n e rs (inl k) p = all_as (λ (r : NamedReply). P r.name) rs (pending n ∷ open_failed n e ∷ []) k.0 (all_two (λ (r : NamedReply). P r.name) (pending n) (open_failed n e) p p)
all_refused P n e rs (inr k) p = all_as (λ (r : NamedReply). P r.name) rs (open_failed n e ∷ []) k.0 (all_one (λ (r : NamedReply). P r.name) (open_failed n e) p)

all_opening : (P : ℕ → Type 0) (n : ℕ) (rs : List NamedReply) → AreOpening n rs → P n → All (λ (r : NamedReply). P r.name) rs
all_opening P n rs (inl e) p = all_as (λ (r : NamedReply). P r.name) rs (pending n ∷ []) e (all_one (λ (r : NamedReply). P r.name) (pending n) p)
all_opening P n rs (inr (inl e)) p = all_as (λ (r : NamedReply). P r.name) rs (pending n ∷ connection n ∷ []) e (all_two (λ (r : NamedReply). P r.name) (pending n) (connection n) p p)
all_opening P n rs (inr (inr k)) p = all_refused P n k.0 rs k.1 p

all_closing : (P : ℕ → Type 0) (n m : ℕ) (rs : List NamedReply) → AreClosing n m rs → P n → P m → All (λ (r : NamedReply). P r.name) rs
all_closing P n m rs (inl e) p q =
    let Q : NamedReply → Type 0 = λ (r : NamedReply). P r.name in
    all_as Q rs (pending n ∷ connection n ∷ pending m ∷ []) e (All-cons Q (pending n) (connection n ∷ pending m ∷ []) p (all_two Q (connection n) (pending m) p q))
all_closing P n m rs (inr (r, end, inl e)) p q =
    let Q : NamedReply → Type 0 = λ (r : NamedReply). P r.name in
    all_as Q rs (pending n ∷ connection n ∷ pending m ∷ answered m r ∷ []) e
    (All-cons Q (pending n) (connection n ∷ pending m ∷ answered m r ∷ []) p (All-cons Q (connection n) (pending m ∷ answered m r ∷ []) p (all_two Q (pending m) (answered m r) q q)))
all_closing P n m rs (inr (r, end, inr e)) p q =
    let Q : NamedReply → Type 0 = λ (r : NamedReply). P r.name in
    all_as Q rs (pending n ∷ connection n ∷ answered m r ∷ []) e (All-cons Q (pending n) (connection n ∷ answered m r ∷ []) p (all_two Q (connection n) (answered m r) p q))

-- what is so of the name of each call is so of the name of each reply
pub all_called : (P : ℕ → Type 0) (calls : List (ℕ × Call)) (rs : List NamedReply) → AreReplies calls rs → All (λ (c : ℕ × Call). P c.0) calls → All (λ (r : NamedReply). P r.name) rs
all_called P [] rs k all = all_as (λ (r : NamedReply). P r.name) rs [] k (All-nil (λ (r : NamedReply). P r.name))
all_called P (first ∷ []) rs k all = all_opening P first.0 rs k (All-head (λ (c : ℕ × Call). P c.0) first [] all)
all_called P (close ∷ first ∷ []) rs k all =
    let Q : ℕ × Call → Type 0 = λ (c : ℕ × Call). P c.0 in
    all_closing P first.0 close.0 rs k (All-head Q first [] (All-tail Q close (first ∷ []) all)) (All-head Q close (first ∷ []) all)
all_called P (call ∷ close ∷ first ∷ calls) rs k all = absurd k

-- ---- the first of all, for each call

all_front : (P : NamedReply → Type 0) (xs ys : List NamedReply) → All P (xs ++ ys) → All P xs
all_front P [] ys k = All-nil P
all_front P (x ∷ xs) ys k = All-cons P x xs (All-head P x (xs ++ ys) k) (all_front P xs ys (All-tail P x (xs ++ ys) k))

all_first : (P : NamedReply → Type 0) (xs all : List NamedReply) → AreFirst xs all → All P all → All P xs
all_first P xs all k a = all_front P xs k.0 (subst (λ (u : List NamedReply). All P u) (sym k.1) a)

own_name : (n : ℕ) → (n == n) ≡ true
own_name n = eq-eqb n n refl

head_if : (P : NamedReply → Type 0) (b : Bool) (x : NamedReply) (xs : List NamedReply) → b ≡ true → All P (cond b (x ∷ xs) xs) → P x
head_if P true x xs e k = All-head P x xs k
head_if P false x xs e k = cc

tail_if : (P : NamedReply → Type 0) (b : Bool) (x : NamedReply) (xs : List NamedReply) → All P (cond b (x ∷ xs) xs) → All P xs
tail_if P true x xs k = All-tail P x xs k
tail_if P false x xs k = k

all_by_name : (P : NamedReply → Type 0) (xs : List NamedReply) → ((n : ℕ) → All P (replies_to n xs)) → All P xs
all_by_name P [] k = All-nil P
all_by_name P (x ∷ xs) k =
    All-cons P x xs (head_if P (x.name == x.name) x (replies_to x.name xs) (own_name x.name) (k x.name))
    (all_by_name P xs (λ n. tail_if P (x.name == n) x (replies_to n xs) (k n)))

-- what is so of all replies is so of those that are the first for each call
pub all_told : (P : NamedReply → Type 0) (xs all : List NamedReply) → ((n : ℕ) → AreFirst (replies_to n xs) (replies_to n all)) → All P all → All P xs
all_told P xs all k a = all_by_name P xs (λ n. all_first P (replies_to n xs) (replies_to n all) (k n) (All-filter (λ (r : NamedReply). r.name == n) P all a))
