-- The answers of a run that are of its connection, in the history of that.
use Rattle.std.specs.List.{cons_option}
use Rattle.std.proofs.Common.{◌≡◌, ◌⊎◌, inl, inr, ℕ, List, [], ◌∷◌, true, All, refl, sym, ap, subst}
use Rattle.std.proofs.lemmas.List.Elements.{All-head, All-tail}
use Rattle.amqp_wire.specs.declared.link.Link.{Ghosts}
use Rattle.amqp_words.specs.declared.call.Call.{Call}
use Rattle.amqp_words.specs.declared.open_error.OpenError.{OpenError}
use Rattle.amqp_words.specs.declared.reply.NamedReply.{NamedReply as ConnectionReply}
use Rattle.amqp_words.specs.declared.reply.Reply.{Reply as Answer}
use Rattle.amqp_words.specs.declared.reply.Reply.TheVariants as answer
use Rattle.amqp_calls.specs.declared.reply.NamedReply.{NamedReply}
use Rattle.amqp_calls.specs.declared.reply.Reply.{Reply}
use Rattle.amqp_calls.specs.declared.reply.Reply.TheVariants.{Connection, Session, Link}
use Rattle.amqp_peer.specs.History.{Local, replied_in}
use Rattle.amqp_peer.specs.Replies.{pending, connection, open_failed, answered, AreOpening, AreClosing, AreReplies}
use Rattle.amqp_end.specs.declared.end.End.{End}
use Rattle.amqp_end.specs.Deeds.{told_by}
use Rattle.amqp_session_world.specs.Lives.{Life}
use Rattle.amqp_serve.specs.Answers.{HasAnswer, is_closing}
use Rattle.amqp_serve.proofs.Runs.{has_before}
use Rattle.amqp_session_world.specs.Answers.{connection_part, of_connections, replies_to, IsTold, IsCausedIn}
use Rattle.amqp_session_world.proofs.Causes.{all_caused, all_told}
use Rattle.served_connection.specs.ServeLaws.History.{Lived}

-- ---- each has its cause

-- each answer of the connection that an end has told is a reply of its history, with its cause before it
pub told_caused : (told : List NamedReply) (untold : List ConnectionReply) (h : List Local) → IsTold told untold h → All (λ (r : ConnectionReply). IsCausedIn h r) (replied_in h) → All (λ (r : ConnectionReply). IsCausedIn h r) (of_connections told)
told_caused told untold h k all = all_told (λ (r : ConnectionReply). IsCausedIn h r) (of_connections told) (replied_in h) (λ name. (replies_to name untold, k name)) all

first_if : (P : ConnectionReply → Type 0) (name n : ℕ) (a : Answer) (r : Reply) (rest : List ConnectionReply) → n ≡ name → r ≡ Connection a → All P (cons_option (connection_part n r) rest) → P (record { name = name; reply = a })
first_if P name n a (Connection q) rest e f all =
    let same : q ≡ a = cc in subst (λ (m : ℕ). P (record { name = m; reply = a })) e (subst (λ (z : Answer). P (record { name = n; reply = z })) same (All-head P (record { name = n; reply = q }) rest all))
first_if P name n a (Session q) rest e f all = cc
first_if P name n a (Link q) rest e f all = cc

rest_if : (P : ConnectionReply → Type 0) (n : ℕ) (r : Reply) (rest : List ConnectionReply) → All P (cons_option (connection_part n r) rest) → All P rest
rest_if P n (Connection q) rest all = All-tail P (record { name = n; reply = q }) rest all
rest_if P n (Session q) rest all = all
rest_if P n (Link q) rest all = all

-- what is so of each is so of one of them
pub answer_in : (P : ConnectionReply → Type 0) (name : ℕ) (a : Answer) (xs : List NamedReply) → HasAnswer name (Connection a) xs → All P (of_connections xs) → P (record { name = name; reply = a })
unfolding HasAnswer
answer_in P name a [] k all = absurd k
answer_in P name a (x ∷ xs) (inl k) all = first_if P name x.name a x.reply (of_connections xs) k.0 k.1 all
answer_in P name a (x ∷ xs) (inr k) all = answer_in P name a xs k (rest_if P x.name x.reply (of_connections xs) all)

-- an answer that a run has told has its cause in the history
pub answer_caused : {L : Type 0} (link : Ghosts L) (first : L) (cs : List (ℕ × Call)) (answers : List NamedReply) (e : End L) (l : Life) (name : ℕ) (a : Answer) → Lived link first cs answers e l → HasAnswer name (Connection a) answers
    → IsCausedIn l.h (record { name = name; reply = a })
answer_caused link first cs answers e l name a v k =
    let told : HasAnswer name (Connection a) (told_by l.deeds) = subst (λ (u : List NamedReply). HasAnswer name (Connection a) u) (sym v.told_are) (has_before name (Connection a) answers e.replies.items k) in
    answer_in (λ (r : ConnectionReply). IsCausedIn l.h r) name a (told_by l.deeds) told (told_caused (told_by l.deeds) e.connection.replies l.h v.replied (all_caused l.h v.promises.causes))

-- the answer to a close that both ends have made
pub closing_is : (r : Reply) → is_closing r ≡ true → r ≡ Connection answer.Closed
closing_is (Connection answer.Closed) e = refl
closing_is (Connection answer.Pending) e = cc
closing_is (Connection answer.Connection) e = cc
closing_is (Connection (answer.OpenError x)) e = cc
closing_is (Connection (answer.ConnectionError x)) e = cc
closing_is (Session x) e = cc
closing_is (Link x) e = cc

-- ---- the first of them

-- the first reply is that a call waits, or the only one, and no `closed`
abbrev pub IsFirst : ConnectionReply → List ConnectionReply → Type 0
IsFirst r rest = (r.reply ≡ answer.Pending) ⊎ ((e : OpenError) × (r.reply ≡ answer.OpenError e) × (rest ≡ []))

waits_first : (n : ℕ) (r : ConnectionReply) (rest more : List ConnectionReply) → r ∷ rest ≡ pending n ∷ more → IsFirst r rest
waits_first n r rest more e = let same : r ≡ pending n = cc in inl (ap (λ (x : ConnectionReply). x.reply) same)

fails_first : (n : ℕ) (x : OpenError) (r : ConnectionReply) (rest : List ConnectionReply) → r ∷ rest ≡ open_failed n x ∷ [] → IsFirst r rest
fails_first n x r rest e = let same : r ≡ open_failed n x = cc in let none : rest ≡ [] = cc in inr (x, ap (λ (y : ConnectionReply). y.reply) same, none)

opening_first : (n : ℕ) (r : ConnectionReply) (rest : List ConnectionReply) → AreOpening n (r ∷ rest) → IsFirst r rest
opening_first n r rest (inl e) = waits_first n r rest [] e
opening_first n r rest (inr (inl e)) = waits_first n r rest (connection n ∷ []) e
opening_first n r rest (inr (inr (x, inl e))) = waits_first n r rest (open_failed n x ∷ []) e.0
opening_first n r rest (inr (inr (x, inr e))) = fails_first n x r rest e.0

closing_first : (n m : ℕ) (r : ConnectionReply) (rest : List ConnectionReply) → AreClosing n m (r ∷ rest) → IsFirst r rest
closing_first n m r rest (inl e) = waits_first n r rest (connection n ∷ pending m ∷ []) e
closing_first n m r rest (inr (x, end, inl e)) = waits_first n r rest (connection n ∷ pending m ∷ answered m x ∷ []) e
closing_first n m r rest (inr (x, end, inr e)) = waits_first n r rest (connection n ∷ answered m x ∷ []) e

pub replies_first : (cs : List (ℕ × Call)) (r : ConnectionReply) (rest : List ConnectionReply) → AreReplies cs (r ∷ rest) → IsFirst r rest
replies_first [] r rest k = cc
replies_first (first ∷ []) r rest k = opening_first first.0 r rest k
replies_first (close ∷ first ∷ []) r rest k = closing_first first.0 close.0 r rest k
replies_first (call ∷ close ∷ first ∷ cs) r rest k = absurd k
