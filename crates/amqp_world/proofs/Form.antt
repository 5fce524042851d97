-- The replies of a step have their form.
use Rattle.std.proofs.Common.{◌≡◌, ◌<◌, ◌⊎◌, ◌==◌, inl, inr, List, ℕ, [], ◌∷◌, ◌++◌, Bool, true, false, if◌then◌else◌, length, refl, sym, ap, subst, arith}
use Rattle.std.proofs.lemmas.Bool.{eqb-true}
use Rattle.amqp_words.specs.declared.open_error.OpenError as open_error
use Rattle.amqp_words.specs.declared.call.Call as peer_call
use Rattle.amqp_words.specs.declared.call.Call.TheVariants.{Open, Accept, Close}
use Rattle.amqp_peer.specs.declared.peer.PeerKind.{PeerKind}
use Rattle.amqp_peer.specs.declared.peer.PeerKind.TheVariants as kind
use Rattle.amqp_words.specs.declared.reply.Reply.{Reply}
use Rattle.amqp_words.specs.declared.reply.Reply.TheVariants.{Pending, Connection, OpenError}
use Rattle.amqp_words.specs.declared.reply.NamedReply.{NamedReply}
use Rattle.amqp_peer.specs.Calls.{IsFirstCall, IsValidCall, IsClose}
use Rattle.amqp_peer.specs.Replies.{pending, connection, open_failed, texts_refused, answered, IsCloseEnd, IsOpenRefusal, AreOpening, AreClosing, AreReplies, IsConnected}
use Rattle.amqp_peer.proofs.Refusals.{refusal_connects_not}
use Rattle.amqp_words.specs.declared.step.End.{End}
use Rattle.amqp_words.specs.declared.step.End.TheVariants.{Client, Listener}
use Rattle.amqp_words.specs.declared.step.Act.{Act}
use Rattle.amqp_words.specs.declared.step.Act.TheVariants.{Take, TakeAll, Call}
use Rattle.amqp_world.specs.History.{Event, calls, called, replied, other, is_same}
use Rattle.amqp_world.specs.Valid.{IsValidAct, kind_of}
use Rattle.amqp_world.specs.Form.{AreNamed, IsFirstReply, RepliesAtOnce, replies_to, IsOrderly, Form}

-- ---- each reply names a call

named_end : (m n : ℕ) (c d : peer_call.Call) (r : Reply) (rs : List NamedReply) → (rs ≡ pending n ∷ connection n ∷ pending m ∷ answered m r ∷ []) ⊎ (rs ≡ pending n ∷ connection n ∷ answered m r ∷ []) → AreNamed ((m, c) ∷ (n, d) ∷ []) rs
named_end m n c d r rs (inl q) = subst (λ (u : List NamedReply). AreNamed ((m, c) ∷ (n, d) ∷ []) u) (sym q) (inr (inl refl), (inr (inl refl), (inl refl, (inl refl, tt))))
named_end m n c d r rs (inr q) = subst (λ (u : List NamedReply). AreNamed ((m, c) ∷ (n, d) ∷ []) u) (sym q) (inr (inl refl), (inr (inl refl), (inl refl, tt)))

named_refusal : (c : ℕ × peer_call.Call) (e : open_error.OpenError) (rs : List NamedReply) → IsOpenRefusal c.0 e rs → AreNamed (c ∷ []) rs
named_refusal c e rs (inl q) = subst (λ (u : List NamedReply). AreNamed (c ∷ []) u) (sym q.0) (inl refl, (inl refl, tt))
named_refusal c e rs (inr q) = subst (λ (u : List NamedReply). AreNamed (c ∷ []) u) (sym q.0) (inl refl, tt)

named_all : (cs : List (ℕ × peer_call.Call)) (rs : List NamedReply) → AreReplies cs rs → AreNamed cs rs
named_all [] rs p = subst (λ (u : List NamedReply). AreNamed [] u) (sym p) tt
named_all (c ∷ []) rs (inl q) = subst (λ (u : List NamedReply). AreNamed (c ∷ []) u) (sym q) (inl refl, tt)
named_all (c ∷ []) rs (inr (inl q)) = subst (λ (u : List NamedReply). AreNamed (c ∷ []) u) (sym q) (inl refl, (inl refl, tt))
named_all (c ∷ []) rs (inr (inr q)) = named_refusal c q.0 rs q.1
named_all (c ∷ d ∷ []) rs (inl q) = subst (λ (u : List NamedReply). AreNamed (c ∷ d ∷ []) u) (sym q) (inr (inl refl), (inr (inl refl), (inl refl, tt)))
named_all (c ∷ d ∷ []) rs (inr q) = named_end c.0 d.0 c.1 d.1 q.0 rs q.2
named_all (c ∷ d ∷ e ∷ cs) rs p = absurd p

named_right : (cs : List (ℕ × peer_call.Call)) (xs ys : List NamedReply) → AreNamed cs (xs ++ ys) → AreNamed cs ys
named_right cs [] ys p = p
named_right cs (x ∷ xs) ys p = named_right cs xs ys p.1

-- ---- names fall, the newest first

abbrev Falls : ℕ → List (ℕ × peer_call.Call) → Type 0
Falls n [] = Unit {0}
Falls n (c ∷ cs) = (c.0 < n) × Falls c.0 cs

falls_below : (n k : ℕ) (cs : List (ℕ × peer_call.Call)) → n < k → Falls n cs → Falls k cs
falls_below n k [] l p = tt
falls_below n k (c ∷ cs) l p = let below : c.0 < n = p.0 in (omega arith, p.1)

falls_called : (act : Act) (n k : ℕ) (cs : List (ℕ × peer_call.Call)) → n < k → Falls n cs → Falls k (called act n cs)
falls_called (Take i) n k cs l p = falls_below n k cs l p
falls_called TakeAll n k cs l p = falls_below n k cs l p
falls_called (Call call) n k cs l p = (l, p)

falls_if : (b : Bool) (act : Act) (n k : ℕ) (cs : List (ℕ × peer_call.Call)) → n < k → Falls n cs → Falls k (if b then called act n cs else cs)
falls_if true act n k cs l p = falls_called act n k cs l p
falls_if false act n k cs l p = falls_below n k cs l p

-- the names of the calls are positions of steps
falls_calls : (e : End) (past : List Event) → Falls (length past) (calls e past)
falls_calls e [] = tt
falls_calls e (x ∷ past) = falls_if (is_same e x.step.end) x.step.act (length past) (length (x ∷ past)) (calls e past) (omega arith) (falls_calls e past)

apart : (name m n : ℕ) → n < m → (name == n) ≡ true → (name == m) ≡ true → ⊥
apart name m n l p q = let one : name ≡ n = eqb-true name n p in let two : name ≡ m = eqb-true name m q in omega arith

-- ---- the replies to one call are in order

connection_is_not_pending : Connection ≡ Pending → ⊥
connection_is_not_pending q = cc

failed_is_not_pending : (e : open_error.OpenError) → OpenError e ≡ Pending → ⊥
failed_is_not_pending e q = cc

end_is_not_pending : (r : Reply) → IsCloseEnd r → r ≡ Pending → ⊥
end_is_not_pending r e q = subst IsCloseEnd q e

-- a reply, where it is to the name, before others
abbrev kept : Bool → Reply → List Reply → List Reply
kept b r rs = if b then r ∷ rs else rs

orderly_none : IsOrderly []
orderly_none = record { first = tt; last = tt }

orderly_waits : IsOrderly (Pending ∷ [])
orderly_waits = record { first = tt; last = (λ f. absurd f, tt) }

orderly_made : IsOrderly (Pending ∷ Connection ∷ [])
orderly_made = record { first = (connection_is_not_pending, tt); last = (λ f. absurd f, (λ f. refl, tt)) }

orderly_ended : (r : Reply) → IsCloseEnd r → IsOrderly (Pending ∷ r ∷ [])
orderly_ended r e = record { first = (end_is_not_pending r e, tt); last = (λ f. absurd f, (λ f. refl, tt)) }

orderly_one : (b : Bool) → IsOrderly (kept b Pending [])
orderly_one true = orderly_waits
orderly_one false = orderly_none

orderly_two : (b : Bool) → IsOrderly (kept b Pending (kept b Connection []))
orderly_two true = orderly_made
orderly_two false = orderly_none

orderly_failed : (e : open_error.OpenError) (b : Bool) → IsOrderly (kept b Pending (kept b (OpenError e) []))
orderly_failed e true = record { first = (failed_is_not_pending e, tt); last = (λ f. absurd f, (λ f. refl, tt)) }
orderly_failed e false = orderly_none

orderly_alone : (e : open_error.OpenError) (b : Bool) → IsOrderly (kept b (OpenError e) [])
orderly_alone e true = record { first = tt; last = (λ f. refl, tt) }
orderly_alone e false = orderly_none

orderly_refusal : (n : ℕ) (e : open_error.OpenError) (rs : List NamedReply) (name : ℕ) → IsOpenRefusal n e rs → IsOrderly (replies_to name rs)
orderly_refusal n e rs name (inl q) = subst (λ (u : List NamedReply). IsOrderly (replies_to name u)) (sym q.0) (orderly_failed e (name == n))
orderly_refusal n e rs name (inr q) = subst (λ (u : List NamedReply). IsOrderly (replies_to name u)) (sym q.0) (orderly_alone e (name == n))

orderly_three : (b c : Bool) → (b ≡ true → c ≡ true → ⊥) → IsOrderly (kept b Pending (kept b Connection (kept c Pending [])))
orderly_three true true p = absurd (p refl refl)
orderly_three true false p = orderly_made
orderly_three false true p = orderly_waits
orderly_three false false p = orderly_none

orderly_four : (r : Reply) (b c : Bool) → IsCloseEnd r → (b ≡ true → c ≡ true → ⊥) → IsOrderly (kept b Pending (kept b Connection (kept c Pending (kept c r []))))
orderly_four r true true e p = absurd (p refl refl)
orderly_four r true false e p = orderly_made
orderly_four r false true e p = orderly_ended r e
orderly_four r false false e p = orderly_none

orderly_at_once : (r : Reply) (b c : Bool) → IsCloseEnd r → (b ≡ true → c ≡ true → ⊥) → IsOrderly (kept b Pending (kept b Connection (kept c r [])))
orderly_at_once r true true e p = absurd (p refl refl)
orderly_at_once r true false e p = orderly_made
orderly_at_once r false true e p = record { first = tt; last = (λ f. refl, tt) }
orderly_at_once r false false e p = orderly_none

orderly_end : (m n : ℕ) (r : Reply) (rs : List NamedReply) (name : ℕ) → n < m → IsCloseEnd r → (rs ≡ pending n ∷ connection n ∷ pending m ∷ answered m r ∷ []) ⊎ (rs ≡ pending n ∷ connection n ∷ answered m r ∷ []) → IsOrderly (replies_to name rs)
orderly_end m n r rs name l e (inl q) = subst (λ (u : List NamedReply). IsOrderly (replies_to name u)) (sym q) (orderly_four r (name == n) (name == m) e (apart name m n l))
orderly_end m n r rs name l e (inr q) = subst (λ (u : List NamedReply). IsOrderly (replies_to name u)) (sym q) (orderly_at_once r (name == n) (name == m) e (apart name m n l))

orderly_closing : (m n : ℕ) (rs : List NamedReply) (name : ℕ) → n < m → AreClosing n m rs → IsOrderly (replies_to name rs)
orderly_closing m n rs name l (inl q) = subst (λ (u : List NamedReply). IsOrderly (replies_to name u)) (sym q) (orderly_three (name == n) (name == m) (apart name m n l))
orderly_closing m n rs name l (inr q) = orderly_end m n q.0 rs name l q.1 q.2

orderly_all : (k : ℕ) (cs : List (ℕ × peer_call.Call)) (rs : List NamedReply) (name : ℕ) → Falls k cs → AreReplies cs rs → IsOrderly (replies_to name rs)
orderly_all k [] rs name f p = subst (λ (u : List NamedReply). IsOrderly (replies_to name u)) (sym p) orderly_none
orderly_all k (c ∷ []) rs name f (inl q) = subst (λ (u : List NamedReply). IsOrderly (replies_to name u)) (sym q) (orderly_one (name == c.0))
orderly_all k (c ∷ []) rs name f (inr (inl q)) = subst (λ (u : List NamedReply). IsOrderly (replies_to name u)) (sym q) (orderly_two (name == c.0))
orderly_all k (c ∷ []) rs name f (inr (inr q)) = orderly_refusal c.0 q.0 rs name q.1
orderly_all k (c ∷ d ∷ []) rs name f p = orderly_closing c.0 d.0 rs name f.1.0 p
orderly_all k (c ∷ d ∷ e ∷ cs) rs name f p = absurd p

orderly_of : (e : End) (past : List Event) (name : ℕ) → AreReplies (calls e past) (replied e past) → IsOrderly (replies_to name (replied e past))
orderly_of e past name p = orderly_all (length past) (calls e past) (replied e past) name (falls_calls e past) p

-- ---- a call is replied to in its own step

waits_first : (call : peer_call.Call) → IsFirstReply call Pending
waits_first (Open settings host sasl) = inl refl
waits_first (Accept settings sasl) = inl refl
waits_first (Close error) = inl refl

ends_first : (call : peer_call.Call) (r : Reply) → IsClose call → IsCloseEnd r → IsFirstReply call r
ends_first (Open settings host sasl) r c e = absurd c
ends_first (Accept settings sasl) r c e = absurd c
ends_first (Close error) r c e = inr e

refused_first : (k : PeerKind) (call : peer_call.Call) (e : open_error.OpenError) → IsFirstCall k call → e ≡ texts_refused → IsFirstReply call (OpenError e)
refused_first k (Open settings host sasl) e v t = inr (ap OpenError t)
refused_first k (Accept settings sasl) e v t = inr (ap OpenError t)
refused_first kind.Client (Close error) e v t = absurd v
refused_first kind.Listener (Close error) e v t = absurd v

refusal_first : (k : PeerKind) (name : ℕ) (call : peer_call.Call) (e : open_error.OpenError) (rs : List NamedReply) → IsFirstCall k call → IsOpenRefusal name e rs → RepliesAtOnce name (Call call) rs
refusal_first k name call e rs v (inl q) = (Pending, open_failed name e ∷ [], waits_first call, q.0)
refusal_first k name call e rs v (inr q) = (OpenError e, [], refused_first k call e v q.1, q.0)

opening_first : (k : PeerKind) (name : ℕ) (call : peer_call.Call) (rs : List NamedReply) → IsFirstCall k call → AreOpening name rs → RepliesAtOnce name (Call call) rs
opening_first k name call rs v (inl q) = (Pending, [], waits_first call, q)
opening_first k name call rs v (inr (inl q)) = (Pending, connection name ∷ [], waits_first call, q)
opening_first k name call rs v (inr (inr q)) = refusal_first k name call q.0 rs v q.1

waits_not_connected : (n : ℕ) → IsConnected (pending n ∷ []) → ⊥
waits_not_connected n (inl e) = absurd (cc e)
waits_not_connected n (inr e) = e

connected_is : (n : ℕ) (rs : List NamedReply) → AreOpening n rs → IsConnected rs → rs ≡ pending n ∷ connection n ∷ []
connected_is n rs (inl q) c = absurd (waits_not_connected n (subst IsConnected q c))
connected_is n rs (inr (inl q)) c = q
connected_is n rs (inr (inr q)) c = absurd (refusal_connects_not n q.0 rs q.1 c)

abbrev rest_of : List NamedReply → List NamedReply
rest_of [] = []
rest_of (r ∷ rs) = rs

behind_two : (a b c d : NamedReply) (xs ys : List NamedReply) → a ∷ b ∷ xs ≡ c ∷ d ∷ ys → xs ≡ ys
behind_two a b c d xs ys q = ap (λ (u : List NamedReply). rest_of (rest_of u)) q

end_first : (n m : ℕ) (call : peer_call.Call) (r : Reply) (rs : List NamedReply) → IsClose call → IsCloseEnd r → (pending n ∷ connection n ∷ rs ≡ pending n ∷ connection n ∷ pending m ∷ answered m r ∷ []) ⊎ (pending n ∷ connection n ∷ rs ≡ pending n ∷ connection n ∷ answered m r ∷ []) → RepliesAtOnce m (Call call) rs
end_first n m call r rs c e (inl q) = (Pending, answered m r ∷ [], waits_first call, behind_two _ _ _ _ rs (pending m ∷ answered m r ∷ []) q)
end_first n m call r rs c e (inr q) = (r, [], ends_first call r c e, behind_two _ _ _ _ rs (answered m r ∷ []) q)

closing_first : (n m : ℕ) (call : peer_call.Call) (rs : List NamedReply) → IsClose call → AreClosing n m (pending n ∷ connection n ∷ rs) → RepliesAtOnce m (Call call) rs
closing_first n m call rs c (inl q) = (Pending, [], waits_first call, behind_two _ _ _ _ rs (pending m ∷ []) q)
closing_first n m call rs c (inr q) = end_first n m call q.0 rs c q.1 q.2

call_first : (k : PeerKind) (cs : List (ℕ × peer_call.Call)) (name : ℕ) (call : peer_call.Call) (before replies : List NamedReply) → IsValidCall k cs before name call → AreReplies cs before → AreReplies ((name, call) ∷ cs) (before ++ replies) → RepliesAtOnce name (Call call) replies
call_first k [] name call before replies v p q = opening_first k name call replies v (subst (λ (u : List NamedReply). AreOpening name (u ++ replies)) p q)
call_first k (c ∷ []) name call before replies v p q = closing_first c.0 name call replies v.0 (subst (λ (u : List NamedReply). AreClosing c.0 name (u ++ replies)) (connected_is c.0 before p v.1) q)
call_first k (c ∷ d ∷ cs) name call before replies v p q = absurd v

at_once : (act : Act) (e : End) (past : List Event) (replies : List NamedReply) → IsValidAct e past act → AreReplies (calls e past) (replied e past) → AreReplies (called act (length past) (calls e past)) (replied e past ++ replies) → RepliesAtOnce (length past) act replies
at_once (Take n) e past replies v p q = tt
at_once TakeAll e past replies v p q = tt
at_once (Call call) e past replies v p q = call_first (kind_of e) (calls e past) (length past) call (replied e past) replies v p q

-- ---- all of it

orderly_both : (e f g : End) (past : List Event) (name : ℕ) → other e ≡ f → AreReplies (calls e past) (replied e past) → AreReplies (calls f past) (replied f past) → IsOrderly (replies_to name (replied g past))
orderly_both Client f Client past name o p q = orderly_of Client past name p
orderly_both Client f Listener past name o p q = subst (λ (y : End). IsOrderly (replies_to name (replied y past))) (sym o) (orderly_of f past name q)
orderly_both Listener f Client past name o p q = subst (λ (y : End). IsOrderly (replies_to name (replied y past))) (sym o) (orderly_of f past name q)
orderly_both Listener f Listener past name o p q = orderly_of Listener past name p

-- where both ends' replies are those that their calls may have
pub form_of : (e f : End) (x : Event) (past : List Event) → x.step.end ≡ e → other e ≡ f → calls e (x ∷ past) ≡ called x.step.act (length past) (calls e past) → replied e (x ∷ past) ≡ replied e past ++ x.entry.replies → IsValidAct e past x.step.act
    → AreReplies (calls e past) (replied e past) → AreReplies (calls e (x ∷ past)) (replied e (x ∷ past)) → AreReplies (calls f (x ∷ past)) (replied f (x ∷ past)) → Form x past
form_of e f x past same o made told v before near far =
    let grown : AreReplies (calls e (x ∷ past)) (replied e past ++ x.entry.replies) = subst (λ (u : List NamedReply). AreReplies (calls e (x ∷ past)) u) told near in
    record {
      at_once = at_once x.step.act e past x.entry.replies v before (subst (λ (cs : List (ℕ × peer_call.Call)). AreReplies cs (replied e past ++ x.entry.replies)) made grown);
      named = subst (λ (y : End). AreNamed (calls y (x ∷ past)) x.entry.replies) (sym same) (named_right (calls e (x ∷ past)) (replied e past) x.entry.replies (named_all (calls e (x ∷ past)) (replied e past ++ x.entry.replies) grown));
      orderly = λ g name. orderly_both e f g (x ∷ past) name o near far;
    }
