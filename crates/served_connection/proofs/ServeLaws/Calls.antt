-- The calls of a run on its connection, and what they tell.
use Rattle.std.proofs.Common.{◌≡◌, ◌⊎◌, inl, inr, ℕ, List, [], ◌∷◌, ◌++◌, Option, Some, None, refl, sym, ap, ◌∙◌, subst}
use Rattle.amqp_words.specs.declared.call.Call.{Call}
use Rattle.amqp_words.specs.declared.call.Call.TheVariants.{Close}
use Rattle.amqp_words.specs.declared.reply.NamedReply.{NamedReply}
use Rattle.amqp_words.specs.declared.reply.Reply.{Reply as Answer}
use Rattle.amqp_words.specs.declared.reply.Reply.TheVariants as answer
use Rattle.amqp_calls.specs.declared.call.Call.{Call as AnyCall}
use Rattle.amqp_calls.specs.declared.call.Call.TheVariants.{Connection, Session, Link}
use Rattle.amqp_end.specs.Goes.{on_connection}
use Rattle.amqp_peer.specs.declared.prepared.Prepared.{Prepared}
use Rattle.amqp_peer.specs.Causes.{has_layer, prepared_in, AreAllowedTextsIn, HasCause, AllCaused}
use Rattle.amqp_peer.specs.History.{Local, Made, Polled, AtLink, Exchanged, Got, Put, Replied, made_in, replied_in}
use Rattle.amqp_peer.specs.Prepared.{prepared_of}
use Rattle.amqp_peer.specs.Replies.{AreReplies}
use Rattle.amqp_serve.specs.Ran.{Turn, calls, polls, waits, tells, forgets, Makes}
use Rattle.served_connection.specs.ServeLaws.History.{called}

-- the call is one of these
abbrev pub HasCall : ℕ → Call → List (ℕ × Call) → Type 0
HasCall name call [] = ⊥
HasCall name call (c ∷ cs) = (c ≡ (name, call)) ⊎ HasCall name call cs

pub call_behind : (name : ℕ) (call : Call) (cs ds : List (ℕ × Call)) → HasCall name call ds → HasCall name call (cs ++ ds)
call_behind name call [] ds k = k
call_behind name call (c ∷ cs) ds k = inr (call_behind name call cs ds k)

pub call_before : (name : ℕ) (call : Call) (cs ds : List (ℕ × Call)) → HasCall name call cs → HasCall name call (cs ++ ds)
call_before name call [] ds k = absurd k
call_before name call (c ∷ cs) ds (inl e) = inl e
call_before name call (c ∷ cs) ds (inr k) = inr (call_before name call cs ds k)

call_is : (c : ℕ × Call) (name : ℕ) (call : Call) → c.0 ≡ name → c.1 ≡ call → c ≡ (name, call)
call_is c name call e f = subst (λ (m : ℕ). c ≡ (m, call)) e (subst (λ (z : Call). c ≡ (c.0, z)) f refl)

now_called : (name n : ℕ) (call : Call) (c : AnyCall) (rest : List (ℕ × Call)) → n ≡ name → c ≡ Connection call → HasCall name call (on_connection n c ++ rest)
now_called name n call (Connection x) rest e f = let same : x ≡ call = cc in inl (call_is (n, x) name call e same)
now_called name n call (Session x) rest e f = cc
now_called name n call (Link x) rest e f = cc

-- a call on the connection that was made is one of those in the turns
pub makes_called : (name : ℕ) (call : Call) (ts : List Turn) → Makes name (Connection call) ts → HasCall name call (called ts)
unfolding Makes
makes_called name call [] k = absurd k
makes_called name call (calls n c ∷ ts) (inl k) = now_called name n call c (called ts) k.0 k.1
makes_called name call (calls n c ∷ ts) (inr k) = call_behind name call (on_connection n c) (called ts) (makes_called name call ts k)
makes_called name call (polls ∷ ts) k = makes_called name call ts k
makes_called name call (waits ∷ ts) k = makes_called name call ts k
makes_called name call (tells rs ∷ ts) k = makes_called name call ts k
makes_called name call (forgets n ∷ ts) k = makes_called name call ts k

pub called_then : (us ts : List Turn) → called (us ++ ts) ≡ called us ++ called ts
called_then [] ts = refl
called_then (calls n c ∷ us) ts = onto (on_connection n c) (called us) (called ts) (called (us ++ ts)) (called_then us ts)
  where
    onto : (a b d e : List (ℕ × Call)) → e ≡ b ++ d → a ++ e ≡ (a ++ b) ++ d
    onto [] b d e f = f
    onto (x ∷ a) b d e f = ap (λ (u : List (ℕ × Call)). x ∷ u) (onto a b d e f)
called_then (polls ∷ us) ts = called_then us ts
called_then (waits ∷ us) ts = called_then us ts
called_then (tells rs ∷ us) ts = called_then us ts
called_then (forgets n ∷ us) ts = called_then us ts

-- ---- the close of a connection that was begun

none_of : (name m : ℕ) (x y : Option (List ℕ)) (c : ℕ × Call) → c ≡ (name, Close x) → c ≡ (m, Close y) → y ≡ x
none_of name m x y c e f =
    let same : Close x ≡ Close y = ap (λ (z : ℕ × Call). z.1) (sym e ∙ f) in cc

prepares_not : (name : ℕ) (x : Option (List ℕ)) (c : ℕ × Call) (own : Prepared) → c ≡ (name, Close x) → prepared_of c.1 ≡ Some own → ⊥
prepares_not name x c own e f =
    let none : prepared_of c.1 ≡ None = ap (λ (z : ℕ × Call). prepared_of z.1) e in cc

-- the last call is the close
pub close_called : (cs : List (ℕ × Call)) (rs : List NamedReply) (own : Prepared) (name m : ℕ) (x y : Option (List ℕ)) (earlier : List (ℕ × Call)) → AreReplies cs rs → prepared_in cs ≡ Some own → HasCall name (Close x) cs → cs ≡ (m, Close y) ∷ earlier → y ≡ x
close_called [] rs own name m x y earlier r p k e = absurd k
close_called (c ∷ []) rs own name m x y earlier r p (inl k) e = let is : c ≡ (m, Close y) = cc in none_of name m x y c k is
close_called (c ∷ []) rs own name m x y earlier r p (inr k) e = absurd k
close_called (c ∷ d ∷ []) rs own name m x y earlier r p (inl k) e = let is : c ≡ (m, Close y) = cc in none_of name m x y c k is
close_called (c ∷ d ∷ []) rs own name m x y earlier r p (inr (inl k)) e = absurd (prepares_not name x d own k p)
close_called (c ∷ d ∷ []) rs own name m x y earlier r p (inr (inr k)) e = absurd k
close_called (c ∷ d ∷ f ∷ cs) rs own name m x y earlier r p k e = absurd r

-- ---- whether it has a SASL layer

-- the first call tells it
pub layer_same : (ds cs : List (ℕ × Call)) → (cs ≡ [] → ⊥) → has_layer (ds ++ cs) ≡ has_layer cs
layer_same [] cs n = refl
layer_same (d ∷ []) [] n = absurd (n refl)
layer_same (d ∷ []) (c ∷ cs) n = refl
layer_same (d ∷ e ∷ ds) cs n = layer_same (e ∷ ds) cs n

cause_called : (cs : List (ℕ × Call)) (h : List Local) (a : Answer) → made_in h ≡ cs → a ≡ answer.Pending → HasCause h a → cs ≡ [] → ⊥
cause_called cs h a e p k n =
    let waits : HasCause h answer.Pending = subst (λ (z : Answer). HasCause h z) p k in subst (λ (u : List (ℕ × Call)). AreAllowedTextsIn u) (e ∙ n) waits

-- a call was made before it is told that it waits
pub pending_called : (h : List Local) (x : NamedReply) (more : List NamedReply) → AllCaused h → replied_in h ≡ x ∷ more → x.reply ≡ answer.Pending → made_in h ≡ [] → ⊥
pending_called [] x more k e p n = cc
pending_called (Made at name c ∷ h) x more k e p n = cc
pending_called (Polled at ∷ h) x more k e p n = pending_called h x more k e p n
pending_called (AtLink y ∷ h) x more k e p n = pending_called h x more k e p n
pending_called (Exchanged ∷ h) x more k e p n = pending_called h x more k e p n
pending_called (Got y ∷ h) x more k e p n = pending_called h x more k e p n
pending_called (Put y ∷ h) x more k e p n = pending_called h x more k e p n
pending_called (Replied r ∷ h) x more k e p n = either h r (replied_in h) x more refl e k.0 p n (λ ys f. pending_called h x ys k.1 f p n)
  where
    either : (h : List Local) (r : NamedReply) (rs : List NamedReply) (x : NamedReply) (more : List NamedReply) → replied_in h ≡ rs → rs ++ r ∷ [] ≡ x ∷ more → HasCause h r.reply → x.reply ≡ answer.Pending → made_in h ≡ []
        → ((ys : List NamedReply) → replied_in h ≡ x ∷ ys → ⊥) → ⊥
    either h r [] x more f e k p n g =
        let same : r ≡ x = cc in cause_called (made_in h) h r.reply refl (ap (λ (z : NamedReply). z.reply) same ∙ p) k n
    either h r (y ∷ rs) x more f e k p n g =
        let same : y ≡ x = cc in g rs (f ∙ ap (λ (z : NamedReply). z ∷ rs) same)
