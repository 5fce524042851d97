-- One session, from its begin on, among those that were made.
use Rattle.std.specs.Prelude.{◌≡◌, ℕ, nat_eq, Bool, true, false, List, [], ◌∷◌, ◌++◌, Option, Some, None, if◌then◌else◌, refl}
use Rattle.std.proofs.Common.{sym, ◌∙◌, ap, subst, append_assoc, eq-eqb}
use Rattle.std.specs.Map.{values_of}
use Rattle.amqp_session.specs.State.{State as Session, Framed}
use Rattle.amqp_sessions.specs.Parts.{EndpointState}
use Rattle.session_laws.specs.Holding.{Move, after, after_all, handed, handed_all}
use Rattle.session_laws.specs.Settling.{IsAmong}
use Rattle.session_lives.specs.Channels.{AllOn}
use Rattle.session_lives.specs.Lives.{moves, Share, Lives}
use Rattle.session_lives.specs.Logs.{own, Fate}
use Rattle.session_lives.proofs.Channels.{speaks_on_its_own}
use Rattle.window_laws.specs.Announcing.{Announces}
use Rattle.window_laws.specs.Counting.{behind, InOrder}
use Rattle.window_laws.specs.Starting as starting
use Rattle.window_laws.specs.Starting.{Start, session_of, writes, window}
use Rattle.window_laws.proofs.Announces.{announces_its_window}
use Rattle.window_laws.proofs.Orders.{order_first, order_last, Each, all_each}
use Rattle.window_laws.proofs.Walks.{counted}
use Rattle.world_lives.specs.WorldWindows.Making.{Made, made_as, IsOne, channel_of, IsOf, AreOf}

-- ---- moves behind moves

pub after_more : (s : Session) (ms ns : List Move) → after_all s (ms ++ ns) ≡ after_all (after_all s ms) ns
after_more s [] ns = refl
after_more s (m ∷ ms) ns = after_more (after s m) ms ns

pub handed_more : (s : Session) (ms ns : List Move) → handed_all s (ms ++ ns) ≡ handed_all s ms ++ handed_all (after_all s ms) ns
handed_more s [] ns = refl
handed_more s (m ∷ ms) ns =
    let t = after s m in
    ap (λ xs. handed s m ++ xs) (handed_more t ms ns) ∙ sym (append_assoc (handed s m) (handed_all t ms) (handed_all (after_all t ms) ns))

-- ---- on its channel

channel_is : (u : Start) → (session_of u).channel ≡ channel_of u
channel_is (starting.begins x channel) = refl
channel_is (starting.answers x channel incoming) = refl

output_on : (u : Start) → AllOn (channel_of u) (session_of u).output
output_on (starting.begins x channel) = (refl, tt)
output_on (starting.answers x channel incoming) = (refl, tt)

on_last : (c : ℕ) (xs ys : List Framed) → AllOn c (xs ++ ys) → AllOn c ys
on_last c [] ys h = h
on_last c (x ∷ xs) ys h = on_last c xs ys h.1

-- ---- among those

module _ (made : List Made) where
  pub of_both : (xs ys : List Framed) → AreOf made xs → AreOf made ys → AreOf made (xs ++ ys)
  of_both [] ys h k = k
  of_both (x ∷ xs) ys h k = (h.0, of_both xs ys h.1 k)

  pub of_first : (xs ys : List Framed) → AreOf made (xs ++ ys) → AreOf made xs
  of_first [] ys h = tt
  of_first (x ∷ xs) ys h = (h.0, of_first xs ys h.1)

  pub of_last : (xs ys : List Framed) → AreOf made (xs ++ ys) → AreOf made ys
  of_last [] ys h = h
  of_last (x ∷ xs) ys h = of_last xs ys h.1

  of_one : (m : Made) → IsAmong m made → (n : ℕ) (xs : List Framed) → InOrder (Each (Announces (window m.start))) n xs → AllOn (channel_of m.start) xs → AreOf made xs
  of_one m a n [] h k = tt
  of_one m a n (x ∷ xs) h k = (record { one = m; among = a; channel = k.0; announces = h.0 }, of_one m a (behind n x.body) xs h.1 k.1)

  -- what such a session gives since
  gives : (m : Made) → IsAmong m made → (js ks : List Move) → AreOf made (handed_all (after_all (session_of m.start) js) ks)
  gives m a js ks =
      let s = session_of m.start in
      let out = (after_all s (js ++ ks)).output in
      let before = handed_all s js in
      let since = handed_all (after_all s js) ks in
      let P = Each (Announces (window m.start)) in
      let all : InOrder P 0 (handed_all s (js ++ ks)) =
      order_first P 0 (handed_all s (js ++ ks)) out (all_each (Announces (window m.start)) 0 (writes m.start (js ++ ks)) (announces_its_window m.start (js ++ ks)).announced) in
      let named : InOrder P (counted 0 before) since = order_last P 0 before since (subst (λ (xs : List Framed). InOrder P 0 xs) (handed_more s js ks) all) in
      let spoken = (speaks_on_its_own (channel_of m.start) s (js ++ ks) (channel_is m.start) (output_on m.start)).written in
      of_one m a (counted 0 before) since named (on_last (channel_of m.start) before since (subst (λ (xs : List Framed). AllOn (channel_of m.start) xs) (handed_more s js ks) spoken))

  -- what becomes of it
  record Goes (n : ℕ) (a : Share) (t : Session) : Type 0 where
    wrote : AreOf made a.wrote
    one : IsOne made n t

  goes : (n : ℕ) (s t : Session) (a : Share) → IsOne made n s → Lives s a t → Goes n a t
  goes n s t a o l =
      let u = session_of o.start in
      let ks = moves l.steps in
      let same : a.wrote ≡ handed_all (after_all u o.moves) ks = ap (λ (b : Share). b.wrote) l.share ∙ ap (λ (x : Session). handed_all x ks) o.behind in
      record {
        wrote = subst (λ (xs : List Framed). AreOf made xs) (sym same) (gives (made_as n o.start) o.among o.moves ks);
        one = record {
          start = o.start;
          among = o.among;
          moves = o.moves ++ ks;
          behind = l.behind ∙ (ap (λ (x : Session). after_all x ks) o.behind ∙ sym (after_more u o.moves ks));
        };
      }

  pub record Fated (n : ℕ) (a : Share) (p : Option EndpointState) : Type 0 where
    pub wrote : AreOf made a.wrote
    pub one : (f : EndpointState) → p ≡ Some f → IsOne made n f.session

  same_there : (f g : EndpointState) → Some f ≡ Some g → f ≡ g
  same_there f g h = cc

  pub fated : (n : ℕ) (a : Share) (o p : Option EndpointState) → ((e : EndpointState) → o ≡ Some e → IsOne made n e.session) → Fate o a p → Fated n a p
  fated n a None None was f = record { wrote = subst (λ (xs : List Framed). AreOf made xs) (sym (ap (λ (b : Share). b.wrote) f)) tt; one = λ g at. absurd cc }
  fated n a None (Some g) was f = absurd f
  fated n a (Some e) None was f = record { wrote = (goes n e.session f.0 a (was e refl) f.1).wrote; one = λ g at. absurd cc }
  fated n a (Some e) (Some g) was f =
      let k = goes n e.session g.session a (was e refl) f in
      record { wrote = k.wrote; one = λ h at. subst (λ (x : EndpointState). IsOne made n x.session) (same_there g h at) k.one }

  -- ---- a log

  log_head : (t : Bool) (x : Framed) (xs : List Framed) → t ≡ true → AreOf made ((if t then x ∷ [] else []) ++ xs) → IsOf made x
  log_head true x xs e h = h.0
  log_head false x xs e h = absurd cc

  log_tail : (t : Bool) (x : Framed) (xs : List Framed) → AreOf made ((if t then x ∷ [] else []) ++ xs) → AreOf made xs
  log_tail true x xs h = h.1
  log_tail false x xs h = h

  -- where the frames under each name are, all are
  pub of_log : (log : List (ℕ × Framed)) → ((n : ℕ) → AreOf made (own n log)) → AreOf made (values_of log)
  of_log [] h = tt
  of_log (e ∷ log) h = (log_head (nat_eq e.0 e.0) e.1 (own e.0 log) (eq-eqb e.0 e.0 refl) (h e.0), of_log log (λ n. log_tail (nat_eq n e.0) e.1 (own n log) (h n)))
