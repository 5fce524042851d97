-- The links of an end are asked for the call that is made.
use Rattle.std.proofs.Common.{◌≡◌, ◌⊎◌, ◌∙◌, inl, inr, ap, subst, sym, refl, ℕ, List, [], ◌∷◌, ◌++◌, Some, None}
use Rattle.amqp_wire.specs.declared.link.Link.{Ghosts}
use Rattle.amqp_calls.specs.declared.call.Call.{Call}
use Rattle.amqp_end.specs.Deeds.{Deed, Did, IsDeed, Asks, links_called_of, links_called_by}
use Rattle.amqp_end.specs.Goes.{on_links}
use Rattle.amqp_end.specs.declared.end.End.{End}
use Rattle.amqp_link_words.specs.declared.link_call.Disposal.TheVariants.{Accepted}
use Rattle.amqp_link_words.specs.declared.link_call.LinkCall.{LinkCall}
use Rattle.amqp_link_words.specs.declared.link_call.LinkCall.TheVariants as call
use Rattle.amqp_links.specs.State.{State as Links, seen as linked}
use Rattle.amqp_peer.specs.Peering.{Peering}
use Rattle.amqp_sessions.specs.State.{State as Sessions, seen}
use Rattle.amqp_serve.specs.Ran.{Turn, calls, polls, waits, tells, forgets, IsTurn, Ran}
use Rattle.served_connection.specs.ListenLaws.Accepts.{AskedIn, AcceptsIn, TurnAccepts, EachAccepts, RunsAccept}
use Rattle.served_connection.proofs.ListenLaws.Accepts.{tells_what_is_accepted}

-- a deed asks the links, or it does not
is_asking : (d : Deed) → (links_called_of d ≡ []) ⊎ ((n : ℕ) × (c : LinkCall) × (d ≡ Asks n c))
is_asking (Asks n c) = inr (n, c, refl)
is_asking other = inl refl

same_first : (n name : ℕ) (c x : LinkCall) (xs : List (ℕ × LinkCall)) → (n, c) ∷ xs ≡ (name, x) ∷ [] → (n ≡ name) × (c ≡ x)
same_first n name c x xs e =
    let head : (n, c) ≡ (name, x) = cc in
    (ap (λ (y : ℕ × LinkCall). y.0) head, ap (λ (y : ℕ × LinkCall). y.1) head)

module _ {L : Type 0} (link : Ghosts L) (at : ℕ) (p : Peering L) (s : Sessions) (l : Links) (name : ℕ) (x : LinkCall) where
  abbrev Asked : List Deed → Peering L → Sessions → Links → Type 0
  Asked ds p' s' l' = AskedIn link at p s l ds p' s' l' name x

  asked_here : (ds : List Deed) (n : ℕ) (c : LinkCall) (p' : Peering L) (s' : Sessions) (l' : Links) → Did link at p s l (Asks n c ∷ ds) p' s' l' → n ≡ name → c ≡ x → Asked (Asks n c ∷ ds) p' s' l'
  asked_here ds n c p' s' l' h e f =
      let same : Asks n c ≡ Asks name x = ap (λ (i : ℕ). Asks i c) e ∙ ap (λ (y : LinkCall). Asks name y) f in
      record {
        earlier = ds;
        later = [];
        deeds_are = ap (λ (d : Deed). d ∷ ds) same;
        held = h.0;
        sessions = h.1;
        before = h.2;
        begins = h.3;
        held_behind = p';
        sessions_behind = s';
        behind = l';
        asks = subst (λ (d : Deed). IsDeed link at h.0 h.1 h.2 d p' s' l') same h.4;
        ends = (refl, refl, refl);
      }

  asked_more : (d : Deed) (ds : List Deed) (p' : Peering L) (s' : Sessions) (l' : Links) (h : Did link at p s l (d ∷ ds) p' s' l') → Asked ds h.0 h.1 h.2 → Asked (d ∷ ds) p' s' l'
  asked_more d ds p' s' l' h a = record {
    earlier = a.earlier;
    later = d ∷ a.later;
    deeds_are = ap (λ (u : List Deed). d ∷ u) a.deeds_are;
    held = a.held;
    sessions = a.sessions;
    before = a.before;
    begins = a.begins;
    held_behind = a.held_behind;
    sessions_behind = a.sessions_behind;
    behind = a.behind;
    asks = a.asks;
    ends = (h.0, h.1, h.2, a.ends, h.4);
  }

  asked_by : (d : Deed) (ds : List Deed) (p' : Peering L) (s' : Sessions) (l' : Links) (h : Did link at p s l (d ∷ ds) p' s' l') → links_called_of d ++ links_called_by ds ≡ (name, x) ∷ [] → (links_called_by ds ≡ (name, x) ∷ [] → Asked ds h.0 h.1 h.2)
      → (links_called_of d ≡ []) ⊎ ((n : ℕ) × (c : LinkCall) × (d ≡ Asks n c)) → Asked (d ∷ ds) p' s' l'
  asked_by d ds p' s' l' h e before (inl none) = asked_more d ds p' s' l' h (before (ap (λ (xs : List (ℕ × LinkCall)). xs ++ links_called_by ds) (sym none) ∙ e))
  asked_by d ds p' s' l' h e before (inr is) =
      let h' = subst (λ (y : Deed). Did link at p s l (y ∷ ds) p' s' l') is.2 h in
      let e' = subst (λ (y : Deed). links_called_of y ++ links_called_by ds ≡ (name, x) ∷ []) is.2 e in
      let f = same_first is.0 name is.1 x (links_called_by ds) e' in
      subst (λ (y : Deed). Asked (y ∷ ds) p' s' l') (sym is.2) (asked_here ds is.0 is.1 p' s' l' h' f.0 f.1)

  pub asked_in : (ds : List Deed) (p' : Peering L) (s' : Sessions) (l' : Links) → Did link at p s l ds p' s' l' → links_called_by ds ≡ (name, x) ∷ [] → Asked ds p' s' l'
  asked_in [] p' s' l' h e = absurd cc
  asked_in (d ∷ ds) p' s' l' h e = asked_by d ds p' s' l' h e (λ f. asked_in ds h.0 h.1 h.2 h.3 f) (is_asking d)

module _ {L : Type 0} (link : Ghosts L) where
  accepts_in : (at : ℕ) (old new : End L) (ds : List Deed) (name receiver delivery : ℕ) → Did link at old.connection (seen old.sessions) (linked old.links) ds new.connection (seen new.sessions) (linked new.links)
      → links_called_by ds ≡ (name, call.Dispose receiver Accepted (delivery ∷ [])) ∷ [] → AcceptsIn link at old new ds name receiver delivery
  accepts_in at old new ds name receiver delivery h e =
      let a = asked_in link at old.connection (seen old.sessions) (linked old.links) name (call.Dispose receiver Accepted (delivery ∷ [])) ds new.connection (seen new.sessions) (linked new.links) h e in
      record { asked = a; writes = λ l s g here side known. tells_what_is_accepted name receiver delivery None a.before a.behind l s g a.asks.2 here side known }

  turn_accepts : (m n : End L) (t : Turn) (k : IsTurn link m t n) → TurnAccepts link m t n k
  turn_accepts m n (calls name call) k = λ receiver delivery is.
      accepts_in k.1 (record m { last = Some name }) n k.2.deeds name receiver delivery k.2.did (k.2.asked ∙ ap (λ (c : Call). on_links name c) is)
  turn_accepts m n polls k = tt
  turn_accepts m n waits k = tt
  turn_accepts m n (tells rs) k = tt
  turn_accepts m n (forgets name) k = tt

  pub runs_accept : RunsAccept link
  unfolding EachAccepts Ran
  runs_accept old new [] k = tt
  runs_accept old new (t ∷ ts) k = (runs_accept old k.0 ts k.1, turn_accepts k.0 new t k.2)
