-- What the links of a session share goes on, and the tables agree with the links still.
use Rattle.std.specs.Prelude.{◌≡◌, ◌⊎◌, ℕ, nat_eq, Bool, true, false, cond, List, [], ◌∷◌, Option, Some, refl}
use Rattle.std.proofs.Common.{inl, inr, sym, ◌∙◌, ap, subst}
use Rattle.std.proofs.lemmas.Bool.{eqb-true, eqb-false}
use Rattle.std.specs.List.{IsDistinct}
use Rattle.std.specs.Map.{keys_of, lookup}
use Rattle.amqp_link_calls.specs.Called.{Called}
use Rattle.amqp_link_tables.specs.Calls.{link_at}
use Rattle.amqp_parts.specs.declared.part.Part.{Part}
use Rattle.amqp_session_links.specs.State.{State as Place}
use Rattle.amqp_links.specs.Parts.{handle_of, is_heard, output_of}
use Rattle.amqp_links.specs.State.{State, place_of, link_of, with_place}
use Rattle.session_laws.specs.Messages.{transfers}
use Rattle.link_lives.specs.Logs.{is_named, accepts_as}
use Rattle.link_lives.proofs.Tables.{set_at}
use Rattle.link_tables_agree.specs.Sound.{own_at, AllOn, IsUnled, AreSound}

-- ---- Transfers on handles

pub on_map : (Q R : ℕ → Type 0) (xs : List Part) → ((handle : ℕ) → Q handle → R handle) → AllOn Q xs → AllOn R xs
on_map Q R [] f p = tt
on_map Q R (x ∷ xs) f p = (f x.transfer.handle p.0, on_map Q R xs f p.1)

on_or : (R : ℕ → Type 0) (F : Type 0) (xs : List Part) → AllOn (λ handle. R handle ⊎ F) xs → AllOn R xs ⊎ F
on_or R F [] p = inl tt
on_or R F (x ∷ xs) p = by p.0 (on_or R F xs p.1)
  where
    by : R x.transfer.handle ⊎ F → AllOn R xs ⊎ F → AllOn R (x ∷ xs) ⊎ F
    by (inl a) (inl b) = inl (a, b)
    by (inl a) (inr f) = inr f
    by (inr f) q = inr f

pub on_none : (R : ℕ → Type 0) (xs : List Part) → xs ≡ [] → AllOn R xs
on_none R xs e = subst (AllOn R) (sym e) tt

-- ---- one place

module _ (P : ℕ → Option Place → Type 0) where
  pub place_holds : (session : ℕ) (p q : Place) (s : State) → place_of session s ≡ Some p → P session (Some q)
      → ((other : ℕ) → nat_eq session other ≡ false → P other (place_of other s)) → (other : ℕ) → P other (place_of other (with_place session q s))
  place_holds session p q s at here there other = by (nat_eq session other) refl
    where
      by : (b : Bool) → nat_eq session other ≡ b → P other (place_of other (with_place session q s))
      by true e =
          let found : place_of other (with_place session q s) ≡ Some q = set_at session other s.sessions p q at ∙ ap (λ b. cond b (Some q) (place_of other s)) e in
          subst (λ o. P other o) (sym found) (subst (λ n. P n (Some q)) (eqb-true session other e) here)
      by false e =
          let found : place_of other (with_place session q s) ≡ place_of other s = set_at session other s.sessions p q at ∙ ap (λ b. cond b (Some q) (place_of other s)) e in
          subst (λ o. P other o) (sym found) (there other e)

pub place_here : (session : ℕ) (p q : Place) (s : State) → place_of session s ≡ Some p → place_of session (with_place session q s) ≡ Some q
place_here session p q s at = by (nat_eq session session) refl
  where
    by : (b : Bool) → nat_eq session session ≡ b → place_of session (with_place session q s) ≡ Some q
    by true e = set_at session session s.sessions p q at ∙ ap (λ b. cond b (Some q) (place_of session s)) e
    by false e = absurd (differs session e)
      where
        differs : (n : ℕ) → nat_eq n n ≡ false → ⊥
        differs n h = eqb-false n n h refl

-- ---- what the links share

-- on each session each handle stands once
pub record Keyed (s : State) : Type 0 where
  pub own : (session : ℕ) (p : Place) → place_of session s ≡ Some p → IsDistinct nat_eq (keys_of p.table.handles)
  pub peer : (session : ℕ) (p : Place) → place_of session s ≡ Some p → IsDistinct nat_eq (keys_of p.table.remotes)

same_place : (p q : Place) → Some p ≡ Some q → p ≡ q
same_place p q e = cc

-- a link to which a handle leads afresh is none, or of that session, and has that handle while it is heard; no call of its name waits
pub record IsFresh (s : State) (session handle n : ℕ) : Type 0 where
  pub stands : (l : Called) → link_of n s ≡ Some l → (l.session ≡ session) × (is_heard l ≡ true → handle_of l ≡ handle)
  pub waits : (other : ℕ) → accepts_as n (place_of other s) ≡ true → ⊥

-- a link that is freed is not heard, and has no Transfer to write
pub record IsFreed (s : State) (n : ℕ) : Type 0 where
  pub unheard : (l : Called) → link_of n s ≡ Some l → is_heard l ≡ true → ⊥
  pub silent : (l : Called) → link_of n s ≡ Some l → transfers (output_of l) ≡ []

module _ (Fresh : ℕ → ℕ → ℕ → Type 0) (Freed : ℕ → Type 0) where
  -- the links stay as they are; handles lead to others where that is fresh, and to links no more that are freed; no call begins to wait
  pub record Turn (s t : State) : Type 0 where
    pub endpoints : t.endpoints ≡ s.endpoints
    pub own : (session handle n : ℕ) → own_at handle (place_of session t) ≡ Some n → (own_at handle (place_of session s) ≡ Some n) ⊎ Fresh session handle n
    pub keeps : (session handle n : ℕ) → own_at handle (place_of session s) ≡ Some n → (own_at handle (place_of session t) ≡ Some n) ⊎ Freed n
    pub accepts : (session n : ℕ) → accepts_as n (place_of session t) ≡ true → accepts_as n (place_of session s) ≡ true
    pub keyed : Keyed s → Keyed t

  -- the same of the place of one session
  pub record Changes (session : ℕ) (p q : Place) : Type 0 where
    pub own : (handle n : ℕ) → link_at handle q.table ≡ Some n → (link_at handle p.table ≡ Some n) ⊎ Fresh session handle n
    pub keeps : (handle n : ℕ) → link_at handle p.table ≡ Some n → (link_at handle q.table ≡ Some n) ⊎ Freed n
    pub accepts : (n : ℕ) → is_named n q.accepting ≡ true → is_named n p.accepting ≡ true
    pub handles : IsDistinct nat_eq (keys_of p.table.handles) → IsDistinct nat_eq (keys_of q.table.handles)
    pub remotes : IsDistinct nat_eq (keys_of p.table.remotes) → IsDistinct nat_eq (keys_of q.table.remotes)

  pub turn_at : (session : ℕ) (p q : Place) (s : State) → place_of session s ≡ Some p → Changes session p q → Turn s (with_place session q s)
  turn_at session p q s at c =
      record {
        endpoints = refl;
        own = λ other handle n.
            place_holds (λ x o. own_at handle o ≡ Some n → (own_at handle (place_of x s) ≡ Some n) ⊎ Fresh x handle n) session p q s at
            (λ h. old handle n (c.own handle n h)) (λ x e h. inl h) other;
        keeps = λ other handle n.
            place_holds (λ x o. own_at handle (place_of x s) ≡ Some n → (own_at handle o ≡ Some n) ⊎ Freed n) session p q s at
            (λ h. c.keeps handle n (sym (ap (own_at handle) at) ∙ h)) (λ x e h. inl h) other;
        accepts = λ other n.
            place_holds (λ x o. accepts_as n o ≡ true → accepts_as n (place_of x s) ≡ true) session p q s at
            (λ h. ap (accepts_as n) at ∙ c.accepts n h) (λ x e h. h) other;
        keyed = λ k. record {
          own = λ other r.
              place_holds (λ x o. o ≡ Some r → IsDistinct nat_eq (keys_of r.table.handles)) session p q s at
              (λ e. subst (λ (y : Place). IsDistinct nat_eq (keys_of y.table.handles)) (same_place q r e) (c.handles (k.own session p at))) (λ x f e. k.own x r e) other;
          peer = λ other r.
              place_holds (λ x o. o ≡ Some r → IsDistinct nat_eq (keys_of r.table.remotes)) session p q s at
              (λ e. subst (λ (y : Place). IsDistinct nat_eq (keys_of y.table.remotes)) (same_place q r e) (c.remotes (k.peer session p at))) (λ x f e. k.peer x r e) other;
        };
      }
    where
      old : (handle n : ℕ) → (link_at handle p.table ≡ Some n) ⊎ Fresh session handle n → (own_at handle (place_of session s) ≡ Some n) ⊎ Fresh session handle n
      old handle n (inl h) = inl (ap (own_at handle) at ∙ h)
      old handle n (inr f) = inr f

  pub turned_sound : (s t : State) → Turn s t → ((session handle n : ℕ) → Fresh session handle n → IsFresh s session handle n) → ((n : ℕ) → Freed n → IsFreed s n) → AreSound s → AreSound t
  turned_sound s t c fresh freed sound =
      let keyed : Keyed t = c.keyed (record { own = sound.own; peer = sound.peer }) in
      record {
        keyed = subst (λ es. IsDistinct nat_eq (keys_of es)) (sym c.endpoints) sound.keyed;
        own = keyed.own;
        peer = keyed.peer;
        stands = λ session handle n l led at. stands session handle n l (was n l at) (c.own session handle n led);
        holds = λ n l at heard. holds n l (was n l at) heard (c.keeps l.session (handle_of l) n (sound.holds n l (was n l at) heard));
        speaks = λ n l at. speaks n l (was n l at) (sound.speaks n l (was n l at));
        waits = λ session n h.
            let k = sound.waits session n (c.accepts session n h) in
            record { none = ap (lookup (nat_eq n)) c.endpoints ∙ k.none; own = λ other handle led. unled session n (c.accepts session n h) k other handle (c.own other handle n led) };
        once = λ a b n h k. sound.once a b n (c.accepts a n h) (c.accepts b n k);
      }
    where
      was : (n : ℕ) (l : Called) → link_of n t ≡ Some l → link_of n s ≡ Some l
      was n l at = sym (ap (lookup (nat_eq n)) c.endpoints) ∙ at

      stands : (session handle n : ℕ) (l : Called) → link_of n s ≡ Some l → (own_at handle (place_of session s) ≡ Some n) ⊎ Fresh session handle n → (l.session ≡ session) × (is_heard l ≡ true → handle_of l ≡ handle)
      stands session handle n l at (inl led) = sound.stands session handle n l led at
      stands session handle n l at (inr f) = (fresh session handle n f).stands l at

      holds : (n : ℕ) (l : Called) → link_of n s ≡ Some l → is_heard l ≡ true → (own_at (handle_of l) (place_of l.session t) ≡ Some n) ⊎ Freed n → own_at (handle_of l) (place_of l.session t) ≡ Some n
      holds n l at heard (inl h) = h
      holds n l at heard (inr f) = absurd ((freed n f).unheard l at heard)

      spoke : (n : ℕ) (l : Called) → link_of n s ≡ Some l → AllOn (λ handle. own_at handle (place_of l.session t) ≡ Some n) (transfers (output_of l)) ⊎ Freed n
          → AllOn (λ handle. own_at handle (place_of l.session t) ≡ Some n) (transfers (output_of l))
      spoke n l at (inl h) = h
      spoke n l at (inr f) = on_none (λ handle. own_at handle (place_of l.session t) ≡ Some n) (transfers (output_of l)) ((freed n f).silent l at)

      speaks : (n : ℕ) (l : Called) → link_of n s ≡ Some l → AllOn (λ handle. own_at handle (place_of l.session s) ≡ Some n) (transfers (output_of l))
          → AllOn (λ handle. own_at handle (place_of l.session t) ≡ Some n) (transfers (output_of l))
      speaks n l at p =
          let R = λ (handle : ℕ). own_at handle (place_of l.session t) ≡ Some n in
          spoke n l at (on_or R (Freed n) (transfers (output_of l)) (on_map (λ handle. own_at handle (place_of l.session s) ≡ Some n) (λ handle. R handle ⊎ Freed n) (transfers (output_of l)) (λ handle. c.keeps l.session handle n) p))

      unled : (session n : ℕ) → accepts_as n (place_of session s) ≡ true → IsUnled n s → (other handle : ℕ) → (own_at handle (place_of other s) ≡ Some n) ⊎ Fresh other handle n → ⊥
      unled session n h k other handle (inl led) = k.own other handle led
      unled session n h k other handle (inr f) = (fresh other handle n f).waits session h
