-- Links go on, are made, and wait to be made: the tables agree with the links still.
use Rattle.std.specs.Prelude.{◌≡◌, ◌⊎◌, ℕ, nat_eq, Bool, true, false, cond, List, [], Option, Some, None, refl}
use Rattle.std.proofs.Common.{inl, inr, sym, ◌∙◌, ap, subst}
use Rattle.std.proofs.lemmas.Bool.{eqb-true}
use Rattle.std.specs.List.{IsDistinct}
use Rattle.std.specs.Map.{keys_of, lookup}
use Rattle.amqp_link_calls.specs.Called.{Called}
use Rattle.amqp_parts.specs.declared.part.Part.{Part}
use Rattle.amqp_session_links.specs.declared.place.WaitingAccept.{WaitingAccept}
use Rattle.amqp_session_links.specs.State.{State as Place, none_attached, awaiting_attach}
use Rattle.amqp_links.specs.Attaching.{standing}
use Rattle.amqp_links.specs.Parts.{handle_of, is_heard, output_of}
use Rattle.amqp_links.specs.State.{State, place_of, link_of, with_link, with_place, entered_at}
use Rattle.session_laws.specs.Messages.{transfers}
use Rattle.link_lives.specs.Lives.{Event, Went}
use Rattle.link_lives.specs.Logs.{accepts_as, IsFree}
use Rattle.link_lives.proofs.Tables.{set_at, insert_here, insert_other}
use Rattle.link_tables_agree.specs.Sound.{own_at, AllOn, IsUnled, IsUnused, AreSound}
use Rattle.link_tables_agree.proofs.Keyed.{set_keyed, insert_keyed}
use Rattle.link_tables_agree.proofs.Places.{Never, No}
use Rattle.link_tables_agree.proofs.Turns.{on_map, on_none, place_holds, Keyed, Turn, turned_sound}
use Rattle.link_tables_agree.proofs.Went.{Spoke, went_speaks}

pub same_called : (k l : Called) → Some k ≡ Some l → k ≡ l
same_called k l e = cc

-- a state of which the links and what they share are the same
pub sound_same : (s t : State) → t.sessions ≡ s.sessions → t.endpoints ≡ s.endpoints → AreSound s → AreSound t
sound_same s t a e sound = turned_sound Never No s t turn (λ session handle n f. absurd f) (λ n f. absurd f) sound
  where
    place : (session : ℕ) → place_of session t ≡ place_of session s
    place session = ap (lookup (nat_eq session)) a

    turn : Turn Never No s t
    turn =
        record {
          endpoints = e;
          own = λ session handle n led. inl (sym (ap (own_at handle) (place session)) ∙ led);
          keeps = λ session handle n led. inl (ap (own_at handle) (place session) ∙ led);
          accepts = λ session n h. sym (ap (accepts_as n) (place session)) ∙ h;
          keyed = λ k. record { own = λ session p at. k.own session p (sym (place session) ∙ at); peer = λ session p at. k.peer session p (sym (place session) ∙ at) };
        }

-- where nothing is fresh and nothing freed
pub still_sound : (s t : State) → Turn Never No s t → AreSound s → AreSound t
still_sound s t c sound = turned_sound Never No s t c (λ session handle n f. absurd f) (λ n f. absurd f) sound

-- ---- one link goes on

-- a link that stands is the one that went on, or stood before
pub linked : (link n : ℕ) (l m k : Called) (s : State) → link_of link s ≡ Some l → link_of n (with_link link m s) ≡ Some k → ((n ≡ link) × (m ≡ k)) ⊎ (link_of n s ≡ Some k)
linked link n l m k s at h = by (nat_eq link n) refl
  where
    by : (b : Bool) → nat_eq link n ≡ b → ((n ≡ link) × (m ≡ k)) ⊎ (link_of n s ≡ Some k)
    by true e = inl (sym (eqb-true link n e), same_called m k (sym (set_at link n s.endpoints l m at ∙ ap (λ b. cond b (Some m) (link_of n s)) e) ∙ h))
    by false e = inr (sym (set_at link n s.endpoints l m at ∙ ap (λ b. cond b (Some m) (link_of n s)) e) ∙ h)

pub none_linked : (link n : ℕ) (l m : Called) (s : State) → link_of link s ≡ Some l → link_of n s ≡ None → link_of n (with_link link m s) ≡ None
none_linked link n l m s at h = by (nat_eq link n) refl
  where
    none_some : (P : Type 0) → None ≡ Some l → P
    none_some P e = absurd cc

    by : (b : Bool) → nat_eq link n ≡ b → link_of n (with_link link m s) ≡ None
    by true e = none_some _ (sym h ∙ (ap (λ k. link_of k s) (sym (eqb-true link n e)) ∙ at))
    by false e = set_at link n s.endpoints l m at ∙ (ap (λ b. cond b (Some m) (link_of n s)) e ∙ h)

module _ (link : ℕ) (l m : Called) (es : List Event) (ps : List Part) (s : State) (at : link_of link s ≡ Some l) (went : Went l es ps m) (sound : AreSound s) where
  -- the handles that lead to it
  abbrev Own : ℕ → Type 0
  Own handle = own_at handle (place_of l.session s) ≡ Some link

  pub spoke : Spoke Own l.session l.side m.side es
  spoke = went_speaks Own l m es ps went (sound.speaks link l at) (sound.holds link l at)

  went_stands : (session handle n : ℕ) (k : Called) → own_at handle (place_of session s) ≡ Some n → ((n ≡ link) × (m ≡ k)) ⊎ (link_of n s ≡ Some k) → (k.session ≡ session) × (is_heard k ≡ true → handle_of k ≡ handle)
  went_stands session handle n k led (inr old) = sound.stands session handle n k led old
  went_stands session handle n k led (inl e) =
      let was = sound.stands session handle link l (led ∙ ap Some e.0) at in
      subst (λ x. (x.session ≡ session) × (is_heard x ≡ true → handle_of x ≡ handle)) e.1
      (went.session ∙ was.0, λ h. let a = spoke.heard h in a.1 ∙ was.1 a.0)

  went_holds : (n : ℕ) (k : Called) → is_heard k ≡ true → ((n ≡ link) × (m ≡ k)) ⊎ (link_of n s ≡ Some k) → own_at (handle_of k) (place_of k.session s) ≡ Some n
  went_holds n k heard (inr old) = sound.holds n k old heard
  went_holds n k heard (inl e) =
      let a = spoke.heard (ap is_heard e.1 ∙ heard) in
      subst (λ x. own_at (handle_of x) (place_of x.session s) ≡ Some n) e.1
      (ap (λ h. own_at h (place_of m.session s)) a.1 ∙ (ap (λ h. own_at (handle_of l) (place_of h s)) went.session ∙ (sound.holds link l at a.0 ∙ ap Some (sym e.0))))

  went_says : (n : ℕ) (k : Called) → ((n ≡ link) × (m ≡ k)) ⊎ (link_of n s ≡ Some k) → AllOn (λ handle. own_at handle (place_of k.session s) ≡ Some n) (transfers (output_of k))
  went_says n k (inr old) = sound.speaks n k old
  went_says n k (inl e) =
      subst (λ x. AllOn (λ handle. own_at handle (place_of x.session s) ≡ Some n) (transfers (output_of x))) e.1
      (on_map Own (λ handle. own_at handle (place_of m.session s) ≡ Some n) (transfers (output_of m)) (λ handle led. ap (λ h. own_at handle (place_of h s)) went.session ∙ (led ∙ ap Some (sym e.0))) spoke.output)

  pub went_sound : AreSound (with_link link m s)
  went_sound =
      record {
        keyed = set_keyed link s.endpoints m sound.keyed;
        own = sound.own;
        peer = sound.peer;
        stands = λ session handle n k led h. went_stands session handle n k led (linked link n l m k s at h);
        holds = λ n k h heard. went_holds n k heard (linked link n l m k s at h);
        speaks = λ n k h. went_says n k (linked link n l m k s at h);
        waits = λ session n h. let u = sound.waits session n h in record { none = none_linked link n l m s at u.none; own = u.own };
        once = sound.once;
      }

-- ---- a link is made

-- a link that stands is the one that was made, or stood before
pub made_or : (name n : ℕ) (l k : Called) (s : State) → link_of n (standing name l s) ≡ Some k → ((n ≡ name) × (l ≡ k)) ⊎ (link_of n s ≡ Some k)
made_or name n l k s h = by (nat_eq name n) refl
  where
    by : (b : Bool) → nat_eq name n ≡ b → ((n ≡ name) × (l ≡ k)) ⊎ (link_of n s ≡ Some k)
    by true e = inl (sym (eqb-true name n e), same_called l k (sym (insert_here name n l s.endpoints e) ∙ h))
    by false e = inr (sym (insert_other name n l s.endpoints e) ∙ h)

-- that is what leads to it, it has no Transfer to write, and no call of its name waits
pub record IsMade (name : ℕ) (l : Called) (s : State) : Type 0 where
  pub led : (session handle : ℕ) → own_at handle (place_of session s) ≡ Some name → (session ≡ l.session) × (handle ≡ handle_of l)
  pub holds : own_at (handle_of l) (place_of l.session s) ≡ Some name
  pub silent : transfers (output_of l) ≡ []
  pub free : IsFree name s

module _ (name : ℕ) (l : Called) (s : State) (made : IsMade name l s) (sound : AreSound s) where
  made_stands : (session handle n : ℕ) (k : Called) → own_at handle (place_of session s) ≡ Some n → ((n ≡ name) × (l ≡ k)) ⊎ (link_of n s ≡ Some k) → (k.session ≡ session) × (is_heard k ≡ true → handle_of k ≡ handle)
  made_stands session handle n k led (inr old) = sound.stands session handle n k led old
  made_stands session handle n k led (inl e) =
      let a = made.led session handle (led ∙ ap Some e.0) in
      subst (λ x. (x.session ≡ session) × (is_heard x ≡ true → handle_of x ≡ handle)) e.1 (sym a.0, λ h. sym a.1)

  made_holds : (n : ℕ) (k : Called) → is_heard k ≡ true → ((n ≡ name) × (l ≡ k)) ⊎ (link_of n s ≡ Some k) → own_at (handle_of k) (place_of k.session s) ≡ Some n
  made_holds n k heard (inr old) = sound.holds n k old heard
  made_holds n k heard (inl e) = subst (λ x. own_at (handle_of x) (place_of x.session s) ≡ Some n) e.1 (made.holds ∙ ap Some (sym e.0))

  made_says : (n : ℕ) (k : Called) → ((n ≡ name) × (l ≡ k)) ⊎ (link_of n s ≡ Some k) → AllOn (λ handle. own_at handle (place_of k.session s) ≡ Some n) (transfers (output_of k))
  made_says n k (inr old) = sound.speaks n k old
  made_says n k (inl e) =
      subst (λ x. AllOn (λ handle. own_at handle (place_of x.session s) ≡ Some n) (transfers (output_of x))) e.1 (on_none (λ handle. own_at handle (place_of l.session s) ≡ Some n) (transfers (output_of l)) made.silent)

  made_none : (session n : ℕ) → accepts_as n (place_of session s) ≡ true → (b : Bool) → nat_eq name n ≡ b → link_of n s ≡ None → link_of n (standing name l s) ≡ None
  made_none session n h true e none =
      let f : false ≡ true = sym (made.free session) ∙ (ap (λ k. accepts_as k (place_of session s)) (eqb-true name n e) ∙ h) in absurd cc
  made_none session n h false e none = insert_other name n l s.endpoints e ∙ none

  pub made_sound : AreSound (standing name l s)
  made_sound =
      record {
        keyed = insert_keyed name l s.endpoints sound.keyed;
        own = sound.own;
        peer = sound.peer;
        stands = λ session handle n k led h. made_stands session handle n k led (made_or name n l k s h);
        holds = λ n k h heard. made_holds n k heard (made_or name n l k s h);
        speaks = λ n k h. made_says n k (made_or name n l k s h);
        waits = λ session n h. let u = sound.waits session n h in record { none = made_none session n h (nat_eq name n) refl u.none; own = u.own };
        once = sound.once;
      }

-- ---- a call waits for an Attach

-- a call that waits waited before, or is that one
waiting_or : (session : ℕ) (accept : WaitingAccept) (p : Place) (s : State) → place_of session s ≡ Some p → (other n : ℕ) → accepts_as n (place_of other (with_place session (awaiting_attach accept p) s)) ≡ true
    → ((other ≡ session) × (n ≡ accept.name)) ⊎ (accepts_as n (place_of other s) ≡ true)
waiting_or session accept p s at other n =
    place_holds (λ x o. accepts_as n o ≡ true → ((x ≡ session) × (n ≡ accept.name)) ⊎ (accepts_as n (place_of x s) ≡ true)) session p (awaiting_attach accept p) s at
    (λ h. inl (refl, sym (eqb-true accept.name n h))) (λ x e h. inr h) other

module _ (session : ℕ) (accept : WaitingAccept) (p : Place) (s : State) (at : place_of session s ≡ Some p) (unused : IsUnused accept.name s) (sound : AreSound s) where
  abbrev Behind : State
  Behind = with_place session (awaiting_attach accept p) s

  own_same : (other handle : ℕ) → own_at handle (place_of other Behind) ≡ own_at handle (place_of other s)
  own_same other handle = place_holds (λ x o. own_at handle o ≡ own_at handle (place_of x s)) session p (awaiting_attach accept p) s at (sym (ap (own_at handle) at)) (λ x e. refl) other

  waits_unled : (n : ℕ) → ((other : ℕ) → ((other ≡ session) × (n ≡ accept.name)) ⊎ (accepts_as n (place_of other s) ≡ true) → IsUnled n s)
  waits_unled n other (inl e) = subst (λ k. IsUnled k s) (sym e.1) unused.unled
  waits_unled n other (inr h) = sound.waits other n h

  not_free : (other n : ℕ) → n ≡ accept.name → accepts_as n (place_of other s) ≡ true → ⊥
  not_free other n e h = let f : false ≡ true = sym (unused.free other) ∙ (ap (λ k. accepts_as k (place_of other s)) (sym e) ∙ h) in cc

  waits_once : (a b n : ℕ) → ((a ≡ session) × (n ≡ accept.name)) ⊎ (accepts_as n (place_of a s) ≡ true) → ((b ≡ session) × (n ≡ accept.name)) ⊎ (accepts_as n (place_of b s) ≡ true) → a ≡ b
  waits_once a b n (inl e) (inl f) = e.0 ∙ sym f.0
  waits_once a b n (inl e) (inr h) = absurd (not_free b n e.1 h)
  waits_once a b n (inr h) (inl f) = absurd (not_free a n f.1 h)
  waits_once a b n (inr h) (inr k) = sound.once a b n h k

  same_place : (q r : Place) → Some q ≡ Some r → q ≡ r
  same_place q r e = cc

  pub awaiting_sound : AreSound Behind
  awaiting_sound =
      record {
        keyed = sound.keyed;
        own = λ other r.
            place_holds (λ x o. o ≡ Some r → IsDistinct nat_eq (keys_of r.table.handles)) session p (awaiting_attach accept p) s at
            (λ e. subst (λ (y : Place). IsDistinct nat_eq (keys_of y.table.handles)) (same_place (awaiting_attach accept p) r e) (sound.own session p at)) (λ x f e. sound.own x r e) other;
        peer = λ other r.
            place_holds (λ x o. o ≡ Some r → IsDistinct nat_eq (keys_of r.table.remotes)) session p (awaiting_attach accept p) s at
            (λ e. subst (λ (y : Place). IsDistinct nat_eq (keys_of y.table.remotes)) (same_place (awaiting_attach accept p) r e) (sound.peer session p at)) (λ x f e. sound.peer x r e) other;
        stands = λ other handle n l led h. sound.stands other handle n l (sym (own_same other handle) ∙ led) h;
        holds = λ n l h heard. own_same l.session (handle_of l) ∙ sound.holds n l h heard;
        speaks = λ n l h. on_map (λ handle. own_at handle (place_of l.session s) ≡ Some n) (λ handle. own_at handle (place_of l.session Behind) ≡ Some n) (transfers (output_of l)) (λ handle led. own_same l.session handle ∙ led) (sound.speaks n l h);
        waits = λ other n h.
            let u = waits_unled n other (waiting_or session accept p s at other n h) in
            record { none = u.none; own = λ x handle led. u.own x handle (sym (own_same x handle) ∙ led) };
        once = λ a b n h k. waits_once a b n (waiting_or session accept p s at a n h) (waiting_or session accept p s at b n k);
      }

-- ---- a session is known from now on

none_keyed : IsDistinct nat_eq []
unfolding IsDistinct
none_keyed = tt

pub entered_turn : (o : Option Place) (session : ℕ) (s : State) → place_of session s ≡ o → Turn Never No s (entered_at o session s)
entered_turn (Some p) session s at =
    record { endpoints = refl; own = λ x h n led. inl led; keeps = λ x h n led. inl led; accepts = λ x n h. h; keyed = λ k. k }
entered_turn None session s at =
    record {
      endpoints = refl;
      own = λ other handle n. entered_own other handle n (nat_eq session other) refl;
      keeps = λ other handle n. entered_keeps other handle n (nat_eq session other) refl;
      accepts = λ other n. entered_accepts other n (nat_eq session other) refl;
      keyed = λ k. record { own = λ other p. keyed_own k other p (nat_eq session other) refl; peer = λ other p. keyed_peer k other p (nat_eq session other) refl };
    }
  where
    here : (other : ℕ) → nat_eq session other ≡ true → place_of other (entered_at None session s) ≡ Some none_attached
    here other e = insert_here session other none_attached s.sessions e

    there : (other : ℕ) → nat_eq session other ≡ false → place_of other (entered_at None session s) ≡ place_of other s
    there other e = insert_other session other none_attached s.sessions e

    before : (other : ℕ) → nat_eq session other ≡ true → place_of other s ≡ None
    before other e = ap (λ k. place_of k s) (sym (eqb-true session other e)) ∙ at

    entered_own : (other handle n : ℕ) (b : Bool) → nat_eq session other ≡ b → own_at handle (place_of other (entered_at None session s)) ≡ Some n → (own_at handle (place_of other s) ≡ Some n) ⊎ ⊥
    entered_own other handle n true e led = inl (ap (own_at handle) (before other e) ∙ (sym (ap (own_at handle) (here other e)) ∙ led))
    entered_own other handle n false e led = inl (sym (ap (own_at handle) (there other e)) ∙ led)

    entered_keeps : (other handle n : ℕ) (b : Bool) → nat_eq session other ≡ b → own_at handle (place_of other s) ≡ Some n → (own_at handle (place_of other (entered_at None session s)) ≡ Some n) ⊎ ⊥
    entered_keeps other handle n true e led = inl (ap (own_at handle) (here other e) ∙ (sym (ap (own_at handle) (before other e)) ∙ led))
    entered_keeps other handle n false e led = inl (ap (own_at handle) (there other e) ∙ led)

    entered_accepts : (other n : ℕ) (b : Bool) → nat_eq session other ≡ b → accepts_as n (place_of other (entered_at None session s)) ≡ true → accepts_as n (place_of other s) ≡ true
    entered_accepts other n true e h = ap (accepts_as n) (before other e) ∙ (sym (ap (accepts_as n) (here other e)) ∙ h)
    entered_accepts other n false e h = sym (ap (accepts_as n) (there other e)) ∙ h

    same_place : (q r : Place) → Some q ≡ Some r → q ≡ r
    same_place q r e = cc

    keyed_own : Keyed s → (other : ℕ) (p : Place) (b : Bool) → nat_eq session other ≡ b → place_of other (entered_at None session s) ≡ Some p → IsDistinct nat_eq (keys_of p.table.handles)
    keyed_own k other p true e h = subst (λ (q : Place). IsDistinct nat_eq (keys_of q.table.handles)) (same_place none_attached p (sym (here other e) ∙ h)) none_keyed
    keyed_own k other p false e h = k.own other p (sym (there other e) ∙ h)

    keyed_peer : Keyed s → (other : ℕ) (p : Place) (b : Bool) → nat_eq session other ≡ b → place_of other (entered_at None session s) ≡ Some p → IsDistinct nat_eq (keys_of p.table.remotes)
    keyed_peer k other p true e h = subst (λ (q : Place). IsDistinct nat_eq (keys_of q.table.remotes)) (same_place none_attached p (sym (here other e) ∙ h)) none_keyed
    keyed_peer k other p false e h = k.peer other p (sym (there other e) ∙ h)

-- a name that was not used is not, where no handle leads to it afresh
pub unused_turn : (Fresh : ℕ → ℕ → ℕ → Type 0) (Freed : ℕ → Type 0) (n : ℕ) (s t : State) → Turn Fresh Freed s t → ((session handle : ℕ) → Fresh session handle n → ⊥) → IsUnused n s → IsUnused n t
unused_turn Fresh Freed n s t c never u =
    record {
      unled = record { none = ap (lookup (nat_eq n)) c.endpoints ∙ u.unled.none; own = λ session handle led. own session handle (c.own session handle n led) };
      free = λ session. free session (accepts_as n (place_of session t)) refl;
    }
  where
    own : (session handle : ℕ) → (own_at handle (place_of session s) ≡ Some n) ⊎ Fresh session handle n → ⊥
    own session handle (inl led) = u.unled.own session handle led
    own session handle (inr f) = never session handle f

    free : (session : ℕ) (b : Bool) → accepts_as n (place_of session t) ≡ b → accepts_as n (place_of session t) ≡ false
    free session false e = e
    free session true e = let f : false ≡ true = sym (u.free session) ∙ c.accepts session n e in absurd cc

pub unused_then : (n : ℕ) (s t : State) → Turn Never No s t → IsUnused n s → IsUnused n t
unused_then n s t c u = unused_turn Never No n s t c (λ session handle f. f) u
