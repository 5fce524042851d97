-- Names that are not used stay so.
use Rattle.std.specs.Prelude.{◌≡◌, ℕ, nat_eq, Bool, false, List, [], ◌∷◌, ◌++◌, Option, Some, None, refl}
use Rattle.std.proofs.Common.{sym, ◌∙◌, ap, subst, append_assoc}
use Rattle.std.proofs.lemmas.List.{append-nil}
use Rattle.std.proofs.lemmas.Bool.{eqb-false}
use Rattle.std.specs.List.{IsDistinct, AllByRecursion}
use Rattle.std.specs.Map.{lookup}
use Rattle.amqp_composites.specs.declared.modes.Role.{Role}
use Rattle.amqp_link_calls.specs.Called.{Called}
use Rattle.amqp_link_words.specs.declared.link_call.LinkCall.{LinkCall}
use Rattle.amqp_link_words.specs.declared.link_call.LinkCall.TheVariants as call
use Rattle.amqp_parts.specs.declared.part.Part.{Part}
use Rattle.amqp_performatives.specs.declared.attach.Attach.{Attach}
use Rattle.amqp_session.specs.declared.session.LinkInput.{LinkInput}
use Rattle.amqp_session.specs.declared.session.LinkInput.TheVariants as input
use Rattle.amqp_session_links.specs.declared.place.WaitingAccept.{WaitingAccept}
use Rattle.amqp_session_links.specs.Claims.{released, joined, parted}
use Rattle.amqp_session_links.specs.Incoming.{attach_pushed, attach_taken}
use Rattle.amqp_session_links.specs.State.{State as Place, awaiting_attach, accept_taken}
use Rattle.amqp_links.specs.Attaching.{standing, joining}
use Rattle.amqp_links.specs.Accepting.{accept_of}
use Rattle.amqp_links.specs.Parts.{Told, handle_of}
use Rattle.amqp_links.specs.State.{State, no_links, place_of, link_of, with_place, at_place, entered}
use Rattle.link_lives.specs.Deeds.{Deed, Asks, Hears, Hands, Knows, Looks, Tells, IsDeed, Did, IsOther}
use Rattle.link_lives.specs.Logs.{is_named, accepts_as}
use Rattle.link_lives.proofs.Tables.{insert_other}
use Rattle.link_tables_agree.specs.Names.{asked_of, asked_in, UnusedStays, NamesAreNew}
use Rattle.link_tables_agree.specs.Sound.{own_at, IsUnused, AreSound, IsNewCall, IsNewIn, AreNewIn}
use Rattle.link_tables_agree.proofs.Places.{Never, No, calm_changes, released_changes, IsGot, joined_changes, parted_changes, taken_changes, attaches_change}
use Rattle.link_tables_agree.proofs.Turns.{turn_at, place_holds}
use Rattle.link_tables_agree.proofs.Steps.{none_linked, entered_turn, unused_turn, unused_then}
use Rattle.link_tables_agree.proofs.Walks.{Walk, IsClaim, begins, accepts, claim_turn, stepped_turn}
use Rattle.link_tables_agree.proofs.Deeds.{MayAsk, MayHear, MayDo, deed_goes}
use Rattle.link_tables_agree.proofs.Sound.{none_is_sound, one_sound}

-- ---- one step

module _ (n : ℕ) where
  abbrev Stays : State → State → Type 0
  Stays s t = IsUnused n s → IsUnused n t

  stays_same : (s t : State) → t.sessions ≡ s.sessions → t.endpoints ≡ s.endpoints → Stays s t
  stays_same s t a e u =
      record {
        unled = record { none = ap (lookup (nat_eq n)) e ∙ u.unled.none; own = λ session handle led. u.unled.own session handle (sym (ap (λ x. own_at handle (lookup (nat_eq session) x)) a) ∙ led) };
        free = λ session. ap (λ x. accepts_as n (lookup (nat_eq session) x)) a ∙ u.free session;
      }

  -- the links of others go on, and are made
  stays_linked : (s t : State) → t.sessions ≡ s.sessions → (link_of n s ≡ None → link_of n t ≡ None) → Stays s t
  stays_linked s t a f u =
      record {
        unled = record { none = f u.unled.none; own = λ session handle led. u.unled.own session handle (sym (ap (λ x. own_at handle (lookup (nat_eq session) x)) a) ∙ led) };
        free = λ session. ap (λ x. accepts_as n (lookup (nat_eq session) x)) a ∙ u.free session;
      }

  stands_not : (link : ℕ) (l : Called) (s : State) → link_of link s ≡ Some l → IsUnused n s → n ≡ link → ⊥
  stands_not link l s at u e = let f : None ≡ Some l = sym u.unled.none ∙ (ap (λ k. link_of k s) e ∙ at) in cc

  stays_reclaimed : (link : ℕ) (l : Called) (name : List ℕ) (r : Role) (max handle : ℕ) (p q : Place) (s : State) → link_of link s ≡ Some l → place_of l.session s ≡ Some p → IsClaim name r max link handle p q → Stays s (with_place l.session q s)
  stays_reclaimed link l name r max handle p q s is at c u =
      unused_turn (IsGot l.session handle link) No n s (with_place l.session q s) (claim_turn l.session name r max link handle p q s at c) (λ x h f. stands_not link l s is u f.2) u

  stays_awaiting : (session : ℕ) (a : WaitingAccept) (p : Place) (s : State) → nat_eq a.name n ≡ false → place_of session s ≡ Some p → Stays s (with_place session (awaiting_attach a p) s)
  stays_awaiting session a p s other at u =
      record {
        unled = record {
          none = u.unled.none;
          own = λ x handle. place_holds (λ y o. own_at handle o ≡ Some n → ⊥) session p (awaiting_attach a p) s at (λ led. u.unled.own session handle (ap (own_at handle) at ∙ led)) (λ y e led. u.unled.own y handle led) x;
        };
        free = place_holds (λ y o. accepts_as n o ≡ false) session p (awaiting_attach a p) s at other (λ y e. u.free y);
      }

  stays_claimed : (session : ℕ) (name : List ℕ) (r : Role) (max made handle : ℕ) (p q : Place) (s : State) → nat_eq made n ≡ false → place_of session s ≡ Some p → IsClaim name r max made handle p q → Stays s (with_place session q s)
  stays_claimed session name r max made handle p q s other at c u =
      unused_turn (IsGot session handle made) No n s (with_place session q s) (claim_turn session name r max made handle p q s at c) (λ x h f. eqb-false made n other (sym f.2)) u

  stays_standing : (name : ℕ) (l : Called) (s : State) → nat_eq name n ≡ false → Stays s (standing name l s)
  stays_standing name l s other u = stays_linked s (standing name l s) refl (λ e. insert_other name n l s.endpoints other ∙ e) u

  stays_begun : (name : ℕ) (l : Called) (session handle : ℕ) (text : List ℕ) (r : Role) (max : ℕ) (p q : Place) (s : State) → nat_eq name n ≡ false → place_of session s ≡ Some p → IsClaim text r max name handle p q → Stays s (begins name l session q s)
  stays_begun name l session handle text r max p q s other at c u = stays_standing name l (with_place session q s) other (stays_claimed session text r max name handle p q s other at c u)

  stays_accepted : (name : ℕ) (l : Called) (session handle : ℕ) (text : List ℕ) (r : Role) (max : ℕ) (p q : Place) (x : Attach) (s : State) → nat_eq name n ≡ false → place_of session s ≡ Some p → IsClaim text r max name handle p q
      → Stays s (accepts name l session q x s)
  stays_accepted name l session handle text r max p q x s other at c u =
      let a = with_place session q s in
      let b = at_place session attach_taken a in
      let d = standing name l b in
      let v = unused_then n a b (stepped_turn (place_of session a) session attach_taken a refl (λ y. attaches_change session y (attach_taken y) refl refl)) (stays_claimed session text r max name handle p q s other at c u) in
      unused_then n d (joining session x.handle name d) (stepped_turn (place_of session d) session (joined x.handle name) d refl (λ y. joined_changes session x.handle name y)) (stays_standing name l b other v)

  -- all steps but those that make a link of that name
  abbrev keeps : Walk
  keeps =
      record {
        May = λ session remote. Unit {0};
        Joins = λ link. Unit {0};
        Makes = λ name. nat_eq name n ≡ false;
        R = Stays;
        still = λ s u. u;
        next = λ a b c p q u. q (p u);
        same = λ s t a e o. stays_same s t a e;
        goes = λ link l m es ps s t h at w a e o. stays_linked s t a (λ none. ap (lookup (nat_eq n)) e ∙ none_linked link n l m s at none);
        strays = λ session s. stays_same s _ refl refl;
        calm = λ session p q s at c. unused_then n s (with_place session q s) (turn_at Never No session p q s at (calm_changes session p q c));
        enters = λ session s at. unused_then n s _ (entered_turn None session s at);
        frees = λ link l p s h is over at.
            unused_turn Never (λ k. k ≡ link) n s (with_place l.session (released (handle_of l) link p) s)
            (turn_at Never (λ k. k ≡ link) l.session p (released (handle_of l) link p) s at (released_changes l.session (handle_of l) link p (h.own l.session p at))) (λ x k f. f);
        reclaims = λ link l name r max handle p q s is at c. stays_reclaimed link l name r max handle p q s is at c;
        parts = λ session remote p s h may at. unused_then n s _ (turn_at Never No session p (parted remote p) s at (parted_changes session remote p));
        joins = λ session remote link p s may j at. unused_then n s _ (turn_at Never No session p (joined remote link p) s at (joined_changes session remote link p));
        pushes = λ session x p s may at. unused_then n s _ (turn_at Never No session p (attach_pushed x p) s at (attaches_change session p (attach_pushed x p) refl refl));
        awaits = λ session a p s other u at. stays_awaiting session a p s other at;
        drops = λ session p s at. unused_then n s _ (turn_at Never No session p (accept_taken p) s at (taken_changes session p));
        makes = λ name l session handle text r max p q s h other u at c is. stays_begun name l session handle text r max p q s other at c;
        meets = λ name l session handle text r max p q x s h other u at c is may. stays_accepted name l session handle text r max p q x s other at c;
      }

  -- ---- one deed

  may_ask : (name : ℕ) (x : LinkCall) (s : State) → nat_eq name n ≡ false → MayAsk keeps name x s
  may_ask name (call.Sender session settings) s other = other
  may_ask name (call.Receiver session settings) s other = other
  may_ask name (call.Accept session settings credit_mode auto_accept) s other = (other, λ x e. tt)
  may_ask name (call.Send link message) s other = tt
  may_ask name (call.SendTimed link message timeout) s other = tt
  may_ask name (call.Outcome send) s other = tt
  may_ask name (call.Recv link) s other = tt
  may_ask name (call.Dispose link disposal deliveries) s other = tt
  may_ask name (call.SetCredit link credit) s other = tt
  may_ask name (call.Credit link) s other = tt
  may_ask name (call.Regulate link regulation) s other = tt
  may_ask name (call.Disposer link) s other = tt
  may_ask name (call.DisposeBy disposer disposal delivery) s other = tt
  may_ask name (call.Part link parting) s other = tt

  -- a call that waits has another name
  waits_other : (o : Option Place) (a : WaitingAccept) → accept_of o ≡ Some a → accepts_as n o ≡ false → nat_eq a.name n ≡ false
  waits_other None a e f = absurd cc
  waits_other (Some p) a e f = sym (ap (is_named n) e) ∙ f

  may_hear : (session : ℕ) (x : LinkInput) (s : State) → IsUnused n s → MayHear keeps session x s
  may_hear session (input.Attach x) s u =
      let t = entered session s in
      let v = unused_then n s t (entered_turn (place_of session s) session s refl) u in
      record { may = tt; joins = λ made e. tt; makes = λ a e. waits_other (place_of session t) a e (v.free session); meets = λ y e. tt }
  may_hear session (input.Detach x) s u = tt
  may_hear session (input.Flow x) s u = tt
  may_hear session (input.Transfer x payload) s u = tt
  may_hear session (input.Disposition x) s u = tt
  may_hear session (input.Left x) s u = tt
  may_hear session (input.Stopped why) s u = tt
  may_hear session input.Over s u = tt

  may_do : (d : Deed) (s : State) → IsOther n d → IsUnused n s → MayDo keeps d s
  may_do (Asks name x max) s other u = may_ask name x s other
  may_do (Hears session x) s other u = may_hear session x s u
  may_do (Hands x) s other u = tt
  may_do (Knows at) s other u = tt
  may_do Looks s other u = tt
  may_do Tells s other u = tt

  hands : (d : Deed) (old new : State) → IsDeed old d new → (x : Told) → d ≡ Hands x → Stays old new
  hands (Hands y) old new h x e = stays_same old new (ap (λ s. s.sessions) h.1) (ap (λ s. s.endpoints) h.1)
  hands (Asks name call max) old new h x e = absurd cc
  hands (Hears session y) old new h x e = absurd cc
  hands (Knows at) old new h x e = absurd cc
  hands Looks old new h x e = absurd cc
  hands Tells old new h x e = absurd cc

  pub one_stays : (d : Deed) (old new : State) → IsDeed old d new → IsOther n d → IsNewIn d old → AreSound old → IsUnused n old → IsUnused n new
  one_stays d old new h other new_in sound u = (deed_goes keeps d old new h new_in (may_do d old other u) (hands d old new h) sound).goes u

pub unused_stays : UnusedStays
unused_stays n [] old new did other fresh sound u = subst (IsUnused n) (sym did) u
unused_stays n (d ∷ ds) old new did other fresh sound u =
    unused_stays n ds did.0 new did.1.1 other.1 fresh.1 (one_sound d old did.0 did.1.0 fresh.0 sound) (one_stays n d old did.0 did.1.0 other.0 fresh.0 sound u)

-- ---- all names

abbrev pub AreUnused : List ℕ → State → Type 0
AreUnused [] s = Unit {0}
AreUnused (x ∷ xs) s = IsUnused x s × AreUnused xs s

new_call : (name : ℕ) (x : LinkCall) (s : State) → IsUnused name s → IsNewCall name x s
new_call name (call.Sender session settings) s u = u
new_call name (call.Receiver session settings) s u = u
new_call name (call.Accept session settings credit_mode auto_accept) s u = u
new_call name (call.Send link message) s u = tt
new_call name (call.SendTimed link message timeout) s u = tt
new_call name (call.Outcome send) s u = tt
new_call name (call.Recv link) s u = tt
new_call name (call.Dispose link disposal deliveries) s u = tt
new_call name (call.SetCredit link credit) s u = tt
new_call name (call.Credit link) s u = tt
new_call name (call.Regulate link regulation) s u = tt
new_call name (call.Disposer link) s u = tt
new_call name (call.DisposeBy disposer disposal delivery) s u = tt
new_call name (call.Part link parting) s u = tt

-- the names behind a deed are those of others
abbrev AreFar : Deed → List ℕ → Type 0
AreFar (Asks name call max) xs = AllByRecursion (λ y. nat_eq name y ≡ false) xs
AreFar d xs = Unit {0}

is_other : (d : Deed) (x : ℕ) (xs : List ℕ) → AreFar d (x ∷ xs) → IsOther x d
is_other (Asks name call max) x xs f = f.0
is_other (Hears session y) x xs f = tt
is_other (Hands y) x xs f = tt
is_other (Knows at) x xs f = tt
is_other Looks x xs f = tt
is_other Tells x xs f = tt

far_on : (d : Deed) (x : ℕ) (xs : List ℕ) → AreFar d (x ∷ xs) → AreFar d xs
far_on (Asks name call max) x xs f = f.1
far_on (Hears session y) x xs f = tt
far_on (Hands y) x xs f = tt
far_on (Knows at) x xs f = tt
far_on Looks x xs f = tt
far_on Tells x xs f = tt

all_stay : (xs : List ℕ) (d : Deed) (old new : State) → IsDeed old d new → AreFar d xs → IsNewIn d old → AreSound old → AreUnused xs old → AreUnused xs new
all_stay [] d old new h f fresh sound u = tt
all_stay (x ∷ xs) d old new h f fresh sound u = (one_stays x d old new h (is_other d x xs f) fresh sound u.0, all_stay xs d old new h (far_on d x xs f) fresh sound u.1)

-- what the names of a deed say of it, and of those behind it
record Apart (d : Deed) (xs : List ℕ) (s : State) : Type 0 where
  fresh : IsNewIn d s
  far : AreFar d xs
  rest : IsDistinct nat_eq xs
  unused : AreUnused xs s

apart : (d : Deed) (xs : List ℕ) (s : State) → IsDistinct nat_eq (asked_of d ++ xs) → AreUnused (asked_of d ++ xs) s → Apart d xs s
unfolding IsDistinct
apart (Asks name x max) xs s k u = record { fresh = new_call name x s u.0; far = k.0; rest = k.1; unused = u.1 }
apart (Hears session y) xs s k u = record { fresh = tt; far = tt; rest = k; unused = u }
apart (Hands y) xs s k u = record { fresh = tt; far = tt; rest = k; unused = u }
apart (Knows at) xs s k u = record { fresh = tt; far = tt; rest = k; unused = u }
apart Looks xs s k u = record { fresh = tt; far = tt; rest = k; unused = u }
apart Tells xs s k u = record { fresh = tt; far = tt; rest = k; unused = u }

-- names that are used once: each call of these deeds that makes a link has a new one, and those that come later are not used behind them
pub record NewFrom (ds : List Deed) (more : List ℕ) (old new : State) (did : Did old ds new) : Type 0 where
  pub fresh : AreNewIn old ds new did
  pub sound : AreSound new
  pub distinct : IsDistinct nat_eq more
  pub unused : AreUnused more new

pub new_from : (ds : List Deed) (more : List ℕ) (old new : State) (did : Did old ds new) → AreSound old → IsDistinct nat_eq (asked_in ds ++ more) → AreUnused (asked_in ds ++ more) old → NewFrom ds more old new did
new_from [] more old new did sound k u = record { fresh = tt; sound = subst AreSound (sym did) sound; distinct = k; unused = subst (AreUnused more) (sym did) u }
new_from (d ∷ ds) more old new did sound k u =
    let xs = asked_in ds ++ more in
    let e : asked_in (d ∷ ds) ++ more ≡ asked_of d ++ xs = append_assoc (asked_of d) (asked_in ds) more in
    let a = apart d xs old (subst (IsDistinct nat_eq) e k) (subst (λ ys. AreUnused ys old) e u) in
    let s = one_sound d old did.0 did.1.0 a.fresh sound in
    let r = new_from ds more did.0 new did.1.1 s a.rest (all_stay xs d old did.0 did.1.0 a.far a.fresh sound a.unused) in
    record { fresh = (a.fresh, r.fresh); sound = r.sound; distinct = r.distinct; unused = r.unused }

pub are_new : (ds : List Deed) (old new : State) (did : Did old ds new) → AreSound old → IsDistinct nat_eq (asked_in ds) → AreUnused (asked_in ds) old → AreNewIn old ds new did
are_new ds old new did sound k u =
    let e = sym (append-nil (asked_in ds)) in
    (new_from ds [] old new did sound (subst (IsDistinct nat_eq) e k) (subst (λ ys. AreUnused ys old) e u)).fresh

pub none_used : (accepts : Bool) (xs : List ℕ) → AreUnused xs (no_links accepts)
none_used accepts [] = tt
none_used accepts (x ∷ xs) = (record { unled = record { none = refl; own = λ session handle led. absurd cc }; free = λ session. refl }, none_used accepts xs)

pub names_are_new : NamesAreNew
names_are_new accepts ds new did k = are_new ds (no_links accepts) new did (none_is_sound accepts) k (none_used accepts (asked_in ds))
