-- The links of an end go on, and their calls wait as before.
use Rattle.std.specs.Prelude.{◌≡◌, ℕ, nat_eq, Bool, true, false, Option, Some, None, if◌then◌else◌, refl}
use Rattle.std.proofs.Common.{sym, ◌∙◌, ap, subst}
use Rattle.std.specs.Map.{lookup, set_value}
use Rattle.amqp_link_calls.specs.Called.{Called}
use Rattle.amqp_session_links.specs.State.{State as Place, none_attached}
use Rattle.amqp_links.specs.Attaching.{standing}
use Rattle.amqp_links.specs.State.{State, place_of, link_of, with_place, stepped, at_place, entered_at, entered}
use Rattle.call_waits.specs.Waits.{Waits}
use Rattle.link_lives.proofs.Tables.{insert_holds, set_holds}
use Rattle.link_waits.specs.Waits.{AcceptWaits, AreWaiting}

abbrev pub Goes : State → State → Type 0
Goes s t = AreWaiting s → AreWaiting t

pub goes_still : (s : State) → Goes s s
goes_still s = λ w. w

pub goes_then : (a b c : State) → Goes a b → Goes b c → Goes a c
goes_then a b c p q = λ w. q (p w)

pub goes_either : (b : Bool) (s t u : State) → Goes s t → Goes s u → Goes s (if b then t else u)
goes_either true s t u p q = p
goes_either false s t u p q = q

same_called : (k l : Called) → Some k ≡ Some l → k ≡ l
same_called k l e = cc

same_place : (p q : Place) → Some p ≡ Some q → p ≡ q
same_place p q e = cc

-- links, and what they share, are the same
pub goes_same : (s t : State) → t.sessions ≡ s.sessions → t.endpoints ≡ s.endpoints → Goes s t
goes_same s t a e w =
    record {
      links = λ n l at. w.links n l (sym (ap (lookup (nat_eq n)) e) ∙ at);
      accepts = λ session p at. w.accepts session p (sym (ap (lookup (nat_eq session)) a) ∙ at);
    }

-- a link goes on
pub link_goes : (link : ℕ) (l m : Called) (s t : State) → link_of link s ≡ Some l → (Waits l → Waits m) → t.sessions ≡ s.sessions → t.endpoints ≡ set_value (nat_eq link) s.endpoints m → Goes s t
link_goes link l m s t at f a e w =
    record {
      links = λ n k h.
          set_holds (λ o. o ≡ Some k → Waits k) link n s.endpoints l m at (λ g. subst Waits (same_called m k g) (f (w.links link l at))) (λ g. w.links n k g)
          (sym (ap (lookup (nat_eq n)) e) ∙ h);
      accepts = λ session p h. w.accepts session p (sym (ap (lookup (nat_eq session)) a) ∙ h);
    }

-- a link is made
pub standing_goes : (name : ℕ) (l : Called) (s : State) → Waits l → Goes s (standing name l s)
standing_goes name l s k w =
    record {
      links = λ n m h. insert_holds (λ o. o ≡ Some m → Waits m) name n l s.endpoints (λ g. subst Waits (same_called l m g) k) (λ g. w.links n m g) h;
      accepts = w.accepts;
    }

-- what the links of a session share goes on
pub with_place_goes : (session : ℕ) (p q : Place) (s : State) → place_of session s ≡ Some p → (AcceptWaits p → AcceptWaits q) → Goes s (with_place session q s)
with_place_goes session p q s at f w =
    record {
      links = w.links;
      accepts = λ other r h.
          set_holds (λ o. o ≡ Some r → AcceptWaits r) session other s.sessions p q at (λ g. subst AcceptWaits (same_place q r g) (f (w.accepts session p at))) (λ g. w.accepts other r g) h;
    }

stepped_goes : (o : Option Place) (session : ℕ) (f : Place → Place) (s : State) → place_of session s ≡ o → ((p : Place) → AcceptWaits p → AcceptWaits (f p)) → Goes s (stepped o session f s)
stepped_goes None session f s at h = goes_still s
stepped_goes (Some p) session f s at h = with_place_goes session p (f p) s at (h p)

pub place_goes : (session : ℕ) (f : Place → Place) (s : State) → ((p : Place) → AcceptWaits p → AcceptWaits (f p)) → Goes s (at_place session f s)
place_goes session f s h = stepped_goes (place_of session s) session f s refl h

none_accepts : AcceptWaits none_attached
none_accepts accept e = absurd cc

entered_by : (o : Option Place) (session : ℕ) (s : State) → Goes s (entered_at o session s)
entered_by None session s w =
    record {
      links = w.links;
      accepts = λ other r h. insert_holds (λ o. o ≡ Some r → AcceptWaits r) session other none_attached s.sessions (λ g. subst AcceptWaits (same_place none_attached r g) none_accepts) (λ g. w.accepts other r g) h;
    }
entered_by (Some p) session s w = w

pub entered_goes : (session : ℕ) (s : State) → Goes s (entered session s)
entered_goes session s = entered_by (place_of session s) session s
