-- The calls of a seat stand in what it sees, after each call.
use Rattle.std.specs.Prelude.{◌≡◌, ℕ, ◌⊎◌, List, [], ◌∷◌, ◌++◌, Option, refl}
use Rattle.std.proofs.Common.{arith, sym, ap, ◌∙◌, subst, inl}
use Rattle.atomic_table.specs.Table.{Me}
use Rattle.book_history.specs.History.{Event}
use Rattle.book_history.specs.declared.entry.Receipt.{Receipt}
use Rattle.book_lock.specs.declared.rule.TicketView.{TicketView}
use Rattle.book_lock.specs.Begins.{Begins, IsAmong, Follows}
use Rattle.book_lock.specs.Tickets.{Held}
use Rattle.book_lock.specs.Rule.{informed}
use Rattle.book_lock.specs.Calls.{Idle, Taken, Passed, Sees, Meets}
use Rattle.book_lock.specs.Plays.{longer}
use Rattle.book_lock.proofs.Beginning.{begins_same, stand_begins, stand_last, adds_one}
use Rattle.book_lock.specs.Seats.{Seat, Keeps, HasOwn, entries}

-- what a seat keeps
abbrev pub Seated : ℕ → Me (Option Held) TicketView → List Receipt → Type 0
Seated n me rs = Idle me × (me.0.numbers ≡ n ∷ []) × HasOwn n rs me.0.front

-- what stands in a history stands in one that follows
pub own_follows : (n : ℕ) (rs : List Receipt) (f h : List Event) (ns : List ℕ) → IsAmong n ns → Follows f ns h → HasOwn n rs f → HasOwn n rs h
own_follows n rs f h ns a follows own = record { stand = stand_begins 0 f h rs follows.0 own.stand; own = follows.1 n a ∙ own.own }

pub is_own : (n : ℕ) (ns : List ℕ) → ns ≡ n ∷ [] → IsAmong n ns
is_own n ns is = subst (IsAmong n) (sym is) (inl refl)

pub own_same : (n : ℕ) (rs rs' : List Receipt) (h : List Event) → rs' ≡ rs → HasOwn n rs h → HasOwn n rs' h
own_same n rs rs' h is own = subst (λ (xs : List Receipt). HasOwn n xs h) (sym is) own

pub passed_own : (n : ℕ) (me me' : Me (Option Held) TicketView) (rs rs' : List Receipt) → Passed me me' → rs' ≡ rs → Seated n me rs → Seated n me' rs'
passed_own n me me' rs rs' p is s =
    (p.idle, p.numbers ∙ s.1, own_same n rs rs' me'.0.front is (own_follows n rs me.0.front me'.0.front me.0.numbers (is_own n me.0.numbers s.1) p.follows s.2))

entries_last : (rs : List Receipt) (r : Receipt) → entries (rs ++ r ∷ []) ≡ entries rs ++ r.entry ∷ []
entries_last [] r = refl
entries_last (x ∷ rs) r = ap (λ (es : List Event). x.entry ∷ es) (entries_last rs r)

pub taken_own : (n : ℕ) (me me' : Me (Option Held) TicketView) (rs rs' : List Receipt) (r k : Receipt) → r.entry.seat ≡ n → Taken me me' r → k ≡ r → rs' ≡ rs ++ k ∷ [] → Seated n me rs → Seated n me' rs'
taken_own n me me' rs rs' r k mine t both is s =
    let before = own_follows n rs me.0.front t.before me.0.numbers (is_own n me.0.numbers s.1) t.follows s.2 in
    let after : HasOwn n (rs ++ r ∷ []) (t.before ++ r.entry ∷ []) = record {
      stand = stand_last 0 t.before r.entry rs r before.stand (omega arith) t.place refl;
      own = adds_one n t.before r.entry mine ∙ (ap (λ (es : List Event). es ++ r.entry ∷ []) before.own ∙ sym (entries_last rs r));
    } in (
      t.idle,
      t.numbers ∙ s.1,
      own_same n (rs ++ r ∷ []) rs' me'.0.front (is ∙ ap (λ (x : Receipt). rs ++ x ∷ []) both) (subst (λ (f : List Event). HasOwn n (rs ++ r ∷ []) f) (sym t.front) after),
    )

-- ---- what was told

-- a seat was told what another had seen, and saw the history so far
pub record Joined (me other me' : Me (Option Held) TicketView) : Type 0 where
  pub idle : Idle me'
  pub numbers : me'.0.numbers ≡ me.0.numbers ++ other.0.numbers
  pub follows : Follows me.0.front me.0.numbers me'.0.front
  pub told : Follows other.0.front other.0.numbers me'.0.front

pub sees_joined : (me other told me' : Me (Option Held) TicketView) → told ≡ (informed me.0 other.0, me.1) → Sees told me' → Idle me → Joined me other me'
sees_joined me other told me' is sees idle = by (subst (λ (m : Me (Option Held) TicketView). Sees m me') is sees)
  where
    by : Sees (informed me.0 other.0, me.1) me' → Joined me other me'
    by s = record {
      idle = record { holds = ap (λ m. m.1) s.2 ∙ idle.holds; waits = ap (λ m. m.0.waits) s.2 ∙ idle.waits; turn = ap (λ m. m.0.turn) s.2 ∙ idle.turn };
      numbers = ap (λ m. m.0.numbers) s.2;
      follows = subst (λ (f : List Event). Follows me.0.front me.0.numbers f) (sym (ap (λ m. m.0.front) s.2)) (s.1.0, s.1.2);
      told = subst (λ (f : List Event). Follows other.0.front other.0.numbers f) (sym (ap (λ m. m.0.front) s.2)) (s.1.1, s.1.3);
    }

-- a seat was told what another had seen, and saw the longer of both
pub meets_joined : (me other told me' : Me (Option Held) TicketView) → told ≡ (informed me.0 other.0, me.1) → Meets told me' → Idle me → Joined me other me'
meets_joined me other told me' is meets idle = by (subst (λ (m : Me (Option Held) TicketView). Meets m me') is meets)
  where
    by : Meets (informed me.0 other.0, me.1) me' → Joined me other me'
    by s = record {
      idle = record { holds = ap (λ m. m.1) s.3 ∙ idle.holds; waits = ap (λ m. m.0.waits) s.3 ∙ idle.waits; turn = ap (λ m. m.0.turn) s.3 ∙ idle.turn };
      numbers = ap (λ m. m.0.numbers) s.3;
      follows = subst (λ (f : List Event). Follows me.0.front me.0.numbers f) (sym (ap (λ m. m.0.front) s.3)) s.1;
      told = subst (λ (f : List Event). Follows other.0.front other.0.numbers f) (sym (ap (λ m. m.0.front) s.3)) s.2;
    }

-- of what both had seen one begins the other, and the longer is seen
pub meets_longer : (me other told me' : Me (Option Held) TicketView) (f g : List Event) → told ≡ (informed me.0 other.0, me.1) → Meets told me' → me.0.front ≡ f → other.0.front ≡ g
    → (Begins f g ⊎ Begins g f) × (me'.0.front ≡ longer f g)
meets_longer me other told me' f g is meets first second = by (subst (λ (m : Me (Option Held) TicketView). Meets m me') is meets)
  where
    by : Meets (informed me.0 other.0, me.1) me' → (Begins f g ⊎ Begins g f) × (me'.0.front ≡ longer f g)
    by s = (
      subst (λ (x : List Event). Begins x g ⊎ Begins g x) first (subst (λ (y : List Event). Begins me.0.front y ⊎ Begins y me.0.front) second s.0),
      ap (λ m. m.0.front) s.3 ∙ (ap (λ (x : List Event). longer x other.0.front) first ∙ ap (λ (y : List Event). longer f y) second),
    )

-- after a note, which has no number
pub noted_own : (n : ℕ) (me other me' : Me (Option Held) TicketView) (rs : List Receipt) → Joined me other me' → other.0.numbers ≡ [] → Seated n me rs → Seated n me' rs
noted_own n me other me' rs j none s = (
  j.idle,
  j.numbers ∙ (ap (λ (ns : List ℕ). ns ++ other.0.numbers) s.1 ∙ ap (λ (ns : List ℕ). n ∷ ns) none),
  own_follows n rs me.0.front me'.0.front me.0.numbers (is_own n me.0.numbers s.1) j.follows s.2,
)

-- after another seat, which had these receipts
pub met_own : (n : ℕ) (me other me' : Me (Option Held) TicketView) (rs : List Receipt) (f : List Event) → Joined me other me' → other.0.numbers ≡ n ∷ [] → other.0.front ≡ f → HasOwn n rs f → HasOwn n rs me'.0.front
met_own n me other me' rs f j is front own =
    own_follows n rs other.0.front me'.0.front other.0.numbers (is_own n other.0.numbers is) j.told (subst (λ (g : List Event). HasOwn n rs g) (sym front) own)

-- what another seat had seen
pub met_seen : (me other me' : Me (Option Held) TicketView) (f : List Event) → Joined me other me' → other.0.front ≡ f → Begins f me'.0.front
met_seen me other me' f j front = subst (λ (g : List Event). Begins g me'.0.front) front j.told.0

-- a seat that is as it was
pub keeps_same : (old new : Seat) → new ≡ old → Keeps old new
keeps_same old new is = record {
  number = ap (λ (s : Seat). s.number) is;
  view = ap (λ (s : Seat). s.view) is;
  table = ap (λ (s : Seat). s.table) is;
  receipts = ap (λ (s : Seat). s.receipts) is;
  front = begins_same old.front new.front (ap (λ (s : Seat). s.front) is);
}
