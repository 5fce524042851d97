-- What the links of a session share, step by step.
use Rattle.std.specs.Prelude.{◌≡◌, ◌⊎◌, ◌==◌, ℕ, nat_eq, Bool, true, false, List, Option, Some, None, Ok, if◌then◌else◌, refl}
use Rattle.std.proofs.Common.{inl, inr, sym, ◌∙◌, ap, subst, arith}
use Rattle.std.proofs.lemmas.Bool.{eqb-true}
use Rattle.std.proofs.lemmas.Bool.Decides.{nat_tests}
use Rattle.std.specs.List.{IsDistinct}
use Rattle.std.specs.Map.{keys_of, lookup}
use Rattle.std.specs.Option.{option_map}
use Rattle.amqp_composites.specs.declared.modes.Role.{Role}
use Rattle.amqp_composites.specs.declared.modes.Role.TheVariants as role
use Rattle.amqp_link_tables.specs.declared.handles.Held.{Held}
use Rattle.amqp_link_tables.specs.Calls as table
use Rattle.amqp_link_tables.specs.Calls.{link_at, with_names}
use Rattle.amqp_link_tables.specs.Laws.{IsApart}
use Rattle.amqp_link_tables.specs.State.{State as Table}
use Rattle.amqp_link_tables.proofs.Apart.{apart_allocated, apart_released, had_none, has_it, others_attached, free_again, others_released}
use Rattle.amqp_session_links.specs.Claims.{is_at, released}
use Rattle.amqp_session_links.specs.State.{State as Place}
use Rattle.link_lives.specs.Logs.{is_named}
use Rattle.link_tables_agree.proofs.Keyed.{gone, insert_keyed}
use Rattle.link_tables_agree.proofs.Turns.{Changes}

-- no handle leads to another, and none is given back
abbrev pub Never : ℕ → ℕ → ℕ → Type 0
Never session handle n = ⊥

abbrev pub No : ℕ → Type 0
No n = ⊥

-- the tables of handles, the call that waits and the Attaches that wait are the same
pub record Calm (p q : Place) : Type 0 where
  pub handles : q.table.handles ≡ p.table.handles
  pub remotes : q.table.remotes ≡ p.table.remotes
  pub accepting : q.accepting ≡ p.accepting
  pub attaches : q.attaches ≡ p.attaches

pub calm_still : (p : Place) → Calm p p
calm_still p = record { handles = refl; remotes = refl; accepting = refl; attaches = refl }

at_same : (handle : ℕ) (t u : Table) → u.handles ≡ t.handles → link_at handle u ≡ link_at handle t
at_same handle t u e = ap (λ hs. option_map (λ (h : Held). h.link) (lookup (nat_eq handle) hs)) e

-- the handles of this end are the same, and no call begins to wait
pub still_changes : (session : ℕ) (p q : Place) → q.table.handles ≡ p.table.handles → ((n : ℕ) → is_named n q.accepting ≡ true → is_named n p.accepting ≡ true)
    → (IsDistinct nat_eq (keys_of p.table.remotes) → IsDistinct nat_eq (keys_of q.table.remotes)) → Changes Never No session p q
still_changes session p q e f k =
    record {
      own = λ handle n led. inl (sym (at_same handle p.table q.table e) ∙ led);
      keeps = λ handle n led. inl (at_same handle p.table q.table e ∙ led);
      accepts = f;
      handles = λ h. subst (λ hs. IsDistinct nat_eq (keys_of hs)) (sym e) h;
      remotes = k;
    }

pub calm_changes : (session : ℕ) (p q : Place) → Calm p q → Changes Never No session p q
calm_changes session p q c =
    still_changes session p q c.handles (λ n h. sym (ap (is_named n) c.accepting) ∙ h) (λ k. subst (λ rs. IsDistinct nat_eq (keys_of rs)) (sym c.remotes) k)

-- ---- a handle is given back

named_remotes : (r : Role) (ns : List (List ℕ × ℕ)) (t : Table) → (with_names r ns t).remotes ≡ t.remotes
named_remotes role.Sender ns t = refl
named_remotes role.Receiver ns t = refl

pub released_remotes : (o : Option Held) (handle : ℕ) (t : Table) → (table.released_at o handle t).remotes ≡ t.remotes
released_remotes None handle t = refl
released_remotes (Some held) handle t = named_remotes held.role _ _

same_link : (a c : ℕ) → (a == c) ≡ true → a ≡ c
same_link a c h = grind (arith, nat_tests)

at_link : (o : Option ℕ) (link : ℕ) → is_at o link ≡ true → o ≡ Some link
at_link None link h = absurd cc
at_link (Some other) link h = ap Some (same_link other link h)

one_of : (n m : ℕ) → Some n ≡ Some m → n ≡ m
one_of n m e = cc

no_link : (P : Type 0) (n : ℕ) → None ≡ Some n → P
no_link P n e = absurd cc

module _ (session handle link : ℕ) (p : Place) (apart : IsApart p.table) (led : link_at handle p.table ≡ Some link) where
  released_own : (h n : ℕ) (b : Bool) → nat_eq handle h ≡ b → link_at h (table.released handle p.table) ≡ Some n → (link_at h p.table ≡ Some n) ⊎ ⊥
  released_own h n true e at = no_link _ n (sym (ap (λ k. link_at k (table.released handle p.table)) (sym (eqb-true handle h e)) ∙ free_again handle p.table apart) ∙ at)
  released_own h n false e at = inl (sym (others_released handle h p.table apart e) ∙ at)

  released_keeps : (h n : ℕ) (b : Bool) → nat_eq handle h ≡ b → link_at h p.table ≡ Some n → (link_at h (table.released handle p.table) ≡ Some n) ⊎ (n ≡ link)
  released_keeps h n true e at = inr (one_of n link (sym at ∙ (ap (λ k. link_at k p.table) (sym (eqb-true handle h e)) ∙ led)))
  released_keeps h n false e at = inl (others_released handle h p.table apart e ∙ at)

  given_back : Changes Never (λ n. n ≡ link) session p (record p { table = table.released handle p.table })
  given_back =
      record {
        own = λ h n. released_own h n (nat_eq handle h) refl;
        keeps = λ h n. released_keeps h n (nat_eq handle h) refl;
        accepts = λ n h. h;
        handles = λ k. apart_released handle p.table k;
        remotes = λ k. subst (λ rs. IsDistinct nat_eq (keys_of rs)) (sym (released_remotes (lookup (nat_eq handle) p.table.handles) handle p.table)) k;
      }

none_back : (session link : ℕ) (p : Place) → Changes Never (λ n. n ≡ link) session p p
none_back session link p = record { own = λ h n led. inl led; keeps = λ h n led. inl led; accepts = λ n h. h; handles = λ k. k; remotes = λ k. k }

released_by : (b : Bool) (session handle link : ℕ) (p : Place) → is_at (link_at handle p.table) link ≡ b → IsApart p.table
    → Changes Never (λ n. n ≡ link) session p (if b then record p { table = table.released handle p.table } else p)
released_by true session handle link p e apart = given_back session handle link p apart (at_link (link_at handle p.table) link e)
released_by false session handle link p e apart = none_back session link p

pub released_changes : (session handle link : ℕ) (p : Place) → IsApart p.table → Changes Never (λ n. n ≡ link) session p (released handle link p)
released_changes session handle link p apart = released_by (is_at (link_at handle p.table) link) session handle link p refl apart

-- ---- a link gets a handle

-- that handle leads to it
abbrev pub IsGot : ℕ → ℕ → ℕ → ℕ → ℕ → ℕ → Type 0
IsGot session handle link other h n = (other ≡ session) × (h ≡ handle) × (n ≡ link)

pub got_remotes : (handle : ℕ) (name : List ℕ) (r : Role) (link : ℕ) (t : Table) → (table.attached handle name r link t).remotes ≡ t.remotes
got_remotes handle name r link t = named_remotes r _ _

module _ (session handle link max : ℕ) (name : List ℕ) (r : Role) (p q : Place) (free : table.allocation name r max p.table ≡ Ok handle)
    (is : q.table ≡ table.attached handle name r link p.table) (waits : q.accepting ≡ p.accepting) where
  got_at : (h : ℕ) → link_at h q.table ≡ link_at h (table.attached handle name r link p.table)
  got_at h = ap (link_at h) is

  got_own : (h n : ℕ) (b : Bool) → nat_eq handle h ≡ b → link_at h q.table ≡ Some n → (link_at h p.table ≡ Some n) ⊎ IsGot session handle link session h n
  got_own h n true e at =
      let same : handle ≡ h = eqb-true handle h e in
      let found : link_at h q.table ≡ Some link = got_at h ∙ (ap (λ k. link_at k (table.attached handle name r link p.table)) (sym same) ∙ has_it name r handle link p.table) in
      inr (refl, sym same, one_of n link (sym at ∙ found))
  got_own h n false e at = inl (sym (got_at h ∙ others_attached name r handle h link p.table e) ∙ at)

  got_keeps : (h n : ℕ) (b : Bool) → nat_eq handle h ≡ b → link_at h p.table ≡ Some n → (link_at h q.table ≡ Some n) ⊎ ⊥
  got_keeps h n true e at = no_link _ n (sym (ap (λ k. link_at k p.table) (sym (eqb-true handle h e)) ∙ had_none name r max handle p.table free) ∙ at)
  got_keeps h n false e at = inl ((got_at h ∙ others_attached name r handle h link p.table e) ∙ at)

  pub got_changes : Changes (IsGot session handle link) No session p q
  got_changes =
      record {
        own = λ h n. got_own h n (nat_eq handle h) refl;
        keeps = λ h n. got_keeps h n (nat_eq handle h) refl;
        accepts = λ n h. sym (ap (is_named n) waits) ∙ h;
        handles = λ k.
            subst (λ (t : Table). IsApart t) (sym is) (subst (λ a. IsApart (table.allocated a name r link p.table)) free (apart_allocated name r max link p.table k));
        remotes = λ k. subst (λ (t : Table). IsDistinct nat_eq (keys_of t.remotes)) (sym is) (subst (λ rs. IsDistinct nat_eq (keys_of rs)) (sym (got_remotes handle name r link p.table)) k);
      }

-- ---- the handles of the peer

pub joined_changes : (session remote link : ℕ) (p : Place) → Changes Never No session p (record p { table = table.joined remote link p.table })
joined_changes session remote link p = still_changes session p _ refl (λ n h. h) (λ k. insert_keyed remote link p.table.remotes k)

pub parted_changes : (session remote : ℕ) (p : Place) → Changes Never No session p (record p { table = table.parted remote p.table })
parted_changes session remote p = still_changes session p _ refl (λ n h. h) (λ k. (gone remote p.table.remotes k).keyed)

-- no call waits for an Attach any more
pub taken_changes : (session : ℕ) (p : Place) → Changes Never No session p (record p { accepting = None })
taken_changes session p = still_changes session p _ refl (λ n h. absurd cc) (λ k. k)

-- the Attaches that wait are others
pub attaches_change : (session : ℕ) (p q : Place) → q.table ≡ p.table → q.accepting ≡ p.accepting → Changes Never No session p q
attaches_change session p q e a =
    still_changes session p q (ap (λ (t : Table). t.handles) e) (λ n h. sym (ap (is_named n) a) ∙ h) (λ k. subst (λ (t : Table). IsDistinct nat_eq (keys_of t.remotes)) (sym e) k)
