-- The tables of the links of an end agree with the links (OASIS AMQP 1.0, part 2, sections 2.6.2 to 2.6.4).
use Rattle.std.specs.Prelude.{◌≡◌, ℕ, nat_eq, Bool, true, List, [], ◌∷◌, Option, Some, None}
use Rattle.std.specs.List.{IsDistinct}
use Rattle.std.specs.Map.{keys_of}
use Rattle.amqp_link_calls.specs.Called.{Called}
use Rattle.amqp_link_tables.specs.Calls.{link_at}
use Rattle.amqp_link_words.specs.declared.link_call.LinkCall.{LinkCall}
use Rattle.amqp_link_words.specs.declared.link_call.LinkCall.TheVariants as call
use Rattle.amqp_parts.specs.declared.part.Part.{Part}
use Rattle.amqp_session_links.specs.State.{State as Place}
use Rattle.amqp_links.specs.Parts.{handle_of, is_heard, output_of}
use Rattle.amqp_links.specs.State.{State, no_links, place_of, link_of}
use Rattle.session_laws.specs.Messages.{transfers}
use Rattle.link_lives.specs.Deeds.{Deed, Asks, Did}
use Rattle.link_lives.specs.Logs.{accepts_as, IsFree}

-- the link to which a handle of this end leads on a session
abbrev pub own_at : ℕ → Option Place → Option ℕ
own_at handle None = None
own_at handle (Some p) = link_at handle p.table

-- each of these Transfers is on such a handle
abbrev pub AllOn : (ℕ → Type 0) → List Part → Type 0
AllOn Q [] = Unit {0}
AllOn Q (x ∷ xs) = Q x.transfer.handle × AllOn Q xs

-- there is no link of that name, and no handle of this end leads to it
pub record IsUnled (n : ℕ) (s : State) : Type 0 where
  pub none : link_of n s ≡ None
  pub own : (session handle : ℕ) → own_at handle (place_of session s) ≡ Some n → ⊥

-- nor does a call of that name wait for an Attach
pub record IsUnused (n : ℕ) (s : State) : Type 0 where
  pub unled : IsUnled n s
  pub free : IsFree n s

-- No two links have one name, and on each session each handle of this end, and each of the peer, stands once. A
-- link to which a handle of this end leads is of that session; until both ends have sent their Detach it has that
-- handle. To each such link its handle leads, and the Transfers that a link is still to write are on handles that
-- lead to it. A call that waits for an Attach has a name that no link has, and no two that wait have one.
pub record AreSound (s : State) : Type 0 where
  pub keyed : IsDistinct nat_eq (keys_of s.endpoints)
  pub own : (session : ℕ) (p : Place) → place_of session s ≡ Some p → IsDistinct nat_eq (keys_of p.table.handles)
  pub peer : (session : ℕ) (p : Place) → place_of session s ≡ Some p → IsDistinct nat_eq (keys_of p.table.remotes)
  pub stands : (session handle n : ℕ) (l : Called) → own_at handle (place_of session s) ≡ Some n
      → link_of n s ≡ Some l → (l.session ≡ session) × (is_heard l ≡ true → handle_of l ≡ handle)
  pub holds : (n : ℕ) (l : Called) → link_of n s ≡ Some l → is_heard l ≡ true
      → own_at (handle_of l) (place_of l.session s) ≡ Some n
  pub speaks : (n : ℕ) (l : Called) → link_of n s ≡ Some l
      → AllOn (λ handle. own_at handle (place_of l.session s) ≡ Some n) (transfers (output_of l))
  pub waits : (session n : ℕ) → accepts_as n (place_of session s) ≡ true → IsUnled n s
  pub once : (a b n : ℕ) → accepts_as n (place_of a s) ≡ true → accepts_as n (place_of b s) ≡ true → a ≡ b

-- a call that makes a link, or may make one later, has a name that was not used
abbrev pub IsNewCall : ℕ → LinkCall → State → Type 0
IsNewCall name (call.Sender session settings) s = IsUnused name s
IsNewCall name (call.Receiver session settings) s = IsUnused name s
IsNewCall name (call.Accept session settings credit_mode auto_accept) s = IsUnused name s
IsNewCall name other s = Unit {0}

abbrev pub IsNewIn : Deed → State → Type 0
IsNewIn (Asks name call max) s = IsNewCall name call s
IsNewIn d s = Unit {0}

abbrev pub AreNewIn : (old : State) (ds : List Deed) (new : State) → Did old ds new → Type 0
AreNewIn old [] new h = Unit {0}
AreNewIn old (d ∷ ds) new h = IsNewIn d old × AreNewIn h.0 ds new h.1.1

-- so it is where there are no links, and each deed keeps it
abbrev pub NoneIsSound : Type 0
NoneIsSound = (accepts : Bool) → AreSound (no_links accepts)

abbrev pub SoundIsKept : Type 0
SoundIsKept =
    (ds : List Deed) (old new : State) (did : Did old ds new) → AreNewIn old ds new did → AreSound old → AreSound new

-- so no link that stands has the name of a call that waits for an Attach
abbrev pub StandsFree : Type 0
StandsFree = (n : ℕ) (l : Called) (s : State) → AreSound s → link_of n s ≡ Some l → IsFree n s

-- and no two links that both ends have not detached have one handle on a session
abbrev pub HoldsAlone : Type 0
HoldsAlone =
    (n m : ℕ) (l k : Called) (s : State) → AreSound s → link_of n s ≡ Some l → link_of m s ≡ Some k
    → is_heard l ≡ true → is_heard k ≡ true → l.session ≡ k.session → handle_of l ≡ handle_of k → n ≡ m
