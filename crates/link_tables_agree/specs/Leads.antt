-- The handle of the peer that leads to a link (OASIS AMQP 1.0, part 2, sections 2.6.2 and 2.6.3).
use Rattle.std.specs.Prelude.{◌≡◌, ℕ, List, [], ◌∷◌, Option, Some, None}
use Rattle.amqp_link_calls.specs.Called.{Called}
use Rattle.amqp_performatives.specs.declared.attach.Attach.{Attach}
use Rattle.amqp_session.specs.declared.session.LinkInput.{LinkInput}
use Rattle.amqp_session.specs.declared.session.LinkInput.TheVariants as input
use Rattle.amqp_session_links.specs.State.{State as Place}
use Rattle.amqp_links.specs.Hearing.{link_from_at, answered_at}
use Rattle.amqp_links.specs.State.{State, place_of, link_of}
use Rattle.link_lives.specs.Deeds.{Deed, Hears, Did}
use Rattle.link_tables_agree.specs.Sound.{AreSound, AreNewIn}

-- that handle of the peer on that session leads to the link, and no other does
pub record Leads (handle session n : ℕ) (s : State) : Type 0 where
  pub leads : link_from_at handle (place_of session s) ≡ Some n
  pub alone : (other remote : ℕ) → link_from_at remote (place_of other s) ≡ Some n
      → (other ≡ session) × (remote ≡ handle)

-- another handle, or one on another session
abbrev pub IsElsewhere : ℕ → ℕ → ℕ → ℕ → Type 0
IsElsewhere handle session other remote = other ≡ session → remote ≡ handle → ⊥

-- no Attach that waits is on the handle
abbrev pub attaches_at : Option Place → List Attach
attaches_at None = []
attaches_at (Some p) = p.attaches

abbrev pub AreClear : ℕ → List Attach → Type 0
AreClear handle [] = Unit {0}
AreClear handle (x ∷ xs) = (x.handle ≡ handle → ⊥) × AreClear handle xs

-- the peer does not detach the link, and attaches neither the link nor another on that handle
abbrev pub IsQuietly : ℕ → ℕ → ℕ → ℕ → LinkInput → State → Type 0
IsQuietly handle session n other (input.Detach x) s = IsElsewhere handle session other x.handle
IsQuietly handle session n other (input.Attach x) s =
    IsElsewhere handle session other x.handle × (answered_at x (place_of other s) ≡ Some n → ⊥)
IsQuietly handle session n other x s = Unit {0}

abbrev pub IsQuiet : ℕ → ℕ → ℕ → Deed → State → Type 0
IsQuiet handle session n (Hears other x) s = IsQuietly handle session n other x s
IsQuiet handle session n d s = Unit {0}

abbrev pub AreQuiet : (handle session n : ℕ) (old : State) (ds : List Deed) (new : State) → Did old ds new → Type 0
AreQuiet handle session n old [] new h = Unit {0}
AreQuiet handle session n old (d ∷ ds) new h =
    IsQuiet handle session n d old × AreQuiet handle session n h.0 ds new h.1.1

-- it leads to the link before each of these deeds and behind them
abbrev pub LeadsAlong : (handle session n : ℕ) (old : State) (ds : List Deed) (new : State) → Did old ds new → Type 0
LeadsAlong handle session n old [] new h = Leads handle session n new
LeadsAlong handle session n old (d ∷ ds) new h =
    Leads handle session n old × LeadsAlong handle session n h.0 ds new h.1.1

-- so it is from a moment on at which it does, as long as the peer is quiet
abbrev pub LeadsOn : Type 0
LeadsOn =
    (handle session n : ℕ) (l : Called) (old : State) (ds : List Deed) (new : State) (did : Did old ds new)
    → AreSound old → AreNewIn old ds new did → link_of n old ≡ Some l → Leads handle session n old
    → AreClear handle (attaches_at (place_of session old)) → AreQuiet handle session n old ds new did
    → LeadsAlong handle session n old ds new did
