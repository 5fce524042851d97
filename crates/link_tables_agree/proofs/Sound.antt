-- The tables of links agree with the links, whatever these do.
use Rattle.std.specs.Prelude.{◌≡◌, ℕ, Bool, true, false, [], ◌∷◌, Some, None, refl}
use Rattle.std.proofs.Common.{sym, ◌∙◌, ap, subst}
use Rattle.std.specs.List.{IsDistinct}
use Rattle.amqp_links.specs.Parts.{handle_of}
use Rattle.amqp_links.specs.State.{State, place_of}
use Rattle.link_lives.specs.Deeds.{Deed, IsDeed}
use Rattle.link_lives.specs.Logs.{accepts_as}
use Rattle.link_tables_agree.specs.Sound.{own_at, AreSound, IsNewIn, NoneIsSound, SoundIsKept, StandsFree, HoldsAlone}
use Rattle.link_tables_agree.proofs.Walks.{Walk}
use Rattle.link_tables_agree.proofs.Deeds.{deed_goes, free_do}

-- all steps
abbrev any : Walk
any =
    record {
      May = λ session remote. Unit {0};
      Joins = λ link. Unit {0};
      Makes = λ name. Unit {0};
      R = λ s t. Unit {0};
      still = λ s. tt;
      next = λ a b c p q. tt;
      same = λ s t a e o. tt;
      goes = λ link l m es ps s t h at w a e o. tt;
      strays = λ session s. tt;
      calm = λ session p q s at c. tt;
      enters = λ session s at. tt;
      frees = λ link l p s h at over there. tt;
      reclaims = λ link l name r max handle p q s at there c. tt;
      parts = λ session remote p s h may at. tt;
      joins = λ session remote link p s may j at. tt;
      pushes = λ session x p s may at. tt;
      awaits = λ session accept p s m u at. tt;
      drops = λ session p s at. tt;
      makes = λ name l session handle text r max p q s h m u at c is. tt;
      meets = λ name l session handle text r max p q x s h m u at c is may. tt;
    }

pub one_sound : (d : Deed) (old new : State) → IsDeed old d new → IsNewIn d old → AreSound old → AreSound new
one_sound d old new h u sound = (deed_goes any d old new h u (free_do any (λ session remote. tt) (λ link. tt) (λ name. tt) d old) (λ x e. tt) sound).sound

pub sound_is_kept : SoundIsKept
sound_is_kept [] old new did u sound = subst AreSound (sym did) sound
sound_is_kept (d ∷ ds) old new did u sound = sound_is_kept ds did.0 new did.1.1 u.1 (one_sound d old did.0 did.1.0 u.0 sound)

pub none_is_sound : NoneIsSound
unfolding IsDistinct
none_is_sound accepts =
    record {
      keyed = tt;
      own = λ session p at. absurd cc;
      peer = λ session p at. absurd cc;
      stands = λ session handle n l led at. absurd cc;
      holds = λ n l at heard. absurd cc;
      speaks = λ n l at. absurd cc;
      waits = λ session n h. absurd cc;
      once = λ a b n h k. absurd cc;
    }

pub stands_free : StandsFree
stands_free n l s sound at session = by (accepts_as n (place_of session s)) refl
  where
    by : (b : Bool) → accepts_as n (place_of session s) ≡ b → accepts_as n (place_of session s) ≡ false
    by false e = e
    by true e = let f : None ≡ Some l = sym (sound.waits session n e).none ∙ at in absurd cc

one_of : (n m : ℕ) → Some n ≡ Some m → n ≡ m
one_of n m e = cc

pub holds_alone : HoldsAlone
holds_alone n m l k s sound at there heard too session handle =
    one_of n m
    (sym (sound.holds n l at heard)
    ∙ (ap (λ h. own_at h (place_of l.session s)) handle ∙ (ap (λ x. own_at (handle_of k) (place_of x s)) session ∙ sound.holds m k there too)))
