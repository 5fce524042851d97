-- At each moment of an end the tables of its links agree with them.
use Rattle.std.specs.Prelude.{◌≡◌, ℕ, nat_eq, Bool, List, [], ◌∷◌, ◌++◌, refl}
use Rattle.std.proofs.Common.{sym, ◌∙◌, ap, subst, append_assoc}
use Rattle.std.proofs.lemmas.Grind.{flat_map-append}
use Rattle.std.specs.List.{IsDistinct}
use Rattle.amqp_session.specs.declared.session.LinkInput.TheVariants as input
use Rattle.amqp_links.specs.State.{State as Links, no_links}
use Rattle.link_lives.specs.Deeds.{Deed, Asks, Hears, Hands, Knows, Looks, Tells, Did}
use Rattle.world_lives.specs.EndLives.Laws.{IsLed, IsLedAt, AreLed}
use Rattle.amqp_sessions.specs.State.{State as Sessions}
use Rattle.world_lives.specs.Lived.{Both, links_by, Moment}
use Rattle.world_lives.specs.Naming as naming
use Rattle.world_lives.specs.Naming.{AreOnce}
use Rattle.link_tables_agree.specs.Leads.{Leads, LeadsAlong}
use Rattle.link_tables_agree.specs.Names as names
use Rattle.link_tables_agree.proofs.Leads.{leads_on}
use Rattle.link_tables_agree.proofs.Names.{NewFrom, new_from, are_new, none_used}
use Rattle.link_tables_agree.proofs.Sound.{none_is_sound}
use Rattle.world_lives.specs.WorldLinks.Carrying.{LinksAgree, HandlesLead}

-- ---- the names of calls

asked_same : (d : Deed) → naming.asked_of d ≡ names.asked_of d
asked_same (Asks name call max) = refl
asked_same (Hears session x) = refl
asked_same (Hands x) = refl
asked_same (Knows at) = refl
asked_same Looks = refl
asked_same Tells = refl

all_same : (ds : List Deed) → naming.asked_in ds ≡ names.asked_in ds
all_same [] = refl
all_same (d ∷ ds) = ap (λ xs. xs ++ naming.asked_in ds) (asked_same d) ∙ ap (λ xs. names.asked_of d ++ xs) (all_same ds)

asked_more : (xs ys : List Deed) → names.asked_in (xs ++ ys) ≡ names.asked_in xs ++ names.asked_in ys
asked_more [] ys = refl
asked_more (x ∷ xs) ys = ap (λ zs. names.asked_of x ++ zs) (asked_more xs ys) ∙ sym (append_assoc (names.asked_of x) (names.asked_in xs) (names.asked_in ys))

by_more : (xs ys : List Both) → links_by (xs ++ ys) ≡ links_by xs ++ links_by ys
by_more xs ys = flat_map-append (λ (x : Both). x.links) xs ys

-- from the start up to a moment
pub names_so_far : (accepts : Bool) (all : List Both) (last : Sessions) (end : Links) (p : Moment (no_links accepts) all last end) → AreOnce all
    → NewFrom (links_by p.before) (names.asked_in (links_by p.since)) (no_links accepts) p.links p.came.links_did
names_so_far accepts all last end p once =
    let xs = links_by p.before in
    let ys = links_by p.since in
    let e : naming.asked_in (links_by all) ≡ names.asked_in xs ++ names.asked_in ys =
    ap (λ zs. naming.asked_in (links_by zs)) (sym p.whole) ∙ (ap naming.asked_in (by_more p.before p.since) ∙ (all_same (xs ++ ys) ∙ asked_more xs ys)) in
    new_from xs (names.asked_in ys) (no_links accepts) p.links p.came.links_did (none_is_sound accepts) (subst (IsDistinct nat_eq) e once.asked) (none_used accepts (names.asked_in xs ++ names.asked_in ys))

pub links_agree : LinksAgree
links_agree accepts all last end p once =
    let r = names_so_far accepts all last end p once in
    record { sound = r.sound; fresh = are_new (links_by p.since) p.links end p.goes.links_did r.sound r.distinct r.unused }

-- ---- handles of the peer

led_of : (handle session n : ℕ) (l : Links) → Leads handle session n l → IsLed handle session n l
led_of handle session n l k = record { leads = k.leads; alone = k.alone }

led_at : (handle session n : ℕ) (d : Deed) (l : Links) → Leads handle session n l → IsLedAt handle session n d l
led_at handle session n (Hears name (input.Transfer x payload)) l k = led_of handle session n l k
led_at handle session n (Hears name (input.Attach x)) l k = tt
led_at handle session n (Hears name (input.Flow x)) l k = tt
led_at handle session n (Hears name (input.Disposition x)) l k = tt
led_at handle session n (Hears name (input.Detach x)) l k = tt
led_at handle session n (Hears name (input.Left x)) l k = tt
led_at handle session n (Hears name (input.Stopped why)) l k = tt
led_at handle session n (Hears name input.Over) l k = tt
led_at handle session n (Asks name call max) l k = tt
led_at handle session n (Hands x) l k = tt
led_at handle session n (Knows at) l k = tt
led_at handle session n Looks l k = tt
led_at handle session n Tells l k = tt

led_along : (handle session n : ℕ) (old : Links) (ds : List Deed) (new : Links) (did : Did old ds new) → LeadsAlong handle session n old ds new did → AreLed handle session n old ds new did
led_along handle session n old [] new did k = tt
led_along handle session n old (d ∷ ds) new did k = (led_at handle session n d old k.0, led_along handle session n did.0 ds new did.1.1 k.1)

pub handles_lead : HandlesLead
handles_lead handle session n l old ds new did sound fresh at leads clear quiet =
    led_along handle session n old ds new did (leads_on handle session n l old ds new did sound fresh at leads clear quiet)
