-- Calls on links whose names are used once; and what follows for a link that stands at a moment.
use Rattle.std.specs.Prelude.{◌≡◌, ◌⊎◌, ℕ, nat_eq, Bool, true, false, List, [], ◌∷◌, ◌++◌, Option, Some, None, refl}
use Rattle.std.proofs.Common.{inl, inr, sym, ◌∙◌, ap, subst, append_assoc}
use Rattle.std.proofs.lemmas.Bool.{eqb-true}
use Rattle.std.proofs.lemmas.Grind.{flat_map-append}
use Rattle.std.specs.List.{IsDistinct, AllByRecursion}
use Rattle.amqp_parts.specs.declared.part.Part.{Part}
use Rattle.amqp_link_calls.specs.Called.{Called}
use Rattle.amqp_links.specs.State.{State as Links, no_links, link_of}
use Rattle.amqp_sessions.specs.State.{State as Sessions}
use Rattle.link_lives.specs.Deeds.{Deed, Asks, Hears, Hands, Knows, Looks, Tells, Did, IsOther, AreOther, parts_in}
use Rattle.link_lives.specs.Lives.{Event}
use Rattle.link_lives.specs.Logs.{own, Fate}
use Rattle.link_lives.proofs.Tables.{flip}
use Rattle.link_lives.proofs.Runs.{links_live}
use Rattle.session_lives.specs.Channels.{AreApart}
use Rattle.session_lives.specs.Laws.{SessionLives}
use Rattle.world_lives.proofs.EndLives.Receivers.{receivers_pass}
use Rattle.world_lives.specs.Lived.{Both, sessions_by, links_by, Moment}
use Rattle.world_lives.specs.Naming.{asked_of, asked_in, NamesAreNew, SendersGo, ReceiversGo}
use Rattle.world_lives.proofs.Naming.{sessions_are_new}
use Rattle.world_lives.proofs.Alone.{speaks_alone}
use Rattle.world_lives.proofs.Senders.{sender_passes}

-- a name is among those
abbrev IsAmong : ℕ → List ℕ → Type 0
IsAmong n [] = ⊥
IsAmong n (m ∷ ms) = (n ≡ m) ⊎ IsAmong n ms

abbrev IsFar : List ℕ → ℕ → Type 0
IsFar ns n = AllByRecursion (λ m. nat_eq n m ≡ false) ns

far_later : (xs ys : List ℕ) (n : ℕ) → IsFar (xs ++ ys) n → IsFar ys n
far_later [] ys n h = h
far_later (x ∷ xs) ys n h = far_later xs ys n h.1

among_far : (n : ℕ) (xs ys : List ℕ) → IsAmong n xs → IsDistinct nat_eq (xs ++ ys) → IsFar ys n
unfolding IsDistinct
among_far n [] ys a k = absurd a
among_far n (x ∷ xs) ys (inl e) k = far_later xs ys n (subst (λ z. IsFar (xs ++ ys) z) (sym e) k.0)
among_far n (x ∷ xs) ys (inr a) k = among_far n xs ys a k.1

-- a call of that name was made, or none was
more : (n : ℕ) (d : Deed) (ds : List Deed) → IsOther n d ⊎ IsAmong n (asked_of d) → AreOther n ds ⊎ IsAmong n (asked_in ds) → AreOther n (d ∷ ds) ⊎ IsAmong n (asked_in (d ∷ ds))
more n d ds (inl o) (inl os) = inl (o, os)
more n d ds (inr a) rest = inr (first (asked_of d) a)
  where
    first : (xs : List ℕ) → IsAmong n xs → IsAmong n (xs ++ asked_in ds)
    first [] h = absurd h
    first (x ∷ xs) (inl e) = inl e
    first (x ∷ xs) (inr h) = inr (first xs h)
more n d ds (inl o) (inr a) = inr (last (asked_of d))
  where
    last : (xs : List ℕ) → IsAmong n (xs ++ asked_in ds)
    last [] = a
    last (x ∷ xs) = inr (last xs)

one_asked : (n : ℕ) (d : Deed) → IsOther n d ⊎ IsAmong n (asked_of d)
one_asked n (Asks name call max) = by (nat_eq name n) refl
  where
    by : (t : Bool) → nat_eq name n ≡ t → (nat_eq name n ≡ false) ⊎ IsAmong n (name ∷ [])
    by true e = inr (inl (sym (eqb-true name n e)))
    by false e = inl e
one_asked n (Hears session x) = inl tt
one_asked n (Hands x) = inl tt
one_asked n (Knows at) = inl tt
one_asked n Looks = inl tt
one_asked n Tells = inl tt

was_asked : (n : ℕ) (ds : List Deed) → AreOther n ds ⊎ IsAmong n (asked_in ds)
was_asked n [] = inl tt
was_asked n (d ∷ ds) = more n d ds (one_asked n d) (was_asked n ds)

none_asked : (n : ℕ) (ds : List Deed) → IsFar (asked_in ds) n → AreOther n ds
none_asked n [] far = tt
none_asked n (Asks name call max ∷ ds) far = (flip n name ∙ far.0, none_asked n ds far.1)
none_asked n (Hears session x ∷ ds) far = (tt, none_asked n ds far)
none_asked n (Hands x ∷ ds) far = (tt, none_asked n ds far)
none_asked n (Knows at ∷ ds) far = (tt, none_asked n ds far)
none_asked n (Looks ∷ ds) far = (tt, none_asked n ds far)
none_asked n (Tells ∷ ds) far = (tt, none_asked n ds far)

pub asked_more : (ds es : List Deed) → asked_in (ds ++ es) ≡ asked_in ds ++ asked_in es
asked_more [] es = refl
asked_more (d ∷ ds) es = ap (λ xs. asked_of d ++ xs) (asked_more ds es) ∙ sym (append_assoc (asked_of d) (asked_in ds) (asked_in es))

pub links_by_more : (xs ys : List Both) → links_by (xs ++ ys) ≡ links_by xs ++ links_by ys
links_by_more xs ys = flat_map-append (λ (x : Both). x.links) xs ys

-- a link that stands was asked for by a call of its name
stays_none : (events : List Event) (parts : List Part) (o p : Option Called) (l : Called) → o ≡ None → p ≡ Some l → Fate o events parts p → ⊥
stays_none events parts None None l e at f = cc
stays_none events parts None (Some m) l e at f = f
stays_none events parts (Some k) p l e at f = cc

stood_asked : (n : ℕ) (l : Called) (accepts : Bool) (ds : List Deed) (new : Links) → Did (no_links accepts) ds new → link_of n new ≡ Some l → IsAmong n (asked_in ds)
stood_asked n l accepts ds new did at = by (was_asked n ds)
  where
    by : AreOther n ds ⊎ IsAmong n (asked_in ds) → IsAmong n (asked_in ds)
    by (inr a) = a
    by (inl other) =
        let k = links_live ds (no_links accepts) new did in
        let g = k.each n other (λ session. refl) in
        absurd (stays_none (own n k.log) (parts_in (no_links accepts) ds new did n) (link_of n (no_links accepts)) (link_of n new) l refl at g.fate)

links_are_new : (accepts : Bool) (all : List Both) (last : Sessions) (end : Links) (p : Moment (no_links accepts) all last end) → IsDistinct nat_eq (asked_in (links_by all))
    → (n : ℕ) (l : Called) → link_of n p.links ≡ Some l → AreOther n (links_by p.since)
links_are_new accepts all last end p once n l at =
    let before = asked_in (links_by p.before) in
    let since = asked_in (links_by p.since) in
    let parts : asked_in (links_by all) ≡ before ++ since =
    ap (λ (xs : List Both). asked_in (links_by xs)) (sym p.whole) ∙ (ap asked_in (links_by_more p.before p.since) ∙ asked_more (links_by p.before) (links_by p.since)) in
    none_asked n (links_by p.since)
    (among_far n before since (stood_asked n l accepts (links_by p.before) p.links p.came.links_did at) (subst (λ (xs : List ℕ). IsDistinct nat_eq xs) parts once))

pub names_are_new : NamesAreNew
names_are_new accepts all last end p once =
    let s = sessions_are_new (no_links accepts) all last end p once.made in
    record { named = s.named; sessions = s.other; links = links_are_new accepts all last end p once.asked }

pub senders_go : SendersGo
senders_go accepts all last end p n c t x once at is free stands mapped =
    let s = sessions_are_new (no_links accepts) all last end p once.made in
    let other = s.other c.session x stands in
    let w = speaks_alone c.session x (sessions_by p.since) p.sessions last p.goes.sessions_did s.sound s.named.since stands other in
    let k = sender_passes n c t x p.sessions (sessions_by p.since) last p.links (links_by p.since) end p.goes s.sound.keyed mapped other w.life at is (links_are_new accepts all last end p once.asked n c at) free in
    record {
      passes = k.passes;
      alone = λ channel alone far.
          subst (λ (z : SessionLives c.session x (sessions_by p.since) p.sessions last p.goes.sessions_did). AreApart channel c.session z.log) (sym k.same) (w.alone channel alone far);
    }

pub receivers_go : ReceiversGo
receivers_go accepts all last end p n c u y once at is free stands =
    let s = sessions_are_new (no_links accepts) all last end p once.made in
    receivers_pass n c u y p.sessions _ last p.links _ end p.goes s.sound.keyed stands (s.other c.session y stands) at is (links_are_new accepts all last end p once.asked n c at) free
