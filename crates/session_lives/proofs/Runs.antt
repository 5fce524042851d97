-- One session of an end, behind deeds.
use Rattle.std.specs.Prelude.{◌≡◌, ℕ, nat_eq, Bool, true, false, List, [], ◌∷◌, ◌++◌, Option, Some, None, if◌then◌else◌, refl}
use Rattle.std.proofs.Common.{sym, ◌∙◌, ap, subst, eq-eqb}
use Rattle.std.proofs.lemmas.Grind.{flat_map-append}
use Rattle.std.specs.Map.{values_of}
use Rattle.amqp_session.specs.State.{State as Session, Framed}
use Rattle.amqp_sessions.specs.Parts.{EndpointState}
use Rattle.amqp_sessions.specs.State.{endpoint_of}
use Rattle.session_laws.specs.Holding.{after_all, handed_all}
use Rattle.session_lives.specs.Channels.{AllOn, on_if, on, AreApart}
use Rattle.session_lives.specs.Lives.{moves, Share, Lives}
use Rattle.session_lives.specs.Logs.{own, share, Fate}
use Rattle.session_lives.specs.Deeds.{wrote_in, gave_in, came_in}
use Rattle.session_lives.specs.Laws.{IsBehind, OneOfAllLives}
use Rattle.session_lives.proofs.Channels.{speaks_on_its_own}
use Rattle.session_lives.proofs.Deeds.{sessions_live}
use Rattle.session_lives.proofs.Going.{own_more}

-- a session that stood has gone through steps
record Went (e : EndpointState) (a : Share) (o : Option EndpointState) : Type 0 where
  after : Session
  lives : Lives e.session a after
  behind : IsBehind after o

went : (e : EndpointState) (a : Share) (o p : Option EndpointState) → o ≡ Some e → Fate o a p → Went e a p
went e a o p at f = by p (subst (λ x. Fate x a p) at f)
  where
    by : (q : Option EndpointState) → Fate (Some e) a q → Went e a q
    by None g = record { after = g.0; lives = g.1; behind = tt }
    by (Some m) g = record { after = m.session; lives = g; behind = refl }

is_behind : (t u : Session) (o : Option EndpointState) → t ≡ u → IsBehind t o → IsBehind u o
is_behind t u o e h = subst (λ x. IsBehind x o) e h

-- ---- channels

here : (c : ℕ) (x : Framed) (xs : List Framed) → x.channel ≡ c → on c (x ∷ xs) ≡ x ∷ on c xs
here c x xs e = ap (λ b. (if b then x ∷ [] else []) ++ on c xs) (eq-eqb c x.channel (sym e))

elsewhere : (c : ℕ) (x : Framed) (xs : List Framed) → nat_eq c x.channel ≡ false → on c (x ∷ xs) ≡ on c xs
elsewhere c x xs e = ap (λ b. (if b then x ∷ [] else []) ++ on c xs) e

-- what is on a channel is what its one session has written
apart_own : (c n : ℕ) (log : List (ℕ × Framed)) → AreApart c n log → AllOn c (own n log) → on c (values_of log) ≡ own n log
apart_own c n [] apart all = refl
apart_own c n (e ∷ log) apart all = by (nat_eq n e.0) refl all (apart_own c n log apart.1)
  where
    by : (b : Bool) → nat_eq n e.0 ≡ b → AllOn c ((if b then e.1 ∷ [] else []) ++ own n log) → (AllOn c (own n log) → on c (values_of log) ≡ own n log)
        → on c (e.1 ∷ values_of log) ≡ (if b then e.1 ∷ [] else []) ++ own n log
    by true h a rest = here c e.1 (values_of log) a.0 ∙ ap (λ xs. e.1 ∷ xs) (rest a.1)
    by false h a rest = elsewhere c e.1 (values_of log) (apart.0 h) ∙ rest a

on_more : (c : ℕ) (xs ys : List Framed) → on c (xs ++ ys) ≡ on c xs ++ on c ys
on_more c xs ys = flat_map-append (on_if c) xs ys

spoken : (c n : ℕ) (gone new old : List Framed) (log : List (ℕ × Framed)) (out : List Framed) → gone ++ new ≡ old ++ values_of log → own n log ≡ out → AreApart c n log → AllOn c out
    → on c gone ++ on c new ≡ on c old ++ out
spoken c n gone new old log out o w apart all =
    sym (on_more c gone new) ∙ (ap (on c) o
    ∙ (on_more c old (values_of log) ∙ ap (λ xs. on c old ++ xs) (apart_own c n log apart (subst (AllOn c) (sym w) all) ∙ w)))

pub one_of_all_lives : OneOfAllLives
one_of_all_lives n e ds old new did keyed at other =
    let q = sessions_live ds old new did keyed in
    let c = came_in old ds new did n in
    let w = went e (share c (own n q.wrote) (own n q.gave)) (endpoint_of n old) (endpoint_of n new) at (q.each n other) in
    let l = w.lives in
    record {
      steps = l.steps;
      behind = is_behind w.after (after_all e.session (moves l.steps)) (endpoint_of n new) l.behind w.behind;
      hears = sym (ap (λ s. s.heard) l.share);
      takes = sym (ap (λ s. s.told) l.share);
      gives =
          sym (own_more n (gave_in ds) new.incoming) ∙ (ap (own n) q.incoming
          ∙ (own_more n old.incoming q.gave ∙ ap (λ xs. own n old.incoming ++ xs) (ap (λ s. s.gave) l.share)));
      log = q.wrote;
      output = q.output;
      writes = ap (λ s. s.wrote) l.share;
      speaks = λ channel is all apart.
          spoken channel n (wrote_in ds) new.output old.output q.wrote (handed_all e.session (moves l.steps)) q.output (ap (λ s. s.wrote) l.share) apart (speaks_on_its_own channel e.session (moves l.steps) is all).written;
    }
