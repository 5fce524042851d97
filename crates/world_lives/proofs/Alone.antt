-- A session that is alone on its channel.
use Rattle.std.specs.Prelude.{◌≡◌, ℕ, nat_eq, Bool, true, false, List, [], ◌∷◌, ◌++◌, Option, Some, None, if◌then◌else◌, refl}
use Rattle.std.proofs.Common.{sym, ◌∙◌, ap, subst, append_assoc, eq-eqb}
use Rattle.std.proofs.lemmas.Bool.{eqb-true, ne_eqb}
use Rattle.std.proofs.lemmas.Grind.{flat_map-append}
use Rattle.std.proofs.lemmas.List.{append-nil, append_cancel_left, map-append}
use Rattle.std.specs.Map.{lookup, values_of}
use Rattle.indexmap.specs.IndexMap.{insert_entry}
use Rattle.amqp_calls.specs.declared.call.SessionNumbers.{SessionNumbers}
use Rattle.amqp_frames.specs.declared.shared.IncomingSession.{IncomingSession}
use Rattle.amqp_session.specs.declared.session.LinkInput.{LinkInput}
use Rattle.amqp_session.specs.Begin as session
use Rattle.amqp_session.specs.State.{State as Session, Framed}
use Rattle.amqp_sessions.specs.Parts.{EndpointState, idle}
use Rattle.amqp_sessions.specs.Calls.{settings, entered, begun, accepted}
use Rattle.amqp_sessions.specs.Frames.{heard, heard_all, heard_early_at}
use Rattle.amqp_sessions.specs.State.{State, endpoint_of}
use Rattle.session_laws.specs.Holding.{handed_all}
use Rattle.session_lives.specs.Channels.{AllOn, on_if, on, AreApart}
use Rattle.session_lives.specs.Deeds.{Deed, Begins, Awaits, Accepts, Refuses, Ends, HandsOut, Halts, Concludes, Hears, Writes, Frees, Gives, Takes, Lacks, Tells, IsDeed, Did, wrote_of, wrote_in, gave_of, gave_in, hears_by, hears_all, early_at, joining, came_of, came_in, IsOther, AreOther}
use Rattle.session_lives.specs.Laws.{IsBehind}
use Rattle.session_lives.specs.Lives.{moves, Share, nothing, both, Lives}
use Rattle.session_lives.specs.Logs.{own, Came, share, Fate}
use Rattle.session_lives.specs.Sound.{AreSound, IsUnused, IsNewIn, AreNewIn}
use Rattle.session_lives.proofs.Tables.{insert_other, insert_here}
use Rattle.session_lives.proofs.Channels.{speaks_on_its_own}
use Rattle.session_lives.proofs.Lives.{fate_then, fate_as, fate_still}
use Rattle.session_lives.proofs.Going.{join, own_more, fate_kept}
use Rattle.session_lives.proofs.Deeds.{one_session_lives}
use Rattle.session_lives.proofs.Sound.{stood, heard_sound, without_early, early_removed, joining_sound, one_sound}
use Rattle.world_lives.specs.Alone.{StandsAlone, IsElsewhere, AreElsewhere, SpeaksAlone}

-- ---- a log in which each session writes on its own channel

abbrev AllOff : ℕ → List Framed → Type 0
AllOff c [] = Unit {0}
AllOff c (x ∷ xs) = (nat_eq c x.channel ≡ false) × AllOff c xs

off_tail : (c : ℕ) (t : Bool) (x : Framed) (xs : List Framed) → AllOff c ((if t then x ∷ [] else []) ++ xs) → AllOff c xs
off_tail c true x xs h = h.1
off_tail c false x xs h = h

off_head : (c : ℕ) (t : Bool) (x : Framed) (xs : List Framed) → t ≡ true → AllOff c ((if t then x ∷ [] else []) ++ xs) → nat_eq c x.channel ≡ false
off_head c true x xs e h = h.0
off_head c false x xs e h = absurd cc

apart_by : (c v : ℕ) (log : List (ℕ × Framed)) → ((n : ℕ) → nat_eq v n ≡ false → AllOff c (own n log)) → AreApart c v log
apart_by c v [] h = tt
apart_by c v (e ∷ log) h = (
  λ far. off_head c (nat_eq e.0 e.0) e.1 (own e.0 log) (eq-eqb e.0 e.0 refl) (h e.0 far),
  apart_by c v log (λ n far. off_tail c (nat_eq n e.0) e.1 (own n log) (h n far)),
)

apart_both : (c v : ℕ) (xs ys : List (ℕ × Framed)) → AreApart c v xs → AreApart c v ys → AreApart c v (xs ++ ys)
apart_both c v [] ys h k = k
apart_both c v (e ∷ xs) ys h k = (h.0, apart_both c v xs ys h.1 k)

apart_none : (c v : ℕ) (log : List (ℕ × Framed)) → values_of log ≡ [] → AreApart c v log
apart_none c v [] e = tt
apart_none c v (x ∷ log) e = absurd cc

-- frames on another channel
on_off : (c k : ℕ) (xs : List Framed) → (k ≡ c → ⊥) → AllOn k xs → AllOff c xs
on_off c k [] far h = tt
on_off c k (x ∷ xs) far h = (ne_eqb c x.channel (λ e. far (sym (e ∙ h.0))), on_off c k xs far h.1)

-- ---- what a session that stood has written

wrote_on : (e : EndpointState) (a : Share) (t : Session) → AllOn e.session.channel e.session.output → Lives e.session a t → AllOn e.session.channel a.wrote
wrote_on e a t is l =
    subst (λ (xs : List Framed). AllOn e.session.channel xs) (sym (ap (λ (b : Share). b.wrote) l.share)) (speaks_on_its_own e.session.channel e.session (moves l.steps) refl is).written

fate_on : (e : EndpointState) (a : Share) (p : Option EndpointState) → AllOn e.session.channel e.session.output → Fate (Some e) a p → AllOn e.session.channel a.wrote
fate_on e a None is f = wrote_on e a f.0 is f.1
fate_on e a (Some g) is f = wrote_on e a g.session is f

fate_none : (a : Share) (p : Option EndpointState) → Fate None a p → a.wrote ≡ []
fate_none a None f = ap (λ (b : Share). b.wrote) f
fate_none a (Some g) f = absurd f

-- on a channel on which another stands alone it has written nothing
fate_off : (c n : ℕ) (a : Share) (old : State) (o p : Option EndpointState) → endpoint_of n old ≡ o → AreSound old → ((e : EndpointState) → o ≡ Some e → e.session.channel ≡ c → ⊥) → Fate o a p → AllOff c a.wrote
fate_off c n a old None p at sound far f = subst (λ (xs : List Framed). AllOff c xs) (sym (fate_none a p f)) tt
fate_off c n a old (Some e) p at sound far f = on_off c e.session.channel a.wrote (far e refl) (fate_on e a p (sound.speaks n e at) f)

not_same : (v n : ℕ) → nat_eq v n ≡ false → n ≡ v → ⊥
not_same v n far e = let bad : true ≡ false = sym (eq-eqb v n (sym e)) ∙ far in cc

alone_off : (c v n : ℕ) (a : Share) (old : State) (p : Option EndpointState) → AreSound old → StandsAlone c v old → nat_eq v n ≡ false → Fate (endpoint_of n old) a p → AllOff c a.wrote
alone_off c v n a old p sound alone far f = fate_off c n a old (endpoint_of n old) p refl sound (λ e at is. not_same v n far (alone n e at is)) f

-- ---- deeds

-- what one makes of the sessions
record DeedGoes (d : Deed) (old new : State) : Type 0 where
  wrote : List (ℕ × Framed)
  gave : List (ℕ × LinkInput)
  output : wrote_of d ++ new.output ≡ old.output ++ values_of wrote
  incoming : gave_of d ++ new.incoming ≡ old.incoming ++ gave
  each : (n : ℕ) → IsOther n d → Fate (endpoint_of n old) (share (came_of d old n) (own n wrote) (own n gave)) (endpoint_of n new)
  apart : (c v : ℕ) → StandsAlone c v old → IsElsewhere c d → AreApart c v wrote
  stays : (c v : ℕ) → StandsAlone c v old → IsElsewhere c d → StandsAlone c v new
  sound : AreSound new

record DeedsGo (ds : List Deed) (old new : State) (did : Did old ds new) : Type 0 where
  wrote : List (ℕ × Framed)
  gave : List (ℕ × LinkInput)
  output : wrote_in ds ++ new.output ≡ old.output ++ values_of wrote
  incoming : gave_in ds ++ new.incoming ≡ old.incoming ++ gave
  each : (n : ℕ) → AreOther n ds → Fate (endpoint_of n old) (share (came_in old ds new did n) (own n wrote) (own n gave)) (endpoint_of n new)
  apart : (c v : ℕ) → StandsAlone c v old → AreElsewhere c ds → AreApart c v wrote
  stays : (c v : ℕ) → StandsAlone c v old → AreElsewhere c ds → StandsAlone c v new
  sound : AreSound new

both_go : {X : Type 0} (gone more new mid old xs ys : List X) → gone ++ mid ≡ old ++ xs → more ++ new ≡ mid ++ ys → (gone ++ more) ++ new ≡ old ++ (xs ++ ys)
both_go gone more new mid old xs ys p q =
    append_assoc gone more new ∙ (ap (λ zs. gone ++ zs) q ∙ (sym (append_assoc gone mid ys) ∙ (ap (λ zs. zs ++ ys) p ∙ append_assoc old xs ys)))

none_go : (old new : State) (did : Did old [] new) → AreSound old → DeedsGo [] old new did
none_go old new did sound = record {
  wrote = [];
  gave = [];
  output = ap (λ s. s.output) did ∙ sym (append-nil old.output);
  incoming = ap (λ s. s.incoming) did ∙ sym (append-nil old.incoming);
  each = λ n other. fate_kept (endpoint_of n old) (endpoint_of n new) nothing (ap (endpoint_of n) did) refl;
  apart = λ c v alone far. tt;
  stays = λ c v alone far. subst (λ s. StandsAlone c v s) (sym did) alone;
  sound = subst (λ s. AreSound s) (sym did) sound;
}

more_go : (d : Deed) (ds : List Deed) (old new : State) (did : Did old (d ∷ ds) new) → DeedGoes d old did.0 → DeedsGo ds did.0 new did.1.1 → DeedsGo (d ∷ ds) old new did
more_go d ds old new did p q =
    let mid = did.0 in
    record {
      wrote = p.wrote ++ q.wrote;
      gave = p.gave ++ q.gave;
      output =
          both_go (wrote_of d) (wrote_in ds) new.output mid.output old.output (values_of p.wrote) (values_of q.wrote) p.output q.output
          ∙ ap (λ xs. old.output ++ xs) (sym (map-append (λ (x : ℕ × Framed). x.1) p.wrote q.wrote));
      incoming = both_go (gave_of d) (gave_in ds) new.incoming mid.incoming old.incoming p.gave q.gave p.incoming q.incoming;
      each = λ n other.
          let c = came_of d old n in
          let r = came_in mid ds new did.1.1 n in
          let x = share c (own n p.wrote) (own n p.gave) in
          let y = share r (own n q.wrote) (own n q.gave) in
          let w : own n p.wrote ++ own n q.wrote ≡ own n (p.wrote ++ q.wrote) = sym (own_more n p.wrote q.wrote) in
          let g : own n p.gave ++ own n q.gave ≡ own n (p.gave ++ q.gave) = sym (own_more n p.gave q.gave) in
          fate_as (endpoint_of n old) (endpoint_of n new) (both x y) (share (join c r) (own n (p.wrote ++ q.wrote)) (own n (p.gave ++ q.gave))) (λ j. share (join c r) (w j) (g j))
          (fate_then (endpoint_of n old) (endpoint_of n mid) (endpoint_of n new) x y (p.each n other.0) (q.each n other.1));
      apart = λ c v alone far. apart_both c v p.wrote q.wrote (p.apart c v alone far.0) (q.apart c v (p.stays c v alone far.0) far.1);
      stays = λ c v alone far. q.stays c v (p.stays c v alone far.0) far.1;
      sound = q.sound;
    }

-- ---- a deed that makes no session

plain_goes : (d : Deed) (old new : State) → IsDeed old d new → ((n : ℕ) → IsOther n d) → AreSound old → AreSound new → DeedGoes d old new
plain_goes d old new h other sound after =
    let g = one_session_lives d old new h sound.keyed in
    record {
      wrote = g.wrote;
      gave = g.gave;
      output = g.output;
      incoming = g.incoming;
      each = g.each;
      apart = λ c v alone far. apart_by c v g.wrote (λ n apart. alone_off c v n (share (came_of d old n) (own n g.wrote) (own n g.gave)) old (endpoint_of n new) sound alone apart (g.each n (other n)));
      stays = λ c v alone far n f at is.
          let w = stood (λ m. share (came_of d old m) (own m g.wrote) (own m g.gave)) old new n f (g.each n (other n)) at in
          alone n w.before w.at (sym w.keeps.channel ∙ is);
      sound = after;
    }

-- ---- a session is made

-- it stands on another channel
alone_entered : (c v name channel : ℕ) (a : Session) (s : State) → a.channel ≡ channel → nat_eq c channel ≡ false → StandsAlone c v s → StandsAlone c v (entered name channel a s)
alone_entered c v name channel a s is far alone n f at on = by (nat_eq n name) refl
  where
    same_there : Some f ≡ Some (idle a) → idle a ≡ f
    same_there h = cc

    made : n ≡ name → idle a ≡ f
    made e = same_there (sym at ∙ (ap (λ m. lookup (nat_eq m) (insert_entry nat_eq s.endpoints name (idle a))) e ∙ insert_here name (idle a) s.endpoints))

    by : (t : Bool) → nat_eq n name ≡ t → n ≡ v
    by true e = absurd (not_same c channel far (sym is ∙ (ap (λ g. g.session.channel) (made (eqb-true n name e)) ∙ on)))
    by false e = alone n f (sym (insert_other name n (idle a) s.endpoints e) ∙ at) on

-- nothing goes out
no_values : (xs ys : List Framed) → xs ≡ xs ++ ys → ys ≡ []
no_values xs ys e = sym (append_cancel_left xs [] ys (append-nil xs ∙ e))

begun_goes : (name : ℕ) (x : SessionNumbers) (channel limit : ℕ) (old : State) → AreSound old → AreSound (begun name x channel limit old) → DeedGoes (Begins name x channel limit) old (begun name x channel limit old)
begun_goes name x channel limit old sound after =
    let d = Begins name x channel limit in
    let new = begun name x channel limit old in
    let g = one_session_lives d old new refl sound.keyed in
    record {
      wrote = g.wrote;
      gave = g.gave;
      output = g.output;
      incoming = g.incoming;
      each = g.each;
      apart = λ c v alone far. apart_none c v g.wrote (no_values old.output (values_of g.wrote) g.output);
      stays = λ c v alone far. alone_entered c v name channel (session.begun (settings x limit) channel) old refl far alone;
      sound = after;
    }

-- ---- frames that came before a session was accepted

hears_of : List Framed → List Deed
hears_of [] = []
hears_of (x ∷ xs) = Hears x ∷ hears_of xs

hears_did : (xs : List Framed) (s : State) → Did s (hears_of xs) (heard_all xs s)
unfolding hears_of
hears_did [] s = refl
hears_did (x ∷ xs) s = (heard x s, (refl, hears_did xs (heard x s)))

hears_go : (xs : List Framed) (s : State) → AreSound s → DeedsGo (hears_of xs) s (heard_all xs s) (hears_did xs s)
unfolding hears_of hears_did
hears_go [] s sound = none_go s s refl sound
hears_go (x ∷ xs) s sound =
    let after = heard_sound x s sound in
    more_go (Hears x) (hears_of xs) s (heard_all xs (heard x s)) (heard x s, (refl, hears_did xs (heard x s))) (plain_goes (Hears x) s (heard x s) refl (λ n. tt) sound after) (hears_go xs (heard x s) after)

hears_wrote : (xs : List Framed) → wrote_in (hears_of xs) ≡ []
unfolding hears_of
hears_wrote [] = refl
hears_wrote (x ∷ xs) = hears_wrote xs

hears_gave : (xs : List Framed) → gave_in (hears_of xs) ≡ []
unfolding hears_of
hears_gave [] = refl
hears_gave (x ∷ xs) = hears_gave xs

hears_other : (n : ℕ) (xs : List Framed) → AreOther n (hears_of xs)
unfolding hears_of
hears_other n [] = tt
hears_other n (x ∷ xs) = (tt, hears_other n xs)

hears_elsewhere : (c : ℕ) (xs : List Framed) → AreElsewhere c (hears_of xs)
unfolding hears_of
hears_elsewhere c [] = tt
hears_elsewhere c (x ∷ xs) = (tt, hears_elsewhere c xs)

hears_came : (xs : List Framed) (s : State) (n : ℕ) → came_in s (hears_of xs) (heard_all xs s) (hears_did xs s) n ≡ record { heard = hears_all xs s n; told = [] }
unfolding hears_of hears_did
hears_came [] s n = refl
hears_came (x ∷ xs) s n = ap (λ (r : Came). record { heard = hears_by x s n ++ r.heard; told = r.told }) (hears_came xs (heard x s) n)

-- what they make of the sessions
record EarlyGoes (o : Option (List Framed)) (remote : ℕ) (u new : State) : Type 0 where
  wrote : List (ℕ × Framed)
  gave : List (ℕ × LinkInput)
  output : new.output ≡ u.output ++ values_of wrote
  incoming : new.incoming ≡ u.incoming ++ gave
  each : (n : ℕ) → Fate (endpoint_of n u) (share (record { heard = early_at o remote u n; told = [] }) (own n wrote) (own n gave)) (endpoint_of n new)
  apart : (c v : ℕ) → StandsAlone c v u → AreApart c v wrote
  stays : (c v : ℕ) → StandsAlone c v u → StandsAlone c v new
  sound : AreSound new

early_goes : (o : Option (List Framed)) (remote : ℕ) (u : State) → AreSound u → EarlyGoes o remote u (heard_early_at o remote u)
early_goes None remote u sound = record {
  wrote = [];
  gave = [];
  output = sym (append-nil u.output);
  incoming = sym (append-nil u.incoming);
  each = λ n. fate_still (endpoint_of n u);
  apart = λ c v alone. tt;
  stays = λ c v alone. alone;
  sound = sound;
}
early_goes (Some xs) remote u sound =
    let s = without_early remote u in
    let g = hears_go xs s (early_removed remote u sound) in
    let new = heard_all xs s in
    record {
      wrote = g.wrote;
      gave = g.gave;
      output = ap (λ (ys : List Framed). ys ++ new.output) (sym (hears_wrote xs)) ∙ g.output;
      incoming = ap (λ (ys : List (ℕ × LinkInput)). ys ++ new.incoming) (sym (hears_gave xs)) ∙ g.incoming;
      each = λ n. subst (λ (c : Came). Fate (endpoint_of n s) (share c (own n g.wrote) (own n g.gave)) (endpoint_of n new)) (hears_came xs s n) (g.each n (hears_other n xs));
      apart = λ c v alone. g.apart c v alone (hears_elsewhere c xs);
      stays = λ c v alone. g.stays c v alone (hears_elsewhere c xs);
      sound = g.sound;
    }

accepted_goes : (name : ℕ) (x : SessionNumbers) (channel limit : ℕ) (incoming : IncomingSession) (old : State) → AreSound old → IsUnused name old
    → DeedGoes (Accepts name x channel limit incoming) old (accepted name x channel limit incoming old)
accepted_goes name x channel limit incoming old sound unused =
    let u = joining name x channel limit incoming old in
    let new = accepted name x channel limit incoming old in
    let g = early_goes (lookup (nat_eq incoming.channel) u.early) incoming.channel u (joining_sound name x channel limit incoming old sound unused) in
    let a = session.accepted (settings x limit) channel incoming in
    record {
      wrote = g.wrote;
      gave = g.gave;
      output = g.output;
      incoming = g.incoming;
      each = λ n other.
          subst (λ (o : Option EndpointState). Fate o (share (came_of (Accepts name x channel limit incoming) old n) (own n g.wrote) (own n g.gave)) (endpoint_of n new)) (insert_other name n (idle a) old.endpoints other) (g.each n);
      apart = λ c v alone far. g.apart c v (alone_entered c v name channel a old refl far alone);
      stays = λ c v alone far. g.stays c v (alone_entered c v name channel a old refl far alone);
      sound = g.sound;
    }

-- ---- all of them

deed_goes : (d : Deed) (old new : State) → IsDeed old d new → IsNewIn d old → AreSound old → DeedGoes d old new
deed_goes (Begins name x channel limit) old new h fresh sound =
    subst (λ s. DeedGoes (Begins name x channel limit) old s) (sym h) (begun_goes name x channel limit old sound (one_sound (Begins name x channel limit) old (begun name x channel limit old) refl fresh sound))
deed_goes (Accepts name x channel limit incoming) old new h fresh sound = subst (λ s. DeedGoes (Accepts name x channel limit incoming) old s) (sym h) (accepted_goes name x channel limit incoming old sound fresh)
deed_goes (Hears x) old new h fresh sound = plain_goes (Hears x) old new h (λ n. tt) sound (one_sound (Hears x) old new h tt sound)
deed_goes (Awaits name x) old new h fresh sound = plain_goes (Awaits name x) old new h (λ n. tt) sound (one_sound (Awaits name x) old new h tt sound)
deed_goes (Refuses name why) old new h fresh sound = plain_goes (Refuses name why) old new h (λ n. tt) sound (one_sound (Refuses name why) old new h tt sound)
deed_goes (Ends name session condition) old new h fresh sound = plain_goes (Ends name session condition) old new h (λ n. tt) sound (one_sound (Ends name session condition) old new h tt sound)
deed_goes (HandsOut name) old new h fresh sound = plain_goes (HandsOut name) old new h (λ n. tt) sound (one_sound (HandsOut name) old new h tt sound)
deed_goes (Halts why) old new h fresh sound = plain_goes (Halts why) old new h (λ n. tt) sound (one_sound (Halts why) old new h tt sound)
deed_goes (Concludes why) old new h fresh sound = plain_goes (Concludes why) old new h (λ n. tt) sound (one_sound (Concludes why) old new h tt sound)
deed_goes (Writes x) old new h fresh sound = plain_goes (Writes x) old new h (λ n. tt) sound (one_sound (Writes x) old new h tt sound)
deed_goes (Frees channel) old new h fresh sound = plain_goes (Frees channel) old new h (λ n. tt) sound (one_sound (Frees channel) old new h tt sound)
deed_goes (Gives session x) old new h fresh sound = plain_goes (Gives session x) old new h (λ n. tt) sound (one_sound (Gives session x) old new h tt sound)
deed_goes (Takes session x) old new h fresh sound = plain_goes (Takes session x) old new h (λ n. tt) sound (one_sound (Takes session x) old new h tt sound)
deed_goes (Lacks session) old new h fresh sound = plain_goes (Lacks session) old new h (λ n. tt) sound (one_sound (Lacks session) old new h tt sound)
deed_goes Tells old new h fresh sound = plain_goes Tells old new h (λ n. tt) sound (one_sound Tells old new h tt sound)

deeds_go : (ds : List Deed) (old new : State) (did : Did old ds new) → AreNewIn old ds new did → AreSound old → DeedsGo ds old new did
deeds_go [] old new did fresh sound = none_go old new did sound
deeds_go (d ∷ ds) old new did fresh sound =
    let p = deed_goes d old did.0 did.1.0 fresh.0 sound in
    more_go d ds old new did p (deeds_go ds did.0 new did.1.1 fresh.1 p.sound)

-- ---- one session among them

record Went (e : EndpointState) (a : Share) (o : Option EndpointState) : Type 0 where
  after : Session
  lives : Lives e.session a after
  behind : IsBehind after o

went_by : (e : EndpointState) (a : Share) (q : Option EndpointState) → Fate (Some e) a q → Went e a q
went_by e a None g = record { after = g.0; lives = g.1; behind = tt }
went_by e a (Some m) g = record { after = m.session; lives = g; behind = refl }

went : (e : EndpointState) (a : Share) (o p : Option EndpointState) → o ≡ Some e → Fate o a p → Went e a p
went e a o p at f = went_by e a p (subst (λ x. Fate x a p) at f)

here : (c : ℕ) (x : Framed) (xs : List Framed) → x.channel ≡ c → on c (x ∷ xs) ≡ x ∷ on c xs
here c x xs e = ap (λ b. (if b then x ∷ [] else []) ++ on c xs) (eq-eqb c x.channel (sym e))

elsewhere : (c : ℕ) (x : Framed) (xs : List Framed) → nat_eq c x.channel ≡ false → on c (x ∷ xs) ≡ on c xs
elsewhere c x xs e = ap (λ b. (if b then x ∷ [] else []) ++ on c xs) e

apart_own : (c n : ℕ) (log : List (ℕ × Framed)) → AreApart c n log → AllOn c (own n log) → on c (values_of log) ≡ own n log
apart_own c n [] apart all = refl
apart_own c n (e ∷ log) apart all = by (nat_eq n e.0) refl all (apart_own c n log apart.1)
  where
    by : (b : Bool) → nat_eq n e.0 ≡ b → AllOn c ((if b then e.1 ∷ [] else []) ++ own n log) → (AllOn c (own n log) → on c (values_of log) ≡ own n log)
        → on c (e.1 ∷ values_of log) ≡ (if b then e.1 ∷ [] else []) ++ own n log
    by true h a rest = here c e.1 (values_of log) a.0 ∙ ap (λ xs. e.1 ∷ xs) (rest a.1)
    by false h a rest = elsewhere c e.1 (values_of log) (apart.0 h) ∙ rest a

on_more : (c : ℕ) (xs ys : List Framed) → on c (xs ++ ys) ≡ on c xs ++ on c ys
on_more c xs ys = flat_map-append (on_if c) xs ys

spoken : (c n : ℕ) (gone new old : List Framed) (log : List (ℕ × Framed)) (out : List Framed) → gone ++ new ≡ old ++ values_of log → own n log ≡ out → AreApart c n log → AllOn c out
    → on c gone ++ on c new ≡ on c old ++ out
spoken c n gone new old log out o w apart all =
    sym (on_more c gone new) ∙ (ap (on c) o
    ∙ (on_more c old (values_of log) ∙ ap (λ xs. on c old ++ xs) (apart_own c n log apart (subst (AllOn c) (sym w) all) ∙ w)))

pub speaks_alone : SpeaksAlone
speaks_alone n e ds old new did sound fresh at other =
    let q = deeds_go ds old new did fresh sound in
    let c = came_in old ds new did n in
    let w = went e (share c (own n q.wrote) (own n q.gave)) (endpoint_of n old) (endpoint_of n new) at (q.each n other) in
    let l = w.lives in
    record {
      life = record {
        steps = l.steps;
        behind = subst (λ x. IsBehind x (endpoint_of n new)) l.behind w.behind;
        hears = sym (ap (λ s. s.heard) l.share);
        takes = sym (ap (λ s. s.told) l.share);
        gives =
            sym (own_more n (gave_in ds) new.incoming) ∙ (ap (own n) q.incoming
            ∙ (own_more n old.incoming q.gave ∙ ap (λ xs. own n old.incoming ++ xs) (ap (λ s. s.gave) l.share)));
        log = q.wrote;
        output = q.output;
        writes = ap (λ s. s.wrote) l.share;
        speaks = λ channel is all apart.
            spoken channel n (wrote_in ds) new.output old.output q.wrote (handed_all e.session (moves l.steps)) q.output (ap (λ s. s.wrote) l.share) apart (speaks_on_its_own channel e.session (moves l.steps) is all).written;
      };
      alone = λ channel alone far. q.apart channel n alone far;
    }
