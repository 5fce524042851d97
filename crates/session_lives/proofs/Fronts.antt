-- What a session hears of the frames on a channel of the peer.
use Rattle.std.specs.Prelude.{◌≡◌, ◌⊎◌, ℕ, nat_eq, Bool, true, false, List, [], ◌∷◌, ◌++◌, Option, Some, None, if◌then◌else◌, refl}
use Rattle.std.proofs.Common.{inl, inr, sym, ◌∙◌, ap, subst, append_assoc, eq-eqb}
use Rattle.std.proofs.lemmas.Bool.{eqb-true, eqb-false}
use Rattle.std.proofs.lemmas.Grind.{flat_map-append}
use Rattle.std.specs.Map.{lookup}
use Rattle.indexmap.specs.IndexMap.{insert_entry, swap_remove_entry}
use Rattle.amqp_calls.specs.declared.call.SessionNumbers.{SessionNumbers}
use Rattle.amqp_frames.specs.declared.shared.IncomingSession.{IncomingSession}
use Rattle.amqp_session.specs.declared.error.Error.{Error}
use Rattle.amqp_session.specs.Begin as session
use Rattle.amqp_session.specs.State.{Framed}
use Rattle.amqp_sessions.specs.declared.endpoint.Change.{Change}
use Rattle.amqp_sessions.specs.declared.endpoint.Change.TheVariants.{Same, Begun, Refused, Gone, Answered}
use Rattle.amqp_sessions.specs.Parts.{EndpointState, idle}
use Rattle.amqp_sessions.specs.Endpoint.{change_of, hearing, having_heard}
use Rattle.amqp_sessions.specs.Calls.{settings}
use Rattle.amqp_sessions.specs.Frames.{answered_channel, name_at, place_of, changed, hearing_at, kept_at, heard_by, heard, heard_all, heard_early_at}
use Rattle.amqp_sessions.specs.State.{State, endpoint_of, with_endpoint, handed_out}
use Rattle.session_lives.specs.Channels.{is_begun, IsJoined, AllOn, on_if, on}
use Rattle.session_lives.specs.Lives.{Share}
use Rattle.session_lives.specs.Logs.{own, share, Fate}
use Rattle.session_lives.specs.Deeds.{Deed, Begins, Awaits, Accepts, Refuses, Ends, HandsOut, Halts, Concludes, Hears, Writes, Frees, Gives, Takes, Lacks, Tells, IsDeed, Did, read_of, read_in, where_there, hears_if, hears_by, hears_all, early_at, joining, heard_of, came_of, came_in, IsOther, AreOther}
use Rattle.session_lives.specs.Sound.{AreSound, IsUnused, IsNewIn, AreNewIn}
use Rattle.session_lives.specs.Fronts.{unless_answer, other_in, others, AreFirst, HearsTheFirst}
use Rattle.session_lives.proofs.Tables.{insert_other, insert_here}
use Rattle.session_lives.proofs.Hearing.{heard_goes}
use Rattle.session_lives.proofs.Deeds.{one_session_lives}
use Rattle.session_lives.proofs.Sound.{Any, stood, Shrinks, entry, begun_from, kept_shrinks, out_shrinks, changed_shrinks, out_sound, heard_sound, early_removed, without_early, joining_sound, IsPlain, plain_shrinks, one_sound}

-- ---- one frame

hears_not : (o : Option ℕ) (n : ℕ) (x : Framed) → (o ≡ Some n → ⊥) → hears_if o n x ≡ []
hears_not None n x apart = refl
hears_not (Some m) n x apart = by (nat_eq n m) refl
  where
    by : (b : Bool) → nat_eq n m ≡ b → (if b then x ∷ [] else []) ≡ []
    by true e = absurd (apart (ap Some (sym (eqb-true n m e))))
    by false e = refl

hears_one : (o : Option ℕ) (n : ℕ) (x : Framed) → o ≡ Some n → hears_if o n x ≡ x ∷ []
hears_one o n x e = ap (λ p. hears_if p n x) e ∙ ap (λ b. if b then x ∷ [] else []) (eq-eqb n n refl)

there_some : (o : Option EndpointState) (e : EndpointState) (xs : List Framed) → o ≡ Some e → where_there o xs ≡ xs
there_some o e xs at = ap (λ p. where_there p xs) at

there_none : (o : Option EndpointState) (xs : List Framed) → o ≡ None → where_there o xs ≡ []
there_none o xs at = ap (λ p. where_there p xs) at

there_empty : (o : Option EndpointState) → where_there {X = Framed} o [] ≡ []
there_empty None = refl
there_empty (Some e) = refl

-- what is heard of an answer counts not
answers_out : (o : Option EndpointState) (p : Option ℕ) (n : ℕ) (x : Framed) (c : ℕ) → answered_channel x.body ≡ Some c → others (where_there o (hears_if p n x)) ≡ []
answers_out None p n x c a = refl
answers_out (Some e) None n x c a = refl
answers_out (Some e) (Some m) n x c a = by (nat_eq n m)
  where
    by : (b : Bool) → others (if b then x ∷ [] else []) ≡ []
    by true = ap (λ o. unless_answer o x ++ []) a
    by false = refl

on_here : (c : ℕ) (x : Framed) → x.channel ≡ c → on c (x ∷ []) ≡ x ∷ []
on_here c x e = ap (λ b. (if b then x ∷ [] else []) ++ []) (eq-eqb c x.channel (sym e))

on_elsewhere : (c : ℕ) (x : Framed) → nat_eq c x.channel ≡ false → on c (x ∷ []) ≡ []
on_elsewhere c x e = ap (λ b. (if b then x ∷ [] else []) ++ []) e

on_answer : (c k : ℕ) (x : Framed) → answered_channel x.body ≡ Some k → others (on c (x ∷ [])) ≡ []
on_answer c k x a = by (nat_eq c x.channel)
  where
    by : (b : Bool) → others ((if b then x ∷ [] else []) ++ []) ≡ []
    by true = ap (λ o. unless_answer o x ++ []) a
    by false = refl

-- ---- a session that the peer has begun

-- where it stands, it is on that channel of the peer
record Joins (c n : ℕ) (s : State) : Type 0 where
  is : (e : EndpointState) → endpoint_of n s ≡ Some e → IsJoined c e.session

-- and where that channel leads to it no more
record IsDeaf (c n : ℕ) (s : State) : Type 0 where
  joins : Joins c n s
  lost : (e : EndpointState) → endpoint_of n s ≡ Some e → lookup (nat_eq c) s.remotes ≡ Some n → ⊥

same_channel : (c k n : ℕ) (e : EndpointState) (s : State) → AreSound s → endpoint_of n s ≡ Some e → IsJoined c e.session → lookup (nat_eq k) s.remotes ≡ Some n → k ≡ c
same_channel c k n e s sound at is led = by (sym (sound.peer k n e led at).0 ∙ is.0)
  where
    by : Some k ≡ Some c → k ≡ c
    by h = cc

-- a frame on a channel that does not lead to it is not for it
unheard : (n : ℕ) (e : EndpointState) (x : Framed) (s : State) → endpoint_of n s ≡ Some e → (lookup (nat_eq x.channel) s.remotes ≡ Some n → ⊥) → others (hears_by x s n) ≡ []
unheard n e x s at apart = by (answered_channel x.body) refl
  where
    by : (o : Option ℕ) → answered_channel x.body ≡ o → others (hears_by x s n) ≡ []
    by (Some k) a = answers_out (endpoint_of n s) (place_of x s) n x k a
    by None a =
        let place : place_of x s ≡ lookup (nat_eq x.channel) s.remotes = ap (λ o. name_at o x.channel s) a in
        ap others (there_some (endpoint_of n s) e (hears_if (place_of x s) n x) at ∙ (ap (λ p. hears_if p n x) place ∙ hears_not (lookup (nat_eq x.channel) s.remotes) n x apart))

-- while the channel leads to it, each frame on that is
led_one : (c n : ℕ) (e : EndpointState) (x : Framed) (s : State) → AreSound s → endpoint_of n s ≡ Some e → IsJoined c e.session → lookup (nat_eq c) s.remotes ≡ Some n → others (hears_by x s n) ≡ others (on c (x ∷ []))
led_one c n e x s sound at is led = by (nat_eq c x.channel) refl
  where
    heard_here : c ≡ x.channel → (o : Option ℕ) → answered_channel x.body ≡ o → others (hears_by x s n) ≡ others (on c (x ∷ []))
    heard_here same (Some k) a = answers_out (endpoint_of n s) (place_of x s) n x k a ∙ sym (on_answer c k x a)
    heard_here same None a =
        let place : place_of x s ≡ Some n = ap (λ o. name_at o x.channel s) a ∙ (sym (ap (λ k. lookup (nat_eq k) s.remotes) same) ∙ led) in
        ap others (there_some (endpoint_of n s) e (hears_if (place_of x s) n x) at ∙ (hears_one (place_of x s) n x place ∙ sym (on_here c x (sym same))))

    by : (b : Bool) → nat_eq c x.channel ≡ b → others (hears_by x s n) ≡ others (on c (x ∷ []))
    by true h = heard_here (eqb-true c x.channel h) (answered_channel x.body) refl
    by false h =
        unheard n e x s at (λ found. eqb-false c x.channel h (sym (same_channel c x.channel n e s sound at is found)))
        ∙ sym (ap others (on_elsewhere c x h))

deaf_one : (c n : ℕ) (x : Framed) (s : State) → AreSound s → IsDeaf c n s → others (hears_by x s n) ≡ []
deaf_one c n x s sound deaf = by (endpoint_of n s) refl
  where
    by : (o : Option EndpointState) → endpoint_of n s ≡ o → others (hears_by x s n) ≡ []
    by None at = ap others (there_none (endpoint_of n s) (hears_if (place_of x s) n x) at)
    by (Some e) at =
        unheard n e x s at (λ found. deaf.lost e at (ap (λ k. lookup (nat_eq k) s.remotes) (sym (same_channel c x.channel n e s sound at (deaf.joins.is e at) found)) ∙ found))

-- none of another channel is
apart_one : (c k n : ℕ) (x : Framed) (s : State) → AreSound s → Joins c n s → x.channel ≡ k → (k ≡ c → ⊥) → others (hears_by x s n) ≡ []
apart_one c k n x s sound joins e apart = by (endpoint_of n s) refl
  where
    by : (o : Option EndpointState) → endpoint_of n s ≡ o → others (hears_by x s n) ≡ []
    by None at = ap others (there_none (endpoint_of n s) (hears_if (place_of x s) n x) at)
    by (Some f) at = unheard n f x s at (λ found. apart (sym e ∙ same_channel c x.channel n f s sound at (joins.is f at) found))

-- ---- what becomes of it

-- no channel comes to lead to it
record Backs (n : ℕ) (old new : State) : Type 0 where
  led : (c : ℕ) → lookup (nat_eq c) new.remotes ≡ Some n → lookup (nat_eq c) old.remotes ≡ Some n

backs_shrinks : (n : ℕ) (old new : State) → AreSound old → Shrinks old new → Backs n old new
backs_shrinks n old new sound p = record { led = λ c h. (p.peer sound.remotes).led c n h }

joins_still : (c n : ℕ) (a : Share) (old new : State) → Fate (endpoint_of n old) a (endpoint_of n new) → Joins c n old → Joins c n new
joins_still c n a old new g joins = record { is = λ f at. let was = stood (λ m. a) old new n f g at in was.keeps.joined c (joins.is was.before was.at) }

deaf_still : (c n : ℕ) (a : Share) (old new : State) → Fate (endpoint_of n old) a (endpoint_of n new) → Backs n old new → IsDeaf c n old → IsDeaf c n new
deaf_still c n a old new g back deaf =
    record {
      joins = joins_still c n a old new g deaf.joins;
      lost = λ f at led. let was = stood (λ m. a) old new n f g at in deaf.lost was.before was.at (back.led c led);
    }

heard_fate : (n : ℕ) (x : Framed) (s : State) → AreSound s → (a : Share) × Fate (endpoint_of n s) a (endpoint_of n (heard x s))
heard_fate n x s sound = let g = heard_goes Any x s sound.keyed in (_, g.each n tt)

changed_backs : (n : ℕ) (c : Change) (name remote : ℕ) (answer : Option Error) (s : State) → AreSound s → (c ≡ Begun → nat_eq n name ≡ false) → Backs n s (changed c name remote answer s)
changed_backs n Begun name remote answer s sound apart = record { led = λ k h. by k (entry remote name k n s.remotes h).either }
  where
    by : (k : ℕ) → ((k ≡ remote) × (n ≡ name)) ⊎ (lookup (nat_eq k) s.remotes ≡ Some n) → lookup (nat_eq k) s.remotes ≡ Some n
    by k (inl h) = let bad : true ≡ false = sym (eq-eqb n name h.1) ∙ apart refl in cc
    by k (inr h) = h
changed_backs n Same name remote answer s sound apart = backs_shrinks n s s sound (changed_shrinks Same name remote answer s (λ h. cc))
changed_backs n Refused name remote answer s sound apart = backs_shrinks n s (changed Refused name remote answer s) sound (changed_shrinks Refused name remote answer s (λ h. cc))
changed_backs n Gone name remote answer s sound apart = backs_shrinks n s (changed Gone name remote answer s) sound (changed_shrinks Gone name remote answer s (λ h. cc))
changed_backs n Answered name remote answer s sound apart = backs_shrinks n s (changed Answered name remote answer s) sound (changed_shrinks Answered name remote answer s (λ h. cc))

-- a session that the peer has begun is not begun again
not_again : (c n name : ℕ) (x : Framed) (e : EndpointState) (s : State) → Joins c n s → endpoint_of name s ≡ Some e → change_of x e ≡ Begun → nat_eq n name ≡ false
not_again c n name x e s joins at h = by (nat_eq n name) refl
  where
    by : (b : Bool) → nat_eq n name ≡ b → b ≡ false
    by false g = refl
    by true g =
        let is = joins.is e (ap (λ m. endpoint_of m s) (eqb-true n name g) ∙ at) in
        let bad : false ≡ true = sym (ap is_begun (begun_from e.session.state (hearing x e).state.state h)) ∙ is.1 in
        cc

hearing_backs : (c n : ℕ) (o : Option EndpointState) (name : ℕ) (x : Framed) (s : State) → AreSound s → endpoint_of name s ≡ o → Joins c n s → Backs n s (hearing_at o name x s)
hearing_backs c n None name x s sound at joins = record { led = λ k h. h }
hearing_backs c n (Some e) name x s sound at joins =
    let f = having_heard x e in
    let t = handed_out name (with_endpoint name f s) in
    let p = backs_shrinks n s t sound (out_shrinks name f s) in
    let q = changed_backs n (change_of x e) name x.channel (hearing x e).answer t (out_sound name x e s at sound) (not_again c n name x e s joins at) in
    record { led = λ k h. p.led k (q.led k h) }

heard_by_backs : (c n : ℕ) (o : Option ℕ) (x : Framed) (s : State) → AreSound s → Joins c n s → Backs n s (heard_by o x s)
heard_by_backs c n None x s sound joins = let o = lookup (nat_eq x.channel) s.early in backs_shrinks n s (kept_at o x s) sound (kept_shrinks o x s refl)
heard_by_backs c n (Some name) x s sound joins = hearing_backs c n (endpoint_of name s) name x s sound refl joins

heard_joins : (c n : ℕ) (x : Framed) (s : State) → AreSound s → Joins c n s → Joins c n (heard x s)
heard_joins c n x s sound joins = let g = heard_fate n x s sound in joins_still c n g.0 s (heard x s) g.1 joins

heard_deaf : (c n : ℕ) (x : Framed) (s : State) → AreSound s → IsDeaf c n s → IsDeaf c n (heard x s)
heard_deaf c n x s sound deaf = let g = heard_fate n x s sound in deaf_still c n g.0 s (heard x s) g.1 (heard_by_backs c n (place_of x s) x s sound deaf.joins) deaf

-- ---- frames one after another

others_more : (xs ys : List Framed) → others (xs ++ ys) ≡ others xs ++ others ys
others_more xs ys = flat_map-append other_in xs ys

no_others : (xs ys : List Framed) → others xs ≡ [] → others ys ≡ [] → others (xs ++ ys) ≡ []
no_others xs ys p q = others_more xs ys ∙ (ap (λ zs. zs ++ others ys) p ∙ q)

deaf_all : (c n : ℕ) (xs : List Framed) (s : State) → AreSound s → IsDeaf c n s → others (hears_all xs s n) ≡ []
deaf_all c n [] s sound deaf = refl
deaf_all c n (x ∷ xs) s sound deaf =
    no_others (hears_by x s n) (hears_all xs (heard x s) n) (deaf_one c n x s sound deaf) (deaf_all c n xs (heard x s) (heard_sound x s sound) (heard_deaf c n x s sound deaf))

apart_all : (c k n : ℕ) (xs : List Framed) (s : State) → AreSound s → Joins c n s → AllOn k xs → (k ≡ c → ⊥) → others (hears_all xs s n) ≡ []
apart_all c k n [] s sound joins all apart = refl
apart_all c k n (x ∷ xs) s sound joins all apart =
    no_others (hears_by x s n) (hears_all xs (heard x s) n) (apart_one c k n x s sound joins all.0 apart) (apart_all c k n xs (heard x s) (heard_sound x s sound) (heard_joins c n x s sound joins) all.1 apart)

-- ---- a session is accepted meanwhile

module _ (c n name : ℕ) (x : SessionNumbers) (channel limit : ℕ) (incoming : IncomingSession) (s : State) (other : nat_eq n name ≡ false) where
  abbrev joined_state : State
  joined_state = joining name x channel limit incoming s

  stands_there : (e : EndpointState) → endpoint_of n joined_state ≡ Some e → endpoint_of n s ≡ Some e
  stands_there e at = sym (insert_other name n (idle (session.accepted (settings x limit) channel incoming)) s.endpoints other) ∙ at

  joining_joins : Joins c n s → Joins c n joined_state
  joining_joins joins = record { is = λ e at. joins.is e (stands_there e at) }

  joining_back : (k : ℕ) → lookup (nat_eq k) (insert_entry nat_eq s.remotes incoming.channel name) ≡ Some n → lookup (nat_eq k) s.remotes ≡ Some n
  joining_back k led = by (entry incoming.channel name k n s.remotes led).either
    where
      by : ((k ≡ incoming.channel) × (n ≡ name)) ⊎ (lookup (nat_eq k) s.remotes ≡ Some n) → lookup (nat_eq k) s.remotes ≡ Some n
      by (inl h) = let bad : true ≡ false = sym (eq-eqb n name h.1) ∙ other in cc
      by (inr h) = h

  joining_deaf : IsDeaf c n s → IsDeaf c n joined_state
  joining_deaf deaf = record { joins = joining_joins deaf.joins; lost = λ e at led. deaf.lost e (stands_there e at) (joining_back c led) }

  -- the channel is taken by the session that is accepted
  taken_deaf : incoming.channel ≡ c → Joins c n s → IsDeaf c n joined_state
  taken_deaf same joins =
      record {
        joins = joining_joins joins;
        lost = λ e at led.
            let found : Some name ≡ Some n = sym (insert_here incoming.channel name s.remotes) ∙ (ap (λ k. lookup (nat_eq k) (insert_entry nat_eq s.remotes incoming.channel name)) same ∙ led) in
            let equal : n ≡ name = sym (same_name found) in
            let bad : true ≡ false = sym (eq-eqb n name equal) ∙ other in
            cc;
      }
    where
      same_name : Some name ≡ Some n → name ≡ n
      same_name h = cc

  early_apart : (o : Option (List Framed)) → lookup (nat_eq incoming.channel) joined_state.early ≡ o → AreSound joined_state → Joins c n s → others (early_at o incoming.channel joined_state n) ≡ []
  early_apart None at sound joins = refl
  early_apart (Some xs) at sound joins = by (nat_eq incoming.channel c) refl
    where
      t : State
      t = record joined_state { early = swap_remove_entry (nat_eq incoming.channel) joined_state.early }

      by : (b : Bool) → nat_eq incoming.channel c ≡ b → others (early_at (Some xs) incoming.channel joined_state n) ≡ []
      by true h =
          let deaf = taken_deaf (eqb-true incoming.channel c h) joins in
          deaf_all c n xs (without_early incoming.channel joined_state) (early_removed incoming.channel joined_state sound) (record { joins = record { is = deaf.joins.is }; lost = deaf.lost })
      by false h =
          apart_all c incoming.channel n xs (without_early incoming.channel joined_state) (early_removed incoming.channel joined_state sound) (record { is = (joining_joins joins).is }) (sound.early incoming.channel xs at) (λ e. eqb-false incoming.channel c h e)

-- ---- a deed

accepts_none : (c n name : ℕ) (x : SessionNumbers) (channel limit : ℕ) (incoming : IncomingSession) (s : State) → nat_eq n name ≡ false → AreSound s → IsUnused name s → Joins c n s
    → others (heard_of (Accepts name x channel limit incoming) s n) ≡ []
accepts_none c n name x channel limit incoming s other sound unused joins =
    let u = joining name x channel limit incoming s in
    early_apart c n name x channel limit incoming s other (lookup (nat_eq incoming.channel) u.early) refl (joining_sound name x channel limit incoming s sound unused) joins

deed_fate : (n : ℕ) (d : Deed) (old new : State) → IsDeed old d new → AreSound old → IsOther n d → (a : Share) × Fate (endpoint_of n old) a (endpoint_of n new)
deed_fate n d old new h sound other = let g = one_session_lives d old new h sound.keyed in (share (came_of d old n) (own n g.wrote) (own n g.gave), g.each n other)

deed_joins : (c n : ℕ) (d : Deed) (old new : State) → IsDeed old d new → AreSound old → IsOther n d → Joins c n old → Joins c n new
deed_joins c n d old new h sound other joins = let g = deed_fate n d old new h sound other in joins_still c n g.0 old new g.1 joins

-- a session to which the channel leads no more hears nothing on it, and so it stays
record StaysDeaf (c n : ℕ) (d : Deed) (old new : State) : Type 0 where
  none : others (heard_of d old n) ≡ []
  deaf : IsDeaf c n new

plain_deaf : (c n : ℕ) (d : Deed) (old new : State) → IsDeed old d new → AreSound old → IsOther n d → IsPlain d → others (heard_of d old n) ≡ [] → IsDeaf c n old → StaysDeaf c n d old new
plain_deaf c n d old new h sound other plain quiet deaf =
    let g = deed_fate n d old new h sound other in
    record { none = quiet; deaf = deaf_still c n g.0 old new g.1 (backs_shrinks n old new sound (plain_shrinks d old new h plain)) deaf }

-- what is heard by a session that is accepted leaves the others as they are
all_deaf : (c n : ℕ) (xs : List Framed) (s : State) → AreSound s → IsDeaf c n s → IsDeaf c n (heard_all xs s)
all_deaf c n [] s sound deaf = deaf
all_deaf c n (x ∷ xs) s sound deaf = all_deaf c n xs (heard x s) (heard_sound x s sound) (heard_deaf c n x s sound deaf)

early_deaf : (c n : ℕ) (o : Option (List Framed)) (remote : ℕ) (s : State) → AreSound s → IsDeaf c n s → IsDeaf c n (heard_early_at o remote s)
early_deaf c n None remote s sound deaf = deaf
early_deaf c n (Some xs) remote s sound deaf =
    all_deaf c n xs (without_early remote s) (early_removed remote s sound) (record { joins = record { is = deaf.joins.is }; lost = deaf.lost })

deed_deaf : (c n : ℕ) (d : Deed) (old new : State) → IsDeed old d new → AreSound old → IsNewIn d old → IsOther n d → IsDeaf c n old → StaysDeaf c n d old new
deed_deaf c n (Begins name x channel limit) old new h sound unused other deaf =
    let g = deed_fate n (Begins name x channel limit) old new h sound other in
    record { none = refl; deaf = deaf_still c n g.0 old new g.1 (record { led = λ k led. sym (ap (λ s. lookup (nat_eq k) s.remotes) h) ∙ led }) deaf }
deed_deaf c n (Accepts name x channel limit incoming) old new h sound unused other deaf =
    let u = joining name x channel limit incoming old in
    record {
      none = accepts_none c n name x channel limit incoming old other sound unused deaf.joins;
      deaf =
          subst (IsDeaf c n) (sym h)
          (early_deaf c n (lookup (nat_eq incoming.channel) u.early) incoming.channel u (joining_sound name x channel limit incoming old sound unused) (joining_deaf c n name x channel limit incoming old other deaf));
    }
deed_deaf c n (Hears x) old new h sound unused other deaf = record { none = deaf_one c n x old sound deaf; deaf = subst (IsDeaf c n) (sym h) (heard_deaf c n x old sound deaf) }
deed_deaf c n (Awaits name x) old new h sound unused other deaf = plain_deaf c n (Awaits name x) old new h sound other tt refl deaf
deed_deaf c n (Refuses name why) old new h sound unused other deaf = plain_deaf c n (Refuses name why) old new h sound other tt refl deaf
deed_deaf c n (Ends name session condition) old new h sound unused other deaf = plain_deaf c n (Ends name session condition) old new h sound other tt refl deaf
deed_deaf c n (HandsOut name) old new h sound unused other deaf = plain_deaf c n (HandsOut name) old new h sound other tt refl deaf
deed_deaf c n (Halts why) old new h sound unused other deaf = plain_deaf c n (Halts why) old new h sound other tt refl deaf
deed_deaf c n (Concludes why) old new h sound unused other deaf = plain_deaf c n (Concludes why) old new h sound other tt refl deaf
deed_deaf c n (Writes x) old new h sound unused other deaf = plain_deaf c n (Writes x) old new h sound other tt refl deaf
deed_deaf c n (Frees channel) old new h sound unused other deaf = plain_deaf c n (Frees channel) old new h sound other tt refl deaf
deed_deaf c n (Gives session x) old new h sound unused other deaf = plain_deaf c n (Gives session x) old new h sound other tt refl deaf
deed_deaf c n (Takes session x) old new h sound unused other deaf = plain_deaf c n (Takes session x) old new h sound other tt refl deaf
deed_deaf c n (Lacks session) old new h sound unused other deaf = plain_deaf c n (Lacks session) old new h sound other tt refl deaf
deed_deaf c n Tells old new h sound unused other deaf = plain_deaf c n Tells old new h sound other tt refl deaf

-- while the channel leads to it, it hears what is read on that
led_deed : (c n : ℕ) (e : EndpointState) (d : Deed) (s : State) → AreSound s → IsNewIn d s → IsOther n d → Joins c n s → endpoint_of n s ≡ Some e → lookup (nat_eq c) s.remotes ≡ Some n
    → others (heard_of d s n) ≡ others (on c (read_of d))
led_deed c n e (Hears x) s sound unused other joins at led = led_one c n e x s sound at (joins.is e at) led
led_deed c n e (Accepts name x channel limit incoming) s sound unused other joins at led = accepts_none c n name x channel limit incoming s other sound unused joins
led_deed c n e (Begins name x channel limit) s sound unused other joins at led = refl
led_deed c n e (Awaits name x) s sound unused other joins at led = refl
led_deed c n e (Refuses name why) s sound unused other joins at led = refl
led_deed c n e (Ends name session condition) s sound unused other joins at led = refl
led_deed c n e (HandsOut name) s sound unused other joins at led = refl
led_deed c n e (Halts why) s sound unused other joins at led = refl
led_deed c n e (Concludes why) s sound unused other joins at led = refl
led_deed c n e (Writes x) s sound unused other joins at led = refl
led_deed c n e (Frees channel) s sound unused other joins at led = refl
led_deed c n e (Gives session x) s sound unused other joins at led = refl
led_deed c n e (Takes session x) s sound unused other joins at led = refl
led_deed c n e (Lacks session) s sound unused other joins at led = refl
led_deed c n e Tells s sound unused other joins at led = refl

-- ---- deeds one after another

deaf_run : (c n : ℕ) (ds : List Deed) (old new : State) (did : Did old ds new) → AreSound old → AreNewIn old ds new did → AreOther n ds → IsDeaf c n old → others (came_in old ds new did n).heard ≡ []
deaf_run c n [] old new did sound unused other deaf = refl
deaf_run c n (d ∷ ds) old new did sound unused other deaf =
    let mid = did.0 in
    let p = deed_deaf c n d old mid did.1.0 sound unused.0 other.0 deaf in
    no_others (heard_of d old n) (came_in mid ds new did.1.1 n).heard p.none (deaf_run c n ds mid new did.1.1 (one_sound d old mid did.1.0 unused.0 sound) unused.1 other.1 p.deaf)

all_later : (xs ys : List Framed) → xs ≡ [] → AreFirst xs ys
all_later xs ys e = record { later = ys; all = ap (λ zs. zs ++ ys) e }

on_more : (c : ℕ) (xs ys : List Framed) → others (on c (xs ++ ys)) ≡ others (on c xs) ++ others (on c ys)
on_more c xs ys = ap others (flat_map-append (on_if c) xs ys) ∙ others_more (on c xs) (on c ys)

first_then : (c : ℕ) (h r read more : List Framed) → others h ≡ others (on c read) → AreFirst (others r) (others (on c more)) → AreFirst (others (h ++ r)) (others (on c (read ++ more)))
first_then c h r read more e p =
    record {
      later = p.later;
      all =
          ap (λ xs. xs ++ p.later) (others_more h r)
          ∙ (append_assoc (others h) (others r) p.later
          ∙ (ap (λ xs. others h ++ xs) p.all ∙ (ap (λ xs. xs ++ others (on c more)) e ∙ sym (on_more c read more))));
    }

front_run : (c n : ℕ) (ds : List Deed) (old new : State) (did : Did old ds new) → AreSound old → AreNewIn old ds new did → AreOther n ds → Joins c n old
    → AreFirst (others (came_in old ds new did n).heard) (others (on c (read_in ds)))
front_run c n [] old new did sound unused other joins = record { later = []; all = refl }
front_run c n (d ∷ ds) old new did sound unused other joins =
    let mid = did.0 in
    by (endpoint_of n old) (lookup (nat_eq c) old.remotes) refl refl
    (front_run c n ds mid new did.1.1 (one_sound d old mid did.1.0 unused.0 sound) unused.1 other.1 (deed_joins c n d old mid did.1.0 sound other.0 joins))
  where
    lost : IsDeaf c n old → AreFirst (others (came_in old (d ∷ ds) new did n).heard) (others (on c (read_in (d ∷ ds))))
    lost deaf = all_later (others (came_in old (d ∷ ds) new did n).heard) (others (on c (read_in (d ∷ ds)))) (deaf_run c n (d ∷ ds) old new did sound unused other deaf)

    same_name : (m : ℕ) → Some m ≡ Some n → m ≡ n
    same_name m h = cc

    led_by : (m : ℕ) (b : Bool) → nat_eq n m ≡ b → (e : EndpointState) → endpoint_of n old ≡ Some e → lookup (nat_eq c) old.remotes ≡ Some m
        → AreFirst (others (came_in did.0 ds new did.1.1 n).heard) (others (on c (read_in ds))) → AreFirst (others (came_in old (d ∷ ds) new did n).heard) (others (on c (read_in (d ∷ ds))))
    led_by m true same e at led rest =
        first_then c (heard_of d old n) (came_in did.0 ds new did.1.1 n).heard (read_of d) (read_in ds) (led_deed c n e d old sound unused.0 other.0 joins at (led ∙ ap Some (sym (eqb-true n m same)))) rest
    led_by m false apart e at led rest = lost (record { joins = joins; lost = λ f there found. eqb-false n m apart (sym (same_name m (sym led ∙ found))) })

    by : (o : Option EndpointState) (p : Option ℕ) → endpoint_of n old ≡ o → lookup (nat_eq c) old.remotes ≡ p → AreFirst (others (came_in did.0 ds new did.1.1 n).heard) (others (on c (read_in ds)))
        → AreFirst (others (came_in old (d ∷ ds) new did n).heard) (others (on c (read_in (d ∷ ds))))
    by None p at led rest = lost (record { joins = joins; lost = λ f there found. let bad : None ≡ Some f = sym at ∙ there in cc })
    by (Some e) None at led rest = lost (record { joins = joins; lost = λ f there found. let bad : None ≡ Some n = sym led ∙ found in cc })
    by (Some e) (Some m) at led rest = led_by m (nat_eq n m) refl e at led rest

pub hears_the_first : HearsTheFirst
hears_the_first c n e ds old new did sound unused other at is = front_run c n ds old new did sound unused other (record { is = λ f there. subst (λ g. IsJoined c g.session) (same f (sym at ∙ there)) is })
  where
    same : (f : EndpointState) → Some e ≡ Some f → e ≡ f
    same f h = cc
