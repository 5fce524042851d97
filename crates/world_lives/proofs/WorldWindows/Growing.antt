-- Whatever the sessions of an end do, each was made, and writes what it may.
use Rattle.std.specs.Prelude.{◌≡◌, ℕ, nat_eq, Bool, true, false, List, [], ◌∷◌, ◌++◌, Some, refl}
use Rattle.std.proofs.Common.{inl, inr, sym, ◌∙◌, ap, subst, append_assoc}
use Rattle.std.proofs.lemmas.Bool.{eqb-true}
use Rattle.std.proofs.lemmas.List.{append-nil}
use Rattle.std.specs.Map.{lookup, values_of}
use Rattle.indexmap.specs.IndexMap.{insert_entry}
use Rattle.amqp_calls.specs.declared.call.SessionNumbers.{SessionNumbers}
use Rattle.amqp_frames.specs.declared.shared.IncomingSession.{IncomingSession}
use Rattle.amqp_session.specs.declared.session.LinkInput.{LinkInput}
use Rattle.amqp_session.specs.Begin as session
use Rattle.amqp_session.specs.State.{State as Session, Framed}
use Rattle.amqp_sessions.specs.Parts.{EndpointState, idle}
use Rattle.amqp_sessions.specs.Calls.{settings, entered, begun, accepted}
use Rattle.amqp_sessions.specs.State.{State, none_begun, endpoint_of}
use Rattle.session_laws.specs.Settling.{IsAmong}
use Rattle.session_laws.specs.Speaking.{AreAmong}
use Rattle.session_lives.specs.Deeds.{Deed, Begins, Awaits, Accepts, Refuses, Ends, HandsOut, Halts, Concludes, Hears, Writes, Frees, Gives, Takes, Lacks, Tells, IsDeed, Did, wrote_of, wrote_in, hears_early, joining, came_of, IsOther}
use Rattle.session_lives.specs.Logs.{AreKeyed, own, Came, share, Fate}
use Rattle.session_lives.proofs.Tables.{insert_other, insert_here, insert_keyed}
use Rattle.session_lives.proofs.Hearing.{hears_only, heard_early_goes}
use Rattle.session_lives.proofs.Deeds.{one_session_lives, none_is_keyed}
use Rattle.session_lives.proofs.Sound.{Any}
use Rattle.window_laws.specs.Starting as starting
use Rattle.window_laws.specs.Starting.{Start, session_of}
use Rattle.world_lives.specs.WorldWindows.Making.{Made, made_as, made_of, made_in, IsOne, EachIsMade, AreOf, EachIsOfOne}
use Rattle.world_lives.proofs.WorldWindows.Making.{of_both, of_first, of_last, Fated, fated, of_log}

-- ---- some of a list

all_of : {X : Type 0} → (xs ys : List X) → ((x : X) → IsAmong x xs → IsAmong x ys) → AreAmong xs ys
all_of [] ys f = tt
all_of (x ∷ xs) ys f = (f x (inl refl), all_of xs ys (λ y a. f y (inr a)))

among_first : {X : Type 0} → (xs ys zs : List X) → AreAmong (xs ++ ys) zs → AreAmong xs zs
among_first [] ys zs h = tt
among_first (x ∷ xs) ys zs h = (h.0, among_first xs ys zs h.1)

among_rest : {X : Type 0} → (xs ys zs : List X) → AreAmong (xs ++ ys) zs → AreAmong ys zs
among_rest [] ys zs h = h
among_rest (x ∷ xs) ys zs h = among_rest xs ys zs h.1

module _ (made : List Made) where
  -- each session that stands was made
  abbrev pub Standing : State → Type 0
  Standing s = (n : ℕ) (e : EndpointState) → endpoint_of n s ≡ Some e → IsOne made n e.session

  -- ---- a session is made

  new_one : (name : ℕ) (u : Start) → IsAmong (made_as name u) made → IsOne made name (session_of u)
  new_one name u a = record { start = u; among = a; moves = []; behind = refl }

  same_there : (f g : EndpointState) → Some f ≡ Some g → f ≡ g
  same_there f g h = cc

  entered_stands : (name channel : ℕ) (a : Session) (s : State) → IsOne made name a → Standing s → Standing (entered name channel a s)
  entered_stands name channel a s new old n f at = by (nat_eq n name) refl
    where
      here : n ≡ name → idle a ≡ f
      here e = same_there (idle a) f (sym (insert_here name (idle a) s.endpoints) ∙ (ap (λ m. lookup (nat_eq m) (insert_entry nat_eq s.endpoints name (idle a))) (sym e) ∙ at))

      by : (t : Bool) → nat_eq n name ≡ t → IsOne made n f.session
      by true e =
          let same = eqb-true n name e in
          subst (λ (m : ℕ). IsOne made m f.session) (sym same) (subst (λ (g : EndpointState). IsOne made name g.session) (here same) new)
      by false e = old n f (sym (insert_other name n (idle a) s.endpoints e) ∙ at)

  -- ---- a deed

  -- what it makes of the sessions
  record Grows (d : Deed) (old new : State) : Type 0 where
    log : List (ℕ × Framed)
    output : wrote_of d ++ new.output ≡ old.output ++ values_of log
    keyed : AreKeyed new
    wrote : AreOf made (values_of log)
    standing : Standing new

  -- from where those that it makes stand
  grows : (d : Deed) (old mid new : State) (came : ℕ → Came) (log : List (ℕ × Framed)) (gave : List (ℕ × LinkInput)) → wrote_of d ++ new.output ≡ old.output ++ values_of log → AreKeyed new → Standing mid
      → ((n : ℕ) → Fate (endpoint_of n mid) (share (came n) (own n log) (own n gave)) (endpoint_of n new)) → Grows d old new
  grows d old mid new came log gave output keyed stands each =
      let f : (n : ℕ) → Fated made n (share (came n) (own n log) (own n gave)) (endpoint_of n new) = λ n. fated made n (share (came n) (own n log) (own n gave)) (endpoint_of n mid) (endpoint_of n new) (stands n) (each n) in
      record { log = log; output = output; keyed = keyed; wrote = of_log made log (λ n. let k = f n in k.wrote); standing = λ n e at. let k = f n in k.one e at }

  plain_grows : (d : Deed) (old new : State) → IsDeed old d new → ((n : ℕ) → IsOther n d) → AreKeyed old → Standing old → Grows d old new
  plain_grows d old new h other keyed stands =
      let g = one_session_lives d old new h keyed in
      grows d old old new (came_of d old) g.wrote g.gave g.output g.keyed stands (λ n. g.each n (other n))

  begun_grows : (name : ℕ) (x : SessionNumbers) (channel limit : ℕ) (old : State) → AreKeyed old → Standing old → IsAmong (made_as name (starting.begins (settings x limit) channel)) made
      → Grows (Begins name x channel limit) old (begun name x channel limit old)
  begun_grows name x channel limit old keyed stands a =
      let new = begun name x channel limit old in
      record {
        log = [];
        output = sym (append-nil old.output);
        keyed = (one_session_lives (Begins name x channel limit) old new refl keyed).keyed;
        wrote = tt;
        standing = entered_stands name channel (session.begun (settings x limit) channel) old (new_one name (starting.begins (settings x limit) channel) a) stands;
      }

  accepted_grows : (name : ℕ) (x : SessionNumbers) (channel limit : ℕ) (incoming : IncomingSession) (old : State) → AreKeyed old → Standing old
      → IsAmong (made_as name (starting.answers (settings x limit) channel incoming)) made → Grows (Accepts name x channel limit incoming) old (accepted name x channel limit incoming old)
  accepted_grows name x channel limit incoming old keyed stands a =
      let s = session.accepted (settings x limit) channel incoming in
      let mid = joining name x channel limit incoming old in
      let g = heard_early_goes Any incoming.channel mid (insert_keyed name (idle s) old.endpoints keyed) in
      grows (Accepts name x channel limit incoming) old mid (accepted name x channel limit incoming old) (λ n. hears_only (hears_early incoming.channel mid n)) g.wrote g.gave g.output g.keyed
      (entered_stands name channel s old (new_one name (starting.answers (settings x limit) channel incoming) a) stands) (λ n. g.each n tt)

  deed_grows : (d : Deed) (old new : State) → IsDeed old d new → AreAmong (made_of d) made → AreKeyed old → Standing old → Grows d old new
  deed_grows (Begins name x channel limit) old new h a keyed stands = subst (λ (s : State). Grows (Begins name x channel limit) old s) (sym h) (begun_grows name x channel limit old keyed stands a.0)
  deed_grows (Accepts name x channel limit incoming) old new h a keyed stands =
      subst (λ (s : State). Grows (Accepts name x channel limit incoming) old s) (sym h) (accepted_grows name x channel limit incoming old keyed stands a.0)
  deed_grows (Awaits name x) old new h a keyed stands = plain_grows (Awaits name x) old new h (λ n. tt) keyed stands
  deed_grows (Refuses name why) old new h a keyed stands = plain_grows (Refuses name why) old new h (λ n. tt) keyed stands
  deed_grows (Ends name session condition) old new h a keyed stands = plain_grows (Ends name session condition) old new h (λ n. tt) keyed stands
  deed_grows (HandsOut name) old new h a keyed stands = plain_grows (HandsOut name) old new h (λ n. tt) keyed stands
  deed_grows (Halts why) old new h a keyed stands = plain_grows (Halts why) old new h (λ n. tt) keyed stands
  deed_grows (Concludes why) old new h a keyed stands = plain_grows (Concludes why) old new h (λ n. tt) keyed stands
  deed_grows (Hears x) old new h a keyed stands = plain_grows (Hears x) old new h (λ n. tt) keyed stands
  deed_grows (Writes x) old new h a keyed stands = plain_grows (Writes x) old new h (λ n. tt) keyed stands
  deed_grows (Frees channel) old new h a keyed stands = plain_grows (Frees channel) old new h (λ n. tt) keyed stands
  deed_grows (Gives session x) old new h a keyed stands = plain_grows (Gives session x) old new h (λ n. tt) keyed stands
  deed_grows (Takes session x) old new h a keyed stands = plain_grows (Takes session x) old new h (λ n. tt) keyed stands
  deed_grows (Lacks session) old new h a keyed stands = plain_grows (Lacks session) old new h (λ n. tt) keyed stands
  deed_grows Tells old new h a keyed stands = plain_grows Tells old new h (λ n. tt) keyed stands

  -- ---- deeds one after another

  record AllGrow (ds : List Deed) (new : State) : Type 0 where
    wrote : AreOf made (wrote_in ds ++ new.output)
    standing : Standing new

  all_grow : (ds : List Deed) (old new : State) (did : Did old ds new) → AreAmong (made_in ds) made → AreKeyed old → Standing old → AreOf made old.output → AllGrow ds new
  all_grow [] old new did a keyed stands out = record { wrote = subst (λ (s : State). AreOf made s.output) (sym did) out; standing = subst (λ (s : State). Standing s) (sym did) stands }
  all_grow (d ∷ ds) old new did a keyed stands out =
      let mid = did.0 in
      let g = deed_grows d old mid did.1.0 (among_first (made_of d) (made_in ds) made a) keyed stands in
      let all : AreOf made (wrote_of d ++ mid.output) = subst (λ (xs : List Framed). AreOf made xs) (sym g.output) (of_both made old.output (values_of g.log) out g.wrote) in
      let r = all_grow ds mid new did.1.1 (among_rest (made_of d) (made_in ds) made a) g.keyed g.standing (of_last made (wrote_of d) mid.output all) in
      record {
        wrote = subst (λ (xs : List Framed). AreOf made xs) (sym (append_assoc (wrote_of d) (wrote_in ds) new.output)) (of_both made (wrote_of d) (wrote_in ds ++ new.output) (of_first made (wrote_of d) mid.output all) r.wrote);
        standing = r.standing;
      }

from_start : (ds : List Deed) (new : State) (did : Did none_begun ds new) → AllGrow (made_in ds) ds new
from_start ds new did =
    let made = made_in ds in
    all_grow made ds none_begun new did (all_of made made (λ x a. a)) none_is_keyed (λ n e at. absurd cc) tt

pub each_is_made : EachIsMade
each_is_made ds new did n e at = (from_start ds new did).standing n e at

pub each_is_of_one : EachIsOfOne
each_is_of_one ds new did = (from_start ds new did).wrote
