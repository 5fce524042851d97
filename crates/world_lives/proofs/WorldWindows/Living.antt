-- The whole life of a session.
use Rattle.std.specs.Prelude.{◌≡◌, ℕ, List, [], ◌∷◌, ◌++◌, All, Option, Some, None, refl}
use Rattle.std.proofs.Common.{sym, ◌∙◌, ap, subst, append_assoc}
use Rattle.std.proofs.lemmas.Grind.{flat_map-append}
use Rattle.std.proofs.lemmas.List.{append-nil, map-append}
use Rattle.std.specs.Map.{values_of}
use Rattle.amqp_calls.specs.declared.call.SessionNumbers.{SessionNumbers}
use Rattle.amqp_frames.specs.declared.shared.IncomingSession.{IncomingSession}
use Rattle.amqp_parts.specs.declared.part.Part.{Part}
use Rattle.amqp_session.specs.declared.session.LinkInput.{LinkInput}
use Rattle.amqp_session.specs.State.{State as Session, Framed}
use Rattle.amqp_sessions.specs.Calls.{settings, begun, accepted}
use Rattle.amqp_sessions.specs.Parts.{EndpointState, idle}
use Rattle.amqp_sessions.specs.State.{State, endpoint_of}
use Rattle.session_laws.specs.Holding.{Move, after_all, handed_all, transfers}
use Rattle.session_laws.specs.Messages.{transfer_in}
use Rattle.session_lives.specs.Deeds.{Deed, Begins, Awaits, Accepts, Refuses, Ends, HandsOut, Halts, Concludes, Hears, Writes, Frees, Gives, Takes, Lacks, Tells, IsDeed, wrote_of, wrote_in, joining, came_of, came_in}
use Rattle.session_lives.specs.Laws.{IsBehind}
use Rattle.session_lives.specs.Lives.{moves, Share, both, Lives}
use Rattle.session_lives.specs.Logs.{AreKeyed, own, share, Fate}
use Rattle.session_lives.proofs.Tables.{insert_here, insert_keyed}
use Rattle.session_lives.proofs.Lives.{fate_still, fate_then, fate_as}
use Rattle.session_lives.proofs.Going.{join, own_more}
use Rattle.session_lives.proofs.Hearing.{heard_early_goes}
use Rattle.session_lives.proofs.Deeds.{one_session_lives, sessions_live}
use Rattle.session_lives.proofs.Sound.{Any}
use Rattle.window_laws.specs.Announcing.{Announces}
use Rattle.window_laws.specs.Starting as starting
use Rattle.window_laws.specs.Starting.{Start, session_of, writes, window}
use Rattle.window_laws.proofs.Announces.{announces_its_window}
use Rattle.window_laws.proofs.Keeps.{waits_for_the_begin}
use Rattle.window_laws.proofs.Orders.{order_first, Each, each_all, all_each}
use Rattle.world_lives.specs.WorldWindows.Making.{Made, made_as, made_of}
use Rattle.world_lives.specs.WorldWindows.Living.{OneLivesFromItsBegin}

-- ---- the deed that makes it

-- what becomes of the session as it is made
record IsBorn (n : ℕ) (u : Start) (d : Deed) (old new : State) : Type 0 where
  log : List (ℕ × Framed)
  gave : List (ℕ × LinkInput)
  output : wrote_of d ++ new.output ≡ old.output ++ values_of log
  keyed : AreKeyed new
  fate : Fate (Some (idle (session_of u))) (share (came_of d old n) (own n log) (own n gave)) (endpoint_of n new)

begun_born : (name : ℕ) (x : SessionNumbers) (channel limit : ℕ) (old : State) → AreKeyed old → IsBorn name (starting.begins (settings x limit) channel) (Begins name x channel limit) old (begun name x channel limit old)
begun_born name x channel limit old keyed =
    let d = Begins name x channel limit in
    let new = begun name x channel limit old in
    let s = session_of (starting.begins (settings x limit) channel) in
    let at : endpoint_of name new ≡ Some (idle s) = insert_here name (idle s) old.endpoints in
    record {
      log = [];
      gave = [];
      output = sym (append-nil old.output);
      keyed = (one_session_lives d old new refl keyed).keyed;
      fate = subst (λ (o : Option EndpointState). Fate (Some (idle s)) (share (came_of d old name) [] []) o) (sym at) (fate_still (Some (idle s)));
    }

accepted_born : (name : ℕ) (x : SessionNumbers) (channel limit : ℕ) (incoming : IncomingSession) (old : State) → AreKeyed old
    → IsBorn name (starting.answers (settings x limit) channel incoming) (Accepts name x channel limit incoming) old (accepted name x channel limit incoming old)
accepted_born name x channel limit incoming old keyed =
    let d = Accepts name x channel limit incoming in
    let new = accepted name x channel limit incoming old in
    let s = session_of (starting.answers (settings x limit) channel incoming) in
    let mid = joining name x channel limit incoming old in
    let g = heard_early_goes Any incoming.channel mid (insert_keyed name (idle s) old.endpoints keyed) in
    let at : endpoint_of name mid ≡ Some (idle s) = insert_here name (idle s) old.endpoints in
    record {
      log = g.wrote;
      gave = g.gave;
      output = g.output;
      keyed = g.keyed;
      fate = subst (λ (o : Option EndpointState). Fate o (share (came_of d old name) (own name g.wrote) (own name g.gave)) (endpoint_of name new)) at (g.each name tt);
    }

one_made : (n m : ℕ) (u v : Start) → made_as m v ∷ [] ≡ made_as n u ∷ [] → made_as m v ≡ made_as n u
one_made n m u v e = cc

same_made : (n m : ℕ) (u v : Start) → made_as m v ∷ [] ≡ made_as n u ∷ [] → (P : ℕ → Start → Type 0) → P m v → P n u
same_made n m u v e P h = subst (λ (z : Made). P z.name z.start) (one_made n m u v e) h

is_born : (n : ℕ) (u : Start) (d : Deed) (old new : State) → IsDeed old d new → AreKeyed old → made_of d ≡ made_as n u ∷ [] → IsBorn n u d old new
is_born n u (Begins name x channel limit) old new h keyed e =
    let d = Begins name x channel limit in
    same_made n name u (starting.begins (settings x limit) channel) e (λ m v. IsBorn m v d old new) (subst (λ (s : State). IsBorn name (starting.begins (settings x limit) channel) d old s) (sym h) (begun_born name x channel limit old keyed))
is_born n u (Accepts name x channel limit incoming) old new h keyed e =
    let d = Accepts name x channel limit incoming in
    same_made n name u (starting.answers (settings x limit) channel incoming) e (λ m v. IsBorn m v d old new)
    (subst (λ (s : State). IsBorn name (starting.answers (settings x limit) channel incoming) d old s) (sym h) (accepted_born name x channel limit incoming old keyed))
is_born n u (Awaits name x) old new h keyed e = absurd cc
is_born n u (Refuses name why) old new h keyed e = absurd cc
is_born n u (Ends name session condition) old new h keyed e = absurd cc
is_born n u (HandsOut name) old new h keyed e = absurd cc
is_born n u (Halts why) old new h keyed e = absurd cc
is_born n u (Concludes why) old new h keyed e = absurd cc
is_born n u (Hears x) old new h keyed e = absurd cc
is_born n u (Writes x) old new h keyed e = absurd cc
is_born n u (Frees channel) old new h keyed e = absurd cc
is_born n u (Gives session x) old new h keyed e = absurd cc
is_born n u (Takes session x) old new h keyed e = absurd cc
is_born n u (Lacks session) old new h keyed e = absurd cc
is_born n u Tells old new h keyed e = absurd cc

-- ---- from then on

-- a session that stood has gone through steps
record Went (s : Session) (a : Share) (o : Option EndpointState) : Type 0 where
  after : Session
  lives : Lives s a after
  behind : IsBehind after o

went : (s : Session) (a : Share) (o : Option EndpointState) → Fate (Some (idle s)) a o → Went s a o
went s a None f = record { after = f.0; lives = f.1; behind = tt }
went s a (Some e) f = record { after = e.session; lives = f; behind = refl }

-- what went, and what is to go
both_go : {X : Type 0} (gone more new mid old xs ys : List X) → gone ++ mid ≡ old ++ xs → more ++ new ≡ mid ++ ys → (gone ++ more) ++ new ≡ old ++ (xs ++ ys)
both_go gone more new mid old xs ys p q =
    append_assoc gone more new ∙ (ap (λ zs. gone ++ zs) q ∙ (sym (append_assoc gone mid ys) ∙ (ap (λ zs. zs ++ ys) p ∙ append_assoc old xs ys)))

-- what it has given names its window
gives_announced : (u : Start) (js : List Move) → All (λ (x : Framed). Announces (window u) x.body) (handed_all (session_of u) js)
gives_announced u js =
    let P = Announces (window u) in
    let gave = handed_all (session_of u) js in
    each_all P 0 gave (order_first (Each P) 0 gave (after_all (session_of u) js).output (all_each P 0 (writes u js) (announces_its_window u js).announced))

none_first : (xs ys : List Part) → xs ++ ys ≡ [] → xs ≡ []
none_first [] ys e = refl
none_first (x ∷ xs) ys e = absurd cc

pub one_lives_from_its_begin : OneLivesFromItsBegin
one_lives_from_its_begin n u d ds old new did keyed makes other =
    let mid = did.0 in
    let p = is_born n u d old mid did.1.0 keyed makes in
    let q = sessions_live ds mid new did.1.1 p.keyed in
    let c = came_of d old n in
    let r = came_in mid ds new did.1.1 n in
    let a = share c (own n p.log) (own n p.gave) in
    let z = share r (own n q.wrote) (own n q.gave) in
    let w : own n p.log ++ own n q.wrote ≡ own n (p.log ++ q.wrote) = sym (own_more n p.log q.wrote) in
    let g : own n p.gave ++ own n q.gave ≡ own n (p.gave ++ q.gave) = sym (own_more n p.gave q.gave) in
    let all = share (join c r) (own n (p.log ++ q.wrote)) (own n (p.gave ++ q.gave)) in
    let f : Fate (Some (idle (session_of u))) all (endpoint_of n new) =
    fate_as (Some (idle (session_of u))) (endpoint_of n new) (both a z) all (λ j. share (join c r) (w j) (g j))
    (fate_then (Some (idle (session_of u))) (endpoint_of n mid) (endpoint_of n new) a z p.fate (q.each n other)) in
    let k = went (session_of u) all (endpoint_of n new) f in
    let l = k.lives in
    let js = moves l.steps in
    let wrote : own n (p.log ++ q.wrote) ≡ handed_all (session_of u) js = ap (λ (s : Share). s.wrote) l.share in
    record {
      steps = l.steps;
      behind = subst (λ (s : Session). IsBehind s (endpoint_of n new)) l.behind k.behind;
      hears = sym (ap (λ (s : Share). s.heard) l.share);
      takes = sym (ap (λ (s : Share). s.told) l.share);
      log = p.log ++ q.wrote;
      output =
          both_go (wrote_of d) (wrote_in ds) new.output mid.output old.output (values_of p.log) (values_of q.wrote) p.output q.output
          ∙ ap (λ xs. old.output ++ xs) (sym (map-append (λ (x : ℕ × Framed). x.1) p.log q.wrote));
      writes = wrote;
      announces = subst (λ (xs : List Framed). All (λ (x : Framed). Announces (window u) x.body) xs) (sym wrote) (gives_announced u js);
      waits = λ none.
          ap transfers wrote
          ∙ none_first (transfers (handed_all (session_of u) js)) (transfers (after_all (session_of u) js).output)
          (sym (flat_map-append (λ (x : Framed). transfer_in x.body) (handed_all (session_of u) js) (after_all (session_of u) js).output) ∙ waits_for_the_begin u js none);
    }
