-- Whatever the sessions of an end do, each goes on.
use Rattle.std.specs.Prelude.{◌≡◌, ℕ, nat_eq, false, List, [], ◌∷◌, ◌++◌, refl}
use Rattle.std.proofs.Common.{sym, ◌∙◌, ap, subst, append_assoc}
use Rattle.std.proofs.lemmas.List.{append-nil, map-append}
use Rattle.std.specs.List.{IsDistinct}
use Rattle.std.specs.Map.{values_of, lookup}
use Rattle.amqp_session.specs.State.{Framed}
use Rattle.amqp_sessions.specs.Calls.{awaiting}
use Rattle.amqp_sessions.specs.Frames.{refused}
use Rattle.amqp_sessions.specs.State.{State, endpoint_of}
use Rattle.session_lives.specs.Lives.{nothing, both}
use Rattle.session_lives.specs.Logs.{AreKeyed, own, share, Goes}
use Rattle.session_lives.specs.Deeds.{Deed, Begins, Awaits, Accepts, Refuses, Ends, HandsOut, Halts, Concludes, Hears, Writes, Frees, Gives, Takes, Lacks, Tells, wrote_of, wrote_in, gave_of, gave_in, came_of, came_in, IsOther}
use Rattle.session_lives.specs.Laws.{DeedLives, OneSessionLives, SessionsLive, NoneIsKeyed}
use Rattle.session_lives.proofs.Lives.{fate_then, fate_as}
use Rattle.session_lives.proofs.Tables.{IsKeyed}
use Rattle.session_lives.proofs.Going.{join, own_more, fate_kept, goes_same}
use Rattle.session_lives.proofs.Hearing.{handed_goes, heard_goes, written_goes, refusing_goes}
use Rattle.session_lives.proofs.Calling.{begun_goes, accepted_goes, ended_goes, halted_goes, concluded_goes}

-- a deed by which nothing goes out of all of them
quiet : (d : Deed) (P : ℕ → Type 0) (old t new : State) → wrote_of d ≡ [] → gave_of d ≡ [] → ((n : ℕ) → IsOther n d → P n) → new ≡ t → Goes P (came_of d old) old t → DeedLives d old new
quiet d P old t new w g among e p =
    let q : Goes P (came_of d old) old new = subst (λ s. Goes P (came_of d old) old s) (sym e) p in
    record {
      wrote = q.wrote;
      gave = q.gave;
      output = ap (λ xs. xs ++ new.output) w ∙ q.output;
      incoming = ap (λ xs. xs ++ new.incoming) g ∙ q.incoming;
      keyed = q.keyed;
      each = λ n other. q.each n (among n other);
    }

-- all sessions
abbrev Any : ℕ → Type 0
Any n = Unit {0}

-- a deed by which the table stays, where the first of what is there goes
stays : (d : Deed) (old new : State) → AreKeyed old → new.endpoints ≡ old.endpoints → wrote_of d ++ new.output ≡ old.output → gave_of d ++ new.incoming ≡ old.incoming → ((n : ℕ) → share (came_of d old n) [] [] ≡ nothing) → DeedLives d old new
stays d old new k es o i c =
    record {
      wrote = [];
      gave = [];
      output = o ∙ sym (append-nil old.output);
      incoming = i ∙ sym (append-nil old.incoming);
      keyed = subst IsKeyed (sym es) k;
      each = λ n other. fate_kept (endpoint_of n old) (endpoint_of n new) (share (came_of d old n) [] []) (ap (lookup (nat_eq n)) es) (c n);
    }

pub one_session_lives : OneSessionLives
one_session_lives (Begins name x channel limit) old new h k = quiet (Begins name x channel limit) (λ n. nat_eq n name ≡ false) old _ new refl refl (λ n other. other) h (begun_goes name x channel limit old k)
one_session_lives (Awaits name x) old new h k = quiet (Awaits name x) Any old (awaiting name x old) new refl refl (λ n other. tt) h (goes_same Any old (awaiting name x old) k refl refl refl)
one_session_lives (Accepts name x channel limit incoming) old new h k =
    quiet (Accepts name x channel limit incoming) (λ n. nat_eq n name ≡ false) old _ new refl refl (λ n other. other) h (accepted_goes name x channel limit incoming old k)
one_session_lives (Refuses name why) old new h k = quiet (Refuses name why) Any old (refused name why old) new refl refl (λ n other. tt) h (goes_same Any old (refused name why old) k refl refl refl)
one_session_lives (Ends name session condition) old new h k = quiet (Ends name session condition) Any old _ new refl refl (λ n other. tt) h (ended_goes Any name session condition old k)
one_session_lives (HandsOut name) old new h k = quiet (HandsOut name) Any old _ new refl refl (λ n other. tt) h (handed_goes Any name old k)
one_session_lives (Halts why) old new h k = quiet (Halts why) Any old _ new refl refl (λ n other. tt) h (halted_goes Any why old k)
one_session_lives (Concludes why) old new h k = quiet (Concludes why) Any old _ new refl refl (λ n other. tt) h (concluded_goes Any why old k)
one_session_lives (Hears x) old new h k = quiet (Hears x) Any old _ new refl refl (λ n other. tt) h (heard_goes Any x old k)
one_session_lives (Writes x) old new h k =
    stays (Writes x) old new k (ap (λ s. s.endpoints) h.1) (sym h.0) (ap (λ s. s.incoming) h.1) (λ n. refl)
one_session_lives (Frees channel) old new h k =
    stays (Frees channel) old new k (ap (λ s. s.endpoints) h.1) (ap (λ s. s.output) h.1) (ap (λ s. s.incoming) h.1) (λ n. refl)
one_session_lives (Gives session x) old new h k =
    stays (Gives session x) old new k (ap (λ s. s.endpoints) h.1) (ap (λ s. s.output) h.1) (sym h.0) (λ n. refl)
one_session_lives (Takes session x) old new h k = quiet (Takes session x) Any old _ new refl refl (λ n other. tt) h (written_goes Any session x old k)
one_session_lives (Lacks session) old new h k = quiet (Lacks session) Any old _ new refl refl (λ n other. tt) h (refusing_goes Any session old k)
one_session_lives Tells old new h k =
    stays Tells old new k (ap (λ s. s.endpoints) h) (ap (λ s. s.output) h) (ap (λ s. s.incoming) h) (λ n. refl)

-- ---- deeds one after another

-- what went, and what is to go
both_go : {X : Type 0} (gone more new mid old xs ys : List X) → gone ++ mid ≡ old ++ xs → more ++ new ≡ mid ++ ys → (gone ++ more) ++ new ≡ old ++ (xs ++ ys)
both_go gone more new mid old xs ys p q =
    append_assoc gone more new ∙ (ap (λ zs. gone ++ zs) q ∙ (sym (append_assoc gone mid ys) ∙ (ap (λ zs. zs ++ ys) p ∙ append_assoc old xs ys)))

pub sessions_live : SessionsLive
sessions_live [] old new did k =
    record {
      wrote = [];
      gave = [];
      output = ap (λ s. s.output) did ∙ sym (append-nil old.output);
      incoming = ap (λ s. s.incoming) did ∙ sym (append-nil old.incoming);
      keyed = subst AreKeyed (sym did) k;
      each = λ n other. fate_kept (endpoint_of n old) (endpoint_of n new) nothing (ap (endpoint_of n) did) refl;
    }
sessions_live (d ∷ ds) old new did k =
    let mid = did.0 in
    let p = one_session_lives d old mid did.1.0 k in
    let q = sessions_live ds mid new did.1.1 p.keyed in
    record {
      wrote = p.wrote ++ q.wrote;
      gave = p.gave ++ q.gave;
      output =
          both_go (wrote_of d) (wrote_in ds) new.output mid.output old.output (values_of p.wrote) (values_of q.wrote) p.output q.output
          ∙ ap (λ xs. old.output ++ xs) (sym (map-append (λ (x : ℕ × Framed). x.1) p.wrote q.wrote));
      incoming = both_go (gave_of d) (gave_in ds) new.incoming mid.incoming old.incoming p.gave q.gave p.incoming q.incoming;
      keyed = q.keyed;
      each = λ n other.
          let c = came_of d old n in
          let r = came_in mid ds new did.1.1 n in
          let x = share c (own n p.wrote) (own n p.gave) in
          let y = share r (own n q.wrote) (own n q.gave) in
          let w : own n p.wrote ++ own n q.wrote ≡ own n (p.wrote ++ q.wrote) = sym (own_more n p.wrote q.wrote) in
          let g : own n p.gave ++ own n q.gave ≡ own n (p.gave ++ q.gave) = sym (own_more n p.gave q.gave) in
          fate_as (endpoint_of n old) (endpoint_of n new) (both x y) (share (join c r) (own n (p.wrote ++ q.wrote)) (own n (p.gave ++ q.gave))) (λ j. share (join c r) (w j) (g j))
          (fate_then (endpoint_of n old) (endpoint_of n mid) (endpoint_of n new) x y (p.each n other.0) (q.each n other.1));
    }

pub none_is_keyed : NoneIsKeyed
unfolding IsDistinct
none_is_keyed = tt
