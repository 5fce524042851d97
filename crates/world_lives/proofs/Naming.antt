-- Names that are used once are new.
use Rattle.std.specs.Prelude.{◌≡◌, ◌⊎◌, ℕ, nat_eq, Bool, true, false, List, [], ◌∷◌, ◌++◌, Option, Some, None, refl}
use Rattle.std.proofs.Common.{inl, inr, sym, ◌∙◌, ap, subst, append_assoc, eq-eqb}
use Rattle.std.proofs.lemmas.Bool.{eqb-true}
use Rattle.std.proofs.lemmas.List.{append-nil}
use Rattle.std.specs.List.{IsDistinct, AllByRecursion}
use Rattle.std.specs.Map.{lookup}
use Rattle.amqp_calls.specs.declared.call.SessionNumbers.{SessionNumbers}
use Rattle.amqp_frames.specs.declared.shared.IncomingSession.{IncomingSession}
use Rattle.amqp_session.specs.declared.error.Error.{Error}
use Rattle.amqp_session.specs.Begin as session
use Rattle.amqp_session.specs.State.{State as Session, Framed}
use Rattle.amqp_sessions.specs.declared.endpoint.Change.{Change}
use Rattle.amqp_sessions.specs.declared.endpoint.Change.TheVariants.{Same, Begun, Refused, Gone, Answered}
use Rattle.amqp_sessions.specs.Parts.{EndpointState, idle}
use Rattle.amqp_sessions.specs.Endpoint.{hearing, change_of, having_heard}
use Rattle.amqp_sessions.specs.Calls.{settings, entered, accepted}
use Rattle.amqp_sessions.specs.Frames.{place_of, joined, changed, hearing_at, heard_by, heard, heard_all, heard_early_at}
use Rattle.amqp_sessions.specs.State.{State, none_begun, endpoint_of, with_endpoint, handed_out}
use Rattle.amqp_links.specs.State.{State as Links}
use Rattle.session_lives.specs.Deeds.{Deed, Begins, Awaits, Accepts, Refuses, Ends, HandsOut, Halts, Concludes, Hears, Writes, Frees, Gives, Takes, Lacks, Tells, IsDeed, Did, came_of, joining, IsOther, AreOther}
use Rattle.session_lives.specs.Logs.{own, share}
use Rattle.session_lives.specs.Sound.{AreSound, IsUnused, IsNewIn, AreNewIn}
use Rattle.session_lives.proofs.Tables.{insert_other}
use Rattle.session_lives.proofs.Deeds.{one_session_lives}
use Rattle.session_lives.proofs.Sound.{stood, Shrinks, entry, shrinks_then, out_shrinks, changed_shrinks, kept_shrinks, heard_sound, without_early, early_removed, joining_sound, IsPlain, plain_shrinks, one_sound, none_is_sound}
use Rattle.world_lives.specs.Lived.{Both, sessions_by, Moment}
use Rattle.world_lives.specs.Hearing.{AreNamed}
use Rattle.world_lives.specs.Naming.{made_of, made_in}
use Rattle.world_lives.proofs.Joins.{sessions_by_more}

-- each name in the tables of sessions is one of these
record AreOf (Q : ℕ → Type 0) (s : State) : Type 0 where
  standing : (n : ℕ) (e : EndpointState) → endpoint_of n s ≡ Some e → Q n
  own : (c n : ℕ) → lookup (nat_eq c) s.channels ≡ Some n → Q n
  peer : (c n : ℕ) → lookup (nat_eq c) s.remotes ≡ Some n → Q n

abbrev Standing : (ℕ → Type 0) → State → Type 0
Standing Q s = (n : ℕ) (e : EndpointState) → endpoint_of n s ≡ Some e → Q n

module _ (Q : ℕ → Type 0) where
  -- a session that a deed does not make stood before
  standing_behind : (d : Deed) (old new : State) (n : ℕ) (f : EndpointState) → IsDeed old d new → AreSound old → IsOther n d → Standing Q old → endpoint_of n new ≡ Some f → Q n
  standing_behind d old new n f h sound other o at =
      let g = one_session_lives d old new h sound.keyed in
      let w = stood (λ m. share (came_of d old m) (own m g.wrote) (own m g.gave)) old new n f (g.each n other) at in
      o n w.before w.at

  tables_shrink : (old new : State) → AreSound old → Shrinks old new → AreOf Q old → Standing Q new → AreOf Q new
  tables_shrink old new sound r o s =
      let a = r.own sound.channels in
      let b = r.peer sound.remotes in
      record { standing = s; own = λ c n led. o.own c n (a.led c n led); peer = λ c n led. o.peer c n (b.led c n led) }

  -- ---- a frame is read

  -- the tables behind it
  record Tables (s : State) : Type 0 where
    own : (c n : ℕ) → lookup (nat_eq c) s.channels ≡ Some n → Q n
    peer : (c n : ℕ) → lookup (nat_eq c) s.remotes ≡ Some n → Q n

  tables_of : (s : State) → AreOf Q s → Tables s
  tables_of s o = record { own = o.own; peer = o.peer }

  shrunk : (old new : State) → AreSound old → Shrinks old new → AreOf Q old → Tables new
  shrunk old new sound r o =
      let a = r.own sound.channels in
      let b = r.peer sound.remotes in
      record { own = λ c n led. o.own c n (a.led c n led); peer = λ c n led. o.peer c n (b.led c n led) }

  joined_tables : (name remote : ℕ) (s : State) → Q name → Tables s → Tables (joined name remote s)
  joined_tables name remote s q t = record { own = t.own; peer = λ c n led. by c n (entry remote name c n s.remotes led).either }
    where
      by : (c n : ℕ) → ((c ≡ remote) × (n ≡ name)) ⊎ (lookup (nat_eq c) s.remotes ≡ Some n) → Q n
      by c n (inl h) = subst Q (sym h.1) q
      by c n (inr h) = t.peer c n h

  changed_tables : (c : Change) (name remote : ℕ) (answer : Option Error) (s t : State) → AreSound s → Shrinks s t → AreOf Q s → Q name → Tables (changed c name remote answer t)
  changed_tables Begun name remote answer s t sound r o q = joined_tables name remote t q (shrunk s t sound r o)
  changed_tables Same name remote answer s t sound r o q = shrunk s t sound r o
  changed_tables Refused name remote answer s t sound r o q =
      let u = changed Refused name remote answer t in shrunk s u sound (shrinks_then s t u r (changed_shrinks Refused name remote answer t (λ h. cc))) o
  changed_tables Gone name remote answer s t sound r o q =
      let u = changed Gone name remote answer t in shrunk s u sound (shrinks_then s t u r (changed_shrinks Gone name remote answer t (λ h. cc))) o
  changed_tables Answered name remote answer s t sound r o q =
      let u = changed Answered name remote answer t in shrunk s u sound (shrinks_then s t u r (changed_shrinks Answered name remote answer t (λ h. cc))) o

  hearing_tables : (p : Option EndpointState) (name : ℕ) (x : Framed) (s : State) → endpoint_of name s ≡ p → AreSound s → AreOf Q s → Tables (hearing_at p name x s)
  hearing_tables None name x s at sound o = tables_of s o
  hearing_tables (Some e) name x s at sound o =
      let f = having_heard x e in
      changed_tables (change_of x e) name x.channel (hearing x e).answer s (handed_out name (with_endpoint name f s)) sound (out_shrinks name f s) o (o.standing name e at)

  heard_by_tables : (p : Option ℕ) (x : Framed) (s : State) → AreSound s → AreOf Q s → Tables (heard_by p x s)
  heard_by_tables None x s sound o = shrunk s (heard_by None x s) sound (kept_shrinks (lookup (nat_eq x.channel) s.early) x s refl) o
  heard_by_tables (Some name) x s sound o = hearing_tables (endpoint_of name s) name x s refl sound o

  heard_of : (x : Framed) (s : State) → AreSound s → AreOf Q s → AreOf Q (heard x s)
  heard_of x s sound o =
      let t = heard_by_tables (place_of x s) x s sound o in
      record { standing = λ n f at. standing_behind (Hears x) s (heard x s) n f refl sound tt o.standing at; own = t.own; peer = t.peer }

  heard_all_of : (xs : List Framed) (s : State) → AreSound s → AreOf Q s → AreOf Q (heard_all xs s)
  heard_all_of [] s sound o = o
  heard_all_of (x ∷ xs) s sound o = heard_all_of xs (heard x s) (heard_sound x s sound) (heard_of x s sound o)

  -- ---- a session is made

  entered_of : (name channel : ℕ) (a : Session) (s : State) → Q name → AreOf Q s → AreOf Q (entered name channel a s)
  entered_of name channel a s q o = record {
    standing = λ n f at. by n f (nat_eq n name) refl at;
    own = λ c n led. own_by c n (entry channel name c n s.channels led).either;
    peer = o.peer;
  }
    where
      by : (n : ℕ) (f : EndpointState) (t : Bool) → nat_eq n name ≡ t → endpoint_of n (entered name channel a s) ≡ Some f → Q n
      by n f true e at = subst Q (sym (eqb-true n name e)) q
      by n f false e at = o.standing n f (sym (insert_other name n (idle a) s.endpoints e) ∙ at)

      own_by : (c n : ℕ) → ((c ≡ channel) × (n ≡ name)) ⊎ (lookup (nat_eq c) s.channels ≡ Some n) → Q n
      own_by c n (inl h) = subst Q (sym h.1) q
      own_by c n (inr h) = o.own c n h

  joining_of : (name : ℕ) (x : SessionNumbers) (channel limit : ℕ) (incoming : IncomingSession) (s : State) → Q name → AreOf Q s → AreOf Q (joining name x channel limit incoming s)
  joining_of name x channel limit incoming s q o =
      let t = entered name channel (session.accepted (settings x limit) channel incoming) s in
      let k = entered_of name channel (session.accepted (settings x limit) channel incoming) s q o in
      let j = joined_tables name incoming.channel t q (tables_of t k) in
      record { standing = k.standing; own = j.own; peer = j.peer }

  early_of : (p : Option (List Framed)) (remote : ℕ) (s : State) → AreSound s → AreOf Q s → AreOf Q (heard_early_at p remote s)
  early_of None remote s sound o = o
  early_of (Some xs) remote s sound o = heard_all_of xs (without_early remote s) (early_removed remote s sound) (record { standing = o.standing; own = o.own; peer = o.peer })

  accepted_of : (name : ℕ) (x : SessionNumbers) (channel limit : ℕ) (incoming : IncomingSession) (s : State) → AreSound s → IsUnused name s → Q name → AreOf Q s → AreOf Q (accepted name x channel limit incoming s)
  accepted_of name x channel limit incoming s sound unused q o =
      let u = joining name x channel limit incoming s in
      early_of (lookup (nat_eq incoming.channel) u.early) incoming.channel u (joining_sound name x channel limit incoming s sound unused) (joining_of name x channel limit incoming s q o)

  -- ---- a deed

  abbrev AllOf : List ℕ → Type 0
  AllOf [] = Unit {0}
  AllOf (n ∷ ns) = Q n × AllOf ns

  plain_of : (d : Deed) (old new : State) → IsDeed old d new → IsPlain d → ((n : ℕ) → IsOther n d) → AreSound old → AreOf Q old → AreOf Q new
  plain_of d old new h plain other sound o = tables_shrink old new sound (plain_shrinks d old new h plain) o (λ n f at. standing_behind d old new n f h sound (other n) o.standing at)

  deed_of : (d : Deed) (old new : State) → IsDeed old d new → IsNewIn d old → AreSound old → AllOf (made_of d) → AreOf Q old → AreOf Q new
  deed_of (Begins name x channel limit) old new h unused sound q o =
      let k = entered_of name channel (session.begun (settings x limit) channel) old q.0 o in
      subst (λ s. AreOf Q s) (sym h) (record { standing = k.standing; own = k.own; peer = k.peer })
  deed_of (Accepts name x channel limit incoming) old new h unused sound q o = subst (λ s. AreOf Q s) (sym h) (accepted_of name x channel limit incoming old sound unused q.0 o)
  deed_of (Hears x) old new h unused sound q o = subst (λ s. AreOf Q s) (sym h) (heard_of x old sound o)
  deed_of (Awaits name x) old new h unused sound q o = plain_of (Awaits name x) old new h tt (λ n. tt) sound o
  deed_of (Refuses name why) old new h unused sound q o = plain_of (Refuses name why) old new h tt (λ n. tt) sound o
  deed_of (Ends name session condition) old new h unused sound q o = plain_of (Ends name session condition) old new h tt (λ n. tt) sound o
  deed_of (HandsOut name) old new h unused sound q o = plain_of (HandsOut name) old new h tt (λ n. tt) sound o
  deed_of (Halts why) old new h unused sound q o = plain_of (Halts why) old new h tt (λ n. tt) sound o
  deed_of (Concludes why) old new h unused sound q o = plain_of (Concludes why) old new h tt (λ n. tt) sound o
  deed_of (Writes x) old new h unused sound q o = plain_of (Writes x) old new h tt (λ n. tt) sound o
  deed_of (Frees channel) old new h unused sound q o = plain_of (Frees channel) old new h tt (λ n. tt) sound o
  deed_of (Gives session x) old new h unused sound q o = plain_of (Gives session x) old new h tt (λ n. tt) sound o
  deed_of (Takes session x) old new h unused sound q o = plain_of (Takes session x) old new h tt (λ n. tt) sound o
  deed_of (Lacks session) old new h unused sound q o = plain_of (Lacks session) old new h tt (λ n. tt) sound o
  deed_of Tells old new h unused sound q o = plain_of Tells old new h tt (λ n. tt) sound o

-- ---- names that are not used from then on

-- a name is none of those
abbrev pub IsFar : List ℕ → ℕ → Type 0
IsFar ns n = AllByRecursion (λ m. nat_eq n m ≡ false) ns

far_later : (xs ys : List ℕ) (n : ℕ) → IsFar (xs ++ ys) n → IsFar ys n
far_later [] ys n h = h
far_later (x ∷ xs) ys n h = far_later xs ys n h.1

of_later : (xs ys : List ℕ) (s : State) → AreOf (IsFar (xs ++ ys)) s → AreOf (IsFar ys) s
of_later xs ys s o = record {
  standing = λ n e at. far_later xs ys n (o.standing n e at);
  own = λ c n led. far_later xs ys n (o.own c n led);
  peer = λ c n led. far_later xs ys n (o.peer c n led);
}

not_far : (n : ℕ) (ns : List ℕ) → IsFar (n ∷ ns) n → ⊥
not_far n ns h = by h.0
  where
    by : nat_eq n n ≡ false → ⊥
    by e = let bad : true ≡ false = sym (eq-eqb n n refl) ∙ e in cc

unused : (name : ℕ) (ns : List ℕ) (s : State) → AreOf (IsFar (name ∷ ns)) s → IsUnused name s
unused name ns s o = record { own = λ c led. not_far name ns (o.own c name led); peer = λ c led. not_far name ns (o.peer c name led) }

new_in : (d : Deed) (ns : List ℕ) (s : State) → AreOf (IsFar (made_of d ++ ns)) s → IsNewIn d s
new_in (Begins name x channel limit) ns s o = unused name ns s o
new_in (Accepts name x channel limit incoming) ns s o = unused name ns s o
new_in (Awaits name x) ns s o = tt
new_in (Refuses name why) ns s o = tt
new_in (Ends name session condition) ns s o = tt
new_in (HandsOut name) ns s o = tt
new_in (Halts why) ns s o = tt
new_in (Concludes why) ns s o = tt
new_in (Hears x) ns s o = tt
new_in (Writes x) ns s o = tt
new_in (Frees channel) ns s o = tt
new_in (Gives session x) ns s o = tt
new_in (Takes session x) ns s o = tt
new_in (Lacks session) ns s o = tt
new_in Tells ns s o = tt

-- what a deed makes is not made later
made_far : (d : Deed) (ns : List ℕ) → IsDistinct nat_eq (made_of d ++ ns) → AllOf (IsFar ns) (made_of d)
unfolding IsDistinct
made_far (Begins name x channel limit) ns k = (k.0, tt)
made_far (Accepts name x channel limit incoming) ns k = (k.0, tt)
made_far (Awaits name x) ns k = tt
made_far (Refuses name why) ns k = tt
made_far (Ends name session condition) ns k = tt
made_far (HandsOut name) ns k = tt
made_far (Halts why) ns k = tt
made_far (Concludes why) ns k = tt
made_far (Hears x) ns k = tt
made_far (Writes x) ns k = tt
made_far (Frees channel) ns k = tt
made_far (Gives session x) ns k = tt
made_far (Takes session x) ns k = tt
made_far (Lacks session) ns k = tt
made_far Tells ns k = tt

distinct_later : (xs ys : List ℕ) → IsDistinct nat_eq (xs ++ ys) → IsDistinct nat_eq ys
unfolding IsDistinct
distinct_later [] ys k = k
distinct_later (x ∷ xs) ys k = distinct_later xs ys k.1

far_first : (xs ys : List ℕ) (n : ℕ) → IsFar (xs ++ ys) n → IsFar xs n
far_first [] ys n h = tt
far_first (x ∷ xs) ys n h = (h.0, far_first xs ys n h.1)

pub distinct_first : (xs ys : List ℕ) → IsDistinct nat_eq (xs ++ ys) → IsDistinct nat_eq xs
unfolding IsDistinct
distinct_first [] ys k = tt
distinct_first (x ∷ xs) ys k = (far_first xs ys x k.0, distinct_first xs ys k.1)

-- a name that is used first is not used later
pub far_made : (name : ℕ) (ns : List ℕ) → IsDistinct nat_eq (name ∷ ns) → IsFar ns name
unfolding IsDistinct
far_made name ns k = k.0

pub later_distinct : (name : ℕ) (ns : List ℕ) → IsDistinct nat_eq (name ∷ ns) → IsDistinct nat_eq ns
unfolding IsDistinct
later_distinct name ns k = k.1

-- ---- deeds, one after another

-- behind deeds each name in the tables is none of those that are made later
record Behind (ds : List Deed) (ns : List ℕ) (old new : State) (did : Did old ds new) : Type 0 where
  new_names : AreNewIn old ds new did
  sound : AreSound new
  far : AreOf (IsFar ns) new

named_run : (ds : List Deed) (ns : List ℕ) (old new : State) (did : Did old ds new) → AreSound old → IsDistinct nat_eq (made_in ds ++ ns) → AreOf (IsFar (made_in ds ++ ns)) old → Behind ds ns old new did
named_run [] ns old new did sound k o = record { new_names = tt; sound = subst (λ s. AreSound s) (sym did) sound; far = subst (λ s. AreOf (IsFar ns) s) (sym did) o }
named_run (d ∷ ds) ns old new did sound k o =
    let all : List ℕ = made_in ds ++ ns in
    let e : (made_of d ++ made_in ds) ++ ns ≡ made_of d ++ all = append_assoc (made_of d) (made_in ds) ns in
    let k2 = subst (λ (xs : List ℕ). IsDistinct nat_eq xs) e k in
    let o2 = subst (λ (xs : List ℕ). AreOf (IsFar xs) old) e o in
    let fresh = new_in d all old o2 in
    let next = deed_of (IsFar all) d old did.0 did.1.0 fresh sound (made_far d all k2) (of_later (made_of d) all old o2) in
    let r = named_run ds ns did.0 new did.1.1 (one_sound d old did.0 did.1.0 fresh sound) (distinct_later (made_of d) all k2) next in
    record { new_names = (fresh, r.new_names); sound = r.sound; far = r.far }

pub made_more : (ds es : List Deed) → made_in (ds ++ es) ≡ made_in ds ++ made_in es
made_more [] es = refl
made_more (d ∷ ds) es = ap (λ xs. made_of d ++ xs) (made_more ds es) ∙ sym (append_assoc (made_of d) (made_in ds) (made_in es))

none_of : (Q : ℕ → Type 0) → AreOf Q none_begun
none_of Q = record { standing = λ n e at. absurd cc; own = λ c n led. absurd cc; peer = λ c n led. absurd cc }

pub others : (n : ℕ) (ds : List Deed) → IsFar (made_in ds) n → AreOther n ds
others n [] far = tt
others n (Begins name x channel limit ∷ ds) far = (far.0, others n ds far.1)
others n (Accepts name x channel limit incoming ∷ ds) far = (far.0, others n ds far.1)
others n (Awaits name x ∷ ds) far = (tt, others n ds far)
others n (Refuses name why ∷ ds) far = (tt, others n ds far)
others n (Ends name session condition ∷ ds) far = (tt, others n ds far)
others n (HandsOut name ∷ ds) far = (tt, others n ds far)
others n (Halts why ∷ ds) far = (tt, others n ds far)
others n (Concludes why ∷ ds) far = (tt, others n ds far)
others n (Hears x ∷ ds) far = (tt, others n ds far)
others n (Writes x ∷ ds) far = (tt, others n ds far)
others n (Frees channel ∷ ds) far = (tt, others n ds far)
others n (Gives session x ∷ ds) far = (tt, others n ds far)
others n (Takes session x ∷ ds) far = (tt, others n ds far)
others n (Lacks session ∷ ds) far = (tt, others n ds far)
others n (Tells ∷ ds) far = (tt, others n ds far)

-- the sessions of an end at a moment
pub record NewSessions (none : Links) (all : List Both) (last : State) (end : Links) (p : Moment none all last end) : Type 0 where
  pub named : AreNamed none all last end p
  pub sound : AreSound p.sessions
  pub other : (n : ℕ) (e : EndpointState) → endpoint_of n p.sessions ≡ Some e → AreOther n (sessions_by p.since)

pub sessions_are_new : (none : Links) (all : List Both) (last : State) (end : Links) (p : Moment none all last end) → IsDistinct nat_eq (made_in (sessions_by all)) → NewSessions none all last end p
sessions_are_new none all last end p once =
    let before = made_in (sessions_by p.before) in
    let since = made_in (sessions_by p.since) in
    let parts : made_in (sessions_by all) ≡ before ++ since =
    ap (λ (xs : List Both). made_in (sessions_by xs)) (sym p.whole) ∙ (ap made_in (sessions_by_more p.before p.since) ∙ made_more (sessions_by p.before) (sessions_by p.since)) in
    let whole : IsDistinct nat_eq (before ++ since) = subst (λ (xs : List ℕ). IsDistinct nat_eq xs) parts once in
    let a = named_run (sessions_by p.before) since none_begun p.sessions p.came.sessions_did none_is_sound whole (none_of (IsFar (before ++ since))) in
    let e : since ≡ since ++ [] = sym (append-nil since) in
    let b = named_run (sessions_by p.since) [] p.sessions last p.goes.sessions_did a.sound
    (subst (λ (xs : List ℕ). IsDistinct nat_eq xs) e (distinct_later before since whole)) (subst (λ (xs : List ℕ). AreOf (IsFar xs) p.sessions) e a.far) in
    record { named = record { before = a.new_names; since = b.new_names }; sound = a.sound; other = λ n f at. others n (sessions_by p.since) (a.far.standing n f at) }
