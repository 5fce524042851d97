-- What holds of each session of an end, and of what they write and give to links, whatever they do.
use Rattle.std.specs.Prelude.{◌≡◌, ℕ, nat_eq, Bool, true, false, List, [], ◌∷◌, ◌++◌, Option, Some, None, if◌then◌else◌, refl}
use Rattle.std.proofs.Common.{sym, ◌∙◌, ap, subst, append_assoc, eq-eqb}
use Rattle.std.proofs.lemmas.Bool.{eqb-true}
use Rattle.std.proofs.lemmas.List.{append-nil}
use Rattle.std.specs.Map.{lookup, values_of}
use Rattle.indexmap.specs.IndexMap.{insert_entry}
use Rattle.amqp_sessions.specs.amqp_calls.declared.call.SessionNumbers.{SessionNumbers}
use Rattle.amqp_frames.specs.declared.shared.IncomingSession.{IncomingSession}
use Rattle.amqp_session.specs.declared.session.LinkInput.{LinkInput}
use Rattle.amqp_session.specs.Begin as session
use Rattle.amqp_session.specs.State.{State as Session, Framed}
use Rattle.amqp_sessions.specs.Parts.{EndpointState, idle}
use Rattle.amqp_sessions.specs.Calls.{settings, entered, begun, accepted}
use Rattle.amqp_sessions.specs.State.{State, endpoint_of}
use Rattle.session_lives.specs.Deeds.{Deed, Begins, Awaits, Accepts, Refuses, Ends, HandsOut, Halts, Concludes, Hears, Writes, Frees, Gives, Takes, Lacks, Tells, IsDeed, Did, wrote_of, wrote_in, gave_of, gave_in, hears_early, joining, came_of, IsOther}
use Rattle.session_lives.specs.Lives.{Share, Lives}
use Rattle.session_lives.specs.Logs.{AreKeyed, own, Came, share, Fate}
use Rattle.session_lives.proofs.Tables.{insert_other, insert_here, insert_keyed}
use Rattle.session_lives.proofs.Hearing.{hears_only, heard_early_goes}
use Rattle.session_lives.proofs.Deeds.{one_session_lives}
use Rattle.session_lives.proofs.Sound.{Any}

-- ---- lists

abbrev pub AllOf : {X : Type 0} → (X → Type 0) → List X → Type 0
AllOf P [] = Unit {0}
AllOf P (x ∷ xs) = P x × AllOf P xs

-- of entries that stand under names
abbrev pub AllNamed : {X : Type 0} → (ℕ → X → Type 0) → List (ℕ × X) → Type 0
AllNamed Q [] = Unit {0}
AllNamed Q (e ∷ es) = Q e.0 e.1 × AllNamed Q es

all_both : {X : Type 0} (P : X → Type 0) (xs ys : List X) → AllOf P xs → AllOf P ys → AllOf P (xs ++ ys)
all_both P [] ys h k = k
all_both P (x ∷ xs) ys h k = (h.0, all_both P xs ys h.1 k)

pub all_first : {X : Type 0} (P : X → Type 0) (xs ys : List X) → AllOf P (xs ++ ys) → AllOf P xs
all_first P [] ys h = tt
all_first P (x ∷ xs) ys h = (h.0, all_first P xs ys h.1)

all_last : {X : Type 0} (P : X → Type 0) (xs ys : List X) → AllOf P (xs ++ ys) → AllOf P ys
all_last P [] ys h = h
all_last P (x ∷ xs) ys h = all_last P xs ys h.1

named_both : {X : Type 0} (Q : ℕ → X → Type 0) (xs ys : List (ℕ × X)) → AllNamed Q xs → AllNamed Q ys → AllNamed Q (xs ++ ys)
named_both Q [] ys h k = k
named_both Q (x ∷ xs) ys h k = (h.0, named_both Q xs ys h.1 k)

named_first : {X : Type 0} (Q : ℕ → X → Type 0) (xs ys : List (ℕ × X)) → AllNamed Q (xs ++ ys) → AllNamed Q xs
named_first Q [] ys h = tt
named_first Q (x ∷ xs) ys h = (h.0, named_first Q xs ys h.1)

pub named_last : {X : Type 0} (Q : ℕ → X → Type 0) (xs ys : List (ℕ × X)) → AllNamed Q (xs ++ ys) → AllNamed Q ys
named_last Q [] ys h = h
named_last Q (x ∷ xs) ys h = named_last Q xs ys h.1

log_head : {X : Type 0} (P : X → Type 0) (t : Bool) (x : X) (xs : List X) → t ≡ true → AllOf P ((if t then x ∷ [] else []) ++ xs) → P x
log_head P true x xs e h = h.0
log_head P false x xs e h = absurd cc

log_tail : {X : Type 0} (P : X → Type 0) (t : Bool) (x : X) (xs : List X) → AllOf P ((if t then x ∷ [] else []) ++ xs) → AllOf P xs
log_tail P true x xs h = h.1
log_tail P false x xs h = h

-- where it holds of the entries under each name, it does of all
of_log : {X : Type 0} (Q : ℕ → X → Type 0) (log : List (ℕ × X)) → ((n : ℕ) → AllOf (Q n) (own n log)) → AllNamed Q log
of_log Q [] h = tt
of_log Q (e ∷ log) h = (log_head (Q e.0) (nat_eq e.0 e.0) e.1 (own e.0 log) (eq-eqb e.0 e.0 refl) (h e.0), of_log Q log (λ n. log_tail (Q n) (nat_eq n e.0) e.1 (own n log) (h n)))

of_values : {X : Type 0} (P : X → Type 0) (log : List (ℕ × X)) → AllNamed (λ n x. P x) log → AllOf P (values_of log)
of_values P [] h = tt
of_values P (e ∷ log) h = (h.0, of_values P log h.1)

-- ---- one session

-- what it writes and gives, and what it is behind that
pub record Stays (G : ℕ → Session → Type 0) (P : Framed → Type 0) (Q : ℕ → LinkInput → Type 0) (n : ℕ) (w : List Framed) (g : List LinkInput) (t : Session) : Type 0 where
  pub wrote : AllOf P w
  pub gave : AllOf (Q n) g
  pub good : G n t

-- what comes to the sessions in deeds may come
abbrev pub AllMay : (May : ℕ → Came → Type 0) (old : State) (ds : List Deed) (new : State) → Did old ds new → Type 0
AllMay May old [] new did = Unit {0}
AllMay May old (d ∷ ds) new did = ((n : ℕ) → May n (came_of d old n)) × AllMay May did.0 ds new did.1.1

-- it holds of each session as it is made
abbrev pub IsBorn : (ℕ → Session → Type 0) → Deed → Type 0
IsBorn G (Begins name x channel limit) = G name (session.begun (settings x limit) channel)
IsBorn G (Accepts name x channel limit incoming) = G name (session.accepted (settings x limit) channel incoming)
IsBorn G d = Unit {0}

abbrev pub AllBorn : (ℕ → Session → Type 0) → List Deed → Type 0
AllBorn G [] = Unit {0}
AllBorn G (d ∷ ds) = IsBorn G d × AllBorn G ds

-- ---- all sessions

abbrev pub Standing : (ℕ → Session → Type 0) → State → Type 0
Standing G s = (n : ℕ) (e : EndpointState) → endpoint_of n s ≡ Some e → G n e.session

module _ (G : ℕ → Session → Type 0) (P : Framed → Type 0) (Q : ℕ → LinkInput → Type 0) (May : ℕ → Came → Type 0)
    (stays : (n : ℕ) (s t : Session) (c : Came) (w : List Framed) (g : List LinkInput) → G n s → May n c → Lives s (share c w g) t → Stays G P Q n w g t) where
  same_there : (f g : EndpointState) → Some f ≡ Some g → f ≡ g
  same_there f g h = cc

  record Fated (n : ℕ) (w : List Framed) (g : List LinkInput) (p : Option EndpointState) : Type 0 where
    wrote : AllOf P w
    gave : AllOf (Q n) g
    good : (f : EndpointState) → p ≡ Some f → G n f.session

  fated : (n : ℕ) (c : Came) (w : List Framed) (g : List LinkInput) (o p : Option EndpointState) → ((e : EndpointState) → o ≡ Some e → G n e.session) → May n c → Fate o (share c w g) p → Fated n w g p
  fated n c w g None None was may f =
      record {
        wrote = subst (λ (xs : List Framed). AllOf P xs) (sym (ap (λ (b : Share). b.wrote) f)) tt;
        gave = subst (λ (xs : List LinkInput). AllOf (Q n) xs) (sym (ap (λ (b : Share). b.gave) f)) tt;
        good = λ h at. absurd cc;
      }
  fated n c w g None (Some h) was may f = absurd f
  fated n c w g (Some e) None was may f =
      let k = stays n e.session f.0 c w g (was e refl) may f.1 in
      record { wrote = k.wrote; gave = k.gave; good = λ h at. absurd cc }
  fated n c w g (Some e) (Some h) was may f =
      let k = stays n e.session h.session c w g (was e refl) may f in
      record { wrote = k.wrote; gave = k.gave; good = λ i at. subst (λ (x : EndpointState). G n x.session) (same_there h i at) k.good }

  entered_stands : (name channel : ℕ) (a : Session) (s : State) → G name a → Standing G s → Standing G (entered name channel a s)
  entered_stands name channel a s new old n f at = by (nat_eq n name) refl
    where
      here : n ≡ name → idle a ≡ f
      here e = same_there (idle a) f (sym (insert_here name (idle a) s.endpoints) ∙ (ap (λ m. lookup (nat_eq m) (insert_entry nat_eq s.endpoints name (idle a))) (sym e) ∙ at))

      by : (t : Bool) → nat_eq n name ≡ t → G n f.session
      by true e =
          let same = eqb-true n name e in
          subst (λ (m : ℕ). G m f.session) (sym same) (subst (λ (g : EndpointState). G name g.session) (here same) new)
      by false e = old n f (sym (insert_other name n (idle a) s.endpoints e) ∙ at)

  -- ---- a deed

  record Grows (d : Deed) (old new : State) : Type 0 where
    log : List (ℕ × Framed)
    given : List (ℕ × LinkInput)
    output : wrote_of d ++ new.output ≡ old.output ++ values_of log
    incoming : gave_of d ++ new.incoming ≡ old.incoming ++ given
    keyed : AreKeyed new
    wrote : AllOf P (values_of log)
    gave : AllNamed Q given
    standing : Standing G new

  -- from where those that it makes stand
  grows : (d : Deed) (old mid new : State) (came : ℕ → Came) (log : List (ℕ × Framed)) (given : List (ℕ × LinkInput)) → wrote_of d ++ new.output ≡ old.output ++ values_of log → gave_of d ++ new.incoming ≡ old.incoming ++ given → AreKeyed new
      → Standing G mid → ((n : ℕ) → May n (came n)) → ((n : ℕ) → Fate (endpoint_of n mid) (share (came n) (own n log) (own n given)) (endpoint_of n new)) → Grows d old new
  grows d old mid new came log given output incoming keyed stands may each =
      let f : (n : ℕ) → Fated n (own n log) (own n given) (endpoint_of n new) = λ n. fated n (came n) (own n log) (own n given) (endpoint_of n mid) (endpoint_of n new) (stands n) (may n) (each n) in
      record {
        log = log;
        given = given;
        output = output;
        incoming = incoming;
        keyed = keyed;
        wrote = of_values P log (of_log (λ n x. P x) log (λ n. let k = f n in k.wrote));
        gave = of_log Q given (λ n. let k = f n in k.gave);
        standing = λ n e at. let k = f n in k.good e at;
      }

  plain_grows : (d : Deed) (old new : State) → IsDeed old d new → ((n : ℕ) → IsOther n d) → AreKeyed old → Standing G old → ((n : ℕ) → May n (came_of d old n)) → Grows d old new
  plain_grows d old new h other keyed stands may =
      let g = one_session_lives d old new h keyed in
      grows d old old new (came_of d old) g.wrote g.gave g.output g.incoming g.keyed stands may (λ n. g.each n (other n))

  begun_grows : (name : ℕ) (x : SessionNumbers) (channel limit : ℕ) (old : State) → AreKeyed old → Standing G old → G name (session.begun (settings x limit) channel) → Grows (Begins name x channel limit) old (begun name x channel limit old)
  begun_grows name x channel limit old keyed stands born =
      let new = begun name x channel limit old in
      record {
        log = [];
        given = [];
        output = sym (append-nil old.output);
        incoming = sym (append-nil old.incoming);
        keyed = (one_session_lives (Begins name x channel limit) old new refl keyed).keyed;
        wrote = tt;
        gave = tt;
        standing = entered_stands name channel (session.begun (settings x limit) channel) old born stands;
      }

  accepted_grows : (name : ℕ) (x : SessionNumbers) (channel limit : ℕ) (incoming : IncomingSession) (old : State) → AreKeyed old → Standing G old → G name (session.accepted (settings x limit) channel incoming)
      → ((n : ℕ) → May n (came_of (Accepts name x channel limit incoming) old n)) → Grows (Accepts name x channel limit incoming) old (accepted name x channel limit incoming old)
  accepted_grows name x channel limit incoming old keyed stands born may =
      let s = session.accepted (settings x limit) channel incoming in
      let mid = joining name x channel limit incoming old in
      let g = heard_early_goes Any incoming.channel mid (insert_keyed name (idle s) old.endpoints keyed) in
      grows (Accepts name x channel limit incoming) old mid (accepted name x channel limit incoming old) (λ n. hears_only (hears_early incoming.channel mid n)) g.wrote g.gave g.output g.incoming g.keyed
      (entered_stands name channel s old born stands) may (λ n. g.each n tt)

  deed_grows : (d : Deed) (old new : State) → IsDeed old d new → IsBorn G d → AreKeyed old → Standing G old → ((n : ℕ) → May n (came_of d old n)) → Grows d old new
  deed_grows (Begins name x channel limit) old new h born keyed stands may = subst (λ (s : State). Grows (Begins name x channel limit) old s) (sym h) (begun_grows name x channel limit old keyed stands born)
  deed_grows (Accepts name x channel limit incoming) old new h born keyed stands may =
      subst (λ (s : State). Grows (Accepts name x channel limit incoming) old s) (sym h) (accepted_grows name x channel limit incoming old keyed stands born may)
  deed_grows (Awaits name x) old new h born keyed stands may = plain_grows (Awaits name x) old new h (λ n. tt) keyed stands may
  deed_grows (Refuses name why) old new h born keyed stands may = plain_grows (Refuses name why) old new h (λ n. tt) keyed stands may
  deed_grows (Ends name session condition) old new h born keyed stands may = plain_grows (Ends name session condition) old new h (λ n. tt) keyed stands may
  deed_grows (HandsOut name) old new h born keyed stands may = plain_grows (HandsOut name) old new h (λ n. tt) keyed stands may
  deed_grows (Halts why) old new h born keyed stands may = plain_grows (Halts why) old new h (λ n. tt) keyed stands may
  deed_grows (Concludes why) old new h born keyed stands may = plain_grows (Concludes why) old new h (λ n. tt) keyed stands may
  deed_grows (Hears x) old new h born keyed stands may = plain_grows (Hears x) old new h (λ n. tt) keyed stands may
  deed_grows (Writes x) old new h born keyed stands may = plain_grows (Writes x) old new h (λ n. tt) keyed stands may
  deed_grows (Frees channel) old new h born keyed stands may = plain_grows (Frees channel) old new h (λ n. tt) keyed stands may
  deed_grows (Gives session x) old new h born keyed stands may = plain_grows (Gives session x) old new h (λ n. tt) keyed stands may
  deed_grows (Takes session x) old new h born keyed stands may = plain_grows (Takes session x) old new h (λ n. tt) keyed stands may
  deed_grows (Lacks session) old new h born keyed stands may = plain_grows (Lacks session) old new h (λ n. tt) keyed stands may
  deed_grows Tells old new h born keyed stands may = plain_grows Tells old new h (λ n. tt) keyed stands may

  -- ---- deeds one after another

  pub record AllGrow (ds : List Deed) (new : State) : Type 0 where
    pub wrote : AllOf P (wrote_in ds ++ new.output)
    pub gave : AllNamed Q (gave_in ds ++ new.incoming)
    pub standing : Standing G new

  pub all_grow : (ds : List Deed) (old new : State) (did : Did old ds new) → AllBorn G ds → AllMay May old ds new did → AreKeyed old → Standing G old → AllOf P old.output → AllNamed Q old.incoming → AllGrow ds new
  all_grow [] old new did born may keyed stands out links =
      record {
        wrote = subst (λ (s : State). AllOf P s.output) (sym did) out;
        gave = subst (λ (s : State). AllNamed Q s.incoming) (sym did) links;
        standing = subst (λ (s : State). Standing G s) (sym did) stands;
      }
  all_grow (d ∷ ds) old new did born may keyed stands out links =
      let mid = did.0 in
      let g = deed_grows d old mid did.1.0 born.0 keyed stands may.0 in
      let frames : AllOf P (wrote_of d ++ mid.output) = subst (λ (xs : List Framed). AllOf P xs) (sym g.output) (all_both P old.output (values_of g.log) out g.wrote) in
      let inputs : AllNamed Q (gave_of d ++ mid.incoming) = subst (λ (xs : List (ℕ × LinkInput)). AllNamed Q xs) (sym g.incoming) (named_both Q old.incoming g.given links g.gave) in
      let r = all_grow ds mid new did.1.1 born.1 may.1 g.keyed g.standing (all_last P (wrote_of d) mid.output frames) (named_last Q (gave_of d) mid.incoming inputs) in
      record {
        wrote = subst (λ (xs : List Framed). AllOf P xs) (sym (append_assoc (wrote_of d) (wrote_in ds) new.output)) (all_both P (wrote_of d) (wrote_in ds ++ new.output) (all_first P (wrote_of d) mid.output frames) r.wrote);
        gave = subst (λ (xs : List (ℕ × LinkInput)). AllNamed Q xs) (sym (append_assoc (gave_of d) (gave_in ds) new.incoming)) (named_both Q (gave_of d) (gave_in ds ++ new.incoming) (named_first Q (gave_of d) mid.incoming inputs) r.gave);
        standing = r.standing;
      }
