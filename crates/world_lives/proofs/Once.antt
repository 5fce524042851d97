-- What an end does under the name of a call it does once.
use Rattle.std.specs.Prelude.{◌≡◌, ◌≤◌, ◌||◌, ℕ, nat_eq, Bool, true, false, List, [], ◌∷◌, ◌++◌, Option, Some, None, length, if◌then◌else◌, refl}
use Rattle.std.specs.Cmp.{nat_eq_equiv}
use Rattle.std.specs.List.{IsDistinct, AllByRecursion, list_any}
use Rattle.std.proofs.Common.{inl, inr, sym, ◌∙◌, ap, subst, append_assoc, arith}
use Rattle.std.proofs.lemmas.Bool.{ne_eqb}
use Rattle.std.proofs.lemmas.List.{append-nil}
use Rattle.std.proofs.lemmas.Map.Keys.{IsDistinct-push}
use Rattle.std.proofs.lemmas.Option.{none-some}
use Rattle.amqp_wire.specs.Piped.{Piped}
use Rattle.amqp_wire.specs.declared.link.Link.{Ghosts}
use Rattle.amqp_words.specs.declared.step.End.{End as Side}
use Rattle.amqp_words.specs.declared.step.End.TheVariants.{Client, Listener}
use Rattle.amqp_calls.specs.declared.call.SessionNumbers.{SessionNumbers}
use Rattle.amqp_calls.specs.declared.step.Act.{Act}
use Rattle.amqp_calls.specs.declared.step.Act.TheVariants.{Take, TakeAll, Call}
use Rattle.amqp_calls.specs.declared.step.Step.{Step}
use Rattle.amqp_calls.specs.declared.trace.Entry.{Entry}
use Rattle.amqp_world.specs.Turn.{piping}
use Rattle.amqp_world.specs.History.{is_same}
use Rattle.amqp_links.specs.State.{State as Links, seen as linked}
use Rattle.amqp_peer.specs.Peering.{Peering}
use Rattle.amqp_sessions.specs.declared.sessions.Waiting.{Waiting}
use Rattle.amqp_sessions.specs.declared.sessions.Waiting.TheVariants.{Accept}
use Rattle.amqp_sessions.specs.State.{State, seen, none_begun}
use Rattle.amqp_end.specs.declared.end.End.{End}
use Rattle.amqp_end.specs.Asks.{IsNew}
use Rattle.amqp_end.specs.Deeds as end
use Rattle.amqp_end.specs.Deeds.{framed_of}
use Rattle.amqp_end.specs.Moves as move
use Rattle.amqp_end.specs.Named.{Awaits, IsBy, IsMoved, IsNamed, AreNamed}
use Rattle.amqp_session_world.specs.Turn.{View, Turned, IsTurnAt, Turns, IsFresh, IsStart, count_of, given}
use Rattle.link_lives.specs.Deeds as links
use Rattle.session_lives.specs.Deeds as sessions
use Rattle.world_lives.specs.EndLives.Ends.{of_move, sessions_of, links_of}
use Rattle.world_lives.specs.Lived.{Both, sessions_by, links_by, both_in, both_turned, both_done_at, both_done, both_over, end_at, sessions_at}
use Rattle.world_lives.specs.Naming.{made_in, asked_in}
use Rattle.world_lives.specs.Once.{NamesAreUsedOnce}
use Rattle.world_lives.proofs.Awaiting.{Stays, handed_stays, heard_stays, accepted_stays, written_stays, refusing_stays, ended_stays, concluded_stays}
use Rattle.world_lives.proofs.Calls.{asked_more, links_by_more}
use Rattle.world_lives.proofs.Joins.{sessions_by_more}
use Rattle.world_lives.proofs.Naming.{made_more}

-- ---- names in lists

-- it is not above the last name
abbrev IsUnder : Option ℕ → ℕ → Type 0
IsUnder None n = ⊥
IsUnder (Some last) n = n ≤ last

either_not : (b c : Bool) → (b || c) ≡ false → (b ≡ false) × (c ≡ false)
either_not true c e = absurd (cc e)
either_not false c e = (refl, e)

neither : (b c : Bool) → b ≡ false → c ≡ false → (b || c) ≡ false
neither true c e f = absurd (cc e)
neither false c e f = f

all_push : (P : ℕ → Type 0) (xs : List ℕ) (n : ℕ) → AllByRecursion P xs → P n → AllByRecursion P (xs ++ n ∷ [])
all_push P [] n k p = (p, tt)
all_push P (x ∷ xs) n k p = (k.0, all_push P xs n k.1 p)

all_as : (P Q : ℕ → Type 0) → ((n : ℕ) → P n → Q n) → (xs : List ℕ) → AllByRecursion P xs → AllByRecursion Q xs
all_as P Q f [] k = tt
all_as P Q f (x ∷ xs) k = (f x k.0, all_as P Q f xs k.1)

absent_push : (n m : ℕ) (xs : List ℕ) → list_any (nat_eq n) xs ≡ false → nat_eq n m ≡ false → list_any (nat_eq n) (xs ++ m ∷ []) ≡ false
absent_push n m [] k e = neither (nat_eq n m) false e refl
absent_push n m (x ∷ xs) k e =
    let h = either_not (nat_eq n x) (list_any (nat_eq n) xs) k in
    neither (nat_eq n x) (list_any (nat_eq n) (xs ++ m ∷ [])) h.0 (absent_push n m xs h.1 e)

-- a new name is above the others
above : (last : Option ℕ) (n m : ℕ) → IsNew last n → IsUnder last m → n ≡ m → ⊥
above None n m new under e = under
above (Some last) n m new under e = omega (arith, new, under, e)

raised : (last : Option ℕ) (n m : ℕ) → IsNew last n → IsUnder last m → IsUnder (Some n) m
raised None n m new under = absurd under
raised (Some last) n m new under = omega (arith, new, under)

absent_new : (last : Option ℕ) (n : ℕ) → IsNew last n → (xs : List ℕ) → AllByRecursion (IsUnder last) xs → list_any (nat_eq n) xs ≡ false
absent_new last n new [] k = refl
absent_new last n new (x ∷ xs) k = neither (nat_eq n x) (list_any (nat_eq n) xs) (ne_eqb n x (above last n x new k.0)) (absent_new last n new xs k.1)

-- ---- the names that were used

-- Sessions were made under names that differ, and so were calls on links; none is above the last. None was made yet under the
-- name of a call that waits.
record AreUsed (last : Option ℕ) (made asked : List ℕ) (w : Option Waiting) : Type 0 where
  made_once : IsDistinct nat_eq made
  asked_once : IsDistinct nat_eq asked
  made_under : AllByRecursion (IsUnder last) made
  asked_under : AllByRecursion (IsUnder last) asked
  waits : (n : ℕ) → Awaits n w → IsUnder last n × (list_any (nat_eq n) made ≡ false)

-- a name was not used
record IsFree (n : ℕ) (made asked : List ℕ) (w : Option Waiting) : Type 0 where
  unmade : list_any (nat_eq n) made ≡ false
  unasked : list_any (nat_eq n) asked ≡ false
  waits : Awaits n w → ⊥

used_raised : (last : Option ℕ) (n : ℕ) (made asked : List ℕ) (w : Option Waiting) → IsNew last n → AreUsed last made asked w → AreUsed (Some n) made asked w
used_raised last n made asked w new u = record {
  made_once = u.made_once;
  asked_once = u.asked_once;
  made_under = all_as (IsUnder last) (IsUnder (Some n)) (λ m. raised last n m new) made u.made_under;
  asked_under = all_as (IsUnder last) (IsUnder (Some n)) (λ m. raised last n m new) asked u.asked_under;
  waits = λ m k. let h = u.waits m k in (raised last n m new h.0, h.1);
}

new_is_free : (last : Option ℕ) (n : ℕ) (made asked : List ℕ) (w : Option Waiting) → IsNew last n → AreUsed last made asked w → IsFree n made asked w
new_is_free last n made asked w new u = record {
  unmade = absent_new last n new made u.made_under;
  unasked = absent_new last n new asked u.asked_under;
  waits = λ k. above last n n new (u.waits n k).0 refl;
}

-- ---- what a deed does with names

-- Nothing; or a session is made for the call or for the one that waits, and none waits behind it; or a call is made on the
-- links; or it waits.
data Kind (call : Option ℕ) (made asked : List ℕ) (s t : State) : Type 0 where
  Still : made ≡ [] → asked ≡ [] → Stays s t → Kind call made asked s t
  Made : (n : ℕ) → IsBy call s n → made ≡ n ∷ [] → asked ≡ [] → ((m : ℕ) → Awaits m t.waiting → ⊥) → Kind call made asked s t
  Asked : (n : ℕ) → call ≡ Some n → made ≡ [] → asked ≡ n ∷ [] → Stays s t → Kind call made asked s t
  Waits : (n : ℕ) (x : SessionNumbers) → call ≡ Some n → made ≡ [] → asked ≡ [] → t.waiting ≡ Some (Accept n x) → Kind call made asked s t

used_as : (last : Option ℕ) (ms qs xs ys : List ℕ) (w : Option Waiting) → xs ≡ ms → ys ≡ qs → AreUsed last ms qs w → AreUsed last xs ys w
used_as last ms qs xs ys w e f u = subst (λ (z : List ℕ). AreUsed last z ys w) (sym e) (subst (λ (z : List ℕ). AreUsed last ms z w) (sym f) u)

free_as : (n : ℕ) (ms qs xs ys : List ℕ) (w : Option Waiting) → xs ≡ ms → ys ≡ qs → IsFree n ms qs w → IsFree n xs ys w
free_as n ms qs xs ys w e f u = subst (λ (z : List ℕ). IsFree n z ys w) (sym e) (subst (λ (z : List ℕ). IsFree n ms z w) (sym f) u)

no_more : (xs ys : List ℕ) → ys ≡ [] → xs ++ ys ≡ xs
no_more xs ys e = ap (λ (z : List ℕ). xs ++ z) e ∙ append-nil xs

one_added : (xs ys : List ℕ) (n : ℕ) → ys ≡ n ∷ [] → xs ++ ys ≡ xs ++ n ∷ []
one_added xs ys n e = ap (λ (z : List ℕ). xs ++ z) e

-- the name of the call, where it was not used, is one of them behind it
abbrev MayUse : Option ℕ → Option ℕ → List ℕ → List ℕ → Option Waiting → Type 0
MayUse last call ms qs w = (n : ℕ) → call ≡ Some n → IsUnder last n × IsFree n ms qs w

-- a session may be made under such a name
may_make : (last call : Option ℕ) (n : ℕ) (ms qs : List ℕ) (s : State) → AreUsed last ms qs s.waiting → MayUse last call ms qs s.waiting → IsBy call s n → IsUnder last n × (list_any (nat_eq n) ms ≡ false)
may_make last call n ms qs s u may (inl e) = let h = may n e in (h.0, h.1.unmade)
may_make last call n ms qs s u may (inr k) = u.waits n k

still_used : (last : Option ℕ) (ms qs : List ℕ) (v w : Option Waiting) → ((n : ℕ) → Awaits n w → Awaits n v) → AreUsed last ms qs v → AreUsed last ms qs w
still_used last ms qs v w k u = record {
  made_once = u.made_once;
  asked_once = u.asked_once;
  made_under = u.made_under;
  asked_under = u.asked_under;
  waits = λ n a. u.waits n (k n a);
}

used_then : (last call : Option ℕ) (ms qs made asked : List ℕ) (s t : State) → Kind call made asked s t → AreUsed last ms qs s.waiting → MayUse last call ms qs s.waiting → AreUsed last (ms ++ made) (qs ++ asked) t.waiting
used_then last call ms qs made asked s t (Still e f k) u may =
    used_as last ms qs (ms ++ made) (qs ++ asked) t.waiting (no_more ms made e) (no_more qs asked f) (still_used last ms qs s.waiting t.waiting k u)
used_then last call ms qs made asked s t (Made n by e f k) u may =
    let h = may_make last call n ms qs s u may by in
    used_as last (ms ++ n ∷ []) qs (ms ++ made) (qs ++ asked) t.waiting (one_added ms made n e) (no_more qs asked f)
    (record {
      made_once = IsDistinct-push nat_eq_equiv ms n u.made_once h.1;
      asked_once = u.asked_once;
      made_under = all_push (IsUnder last) ms n u.made_under h.0;
      asked_under = u.asked_under;
      waits = λ m a. absurd (k m a);
    })
used_then last call ms qs made asked s t (Asked n c e f k) u may =
    let h = may n c in
    used_as last ms (qs ++ n ∷ []) (ms ++ made) (qs ++ asked) t.waiting (no_more ms made e) (one_added qs asked n f)
    (record {
      made_once = u.made_once;
      asked_once = IsDistinct-push nat_eq_equiv qs n u.asked_once h.1.unasked;
      made_under = u.made_under;
      asked_under = all_push (IsUnder last) qs n u.asked_under h.0;
      waits = λ m a. u.waits m (k m a);
    })
used_then last call ms qs made asked s t (Waits n x c e f w) u may =
    let h = may n c in
    used_as last ms qs (ms ++ made) (qs ++ asked) t.waiting (no_more ms made e) (no_more qs asked f)
    (record {
      made_once = u.made_once;
      asked_once = u.asked_once;
      made_under = u.made_under;
      asked_under = u.asked_under;
      waits = λ m a.
          let same : n ≡ m = subst (λ (z : Option Waiting). Awaits m z) w a in
          subst (λ (z : ℕ). IsUnder last z × (list_any (nat_eq z) ms ≡ false)) same (h.0, h.1.unmade);
    })

-- what is done for no call leaves the name of one alone
free_then : (n : ℕ) (ms qs made asked : List ℕ) (s t : State) → Kind None made asked s t → IsFree n ms qs s.waiting → IsFree n (ms ++ made) (qs ++ asked) t.waiting
free_then n ms qs made asked s t (Still e f k) u =
    free_as n ms qs (ms ++ made) (qs ++ asked) t.waiting (no_more ms made e) (no_more qs asked f) (record { unmade = u.unmade; unasked = u.unasked; waits = λ a. u.waits (k n a) })
free_then n ms qs made asked s t (Made m (inl c) e f k) u = absurd (none-some m c)
free_then n ms qs made asked s t (Made m (inr w) e f k) u =
    free_as n (ms ++ m ∷ []) qs (ms ++ made) (qs ++ asked) t.waiting (one_added ms made m e) (no_more qs asked f)
    (record {
      unmade = absent_push n m ms u.unmade (ne_eqb n m (λ same. u.waits (subst (λ (z : ℕ). Awaits z s.waiting) (sym same) w)));
      unasked = u.unasked;
      waits = λ a. k n a;
    })
free_then n ms qs made asked s t (Asked m c e f k) u = absurd (none-some m c)
free_then n ms qs made asked s t (Waits m x c e f w) u = absurd (none-some m c)

-- ---- each deed is one of these

same_stays : (s t u : State) → t ≡ u → Stays s u → Stays s t
same_stays s t u e k n a = k n (subst (λ (z : State). Awaits n z.waiting) e a)

kept : (s t : State) → t ≡ s → Stays s t
kept s t e n a = subst (λ (z : State). Awaits n z.waiting) e a

none_waits : (s t u : State) → t ≡ u → ((n : ℕ) → Awaits n u.waiting → ⊥) → (n : ℕ) → Awaits n t.waiting → ⊥
none_waits s t u e k n a = k n (subst (λ (z : State). Awaits n z.waiting) e a)

move_kind : (call : Option ℕ) (m : move.Move) (s t : State) → t ≡ move.on m s → IsMoved call s m → Kind call (made_in (of_move m ∷ [])) [] s t
move_kind call (move.Begun name x channel limit) s t e k = Made name (inl k) refl refl (none_waits s t (move.on (move.Begun name x channel limit) s) e (λ n a. a))
move_kind call (move.Awaiting name x) s t e k = Waits name x k refl refl (ap (λ (z : State). z.waiting) e)
move_kind call (move.Refused name why) s t e k = Still refl refl (λ n a. absurd (none_waits s t (move.on (move.Refused name why) s) e (λ m b. b) n a))
move_kind call (move.Ended name session condition) s t e k = Still refl refl (same_stays s t (move.on (move.Ended name session condition) s) e (ended_stays name session condition s))
move_kind call (move.HandedOut name) s t e k = Still refl refl (same_stays s t (move.on (move.HandedOut name) s) e (handed_stays name s))
move_kind call (move.Halted why) s t e k = Still refl refl (same_stays s t (move.on (move.Halted why) s) e (λ n a. a))
move_kind call (move.Concluded why) s t e k = Still refl refl (same_stays s t (move.on (move.Concluded why) s) e (concluded_stays why s))

module _ {L : Type 0} (link : Ghosts L) (at : ℕ) where
  kind_of : (call : Option ℕ) (d : end.Deed) (p : Peering L) (s : State) (l : Links) (p' : Peering L) (t : State) (l' : Links) → end.IsDeed link at p s l d p' t l' → IsNamed call s d → Kind call (made_in (sessions_of d)) (asked_in (links_of at d s)) s t
  kind_of call (end.Makes name x events) p s l p' t l' h k = Still refl refl (kept s t h.1)
  kind_of call (end.Polls events) p s l p' t l' h k = Still refl refl (kept s t h.1)
  kind_of call (end.Goes events) p s l p' t l' h k = Still refl refl (kept s t h.1)
  kind_of call (end.Moves m) p s l p' t l' h k = move_kind call m s t h.1 k
  kind_of call (end.Hears x) p s l p' t l' h k = Still refl refl (same_stays s t _ h.2 (heard_stays (framed_of x) s))
  kind_of call (end.Writes x events) p s l p' t l' h k = Still refl refl (same_stays s t (record s { output = t.output }) h.0.takes.1 (λ n a. a))
  kind_of call (end.Seats channel) p s l p' t l' h k = Still refl refl (kept s t h.2)
  kind_of call (end.Lacks why) p s l p' t l' h k = Still refl refl (kept s t h.2)
  kind_of call (end.Frees channel) p s l p' t l' h k = Still refl refl (same_stays s t (record s { freed = t.freed }) h.0.1 (λ n a. a))
  kind_of call (end.Accepts name x channel limit incoming) p s l p' t l' h k = Made name k refl refl (none_waits s t _ h.2 (accepted_stays name x channel limit incoming s))
  kind_of call (end.Asks name x) p s l p' t l' h k = Asked name k refl refl (kept s t h.1)
  kind_of call (end.LinksHear session x) p s l p' t l' h k = Still refl refl (same_stays s t (record s { incoming = t.incoming }) h.1.1 (λ n a. a))
  kind_of call (end.LinksWrite session x) p s l p' t l' h k = Still refl refl (same_stays s t _ h.1 (written_stays session x s))
  kind_of call (end.LinksLack session) p s l p' t l' h k = Still refl refl (same_stays s t _ h.1 (refusing_stays session s))
  kind_of call end.LinksKnow p s l p' t l' h k = Still refl refl (kept s t h.1)
  kind_of call end.LinksLook p s l p' t l' h k = Still refl refl (kept s t h.1)
  kind_of call (end.Tells answers) p s l p' t l' h k = Still refl refl (same_stays s t (record s { replies = [] }) h.1 (λ n a. a))
  kind_of call (end.TellsFirst name answers) p s l p' t l' h k = Still refl refl (same_stays s t (record s { replies = [] }) h.1 (λ n a. a))

-- ---- deeds, one after another

abbrev made_by : List Both → List ℕ
made_by xs = made_in (sessions_by xs)

abbrev asked_by : List Both → List ℕ
asked_by xs = asked_in (links_by xs)

abbrev Used : Option ℕ → List Both → State → Type 0
Used last xs s = AreUsed last (made_by xs) (asked_by xs) s.waiting

abbrev Free : ℕ → List Both → State → Type 0
Free n xs s = IsFree n (made_by xs) (asked_by xs) s.waiting

made_one : (xs : List Both) (b : Both) → made_by (xs ++ b ∷ []) ≡ made_by xs ++ made_in b.sessions
made_one xs b =
    ap made_in (sessions_by_more xs (b ∷ []))
    ∙ (made_more (sessions_by xs) (b.sessions ++ []) ∙ ap (λ (ds : List sessions.Deed). made_by xs ++ made_in ds) (append-nil b.sessions))

asked_one : (xs : List Both) (b : Both) → asked_by (xs ++ b ∷ []) ≡ asked_by xs ++ asked_in b.links
asked_one xs b =
    ap asked_in (links_by_more xs (b ∷ []))
    ∙ (asked_more (links_by xs) (b.links ++ []) ∙ ap (λ (ds : List links.Deed). asked_by xs ++ asked_in ds) (append-nil b.links))

module _ {L : Type 0} (link : Ghosts L) (at : ℕ) where
  -- behind one more
  free_behind : (n : ℕ) (xs : List Both) (p : Peering L) (s : State) (l : Links) (ds : List end.Deed) (d : end.Deed) (p' : Peering L) (t : State) (l' : Links) (h : end.Did link at p s l (d ∷ ds) p' t l')
      → IsNamed None h.1 d → Free n (xs ++ both_in link at p s l ds h.0 h.1 h.2 h.3) h.1 → Free n (xs ++ both_in link at p s l (d ∷ ds) p' t l' h) t
  free_behind n xs p s l ds d p' t l' h k f =
      let done = both_in link at p s l ds h.0 h.1 h.2 h.3 in
      let it : Both = record { sessions = sessions_of d; links = links_of at d h.1 } in
      let next = free_then n (made_by (xs ++ done)) (asked_by (xs ++ done)) (made_in (sessions_of d)) (asked_in (links_of at d h.1)) h.1 t (kind_of link at None d h.0 h.1 h.2 p' t l' h.4 k) f in
      subst (λ (ys : List Both). Free n ys t) (append_assoc xs done (it ∷ []))
      (free_as n (made_by (xs ++ done) ++ made_in (sessions_of d)) (asked_by (xs ++ done) ++ asked_in (links_of at d h.1)) (made_by ((xs ++ done) ++ it ∷ [])) (asked_by ((xs ++ done) ++ it ∷ [])) t.waiting (made_one (xs ++ done) it) (asked_one (xs ++ done) it) next)

  used_behind : (last call : Option ℕ) (xs : List Both) (p : Peering L) (s : State) (l : Links) (ds : List end.Deed) (d : end.Deed) (p' : Peering L) (t : State) (l' : Links) (h : end.Did link at p s l (d ∷ ds) p' t l')
      → IsNamed call h.1 d → Used last (xs ++ both_in link at p s l ds h.0 h.1 h.2 h.3) h.1 → MayUse last call (made_by (xs ++ both_in link at p s l ds h.0 h.1 h.2 h.3)) (asked_by (xs ++ both_in link at p s l ds h.0 h.1 h.2 h.3)) h.1.waiting
      → Used last (xs ++ both_in link at p s l (d ∷ ds) p' t l' h) t
  used_behind last call xs p s l ds d p' t l' h k u may =
      let done = both_in link at p s l ds h.0 h.1 h.2 h.3 in
      let it : Both = record { sessions = sessions_of d; links = links_of at d h.1 } in
      let next = used_then last call (made_by (xs ++ done)) (asked_by (xs ++ done)) (made_in (sessions_of d)) (asked_in (links_of at d h.1)) h.1 t (kind_of link at call d h.0 h.1 h.2 p' t l' h.4 k) u may in
      subst (λ (ys : List Both). Used last ys t) (append_assoc xs done (it ∷ []))
      (used_as last (made_by (xs ++ done) ++ made_in (sessions_of d)) (asked_by (xs ++ done) ++ asked_in (links_of at d h.1)) (made_by ((xs ++ done) ++ it ∷ [])) (asked_by ((xs ++ done) ++ it ∷ [])) t.waiting (made_one (xs ++ done) it) (asked_one (xs ++ done) it) next)

  run_free : (n : ℕ) (xs : List Both) (p : Peering L) (s : State) (l : Links) (ds : List end.Deed) (p' : Peering L) (t : State) (l' : Links) (h : end.Did link at p s l ds p' t l')
      → AreNamed link at None p s l ds p' t l' h → Free n xs s → Free n (xs ++ both_in link at p s l ds p' t l' h) t
  run_free n xs p s l [] p' t l' h k f = subst (λ (ys : List Both). Free n ys t) (sym (append-nil xs)) (subst (λ (z : State). Free n xs z) (sym h.1) f)
  run_free n xs p s l (d ∷ ds) p' t l' h (inl k) f = free_behind n xs p s l ds d p' t l' h k.0 (run_free n xs p s l ds h.0 h.1 h.2 h.3 k.1 f)
  run_free n xs p s l (d ∷ ds) p' t l' h (inr k) f = free_behind n xs p s l ds d p' t l' h k.0 (run_free n xs p s l ds h.0 h.1 h.2 h.3 k.1 f)

  run_used : (last call : Option ℕ) (xs : List Both) (p : Peering L) (s : State) (l : Links) (ds : List end.Deed) (p' : Peering L) (t : State) (l' : Links) (h : end.Did link at p s l ds p' t l')
      → AreNamed link at call p s l ds p' t l' h → Used last xs s → MayUse last call (made_by xs) (asked_by xs) s.waiting → Used last (xs ++ both_in link at p s l ds p' t l' h) t
  run_used last call xs p s l [] p' t l' h k u may = subst (λ (ys : List Both). Used last ys t) (sym (append-nil xs)) (subst (λ (z : State). Used last xs z) (sym h.1) u)
  run_used last call xs p s l (d ∷ ds) p' t l' h (inl k) u may =
      used_behind last None xs p s l ds d p' t l' h k.0 (run_used last call xs p s l ds h.0 h.1 h.2 h.3 k.1 u may) (λ n e. absurd (none-some n e))
  run_used last call xs p s l (d ∷ ds) p' t l' h (inr k) u may =
      used_behind last call xs p s l ds d p' t l' h k.0 (run_used last None xs p s l ds h.0 h.1 h.2 h.3 k.1 u (λ n e. absurd (none-some n e)))
      (λ n c. let m = may n c in (m.0, run_free n xs p s l ds h.0 h.1 h.2 h.3 k.1 m.1))

-- ---- one step

abbrev or_zero : Option ℕ → ℕ
or_zero None = 0
or_zero (Some n) = n

told_used : (a b : Option ℕ) (xs : List Both) (s t : State) → b ≡ a → t ≡ s → Used a xs s → Used b xs t
told_used a b xs s t e f u = subst (λ (z : Option ℕ). Used z xs t) (sym e) (subst (λ (z : State). Used a xs z) (sym f) u)

-- the end that makes it
near_used : (near far near' far' : End Piped) (name at : ℕ) (act : Act) (entry : Entry) (t : Turned near far name at act near' far' entry) (xs : List Both)
    → Used near.last xs (seen near.sessions) → Used near'.last (xs ++ both_turned near far name at act near' far' entry t) (seen near'.sessions)
near_used near far near' far' name at (Take n) entry t xs u =
    let e = given near far n in
    told_used near.last near'.last (xs ++ both_turned near far name at (Take n) near' far' entry t) (seen t.ran.sessions) (seen near'.sessions) (t.told.last ∙ t.goes.last) (ap seen t.told.sessions)
    (run_used piping at near.last None xs e.connection (seen e.sessions) (linked e.links) t.goes.deeds t.ran.connection (seen t.ran.sessions) (linked t.ran.links) t.goes.did t.goes.named u (λ m c. absurd (none-some m c)))
near_used near far near' far' name at TakeAll entry t xs u =
    let e = given near far (count_of TakeAll far) in
    told_used near.last near'.last (xs ++ both_turned near far name at TakeAll near' far' entry t) (seen t.ran.sessions) (seen near'.sessions) (t.told.last ∙ t.goes.last) (ap seen t.told.sessions)
    (run_used piping at near.last None xs e.connection (seen e.sessions) (linked e.links) t.goes.deeds t.ran.connection (seen t.ran.sessions) (linked t.ran.links) t.goes.did t.goes.named u (λ m c. absurd (none-some m c)))
near_used near far near' far' name at (Call call) entry t xs u =
    let e = given near far 0 in
    let new = t.can.1.0 in
    let free = new_is_free near.last name (made_by xs) (asked_by xs) (seen near.sessions).waiting new u in
    let under : name ≤ name = omega arith in
    told_used (Some name) near'.last (xs ++ both_turned near far name at (Call call) near' far' entry t) (seen t.ran.sessions) (seen near'.sessions) (t.told.last ∙ t.goes.last) (ap seen t.told.sessions)
    (run_used piping at (Some name) (Some name) xs e.connection (seen e.sessions) (linked e.links) t.goes.deeds t.ran.connection (seen t.ran.sessions) (linked t.ran.links) t.goes.did t.goes.named
    (used_raised near.last name (made_by xs) (asked_by xs) (seen near.sessions).waiting new u)
    (λ m c. subst (λ (z : ℕ). IsUnder (Some name) z × Free z xs (seen near.sessions)) (ap or_zero c) (under, free)))

-- the other end
far_used : (near far near' far' : End Piped) (name at : ℕ) (act : Act) (entry : Entry) → Turned near far name at act near' far' entry → (xs : List Both) → Used far.last xs (seen far.sessions) → Used far'.last (xs ++ []) (seen far'.sessions)
far_used near far near' far' name at act entry t xs u =
    subst (λ (ys : List Both). Used far'.last ys (seen far'.sessions)) (sym (append-nil xs))
    (told_used far.last far'.last xs (seen far.sessions) (seen far'.sessions) (ap (λ (z : End Piped). z.last) t.far_end) (ap (λ (z : End Piped). seen z.sessions) t.far_end) u)

abbrev UsedAt : Side → View → List Both → Type 0
UsedAt e w xs = Used (end_at e w).last xs (sessions_at e w)

turn_used : (e d : Side) (name : ℕ) (old : View) (step : Step) (new : View) (entry : Entry) (t : IsTurnAt d name old step new entry) (xs : List Both)
    → UsedAt e old xs → UsedAt e new (xs ++ (if is_same e d then both_done_at d name old step new entry t else []))
turn_used Client Client name old step new entry t xs u = near_used old.client old.listener new.client new.listener name step.at step.act entry t xs u
turn_used Client Listener name old step new entry t xs u = far_used old.listener old.client new.listener new.client name step.at step.act entry t xs u
turn_used Listener Client name old step new entry t xs u = far_used old.client old.listener new.client new.listener name step.at step.act entry t xs u
turn_used Listener Listener name old step new entry t xs u = near_used old.listener old.client new.listener new.client name step.at step.act entry t xs u

-- ---- steps, one after another

turns_used : (e : Side) (old : View) (ss : List Step) (new : View) (t : Turns old ss new) (xs : List Both) → UsedAt e old xs → UsedAt e new (xs ++ both_over e old ss new t)
turns_used e old [] new t xs u = subst (λ (ys : List Both). UsedAt e new ys) (sym (append-nil xs)) (subst (λ (w : View). UsedAt e w xs) (sym t) u)
turns_used e old (s ∷ ss) new t xs u =
    let one : List Both = if is_same e s.end then both_done old s t.0 t.1 else [] in
    subst (λ (ys : List Both). UsedAt e new ys) (append_assoc xs one (both_over e t.0 ss new t.2))
    (turns_used e t.0 ss new t.2 (xs ++ one) (turn_used e s.end (length old.entries) old s t.0 t.1.entry t.1.turned xs u))

start_at : (e : Side) (w : View) → IsStart w → IsFresh e (end_at e w)
start_at Client w s = s.client
start_at Listener w s = s.listener

none_used : Used None [] none_begun
unfolding IsDistinct
none_used = record { made_once = tt; asked_once = tt; made_under = tt; asked_under = tt; waits = λ n k. absurd k }

pub names_are_used_once : NamesAreUsedOnce
names_are_used_once e steps entries m =
    let f = start_at e m.first m.starts in
    let u = turns_used e m.first steps m.view m.turns [] (told_used None (end_at e m.first).last [] none_begun (sessions_at e m.first) f.last f.sessions none_used) in
    record { made = u.made_once; asked = u.asked_once }
