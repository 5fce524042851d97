-- The links of an end go on: one link, what they share, and one step behind the other.
use Rattle.std.specs.Prelude.{◌≡◌, ℕ, nat_eq, Bool, true, false, List, [], ◌∷◌, ◌++◌, map, Option, Some, None, if◌then◌else◌, refl}
use Rattle.std.proofs.Common.{sym, ◌∙◌, ap, subst, append_assoc}
use Rattle.std.proofs.lemmas.Bool.{eqb-true}
use Rattle.std.proofs.lemmas.Grind.{flat_map-append}
use Rattle.std.proofs.lemmas.List.{append-nil}
use Rattle.std.specs.Map.{lookup, set_value}
use Rattle.amqp_parts.specs.declared.part.Part.{Part}
use Rattle.amqp_links.specs.amqp_link_calls.Called.{Called}
use Rattle.amqp_session_links.specs.State.{State as Place, none_attached}
use Rattle.amqp_links.specs.Parts.{Astray}
use Rattle.amqp_links.specs.State.{State, place_of, link_of, with_place, stepped, at_place, entered_at, entered}
use Rattle.amqp_links.specs.Attaching.{standing}
use Rattle.link_lives.specs.Lives.{Event, Went}
use Rattle.link_lives.specs.Logs.{Entry, Of, Strayed, event_of, own, told, told_in, is_named, accepts_as, IsFree, Fate, Keeps, Goes}
use Rattle.link_lives.proofs.Called.{went_still, went_then}
use Rattle.link_lives.proofs.Tables.{set_at, set_holds, insert_holds, insert_other}

-- no link reads a Transfer
abbrev pub nothing : ℕ → List Part
nothing n = []

-- ---- what has become of one link

fate_still : (o : Option Called) → Fate o [] [] o
fate_still None = refl
fate_still (Some l) = went_still l

fate_then : (a b c : Option Called) (es fs : List Event) (ps qs : List Part) → Fate a es ps b → Fate b fs qs c → Fate a (es ++ fs) (ps ++ qs) c
fate_then None None None es fs ps qs p q = ap (λ xs. xs ++ fs) p ∙ q
fate_then None None (Some n) es fs ps qs p q = q
fate_then None (Some m) c es fs ps qs p q = absurd p
fate_then (Some l) None c es fs ps qs p q = absurd p
fate_then (Some l) (Some m) None es fs ps qs p q = q
fate_then (Some l) (Some m) (Some n) es fs ps qs p q = went_then l m n es fs ps qs p q

-- links and what they share are the same
pub keeps_same : (n : ℕ) (old new : State) → new.sessions ≡ old.sessions → new.endpoints ≡ old.endpoints → IsFree n old → Keeps n old [] [] new
keeps_same n old new s e free =
    record {
      free = λ session. ap (λ ps. accepts_as n (lookup (nat_eq session) ps)) s ∙ free session;
      fate = subst (λ es. Fate (link_of n old) [] [] (lookup (nat_eq n) es)) (sym e) (fate_still (link_of n old));
    }

own_here : (link n : ℕ) (es : List Event) → nat_eq link n ≡ true → own n (map (Of link) es) ≡ es
own_here link n [] h = refl
own_here link n (e ∷ es) h = ap (λ b. (if b then e ∷ [] else []) ++ own n (map (Of link) es)) h ∙ ap (λ xs. e ∷ xs) (own_here link n es h)

own_none : (link n : ℕ) (es : List Event) → nat_eq link n ≡ false → own n (map (Of link) es) ≡ []
own_none link n [] h = refl
own_none link n (e ∷ es) h = ap (λ b. (if b then e ∷ [] else []) ++ own n (map (Of link) es)) h ∙ own_none link n es h

pub told_more : (xs ys : List Entry) → told (xs ++ ys) ≡ told xs ++ told ys
told_more xs ys = flat_map-append told_in xs ys

own_more : (n : ℕ) (xs ys : List Entry) → own n (xs ++ ys) ≡ own n xs ++ own n ys
own_more n xs ys = flat_map-append (event_of n) xs ys

-- one step behind the other, for one link
pub keeps_then : (n : ℕ) (a b c : State) (xs ys : List Entry) (ps qs : List Part) → Keeps n a (own n xs) ps b → Keeps n b (own n ys) qs c → Keeps n a (own n (xs ++ ys)) (ps ++ qs) c
keeps_then n a b c xs ys ps qs p q =
    record {
      free = q.free;
      fate = subst (λ es. Fate (link_of n a) es (ps ++ qs) (link_of n c)) (sym (own_more n xs ys)) (fate_then (link_of n a) (link_of n b) (link_of n c) (own n xs) (own n ys) ps qs p.fate q.fate);
    }

module _ (P : ℕ → Type 0) where
  -- one step behind the other
  pub goes_then : (R Q : ℕ → List Part) (a b c : State) → Goes P R a b → Goes P Q b c → Goes P (λ n. R n ++ Q n) a c
  goes_then R Q a b c p q =
      record {
        log = p.log ++ q.log;
        output =
            q.output ∙ (ap (λ xs. xs ++ told q.log) p.output ∙ (append_assoc a.output (told p.log) (told q.log) ∙ ap (λ xs. a.output ++ xs) (sym (told_more p.log q.log))));
        each = λ n among free.
            let k = p.each n among free in keeps_then n a b c p.log q.log (R n) (Q n) k (q.each n among k.free);
      }

  -- nothing becomes of the links, and places stay free
  pub goes_free : (old new : State) → new.endpoints ≡ old.endpoints → new.output ≡ old.output → ((n : ℕ) → P n → IsFree n old → IsFree n new) → Goes P nothing old new
  goes_free old new e o f =
      record {
        log = [];
        output = o ∙ sym (append-nil old.output);
        each = λ n among free. record {
          free = f n among free;
          fate = subst (λ es. Fate (link_of n old) [] [] (lookup (nat_eq n) es)) (sym e) (fate_still (link_of n old));
        };
      }

  pub goes_same : (old new : State) → new.sessions ≡ old.sessions → new.endpoints ≡ old.endpoints → new.output ≡ old.output → Goes P nothing old new
  goes_same old new s e o =
      goes_free old new e o (λ n among free session. ap (λ ps. accepts_as n (lookup (nat_eq session) ps)) s ∙ free session)

  -- what is read is the same
  pub goes_reads_among : (R Q : ℕ → List Part) (a b : State) → ((n : ℕ) → P n → R n ≡ Q n) → Goes P R a b → Goes P Q a b
  goes_reads_among R Q a b same p =
      record {
        log = p.log;
        output = p.output;
        each = λ n among free.
            let k = p.each n among free in
            record { free = k.free; fate = subst (λ ps. Fate (link_of n a) (own n p.log) ps (link_of n b)) (same n among) k.fate };
      }

  pub goes_reads : (R Q : ℕ → List Part) (a b : State) → ((n : ℕ) → R n ≡ Q n) → Goes P R a b → Goes P Q a b
  goes_reads R Q a b same p = goes_reads_among R Q a b (λ n among. same n) p

  -- nothing more is read
  pub goes_quietly : (R : ℕ → List Part) (a b c : State) → Goes P R a b → Goes P nothing b c → Goes P R a c
  goes_quietly R a b c p q = goes_reads (λ n. R n ++ []) R a c (λ n. append-nil (R n)) (goes_then R nothing a b c p q)

  -- a link that is not there reads nothing
  pub goes_missing : (link : ℕ) (R : ℕ → List Part) (s : State) → link_of link s ≡ None → ((n : ℕ) → nat_eq link n ≡ false → R n ≡ []) → Goes P R s s
  goes_missing link R s at others =
      record { log = []; output = sym (append-nil s.output); each = λ n among free. record { free = free; fate = by n (nat_eq link n) refl } }
    where
      by : (n : ℕ) (b : Bool) → nat_eq link n ≡ b → Fate (link_of n s) [] (R n) (link_of n s)
      by n true h = subst (λ o. Fate o [] (R n) o) (sym (ap (λ k. link_of k s) (sym (eqb-true link n h)) ∙ at)) refl
      by n false h = subst (λ ps. Fate (link_of n s) [] ps (link_of n s)) (sym (others n h)) (fate_still (link_of n s))

  pub goes_still : (s : State) → Goes P nothing s s
  goes_still s = goes_same s s refl refl refl

  -- one link goes on
  pub link_goes : (link : ℕ) (l m : Called) (es : List Event) (R : ℕ → List Part) (old new : State) → link_of link old ≡ Some l → Went l es (R link) m → ((n : ℕ) → nat_eq link n ≡ false → R n ≡ [])
      → new.sessions ≡ old.sessions → new.endpoints ≡ set_value (nat_eq link) old.endpoints m → new.output ≡ old.output ++ told (map (Of link) es) → Goes P R old new
  link_goes link l m es R old new at went others s e o =
      record {
        log = map (Of link) es;
        output = o;
        each = λ n among free. record {
          free = λ session. ap (λ ps. accepts_as n (lookup (nat_eq session) ps)) s ∙ free session;
          fate = subst (λ x. Fate (link_of n old) (own n (map (Of link) es)) (R n) (lookup (nat_eq n) x)) (sym e) (by n (nat_eq link n) refl);
        };
      }
    where
      by : (n : ℕ) (b : Bool) → nat_eq link n ≡ b → Fate (link_of n old) (own n (map (Of link) es)) (R n) (lookup (nat_eq n) (set_value (nat_eq link) old.endpoints m))
      by n true h =
          let same : link ≡ n = eqb-true link n h in
          let new_at : lookup (nat_eq n) (set_value (nat_eq link) old.endpoints m) ≡ Some m = set_at link n old.endpoints l m at ∙ ap (λ b. if b then Some m else link_of n old) h in
          let old_at : link_of n old ≡ Some l = ap (λ k. link_of k old) (sym same) ∙ at in
          let went_n : Went l es (R n) m = subst (λ k. Went l es (R k) m) same went in
          subst (λ x. Fate (link_of n old) (own n (map (Of link) es)) (R n) x) (sym new_at)
          (subst (λ x. Fate x (own n (map (Of link) es)) (R n) (Some m)) (sym old_at)
          (subst (λ x. Fate (Some l) x (R n) (Some m)) (sym (own_here link n es h)) went_n))
      by n false h =
          let new_at : lookup (nat_eq n) (set_value (nat_eq link) old.endpoints m) ≡ link_of n old = set_at link n old.endpoints l m at ∙ ap (λ b. if b then Some m else link_of n old) h in
          subst (λ x. Fate (link_of n old) (own n (map (Of link) es)) (R n) x) (sym new_at)
          (subst (λ x. Fate (link_of n old) x (R n) (link_of n old)) (sym (own_none link n es h))
          (subst (λ x. Fate (link_of n old) [] x (link_of n old)) (sym (others n h)) (fate_still (link_of n old))))

  -- it reads nothing and tells nothing
  pub link_stays : (link : ℕ) (l m : Called) (old new : State) → link_of link old ≡ Some l → Went l [] [] m → new.sessions ≡ old.sessions → new.endpoints ≡ set_value (nat_eq link) old.endpoints m → new.output ≡ old.output → Goes P nothing old new
  link_stays link l m old new at went s e o = link_goes link l m [] nothing old new at went (λ n h. refl) s e (o ∙ sym (append-nil old.output))

  -- the peer has attached a link that no call awaits
  pub goes_strayed : (session : ℕ) (s : State) → Goes P nothing s (record s { output = s.output ++ Astray session ∷ [] })
  goes_strayed session s =
      record { log = Strayed session ∷ []; output = refl; each = λ n among free. record { free = free; fate = fate_still (link_of n s) } }

  -- what the links of a session share goes on
  stepped_free : (o : Option Place) (session : ℕ) (f : Place → Place) (s : State) → place_of session s ≡ o → (n : ℕ) → ((p : Place) → is_named n p.accepting ≡ false → is_named n (f p).accepting ≡ false) → IsFree n s → IsFree n (stepped o session f s)
  stepped_free None session f s at n keeps free = free
  stepped_free (Some p) session f s at n keeps free = λ q.
      set_holds (λ x. accepts_as n x ≡ false) session q s.sessions p (f p) at (keeps p (ap (accepts_as n) (sym at) ∙ free session)) (free q)

  stepped_endpoints : (o : Option Place) (session : ℕ) (f : Place → Place) (s : State) → (stepped o session f s).endpoints ≡ s.endpoints
  stepped_endpoints None session f s = refl
  stepped_endpoints (Some p) session f s = refl

  stepped_output : (o : Option Place) (session : ℕ) (f : Place → Place) (s : State) → (stepped o session f s).output ≡ s.output
  stepped_output None session f s = refl
  stepped_output (Some p) session f s = refl

  pub place_goes : (session : ℕ) (f : Place → Place) (s : State) → ((n : ℕ) → P n → (p : Place) → is_named n p.accepting ≡ false → is_named n (f p).accepting ≡ false) → Goes P nothing s (at_place session f s)
  place_goes session f s keeps =
      goes_free s (at_place session f s) (stepped_endpoints (place_of session s) session f s) (stepped_output (place_of session s) session f s)
      (λ n among free. stepped_free (place_of session s) session f s refl n (keeps n among) free)

  pub with_place_goes : (session : ℕ) (p q : Place) (s : State) → place_of session s ≡ Some p → q.accepting ≡ p.accepting → Goes P nothing s (with_place session q s)
  with_place_goes session p q s at same =
      goes_free s (with_place session q s) refl refl
      (λ n among free other. set_holds (λ x. accepts_as n x ≡ false) session other s.sessions p q at (ap (is_named n) same ∙ (ap (accepts_as n) (sym at) ∙ free session)) (free other))

  -- no call that waits changes
  pub place_stays : (session : ℕ) (f : Place → Place) (s : State) → ((p : Place) → (f p).accepting ≡ p.accepting) → Goes P nothing s (at_place session f s)
  place_stays session f s same = place_goes session f s (λ n among p h. ap (is_named n) (same p) ∙ h)

  entered_goes_at : (o : Option Place) (session : ℕ) (s : State) → place_of session s ≡ o → Goes P nothing s (entered_at o session s)
  entered_goes_at None session s at =
      goes_free s (entered_at None session s) refl refl (λ n among free q. insert_holds (λ x. accepts_as n x ≡ false) session q none_attached s.sessions refl (free q))
  entered_goes_at (Some p) session s at = goes_still s

  pub entered_goes : (session : ℕ) (s : State) → Goes P nothing s (entered session s)
  entered_goes session s = entered_goes_at (place_of session s) session s refl

  pub goes_either : (b : Bool) (R : ℕ → List Part) (s t u : State) → Goes P R s t → Goes P R s u → Goes P R s (if b then t else u)
  goes_either true R s t u p q = p
  goes_either false R s t u p q = q

-- a link is made under the name of a call
pub goes_made : (name : ℕ) (l : Called) (s : State) → Goes (λ n. nat_eq name n ≡ false) nothing s (standing name l s)
goes_made name l s =
    record {
      log = [];
      output = sym (append-nil s.output);
      each = λ n among free. record {
        free = free;
        fate = subst (λ o. Fate (link_of n s) [] [] o) (sym (insert_other name n l s.endpoints among)) (fate_still (link_of n s));
      };
    }

-- behind a step a further one, in which those links take part of which the state before says so
pub goes_known : (P Q : ℕ → Type 0) (a b c : State) → ((n : ℕ) → P n → IsFree n a → Q n) → Goes P nothing a b → Goes Q nothing b c → Goes P nothing a c
goes_known P Q a b c f p q =
    let among = λ (n : ℕ). P n × IsFree n a in
    let first : Goes among nothing a b = record { log = p.log; output = p.output; each = λ n m free. p.each n m.0 free } in
    let last : Goes among nothing b c = record { log = q.log; output = q.output; each = λ n m free. q.each n (f n m.0 m.1) free } in
    let r = goes_then among nothing nothing a b c first last in
    record { log = r.log; output = r.output; each = λ n m free. r.each n (m, free) free }
