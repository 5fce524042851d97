-- The sessions of an end go on: one session, all of them, and one step behind the other.
use Rattle.std.specs.Prelude.{◌≡◌, ℕ, nat_eq, Bool, true, false, cond, map, filter, List, [], ◌∷◌, ◌++◌, Option, Some, None, if◌then◌else◌, refl}
use Rattle.std.proofs.Common.{sym, ◌∙◌, ap, subst, append_assoc}
use Rattle.std.proofs.lemmas.Bool.{eqb-true}
use Rattle.std.proofs.lemmas.Grind.{flat_map-append}
use Rattle.std.proofs.lemmas.List.{append-nil, map-append}
use Rattle.std.proofs.lemmas.Map.{NonePasses}
use Rattle.std.proofs.lemmas.Map.Entries.{none_past_head, lookup-filter-values, option_filter}
use Rattle.std.proofs.lemmas.Map.Made.{IsDistinct-keys_filter}
use Rattle.std.specs.Cmp.{nat_eq_equiv}
use Rattle.std.specs.Map.{values_of, lookup, set_value}
use Rattle.std.specs.Option.{option_map}
use Rattle.indexmap.specs.IndexMap.{insert_entry, swap_remove_entry}
use Rattle.amqp_session.specs.declared.session.LinkInput.{LinkInput}
use Rattle.amqp_session.specs.State.{Framed}
use Rattle.amqp_sessions.specs.Parts.{EndpointState, named}
use Rattle.amqp_sessions.specs.State.{State, endpoint_of}
use Rattle.amqp_sessions.specs.Stops.{said, all_turned}
use Rattle.session_lives.specs.Lives.{Share, nothing, both, Lives}
use Rattle.session_lives.specs.Logs.{AreKeyed, own_in, own, Came, share, Fate, Goes}
use Rattle.session_lives.proofs.Lives.{out_share, lives_still, fate_still, fate_then, fate_as}
use Rattle.session_lives.proofs.Tables.{IsKeyed, set_at, set_keyed, insert_other, insert_keyed, gone, turned_keyed, turned_at, tail_keyed}

-- nothing comes
abbrev pub no_came : Came
no_came = record { heard = []; told = [] }

abbrev pub none_came : ℕ → Came
none_came n = no_came

-- this comes to the session of that name
abbrev pub came_to : ℕ → Came → ℕ → Came
came_to name c n = if nat_eq n name then c else no_came

-- first the one comes, then the other
abbrev pub join : Came → Came → Came
join c d = record { heard = c.heard ++ d.heard; told = c.told ++ d.told }

abbrev pub tagged : {X : Type 0} → ℕ → List X → List (ℕ × X)
tagged name xs = map (λ x. (name, x)) xs

-- the sessions but that of the call
abbrev pub Besides : ℕ → ℕ → Type 0
Besides name n = nat_eq n name ≡ false

-- ---- logs

pub own_more : {X : Type 0} (n : ℕ) (xs ys : List (ℕ × X)) → own n (xs ++ ys) ≡ own n xs ++ own n ys
own_more n xs ys = flat_map-append (own_in n) xs ys

own_here : {X : Type 0} (n name : ℕ) (xs : List X) → nat_eq n name ≡ true → own n (tagged name xs) ≡ xs
own_here n name [] h = refl
own_here n name (x ∷ xs) h = ap (λ b. (if b then x ∷ [] else []) ++ own n (tagged name xs)) h ∙ ap (λ ys. x ∷ ys) (own_here n name xs h)

own_none : {X : Type 0} (n name : ℕ) (xs : List X) → nat_eq n name ≡ false → own n (tagged name xs) ≡ []
own_none n name [] h = refl
own_none n name (x ∷ xs) h = ap (λ b. (if b then x ∷ [] else []) ++ own n (tagged name xs)) h ∙ own_none n name xs h

values_tagged : {X : Type 0} (name : ℕ) (xs : List X) → values_of (tagged name xs) ≡ xs
values_tagged name [] = refl
values_tagged name (x ∷ xs) = ap (λ ys. x ∷ ys) (values_tagged name xs)

pub came_none : (name n : ℕ) → came_to name no_came n ≡ no_came
came_none name n = by (nat_eq n name)
  where
    by : (b : Bool) → (if b then no_came else no_came) ≡ no_came
    by true = refl
    by false = refl

-- ---- what has become of one session

fate_where : (o p : Option EndpointState) (e f : EndpointState) (x y : Share) → o ≡ Some e → p ≡ Some f → x ≡ y → Lives e.session y f.session → Fate o x p
fate_where o p e f x y eo ep ex l =
    subst (λ z. Fate z x p) (sym eo) (subst (λ z. Fate (Some e) x z) (sym ep) (subst (λ z. Lives e.session z f.session) (sym ex) l))

pub fate_kept : (o p : Option EndpointState) (x : Share) → p ≡ o → x ≡ nothing → Fate o x p
fate_kept o p x ep ex = subst (λ z. Fate o x z) (sym ep) (subst (λ z. Fate o z o) (sym ex) (fate_still o))

fate_let_go : (o : Option EndpointState) → Fate o nothing None
fate_let_go None = refl
fate_let_go (Some e) = (e.session, lives_still e.session)

fate_gone : (o p : Option EndpointState) → p ≡ None → Fate o nothing p
fate_gone o p e = subst (λ z. Fate o nothing z) (sym e) (fate_let_go o)

fate_filtered : (keep : EndpointState → Bool) (o : Option EndpointState) → Fate o nothing (option_filter keep o)
fate_filtered keep None = refl
fate_filtered keep (Some e) = by (keep e)
  where
    by : (b : Bool) → Fate (Some e) nothing (cond b (Some e) None)
    by true = lives_still e.session
    by false = (e.session, lives_still e.session)

-- ---- what all of them say to their links

module _ (say : EndpointState → List LinkInput) where
  abbrev pub said_at : Option EndpointState → List LinkInput
  said_at None = []
  said_at (Some e) = say e

  none_said : (n : ℕ) (es : List (ℕ × EndpointState)) → NonePasses (nat_eq n) es → own n (said say es) ≡ []
  none_said n [] h = refl
  none_said n (e ∷ es) h =
      own_more n (named e.0 (say e.1)) (said say es) ∙ (ap (λ xs. xs ++ own n (said say es)) (own_none n e.0 (say e.1) h.0) ∙ none_said n es h.1)

  said_own : (n : ℕ) (es : List (ℕ × EndpointState)) → IsKeyed es → own n (said say es) ≡ said_at (lookup (nat_eq n) es)
  said_own n [] k = refl
  said_own n (e ∷ es) k = own_more n (named e.0 (say e.1)) (said say es) ∙ by (nat_eq n e.0) refl (said_own n es (tail_keyed e es k))
    where
      by : (b : Bool) → nat_eq n e.0 ≡ b → own n (said say es) ≡ said_at (lookup (nat_eq n) es) → own n (named e.0 (say e.1)) ++ own n (said say es) ≡ said_at (lookup (nat_eq n) (e ∷ es))
      by true h rest =
          ap (λ xs. xs ++ own n (said say es)) (own_here n e.0 (say e.1) h)
          ∙ (ap (λ xs. say e.1 ++ xs) (none_said n es (none_past_head nat_eq_equiv n e es k h))
          ∙ (append-nil (say e.1) ∙ sym (ap (λ b. said_at (cond b (Some e.1) (lookup (nat_eq n) es))) h)))
      by false h rest =
          ap (λ xs. xs ++ own n (said say es)) (own_none n e.0 (say e.1) h)
          ∙ (rest ∙ sym (ap (λ b. said_at (cond b (Some e.1) (lookup (nat_eq n) es))) h))

-- ---- one step

module _ (P : ℕ → Type 0) where
  -- one session goes on
  pub one_goes : (name : ℕ) (e f : EndpointState) (c : Came) (frames : List Framed) (inputs : List LinkInput) (old new : State) → AreKeyed old → endpoint_of name old ≡ Some e
      → Lives e.session (share c frames inputs) f.session → new.endpoints ≡ set_value (nat_eq name) old.endpoints f → new.output ≡ old.output ++ frames → new.incoming ≡ old.incoming ++ tagged name inputs
      → Goes P (came_to name c) old new
  one_goes name e f c frames inputs old new k at lives es o i =
      record {
        wrote = tagged name frames;
        gave = tagged name inputs;
        output = o ∙ ap (λ xs. old.output ++ xs) (sym (values_tagged name frames));
        incoming = i;
        keyed = subst IsKeyed (sym es) (set_keyed name old.endpoints f k);
        each = λ n among.
            subst (λ x. Fate (endpoint_of n old) (share (came_to name c n) (own n (tagged name frames)) (own n (tagged name inputs))) (lookup (nat_eq n) x)) (sym es) (by n (nat_eq n name) refl);
      }
    where
      by : (n : ℕ) (b : Bool) → nat_eq n name ≡ b → Fate (endpoint_of n old) (share (came_to name c n) (own n (tagged name frames)) (own n (tagged name inputs))) (lookup (nat_eq n) (set_value (nat_eq name) old.endpoints f))
      by n true h =
          let was : endpoint_of n old ≡ Some e = ap (λ m. endpoint_of m old) (eqb-true n name h) ∙ at in
          let is : lookup (nat_eq n) (set_value (nat_eq name) old.endpoints f) ≡ Some f = set_at name n old.endpoints e f at ∙ ap (λ b. cond b (Some f) (endpoint_of n old)) h in
          let p : came_to name c n ≡ c = ap (λ b. if b then c else no_came) h in
          let w : own n (tagged name frames) ≡ frames = own_here n name frames h in
          let g : own n (tagged name inputs) ≡ inputs = own_here n name inputs h in
          fate_where (endpoint_of n old) (lookup (nat_eq n) (set_value (nat_eq name) old.endpoints f)) e f (share (came_to name c n) (own n (tagged name frames)) (own n (tagged name inputs))) (share c frames inputs) was is (λ j. share (p j) (w j) (g j)) lives
      by n false h =
          let is : lookup (nat_eq n) (set_value (nat_eq name) old.endpoints f) ≡ endpoint_of n old = set_at name n old.endpoints e f at ∙ ap (λ b. cond b (Some f) (endpoint_of n old)) h in
          let p : came_to name c n ≡ no_came = ap (λ b. if b then c else no_came) h in
          let w : own n (tagged name frames) ≡ [] = own_none n name frames h in
          let g : own n (tagged name inputs) ≡ [] = own_none n name inputs h in
          fate_kept (endpoint_of n old) (lookup (nat_eq n) (set_value (nat_eq name) old.endpoints f)) (share (came_to name c n) (own n (tagged name frames)) (own n (tagged name inputs))) is (λ j. share (p j) (w j) (g j))

  -- the table stays
  pub goes_same : (old new : State) → AreKeyed old → new.endpoints ≡ old.endpoints → new.output ≡ old.output → new.incoming ≡ old.incoming → Goes P none_came old new
  goes_same old new k es o i =
      record {
        wrote = [];
        gave = [];
        output = o ∙ sym (append-nil old.output);
        incoming = i ∙ sym (append-nil old.incoming);
        keyed = subst IsKeyed (sym es) k;
        each = λ n among. fate_kept (endpoint_of n old) (endpoint_of n new) nothing (ap (lookup (nat_eq n)) es) refl;
      }

  pub goes_still : (s : State) → AreKeyed s → Goes P none_came s s
  goes_still s k = goes_same s s k refl refl refl

  -- a session is let go
  pub goes_gone : (name : ℕ) (old new : State) → AreKeyed old → new.endpoints ≡ swap_remove_entry (nat_eq name) old.endpoints → new.output ≡ old.output → new.incoming ≡ old.incoming → Goes P none_came old new
  goes_gone name old new k es o i =
      let g = gone name old.endpoints k in
      record {
        wrote = [];
        gave = [];
        output = o ∙ sym (append-nil old.output);
        incoming = i ∙ sym (append-nil old.incoming);
        keyed = subst IsKeyed (sym es) g.keyed;
        each = λ n among. by n (nat_eq n name) (ap (lookup (nat_eq n)) es ∙ g.at n);
      }
    where
      by : (n : ℕ) (b : Bool) → endpoint_of n new ≡ cond b None (endpoint_of n old) → Fate (endpoint_of n old) nothing (endpoint_of n new)
      by n true h = fate_gone (endpoint_of n old) (endpoint_of n new) h
      by n false h = fate_kept (endpoint_of n old) (endpoint_of n new) nothing h refl

  -- some are
  pub goes_filtered : (keep : EndpointState → Bool) (old new : State) → AreKeyed old → new.endpoints ≡ filter (λ e. keep e.1) old.endpoints → new.output ≡ old.output → new.incoming ≡ old.incoming → Goes P none_came old new
  goes_filtered keep old new k es o i =
      record {
        wrote = [];
        gave = [];
        output = o ∙ sym (append-nil old.output);
        incoming = i ∙ sym (append-nil old.incoming);
        keyed = subst IsKeyed (sym es) (IsDistinct-keys_filter nat_eq (λ e. keep e.1) old.endpoints k);
        each = λ n among.
            let is : endpoint_of n new ≡ option_filter keep (endpoint_of n old) = ap (lookup (nat_eq n)) es ∙ lookup-filter-values nat_eq_equiv keep n old.endpoints k in
            subst (λ z. Fate (endpoint_of n old) nothing z) (sym is) (fate_filtered keep (endpoint_of n old));
      }

  -- each goes on, and says that to its links
  pub goes_turned : (turn : EndpointState → EndpointState) (say : EndpointState → List LinkInput) (s : State) → AreKeyed s → ((e : EndpointState) → Lives e.session (out_share [] (say e)) (turn e).session) → Goes P none_came s (all_turned turn say s)
  goes_turned turn say s k lives =
      record {
        wrote = [];
        gave = said say s.endpoints;
        output = sym (append-nil s.output);
        incoming = refl;
        keyed = turned_keyed turn s.endpoints k;
        each = λ n among.
            subst (λ z. Fate (endpoint_of n s) (out_share [] (own n (said say s.endpoints))) z) (sym (turned_at turn n s.endpoints))
            (subst (λ xs. Fate (endpoint_of n s) (out_share [] xs) (option_map turn (endpoint_of n s))) (sym (said_own say n s.endpoints k)) (by (endpoint_of n s)));
      }
    where
      by : (o : Option EndpointState) → Fate o (out_share [] (said_at say o)) (option_map turn o)
      by None = refl
      by (Some e) = lives e

  -- what comes is that
  pub goes_came : (c d : ℕ → Came) (a b : State) → ((n : ℕ) → c n ≡ d n) → Goes P c a b → Goes P d a b
  goes_came c d a b same p =
      record {
        wrote = p.wrote;
        gave = p.gave;
        output = p.output;
        incoming = p.incoming;
        keyed = p.keyed;
        each = λ n among. subst (λ x. Fate (endpoint_of n a) (share x (own n p.wrote) (own n p.gave)) (endpoint_of n b)) (same n) (p.each n among);
      }

  -- one step behind the other
  pub goes_then : (c d : ℕ → Came) (a b e : State) → Goes P c a b → (AreKeyed b → Goes P d b e) → Goes P (λ n. join (c n) (d n)) a e
  goes_then c d a b e p h =
      let q = h p.keyed in
      record {
        wrote = p.wrote ++ q.wrote;
        gave = p.gave ++ q.gave;
        output =
            q.output ∙ (ap (λ xs. xs ++ values_of q.wrote) p.output
            ∙ (append_assoc a.output (values_of p.wrote) (values_of q.wrote) ∙ ap (λ xs. a.output ++ xs) (sym (map-append (λ (x : ℕ × Framed). x.1) p.wrote q.wrote))));
        incoming = q.incoming ∙ (ap (λ xs. xs ++ q.gave) p.incoming ∙ append_assoc a.incoming p.gave q.gave);
        keyed = q.keyed;
        each = λ n among.
            let x = share (c n) (own n p.wrote) (own n p.gave) in
            let y = share (d n) (own n q.wrote) (own n q.gave) in
            let w : own n p.wrote ++ own n q.wrote ≡ own n (p.wrote ++ q.wrote) = sym (own_more n p.wrote q.wrote) in
            let g : own n p.gave ++ own n q.gave ≡ own n (p.gave ++ q.gave) = sym (own_more n p.gave q.gave) in
            fate_as (endpoint_of n a) (endpoint_of n e) (both x y) (share (join (c n) (d n)) (own n (p.wrote ++ q.wrote)) (own n (p.gave ++ q.gave))) (λ j. share (join (c n) (d n)) (w j) (g j))
            (fate_then (endpoint_of n a) (endpoint_of n b) (endpoint_of n e) x y (p.each n among) (q.each n among));
      }

  -- a step in which nothing comes before it, and behind it
  pub goes_first : (d : ℕ → Came) (a b e : State) → Goes P none_came a b → (AreKeyed b → Goes P d b e) → Goes P d a e
  goes_first d a b e p h = goes_then none_came d a b e p h

  pub goes_last : (c : ℕ → Came) (a b e : State) → Goes P c a b → (AreKeyed b → Goes P none_came b e) → Goes P c a e
  goes_last c a b e p h =
      goes_came (λ n. join (c n) no_came) c a e (λ n. let x : (c n).heard ++ [] ≡ (c n).heard = append-nil (c n).heard in let y : (c n).told ++ [] ≡ (c n).told = append-nil (c n).told in (λ j. record { heard = x j; told = y j })) (goes_then c none_came a b e p h)

-- a session is made under the name of a call
pub goes_made : (name : ℕ) (f : EndpointState) (old new : State) → AreKeyed old → new.endpoints ≡ insert_entry nat_eq old.endpoints name f → new.output ≡ old.output → new.incoming ≡ old.incoming → Goes (Besides name) none_came old new
goes_made name f old new k es o i =
    record {
      wrote = [];
      gave = [];
      output = o ∙ sym (append-nil old.output);
      incoming = i ∙ sym (append-nil old.incoming);
      keyed = subst IsKeyed (sym es) (insert_keyed name f old.endpoints k);
      each = λ n among. fate_kept (endpoint_of n old) (endpoint_of n new) nothing (ap (lookup (nat_eq n)) es ∙ insert_other name n f old.endpoints among) refl;
    }
