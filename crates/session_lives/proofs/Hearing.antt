-- Sessions hear frames, take those of their links, and hand out what they have.
use Rattle.std.specs.Prelude.{◌≡◌, ℕ, nat_eq, Bool, true, false, List, [], ◌∷◌, Option, Some, None, if◌then◌else◌, refl}
use Rattle.std.proofs.Common.{sym, ◌∙◌, ap}
use Rattle.std.proofs.lemmas.Bool.{eqb-true}
use Rattle.std.proofs.lemmas.List.{append-nil}
use Rattle.std.specs.Map.{lookup}
use Rattle.indexmap.specs.IndexMap.{swap_remove_entry}
use Rattle.amqp_frames.specs.declared.shared.LinkFrame.{LinkFrame}
use Rattle.amqp_session.specs.declared.error.BeginError.TheVariants.{RemoteEnded}
use Rattle.amqp_session.specs.declared.error.Error.{Error}
use Rattle.amqp_session.specs.State.{Framed}
use Rattle.amqp_sessions.specs.declared.endpoint.Change.{Change}
use Rattle.amqp_sessions.specs.declared.endpoint.Change.TheVariants.{Same, Begun, Refused, Gone, Answered}
use Rattle.amqp_sessions.specs.Parts.{EndpointState}
use Rattle.amqp_sessions.specs.Endpoint.{hearing, change_of, having_heard, having_written, having_refused, emptied}
use Rattle.amqp_sessions.specs.Frames.{place_of, joined, refused, freed_at, freed_own, freed, end_reply, concluding_for, concluding, changed, hearing_at, kept_at, kept, heard_by, heard, heard_all, heard_early_at, heard_early, written_at, written, refusing_at, refusing}
use Rattle.amqp_sessions.specs.State.{State, endpoint_of, with_endpoint, let_go, answering, handing, handed_out}
use Rattle.session_lives.specs.Lives.{Lives}
use Rattle.session_lives.specs.Logs.{AreKeyed, Came, Goes}
use Rattle.session_lives.specs.Deeds.{where_there, hears_if, hears_by, hears_all, early_at, hears_early}
use Rattle.session_lives.proofs.Lives.{lives_hears, lives_tells, lives_refuses, lives_emptied}
use Rattle.session_lives.proofs.Going.{no_came, none_came, came_to, came_none, one_goes, goes_same, goes_still, goes_gone, goes_came, goes_then, goes_first, goes_last}

there_none : {X : Type 0} (o : Option EndpointState) → where_there {X = X} o [] ≡ []
there_none None = refl
there_none (Some e) = refl

-- what comes to one session comes where it stands
there_one : {X : Type 0} (name n : ℕ) (s : State) (e : EndpointState) (xs : List X) → endpoint_of name s ≡ Some e → (if nat_eq n name then xs else []) ≡ where_there (endpoint_of n s) (if nat_eq n name then xs else [])
there_one {X} name n s e xs at = by (nat_eq n name) refl
  where
    by : (b : Bool) → nat_eq n name ≡ b → (if b then xs else []) ≡ where_there (endpoint_of n s) (if b then xs else [])
    by true h = sym (ap (λ (o : Option EndpointState). where_there o xs) (ap (λ m. endpoint_of m s) (eqb-true n name h) ∙ at))
    by false h = sym (there_none (endpoint_of n s))

-- and nothing where it does not
there_missing : {X : Type 0} (name n : ℕ) (s : State) (xs : List X) → endpoint_of name s ≡ None → where_there (endpoint_of n s) (if nat_eq n name then xs else []) ≡ []
there_missing {X} name n s xs at = by (nat_eq n name) refl
  where
    by : (b : Bool) → nat_eq n name ≡ b → where_there (endpoint_of n s) (if b then xs else []) ≡ []
    by true h = ap (λ (o : Option EndpointState). where_there o xs) (ap (λ m. endpoint_of m s) (eqb-true n name h) ∙ at)
    by false h = there_none (endpoint_of n s)

abbrev pub hears_only : List Framed → Came
hears_only xs = record { heard = xs; told = [] }

abbrev pub tells_only : List LinkFrame → Came
tells_only xs = record { heard = []; told = xs }

hears_one : (name n : ℕ) (s : State) (e : EndpointState) (xs : List Framed) → endpoint_of name s ≡ Some e → came_to name (hears_only xs) n ≡ hears_only (where_there (endpoint_of n s) (if nat_eq n name then xs else []))
hears_one name n s e xs at = by (nat_eq n name) ∙ ap hears_only (there_one name n s e xs at)
  where
    by : (b : Bool) → (if b then hears_only xs else no_came) ≡ hears_only (if b then xs else [])
    by true = refl
    by false = refl

tells_one : (name n : ℕ) (s : State) (e : EndpointState) (xs : List LinkFrame) → endpoint_of name s ≡ Some e → came_to name (tells_only xs) n ≡ tells_only (where_there (endpoint_of n s) (if nat_eq n name then xs else []))
tells_one name n s e xs at = by (nat_eq n name) ∙ ap tells_only (there_one name n s e xs at)
  where
    by : (b : Bool) → (if b then tells_only xs else no_came) ≡ tells_only (if b then xs else [])
    by true = refl
    by false = refl

module _ (P : ℕ → Type 0) where
  -- ---- what a session has goes out

  handing_goes : (o : Option EndpointState) (name : ℕ) (s : State) → AreKeyed s → endpoint_of name s ≡ o → Goes P none_came s (handing name o s)
  handing_goes None name s k at = goes_still P s k
  handing_goes (Some e) name s k at =
      goes_came P (came_to name no_came) none_came s (handing name (Some e) s) (came_none name)
      (one_goes P name e (emptied e) no_came e.session.output e.session.incoming s (handing name (Some e) s) k at (lives_emptied e.session) refl refl refl)

  pub handed_goes : (name : ℕ) (s : State) → AreKeyed s → Goes P none_came s (handed_out name s)
  handed_goes name s k = handing_goes (endpoint_of name s) name s k refl

  -- a session goes on, and what it has goes out
  pub one_out_goes : (name : ℕ) (e f : EndpointState) (c : Came) (s : State) → AreKeyed s → endpoint_of name s ≡ Some e → Lives e.session (record { heard = c.heard; told = c.told; wrote = []; gave = [] }) f.session
      → Goes P (came_to name c) s (handed_out name (with_endpoint name f s))
  one_out_goes name e f c s k at lives =
      let u = with_endpoint name f s in
      goes_last P (came_to name c) s u (handed_out name u) (one_goes P name e f c [] [] s u k at lives refl (sym (append-nil s.output)) (sym (append-nil s.incoming))) (λ j. handed_goes name u j)

  -- ---- what becomes of a session

  pub let_go_goes : (name : ℕ) (s : State) → AreKeyed s → Goes P none_came s (let_go name s)
  let_go_goes name s k = goes_gone P name s (let_go name s) k refl refl refl

  pub freed_goes : (o : Option EndpointState) (s : State) → AreKeyed s → Goes P none_came s (freed_at o s)
  freed_goes None s k = goes_still P s k
  freed_goes (Some e) s k = goes_same P s (freed_at (Some e) s) k refl refl refl

  concluding_for_goes : (ending : Option ℕ) (is_left : Bool) (name : ℕ) (answer : Option Error) (s : State) → AreKeyed s → Goes P none_came s (concluding_for ending is_left name answer s)
  concluding_for_goes (Some end) is_left name answer s k =
      goes_first P none_came s (let_go name s) (answering end (end_reply answer) (let_go name s)) (let_go_goes name s k) (λ j. goes_same P (let_go name s) (answering end (end_reply answer) (let_go name s)) j refl refl refl)
  concluding_for_goes None true name answer s k = let_go_goes name s k
  concluding_for_goes None false name answer s k = goes_still P s k

  pub concluding_goes : (o : Option EndpointState) (name : ℕ) (answer : Option Error) (s : State) → AreKeyed s → Goes P none_came s (concluding o name answer s)
  concluding_goes None name answer s k = goes_still P s k
  concluding_goes (Some e) name answer s k = concluding_for_goes e.ending e.is_left name answer s k

  pub both_freed_goes : (name remote : ℕ) (s : State) → AreKeyed s → Goes P none_came s (freed name remote s)
  both_freed_goes name remote s k =
      let t : State = record s { remotes = swap_remove_entry (nat_eq remote) s.remotes } in
      goes_first P none_came s t (freed name remote s) (goes_same P s t k refl refl refl) (λ j. freed_goes (endpoint_of name t) t j)

  pub changed_goes : (c : Change) (name remote : ℕ) (answer : Option Error) (s : State) → AreKeyed s → Goes P none_came s (changed c name remote answer s)
  changed_goes Same name remote answer s k = goes_still P s k
  changed_goes Begun name remote answer s k = goes_same P s (joined name remote s) k refl refl refl
  changed_goes Refused name remote answer s k =
      let a = freed_own name s in
      let b = let_go name a in
      goes_first P none_came s a (refused name RemoteEnded b) (freed_goes (endpoint_of name s) s k)
      (λ j. goes_first P none_came a b (refused name RemoteEnded b) (let_go_goes name a j) (λ i. goes_same P b (refused name RemoteEnded b) i refl refl refl))
  changed_goes Gone name remote answer s k = both_freed_goes name remote s k
  changed_goes Answered name remote answer s k =
      let t = freed name remote s in
      goes_first P none_came s t (concluding (endpoint_of name s) name answer t) (both_freed_goes name remote s k) (λ j. concluding_goes (endpoint_of name s) name answer t j)

  -- ---- a frame is read

  hearing_goes : (o : Option EndpointState) (name : ℕ) (x : Framed) (s : State) → AreKeyed s → endpoint_of name s ≡ o → Goes P (λ n. hears_only (where_there (endpoint_of n s) (if nat_eq n name then x ∷ [] else []))) s (hearing_at o name x s)
  hearing_goes None name x s k at =
      goes_came P none_came (λ n. hears_only (where_there (endpoint_of n s) (if nat_eq n name then x ∷ [] else []))) s s (λ n. ap hears_only (sym (there_missing name n s (x ∷ []) at))) (goes_still P s k)
  hearing_goes (Some e) name x s k at =
      let f = having_heard x e in
      let t = handed_out name (with_endpoint name f s) in
      let c = hears_only (x ∷ []) in
      goes_came P (came_to name c) (λ n. hears_only (where_there (endpoint_of n s) (if nat_eq n name then x ∷ [] else []))) s (hearing_at (Some e) name x s) (λ n. hears_one name n s e (x ∷ []) at)
      (goes_last P (came_to name c) s t (hearing_at (Some e) name x s) (one_out_goes name e f c s k at (lives_hears x e.session)) (λ j. changed_goes (change_of x e) name x.channel (hearing x e).answer t j))

  pub kept_goes : (o : Option (List Framed)) (x : Framed) (s : State) → AreKeyed s → Goes P none_came s (kept_at o x s)
  kept_goes None x s k = goes_same P s (kept_at None x s) k refl refl refl
  kept_goes (Some xs) x s k = goes_same P s (kept_at (Some xs) x s) k refl refl refl

  heard_by_goes : (o : Option ℕ) (x : Framed) (s : State) → AreKeyed s → Goes P (λ n. hears_only (where_there (endpoint_of n s) (hears_if o n x))) s (heard_by o x s)
  heard_by_goes None x s k =
      goes_came P none_came (λ n. hears_only (where_there (endpoint_of n s) [])) s (kept x s) (λ n. ap hears_only (sym (there_none (endpoint_of n s)))) (kept_goes (lookup (nat_eq x.channel) s.early) x s k)
  heard_by_goes (Some name) x s k = hearing_goes (endpoint_of name s) name x s k refl

  pub heard_goes : (x : Framed) (s : State) → AreKeyed s → Goes P (λ n. hears_only (hears_by x s n)) s (heard x s)
  heard_goes x s k = heard_by_goes (place_of x s) x s k

  pub heard_all_goes : (xs : List Framed) (s : State) → AreKeyed s → Goes P (λ n. hears_only (hears_all xs s n)) s (heard_all xs s)
  heard_all_goes [] s k = goes_still P s k
  heard_all_goes (x ∷ xs) s k =
      goes_then P (λ n. hears_only (hears_by x s n)) (λ n. hears_only (hears_all xs (heard x s) n)) s (heard x s) (heard_all (x ∷ xs) s) (heard_goes x s k) (λ j. heard_all_goes xs (heard x s) j)

  early_goes : (o : Option (List Framed)) (remote : ℕ) (s : State) → AreKeyed s → Goes P (λ n. hears_only (early_at o remote s n)) s (heard_early_at o remote s)
  early_goes None remote s k = goes_still P s k
  early_goes (Some xs) remote s k =
      let t : State = record s { early = swap_remove_entry (nat_eq remote) s.early } in
      goes_first P (λ n. hears_only (hears_all xs t n)) s t (heard_all xs t) (goes_same P s t k refl refl refl) (λ j. heard_all_goes xs t j)

  pub heard_early_goes : (remote : ℕ) (s : State) → AreKeyed s → Goes P (λ n. hears_only (hears_early remote s n)) s (heard_early remote s)
  heard_early_goes remote s k = early_goes (lookup (nat_eq remote) s.early) remote s k

  -- ---- a link writes a frame, or there is none for an Attach

  written_goes_at : (o : Option EndpointState) (name : ℕ) (x : LinkFrame) (s : State) → AreKeyed s → endpoint_of name s ≡ o → Goes P (λ n. tells_only (where_there (endpoint_of n s) (if nat_eq n name then x ∷ [] else []))) s (written_at o name x s)
  written_goes_at None name x s k at =
      goes_came P none_came (λ n. tells_only (where_there (endpoint_of n s) (if nat_eq n name then x ∷ [] else []))) s s (λ n. ap tells_only (sym (there_missing name n s (x ∷ []) at))) (goes_still P s k)
  written_goes_at (Some e) name x s k at =
      let c = tells_only (x ∷ []) in
      goes_came P (came_to name c) (λ n. tells_only (where_there (endpoint_of n s) (if nat_eq n name then x ∷ [] else []))) s (written_at (Some e) name x s) (λ n. tells_one name n s e (x ∷ []) at)
      (one_out_goes name e (having_written x e) c s k at (lives_tells x e.session))

  pub written_goes : (name : ℕ) (x : LinkFrame) (s : State) → AreKeyed s → Goes P (λ n. tells_only (where_there (endpoint_of n s) (if nat_eq n name then x ∷ [] else []))) s (written name x s)
  written_goes name x s k = written_goes_at (endpoint_of name s) name x s k refl

  refusing_goes_at : (o : Option EndpointState) (name : ℕ) (s : State) → AreKeyed s → endpoint_of name s ≡ o → Goes P none_came s (refusing_at o name s)
  refusing_goes_at None name s k at = goes_still P s k
  refusing_goes_at (Some e) name s k at =
      goes_came P (came_to name no_came) none_came s (refusing_at (Some e) name s) (came_none name) (one_out_goes name e (having_refused e) no_came s k at (lives_refuses e.session))

  pub refusing_goes : (name : ℕ) (s : State) → AreKeyed s → Goes P none_came s (refusing name s)
  refusing_goes name s k = refusing_goes_at (endpoint_of name s) name s k refl
