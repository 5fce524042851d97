-- The table of the sessions, place by place.
use Rattle.std.proofs.Common.{◌≡◌, ◌∙◌, ap, refl, sym, add-one, append_assoc, ℕ, zero, suc, ◌+◌, ◌≤◌, List, [], ◌∷◌, ◌++◌, length, map, drop, slice_get, Option, Some, None, arith}
use Rattle.std.proofs.lemmas.List.{append-nil}
use Rattle.std.specs.Map.{values_of}
use Rattle.indexmap.specs.Layout.{set_value_at}
use Rattle.amqp_session.specs.declared.session.LinkInput.{LinkInput}
use Rattle.amqp_sessions.specs.Parts.{EndpointState, named}
use Rattle.amqp_sessions.specs.State.{State}
use Rattle.amqp_sessions.specs.Stops.{turned_entry, said, all_turned, name_at, turned_in, turned_named, turned_at, ending_at, end_answered, ends_answered}

module _ (turn : EndpointState → EndpointState) (say : EndpointState → List LinkInput) where
  -- the sessions from that place on go on
  abbrev pub turned_from : ℕ → List (ℕ × EndpointState) → List (ℕ × EndpointState)
  turned_from n [] = []
  turned_from zero (e ∷ es) = turned_entry turn e ∷ turned_from zero es
  turned_from (suc n) (e ∷ es) = e ∷ turned_from n es

  -- and say that to their links
  abbrev pub said_from : ℕ → List (ℕ × EndpointState) → List (ℕ × LinkInput)
  said_from n [] = []
  said_from zero (e ∷ es) = named e.0 (say e.1) ++ said_from zero es
  said_from (suc n) (e ∷ es) = said_from n es

  abbrev pub all_from : ℕ → State → State
  all_from n s = record s { endpoints = turned_from n s.endpoints; incoming = s.incoming ++ said_from n s.endpoints }

  -- the session at that place alone
  abbrev pub placed : ℕ → List (ℕ × EndpointState) → List (ℕ × EndpointState)
  placed n [] = []
  placed zero (e ∷ es) = turned_entry turn e ∷ es
  placed (suc n) (e ∷ es) = e ∷ placed n es

  abbrev pub said_by : ℕ → List (ℕ × EndpointState) → List (ℕ × LinkInput)
  said_by n [] = []
  said_by zero (e ∷ es) = named e.0 (say e.1)
  said_by (suc n) (e ∷ es) = said_by n es

  turned_all : (es : List (ℕ × EndpointState)) → turned_from zero es ≡ map (turned_entry turn) es
  turned_all [] = refl
  turned_all (e ∷ es) = ap (λ xs. turned_entry turn e ∷ xs) (turned_all es)

  said_all : (es : List (ℕ × EndpointState)) → said_from zero es ≡ said say es
  said_all [] = refl
  said_all (e ∷ es) = ap (λ xs. named e.0 (say e.1) ++ xs) (said_all es)

  placed_next : (n : ℕ) (es : List (ℕ × EndpointState)) → turned_from (suc n) (placed n es) ≡ turned_from n es
  placed_next n [] = refl
  placed_next zero (e ∷ es) = refl
  placed_next (suc n) (e ∷ es) = ap (λ xs. e ∷ xs) (placed_next n es)

  said_next : (n : ℕ) (es : List (ℕ × EndpointState)) → said_by n es ++ said_from (suc n) (placed n es) ≡ said_from n es
  said_next n [] = refl
  said_next zero (e ∷ es) = refl
  said_next (suc n) (e ∷ es) = said_next n es

  placed_length : (n : ℕ) (es : List (ℕ × EndpointState)) → length (placed n es) ≡ length es
  placed_length n [] = refl
  placed_length zero (e ∷ es) = refl
  placed_length (suc n) (e ∷ es) = ap suc (placed_length n es)

  turned_none : (n : ℕ) (es : List (ℕ × EndpointState)) → length es ≤ n → turned_from n es ≡ es
  turned_none n [] h = refl
  turned_none zero (e ∷ es) h = absurd (omega arith)
  turned_none (suc n) (e ∷ es) h = ap (λ xs. e ∷ xs) (turned_none n es (omega arith))

  said_none : (n : ℕ) (es : List (ℕ × EndpointState)) → length es ≤ n → said_from n es ≡ []
  said_none n [] h = refl
  said_none zero (e ∷ es) h = absurd (omega arith)
  said_none (suc n) (e ∷ es) h = said_none n es (omega arith)

  -- what the code does at a place is that
  abbrev pub DoesAt : ℕ → State → List (ℕ × EndpointState) → List (ℕ × LinkInput) → Type 0
  DoesAt n s es said = turned_at turn say n s ≡ record s { endpoints = es; incoming = s.incoming ++ said }

  placed_set : (n : ℕ) (es : List (ℕ × EndpointState)) (e : ℕ × EndpointState) → slice_get es n ≡ Some e → (slice_get (values_of es) n ≡ Some e.1) × (set_value_at es n (turn e.1) ≡ placed n es) × (said_by n es ≡ named e.0 (say e.1))
  placed_set n [] e h = cc
  placed_set zero (f ∷ es) e h =
      let same : f ≡ e = cc in
      (ap (λ (g : ℕ × EndpointState). Some g.1) same, ap (λ (g : ℕ × EndpointState). (f.0, turn g.1) ∷ es) (sym same), ap (λ (g : ℕ × EndpointState). named g.0 (say g.1)) same)
  placed_set (suc n) (f ∷ es) e h =
      let rest = placed_set n es e h in
      (rest.0, ap (λ xs. f ∷ xs) rest.1, rest.2)

  placed_missing : (n : ℕ) (es : List (ℕ × EndpointState)) → slice_get es n ≡ None → (placed n es ≡ es) × (said_by n es ≡ [])
  placed_missing n [] h = (refl, refl)
  placed_missing zero (f ∷ es) h = cc
  placed_missing (suc n) (f ∷ es) h =
      let rest = placed_missing n es h in
      (ap (λ xs. f ∷ xs) rest.0, rest.1)

  does_at : (n : ℕ) (s : State) (o : Option (ℕ × EndpointState)) → slice_get s.endpoints n ≡ o → DoesAt n s (placed n s.endpoints) (said_by n s.endpoints)
  does_at n s None h =
      let missing = placed_missing n s.endpoints h in
      ap (λ p. turned_named turn say n (name_at p) s) h
      ∙ ap (λ xs. record s { incoming = xs }) (sym (append-nil s.incoming))
      ∙ ap (λ xs. record s { endpoints = xs; incoming = s.incoming ++ [] }) (sym missing.0)
      ∙ ap (λ xs. record s { endpoints = placed n s.endpoints; incoming = s.incoming ++ xs }) (sym missing.1)
  does_at n s (Some e) h =
      let set = placed_set n s.endpoints e h in
      ap (λ p. turned_named turn say n (name_at p) s) h
      ∙ ap (λ p. turned_in turn say n e.0 p s) set.0
      ∙ ap (λ xs. record s { endpoints = xs; incoming = s.incoming ++ named e.0 (say e.1) }) set.1
      ∙ ap (λ xs. record s { endpoints = placed n s.endpoints; incoming = s.incoming ++ xs }) (sym set.2)

  placed_at : (n : ℕ) (s t : State) → t ≡ turned_at turn say n s → t ≡ record s { endpoints = placed n s.endpoints; incoming = s.incoming ++ said_by n s.endpoints }
  placed_at n s t h = h ∙ does_at n s (slice_get s.endpoints n) refl

  -- the session at a place goes on: those behind it are left
  pub all_next : (n : ℕ) (s t : State) → t ≡ turned_at turn say n s → all_from (n + 1) t ≡ all_from n s
  all_next n s t h =
      rw add-one
      (ap (all_from (suc n)) (placed_at n s t h)
      ∙ ap (λ xs. record s { endpoints = xs; incoming = (s.incoming ++ said_by n s.endpoints) ++ said_from (suc n) (placed n s.endpoints) }) (placed_next n s.endpoints)
      ∙ ap (λ xs. record s { endpoints = turned_from n s.endpoints; incoming = xs }) (append_assoc s.incoming (said_by n s.endpoints) (said_from (suc n) (placed n s.endpoints)) ∙ ap (λ xs. s.incoming ++ xs) (said_next n s.endpoints)))

  pub all_count : (n : ℕ) (s t : State) → t ≡ turned_at turn say n s → length t.endpoints ≡ length s.endpoints
  all_count n s t h = ap (λ u. length u.endpoints) (placed_at n s t h) ∙ placed_length n s.endpoints

  -- none is left
  pub all_last : (n : ℕ) (s t : State) → length s.endpoints ≤ n → all_from n s ≡ all_from 0 t → s ≡ all_turned turn say t
  all_last n s t few h =
      sym (ap (λ xs. record s { endpoints = xs; incoming = s.incoming ++ said_from n s.endpoints }) (turned_none n s.endpoints few)
      ∙ ap (λ xs. record s { incoming = xs }) (ap (λ xs. s.incoming ++ xs) (said_none n s.endpoints few) ∙ append-nil s.incoming))
      ∙ h
      ∙ ap (λ xs. record t { endpoints = xs; incoming = t.incoming ++ said_from 0 t.endpoints }) (turned_all t.endpoints)
      ∙ ap (λ xs. record t { endpoints = map (turned_entry turn) t.endpoints; incoming = t.incoming ++ xs }) (said_all t.endpoints)

answers_next : (n : ℕ) (es : List (ℕ × EndpointState)) (s : State) → ends_answered (drop (suc n) es) (end_answered (ending_at (slice_get es n)) s) ≡ ends_answered (drop n es) s
answers_next zero [] s = refl
answers_next (suc n) [] s = refl
answers_next zero (e ∷ es) s = refl
answers_next (suc n) (e ∷ es) s = answers_next n es s

-- the `end` at a place is answered: those behind it are left
pub answered_next : (n : ℕ) (es : List (ℕ × EndpointState)) (s t : State) → t ≡ end_answered (ending_at (slice_get es n)) s → ends_answered (drop (n + 1) es) t ≡ ends_answered (drop n es) s
answered_next n es s t h = rw add-one (ap (ends_answered (drop (suc n) es)) h ∙ answers_next n es s)

-- an answer leaves the table
pub answered_same : (ending : Option ℕ) (s t : State) → t ≡ end_answered ending s → t.endpoints ≡ s.endpoints
answered_same None s t h = ap (λ u. u.endpoints) h
answered_same (Some end) s t h = ap (λ u. u.endpoints) h

-- none is left
pub answered_last : (n : ℕ) (es : List (ℕ × EndpointState)) (s : State) → length es ≤ n → ends_answered (drop n es) s ≡ s
answered_last zero [] s few = refl
answered_last (suc n) [] s few = refl
answered_last zero (e ∷ es) s few = absurd (omega arith)
answered_last (suc n) (e ∷ es) s few = answered_last n es s (omega arith)
