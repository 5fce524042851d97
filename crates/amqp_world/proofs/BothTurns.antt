-- Where a step leaves both ends and what was made.
use Rattle.std.proofs.Common.{inl, inr, ◌≡◌, ◌↔◌, ◌+◌, ◌≤◌, List, ℕ, [], ◌∷◌, ◌++◌, true, false, Result, Ok, Err, OnOk, length, refl, sym, ap, ◌∙◌, subst}
use Rattle.std.proofs.lemmas.List.{length_push}
use Rattle.amqp_wire.specs.Piped.{Piped}
use Rattle.amqp_peer.specs.Peering.{Peering, fresh}
use Rattle.amqp_world.specs.declared.both.Both.{Both}
use Rattle.amqp_words.specs.declared.step.End.{End}
use Rattle.amqp_words.specs.declared.step.End.TheVariants.{Client, Listener}
use Rattle.amqp_words.specs.declared.step.Step.{Step}
use Rattle.amqp_words.specs.declared.trace.Entry.{Entry}
use Rattle.amqp_world.specs.History.{Event, is_same, last_moment}
use Rattle.amqp_world.specs.Valid.{IsValid, IsValidAct, kind_of}
use Rattle.amqp_world.specs.Explains.{past_of, Explained}
use Rattle.amqp_world.specs.Turn.{CanAct, Turned, IsTurn, IsTurnAt, empty_pipe}
use Rattle.amqp_world.specs.Related.{Sides, Related, past_in, view_of}
use Rattle.amqp_world.proofs.Growth.{past_more, length-past_of}
use Rattle.amqp_world.proofs.Sides.{sides_start, sides_client, sides_listener, histories, explains_turn, may_act}

past_turn : (b b' : Both) (s : Step) (x : Entry) → Related b → b'.steps ≡ b.steps ++ s ∷ [] → b'.trace.entries ≡ b.trace.entries ++ x ∷ [] → past_in b' ≡ record { step = s; entry = x } ∷ past_in b
past_turn b b' s x r steps entries =
    ap (λ (ss : List Step). past_of ss b'.trace.entries) steps ∙ ap (λ (xs : List Entry). past_of (b.steps ++ s ∷ []) xs) entries ∙ past_more b.steps b.trace.entries s x r.form

form_turn : (b b' : Both) (s : Step) (x : Entry) → Related b → b'.steps ≡ b.steps ++ s ∷ [] → b'.trace.entries ≡ b.trace.entries ++ x ∷ [] → length b'.steps ≡ length b'.trace.entries
form_turn b b' s x r steps entries =
    ap length steps ∙ length_push b.steps s ∙ ap (λ (n : ℕ). n + 1) r.form ∙ sym (ap length entries ∙ length_push b.trace.entries x)

-- the position of the next step is the length of the past
next_name : (b : Both) (name : ℕ) → Related b → name ≡ length b.steps → name ≡ length (past_in b)
next_name b name r e = e ∙ sym (length-past_of b.steps b.trace.entries r.form)

pub related_client : (b b' : Both) (s : Step) (x : Entry) (name : ℕ) → Related b → s.end ≡ Client → IsValid (past_in b) s → name ≡ length b.steps → Turned b.client b.listener name s.at s.act b'.client b'.listener x → b'.steps ≡ b.steps ++ s ∷ [] → b'.trace.entries ≡ b.trace.entries ++ x ∷ [] → b'.moment ≡ s.at → Related b'
related_client b b' s x name r h v e t steps entries moment =
    let ev : Event = record { step = s; entry = x } in
    let past : past_in b' ≡ ev ∷ past_in b = past_turn b b' s x r steps entries in
    let u : Turned b.client b.listener (length (past_in b)) s.at s.act b'.client b'.listener x = subst (λ (n : ℕ). Turned b.client b.listener n s.at s.act b'.client b'.listener x) (next_name b name r e) t in
    let n : is_same Client s.end ≡ true = ap (is_same Client) h in
    let m : is_same Listener s.end ≡ false = ap (is_same Listener) h in
    let va : IsValidAct Client (past_in b) s.act = subst (λ (y : End). IsValidAct y (past_in b) s.act) h v.act in
    let after : Sides b'.client b'.listener (ev ∷ past_in b) = sides_client ev (past_in b) b.client b.listener b'.client b'.listener h va r.sides u in
    let kinds = inl (after.client.begins, r.sides.listener.begins) in
    record {
      form = form_turn b b' s x r steps entries;
      sides = subst (Sides b'.client b'.listener) (sym past) after;
      explained = subst Explained (sym past) (explains_turn Client Listener ev (past_in b) b.client b.listener b'.client b'.listener n m h refl refl v r.sides.client r.sides.listener kinds u after.client after.listener (histories b'.client b'.listener (ev ∷ past_in b) after), r.explained);
      moment = moment ∙ sym (ap last_moment past);
    }

pub related_listener : (b b' : Both) (s : Step) (x : Entry) (name : ℕ) → Related b → s.end ≡ Listener → IsValid (past_in b) s → name ≡ length b.steps → Turned b.listener b.client name s.at s.act b'.listener b'.client x → b'.steps ≡ b.steps ++ s ∷ [] → b'.trace.entries ≡ b.trace.entries ++ x ∷ [] → b'.moment ≡ s.at → Related b'
related_listener b b' s x name r h v e t steps entries moment =
    let ev : Event = record { step = s; entry = x } in
    let past : past_in b' ≡ ev ∷ past_in b = past_turn b b' s x r steps entries in
    let u : Turned b.listener b.client (length (past_in b)) s.at s.act b'.listener b'.client x = subst (λ (n : ℕ). Turned b.listener b.client n s.at s.act b'.listener b'.client x) (next_name b name r e) t in
    let n : is_same Listener s.end ≡ true = ap (is_same Listener) h in
    let m : is_same Client s.end ≡ false = ap (is_same Client) h in
    let va : IsValidAct Listener (past_in b) s.act = subst (λ (y : End). IsValidAct y (past_in b) s.act) h v.act in
    let after : Sides b'.client b'.listener (ev ∷ past_in b) = sides_listener ev (past_in b) b.client b.listener b'.client b'.listener h va r.sides u in
    let kinds = inr (after.listener.begins, r.sides.client.begins) in
    record {
      form = form_turn b b' s x r steps entries;
      sides = subst (Sides b'.client b'.listener) (sym past) after;
      explained = subst Explained (sym past) (explains_turn Listener Client ev (past_in b) b.listener b.client b'.listener b'.client n m h refl refl v r.sides.listener r.sides.client kinds u after.listener after.client (histories b'.client b'.listener (ev ∷ past_in b) after), r.explained);
      moment = moment ∙ sym (ap last_moment past);
    }

-- no step was made
pub related_start : (b : Both) → b.client ≡ fresh empty_pipe (kind_of Client) → b.listener ≡ fresh empty_pipe (kind_of Listener) → b.steps ≡ [] → b.trace.entries ≡ [] → b.moment ≡ 0 → Related b
related_start b client listener steps entries moment =
    let past : past_in b ≡ [] = ap (λ (ss : List Step). past_of ss b.trace.entries) steps ∙ ap (λ (xs : List Entry). past_of [] xs) entries in
    record {
      form = ap length steps ∙ sym (ap length entries);
      sides = subst (Sides b.client b.listener) (sym past) (subst (λ (p : Peering Piped). Sides p b.listener []) (sym client) (subst (λ (q : Peering Piped). Sides (fresh empty_pipe (kind_of Client)) q []) (sym listener) sides_start));
      explained = subst Explained (sym past) tt;
      moment = moment ∙ sym (ap last_moment past);
    }

-- what the code tests is what is valid

pub may_client : (b : Both) (s : Step) (name : ℕ) → Related b → s.end ≡ Client → name ≡ length b.steps → CanAct b.client b.listener name s.act ↔ IsValidAct s.end (past_in b) s.act
may_client b s name r h e =
    let own : CanAct b.client b.listener (length (past_in b)) s.act ↔ IsValidAct Client (past_in b) s.act = may_act Client Listener b.client b.listener (past_in b) s.act refl r.sides.client r.sides.listener in
    let named : CanAct b.client b.listener name s.act ↔ IsValidAct Client (past_in b) s.act = subst (λ (n : ℕ). CanAct b.client b.listener n s.act ↔ IsValidAct Client (past_in b) s.act) (sym (next_name b name r e)) own in
    subst (λ (y : End). CanAct b.client b.listener name s.act ↔ IsValidAct y (past_in b) s.act) (sym h) named

pub may_listener : (b : Both) (s : Step) (name : ℕ) → Related b → s.end ≡ Listener → name ≡ length b.steps → CanAct b.listener b.client name s.act ↔ IsValidAct s.end (past_in b) s.act
may_listener b s name r h e =
    let own : CanAct b.listener b.client (length (past_in b)) s.act ↔ IsValidAct Listener (past_in b) s.act = may_act Listener Client b.listener b.client (past_in b) s.act refl r.sides.listener r.sides.client in
    let named : CanAct b.listener b.client name s.act ↔ IsValidAct Listener (past_in b) s.act = subst (λ (n : ℕ). CanAct b.listener b.client n s.act ↔ IsValidAct Listener (past_in b) s.act) (sym (next_name b name r e)) own in
    subst (λ (y : End). CanAct b.listener b.client name s.act ↔ IsValidAct y (past_in b) s.act) (sym h) named

-- what is tested at an end, after the moment, is whether the step is valid
pub valid_where : (b : Both) (s : Step) (T C : Type 0) → Related b → b.moment ≤ s.at → T ↔ C → C ↔ IsValidAct s.end (past_in b) s.act → T ↔ IsValid (past_in b) s
valid_where b s T C r late test may =
    (λ t. record { moment = subst (λ (n : ℕ). n ≤ s.at) r.moment late; act = may.0 (test.0 t) }, λ v. test.1 (may.1 v.act))

-- what holds where an answer is Ok, from two such facts
pub both_ok : {T E : Type 0} (r : Result T E) (P Q S : Type 0) → (P → Q → S) → OnOk r P → OnOk r Q → OnOk r S
both_ok (Ok v) P Q S f p q = f p q
both_ok (Err e) P Q S f p q = tt

-- ---- one step, in words of the view

pub turn_client : (old new : Both) (s : Step) (x : Entry) (name : ℕ) → s.end ≡ Client → name ≡ length old.steps → Turned old.client old.listener name s.at s.act new.client new.listener x → new.trace.entries ≡ old.trace.entries ++ x ∷ [] → IsTurn (view_of old false) s (view_of new false)
turn_client old new s x name e n t entries = record {
  entry = x;
  entries = entries;
  turned = subst (λ (y : End). IsTurnAt y (view_of old false) s (view_of new false) x) (sym e) (subst (λ (k : ℕ). Turned old.client old.listener k s.at s.act new.client new.listener x) n t);
}

pub turn_listener : (old new : Both) (s : Step) (x : Entry) (name : ℕ) → s.end ≡ Listener → name ≡ length old.steps → Turned old.listener old.client name s.at s.act new.listener new.client x → new.trace.entries ≡ old.trace.entries ++ x ∷ [] → IsTurn (view_of old false) s (view_of new false)
turn_listener old new s x name e n t entries = record {
  entry = x;
  entries = entries;
  turned = subst (λ (y : End). IsTurnAt y (view_of old false) s (view_of new false) x) (sym e) (subst (λ (k : ℕ). Turned old.listener old.client k s.at s.act new.listener new.client x) n t);
}
