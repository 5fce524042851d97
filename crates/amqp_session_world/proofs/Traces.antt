-- The answers of the connections of two ends, step after step.
use Rattle.std.specs.Prelude.{All, slice_get}
use Rattle.std.proofs.Common.{◌≡◌, ◌+◌, ℕ, zero, suc, Bool, true, false, List, [], ◌∷◌, ◌++◌, if◌then◌else◌, length, Some, refl, sym, subst, arith}
use Rattle.std.proofs.lemmas.List.Elements.{All-nil, All-cons, All-append, All-weaker}
use Rattle.amqp_wire.specs.Piped.{Piped}
use Rattle.amqp_words.specs.declared.call.Call.{Call as ConnectionCall}
use Rattle.amqp_words.specs.declared.reply.NamedReply.{NamedReply as ConnectionReply}
use Rattle.amqp_words.specs.declared.step.End.{End as Side}
use Rattle.amqp_words.specs.declared.step.End.TheVariants.{Client, Listener}
use Rattle.amqp_end.specs.amqp_calls.declared.call.Call.TheVariants as on
use Rattle.amqp_end.specs.amqp_calls.declared.reply.NamedReply.{NamedReply}
use Rattle.amqp_end.specs.amqp_calls.declared.step.Act.{Act}
use Rattle.amqp_end.specs.amqp_calls.declared.step.Act.TheVariants.{Take, TakeAll, Call}
use Rattle.amqp_end.specs.amqp_calls.declared.step.Step.{Step}
use Rattle.amqp_end.specs.amqp_calls.declared.trace.Entry.{Entry}
use Rattle.amqp_end.specs.amqp_links.State.{seen as linked}
use Rattle.amqp_peer.specs.History.{Polled, made_in, replied_in}
use Rattle.amqp_peer.specs.Peering.{Peering}
use Rattle.amqp_end.specs.amqp_sessions.declared.sessions.Sessions.{Sessions}
use Rattle.amqp_end.specs.amqp_sessions.State.{State, seen}
use Rattle.amqp_world.specs.History.{is_same}
use Rattle.amqp_world.specs.Turn.{piping}
use Rattle.amqp_end.specs.declared.end.End.{End}
use Rattle.amqp_end.specs.Deeds.{behind, told_by}
use Rattle.amqp_end.proofs.Goes.{told_then}
use Rattle.amqp_session_world.specs.Turn.{View, count_of, calls_of, given, marked, named, Turned, IsTurnAt, Turns, IsFresh, IsStart, AreMade}
use Rattle.amqp_session_world.specs.Lives.{Life, unlived, lived, lived_if, done_at, done, life_of, wrote_at, told_at, calls_at}
use Rattle.amqp_session_world.specs.Carried.{Carried, life_in, AreCarried}
use Rattle.amqp_session_world.specs.Answers.{IsOfSession, AreOfSessions, of_connections, replies_to, IsTold, AreFirst, IsCausedIn, IsOnConnection, AreAnswered}
use Rattle.amqp_session_world.proofs.Sessions.{sessions_answer}
use Rattle.amqp_session_world.proofs.Telling.{ends_tell}
use Rattle.amqp_session_world.proofs.Causes.{all_caused, all_called, all_told}

-- ---- an end and its life

record Answers (e : End Piped) (l : Life) : Type 0 where
  pub sessions : AreOfSessions (seen e.sessions).replies
  pub told : IsTold (told_by l.deeds) e.connection.replies l.h

-- before the end goes on, with bytes of the other in its input and its name given
begun_answers : (near far : End Piped) (name : ℕ) (act : Act) (l : Life) → Answers near l → Answers (named name act (given near far (count_of act far))) l
begun_answers near far name (Take n) l k = record { sessions = k.sessions; told = k.told }
begun_answers near far name TakeAll l k = record { sessions = k.sessions; told = k.told }
begun_answers near far name (Call call) l k = record { sessions = k.sessions; told = k.told }

near_answers : (near far near' far' : End Piped) (name at : ℕ) (act : Act) (entry : Entry) (l : Life) (t : Turned near far name at act near' far' entry) → Answers near l → Answers near' (lived at t.goes.deeds l)
near_answers near far near' far' name at act entry l t k =
    let mid : End Piped = named name act (given near far (count_of act far)) in
    let b : Answers mid l = begun_answers near far name act l k in
    let ds = t.goes.deeds in
    let ran = t.ran in
    record {
      sessions = subst (λ (s : Sessions). AreOfSessions (seen s).replies) (sym t.told.sessions)
          (sessions_answer piping at mid.connection (seen mid.sessions) (linked mid.links) ds ran.connection (seen ran.sessions) (linked ran.links) t.goes.did b.sessions);
      told = subst (λ (p : Peering Piped). IsTold (told_by (ds ++ l.deeds)) p.replies (behind at ds (Polled at ∷ l.h))) (sym t.told.connection)
          (subst (λ (u : List NamedReply). IsTold u ran.connection.replies (behind at ds (Polled at ∷ l.h))) (sym (told_then ds l.deeds))
          (ends_tell piping at mid.connection (seen mid.sessions) (linked mid.links) ds ran.connection (seen ran.sessions) (linked ran.links) (told_by l.deeds) (Polled at ∷ l.h) t.goes.did b.sessions b.told));
    }

far_answers : (near far near' far' : End Piped) (name at : ℕ) (act : Act) (entry : Entry) (l : Life) → Turned near far name at act near' far' entry → Answers far l → Answers far' l
far_answers near far near' far' name at act entry l t k =
    let m : Answers (marked far (count_of act far)) l = record { sessions = k.sessions; told = k.told } in
    subst (λ (e : End Piped). Answers e l) (sym t.far_end) m

-- ---- all steps

-- an end of a view
abbrev end_at : Side → View → End Piped
end_at Client w = w.client
end_at Listener w = w.listener

turn_answers : (e d : Side) (name : ℕ) (old : View) (step : Step) (new : View) (entry : Entry) (t : IsTurnAt d name old step new entry) (l : Life) → Answers (end_at e old) l
    → Answers (end_at e new) (lived_if (is_same e d) step.at (done_at d name old step new entry t) l)
turn_answers Client Client name old step new entry t l k = near_answers old.client old.listener new.client new.listener name step.at step.act entry l t k
turn_answers Client Listener name old step new entry t l k = far_answers old.listener old.client new.listener new.client name step.at step.act entry l t k
turn_answers Listener Client name old step new entry t l k = far_answers old.client old.listener new.client new.listener name step.at step.act entry l t k
turn_answers Listener Listener name old step new entry t l k = near_answers old.listener old.client new.listener new.client name step.at step.act entry l t k

turns_answers : (e : Side) (old : View) (ss : List Step) (new : View) (t : Turns old ss new) (l : Life) → Answers (end_at e old) l → Answers (end_at e new) (life_of e old ss new t l)
turns_answers e old [] new t l k = subst (λ (w : View). Answers (end_at e w) l) (sym t) k
turns_answers e old (s ∷ ss) new t l k =
    turns_answers e t.0 ss new t.2 (lived_if (is_same e s.end) s.at (done old s t.0 t.1) l) (turn_answers e s.end (length old.entries) old s t.0 t.1.entry t.1.turned l k)

fresh_answers : (e : Side) (near : End Piped) → IsFresh e near → Answers near unlived
fresh_answers e near f = record {
  sessions = subst (λ (s : State). AreOfSessions s.replies) (sym f.sessions) (All-nil (λ (r : NamedReply). IsOfSession r.reply));
  told = subst (λ (p : Peering Piped). IsTold [] p.replies []) (sym f.connection) (λ name. refl);
}

start_answers : (e : Side) (w : View) → IsStart w → Answers (end_at e w) unlived
start_answers Client w s = fresh_answers Client w.client s.client
start_answers Listener w s = fresh_answers Listener w.listener s.listener

-- ---- the calls of the steps

-- the call of that name, the steps behind that many others
record IsOneOf (e : Side) (n : ℕ) (steps : List Step) (name : ℕ) : Type 0 where
  pub place : ℕ
  pub is : name ≡ n + place
  pub step : Step
  pub at : slice_get steps place ≡ Some step
  pub by : step.end ≡ e
  pub call : ConnectionCall
  pub makes : step.act ≡ Call (on.Connection call)

one_later : (e : Side) (n : ℕ) (s : Step) (ss : List Step) (name : ℕ) → IsOneOf e (n + 1) ss name → IsOneOf e n (s ∷ ss) name
one_later e n s ss name k =
    let is : name ≡ n + suc k.place = let z = k.is in omega (arith, z) in
    record { place = suc k.place; is = is; step = k.step; at = k.at; by = k.by; call = k.call; makes = k.makes }

-- that of the first step, if it makes one
act_calls : (e : Side) (n : ℕ) (s : Step) (ss : List Step) (act : Act) → s.act ≡ act → s.end ≡ e → All (λ (c : ℕ × ConnectionCall). IsOneOf e n (s ∷ ss) c.0) (calls_of n act)
act_calls e n s ss (Take k) a b = All-nil (λ (c : ℕ × ConnectionCall). IsOneOf e n (s ∷ ss) c.0)
act_calls e n s ss TakeAll a b = All-nil (λ (c : ℕ × ConnectionCall). IsOneOf e n (s ∷ ss) c.0)
act_calls e n s ss (Call (on.Connection c)) a b =
    let is : n ≡ n + zero = omega arith in
    let here : IsOneOf e n (s ∷ ss) n = record { place = zero; is = is; step = s; at = refl; by = b; call = c; makes = a } in
    All-cons (λ (x : ℕ × ConnectionCall). IsOneOf e n (s ∷ ss) x.0) (n, c) [] here (All-nil (λ (x : ℕ × ConnectionCall). IsOneOf e n (s ∷ ss) x.0))
act_calls e n s ss (Call (on.Session c)) a b = All-nil (λ (x : ℕ × ConnectionCall). IsOneOf e n (s ∷ ss) x.0)
act_calls e n s ss (Call (on.Link c)) a b = All-nil (λ (x : ℕ × ConnectionCall). IsOneOf e n (s ∷ ss) x.0)

step_calls : (e : Side) (n : ℕ) (s : Step) (ss : List Step) (b : Bool) → (b ≡ true → s.end ≡ e) → All (λ (c : ℕ × ConnectionCall). IsOneOf e n (s ∷ ss) c.0) (if b then calls_of n s.act else [])
step_calls e n s ss true h = act_calls e n s ss s.act refl (h refl)
step_calls e n s ss false h = All-nil (λ (c : ℕ × ConnectionCall). IsOneOf e n (s ∷ ss) c.0)

same_side : (e d : Side) → is_same e d ≡ true → d ≡ e
same_side Client Client h = refl
same_side Client Listener h = cc
same_side Listener Client h = cc
same_side Listener Listener h = refl

all_calls : (e : Side) (n : ℕ) (ss : List Step) → All (λ (c : ℕ × ConnectionCall). IsOneOf e n ss c.0) (calls_at e n ss)
all_calls e n [] = All-nil (λ (c : ℕ × ConnectionCall). IsOneOf e n [] c.0)
all_calls e n (s ∷ ss) =
    let Q : ℕ × ConnectionCall → Type 0 = λ (c : ℕ × ConnectionCall). IsOneOf e n (s ∷ ss) c.0 in
    All-append Q (calls_at e (n + 1) ss) (if is_same e s.end then calls_of n s.act else [])
    (All-weaker (λ (c : ℕ × ConnectionCall). IsOneOf e (n + 1) ss c.0) Q (λ c. one_later e n s ss c.0) (calls_at e (n + 1) ss) (all_calls e (n + 1) ss))
    (step_calls e n s ss (is_same e s.end) (same_side e s.end))

from_first : (e : Side) (steps : List Step) (name : ℕ) → IsOneOf e 0 steps name → IsOnConnection e steps name
from_first e steps name k =
    let same : k.place ≡ name = let z = k.is in omega (arith, z) in
    record { step = k.step; at = subst (λ (i : ℕ). slice_get steps i ≡ Some k.step) same k.at; by = k.by; call = k.call; makes = k.makes }

-- the names of the calls that an end makes on its connection in the steps
whole_calls : (e : Side) (steps : List Step) → All (λ (c : ℕ × ConnectionCall). IsOnConnection e steps c.0) (calls_at e 0 steps)
whole_calls e steps = All-weaker (λ (c : ℕ × ConnectionCall). IsOneOf e 0 steps c.0) (λ (c : ℕ × ConnectionCall). IsOnConnection e steps c.0) (λ c. from_first e steps c.0) (calls_at e 0 steps) (all_calls e 0 steps)

-- ---- a trace

answered : (e : Side) (steps : List Step) (near : End Piped) (wrote : List ℕ) (answers : List NamedReply) (l m : Life) → Carried near (calls_at e 0 steps) wrote answers l m → Answers near l → AreAnswered e steps answers l.h
answered e steps near wrote answers l m c k =
    let told : IsTold answers near.connection.replies l.h = subst (λ (u : List NamedReply). IsTold u near.connection.replies l.h) c.told_are k.told in
    let first : (name : ℕ) → AreFirst (replies_to name (of_connections answers)) (replies_to name (replied_in l.h)) = λ name. (replies_to name near.connection.replies, told name) in
    let calls : All (λ (x : ℕ × ConnectionCall). IsOnConnection e steps x.0) (made_in l.h) = subst (λ (u : List (ℕ × ConnectionCall)). All (λ (x : ℕ × ConnectionCall). IsOnConnection e steps x.0) u) (sym c.calls_are) (whole_calls e steps) in
    record {
      calls_are = c.calls_are;
      causes = c.promises.causes;
      first = first;
      caused = all_told (λ (r : ConnectionReply). IsCausedIn l.h r) (of_connections answers) (replied_in l.h) first (all_caused l.h c.promises.causes);
      called = all_told (λ (r : ConnectionReply). IsOnConnection e steps r.name) (of_connections answers) (replied_in l.h) first
          (all_called (λ (n : ℕ). IsOnConnection e steps n) (made_in l.h) (replied_in l.h) c.promises.replies calls);
    }

whole_answers : (e : Side) (steps : List Step) (entries : List Entry) (m : AreMade steps entries) → Answers (end_at e m.view) (life_in e steps entries m)
whole_answers e steps entries m = turns_answers e m.first steps m.view m.turns unlived (start_answers e m.first m.starts)

pub connections_answer : (e : Side) (steps : List Step) (entries : List Entry) (k : AreCarried steps entries) → AreAnswered e steps (told_at e steps entries) (life_in e steps entries k.made).h
connections_answer Client steps entries k =
    answered Client steps k.made.view.client (wrote_at Client steps entries) (told_at Client steps entries) (life_in Client steps entries k.made) (life_in Listener steps entries k.made) k.client (whole_answers Client steps entries k.made)
connections_answer Listener steps entries k =
    answered Listener steps k.made.view.listener (wrote_at Listener steps entries) (told_at Listener steps entries) (life_in Listener steps entries k.made) (life_in Client steps entries k.made) k.listener (whole_answers Listener steps entries k.made)
