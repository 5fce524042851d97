-- The answers of two ends to calls for sessions, step after step.
use Rattle.std.proofs.Common.{◌≡◌, ap, sym, subst, List, [], ◌∷◌, ◌++◌, map, length, ℕ}
use Rattle.std.proofs.lemmas.List.Elements.{All-nil, All-append}
use Rattle.std.specs.Map.{values_of}
use Rattle.amqp_wire.specs.Piped.{Piped}
use Rattle.amqp_words.specs.declared.step.End.{End as Side}
use Rattle.amqp_words.specs.declared.step.End.TheVariants.{Client, Listener}
use Rattle.amqp_calls.specs.declared.reply.NamedReply.{NamedReply}
use Rattle.amqp_calls.specs.declared.step.Act.{Act}
use Rattle.amqp_calls.specs.declared.step.Act.TheVariants.{Take, TakeAll, Call}
use Rattle.amqp_calls.specs.declared.step.Step.{Step}
use Rattle.amqp_calls.specs.declared.trace.Entry.{Entry}
use Rattle.amqp_links.specs.State.{seen as linked}
use Rattle.amqp_session.specs.State.{Framed}
use Rattle.amqp_sessions.specs.declared.sessions.Sessions.{Sessions}
use Rattle.amqp_sessions.specs.State.{State, seen}
use Rattle.amqp_world.specs.History.{is_same}
use Rattle.amqp_world.specs.Turn.{piping}
use Rattle.amqp_end.specs.declared.end.End.{End}
use Rattle.amqp_end.specs.Deeds.{Deed, framed_of, given_by, told_by}
use Rattle.amqp_end.proofs.Goes.{told_then}
use Rattle.amqp_session_world.specs.Turn.{View, count_of, given, marked, named, Turned, IsTurnAt, Turns, IsFresh, IsStart, AreMade}
use Rattle.amqp_session_world.specs.Lives.{Life, unlived, lived, lived_if, done_at, done, life_of, told_at}
use Rattle.amqp_session_world.specs.Carried.{life_in, AreCarried}
use Rattle.session_answers.specs.Past.{Past, nothing}
use Rattle.session_answers.specs.Standing.{AllStand, StandsAs, AreStanding}
use Rattle.session_answers.specs.Passing.{behind}
use Rattle.session_answers.specs.Laws.{DeedsStand, TraceStands}
use Rattle.session_answers.proofs.Parts.{answers_grow}
use Rattle.session_answers.proofs.Deeds.{none_stands, answers_stand, grows_behind, given_both, behind_both}

-- an end whose life began with nothing: what its sessions have put out, and what stands
record Stands (e : End Piped) (l : Life) : Type 0 where
  pub written : List (ℕ × Framed)
  pub output : map framed_of (given_by l.deeds) ++ (seen e.sessions).output ≡ values_of written
  pub standing : AreStanding (behind written l.deeds nothing) (seen e.sessions)
  pub told : AllStand (behind written l.deeds nothing) (told_by l.deeds)

-- before the end goes on, with bytes of the other in its input and its name given
begun_stands : (near far : End Piped) (name : ℕ) (act : Act) (l : Life) → Stands near l → Stands (named name act (given near far (count_of act far))) l
begun_stands near far name (Take n) l k = record { written = k.written; output = k.output; standing = k.standing; told = k.told }
begun_stands near far name TakeAll l k = record { written = k.written; output = k.output; standing = k.standing; told = k.told }
begun_stands near far name (Call call) l k = record { written = k.written; output = k.output; standing = k.standing; told = k.told }

-- deeds behind those of a life
goes : (es ds : List Deed) (s s' : State) (written : List (ℕ × Framed)) → map framed_of (given_by ds) ++ s.output ≡ values_of written → AllStand (behind written ds nothing) (told_by ds) → DeedsStand (behind written ds nothing) es s s'
    → (all : List (ℕ × Framed)) × ((map framed_of (given_by (es ++ ds)) ++ s'.output ≡ values_of all) × (AreStanding (behind all (es ++ ds) nothing) s' × AllStand (behind all (es ++ ds) nothing) (told_by (es ++ ds))))
goes es ds s s' written o k d =
    let p : Past = behind written ds nothing in
    let all : List (ℕ × Framed) = written ++ d.written in
    let q : Past = behind d.written es p in
    let is : q ≡ behind all (es ++ ds) nothing = behind_both written d.written es ds nothing in
    let P : NamedReply → Type 0 = λ (r : NamedReply). StandsAs q r.name r.reply in
    let told : AllStand q (told_by (es ++ ds)) = subst (AllStand q) (sym (told_then es ds)) (All-append P (told_by ds) (told_by es) (answers_grow p q (told_by ds) (grows_behind d.written es p) k) d.told) in
    (all, (given_both es ds s.output s'.output written d.written o d.output, (subst (λ (u : Past). AreStanding u s') is d.standing, subst (λ (u : Past). AllStand u (told_by (es ++ ds))) is told)))

near_stands : (near far near' far' : End Piped) (name at : ℕ) (act : Act) (entry : Entry) (l : Life) (t : Turned near far name at act near' far' entry) → Stands near l → Stands near' (lived at t.goes.deeds l)
near_stands near far near' far' name at act entry l t k =
    let mid : End Piped = named name act (given near far (count_of act far)) in
    let m : Stands mid l = begun_stands near far name act l k in
    let ran : End Piped = t.ran in
    let ds : List Deed = t.goes.deeds in
    let d : DeedsStand (behind m.written l.deeds nothing) ds (seen mid.sessions) (seen ran.sessions) =
    answers_stand piping at mid.connection (seen mid.sessions) (linked mid.links) ds ran.connection (seen ran.sessions) (linked ran.links) (behind m.written l.deeds nothing) t.goes.did m.standing in
    let g = goes ds l.deeds (seen mid.sessions) (seen ran.sessions) m.written m.output m.told d in
    let there : Stands ran (lived at ds l) = record { written = g.0; output = g.1.0; standing = g.1.1.0; told = g.1.1.1 } in
    let same : seen near'.sessions ≡ seen ran.sessions = ap (λ (s : Sessions). seen s) t.told.sessions in
    record {
      written = there.written;
      output = subst (λ (s : State). map framed_of (given_by (ds ++ l.deeds)) ++ s.output ≡ values_of there.written) (sym same) there.output;
      standing = subst (λ (s : State). AreStanding (behind there.written (ds ++ l.deeds) nothing) s) (sym same) there.standing;
      told = there.told;
    }

far_stands : (near far near' far' : End Piped) (name at : ℕ) (act : Act) (entry : Entry) (l : Life) → Turned near far name at act near' far' entry → Stands far l → Stands far' l
far_stands near far near' far' name at act entry l t k =
    let m : Stands (marked far (count_of act far)) l = record { written = k.written; output = k.output; standing = k.standing; told = k.told } in
    subst (λ (e : End Piped). Stands e l) (sym t.far_end) m

-- ---- all steps

abbrev end_at : Side → View → End Piped
end_at Client w = w.client
end_at Listener w = w.listener

turn_stands : (e d : Side) (name : ℕ) (old : View) (step : Step) (new : View) (entry : Entry) (t : IsTurnAt d name old step new entry) (l : Life) → Stands (end_at e old) l
    → Stands (end_at e new) (lived_if (is_same e d) step.at (done_at d name old step new entry t) l)
turn_stands Client Client name old step new entry t l k = near_stands old.client old.listener new.client new.listener name step.at step.act entry l t k
turn_stands Client Listener name old step new entry t l k = far_stands old.listener old.client new.listener new.client name step.at step.act entry l t k
turn_stands Listener Client name old step new entry t l k = far_stands old.client old.listener new.client new.listener name step.at step.act entry l t k
turn_stands Listener Listener name old step new entry t l k = near_stands old.listener old.client new.listener new.client name step.at step.act entry l t k

turns_stand : (e : Side) (old : View) (ss : List Step) (new : View) (t : Turns old ss new) (l : Life) → Stands (end_at e old) l → Stands (end_at e new) (life_of e old ss new t l)
turns_stand e old [] new t l k = subst (λ (w : View). Stands (end_at e w) l) (sym t) k
turns_stand e old (s ∷ ss) new t l k =
    turns_stand e t.0 ss new t.2 (lived_if (is_same e s.end) s.at (done old s t.0 t.1) l) (turn_stands e s.end (length old.entries) old s t.0 t.1.entry t.1.turned l k)

fresh_stands : (e : Side) (near : End Piped) → IsFresh e near → Stands near unlived
fresh_stands e near f = record {
  written = [];
  output = ap (λ (s : State). s.output) f.sessions;
  standing = subst (λ (s : State). AreStanding nothing s) (sym f.sessions) none_stands;
  told = All-nil (λ (r : NamedReply). StandsAs nothing r.name r.reply);
}

start_stands : (e : Side) (w : View) → IsStart w → Stands (end_at e w) unlived
start_stands Client w s = fresh_stands Client w.client s.client
start_stands Listener w s = fresh_stands Listener w.listener s.listener

-- ---- a trace

whole_stands : (e : Side) (steps : List Step) (entries : List Entry) (m : AreMade steps entries) → Stands (end_at e m.view) (life_in e steps entries m)
whole_stands e steps entries m = turns_stand e m.first steps m.view m.turns unlived (start_stands e m.first m.starts)

stand : (near : End Piped) (answers : List NamedReply) (l : Life) → told_by l.deeds ≡ answers → Stands near l → TraceStands answers l.deeds
stand near answers l e k = record { written = k.written; later = (seen near.sessions).output; output = k.output; stand = subst (λ (u : List NamedReply). AllStand (behind k.written l.deeds nothing) u) e k.told }

pub trace_answers_stand : (e : Side) (steps : List Step) (entries : List Entry) (k : AreCarried steps entries) → TraceStands (told_at e steps entries) (life_in e steps entries k.made).deeds
trace_answers_stand Client steps entries k = stand k.made.view.client (told_at Client steps entries) (life_in Client steps entries k.made) k.client.told_are (whole_stands Client steps entries k.made)
trace_answers_stand Listener steps entries k = stand k.made.view.listener (told_at Listener steps entries) (life_in Listener steps entries k.made) k.listener.told_are (whole_stands Listener steps entries k.made)
