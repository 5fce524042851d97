-- The answers of two ends to calls for links, step after step.
use Rattle.std.proofs.Common.{◌≡◌, sym, subst, List, [], ◌∷◌, ◌++◌, length, ℕ}
use Rattle.std.proofs.lemmas.List.Elements.{All-nil, All-append}
use Rattle.amqp_calls.specs.declared.reply.NamedReply.{NamedReply}
use Rattle.amqp_calls.specs.declared.step.Act.{Act}
use Rattle.amqp_calls.specs.declared.step.Act.TheVariants.{Take, TakeAll, Call}
use Rattle.amqp_calls.specs.declared.step.Step.{Step}
use Rattle.amqp_calls.specs.declared.trace.Entry.{Entry}
use Rattle.amqp_end.proofs.Goes.{told_then}
use Rattle.amqp_end.specs.declared.end.End.{End}
use Rattle.amqp_end.specs.Deeds.{Deed, told_by}
use Rattle.amqp_frames.specs.declared.body.FrameBody.{FrameBody}
use Rattle.amqp_links.specs.declared.links.Links.{Links}
use Rattle.amqp_links.specs.State.{State as LinkState, seen as linked}
use Rattle.amqp_session_world.proofs.Sessions.{sessions_answer}
use Rattle.amqp_session_world.specs.Answers.{IsOfSession, AreOfSessions}
use Rattle.amqp_session_world.specs.Carried.{life_in, AreCarried}
use Rattle.amqp_session_world.specs.Lives.{Life, unlived, lived, lived_if, done_at, done, life_of, told_at}
use Rattle.amqp_session_world.specs.Turn.{accepts, View, count_of, given, marked, named, Turned, IsTurnAt, Turns, IsFresh, IsStart, AreMade}
use Rattle.amqp_sessions.specs.declared.sessions.Sessions.{Sessions}
use Rattle.amqp_sessions.specs.State.{State, seen}
use Rattle.amqp_wire.specs.Piped.{Piped}
use Rattle.amqp_words.specs.declared.step.End.{End as Side}
use Rattle.amqp_words.specs.declared.step.End.TheVariants.{Client, Listener}
use Rattle.amqp_world.specs.History.{is_same}
use Rattle.amqp_world.specs.Turn.{piping}
use Rattle.link_answers.specs.Standing.{Given, Written}
use Rattle.link_answers.specs.Keeping.{frames_in, AreStanding}
use Rattle.link_answers.specs.Passing.{behind, gave_by}
use Rattle.link_answers.specs.Laws.{nothing, StandsAs, AllAnswered, DeedsStand, TraceStands}
use Rattle.link_answers.proofs.Deeds.{none_stands, answers_stand, grows_behind, replies_grow, gave_then, behind_both}
use Rattle.link_answers.proofs.Links.{wider_more}

-- an end whose life began with nothing: what its links have put out, and what stands
record Stands (e : End Piped) (l : Life) : Type 0 where
  pub written : List Written
  pub standing : AreStanding (behind l.deeds nothing) (gave_by l.deeds) written (linked e.links)
  pub own : AreOfSessions (seen e.sessions).replies
  pub told : AllAnswered (behind l.deeds nothing) written (told_by l.deeds)

-- before the end goes on, with bytes of the other in its input and its name given
begun_stands : (near far : End Piped) (name : ℕ) (act : Act) (l : Life) → Stands near l → Stands (named name act (given near far (count_of act far))) l
begun_stands near far name (Take n) l k = record { written = k.written; standing = k.standing; own = k.own; told = k.told }
begun_stands near far name TakeAll l k = record { written = k.written; standing = k.standing; own = k.own; told = k.told }
begun_stands near far name (Call call) l k = record { written = k.written; standing = k.standing; own = k.own; told = k.told }

-- deeds behind those of a life
goes : (es ds : List Deed) (w : List Written) (s : LinkState) → AllAnswered (behind ds nothing) w (told_by ds) → DeedsStand (behind ds nothing) (gave_by ds) w es s
    → (all : List Written) × (AreStanding (behind (es ++ ds) nothing) (gave_by (es ++ ds)) all s × AllAnswered (behind (es ++ ds) nothing) all (told_by (es ++ ds)))
goes es ds w s k d =
    let g : Given = behind ds nothing in
    let h : Given = behind es g in
    let all : List Written = w ++ d.more in
    let is : h ≡ behind (es ++ ds) nothing = behind_both es ds nothing in
    let P : NamedReply → Type 0 = λ (r : NamedReply). StandsAs h all r.name r.reply in
    let told : AllAnswered h all (told_by (es ++ ds)) = subst (AllAnswered h all) (sym (told_then es ds)) (All-append P (told_by ds) (told_by es) (replies_grow g h w all (told_by ds) (grows_behind es g) (wider_more w d.more) k) d.told) in
    let there : AreStanding h (gave_by (es ++ ds)) all s = subst (λ (f : List (ℕ × FrameBody)). AreStanding h f all s) (sym (gave_then es ds)) d.standing in
    (all, (subst (λ (i : Given). AreStanding i (gave_by (es ++ ds)) all s) is there, subst (λ (i : Given). AllAnswered i all (told_by (es ++ ds))) is told))

near_stands : (near far near' far' : End Piped) (name at : ℕ) (act : Act) (entry : Entry) (l : Life) (t : Turned near far name at act near' far' entry) → Stands near l → Stands near' (lived at t.goes.deeds l)
near_stands near far near' far' name at act entry l t k =
    let mid : End Piped = named name act (given near far (count_of act far)) in
    let m : Stands mid l = begun_stands near far name act l k in
    let ran : End Piped = t.ran in
    let ds : List Deed = t.goes.deeds in
    let d = answers_stand piping at mid.connection (seen mid.sessions) (linked mid.links) ds ran.connection (seen ran.sessions) (linked ran.links) (behind l.deeds nothing) (gave_by l.deeds) m.written t.goes.did m.own m.standing in
    let own = sessions_answer piping at mid.connection (seen mid.sessions) (linked mid.links) ds ran.connection (seen ran.sessions) (linked ran.links) t.goes.did m.own in
    let g = goes ds l.deeds m.written (linked ran.links) m.told d in
    record {
      written = g.0;
      standing = subst (λ (x : Links). AreStanding (behind (ds ++ l.deeds) nothing) (gave_by (ds ++ l.deeds)) g.0 (linked x)) (sym t.told.links) g.1.0;
      own = subst (λ (x : Sessions). AreOfSessions (seen x).replies) (sym t.told.sessions) own;
      told = g.1.1;
    }

far_stands : (near far near' far' : End Piped) (name at : ℕ) (act : Act) (entry : Entry) (l : Life) → Turned near far name at act near' far' entry → Stands far l → Stands far' l
far_stands near far near' far' name at act entry l t k =
    let m : Stands (marked far (count_of act far)) l = record { written = k.written; standing = k.standing; own = k.own; told = k.told } in
    subst (λ (e : End Piped). Stands e l) (sym t.far_end) m

-- ---- all steps

abbrev end_at : Side → View → End Piped
end_at Client w = w.client
end_at Listener w = w.listener

turn_stands : (e d : Side) (name : ℕ) (old : View) (step : Step) (new : View) (entry : Entry) (t : IsTurnAt d name old step new entry) (l : Life) → Stands (end_at e old) l
    → Stands (end_at e new) (lived_if (is_same e d) step.at (done_at d name old step new entry t) l)
turn_stands Client Client name old step new entry t l k = near_stands old.client old.listener new.client new.listener name step.at step.act entry l t k
turn_stands Client Listener name old step new entry t l k = far_stands old.listener old.client new.listener new.client name step.at step.act entry l t k
turn_stands Listener Client name old step new entry t l k = far_stands old.client old.listener new.client new.listener name step.at step.act entry l t k
turn_stands Listener Listener name old step new entry t l k = near_stands old.listener old.client new.listener new.client name step.at step.act entry l t k

turns_stand : (e : Side) (old : View) (ss : List Step) (new : View) (t : Turns old ss new) (l : Life) → Stands (end_at e old) l → Stands (end_at e new) (life_of e old ss new t l)
turns_stand e old [] new t l k = subst (λ (w : View). Stands (end_at e w) l) (sym t) k
turns_stand e old (s ∷ ss) new t l k =
    turns_stand e t.0 ss new t.2 (lived_if (is_same e s.end) s.at (done old s t.0 t.1) l) (turn_stands e s.end (length old.entries) old s t.0 t.1.entry t.1.turned l k)

fresh_stands : (e : Side) (near : End Piped) → IsFresh e near → Stands near unlived
fresh_stands e near f = record {
  written = [];
  standing = subst (λ (s : LinkState). AreStanding (behind [] nothing) [] [] s) (sym f.links) (none_stands (accepts e));
  own = subst (λ (s : State). AreOfSessions s.replies) (sym f.sessions) (All-nil (λ (r : NamedReply). IsOfSession r.reply));
  told = All-nil (λ (r : NamedReply). StandsAs (behind [] nothing) [] r.name r.reply);
}

start_stands : (e : Side) (w : View) → IsStart w → Stands (end_at e w) unlived
start_stands Client w s = fresh_stands Client w.client s.client
start_stands Listener w s = fresh_stands Listener w.listener s.listener

-- ---- a trace

whole_stands : (e : Side) (steps : List Step) (entries : List Entry) (m : AreMade steps entries) → Stands (end_at e m.view) (life_in e steps entries m)
whole_stands e steps entries m = turns_stand e m.first steps m.view m.turns unlived (start_stands e m.first m.starts)

stand : (near : End Piped) (answers : List NamedReply) (l : Life) → told_by l.deeds ≡ answers → Stands near l → TraceStands answers l.deeds
stand near answers l e k = record {
  written = k.written;
  later = frames_in (linked near.links).output;
  output = k.standing.output;
  stand = subst (λ (u : List NamedReply). AllAnswered (behind l.deeds nothing) k.written u) e k.told;
}

pub trace_answers_stand : (e : Side) (steps : List Step) (entries : List Entry) (k : AreCarried steps entries) → TraceStands (told_at e steps entries) (life_in e steps entries k.made).deeds
trace_answers_stand Client steps entries k = stand k.made.view.client (told_at Client steps entries) (life_in Client steps entries k.made) k.client.told_are (whole_stands Client steps entries k.made)
trace_answers_stand Listener steps entries k = stand k.made.view.listener (told_at Listener steps entries) (life_in Listener steps entries k.made) k.listener.told_are (whole_stands Listener steps entries k.made)
