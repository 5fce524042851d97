-- What passes at the sessions of two ends, step after step.
use Rattle.std.proofs.Common.{◌≡◌, ◌∙◌, ap, append_assoc, sym, subst, List, [], ◌∷◌, ◌++◌, All, Contains, length, ℕ}
use Rattle.std.proofs.lemmas.List.{append-nil}
use Rattle.std.proofs.lemmas.List.Elements.{All-nil, All-append}
use Rattle.amqp_calls.specs.declared.step.Act.{Act}
use Rattle.amqp_calls.specs.declared.step.Act.TheVariants.{Take, TakeAll, Call}
use Rattle.amqp_calls.specs.declared.step.Step.{Step}
use Rattle.amqp_calls.specs.declared.trace.Entry.{Entry}
use Rattle.amqp_end.specs.declared.end.End.{End}
use Rattle.amqp_end.specs.Deeds.{Deed, given_by}
use Rattle.amqp_links.specs.State.{seen as linked}
use Rattle.amqp_session.specs.declared.session.LinkInput.{LinkInput}
use Rattle.amqp_session_world.proofs.Serving.{given_then}
use Rattle.amqp_session_world.specs.Carried.{life_in, AreCarried}
use Rattle.amqp_session_world.specs.Lives.{Life, unlived, lived, lived_if, done_at, done, life_of}
use Rattle.amqp_session_world.specs.Turn.{View, count_of, given, marked, named, Turned, IsTurnAt, Turns, IsFresh, IsStart, AreMade}
use Rattle.amqp_sessions.specs.declared.sessions.Sessions.{Sessions}
use Rattle.amqp_sessions.specs.State.{seen}
use Rattle.amqp_wire.specs.Piped.{Piped}
use Rattle.amqp_words.specs.declared.step.End.{End as Side}
use Rattle.amqp_words.specs.declared.step.End.TheVariants.{Client, Listener}
use Rattle.amqp_world.specs.History.{is_same}
use Rattle.amqp_world.specs.Turn.{piping}
use Rattle.link_answers.specs.Coming.{Passed, frames_of, channels_of, accepted_of, added, passed_in, nothing_passed, AreComing, Passes}
use Rattle.link_answers.specs.Passing.{read_of, read_by, gave_by}
use Rattle.link_answers.proofs.Comes.{all_front, all_back, GivenStands, HavePassed, none_comes, deeds_pass, they_have_passed}
use Rattle.link_answers.proofs.Deeds.{gave_then}
use Rattle.link_answers.proofs.Sessions.{HandedStands}

read_then : (es ds : List Deed) → read_by (es ++ ds) ≡ read_by ds ++ read_by es
read_then [] ds = sym (append-nil (read_by ds))
read_then (e ∷ es) ds = ap (λ (u : List (ℕ × LinkInput)). u ++ read_of e) (read_then es ds) ∙ append_assoc (read_by ds) (read_by es) (read_of e)

added_then : {X : Type 0} (add : Deed → List X) (es ds : List Deed) → added add (es ++ ds) ≡ added add ds ++ added add es
added_then add [] ds = sym (append-nil (added add ds))
added_then {X} add (e ∷ es) ds = ap (λ (u : List X). u ++ add e) (added_then add es ds) ∙ append_assoc (added add ds) (added add es) (add e)

abbrev end_at : Side → View → End Piped
end_at Client w = w.client
end_at Listener w = w.listener

module _ (p : Passed) where
  -- behind a life in which nothing else has passed: what the sessions have, and what has passed
  record Stands (e : End Piped) (l : Life) : Type 0 where
    pub coming : HavePassed p l.deeds → AreComing p (seen e.sessions)
    pub passes : HavePassed p l.deeds → Passes p l.deeds

  -- before the end goes on, with bytes of the other in its input and its name given
  begun_stands : (near far : End Piped) (name : ℕ) (act : Act) (l : Life) → Stands near l → Stands (named name act (given near far (count_of act far))) l
  begun_stands near far name (Take n) l k = record { coming = k.coming; passes = k.passes }
  begun_stands near far name TakeAll l k = record { coming = k.coming; passes = k.passes }
  begun_stands near far name (Call call) l k = record { coming = k.coming; passes = k.passes }

  -- deeds behind those of a life
  pub first_passed : (es ds : List Deed) → HavePassed p (es ++ ds) → HavePassed p ds
  first_passed es ds h = record {
    frames = all_front (Contains p.frames) (added frames_of ds) (added frames_of es) (subst (All (Contains p.frames)) (added_then frames_of es ds) h.frames);
    gave = all_front (Contains p.gave) (gave_by ds) (gave_by es) (subst (All (Contains p.gave)) (gave_then es ds) h.gave);
    channels = all_front (Contains p.channels) (added channels_of ds) (added channels_of es) (subst (All (Contains p.channels)) (added_then channels_of es ds) h.channels);
    accepted = all_front (Contains p.accepted) (added accepted_of ds) (added accepted_of es) (subst (All (Contains p.accepted)) (added_then accepted_of es ds) h.accepted);
  }

  pub then_passed : (es ds : List Deed) → HavePassed p (es ++ ds) → HavePassed p es
  then_passed es ds h = record {
    frames = all_back (Contains p.frames) (added frames_of ds) (added frames_of es) (subst (All (Contains p.frames)) (added_then frames_of es ds) h.frames);
    gave = all_back (Contains p.gave) (gave_by ds) (gave_by es) (subst (All (Contains p.gave)) (gave_then es ds) h.gave);
    channels = all_back (Contains p.channels) (added channels_of ds) (added channels_of es) (subst (All (Contains p.channels)) (added_then channels_of es ds) h.channels);
    accepted = all_back (Contains p.accepted) (added accepted_of ds) (added accepted_of es) (subst (All (Contains p.accepted)) (added_then accepted_of es ds) h.accepted);
  }

  pub both_pass : (es ds : List Deed) → Passes p es → Passes p ds → Passes p (es ++ ds)
  both_pass es ds x y = record {
    handed = subst (All (HandedStands p)) (sym (read_then es ds)) (All-append (HandedStands p) (read_by ds) (read_by es) y.handed x.handed);
    given = subst (All (GivenStands p)) (sym (given_then es ds)) (All-append (GivenStands p) (given_by ds) (given_by es) y.given x.given);
  }

  -- what the end has behind a step, and what has passed
  both_stand : (near far near' far' : End Piped) (name at : ℕ) (act : Act) (entry : Entry) (l : Life) (t : Turned near far name at act near' far' entry) → Stands near l → HavePassed p (t.goes.deeds ++ l.deeds)
      → AreComing p (seen t.ran.sessions) × Passes p (t.goes.deeds ++ l.deeds)
  both_stand near far near' far' name at act entry l t k h =
      let mid : End Piped = named name act (given near far (count_of act far)) in
      let m : Stands mid l = begun_stands near far name act l k in
      let ran : End Piped = t.ran in
      let ds : List Deed = t.goes.deeds in
      let old : HavePassed p l.deeds = first_passed ds l.deeds h in
      let d = deeds_pass p piping at mid.connection (seen mid.sessions) (linked mid.links) ds ran.connection (seen ran.sessions) (linked ran.links) t.goes.did (then_passed ds l.deeds h) (m.coming old) in
      (d.0, both_pass ds l.deeds d.1 (m.passes old))

  near_stands : (near far near' far' : End Piped) (name at : ℕ) (act : Act) (entry : Entry) (l : Life) (t : Turned near far name at act near' far' entry) → Stands near l → Stands near' (lived at t.goes.deeds l)
  near_stands near far near' far' name at act entry l t k = record {
    coming = λ h. subst (λ (x : Sessions). AreComing p (seen x)) (sym t.told.sessions) (let a = both_stand near far near' far' name at act entry l t k h in a.0);
    passes = λ h. (let a = both_stand near far near' far' name at act entry l t k h in a.1);
  }

  far_stands : (near far near' far' : End Piped) (name at : ℕ) (act : Act) (entry : Entry) (l : Life) → Turned near far name at act near' far' entry → Stands far l → Stands far' l
  far_stands near far near' far' name at act entry l t k =
      let m : Stands (marked far (count_of act far)) l = record { coming = k.coming; passes = k.passes } in
      subst (λ (e : End Piped). Stands e l) (sym t.far_end) m

  -- ---- all steps

  turn_stands : (e d : Side) (name : ℕ) (old : View) (step : Step) (new : View) (entry : Entry) (t : IsTurnAt d name old step new entry) (l : Life) → Stands (end_at e old) l
      → Stands (end_at e new) (lived_if (is_same e d) step.at (done_at d name old step new entry t) l)
  turn_stands Client Client name old step new entry t l k = near_stands old.client old.listener new.client new.listener name step.at step.act entry l t k
  turn_stands Client Listener name old step new entry t l k = far_stands old.listener old.client new.listener new.client name step.at step.act entry l t k
  turn_stands Listener Client name old step new entry t l k = far_stands old.client old.listener new.client new.listener name step.at step.act entry l t k
  turn_stands Listener Listener name old step new entry t l k = near_stands old.listener old.client new.listener new.client name step.at step.act entry l t k

  turns_stand : (e : Side) (old : View) (ss : List Step) (new : View) (t : Turns old ss new) (l : Life) → Stands (end_at e old) l → Stands (end_at e new) (life_of e old ss new t l)
  turns_stand e old [] new t l k = subst (λ (w : View). Stands (end_at e w) l) (sym t) k
  turns_stand e old (s ∷ ss) new t l k =
      turns_stand e t.0 ss new t.2 (lived_if (is_same e s.end) s.at (done old s t.0 t.1) l) (turn_stands e s.end (length old.entries) old s t.0 t.1.entry t.1.turned l k)

  fresh_stands : (e : Side) (near : End Piped) → IsFresh e near → Stands near unlived
  fresh_stands e near f = record {
    coming = λ h. subst (AreComing p) (sym f.sessions) (none_comes p);
    passes = λ h. record { handed = All-nil (HandedStands p); given = All-nil (GivenStands p) };
  }

  start_stands : (e : Side) (w : View) → IsStart w → Stands (end_at e w) unlived
  start_stands Client w s = fresh_stands Client w.client s.client
  start_stands Listener w s = fresh_stands Listener w.listener s.listener

  whole_stands : (e : Side) (steps : List Step) (entries : List Entry) (m : AreMade steps entries) → Stands (end_at e m.view) (life_in e steps entries m)
  whole_stands e steps entries m = turns_stand e m.first steps m.view m.turns unlived (start_stands e m.first m.starts)

-- ---- a trace

pub traces_pass : (e : Side) (steps : List Step) (entries : List Entry) (k : AreCarried steps entries) → Passes (passed_in (life_in e steps entries k.made).deeds) (life_in e steps entries k.made).deeds
traces_pass e steps entries k =
    let ds : List Deed = (life_in e steps entries k.made).deeds in
    let w : Stands (passed_in ds) (end_at e k.made.view) (life_in e steps entries k.made) = whole_stands (passed_in ds) e steps entries k.made in
    w.passes (they_have_passed ds nothing_passed)
