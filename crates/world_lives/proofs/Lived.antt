-- The deeds of single steps are one run of deeds from the start.
use Rattle.std.specs.Prelude.{◌≡◌, ℕ, List, [], ◌∷◌, ◌++◌, length, if◌then◌else◌, refl}
use Rattle.std.proofs.Common.{sym, ◌∙◌, ap, subst, append_assoc}
use Rattle.std.proofs.lemmas.List.{append-nil}
use Rattle.amqp_wire.specs.Piped.{Piped}
use Rattle.amqp_words.specs.declared.step.End.{End as Side}
use Rattle.amqp_words.specs.declared.step.End.TheVariants.{Client, Listener}
use Rattle.amqp_calls.specs.declared.step.Act.{Act}
use Rattle.amqp_calls.specs.declared.step.Act.TheVariants.{Take, TakeAll, Call}
use Rattle.amqp_calls.specs.declared.step.Step.{Step}
use Rattle.amqp_calls.specs.declared.trace.Entry.{Entry}
use Rattle.amqp_world.specs.Turn.{piping}
use Rattle.amqp_world.specs.History.{is_same}
use Rattle.amqp_links.specs.State.{seen as linked, no_links}
use Rattle.amqp_sessions.specs.State.{seen, none_begun}
use Rattle.amqp_end.specs.declared.end.End.{End}
use Rattle.amqp_session_world.specs.Turn.{View, Turned, IsTurnAt, Turns, IsFresh, IsStart, AreMade, count_of, given, named, accepts}
use Rattle.amqp_session_world.specs.Lives.{Life, unlived, lived_if, done_at, done, life_of}
use Rattle.amqp_session_world.specs.Carried.{life_in}
use Rattle.session_lives.specs.Deeds as sessions
use Rattle.world_lives.specs.EndLives.Ends.{sessions_in}
use Rattle.world_lives.specs.Lived.{Both, sessions_by, end_at, sessions_at, links_at, both_turned, both_done_at, both_done, both_over, life, LifeGoes, LifeStops}
use Rattle.world_lives.proofs.Joins.{Run, run_as, run_then, run_together, run_halves, end_run, end_sessions, sessions_by_more, newest_first}

-- ---- a name that is used leaves both alone

named_sessions : (name : ℕ) (act : Act) (e : End Piped) → (named name act e).sessions ≡ e.sessions
named_sessions name (Take n) e = refl
named_sessions name TakeAll e = refl
named_sessions name (Call call) e = refl

named_links : (name : ℕ) (act : Act) (e : End Piped) → (named name act e).links ≡ e.links
named_links name (Take n) e = refl
named_links name TakeAll e = refl
named_links name (Call call) e = refl

-- ---- one step

-- the end that makes it
near_run : (near far near' far' : End Piped) (name at : ℕ) (act : Act) (entry : Entry) (t : Turned near far name at act near' far' entry)
    → Run (seen near.sessions) (linked near.links) (both_turned near far name at act near' far' entry t) (seen near'.sessions) (linked near'.links)
near_run near far near' far' name at act entry t =
    let e = given near far (count_of act far) in
    let mid = named name act e in
    run_as (seen mid.sessions) (seen near.sessions) (seen t.ran.sessions) (seen near'.sessions) (linked mid.links) (linked near.links) (linked t.ran.links) (linked near'.links)
    (both_turned near far name at act near' far' entry t)
    (sym (ap seen (named_sessions name act e))) (sym (ap linked (named_links name act e))) (ap seen t.told.sessions) (ap linked t.told.links)
    (end_run piping at mid.connection (seen mid.sessions) (linked mid.links) t.goes.deeds t.ran.connection (seen t.ran.sessions) (linked t.ran.links) t.goes.did)

near_sessions : (near far near' far' : End Piped) (name at : ℕ) (act : Act) (entry : Entry) (t : Turned near far name at act near' far' entry) → sessions_by (both_turned near far name at act near' far' entry t) ≡ sessions_in t.goes.deeds
near_sessions near far near' far' name at act entry t =
    let mid = named name act (given near far (count_of act far)) in
    end_sessions piping at mid.connection (seen mid.sessions) (linked mid.links) t.goes.deeds t.ran.connection (seen t.ran.sessions) (linked t.ran.links) t.goes.did

-- the other end
far_run : (near far near' far' : End Piped) (name at : ℕ) (act : Act) (entry : Entry) → Turned near far name at act near' far' entry → Run (seen far.sessions) (linked far.links) [] (seen far'.sessions) (linked far'.links)
far_run near far near' far' name at act entry t = (ap (λ (z : End Piped). seen z.sessions) t.far_end, ap (λ (z : End Piped). linked z.links) t.far_end)

turn_run : (e d : Side) (name : ℕ) (old : View) (step : Step) (new : View) (entry : Entry) (t : IsTurnAt d name old step new entry)
    → Run (sessions_at e old) (links_at e old) (if is_same e d then both_done_at d name old step new entry t else []) (sessions_at e new) (links_at e new)
turn_run Client Client name old step new entry t = near_run old.client old.listener new.client new.listener name step.at step.act entry t
turn_run Client Listener name old step new entry t = far_run old.listener old.client new.listener new.client name step.at step.act entry t
turn_run Listener Client name old step new entry t = far_run old.client old.listener new.client new.listener name step.at step.act entry t
turn_run Listener Listener name old step new entry t = near_run old.listener old.client new.listener new.client name step.at step.act entry t

-- what its life has of its sessions behind it
after_turn : (ds : List sessions.Deed) (near far near' far' : End Piped) (name at : ℕ) (act : Act) (entry : Entry) (t : Turned near far name at act near' far' entry) (l : Life)
    → ds ≡ sessions_in l.deeds → ds ++ sessions_by (both_turned near far name at act near' far' entry t) ≡ sessions_in (t.goes.deeds ++ l.deeds)
after_turn ds near far near' far' name at act entry t l e =
    ap (λ (xs : List sessions.Deed). xs ++ sessions_by (both_turned near far name at act near' far' entry t)) e
    ∙ (ap (λ (xs : List sessions.Deed). sessions_in l.deeds ++ xs) (near_sessions near far near' far' name at act entry t) ∙ sym (newest_first t.goes.deeds l.deeds))

turn_sessions : (ds : List sessions.Deed) (e d : Side) (name : ℕ) (old : View) (step : Step) (new : View) (entry : Entry) (t : IsTurnAt d name old step new entry) (l : Life)
    → ds ≡ sessions_in l.deeds → ds ++ sessions_by (if is_same e d then both_done_at d name old step new entry t else []) ≡ sessions_in (lived_if (is_same e d) step.at (done_at d name old step new entry t) l).deeds
turn_sessions ds Client Client name old step new entry t l e = after_turn ds old.client old.listener new.client new.listener name step.at step.act entry t l e
turn_sessions ds Client Listener name old step new entry t l e = append-nil ds ∙ e
turn_sessions ds Listener Client name old step new entry t l e = append-nil ds ∙ e
turn_sessions ds Listener Listener name old step new entry t l e = after_turn ds old.listener old.client new.listener new.client name step.at step.act entry t l e

-- ---- steps, one after another

pub turns_run : (e : Side) (old : View) (ss : List Step) (new : View) (t : Turns old ss new) → Run (sessions_at e old) (links_at e old) (both_over e old ss new t) (sessions_at e new) (links_at e new)
turns_run e old [] new t = (ap (sessions_at e) t, ap (links_at e) t)
turns_run e old (s ∷ ss) new t =
    run_then (sessions_at e old) (sessions_at e t.0) (sessions_at e new) (links_at e old) (links_at e t.0) (links_at e new)
    (if is_same e s.end then both_done old s t.0 t.1 else []) (both_over e t.0 ss new t.2)
    (turn_run e s.end (length old.entries) old s t.0 t.1.entry t.1.turned) (turns_run e t.0 ss new t.2)

turns_sessions : (ds : List sessions.Deed) (e : Side) (old : View) (ss : List Step) (new : View) (t : Turns old ss new) (l : Life) → ds ≡ sessions_in l.deeds → ds ++ sessions_by (both_over e old ss new t) ≡ sessions_in (life_of e old ss new t l).deeds
turns_sessions ds e old [] new t l h = append-nil ds ∙ h
turns_sessions ds e old (s ∷ ss) new t l h =
    let one : List Both = if is_same e s.end then both_done old s t.0 t.1 else [] in
    let rest = both_over e t.0 ss new t.2 in
    ap (λ (xs : List sessions.Deed). ds ++ xs) (sessions_by_more one rest)
    ∙ (sym (append_assoc ds (sessions_by one) (sessions_by rest))
    ∙ turns_sessions (ds ++ sessions_by one) e t.0 ss new t.2 (lived_if (is_same e s.end) s.at (done old s t.0 t.1) l) (turn_sessions ds e s.end (length old.entries) old s t.0 t.1.entry t.1.turned l h))

-- ---- from the start

start_at : (e : Side) (w : View) → IsStart w → IsFresh e (end_at e w)
start_at Client w s = s.client
start_at Listener w s = s.listener

pub life_run : (e : Side) (steps : List Step) (entries : List Entry) (m : AreMade steps entries) → Run none_begun (no_links (accepts e)) (life e steps entries m) (sessions_at e m.view) (links_at e m.view)
life_run e steps entries m =
    let f = start_at e m.first m.starts in
    run_as (sessions_at e m.first) none_begun (sessions_at e m.view) (sessions_at e m.view) (links_at e m.first) (no_links (accepts e)) (links_at e m.view) (links_at e m.view)
    (life e steps entries m) (sym f.sessions) (sym f.links) refl refl (turns_run e m.first steps m.view m.turns)

pub life_sessions : (e : Side) (steps : List Step) (entries : List Entry) (m : AreMade steps entries) → sessions_by (life e steps entries m) ≡ sessions_in (life_in e steps entries m).deeds
life_sessions e steps entries m = turns_sessions [] e m.first steps m.view m.turns unlived refl

pub life_goes : LifeGoes
life_goes e steps entries m = record {
  did = run_together none_begun (sessions_at e m.view) (no_links (accepts e)) (links_at e m.view) (life e steps entries m) (life_run e steps entries m);
  same = life_sessions e steps entries m;
}

pub life_stops : LifeStops
life_stops e steps entries m before since whole =
    let all = subst (λ (xs : List Both). Run none_begun (no_links (accepts e)) xs (sessions_at e m.view) (links_at e m.view)) (sym whole) (life_run e steps entries m) in
    let h = run_halves none_begun (sessions_at e m.view) (no_links (accepts e)) (links_at e m.view) before since all in
    record {
      moment = record {
        before = before;
        since = since;
        whole = whole;
        sessions = h.sessions;
        links = h.links;
        came = run_together none_begun h.sessions (no_links (accepts e)) h.links before h.came;
        goes = run_together h.sessions (sessions_at e m.view) h.links (links_at e m.view) since h.goes;
      };
      is_before = refl;
      is_since = refl;
    }
