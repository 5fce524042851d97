-- Moments between two steps.
use Rattle.std.specs.Prelude.{◌≡◌, List, [], ◌∷◌, ◌++◌, if◌then◌else◌, refl}
use Rattle.std.proofs.Common.{sym, ◌∙◌, ap, append_assoc}
use Rattle.std.proofs.lemmas.List.{append-nil}
use Rattle.amqp_words.specs.declared.step.End.{End as Side}
use Rattle.amqp_calls.specs.declared.step.Step.{Step}
use Rattle.amqp_calls.specs.declared.trace.Entry.{Entry}
use Rattle.amqp_world.specs.History.{is_same}
use Rattle.amqp_links.specs.State.{no_links}
use Rattle.amqp_sessions.specs.State.{none_begun}
use Rattle.amqp_session_world.specs.Turn.{View, Turns, AreMade, accepts}
use Rattle.world_lives.specs.Lived.{Both, sessions_at, links_at, both_done, both_over, life, MomentOf}
use Rattle.world_lives.proofs.Joins.{run_together}
use Rattle.world_lives.proofs.Lived.{turns_run, life_run}
use Rattle.world_lives.specs.WorldLinks.Cutting.{StepsAreCut}

-- ---- steps in two parts

record Halves (old : View) (ss ts : List Step) (new : View) (t : Turns old (ss ++ ts) new) : Type 0 where
  view : View
  came : Turns old ss view
  goes : Turns view ts new
  both : (e : Side) → both_over e old ss view came ++ both_over e view ts new goes ≡ both_over e old (ss ++ ts) new t

turns_halves : (old : View) (ss ts : List Step) (new : View) (t : Turns old (ss ++ ts) new) → Halves old ss ts new t
turns_halves old [] ts new t = record { view = old; came = refl; goes = t; both = λ e. refl }
turns_halves old (s ∷ ss) ts new t =
    let h = turns_halves t.0 ss ts new t.2 in
    record {
      view = h.view;
      came = (t.0, t.1, h.came);
      goes = h.goes;
      both = λ e.
          let one : List Both = if is_same e s.end then both_done old s t.0 t.1 else [] in
          append_assoc one (both_over e t.0 ss h.view h.came) (both_over e h.view ts new h.goes) ∙ ap (λ (xs : List Both). one ++ xs) (h.both e);
    }

-- the entries of steps follow those before
record Adds (old new : View) : Type 0 where
  more : List Entry
  whole : old.entries ++ more ≡ new.entries

turns_add : (old : View) (ss : List Step) (new : View) → Turns old ss new → Adds old new
turns_add old [] new t = record { more = []; whole = append-nil old.entries ∙ ap (λ (w : View). w.entries) (sym t) }
turns_add old (s ∷ ss) new t =
    let r = turns_add t.0 ss new t.2 in
    record {
      more = t.1.entry ∷ r.more;
      whole = sym (append_assoc old.entries (t.1.entry ∷ []) r.more) ∙ (ap (λ (xs : List Entry). xs ++ r.more) (sym t.1.entries) ∙ r.whole);
    }

-- ---- a moment behind the first of them

pub steps_are_cut : StepsAreCut
steps_are_cut before after entries m =
    let h = turns_halves m.first before after m.view m.turns in
    let w = h.view in
    let adds = turns_add w after m.view h.goes in
    let made : AreMade before w.entries = record { first = m.first; starts = m.starts; view = w; turns = h.came; entries_are = refl } in
    let moment : (e : Side) → MomentOf e (before ++ after) entries m =
    (λ e. record {
      before = life e before w.entries made;
      since = both_over e w after m.view h.goes;
      whole = h.both e;
      sessions = sessions_at e w;
      links = links_at e w;
      came = run_together none_begun (sessions_at e w) (no_links (accepts e)) (links_at e w) (life e before w.entries made) (life_run e before w.entries made);
      goes = run_together (sessions_at e w) (sessions_at e m.view) (links_at e w) (links_at e m.view) (both_over e w after m.view h.goes) (turns_run e w after m.view h.goes);
    }) in
    record {
      early = w.entries;
      late = adds.more;
      whole = adds.whole ∙ m.entries_are;
      made = made;
      moment = moment;
      behind = λ e. record { did = refl; sessions = refl; links = refl };
    }
