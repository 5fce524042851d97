-- What an end has read behind some steps the other has written.
use Rattle.std.specs.Prelude.{◌≡◌, ℕ, List, [], ◌∷◌, ◌++◌, length, map, refl}
use Rattle.std.proofs.Common.{sym, ◌∙◌, ap, subst, append_assoc}
use Rattle.amqp_wire.specs.Piped.{Piped}
use Rattle.amqp_parts.specs.declared.part.Part.{Part}
use Rattle.amqp_transport.specs.Kinds.{amqp_again}
use Rattle.amqp_peer.specs.Frames.{others_of}
use Rattle.amqp_peer.proofs.Laws.{tied_law, said_law}
use Rattle.amqp_words.specs.declared.step.End.{End as Side}
use Rattle.amqp_words.specs.declared.step.End.TheVariants.{Client, Listener}
use Rattle.amqp_calls.specs.declared.step.Step.{Step}
use Rattle.amqp_calls.specs.declared.trace.Entry.{Entry}
use Rattle.amqp_ends.specs.Joined.{Meets}
use Rattle.amqp_ends.specs.Streams.{IsFront as IsFrontOf}
use Rattle.amqp_ends.proofs.Parts.{streams}
use Rattle.amqp_ends.proofs.Serving.{carries}
use Rattle.amqp_world.specs.History.{is_same, other}
use Rattle.amqp_world.specs.Turn.{pipe_of}
use Rattle.amqp_world.proofs.Meeting.{meeting}
use Rattle.amqp_end.specs.declared.end.End.{End}
use Rattle.amqp_end.specs.Deeds.{asked_by, heard_by, given_by}
use Rattle.amqp_session.specs.State.{Framed}
use Rattle.amqp_session_world.specs.Turn.{View, IsTurnAt, Turns, AreMade}
use Rattle.amqp_session_world.specs.Lives.{Life, unlived, lived_if, done_at, done, life_of}
use Rattle.amqp_session_world.specs.Carried.{life_in}
use Rattle.amqp_session_world.proofs.Living.{Lives, near_lives, far_lives, fresh_lives}
use Rattle.session_lives.specs.Channels.{on}
use Rattle.session_lives.specs.Deeds.{read_in, wrote_in}
use Rattle.world_lives.specs.Lived.{Both as BothDid, sessions_by, life}
use Rattle.world_lives.proofs.Again.{said, there_more}
use Rattle.world_lives.proofs.Hearing.{Begins, came_by, on_it, on_it_again, on_it_all}
use Rattle.world_lives.specs.WorldLinks.Cutting.{ReadWasWritten}

-- ---- both lives behind steps

record Both (w : View) (a b : Life) : Type 0 where
  client : Lives w.client w.listener a
  listener : Lives w.listener w.client b

both_at : (e : Side) (name : ℕ) (old : View) (step : Step) (new : View) (entry : Entry) (t : IsTurnAt e name old step new entry) (a b : Life) → Both old a b
    → Both new (lived_if (is_same Client e) step.at (done_at e name old step new entry t) a) (lived_if (is_same Listener e) step.at (done_at e name old step new entry t) b)
both_at Client name old step new entry t a b k = record {
  client = near_lives old.client old.listener new.client new.listener name step.at step.act entry a k.client t;
  listener = far_lives old.client old.listener new.client new.listener name step.at step.act entry a b k.client k.listener t;
}
both_at Listener name old step new entry t a b k = record {
  client = far_lives old.listener old.client new.listener new.client name step.at step.act entry b a k.listener k.client t;
  listener = near_lives old.listener old.client new.listener new.client name step.at step.act entry b k.listener t;
}

both_live : (old : View) (ss : List Step) (new : View) (t : Turns old ss new) (a b : Life) → Both old a b → Both new (life_of Client old ss new t a) (life_of Listener old ss new t b)
both_live old [] new t a b k = subst (λ (w : View). Both w a b) (sym t) k
both_live old (s ∷ ss) new t a b k =
    let d = done old s t.0 t.1 in
    both_live t.0 ss new t.2 (lived_if (is_same Client s.end) s.at d a) (lived_if (is_same Listener s.end) s.at d b) (both_at s.end (length old.entries) old s t.0 t.1.entry t.1.turned a b k)

-- ---- what came over the connection

lives_meet : (near far : End Piped) (l m : Life) → Lives near far l → Lives far near m → Meets l.h m.h
lives_meet near far l m k j =
    meeting l.h m.h (pipe_of near.connection).input (pipe_of far.connection).output (pipe_of far.connection).mark k.calm (tied_law near.connection l.h k.serves.has) (tied_law far.connection m.h j.serves.has) (said_law far.connection m.h j.serves.has) k.reads (sym j.writes)

lives_read : (near far : End Piped) (l m : Life) → Lives near far l → Lives far near m → IsFrontOf (heard_by l.deeds) (map amqp_again (others_of (given_by m.deeds)))
lives_read near far l m k j =
    let meets = lives_meet near far l m k j in
    let own = carries near.connection (asked_by l.deeds) (heard_by l.deeds) (given_by l.deeds) l.h k.serves in
    let theirs = carries far.connection (asked_by m.deeds) (heard_by m.deeds) (given_by m.deeds) m.h j.serves in
    let s = streams l.h m.h (asked_by l.deeds) (heard_by l.deeds) (given_by l.deeds) (asked_by m.deeds) (heard_by m.deeds) (given_by m.deeds) meets own theirs in
    s.1

made_live : (steps : List Step) (entries : List Entry) (m : AreMade steps entries) → Both m.view (life_in Client steps entries m) (life_in Listener steps entries m)
made_live steps entries m =
    let start : Both m.first unlived unlived =
    record {
      client = fresh_lives Client Listener m.first.client m.first.listener m.starts.client m.starts.listener;
      listener = fresh_lives Listener Client m.first.listener m.first.client m.starts.listener m.starts.client;
    } in
    both_live m.first steps m.view m.turns unlived unlived start

made_read : (e : Side) (steps : List Step) (entries : List Entry) (m : AreMade steps entries)
    → IsFrontOf (heard_by (life_in e steps entries m).deeds) (map amqp_again (others_of (given_by (life_in (other e) steps entries m).deeds)))
made_read Client steps entries m =
    let b = made_live steps entries m in
    lives_read m.view.client m.view.listener (life_in Client steps entries m) (life_in Listener steps entries m) b.client b.listener
made_read Listener steps entries m =
    let b = made_live steps entries m in
    lives_read m.view.listener m.view.client (life_in Listener steps entries m) (life_in Client steps entries m) b.listener b.client

-- ---- the Transfers on a handle

pub read_was_written : ReadWasWritten
read_was_written e steps entries m c handle p q b =
    let here = life e b.before b.early b.made in
    let there = life (other e) b.before b.early b.made in
    let k : Begins (said (on_it handle) (on c (read_in (sessions_by here)))) (said (on_it handle) (on c (wrote_in (sessions_by there)))) =
    came_by (on_it handle) (on_it handle) (on_it_again handle) (λ x. refl) c e b.before b.early b.made (made_read e b.before b.early b.made) in
    let f : List Framed → List Part = (λ (xs : List Framed). said (on_it handle) (on c xs)) in
    let read = read_in (sessions_by p.before) in
    let wrote = wrote_in (sessions_by q.before) in
    let left = q.sessions.output in
    let came : f read ++ k.later ≡ f wrote =
    ap (λ (xs : List BothDid). f (read_in (sessions_by xs)) ++ k.later) b.here.did ∙ (k.whole ∙ ap (λ (xs : List BothDid). f (wrote_in (sessions_by xs))) (sym b.there.did)) in
    record {
      rest = k.later ++ f left;
      front =
          ap (λ (xs : List Part). xs ++ (k.later ++ f left)) (sym (on_it_all handle (on c read)))
          ∙ (sym (append_assoc (f read) k.later (f left))
          ∙ (ap (λ (xs : List Part). xs ++ f left) came
          ∙ (sym (there_more (on_it handle) c wrote left) ∙ on_it_all handle (on c (wrote ++ left)))));
    }
