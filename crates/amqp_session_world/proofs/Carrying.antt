-- Two ends that made steps from the start carry their sessions.
use Rattle.std.proofs.Common.{◌≡◌, ◌+◌, ℕ, List, [], ◌∷◌, ◌++◌, if◌then◌else◌, length, refl, sym, ap, ◌∙◌, subst, append_assoc, arith, length-append}
use Rattle.std.proofs.lemmas.List.{append-nil}
use Rattle.amqp_wire.specs.Piped.{Piped}
use Rattle.amqp_words.specs.declared.call.Call.{Call as ConnectionCall}
use Rattle.amqp_words.specs.declared.step.End.{End as Side}
use Rattle.amqp_words.specs.declared.step.End.TheVariants.{Client, Listener}
use Rattle.amqp_end.specs.amqp_calls.declared.reply.NamedReply.{NamedReply}
use Rattle.amqp_end.specs.amqp_calls.declared.step.Act.{Act}
use Rattle.amqp_end.specs.amqp_calls.declared.step.Step.{Step}
use Rattle.amqp_end.specs.amqp_calls.declared.trace.Entry.{Entry}
use Rattle.amqp_peer.specs.History.{Local}
use Rattle.amqp_peer.specs.Peering.{Peering, Has}
use Rattle.amqp_peer.proofs.Laws.{replies_law, causes_law, gated_law, tied_law, said_law, beats_law}
use Rattle.amqp_ends.specs.Joined.{Meets}
use Rattle.amqp_ends.proofs.Sizes.{never_refused}
use Rattle.amqp_ends.proofs.Parts.{streams}
use Rattle.amqp_ends.proofs.Serving.{carries}
use Rattle.amqp_world.specs.History.{is_same}
use Rattle.amqp_world.specs.Turn.{pipe_of}
use Rattle.amqp_world.proofs.Meeting.{meeting}
use Rattle.amqp_end.specs.declared.end.End.{End}
use Rattle.amqp_end.specs.Deeds.{called_by, asked_by, heard_by, given_by, told_by}
use Rattle.amqp_end.proofs.Goes.{called_then, told_then}
use Rattle.amqp_session_world.specs.Turn.{View, calls_of, IsTurnAt, Turns, IsStart, AreMade, Turned, given, count_of}
use Rattle.amqp_session_world.specs.Lives.{Life, unlived, lived_if, done_at, done, life_of, wrote_at, calls_at, lived, told_at}
use Rattle.amqp_session_world.specs.Carried.{KeepsPromises, Carried, life_in, AreCarried}
use Rattle.amqp_session_world.proofs.Living.{Lives, begun, near_lives, far_lives, far_output, fresh_lives}
use Rattle.amqp_session_world.proofs.Moving.{named_replies}

-- ---- both lives behind steps

record Both (w : View) (a b : Life) : Type 0 where
  pub client : Lives w.client w.listener a
  pub listener : Lives w.listener w.client b

both_at : (e : Side) (name : ℕ) (old : View) (step : Step) (new : View) (entry : Entry) (t : IsTurnAt e name old step new entry) (a b : Life) → Both old a b
    → Both new (lived_if (is_same Client e) step.at (done_at e name old step new entry t) a) (lived_if (is_same Listener e) step.at (done_at e name old step new entry t) b)
both_at Client name old step new entry t a b k = record {
  client = near_lives old.client old.listener new.client new.listener name step.at step.act entry a k.client t;
  listener = far_lives old.client old.listener new.client new.listener name step.at step.act entry a b k.client k.listener t;
}
both_at Listener name old step new entry t a b k = record {
  client = far_lives old.listener old.client new.listener new.client name step.at step.act entry b a k.listener k.client t;
  listener = near_lives old.listener old.client new.listener new.client name step.at step.act entry b k.listener t;
}

both_lives : (old : View) (ss : List Step) (new : View) (t : Turns old ss new) (a b : Life) → Both old a b → Both new (life_of Client old ss new t a) (life_of Listener old ss new t b)
both_lives old [] new t a b k = subst (λ (w : View). Both w a b) (sym t) k
both_lives old (s ∷ ss) new t a b k =
    let d = done old s t.0 t.1 in
    both_lives t.0 ss new t.2 (lived_if (is_same Client s.end) s.at d a) (lived_if (is_same Listener s.end) s.at d b) (both_at s.end (length old.entries) old s t.0 t.1.entry t.1.turned a b k)

-- ---- what stands in the trace

-- an end of a view
abbrev end_at : Side → View → End Piped
end_at Client w = w.client
end_at Listener w = w.listener

abbrev output_at : Side → View → List ℕ
output_at e w = (pipe_of (end_at e w).connection).output

-- a step adds what its end wrote to its output, and nothing to the other's
turn_output : (e d : Side) (name : ℕ) (old : View) (step : Step) (new : View) (entry : Entry) → IsTurnAt d name old step new entry → output_at e new ≡ output_at e old ++ (if is_same e d then entry.wrote.items else [])
turn_output Client Client name old step new entry t = t.output
turn_output Client Listener name old step new entry t = far_output old.listener old.client new.listener new.client name step.at step.act entry t ∙ sym (append-nil (output_at Client old))
turn_output Listener Client name old step new entry t = far_output old.client old.listener new.client new.listener name step.at step.act entry t ∙ sym (append-nil (output_at Listener old))
turn_output Listener Listener name old step new entry t = t.output

-- the entries of steps, and what an end wrote in them
record Traced (e : Side) (old new : View) (ss : List Step) : Type 0 where
  pub more : List Entry
  pub entries : new.entries ≡ old.entries ++ more
  pub output : output_at e new ≡ output_at e old ++ wrote_at e ss more

turns_output : (e : Side) (old : View) (ss : List Step) (new : View) → Turns old ss new → Traced e old new ss
turns_output e old [] new t = record { more = []; entries = ap (λ (w : View). w.entries) t ∙ sym (append-nil old.entries); output = ap (output_at e) t ∙ sym (append-nil (output_at e old)) }
turns_output e old (s ∷ ss) new t =
    let r = turns_output e t.0 ss new t.2 in
    let one : List ℕ = if is_same e s.end then t.1.entry.wrote.items else [] in
    record {
      more = t.1.entry ∷ r.more;
      entries = r.entries ∙ ap (λ (u : List Entry). u ++ r.more) t.1.entries ∙ append_assoc old.entries (t.1.entry ∷ []) r.more;
      output = r.output ∙ ap (λ (u : List ℕ). u ++ wrote_at e ss r.more) (turn_output e s.end (length old.entries) old s t.0 t.1.entry t.1.turned) ∙ append_assoc (output_at e old) one (wrote_at e ss r.more);
    }

-- an end has no answer left, and a step tells its own
record Told (e d : Side) (step : Step) (entry : Entry) (new : View) (l m : Life) : Type 0 where
  pub left : (end_at e new).replies.items ≡ []
  pub told : told_by m.deeds ≡ told_by l.deeds ++ (if is_same e d then entry.replies.items else [])

near_told : (near far near' far' : End Piped) (name at : ℕ) (act : Act) (entry : Entry) (l : Life) (t : Turned near far name at act near' far' entry) → near.replies.items ≡ [] → told_by (lived at t.goes.deeds l).deeds ≡ told_by l.deeds ++ entry.replies.items
near_told near far near' far' name at act entry l t e =
    let same : (begun near far name act).replies.items ≡ [] = named_replies name act (given near far (count_of act far)) ∙ e in
    told_then t.goes.deeds l.deeds ∙ ap (λ (u : List NamedReply). told_by l.deeds ++ u) (sym (t.told.replies ∙ t.goes.answers ∙ ap (λ (u : List NamedReply). u ++ told_by t.goes.deeds) same))

far_told : (near far near' far' : End Piped) (name at : ℕ) (act : Act) (entry : Entry) → Turned near far name at act near' far' entry → far.replies.items ≡ [] → far'.replies.items ≡ []
far_told near far near' far' name at act entry t e = ap (λ (z : End Piped). z.replies.items) t.far_end ∙ e

turn_told : (e d : Side) (name : ℕ) (old : View) (step : Step) (new : View) (entry : Entry) (t : IsTurnAt d name old step new entry) (l : Life) → (end_at e old).replies.items ≡ [] → Told e d step entry new l (lived_if (is_same e d) step.at (done_at d name old step new entry t) l)
turn_told Client Client name old step new entry t l n = record { left = t.told.left; told = near_told old.client old.listener new.client new.listener name step.at step.act entry l t n }
turn_told Client Listener name old step new entry t l n = record { left = far_told old.listener old.client new.listener new.client name step.at step.act entry t n; told = sym (append-nil (told_by l.deeds)) }
turn_told Listener Client name old step new entry t l n = record { left = far_told old.client old.listener new.client new.listener name step.at step.act entry t n; told = sym (append-nil (told_by l.deeds)) }
turn_told Listener Listener name old step new entry t l n = record { left = t.told.left; told = near_told old.listener old.client new.listener new.client name step.at step.act entry l t n }

turns_told : (e : Side) (old : View) (ss : List Step) (new : View) (t : Turns old ss new) (l : Life) → (end_at e old).replies.items ≡ [] → told_by (life_of e old ss new t l).deeds ≡ told_by l.deeds ++ told_at e ss (turns_output e old ss new t).more
unfolding turns_output
turns_told e old [] new t l n = sym (append-nil (told_by l.deeds))
turns_told e old (s ∷ ss) new t l n =
    let d = lived_if (is_same e s.end) s.at (done old s t.0 t.1) l in
    let k = turn_told e s.end (length old.entries) old s t.0 t.1.entry t.1.turned l n in
    let more = (turns_output e t.0 ss new t.2).more in
    turns_told e t.0 ss new t.2 d k.left ∙ ap (λ (u : List NamedReply). u ++ told_at e ss more) k.told ∙ append_assoc (told_by l.deeds) (if is_same e s.end then t.1.entry.replies.items else []) (told_at e ss more)

-- the calls of a life behind steps
lived_calls : (e d : Side) (name : ℕ) (old : View) (step : Step) (new : View) (entry : Entry) (t : IsTurnAt d name old step new entry) (l : Life)
    → called_by (lived_if (is_same e d) step.at (done_at d name old step new entry t) l).deeds ≡ (if is_same e d then calls_of name step.act else []) ++ called_by l.deeds
lived_calls Client Client name old step new entry t l = called_then t.goes.deeds l.deeds ∙ ap (λ (u : List (ℕ × ConnectionCall)). u ++ called_by l.deeds) t.goes.made
lived_calls Client Listener name old step new entry t l = refl
lived_calls Listener Client name old step new entry t l = refl
lived_calls Listener Listener name old step new entry t l = called_then t.goes.deeds l.deeds ∙ ap (λ (u : List (ℕ × ConnectionCall)). u ++ called_by l.deeds) t.goes.made

turns_calls : (e : Side) (n : ℕ) (old : View) (ss : List Step) (new : View) (t : Turns old ss new) (l : Life) → length old.entries ≡ n → called_by (life_of e old ss new t l).deeds ≡ calls_at e n ss ++ called_by l.deeds
turns_calls e n old [] new t l w = refl
turns_calls e n old (s ∷ ss) new t l w =
    let d = lived_if (is_same e s.end) s.at (done old s t.0 t.1) l in
    let one : List (ℕ × ConnectionCall) = if is_same e s.end then calls_of n s.act else [] in
    let next : length t.0.entries ≡ n + 1 = let z = ap length t.1.entries ∙ length-append old.entries (t.1.entry ∷ []) in omega (arith, z, w) in
    let here : called_by d.deeds ≡ one ++ called_by l.deeds =
    lived_calls e s.end (length old.entries) old s t.0 t.1.entry t.1.turned l ∙ ap (λ (k : ℕ). (if is_same e s.end then calls_of k s.act else []) ++ called_by l.deeds) w in
    turns_calls e (n + 1) t.0 ss new t.2 d next ∙ ap (λ (u : List (ℕ × ConnectionCall)). calls_at e (n + 1) ss ++ u) here ∙ sym (append_assoc (calls_at e (n + 1) ss) one (called_by l.deeds))

-- ---- both

lives_meet : (near far : End Piped) (l m : Life) → Lives near far l → Lives far near m → Meets l.h m.h
lives_meet near far l m k j =
    meeting l.h m.h (pipe_of near.connection).input (pipe_of far.connection).output (pipe_of far.connection).mark k.calm (tied_law near.connection l.h k.serves.has) (tied_law far.connection m.h j.serves.has) (said_law far.connection m.h j.serves.has) k.reads (sym j.writes)

promises : (p : Peering Piped) (h : List Local) → Has p h → KeepsPromises h
promises p h k = record { replies = replies_law p h k; causes = causes_law p h k; writes = gated_law p h k; frames = tied_law p h k; says = said_law p h k; beats = beats_law p h k }

lives_carry : (near far : End Piped) (l m : Life) (calls : List (ℕ × ConnectionCall)) (wrote : List ℕ) (answers : List NamedReply) → Lives near far l → Lives far near m → called_by l.deeds ≡ calls → (pipe_of near.connection).output ≡ wrote → told_by l.deeds ≡ answers → Carried near calls wrote answers l m
lives_carry near far l m calls wrote answers k j c w told =
    let meets = lives_meet near far l m k j in
    let own = carries near.connection (asked_by l.deeds) (heard_by l.deeds) (given_by l.deeds) l.h k.serves in
    let other = carries far.connection (asked_by m.deeds) (heard_by m.deeds) (given_by m.deeds) m.h j.serves in
    let s = streams l.h m.h (asked_by l.deeds) (heard_by l.deeds) (given_by l.deeds) (asked_by m.deeds) (heard_by m.deeds) (given_by m.deeds) meets own other in
    record {
      serves = k.serves;
      promises = promises near.connection l.h k.serves.has;
      calls_are = k.calls_are ∙ c;
      wrote_is = k.writes ∙ w;
      told_are = told;
      meets = meets;
      asked = s.0;
      heard = s.1;
      unrefused = never_refused l.h m.h meets (lives_meet far near m l j k);
    }

start_output : (e : Side) (w : View) → IsStart w → output_at e w ≡ []
start_output Client w s = sym (fresh_lives Client Listener w.client w.listener s.client s.listener).writes
start_output Listener w s = sym (fresh_lives Listener Client w.listener w.client s.listener s.client).writes

-- the entries of all steps are those of the trace
whole_entries : (e : Side) (steps : List Step) (entries : List Entry) (m : AreMade steps entries) → (turns_output e m.first steps m.view m.turns).more ≡ entries
whole_entries e steps entries m =
    let r = turns_output e m.first steps m.view m.turns in
    ap (λ (u : List Entry). u ++ r.more) (sym m.starts.entries) ∙ sym r.entries ∙ m.entries_are

-- what an end wrote in all, and what it told
whole_output : (e : Side) (steps : List Step) (entries : List Entry) (m : AreMade steps entries) → output_at e m.view ≡ wrote_at e steps entries
whole_output e steps entries m =
    let r = turns_output e m.first steps m.view m.turns in
    r.output ∙ ap (λ (u : List ℕ). u ++ wrote_at e steps r.more) (start_output e m.first m.starts) ∙ ap (wrote_at e steps) (whole_entries e steps entries m)

start_left : (e : Side) (w : View) → IsStart w → (end_at e w).replies.items ≡ []
start_left Client w s = s.client.replies
start_left Listener w s = s.listener.replies

whole_told : (e : Side) (steps : List Step) (entries : List Entry) (m : AreMade steps entries) → told_by (life_in e steps entries m).deeds ≡ told_at e steps entries
whole_told e steps entries m = turns_told e m.first steps m.view m.turns unlived (start_left e m.first m.starts) ∙ ap (told_at e steps) (whole_entries e steps entries m)

whole_calls : (e : Side) (steps : List Step) (entries : List Entry) (m : AreMade steps entries) → called_by (life_in e steps entries m).deeds ≡ calls_at e 0 steps
whole_calls e steps entries m = turns_calls e 0 m.first steps m.view m.turns unlived (ap length m.starts.entries) ∙ append-nil (calls_at e 0 steps)

pub made_carried : (steps : List Step) (entries : List Entry) → AreMade steps entries → AreCarried steps entries
made_carried steps entries m =
    let start : Both m.first unlived unlived = record { client = fresh_lives Client Listener m.first.client m.first.listener m.starts.client m.starts.listener; listener = fresh_lives Listener Client m.first.listener m.first.client m.starts.listener m.starts.client } in
    let b = both_lives m.first steps m.view m.turns unlived unlived start in
    record {
      made = m;
      client = lives_carry m.view.client m.view.listener (life_in Client steps entries m) (life_in Listener steps entries m) (calls_at Client 0 steps) (wrote_at Client steps entries) (told_at Client steps entries) b.client b.listener (whole_calls Client steps entries m) (whole_output Client steps entries m) (whole_told Client steps entries m);
      listener = lives_carry m.view.listener m.view.client (life_in Listener steps entries m) (life_in Client steps entries m) (calls_at Listener 0 steps) (wrote_at Listener steps entries) (told_at Listener steps entries) b.listener b.client (whole_calls Listener steps entries m) (whole_output Listener steps entries m) (whole_told Listener steps entries m);
    }
