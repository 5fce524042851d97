-- One step of an end with sessions over a pipe.
use Rattle.std.specs.Prelude.{OnOk, slice_get, Some}
use Rattle.std.proofs.Common.{◌≡◌, ◌+◌, ◌≤◌, ◌<◌, List, ℕ, zero, suc, [], ◌∷◌, ◌++◌, length, take, drop, get_or, Result, Ok, Err, refl, sym, ap, ◌∙◌, subst, arith, length-append}
use Rattle.std.proofs.Math.Seq.{drop-append_seam}
use Rattle.amqp_wire.specs.Piped.{Piped}
use Rattle.amqp_words.specs.declared.call.Call.{Call as ConnectionCall}
use Rattle.amqp_peer.specs.History.{wrote_in, link_in}
use Rattle.amqp_peer.specs.Peering.{Peering}
use Rattle.amqp_peer.proofs.Laws.{link_of-with_link}
use Rattle.amqp_link_words.specs.declared.link_call.LinkCall.{LinkCall}
use Rattle.amqp_words.specs.declared.step.End.{End as Side}
use Rattle.amqp_words.specs.declared.step.End.TheVariants.{Client, Listener}
use Rattle.amqp_end.specs.amqp_calls.declared.step.Act.{Act}
use Rattle.amqp_end.specs.amqp_calls.declared.step.Act.TheVariants.{Take, TakeAll, Call}
use Rattle.amqp_end.specs.amqp_calls.declared.step.Step.{Step}
use Rattle.amqp_end.specs.amqp_calls.declared.trace.Entry.{Entry}
use Rattle.amqp_world.specs.Turn.{piping, empty_pipe, pipe_of, fed}
use Rattle.amqp_world.proofs.Pipes.{pipe_output}
use Rattle.amqp_end.specs.declared.end.End.{End}
use Rattle.amqp_end.specs.Deeds.{behind}
use Rattle.amqp_end.specs.Goes.{Goes}
use Rattle.amqp_end.proofs.Passing.{goes_passes}
use Rattle.amqp_session_world.specs.Paired.{paired_by}
use Rattle.amqp_session_world.specs.Turn.{count_of, called, calls_of, link_calls_of, CanAct, CanStep, IsValid, given, marked, named, Told, Turned, View, IsTurnAt, IsTurn, Turns, IsStart, IsFirstInvalid}

pub named_connection : (name : ℕ) (act : Act) (e : End Piped) → (named name act e).connection ≡ e.connection
named_connection name (Take n) e = refl
named_connection name TakeAll e = refl
named_connection name (Call call) e = refl

pub named_replies : (name : ℕ) (act : Act) (e : End Piped) → (named name act e).replies.items ≡ e.replies.items
named_replies name (Take n) e = refl
named_replies name TakeAll e = refl
named_replies name (Call call) e = refl

begun_output : (near far : End Piped) (name count : ℕ) (act : Act) → (pipe_of (named name act (given near far count)).connection).output ≡ (pipe_of near.connection).output
begun_output near far name count act =
    ap (λ (p : Peering Piped). (pipe_of p).output) (named_connection name act (given near far count))
    ∙ ap (λ (k : Piped). k.output) (link_of-with_link empty_pipe near.connection (fed (pipe_of near.connection) (pipe_of far.connection) count))

-- what the end wrote stands behind its output
ran_output : (near far ran : End Piped) (name count at : ℕ) (calls : List (ℕ × ConnectionCall)) {asks : List (ℕ × LinkCall)} (act : Act) (g : Goes piping at (called name act) calls asks (named name act (given near far count)) ran) → (pipe_of ran.connection).output ≡ (pipe_of near.connection).output ++ wrote_in (behind at g.deeds [])
ran_output near far ran name count at calls act g =
    pipe_output (pipe_of (named name act (given near far count)).connection) (pipe_of ran.connection) (link_in (behind at g.deeds [])) ((goes_passes piping at calls (named name act (given near far count)) ran g).went empty_pipe)
    ∙ ap (λ (u : List ℕ). u ++ wrote_in (behind at g.deeds [])) (begun_output near far name count act)

-- an end only adds to its output
pub output_grows : (near far ran : End Piped) (name count at : ℕ) (calls : List (ℕ × ConnectionCall)) {asks : List (ℕ × LinkCall)} (act : Act) → Goes piping at (called name act) calls asks (named name act (given near far count)) ran → length (pipe_of near.connection).output ≤ length (pipe_of ran.connection).output
output_grows near far ran name count at calls act g =
    let size : length (pipe_of ran.connection).output ≡ length (pipe_of near.connection).output + length (wrote_in (behind at g.deeds [])) =
    ap length (ran_output near far ran name count at calls act g) ∙ length-append (pipe_of near.connection).output (wrote_in (behind at g.deeds [])) in
    omega (arith, size)

pub turned_by : (near far ran near' : End Piped) (name count at : ℕ) (act : Act) (entry : Entry) → CanAct near far name act → count ≡ count_of act far → Goes piping at (called name act) (calls_of name act) (link_calls_of name act) (named name act (given near far count)) ran → Told ran near' entry
    → entry.wrote.items ≡ drop (length (pipe_of near.connection).output) (pipe_of near'.connection).output → Turned near far name at act near' (marked far count) entry
turned_by near far ran near' name count at act entry can counted g told wrote =
    let calls = calls_of name act in
    let same : (pipe_of near'.connection).output ≡ (pipe_of near.connection).output ++ wrote_in (behind at g.deeds []) = ap (λ (p : Peering Piped). (pipe_of p).output) told.connection ∙ ran_output near far ran name count at calls act g in
    let whole : entry.wrote.items ≡ wrote_in (behind at g.deeds []) =
    wrote ∙ ap (λ (u : List ℕ). drop (length (pipe_of near.connection).output) u) same ∙ drop-append_seam (pipe_of near.connection).output (wrote_in (behind at g.deeds [])) in
    record {
      can = can;
      far_end = ap (λ (n : ℕ). marked far n) counted;
      ran = ran;
      goes = subst (λ (n : ℕ). Goes piping at (called name act) calls (link_calls_of name act) (named name act (given near far n)) ran) counted g;
      told = told;
      output = same ∙ ap (λ (u : List ℕ). (pipe_of near.connection).output ++ u) (sym whole);
    }

-- ---- steps

pub client_turned : (old mid new : View) (step : Step) (name : ℕ) (entry : Entry) → step.end ≡ Client → IsValid old step → name ≡ length old.entries → Turned old.client old.listener name step.at step.act mid.client mid.listener entry
    → new ≡ record mid { entries = old.entries ++ entry ∷ []; moment = step.at; paired = paired_by Client entry.replies.items old.paired } → IsTurn old step new
client_turned old mid new step name entry end valid named turned is =
    subst (λ (w : View). IsTurn old step w) (sym is)
    (record {
      valid = valid;
      entry = entry;
      entries = refl;
      moment = refl;
      paired = ap (λ (s : Side). paired_by s entry.replies.items old.paired) (sym end);
      turned = subst (λ (s : Side). IsTurnAt s (length old.entries) old step (record mid { entries = old.entries ++ entry ∷ []; moment = step.at; paired = paired_by Client entry.replies.items old.paired }) entry) (sym end)
          (subst (λ (n : ℕ). Turned old.client old.listener n step.at step.act mid.client mid.listener entry) named turned);
    })

pub listener_turned : (old mid new : View) (step : Step) (name : ℕ) (entry : Entry) → step.end ≡ Listener → IsValid old step → name ≡ length old.entries → Turned old.listener old.client name step.at step.act mid.listener mid.client entry
    → new ≡ record mid { entries = old.entries ++ entry ∷ []; moment = step.at; paired = paired_by Listener entry.replies.items old.paired } → IsTurn old step new
listener_turned old mid new step name entry end valid named turned is =
    subst (λ (w : View). IsTurn old step w) (sym is)
    (record {
      valid = valid;
      entry = entry;
      entries = refl;
      moment = refl;
      paired = ap (λ (s : Side). paired_by s entry.replies.items old.paired) (sym end);
      turned = subst (λ (s : Side). IsTurnAt s (length old.entries) old step (record mid { entries = old.entries ++ entry ∷ []; moment = step.at; paired = paired_by Listener entry.replies.items old.paired }) entry) (sym end)
          (subst (λ (n : ℕ). Turned old.listener old.client n step.at step.act mid.listener mid.client entry) named turned);
    })

-- one more step
pub turns_then : (a b c : View) (ss : List Step) (s : Step) → Turns a ss b → IsTurn b s c → Turns a (ss ++ s ∷ []) c
turns_then a b c [] s e t = (c, subst (λ (w : View). IsTurn w s c) e t, refl)
turns_then a b c (x ∷ ss) s (w, r, more) t = (w, r, turns_then w b c ss s more t)

-- one more of a list is its front and the element that follows
take_next : (ss : List Step) (n : ℕ) (other : Step) → n < length ss → take n ss ++ get_or ss n other ∷ [] ≡ take (n + 1) ss
take_next [] n other l = absurd (omega (arith, l))
take_next (s ∷ ss) zero other l = refl
take_next (s ∷ ss) (suc n) other l =
    let more : suc (n + 1) ≡ suc n + 1 = omega arith in
    ap (λ (xs : List Step). s ∷ xs) (take_next ss n other (omega (arith, l))) ∙ ap (λ (k : ℕ). take k (s ∷ ss)) more

pub turns_taken : (a b c : View) (ss : List Step) (s : Step) (n : ℕ) → n < length ss → s ≡ get_or ss n s → Turns a (take n ss) b → IsTurn b s c → Turns a (take (n + 1) ss) c
turns_taken a b c ss s n l is r t =
    subst (λ (xs : List Step). Turns a xs c) (ap (λ (x : Step). take n ss ++ x ∷ []) is ∙ take_next ss n s l) (turns_then a b c (take n ss) s r t)

pub on_ok : {A E X Y : Type 0} (r : Result A E) → (X → Y) → OnOk r X → OnOk r Y
on_ok (Ok a) f x = f x
on_ok (Err e) f x = tt

at_item : (ss : List Step) (n : ℕ) (s : Step) → n < length ss → s ≡ get_or ss n s → slice_get ss n ≡ Some s
at_item [] n s l e = absurd (omega (arith, l))
at_item (x ∷ ss) zero s l e = ap (λ (y : Step). Some y) (sym e)
at_item (x ∷ ss) (suc n) s l e = at_item ss n s (omega (arith, l)) e

-- the step behind those made is the first that is not valid
pub first_invalid : (first view : View) (ss : List Step) (i n : ℕ) (s : Step) → IsStart first → Turns first (take n ss) view → length view.entries ≡ n → i ≡ length view.entries → n < length ss → s ≡ get_or ss n s → (IsValid view s → ⊥) → IsFirstInvalid ss i
first_invalid first view ss i n s starts turns form is within item invalid =
    subst (λ (k : ℕ). IsFirstInvalid ss k) (sym (is ∙ form))
    (record { first = first; starts = starts; view = view; turns = turns; step = s; at = at_item ss n s within item; invalid = invalid })
