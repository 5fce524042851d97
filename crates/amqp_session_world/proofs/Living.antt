-- What a step of an end with sessions makes of the lives of both.
use Rattle.std.proofs.Common.{◌≡◌, ◌+◌, ◌≤◌, ℕ, List, [], ◌∷◌, ◌++◌, length, take, drop, refl, sym, ap, ◌∙◌, subst, append_assoc, arith, length-append, length-drop}
use Rattle.std.proofs.Math.Seq.{take-add}
use Rattle.std.proofs.lemmas.List.{take-append-le}
use Rattle.amqp_wire.specs.Events.{LinkEvent, read_of, wrote_of}
use Rattle.amqp_wire.specs.Piped.{Piped}
use Rattle.amqp_wire.proofs.Events.{read_of-append, wrote_of-append}
use Rattle.amqp_transport.specs.declared.frames.Frame.{Frame}
use Rattle.amqp_words.specs.declared.call.Call.{Call as ConnectionCall}
use Rattle.amqp_words.specs.declared.step.End.{End as Side}
use Rattle.amqp_end.specs.amqp_calls.declared.step.Act.{Act}
use Rattle.amqp_end.specs.amqp_calls.declared.step.Act.TheVariants.{Take, TakeAll, Call}
use Rattle.amqp_end.specs.amqp_calls.declared.trace.Entry.{Entry}
use Rattle.amqp_end.specs.amqp_links.State.{seen as linked}
use Rattle.amqp_peer.specs.History.{Local, Polled, made_in, link_in, read_in, wrote_in}
use Rattle.amqp_peer.specs.Peering.{Peering}
use Rattle.amqp_peer.proofs.Laws.{link_in-append, link_of-fresh, link_of-with_link}
use Rattle.amqp_end.specs.amqp_sessions.State.{seen}
use Rattle.amqp_ends.specs.Joined.{IsCalm}
use Rattle.amqp_ends.specs.Streams.{Serves}
use Rattle.amqp_ends.proofs.Serving.{serves_fresh, serves_looks, serves_links}
use Rattle.amqp_world.specs.Turn.{piping, empty_pipe, pipe_of, fed, drained}
use Rattle.amqp_world.specs.Valid.{kind_of}
use Rattle.amqp_world.proofs.Pipes.{pipe_input, pipe_output, pipe_mark, pipe_calm, calm_none, calm_more}
use Rattle.amqp_end.specs.declared.end.End.{End}
use Rattle.amqp_end.specs.Deeds.{Deed, behind, called_by, asked_by, heard_by, given_by}
use Rattle.amqp_end.proofs.Goes.{called_then}
use Rattle.amqp_end.proofs.Passing.{Passes, goes_passes}
use Rattle.amqp_session_world.specs.Turn.{count_of, IsWithin, calls_of, given, marked, named, Turned, IsFresh}
use Rattle.amqp_session_world.specs.Lives.{Life, unlived, lived}
use Rattle.amqp_session_world.proofs.Moving.{named_connection}
use Rattle.amqp_session_world.proofs.Serving.{ServesAt, did_serves, asked_then, heard_then, given_then, behind_of}

-- the life of the connection of an end, as its pipe and that of the other end show it
pub record Lives (near far : End Piped) (l : Life) : Type 0 where
  pub serves : Serves near.connection (asked_by l.deeds) (heard_by l.deeds) (given_by l.deeds) l.h
  pub calls_are : made_in l.h ≡ called_by l.deeds
  pub reads : read_in l.h ++ (pipe_of near.connection).input ≡ take (pipe_of far.connection).mark (pipe_of far.connection).output
  pub writes : wrote_in l.h ≡ (pipe_of near.connection).output
  pub bound : (pipe_of near.connection).mark ≤ length (pipe_of near.connection).output
  pub calm : IsCalm (link_in l.h)

-- ---- what a step adds

-- events behind a moment
abbrev grown : List Local → ℕ → List Local → List Local
grown es at h = es ++ Polled at ∷ h

behind_grown : (at : ℕ) (ds : List Deed) (h : List Local) → behind at ds (Polled at ∷ h) ≡ grown (behind at ds []) at h
behind_grown at ds h = behind_of at ds (Polled at ∷ h)

link_grown : (es : List Local) (at : ℕ) (h : List Local) → link_in (grown es at h) ≡ link_in es ++ link_in h
link_grown es at h = link_in-append es (Polled at ∷ h)

read_grown : (es : List Local) (at : ℕ) (h : List Local) → read_in (grown es at h) ≡ read_in h ++ read_in es
read_grown es at h = ap read_of (link_grown es at h) ∙ read_of-append (link_in es) (link_in h)

wrote_grown : (es : List Local) (at : ℕ) (h : List Local) → wrote_in (grown es at h) ≡ wrote_in h ++ wrote_in es
wrote_grown es at h = ap wrote_of (link_grown es at h) ∙ wrote_of-append (link_in es) (link_in h)

-- ---- the pipes of a step

-- the end that makes it, before it goes on
abbrev pub begun : End Piped → End Piped → ℕ → Act → End Piped
begun near far name act = named name act (given near far (count_of act far))

begun_link : (near far : End Piped) (name : ℕ) (act : Act) → pipe_of (begun near far name act).connection ≡ fed (pipe_of near.connection) (pipe_of far.connection) (count_of act far)
begun_link near far name act =
    ap (λ (p : Peering Piped). pipe_of p) (named_connection name act (given near far (count_of act far)))
    ∙ link_of-with_link empty_pipe near.connection (fed (pipe_of near.connection) (pipe_of far.connection) (count_of act far))

marked_link : (far : End Piped) (count : ℕ) → pipe_of (marked far count).connection ≡ drained (pipe_of far.connection) count
marked_link far count = link_of-with_link empty_pipe far.connection (drained (pipe_of far.connection) count)

-- what passed at the link of its connection
pub passed : (near far near' far' : End Piped) (name at : ℕ) (act : Act) (entry : Entry) (t : Turned near far name at act near' far' entry) → Passes piping (begun near far name act).connection t.ran.connection (behind at t.goes.deeds [])
passed near far near' far' name at act entry t = goes_passes piping at (calls_of name act) (begun near far name act) t.ran t.goes

near_pipe : (near far near' far' : End Piped) (name at : ℕ) (act : Act) (entry : Entry) (t : Turned near far name at act near' far' entry) → pipe_of near'.connection ≡ pipe_of t.ran.connection
near_pipe near far near' far' name at act entry t = ap (λ (p : Peering Piped). pipe_of p) t.told.connection

far_pipe : (near far near' far' : End Piped) (name at : ℕ) (act : Act) (entry : Entry) (t : Turned near far name at act near' far' entry) → pipe_of far'.connection ≡ drained (pipe_of far.connection) (count_of act far)
far_pipe near far near' far' name at act entry t = ap (λ (e : End Piped). pipe_of e.connection) t.far_end ∙ marked_link far (count_of act far)

near_output : (near far near' far' : End Piped) (name at : ℕ) (act : Act) (entry : Entry) (t : Turned near far name at act near' far' entry) → (pipe_of near'.connection).output ≡ (pipe_of near.connection).output ++ wrote_in (behind at t.goes.deeds [])
near_output near far near' far' name at act entry t =
    let es = behind at t.goes.deeds [] in
    ap (λ (k : Piped). k.output) (near_pipe near far near' far' name at act entry t)
    ∙ pipe_output (pipe_of (begun near far name act).connection) (pipe_of t.ran.connection) (link_in es) ((passed near far near' far' name at act entry t).went empty_pipe)
    ∙ ap (λ (k : Piped). k.output ++ wrote_in es) (begun_link near far name act)

near_mark : (near far near' far' : End Piped) (name at : ℕ) (act : Act) (entry : Entry) (t : Turned near far name at act near' far' entry) → (pipe_of near'.connection).mark ≡ (pipe_of near.connection).mark
near_mark near far near' far' name at act entry t =
    let es = behind at t.goes.deeds [] in
    ap (λ (k : Piped). k.mark) (near_pipe near far near' far' name at act entry t)
    ∙ pipe_mark (pipe_of (begun near far name act).connection) (pipe_of t.ran.connection) (link_in es) ((passed near far near' far' name at act entry t).went empty_pipe)
    ∙ ap (λ (k : Piped). k.mark) (begun_link near far name act)

near_input : (near far near' far' : End Piped) (name at : ℕ) (act : Act) (entry : Entry) (t : Turned near far name at act near' far' entry)
    → read_in (behind at t.goes.deeds []) ++ (pipe_of near'.connection).input ≡ (pipe_of near.connection).input ++ take (count_of act far) (drop (pipe_of far.connection).mark (pipe_of far.connection).output)
near_input near far near' far' name at act entry t =
    let es = behind at t.goes.deeds [] in
    ap (λ (k : Piped). read_in es ++ k.input) (near_pipe near far near' far' name at act entry t)
    ∙ sym (pipe_input (pipe_of (begun near far name act).connection) (pipe_of t.ran.connection) (link_in es) ((passed near far near' far' name at act entry t).went empty_pipe))
    ∙ ap (λ (k : Piped). k.input) (begun_link near far name act)

-- the other writes nothing
pub far_output : (near far near' far' : End Piped) (name at : ℕ) (act : Act) (entry : Entry) → Turned near far name at act near' far' entry → (pipe_of far'.connection).output ≡ (pipe_of far.connection).output
far_output near far near' far' name at act entry t = ap (λ (z : Piped). z.output) (far_pipe near far near' far' name at act entry t)

-- ---- the end that made it

near_reads : (near far near' far' : End Piped) (name at : ℕ) (act : Act) (entry : Entry) (h : List Local) (t : Turned near far name at act near' far' entry) → read_in h ++ (pipe_of near.connection).input ≡ take (pipe_of far.connection).mark (pipe_of far.connection).output
    → read_in (grown (behind at t.goes.deeds []) at h) ++ (pipe_of near'.connection).input ≡ take (pipe_of far'.connection).mark (pipe_of far'.connection).output
near_reads near far near' far' name at act entry h t before =
    let es = behind at t.goes.deeds [] in
    let k : Piped = pipe_of far.connection in
    let count = count_of act far in
    let rest : List ℕ = take count (drop k.mark k.output) in
    ap (λ (u : List ℕ). u ++ (pipe_of near'.connection).input) (read_grown es at h) ∙ append_assoc (read_in h) (read_in es) (pipe_of near'.connection).input
    ∙ ap (λ (u : List ℕ). read_in h ++ u) (near_input near far near' far' name at act entry t) ∙ sym (append_assoc (read_in h) (pipe_of near.connection).input rest)
    ∙ ap (λ (u : List ℕ). u ++ rest) before ∙ sym (take-add k.mark count k.output)
    ∙ ap (λ (z : Piped). take z.mark z.output) (sym (far_pipe near far near' far' name at act entry t))

near_calm : (near far near' far' : End Piped) (name at : ℕ) (act : Act) (entry : Entry) (h : List Local) (t : Turned near far name at act near' far' entry) → IsCalm (link_in h) → IsCalm (link_in (grown (behind at t.goes.deeds []) at h))
near_calm near far near' far' name at act entry h t calm =
    let es = behind at t.goes.deeds [] in
    subst (λ (u : List LinkEvent). IsCalm u) (sym (link_grown es at h))
    (calm_more (link_in es) (link_in h) (pipe_calm (pipe_of (begun near far name act).connection) (pipe_of t.ran.connection) (link_in es) ((passed near far near' far' name at act entry t).went empty_pipe)) calm)

begun_serves : (near far : End Piped) (name : ℕ) (act : Act) (l : Life) → Serves near.connection (asked_by l.deeds) (heard_by l.deeds) (given_by l.deeds) l.h → Serves (begun near far name act).connection (asked_by l.deeds) (heard_by l.deeds) (given_by l.deeds) l.h
begun_serves near far name act l s =
    subst (λ (p : Peering Piped). Serves p (asked_by l.deeds) (heard_by l.deeds) (given_by l.deeds) l.h) (sym (named_connection name act (given near far (count_of act far))))
    (serves_links near.connection (fed (pipe_of near.connection) (pipe_of far.connection) (count_of act far)) (asked_by l.deeds) (heard_by l.deeds) (given_by l.deeds) l.h s)

ran_serves : (near far near' far' : End Piped) (name at : ℕ) (act : Act) (entry : Entry) (l : Life) (t : Turned near far name at act near' far' entry) → Serves near.connection (asked_by l.deeds) (heard_by l.deeds) (given_by l.deeds) l.h
    → ServesAt at (called_by t.goes.deeds ++ made_in l.h) t.ran.connection (asked_by l.deeds ++ asked_by t.goes.deeds) (heard_by l.deeds ++ heard_by t.goes.deeds) (given_by l.deeds ++ given_by t.goes.deeds) (behind at t.goes.deeds (Polled at ∷ l.h))
ran_serves near far near' far' name at act entry l t s =
    let mid = begun near far name act in
    did_serves piping at t.goes.deeds mid.connection t.ran.connection (seen mid.sessions) (seen t.ran.sessions) (linked mid.links) (linked t.ran.links) (asked_by l.deeds) (heard_by l.deeds) (given_by l.deeds) (Polled at ∷ l.h) t.goes.did refl
    (serves_looks at mid.connection (asked_by l.deeds) (heard_by l.deeds) (given_by l.deeds) l.h (begun_serves near far name act l s))

near_serves : (near far near' far' : End Piped) (name at : ℕ) (act : Act) (entry : Entry) (l : Life) (t : Turned near far name at act near' far' entry) → Serves near.connection (asked_by l.deeds) (heard_by l.deeds) (given_by l.deeds) l.h
    → Serves near'.connection (asked_by (t.goes.deeds ++ l.deeds)) (heard_by (t.goes.deeds ++ l.deeds)) (given_by (t.goes.deeds ++ l.deeds)) (behind at t.goes.deeds (Polled at ∷ l.h))
near_serves near far near' far' name at act entry l t s =
    let ds = t.goes.deeds in
    let h' = behind at ds (Polled at ∷ l.h) in
    let a = asked_by (ds ++ l.deeds) in
    let b = heard_by (ds ++ l.deeds) in
    let c = given_by (ds ++ l.deeds) in
    subst (λ (p : Peering Piped). Serves p a b c h') (sym t.told.connection)
    (subst (λ (u : List Frame). Serves t.ran.connection u b c h') (sym (asked_then ds l.deeds))
    (subst (λ (u : List Frame). Serves t.ran.connection (asked_by l.deeds ++ asked_by ds) u c h') (sym (heard_then ds l.deeds))
    (subst (λ (u : List Frame). Serves t.ran.connection (asked_by l.deeds ++ asked_by ds) (heard_by l.deeds ++ heard_by ds) u h') (sym (given_then ds l.deeds)) (ran_serves near far near' far' name at act entry l t s).serves)))

pub near_lives : (near far near' far' : End Piped) (name at : ℕ) (act : Act) (entry : Entry) (l : Life) → Lives near far l → (t : Turned near far name at act near' far' entry) → Lives near' far' (lived at t.goes.deeds l)
near_lives near far near' far' name at act entry l k t =
    let ds = t.goes.deeds in
    let es = behind at ds [] in
    let output = near_output near far near' far' name at act entry t in
    record {
      serves = near_serves near far near' far' name at act entry l t k.serves;
      calls_are = (ran_serves near far near' far' name at act entry l t k.serves).calls_are ∙ ap (λ (u : List (ℕ × ConnectionCall)). called_by ds ++ u) k.calls_are ∙ sym (called_then ds l.deeds);
      reads = ap (λ (u : List Local). read_in u ++ (pipe_of near'.connection).input) (behind_grown at ds l.h) ∙ near_reads near far near' far' name at act entry l.h t k.reads;
      writes = ap wrote_in (behind_grown at ds l.h) ∙ wrote_grown es at l.h ∙ ap (λ (u : List ℕ). u ++ wrote_in es) k.writes ∙ sym output;
      bound = let more : length (pipe_of near'.connection).output ≡ length (pipe_of near.connection).output + length (wrote_in es) = ap length output ∙ length-append (pipe_of near.connection).output (wrote_in es) in
          let same = near_mark near far near' far' name at act entry t in omega (arith, k.bound, more, same);
      calm = subst (λ (u : List Local). IsCalm (link_in u)) (sym (behind_grown at ds l.h)) (near_calm near far near' far' name at act entry l.h t k.calm);
    }

-- ---- the other end

within_bound : (act : Act) (far : End Piped) → IsWithin act far → (pipe_of far.connection).mark ≤ length (pipe_of far.connection).output → (pipe_of far.connection).mark + count_of act far ≤ length (pipe_of far.connection).output
within_bound (Take n) far w b = let size = length-drop (pipe_of far.connection).mark (pipe_of far.connection).output in omega (arith, w, b, size)
within_bound TakeAll far w b = let size = length-drop (pipe_of far.connection).mark (pipe_of far.connection).output in omega (arith, b, size)
within_bound (Call call) far w b = omega (arith, b)

pub far_lives : (near far near' far' : End Piped) (name at : ℕ) (act : Act) (entry : Entry) (l m : Life) → Lives near far l → Lives far near m → Turned near far name at act near' far' entry → Lives far' near' m
far_lives near far near' far' name at act entry l m near_is k t =
    let count = count_of act far in
    let link : pipe_of far'.connection ≡ drained (pipe_of far.connection) count = far_pipe near far near' far' name at act entry t in
    record {
      serves = subst (λ (e : End Piped). Serves e.connection (asked_by m.deeds) (heard_by m.deeds) (given_by m.deeds) m.h) (sym t.far_end)
          (serves_links far.connection (drained (pipe_of far.connection) count) (asked_by m.deeds) (heard_by m.deeds) (given_by m.deeds) m.h k.serves);
      calls_are = k.calls_are;
      reads = ap (λ (z : Piped). read_in m.h ++ z.input) link ∙ k.reads ∙ sym (take-append-le (pipe_of near.connection).mark (pipe_of near.connection).output (wrote_in (behind at t.goes.deeds [])) near_is.bound)
          ∙ ap (λ (u : List ℕ). take (pipe_of near.connection).mark u) (sym (near_output near far near' far' name at act entry t))
          ∙ ap (λ (n : ℕ). take n (pipe_of near'.connection).output) (sym (near_mark near far near' far' name at act entry t));
      writes = k.writes ∙ ap (λ (z : Piped). z.output) (sym link);
      bound = subst (λ (z : Piped). z.mark ≤ length z.output) (sym link) (within_bound act far t.can.0 k.bound);
      calm = k.calm;
    }

-- ---- the start

pub fresh_lives : (e f : Side) (near far : End Piped) → IsFresh e near → IsFresh f far → Lives near far unlived
fresh_lives e f near far n m =
    let pipe : pipe_of near.connection ≡ empty_pipe = ap (λ (p : Peering Piped). pipe_of p) n.connection ∙ link_of-fresh empty_pipe empty_pipe (kind_of e) in
    let other : pipe_of far.connection ≡ empty_pipe = ap (λ (p : Peering Piped). pipe_of p) m.connection ∙ link_of-fresh empty_pipe empty_pipe (kind_of f) in
    record {
      serves = subst (λ (p : Peering Piped). Serves p [] [] [] []) (sym n.connection) (serves_fresh empty_pipe (kind_of e));
      calls_are = refl;
      reads = ap (λ (z : Piped). z.input) pipe ∙ ap (λ (z : Piped). take z.mark z.output) (sym other);
      writes = ap (λ (z : Piped). z.output) (sym pipe);
      bound = subst (λ (z : Piped). z.mark ≤ length z.output) (sym pipe) (omega arith);
      calm = calm_none;
    }
