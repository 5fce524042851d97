-- An end that has lived goes on so.
use Rattle.std.proofs.Common.{◌≡◌, ℕ, List, [], ◌∷◌, ◌++◌, refl, sym, ap, ◌∙◌, subst, append_assoc, arith, Option, Some, Vec, Global}
use Rattle.std.proofs.lemmas.List.{append-nil}
use Rattle.std.proofs.lemmas.List.Elements.{All-nil}
use Rattle.list_laws.specs.Told.{Loses, Gains}
use Rattle.list_laws.proofs.Told.{loses_none, gains_none, loses_then, gains_then}
use Rattle.amqp_wire.specs.declared.link.Link.{Ghosts}
use Rattle.amqp_wire.specs.Events.{Went, read_of, wrote_of}
use Rattle.amqp_wire.proofs.Events.{went_reads, went_writes, went_mark, went_faults, read_of-append, wrote_of-append}
use Rattle.amqp_transport.specs.declared.frames.Frame.{Frame}
use Rattle.amqp_words.specs.declared.call.Call.{Call as ConnectionCall}
use Rattle.amqp_calls.specs.declared.reply.NamedReply.{NamedReply}
use Rattle.amqp_link_words.specs.declared.link_call.LinkCall.{LinkCall}
use Rattle.amqp_links.specs.State.{seen as linked}
use Rattle.amqp_sessions.specs.State.{State, seen}
use Rattle.amqp_sessions.specs.declared.sessions.Sessions.{Sessions}
use Rattle.amqp_peer.specs.declared.peer.PeerKind.{PeerKind}
use Rattle.amqp_peer.specs.History.{Local, Polled, made_in, link_in, read_in, wrote_in}
use Rattle.amqp_peer.specs.Peering.{Peering, Has, link_of, with_link_of}
use Rattle.amqp_peer.proofs.Laws.{link_in-append, link_of-fresh, link_of-with_link, replies_law, causes_law, gated_law, tied_law, said_law, beats_law}
use Rattle.amqp_end.specs.declared.end.End.{End}
use Rattle.amqp_end.specs.Deeds.{behind, called_by, asked_by, heard_by, given_by, told_by}
use Rattle.amqp_end.specs.Goes.{Goes, on_connection}
use Rattle.amqp_end.proofs.Goes.{told_then}
use Rattle.amqp_end.proofs.Passing.{goes_passes}
use Rattle.amqp_ends.specs.Streams.{Serves}
use Rattle.amqp_ends.proofs.Serving.{serves_fresh, serves_looks, serves_links}
use Rattle.amqp_session_world.specs.Carried.{KeepsPromises}
use Rattle.amqp_session_world.specs.Lives.{Life, unlived, lived}
use Rattle.amqp_session_world.proofs.Serving.{ServesAt, did_serves, asked_then, heard_then, given_then, behind_of}
use Rattle.amqp_serve.specs.Ran.{Waited, Turn, calls, polls, waits, tells, forgets, IsTurn, Ran, told}
use Rattle.amqp_session_world.specs.Answers.{AreOfSessions, IsOfSession, IsTold}
use Rattle.amqp_session_world.proofs.Sessions.{sessions_answer}
use Rattle.amqp_session_world.proofs.Telling.{ends_tell}
use Rattle.served_connection.specs.ServeLaws.History.{IsFresh, called, turned, life_of, Passed, Lived}

-- ---- what a link gave and took

-- events behind a moment
read_later : (es : List Local) (at : ℕ) (h : List Local) → read_in (es ++ Polled at ∷ h) ≡ read_in h ++ read_in es
read_later es at h = ap read_of (link_in-append es (Polled at ∷ h)) ∙ read_of-append (link_in es) (link_in h)

wrote_later : (es : List Local) (at : ℕ) (h : List Local) → wrote_in (es ++ Polled at ∷ h) ≡ wrote_in h ++ wrote_in es
wrote_later es at h = ap wrote_of (link_in-append es (Polled at ∷ h)) ∙ wrote_of-append (link_in es) (link_in h)

passed_none : {L : Type 0} (link : Ghosts L) (a b : L) → b ≡ a → Passed link a [] b
passed_none {L} link a b e = record {
  reads = loses_none (link.input a) (link.input b) (ap (λ (x : L). link.input x) e);
  writes = gains_none (link.output a) (link.output b) (ap (λ (x : L). link.output x) e);
  mark = ap (λ (x : L). link.mark x) e;
  faults = let same : link.faults b ≡ link.faults a = ap (λ (x : L). link.faults x) e in omega (arith, same);
}

passed_on : {L : Type 0} (link : Ghosts L) (a b c : L) (es : List Local) (at : ℕ) (h : List Local) → Passed link a h b → Went link b (link_in es) c → Passed link a (es ++ Polled at ∷ h) c
passed_on link a b c es at h p w = record {
  reads = subst (λ (u : List ℕ). Loses (link.input a) (link.input c) u) (sym (read_later es at h)) (loses_then (link.input a) (link.input b) (link.input c) (read_in h) (read_in es) p.reads (went_reads link b c (link_in es) w));
  writes = subst (λ (u : List ℕ). Gains (link.output a) (link.output c) u) (sym (wrote_later es at h)) (gains_then (link.output a) (link.output b) (link.output c) (wrote_in h) (wrote_in es) p.writes (went_writes link b c (link_in es) w));
  mark = went_mark link b c (link_in es) w ∙ p.mark;
  faults = let before = p.faults in let since = went_faults link b c (link_in es) w in omega (arith, before, since);
}

-- a link that was waited for
passed_waited : {L : Type 0} (link : Ghosts L) (a b c : L) (h : List Local) → Passed link a h b → Waited link b c → Passed link a h c
passed_waited link a b c h p w = record {
  reads = subst (λ (u : Option (List ℕ)). Loses (link.input a) u (read_in h)) (sym w.input) p.reads;
  writes = subst (λ (u : Option (List ℕ)). Gains (link.output a) u (wrote_in h)) (sym w.output) p.writes;
  mark = w.mark ∙ p.mark;
  faults = let before = p.faults in let since = w.faults in omega (arith, before, since);
}

-- ---- an end that goes on

keeps : {L : Type 0} (p : Peering L) (h : List Local) → Has p h → KeepsPromises h
keeps p h k = record { replies = replies_law p h k; causes = causes_law p h k; writes = gated_law p h k; frames = tied_law p h k; says = said_law p h k; beats = beats_law p h k }

serves_now : {L : Type 0} {call : Option ℕ} (link : Ghosts L) (at : ℕ) (ds : List (ℕ × ConnectionCall)) {asks : List (ℕ × LinkCall)} (m n : End L) (l : Life) (g : Goes link at call ds asks m n) → Serves m.connection (asked_by l.deeds) (heard_by l.deeds) (given_by l.deeds) l.h
    → ServesAt at (called_by g.deeds ++ made_in l.h) n.connection (asked_by l.deeds ++ asked_by g.deeds) (heard_by l.deeds ++ heard_by g.deeds) (given_by l.deeds ++ given_by g.deeds) (behind at g.deeds (Polled at ∷ l.h))
serves_now link at ds m n l g s =
    did_serves link at g.deeds m.connection n.connection (seen m.sessions) (seen n.sessions) (linked m.links) (linked n.links) (asked_by l.deeds) (heard_by l.deeds) (given_by l.deeds) (Polled at ∷ l.h) g.did refl
    (serves_looks at m.connection (asked_by l.deeds) (heard_by l.deeds) (given_by l.deeds) l.h s)

serves_then : {L : Type 0} {call : Option ℕ} (link : Ghosts L) (at : ℕ) (ds : List (ℕ × ConnectionCall)) {asks : List (ℕ × LinkCall)} (m n : End L) (l : Life) (g : Goes link at call ds asks m n) → Serves m.connection (asked_by l.deeds) (heard_by l.deeds) (given_by l.deeds) l.h
    → Serves n.connection (asked_by (g.deeds ++ l.deeds)) (heard_by (g.deeds ++ l.deeds)) (given_by (g.deeds ++ l.deeds)) (behind at g.deeds (Polled at ∷ l.h))
serves_then link at ds m n l g s =
    let es = g.deeds in
    let h' = behind at es (Polled at ∷ l.h) in
    let b = heard_by (es ++ l.deeds) in
    let c = given_by (es ++ l.deeds) in
    subst (λ (u : List Frame). Serves n.connection u b c h') (sym (asked_then es l.deeds))
    (subst (λ (u : List Frame). Serves n.connection (asked_by l.deeds ++ asked_by es) u c h') (sym (heard_then es l.deeds))
    (subst (λ (u : List Frame). Serves n.connection (asked_by l.deeds ++ asked_by es) (heard_by l.deeds ++ heard_by es) u h') (sym (given_then es l.deeds)) (serves_now link at ds m n l g s).serves))

lives_on : {L : Type 0} {call : Option ℕ} (link : Ghosts L) (first : L) (cs ds : List (ℕ × ConnectionCall)) (answers : List NamedReply) (at : ℕ) {asks : List (ℕ × LinkCall)} (m n : End L) (l : Life) (g : Goes link at call ds asks m n) → Lived link first cs answers m l → Lived link first (ds ++ cs) answers n (lived at g.deeds l)
lives_on {L} link first cs ds answers at m n l g k =
    let es = g.deeds in
    let h' = behind at es (Polled at ∷ l.h) in
    let s = serves_then link at ds m n l g k.serves in
    record {
      serves = s;
      promises = keeps n.connection h' s.has;
      calls_are = (serves_now link at ds m n l g k.serves).calls_are ∙ ap (λ (u : List (ℕ × ConnectionCall)). u ++ made_in l.h) g.made ∙ ap (λ (u : List (ℕ × ConnectionCall)). ds ++ u) k.calls_are;
      told_are = told_then es l.deeds ∙ ap (λ (u : List NamedReply). u ++ told_by es) k.told_are ∙ append_assoc answers m.replies.items (told_by es) ∙ ap (λ (u : List NamedReply). answers ++ u) (sym g.answers);
      replied = subst (λ (u : List NamedReply). IsTold u n.connection.replies h') (sym (told_then es l.deeds))
          (ends_tell link at m.connection (seen m.sessions) (linked m.links) es n.connection (seen n.sessions) (linked n.links) (told_by l.deeds) (Polled at ∷ l.h) g.did k.sessions_reply k.replied);
      sessions_reply = sessions_answer link at m.connection (seen m.sessions) (linked m.links) es n.connection (seen n.sessions) (linked n.links) g.did k.sessions_reply;
      passed = λ (d : L). subst (λ (u : List Local). Passed link first u (link_of d n.connection)) (sym (behind_of at es (Polled at ∷ l.h)))
          (passed_on link first (link_of d m.connection) (link_of d n.connection) (behind at es []) at l.h (k.passed d) ((goes_passes link at ds m n g).went d));
    }

-- ---- an end whose connection and sessions stay

lives_same : {L : Type 0} (link : Ghosts L) (first : L) (cs : List (ℕ × ConnectionCall)) (answers answers' : List NamedReply) (m n : End L) (l : Life) → n.connection ≡ m.connection → n.sessions ≡ m.sessions → answers ++ m.replies.items ≡ answers' ++ n.replies.items → Lived link first cs answers m l → Lived link first cs answers' n l
lives_same {L} link first cs answers answers' m n l e f g k = record {
  serves = subst (λ (p : Peering L). Serves p (asked_by l.deeds) (heard_by l.deeds) (given_by l.deeds) l.h) (sym e) k.serves;
  promises = k.promises;
  calls_are = k.calls_are;
  told_are = k.told_are ∙ g;
  replied = subst (λ (p : Peering L). IsTold (told_by l.deeds) p.replies l.h) (sym e) k.replied;
  sessions_reply = subst (λ (s : Sessions). AreOfSessions (seen s).replies) (sym f) k.sessions_reply;
  passed = λ (d : L). subst (λ (p : Peering L). Passed link first l.h (link_of d p)) (sym e) (k.passed d);
}

-- its link was waited for
lives_linked : {L : Type 0} (link : Ghosts L) (first : L) (cs : List (ℕ × ConnectionCall)) (answers : List NamedReply) (m : End L) (after : L) (l : Life) → ((d : L) → Waited link (link_of d m.connection) after) → Lived link first cs answers m l
    → Lived link first cs answers (record m { connection = with_link_of m.connection after }) l
lives_linked {L} link first cs answers m after l w k = record {
  serves = serves_links m.connection after (asked_by l.deeds) (heard_by l.deeds) (given_by l.deeds) l.h k.serves;
  promises = k.promises;
  calls_are = k.calls_are;
  told_are = k.told_are;
  replied = k.replied;
  sessions_reply = k.sessions_reply;
  passed = λ (d : L). subst (λ (x : L). Passed link first l.h x) (sym (link_of-with_link d m.connection after)) (passed_waited link first (link_of d m.connection) after l.h (k.passed d) (w d));
}

-- ---- turns

-- the calls of one turn, and the answers that it tells
abbrev calls_at : Turn → List (ℕ × ConnectionCall)
calls_at (calls name call) = on_connection name call
calls_at polls = []
calls_at waits = []
calls_at (tells rs) = []
calls_at (forgets name) = []

abbrev told_at : Turn → List NamedReply
told_at (calls name call) = []
told_at polls = []
told_at waits = []
told_at (tells rs) = rs
told_at (forgets name) = []

calls_first : (t : Turn) (ts : List Turn) (cs : List (ℕ × ConnectionCall)) → calls_at t ++ (called ts ++ cs) ≡ called (t ∷ ts) ++ cs
calls_first (calls name call) ts cs = sym (append_assoc (on_connection name call) (called ts) cs)
calls_first polls ts cs = refl
calls_first waits ts cs = refl
calls_first (tells rs) ts cs = refl
calls_first (forgets name) ts cs = refl

told_last : (t : Turn) (ts : List Turn) (answers : List NamedReply) → (answers ++ told ts) ++ told_at t ≡ answers ++ told (t ∷ ts)
unfolding told
told_last (calls name call) ts answers = append-nil (answers ++ told ts)
told_last polls ts answers = append-nil (answers ++ told ts)
told_last waits ts answers = append-nil (answers ++ told ts)
told_last (tells rs) ts answers = append_assoc answers (told ts) rs
told_last (forgets name) ts answers = append-nil (answers ++ told ts)

none_told : (answers rs ss : List NamedReply) → ss ≡ rs → answers ++ rs ≡ (answers ++ []) ++ ss
none_told answers rs ss e = ap (λ (u : List NamedReply). answers ++ u) (sym e) ∙ ap (λ (u : List NamedReply). u ++ ss) (sym (append-nil answers))

all_told : (answers rs told ss : List NamedReply) → told ≡ rs → ss ≡ [] → answers ++ rs ≡ (answers ++ told) ++ ss
all_told answers rs told ss e f = ap (λ (u : List NamedReply). answers ++ u) (sym e) ∙ sym (append-nil (answers ++ told)) ∙ ap (λ (u : List NamedReply). (answers ++ told) ++ u) (sym f)

as_told : {L : Type 0} (link : Ghosts L) (first : L) (cs : List (ℕ × ConnectionCall)) (answers : List NamedReply) (n : End L) (l : Life) → Lived link first cs answers n l → Lived link first cs (answers ++ []) n l
as_told link first cs answers n l k = subst (λ (u : List NamedReply). Lived link first cs u n l) (sym (append-nil answers)) k

turn_lives : {L : Type 0} (link : Ghosts L) (first : L) (cs : List (ℕ × ConnectionCall)) (answers : List NamedReply) (m : End L) (t : Turn) (n : End L) (l : Life) (k : IsTurn link m t n) → Lived link first cs answers m l
    → Lived link first (calls_at t ++ cs) (answers ++ told_at t) n (turned link m t n k l)
turn_lives link first cs answers m (calls name call) n l k v =
    as_told link first (on_connection name call ++ cs) answers n (lived k.1 k.2.deeds l)
    (lives_on link first cs (on_connection name call) answers k.1 (record m { last = Some name }) n l k.2 (lives_same link first cs answers answers m (record m { last = Some name }) l refl refl refl v))
turn_lives link first cs answers m polls n l k v = as_told link first cs answers n (lived k.0 k.1.deeds l) (lives_on link first cs [] answers k.0 m n l k.1 v)
turn_lives {L} link first cs answers m waits n l k v =
    as_told link first cs answers n l (subst (λ (e : End L). Lived link first cs answers e l) (sym k.rest) (lives_linked link first cs answers m k.after l k.waited v))
turn_lives link first cs answers m (tells rs) n l k v = lives_same link first cs answers (answers ++ rs) m n l k.1.connection k.1.sessions (all_told answers m.replies.items rs n.replies.items k.0 k.1.replies) v
turn_lives link first cs answers m (forgets name) n l k v =
    lives_same link first cs answers (answers ++ []) m n l k.connection k.sessions (none_told answers m.replies.items n.replies.items (ap (λ (r : Vec NamedReply Global). r.items) k.replies)) v

pub lives_go : {L : Type 0} (link : Ghosts L) (first : L) (cs : List (ℕ × ConnectionCall)) (answers : List NamedReply) (old new : End L) (ts : List Turn) (l : Life) (ran : Ran link old ts new) → Lived link first cs answers old l
    → Lived link first (called ts ++ cs) (answers ++ told ts) new (life_of link old ts new ran l)
unfolding Ran told
lives_go {L} link first cs answers old new [] l ran v = as_told link first cs answers new l (subst (λ (e : End L). Lived link first cs answers e l) (sym ran) v)
lives_go {L} link first cs answers old new (t ∷ ts) l ran v =
    let m = ran.0 in
    let life = life_of link old ts m ran.1 l in
    let last = turned link m t new ran.2 life in
    let k = turn_lives link first (called ts ++ cs) (answers ++ told ts) m t new life ran.2 (lives_go link first cs answers old m ts l ran.1 v) in
    subst (λ (u : List (ℕ × ConnectionCall)). Lived link first u (answers ++ told (t ∷ ts)) new last) (calls_first t ts cs)
    (subst (λ (u : List NamedReply). Lived link first (calls_at t ++ (called ts ++ cs)) u new last) (told_last t ts answers) k)

-- ---- the start

pub lives_begin : {L : Type 0} (link : Ghosts L) (first : L) (kind : PeerKind) (e : End L) → IsFresh first kind e → Lived link first [] [] e unlived
lives_begin {L} link first kind e f =
    let s : Serves e.connection [] [] [] [] = subst (λ (p : Peering L). Serves p [] [] [] []) (sym f.connection) (serves_fresh first kind) in
    record {
      serves = s;
      promises = keeps e.connection [] s.has;
      calls_are = refl;
      told_are = sym f.replies;
      replied = subst (λ (p : Peering L). IsTold [] p.replies []) (sym f.connection) (λ (name : ℕ). refl);
      sessions_reply = subst (λ (s : State). AreOfSessions s.replies) (sym f.sessions) (All-nil (λ (r : NamedReply). IsOfSession r.reply));
      passed = λ (d : L). passed_none link first (link_of d e.connection) (ap (λ (p : Peering L). link_of d p) f.connection ∙ link_of-fresh d first kind);
    }
