-- What stands behind the deeds of an end.
use Rattle.std.proofs.Common.{◌≡◌, inl, inr, ◌∙◌, ap, subst, refl, sym, append_assoc, ℕ, nat_eq, not, ◌==◌, List, [], ◌∷◌, ◌++◌, map, filter, All, Contains, Option, Some, None}
use Rattle.std.proofs.lemmas.List.{append-nil, map-append}
use Rattle.std.proofs.lemmas.List.Elements.{All-nil, All-append, All-filter, All-map, Contains-append_left, Contains-push}
use Rattle.std.proofs.lemmas.List.Sorted.{All-permutation}
use Rattle.std.specs.Map.{values_of, lookup}
use Rattle.indexmap.specs.IndexMap.{swap_remove_entry}
use Rattle.amqp_wire.specs.declared.link.Link.{Ghosts}
use Rattle.amqp_words.specs.declared.reply.NamedReply.{NamedReply as ConnectionReply}
use Rattle.amqp_link_words.specs.declared.link_reply.NamedLinkReply.{NamedLinkReply}
use Rattle.amqp_calls.specs.declared.call.SessionNumbers.{SessionNumbers}
use Rattle.amqp_calls.specs.declared.reply.NamedReply.{NamedReply}
use Rattle.amqp_calls.specs.declared.reply.SessionReply.TheVariants as reply
use Rattle.amqp_frames.specs.declared.shared.ConnectionStopReason.{ConnectionStopReason}
use Rattle.amqp_frames.specs.declared.shared.IncomingSession.{IncomingSession}
use Rattle.amqp_session.specs.declared.error.BeginError.{BeginError}
use Rattle.amqp_links.specs.State.{State as Links}
use Rattle.amqp_peer.specs.Frames.{asking}
use Rattle.amqp_transport.specs.declared.frames.Frame.{Frame}
use Rattle.amqp_peer.specs.Peering.{Peering}
use Rattle.amqp_session.specs.State.{Framed}
use Rattle.amqp_session.specs.Begin as session
use Rattle.amqp_sessions.specs.Calls.{settings, entered, accepted}
use Rattle.amqp_sessions.specs.Frames.{joined, heard, heard_all, heard_early_at, written, refusing}
use Rattle.amqp_sessions.specs.State.{State, none_begun, endpoint_of}
use Rattle.amqp_end.specs.Answers.{together, of_connection, of_link, AreOrdered, with_first}
use Rattle.amqp_end.specs.Deeds as end
use Rattle.amqp_end.specs.Deeds.{Deed, IsDeed, Did, framed_of, given_of, given_by, told_of, told_by}
use Rattle.amqp_end.specs.Moves as move
use Rattle.amqp_end.specs.Moves.{Move, on}
use Rattle.session_answers.specs.Past.{Past, nothing, HasBegun}
use Rattle.session_answers.specs.Standing.{StandsAs, AllStand, AreStanding, EndpointStands, OwnStands, PeerStands}
use Rattle.session_answers.specs.Passing.{added, read_of, channels_of, begins_of, accepted_of, endings_of, refused_of, stops_of, astray_of, behind}
use Rattle.session_answers.specs.Laws.{DeedsStand}
use Rattle.session_answers.proofs.Entries.{all_found, all_gone}
use Rattle.session_answers.proofs.Parts.{Grows, adding, grows_adding, grows_then, answers_grow}
use Rattle.session_answers.proofs.Steps.{Tables, tables_grow, put, put_heard, put_all, put_written, put_refusing, handed_tables, handed_output, heard_tables, heard_output, all_output, written_tables, written_output, refusing_tables, refusing_output, begun_tables, joined_tables, end_tables, end_output, halted_tables, concluded_tables, concluded_output}
use Rattle.session_answers.proofs.Answering.{one_more, heard_answers, all_heard, handed_replies, written_replies, refusing_replies, end_answers, concluded_answers}

pub none_stands : AreStanding nothing none_begun
none_stands = record {
  endpoints = All-nil (EndpointStands nothing);
  channels = All-nil (OwnStands nothing);
  remotes = All-nil (PeerStands nothing);
  early = All-nil (λ (e : ℕ × List Framed). All (Contains nothing.read) e.1);
  waiting = tt;
  replies = All-nil (λ (r : NamedReply). StandsAs nothing r.name r.reply);
}

tables_of : (p : Past) (s : State) → AreStanding p s → Tables p s
tables_of p s k = record { endpoints = k.endpoints; channels = k.channels; remotes = k.remotes; early = k.early; waiting = k.waiting }

standing_of : (p : Past) (s : State) → Tables p s → AllStand p s.replies → AreStanding p s
standing_of p s h k = record { endpoints = h.endpoints; channels = h.channels; remotes = h.remotes; early = h.early; waiting = h.waiting; replies = k }

standing_grows : (p q : Past) (s : State) → Grows p q → AreStanding p s → AreStanding q s
standing_grows p q s g k = standing_of q s (tables_grow p q s g (tables_of p s k)) (answers_grow p q s.replies g k.replies)

-- ---- one deed

-- the past that a deed brings, before the sessions put anything out
abbrev more_by : Deed → Past → Past
more_by d p = record {
  written = p.written;
  read = p.read ++ read_of d;
  channels = p.channels ++ channels_of d;
  begins = p.begins ++ begins_of d;
  accepted = p.accepted ++ accepted_of d;
  endings = p.endings ++ endings_of d;
  refused = p.refused ++ refused_of d;
  stops = p.stops ++ stops_of d;
  astray = p.astray ++ astray_of d;
}

grows_by : (d : Deed) (p : Past) → Grows p (more_by d p)
grows_by d p = record {
  written = λ x k. k;
  read = λ x k. Contains-append_left p.read (read_of d) x k;
  channels = λ e k. Contains-append_left p.channels (channels_of d) e k;
  begins = λ n k. Contains-append_left p.begins (begins_of d) n k;
  accepted = λ e k. Contains-append_left p.accepted (accepted_of d) e k;
  later = endings_of d;
  endings = refl;
  refused = λ e k. Contains-append_left p.refused (refused_of d) e k;
  stops = λ why k. Contains-append_left p.stops (stops_of d) why k;
  astray = λ n k. Contains-append_left p.astray (astray_of d) n k;
}

-- behind one deed, the sessions have put these out
record Step (q : Past) (given : List Framed) (s s' : State) : Type 0 where
  written : List (ℕ × Framed)
  output : given ++ s'.output ≡ s.output ++ values_of written
  standing : AreStanding (adding written q) s'

-- nothing
quiet : (q : Past) (s s' : State) → s'.output ≡ s.output → AreStanding q s' → Step q [] s s'
quiet q s s' o k = record { written = []; output = o ∙ sym (append-nil s.output); standing = standing_grows q (adding [] q) s' (grows_adding [] q) k }

like : (q : Past) (given : List Framed) (s t s' : State) → s' ≡ t → Step q given s t → Step q given s s'
like q given s t s' e k = subst (λ (u : State). Step q given s u) (sym e) k

same : (q : Past) (s s' : State) → s' ≡ s → AreStanding q s → Step q [] s s'
same q s s' e k = like q [] s s s' e (quiet q s s refl k)

-- a session that answers the peer's Begin, before it hears what came since
abbrev joining : ℕ → SessionNumbers → ℕ → ℕ → IncomingSession → State → State
joining name x channel limit incoming s = joined name incoming.channel (entered name channel (session.accepted (settings x limit) channel incoming) s)

hears_early : (q : Past) (s t : State) (remote : ℕ) (o : Option (List Framed)) → lookup (nat_eq remote) t.early ≡ o → t.output ≡ s.output → Tables q t → AllStand q t.replies → Step q [] s (heard_early_at o remote t)
hears_early q s t remote None e out h k = quiet q s t out (standing_of q t h k)
hears_early q s t remote (Some xs) e out h k =
    let u : State = record t { early = swap_remove_entry (nat_eq remote) t.early } in
    let own : All (Contains q.read) xs = all_found (λ (e : ℕ × List Framed). All (Contains q.read) e.1) remote xs t.early e h.early in
    let left : Tables q u = record { endpoints = h.endpoints; channels = h.channels; remotes = h.remotes; waiting = h.waiting; early = all_gone (λ (e : ℕ × List Framed). All (Contains q.read) e.1) (nat_eq remote) t.early h.early } in
    let all = all_heard q xs u own left k in
    record {
      written = put_all xs u;
      output = all_output xs u ∙ ap (λ (o : List Framed). o ++ values_of (put_all xs u)) out;
      standing = standing_of (adding (put_all xs u) q) (heard_all xs u) all.0 all.1;
    }

accepts : (q : Past) (name : ℕ) (x : SessionNumbers) (channel limit : ℕ) (incoming : IncomingSession) (s : State) → Contains q.read (framed_of (asking incoming)) → Contains q.channels (name, channel)
    → Contains q.accepted (name, framed_of (asking incoming)) → AreStanding q s → Step q [] s (accepted name x channel limit incoming s)
accepts q name x channel limit incoming s read on there k =
    let t : State = joining name x channel limit incoming s in
    let begin : Framed = framed_of (asking incoming) in
    let begun : HasBegun q name incoming.channel = (begin, (refl, ((tt, inr there), read))) in
    let tables : Tables q t = joined_tables q name x channel limit incoming s on begun (tables_of q s k) in
    let answers : AllStand q t.replies = one_more q name reply.Session s.replies k.replies (record { begin = begin; theirs = (tt, inr there); read = read; own = inr there }) in
    hears_early q s t incoming.channel (lookup (nat_eq incoming.channel) t.early) refl refl tables answers

-- a move, which brings more to the past
moves : (m : Move) (p : Past) (s : State) → AreStanding p s → Step (more_by (end.Moves m) p) [] s (on m s)
moves m p s h = by m (standing_grows p (more_by (end.Moves m) p) s (grows_by (end.Moves m) p) h)
  where
    by : (m : Move) → AreStanding (more_by (end.Moves m) p) s → Step (more_by (end.Moves m) p) [] s (on m s)
    by (move.Begun name x channel limit) k =
        let q : Past = more_by (end.Moves (move.Begun name x channel limit)) p in
        quiet q s _ refl
        (standing_of q _ (begun_tables q name x channel limit s (Contains-push p.begins name) (Contains-push p.channels (name, channel)) (tables_of q s k)) (one_more q name reply.Pending s.replies k.replies tt))
    by (move.Awaiting name x) k =
        let q : Past = more_by (end.Moves (move.Awaiting name x)) p in
        quiet q s _ refl (record { endpoints = k.endpoints; channels = k.channels; remotes = k.remotes; early = k.early; waiting = tt; replies = one_more q name reply.Pending s.replies k.replies tt })
    by (move.Refused name e) k =
        let q : Past = more_by (end.Moves (move.Refused name e)) p in
        quiet q s _ refl (record {
          endpoints = k.endpoints;
          channels = k.channels;
          remotes = k.remotes;
          early = k.early;
          waiting = tt;
          replies = one_more q name (reply.BeginError e) s.replies k.replies (inl (Contains-push p.refused (name, e)));
        })
    by (move.Ended name other condition) k =
        let d : Deed = end.Moves (move.Ended name other condition) in
        let q : Past = more_by d p in
        quiet q s _ (end_output q (endpoint_of other s) name other condition s)
        (standing_of q _ (end_tables q (endpoint_of other s) name other condition s refl (Contains-push p.endings (name, other)) (tables_of q s k))
        (end_answers p q (endpoint_of other s) name other condition s refl (grows_by d p) refl (tables_of p s h) k.replies))
    by (move.HandedOut name) k =
        let q : Past = more_by (end.Moves (move.HandedOut name)) p in
        let w : List (ℕ × Framed) = put name (endpoint_of name s) in
        record {
          written = w;
          output = handed_output name s;
          standing = standing_of (adding w q) _ (handed_tables q name s (tables_of q s k))
              (subst (AllStand (adding w q)) (sym (handed_replies name s)) (answers_grow q (adding w q) s.replies (grows_adding w q) k.replies));
        }
    by (move.Halted why) k =
        let q : Past = more_by (end.Moves (move.Halted why)) p in
        quiet q s _ refl (standing_of q _ (halted_tables q why s (Contains-push p.stops why) (tables_of q s k)) k.replies)
    by (move.Concluded why) k =
        let q : Past = more_by (end.Moves (move.Concluded why)) p in
        let told : Contains q.stops why = Contains-push p.stops why in
        quiet q s _ (concluded_output q why s) (standing_of q _ (concluded_tables q why s told (tables_of q s k)) (concluded_answers q why s told (tables_of q s k) k.replies))

-- the frame that goes to the connection was to be written
takes : (q : Past) (x : Framed) (s s' : State) → s.output ≡ x ∷ s'.output → s' ≡ record s { output = s'.output } → AreStanding q s → Step q (x ∷ []) s s'
takes q x s s' o e k =
    let m : AreStanding q (record s { output = s'.output }) = record { endpoints = k.endpoints; channels = k.channels; remotes = k.remotes; early = k.early; waiting = k.waiting; replies = k.replies } in
    record { written = []; output = sym o ∙ sym (append-nil s.output); standing = standing_grows q (adding [] q) s' (grows_adding [] q) (subst (AreStanding q) (sym e) m) }

none_left : (q : Past) (s s' : State) → s' ≡ record s { replies = [] } → AreStanding q s → Step q [] s s'
none_left q s s' e k =
    like q [] s (record s { replies = [] }) s' e
    (quiet q s (record s { replies = [] }) refl (record { endpoints = k.endpoints; channels = k.channels; remotes = k.remotes; early = k.early; waiting = k.waiting; replies = All-nil (λ (r : NamedReply). StandsAs q r.name r.reply) }))

deed : {L : Type 0} (link : Ghosts L) (at : ℕ) (d : Deed) (c c' : Peering L) (s s' : State) (l l' : Links) (p : Past) → IsDeed link at c s l d c' s' l' → AreStanding p s → Step (more_by d p) (map framed_of (given_of d)) s s'
deed {L} link at d c c' s s' l l' p x h = by d x (standing_grows p (more_by d p) s (grows_by d p) h)
  where
    by : (d : Deed) → IsDeed link at c s l d c' s' l' → AreStanding (more_by d p) s → Step (more_by d p) (map framed_of (given_of d)) s s'
    by (end.Makes name call events) x k = same (more_by (end.Makes name call events) p) s s' x.1 k
    by (end.Polls events) x k = same (more_by (end.Polls events) p) s s' x.1 k
    by (end.Goes events) x k = same (more_by (end.Goes events) p) s s' x.1 k
    by (end.Moves m) x k = like (more_by (end.Moves m) p) [] s (on m s) s' x.1 (moves m p s h)
    by (end.Hears f) x k =
        let q : Past = more_by (end.Hears f) p in
        let y : Framed = framed_of f in
        let read : Contains q.read y = Contains-push p.read y in
        let w : List (ℕ × Framed) = put_heard y s in
        like q [] s (heard y s) s' x.2 (record {
          written = w;
          output = heard_output y s;
          standing = standing_of (adding w q) (heard y s) (heard_tables q y s read (tables_of q s k)) (heard_answers q y s read (tables_of q s k) k.replies);
        })
    by (end.Writes f events) x k = takes (more_by (end.Writes f events) p) (framed_of f) s s' x.0.takes.0 x.0.takes.1 k
    by (end.Seats channel) x k = same (more_by (end.Seats channel) p) s s' x.2 k
    by (end.Lacks e) x k = same (more_by (end.Lacks e) p) s s' x.2 k
    by (end.Frees channel) x k =
        let q : Past = more_by (end.Frees channel) p in
        like q [] s (record s { freed = s'.freed }) s' x.0.1 (quiet q s _ refl (record { endpoints = k.endpoints; channels = k.channels; remotes = k.remotes; early = k.early; waiting = k.waiting; replies = k.replies }))
    by (end.Accepts name n channel limit incoming) x k =
        let q : Past = more_by (end.Accepts name n channel limit incoming) p in
        like q [] s (accepted name n channel limit incoming s) s' x.2 (accepts q name n channel limit incoming s (Contains-push p.read (framed_of (asking incoming))) (Contains-push p.channels (name, channel)) (Contains-push p.accepted (name, framed_of (asking incoming))) k)
    by (end.Asks name call) x k = same (more_by (end.Asks name call) p) s s' x.1 k
    by (end.LinksHear other y) x k =
        let q : Past = more_by (end.LinksHear other y) p in
        like q [] s (record s { incoming = s'.incoming }) s' x.1.1 (quiet q s _ refl (record { endpoints = k.endpoints; channels = k.channels; remotes = k.remotes; early = k.early; waiting = k.waiting; replies = k.replies }))
    by (end.LinksWrite other y) x k =
        let q : Past = more_by (end.LinksWrite other y) p in
        let w : List (ℕ × Framed) = put_written other y (endpoint_of other s) in
        like q [] s (written other y s) s' x.1 (record {
          written = w;
          output = written_output other y (endpoint_of other s) s refl;
          standing = standing_of (adding w q) (written other y s) (written_tables q other y (endpoint_of other s) s refl (tables_of q s k))
              (subst (AllStand (adding w q)) (sym (written_replies (endpoint_of other s) other y s)) (answers_grow q (adding w q) s.replies (grows_adding w q) k.replies));
        })
    by (end.LinksLack other) x k =
        let q : Past = more_by (end.LinksLack other) p in
        let w : List (ℕ × Framed) = put_refusing other (endpoint_of other s) in
        like q [] s (refusing other s) s' x.1 (record {
          written = w;
          output = refusing_output other (endpoint_of other s) s refl;
          standing = standing_of (adding w q) (refusing other s) (refusing_tables q other (endpoint_of other s) s refl (Contains-push p.astray other) (tables_of q s k))
              (subst (AllStand (adding w q)) (sym (refusing_replies (endpoint_of other s) other s)) (answers_grow q (adding w q) s.replies (grows_adding w q) k.replies));
        })
    by end.LinksKnow x k = same (more_by end.LinksKnow p) s s' x.1 k
    by end.LinksLook x k = same (more_by end.LinksLook p) s s' x.1 k
    by (end.Tells answers) x k = none_left (more_by (end.Tells answers) p) s s' x.1 k
    by (end.TellsFirst name answers) x k = none_left (more_by (end.TellsFirst name answers) p) s s' x.1 k

-- ---- what is told

all_connection : (p : Past) (rs : List ConnectionReply) → AllStand p (map of_connection rs)
all_connection p rs = All-map (λ (r : NamedReply). StandsAs p r.name r.reply) of_connection rs (λ i d within. tt)

all_link : (p : Past) (rs : List NamedLinkReply) → AllStand p (map of_link rs)
all_link p rs = All-map (λ (r : NamedReply). StandsAs p r.name r.reply) of_link rs (λ i d within. tt)

all_told : (p : Past) (ss answers : List NamedReply) (cs : List ConnectionReply) (ls : List NamedLinkReply) → AreOrdered (together ss cs ls) answers → AllStand p ss → AllStand p answers
all_told p ss answers cs ls o k =
    let P : NamedReply → Type 0 = λ (r : NamedReply). StandsAs p r.name r.reply in
    All-permutation P (together ss cs ls) answers o.all
    (All-append P (ss ++ map of_connection cs) (map of_link ls) (All-append P ss (map of_connection cs) k (all_connection p cs)) (all_link p ls))

first_told : (p : Past) (name : ℕ) (answers : List NamedReply) → AllStand p answers → AllStand p (with_first name answers)
first_told p name answers k =
    let P : NamedReply → Type 0 = λ (r : NamedReply). StandsAs p r.name r.reply in
    All-append P (filter (λ (r : NamedReply). r.name == name) answers) (filter (λ (r : NamedReply). not (r.name == name)) answers)
    (All-filter (λ (r : NamedReply). r.name == name) P answers k) (All-filter (λ (r : NamedReply). not (r.name == name)) P answers k)

deed_told : {L : Type 0} (link : Ghosts L) (at : ℕ) (d : Deed) (c c' : Peering L) (s s' : State) (l l' : Links) (p : Past) → IsDeed link at c s l d c' s' l' → AllStand p s.replies → AllStand p (told_of d)
deed_told {L} link at d c c' s s' l l' p x k = by d x
  where
    none : AllStand p []
    none = All-nil (λ (r : NamedReply). StandsAs p r.name r.reply)

    by : (d : Deed) → IsDeed link at c s l d c' s' l' → AllStand p (told_of d)
    by (end.Tells answers) x = all_told p s.replies answers c.replies l.replies x.3 k
    by (end.TellsFirst name answers) x = first_told p name answers (all_told p s.replies answers c.replies l.replies x.3 k)
    by (end.Makes name call events) x = none
    by (end.Polls events) x = none
    by (end.Goes events) x = none
    by (end.Moves m) x = none
    by (end.Hears f) x = none
    by (end.Writes f events) x = none
    by (end.Seats channel) x = none
    by (end.Lacks e) x = none
    by (end.Frees channel) x = none
    by (end.Accepts name n channel limit incoming) x = none
    by (end.Asks name call) x = none
    by (end.LinksHear other y) x = none
    by (end.LinksWrite other y) x = none
    by (end.LinksLack other) x = none
    by end.LinksKnow x = none
    by end.LinksLook x = none

-- ---- all of them

-- a past is what stands in it
same_past : (p q : Past) → p.written ≡ q.written → p.read ≡ q.read → p.channels ≡ q.channels → p.begins ≡ q.begins → p.accepted ≡ q.accepted → p.endings ≡ q.endings → p.refused ≡ q.refused → p.stops ≡ q.stops → p.astray ≡ q.astray → p ≡ q
same_past p q w r c n a e f s l =
    ap (λ (x : List (ℕ × Framed)). record p { written = x }) w
    ∙ ap (λ (x : List Framed). record p { written = q.written; read = x }) r
    ∙ ap (λ (x : List (ℕ × ℕ)). record p { written = q.written; read = q.read; channels = x }) c
    ∙ ap (λ (x : List ℕ). record p { written = q.written; read = q.read; channels = q.channels; begins = x }) n
    ∙ ap (λ (x : List (ℕ × Framed)). record p { written = q.written; read = q.read; channels = q.channels; begins = q.begins; accepted = x }) a
    ∙ ap (λ (x : List (ℕ × ℕ)). record q { endings = x; refused = p.refused; stops = p.stops; astray = p.astray }) e
    ∙ ap (λ (x : List (ℕ × BeginError)). record q { refused = x; stops = p.stops; astray = p.astray }) f
    ∙ ap (λ (x : List ConnectionStopReason). record q { stops = x; astray = p.astray }) s
    ∙ ap (λ (x : List ℕ). record q { astray = x }) l

-- the past behind deeds and one more, of which the sessions put out the one, and then the other
behind_more : (a c : List (ℕ × Framed)) (d : Deed) (ds : List Deed) (p : Past) → adding c (more_by d (behind a ds p)) ≡ behind (a ++ c) (d ∷ ds) p
behind_more a c d ds p =
    same_past (adding c (more_by d (behind a ds p))) (behind (a ++ c) (d ∷ ds) p)
    (append_assoc p.written a c)
    (append_assoc p.read (added read_of ds) (read_of d))
    (append_assoc p.channels (added channels_of ds) (channels_of d))
    (append_assoc p.begins (added begins_of ds) (begins_of d))
    (append_assoc p.accepted (added accepted_of ds) (accepted_of d))
    (append_assoc p.endings (added endings_of ds) (endings_of d))
    (append_assoc p.refused (added refused_of ds) (refused_of d))
    (append_assoc p.stops (added stops_of ds) (stops_of d))
    (append_assoc p.astray (added astray_of ds) (astray_of d))

pub grows_behind : (w : List (ℕ × Framed)) (ds : List Deed) (p : Past) → Grows p (behind w ds p)
grows_behind w ds p = record {
  written = λ x k. Contains-append_left p.written w x k;
  read = λ x k. Contains-append_left p.read (added read_of ds) x k;
  channels = λ e k. Contains-append_left p.channels (added channels_of ds) e k;
  begins = λ n k. Contains-append_left p.begins (added begins_of ds) n k;
  accepted = λ e k. Contains-append_left p.accepted (added accepted_of ds) e k;
  later = added endings_of ds;
  endings = refl;
  refused = λ e k. Contains-append_left p.refused (added refused_of ds) e k;
  stops = λ why k. Contains-append_left p.stops (added stops_of ds) why k;
  astray = λ n k. Contains-append_left p.astray (added astray_of ds) n k;
}

-- what was given, with what is to be written still
given_then : (gs g out out' start : List Framed) (a c : List Framed) → gs ++ out ≡ start ++ a → g ++ out' ≡ out ++ c → (gs ++ g) ++ out' ≡ start ++ (a ++ c)
given_then gs g out out' start a c x y =
    append_assoc gs g out' ∙ ap (λ (u : List Framed). gs ++ u) y ∙ sym (append_assoc gs out c) ∙ ap (λ (u : List Framed). u ++ c) x ∙ append_assoc start a c

values_both : (a c : List (ℕ × Framed)) → values_of (a ++ c) ≡ values_of a ++ values_of c
values_both a c = map-append (λ (e : ℕ × Framed). e.1) a c

pub answers_stand : {L : Type 0} (link : Ghosts L) (at : ℕ) (c : Peering L) (s : State) (l : Links) (ds : List Deed) (c' : Peering L) (s' : State) (l' : Links) (p : Past) → Did link at c s l ds c' s' l' → AreStanding p s → DeedsStand p ds s s'
answers_stand link at c s l [] c' s' l' p x k =
    let q : Past = behind [] [] p in
    let here : AreStanding q s' = standing_grows p q s' (grows_behind [] [] p) (subst (AreStanding p) (sym x.1) k) in
    record { written = []; output = ap (λ (t : State). t.output) x.1 ∙ sym (append-nil s.output); standing = here; told = All-nil (λ (r : NamedReply). StandsAs q r.name r.reply) }
answers_stand link at c s l (d ∷ ds) c' s' l' p x k =
    let m : DeedsStand p ds s x.1 = answers_stand link at c s l ds x.0 x.1 x.2 p x.3 k in
    let q : Past = behind m.written ds p in
    let one : Step (more_by d q) (map framed_of (given_of d)) x.1 s' = deed link at d x.0 c' x.1 s' x.2 l' q x.4 m.standing in
    let r : Past = behind (m.written ++ one.written) (d ∷ ds) p in
    let is : adding one.written (more_by d q) ≡ r = behind_more m.written one.written d ds p in
    let grows : Grows q r = subst (λ (u : Past). Grows q u) is (grows_then q (more_by d q) (adding one.written (more_by d q)) (grows_by d q) (grows_adding one.written (more_by d q))) in
    let P : NamedReply → Type 0 = λ (a : NamedReply). StandsAs r a.name a.reply in
    let told : AllStand r (told_of d) = answers_grow q r (told_of d) grows (deed_told link at d x.0 c' x.1 s' x.2 l' q x.4 m.standing.replies) in
    record {
      written = m.written ++ one.written;
      output = ap (λ (u : List Framed). u ++ s'.output) (map-append framed_of (given_by ds) (given_of d))
          ∙ given_then (map framed_of (given_by ds)) (map framed_of (given_of d)) x.1.output s'.output s.output (values_of m.written) (values_of one.written) m.output one.output
          ∙ ap (λ (u : List Framed). s.output ++ u) (sym (values_both m.written one.written));
      standing = subst (λ (u : Past). AreStanding u s') is one.standing;
      told = All-append P (told_by ds) (told_of d) (answers_grow q r (told_by ds) grows m.told) told;
    }

-- ---- deeds behind deeds

added_then : {X : Type 0} (add : Deed → List X) (es ds : List Deed) → added add (es ++ ds) ≡ added add ds ++ added add es
added_then add [] ds = sym (append-nil (added add ds))
added_then {X} add (e ∷ es) ds = ap (λ (u : List X). u ++ add e) (added_then add es ds) ∙ append_assoc (added add ds) (added add es) (add e)

-- one log behind two lists of deeds
log_both : {X : Type 0} (add : Deed → List X) (es ds : List Deed) (start : List X) → (start ++ added add ds) ++ added add es ≡ start ++ added add (es ++ ds)
log_both {X} add es ds start = append_assoc start (added add ds) (added add es) ∙ ap (λ (u : List X). start ++ u) (sym (added_then add es ds))

given_behind : (es ds : List Deed) → given_by (es ++ ds) ≡ given_by ds ++ given_by es
given_behind [] ds = sym (append-nil (given_by ds))
given_behind (e ∷ es) ds = ap (λ (u : List Frame). u ++ given_of e) (given_behind es ds) ∙ append_assoc (given_by ds) (given_by es) (given_of e)

pub behind_both : (a c : List (ℕ × Framed)) (es ds : List Deed) (p : Past) → behind c es (behind a ds p) ≡ behind (a ++ c) (es ++ ds) p
behind_both a c es ds p =
    same_past (behind c es (behind a ds p)) (behind (a ++ c) (es ++ ds) p)
    (append_assoc p.written a c)
    (log_both read_of es ds p.read)
    (log_both channels_of es ds p.channels)
    (log_both begins_of es ds p.begins)
    (log_both accepted_of es ds p.accepted)
    (log_both endings_of es ds p.endings)
    (log_both refused_of es ds p.refused)
    (log_both stops_of es ds p.stops)
    (log_both astray_of es ds p.astray)

-- what was given, and is to be written still, from the start
pub given_both : (es ds : List Deed) (out out' : List Framed) (a c : List (ℕ × Framed)) → map framed_of (given_by ds) ++ out ≡ values_of a → map framed_of (given_by es) ++ out' ≡ out ++ values_of c
    → map framed_of (given_by (es ++ ds)) ++ out' ≡ values_of (a ++ c)
given_both es ds out out' a c x y =
    ap (λ (u : List Frame). map framed_of u ++ out') (given_behind es ds)
    ∙ ap (λ (u : List Framed). u ++ out') (map-append framed_of (given_by ds) (given_by es))
    ∙ given_then (map framed_of (given_by ds)) (map framed_of (given_by es)) out out' [] (values_of a) (values_of c) x y
    ∙ sym (values_both a c)
