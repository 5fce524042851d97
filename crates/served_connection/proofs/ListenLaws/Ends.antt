-- Whatever an end does: of the deliveries that end among the frames that its sessions hear, no more are answered or wait.
use Rattle.std.specs.Prelude.{◌≡◌, ◌≤◌, ◌+◌, ◌==◌, ℕ, Bool, true, false, not, cond, map, filter, List, [], ◌∷◌, ◌++◌, Option, Some, None, refl}
use Rattle.std.proofs.Common.{sym, ◌∙◌, ap, subst, arith}
use Rattle.amqp_wire.specs.declared.link.Link.{Ghosts}
use Rattle.amqp_words.specs.declared.reply.NamedReply.{NamedReply as ConnectionReply}
use Rattle.amqp_link_words.specs.declared.link_reply.NamedLinkReply.{NamedLinkReply}
use Rattle.amqp_calls.specs.declared.reply.NamedReply.{NamedReply}
use Rattle.amqp_links.specs.State.{State as Links}
use Rattle.amqp_links.specs.Inputs.{input_read}
use Rattle.amqp_links.specs.Timing.{at_moment, looked}
use Rattle.amqp_peer.specs.Peering.{Peering}
use Rattle.amqp_session.specs.declared.session.LinkInput.{LinkInput}
use Rattle.amqp_sessions.specs.State.{State}
use Rattle.amqp_sessions.specs.Calls.{accepted}
use Rattle.amqp_sessions.specs.Frames.{heard, written, refusing}
use Rattle.amqp_transport.specs.declared.frames.Frame.{Frame}
use Rattle.amqp_end.specs.Answers.{of_connection, of_link, together, AreOrdered, answers_to, answers_to_others, with_first}
use Rattle.amqp_end.specs.Deeds.{Deed, Makes, Polls, Goes, Moves, Hears, Writes, Seats, Lacks, Frees, Accepts, Asks, LinksHear, LinksWrite, LinksLack, LinksKnow, LinksLook, Tells, TellsFirst, framed_of, IsDeed, Did, heard_of, heard_by, told_of, told_by}
use Rattle.amqp_end.specs.Asks.{limit_for}
use Rattle.amqp_end.specs.Moves.{Move, on, Begun, Awaiting, Refused, Ended, HandedOut, Halted, Concluded}
use Rattle.served_connection.specs.ListenLaws.Ended.{ended_by, ended_in}
use Rattle.served_connection.proofs.ListenLaws.Totals.{total, total_nil, total_cons, total_append, total_permuted, value_weight, weigh}
use Rattle.served_connection.proofs.ListenLaws.Weights.{given_of, of_input, of_links}
use Rattle.served_connection.proofs.ListenLaws.Links.{calls_fall, hears_grow}
use Rattle.served_connection.proofs.ListenLaws.Timing.{looked_falls}
use Rattle.served_connection.proofs.ListenLaws.Sessions.{of_answer, of_sessions, hears_grows, written_falls, refusing_falls, begun_falls, awaiting_falls, refused_falls, accepted_falls, ended_falls, handed_out_falls, halted_falls, concluded_falls}

-- ---- answers

connections_weight : (rs : List ConnectionReply) → total of_answer (map of_connection rs) ≡ 0
connections_weight [] = total_nil of_answer
connections_weight (r ∷ rs) = omega (arith, total_cons of_answer (of_connection r) (map of_connection rs), connections_weight rs)

links_weight : (rs : List NamedLinkReply) → total of_answer (map of_link rs) ≡ total given_of rs
links_weight [] = omega (arith, total_nil of_answer, total_nil given_of)
links_weight (r ∷ rs) = omega (arith, total_cons of_answer (of_link r) (map of_link rs), total_cons given_of r rs, links_weight rs)

together_weight : (ss : List NamedReply) (cs : List ConnectionReply) (ls : List NamedLinkReply) → total of_answer (together ss cs ls) ≡ total of_answer ss + total given_of ls
together_weight ss cs ls =
    omega (arith, total_append of_answer (ss ++ map of_connection cs) (map of_link ls), total_append of_answer ss (map of_connection cs), connections_weight cs, links_weight ls)

ordered_weight : (ss : List NamedReply) (cs : List ConnectionReply) (ls : List NamedLinkReply) (answers : List NamedReply) → AreOrdered (together ss cs ls) answers → total of_answer answers ≡ total of_answer ss + total given_of ls
ordered_weight ss cs ls answers o = total_permuted of_answer (together ss cs ls) answers o.all ∙ together_weight ss cs ls

split_weight : (p : NamedReply → Bool) (xs : List NamedReply) → total of_answer (filter p xs) + total of_answer (filter (λ (x : NamedReply). not (p x)) xs) ≡ total of_answer xs
split_weight p [] = omega (arith, total_nil of_answer)
split_weight p (x ∷ xs) = by (p x) (split_weight p xs)
  where
    by : (b : Bool) → total of_answer (filter p xs) + total of_answer (filter (λ (y : NamedReply). not (p y)) xs) ≡ total of_answer xs
        → total of_answer (cond b (x ∷ filter p xs) (filter p xs)) + total of_answer (cond (not b) (x ∷ filter (λ (y : NamedReply). not (p y)) xs) (filter (λ (y : NamedReply). not (p y)) xs)) ≡ total of_answer (x ∷ xs)
    by true rest = omega (arith, total_cons of_answer x (filter p xs), total_cons of_answer x xs, rest)
    by false rest = omega (arith, total_cons of_answer x (filter (λ (y : NamedReply). not (p y)) xs), total_cons of_answer x xs, rest)

first_weight : (name : ℕ) (answers : List NamedReply) → total of_answer (with_first name answers) ≡ total of_answer answers
first_weight name answers =
    let both : total of_answer (answers_to name answers) + total of_answer (answers_to_others name answers) ≡ total of_answer answers = split_weight (λ (r : NamedReply). r.name == name) answers in
    omega (arith, total_append of_answer (answers_to name answers) (answers_to_others name answers), both)

-- ---- one deed

-- what waits in sessions and links
abbrev pub of_both : State → Links → ℕ
of_both s l = of_sessions s + of_links l

-- behind it no more wait or are told than did before and ended among the frames that were heard
abbrev Falls : State → Links → List Frame → List NamedReply → State → Links → Type 0
Falls s l frames answers s' l' = total of_answer answers + of_both s' l' ≤ of_both s l + ended_in frames

none_ended : ended_in [] ≡ 0
unfolding ended_in
none_ended = refl

one_ended : (x : Frame) → ended_in (x ∷ []) ≡ ended_by x.body + 0
unfolding ended_in
one_ended x = refl

pub ended_append : (xs ys : List Frame) → ended_in (xs ++ ys) ≡ ended_in xs + ended_in ys
unfolding ended_in
ended_append [] ys = omega arith
ended_append (x ∷ xs) ys = omega (arith, ended_append xs ys)

-- sessions and links go on, and nothing is heard or told
quiet : (s s' : State) (l l' : Links) → of_sessions s' ≤ of_sessions s → of_links l' ≤ of_links l → Falls s l [] [] s' l'
quiet s s' l l' p q = omega (arith, p, q, none_ended, total_nil of_answer)

session_same : (s s' : State) → s' ≡ s → of_sessions s' ≤ of_sessions s
session_same s s' h = let e : of_sessions s' ≡ of_sessions s = ap of_sessions h in omega (arith, e)

links_same : (l l' : Links) → l' ≡ l → of_links l' ≤ of_links l
links_same l l' h = let e : of_links l' ≡ of_links l = ap of_links h in omega (arith, e)

session_is : (s t s' : State) → of_sessions t ≤ of_sessions s → s' ≡ t → of_sessions s' ≤ of_sessions s
session_is s t s' p h = let e : of_sessions s' ≡ of_sessions t = ap of_sessions h in omega (arith, p, e)

links_are : (l t l' : Links) → of_links t ≤ of_links l → l' ≡ t → of_links l' ≤ of_links l
links_are l t l' p h = let e : of_links l' ≡ of_links t = ap of_links h in omega (arith, p, e)

-- what is to be written, or a channel that is free, was taken off
but_output : (a b : State) → b ≡ record a { output = b.output } → of_sessions b ≤ of_sessions a
but_output a b h = let e : of_sessions b ≡ of_sessions a = ap of_sessions h in omega (arith, e)

but_freed : (a b : State) → b ≡ record a { freed = b.freed } → of_sessions b ≤ of_sessions a
but_freed a b h = let e : of_sessions b ≡ of_sessions a = ap of_sessions h in omega (arith, e)

links_but : (a b : Links) → b ≡ record a { output = b.output } → of_links b ≤ of_links a
links_but a b h = let e : of_links b ≡ of_links a = ap of_links h in omega (arith, e)

move_falls : (m : Move) (s : State) → of_sessions (on m s) ≤ of_sessions s
move_falls (Begun name x channel limit) s = begun_falls name x channel limit s
move_falls (Awaiting name x) s = awaiting_falls name x s
move_falls (Refused name why) s = refused_falls name why s
move_falls (Ended name session condition) s = ended_falls name session condition s
move_falls (HandedOut name) s = handed_out_falls name s
move_falls (Halted why) s = halted_falls why s
move_falls (Concluded why) s = concluded_falls why s

told_weight : (s s' : State) (l l' : Links) (answers : List NamedReply) → s' ≡ record s { replies = [] } → l' ≡ record l { replies = [] } → total of_answer answers ≡ total of_answer s.replies + total given_of l.replies
    → Falls s l [] answers s' l'
told_weight s s' l l' answers p q h =
    let a : of_sessions s' ≡ of_sessions (record s { replies = [] }) = ap of_sessions p in
    let b : of_links l' ≡ of_links (record l { replies = [] }) = ap of_links q in
    omega (arith, a, b, h, none_ended, total_nil of_answer, total_nil given_of)

deed_falls : {L : Type 0} (link : Ghosts L) (at : ℕ) (d : Deed) (p p' : Peering L) (s s' : State) (l l' : Links) → IsDeed link at p s l d p' s' l' → Falls s l (heard_of d) (told_of d) s' l'
deed_falls link at (Makes name call events) p p' s s' l l' x = quiet s s' l l' (session_same s s' x.1) (links_same l l' x.2)
deed_falls link at (Polls events) p p' s s' l l' x = quiet s s' l l' (session_same s s' x.1) (links_same l l' x.2)
deed_falls link at (Goes events) p p' s s' l l' x = quiet s s' l l' (session_same s s' x.1) (links_same l l' x.2)
deed_falls link at (Moves m) p p' s s' l l' x = quiet s s' l l' (session_is s (on m s) s' (move_falls m s) x.1) (links_same l l' x.2)
deed_falls link at (Hears f) p p' s s' l l' x =
    let a : of_sessions s' ≡ of_sessions (heard (framed_of f) s) = ap of_sessions x.2 in
    omega (arith, a, hears_grows (framed_of f) s, links_same l l' x.3, one_ended f, total_nil of_answer)
deed_falls link at (Writes f events) p p' s s' l l' x = quiet s s' l l' (but_output s s' x.0.takes.1) (links_same l l' x.1)
deed_falls link at (Seats channel) p p' s s' l l' x = quiet s s' l l' (session_same s s' x.2) (links_same l l' x.3)
deed_falls link at (Lacks e) p p' s s' l l' x = quiet s s' l l' (session_same s s' x.2) (links_same l l' x.3)
deed_falls link at (Frees channel) p p' s s' l l' x = quiet s s' l l' (but_freed s s' x.0.1) (links_same l l' x.2)
deed_falls link at (Accepts name n channel limit incoming) p p' s s' l l' x = quiet s s' l l' (session_is s (accepted name n channel limit incoming s) s' (accepted_falls name n channel limit incoming s) x.2) (links_same l l' x.3)
deed_falls link at (Asks name call) p p' s s' l l' x = quiet s s' l l' (session_same s s' x.1) (calls_fall name call (limit_for call s) l l' x.2)
deed_falls link at (LinksHear session y) p p' s s' l l' x =
    let a : of_sessions s' ≡ of_sessions (record s { incoming = s'.incoming }) = ap of_sessions x.1.1 in
    let b : weigh of_input s.incoming ≡ of_input y + weigh of_input s'.incoming = ap (weigh of_input) x.1.0 ∙ total_cons (value_weight of_input) (session, y) s'.incoming in
    let c : of_links l' ≡ of_links (input_read session y l) = ap of_links x.2 in
    omega (arith, a, b, c, hears_grow session y l, none_ended, total_nil of_answer)
deed_falls link at (LinksWrite session y) p p' s s' l l' x = quiet s s' l l' (session_is s (written session y s) s' (written_falls session y s) x.1) (links_but l l' x.2.1)
deed_falls link at (LinksLack session) p p' s s' l l' x = quiet s s' l l' (session_is s (refusing session s) s' (refusing_falls session s) x.1) (links_but l l' x.2.1)
deed_falls link at LinksKnow p p' s s' l l' x = quiet s s' l l' (session_same s s' x.1) (links_are l (at_moment at l) l' (omega arith) x.2)
deed_falls link at LinksLook p p' s s' l l' x = quiet s s' l l' (session_same s s' x.1) (links_are l (looked l) l' (looked_falls l) x.2)
deed_falls link at (Tells answers) p p' s s' l l' x = told_weight s s' l l' answers x.1 x.2 (ordered_weight s.replies p.replies l.replies answers x.3)
deed_falls link at (TellsFirst name answers) p p' s s' l l' x =
    told_weight s s' l l' (with_first name answers) x.1 x.2 (first_weight name answers ∙ ordered_weight s.replies p.replies l.replies answers x.3)

-- ---- all of them

pub deeds_fall : {L : Type 0} (link : Ghosts L) (at : ℕ) (p : Peering L) (s : State) (l : Links) (ds : List Deed) (p' : Peering L) (s' : State) (l' : Links) → Did link at p s l ds p' s' l'
    → total of_answer (told_by ds) + of_both s' l' ≤ of_both s l + ended_in (heard_by ds)
deeds_fall link at p s l [] p' s' l' x = quiet s s' l l' (session_same s s' x.1) (links_same l l' x.2)
deeds_fall link at p s l (d ∷ ds) p' s' l' x =
    let before : total of_answer (told_by ds) + of_both x.1 x.2 ≤ of_both s l + ended_in (heard_by ds) = deeds_fall link at p s l ds x.0 x.1 x.2 x.3 in
    let one : Falls x.1 x.2 (heard_of d) (told_of d) s' l' = deed_falls link at d x.0 p' x.1 s' x.2 l' x.4 in
    omega (arith, before, one, total_append of_answer (told_by ds) (told_of d), ended_append (heard_by ds) (heard_of d))
