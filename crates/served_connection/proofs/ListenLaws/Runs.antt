-- Whatever is done with an end.
use Rattle.std.specs.Prelude.{◌≡◌, ◌≤◌, ◌+◌, min, length, ℕ, Bool, true, false, List, [], ◌∷◌, ◌++◌, if◌then◌else◌, refl}
use Rattle.std.proofs.Common.{sym, ◌∙◌, ap, subst, arith}
use Rattle.amqp_wire.specs.declared.link.Link.{Ghosts}
use Rattle.amqp_calls.specs.declared.call.Call.{Call}
use Rattle.amqp_calls.specs.declared.reply.NamedReply.{NamedReply}
use Rattle.amqp_calls.specs.declared.reply.Reply.{Reply}
use Rattle.amqp_calls.specs.declared.reply.Reply.TheVariants as reply
use Rattle.amqp_calls.specs.declared.reply.SessionReply.{SessionReply}
use Rattle.amqp_calls.specs.declared.reply.SessionReply.TheVariants as session
use Rattle.amqp_link_words.specs.declared.link_reply.LinkReply.{LinkReply}
use Rattle.amqp_link_words.specs.declared.link_reply.LinkReply.TheVariants as answer
use Rattle.amqp_links.specs.State.{State as Links, seen as linked, no_links}
use Rattle.amqp_words.specs.declared.reply.Reply.{Reply as ConnectionReply}
use Rattle.amqp_words.specs.declared.reply.Reply.TheVariants as connection
use Rattle.amqp_sessions.specs.State.{State, seen, none_begun}
use Rattle.amqp_end.specs.declared.end.End.{End}
use Rattle.amqp_end.specs.Deeds.{Deed, heard_of, heard_by, told_by}
use Rattle.amqp_end.specs.Goes.{Goes}
use Rattle.amqp_served.specs.Served.{counted}
use Rattle.amqp_served.specs.declared.news.News.{News}
use Rattle.amqp_served.specs.declared.news.News.TheVariants as news
use Rattle.amqp_served_news.specs.News.{is_quiet_begin, is_quiet_accept, is_quiet_receive, is_quiet_settle, quietly, news_of_session, news_of_connection, news_of_link, news_of_lem}
use Rattle.amqp_serve.specs.Answers.{counted_all}
use Rattle.amqp_serve.specs.Deeds.{deeds_of, deeds_in}
use Rattle.amqp_serve.specs.Endings.{WasServed}
use Rattle.amqp_serve.specs.Ran.{Turn, calls, polls, waits, tells, forgets, IsTurn, Ran, told}
use Rattle.amqp_transport.specs.declared.frames.Frame.{Frame}
use Rattle.served_connection.specs.ListenLaws.Carried.{carried, AreAnew}
use Rattle.served_connection.specs.ListenLaws.Ended.{ended_in}
use Rattle.served_connection.specs.ListenLaws.Laws.{IsIdle}
use Rattle.served_connection.proofs.ListenLaws.Totals.{total, total_nil, total_cons, total_append, value_weight}
use Rattle.served_connection.proofs.ListenLaws.Weights.{is_given, given_of, of_input, of_called, of_place, of_links}
use Rattle.served_connection.proofs.ListenLaws.Sessions.{of_reply, of_answer, of_kept, of_endpoint, of_sessions}
use Rattle.served_connection.proofs.ListenLaws.Wholes.{all_whole}
use Rattle.served_connection.proofs.ListenLaws.Ends.{of_both, ended_append, deeds_fall}

-- ---- counted messages

quiet_news : (b : Bool) (x : News) (n : ℕ) → counted x n ≡ n → counted (quietly b x) n ≡ n
quiet_news true x n h = h
quiet_news false x n h = refl

counted_connection : (x : ConnectionReply) (n : ℕ) → counted (news_of_connection x) n ≡ n
counted_connection connection.Connection n = refl
counted_connection connection.Pending n = refl
counted_connection connection.Closed n = refl
counted_connection (connection.OpenError e) n = refl
counted_connection (connection.ConnectionError e) n = refl

counted_session : (x : SessionReply) (n : ℕ) → counted (news_of_session x) n ≡ n
counted_session session.Pending n = refl
counted_session session.Ended n = refl
counted_session session.Session n = refl
counted_session (session.BeginError e) n = quiet_news (is_quiet_begin e) news.Closed n refl
counted_session (session.SessionError e) n = refl

same_most : (a b n : ℕ) → a ≡ n → a ≤ n + b
same_most a b n h = omega (arith, h)

counted_link : (x : LinkReply) (n : ℕ) → counted (news_of_link x) n ≤ n + is_given x
counted_link (answer.Delivery info message) n = omega arith
counted_link (answer.AcceptError e) n = same_most (counted (quietly (is_quiet_accept e) news.NoLink) n) 0 n (quiet_news (is_quiet_accept e) news.NoLink n refl)
counted_link (answer.RecvError e) n = same_most (counted (quietly (is_quiet_receive e) news.NoMessage) n) 0 n (quiet_news (is_quiet_receive e) news.NoMessage n refl)
counted_link (answer.DispositionError e) n = same_most (counted (quietly (is_quiet_settle e) news.Nothing) n) 0 n (quiet_news (is_quiet_settle e) news.Nothing n refl)
counted_link x n = omega arith

counted_one : (x : Reply) (n : ℕ) → counted (news_of_lem x) n ≤ n + of_reply x
counted_one (reply.Connection x) n = same_most (counted (news_of_connection x) n) 0 n (counted_connection x n)
counted_one (reply.Session x) n = same_most (counted (news_of_session x) n) 0 n (counted_session x n)
counted_one (reply.Link x) n = counted_link x n

counted_most : (xs : List NamedReply) (n : ℕ) → counted_all xs n ≤ n + total of_answer xs
unfolding counted_all
counted_most [] n = omega (arith, total_nil of_answer)
counted_most (x ∷ xs) n = omega (arith, counted_one x.reply n, counted_most xs (counted (news_of_lem x.reply) n), total_cons of_answer x xs)

-- ---- turns

-- what waits at an end, and what it has answered
abbrev of_end : {L : Type 0} → End L → ℕ
of_end e = total of_answer e.replies.items + of_both (seen e.sessions) (linked e.links)

-- no more wait or are told than did before and ended among the frames that were heard
abbrev Falls : {L : Type 0} → End L → List Deed → List NamedReply → End L → Type 0
Falls old ds answers new = total of_answer answers + of_end new ≤ of_end old + ended_in (heard_by ds)

no_frames : ended_in [] ≡ 0
unfolding ended_in
no_frames = refl

goes_fall : {L : Type 0} (old new : End L) (ds : List Deed) → new.replies.items ≡ old.replies.items ++ told_by ds
    → total of_answer (told_by ds) + of_both (seen new.sessions) (linked new.links) ≤ of_both (seen old.sessions) (linked old.links) + ended_in (heard_by ds) → Falls old ds [] new
goes_fall old new ds r h =
    let a : total of_answer new.replies.items ≡ total of_answer old.replies.items + total of_answer (told_by ds) = ap (total of_answer) r ∙ total_append of_answer old.replies.items (told_by ds) in
    omega (arith, a, h, total_nil of_answer)

-- nothing becomes of what waits
stays : {L : Type 0} (old new : End L) (answers : List NamedReply) → of_sessions (seen new.sessions) ≡ of_sessions (seen old.sessions) → of_links (linked new.links) ≡ of_links (linked old.links)
    → total of_answer answers + total of_answer new.replies.items ≤ total of_answer old.replies.items → Falls old [] answers new
stays old new answers s l r = omega (arith, s, l, r, no_frames)

told_of_turn : Turn → List NamedReply
told_of_turn (calls name call) = []
told_of_turn polls = []
told_of_turn waits = []
told_of_turn (tells rs) = rs
told_of_turn (forgets name) = []

turn_falls : {L : Type 0} (link : Ghosts L) (old : End L) (t : Turn) (new : End L) (k : IsTurn link old t new) → Falls old (deeds_of link old t new k) (told_of_turn t) new
unfolding told_of_turn
turn_falls link old (calls name call) new k =
    goes_fall old new k.2.deeds k.2.answers (deeds_fall link k.1 old.connection (seen old.sessions) (linked old.links) k.2.deeds new.connection (seen new.sessions) (linked new.links) k.2.did)
turn_falls link old polls new k =
    goes_fall old new k.1.deeds k.1.answers (deeds_fall link k.0 old.connection (seen old.sessions) (linked old.links) k.1.deeds new.connection (seen new.sessions) (linked new.links) k.1.did)
turn_falls {L} link old waits new k =
    stays old new [] (ap (λ (e : End L). of_sessions (seen e.sessions)) k.rest) (ap (λ (e : End L). of_links (linked e.links)) k.rest)
    (let r : total of_answer new.replies.items ≡ total of_answer old.replies.items = ap (λ (e : End L). total of_answer e.replies.items) k.rest in omega (arith, r, total_nil of_answer))
turn_falls link old (tells rs) new k =
    let a : total of_answer rs ≡ total of_answer old.replies.items = ap (total of_answer) k.0 in
    let b : total of_answer new.replies.items ≡ total of_answer [] = ap (total of_answer) k.1.replies in
    stays old new rs (ap (λ s. of_sessions (seen s)) k.1.sessions) (ap (λ l. of_links (linked l)) k.1.links) (omega (arith, a, b, total_nil of_answer))
turn_falls link old (forgets name) new k =
    let r : total of_answer new.replies.items ≡ total of_answer old.replies.items = ap (λ rs. total of_answer rs.items) k.replies in
    stays old new [] (ap (λ s. of_sessions (seen s)) k.sessions) (ap of_links k.links) (omega (arith, r, total_nil of_answer))

told_more : (t : Turn) (ts : List Turn) → total of_answer (told (t ∷ ts)) ≡ total of_answer (told ts) + total of_answer (told_of_turn t)
unfolding told told_of_turn
told_more (calls name call) ts = omega (arith, total_nil of_answer)
told_more polls ts = omega (arith, total_nil of_answer)
told_more waits ts = omega (arith, total_nil of_answer)
told_more (tells rs) ts = total_append of_answer (told ts) rs
told_more (forgets name) ts = omega (arith, total_nil of_answer)

heard_append : (ds es : List Deed) → ended_in (heard_by (ds ++ es)) ≡ ended_in (heard_by es) + ended_in (heard_by ds)
heard_append [] es = omega (arith, no_frames)
heard_append (d ∷ ds) es =
    omega (arith, heard_append ds es, ended_append (heard_by (ds ++ es)) (heard_of d), ended_append (heard_by ds) (heard_of d))

runs_fall : {L : Type 0} (link : Ghosts L) (old : End L) (ts : List Turn) (new : End L) (ran : Ran link old ts new) → Falls old (deeds_in link old ts new ran) (told ts) new
unfolding Ran told deeds_in
runs_fall {L} link old [] new ran =
    stays old new [] (ap (λ (e : End L). of_sessions (seen e.sessions)) ran) (ap (λ (e : End L). of_links (linked e.links)) ran)
    (let r : total of_answer new.replies.items ≡ total of_answer old.replies.items = ap (λ (e : End L). total of_answer e.replies.items) ran in omega (arith, r, total_nil of_answer))
runs_fall {L} link old (t ∷ ts) new ran =
    let ds = deeds_of link ran.0 t new ran.2 in
    let es = deeds_in link old ts ran.0 ran.1 in
    let before : Falls old es (told ts) ran.0 = runs_fall link old ts ran.0 ran.1 in
    let one : Falls ran.0 ds (told_of_turn t) new = turn_falls link ran.0 t new ran.2 in
    omega (arith, before, one, told_more t ts, heard_append ds es)

-- ---- from an end on which nothing was done

idle_weight : {L : Type 0} (e : End L) → IsIdle e → of_end e ≡ 0
idle_weight e k =
    let a : total of_answer e.replies.items ≡ 0 = ap (total of_answer) k.replies ∙ total_nil of_answer in
    let b : of_sessions (seen e.sessions) ≡ of_sessions none_begun = ap of_sessions k.sessions in
    let c : of_links (linked e.links) ≡ of_links (no_links k.accepts) = ap of_links k.links in
    let d : of_sessions none_begun ≡ 0 = omega (arith, total_nil of_answer, total_nil (value_weight of_input), total_nil (value_weight of_kept), total_nil (value_weight of_endpoint)) in
    let f : of_links (no_links k.accepts) ≡ 0 = omega (arith, total_nil given_of, total_nil (value_weight of_called), total_nil (value_weight of_place)) in
    omega (arith, a, b, c, d, f)

pub messages_came : {L : Type 0} (link : Ghosts L) (old new : End L) (ts : List Turn) (ran : Ran link old ts new) → IsIdle old → counted_all (told ts) 0 ≤ ended_in (heard_by (deeds_in link old ts new ran))
messages_came link old new ts ran k =
    let r : Falls old (deeds_in link old ts new ran) (told ts) new = runs_fall link old ts new ran in
    omega (arith, r, idle_weight old k, counted_most (told ts) 0)

pub served_came : {L : Type 0} (link : Ghosts L) (old new : End L) (count : ℕ) (served : WasServed link old new count) → IsIdle old → count ≤ ended_in (heard_by (deeds_in link old served.turns new served.ran))
served_came link old new count served k =
    let r : counted_all (told served.turns) 0 ≤ ended_in (heard_by (deeds_in link old served.turns new served.ran)) = messages_came link old new served.turns served.ran k in
    omega (arith, r, served.counts)

pub served_whole : {L : Type 0} (link : Ghosts L) (old new : End L) (count : ℕ) (served : WasServed link old new count) → IsIdle old → AreAnew (heard_by (deeds_in link old served.turns new served.ran))
    → count ≤ length (carried [] (heard_by (deeds_in link old served.turns new served.ran)))
served_whole link old new count served k anew =
    let frames = heard_by (deeds_in link old served.turns new served.ran) in
    let r : count ≤ ended_in frames = served_came link old new count served k in
    omega (arith, r, all_whole [] frames anew)
