-- The sessions of an end go on: of the deliveries that end among the frames that they hear, no more wait there for links.
use Rattle.std.specs.Prelude.{◌≡◌, ◌≤◌, ◌+◌, ℕ, nat_eq, Bool, true, false, is_none, map, filter, List, [], ◌∷◌, ◌++◌, Option, Some, None, if◌then◌else◌, refl}
use Rattle.std.proofs.Common.{sym, ◌∙◌, ap, subst, arith}
use Rattle.std.specs.Map.{lookup, set_value}
use Rattle.indexmap.specs.IndexMap.{insert_entry, swap_remove_entry}
use Rattle.amqp_calls.specs.declared.call.SessionNumbers.{SessionNumbers}
use Rattle.amqp_calls.specs.declared.reply.NamedReply.{NamedReply}
use Rattle.amqp_calls.specs.declared.reply.Reply.{Reply}
use Rattle.amqp_calls.specs.declared.reply.Reply.TheVariants as reply
use Rattle.amqp_calls.specs.declared.reply.SessionReply.{SessionReply}
use Rattle.amqp_calls.specs.declared.reply.SessionReply.TheVariants as answer
use Rattle.amqp_frames.specs.declared.shared.ConnectionStopReason.{ConnectionStopReason}
use Rattle.amqp_frames.specs.declared.shared.IncomingSession.{IncomingSession}
use Rattle.amqp_frames.specs.declared.shared.LinkFrame.{LinkFrame}
use Rattle.amqp_frames.specs.declared.shared.SessionStopReason.TheVariants.{ConnectionStopped}
use Rattle.amqp_session.specs.declared.error.BeginError.{BeginError}
use Rattle.amqp_session.specs.declared.error.BeginError.TheVariants.{RemoteEnded, SessionStopped}
use Rattle.amqp_session.specs.declared.error.Error.{Error}
use Rattle.amqp_session.specs.declared.error.Error.TheVariants.{IllegalState}
use Rattle.amqp_session.specs.declared.session.LinkInput.{LinkInput}
use Rattle.amqp_session.specs.declared.session.LinkInput.TheVariants.{Over}
use Rattle.amqp_session.specs.declared.session.SessionState.{SessionState}
use Rattle.amqp_session.specs.declared.session.SessionState.TheVariants as state
use Rattle.amqp_session.specs.Begin as session
use Rattle.amqp_session.specs.State.{State as Session, Framed}
use Rattle.amqp_sessions.specs.declared.endpoint.Change.{Change}
use Rattle.amqp_sessions.specs.declared.endpoint.Change.TheVariants.{Same, Begun, Refused, Gone, Answered}
use Rattle.amqp_sessions.specs.declared.sessions.Waiting.{Waiting}
use Rattle.amqp_sessions.specs.declared.sessions.Waiting.TheVariants.{Begin, Accept}
use Rattle.amqp_sessions.specs.Calls.{settings, entered, begun, awaiting, accepted, left_in, left_at, left, end_told, end_at, ended}
use Rattle.amqp_sessions.specs.Endpoint.{hearing, change_of, having_heard, having_written, having_refused, emptied, error_of, asking_end, waits_for, having_asked, cut, last_words, over}
use Rattle.amqp_sessions.specs.Frames.{place_of, joined, refused, freed_at, freed_own, freed, end_reply, concluding_for, concluding, changed, hearing_at, kept_at, kept, heard_by, heard, heard_all, heard_early_at, heard_early, written_at, written, refusing_at, refusing}
use Rattle.amqp_sessions.specs.Parts.{EndpointState, idle, named}
use Rattle.amqp_sessions.specs.State.{State, endpoint_of, with_endpoint, let_go, answering, handed_out}
use Rattle.amqp_sessions.specs.State.{handing}
use Rattle.amqp_sessions.specs.Stops.{turned_entry, said, all_turned, halting, stop_of, halted, finished, end_answered, ends_answered, without_ends, begin_concluded, concluded}
use Rattle.served_connection.specs.ListenLaws.Ended.{ended_by}
use Rattle.served_connection.proofs.ListenLaws.Totals.{total, total_nil, total_cons, total_push, total_append, total_filtered, value_weight, weigh, weigh_set, weigh_inserted, weigh_removed, found}
use Rattle.served_connection.proofs.ListenLaws.Weights.{is_given, of_input, of_inputs}
use Rattle.served_connection.proofs.ListenLaws.Session.{heard_grows, told_same, asked_same, refused_same, stopped_same}

-- a frame that is heard
abbrev pub of_framed : Framed → ℕ
of_framed x = ended_by x.body

abbrev pub of_kept : List Framed → ℕ
of_kept xs = total of_framed xs

abbrev pub of_endpoint : EndpointState → ℕ
of_endpoint e = of_inputs e.session.incoming

-- an answer of an end that gives a delivery
abbrev pub of_reply : Reply → ℕ
of_reply (reply.Connection x) = 0
of_reply (reply.Session x) = 0
of_reply (reply.Link x) = is_given x

abbrev pub of_answer : NamedReply → ℕ
of_answer r = of_reply r.reply

-- the sessions of an end, and their answers
abbrev pub of_sessions : State → ℕ
of_sessions s = total of_answer s.replies + (weigh of_input s.incoming + (weigh of_kept s.early + weigh of_endpoint s.endpoints))

abbrev pub Falls : State → State → Type 0
Falls a b = of_sessions b ≤ of_sessions a

abbrev pub Grows : ℕ → State → State → Type 0
Grows n a b = of_sessions b ≤ of_sessions a + n

falls_then : (a b c : State) → Falls a b → Falls b c → Falls a c
falls_then a b c p q = omega (arith, p, q)

falls_still : (s : State) → Falls s s
falls_still s = omega arith

falls_answers : (name : ℕ) (x : SessionReply) (s : State) → Falls s (answering name x s)
falls_answers name x s =
    let r : NamedReply = record { name = name; reply = reply.Session x } in
    let more : total of_answer (s.replies ++ r ∷ []) ≡ total of_answer s.replies + 0 = total_push of_answer s.replies r in
    omega (arith, more)

-- ---- what sessions say to links

named_weight : (name : ℕ) (xs : List LinkInput) → weigh of_input (named name xs) ≡ of_inputs xs
named_weight name [] = omega (arith, total_nil (value_weight of_input), total_nil of_input)
named_weight name (x ∷ xs) = omega (arith, total_cons (value_weight of_input) (name, x) (named name xs), total_cons of_input x xs, named_weight name xs)

-- ---- one session

set_grows : (n name : ℕ) (e f : EndpointState) (s : State) → endpoint_of name s ≡ Some e → of_endpoint f ≤ of_endpoint e + n → Grows n s (with_endpoint name f s)
set_grows n name e f s at le = omega (arith, weigh_set of_endpoint name s.endpoints e f at, le)

handing_falls : (o : Option EndpointState) (name : ℕ) (s : State) → endpoint_of name s ≡ o → Falls s (handing name o s)
handing_falls None name s at = falls_still s
handing_falls (Some e) name s at =
    let none : of_endpoint (emptied e) ≡ 0 = total_nil of_input in
    let xs = named name e.session.incoming in
    let more : weigh of_input (s.incoming ++ xs) ≡ weigh of_input s.incoming + weigh of_input xs = total_append (value_weight of_input) s.incoming xs in
    omega (arith, weigh_set of_endpoint name s.endpoints e (emptied e) at, none, more, named_weight name e.session.incoming)

handed_falls : (name : ℕ) (s : State) → Falls s (handed_out name s)
handed_falls name s = handing_falls (endpoint_of name s) name s refl

one_out_grows : (n name : ℕ) (e f : EndpointState) (s : State) → endpoint_of name s ≡ Some e → of_endpoint f ≤ of_endpoint e + n → Grows n s (handed_out name (with_endpoint name f s))
one_out_grows n name e f s at le =
    let u = with_endpoint name f s in
    let g : Grows n s u = set_grows n name e f s at le in
    let h : Falls u (handed_out name u) = handed_falls name u in
    omega (arith, g, h)

let_go_falls : (name : ℕ) (s : State) → Falls s (let_go name s)
let_go_falls name s = omega (arith, weigh_removed of_endpoint name s.endpoints)

freed_at_falls : (o : Option EndpointState) (s : State) → Falls s (freed_at o s)
freed_at_falls None s = falls_still s
freed_at_falls (Some e) s = falls_still s

concluding_for_falls : (ending : Option ℕ) (is_left : Bool) (name : ℕ) (error : Option Error) (s : State) → Falls s (concluding_for ending is_left name error s)
concluding_for_falls (Some end) is_left name error s =
    falls_then s (let_go name s) (answering end (end_reply error) (let_go name s)) (let_go_falls name s) (falls_answers end (end_reply error) (let_go name s))
concluding_for_falls None true name error s = let_go_falls name s
concluding_for_falls None false name error s = falls_still s

concluding_falls : (o : Option EndpointState) (name : ℕ) (error : Option Error) (s : State) → Falls s (concluding o name error s)
concluding_falls None name error s = falls_still s
concluding_falls (Some e) name error s = concluding_for_falls e.ending e.is_left name error s

both_freed_falls : (name remote : ℕ) (s : State) → Falls s (freed name remote s)
both_freed_falls name remote s =
    let t : State = record s { remotes = swap_remove_entry (nat_eq remote) s.remotes } in freed_at_falls (endpoint_of name t) t

changed_falls : (c : Change) (name remote : ℕ) (error : Option Error) (s : State) → Falls s (changed c name remote error s)
changed_falls Same name remote error s = falls_still s
changed_falls Begun name remote error s = falls_answers name answer.Session s
changed_falls Refused name remote error s =
    let a = freed_own name s in
    let b = let_go name a in
    falls_then s a (refused name RemoteEnded b) (freed_at_falls (endpoint_of name s) s)
    (falls_then a b (refused name RemoteEnded b) (let_go_falls name a) (falls_answers name (answer.BeginError RemoteEnded) b))
changed_falls Gone name remote error s = both_freed_falls name remote s
changed_falls Answered name remote error s =
    let t = freed name remote s in
    falls_then s t (concluding (endpoint_of name s) name error t) (both_freed_falls name remote s) (concluding_falls (endpoint_of name s) name error t)

-- ---- a frame is read

hearing_grows : (o : Option EndpointState) (name : ℕ) (x : Framed) (s : State) → endpoint_of name s ≡ o → Grows (of_framed x) s (hearing_at o name x s)
hearing_grows None name x s at = omega arith
hearing_grows (Some e) name x s at =
    let f = having_heard x e in
    let t = handed_out name (with_endpoint name f s) in
    let last = changed (change_of x e) name x.channel (hearing x e).answer t in
    let g : Grows (of_framed x) s t = one_out_grows (of_framed x) name e f s at (heard_grows x e.session) in
    let h : Falls t last = changed_falls (change_of x e) name x.channel (hearing x e).answer t in
    omega (arith, g, h)

kept_grows : (o : Option (List Framed)) (x : Framed) (s : State) → lookup (nat_eq x.channel) s.early ≡ o → Grows (of_framed x) s (kept_at o x s)
kept_grows None x s at = omega (arith, weigh_inserted of_kept x.channel (x ∷ []) s.early, total_cons of_framed x [], total_nil of_framed)
kept_grows (Some xs) x s at = omega (arith, weigh_set of_kept x.channel s.early xs (xs ++ x ∷ []) at, total_push of_framed xs x)

heard_by_grows : (o : Option ℕ) (x : Framed) (s : State) → Grows (of_framed x) s (heard_by o x s)
heard_by_grows None x s = kept_grows (lookup (nat_eq x.channel) s.early) x s refl
heard_by_grows (Some name) x s = hearing_grows (endpoint_of name s) name x s refl

pub hears_grows : (x : Framed) (s : State) → Grows (of_framed x) s (heard x s)
hears_grows x s = heard_by_grows (place_of x s) x s

all_grow : (xs : List Framed) (s : State) → Grows (of_kept xs) s (heard_all xs s)
all_grow [] s = omega arith
all_grow (x ∷ xs) s =
    let one : Grows (of_framed x) s (heard x s) = hears_grows x s in
    let rest : Grows (of_kept xs) (heard x s) (heard_all xs (heard x s)) = all_grow xs (heard x s) in
    omega (arith, one, rest, total_cons of_framed x xs)

early_falls : (o : Option (List Framed)) (remote : ℕ) (s : State) → lookup (nat_eq remote) s.early ≡ o → Falls s (heard_early_at o remote s)
early_falls None remote s at = falls_still s
early_falls (Some xs) remote s at =
    let t : State = record s { early = swap_remove_entry (nat_eq remote) s.early } in
    let all : Grows (of_kept xs) t (heard_all xs t) = all_grow xs t in
    let is : found of_kept (lookup (nat_eq remote) s.early) ≡ of_kept xs = ap (found of_kept) at in
    omega (arith, all, is, weigh_removed of_kept remote s.early)

-- ---- a link writes a frame, or there is none for an Attach

written_falls_at : (o : Option EndpointState) (name : ℕ) (x : LinkFrame) (s : State) → endpoint_of name s ≡ o → Falls s (written_at o name x s)
written_falls_at None name x s at = falls_still s
written_falls_at (Some e) name x s at =
    let same : of_endpoint (having_written x e) ≡ of_endpoint e = told_same e.session.state x e.session in
    let g : Grows 0 s (handed_out name (with_endpoint name (having_written x e) s)) = one_out_grows 0 name e (having_written x e) s at (omega (arith, same)) in
    omega (arith, g)

pub written_falls : (name : ℕ) (x : LinkFrame) (s : State) → Falls s (written name x s)
written_falls name x s = written_falls_at (endpoint_of name s) name x s refl

refusing_falls_at : (o : Option EndpointState) (name : ℕ) (s : State) → endpoint_of name s ≡ o → Falls s (refusing_at o name s)
refusing_falls_at None name s at = falls_still s
refusing_falls_at (Some e) name s at =
    let same : of_endpoint (having_refused e) ≡ of_endpoint e = refused_same e.session.state e.session in
    let g : Grows 0 s (handed_out name (with_endpoint name (having_refused e) s)) = one_out_grows 0 name e (having_refused e) s at (omega (arith, same)) in
    omega (arith, g)

pub refusing_falls : (name : ℕ) (s : State) → Falls s (refusing name s)
refusing_falls name s = refusing_falls_at (endpoint_of name s) name s refl

-- ---- a session is made

entered_falls : (name channel : ℕ) (x : Session) (s : State) → of_inputs x.incoming ≡ 0 → Falls s (entered name channel x s)
entered_falls name channel x s h = omega (arith, weigh_inserted of_endpoint name (idle x) s.endpoints, h)

pub begun_falls : (name : ℕ) (x : SessionNumbers) (channel limit : ℕ) (s : State) → Falls s (begun name x channel limit s)
begun_falls name x channel limit s =
    let a = session.begun (settings x limit) channel in
    let t = entered name channel a s in
    falls_then s t (begun name x channel limit s) (entered_falls name channel a s (total_nil of_input)) (falls_answers name answer.Pending t)

pub awaiting_falls : (name : ℕ) (x : SessionNumbers) (s : State) → Falls s (awaiting name x s)
awaiting_falls name x s = falls_answers name answer.Pending s

pub refused_falls : (name : ℕ) (e : BeginError) (s : State) → Falls s (refused name e s)
refused_falls name e s = falls_answers name (answer.BeginError e) s

pub accepted_falls : (name : ℕ) (x : SessionNumbers) (channel limit : ℕ) (incoming : IncomingSession) (s : State) → Falls s (accepted name x channel limit incoming s)
accepted_falls name x channel limit incoming s =
    let a = session.accepted (settings x limit) channel incoming in
    let t = entered name channel a s in
    let u = joined name incoming.channel t in
    falls_then s t (accepted name x channel limit incoming s) (entered_falls name channel a s (total_nil of_input))
    (falls_then t u (accepted name x channel limit incoming s) (falls_answers name answer.Session t) (early_falls (lookup (nat_eq incoming.channel) u.early) incoming.channel u refl))

-- ---- a call ends a session

left_in_falls : (phase : SessionState) (name : ℕ) (s : State) → Falls s (left_in phase name s)
left_in_falls state.EndSent name s = falls_still s
left_in_falls state.BeginSent name s = let_go_falls name s
left_in_falls state.Mapped name s = let_go_falls name s
left_in_falls state.Unmapped name s = let_go_falls name s

left_falls : (o : Option EndpointState) (name : ℕ) (s : State) → Falls s (left_at o name s)
left_falls None name s = falls_still s
left_falls (Some e) name s = left_in_falls e.session.state name s

end_told_falls : (o : Option Error) (name session : ℕ) (s : State) → Falls s (end_told o name session s)
end_told_falls None name session s = falls_answers name answer.Pending s
end_told_falls (Some refusal) name session s =
    let t = left session s in
    falls_then s t (end_told (Some refusal) name session s) (left_falls (endpoint_of session s) session s) (falls_answers name (answer.SessionError refusal) t)

waits_session : (o : Option Error) (name : ℕ) (e : EndpointState) → of_endpoint (waits_for o name e) ≡ of_endpoint e
waits_session None name e = refl
waits_session (Some refusal) name e = refl

end_falls : (o : Option EndpointState) (name session : ℕ) (condition : Option (List ℕ)) (s : State) → endpoint_of session s ≡ o → Falls s (end_at o name session condition s)
end_falls None name session condition s at = falls_still s
end_falls (Some e) name session condition s at =
    let f = having_asked name condition e in
    let m = asking_end condition e in
    let u = with_endpoint session f s in
    let asked : of_inputs m.state.incoming ≡ of_endpoint e = asked_same e.session.state (error_of condition) e.session in
    let same : of_endpoint f ≡ of_endpoint e = waits_session m.answer name (record e { session = m.state }) ∙ asked in
    let g : Grows 0 s u = set_grows 0 session e f s at (omega (arith, same)) in
    let h : Falls u (end_told m.answer name session u) = end_told_falls m.answer name session u in
    omega (arith, g, h)

pub ended_falls : (name session : ℕ) (condition : Option (List ℕ)) (s : State) → Falls s (ended name session condition s)
ended_falls name session condition s = end_falls (endpoint_of session s) name session condition s refl

-- what a session has goes out
pub handed_out_falls : (name : ℕ) (s : State) → Falls s (handed_out name s)
handed_out_falls name s = handed_falls name s

-- ---- the connection stops

turned_weight : (turn : EndpointState → EndpointState) (say : EndpointState → List LinkInput) → ((e : EndpointState) → of_endpoint (turn e) + of_inputs (say e) ≤ of_endpoint e) → (es : List (ℕ × EndpointState))
    → weigh of_endpoint (map (turned_entry turn) es) + weigh of_input (said say es) ≤ weigh of_endpoint es
turned_weight turn say h [] = omega (arith, total_nil (value_weight of_input))
turned_weight turn say h (e ∷ es) =
    let xs = named e.0 (say e.1) in
    let more : weigh of_input (xs ++ said say es) ≡ weigh of_input xs + weigh of_input (said say es) = total_append (value_weight of_input) xs (said say es) in
    omega (arith, total_cons (value_weight of_endpoint) (turned_entry turn e) (map (turned_entry turn) es), total_cons (value_weight of_endpoint) e es, more, named_weight e.0 (say e.1), h e.1, turned_weight turn say h es)

turned_falls : (turn : EndpointState → EndpointState) (say : EndpointState → List LinkInput) (s : State) → ((e : EndpointState) → of_endpoint (turn e) + of_inputs (say e) ≤ of_endpoint e) → Falls s (all_turned turn say s)
turned_falls turn say s h =
    let more : weigh of_input (s.incoming ++ said say s.endpoints) ≡ weigh of_input s.incoming + weigh of_input (said say s.endpoints) = total_append (value_weight of_input) s.incoming (said say s.endpoints) in
    omega (arith, more, turned_weight turn say h s.endpoints)

halting_weight : (why : ConnectionStopReason) (e : EndpointState) → of_endpoint (halting why e) + of_inputs (stop_of why e) ≤ of_endpoint e
halting_weight why e =
    let none : of_endpoint (halting why e) ≡ 0 = total_nil of_input in
    omega (arith, none, stopped_same state.Unmapped (ConnectionStopped why) e.session)

pub halted_falls : (why : ConnectionStopReason) (s : State) → Falls s (halted why s)
halted_falls why s = turned_falls (halting why) (stop_of why) s (halting_weight why)

words_weight : (b : Bool) → of_inputs (if b then [] else Over ∷ []) ≡ 0
words_weight true = total_nil of_input
words_weight false = omega (arith, total_cons of_input Over [], total_nil of_input)

over_weight : (e : EndpointState) → of_endpoint (over e) + of_inputs (last_words e) ≤ of_endpoint e
over_weight e = omega (arith, words_weight e.is_over)

finished_falls : (s : State) → Falls s (finished s)
finished_falls s = turned_falls over last_words s over_weight

answered_falls : (o : Option ℕ) (s : State) → Falls s (end_answered o s)
answered_falls None s = falls_still s
answered_falls (Some end) s = falls_answers end (answer.SessionError IllegalState) s

ends_fall : (es : List (ℕ × EndpointState)) (s : State) → Falls s (ends_answered es s)
ends_fall [] s = falls_still s
ends_fall (e ∷ es) s =
    let t = end_answered e.1.ending s in falls_then s t (ends_answered es t) (answered_falls e.1.ending s) (ends_fall es t)

without_falls : (s : State) → Falls s (without_ends s)
without_falls s = omega (arith, total_filtered (value_weight of_endpoint) (λ (e : ℕ × EndpointState). is_none e.1.ending) s.endpoints)

begin_falls : (o : Option Waiting) (why : ConnectionStopReason) (s : State) → Falls s (begin_concluded o why s)
begin_falls None why s = falls_still s
begin_falls (Some (Accept name numbers)) why s = falls_still s
begin_falls (Some (Begin name)) why s =
    let t = let_go name s in
    falls_then s t (begin_concluded (Some (Begin name)) why s) (let_go_falls name s) (refused_falls name (SessionStopped (ConnectionStopped why)) t)

pub concluded_falls : (why : ConnectionStopReason) (s : State) → Falls s (concluded why s)
concluded_falls why s =
    let a = halted why s in
    let b = finished a in
    let c = ends_answered b.endpoints b in
    let d = without_ends c in
    falls_then s a (concluded why s) (halted_falls why s)
    (falls_then a b (concluded why s) (finished_falls a)
    (falls_then b c (concluded why s) (ends_fall b.endpoints b)
    (falls_then c d (concluded why s) (without_falls c) (begin_falls d.waiting why d))))
