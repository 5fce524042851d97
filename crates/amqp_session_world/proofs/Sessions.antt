-- Sessions answer calls for sessions alone.
use Rattle.std.specs.Prelude.{nat_eq}
use Rattle.std.specs.Map.{lookup}
use Rattle.std.proofs.Common.{◌≡◌, ℕ, Bool, true, false, List, [], ◌∷◌, Option, Some, None, sym, subst}
use Rattle.std.proofs.lemmas.List.Elements.{All-nil, All-push}
use Rattle.indexmap.specs.IndexMap.{swap_remove_entry}
use Rattle.amqp_wire.specs.declared.link.Link.{Ghosts}
use Rattle.amqp_frames.specs.declared.shared.ConnectionStopReason.{ConnectionStopReason}
use Rattle.amqp_frames.specs.declared.shared.IncomingSession.{IncomingSession}
use Rattle.amqp_frames.specs.declared.shared.LinkFrame.{LinkFrame}
use Rattle.amqp_frames.specs.declared.shared.SessionStopReason.TheVariants.{ConnectionStopped}
use Rattle.amqp_session.specs.declared.error.BeginError.{BeginError}
use Rattle.amqp_session.specs.declared.error.BeginError.TheVariants.{RemoteEnded, SessionStopped}
use Rattle.amqp_session.specs.declared.error.Error.{Error}
use Rattle.amqp_session.specs.declared.error.Error.TheVariants.{IllegalState}
use Rattle.amqp_session.specs.declared.session.SessionState.{SessionState}
use Rattle.amqp_session.specs.declared.session.SessionState.TheVariants as state
use Rattle.amqp_session.specs.Begin as session
use Rattle.amqp_session.specs.State.{Framed}
use Rattle.amqp_end.specs.amqp_calls.declared.call.SessionNumbers.{SessionNumbers}
use Rattle.amqp_end.specs.amqp_calls.declared.reply.NamedReply.{NamedReply}
use Rattle.amqp_end.specs.amqp_calls.declared.reply.Reply.TheVariants.{Session}
use Rattle.amqp_end.specs.amqp_calls.declared.reply.SessionReply.{SessionReply}
use Rattle.amqp_end.specs.amqp_calls.declared.reply.SessionReply.TheVariants as reply
use Rattle.amqp_end.specs.amqp_links.State.{State as Links}
use Rattle.amqp_peer.specs.Peering.{Peering}
use Rattle.amqp_end.specs.amqp_sessions.declared.endpoint.Change.{Change}
use Rattle.amqp_end.specs.amqp_sessions.declared.endpoint.Change.TheVariants.{Same, Begun, Refused, Gone, Answered}
use Rattle.amqp_end.specs.amqp_sessions.declared.sessions.Waiting.{Waiting}
use Rattle.amqp_end.specs.amqp_sessions.declared.sessions.Waiting.TheVariants.{Begin, Accept}
use Rattle.amqp_end.specs.amqp_sessions.Calls.{settings, entered, accepted, left_in, left_at, left, end_told, end_at}
use Rattle.amqp_end.specs.amqp_sessions.Endpoint.{hearing, change_of, having_heard, having_written, having_refused, asking_end, having_asked}
use Rattle.amqp_end.specs.amqp_sessions.Frames.{place_of, joined, refused, freed_at, freed_own, freed, end_reply, concluding_for, concluding, changed, hearing_at, kept_at, heard_by, heard, heard_all, heard_early_at, written_at, written, refusing_at, refusing}
use Rattle.amqp_end.specs.amqp_sessions.Parts.{EndpointState}
use Rattle.amqp_end.specs.amqp_sessions.State.{State, endpoint_of, with_endpoint, let_go, answering, handing, handed_out}
use Rattle.amqp_end.specs.amqp_sessions.Stops.{halted, finished, end_answered, ends_answered, ends_concluded, begin_concluded, concluded}
use Rattle.amqp_end.specs.Deeds as end
use Rattle.amqp_end.specs.Deeds.{Deed, IsDeed, Did, framed_of}
use Rattle.amqp_end.specs.Moves as move
use Rattle.amqp_end.specs.Moves.{Move, on}
use Rattle.amqp_session_world.specs.Answers.{IsOfSession, AreOfSessions}

-- ---- what sessions do

one_more : (name : ℕ) (r : SessionReply) (s : State) → AreOfSessions s.replies → AreOfSessions (answering name r s).replies
one_more name r s k = All-push (λ (x : NamedReply). IsOfSession x.reply) s.replies (record { name = name; reply = Session r }) k tt

handing_keeps : (name : ℕ) (e : Option EndpointState) (s : State) → AreOfSessions s.replies → AreOfSessions (handing name e s).replies
handing_keeps name None s k = k
handing_keeps name (Some e) s k = k

handed_keeps : (name : ℕ) (s : State) → AreOfSessions s.replies → AreOfSessions (handed_out name s).replies
handed_keeps name s k = handing_keeps name (endpoint_of name s) s k

joined_keeps : (name remote : ℕ) (s : State) → AreOfSessions s.replies → AreOfSessions (joined name remote s).replies
joined_keeps name remote s k = one_more name reply.Session s k

refused_keeps : (name : ℕ) (error : BeginError) (s : State) → AreOfSessions s.replies → AreOfSessions (refused name error s).replies
refused_keeps name error s k = one_more name (reply.BeginError error) s k

freed_at_keeps : (e : Option EndpointState) (s : State) → AreOfSessions s.replies → AreOfSessions (freed_at e s).replies
freed_at_keeps None s k = k
freed_at_keeps (Some e) s k = k

own_keeps : (name : ℕ) (s : State) → AreOfSessions s.replies → AreOfSessions (freed_own name s).replies
own_keeps name s k = freed_at_keeps (endpoint_of name s) s k

freed_keeps : (name remote : ℕ) (s : State) → AreOfSessions s.replies → AreOfSessions (freed name remote s).replies
freed_keeps name remote s k = own_keeps name (record s { remotes = swap_remove_entry (nat_eq remote) s.remotes }) k

concluding_for_keeps : (ending : Option ℕ) (is_left : Bool) (name : ℕ) (error : Option Error) (s : State) → AreOfSessions s.replies → AreOfSessions (concluding_for ending is_left name error s).replies
concluding_for_keeps (Some n) is_left name error s k = one_more n (end_reply error) s k
concluding_for_keeps None true name error s k = k
concluding_for_keeps None false name error s k = k

concluding_keeps : (e : Option EndpointState) (name : ℕ) (error : Option Error) (s : State) → AreOfSessions s.replies → AreOfSessions (concluding e name error s).replies
concluding_keeps None name error s k = k
concluding_keeps (Some e) name error s k = concluding_for_keeps e.ending e.is_left name error s k

changed_keeps : (c : Change) (name remote : ℕ) (error : Option Error) (s : State) → AreOfSessions s.replies → AreOfSessions (changed c name remote error s).replies
changed_keeps Same name remote error s k = k
changed_keeps Begun name remote error s k = joined_keeps name remote s k
changed_keeps Refused name remote error s k = refused_keeps name RemoteEnded (let_go name (freed_own name s)) (own_keeps name s k)
changed_keeps Gone name remote error s k = freed_keeps name remote s k
changed_keeps Answered name remote error s k = concluding_keeps (endpoint_of name s) name error (freed name remote s) (freed_keeps name remote s k)

hearing_keeps : (e : Option EndpointState) (name : ℕ) (x : Framed) (s : State) → AreOfSessions s.replies → AreOfSessions (hearing_at e name x s).replies
hearing_keeps None name x s k = k
hearing_keeps (Some e) name x s k =
    let t : State = with_endpoint name (having_heard x e) s in
    changed_keeps (change_of x e) name x.channel (hearing x e).answer (handed_out name t) (handed_keeps name t k)

kept_keeps : (early : Option (List Framed)) (x : Framed) (s : State) → AreOfSessions s.replies → AreOfSessions (kept_at early x s).replies
kept_keeps None x s k = k
kept_keeps (Some xs) x s k = k

heard_by_keeps : (name : Option ℕ) (x : Framed) (s : State) → AreOfSessions s.replies → AreOfSessions (heard_by name x s).replies
heard_by_keeps None x s k = kept_keeps (lookup (nat_eq x.channel) s.early) x s k
heard_by_keeps (Some name) x s k = hearing_keeps (endpoint_of name s) name x s k

heard_keeps : (x : Framed) (s : State) → AreOfSessions s.replies → AreOfSessions (heard x s).replies
heard_keeps x s k = heard_by_keeps (place_of x s) x s k

heard_all_keeps : (xs : List Framed) (s : State) → AreOfSessions s.replies → AreOfSessions (heard_all xs s).replies
heard_all_keeps [] s k = k
heard_all_keeps (x ∷ xs) s k = heard_all_keeps xs (heard x s) (heard_keeps x s k)

early_keeps : (early : Option (List Framed)) (remote : ℕ) (s : State) → AreOfSessions s.replies → AreOfSessions (heard_early_at early remote s).replies
early_keeps None remote s k = k
early_keeps (Some xs) remote s k = heard_all_keeps xs (record s { early = swap_remove_entry (nat_eq remote) s.early }) k

accepted_keeps : (name : ℕ) (x : SessionNumbers) (channel limit : ℕ) (incoming : IncomingSession) (s : State) → AreOfSessions s.replies → AreOfSessions (accepted name x channel limit incoming s).replies
accepted_keeps name x channel limit incoming s k =
    let t : State = joined name incoming.channel (entered name channel (session.accepted (settings x limit) channel incoming) s) in
    early_keeps (lookup (nat_eq incoming.channel) t.early) incoming.channel t (joined_keeps name incoming.channel s k)

written_keeps : (e : Option EndpointState) (name : ℕ) (x : LinkFrame) (s : State) → AreOfSessions s.replies → AreOfSessions (written_at e name x s).replies
written_keeps None name x s k = k
written_keeps (Some e) name x s k = handed_keeps name (with_endpoint name (having_written x e) s) k

refusing_keeps : (e : Option EndpointState) (name : ℕ) (s : State) → AreOfSessions s.replies → AreOfSessions (refusing_at e name s).replies
refusing_keeps None name s k = k
refusing_keeps (Some e) name s k = handed_keeps name (with_endpoint name (having_refused e) s) k

left_in_keeps : (phase : SessionState) (name : ℕ) (s : State) → AreOfSessions s.replies → AreOfSessions (left_in phase name s).replies
left_in_keeps state.EndSent name s k = k
left_in_keeps phase name s k = k

left_keeps : (e : Option EndpointState) (name : ℕ) (s : State) → AreOfSessions s.replies → AreOfSessions (left_at e name s).replies
left_keeps None name s k = k
left_keeps (Some e) name s k = left_in_keeps e.session.state name s k

end_told_keeps : (refusal : Option Error) (name session : ℕ) (s : State) → AreOfSessions s.replies → AreOfSessions (end_told refusal name session s).replies
end_told_keeps None name session s k = one_more name reply.Pending s k
end_told_keeps (Some refusal) name session s k = one_more name (reply.SessionError refusal) (left session s) (left_keeps (endpoint_of session s) session s k)

end_keeps : (e : Option EndpointState) (name session : ℕ) (condition : Option (List ℕ)) (s : State) → AreOfSessions s.replies → AreOfSessions (end_at e name session condition s).replies
end_keeps None name session condition s k = k
end_keeps (Some e) name session condition s k = end_told_keeps (asking_end condition e).answer name session (with_endpoint session (having_asked name condition e) s) k

answered_keeps : (ending : Option ℕ) (s : State) → AreOfSessions s.replies → AreOfSessions (end_answered ending s).replies
answered_keeps None s k = k
answered_keeps (Some n) s k = one_more n (reply.SessionError IllegalState) s k

ends_keep : (es : List (ℕ × EndpointState)) (s : State) → AreOfSessions s.replies → AreOfSessions (ends_answered es s).replies
ends_keep [] s k = k
ends_keep (e ∷ es) s k = ends_keep es (end_answered e.1.ending s) (answered_keeps e.1.ending s k)

begin_keeps : (waiting : Option Waiting) (why : ConnectionStopReason) (s : State) → AreOfSessions s.replies → AreOfSessions (begin_concluded waiting why s).replies
begin_keeps None why s k = k
begin_keeps (Some (Accept name numbers)) why s k = k
begin_keeps (Some (Begin name)) why s k = refused_keeps name (SessionStopped (ConnectionStopped why)) (let_go name s) k

concluded_keeps : (why : ConnectionStopReason) (s : State) → AreOfSessions s.replies → AreOfSessions (concluded why s).replies
concluded_keeps why s k =
    let u : State = finished (halted why s) in
    begin_keeps (ends_concluded u).waiting why (ends_concluded u) (ends_keep u.endpoints u k)

move_keeps : (m : Move) (s : State) → AreOfSessions s.replies → AreOfSessions (on m s).replies
move_keeps (move.Begun name x channel limit) s k = one_more name reply.Pending s k
move_keeps (move.Awaiting name x) s k = one_more name reply.Pending s k
move_keeps (move.Refused name error) s k = refused_keeps name error s k
move_keeps (move.Ended name session condition) s k = end_keeps (endpoint_of session s) name session condition s k
move_keeps (move.HandedOut name) s k = handed_keeps name s k
move_keeps (move.Halted why) s k = k
move_keeps (move.Concluded why) s k = concluded_keeps why s k

-- ---- what their end does

same_keeps : (s s' : State) → s' ≡ s → AreOfSessions s.replies → AreOfSessions s'.replies
same_keeps s s' e k = subst (λ (t : State). AreOfSessions t.replies) (sym e) k

none_keeps : (s s' : State) → s' ≡ record s { replies = [] } → AreOfSessions s'.replies
none_keeps s s' e = same_keeps (record s { replies = [] }) s' e (All-nil (λ (x : NamedReply). IsOfSession x.reply))

deed_keeps : {L : Type 0} (link : Ghosts L) (at : ℕ) (d : Deed) (p p' : Peering L) (s s' : State) (l l' : Links) → IsDeed link at p s l d p' s' l' → AreOfSessions s.replies → AreOfSessions s'.replies
deed_keeps link at (end.Makes name call events) p p' s s' l l' x k = same_keeps s s' x.1 k
deed_keeps link at (end.Polls events) p p' s s' l l' x k = same_keeps s s' x.1 k
deed_keeps link at (end.Goes events) p p' s s' l l' x k = same_keeps s s' x.1 k
deed_keeps link at (end.Moves m) p p' s s' l l' x k = same_keeps (on m s) s' x.1 (move_keeps m s k)
deed_keeps link at (end.Hears f) p p' s s' l l' x k = same_keeps (heard (framed_of f) s) s' x.2 (heard_keeps (framed_of f) s k)
deed_keeps link at (end.Writes f events) p p' s s' l l' x k = same_keeps (record s { output = s'.output }) s' x.0.takes.1 k
deed_keeps link at (end.Seats channel) p p' s s' l l' x k = same_keeps s s' x.2 k
deed_keeps link at (end.Lacks e) p p' s s' l l' x k = same_keeps s s' x.2 k
deed_keeps link at (end.Frees channel) p p' s s' l l' x k = same_keeps (record s { freed = s'.freed }) s' x.0.1 k
deed_keeps link at (end.Accepts name n channel limit incoming) p p' s s' l l' x k = same_keeps (accepted name n channel limit incoming s) s' x.2 (accepted_keeps name n channel limit incoming s k)
deed_keeps link at (end.Asks name call) p p' s s' l l' x k = same_keeps s s' x.1 k
deed_keeps link at (end.LinksHear session y) p p' s s' l l' x k = same_keeps (record s { incoming = s'.incoming }) s' x.1.1 k
deed_keeps link at (end.LinksWrite session y) p p' s s' l l' x k = same_keeps (written session y s) s' x.1 (written_keeps (endpoint_of session s) session y s k)
deed_keeps link at (end.LinksLack session) p p' s s' l l' x k = same_keeps (refusing session s) s' x.1 (refusing_keeps (endpoint_of session s) session s k)
deed_keeps link at end.LinksKnow p p' s s' l l' x k = same_keeps s s' x.1 k
deed_keeps link at end.LinksLook p p' s s' l l' x k = same_keeps s s' x.1 k
deed_keeps link at (end.Tells answers) p p' s s' l l' x k = none_keeps s s' x.1
deed_keeps link at (end.TellsFirst name answers) p p' s s' l l' x k = none_keeps s s' x.1

pub sessions_answer : {L : Type 0} (link : Ghosts L) (at : ℕ) (p : Peering L) (s : State) (l : Links) (ds : List Deed) (p' : Peering L) (s' : State) (l' : Links)
    → Did link at p s l ds p' s' l' → AreOfSessions s.replies → AreOfSessions s'.replies
sessions_answer link at p s l [] p' s' l' x k = same_keeps s s' x.1 k
sessions_answer link at p s l (d ∷ ds) p' s' l' x k = deed_keeps link at d x.0 p' x.1 s' x.2 l' x.4 (sessions_answer link at p s l ds x.0 x.1 x.2 x.3 k)
