-- What the sessions of a connection do with a frame (OASIS AMQP 1.0, part 2, sections 2.5.1, 2.5.4 and 2.5.5).
use Rattle.std.specs.Prelude.{ℕ, nat_eq, Bool, true, false, List, [], ◌∷◌, ◌++◌, Option, Some, None}
use Rattle.std.specs.Map.{lookup, set_value}
use Rattle.indexmap.specs.IndexMap.{insert_entry, swap_remove_entry}
use Rattle.amqp_calls.specs.declared.reply.SessionReply.{SessionReply}
use Rattle.amqp_calls.specs.declared.reply.SessionReply.TheVariants as reply
use Rattle.amqp_frames.specs.declared.body.FrameBody.{FrameBody}
use Rattle.amqp_frames.specs.declared.body.FrameBody.TheVariants as b
use Rattle.amqp_frames.specs.declared.shared.LinkFrame.{LinkFrame}
use Rattle.amqp_session.specs.declared.error.BeginError.{BeginError}
use Rattle.amqp_session.specs.declared.error.BeginError.TheVariants.{RemoteEnded}
use Rattle.amqp_session.specs.declared.error.Error.{Error}
use Rattle.amqp_session.specs.State.{Framed}
use Rattle.amqp_sessions.specs.declared.endpoint.Change.{Change}
use Rattle.amqp_sessions.specs.declared.endpoint.Change.TheVariants.{Same, Begun, Refused, Gone, Answered}
use Rattle.amqp_sessions.specs.Parts.{EndpointState}
use Rattle.amqp_sessions.specs.Endpoint.{hearing, change_of, having_heard, having_written, having_refused}
use Rattle.amqp_sessions.specs.State.{State, endpoint_of, with_endpoint, let_go, answering, handed_out}

-- the channel of this end whose Begin a Begin answers (section 2.7.2)
abbrev pub answered_channel : FrameBody → Option ℕ
answered_channel (b.Begin x) = x.remote_channel
answered_channel body = None

-- a Begin that answers one is of the session on the channel that it names, each other frame of that on the peer's channel
abbrev pub name_at : Option ℕ → ℕ → State → Option ℕ
name_at (Some channel) remote s = lookup (nat_eq channel) s.channels
name_at None remote s = lookup (nat_eq remote) s.remotes

abbrev pub place_of : Framed → State → Option ℕ
place_of x s = name_at (answered_channel x.body) x.channel s

-- a session stands on the peer's channel, and its call waits no more
abbrev pub joined : ℕ → ℕ → State → State
joined name remote s =
    answering name reply.Session (record s { remotes = insert_entry nat_eq s.remotes remote name; waiting = None })

-- a call for a session is refused
abbrev pub refused : ℕ → BeginError → State → State
refused name error s = answering name (reply.BeginError error) (record s { waiting = None })

-- the channel of this end is free
abbrev pub freed_at : Option EndpointState → State → State
freed_at None s = s
freed_at (Some e) s = record s {
  channels = swap_remove_entry (nat_eq e.session.channel) s.channels;
  freed = s.freed ++ e.session.channel ∷ [];
}

abbrev pub freed_own : ℕ → State → State
freed_own name s = freed_at (endpoint_of name s) s

-- both channels are: the session is ended at both ends
abbrev pub freed : ℕ → ℕ → State → State
freed name remote s = freed_own name (record s { remotes = swap_remove_entry (nat_eq remote) s.remotes })

-- how an `end` is answered at the peer's End
abbrev pub end_reply : Option Error → SessionReply
end_reply None = reply.Ended
end_reply (Some error) = reply.SessionError error

-- both ends have ended the session: the `end` that waits is answered and the session let go; where calls have left it, let go; else a
-- call is still to be told
abbrev pub concluding_for : Option ℕ → Bool → ℕ → Option Error → State → State
concluding_for (Some end) is_left name error s = answering end (end_reply error) (let_go name s)
concluding_for None true name error s = let_go name s
concluding_for None false name error s = s

abbrev pub concluding : Option EndpointState → ℕ → Option Error → State → State
concluding None name error s = s
concluding (Some e) name error s = concluding_for e.ending e.is_left name error s

-- what has become of the session: begun at both ends; ended by the peer in place of its begin; ended by the peer, which was answered
-- at once; ended at both ends, by this one first
abbrev pub changed : Change → ℕ → ℕ → Option Error → State → State
changed Same name remote error s = s
changed Begun name remote error s = joined name remote s
changed Refused name remote error s = refused name RemoteEnded (let_go name (freed_own name s))
changed Gone name remote error s = freed name remote s
changed Answered name remote error s = concluding (endpoint_of name s) name error (freed name remote s)

-- a session hears a frame of its own, and writes what that asks for
abbrev pub hearing_at : Option EndpointState → ℕ → Framed → State → State
hearing_at None name x s = s
hearing_at (Some e) name x s =
    let t = handed_out name (with_endpoint name (having_heard x e) s) in
    changed (change_of x e) name x.channel (hearing x e).answer t

-- a frame of a session that no call has accepted yet is kept
abbrev pub kept_at : Option (List Framed) → Framed → State → State
kept_at None x s = record s { early = insert_entry nat_eq s.early x.channel (x ∷ []) }
kept_at (Some xs) x s = record s { early = set_value (nat_eq x.channel) s.early (xs ++ x ∷ []) }

abbrev pub kept : Framed → State → State
kept x s = kept_at (lookup (nat_eq x.channel) s.early) x s

abbrev pub heard_by : Option ℕ → Framed → State → State
heard_by None x s = kept x s
heard_by (Some name) x s = hearing_at (endpoint_of name s) name x s

-- a frame was read
abbrev pub heard : Framed → State → State
heard x s = heard_by (place_of x s) x s

abbrev pub heard_all : List Framed → State → State
heard_all [] s = s
heard_all (x ∷ xs) s = heard_all xs (heard x s)

-- a session that is accepted hears what came before, in order
abbrev pub heard_early_at : Option (List Framed) → ℕ → State → State
heard_early_at None remote s = s
heard_early_at (Some xs) remote s = heard_all xs (record s { early = swap_remove_entry (nat_eq remote) s.early })

abbrev pub heard_early : ℕ → State → State
heard_early remote s = heard_early_at (lookup (nat_eq remote) s.early) remote s

-- a link writes a frame on its session, and what that asks for goes out; it is dropped where no session has that name
abbrev pub written_at : Option EndpointState → ℕ → LinkFrame → State → State
written_at None name x s = s
written_at (Some e) name x s = handed_out name (with_endpoint name (having_written x e) s)

abbrev pub written : ℕ → LinkFrame → State → State
written name x s = written_at (endpoint_of name s) name x s

-- the session is ended for an Attach of a link that this end does not have, and its End goes out
abbrev pub refusing_at : Option EndpointState → ℕ → State → State
refusing_at None name s = s
refusing_at (Some e) name s = handed_out name (with_endpoint name (having_refused e) s)

abbrev pub refusing : ℕ → State → State
refusing name s = refusing_at (endpoint_of name s) name s
