-- What a session does with a frame, in each of its states (OASIS AMQP 1.0, part 2, section 2.5.5).
use Rattle.std.specs.Prelude.{ℕ}
use Rattle.amqp_performatives.specs.declared.flow.Flow.{Flow}
use Rattle.amqp_frames.specs.declared.body.FrameBody.{FrameBody}
use Rattle.amqp_frames.specs.declared.body.FrameBody.TheVariants as b
use Rattle.amqp_frames.specs.declared.shared.LinkFrame.{LinkFrame}
use Rattle.amqp_frames.specs.declared.shared.LinkFrame.TheVariants as link
use Rattle.amqp_session.specs.declared.error.Error.TheVariants as error
use Rattle.amqp_session.specs.declared.session.LinkInput.TheVariants as input
use Rattle.amqp_session.specs.declared.session.SessionState.{SessionState}
use Rattle.amqp_session.specs.declared.session.SessionState.TheVariants as state
use Rattle.amqp_session.specs.Begin.{mapped}
use Rattle.amqp_session.specs.Ends.{ended, answered}
use Rattle.amqp_session.specs.Hold.{released, sending, dropping}
use Rattle.amqp_session.specs.Links.{input_at, attach_read, detach_at, transfer_at, is_astray, flow_at}
use Rattle.amqp_session.specs.State.{State, Framed, Made, works, refuses, saying, handing}
use Rattle.amqp_session.specs.Windows.{stamped, reported}

-- the peer's Begin is awaited
abbrev pub heard_unanswered : ℕ → FrameBody → State → Made
heard_unanswered channel (b.Begin x) s = works (released (mapped channel x s))
heard_unanswered channel (b.End x) s = works (ended x.error s)
heard_unanswered channel body s = refuses error.IllegalState s

-- both ends have begun
abbrev pub heard_mapped : FrameBody → State → Made
heard_mapped (b.Attach x) s = attach_read x s
heard_mapped (b.Flow x) s = flow_at (is_astray x.handle s) x s
heard_mapped (b.Transfer x payload) s = transfer_at (input_at x.handle s) x payload s
heard_mapped (b.Disposition x) s = works (handing (input.Disposition x) s)
heard_mapped (b.Detach x) s = detach_at (input_at x.handle s) x s
heard_mapped (b.End x) s = works (ended x.error s)
heard_mapped body s = refuses error.IllegalState s

-- this end has ended the session: what the peer had written before it read that is dropped, but for what has become of deliveries
abbrev pub heard_ending : FrameBody → State → Made
heard_ending (b.Disposition x) s = works (handing (input.Disposition x) s)
heard_ending (b.End x) s = answered x.error s
heard_ending body s = works s

abbrev pub heard_in : SessionState → Framed → State → Made
heard_in state.BeginSent x s = heard_unanswered x.channel x.body s
heard_in state.Mapped x s = heard_mapped x.body s
heard_in state.EndSent x s = heard_ending x.body s
heard_in state.Unmapped x s = refuses error.IllegalState s

-- a frame was read
abbrev pub heard : Framed → State → Made
heard x s = heard_in s.state x s

-- a link's Flow has the state of the session in it
abbrev pub telling_flow : Flow → State → State
telling_flow x s = saying (b.Flow (stamped s.windows x)) (record s { windows = reported s.windows })

-- a link writes a frame: a Transfer waits until the peer can take it, no other frame does; a Detach drops what waits on its handle
abbrev pub told : LinkFrame → State → State
told (link.Attach x) s = saying (b.Attach x) s
told (link.Flow x) s = telling_flow x s
told (link.Transfer x payload) s = sending (record { transfer = x; payload = payload }) s
told (link.Disposition x covered) s = saying (b.Disposition x) s
told (link.Detach x) s = saying (b.Detach x) (dropping x.handle s)

-- only in a session that both ends have begun
abbrev pub told_in : SessionState → LinkFrame → State → Made
told_in state.Mapped x s = works (told x s)
told_in phase x s = refuses error.IllegalState s
