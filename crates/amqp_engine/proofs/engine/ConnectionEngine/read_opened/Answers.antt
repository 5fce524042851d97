use Rattle.std.proofs.Common.{◌≡◌, refl, ap, ◌∙◌, inl, Ok, Err}
use Rattle.amqp_transport.specs.declared.frames.Frame.{Frame}
use Rattle.amqp_transport.specs.declared.transport.Next.TheVariants as next
use Rattle.amqp_transport.specs.Kinds.{no_frame}
use Rattle.amqp_transport.specs.amqp_frames.Session.{of_session}
use Rattle.amqp_engine.specs.declared.error.Error.{Error}
use Rattle.amqp_engine.specs.declared.phase.Phase.TheVariants as p
use Rattle.amqp_engine.specs.declared.sessions.Plan.{Plan}
use Rattle.amqp_engine.specs.declared.sessions.Plan.TheVariants as plan
use Rattle.amqp_engine.specs.Channels.{Channels, channels_of, frame_in, taken_in}
use Rattle.amqp_engine.specs.Plans.{planned}
use Rattle.amqp_engine.specs.Machine.{plan_of, phase_after}
use Rattle.amqp_engine.specs.State.{State, failing}
use Rattle.amqp_engine.specs.Calls.{failing_by}
use Rattle.amqp_engine.proofs.Reading.{reads_so, nested, session_after, other_after}
use Rattle.amqp_engine.proofs.engine.ConnectionEngine.read_opened.Goals as goal

pub returns-in-Ok : goal.returns-in-Ok
returns-in-Ok g c =
    let s : State g.row.L.Denot = record { wire = c.poll_next.new.self; phase = c.self.inside.phase; beat = c.self.inside.beat; reason = c.self.inside.reason; settings = c.self.inside.settings; channels = channels_of c.self.inside.sessions } in
    let same = ap (λ (k : Channels). record s { channels = k }) c.make_room.ensures.same in
    let e : c.self.inside.phase ≡ p.Opened = ap (λ (t : State g.row.L.Denot). t.phase) c.self.view_is ∙ c.requires in
    let y : Frame = frame_in c.in-Ok.frame in
    let q : Plan = c.plan-plan.result in
    let again : y ≡ c.in-Ok-Frame.frame = λ i. record { channel = c.in-Ok.ensures.ok.0 i; body = c.in-Ok.ensures.ok.1 i } in
    let plan_is : q ≡ plan_of s y = c.plan-plan.ensures ∙ ap (λ (k : Channels). planned s.settings k y) c.make_room.ensures.same in
    let took = c.take.ensures ∙ ap (λ (k : Channels). taken_in q k y) c.make_room.ensures.same in
    rw (← c.self.view_is) (inl (reads_so g.L.Link c.args.at _ _ c.poll_next.result (Ok (next.Frame c.in-Ok-Frame.frame)) c.poll_next.new.self _ c.poll_next.ensures.answer c.poll_next.ensures.joined (nested _ _ _ c.in-Ok-Frame.is c.in-Ok-Frame.field-0-is) (session_after c.args.at s c.in-Ok-Frame.frame y q _ _ e again c.in-Ok.ensures.ok.2 plan_is c.follow.ensures.answer (c.follow.ensures.state ∙ ap (λ (k : Channels). record s { phase = phase_after q s.phase; channels = k }) took))))

pub returns-in-Err-new : goal.returns-in-Err-new
returns-in-Err-new g c =
    let s : State g.row.L.Denot = record { wire = c.poll_next.new.self; phase = c.self.inside.phase; beat = c.self.inside.beat; reason = c.self.inside.reason; settings = c.self.inside.settings; channels = channels_of c.self.inside.sessions } in
    let same = ap (λ (k : Channels). record s { channels = k }) c.make_room.ensures.same in
    let e : c.self.inside.phase ≡ p.Opened = ap (λ (t : State g.row.L.Denot). t.phase) c.self.view_is ∙ c.requires in
    rw (← c.self.view_is) (inl (reads_so g.L.Link c.args.at _ _ c.poll_next.result (Ok (next.Frame c.in-Ok-Frame.frame)) c.poll_next.new.self _ c.poll_next.ensures.answer c.poll_next.ensures.joined (nested _ _ _ c.in-Ok-Frame.is c.in-Ok-Frame.field-0-is) (other_after c.args.at s _ c.in-Ok-Frame.frame no_frame plan.Deliver c.in-Err-new.body _ _ e c.in-Err-new.ensures.err.0 (ap of_session c.in-Err-new.ensures.err.0 ∙ c.in-Err-new.ensures.err.1) c.arrive.ensures.answer same c.arrive.ensures.state)))

pub returns-in-Ok-Pending : goal.returns-in-Ok-Pending
returns-in-Ok-Pending g c =
    let s : State g.row.L.Denot = record { wire = c.poll_next.new.self; phase = c.self.inside.phase; beat = c.self.inside.beat; reason = c.self.inside.reason; settings = c.self.inside.settings; channels = channels_of c.self.inside.sessions } in
    let same = ap (λ (k : Channels). record s { channels = k }) c.make_room.ensures.same in
    rw (← c.self.view_is) (inl (reads_so g.L.Link c.args.at _ _ c.poll_next.result (Ok next.Pending) c.poll_next.new.self _ c.poll_next.ensures.answer c.poll_next.ensures.joined (nested _ _ _ c.in-Ok-Pending.is c.in-Ok-Pending.field-0-is) (refl, same)))

pub returns-in-Ok-Ended : goal.returns-in-Ok-Ended
returns-in-Ok-Ended g c =
    let s : State g.row.L.Denot = record { wire = c.poll_next.new.self; phase = c.self.inside.phase; beat = c.self.inside.beat; reason = c.self.inside.reason; settings = c.self.inside.settings; channels = channels_of c.self.inside.sessions } in
    let same = ap (λ (k : Channels). record s { channels = k }) c.make_room.ensures.same in
    rw (← c.self.view_is) (inl (reads_so g.L.Link c.args.at _ _ c.poll_next.result (Ok next.Ended) c.poll_next.new.self _ c.poll_next.ensures.answer c.poll_next.ensures.joined (nested _ _ _ c.in-Ok-Ended.is c.in-Ok-Ended.field-0-is) (refl, c.fail.ensures ∙ ap (λ (t : State g.row.L.Denot). failing t) same)))

pub returns-in-Err-poll_next : goal.returns-in-Err-poll_next
returns-in-Err-poll_next g c =
    let s : State g.row.L.Denot = record { wire = c.poll_next.new.self; phase = c.self.inside.phase; beat = c.self.inside.beat; reason = c.self.inside.reason; settings = c.self.inside.settings; channels = channels_of c.self.inside.sessions } in
    let same = ap (λ (k : Channels). record s { channels = k }) c.make_room.ensures.same in
    rw (← c.self.view_is) (inl (reads_so g.L.Link c.args.at _ _ c.poll_next.result (Err c.in-Err-poll_next.error) c.poll_next.new.self _ c.poll_next.ensures.answer c.poll_next.ensures.joined c.in-Err-poll_next.is (ap (λ (e : Error). Err e) c.fail_by.ensures.value, c.fail_by.ensures.state ∙ ap (λ (t : State g.row.L.Denot). failing_by c.in-Err-poll_next.error t) same)))
