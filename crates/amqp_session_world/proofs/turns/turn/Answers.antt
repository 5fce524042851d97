use Rattle.std.proofs.Common.{◌≡◌, length, drop, refl, ◌∙◌}
use Rattle.std.proofs.lemmas.List.{take_rest}
use Rattle.amqp_world.specs.Turn.{empty_pipe, pipe_of}
use Rattle.amqp_session_world.specs.Turn.{calls_of}
use Rattle.amqp_session_world.proofs.Moving.{output_grows, turned_by}
use Rattle.amqp_session_world.proofs.turns.turn.Goals as goal

pub slice_bounds-extend_from_slice-count : goal.slice_bounds-extend_from_slice-count
slice_bounds-extend_from_slice-count c =
    let ran = rw c.in_ok-transfer.ensures.near at c.in_ok-act_at.ensures in
    rw (c.output-before.ensures, (c.link_ref.ensures empty_pipe), c.output.ensures, (c.link_ref-2.ensures empty_pipe), c.replies-replies.ensures.connection)
    (output_grows c.args.near.now c.args.far.now c.act_at.new.near c.args.name c.count_of-count.result c.args.at (calls_of c.args.name c.args.act.now) c.args.act.now ran)

pub slice_bounds-extend_from_slice-start : goal.slice_bounds-extend_from_slice-start
slice_bounds-extend_from_slice-start c =
    let ran = rw c.in_ok-transfer.ensures.near at c.in_ok-act_at.ensures in
    rw (c.output-before.ensures, (c.link_ref.ensures empty_pipe), c.output.ensures, (c.link_ref-2.ensures empty_pipe), c.replies-replies.ensures.connection)
    (output_grows c.args.near.now c.args.far.now c.act_at.new.near c.args.name c.count_of-count.result c.args.at (calls_of c.args.name c.args.act.now) c.args.act.now ran)

pub returns : goal.returns
returns c =
    let ran = rw c.in_ok-transfer.ensures.near at c.in_ok-act_at.ensures in
    let before = c.output-before.ensures in
    let one = (c.link_ref.ensures empty_pipe) in
    let two = (c.link_ref-2.ensures empty_pipe) in
    let after = c.output.ensures in
    let wrote : c.extend_from_slice.new.self.items ≡ drop (length (pipe_of c.args.near.now.connection).output) (pipe_of c.replies-replies.new.self.connection).output =
    c.in_ok-extend_from_slice.ensures.items ∙ (rw c.new-wrote.ensures.items refl) ∙ take_rest c.output.result.now (length c.output-before.result.now) ∙ (rw (after, two, before, one) refl) in
    rw c.in_ok-transfer.ensures.far
    (turned_by c.args.near.now c.args.far.now c.act_at.new.near c.replies-replies.new.self c.args.name c.count_of-count.result c.args.at c.args.act.now _ c.requires c.count_of-count.ensures ran
    (record { replies = c.replies-replies.ensures.taken; left = c.replies-replies.ensures.left; connection = c.replies-replies.ensures.connection; sessions = c.replies-replies.ensures.sessions; links = c.replies-replies.ensures.links; last = c.replies-replies.ensures.last; failed = c.replies-replies.ensures.alive })
    wrote)
