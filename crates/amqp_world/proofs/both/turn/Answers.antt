use Rattle.std.proofs.Common.{◌≡◌, [], length, drop, refl, ◌∙◌}
use Rattle.std.proofs.lemmas.List.{take_rest}
use Rattle.amqp_world.specs.Turn.{empty_pipe, pipe_of}
use Rattle.amqp_world.proofs.Turns.{turned_by, output_grows, may_given}
use Rattle.amqp_world.proofs.both.turn.Goals as goal

pub act_at-requires-clause-can : goal.act_at-requires-clause-can
act_at-requires-clause-can c = rw c.in_ok-transfer.ensures.near (may_given c.args.near.now c.args.far.now c.count_of-count.result c.args.name c.args.act.now c.requires.can)

pub slice_bounds-from_slice-count : goal.slice_bounds-from_slice-count
slice_bounds-from_slice-count c =
    let stepped = rw c.in_ok-transfer.ensures.near at c.in_ok-act_at.ensures.stepped in
    rw (c.output-before.ensures, (c.link_ref.ensures empty_pipe), c.output.ensures, (c.link_ref-2.ensures empty_pipe), c.replies-replies.ensures.left)
    (output_grows c.args.near.now (pipe_of c.args.far.now) c.count_of-count.result _ c.act_at.new.near stepped)

pub slice_bounds-from_slice-start : goal.slice_bounds-from_slice-start
slice_bounds-from_slice-start c =
    let stepped = rw c.in_ok-transfer.ensures.near at c.in_ok-act_at.ensures.stepped in
    rw (c.output-before.ensures, (c.link_ref.ensures empty_pipe), c.output.ensures, (c.link_ref-2.ensures empty_pipe), c.replies-replies.ensures.left)
    (output_grows c.args.near.now (pipe_of c.args.far.now) c.count_of-count.result _ c.act_at.new.near stepped)

pub returns : goal.returns
returns c =
    let stepped = rw c.in_ok-transfer.ensures.near at c.in_ok-act_at.ensures.stepped in
    let before = c.output-before.ensures in
    let one = (c.link_ref.ensures empty_pipe) in
    let two = (c.link_ref-2.ensures empty_pipe) in
    let after = c.output.ensures in
    let left = c.replies-replies.ensures.left in
    let wrote : c.in_ok-wrote.wrote ≡ drop (length (pipe_of c.args.near.now).output) (pipe_of (record c.act_at.new.near { replies = [] })).output = c.in_ok-wrote.ensures ∙ take_rest c.output.result.now (length c.output-before.result.now) ∙ (rw (after, two, left, before, one) refl) in
    rw (left, c.in_ok-transfer.ensures.far)
    (turned_by c.args.near.now c.args.far.now c.act_at.new.near c.args.name c.args.at c.args.act.now c.count_of-count.result _ stepped c.replies-replies.ensures.taken wrote c.count_of-count.ensures c.in_ok-act_at.ensures.alive c.requires.alive)
