-- One step of an end over a pipe.
use Rattle.std.proofs.Common.{◌≡◌, ◌+◌, ◌≤◌, List, ℕ, [], ◌++◌, length, take, drop, refl, sym, ap, ◌∙◌, arith, length-append, false}
use Rattle.std.proofs.Math.Seq.{drop-append_seam}
use Rattle.amqp_wire.specs.Piped.{Piped}
use Rattle.amqp_words.specs.declared.reply.NamedReply.{NamedReply}
use Rattle.amqp_peer.specs.History.{Local, link_in, replied_in, read_in, wrote_in}
use Rattle.amqp_peer.specs.Peering.{Peering}
use Rattle.amqp_peer.specs.Runs.{Stepped}
use Rattle.amqp_peer.proofs.Laws.{link_of-with_link, link_of-taken, may_with_link}
use Rattle.amqp_words.specs.declared.step.Act.{Act}
use Rattle.amqp_words.specs.declared.step.Act.TheVariants.{Take, TakeAll, Call}
use Rattle.amqp_words.specs.declared.trace.Entry.{Entry}
use Rattle.amqp_world.specs.History.{moved, begun}
use Rattle.amqp_ends.specs.Joined.{IsCalm}
use Rattle.amqp_world.specs.Turn.{piping, empty_pipe, pipe_of, MayAct, CanAct, fed, drained, given, marked, Turned}
use Rattle.amqp_world.proofs.Pipes.{pipe_input, pipe_output, pipe_mark, pipe_calm}

pub given_link : (near : Peering Piped) (far : Piped) (count : ℕ) → pipe_of (given near far count) ≡ fed (pipe_of near) far count
given_link near far count = link_of-with_link empty_pipe near (fed (pipe_of near) far count)

pub marked_link : (far : Peering Piped) (count : ℕ) → pipe_of (marked far count) ≡ drained (pipe_of far) count
marked_link far count = link_of-with_link empty_pipe far (drained (pipe_of far) count)

pub stepped_input : (near : Peering Piped) (far : Piped) (count : ℕ) (first : Local) (ran : Peering Piped) (s : Stepped piping (given near far count) first ran) → (pipe_of near).input ++ take count (drop far.mark far.output) ≡ read_in s.events ++ (pipe_of ran).input
stepped_input near far count first ran s = sym (ap (λ (k : Piped). k.input) (given_link near far count)) ∙ pipe_input (pipe_of (given near far count)) (pipe_of ran) (link_in s.events) (s.went empty_pipe)

pub stepped_output : (near : Peering Piped) (far : Piped) (count : ℕ) (first : Local) (ran : Peering Piped) (s : Stepped piping (given near far count) first ran) → (pipe_of ran).output ≡ (pipe_of near).output ++ wrote_in s.events
stepped_output near far count first ran s = pipe_output (pipe_of (given near far count)) (pipe_of ran) (link_in s.events) (s.went empty_pipe) ∙ ap (λ (k : Piped). k.output ++ wrote_in s.events) (given_link near far count)

pub stepped_mark : (near : Peering Piped) (far : Piped) (count : ℕ) (first : Local) (ran : Peering Piped) (s : Stepped piping (given near far count) first ran) → (pipe_of ran).mark ≡ (pipe_of near).mark
stepped_mark near far count first ran s = pipe_mark (pipe_of (given near far count)) (pipe_of ran) (link_in s.events) (s.went empty_pipe) ∙ ap (λ (k : Piped). k.mark) (given_link near far count)

pub stepped_calm : (near : Peering Piped) (far : Piped) (count : ℕ) (first : Local) (ran : Peering Piped) (s : Stepped piping (given near far count) first ran) → IsCalm (link_in s.events)
stepped_calm near far count first ran s = pipe_calm (pipe_of (given near far count)) (pipe_of ran) (link_in s.events) (s.went empty_pipe)

-- an end only adds to its output
pub output_grows : (near : Peering Piped) (far : Piped) (count : ℕ) (first : Local) (ran : Peering Piped) → Stepped piping (given near far count) first ran → length (pipe_of near).output ≤ length (pipe_of (record ran { replies = [] })).output
output_grows near far count first ran s =
    let whole : (pipe_of (record ran { replies = [] })).output ≡ (pipe_of near).output ++ wrote_in s.events = ap (λ (k : Piped). k.output) (link_of-taken empty_pipe ran) ∙ stepped_output near far count first ran s in
    let size : length (pipe_of (record ran { replies = [] })).output ≡ length (pipe_of near).output + length (wrote_in s.events) = ap length whole ∙ length-append (pipe_of near).output (wrote_in s.events) in
    omega arith

pub turned_by : (near far ran : Peering Piped) (name at : ℕ) (act : Act) (count : ℕ) (entry : Entry) → Stepped piping (given near (pipe_of far) count) (begun at name act) ran → entry.replies ≡ ran.replies → entry.wrote ≡ drop (length (pipe_of near).output) (pipe_of (record ran { replies = [] })).output
    → (pipe_of far).mark + count ≡ moved act (pipe_of far).mark (length (pipe_of far).output) → ran.failed ≡ false → near.failed ≡ false → Turned near far name at act (record ran { replies = [] }) (marked far count) entry
turned_by near far ran name at act count entry s replies wrote counted alive before =
    let whole : (pipe_of ran).output ≡ (pipe_of near).output ++ wrote_in s.events = stepped_output near (pipe_of far) count (begun at name act) ran s in
    let same : entry.wrote ≡ wrote_in s.events =
    wrote ∙ ap (λ (k : Piped). drop (length (pipe_of near).output) k.output) (link_of-taken empty_pipe ran) ∙ ap (λ (u : List ℕ). drop (length (pipe_of near).output) u) whole ∙ drop-append_seam (pipe_of near).output (wrote_in s.events) in
    record {
      count = count;
      counted = counted;
      far_end = refl;
      ran = ran;
      stepped = s;
      replies = replies;
      output = whole ∙ ap (λ (u : List ℕ). (pipe_of near).output ++ u) (sym same);
      near_end = refl;
      alive = alive ∙ sym before;
    }

-- the bytes of the entry are those written, and its replies those made
pub turned_wrote : (near far near' far' : Peering Piped) (name at : ℕ) (act : Act) (entry : Entry) (t : Turned near far name at act near' far' entry) → wrote_in t.stepped.events ≡ entry.wrote
turned_wrote near far near' far' name at act entry t =
    sym (drop-append_seam (pipe_of near).output (wrote_in t.stepped.events))
    ∙ ap (λ (u : List ℕ). drop (length (pipe_of near).output) u) (sym (stepped_output near (pipe_of far) t.count (begun at name act) t.ran t.stepped) ∙ t.output)
    ∙ drop-append_seam (pipe_of near).output entry.wrote

pub turned_replied : (near far near' far' : Peering Piped) (name at : ℕ) (act : Act) (entry : Entry) (t : Turned near far name at act near' far' entry) → near.replies ≡ [] → replied_in t.stepped.events ≡ entry.replies
turned_replied near far near' far' name at act entry t empty =
    sym (t.replies ∙ t.stepped.answers ∙ ap (λ (u : List NamedReply). u ++ replied_in t.stepped.events) empty)

-- the pipe of the end that made the step
pub turned_link : (near far near' far' : Peering Piped) (name at : ℕ) (act : Act) (entry : Entry) (t : Turned near far name at act near' far' entry) → pipe_of near' ≡ pipe_of t.ran
turned_link near far near' far' name at act entry t = ap (λ (z : Peering Piped). pipe_of z) t.near_end ∙ link_of-taken empty_pipe t.ran

-- an act that may be made at an end may be made after bytes came to it
pub may_given : (near far : Peering Piped) (count name : ℕ) (act : Act) → CanAct near far name act → MayAct (given near (pipe_of far) count) name act
may_given near far count name (Take n) c = tt
may_given near far count name TakeAll c = tt
may_given near far count name (Call call) c = may_with_link near (fed (pipe_of near) (pipe_of far) count) name call c
