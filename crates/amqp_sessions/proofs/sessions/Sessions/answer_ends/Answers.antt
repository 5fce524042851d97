use Rattle.std.proofs.Common.{◌≡◌, ◌∙◌, ap, sym, slice_get, arith}
use Rattle.amqp_sessions.specs.State.{seen}
use Rattle.amqp_sessions.specs.Stops.{ending_at, end_answered}
use Rattle.amqp_sessions.proofs.Tables.{answered_next, answered_same, answered_last}
use Rattle.amqp_sessions.proofs.sessions.Sessions.answer_ends.Goals as goal

pub loop-at-preserved : goal.loop-at-preserved
loop-at-preserved c =
    let named : c.ending_at-ending.result ≡ ending_at (slice_get c.args.self.now.endpoints.entries c.loop-at.at) = c.ending_at-ending.ensures ∙ ap (λ es. ending_at (slice_get es c.loop-at.at)) c.loop-at.invariant.same in
    let answered : seen c.answer_end.new.self ≡ end_answered (ending_at (slice_get c.args.self.now.endpoints.entries c.loop-at.at)) (seen c.loop-at.self) = c.in_ok-answer_end.ensures ∙ ap (λ ending. end_answered ending (seen c.loop-at.self)) named in
    record {
      same = answered_same (ending_at (slice_get c.args.self.now.endpoints.entries c.loop-at.at)) (seen c.loop-at.self) (seen c.answer_end.new.self) answered ∙ c.loop-at.invariant.same;
      whole = answered_next c.loop-at.at c.args.self.now.endpoints.entries (seen c.loop-at.self) (seen c.answer_end.new.self) answered ∙ c.loop-at.invariant.whole;
    }

pub returns : goal.returns
returns c = sym (answered_last c.loop-at.at c.args.self.now.endpoints.entries (seen c.loop-at.self) (omega (arith, c.len-at-end.ensures.len))) ∙ c.loop-at.invariant.whole
