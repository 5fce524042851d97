use Rattle.std.proofs.Common.{◌≡◌, ap, sym, ◌∙◌, ◌++◌}
use Rattle.amqp_value.specs.Pieces.{joined}
use Rattle.std.proofs.lemmas.Bool.{eqb-true}
use Rattle.std.proofs.lemmas.List.{append-nil, nil_from_length}
use Rattle.amqp_value.proofs.Joined.{joined-push, joined-empty}
use Rattle.amqp_value.proofs.payload.Span.with_back.Goals as goal

pub returns-then-not-is_empty-2-clause-same : goal.returns-then-not-is_empty-2-clause-same
returns-then-not-is_empty-2-clause-same c =
    let no_back = nil_from_length c.args.self.back.now (eqb-true _ _ (sym c.if-not-is_empty.ensures)) in
    let last : joined c.in-Some.pieces.now ++ c.in-Some.piece.now ≡ joined c.args.self.pieces.now = sym (joined-push c.in-Some.pieces.now c.in-Some.piece.now) ∙ ap joined (sym c.in-Some.ensures.cases.0) ∙ c.loop-piece.invariant in
    ap (λ z. c.args.self.front.now ++ z) (ap (λ z. joined c.in-Some.pieces.now ++ z) c.deref-back.ensures ∙ last ∙ rw no_back (sym (append-nil (joined c.args.self.pieces.now))))

pub loop-piece-preserved : goal.loop-piece-preserved
loop-piece-preserved c =
    sym (joined-empty c.in-Some.pieces.now c.in-Some.piece.now (eqb-true _ _ (sym c.if-not-is_empty-2.ensures))) ∙ ap joined (sym c.in-Some.ensures.cases.0) ∙ c.loop-piece.invariant
