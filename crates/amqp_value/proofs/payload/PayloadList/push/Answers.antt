use Rattle.std.proofs.Common.{◌≡◌, ℕ, List, [], ◌∷◌, ◌++◌, ◌<◌, ap, sym, ◌∙◌, arith, length, length-append}
use Rattle.std.proofs.lemmas.Bool.{eqb-false}
use Rattle.std.proofs.lemmas.List.Elements.{All-push, All-same}
use Rattle.std.specs.Prelude.{is_ok}
use Rattle.amqp_value.specs.Pieces.{joined}
use Rattle.amqp_value.proofs.Joined.{joined-push, pushed}
use Rattle.amqp_value.proofs.payload.PayloadList.push.Goals as goal

-- the pieces after the push
grown : (c : goal.After-self-1) → c.push.new.self.items ≡ c.self.inside.pieces.items ++ c.args.piece ∷ []
grown c = pushed _ _ _ _ (sym c.map_err.ensures.variant ∙ ap is_ok c.in_ok-map_err.was) c.push.ensures.items

-- their bytes
bytes : (c : goal.After-self-1) → joined c.push.new.self.items ≡ joined c.self.inside.pieces.items ++ c.args.piece
bytes c = ap joined (grown c) ∙ joined-push c.self.inside.pieces.items c.args.piece

-- the piece has bytes
some : (c : goal.After-self-1) → 0 < length c.args.piece
some c = let none = eqb-false _ _ (sym c.is_empty.ensures ∙ c.if-is_empty.false) in omega arith

pub invariant_of-self-2 : goal.invariant_of-self-2
invariant_of-self-2 c = (
  rw (bytes c, length-append) (omega (arith, c.self.invariant.0)),
  All-same (λ (p : List ℕ). 0 < length p) _ _ (grown c) (All-push (λ (p : List ℕ). 0 < length p) c.self.inside.pieces.items c.args.piece c.self.invariant.1 (some c)),
)

pub returns-clause-bytes : goal.returns-clause-bytes
returns-clause-bytes c = bytes c ∙ ap (λ z. joined z ++ c.args.piece) c.self.view_is
