use Rattle.std.proofs.Common.{◌≡◌, ◌*◌, length, arith}
use Rattle.std.specs.Int.{div_ceil}
use Rattle.std.proofs.lemmas.Grind.{common_steps}
use Rattle.kdf_core.proofs.Rounds.{block_next, blocks_needed, key_whole}
use Rattle.kdf_core.proofs.derivation.blocks_into.Goals as goal

pub pieces-preserved : goal.pieces-preserved
pieces-preserved g c = record {
  inside = grind (arith, common_steps, c.min-size.ensures);
  whole = grind (arith, common_steps, c.min-size.ensures);
  enough = grind (arith, common_steps, c.min-size.ensures);
  few = grind (arith, common_steps, c.min-size.ensures);
  same = λ key h.
      let at : c.pieces.done ≡ c.pieces.index * g.P.Prf.OUTPUT = grind (arith, c.pieces.invariant.whole, c.pieces-test.true, c.pieces.auto.out) in
      block_next _ _ _ _ _ c.pieces.done _ _ _ _ _ (g.met.P.Prf.mac_length key) at (omega arith) c.pieces.invariant.inside
      c.block_into.auto.out (grind (arith, common_steps, c.min-size.ensures))
      (c.pieces.invariant.same key h) (c.block_into.ensures key h);
}

pub returns : goal.returns
returns g c = λ key h.
    let at : c.pieces.done ≡ length c.args.out.now = omega arith in
    let count : c.pieces.index ≡ div_ceil (length c.args.out.now) g.P.Prf.OUTPUT =
    blocks_needed _ _ _ g.met.P.Prf.output_low (omega arith) (omega arith) in
    key_whole _ _ _ _ _ _ _ _ at c.pieces.auto.out count (c.pieces.invariant.same key h)
