use Rattle.std.proofs.Common.{◌≡◌, ◌-◌, arith}
use Rattle.kdf_core.proofs.Rounds.{round_first, round_next, front_of}
use Rattle.kdf_core.proofs.derivation.block_into.Goals as goal

pub rounds-init : goal.rounds-init
rounds-init g c = λ key h. round_first _ _ _ (c.first_of-last.ensures key h)

pub rounds-preserved : goal.rounds-preserved
rounds-preserved g c = λ key h.
    round_next _ _ _ _ _ _ _ (c.rounds.invariant key h) (c.round_into.ensures.last key h) c.round_into.ensures.total

pub returns : goal.returns
returns g c = λ key h.
    let all : c.rounds.round ≡ c.args.rounds - 1 = omega arith in
    front_of _ _ _ _ _ c.requires.size (rw all at (c.rounds.invariant key h).1) c.copy_from_slice.ensures.after
