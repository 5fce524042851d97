use Rattle.std.proofs.Common.{◌≡◌, ℕ, [], List, take, bit_xor, ap, ◌∙◌, subst}
use Rattle.std.proofs.lemmas.List.{take-map}
use Rattle.kdf_core.specs.Hmac.{xor_byte}
use Rattle.kdf_core.proofs.hmac.started.Goals as goal

pub returns : goal.returns
returns g c =
    let P : List ℕ → Type 0 = λ m. g.D.HashFn.holds c.update.new.self m in
    let whole : take g.D.HashFn.BLOCK c.xored-pad.result ≡ xor_byte c.args.byte (take g.D.HashFn.BLOCK c.args.block.now) =
    ap (λ xs. take g.D.HashFn.BLOCK xs) c.xored-pad.ensures
    ∙ take-map (λ x. bit_xor x c.args.byte) g.D.HashFn.BLOCK c.args.block.now in
    subst P whole (rw c.BLOCK.ensures at (c.update.ensures [] c.new-hasher.ensures))
