use Rattle.std.proofs.Common.{◌≡◌, arith, length, take}
use Rattle.std.proofs.lemmas.Grind.{common_steps}
use Rattle.sasl_scram.proofs.Encoded.{spells, spells_short, spells_decoded, spells_refused}
use Rattle.sasl_scram.proofs.encoding.decode_into.Goals as goal

pub returns-then-text-gt-MAX_SYMBOLS-clause-refused : goal.returns-then-text-gt-MAX_SYMBOLS-clause-refused
returns-then-text-gt-MAX_SYMBOLS-clause-refused c = λ bytes s.
    spells_short c.args.text.now bytes _ c.requires c.if-text-gt-MAX_SYMBOLS.true s

pub returns-in-Ok-clause-spelled : goal.returns-in-Ok-clause-spelled
returns-in-Ok-clause-spelled c =
    let same : c.copy_from_slice.new.self ≡ take c.in-Ok.size c.decode_slice_unchecked.new.output = c.copy_from_slice.ensures.after in
    spells c.args.text.now c.copy_from_slice.new.self _ (λ i. let f = c.type_inv.text i in omega arith)
    (λ i. let f = c.type_inv.out i in omega arith) c.copy_from_slice.ensures.len (rw same c.in-Ok.ensures.ok.0)

pub returns-in_default-clause-refused : goal.returns-in_default-clause-refused
returns-in_default-clause-refused c = λ bytes s.
    let same : length (take c.in-Ok.size c.decode_slice_unchecked.new.output) ≡ c.in-Ok.size = grind (arith, common_steps, c.in-Ok.ensures.ok.2, c.decode_slice_unchecked.auto.output) in
    let size = spells_decoded c.args.text.now bytes (take c.in-Ok.size c.decode_slice_unchecked.new.output) _
    (λ i. let f = c.type_inv.text i in omega arith) c.in-Ok.ensures.ok.0 s in
    c.if-size-out.false (omega arith)

pub returns-in_default-2-clause-refused : goal.returns-in_default-2-clause-refused
returns-in_default-2-clause-refused c = λ bytes s.
    spells_refused c.args.text.now bytes _ _ (λ i. let f = c.type_inv.text i in omega arith) c.in_default.ensures.err s
