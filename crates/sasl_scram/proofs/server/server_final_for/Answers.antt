use Rattle.std.proofs.Common.{◌≡◌, List, ℕ, true, false, take, ap, sym, ◌∙◌, subst}
use Rattle.std.proofs.lemmas.Cmp.{nat_list_eq_equiv}
use Rattle.sasl_scram.specs.Texts.{IsClientFinal}
use Rattle.sasl_scram.proofs.server.server_final_for.Goals as goal

pub returns-in_default-clause-err : goal.returns-in_default-clause-err
returns-in_default-clause-err g c = λ f n p h.
    let P : List ℕ → Type 0 = λ t. IsClientFinal t c.args.text.now f n p in
    c.in_default.ensures.missing f n p (subst P (sym (c.split_at.ensures.front ∙ ap (λ t. take 3 t) c.as_slice.ensures)) h)

pub returns-then-ne-clause-err : goal.returns-then-ne-clause-err
returns-then-ne-clause-err g c =
    let P : List ℕ → Type 0 = λ t. IsClientFinal t c.args.text.now c.in-Some.parts.bare.now c.in-Some.parts.nonce.now c.in-Some.parts.proof.now in (
      c.in-Some.parts.bare.now,
      c.in-Some.parts.nonce.now,
      c.in-Some.parts.proof.now,
      subst P (c.split_at.ensures.front ∙ ap (λ t. take 3 t) c.as_slice.ensures) c.in-Some.ensures.found,
      λ same.
          let t : true ≡ false = rw (same, c.as_slice-2.ensures, nat_list_eq_equiv.refl c.args.challenge.now.nonce) at c.if-ne.ensures in cc,
    )
