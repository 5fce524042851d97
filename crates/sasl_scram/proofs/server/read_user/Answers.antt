use Rattle.std.proofs.Common.{◌≡◌, ◌<◌, false, true, List, ℕ, length, sym, ◌∙◌, subst, arith}
use Rattle.std.proofs.lemmas.Bool.{eqb-true, eqb-false}
use Rattle.std.specs.Prelude.{IsUtf8}
use Rattle.sasl_scram.specs.Profile.{IsAllowedUser}
use Rattle.sasl_scram.specs.Texts.{escaped_of}
use Rattle.sasl_scram.proofs.Readers.{empty_name, some_user, IsUtf8-allowed}
use Rattle.sasl_scram.proofs.server.read_user.Goals as goal
use Rattle.sasl_scram.proofs.server.read_user.Goals.{in_default-from_utf8-via-in-Ok+else-is_allowed_user, in_default-from_utf8-via-in_default-from_utf8}

pub returns-then-is_empty-clause-err : goal.returns-then-is_empty-clause-err
returns-then-is_empty-clause-err c = λ user name.
    empty_name c.args.name.now user (eqb-true (length c.args.name.now) 0 (sym c.is_empty.ensures ∙ c.if-is_empty.true)) name

pub returns-clause-err : goal.returns-clause-err
returns-clause-err c =
    let some : 0 < length c.args.name.now = omega (arith, eqb-false (length c.args.name.now) 0 (sym c.is_empty.ensures ∙ c.if-is_empty.false)) in
    let written : c.args.name.now ≡ escaped_of c.in-Some.user.items = rw c.in-Some.is at c.in_ok-user.ensures in
    let P : List ℕ → Type 0 = λ t. IsAllowedUser t in
    let U : List ℕ → Type 0 = λ t. IsUtf8 t in (
      c.in-Some.user.items,
      (some_user c.args.name.now c.in-Some.user.items some written, written),
      λ a. elim c.in_default-from_utf8.branch as (λ _. ⊥) [
        | in_default-from_utf8-via-in-Ok+else-is_allowed_user w ↦
            let same : c.in-Some.user.items ≡ w.as_bytes.result.now = sym c.deref.ensures.value ∙ (sym w.in-Ok.ensures.cases.0 ∙ sym w.as_bytes.ensures.value) in
            let t : false ≡ true = sym w.if-is_allowed_user.false ∙ w.is_allowed_user.ensures.1 (subst P same a) in cc
        | in_default-from_utf8-via-in_default-from_utf8 w ↦
            w.in_default-from_utf8.ensures.cases.0 (subst U (sym c.deref.ensures.value) (IsUtf8-allowed c.in-Some.user.items a))
      ],
    )
