use Rattle.std.proofs.Common.{◌≡◌, ℕ, ◌<◌, ◌^◌, Ok, sym, ◌∙◌, arith, subst, List, ap}
use Rattle.std.specs.Result.{result_ok}
use Rattle.std.specs.Prelude.{IsUtf8}
use Rattle.std.proofs.lemmas.Fmt.{parse-decimal, IsAscii-decimal}
use Rattle.std.proofs.lemmas.Str.{IsUtf8-from_ascii}
use Rattle.sasl_scram.proofs.count.number_of.Goals as goal

pub returns-in-Ok : goal.returns-in-Ok
returns-in-Ok c = λ n small e.
    let wide : n < 2 ^ 64 = omega arith in
    let read : c.parse.result ≡ Ok n = parse-decimal 32 n c.in-Ok.text.now c.parse.result small wide (c.in-Ok.ensures.cases.0 ∙ e) c.parse.ensures.value.0 in
    c.ok.ensures.value ∙ ap (λ r. result_ok r) read

pub returns-in-Err : goal.returns-in-Err
returns-in-Err c = λ n small e.
    let wide : n < 2 ^ 64 = omega arith in
    let P : List ℕ → Type 0 = λ bs. IsUtf8 bs in
    absurd (c.in-Err.ensures.cases.0 (subst P (sym e) (IsUtf8-from_ascii _ (IsAscii-decimal n wide))))
