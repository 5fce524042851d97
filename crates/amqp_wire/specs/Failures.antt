-- Calls that are to fail, by their numbers.
use Rattle.std.specs.Prelude.{ℕ, List, Bool, true, false, ◌==◌, ◌+◌, ◌-◌, ◌^◌, min}
use Rattle.std.specs.List.{list_any}

-- the numbers of the calls that fail, the calls so far, and how many of them failed
pub record Failures : Type 0 where
  pub failing : List ℕ
  pub calls : ℕ
  pub faults : ℕ

-- the number of the next call is listed
abbrev pub fails_next : Failures → Bool
fails_next f = list_any (λ n. n == f.calls) f.failing

-- one more, up to the last value of a u64
abbrev pub one_more : ℕ → ℕ
one_more n = min (n + 1) (2 ^ 64 - 1)

-- after a call that failed, or one that did not
abbrev pub after_call : Bool → Failures → Failures
after_call true f = record f { calls = one_more f.calls; faults = one_more f.faults }
after_call false f = record f { calls = one_more f.calls }
