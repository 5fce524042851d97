use Rattle.std.proofs.Common.{◌≡◌, ℕ, ◌≤◌, List, ◌++◌, length, take}

-- the first bytes of old stand in out, and the others are left
pub record IsFilled (old out left : List ℕ) (filled : ℕ) : Type 0 where
  pub same : old ≡ take filled out ++ left
  pub within : filled ≤ length out
  pub enough : length out ≤ length old
