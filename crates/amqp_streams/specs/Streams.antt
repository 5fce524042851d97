-- What a source gave, and what a sink took.
use Rattle.std.specs.Prelude.{◌≤◌, ◌<◌, ◌↔◌, List, ℕ, length, take, Option}
use Rattle.list_laws.specs.Told.{Loses, Gains, IsEmptyIfTold}

-- a source was read to its end, and gave this script
pub record ReadsScript (left left' : Option (List ℕ)) (script : List ℕ) : Type 0 where
  pub gave : Loses left left' script
  pub ended : IsEmptyIfTold left'

-- a source gave bytes: more than the limit exactly where it was too long
pub record ReadsUpTo (limit : ℕ) (left left' : Option (List ℕ)) (too_long : Type 0) : Type 0 where
  pub bytes : List ℕ
  pub gave : Loses left left' bytes
  pub exact : too_long ↔ (limit < length bytes)

-- a front of a text was written
pub record WritesFront (text : List ℕ) (written written' : Option (List ℕ)) : Type 0 where
  pub count : ℕ
  pub within : count ≤ length text
  pub wrote : Gains written written' (take count text)
