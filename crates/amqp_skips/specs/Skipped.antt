-- What is left behind a spelling, as the walk finds it.
use Rattle.std.specs.Prelude.{ℕ, zero, suc, List, [], ◌∷◌, Option, Some, None, option_map}
use Rattle.amqp_value.specs.Code.{find_code}
use Rattle.amqp_value.specs.Reading.{◌>>=◌, size_at, block_at, only, half}
use Rattle.amqp_faults.specs.declared.form.Width.{Width}
use Rattle.amqp_faults.specs.declared.form.Form.{Form}
use Rattle.amqp_faults.specs.declared.form.Form.TheVariants as f
use Rattle.amqp_faults.specs.Forms.{size_width, form_of, element_layout}
use Rattle.amqp_faults.specs.Faults.{passed, element_past, stepped}

-- so many elements behind their constructor
abbrev pub elements_past : ℕ → ℕ → List ℕ → Option (List ℕ)
elements_past d n [] = None
elements_past d n (b ∷ rest) = element_layout b >>= λ l. stepped (element_past d l) n rest

-- so many keys and values in turn
abbrev pub pairs_past : (List ℕ → Option (List ℕ)) → ℕ → List ℕ → Option (List ℕ)
pairs_past inner n parts = half n >>= λ m. stepped inner n parts

-- a descriptor and a value
abbrev pub described_past : (List ℕ → Option (List ℕ)) → List ℕ → Option (List ℕ)
described_past inner bytes = inner bytes >>= inner

-- so many parts of a compound
abbrev pub parts_past : (List ℕ → Option (List ℕ)) → ℕ → Form → ℕ → List ℕ → Option (List ℕ)
parts_past inner d f.Described n parts = None
parts_past inner d f.EmptyList n parts = None
parts_past inner d (f.List w) n parts = stepped inner n parts
parts_past inner d (f.Map w) n parts = pairs_past inner n parts
parts_past inner d (f.Array w) n parts = elements_past d n parts
parts_past inner d (f.Scalar l) n parts = None

-- a size, a count, and what that many parts leave of the block, which is nothing
abbrev pub block_past : (List ℕ → Option (List ℕ)) → ℕ → Form → Width → List ℕ → Option (List ℕ)
block_past inner d form w bytes = do
  s ← block_at (size_width w) bytes
  n ← size_at (size_width w) s.0
  left ← parts_past inner d form n.0 n.1
  only (s.1, left)

-- what stands behind a constructor
abbrev pub form_past : (List ℕ → Option (List ℕ)) → ℕ → Form → List ℕ → Option (List ℕ)
form_past inner d f.Described bytes = described_past inner bytes
form_past inner d f.EmptyList bytes = Some bytes
form_past inner d (f.List w) bytes = block_past inner d (f.List w) w bytes
form_past inner d (f.Map w) bytes = block_past inner d (f.Map w) w bytes
form_past inner d (f.Array w) bytes = block_past inner d (f.Array w) w bytes
form_past inner d (f.Scalar l) bytes = passed l bytes

-- the bytes behind a spelling that nests within so many levels
unfoldable pub skipped : ℕ → List ℕ → Option (List ℕ)
skipped zero bytes = None
skipped (suc d) [] = None
skipped (suc d) (b ∷ bytes) = option_map form_of (find_code b) >>= λ form. form_past (skipped d) d form bytes
