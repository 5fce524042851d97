-- Spellings that are told without the value: as spellings of values are, but that a key of a map may come twice (OASIS AMQP 1.0,
-- part 1, sections 1.2 and 1.6).
use Rattle.std.specs.Prelude.{◌≡◌, ℕ, suc, ◌*◌, ◌<◌, ◌≤◌, List, [], ◌∷◌, ◌++◌, length, take, Some, Result, Ok, Err}
use Rattle.amqp_data.specs.declared.kind.ElementKind.{ElementKind}
use Rattle.amqp_data.specs.Data.{Scalar, Amqp, Items, count, depth, items_depth}
use Rattle.amqp_value.specs.declared.code.SizeWidth.{SizeWidth}
use Rattle.amqp_value.specs.declared.code.ScalarCode.{ScalarCode}
use Rattle.amqp_value.specs.declared.error.ValueError.{ValueError}
use Rattle.amqp_value.specs.declared.error.ValueError.TheVariants as errors
use Rattle.amqp_value.specs.Code.{limit, block, content, scalar_number, list_number, map_number, array_number, code_kind}
use Rattle.amqp_value.specs.Grammar.{Lays, LaysAll, Spells}

mutual
  -- the bytes spell a value that nests within so many levels, but that keys of maps may come twice
  pub data IsSpelling : ℕ → List ℕ → Type 0 where
    of_scalar : (d : ℕ) (c : ScalarCode) (text : List ℕ) (s : Scalar) → Lays c text s → IsSpelling (suc d) (scalar_number c ∷ text)
    of_empty_list : (d : ℕ) → IsSpelling (suc d) (0x45 ∷ [])
    of_list : (d : ℕ) (w : SizeWidth) (n : ℕ) (items : List ℕ) → AreSpellings d n items → n < limit w → length (content w n items) < limit w
        → IsSpelling (suc d) (list_number w ∷ block w (content w n items))
    of_map : (d : ℕ) (w : SizeWidth) (n : ℕ) (items : List ℕ) → AreSpellings d (2 * n) items → 2 * n < limit w → length (content w (2 * n) items) < limit w
        → IsSpelling (suc d) (map_number w ∷ block w (content w (2 * n) items))
    of_array : (d : ℕ) (w : SizeWidth) (k : ElementKind) (c : ScalarCode) (vs : Items) (elements : List ℕ) → code_kind c ≡ Some k → LaysAll c elements vs → items_depth vs ≤ d
        → count vs < limit w → length (content w (count vs) (scalar_number c ∷ elements)) < limit w
        → IsSpelling (suc d) (array_number w ∷ block w (content w (count vs) (scalar_number c ∷ elements)))
    of_described : (d : ℕ) (descriptor value : List ℕ) → IsSpelling d descriptor → IsSpelling d value → IsSpelling (suc d) (0 ∷ (descriptor ++ value))

  -- so many of them, one after another
  pub data AreSpellings : ℕ → ℕ → List ℕ → Type 0 where
    no_more : (d : ℕ) → AreSpellings d 0 []
    one_more : (d n : ℕ) (text rest : List ℕ) → IsSpelling d text → AreSpellings d n rest → AreSpellings d (suc n) (text ++ rest)

-- so many bytes at the front are such a spelling
pub record Fronts (d : ℕ) (bytes : List ℕ) (used : ℕ) : Type 0 where
  pub within : used ≤ length bytes
  pub spelling : IsSpelling d (take used bytes)

-- so many bytes at the front are so many of them
pub record FrontsAll (d n : ℕ) (bytes : List ℕ) (used : ℕ) : Type 0 where
  pub within : used ≤ length bytes
  pub spellings : AreSpellings d n (take used bytes)

-- The one length of which this holds was returned; it is refused exactly where it holds of none, and for nothing else.
abbrev pub IsTheLength : Result ℕ ValueError → (ℕ → Type 0) → Type 0
IsTheLength (Ok used) Holds = Holds used × ((other : ℕ) → Holds other → used ≡ other)
IsTheLength (Err errors.Decode) Holds = (other : ℕ) → Holds other → ⊥
IsTheLength (Err (errors.Memory a)) Holds = ⊥
IsTheLength (Err errors.Depth) Holds = ⊥
IsTheLength (Err errors.Size) Holds = ⊥
IsTheLength (Err errors.Short) Holds = ⊥

-- where a spelling of a value begins the bytes, nested no deeper than the number, its length was returned
abbrev pub PassesValues : Result ℕ ValueError → ℕ → List ℕ → Type 0
PassesValues r d bytes = (text rest : List ℕ) (v : Amqp) → bytes ≡ text ++ rest → Spells text v → depth v ≤ d → r ≡ Ok (length text)
