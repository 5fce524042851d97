-- What the walk is told by the readers.
use Rattle.std.specs.Prelude.{◌≡◌, ℕ, ◌≤◌, List, [], ◌∷◌, length, Option, Some, None, Result, Ok, Err, true}
use Rattle.amqp_data.specs.declared.value.Value.{Value}
use Rattle.amqp_data.specs.Data.{Amqp, Pairs}
use Rattle.amqp_data.specs.Same.{distinct_keys}
use Rattle.amqp_data.specs.View.{view}
use Rattle.amqp_value.specs.Reading.{half, pairs_at, described_at, list_at, map_at, array_at, value_at}
use Rattle.amqp_faults.specs.declared.fault.Reason.{Reason}
use Rattle.amqp_faults.specs.declared.form.Layout.{Layout}
use Rattle.amqp_faults.specs.declared.form.Layout.TheVariants as l
use Rattle.amqp_faults.specs.declared.form.Form.{Form}
use Rattle.amqp_faults.specs.declared.form.Form.TheVariants as f
use Rattle.amqp_faults.specs.declared.values.Pair.{Pair}
use Rattle.amqp_faults.specs.declared.values.Pair.TheVariants as p
use Rattle.amqp_faults.specs.Forms.{size_width, element_layout}
use Rattle.amqp_faults.specs.Faults.{passed, value_past, element_past, stepped, WrongScalar, WrongElement, WrongPair}

-- what was taken of the front is what is read there
abbrev pub Sees : {X Y : Type 0} → (X → Y) → Option X → Option Y → Type 0
Sees view None read = read ≡ None
Sees view (Some x) read = read ≡ Some (view x)

-- the value that begins the bytes and those after it, or none where none begins them
abbrev pub SeesFront : {X : Type 0} → (X → List ℕ) → Option (Value × X) → ℕ → List ℕ → Type 0
SeesFront bytes_of None d bytes = value_at d bytes ≡ None
SeesFront bytes_of (Some x) d bytes = (value_at d bytes ≡ Some (view x.0, bytes_of x.1)) × (length (bytes_of x.1) ≤ length bytes)

-- the same without the value
abbrev pub SeesPast : {X : Type 0} → (X → List ℕ) → Option X → ℕ → List ℕ → Type 0
SeesPast bytes_of None d bytes = value_at d bytes ≡ None
SeesPast bytes_of (Some x) d bytes = (value_past d bytes ≡ Some (bytes_of x)) × (length (bytes_of x) ≤ length bytes)

-- the bytes of a boolean are one, those of a char four
abbrev pub IsLaid : Layout → List ℕ → Type 0
IsLaid (l.Fixed n) s = Unit {0}
IsLaid l.Boolean s = length s ≡ 1
IsLaid l.Character s = length s ≡ 4
IsLaid (l.Binary w) s = Unit {0}
IsLaid (l.String w) s = Unit {0}
IsLaid (l.Symbol w) s = Unit {0}

-- the bytes after those of a layout, or why there are none of it
abbrev pub SeesScalar : {X : Type 0} → (X → List ℕ) → Result X Reason → Layout → List ℕ → Type 0
SeesScalar bytes_of (Ok x) l bytes = (passed l bytes ≡ Some (bytes_of x)) × (length (bytes_of x) ≤ length bytes)
SeesScalar bytes_of (Err r) l bytes = WrongScalar l bytes r

-- the same of an element that is nested no deeper than the number
abbrev pub SeesElement : {X : Type 0} → (X → List ℕ) → Result X Reason → ℕ → Layout → List ℕ → Type 0
SeesElement bytes_of (Ok x) d l bytes = (element_past d l bytes ≡ Some (bytes_of x)) × (length (bytes_of x) ≤ length bytes)
SeesElement bytes_of (Err r) d l bytes = WrongElement d l bytes r

-- a key and a value stand at the front
pub record HasPair (d : ℕ) (bytes : List ℕ) (key : Amqp) (rest : List ℕ) : Type 0 where
  pub after : List ℕ
  pub value : Amqp
  pub first : value_at d bytes ≡ Some (key, after)
  pub second : value_at d after ≡ Some (value, rest)
  pub shorter : length rest ≤ length bytes

-- the key at the front and the bytes behind its value, or what is wrong with either
abbrev pub SeesPair : Pair → ℕ → List ℕ → Type 0
SeesPair (p.Read key rest) d bytes = HasPair d bytes (view key) rest.now
SeesPair (p.Wrong fault) d bytes = WrongPair d bytes fault.offset fault.reason × (fault.offset ≤ length bytes)

-- a place is within so many bytes
abbrev pub IsWithin : Option ℕ → ℕ → Type 0
IsWithin None n = Unit {0}
IsWithin (Some o) n = o ≤ n

-- so many parts do not fill the bytes
abbrev pub Unfilled : (List ℕ → Option (List ℕ)) → ℕ → List ℕ → Type 0
Unfilled step n parts = stepped step n parts ≡ Some [] → ⊥

-- nothing is read behind a constructor
abbrev pub NoneBehind : ℕ → Form → List ℕ → Type 0
NoneBehind d f.Described rest = described_at (value_at d) rest ≡ None
NoneBehind d f.EmptyList rest = ⊥
NoneBehind d (f.List w) rest = list_at (value_at d) (size_width w) rest ≡ None
NoneBehind d (f.Map w) rest = map_at (value_at d) (size_width w) rest ≡ None
NoneBehind d (f.Array w) rest = array_at d (size_width w) rest ≡ None
NoneBehind d (f.Scalar l) rest = passed l rest ≡ None

-- so many keys and values do not fill the bytes, or a key comes twice
abbrev pub NoPairs : ℕ → ℕ → List ℕ → Type 0
NoPairs d m parts = (ps : Pairs) → pairs_at (value_at d) m parts ≡ Some (ps, []) → distinct_keys ps ≡ true → ⊥

-- nothing is read of so many parts
abbrev pub NoneIn : ℕ → Form → ℕ → List ℕ → Type 0
NoneIn d f.Described n parts = ⊥
NoneIn d f.EmptyList n parts = ⊥
NoneIn d (f.List w) n parts = Unfilled (value_past d) n parts
NoneIn d (f.Map w) n parts = (m : ℕ) → half n ≡ Some m → NoPairs d m parts
NoneIn d (f.Array w) n parts = (b : ℕ) (l : Layout) (rest : List ℕ) → parts ≡ b ∷ rest → element_layout b ≡ Some l → Unfilled (element_past d l) n rest
NoneIn d (f.Scalar l) n parts = ⊥
