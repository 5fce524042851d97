-- Where no value begins bytes, and why (OASIS AMQP 1.0, part 1, sections 1.2 and 1.6).
use Rattle.std.specs.Prelude.{◌≡◌, ℕ, zero, suc, ◌+◌, ◌-◌, ◌*◌, ◌<◌, List, [], ◌∷◌, length, slice_index, Option, Some, None, option_map, Bool, true, false, nat_lt, if◌then◌else◌}
use Rattle.std.specs.Str.{is_utf8}
use Rattle.std.specs.Int.{w32, from_be_bytes}
use Rattle.std.specs.List.{list_any}
use lib.Utf8.{scalar as is_scalar}
use Rattle.amqp_data.specs.Data.{Amqp, Items, Pairs, no_pairs, pair}
use Rattle.amqp_data.specs.Same.{same}
use Rattle.amqp_value.specs.Code.{find_code}
use Rattle.amqp_value.specs.Reading.{◌>>=◌, Parse, bytes_at, size_at, block_at, pairs_at, value_at, is_ascii, half}
use Rattle.amqp_faults.specs.declared.fault.Reason.{Reason}
use Rattle.amqp_faults.specs.declared.fault.Reason.TheVariants.{CutShort, KeyTwice, TooDeep, Sizes}
use Rattle.amqp_faults.specs.declared.form.Width.{Width}
use Rattle.amqp_faults.specs.declared.form.Layout.{Layout}
use Rattle.amqp_faults.specs.declared.form.Layout.TheVariants as l
use Rattle.amqp_faults.specs.declared.form.Form.{Form}
use Rattle.amqp_faults.specs.declared.form.Form.TheVariants as f
use Rattle.amqp_faults.specs.Forms.{size_width, octets_of, form_of, element_layout, reason_of_code, unlike}

-- ---- values that hold no other

-- the bytes behind the constructor: so many, or as many as a size says (sections 1.2.1 and 1.2.2)
abbrev pub laid_at : Layout → Parse (List ℕ)
laid_at (l.Fixed n) bytes = bytes_at n bytes
laid_at l.Boolean bytes = bytes_at 1 bytes
laid_at l.Character bytes = bytes_at 4 bytes
laid_at (l.Binary w) bytes = block_at (size_width w) bytes
laid_at (l.String w) bytes = block_at (size_width w) bytes
laid_at (l.Symbol w) bytes = block_at (size_width w) bytes

-- whether those bytes are what the layout is to hold
abbrev pub is_like : Layout → List ℕ → Bool
is_like (l.Fixed n) s = true
is_like l.Boolean s = nat_lt (slice_index s 0) 2
is_like l.Character s = is_scalar (from_be_bytes w32 s)
is_like (l.Binary w) s = true
is_like (l.String w) s = is_utf8 s
is_like (l.Symbol w) s = is_ascii s

-- the bytes behind what the layout holds
abbrev pub passed : Layout → List ℕ → Option (List ℕ)
passed l bytes = laid_at l bytes >>= λ x. if is_like l x.0 then Some x.1 else None

-- what is wrong behind the constructor: the bytes end too early, or are not what the layout is to hold
pub data WrongScalar : Layout → List ℕ → Reason → Type 0 where
  ends' : (l : Layout) (bytes : List ℕ) → laid_at l bytes ≡ None → WrongScalar l bytes CutShort
  unlike' : (l : Layout) (bytes s rest : List ℕ) → laid_at l bytes ≡ Some (s, rest) → is_like l s ≡ false → WrongScalar l bytes (unlike l)

-- ---- parts one after another

-- the bytes behind a value
abbrev pub past : {A : Type 0} → Option (A × List ℕ) → Option (List ℕ)
past (Some x) = Some x.1
past None = None

abbrev pub value_past : ℕ → List ℕ → Option (List ℕ)
value_past d bytes = past (value_at d bytes)

-- the bytes behind an element that is nested no deeper than the number
abbrev pub element_past : ℕ → Layout → List ℕ → Option (List ℕ)
element_past zero l bytes = None
element_past (suc d) l bytes = passed l bytes

-- the bytes behind so many parts
abbrev pub stepped : (List ℕ → Option (List ℕ)) → ℕ → List ℕ → Option (List ℕ)
stepped step zero bytes = Some bytes
stepped step (suc n) bytes = stepped step n bytes >>= step

-- so many bytes of the first stand before the second
abbrev pub before : List ℕ → List ℕ → ℕ
before whole rest = length whole - length rest

-- the keys, in order
abbrev pub keys_of : Pairs → List Amqp
keys_of no_pairs = []
keys_of (pair k v ps) = k ∷ keys_of ps

-- ---- compounds

-- how many octets the size and the count of a compound take
abbrev pub width_in : Form → Option Width
width_in f.Described = None
width_in f.EmptyList = None
width_in (f.List w) = Some w
width_in (f.Map w) = Some w
width_in (f.Array w) = Some w
width_in (f.Scalar l) = None

-- what stands in a block ends with it: where its bytes end too early, the size does not agree with what it holds
abbrev pub within_block : Reason → Reason
within_block CutShort = Sizes
within_block r = r

-- an element is nested too deep, or wrong
pub data WrongElement : ℕ → Layout → List ℕ → Reason → Type 0 where
  too_deep : (l : Layout) (bytes : List ℕ) → WrongElement zero l bytes TooDeep
  scalar' : (d : ℕ) (l : Layout) (bytes : List ℕ) (r : Reason) → WrongScalar l bytes r → WrongElement (suc d) l bytes r

-- So many elements are to fill the bytes: at so many bytes is the first that is wrong; or more bytes are left, which is wrong at
-- the array itself.
pub data WrongElements : ℕ → Layout → ℕ → List ℕ → Option ℕ → Reason → Type 0 where
  in_element : (d : ℕ) (l : Layout) (n k : ℕ) (elements left : List ℕ) (r : Reason) → k < n → stepped (element_past d l) k elements ≡ Some left → WrongElement d l left r → WrongElements d l n elements (Some (before elements left)) (within_block r)
  more_elements : (d : ℕ) (l : Layout) (n : ℕ) (elements left : List ℕ) → stepped (element_past d l) n elements ≡ Some left → 0 < length left → WrongElements d l n elements None Sizes

-- the place of a fault behind a count: the compound itself, or so many bytes behind its count
abbrev pub placed : Width → Option ℕ → ℕ
placed w None = 0
placed w (Some o) = 1 + 2 * octets_of w + o

mutual
  -- The value that is to begin the bytes and to be nested no deeper than the number: at so many bytes is its innermost part that is
  -- wrong, for that reason.
  pub data Wrong : ℕ → List ℕ → ℕ → Reason → Type 0 where
    too_deep' : (bytes : List ℕ) → Wrong zero bytes 0 TooDeep
    no_bytes : (d : ℕ) → Wrong (suc d) [] 0 CutShort
    no_code : (d b : ℕ) (rest : List ℕ) → find_code b ≡ None → Wrong (suc d) (b ∷ rest) 0 (reason_of_code b)
    behind' : (d b : ℕ) (rest : List ℕ) (f : Form) (o : ℕ) (r : Reason) → option_map form_of (find_code b) ≡ Some f → WrongBehind d f rest o r → Wrong (suc d) (b ∷ rest) o r

  -- the same of what stands behind a constructor, at so many bytes from the constructor on
  pub data WrongBehind : ℕ → Form → List ℕ → ℕ → Reason → Type 0 where
    in_scalar : (d : ℕ) (l : Layout) (rest : List ℕ) (r : Reason) → WrongScalar l rest r → WrongBehind d (f.Scalar l) rest 0 r
    in_descriptor : (d : ℕ) (rest : List ℕ) (o : ℕ) (r : Reason) → Wrong d rest o r → WrongBehind d f.Described rest (1 + o) r
    in_described : (d : ℕ) (rest after : List ℕ) (o : ℕ) (r : Reason) → value_past d rest ≡ Some after → Wrong d after o r → WrongBehind d f.Described rest (1 + before rest after + o) r
    cut_block : (d : ℕ) (f : Form) (w : Width) (rest : List ℕ) → width_in f ≡ Some w → block_at (size_width w) rest ≡ None → WrongBehind d f rest 0 CutShort
    no_count : (d : ℕ) (f : Form) (w : Width) (rest content after : List ℕ) → width_in f ≡ Some w → block_at (size_width w) rest ≡ Some (content, after) → size_at (size_width w) content ≡ None → WrongBehind d f rest 0 Sizes
    in_content : (d : ℕ) (f : Form) (w : Width) (rest content after parts : List ℕ) (n : ℕ) (o : Option ℕ) (r : Reason) → width_in f ≡ Some w → block_at (size_width w) rest ≡ Some (content, after) → size_at (size_width w) content ≡ Some (n, parts)
        → WrongParts d f n parts o r → WrongBehind d f rest (placed w o) r

  -- the same of so many parts that are to fill a block: at the compound itself, or at so many bytes from the first part on
  pub data WrongParts : ℕ → Form → ℕ → List ℕ → Option ℕ → Reason → Type 0 where
    in_value : (d : ℕ) (w : Width) (n k : ℕ) (parts left : List ℕ) (o : ℕ) (r : Reason) → k < n → stepped (value_past d) k parts ≡ Some left → Wrong d left o r → WrongParts d (f.List w) n parts (Some (before parts left + o)) (within_block r)
    more_values : (d : ℕ) (w : Width) (n : ℕ) (parts left : List ℕ) → stepped (value_past d) n parts ≡ Some left → 0 < length left → WrongParts d (f.List w) n parts None Sizes
    odd_count : (d : ℕ) (w : Width) (n : ℕ) (parts : List ℕ) → half n ≡ None → WrongParts d (f.Map w) n parts None Sizes
    in_pairs : (d : ℕ) (w : Width) (n m : ℕ) (parts : List ℕ) (o : Option ℕ) (r : Reason) → half n ≡ Some m → WrongPairs d m parts o r → WrongParts d (f.Map w) n parts o r
    no_element_code : (d : ℕ) (w : Width) (n : ℕ) → WrongParts d (f.Array w) n [] None Sizes
    no_element : (d : ℕ) (w : Width) (n b : ℕ) (rest : List ℕ) → element_layout b ≡ None → WrongParts d (f.Array w) n (b ∷ rest) (Some 0) (reason_of_code b)
    in_elements : (d : ℕ) (w : Width) (n b : ℕ) (l : Layout) (rest : List ℕ) (o : Option ℕ) (r : Reason) → element_layout b ≡ Some l → WrongElements d l n rest o r → WrongParts d (f.Array w) n (b ∷ rest) (option_map suc o) r

  -- the same of so many keys and values in turn
  pub data WrongPairs : ℕ → ℕ → List ℕ → Option ℕ → Reason → Type 0 where
    in_pair : (d m k : ℕ) (parts left : List ℕ) (ps : Pairs) (o : ℕ) (r : Reason) → k < m → pairs_at (value_at d) k parts ≡ Some (ps, left) → WrongPair d left o r → WrongPairs d m parts (Some (before parts left + o)) (within_block r)
    key_twice : (d m k : ℕ) (parts left after : List ℕ) (ps : Pairs) (key : Amqp) → k < m → pairs_at (value_at d) k parts ≡ Some (ps, left) → value_at d left ≡ Some (key, after) → list_any (same key) (keys_of ps) ≡ true
        → WrongPairs d m parts (Some (before parts left)) KeyTwice
    more_pairs : (d m : ℕ) (parts left : List ℕ) (ps : Pairs) → pairs_at (value_at d) m parts ≡ Some (ps, left) → 0 < length left → WrongPairs d m parts None Sizes

  -- the same of one key and its value
  pub data WrongPair : ℕ → List ℕ → ℕ → Reason → Type 0 where
    in_key : (d : ℕ) (bytes : List ℕ) (o : ℕ) (r : Reason) → Wrong d bytes o r → WrongPair d bytes o r
    in_its_value : (d : ℕ) (bytes after : List ℕ) (o : ℕ) (r : Reason) → value_past d bytes ≡ Some after → Wrong d after o r → WrongPair d bytes (before bytes after + o) r
