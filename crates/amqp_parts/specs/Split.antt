-- How a delivery is split over frames (OASIS AMQP 1.0, part 2, sections 2.3.1 and 2.6.14).
use Rattle.std.specs.Prelude.{◌≡◌, ℕ, ◌+◌, ◌<◌, ◌≤◌, true, false, List, [], ◌∷◌, ◌++◌, take, drop, length, None}
use Rattle.amqp_data.specs.Data.{Amqp}
use Rattle.amqp_described.specs.amqp_value.Canonical.{canonical}
use Rattle.amqp_composites.specs.declared.kind.CompositeKind.TheVariants as kind
use Rattle.amqp_composites.specs.Described.{composite}
use Rattle.amqp_described.specs.Writing.{Fits}
use Rattle.amqp_performatives.specs.declared.transfer.Transfer.{Transfer}
use Rattle.amqp_performatives.specs.Transfer.{transfer_fields}
use Rattle.amqp_parts.specs.declared.part.Part.{Part}

-- the fields of a Transfer, as they are written
abbrev pub fields_of : Transfer → Amqp
fields_of x = composite kind.Transfer (transfer_fields x)

-- a frame of that size has room for the Transfer and so many bytes behind it: its header has eight (section 2.3.1)
pub record HasRoom (frame : ℕ) (x : Transfer) (count : ℕ) : Type 0 where
  pub fits : Fits 34 (fields_of x)
  pub within : 8 + length (canonical (fields_of x)) + count ≤ frame

-- they fill it
pub record Fills (frame : ℕ) (x : Transfer) (count : ℕ) : Type 0 where
  pub fits : Fits 34 (fields_of x)
  pub full : 8 + length (canonical (fields_of x)) + count ≡ frame

abbrev pub saying_more : Transfer → Transfer
saying_more x = record x { more = true }

abbrev pub saying_last : Transfer → Transfer
saying_last x = record x { more = false }

-- what goes on with a delivery names the link and nothing else
abbrev pub continuation : ℕ → Transfer
continuation handle = record { handle = handle; delivery_id = None; delivery_tag = None; message_format = None; settled = None; more = false; rcv_settle_mode = None; state = None; resume = false; aborted = false; batchable = false }

abbrev pub last_part : Transfer → List ℕ → Part
last_part x payload = record { transfer = saying_last x; payload = payload }

-- The parts of what is left of a delivery, whose next frame says x. What fits in one frame is the last part; else a part that says
-- that there is more fills its frame; where no byte would fit, and some be left, all of it is the last part.
pub data IsSplit (frame : ℕ) : Transfer → List ℕ → List Part → Type 0 where
  whole : (x : Transfer) (payload : List ℕ) → HasRoom frame (saying_last x) (length payload) → IsSplit frame x payload (last_part x payload ∷ [])
  parted : (x : Transfer) (payload : List ℕ) (n : ℕ) (rest : List Part) → (HasRoom frame (saying_last x) (length payload) → ⊥)
      → 0 < n → n < length payload → Fills frame (saying_more x) n → IsSplit frame (continuation x.handle) (drop n payload) rest
      → IsSplit frame x payload (record { transfer = saying_more x; payload = take n payload } ∷ rest)
  stuck : (x : Transfer) (payload : List ℕ) → (HasRoom frame (saying_last x) (length payload) → ⊥)
      → ((n : ℕ) → 0 < n → n < length payload → Fills frame (saying_more x) n → ⊥) → IsSplit frame x payload (last_part x payload ∷ [])

-- the bytes of all parts
abbrev pub bytes_of : List Part → List ℕ
bytes_of [] = []
bytes_of (p ∷ ps) = p.payload ++ bytes_of ps
