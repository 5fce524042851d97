use Rattle.std.specs.Prelude.{◌≡◌, ◌≤◌, ◌⊎◌, ℕ, List, [], length}
use Rattle.amqp_wire.specs.Size.{size_of}

-- nothing, or a frame of the size that it names
abbrev pub IsCut : List ℕ → Type 0
IsCut bytes = (bytes ≡ []) ⊎ ((8 ≤ length bytes) × (size_of bytes ≡ length bytes))
