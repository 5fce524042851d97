-- Why a text is refused. The checks of one text come in the order Malformed, NonceMismatch, Iterations, Base64,
-- Signature, UserUnknown, ProofMismatch, and a kind says that its check fails and those before it hold. TextNotAllowed
-- speaks of a user that was read, and so of a text that has its form. Want of memory can come at any place.
use Rattle.std.specs.Prelude.{◌≡◌, ℕ, List, length, Option}
use Rattle.std.specs.declared.option.Option.TheVariants.{None}
use Rattle.base64.specs.Engines.{standard}
use Rattle.base64.specs.GeneralPurpose.{IsBytes, encode_of}
use Rattle.sasl_scram.specs.declared.error.ScramErrorKind.{ScramErrorKind}
use Rattle.sasl_scram.specs.declared.error.ScramErrorKind.TheVariants.{Memory, TextNotAllowed, Malformed, NonceMismatch, Iterations, Base64, Signature, UserUnknown, ProofMismatch}
use Rattle.sasl_scram.specs.declared.stored.StoredPassword.{StoredPassword}
use Rattle.sasl_scram.specs.Keys.{ProofHolds}
use Rattle.sasl_scram.specs.Profile.{IsAllowedUser}
use Rattle.sasl_scram.specs.Texts.{auth_of, Extends, IsCount, IsName, IsClientFirst, IsServerFirst, IsClientFinal, IsServerFinal}

-- an own text outside the profile, by what would be true of an allowed one; no other text takes memory
abbrev pub IsTextRefusal : Type 0 → ScramErrorKind → Type 0
IsTextRefusal Allowed (Memory e) = Allowed
IsTextRefusal Allowed TextNotAllowed = ¬ Allowed
IsTextRefusal Allowed Malformed = ⊥
IsTextRefusal Allowed NonceMismatch = ⊥
IsTextRefusal Allowed Iterations = ⊥
IsTextRefusal Allowed Base64 = ⊥
IsTextRefusal Allowed Signature = ⊥
IsTextRefusal Allowed UserUnknown = ⊥
IsTextRefusal Allowed ProofMismatch = ⊥

-- only want of memory
abbrev pub IsMemory : ScramErrorKind → Type 0
IsMemory (Memory e) = Unit {0}
IsMemory TextNotAllowed = ⊥
IsMemory Malformed = ⊥
IsMemory NonceMismatch = ⊥
IsMemory Iterations = ⊥
IsMemory Base64 = ⊥
IsMemory Signature = ⊥
IsMemory UserUnknown = ⊥
IsMemory ProofMismatch = ⊥

-- the text is the base64 of so many bytes
abbrev pub Spells : List ℕ → List ℕ → ℕ → Type 0
Spells text bytes size = IsBytes bytes × (length bytes ≡ size) × (text ≡ encode_of standard bytes)

-- why a listener refuses a client first, where `stored` is what its provider has
abbrev pub IsClientFirstRefusal : (List ℕ → Option StoredPassword) → List ℕ → ScramErrorKind → Type 0
IsClientFirstRefusal stored text (Memory e) = Unit {0}
IsClientFirstRefusal stored text TextNotAllowed =
    (header : List ℕ) × (bare : List ℕ) × (name : List ℕ) × (nonce : List ℕ) × (user : List ℕ)
    × IsClientFirst text header bare name nonce × IsName name user × (¬ IsAllowedUser user)
IsClientFirstRefusal stored text Malformed =
    (header bare name nonce user : List ℕ) → IsClientFirst text header bare name nonce → ¬ IsName name user
IsClientFirstRefusal stored text NonceMismatch = ⊥
IsClientFirstRefusal stored text Iterations = ⊥
IsClientFirstRefusal stored text Base64 = ⊥
IsClientFirstRefusal stored text Signature = ⊥
IsClientFirstRefusal stored text UserUnknown =
    (header : List ℕ) × (bare : List ℕ) × (name : List ℕ) × (nonce : List ℕ) × (user : List ℕ)
    × IsClientFirst text header bare name nonce × IsName name user × IsAllowedUser user × (stored user ≡ None)
IsClientFirstRefusal stored text ProofMismatch = ⊥

-- why a client with this nonce refuses a server first
abbrev pub IsServerFirstRefusal : List ℕ → List ℕ → ScramErrorKind → Type 0
IsServerFirstRefusal own text (Memory e) = Unit {0}
IsServerFirstRefusal own text TextNotAllowed = ⊥
IsServerFirstRefusal own text Malformed = (nonce salt count : List ℕ) → ¬ IsServerFirst text nonce salt count
IsServerFirstRefusal own text NonceMismatch =
    (nonce : List ℕ) × (salt : List ℕ) × (count : List ℕ) × IsServerFirst text nonce salt count × (¬ Extends own nonce)
IsServerFirstRefusal own text Iterations =
    (nonce : List ℕ) × (salt : List ℕ) × (count : List ℕ) × IsServerFirst text nonce salt count × Extends own nonce
    × ((n : ℕ) → ¬ IsCount count n)
IsServerFirstRefusal own text Base64 =
    (nonce : List ℕ) × (salt : List ℕ) × (count : List ℕ) × (n : ℕ) × IsServerFirst text nonce salt count
    × Extends own nonce × IsCount count n × ((bytes : List ℕ) → IsBytes bytes → ¬ (salt ≡ encode_of standard bytes))
IsServerFirstRefusal own text Signature = ⊥
IsServerFirstRefusal own text UserUnknown = ⊥
IsServerFirstRefusal own text ProofMismatch = ⊥

-- why a listener refuses a client final, where `output` is the length of a proof, `stored_key` the user's stored key,
-- `header`, `bare` and `server_first` what went before, and `own` the whole nonce
abbrev pub IsClientFinalRefusal : (List ℕ → List ℕ) → ℕ → ℕ → List ℕ → List ℕ → List ℕ → List ℕ → List ℕ
    → List ℕ → ScramErrorKind → Type 0
IsClientFinalRefusal hash block output stored_key header bare server_first own text (Memory e) = Unit {0}
IsClientFinalRefusal hash block output stored_key header bare server_first own text TextNotAllowed = ⊥
IsClientFinalRefusal hash block output stored_key header bare server_first own text Malformed =
    (final nonce proof : List ℕ) → ¬ IsClientFinal header text final nonce proof
IsClientFinalRefusal hash block output stored_key header bare server_first own text NonceMismatch =
    (final : List ℕ) × (nonce : List ℕ) × (proof : List ℕ) × IsClientFinal header text final nonce proof
    × (¬ (nonce ≡ own))
IsClientFinalRefusal hash block output stored_key header bare server_first own text Iterations = ⊥
IsClientFinalRefusal hash block output stored_key header bare server_first own text Base64 =
    (final : List ℕ) × (proof : List ℕ) × IsClientFinal header text final own proof
    × ((bytes : List ℕ) → ¬ Spells proof bytes output)
IsClientFinalRefusal hash block output stored_key header bare server_first own text Signature = ⊥
IsClientFinalRefusal hash block output stored_key header bare server_first own text UserUnknown = ⊥
IsClientFinalRefusal hash block output stored_key header bare server_first own text ProofMismatch =
    (final : List ℕ) × (proof : List ℕ) × (bytes : List ℕ) × IsClientFinal header text final own proof
    × Spells proof bytes output × (¬ ProofHolds hash block stored_key (auth_of bare server_first final) bytes)

-- why a client that waits for this signature refuses a server final
abbrev pub IsServerFinalRefusal : ℕ → List ℕ → List ℕ → ScramErrorKind → Type 0
IsServerFinalRefusal output own text (Memory e) = ⊥
IsServerFinalRefusal output own text TextNotAllowed = ⊥
IsServerFinalRefusal output own text Malformed = (signature : List ℕ) → ¬ IsServerFinal text signature
IsServerFinalRefusal output own text NonceMismatch = ⊥
IsServerFinalRefusal output own text Iterations = ⊥
IsServerFinalRefusal output own text Base64 =
    (signature : List ℕ) × IsServerFinal text signature × ((bytes : List ℕ) → ¬ Spells signature bytes output)
IsServerFinalRefusal output own text Signature =
    (signature : List ℕ) × (bytes : List ℕ) × IsServerFinal text signature × Spells signature bytes output
    × (¬ (bytes ≡ own))
IsServerFinalRefusal output own text UserUnknown = ⊥
IsServerFinalRefusal output own text ProofMismatch = ⊥

-- why a text gives no bytes
abbrev pub IsDecodeRefusal : List ℕ → ScramErrorKind → Type 0
IsDecodeRefusal text (Memory e) = Unit {0}
IsDecodeRefusal text TextNotAllowed = ⊥
IsDecodeRefusal text Malformed = ⊥
IsDecodeRefusal text NonceMismatch = ⊥
IsDecodeRefusal text Iterations = ⊥
IsDecodeRefusal text Base64 = (bytes : List ℕ) → IsBytes bytes → ¬ (text ≡ encode_of standard bytes)
IsDecodeRefusal text Signature = ⊥
IsDecodeRefusal text UserUnknown = ⊥
IsDecodeRefusal text ProofMismatch = ⊥

-- why a written name gives no user of the profile
abbrev pub IsNameRefusal : List ℕ → ScramErrorKind → Type 0
IsNameRefusal name (Memory e) = Unit {0}
IsNameRefusal name TextNotAllowed = (user : List ℕ) × IsName name user × (¬ IsAllowedUser user)
IsNameRefusal name Malformed = (user : List ℕ) → ¬ IsName name user
IsNameRefusal name NonceMismatch = ⊥
IsNameRefusal name Iterations = ⊥
IsNameRefusal name Base64 = ⊥
IsNameRefusal name Signature = ⊥
IsNameRefusal name UserUnknown = ⊥
IsNameRefusal name ProofMismatch = ⊥
