-- The texts of SCRAM (RFC 5802, sections 5 and 7) as lists of bytes.
use Rattle.std.specs.Prelude.{◌≡◌, ◌≢◌, ◌==◌, ℕ, ◌<◌, ◌≤◌, ◌⊎◌, if◌then◌else◌, List, [], ◌∷◌, ◌++◌, length, take, All, codes, decimal}
use Rattle.base64.specs.Engines.{standard}
use Rattle.base64.specs.GeneralPurpose.{encode_of}
use Rattle.sasl_scram.specs.Profile.{IsNonce, IsAllowedCount}

-- section 5.1, `n`: a comma is written "=2C", and "=" is written "=3D"
abbrev pub escape_of : ℕ → List ℕ
escape_of b = if b == 44 then codes "=2C" else if b == 61 then codes "=3D" else b ∷ []

-- a user name as it is written. A written name in which another "=" stands is that of no user
unfoldable pub escaped_of : List ℕ → List ℕ
escaped_of [] = []
escaped_of (x ∷ xs) = escape_of x ++ escaped_of xs

-- the value of an attribute: no comma
abbrev pub IsValue : List ℕ → Type 0
IsValue value = All (λ b. b ≢ 44) value

-- section 7, `extensions`, each behind a comma: a letter, "=", and a value of one byte or more. The letter `m` is
-- reserved for what a reader must know (section 5.1), and as nothing is known, no text with it is taken
pub data IsExtensions : List ℕ → Type 0 where
  none : IsExtensions []
  more : (letter : ℕ) (value rest : List ℕ)
      → ((65 ≤ letter) × (letter ≤ 90)) ⊎ ((97 ≤ letter) × (letter ≤ 122)) → letter ≢ 109
      → 0 < length value → IsValue value → IsExtensions rest
      → IsExtensions (44 ∷ letter ∷ 61 ∷ value ++ rest)

-- ---- what is written

-- client-first-message-bare: "n=USER,r=NONCE"
abbrev pub client_first_bare_of : List ℕ → List ℕ → List ℕ
client_first_bare_of user nonce = codes "n=" ++ escaped_of user ++ codes ",r=" ++ nonce

-- client-first-message: "n,,n=USER,r=NONCE"
abbrev pub client_first_of : List ℕ → List ℕ → List ℕ
client_first_of user nonce = codes "n,," ++ client_first_bare_of user nonce

-- server-first-message: "r=NONCE,s=SALT,i=COUNT"
abbrev pub server_first_of : List ℕ → List ℕ → ℕ → List ℕ
server_first_of nonce salt count =
    codes "r=" ++ nonce ++ codes ",s=" ++ encode_of standard salt ++ codes ",i=" ++ decimal count

-- client-final-message-without-proof: "c=biws,r=NONCE"
abbrev pub client_final_bare_of : List ℕ → List ℕ
client_final_bare_of nonce = codes "c=biws,r=" ++ nonce

-- client-final-message: "c=biws,r=NONCE,p=PROOF"
abbrev pub client_final_of : List ℕ → List ℕ → List ℕ
client_final_of nonce proof = client_final_bare_of nonce ++ codes ",p=" ++ encode_of standard proof

-- server-final-message: "v=SIGNATURE"
abbrev pub server_final_of : List ℕ → List ℕ
server_final_of signature = codes "v=" ++ encode_of standard signature

-- section 3, AuthMessage: what both ends sign
abbrev pub auth_of : List ℕ → List ℕ → List ℕ → List ℕ
auth_of client_first_bare server_first client_final_bare =
    client_first_bare ++ codes "," ++ server_first ++ codes "," ++ client_final_bare

-- ---- what is read

-- the gs2-headers with no channel binding and no authorization identity: the client does not bind channels, or it would
-- and thinks that the listener does not
abbrev pub IsHeader : List ℕ → Type 0
IsHeader header = (header ≡ codes "n,,") ⊎ (header ≡ codes "y,,")

-- a client first: such a header and the bare text, "n=NAME,r=NONCE" and extensions, with the user's name as it is written
pub record IsClientFirst (text header bare name nonce : List ℕ) : Type 0 where
  pub extensions : List ℕ
  pub text_is : text ≡ header ++ bare
  pub header_is : IsHeader header
  pub bare_is : bare ≡ codes "n=" ++ name ++ codes ",r=" ++ nonce ++ extensions
  pub name_is : IsValue name
  pub nonce_is : IsNonce nonce
  pub extensions_are : IsExtensions extensions

-- a server first: "r=NONCE,s=SALT,i=COUNT" and extensions, with the salt and the count as they are written
pub record IsServerFirst (text nonce salt count : List ℕ) : Type 0 where
  pub extensions : List ℕ
  pub text_is : text ≡ codes "r=" ++ nonce ++ codes ",s=" ++ salt ++ codes ",i=" ++ count ++ extensions
  pub nonce_is : IsNonce nonce
  pub salt_is : IsValue salt
  pub count_is : IsValue count
  pub extensions_are : IsExtensions extensions

-- a client final to a client first with this gs2-header, whose base64 is the channel binding: "c=biws,r=NONCE",
-- extensions and ",p=PROOF", with the proof as it is written; `bare` is all before ",p="
pub record IsClientFinal (header text bare nonce proof : List ℕ) : Type 0 where
  pub extensions : List ℕ
  pub bare_is : bare ≡ codes "c=" ++ encode_of standard header ++ codes ",r=" ++ nonce ++ extensions
  pub text_is : text ≡ bare ++ codes ",p=" ++ proof
  pub nonce_is : IsNonce nonce
  pub proof_is : IsValue proof
  pub extensions_are : IsExtensions extensions

-- a server final: "v=SIGNATURE" and extensions, with the signature as it is written. An error ("e=..") is none
pub record IsServerFinal (text signature : List ℕ) : Type 0 where
  pub extensions : List ℕ
  pub text_is : text ≡ codes "v=" ++ signature ++ extensions
  pub signature_is : IsValue signature
  pub extensions_are : IsExtensions extensions

-- ---- checks on what was read

-- the user whose name is written so
abbrev pub IsName : List ℕ → List ℕ → Type 0
IsName name user = (0 < length user) × (name ≡ escaped_of user)

-- the nonce read begins with the own one and is longer
abbrev pub Extends : List ℕ → List ℕ → Type 0
Extends own nonce = (length own < length nonce) × (take (length own) nonce ≡ own)

-- the digits are an allowed count, in decimal without a leading zero
abbrev pub IsCount : List ℕ → ℕ → Type 0
IsCount digits count = IsAllowedCount count × (digits ≡ decimal count)
