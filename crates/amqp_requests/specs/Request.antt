-- What the words behind the program's name ask for.
use Rattle.std.specs.Prelude.{List, ℕ, [], ◌∷◌, ◌++◌, ◌-◌, ◌^◌, if◌then◌else◌, Option, Some, None, codes, bytes_eq}
use Rattle.sha1.specs.Sha1.{sha1}
use Rattle.sha2.specs.Sha256.{sha256}
use Rattle.sha2.specs.Sha512.{sha512}
use Rattle.kdf_core.specs.Hmac.{hmac_of}
use Rattle.kdf_core.specs.Pbkdf2.{pbkdf2_of}
use Rattle.amqp_script.specs.Number.{number_in}
use Rattle.amqp_script.specs.Hex.{hex_of}
use Rattle.amqp_requests.specs.declared.key.HashName.{HashName}
use Rattle.amqp_requests.specs.declared.key.HashName.TheVariants.{Sha1, Sha256, Sha512}
use Rattle.amqp_requests.specs.declared.key.KeyRequest.{KeyRequest}
use Rattle.amqp_requests.specs.declared.command.Command.{Command}
use Rattle.amqp_requests.specs.declared.command.Command.TheVariants as command

-- a script is to be run, or a key derived by a hash function, rounds, length, password and salt
pub data Request : Type 0 where
  RunScript : Request
  DeriveKey : HashName → ℕ → ℕ → List ℕ → List ℕ → Request

abbrev pub hash_in : List ℕ → Option HashName
hash_in word =
    if bytes_eq word (codes "sha1") then Some Sha1 else
    if bytes_eq word (codes "sha256") then Some Sha256 else
    if bytes_eq word (codes "sha512") then Some Sha512 else None

abbrev pub key_of_parts : Option HashName → Option ℕ → Option ℕ → List ℕ → List ℕ → Option Request
key_of_parts None _ _ password salt = None
key_of_parts (Some hash) None _ password salt = None
key_of_parts (Some hash) (Some rounds) None password salt = None
key_of_parts (Some hash) (Some rounds) (Some length) password salt = Some (DeriveKey hash rounds length password salt)

-- `kdf HASH ROUNDS LENGTH PASSWORD SALT`: fewer than 2^32 rounds, and at most 4096 bytes
abbrev pub key_in : List ℕ → List ℕ → List ℕ → List ℕ → List ℕ → List ℕ → Option Request
key_in word hash rounds length password salt =
    if bytes_eq word (codes "kdf") then key_of_parts (hash_in hash) (number_in (2 ^ 32 - 1) rounds) (number_in 4096 length) password salt else None

abbrev pub request_in : List (List ℕ) → Option Request
request_in (word ∷ []) = if bytes_eq word (codes "world") then Some RunScript else None
request_in (word ∷ hash ∷ rounds ∷ length ∷ password ∷ salt ∷ []) = key_in word hash rounds length password salt
request_in _ = None

-- the request that a command makes
abbrev pub request_of : Command → Request
request_of command.World = RunScript
request_of (command.Kdf key) = DeriveKey key.hash key.rounds key.length key.password.now key.salt.now

-- PBKDF2 (RFC 8018, section 5.2) with HMAC over the hash function
abbrev pub key_of : HashName → ℕ → ℕ → List ℕ → List ℕ → List ℕ
key_of Sha1 rounds length password salt = pbkdf2_of (hmac_of sha1 64 password) 20 salt rounds length
key_of Sha256 rounds length password salt = pbkdf2_of (hmac_of sha256 64 password) 32 salt rounds length
key_of Sha512 rounds length password salt = pbkdf2_of (hmac_of sha512 128 password) 64 salt rounds length

-- the key in hexadecimal, and a line feed
abbrev pub key_text : HashName → ℕ → ℕ → List ℕ → List ℕ → List ℕ
key_text hash rounds length password salt = hex_of (key_of hash rounds length password salt) ++ 10 ∷ []

-- the text of a key that is asked for
abbrev pub text_of_key : KeyRequest → List ℕ
text_of_key key = key_text key.hash key.rounds key.length key.password.now key.salt.now
