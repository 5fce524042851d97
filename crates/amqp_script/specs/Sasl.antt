-- What a line says of the SASL layer.
use Rattle.std.specs.Prelude.{List, ℕ, [], ◌∷◌, ◌-◌, ◌^◌, if◌then◌else◌, Option, Some, None, option_map, codes, bytes_eq}
use Rattle.sasl_exchange.specs.declared.profile.SaslProfile.{SaslProfile}
use Rattle.sasl_exchange.specs.declared.profile.SaslProfile.TheVariants as profile
use Rattle.sasl_scram.specs.declared.hash.ScramHash.{ScramHash}
use Rattle.sasl_scram.specs.declared.hash.ScramHash.TheVariants.{Sha1, Sha256, Sha512}
use Rattle.amqp_opening.specs.declared.acceptor.AcceptSasl.{AcceptSasl}
use Rattle.amqp_opening.specs.declared.acceptor.AcceptSasl.TheVariants as acceptor
use Rattle.amqp_opening.specs.Admission.{scram_acceptor}
use Rattle.amqp_script.specs.declared.script.keys.Key.{Key}
use Rattle.amqp_script.specs.declared.script.keys.Key.TheVariants.{Id, Host, SaslHost, Max, Channels, Idle, Sasl, User, Pass, Nonce, Salt, Rounds}
use Rattle.amqp_script.specs.declared.script.sasl.SaslKind.{SaslKind}
use Rattle.amqp_script.specs.declared.script.sasl.SaslKind.TheVariants.{Absent, Anonymous, Plain, Scram}
use Rattle.amqp_script.specs.Number.{number_in}
use Rattle.amqp_script.specs.Fields.{text_in, salt_in, field_in, default_in}

-- the hash function of a mechanism of this name (RFC 5802; RFC 7677)
abbrev pub hash_of_word : List ℕ → Option ScramHash
hash_of_word word =
    if bytes_eq word (codes "sha1") then Some Sha1 else
    if bytes_eq word (codes "sha256") then Some Sha256 else
    if bytes_eq word (codes "sha512") then Some Sha512 else None

-- no layer, ANONYMOUS (RFC 4505), PLAIN (RFC 4616), or SCRAM
abbrev pub kind_of_word : List ℕ → Option SaslKind
kind_of_word word =
    if bytes_eq word (codes "none") then Some Absent else
    if bytes_eq word (codes "anonymous") then Some Anonymous else
    if bytes_eq word (codes "plain") then Some Plain else option_map Scram (hash_of_word word)

-- the kind that the arguments name: none where they name none
abbrev pub kind_in : List (List ℕ) → Option SaslKind
kind_in arguments = default_in Absent kind_of_word Sasl arguments

-- the keys of what a client authenticates with: user and password with PLAIN and SCRAM, and a nonce with SCRAM
abbrev pub client_keys : SaslKind → List Key
client_keys Absent = []
client_keys Anonymous = []
client_keys Plain = User ∷ Pass ∷ []
client_keys (Scram hash) = User ∷ Pass ∷ Nonce ∷ []

-- the keys of whom a listener lets in: with SCRAM also the salt and the count
abbrev pub listener_keys : SaslKind → List Key
listener_keys Absent = []
listener_keys Anonymous = []
listener_keys Plain = User ∷ Pass ∷ []
listener_keys (Scram hash) = User ∷ Pass ∷ Salt ∷ Rounds ∷ Nonce ∷ []

-- the keys of `open` at a kind
abbrev pub open_keys : SaslKind → List Key
open_keys kind = Id ∷ Host ∷ SaslHost ∷ Max ∷ Channels ∷ Idle ∷ Sasl ∷ client_keys kind

-- the keys of `accept` at a kind
abbrev pub accept_keys : SaslKind → List Key
accept_keys kind = Id ∷ Host ∷ Max ∷ Channels ∷ Idle ∷ Sasl ∷ listener_keys kind

abbrev pub account_of : Option (List ℕ) → Option (List ℕ) → Option (List ℕ × List ℕ)
account_of None _ = None
account_of (Some user) None = None
account_of (Some user) (Some pass) = Some (user, pass)

-- the user and the password
abbrev pub account_in : List (List ℕ) → Option (List ℕ × List ℕ)
account_in arguments = account_of (field_in text_in User arguments) (field_in text_in Pass arguments)

-- SCRAM with a hash function, at a client
abbrev pub scram_profile : ScramHash → List ℕ → List ℕ → List ℕ → SaslProfile
scram_profile Sha1 user pass nonce = profile.ScramSha1 user pass nonce
scram_profile Sha256 user pass nonce = profile.ScramSha256 user pass nonce
scram_profile Sha512 user pass nonce = profile.ScramSha512 user pass nonce

abbrev pub profile_of : ScramHash → Option (List ℕ × List ℕ) → Option (List ℕ) → Option SaslProfile
profile_of hash None _ = None
profile_of hash (Some account) None = None
profile_of hash (Some account) (Some nonce) = Some (scram_profile hash account.0 account.1 nonce)

-- the user, the password and the nonce of a client, which authenticates with this hash function
abbrev pub profile_in : ScramHash → List (List ℕ) → Option SaslProfile
profile_in hash arguments = profile_of hash (account_in arguments) (field_in text_in Nonce arguments)

abbrev pub acceptor_of : ScramHash → Option (List ℕ × List ℕ) → Option (List ℕ) → Option ℕ → Option (List ℕ) → Option AcceptSasl
acceptor_of hash None _ _ _ = None
acceptor_of hash (Some account) None _ _ = None
acceptor_of hash (Some account) (Some salt) None _ = None
acceptor_of hash (Some account) (Some salt) (Some rounds) None = None
acceptor_of hash (Some account) (Some salt) (Some rounds) (Some nonce) = Some (scram_acceptor hash account.0 account.1 salt rounds nonce)

-- the one user that a listener with this hash function lets in, and its own nonce
abbrev pub acceptor_in : ScramHash → List (List ℕ) → Option AcceptSasl
acceptor_in hash arguments =
    acceptor_of hash (account_in arguments) (field_in salt_in Salt arguments) (field_in (number_in (2 ^ 32 - 1)) Rounds arguments) (field_in text_in Nonce arguments)

-- what a client authenticates with, if there is a SASL layer
abbrev pub client_sasl_in : SaslKind → List (List ℕ) → Option (Option SaslProfile)
client_sasl_in Absent arguments = Some None
client_sasl_in Anonymous arguments = Some (Some profile.Anonymous)
client_sasl_in Plain arguments = option_map (λ account. Some (profile.Plain account.0 account.1)) (account_in arguments)
client_sasl_in (Scram hash) arguments = option_map Some (profile_in hash arguments)

-- whom a listener lets in, if there is a SASL layer
abbrev pub listener_sasl_in : SaslKind → List (List ℕ) → Option (Option AcceptSasl)
listener_sasl_in Absent arguments = Some None
listener_sasl_in Anonymous arguments = Some (Some acceptor.Anonymous)
listener_sasl_in Plain arguments = option_map (λ account. Some (acceptor.Plain account.0 account.1)) (account_in arguments)
listener_sasl_in (Scram hash) arguments = option_map Some (acceptor_in hash arguments)
