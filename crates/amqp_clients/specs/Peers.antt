-- The peer that a URL names, and what a client authenticates with.
use Rattle.std.specs.Prelude.{◌≡◌, List, ℕ, [], ◌∷◌, Option, Some, None, Ok, codes}
use Rattle.percent_encoding.specs.Percent.{percent_decode}
use Rattle.url.specs.Parser.{parse_url}
use Rattle.url.specs.Parts.{Parts, nonempty_host}
use Rattle.sasl_exchange.specs.UserInfo.{HasUserInfo}
use Rattle.sasl_exchange.specs.declared.profile.SaslProfile.{SaslProfile}
use Rattle.sasl_exchange.specs.declared.profile.SaslProfile.TheVariants as profile
use Rattle.amqp_waiting_words.specs.declared.command.Mechanism.{Mechanism}
use Rattle.amqp_waiting_words.specs.declared.command.Mechanism.TheVariants.{Absent, Anonymous, Plain, ScramSha1, ScramSha256, ScramSha512}
use Rattle.amqp_clients.specs.declared.address.AddressError.{AddressError}
use Rattle.amqp_clients.specs.declared.address.AddressError.TheVariants as error

-- a URL (URL Standard, section 4.1) of the scheme `amqp` that names a host
pub record NamesPeer (text : List ℕ) (url : Parts) : Type 0 where
  pub is : parse_url None text ≡ Ok url
  pub scheme : url.scheme ≡ codes "amqp"
  pub host : nonempty_host url ≡ None → ⊥

-- the mechanism that is said, else PLAIN for a URL with a user, else ANONYMOUS
abbrev pub mechanism_for : Option Mechanism → List ℕ → Mechanism
mechanism_for (Some m) user = m
mechanism_for None [] = Anonymous
mechanism_for None (c ∷ cs) = Plain

-- SCRAM with the hash function of the mechanism
abbrev pub scram_with : Mechanism → List ℕ → List ℕ → List ℕ → SaslProfile
scram_with ScramSha1 user password nonce = profile.ScramSha1 user password nonce
scram_with ScramSha512 user password nonce = profile.ScramSha512 user password nonce
scram_with _ user password nonce = profile.ScramSha256 user password nonce

-- SCRAM with the user and the password of the URL, their escapes read, and some nonce
pub record IsScram (mechanism : Mechanism) (url : Parts) (p : Option SaslProfile) : Type 0 where
  pub user : HasUserInfo url
  pub nonce : List ℕ
  pub is : p ≡ Some (scram_with mechanism (percent_decode url.username) (percent_decode url.password) nonce)

-- PLAIN with them
pub record IsPlain (url : Parts) (p : Option SaslProfile) : Type 0 where
  pub user : HasUserInfo url
  pub is : p ≡ Some (profile.Plain (percent_decode url.username) (percent_decode url.password))

-- what a client authenticates with by that mechanism
abbrev pub IsProfile : Mechanism → Parts → Option SaslProfile → Type 0
IsProfile Absent url p = p ≡ None
IsProfile Anonymous url p = p ≡ Some profile.Anonymous
IsProfile Plain url p = IsPlain url p
IsProfile m url p = IsScram m url p

-- the words of the command are at fault
abbrev pub IsMisuse : AddressError → Type 0
IsMisuse error.Url = Unit {0}
IsMisuse error.NoUser = Unit {0}
IsMisuse _ = ⊥
