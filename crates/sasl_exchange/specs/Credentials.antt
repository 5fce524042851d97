-- What a client authenticates with.
use Rattle.std.specs.Prelude.{ℕ, List, ⊤}
use Rattle.sasl_exchange.specs.declared.profile.SaslProfile.{SaslProfile}
use Rattle.sasl_exchange.specs.declared.profile.SaslProfile.TheVariants.{Anonymous, Plain, ScramSha1, ScramSha256, ScramSha512}
use Rattle.sasl_scram.specs.declared.hash.ScramHash.{ScramHash}
use Rattle.sasl_scram.specs.declared.hash.ScramHash.TheVariants.{Sha1, Sha256, Sha512}
use Rattle.sasl_scram.specs.Hashes.{mechanism_of}
use Rattle.sasl_exchange.specs.InitTexts.{anonymous_name, plain_name}
use Rattle.sasl_scram.specs.Profile.{IsAllowedUser, IsAllowedPassword, IsNonce}

-- nothing (RFC 4505), a user and a password (RFC 4616), or these with a hash function and a nonce (RFC 5802)
pub data Credentials : Type 0 where
  anonymous : Credentials
  plain : (user password : List ℕ) → Credentials
  scram : (hash : ScramHash) (user password nonce : List ℕ) → Credentials

-- those of a profile
abbrev pub credentials_of : SaslProfile → Credentials
credentials_of Anonymous = anonymous
credentials_of (Plain user password) = plain user password
credentials_of (ScramSha1 user password nonce) = scram Sha1 user password nonce
credentials_of (ScramSha256 user password nonce) = scram Sha256 user password nonce
credentials_of (ScramSha512 user password nonce) = scram Sha512 user password nonce

-- the name of the mechanism that they are for
abbrev pub mechanism_in : Credentials → List ℕ
mechanism_in anonymous = anonymous_name
mechanism_in (plain user password) = plain_name
mechanism_in (scram hash user password nonce) = mechanism_of hash

-- user and password, where there are any, are in the profile
abbrev pub IsAllowedTexts : Credentials → Type 0
IsAllowedTexts anonymous = ⊤
IsAllowedTexts (plain user password) = IsAllowedUser user × IsAllowedPassword password
IsAllowedTexts (scram hash user password nonce) = IsAllowedUser user × IsAllowedPassword password

-- the nonce, where there is one, has its form (RFC 5802, section 7)
abbrev pub HasNonce : Credentials → Type 0
HasNonce anonymous = ⊤
HasNonce (plain user password) = ⊤
HasNonce (scram hash user password nonce) = IsNonce nonce
