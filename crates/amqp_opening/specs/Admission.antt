-- Whom a listener lets in.
use Rattle.std.specs.Prelude.{ℕ, List, Option, Some, None}
use Rattle.sasl_scram.specs.declared.hash.ScramHash.{ScramHash}
use Rattle.sasl_scram.specs.declared.hash.ScramHash.TheVariants.{Sha1, Sha256, Sha512}
use Rattle.sasl_scram.specs.Hashes.{mechanism_of}
use Rattle.sasl_gate.specs.sasl_exchange.InitTexts.{anonymous_name, plain_name}
use Rattle.amqp_opening.specs.declared.acceptor.AcceptSasl.{AcceptSasl}
use Rattle.amqp_opening.specs.declared.acceptor.AcceptSasl.TheVariants.{Anonymous, Plain, ScramSha1, ScramSha256, ScramSha512}
use Rattle.amqp_opening.specs.declared.acceptor.Accepting.{Accepting}
use Rattle.amqp_opening.specs.declared.acceptor.Accepting.TheVariants as parts

-- anyone (RFC 4505), one user with a password (RFC 4616), or one user of whose password it keeps what RFC 5802, section 3, says with a
-- salt and a count, and its own nonce
pub data Admission : Type 0 where
  anonymous : Admission
  plain : (user password : List ℕ) → Admission
  scram : (hash : ScramHash) (user password salt : List ℕ) (iterations : ℕ) (nonce : List ℕ) → Admission

-- that of an acceptor
abbrev pub admission_of : AcceptSasl → Admission
admission_of Anonymous = anonymous
admission_of (Plain user password) = plain user password
admission_of (ScramSha1 user password salt iterations nonce) = scram Sha1 user password salt iterations nonce
admission_of (ScramSha256 user password salt iterations nonce) = scram Sha256 user password salt iterations nonce
admission_of (ScramSha512 user password salt iterations nonce) = scram Sha512 user password salt iterations nonce

-- SCRAM with a hash function (RFC 5802; RFC 7677)
abbrev pub scram_acceptor : ScramHash → List ℕ → List ℕ → List ℕ → ℕ → List ℕ → AcceptSasl
scram_acceptor Sha1 user password salt iterations nonce = ScramSha1 user password salt iterations nonce
scram_acceptor Sha256 user password salt iterations nonce = ScramSha256 user password salt iterations nonce
scram_acceptor Sha512 user password salt iterations nonce = ScramSha512 user password salt iterations nonce

-- the parts of an acceptor, joined
abbrev pub acceptor_in : Accepting → AcceptSasl
acceptor_in parts.Anonymous = Anonymous
acceptor_in (parts.Plain user password) = Plain user.now password.now
acceptor_in (parts.Scram hash user password salt iterations nonce) = scram_acceptor hash user.now password.now salt.now iterations nonce.now

-- whom they let in
abbrev pub admission_in : Accepting → Admission
admission_in parts.Anonymous = anonymous
admission_in (parts.Plain user password) = plain user.now password.now
admission_in (parts.Scram hash user password salt iterations nonce) = scram hash user.now password.now salt.now iterations nonce.now

-- the name of the mechanism that lets them in (OASIS AMQP 1.0, part 5, section 5.3.3.1)
abbrev pub mechanism_by : Admission → List ℕ
mechanism_by anonymous = anonymous_name
mechanism_by (plain user password) = plain_name
mechanism_by (scram hash user password salt iterations nonce) = mechanism_of hash

-- the user and the password, where there are any
abbrev pub account_by : Admission → Option (List ℕ × List ℕ)
account_by anonymous = None
account_by (plain user password) = Some (user, password)
account_by (scram hash user password salt iterations nonce) = Some (user, password)
