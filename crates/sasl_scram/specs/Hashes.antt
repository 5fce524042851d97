-- The hash functions of SCRAM (RFC 5802; RFC 7677; the same form with SHA-512), and the names of their mechanisms.
use Rattle.std.specs.Prelude.{ℕ, List, codes}
use Rattle.sha1.specs.Sha1.{sha1}
use Rattle.sha2.specs.Sha256.{sha256}
use Rattle.sha2.specs.Sha512.{sha512}
use Rattle.sasl_scram.specs.declared.hash.ScramHash.{ScramHash}
use Rattle.sasl_scram.specs.declared.hash.ScramHash.TheVariants.{Sha1, Sha256, Sha512}

-- H (RFC 5802, section 2.2)
abbrev pub digest_of : ScramHash → List ℕ → List ℕ
digest_of Sha1 = sha1
digest_of Sha256 = sha256
digest_of Sha512 = sha512

-- the length of its blocks in bytes (FIPS 180-4, section 1)
abbrev pub block_of : ScramHash → ℕ
block_of Sha1 = 64
block_of Sha256 = 64
block_of Sha512 = 128

-- the length of its digests in bytes (FIPS 180-4, section 1)
abbrev pub output_of : ScramHash → ℕ
output_of Sha1 = 20
output_of Sha256 = 32
output_of Sha512 = 64

-- the name of its mechanism (RFC 5802, section 4; RFC 7677, section 4)
abbrev pub mechanism_of : ScramHash → List ℕ
mechanism_of Sha1 = codes "SCRAM-SHA-1"
mechanism_of Sha256 = codes "SCRAM-SHA-256"
mechanism_of Sha512 = codes "SCRAM-SHA-512"
