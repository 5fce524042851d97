-- What is not shown of a SASL negotiation: proofs and passwords.
use Rattle.std.specs.Prelude.{◌+◌, List, ℕ, [], ◌∷◌, ◌++◌, Bool, ◌&&◌, ◌||◌, ◌==◌, if◌then◌else◌, codes, bytes_eq, take, false}
use Rattle.amqp_shown.specs.Bytes.{escaped}

-- the mechanisms whose first message holds no secret (RFC 5802, section 5; RFC 7677; RFC 4505)
abbrev pub is_open : List ℕ → Bool
is_open mechanism = bytes_eq mechanism (codes "SCRAM-SHA-1") || bytes_eq mechanism (codes "SCRAM-SHA-256") || bytes_eq mechanism (codes "SCRAM-SHA-512") || bytes_eq mechanism (codes "ANONYMOUS")

-- between quotation marks, or `***`
abbrev pub init_text : List ℕ → List ℕ → List ℕ
init_text mechanism response = if is_open mechanism then escaped false response else codes "***"

-- how much of `,p=` is read: a byte more
abbrev pub next_read : ℕ → ℕ → ℕ
next_read read b = if b == 44 then 1 else if (read == 1) && (b == 112) then 2 else if (read == 2) && (b == 61) then 3 else 0

-- where the first `,p=` ends, from a place on and with so much of it read; 0 where there is none
abbrev pub proof_from : ℕ → ℕ → List ℕ → ℕ
proof_from read i [] = 0
proof_from read i (b ∷ bytes) = if next_read read b == 3 then i + 1 else proof_from (next_read read b) (i + 1) bytes

-- `***` in place of the proof (RFC 5802, section 5.1), and of the whole response where it is not told by `,p=`
abbrev pub response_text : List ℕ → List ℕ
response_text response = escaped false (take (proof_from 0 0 response) response) ++ codes "***"
