-- Protocol headers (OASIS AMQP 1.0, part 2, section 2.2).
use Rattle.std.specs.Prelude.{ℕ, List, [], ◌∷◌, ◌++◌, codes}
use Rattle.amqp_transport.specs.declared.header.ProtocolId.{ProtocolId}
use Rattle.amqp_transport.specs.declared.header.ProtocolId.TheVariants.{Amqp, Tls, Sasl}
use Rattle.amqp_transport.specs.declared.header.ProtocolHeader.{ProtocolHeader}

-- the number of the protocol (part 2, figure 2.12; part 5, figures 5.2 and 5.4)
abbrev pub id_number : ProtocolId → ℕ
id_number Amqp = 0
id_number Tls = 2
id_number Sasl = 3

-- the text AMQP, the number of the protocol and its version
abbrev pub header_bytes : ProtocolHeader → List ℕ
header_bytes h = codes "AMQP" ++ id_number h.id ∷ h.major ∷ h.minor ∷ h.revision ∷ []

abbrev pub version_1 : ProtocolId → ProtocolHeader
version_1 id = record { id = id; major = 1; minor = 0; revision = 0 }
