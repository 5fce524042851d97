-- The machines of each hash function, as one that has a hash function.
use Rattle.sasl_scram.specs.declared.any_client.ChosenClient.{ChosenClient}
use Rattle.sasl_scram.specs.declared.any_client.ChosenClient.TheVariants as client
use Rattle.sasl_scram.specs.declared.any_server.ChosenServer.{ChosenServer}
use Rattle.sasl_scram.specs.declared.any_server.ChosenServer.TheVariants as server
use Rattle.sasl_scram.specs.declared.hash.ScramHash.TheVariants.{Sha1, Sha256, Sha512}
use Rattle.sasl_scram.specs.States.{HashedClient, HashedServer}

abbrev pub hashed_client : ChosenClient → HashedClient
hashed_client (client.Sha1 c) = record { hash = Sha1; client = c }
hashed_client (client.Sha256 c) = record { hash = Sha256; client = c }
hashed_client (client.Sha512 c) = record { hash = Sha512; client = c }

abbrev pub hashed_server : {P : Type 0} → ChosenServer P → HashedServer P
hashed_server (server.Sha1 s) = record { hash = Sha1; server = s }
hashed_server (server.Sha256 s) = record { hash = Sha256; server = s }
hashed_server (server.Sha512 s) = record { hash = Sha512; server = s }
