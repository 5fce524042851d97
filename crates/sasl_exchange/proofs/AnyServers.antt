-- The listener's end with any of the mechanisms.
use Rattle.std.proofs.Common.{◌≤◌, arith, List, [], length}
use Rattle.amqp_sasl_bodies.specs.declared.sasl_body.SaslBody.{SaslBody}
use Rattle.sasl_exchange.specs.declared.server.ServerExchange.{ServerExchange}
use Rattle.sasl_exchange.specs.declared.server.ServerExchange.TheVariants.{Scram, Init}
use Rattle.sasl_exchange.specs.AnyServer.{Passwords, StoredPasswords, any_server_holds}
use Rattle.sasl_exchange.proofs.InitServers.{init_server_few}
use Rattle.sasl_exchange.proofs.ScramServers.{server_few}

module _ {Q P : Type 0} (passwords : Passwords Q) (stored : StoredPasswords P) where
  -- a listener sends three bodies at most
  pub any_server_few : (x : ServerExchange Q P) (given sent : List SaslBody) → any_server_holds passwords stored x given sent → length sent ≤ 3
  any_server_few (Scram x) given sent h = server_few stored x given sent h
  any_server_few (Init x) given sent h = let few = init_server_few passwords x given sent h in omega (arith, few)
