-- What follows of commands that wait for a peer.
use Rattle.std.proofs.Common.{◌≡◌, ℕ, List, Option, sym, subst}
use Rattle.amqp_served.specs.Count.{WritesCount}
use Rattle.amqp_wire.specs.declared.link.Link.{Ghosts}
use Rattle.amqp_net.specs.declared.socket.SocketLink.{SocketLink}
use Rattle.served_connection.specs.Bytes.{HasServed}
use Rattle.amqp_waiting_words.specs.Command.{Asked, sends, receives, asked}
use Rattle.amqp_waiting_words.specs.declared.command.Command.{Command}
use Rattle.amqp_waiting_words.specs.declared.command.Command.TheVariants as command
use Rattle.amqp_waiting_words.specs.declared.command.Options.{Options}
use Rattle.amqp_clients.specs.Clients.{HasSentTexts, HasReceived}
use Rattle.amqp_waiting.specs.Sockets.{ServedOne, SentOne, HasPassed}
use Rattle.amqp_waiting.proofs.Clients.{sent_texts, got_messages}

-- ---- listeners

pub count_of : {L : Type 0} (link : Ghosts L) (first : L) (w v : Option (List ℕ)) → HasServed link first w v → WritesCount w v
count_of link first w v x = record { count = x.served.count; wrote = x.served.wrote }

-- ---- what stands in the frames of a socket

pub passed_listen : (link : Ghosts SocketLink) (k : Command) (port : ℕ) (w v : Option (List ℕ)) → k ≡ command.Listen port → ServedOne link w v → HasPassed link (asked k) w v
passed_listen link k port w v is x = subst (λ (it : Command). HasPassed link (asked it) w v) (sym is) x

pub passed_connect : (link : Ghosts SocketLink) (k : Command) (port count : ℕ) (w v : Option (List ℕ)) → k ≡ command.Connect port count → SentOne link count → HasPassed link (asked k) w v
passed_connect link k port count w v is x = subst (λ (it : Command). HasPassed link (asked it) w v) (sym is) x

pub passed_send : (link : Ghosts SocketLink) (a : Asked) (url address : List ℕ) (messages : List (List ℕ)) (options : Options) (w v : Option (List ℕ)) → a ≡ sends url address messages options → HasSentTexts link messages → HasPassed link a w v
passed_send link a url address messages options w v is x = subst (λ (it : Asked). HasPassed link it w v) (sym is) (sent_texts link messages x)

pub passed_receive : (link : Ghosts SocketLink) (a : Asked) (url address : List ℕ) (count : ℕ) (options : Options) (w v : Option (List ℕ)) → a ≡ receives url address count options → HasReceived link count w v → HasPassed link a w v
passed_receive link a url address count options w v is x = subst (λ (it : Asked). HasPassed link it w v) (sym is) (got_messages link count w v x)
