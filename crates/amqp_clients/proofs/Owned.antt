-- What follows of a client over a link of its own.
use Rattle.std.proofs.Common.{◌≡◌, ℕ, false, List, [], Option, None, subst}
use Rattle.amqp_wire.specs.declared.link.Link.{Ghosts}
use Rattle.amqp_end.specs.amqp_links.State.{seen as linked, no_links}
use Rattle.amqp_end.specs.amqp_sessions.State.{seen, none_begun}
use Rattle.amqp_end.specs.declared.end.End.{End}
use Rattle.amqp_peer.specs.Peering.{fresh}
use Rattle.amqp_peer.specs.declared.peer.PeerKind.TheVariants.{Client}
use Rattle.amqp_clients.specs.Clients.{IsClient, HasSentTexts, HasReceived}
use Rattle.amqp_clients.specs.Delivered.{SentAndLeft, Received}

pub client_over : {L : Type 0} (first : L) (e : End L) → e.connection ≡ fresh first Client → seen e.sessions ≡ none_begun → linked e.links ≡ no_links false → e.replies.items ≡ [] → e.last ≡ None → IsClient e
client_over first e c s l r n = record { first = first; unused = record { connection = c; sessions = s; links = l; replies = r; last = n } }

pub has_sent : {L : Type 0} (link : Ghosts L) (a b : End L) (texts : List (List ℕ)) (refused : ℕ) → IsClient a → SentAndLeft link a b texts refused → refused ≡ 0 → HasSentTexts link texts
has_sent link a b texts refused c s none = record { old = a; new = b; client = c; sent = subst (λ (n : ℕ). SentAndLeft link a b texts n) none s }

pub has_received : {L : Type 0} (link : Ghosts L) (a b : End L) (count : ℕ) (w v : Option (List ℕ)) → IsClient a → Received link a b count w v → HasReceived link count w v
has_received link a b count w v c r = record { old = a; new = b; client = c; received = r }
