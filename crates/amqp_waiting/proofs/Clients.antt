-- What clients leave in the bytes of their links.
use Rattle.std.proofs.Common.{ℕ, zero, suc, List, [], ◌∷◌, ◌++◌, Option}
use Rattle.amqp_wire.specs.declared.link.Link.{Ghosts}
use Rattle.served_connection.specs.amqp_end.declared.end.End.{End}
use Rattle.served_connection.specs.amqp_peer.declared.peer.PeerKind.TheVariants.{Client}
use Rattle.amqp_serve.specs.Ran.{Ran}
use Rattle.amqp_serve.proofs.Runs.{ran_then}
use Rattle.served_connection.specs.ServeLaws.History.{IsFresh}
use Rattle.served_connection.proofs.ServeLaws.Runs.{left_run}
use Rattle.amqp_clients.specs.Clients.{IsUnused, HasSentTexts, HasReceived}
use Rattle.amqp_clients.specs.Delivered.{Delivered, GotAll, delivered_turns, got_turns}
use Rattle.amqp_waiting.specs.Sockets.{SentTexts, GotMessages}

fresh_of : {L : Type 0} (first : L) (e : End L) → IsUnused first e → IsFresh first Client e
fresh_of first e u = record { connection = u.connection; sessions = u.sessions; links = u.links; replies = u.replies; last = u.last }

-- ---- messages that were sent

delivered_ran : {L : Type 0} (link : Ghosts L) (a : End L) (texts : List (List ℕ)) (refused : ℕ) (b : End L) (d : Delivered link a texts refused b) → Ran link a (delivered_turns link a texts refused b d) b
unfolding Delivered
delivered_ran link a [] refused b d = d.0.ran
delivered_ran link a (text ∷ texts) refused b d =
    ran_then link a d.0 b d.3.settled.turns (delivered_turns link d.0 texts d.2 b d.4) d.3.settled.ran (delivered_ran link d.0 texts d.2 b d.4)

pub sent_texts : {L : Type 0} (link : Ghosts L) (texts : List (List ℕ)) → HasSentTexts link texts → SentTexts link texts
sent_texts link texts x =
    let between = x.sent.between in
    let turns = delivered_turns link x.old texts 0 between x.sent.delivered in
    let ran = delivered_ran link x.old texts 0 between x.sent.delivered in
    let fresh = fresh_of x.client.first x.old x.client.unused in
    record {
      first = x.client.first;
      old = x.old;
      new = x.new;
      fresh = fresh;
      sent = x.sent;
      ran = ran;
      frames = left_run link x.client.first Client x.old between x.new turns ran x.sent.left fresh;
    }

-- ---- messages that were received

got_ran : {L : Type 0} (link : Ghosts L) (a : End L) (receiver : ℕ) (w : Option (List ℕ)) (n : ℕ) (b : End L) (v : Option (List ℕ)) (g : GotAll link a receiver w n b v) → Ran link a (got_turns link a receiver w n b v g) b
unfolding GotAll
got_ran link a receiver w zero b v g = g.0.ran
got_ran link a receiver w (suc n) b v g =
    let before = got_turns link a receiver w n g.0 g.1 g.2 in
    ran_then link a g.3.between b (g.3.gave.turns ++ before) g.3.accepted.turns
    (ran_then link a g.0 g.3.between before g.3.gave.turns (got_ran link a receiver w n g.0 g.1 g.2) g.3.gave.ran) g.3.accepted.ran

pub got_messages : {L : Type 0} (link : Ghosts L) (count : ℕ) (w v : Option (List ℕ)) → HasReceived link count w v → GotMessages link count w v
got_messages link count w v x =
    let between = x.received.between in
    let turns = got_turns link x.old x.received.receiver w count between v x.received.got in
    let ran = got_ran link x.old x.received.receiver w count between v x.received.got in
    let fresh = fresh_of x.client.first x.old x.client.unused in
    record {
      first = x.client.first;
      old = x.old;
      new = x.new;
      fresh = fresh;
      received = x.received;
      ran = ran;
      frames = left_run link x.client.first Client x.old between x.new turns ran x.received.left fresh;
    }
