-- What follows of a run for the bytes of its link.
use Rattle.std.proofs.Common.{◌≡◌, ◌∙◌, ℕ, ◌≤◌, length, List, [], Option, sym, subst}
use Rattle.std.proofs.lemmas.List.{append-nil}
use Rattle.amqp_wire.specs.declared.link.Link.{Ghosts}
use Rattle.amqp_end.specs.declared.end.End.{End}
use Rattle.amqp_end.specs.Deeds.{Deed, heard_by}
use Rattle.amqp_peer.specs.declared.peer.PeerKind.{PeerKind}
use Rattle.amqp_session_world.specs.Lives.{unlived}
use Rattle.amqp_serve.specs.Deeds.{deeds_in}
use Rattle.amqp_serve.specs.Endings.{WasServed, ServedAndTold}
use Rattle.served_connection.specs.ServeLaws.History.{IsFresh, accepts}
use Rattle.served_connection.specs.ServeLaws.Runs.{served_life}
use Rattle.served_connection.proofs.ServeLaws.Deeds.{lives_do}
use Rattle.served_connection.proofs.ServeLaws.Runs.{served_run}
use Rattle.served_connection.specs.ListenLaws.Carried.{AreAnew, carried}
use Rattle.served_connection.specs.ListenLaws.Ended.{ended_in}
use Rattle.served_connection.specs.ListenLaws.Laws.{IsIdle}
use Rattle.served_connection.proofs.ListenLaws.Runs.{served_came, served_whole}
use Rattle.served_connection.specs.Bytes.{Served}

-- the deeds of its life are those of its turns
same_deeds : {L : Type 0} (link : Ghosts L) (old new : End L) (count : ℕ) (s : WasServed link old new count) → deeds_in link old s.turns new s.ran ≡ (served_life link old new count s).deeds
same_deeds link old new count s = sym (lives_do link old new s.turns unlived s.ran ∙ append-nil (deeds_in link old s.turns new s.ran))

idle_of : {L : Type 0} (first : L) (kind : PeerKind) (e : End L) → IsFresh first kind e → IsIdle e
idle_of first kind e k = record { accepts = accepts kind; sessions = k.sessions; links = k.links; replies = k.replies }

pub served_by : {L : Type 0} (link : Ghosts L) (first : L) (kind : PeerKind) (old new : End L) (w v : Option (List ℕ)) → IsFresh first kind old → ServedAndTold link old new w v → Served link first old new w v
served_by link first kind old new w v fresh s =
    let idle = idle_of first kind old fresh in
    let same = same_deeds link old new s.count s.served in
    record {
      count = s.count;
      served = s.served;
      wrote = s.wrote;
      frames = served_run link first kind old new s.count s.served fresh;
      came = subst (λ (ds : List Deed). s.count ≤ ended_in (heard_by ds)) same (served_came link old new s.count s.served idle);
      whole = subst (λ (ds : List Deed). AreAnew (heard_by ds) → s.count ≤ length (carried [] (heard_by ds))) same (served_whole link old new s.count s.served idle);
    }
