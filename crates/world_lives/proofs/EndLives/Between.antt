-- Two ends and a link between them.
use Rattle.std.proofs.Common.{◌∙◌}
use Rattle.session_laws.proofs.Paths.{messages_arrive_in_order}
use Rattle.session_lives.specs.Lives.{moves}
use Rattle.world_lives.specs.EndLives.Between.{MessagesPass}
use Rattle.world_lives.proofs.EndLives.Handles.{send_on_their_handle}

pub messages_pass : MessagesPass
messages_pass handle n v t e s sd s' l ld l' k a m w u f z zd z' y yd y' j b apart untaken led unread meet =
    let p = a.takes handle apart untaken in
    let q = b.reads handle led unread in
    messages_arrive_in_order handle t a.sender.moves e.session (moves a.life.steps) f.session (moves b.life.steps) u b.receiver.moves
    (record {
      attached = meet.attached;
      unsent = meet.unsent;
      unheld = meet.unheld;
      unwritten = meet.unwritten;
      stays = meet.stays;
      begun = meet.begun;
      unhanded = meet.unhanded;
      ready = meet.ready;
      mine = meet.mine;
      theirs = meet.theirs;
      sends_by = meet.sends_by;
      receives_by = meet.receives_by;
      untold = p.rest;
      takes = p.front ∙ send_on_their_handle handle t a.sender.moves meet.attached meet.holds meet.unsent;
      unheard = meet.unheard;
      hears = meet.hears;
      unread = q.rest;
      reads = q.front;
    })
