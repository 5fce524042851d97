-- Messages that are sent at the one end arrive at the other.
use Rattle.amqp_links.specs.State.{no_links}
use Rattle.amqp_world.specs.History.{other}
use Rattle.amqp_session_world.specs.Turn.{accepts}
use Rattle.world_lives.proofs.EndLives.Between.{messages_pass}
use Rattle.world_lives.specs.Lived.{sessions_at, sessions_by, links_at, links_by, life}
use Rattle.world_lives.specs.Hearing.{Listens, Speaks}
use Rattle.world_lives.specs.Arriving.{MessagesArrive, LinksCarry}
use Rattle.world_lives.proofs.Hearing.{sessions_hear}
use Rattle.world_lives.proofs.Calls.{names_are_new, senders_go, receivers_go}

pub messages_arrive : MessagesArrive
messages_arrive e steps entries k c handle p m w u y b q n v t x a listens talks even apart untaken led unread both =
    let hears = (sessions_hear e steps entries k c p w y b.life q v x a.life listens talks).parts handle even in
    messages_pass handle n v t x q.sessions (sessions_by q.since) (sessions_at (other e) k.made.view) q.links (links_by q.since) (links_at (other e) k.made.view) q.goes a
    m w u y p.sessions (sessions_by p.since) (sessions_at e k.made.view) p.links (links_by p.since) (links_at e k.made.view) p.goes b
    apart untaken led unread
    (record {
      attached = both.attached;
      unsent = both.unsent;
      holds = both.holds;
      unheld = both.unheld;
      unwritten = both.unwritten;
      stays = both.stays;
      begun = both.begun;
      unhanded = both.unhanded;
      ready = both.ready;
      mine = both.mine;
      theirs = both.theirs;
      sends_by = both.sends_by;
      receives_by = both.receives_by;
      unheard = hears.rest;
      hears = hears.front;
    })

pub links_carry : LinksCarry
links_carry e steps entries k c handle p m d u y q n l t x r s =
    let f = other e in
    let all = life e steps entries k.made in
    let all' = life f steps entries k.made in
    let last = sessions_at e k.made.view in
    let last' = sessions_at f k.made.view in
    let end = links_at e k.made.view in
    let end' = links_at f k.made.view in
    let b = receivers_go (accepts e) all last end p m d u y r.once r.stands r.receives r.free r.session in
    let a = senders_go (accepts f) all' last' end' q n l t x s.once s.stands s.sends s.free s.session s.mapped in
    let here = names_are_new (accepts e) all last end p r.once in
    let there = names_are_new (accepts f) all' last' end' q s.once in
    let listens : Listens c d.session y (no_links (accepts e)) all last end p = record { named = here.named; other = here.sessions d.session y r.session; stands = r.session; joined = r.joined } in
    let speaks : Speaks c l.session x (no_links (accepts f)) all' last' end' q a.passes.life = record { named = there.named; stands = s.session; channel = s.channel; apart = a.alone c s.alone s.elsewhere } in
    record {
      receives = b;
      sends = a.passes;
      arrive = λ even apart untaken led unread both.
          messages_arrive e steps entries k c handle p m d.session u y b q n l.session t x a.passes listens speaks even apart untaken led unread both;
    }
