-- Messages that are sent at the one end arrive at the other, where the tables of both agree with their links.
use Rattle.std.specs.Prelude.{◌≡◌, ℕ, true, List}
use Rattle.amqp_words.specs.declared.step.End.{End as Side}
use Rattle.amqp_calls.specs.declared.step.Step.{Step}
use Rattle.amqp_calls.specs.declared.trace.Entry.{Entry}
use Rattle.amqp_link_calls.specs.Called.{Called}
use Rattle.amqp_links.specs.Parts.{is_heard}
use Rattle.amqp_links.specs.State.{State as Links, no_links}
use Rattle.amqp_receiver.specs.Receiver.{State as ReceiverState}
use Rattle.amqp_sender.specs.Sender.{State as SenderState}
use Rattle.amqp_sessions.specs.Parts.{EndpointState}
use Rattle.amqp_sessions.specs.State.{State as Sessions}
use Rattle.amqp_world.specs.History.{other}
use Rattle.amqp_session_world.specs.Turn.{accepts}
use Rattle.amqp_session_world.specs.Carried.{AreCarried}
use Rattle.session_laws.specs.Handing.{heard}
use Rattle.session_laws.specs.Holding.{transfers as transfers_in, written}
use Rattle.session_laws.specs.Messages.{on as on_handle}
use Rattle.link_lives.specs.Deeds.{AreApart}
use Rattle.session_lives.specs.Lives.{moves}
use Rattle.world_lives.specs.EndLives.Laws.{SenderPasses, ReceiverPasses, IsFront, AreLed}
use Rattle.link_tables_agree.proofs.Sends.{sends_apart}
use Rattle.link_tables_agree.proofs.Sound.{stands_free}
use Rattle.world_lives.specs.Lived.{Both, sessions_at, sessions_by, links_at, links_by, life, Moment, MomentOf}
use Rattle.world_lives.specs.Hearing.{Listens, Speaks, read_before, written_before}
use Rattle.world_lives.proofs.EndLives.Between.{messages_pass}
use Rattle.world_lives.proofs.Hearing.{sessions_hear}
use Rattle.world_lives.proofs.Calls.{names_are_new, senders_go, receivers_go}
use Rattle.world_lives.proofs.Naming.{sessions_are_new}
use Rattle.world_lives.specs.WorldLinks.Carrying.{Receives, Sends, AgreedLinksCarry}
use Rattle.world_lives.proofs.WorldLinks.Agreeing.{links_agree, handles_lead}
use Rattle.world_lives.proofs.WorldLinks.Passing.{takes_first_of}

-- a sender and a receiver that go on by moves, what the one session hears of the other, and that the link is apart from others
pub record Passes (c handle m n : ℕ) (d l : Called) (u : ReceiverState) (t : SenderState) (y x : EndpointState) (none : Links) (all : List Both) (last : Sessions) (end : Links) (p : Moment none all last end) (none' : Links) (all' : List Both) (last' : Sessions) (end' : Links)
    (q : Moment none' all' last' end') : Type 0 where
  pub receives : ReceiverPasses m d.session u y p.sessions (sessions_by p.since) last p.links (links_by p.since) end p.goes
  pub sends : SenderPasses n l.session t x q.sessions (sessions_by q.since) last' q.links (links_by q.since) end' q.goes
  pub hears : on_handle handle (transfers_in (read_before c none all last end p)) ≡ on_handle handle (transfers_in (written_before c none' all' last' end' q))
      → IsFront (on_handle handle (transfers_in (heard (moves receives.life.steps)))) (on_handle handle (transfers_in (written x.session (moves sends.life.steps))))
  pub apart : is_heard sends.sender.link ≡ true → t.link.own.handle ≡ handle → AreApart handle l.session n sends.sender.log
  pub led : AreLed handle d.session m p.links (links_by p.since) end p.goes.links_did

pub agreed_passes : (e : Side) (steps : List Step) (entries : List Entry) (k : AreCarried steps entries) (c handle : ℕ) (p : MomentOf e steps entries k.made) (m : ℕ) (d : Called) (u : ReceiverState) (y : EndpointState) (q : MomentOf (other e) steps entries k.made) (n : ℕ) (l : Called)
    (t : SenderState) (x : EndpointState) → Receives c handle m d u y _ _ _ _ p → Sends c n l t x _ _ _ _ q → Passes c handle m n d l u t y x _ _ _ _ p _ _ _ _ q
agreed_passes e steps entries k c handle p m d u y q n l t x r s =
    let f = other e in
    let all = life e steps entries k.made in
    let all' = life f steps entries k.made in
    let last = sessions_at e k.made.view in
    let last' = sessions_at f k.made.view in
    let end = links_at e k.made.view in
    let end' = links_at f k.made.view in
    let agree = links_agree (accepts e) all last end p r.once in
    let agree' = links_agree (accepts f) all' last' end' q s.once in
    let b = receivers_go (accepts e) all last end p m d u y r.once r.stands r.receives (stands_free m d p.links agree.sound r.stands) r.session in
    let a = senders_go (accepts f) all' last' end' q n l t x s.once s.stands s.sends (stands_free n l q.links agree'.sound s.stands) s.session s.mapped in
    let here = names_are_new (accepts e) all last end p r.once in
    let there = names_are_new (accepts f) all' last' end' q s.once in
    let keyed = (sessions_are_new (no_links (accepts f)) all' last' end' q s.once.made).sound.keyed in
    let w = a.passes.life in
    let g = sends_apart n l t (links_by q.since) q.links end' q.goes.links_did agree'.sound agree'.fresh s.stands s.sends in
    let passes : SenderPasses n l.session t x q.sessions (sessions_by q.since) last' q.links (links_by q.since) end' q.goes =
    record {
      sender = g.sender;
      life = w;
      takes = λ at alone none. takes_first_of at n l.session t x q.sessions (sessions_by q.since) last' q.links (links_by q.since) end' q.goes keyed s.mapped (there.sessions l.session x s.session) w g.sender alone none;
    } in
    let listens : Listens c d.session y (no_links (accepts e)) all last end p = record { named = here.named; other = here.sessions d.session y r.session; stands = r.session; joined = r.joined } in
    let speaks : Speaks c l.session x (no_links (accepts f)) all' last' end' q w = record { named = there.named; stands = s.session; channel = s.channel; apart = a.alone c s.alone s.elsewhere } in
    record {
      receives = b;
      sends = passes;
      hears = (sessions_hear e steps entries k c p d.session y b.life q l.session x w listens speaks).parts handle;
      apart = λ heard holds. g.apart handle holds heard;
      led = handles_lead handle d.session m d p.links (links_by p.since) end p.goes.links_did agree.sound agree.fresh r.stands r.leads r.clear r.quiet;
    }

pub agreed_links_carry : AgreedLinksCarry
agreed_links_carry e steps entries k c handle p m d u y q n l t x r s =
    let f = other e in
    let a = agreed_passes e steps entries k c handle p m d u y q n l t x r s in
    record {
      receives = a.receives;
      sends = a.sends;
      arrive = λ heard even untaken unread both.
          let hears = a.hears even in
          messages_pass handle n l.session t x q.sessions (sessions_by q.since) (sessions_at f k.made.view) q.links (links_by q.since) (links_at f k.made.view) q.goes a.sends
          m d.session u y p.sessions (sessions_by p.since) (sessions_at e k.made.view) p.links (links_by p.since) (links_at e k.made.view) p.goes a.receives
          (a.apart heard both.holds) untaken a.led unread
          (record {
            attached = both.attached;
            unsent = both.unsent;
            holds = both.holds;
            unheld = both.unheld;
            unwritten = both.unwritten;
            stays = both.stays;
            begun = both.begun;
            unhanded = both.unhanded;
            ready = both.ready;
            mine = both.mine;
            theirs = both.theirs;
            sends_by = both.sends_by;
            receives_by = both.receives_by;
            unheard = hears.rest;
            hears = hears.front;
          });
    }
