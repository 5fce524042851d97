-- Credit that is given at the one end is used at the other, where the tables of both agree with their links.
use Rattle.std.specs.Prelude.{ℕ, List, [], ◌∷◌}
use Rattle.amqp_links.specs.State.{State as Links, no_links}
use Rattle.amqp_session.specs.declared.session.LinkInput.TheVariants as input
use Rattle.amqp_world.specs.History.{other}
use Rattle.amqp_session_world.specs.Turn.{accepts}
use Rattle.session_laws.specs.Crediting.{flows_heard}
use Rattle.session_laws.specs.Giving as giving
use Rattle.session_laws.specs.Handing.{heard, handed_over}
use Rattle.session_laws.specs.Holding as session
use Rattle.session_laws.specs.Speaking.{bodies, brought, flows, flow_on, flows_on, spoken}
use Rattle.link_lives.specs.Deeds as links
use Rattle.link_lives.proofs.Runs.{one_receiver_lives}
use Rattle.session_lives.specs.Lives.{moves}
use Rattle.world_lives.specs.EndLives.Laws.{SenderPasses, IsLed}
use Rattle.world_lives.specs.Lived.{sessions_at, sessions_by, links_at, links_by, life}
use Rattle.world_lives.specs.Hearing.{Listens, read_before, written_before}
use Rattle.world_lives.proofs.Calls.{names_are_new, senders_go}
use Rattle.world_lives.proofs.Naming.{sessions_are_new}
use Rattle.link_tables_agree.specs.Leads.{Leads, LeadsAlong}
use Rattle.link_tables_agree.proofs.Leads.{leads_on}
use Rattle.link_tables_agree.proofs.Sound.{stands_free}
use Rattle.world_lives.proofs.WorldLinks.Agreeing.{links_agree}
use Rattle.world_lives.proofs.WorldLinks.Passing.{takes_first_of}
use Rattle.world_lives.specs.OutcomeLives.Coming.{IsSpeakingReceiver}
use Rattle.world_lives.proofs.OutcomeLives.Among.{among_then}
use Rattle.world_lives.proofs.OutcomeLives.Coming.{hears_back, speaks_at, flows_kept, first_among}
use Rattle.world_lives.proofs.OutcomeLives.Credits.{credit_is_granted}
use Rattle.world_lives.proofs.OutcomeLives.Hearing.{words_are_heard}
use Rattle.world_lives.proofs.OutcomeLives.Saying.{receivers_say}
use Rattle.sender_hears.specs.Laws.{SenderLearns}
use Rattle.sender_hears.proofs.Runs.{one_sender_hears}
use Rattle.world_lives.specs.WordsCarry.Hearing.{IsLedAt, AreLed}
use Rattle.world_lives.specs.WordsCarry.Carrying.{AgreedCreditCarries}
use Rattle.world_lives.proofs.WordsCarry.Hearing.{flows_are_heard, all_short}

-- ---- the handle of the peer leads to the sender as each Flow is heard

led_of : (handle session n : ℕ) (l : Links) → Leads handle session n l → IsLed handle session n l
led_of handle session n l k = record { leads = k.leads; alone = k.alone }

led_at : (handle session n : ℕ) (d : links.Deed) (l : Links) → Leads handle session n l → IsLedAt handle session n d l
led_at handle session n (links.Hears name (input.Flow x)) l k = led_of handle session n l k
led_at handle session n (links.Hears name (input.Transfer x payload)) l k = tt
led_at handle session n (links.Hears name (input.Attach x)) l k = tt
led_at handle session n (links.Hears name (input.Disposition x)) l k = tt
led_at handle session n (links.Hears name (input.Detach x)) l k = tt
led_at handle session n (links.Hears name (input.Left x)) l k = tt
led_at handle session n (links.Hears name (input.Stopped why)) l k = tt
led_at handle session n (links.Hears name input.Over) l k = tt
led_at handle session n (links.Asks name call max) l k = tt
led_at handle session n (links.Hands x) l k = tt
led_at handle session n (links.Knows at) l k = tt
led_at handle session n links.Looks l k = tt
led_at handle session n links.Tells l k = tt

led_along : (handle session n : ℕ) (old : Links) (ds : List links.Deed) (new : Links) (did : links.Did old ds new) → LeadsAlong handle session n old ds new did → AreLed handle session n old ds new did
led_along handle session n old [] new did k = tt
led_along handle session n old (d ∷ ds) new did k = (led_at handle session n d old k.0, led_along handle session n did.0 ds new did.1.1 k.1)

-- ---- two ends

pub agreed_credit_carries : AgreedCreditCarries
agreed_credit_carries e steps entries k c handle p m d u y q n l t x r s =
    let f = other e in
    let none = no_links (accepts e) in
    let none' = no_links (accepts f) in
    let all = life e steps entries k.made in
    let all' = life f steps entries k.made in
    let last = sessions_at e k.made.view in
    let last' = sessions_at f k.made.view in
    let end = links_at e k.made.view in
    let end' = links_at f k.made.view in
    let agree = links_agree (accepts e) all last end p r.once in
    let agree' = links_agree (accepts f) all' last' end' q s.once in
    let here = names_are_new (accepts e) all last end p r.once in
    let there = names_are_new (accepts f) all' last' end' q s.once in
    let keyed = (sessions_are_new none' all' last' end' q s.once.made).sound.keyed in
    let free = stands_free m d p.links agree.sound r.stands in
    let free' = stands_free n l q.links agree'.sound s.stands in
    let speaking : IsSpeakingReceiver c m d u y none all last end p =
    record { once = r.once; stands = r.stands; receives = r.receives; free = free; session = r.session; channel = r.channel; alone = r.alone; elsewhere = r.elsewhere } in
    let g = one_receiver_lives m d u (links_by p.since) p.links end p.goes.links_did r.stands r.receives (here.links m d r.stands) free in
    let v = speaks_at (accepts e) c m d u y all last end p speaking in
    let w = (senders_go (accepts f) all' last' end' q n l t x s.once s.stands s.sends free' s.session s.mapped).passes.life in
    let h : SenderLearns n l.session t (links_by q.since) q.links end' q.goes.links_did = one_sender_hears n l t (links_by q.since) q.links end' q.goes.links_did s.stands s.sends (there.links n l s.stands) free' in
    let passes : SenderPasses n l.session t x q.sessions (sessions_by q.since) last' q.links (links_by q.since) end' q.goes =
    record {
      sender = h.goes;
      life = w;
      takes = λ at alone none. takes_first_of at n l.session t x q.sessions (sessions_by q.since) last' q.links (links_by q.since) end' q.goes keyed s.mapped (there.sessions l.session x s.session) w h.goes alone none;
    } in
    let listens : Listens c l.session x none' all' last' end' q = record { named = there.named; other = there.sessions l.session x s.session; stands = s.session; joined = s.joined } in
    let led = led_along handle l.session n q.links (links_by q.since) end' q.goes.links_did
    (leads_on handle l.session n l q.links (links_by q.since) end' q.goes.links_did agree'.sound agree'.fresh s.stands s.leads s.clear s.quiet) in
    let got = heard (moves w.steps) in
    let gave = session.written y.session (moves v.life.steps) in
    let had = words_are_heard (read_before c none' all' last' end' q) (written_before c none all last end p) got gave (hears_back e steps entries k c p d.session y v.life q l.session x w listens v.speaks) in
    record {
      receiver = g;
      sends = passes;
      comes = λ even untaken apart unheard way short.
          let given = flows_on handle (brought (handed_over x.session (moves w.steps))) in
          let learns = first_among (flows_heard h.goes.moves) given
          (flows_are_heard handle n l.session t x q.sessions (sessions_by q.since) last' q.links (links_by q.since) end' q.goes h w led unheard) in
          credit_is_granted handle t h.goes.moves x.session (moves w.steps) y.session (moves v.life.steps) u g.moves
          (record {
            told = way.told;
            orders = way.orders;
            unsaid = way.unsaid;
            takes = among_then (flows_on handle (spoken y.session (moves v.life.steps))) (flows_on handle (giving.written u g.moves)) (flows (giving.written u g.moves))
                (receivers_say (flow_on handle) m d.session u y p.sessions (sessions_by p.since) last p.links (links_by p.since) end p.goes g v.life untaken apart) (flows_kept handle (giving.written u g.moves));
            hears = first_among (flows_on handle (bodies got)) (flows_on handle (bodies gave)) (had.credit handle even);
            unhanded = way.unhanded;
            learns = learns;
            credit = way.credit;
            short = all_short h.goes.moves given learns short;
          });
    }
