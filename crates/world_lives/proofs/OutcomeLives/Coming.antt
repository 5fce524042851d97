-- Outcomes and credit come back over two ends.
use Rattle.std.specs.Prelude.{ℕ, Bool, true, false, List, [], ◌∷◌, refl}
use Rattle.std.proofs.Common.{sym, ◌∙◌, subst, inl}
use Rattle.std.proofs.lemmas.List.{append-nil}
use Rattle.amqp_words.specs.declared.step.End.{End as Side}
use Rattle.amqp_words.specs.declared.step.End.TheVariants.{Client, Listener}
use Rattle.amqp_calls.specs.declared.step.Step.{Step}
use Rattle.amqp_calls.specs.declared.trace.Entry.{Entry}
use Rattle.amqp_frames.specs.declared.body.FrameBody.{FrameBody}
use Rattle.amqp_frames.specs.declared.body.FrameBody.TheVariants as b
use Rattle.amqp_link_calls.specs.Called.{Called}
use Rattle.amqp_links.specs.State.{State as Links, no_links}
use Rattle.amqp_performatives.specs.declared.flow.Flow.{Flow}
use Rattle.amqp_receiver.specs.Receiver.{State as ReceiverState}
use Rattle.amqp_sessions.specs.Parts.{EndpointState}
use Rattle.amqp_sessions.specs.State.{State as Sessions}
use Rattle.amqp_world.specs.History.{other}
use Rattle.amqp_session_world.specs.Carried.{AreCarried}
use Rattle.amqp_session_world.specs.Turn.{accepts}
use Rattle.session_laws.specs.Giving.{Ruling, given}
use Rattle.session_laws.specs.Giving as giving
use Rattle.session_laws.specs.Handing.{heard}
use Rattle.session_laws.specs.Holding as session
use Rattle.session_laws.specs.Laws.{Path}
use Rattle.session_laws.specs.Outcomes.{Told}
use Rattle.session_laws.specs.Speaking.{AreAmong, bodies, ruling_in, rulings, flow_in, flows, flow_if, is_on, flow_on, flows_on, spoken}
use Rattle.session_lives.specs.Laws.{SessionLives}
use Rattle.session_lives.specs.Lives.{moves}
use Rattle.link_lives.proofs.Runs.{one_receiver_lives}
use Rattle.world_lives.proofs.EndLives.Handles.{send_on_their_handle}
use Rattle.world_lives.specs.Lived.{Both, sessions_at, sessions_by, links_at, links_by, life, Moment, MomentOf}
use Rattle.world_lives.specs.Hearing.{Listens, Speaks, HearsFrom, read_before, written_before}
use Rattle.world_lives.proofs.Alone.{speaks_alone}
use Rattle.world_lives.proofs.Calls.{names_are_new, senders_go, receivers_go}
use Rattle.world_lives.proofs.Hearing.{sessions_hear}
use Rattle.world_lives.proofs.Naming.{sessions_are_new}
use Rattle.world_lives.specs.OutcomeLives.Hearing.{AreFirst}
use Rattle.world_lives.specs.OutcomeLives.Coming.{IsSpeakingReceiver, CreditIsCarried, OutcomesAreCarried}
use Rattle.world_lives.proofs.OutcomeLives.Among.{among_then, among_whole, among_both}
use Rattle.world_lives.proofs.OutcomeLives.Credits.{credit_is_granted}
use Rattle.world_lives.proofs.OutcomeLives.Hearing.{words_are_heard}
use Rattle.world_lives.proofs.OutcomeLives.Returning.{outcomes_return}
use Rattle.world_lives.proofs.OutcomeLives.Saying.{receivers_say}

-- ---- the other way round

-- the end speaks, and the other end listens
pub hears_back : (e : Side) (steps : List Step) (entries : List Entry) (k : AreCarried steps entries) (c : ℕ) (p : MomentOf e steps entries k.made) (v : ℕ) (y : EndpointState)
    (a : SessionLives v y (sessions_by p.since) p.sessions (sessions_at e k.made.view) p.goes.sessions_did) (q : MomentOf (other e) steps entries k.made) (n : ℕ) (x : EndpointState)
    (l : SessionLives n x (sessions_by q.since) q.sessions (sessions_at (other e) k.made.view) q.goes.sessions_did) → Listens c n x _ _ _ _ q → Speaks c v y _ _ _ _ p a
    → HearsFrom c _ _ _ _ q _ _ _ _ p (heard (moves l.steps)) (session.written y.session (moves a.steps))
hears_back Client steps entries k c p v y a q n x l listens talks = sessions_hear Listener steps entries k c q n x l p v y a listens talks
hears_back Listener steps entries k c p v y a q n x l listens talks = sessions_hear Client steps entries k c q n x l p v y a listens talks

-- a receiver's session goes through a life, alone on its channel
pub record SpeaksAt (c m : ℕ) (d : Called) (u : ReceiverState) (y : EndpointState) (none : Links) (all : List Both) (last : Sessions) (end : Links) (p : Moment none all last end) : Type 0 where
  pub life : SessionLives d.session y (sessions_by p.since) p.sessions last p.goes.sessions_did
  pub speaks : Speaks c d.session y none all last end p life

pub speaks_at : (acc : Bool) (c m : ℕ) (d : Called) (u : ReceiverState) (y : EndpointState) (all : List Both) (last : Sessions) (end : Links) (p : Moment (no_links acc) all last end) → IsSpeakingReceiver c m d u y (no_links acc) all last end p
    → SpeaksAt c m d u y (no_links acc) all last end p
speaks_at acc c m d u y all last end p r =
    let s = sessions_are_new (no_links acc) all last end p r.once.made in
    let w = speaks_alone d.session y (sessions_by p.since) p.sessions last p.goes.sessions_did s.sound s.named.since r.session (s.other d.session y r.session) in
    record {
      life = w.life;
      speaks = record { named = s.named; stands = r.session; channel = r.channel; apart = w.alone c r.alone r.elsewhere };
    }

-- ---- credit

-- a Flow on a handle is a Flow
flow_kept : (x : Flow) (c : Bool) → AreAmong (flow_if c x) (x ∷ [])
flow_kept x true = (inl refl, tt)
flow_kept x false = tt

flow_one : (handle : ℕ) (x : FrameBody) → AreAmong (flow_on handle x) (flow_in x)
flow_one handle (b.Flow x) = flow_kept x (is_on handle x.handle)
flow_one handle other = tt

pub flows_kept : (handle : ℕ) (xs : List FrameBody) → AreAmong (flows_on handle xs) (flows xs)
flows_kept handle [] = tt
flows_kept handle (x ∷ xs) = among_both (flow_on handle x) (flows_on handle xs) (flow_in x) (flows xs) (flow_one handle x) (flows_kept handle xs)

pub first_among : {X : Type 0} → (xs ys : List X) → AreFirst xs ys → AreAmong xs ys
first_among xs ys p = among_whole xs p.later ys p.whole

pub credit_is_carried : CreditIsCarried
credit_is_carried e steps entries k c handle p m d u y q n l t x r s =
    let f = other e in
    let none = no_links (accepts e) in
    let none' = no_links (accepts f) in
    let all = life e steps entries k.made in
    let all' = life f steps entries k.made in
    let last = sessions_at e k.made.view in
    let last' = sessions_at f k.made.view in
    let end = links_at e k.made.view in
    let end' = links_at f k.made.view in
    let here = names_are_new (accepts e) all last end p r.once in
    let there = names_are_new (accepts f) all' last' end' q s.once in
    let g = one_receiver_lives m d u (links_by p.since) p.links end p.goes.links_did r.stands r.receives (here.links m d r.stands) r.free in
    let w = speaks_at (accepts e) c m d u y all last end p r in
    let a = senders_go (accepts f) all' last' end' q n l t x s.once s.stands s.sends s.free s.session s.mapped in
    let listens : Listens c l.session x none' all' last' end' q = record { named = there.named; other = there.sessions l.session x s.session; stands = s.session; joined = s.joined } in
    let got = heard (moves a.passes.life.steps) in
    let gave = session.written y.session (moves w.life.steps) in
    let h = words_are_heard (read_before c none' all' last' end' q) (written_before c none all last end p) got gave (hears_back e steps entries k c p d.session y w.life q l.session x a.passes.life listens w.speaks) in
    record {
      receiver = g;
      sends = a.passes;
      comes = λ even untaken apart way hears.
          credit_is_granted handle t a.passes.sender.moves x.session (moves a.passes.life.steps) y.session (moves w.life.steps) u g.moves
          (record {
            told = way.told;
            orders = way.orders;
            unsaid = way.unsaid;
            takes = among_then (flows_on handle (spoken y.session (moves w.life.steps))) (flows_on handle (giving.written u g.moves)) (flows (giving.written u g.moves))
                (receivers_say (flow_on handle) m d.session u y p.sessions (sessions_by p.since) last p.links (links_by p.since) end p.goes g w.life untaken apart) (flows_kept handle (giving.written u g.moves));
            hears = first_among (flows_on handle (bodies got)) (flows_on handle (bodies gave)) (h.credit handle even);
            unhanded = way.unhanded;
            learns = hears.learns;
            credit = way.credit;
            short = hears.short;
          });
    }

-- ---- outcomes

pub outcomes_are_carried : OutcomesAreCarried
outcomes_are_carried e steps entries k c back handle p m d u y q n l t x r v s z =
    let f = other e in
    let none = no_links (accepts e) in
    let none' = no_links (accepts f) in
    let all = life e steps entries k.made in
    let all' = life f steps entries k.made in
    let last = sessions_at e k.made.view in
    let last' = sessions_at f k.made.view in
    let end = links_at e k.made.view in
    let end' = links_at f k.made.view in
    let here = names_are_new (accepts e) all last end p r.once in
    let there = names_are_new (accepts f) all' last' end' q s.once in
    let reading = receivers_go (accepts e) all last end p m d u y r.once r.stands r.receives r.free r.session in
    let w = speaks_at (accepts e) back m d u y all last end p v in
    let a = senders_go (accepts f) all' last' end' q n l t x s.once s.stands s.sends s.free s.session s.mapped in
    let ns = moves a.passes.life.steps in
    let js = moves reading.life.steps in
    let is = moves w.life.steps in
    let ms = a.passes.sender.moves in
    let ks = reading.receiver.moves in
    let hears_parts : Listens c d.session y none all last end p = record { named = here.named; other = here.sessions d.session y r.session; stands = r.session; joined = r.joined } in
    let says_parts : Speaks c l.session x none' all' last' end' q a.passes.life = record { named = there.named; stands = s.session; channel = s.channel; apart = a.alone c s.alone s.elsewhere } in
    let forth = sessions_hear e steps entries k c p d.session y reading.life q l.session x a.passes.life hears_parts says_parts in
    let listens : Listens back l.session x none' all' last' end' q = record { named = there.named; other = there.sessions l.session x s.session; stands = s.session; joined = z.joined } in
    let got = heard ns in
    let gave = session.written y.session is in
    let h = words_are_heard (read_before back none' all' last' end' q) (written_before back none all last end p) got gave (hears_back e steps entries k back p d.session y w.life q l.session x a.passes.life listens w.speaks) in
    record {
      receives = reading;
      sends = a.passes;
      come = λ even apart untaken led unread both still unsaid alone way hears.
          let i = a.passes.takes handle apart untaken in
          let j = reading.reads handle led unread in
          let parts = forth.parts handle even in
          let path : Path handle t ms x.session ns y.session js u ks =
          record {
            attached = both.attached;
            unsent = both.unsent;
            unheld = both.unheld;
            unwritten = both.unwritten;
            stays = both.stays;
            begun = both.begun;
            unhanded = both.unhanded;
            ready = both.ready;
            mine = both.mine;
            theirs = both.theirs;
            sends_by = both.sends_by;
            receives_by = both.receives_by;
            untold = i.rest;
            takes = i.front ∙ send_on_their_handle handle t ms both.attached both.holds both.unsent;
            unheard = parts.rest;
            hears = parts.front;
            unread = j.rest;
            reads = j.front;
          } in
          let says = receivers_say ruling_in m d.session u y p.sessions (sessions_by p.since) last p.links (links_by p.since) end p.goes reading.receiver w.life unsaid alone in
          let wrote = giving.written u ks in
          let told = outcomes_return handle t ms x.session ns y.session js is u ks [] path
          (record {
            silent = (way.silent, tt);
            unsaid = way.unsaid;
            takes = subst (λ (xs : List FrameBody). AreAmong (rulings (spoken y.session is)) (rulings xs)) (sym (append-nil wrote)) says;
            hears = first_among (rulings (bodies got)) (rulings (bodies gave)) (h.deliveries still);
            unhanded = way.unhanded;
            unleft = way.unleft;
            steps = hears.steps;
            reads = hears.reads;
            short = hears.short;
            learns = hears.learns;
            unsettled = way.unsettled;
            unknown = way.unknown;
            apart = hears.apart;
          }) in
          subst (λ (xs : List Ruling). Told t ms u ks xs) (append-nil (given u ks)) told;
    }
