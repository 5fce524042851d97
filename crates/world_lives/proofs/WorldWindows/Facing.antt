-- Sessions of two ends that face each other keep each other's window.
use Rattle.std.specs.Prelude.{◌≡◌, ℕ, List, ◌++◌, map, refl}
use Rattle.std.proofs.Common.{sym, subst}
use Rattle.amqp_frames.specs.declared.body.FrameBody.{FrameBody}
use Rattle.amqp_frames.specs.declared.body.FrameBody.TheVariants as b
use Rattle.amqp_frames.specs.Body.{read_again_body}
use Rattle.amqp_words.specs.declared.step.End.{End as Side}
use Rattle.amqp_words.specs.declared.step.End.TheVariants.{Client, Listener}
use Rattle.amqp_calls.specs.declared.step.Step.{Step}
use Rattle.amqp_calls.specs.declared.trace.Entry.{Entry}
use Rattle.amqp_session.specs.State.{State as Session}
use Rattle.amqp_sessions.specs.Parts.{EndpointState}
use Rattle.amqp_sessions.specs.State.{State as Sessions}
use Rattle.amqp_links.specs.State.{State as Links, no_links}
use Rattle.amqp_world.specs.History.{other}
use Rattle.amqp_session_world.specs.Turn.{accepts}
use Rattle.amqp_session_world.specs.Carried.{AreCarried}
use Rattle.session_laws.specs.Handing.{heard}
use Rattle.session_laws.specs.Holding.{Move, after_all, handed_all, written}
use Rattle.session_lives.specs.Channels.{IsJoined, AllOn, on}
use Rattle.session_lives.specs.Deeds.{wrote_in}
use Rattle.session_lives.specs.Laws.{SessionLives}
use Rattle.session_lives.specs.Lives.{moves}
use Rattle.window_laws.specs.Starting.{Start, session_of}
use Rattle.window_laws.proofs.Keeps as windows
use Rattle.world_lives.specs.Lived.{Both, sessions_by, Moment, MomentOf, sessions_at, links_at, life}
use Rattle.world_lives.specs.Naming.{AreOnce}
use Rattle.world_lives.specs.Hearing.{are, IsKind, AreFirst, Listens, Speaks, HearsFrom}
use Rattle.world_lives.proofs.Alone.{speaks_alone}
use Rattle.world_lives.proofs.Hearing.{sessions_hear}
use Rattle.world_lives.proofs.Naming.{sessions_are_new}
use Rattle.world_lives.proofs.Once.{names_are_used_once}
use Rattle.world_lives.specs.WorldWindows.Keeping.{is_later, Follows}
use Rattle.world_lives.specs.WorldWindows.Facing.{Faces, IsEven, WindowIsKept, WaitsForTheBegin}
use Rattle.world_lives.proofs.WorldWindows.Later.{writes_more}
use Rattle.world_lives.proofs.WorldWindows.Keeping.{keeps_facing}

again_later : (x : FrameBody) → is_later (read_again_body x) ≡ is_later x
again_later (b.Attach x) = refl
again_later other = refl

later_kind : IsKind is_later
later_kind = record { begins = λ x. refl; again = again_later }

-- the end speaks, and the other end listens
hears_back : (e : Side) (steps : List Step) (entries : List Entry) (k : AreCarried steps entries) (c : ℕ) (p : MomentOf e steps entries k.made) (v : ℕ) (y : EndpointState)
    (a : SessionLives v y (sessions_by p.since) p.sessions (sessions_at e k.made.view) p.goes.sessions_did) (q : MomentOf (other e) steps entries k.made) (n : ℕ) (x : EndpointState)
    (l : SessionLives n x (sessions_by q.since) q.sessions (sessions_at (other e) k.made.view) q.goes.sessions_did) → Listens c n x _ _ _ _ q → Speaks c v y _ _ _ _ p a
    → HearsFrom c _ _ _ _ q _ _ _ _ p (heard (moves l.steps)) (written y.session (moves a.steps))
hears_back Client steps entries k c p v y a q n x l listens talks = sessions_hear Listener steps entries k c q n x l p v y a listens talks
hears_back Listener steps entries k c p v y a q n x l listens talks = sessions_hear Client steps entries k c q n x l p v y a listens talks

-- a session goes through a life, on its channel alone, and listens on that of the other
record FacesAt (near far n : ℕ) (y : EndpointState) (none : Links) (all : List Both) (last : Sessions) (end : Links) (p : Moment none all last end) : Type 0 where
  life : SessionLives n y (sessions_by p.since) p.sessions last p.goes.sessions_did
  listens : Listens far n y none all last end p
  speaks : Speaks near n y none all last end p life
  given : on near (wrote_in (sessions_by p.since)) ++ on near last.output ≡ on near p.sessions.output ++ handed_all y.session (moves life.steps)

faces_at : (near far n : ℕ) (u : Start) (js : List Move) (y : EndpointState) (none : Links) (all : List Both) (last : Sessions) (end : Links) (p : Moment none all last end) → AreOnce all → Faces near far n u js y none all last end p
    → FacesAt near far n y none all last end p
faces_at near far n u js y none all last end p once f =
    let s = sessions_are_new none all last end p once.made in
    let at = f.stands.at in
    let w = speaks_alone n y (sessions_by p.since) p.sessions last p.goes.sessions_did s.sound s.named.since at (s.other n y at) in
    let apart = w.alone near f.alone f.elsewhere in
    record {
      life = w.life;
      listens = record { named = s.named; other = s.other n y at; stands = at; joined = f.joined };
      speaks = record { named = s.named; stands = at; channel = f.channel; apart = apart };
      given = w.life.speaks near f.channel (subst (λ (c : ℕ). AllOn c y.session.output) f.channel (s.sound.speaks n y at)) apart;
    }

-- what it has read, and hears of a session that stands behind those moves
follows : (c : ℕ) (u : Start) (js since : List Move) (t : Start) (ns after : List Move) (x : Session) (none : Links) (all : List Both) (last : Sessions) (end : Links) (p : Moment none all last end) (none' : Links) (all' : List Both) (last' : Sessions) (end' : Links) (q : Moment none' all' last' end')
    → x ≡ after_all (session_of t) ns → IsEven c u js none all last end p t ns none' all' last' end' q → HearsFrom c none all last end p none' all' last' end' q (heard since) (written x after) → Follows u js since t (ns ++ after)
follows c u js since t ns after x none all last end p none' all' last' end' q behind even hears =
    let later = hears.frames is_later later_kind even.channel in
    record {
      gave = handed_all (session_of t) ns;
      rest = written (after_all (session_of t) ns) after;
      whole = sym (writes_more t ns after);
      before = even.session;
      later = subst (λ (z : Session). AreFirst (are is_later (heard since)) (map read_again_body (are is_later (written z after)))) behind later;
    }

pub window_is_kept : WindowIsKept
window_is_kept e steps entries k c d p n u js y q m t ns x here there even back =
    let f = other e in
    let none = no_links (accepts e) in
    let none' = no_links (accepts f) in
    let all = life e steps entries k.made in
    let all' = life f steps entries k.made in
    let last = sessions_at e k.made.view in
    let last' = sessions_at f k.made.view in
    let end = links_at e k.made.view in
    let end' = links_at f k.made.view in
    let r = faces_at d c n u js y none all last end p (names_are_used_once e steps entries k.made) here in
    let w = faces_at c d m t ns x none' all' last' end' q (names_are_used_once f steps entries k.made) there in
    let since = moves r.life.steps in
    let after = moves w.life.steps in
    let forth = sessions_hear e steps entries k c p n y r.life q m x w.life r.listens w.speaks in
    let home = hears_back e steps entries k d p n y r.life q m x w.life w.listens r.speaks in
    let reader = follows c u js since t ns after x.session none all last end p none' all' last' end' q there.stands.behind even forth in
    let writer = follows d t ns after u js since y.session none' all' last' end' q none all last end p here.stands.behind back home in
    record {
      reader = r.life;
      writer = w.life;
      given = w.given;
      kept = λ short.
          keeps_facing t ns after u js since c d (subst (λ (s : Session). IsJoined c s) here.stands.behind here.joined) (subst (λ (s : Session). IsJoined d s) there.stands.behind there.joined) reader writer short;
    }

pub waits_for_the_begin : WaitsForTheBegin
waits_for_the_begin e steps entries m p n u js y s =
    let none = no_links (accepts e) in
    let last = sessions_at e m.view in
    let k = sessions_are_new none (life e steps entries m) last (links_at e m.view) p (names_are_used_once e steps entries m).made in
    let w = speaks_alone n y (sessions_by p.since) p.sessions last p.goes.sessions_did k.sound k.named.since s.at (k.other n y s.at) in
    record { life = w.life; waits = λ none. windows.waits_for_the_begin u (js ++ moves w.life.steps) none }
