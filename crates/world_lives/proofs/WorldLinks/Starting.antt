-- The first link between two ends on a handle of a session.
use Rattle.std.specs.Prelude.{◌≡◌, ℕ, nat_eq, true, false, List, [], ◌∷◌, ◌++◌, refl}
use Rattle.std.proofs.Common.{sym, ◌∙◌, ap, subst, eq-eqb}
use Rattle.std.proofs.lemmas.Bool.{ne_eqb}
use Rattle.amqp_links.specs.State.{no_links}
use Rattle.amqp_world.specs.History.{other}
use Rattle.amqp_session_world.specs.Turn.{accepts}
use Rattle.session_laws.specs.Holding.{transfers as transfers_in}
use Rattle.session_laws.specs.Messages.{on as on_handle}
use Rattle.session_lives.specs.Lives.{moves}
use Rattle.session_lives.specs.Deeds.{Deed, Begins, Awaits, Accepts, Refuses, Ends, HandsOut, Halts, Concludes, Hears, Writes, Frees, Gives, Takes, Lacks, Tells, AreOther}
use Rattle.world_lives.specs.Lived.{Both, sessions_at, sessions_by, links_at, life}
use Rattle.world_lives.specs.Hearing.{read_before, written_before}
use Rattle.world_lives.specs.Alone.{AreElsewhere}
use Rattle.world_lives.proofs.Joins.{sessions_by_more}
use Rattle.world_lives.proofs.Calls.{names_are_new}
use Rattle.world_lives.proofs.Once.{names_are_used_once}
use Rattle.world_lives.specs.WorldLinks.Carrying as agreed
use Rattle.world_lives.proofs.EndLives.Handles.{send_on_their_handle}
use Rattle.world_lives.proofs.WorldLinks.Carrying.{agreed_passes}
use Rattle.first_messages.proofs.Limits.{messages_arrive_within}
use Rattle.first_messages.proofs.Lists.{none_first}
use Rattle.first_messages.specs.Writing.{AreOwn}
use Rattle.world_lives.proofs.WorldLinks.Reading.{read_was_written}
use Rattle.world_lives.proofs.WorldLinks.First.{none_is_written, none_is_read}
use Rattle.world_lives.proofs.WorldLinks.Unsent.{unsent_gave_none}
use Rattle.world_lives.specs.WorldLinks.Starting.{FirstLinksCarry}
use Rattle.world_lives.specs.WorldLinks.Cutting.{AreBehind}
use Rattle.world_lives.specs.WorldLinks.Unsent.{UnsentLinksCarry, LinksCarryFromTheStart}

-- ---- the sessions on a channel

own_first : (c v : ℕ) (ds es : List Deed) → AreOwn c v (ds ++ es) → AreOwn c v ds
own_first c v [] es h = tt
own_first c v (d ∷ ds) es h = (h.0, own_first c v ds es h.1)

own_last : (c v : ℕ) (ds es : List Deed) → AreOwn c v (ds ++ es) → AreOwn c v es
own_last c v [] es h = h
own_last c v (d ∷ ds) es h = own_last c v ds es h.1

-- another session is on another channel
far : (c v name channel : ℕ) → (channel ≡ c → name ≡ v) → nat_eq v name ≡ false → nat_eq c channel ≡ false
far c v name channel own other = ne_eqb c channel (λ e. bad (sym (eq-eqb v name (sym (own (sym e)))) ∙ other))
  where
    bad : true ≡ false → ⊥
    bad e = cc

elsewhere : (c v : ℕ) (ds : List Deed) → AreOwn c v ds → AreOther v ds → AreElsewhere c ds
elsewhere c v [] own other = tt
elsewhere c v (Begins name x channel limit ∷ ds) own other = (far c v name channel own.0 other.0, elsewhere c v ds own.1 other.1)
elsewhere c v (Accepts name x channel limit incoming ∷ ds) own other = (far c v name channel own.0 other.0, elsewhere c v ds own.1 other.1)
elsewhere c v (Awaits name x ∷ ds) own other = (tt, elsewhere c v ds own.1 other.1)
elsewhere c v (Refuses name why ∷ ds) own other = (tt, elsewhere c v ds own.1 other.1)
elsewhere c v (Ends name session condition ∷ ds) own other = (tt, elsewhere c v ds own.1 other.1)
elsewhere c v (HandsOut name ∷ ds) own other = (tt, elsewhere c v ds own.1 other.1)
elsewhere c v (Halts why ∷ ds) own other = (tt, elsewhere c v ds own.1 other.1)
elsewhere c v (Concludes why ∷ ds) own other = (tt, elsewhere c v ds own.1 other.1)
elsewhere c v (Hears x ∷ ds) own other = (tt, elsewhere c v ds own.1 other.1)
elsewhere c v (Writes x ∷ ds) own other = (tt, elsewhere c v ds own.1 other.1)
elsewhere c v (Frees channel ∷ ds) own other = (tt, elsewhere c v ds own.1 other.1)
elsewhere c v (Gives session x ∷ ds) own other = (tt, elsewhere c v ds own.1 other.1)
elsewhere c v (Takes session x ∷ ds) own other = (tt, elsewhere c v ds own.1 other.1)
elsewhere c v (Lacks session ∷ ds) own other = (tt, elsewhere c v ds own.1 other.1)
elsewhere c v (Tells ∷ ds) own other = (tt, elsewhere c v ds own.1 other.1)

-- ---- two ends

pub first_links_carry : FirstLinksCarry
first_links_carry e steps entries k c handle p m d u y q n l t x behind r s begins =
    let f = other e in
    let all = life e steps entries k.made in
    let last = sessions_at e k.made.view in
    let end = links_at e k.made.view in
    let all' = life f steps entries k.made in
    let last' = sessions_at f k.made.view in
    let end' = links_at f k.made.view in
    let once = names_are_used_once e steps entries k.made in
    let once' = names_are_used_once f steps entries k.made in
    let there = names_are_new (accepts f) all' last' end' q once' in
    let came = sessions_by q.before in
    let goes = sessions_by q.since in
    let whole : AreOwn c l.session (came ++ goes) =
    subst (λ (ds : List Deed). AreOwn c l.session ds) (sym (ap (λ (xs : List Both). sessions_by xs) q.whole) ∙ sessions_by_more q.before q.since) s.only in
    let none = none_is_written (accepts f) all' last' end' q c handle l.session (own_first c l.session came goes whole) begins.none_given in
    let waits = none.waits x s.session in
    let front = read_was_written e steps entries k.made c handle p q behind in
    let read = on_handle handle (transfers_in (read_before c (no_links (accepts e)) all last end p)) in
    let wrote = on_handle handle (transfers_in (written_before c (no_links (accepts f)) all' last' end' q)) in
    let none_read : read ≡ [] = none_first read front.rest (front.front ∙ none.written) in
    let even : read ≡ wrote = none_read ∙ sym none.written in
    let unread = none_is_read (accepts e) all last end p c handle d.session y once r.session r.joined none_read in
    let receives : agreed.Receives c handle m d u y (no_links (accepts e)) all last end p =
    record { once = once; stands = r.stands; receives = r.receives; session = r.session; joined = r.joined; leads = r.leads; clear = r.clear; quiet = r.quiet } in
    let sends : agreed.Sends c n l t x (no_links (accepts f)) all' last' end' q =
    record {
      once = once';
      stands = s.stands;
      sends = s.sends;
      session = s.session;
      mapped = s.mapped;
      channel = s.channel;
      alone = none.alone;
      elsewhere = elsewhere c l.session goes (own_last c l.session came goes whole) (there.sessions l.session x s.session);
    } in
    let a = agreed_passes e steps entries k c handle p m d u y q n l t x receives sends in
    record {
      receives = a.receives;
      sends = a.sends;
      arrive = λ heard both.
          let hears = a.hears even in
          let takes = a.sends.takes handle (a.apart heard both.holds) none.left in
          let reads = a.receives.reads handle a.led unread.waits in
          messages_arrive_within handle t a.sends.sender.moves x.session (moves a.sends.life.steps) y.session (moves a.receives.life.steps) u a.receives.receiver.moves
          (record {
            attached = both.attached;
            unsent = begins.silent;
            has_none = waits;
            stays = both.stays;
            begun = both.begun;
            unhanded = unread.handed;
            ready = both.ready;
            limit = both.limit;
            untold = takes.rest;
            takes = takes.front ∙ send_on_their_handle handle t a.sends.sender.moves both.attached both.holds begins.silent;
            unheard = hears.rest;
            hears = hears.front;
            unread = reads.rest;
            reads = reads.front;
          });
    }

pub unsent_links_carry : UnsentLinksCarry
unsent_links_carry e steps entries k c handle p m d u y q n l t x behind r s unsent =
    let f = other e in
    let g = unsent_gave_none (accepts f) (life f steps entries k.made) (sessions_at f k.made.view) (links_at f k.made.view) q l.session (names_are_used_once f steps entries k.made) unsent in
    first_links_carry e steps entries k c handle p m d u y q n l t x behind r s (record { none_given = g.none_given handle; silent = g.silent n l t s.stands refl s.sends })

pub links_carry_from_the_start : LinksCarryFromTheStart
links_carry_from_the_start before after entries k h e c handle m d u y n l t x r s unsent =
    let behind : AreBehind e (before ++ after) entries k.made (h.moment e) (h.moment (other e)) =
    record { before = before; early = h.early; made = h.made; here = h.behind e; there = h.behind (other e) } in
    unsent_links_carry e (before ++ after) entries k c handle (h.moment e) m d u y (h.moment (other e)) n l t x behind r s unsent
