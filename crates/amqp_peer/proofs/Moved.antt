-- One run of the connection, as part of a history.
use Rattle.std.proofs.Common.{◌≡◌, inl, inr, ℕ, List, [], ◌∷◌, ◌++◌, sym, ap, ◌∙◌, subst, append_assoc}
use Rattle.std.proofs.Math.Path.{ap₂}
use Rattle.std.proofs.lemmas.List.{append-nil}
use Rattle.amqp_wire.specs.declared.link.Link.{Ghosts}
use Rattle.amqp_wire.specs.Events.{LinkEvent}
use Rattle.amqp_transport.specs.declared.frames.Frame.{Frame}
use Rattle.amqp_engine.specs.Outcomes.{IsMoment}
use Rattle.amqp_engine.specs.Sentence.{Ran, Has as EngineHas}
use Rattle.amqp_engine.specs.State.{State}
use Rattle.amqp_engine.proofs.Says.{goes_on}
use Rattle.amqp_words.specs.declared.call.Call.{Call}
use Rattle.amqp_words.specs.declared.reply.NamedReply.{NamedReply}
use Rattle.amqp_peer.specs.Causes.{prepared_in, has_layer, AllCaused, BeginsWithOpen, StartsWithin, EndsExchange}
use Rattle.amqp_peer.specs.History.{Local, made_in, link_in, given_in, sent_in, replied_in, moment_in, since_in, at_link, got, put, IsInside}
use Rattle.amqp_peer.specs.Peering.{IsRunning}
use Rattle.amqp_peer.proofs.Beats.{IsTimed, beat_moved, beats_moved, closer_moved}
use Rattle.amqp_peer.proofs.Histories.{link_in-append, given_in-append, sent_in-append, replied_in-append, inside-append, moment_in-inside, made_in-keeps, given_in-at, sent_in-at, replied_in-at, link_in-at, inside-at, since_in-at, caused-at, given_in-got, sent_in-got, link_in-got, replied_in-got, inside-got, caused-got, sent_in-put, given_in-put, link_in-put, replied_in-put, inside-put, caused-put, since_in-put, once_more}
use Rattle.amqp_peer.proofs.Said.{IsDue, has_said, said_stays, said_due}

-- what passed at the link, then the frames that were read, then those that were queued
abbrev pub moved : {L : Type 0} {link : Ghosts L} {old new : State L} → Ran link old new → List Local
moved r = put r.queued ++ (got r.given ++ at_link r.events)

-- what passed inside a step, by its parts
pub record Passed (events : List LinkEvent) (given queued : List Frame) (es : List Local) : Type 0 where
  pub inside : IsInside es
  pub link : link_in es ≡ events
  pub heard : given_in es ≡ given
  pub said : sent_in es ≡ queued
  pub silent : replied_in es ≡ []
  pub caused : (h : List Local) → AllCaused h → AllCaused (es ++ h)

passed_parts : (events : List LinkEvent) (given queued : List Frame) → Passed events given queued (put queued ++ (got given ++ at_link events))
passed_parts events given queued =
    record {
      inside = inside-append (put queued) (got given ++ at_link events) (inside-put queued) (inside-append (got given) (at_link events) (inside-got given) (inside-at events));
      link = link_in-append (put queued) (got given ++ at_link events) ∙ ap (λ (u : List LinkEvent). u ++ link_in (got given ++ at_link events)) (link_in-put queued)
          ∙ link_in-append (got given) (at_link events) ∙ ap (λ (u : List LinkEvent). u ++ link_in (at_link events)) (link_in-got given) ∙ link_in-at events;
      heard = given_in-append (put queued) (got given ++ at_link events) ∙ ap (λ (u : List Frame). given_in (got given ++ at_link events) ++ u) (given_in-put queued)
          ∙ append-nil (given_in (got given ++ at_link events)) ∙ given_in-append (got given) (at_link events)
          ∙ ap (λ (u : List Frame). u ++ given_in (got given)) (given_in-at events) ∙ given_in-got given;
      said = sent_in-append (put queued) (got given ++ at_link events) ∙ ap₂ (λ (u v : List Frame). u ++ v)
          (sent_in-append (got given) (at_link events) ∙ ap₂ (λ (u v : List Frame). u ++ v) (sent_in-at events) (sent_in-got given)) (sent_in-put queued);
      silent = replied_in-append (put queued) (got given ++ at_link events) ∙ ap₂ (λ (u v : List NamedReply). u ++ v)
          (replied_in-append (got given) (at_link events) ∙ ap₂ (λ (u v : List NamedReply). u ++ v) (replied_in-at events) (replied_in-got given)) (replied_in-put queued);
      caused = λ h c.
          subst AllCaused (sym (append_assoc (put queued) (got given ++ at_link events) h ∙ ap (λ (u : List Local). put queued ++ u) (append_assoc (got given) (at_link events) h)))
          (caused-put queued (got given ++ (at_link events ++ h)) (caused-got given (at_link events ++ h) (caused-at events h c)));
    }

pub passed : {L : Type 0} {link : Ghosts L} {old new : State L} (r : Ran link old new) → Passed r.events r.given r.queued (moved r)
passed r = passed_parts r.events r.given r.queued

-- the parts of a history after it
pub made_after : {events : List LinkEvent} {given queued : List Frame} {es : List Local} (h : List Local) → Passed events given queued es → made_in (es ++ h) ≡ made_in h
made_after {events} {given} {queued} {es} h p = made_in-keeps es h p.inside

pub link_after : {events : List LinkEvent} {given queued : List Frame} {es : List Local} (h : List Local) → Passed events given queued es → link_in (es ++ h) ≡ events ++ link_in h
link_after {events} {given} {queued} {es} h p = link_in-append es h ∙ ap (λ (u : List LinkEvent). u ++ link_in h) p.link

pub given_after : {events : List LinkEvent} {given queued : List Frame} {es : List Local} (h : List Local) → Passed events given queued es → given_in (es ++ h) ≡ given_in h ++ given
given_after {events} {given} {queued} {es} h p = given_in-append es h ∙ ap (λ (u : List Frame). given_in h ++ u) p.heard

pub sent_after : {events : List LinkEvent} {given queued : List Frame} {es : List Local} (h : List Local) → Passed events given queued es → sent_in (es ++ h) ≡ sent_in h ++ queued
sent_after {events} {given} {queued} {es} h p = sent_in-append es h ∙ ap (λ (u : List Frame). sent_in h ++ u) p.said

pub replied_after : {events : List LinkEvent} {given queued : List Frame} {es : List Local} (h : List Local) → Passed events given queued es → replied_in (es ++ h) ≡ replied_in h
replied_after {events} {given} {queued} {es} h p = replied_in-append es h ∙ ap (λ (u : List NamedReply). replied_in h ++ u) p.silent ∙ append-nil (replied_in h)

-- the idle time counts from the frame that was read, if one was
pub since_parts : (events : List LinkEvent) (given queued : List Frame) (h : List Local) → given ≡ [] → since_in ((put queued ++ (got given ++ at_link events)) ++ h) ≡ since_in h
since_parts events given queued h e =
    ap since_in (append_assoc (put queued) (got given ++ at_link events) h) ∙ since_in-put queued ((got given ++ at_link events) ++ h)
    ∙ ap (λ (g : List Frame). since_in ((got g ++ at_link events) ++ h)) e ∙ since_in-at events h

since_one : (events : List LinkEvent) (given queued : List Frame) (x : Frame) (h : List Local) → given ≡ x ∷ [] → since_in ((put queued ++ (got given ++ at_link events)) ++ h) ≡ moment_in h
since_one events given queued x h e =
    ap since_in (append_assoc (put queued) (got given ++ at_link events) h) ∙ since_in-put queued ((got given ++ at_link events) ++ h)
    ∙ ap (λ (g : List Frame). since_in ((got g ++ at_link events) ++ h)) e ∙ moment_in-inside (at_link events) h (inside-at events)

pub since_after : {L : Type 0} {link : Ghosts L} {old new : State L} (at : ℕ) (r : Ran link old new) (h : List Local) → moment_in h ≡ at → IsMoment at old r.given new → old.wire.clock.since ≡ since_in h → new.wire.clock.since ≡ since_in (moved r ++ h)
since_after at r h m (inl k) s = k.1 ∙ s ∙ sym (since_parts r.events r.given r.queued h k.0)
since_after at r h m (inr k) s = k.2 ∙ sym m ∙ sym (since_one r.events r.given r.queued k.0 h k.1)

-- Open stays the first
pub begins_more : (xs ys : List Frame) → BeginsWithOpen xs → BeginsWithOpen (xs ++ ys)
begins_more xs ys b = record { channel = b.channel; first = b.first; more = b.more ++ ys; is = ap (λ (u : List Frame). u ++ ys) b.is }

-- and the first frame stays within its size
starts_more : (limit : ℕ) (xs ys : List Frame) → BeginsWithOpen xs → StartsWithin limit xs → StartsWithin limit (xs ++ ys)
starts_more limit [] ys b s = absurd (cc b.is)
starts_more limit (x ∷ xs) ys b s = s

-- a connection that went on goes on behind its headers
pub running_grows : {L : Type 0} (link : Ghosts L) (at : ℕ) (call : Call) (old new : State L) (h : List Local) (r : Ran link old new) → IsTimed at old r.given r.queued new → IsDue (made_in h) old.phase r.queued → moment_in h ≡ at → IsRunning call old h → IsRunning call new (moved r ++ h)
running_grows {L} link at call old new h r moment d m k =
    let p = passed r in
    record {
      layer = k.layer;
      x = k.x;
      made = k.made;
      asked = ap has_layer (made_after h p) ∙ k.asked;
      p = k.p;
      prepared = k.prepared;
      before = k.before;
      since = r.events ++ k.since;
      passed = link_after h p ∙ ap (λ (u : List LinkEvent). r.events ++ u) k.passed ∙ sym (append_assoc r.events k.since k.before);
      arrived = k.arrived;
      unwritten = k.unwritten;
      intro = k.intro;
      runs = subst (λ (xs : List Frame). EngineHas k.unwritten k.arrived new (record { events = r.events ++ k.since; given = given_in (moved r ++ h); sent = xs })) (sym (sent_after h p))
          (subst (λ (xs : List Frame). EngineHas k.unwritten k.arrived new (record { events = r.events ++ k.since; given = xs; sent = sent_in h ++ r.queued })) (sym (given_after h p))
          (goes_on link k.unwritten k.arrived old new (record { events = k.since; given = given_in h; sent = sent_in h }) r k.runs));
      began = once_more EndsExchange (moved r) h k.began;
      opens = subst BeginsWithOpen (sym (sent_after h p)) (begins_more (sent_in h) r.queued k.opens);
      starts = subst (StartsWithin 512) (sym (sent_after h p)) (starts_more 512 (sent_in h) r.queued k.opens k.starts);
      says = has_said (moved r ++ h) (made_in h) (given_in h ++ r.given) (sent_in h ++ r.queued) (made_after h p) (given_after h p) (sent_after h p)
          (said_stays (prepared_in (made_in h)) (made_in h) (given_in h) r.given (sent_in h ++ r.queued)
          (said_due old.phase new.phase old.reason (prepared_in (made_in h)) (made_in h) (given_in h) (sent_in h) r.queued d k.runs.said k.runs.heard (r.said (sent_in h) k.runs.said) k.says));
      idle = r.idle ∙ k.idle;
      own = r.own ∙ k.own;
      start = since_after at r h m moment.moment k.start;
      beat = beat_moved at old new r.events r.given r.queued h moment.beat k.runs.heard m k.beat;
      beats = beats_moved at old new r.events r.given r.queued h moment.beat m k.beat k.beats;
      closer = closer_moved at old new r.events r.given r.queued h moment k.closer;
      calm = r.calm k.calm;
    }
