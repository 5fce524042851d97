-- The life of an end over all its steps, as its sessions and its links have it.
use Rattle.std.specs.Prelude.{◌≡◌, ℕ, List, [], ◌∷◌, ◌++◌, flat_map, length, if◌then◌else◌}
use Rattle.amqp_wire.specs.declared.link.Link.{Ghosts}
use Rattle.amqp_wire.specs.Piped.{Piped}
use Rattle.amqp_words.specs.declared.step.End.{End as Side}
use Rattle.amqp_words.specs.declared.step.End.TheVariants.{Client, Listener}
use Rattle.amqp_calls.specs.declared.step.Act.{Act}
use Rattle.amqp_calls.specs.declared.step.Step.{Step}
use Rattle.amqp_calls.specs.declared.trace.Entry.{Entry}
use Rattle.amqp_peer.specs.Peering.{Peering}
use Rattle.amqp_world.specs.Turn.{piping}
use Rattle.amqp_world.specs.History.{is_same}
use Rattle.amqp_links.specs.State.{State as Links, seen as linked, no_links}
use Rattle.amqp_sessions.specs.State.{State as Sessions, seen, none_begun}
use Rattle.amqp_end.specs.declared.end.End.{End}
use Rattle.amqp_end.specs.Deeds as end
use Rattle.amqp_session_world.specs.Turn.{View, Turned, IsTurnAt, IsTurn, Turns, AreMade, accepts}
use Rattle.amqp_session_world.specs.Turn.{count_of, given, named}
use Rattle.amqp_session_world.specs.Carried.{life_in}
use Rattle.link_lives.specs.Deeds as links
use Rattle.session_lives.specs.Deeds as sessions
use Rattle.world_lives.specs.EndLives.Ends.{sessions_of, sessions_in, links_of, Together}

-- an end of a view, and its sessions and its links
abbrev pub end_at : Side → View → End Piped
end_at Client w = w.client
end_at Listener w = w.listener

abbrev pub sessions_at : Side → View → Sessions
sessions_at e w = seen (end_at e w).sessions

abbrev pub links_at : Side → View → Links
links_at e w = linked (end_at e w).links

-- ---- what they do

-- in one deed of their end
pub record Both : Type 0 where
  pub sessions : List sessions.Deed
  pub links : List links.Deed

-- the sessions, and the links, in deeds
abbrev pub sessions_by : List Both → List sessions.Deed
sessions_by xs = flat_map (λ (x : Both). x.sessions) xs

abbrev pub links_by : List Both → List links.Deed
links_by xs = flat_map (λ (x : Both). x.links) xs

-- in deeds of their end at that moment, of which it has the newest first
abbrev pub both_in : {L : Type 0} (link : Ghosts L) (at : ℕ) (p : Peering L) (s : Sessions) (l : Links)
    (ds : List end.Deed) (p' : Peering L) (s' : Sessions) (l' : Links) → end.Did link at p s l ds p' s' l' → List Both
both_in link at p s l [] p' s' l' h = []
both_in link at p s l (d ∷ ds) p' s' l' h =
    both_in link at p s l ds h.0 h.1 h.2 h.3 ++ record { sessions = sessions_of d; links = links_of at d h.1 } ∷ []

-- in a step of their end
abbrev pub both_turned : (near far : End Piped) (name at : ℕ) (act : Act) (near' far' : End Piped) (entry : Entry)
    → Turned near far name at act near' far' entry → List Both
both_turned near far name at act near' far' entry t =
    let e = named name act (given near far (count_of act far)) in
    both_in piping at e.connection (seen e.sessions) (linked e.links) t.goes.deeds t.ran.connection
    (seen t.ran.sessions) (linked t.ran.links) t.goes.did

abbrev pub both_done_at : (e : Side) (name : ℕ) (old : View) (step : Step) (new : View) (entry : Entry)
    → IsTurnAt e name old step new entry → List Both
both_done_at Client name old step new entry t =
    both_turned old.client old.listener name step.at step.act new.client new.listener entry t
both_done_at Listener name old step new entry t =
    both_turned old.listener old.client name step.at step.act new.listener new.client entry t

abbrev pub both_done : (old : View) (step : Step) (new : View) → IsTurn old step new → List Both
both_done old step new t = both_done_at step.end (length old.entries) old step new t.entry t.turned

-- of one end in steps, in order
abbrev pub both_over : Side → (old : View) (steps : List Step) (new : View) → Turns old steps new → List Both
both_over e old [] new t = []
both_over e old (s ∷ ss) new t =
    (if is_same e s.end then both_done old s t.0 t.1 else []) ++ both_over e t.0 ss new t.2

-- in all steps from the start
abbrev pub life : Side → (steps : List Step) (entries : List Entry) → AreMade steps entries → List Both
life e steps entries m = both_over e m.first steps m.view m.turns

-- ---- moments

-- A moment of such a life: the sessions and the links of an end did some of it up to the moment, and the rest from
-- it on.
pub record Moment (none : Links) (all : List Both) (last : Sessions) (end : Links) : Type 0 where
  pub before : List Both
  pub since : List Both
  pub whole : before ++ since ≡ all
  pub sessions : Sessions
  pub links : Links
  pub came : Together none_begun (sessions_by before) sessions none (links_by before) links
  pub goes : Together sessions (sessions_by since) last links (links_by since) end

-- a moment of an end that made steps from the start
abbrev pub MomentOf : Side → (steps : List Step) (entries : List Entry) → AreMade steps entries → Type 0
MomentOf e steps entries m =
    Moment (no_links (accepts e)) (life e steps entries m) (sessions_at e m.view) (links_at e m.view)

-- ---- laws

-- From where no session was begun and no link attached, the sessions and the links of an end did all that together,
-- one deed after another, and are as they are behind the last step: what happens between its deeds leaves them
-- alone. The deeds of its sessions are those that its life has (`life_in`).
pub record Goes (e : Side) (steps : List Step) (entries : List Entry) (m : AreMade steps entries) : Type 0 where
  pub did : Together none_begun (sessions_by (life e steps entries m)) (sessions_at e m.view)
      (no_links (accepts e)) (links_by (life e steps entries m)) (links_at e m.view)
  pub same : sessions_by (life e steps entries m) ≡ sessions_in (life_in e steps entries m).deeds

abbrev pub LifeGoes : Type 0
LifeGoes = (e : Side) (steps : List Step) (entries : List Entry) (m : AreMade steps entries) → Goes e steps entries m

-- between any two deeds there is a moment
pub record StopsAt (before since : List Both) (e : Side) (steps : List Step) (entries : List Entry)
    (m : AreMade steps entries) : Type 0 where
  pub moment : MomentOf e steps entries m
  pub is_before : moment.before ≡ before
  pub is_since : moment.since ≡ since

abbrev pub LifeStops : Type 0
LifeStops =
    (e : Side) (steps : List Step) (entries : List Entry) (m : AreMade steps entries) (before since : List Both)
    → before ++ since ≡ life e steps entries m → StopsAt before since e steps entries m
