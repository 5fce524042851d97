-- The answers of an end over a link, turn after turn.
use Rattle.std.proofs.Common.{◌≡◌, ap, subst, sym, refl, ℕ, nat_eq, Bool, List, [], ◌∷◌, ◌++◌}
use Rattle.std.proofs.lemmas.List.Elements.{All-nil, All-append}
use Rattle.amqp_calls.specs.declared.reply.NamedReply.{NamedReply}
use Rattle.amqp_end.proofs.Goes.{told_then}
use Rattle.amqp_end.specs.Deeds.{Deed, told_by}
use Rattle.amqp_end.specs.declared.end.End.{End}
use Rattle.amqp_frames.specs.declared.body.FrameBody.{FrameBody}
use Rattle.amqp_links.specs.declared.links.Links.{Links}
use Rattle.amqp_links.specs.Forgetting.{forgotten}
use Rattle.amqp_links.specs.State.{State as LinkState, seen as linked, no_links}
use Rattle.amqp_serve.specs.Deeds.{deeds_of, deeds_in}
use Rattle.amqp_serve.specs.Ran.{Turn, calls, polls, waits, tells, forgets, IsTurn, Ran}
use Rattle.amqp_session_world.specs.Answers.{IsOfSession, AreOfSessions}
use Rattle.amqp_sessions.specs.State.{State, seen, none_begun}
use Rattle.amqp_wire.specs.declared.link.Link.{Ghosts}
use Rattle.link_answers.specs.Coming.{Passed, passed_in, nothing_passed, AreComing}
use Rattle.link_answers.specs.Keeping.{frames_in, SentStands, AreStanding}
use Rattle.link_answers.specs.Laws.{nothing, StandsAs, AllAnswered, DeedsStand}
use Rattle.link_answers.specs.Passing.{behind, gave_by}
use Rattle.link_answers.specs.Standing.{Given, Written}
use Rattle.link_answers.proofs.Comes.{none_comes, they_have_passed}
use Rattle.link_answers.proofs.Deeds.{none_stands, answers_stand, grows_behind, replies_grow, gave_then, behind_both}
use Rattle.link_answers.proofs.Entries.{all_gone}
use Rattle.link_answers.proofs.Links.{wider_more}
use Rattle.connect_laws.specs.Standing.{RunsStand}
use Rattle.connect_laws.proofs.Asking.{turn_answers}
use Rattle.connect_laws.proofs.Frames.{run_passes}

-- what the links have put out behind deeds from the first on, and what stands
record Stands (ds : List Deed) (s : LinkState) : Type 0 where
  written : List Written
  standing : AreStanding (behind ds nothing) (gave_by ds) written s
  told : AllAnswered (behind ds nothing) written (told_by ds)

-- deeds behind others
goes : (es ds : List Deed) (s t : LinkState) (k : Stands ds s) → DeedsStand (behind ds nothing) (gave_by ds) k.written es t → Stands (es ++ ds) t
goes es ds s t k d =
    let g : Given = behind ds nothing in
    let h : Given = behind es g in
    let all : List Written = k.written ++ d.more in
    let is : h ≡ behind (es ++ ds) nothing = behind_both es ds nothing in
    let P : NamedReply → Type 0 = λ (r : NamedReply). StandsAs h all r.name r.reply in
    let told : AllAnswered h all (told_by (es ++ ds))
    = subst (AllAnswered h all) (sym (told_then es ds))
    (All-append P (told_by ds) (told_by es) (replies_grow g h k.written all (told_by ds) (grows_behind es g) (wider_more k.written d.more) k.told) d.told) in
    let there : AreStanding h (gave_by (es ++ ds)) all t = subst (λ (f : List (ℕ × FrameBody)). AreStanding h f all t) (sym (gave_then es ds)) d.standing in
    record {
      written = all;
      standing = subst (λ (i : Given). AreStanding i (gave_by (es ++ ds)) all t) is there;
      told = subst (λ (i : Given). AllAnswered i all (told_by (es ++ ds))) is told;
    }

-- the same links
stands_as : (ds : List Deed) (s t : LinkState) → t ≡ s → Stands ds s → Stands ds t
stands_as ds s t e k = subst (Stands ds) (sym e) k

-- what a call sent or was given is not known any more
stands_forgotten : (name : ℕ) (ds : List Deed) (s : LinkState) → Stands ds s → Stands ds (forgotten name s)
stands_forgotten name ds s k =
    let n = k.standing.stands in
    record {
      written = k.written;
      standing = record {
        output = k.standing.output;
        stands = record {
          places = n.places;
          links = n.links;
          sends = all_gone (SentStands (behind ds nothing)) (nat_eq name) s.sends n.sends;
          timed = n.timed;
          replies = n.replies;
        };
      };
      told = k.told;
    }

module _ {L : Type 0} (link : Ghosts L) where
  turn_stands : (m n : End L) (t : Turn) (k : IsTurn link m t n) (ds : List Deed) → AreOfSessions (seen m.sessions).replies → Stands ds (linked m.links) → Stands (deeds_of link m t n k ++ ds) (linked n.links)
  turn_stands m n (calls name call) k ds own s =
      goes k.2.deeds ds (linked m.links) (linked n.links) s
      (answers_stand link k.1 m.connection (seen m.sessions) (linked m.links) k.2.deeds n.connection (seen n.sessions) (linked n.links) (behind ds nothing) (gave_by ds) s.written k.2.did own s.standing)
  turn_stands m n polls k ds own s =
      goes k.1.deeds ds (linked m.links) (linked n.links) s
      (answers_stand link k.0 m.connection (seen m.sessions) (linked m.links) k.1.deeds n.connection (seen n.sessions) (linked n.links) (behind ds nothing) (gave_by ds) s.written k.1.did own s.standing)
  turn_stands m n waits k ds own s = stands_as ds (linked m.links) (linked n.links) (ap (λ (e : End L). linked e.links) k.rest) s
  turn_stands m n (tells rs) k ds own s = stands_as ds (linked m.links) (linked n.links) (ap (λ (l : Links). linked l) k.1.links) s
  turn_stands m n (forgets name) k ds own s = stands_as ds (forgotten name (linked m.links)) (linked n.links) k.links (stands_forgotten name ds (linked m.links) s)

  run_stands : (old : End L) (ts : List Turn) (new : End L) (k : Ran link old ts new) → AreOfSessions (seen old.sessions).replies → Stands [] (linked old.links)
      → AreOfSessions (seen new.sessions).replies × Stands (deeds_in link old ts new k) (linked new.links)
  unfolding Ran deeds_in
  run_stands old [] new k own s = (subst (λ (e : End L). AreOfSessions (seen e.sessions).replies) (sym k) own, stands_as [] (linked old.links) (linked new.links) (ap (λ (e : End L). linked e.links) k) s)
  run_stands old (t ∷ ts) new k own s =
      let before = run_stands old ts k.0 k.1 own s in
      (turn_answers link k.0 new t k.2 before.0, turn_stands k.0 new t k.2 (deeds_in link old ts k.0 k.1) before.0 before.1)

pub runs_stand : {L : Type 0} (link : Ghosts L) → RunsStand link
runs_stand link accepts old new ts ran sessions links =
    let ds = deeds_in link old ts new ran in
    let p : Passed = passed_in ds in
    let own = subst (λ (s : State). AreOfSessions s.replies) (sym sessions) (All-nil (λ (r : NamedReply). IsOfSession r.reply)) in
    let first : Stands [] (no_links accepts) = record { written = []; standing = none_stands accepts; told = All-nil (λ (r : NamedReply). StandsAs nothing [] r.name r.reply) } in
    let stands = run_stands link old ts new ran own (stands_as [] (no_links accepts) (linked old.links) links first) in
    let passes = run_passes link p old ts new ran (they_have_passed ds nothing_passed) (subst (λ (s : State). AreComing p s) (sym sessions) (none_comes p)) in
    let s = stands.1 in
    record {
      answers = record { written = s.written; later = frames_in (linked new.links).output; output = s.standing.output; stand = s.told };
      passes = passes.1;
    }
