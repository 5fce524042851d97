-- What the links of an end over a link hear stood in frames that its sessions heard.
use Rattle.std.proofs.Common.{◌≡◌, subst, sym, List, [], ◌∷◌}
use Rattle.std.proofs.lemmas.List.Elements.{All-nil}
use Rattle.amqp_links.specs.State.{seen as linked}
use Rattle.amqp_sessions.specs.State.{seen}
use Rattle.amqp_sessions.specs.declared.sessions.Sessions.{Sessions}
use Rattle.amqp_wire.specs.declared.link.Link.{Ghosts}
use Rattle.amqp_end.specs.declared.end.End.{End}
use Rattle.amqp_serve.specs.Deeds.{deeds_of, deeds_in}
use Rattle.amqp_serve.specs.Ran.{Turn, calls, polls, waits, tells, forgets, IsTurn, Ran}
use Rattle.link_answers.specs.Coming.{Passed, AreComing, Passes}
use Rattle.link_answers.proofs.Comes.{GivenStands, HavePassed, deeds_pass}
use Rattle.link_answers.proofs.Passed.{first_passed, then_passed, both_pass}
use Rattle.link_answers.proofs.Sessions.{HandedStands}

module _ {L : Type 0} (link : Ghosts L) (p : Passed) where
  turn_passes : (m n : End L) (t : Turn) (k : IsTurn link m t n) → HavePassed p (deeds_of link m t n k) → AreComing p (seen m.sessions) → AreComing p (seen n.sessions) × Passes p (deeds_of link m t n k)
  turn_passes m n (calls name call) k h c = deeds_pass p link k.1 m.connection (seen m.sessions) (linked m.links) k.2.deeds n.connection (seen n.sessions) (linked n.links) k.2.did h c
  turn_passes m n polls k h c = deeds_pass p link k.0 m.connection (seen m.sessions) (linked m.links) k.1.deeds n.connection (seen n.sessions) (linked n.links) k.1.did h c
  turn_passes m n waits k h c = (subst (λ (e : End L). AreComing p (seen e.sessions)) (sym k.rest) c, record { handed = All-nil (HandedStands p); given = All-nil (GivenStands p) })
  turn_passes m n (tells rs) k h c = (subst (λ (s : Sessions). AreComing p (seen s)) (sym k.1.sessions) c, record { handed = All-nil (HandedStands p); given = All-nil (GivenStands p) })
  turn_passes m n (forgets name) k h c = (subst (λ (s : Sessions). AreComing p (seen s)) (sym k.sessions) c, record { handed = All-nil (HandedStands p); given = All-nil (GivenStands p) })

  pub run_passes : (old : End L) (ts : List Turn) (new : End L) (k : Ran link old ts new) → HavePassed p (deeds_in link old ts new k) → AreComing p (seen old.sessions) → AreComing p (seen new.sessions) × Passes p (deeds_in link old ts new k)
  unfolding Ran deeds_in
  run_passes old [] new k h c = (subst (λ (e : End L). AreComing p (seen e.sessions)) (sym k) c, record { handed = All-nil (HandedStands p); given = All-nil (GivenStands p) })
  run_passes old (t ∷ ts) new k h c =
      let es = deeds_of link k.0 t new k.2 in
      let ds = deeds_in link old ts k.0 k.1 in
      let before = run_passes old ts k.0 k.1 (first_passed p es ds h) c in
      let here = turn_passes k.0 new t k.2 (then_passed p es ds h) before.0 in
      (here.0, both_pass p es ds here.1 before.1)
