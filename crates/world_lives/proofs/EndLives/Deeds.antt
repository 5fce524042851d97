-- The deeds of an end, as its sessions and its links have them.
use Rattle.std.specs.Prelude.{◌≡◌, ℕ, List, [], ◌∷◌, ◌++◌, refl}
use Rattle.std.proofs.Common.{sym, ◌∙◌, ap, subst, append_assoc}
use Rattle.amqp_wire.specs.declared.link.Link.{Ghosts}
use Rattle.amqp_peer.specs.Peering.{Peering}
use Rattle.amqp_links.specs.State.{State as Links}
use Rattle.amqp_sessions.specs.State.{State as Sessions}
use Rattle.amqp_end.specs.Deeds as end
use Rattle.amqp_end.specs.Moves as move
use Rattle.link_lives.specs.Deeds as links
use Rattle.link_lives.specs.Deeds.{handed, all_handed}
use Rattle.session_lives.specs.Deeds as sessions
use Rattle.session_lives.specs.Deeds.{gave_of, gave_in}
use Rattle.world_lives.specs.EndLives.Ends.{of_move, sessions_of, sessions_in, links_of, links_in, heard_of, heard_in, taken_of, taken_in, Together}
use Rattle.world_lives.specs.EndLives.Laws.{EndsDo}

-- ---- one after another

sessions_more : (old mid new : Sessions) (ds es : List sessions.Deed) → sessions.Did old ds mid → sessions.Did mid es new → sessions.Did old (ds ++ es) new
sessions_more old mid new [] es p q = subst (λ s. sessions.Did s es new) p q
sessions_more old mid new (d ∷ ds) es p q = (p.0, (p.1.0, sessions_more p.0 mid new ds es p.1.1 q))

links_more : (old mid new : Links) (ds es : List links.Deed) → links.Did old ds mid → links.Did mid es new → links.Did old (ds ++ es) new
links_more old mid new [] es p q = subst (λ s. links.Did s es new) p q
links_more old mid new (d ∷ ds) es p q = (p.0, (p.1.0, links_more p.0 mid new ds es p.1.1 q))

gave_more : (ds es : List sessions.Deed) → gave_in (ds ++ es) ≡ gave_in ds ++ gave_in es
gave_more [] es = refl
gave_more (d ∷ ds) es = ap (λ xs. gave_of d ++ xs) (gave_more ds es) ∙ sym (append_assoc (gave_of d) (gave_in ds) (gave_in es))

taken_more : (ds es : List sessions.Deed) → taken_in (ds ++ es) ≡ taken_in ds ++ taken_in es
taken_more [] es = refl
taken_more (d ∷ ds) es = ap (λ xs. taken_of d ++ xs) (taken_more ds es) ∙ sym (append_assoc (taken_of d) (taken_in ds) (taken_in es))

heard_more : (ds es : List links.Deed) → heard_in (ds ++ es) ≡ heard_in ds ++ heard_in es
heard_more [] es = refl
heard_more (d ∷ ds) es = ap (λ xs. heard_of d ++ xs) (heard_more ds es) ∙ sym (append_assoc (heard_of d) (heard_in ds) (heard_in es))

handed_more : (ds es : List links.Deed) → all_handed (ds ++ es) ≡ all_handed ds ++ all_handed es
handed_more [] es = refl
handed_more (d ∷ ds) es = ap (λ xs. handed d ++ xs) (handed_more ds es) ∙ sym (append_assoc (handed d) (all_handed ds) (all_handed es))

-- ---- one deed

move_is : (m : move.Move) (s t : Sessions) → t ≡ move.on m s → sessions.IsDeed s (of_move m) t
move_is (move.Begun name x channel limit) s t h = h
move_is (move.Awaiting name x) s t h = h
move_is (move.Refused name why) s t h = h
move_is (move.Ended name session condition) s t h = h
move_is (move.HandedOut name) s t h = h
move_is (move.Halted why) s t h = h
move_is (move.Concluded why) s t h = h

-- a move gives nothing to links and takes nothing of them
move_gives : (m : move.Move) → gave_in (of_move m ∷ []) ≡ []
move_gives (move.Begun name x channel limit) = refl
move_gives (move.Awaiting name x) = refl
move_gives (move.Refused name why) = refl
move_gives (move.Ended name session condition) = refl
move_gives (move.HandedOut name) = refl
move_gives (move.Halted why) = refl
move_gives (move.Concluded why) = refl

move_takes : (m : move.Move) → taken_in (of_move m ∷ []) ≡ []
move_takes (move.Begun name x channel limit) = refl
move_takes (move.Awaiting name x) = refl
move_takes (move.Refused name why) = refl
move_takes (move.Ended name session condition) = refl
move_takes (move.HandedOut name) = refl
move_takes (move.Halted why) = refl
move_takes (move.Concluded why) = refl

-- what the links hear in a deed is what the sessions give in it, and what they hand over is what those take
deed_heard : (at : ℕ) (d : end.Deed) (s : Sessions) → heard_in (links_of at d s) ≡ gave_in (sessions_of d)
deed_heard at (end.Moves m) s = sym (move_gives m)
deed_heard at d s = refl

deed_taken : (at : ℕ) (d : end.Deed) (s : Sessions) → all_handed (links_of at d s) ≡ taken_in (sessions_of d)
deed_taken at (end.Moves m) s = sym (move_takes m)
deed_taken at d s = refl

module _ {L : Type 0} (link : Ghosts L) (at : ℕ) where
  sessions_did : (d : end.Deed) (p : Peering L) (s : Sessions) (l : Links) (p' : Peering L) (s' : Sessions) (l' : Links)
      → end.IsDeed link at p s l d p' s' l' → sessions.Did s (sessions_of d) s'
  sessions_did (end.Makes name call events) p s l p' s' l' h = h.1
  sessions_did (end.Polls events) p s l p' s' l' h = h.1
  sessions_did (end.Goes events) p s l p' s' l' h = h.1
  sessions_did (end.Moves m) p s l p' s' l' h = (s', (move_is m s s' h.1, refl))
  sessions_did (end.Hears x) p s l p' s' l' h = (s', (h.2, refl))
  sessions_did (end.Writes x events) p s l p' s' l' h = (s', (h.0.takes, refl))
  sessions_did (end.Seats channel) p s l p' s' l' h = h.2
  sessions_did (end.Lacks why) p s l p' s' l' h = h.2
  sessions_did (end.Frees channel) p s l p' s' l' h = (s', (h.0, refl))
  sessions_did (end.Accepts name x channel limit incoming) p s l p' s' l' h = (s', (h.2, refl))
  sessions_did (end.Asks name call) p s l p' s' l' h = h.1
  sessions_did (end.LinksHear name x) p s l p' s' l' h = (s', (h.1, refl))
  sessions_did (end.LinksWrite name x) p s l p' s' l' h = (s', (h.1, refl))
  sessions_did (end.LinksLack name) p s l p' s' l' h = (s', (h.1, refl))
  sessions_did end.LinksKnow p s l p' s' l' h = h.1
  sessions_did end.LinksLook p s l p' s' l' h = h.1
  sessions_did (end.Tells answers) p s l p' s' l' h = (s', (h.1, refl))
  sessions_did (end.TellsFirst name answers) p s l p' s' l' h = (s', (h.1, refl))

  links_did : (d : end.Deed) (p : Peering L) (s : Sessions) (l : Links) (p' : Peering L) (s' : Sessions) (l' : Links)
      → end.IsDeed link at p s l d p' s' l' → links.Did l (links_of at d s) l'
  links_did (end.Makes name call events) p s l p' s' l' h = h.2
  links_did (end.Polls events) p s l p' s' l' h = h.2
  links_did (end.Goes events) p s l p' s' l' h = h.2
  links_did (end.Moves m) p s l p' s' l' h = h.2
  links_did (end.Hears x) p s l p' s' l' h = h.3
  links_did (end.Writes x events) p s l p' s' l' h = h.1
  links_did (end.Seats channel) p s l p' s' l' h = h.3
  links_did (end.Lacks why) p s l p' s' l' h = h.3
  links_did (end.Frees channel) p s l p' s' l' h = h.2
  links_did (end.Accepts name x channel limit incoming) p s l p' s' l' h = h.3
  links_did (end.Asks name call) p s l p' s' l' h = (l', (h.2, refl))
  links_did (end.LinksHear name x) p s l p' s' l' h = (l', (h.2, refl))
  links_did (end.LinksWrite name x) p s l p' s' l' h = (l', (h.2, refl))
  links_did (end.LinksLack name) p s l p' s' l' h = (l', (h.2, refl))
  links_did end.LinksKnow p s l p' s' l' h = (l', (h.2, refl))
  links_did end.LinksLook p s l p' s' l' h = (l', (h.2, refl))
  links_did (end.Tells answers) p s l p' s' l' h = (l', (h.2, refl))
  links_did (end.TellsFirst name answers) p s l p' s' l' h = (l', (h.2, refl))

  -- ---- all of them

  together : (p : Peering L) (s : Sessions) (l : Links) (ds : List end.Deed) (p' : Peering L) (s' : Sessions) (l' : Links) (h : end.Did link at p s l ds p' s' l')
      → Together s (sessions_in ds) s' l (links_in link at p s l ds p' s' l' h) l'
  together p s l [] p' s' l' h = record { sessions_did = h.1; links_did = h.2; heard = refl; taken = refl }
  together p s l (d ∷ ds) p' s' l' h =
      let t = h.1 in
      let m = h.2 in
      let k = together p s l ds h.0 t m h.3 in
      let sd = sessions_in ds in
      let ld = links_in link at p s l ds h.0 t m h.3 in
      let xs = sessions_of d in
      let ys = links_of at d t in
      record {
        sessions_did = sessions_more s t s' sd xs k.sessions_did (sessions_did d h.0 t m p' s' l' h.4);
        links_did = links_more l m l' ld ys k.links_did (links_did d h.0 t m p' s' l' h.4);
        heard =
            heard_more ld ys ∙ (ap (λ zs. zs ++ heard_in ys) k.heard ∙ (ap (λ zs. gave_in sd ++ zs) (deed_heard at d t) ∙ sym (gave_more sd xs)));
        taken =
            handed_more ld ys ∙ (ap (λ zs. zs ++ all_handed ys) k.taken ∙ (ap (λ zs. taken_in sd ++ zs) (deed_taken at d t) ∙ sym (taken_more sd xs)));
      }

pub ends_do : {L : Type 0} (link : Ghosts L) → EndsDo link
ends_do link at p s l ds p' s' l' h = together link at p s l ds p' s' l' h
