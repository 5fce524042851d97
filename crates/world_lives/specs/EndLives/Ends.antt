-- What the sessions and the links of an end do as the end goes on.
use Rattle.std.specs.Prelude.{◌≡◌, ℕ, List, [], ◌∷◌, ◌++◌}
use Rattle.amqp_wire.specs.declared.link.Link.{Ghosts}
use Rattle.amqp_peer.specs.Peering.{Peering}
use Rattle.amqp_session.specs.declared.session.LinkInput.{LinkInput}
use Rattle.amqp_links.specs.declared.output.LinksOutput.TheVariants as out
use Rattle.amqp_links.specs.Parts.{Told, told}
use Rattle.amqp_links.specs.State.{State as Links}
use Rattle.amqp_sessions.specs.State.{State as Sessions}
use Rattle.amqp_end.specs.Asks.{limit_for}
use Rattle.amqp_end.specs.Deeds as end
use Rattle.amqp_end.specs.Deeds.{framed_of}
use Rattle.amqp_end.specs.Moves as move
use Rattle.link_lives.specs.Deeds as links
use Rattle.link_lives.specs.Deeds.{all_handed}
use Rattle.session_lives.specs.Deeds as sessions
use Rattle.session_lives.specs.Deeds.{gave_in}

-- what the sessions do by themselves
abbrev pub of_move : move.Move → sessions.Deed
of_move (move.Begun name x channel limit) = sessions.Begins name x channel limit
of_move (move.Awaiting name x) = sessions.Awaits name x
of_move (move.Refused name why) = sessions.Refuses name why
of_move (move.Ended name session condition) = sessions.Ends name session condition
of_move (move.HandedOut name) = sessions.HandsOut name
of_move (move.Halted why) = sessions.Halts why
of_move (move.Concluded why) = sessions.Concludes why

-- what they do in a deed of the end
abbrev pub sessions_of : end.Deed → List sessions.Deed
sessions_of (end.Moves m) = of_move m ∷ []
sessions_of (end.Hears x) = sessions.Hears (framed_of x) ∷ []
sessions_of (end.Writes x events) = sessions.Writes (framed_of x) ∷ []
sessions_of (end.Frees channel) = sessions.Frees channel ∷ []
sessions_of (end.Accepts name x channel limit incoming) = sessions.Accepts name x channel limit incoming ∷ []
sessions_of (end.LinksHear name x) = sessions.Gives name x ∷ []
sessions_of (end.LinksWrite name x) = sessions.Takes name x ∷ []
sessions_of (end.LinksLack name) = sessions.Lacks name ∷ []
sessions_of (end.Tells answers) = sessions.Tells ∷ []
sessions_of (end.TellsFirst name answers) = sessions.Tells ∷ []
sessions_of other = []

-- in all of them, of which the end has the newest first
abbrev pub sessions_in : List end.Deed → List sessions.Deed
sessions_in [] = []
sessions_in (d ∷ ds) = sessions_in ds ++ sessions_of d

-- what the links do in a deed of the end at that moment, with the sessions before it
abbrev pub links_of : ℕ → end.Deed → Sessions → List links.Deed
links_of at (end.Asks name call) s = links.Asks name call (limit_for call s) ∷ []
links_of at (end.LinksHear name x) s = links.Hears name x ∷ []
links_of at (end.LinksWrite name x) s = links.Hands (told (out.Frame name x)) ∷ []
links_of at (end.LinksLack name) s = links.Hands (told (out.Astray name)) ∷ []
links_of at end.LinksKnow s = links.Knows at ∷ []
links_of at end.LinksLook s = links.Looks ∷ []
links_of at (end.Tells answers) s = links.Tells ∷ []
links_of at (end.TellsFirst name answers) s = links.Tells ∷ []
links_of at other s = []

-- in all of them
abbrev pub links_in : {L : Type 0} (link : Ghosts L) (at : ℕ) (p : Peering L) (s : Sessions) (l : Links) (ds : List end.Deed)
    (p' : Peering L) (s' : Sessions) (l' : Links) → end.Did link at p s l ds p' s' l' → List links.Deed
links_in link at p s l [] p' s' l' h = []
links_in link at p s l (d ∷ ds) p' s' l' h = links_in link at p s l ds h.0 h.1 h.2 h.3 ++ links_of at d h.1

-- ---- what passes between them

-- what the links hear, each under the name of its session
abbrev pub heard_of : links.Deed → List (ℕ × LinkInput)
heard_of (links.Hears name x) = (name, x) ∷ []
heard_of d = []

abbrev pub heard_in : List links.Deed → List (ℕ × LinkInput)
heard_in [] = []
heard_in (d ∷ ds) = heard_of d ++ heard_in ds

-- what the sessions take of what the links have to do on them
abbrev pub taken_of : sessions.Deed → List Told
taken_of (sessions.Takes name x) = told (out.Frame name x) ∷ []
taken_of (sessions.Lacks name) = told (out.Astray name) ∷ []
taken_of d = []

abbrev pub taken_in : List sessions.Deed → List Told
taken_in [] = []
taken_in (d ∷ ds) = taken_of d ++ taken_in ds

-- The sessions and the links of an end did these. What the links heard is what the sessions gave, and what they handed over
-- is what the sessions took.
pub record Together (s : Sessions) (sd : List sessions.Deed) (s' : Sessions) (l : Links) (ld : List links.Deed)
    (l' : Links) : Type 0 where
  pub sessions_did : sessions.Did s sd s'
  pub links_did : links.Did l ld l'
  pub heard : heard_in ld ≡ gave_in sd
  pub taken : all_handed ld ≡ taken_in sd
