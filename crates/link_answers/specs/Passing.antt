-- What the deeds of an end give to its links, and what the links give to the sessions.
use Rattle.std.specs.Prelude.{ℕ, List, [], ◌∷◌, ◌++◌}
use Rattle.amqp_frames.specs.declared.body.FrameBody.{FrameBody}
use Rattle.amqp_link.specs.Link.{body_of}
use Rattle.amqp_link_words.specs.declared.link_call.LinkCall.{LinkCall}
use Rattle.amqp_session.specs.declared.session.LinkInput.{LinkInput}
use Rattle.amqp_end.specs.Deeds.{Deed, Asks, LinksHear, LinksWrite}
use Rattle.link_answers.specs.Standing.{Given}

-- the calls that are made on the links
abbrev pub asked_of : Deed → List (ℕ × LinkCall)
asked_of (Asks name call) = (name, call) ∷ []
asked_of deed = []

abbrev pub asked_by : List Deed → List (ℕ × LinkCall)
asked_by [] = []
asked_by (d ∷ ds) = asked_by ds ++ asked_of d

-- what the sessions hand to them
abbrev pub read_of : Deed → List (ℕ × LinkInput)
read_of (LinksHear session x) = (session, x) ∷ []
read_of deed = []

abbrev pub read_by : List Deed → List (ℕ × LinkInput)
read_by [] = []
read_by (d ∷ ds) = read_by ds ++ read_of d

-- what they were given behind deeds
abbrev pub behind : List Deed → Given → Given
behind ds g = record { asked = g.asked ++ asked_by ds; read = g.read ++ read_by ds }

-- the frames that they give to the sessions
abbrev pub gave_of : Deed → List (ℕ × FrameBody)
gave_of (LinksWrite session x) = (session, body_of x) ∷ []
gave_of deed = []

abbrev pub gave_by : List Deed → List (ℕ × FrameBody)
gave_by [] = []
gave_by (d ∷ ds) = gave_by ds ++ gave_of d
