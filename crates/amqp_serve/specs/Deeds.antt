-- What an end itself did in what was done with it.
use Rattle.std.specs.Prelude.{List, [], ◌∷◌, ◌++◌}
use Rattle.amqp_wire.specs.declared.link.Link.{Ghosts}
use Rattle.amqp_end.specs.declared.end.End.{End}
use Rattle.amqp_end.specs.Deeds.{Deed}
use Rattle.amqp_serve.specs.Ran.{Turn, calls, polls, waits, tells, forgets, IsTurn, Ran}

-- in a turn, the newest first
abbrev pub deeds_of : {L : Type 0} (link : Ghosts L) (old : End L) (t : Turn) (new : End L) → IsTurn link old t new
    → List Deed
deeds_of link old (calls name call) new k = k.2.deeds
deeds_of link old polls new k = k.1.deeds
deeds_of link old waits new k = []
deeds_of link old (tells rs) new k = []
deeds_of link old (forgets name) new k = []

-- in turns
unfoldable pub deeds_in : {L : Type 0} (link : Ghosts L) (old : End L) (ts : List Turn) (new : End L)
    → Ran link old ts new → List Deed
unfolding Ran
deeds_in link old [] new k = []
deeds_in link old (t ∷ ts) new k = deeds_of link k.0 t new k.2 ++ deeds_in link old ts k.0 k.1
