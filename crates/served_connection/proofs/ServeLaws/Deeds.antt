-- What an end did in its life is what it did in its turns.
use Rattle.std.proofs.Common.{◌≡◌, ◌∙◌, List, [], ◌∷◌, ◌++◌, refl, sym, ap, append_assoc}
use Rattle.amqp_wire.specs.declared.link.Link.{Ghosts}
use Rattle.amqp_end.specs.declared.end.End.{End}
use Rattle.amqp_end.specs.Deeds.{Deed}
use Rattle.amqp_session_world.specs.Lives.{Life}
use Rattle.amqp_serve.specs.Deeds.{deeds_of, deeds_in}
use Rattle.amqp_serve.specs.Ran.{Turn, calls, polls, waits, tells, forgets, IsTurn, Ran}
use Rattle.served_connection.specs.ServeLaws.History.{turned, life_of}

turned_deeds : {L : Type 0} (link : Ghosts L) (old : End L) (t : Turn) (new : End L) (l : Life) (k : IsTurn link old t new) → (turned link old t new k l).deeds ≡ deeds_of link old t new k ++ l.deeds
turned_deeds link old (calls name call) new l k = refl
turned_deeds link old polls new l k = refl
turned_deeds link old waits new l k = refl
turned_deeds link old (tells rs) new l k = refl
turned_deeds link old (forgets name) new l k = refl

pub lives_do : {L : Type 0} (link : Ghosts L) (old new : End L) (ts : List Turn) (l : Life) (ran : Ran link old ts new) → (life_of link old ts new ran l).deeds ≡ deeds_in link old ts new ran ++ l.deeds
unfolding Ran deeds_in
lives_do link old new [] l ran = refl
lives_do link old new (t ∷ ts) l ran =
    let ds = deeds_of link ran.0 t new ran.2 in
    turned_deeds link ran.0 t new (life_of link old ts ran.0 ran.1 l) ran.2
    ∙ ap (λ (u : List Deed). ds ++ u) (lives_do link old ran.0 ts l ran.1)
    ∙ sym (append_assoc ds (deeds_in link old ts ran.0 ran.1) l.deeds)
