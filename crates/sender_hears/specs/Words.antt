-- What a sender hears of its peer (OASIS AMQP 1.0, part 2, sections 2.6.7 and 2.6.12).
use Rattle.std.specs.Prelude.{List, [], ◌∷◌, flat_map}
use Rattle.amqp_performatives.specs.declared.flow.Flow.{Flow}
use Rattle.session_laws.specs.Numbering.{News}
use Rattle.session_laws.specs.Sending.{Move, hears_flow, hears_disposition}

-- a Flow of the link; what has become of a delivery
pub data Word : Type 0 where
  Credit : Flow → Word
  Outcome : News → Word

abbrev pub word_in : Move → List Word
word_in (hears_flow x) = Credit x ∷ []
word_in (hears_disposition delivery settled state) =
    Outcome (record { delivery = delivery; settled = settled; state = state }) ∷ []
word_in other = []

-- all that a sender hears, in order
abbrev pub words : List Move → List Word
words ms = flat_map word_in ms
