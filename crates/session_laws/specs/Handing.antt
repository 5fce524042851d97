-- What a session hands to its links of what it hears (OASIS AMQP 1.0, part 2, sections 2.5 and 2.6).
use Rattle.std.specs.Prelude.{◌≡◌, ℕ, List, [], ◌∷◌, ◌++◌, flat_map}
use Rattle.amqp_parts.specs.declared.part.Part.{Part}
use Rattle.amqp_session.specs.declared.session.LinkInput.{LinkInput}
use Rattle.amqp_session.specs.declared.session.LinkInput.TheVariants as input
use Rattle.amqp_session.specs.declared.session.SessionState.TheVariants as state
use Rattle.amqp_session.specs.State.{State, Framed}
use Rattle.session_laws.specs.Messages.{on}
use Rattle.session_laws.specs.Holding.{Move, hears, hands_input, first_of, after, after_all, transfers}

-- the Transfers among what is handed to the links
abbrev pub transfer_in : LinkInput → List Part
transfer_in (input.Transfer x payload) = record { transfer = x; payload = payload } ∷ []
transfer_in other = []

abbrev pub inputs : List LinkInput → List Part
inputs xs = flat_map transfer_in xs

-- what a move takes off for the links
abbrev pub taken_by : State → Move → List LinkInput
taken_by s hands_input = first_of s.incoming
taken_by s other = []

abbrev pub taken : State → List Move → List LinkInput
taken s [] = []
taken s (m ∷ ms) = taken_by s m ++ taken (after s m) ms

-- all that was handed to the links, in order: what was taken off, and what still is to be
abbrev pub handed_over : State → List Move → List LinkInput
handed_over s ms = taken s ms ++ (after_all s ms).incoming

abbrev pub heard_by : Move → List Framed
heard_by (hears x) = x ∷ []
heard_by other = []

-- the frames that it has heard, in order
abbrev pub heard : List Move → List Framed
heard [] = []
heard (m ∷ ms) = heard_by m ++ heard ms

-- what was handed over of the Transfers on a handle is a front of those that were heard; the others came once the session was ended
pub record Hands (handle : ℕ) (s : State) (ms : List Move) : Type 0 where
  pub gained : List Part
  pub lost : List Part
  pub output : on handle (inputs (handed_over s ms)) ≡ on handle (inputs s.incoming) ++ gained
  pub front : gained ++ lost ≡ on handle (transfers (heard ms))

-- whatever a session goes through from a moment at which both ends have begun it
abbrev pub HandsInOrder : Type 0
HandsInOrder = (handle : ℕ) (s : State) (ms : List Move) → s.state ≡ state.Mapped → Hands handle s ms
