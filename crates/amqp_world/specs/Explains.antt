-- What a trace says of its steps, and which step is the first that is not valid.
use Rattle.std.specs.Prelude.{◌≡◌, List, ℕ, [], ◌∷◌, length, take, slice_get, Some, ⊤}
use Rattle.amqp_words.specs.declared.step.Step.{Step}
use Rattle.amqp_words.specs.declared.trace.Entry.{Entry}
use Rattle.amqp_world.specs.History.{Event, calls, other}
use Rattle.amqp_world.specs.Valid.{IsValid}
use Rattle.amqp_world.specs.Form.{Form}
use Rattle.amqp_world.specs.Gate.{Gate}
use Rattle.amqp_peer.specs.Layers.{layer_in}
use Rattle.amqp_ends.specs.Gates.{AllFair}
use Rattle.amqp_ends.specs.Honest.{AllHonest}
use Rattle.amqp_world.specs.Causes.{Histories}
use Rattle.amqp_world.specs.WorldView.{WorldView}
use Rattle.amqp_world.specs.Turn.{IsTurn, start}

-- an event after a past
pub record Explains (x : Event) (past : List Event) : Type 0 where
  pub valid : IsValid past x.step
  pub form : Form x past
  pub gate : Gate (x ∷ past)
  pub causes : Histories (x ∷ past)
  pub honest : AllHonest x.entry.replies
  pub fair : AllFair (layer_in (calls x.step.end (x ∷ past))) (layer_in (calls (other x.step.end) (x ∷ past))) x.entry.replies

-- each event of a past, after those before it
abbrev pub Explained : List Event → Type 0
Explained [] = ⊤
Explained (x ∷ past) = Explains x past × Explained past

abbrev pub onto : List Event → List Step → List Entry → List Event
onto past [] [] = past
onto past [] (x ∷ xs) = past
onto past (s ∷ ss) [] = past
onto past (s ∷ ss) (x ∷ xs) = onto (record { step = s; entry = x } ∷ past) ss xs

-- the past that steps and their entries make, the newest first
abbrev pub past_of : List Step → List Entry → List Event
past_of steps entries = onto [] steps entries

-- the ends made these steps, one after another, and came from one view of the world to another
abbrev pub Turns : WorldView → List Step → WorldView → Type 0
Turns old [] new = new ≡ old
Turns old (s ∷ ss) new = (next : WorldView) × IsTurn old s next × Turns next ss new

-- the ends made these steps from the start, and these are their entries
pub record AreMade (steps : List Step) (entries : List Entry) : Type 0 where
  pub world : WorldView
  pub turns : Turns start steps world
  pub entries_are : world.entries ≡ entries

-- Step i is the first that is not valid: the ends made those before it, with entries that explain them, after which it is not.
pub record IsFirstInvalid (steps : List Step) (i : ℕ) : Type 0 where
  pub entries : List Entry
  pub step : Step
  pub form : length entries ≡ i
  pub made : AreMade (take i steps) entries
  pub before : Explained (past_of (take i steps) entries)
  pub at : slice_get steps i ≡ Some step
  pub invalid : IsValid (past_of (take i steps) entries) step → ⊥
