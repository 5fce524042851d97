-- Where the lines of a conversation stand in its picture, in pixels.
use Rattle.std.specs.Prelude.{◌+◌, ◌*◌, ◌/◌, ◌-◌, ◌^◌, List, ℕ, [], ◌∷◌, ◌==◌, if◌then◌else◌, codes, drop, length, min, max, is_some, position, Option, Some, None}
use Rattle.amqp_show.specs.declared.voice.Side.{Side}
use Rattle.amqp_show.specs.declared.voice.Side.TheVariants.{Client, Listener}
use Rattle.amqp_show.specs.declared.layout.Row.{Row}
use Rattle.amqp_show.specs.declared.layout.Row.TheVariants.{Step, Answer, Said, Cut}
use Rattle.amqp_show.specs.declared.layout.Layout.{Layout}
use Rattle.amqp_show.specs.Lines.{behind}
use Rattle.amqp_show.specs.Show.{side_in}

-- what a line tells: a reply is indented, and what an end said begins with its arrow
abbrev pub kind_of : List ℕ → Row
kind_of line =
    if is_some (behind (codes "    -> ") line) then Said Client
    else if is_some (behind (codes "    <- ") line) then Said Listener
    else if is_some (behind (codes "    ") line) then Answer
    else if is_some (behind (codes "-> ") line) then Cut Client
    else if is_some (behind (codes "<- ") line) then Cut Listener
    else Step

-- how many bytes of a line tell its kind
abbrev pub mark_of : Row → ℕ
mark_of Step = 0
mark_of Answer = 4
mark_of (Said side) = 7
mark_of (Cut side) = 3

-- far down all lines lie on each other
abbrev pub below : ℕ → ℕ → ℕ
below place distance = min (place + distance) (2 ^ 64 - 1)

-- with room for a line of a kind
abbrev pub measure_by : Row → ℕ → Layout → Layout
measure_by Answer letters layout = record { answers = max layout.answers letters; inner = layout.inner; bottom = below layout.bottom 20 }
measure_by Step letters layout = record { answers = layout.answers; inner = max layout.inner letters; bottom = below layout.bottom 20 }
measure_by (Said side) letters layout = record { answers = layout.answers; inner = max layout.inner letters; bottom = below layout.bottom 20 }
measure_by (Cut side) letters layout = record { answers = layout.answers; inner = max layout.inner letters; bottom = below layout.bottom 20 }

abbrev pub measure : Layout → List ℕ → Layout
measure layout line = measure_by (kind_of line) (length line) layout

-- with room for lines
abbrev pub measured : Layout → List (List ℕ) → Layout
measured layout [] = layout
measured layout (line ∷ lines) = measured (measure layout line) lines

abbrev pub first_layout : Layout
first_layout = record { answers = 8; inner = 24; bottom = 40 }

-- the end of a step stands behind its number
abbrev pub side_at : Option ℕ → List ℕ → Side
side_at None line = Client
side_at (Some place) line = side_in (drop (place + 1) line)

abbrev pub step_side : List ℕ → Side
step_side line = side_at (position (λ b. b == 32) line) line

-- the room for so many letters; what is longer than 4,096 stands beyond it
abbrev pub room : ℕ → ℕ
room letters = 8 * min letters 4096

-- where a lifeline stands
abbrev pub lifeline : Side → Layout → ℕ
lifeline Client layout = room layout.answers + 24
lifeline Listener layout = room layout.answers + 24 + room layout.inner + 48

-- the middle between the lifelines
abbrev pub middle : Layout → ℕ
middle layout = lifeline Client layout + room layout.inner / 2 + 24

-- the right edge
abbrev pub width : Layout → ℕ
width layout = lifeline Listener layout + room layout.answers + 24
