-- A conversation as a picture: two lifelines, time downwards, a row for each line (Scalable Vector Graphics 1.1).
use Rattle.std.specs.Prelude.{◌≡◌, ◌-◌, ◌+◌, List, ℕ, [], ◌∷◌, ◌++◌, ◌==◌, ◌||◌, nat_lt, if◌then◌else◌, codes, decimal, drop, flat_map}
use Rattle.amqp_shown.specs.Bytes.{hex_of}
use Rattle.amqp_show.specs.declared.voice.Side.{Side}
use Rattle.amqp_show.specs.declared.voice.Side.TheVariants.{Client, Listener}
use Rattle.amqp_show.specs.declared.layout.Row.{Row}
use Rattle.amqp_show.specs.declared.layout.Row.TheVariants.{Step, Answer, Said, Cut}
use Rattle.amqp_show.specs.declared.layout.Layout.{Layout}
use Rattle.amqp_show.specs.declared.picture.Anchor.{Anchor}
use Rattle.amqp_show.specs.declared.picture.Anchor.TheVariants as anchor
use Rattle.amqp_show.specs.Lines.{lines_of}
use Rattle.amqp_show.specs.Voice.{other}
use Rattle.amqp_show.specs.Show.{IsShown}
use Rattle.amqp_show.specs.Layout.{kind_of, mark_of, below, measured, first_layout, step_side, lifeline, middle, width}

-- how words stand at their place: they begin there, their middle is there, or they end there
abbrev pub anchor_text : Anchor → List ℕ
anchor_text anchor.Start = []
anchor_text anchor.Middle = codes " text-anchor='middle'"
anchor_text anchor.End = codes " text-anchor='end'"

-- a byte of a text: markup by its name, a control character as `\x` and two digits
abbrev pub marked : ℕ → List ℕ
marked b =
    if b == 38 then codes "&amp;"
    else if b == 60 then codes "&lt;"
    else if b == 62 then codes "&gt;"
    else if nat_lt b 32 || (b == 127) then 92 ∷ 120 ∷ hex_of (b ∷ [])
    else b ∷ []

abbrev pub marked_all : List ℕ → List ℕ
marked_all text = flat_map marked text

abbrev pub attribute_text : List ℕ → ℕ → List ℕ
attribute_text name value = 32 ∷ name ++ codes "='" ++ decimal value ++ codes "'"

-- the attributes of a place
unfoldable pub place_text : List ℕ → List ℕ → ℕ → ℕ → List ℕ
place_text name name' x y = attribute_text name x ++ attribute_text name' y

-- words at a place
unfoldable pub words_text : ℕ → ℕ → Anchor → List ℕ → List ℕ
words_text x y a words = codes "<text" ++ place_text (codes "x") (codes "y") x y ++ anchor_text a ++ codes ">" ++ marked_all words ++ codes "</text>" ++ 10 ∷ []

unfoldable pub line_front : List ℕ
line_front = codes "<line stroke='black'"

-- a line from one place to another
unfoldable pub line_text : ℕ → ℕ → ℕ → ℕ → List ℕ → List ℕ
line_text x y x' y' style = line_front ++ place_text (codes "x1") (codes "y1") x y ++ place_text (codes "x2") (codes "y2") x' y' ++ style ++ codes "/>" ++ 10 ∷ []

-- a lifeline below its name
unfoldable pub lifeline_text : ℕ → ℕ → List ℕ → List ℕ
lifeline_text place bottom name = words_text place 20 anchor.Middle name ++ line_text place 28 place bottom []

unfoldable pub svg_front : List ℕ
svg_front = codes "<svg xmlns='http://www.w3.org/2000/svg'"

unfoldable pub font_text : List ℕ
font_text = codes " font-family='monospace' font-size='13'>" ++ 10 ∷ []

unfoldable pub view_front : List ℕ
view_front = codes " viewBox='0 0 "

-- what is seen of a picture: all of it, also where it is shown smaller
abbrev pub view_text : ℕ → ℕ → List ℕ
view_text across down = view_front ++ decimal across ++ codes " " ++ decimal down ++ codes "'"

-- the size of a picture
abbrev pub size_text : Layout → List ℕ
size_text layout = svg_front ++ attribute_text (codes "width") (width layout) ++ attribute_text (codes "height") layout.bottom ++ view_text (width layout) layout.bottom ++ font_text

-- the tip of an arrow
unfoldable pub tip_front : List ℕ
tip_front = codes "<defs><marker id='tip' markerWidth='9' markerHeight='8' refX='9' refY='4' orient='auto'>"

unfoldable pub tip_shape : List ℕ
tip_shape = codes "<path d='M0 0L9 4L0 8z'/></marker></defs>" ++ 10 ∷ []

-- a white ground
unfoldable pub white_text : List ℕ
white_text = codes "<rect width='100%' height='100%' fill='white'/>" ++ 10 ∷ []

-- all that stands before the rows
abbrev pub head_text : Layout → List ℕ
head_text layout = size_text layout ++ tip_front ++ tip_shape ++ white_text ++ lifeline_text (lifeline Client layout) layout.bottom (codes "client") ++ lifeline_text (lifeline Listener layout) layout.bottom (codes "listener")

-- a step stands beside the lifeline of its end, towards the other
abbrev pub step_row : Layout → ℕ → Side → List ℕ → List ℕ
step_row layout y Client words = words_text (lifeline Client layout + 6) y anchor.Start words
step_row layout y Listener words = words_text (lifeline Listener layout - 6) y anchor.End words

-- a reply stands there, away from the other
abbrev pub answer_row : Layout → ℕ → Side → List ℕ → List ℕ
answer_row layout y Client words = words_text (lifeline Client layout - 6) y anchor.End words
answer_row layout y Listener words = words_text (lifeline Listener layout + 6) y anchor.Start words

-- what an end said stands above an arrow to the other
abbrev pub said_row : Layout → ℕ → Side → List ℕ → List ℕ
said_row layout y side words = words_text (middle layout) y anchor.Middle words ++ line_text (lifeline side layout) (below y 5) (lifeline (other side) layout) (below y 5) (codes " marker-end='url(#tip)'")

-- what an end has not said stands above a broken line that does not reach the other
abbrev pub cut_row : Layout → ℕ → Side → List ℕ → List ℕ
cut_row layout y side words = words_text (middle layout) y anchor.Middle words ++ line_text (lifeline side layout) (below y 5) (middle layout) (below y 5) (codes " stroke-dasharray='4'")

abbrev pub row_by : Row → Layout → ℕ → Side → List ℕ → List ℕ
row_by Step layout y side words = step_row layout y side words
row_by Answer layout y side words = answer_row layout y side words
row_by (Said end) layout y side words = said_row layout y end words
row_by (Cut end) layout y side words = cut_row layout y end words

-- the row of a line; the end is that of its step
abbrev pub row_text : Layout → ℕ → Side → List ℕ → List ℕ
row_text layout y side line = row_by (kind_of line) layout y side (drop (mark_of (kind_of line)) line)

abbrev pub side_by : Row → Side → List ℕ → Side
side_by Step side line = step_side line
side_by Answer side line = side
side_by (Said end) side line = side
side_by (Cut end) side line = side

-- the end of the step that a line is or belongs to, where this is that of the line before
abbrev pub side_after : Side → List ℕ → Side
side_after side line = side_by (kind_of line) side line

abbrev pub rows_text : Layout → ℕ → Side → List (List ℕ) → List ℕ
rows_text layout y side [] = []
rows_text layout y side (line ∷ lines) = row_text layout y (side_after side line) line ++ rows_text layout (below y 20) (side_after side line) lines

abbrev pub picture_in : Layout → List (List ℕ) → List ℕ
picture_in layout lines = head_text layout ++ rows_text layout 44 Client lines ++ codes "</svg>" ++ 10 ∷ []

-- the picture of what is shown
abbrev pub picture_of : List ℕ → List ℕ
picture_of text = picture_in (measured first_layout (lines_of text)) (lines_of text)

-- the picture of what is shown of a script and its trace
pub record IsPicture (script trace svg : List ℕ) : Type 0 where
  pub text : List ℕ
  pub is_shown : IsShown script trace text
  pub is : svg ≡ picture_of text
