-- The shapes of a picture, and their text: Scalable Vector Graphics (SVG) 1.1.
use Rattle.std.specs.Prelude.{ℕ, ◌+◌, ◌-◌, ◌%◌, ◌==◌, if◌then◌else◌, List, [], ◌∷◌, ◌++◌, length, codes, decimal}
use Rattle.std.specs.Prelude.{flat_map, ℤ, pos, negsuc}
use Rattle.mm_base.specs.Id.{id_text}
use Rattle.mm_problem.specs.Dumping.{steps}
use Rattle.mm_chart.specs.declared.pen.Part.{Part}
use Rattle.mm_chart.specs.declared.pen.Part.TheVariants.{Said, Name, Number, Grouped, Signed}
use Rattle.mm_chart.specs.declared.pen.Style.{Style}
use Rattle.mm_chart.specs.declared.pen.Style.TheVariants as style
use Rattle.mm_chart.specs.declared.series.Series.{Series}
use Rattle.mm_chart.specs.declared.series.Series.TheVariants.{WindowCounts, Window, Used, ChannelCounts, Sent, Inner}
use Rattle.mm_chart.specs.declared.series.Series.TheVariants.{Last, LeftAndSent, Left, Lost, Size, Worth, Raised}
use Rattle.mm_chart.specs.Picture.{Drawn}
use Rattle.mm_chart.specs.Series.{amount_at, total_of, whole_of, scaled}
use Rattle.mm_chart.specs.Layout.{edge, room_of, base_of}

-- fixed words, as they are written
unfoldable pub said : List ℕ → List ℕ
said words = words

-- a character as it stands in the text of an element (Extensible Markup Language 1.0, 2.4)
abbrev pub escaped_char : ℕ → List ℕ
escaped_char c = if c == 38 then codes "&amp;" else if c == 60 then codes "&lt;" else if c == 62 then codes "&gt;" else
    c ∷ []

-- words from outside, with each character that would be read as markup escaped
unfoldable pub escaped : List ℕ → List ℕ
escaped text = flat_map escaped_char text

-- ---- numbers

-- the character between thousands
abbrev pub comma : ℕ
comma = 44

-- digits with a comma after each that has a whole number of thousands after it
abbrev pub separated : List ℕ → List ℕ
separated [] = []
separated (c ∷ []) = c ∷ []
separated (c ∷ d ∷ cs) = (if length (d ∷ cs) % 3 == 0 then c ∷ comma ∷ [] else c ∷ []) ++ separated (d ∷ cs)

-- a number with its thousands separated
abbrev pub grouped : ℕ → List ℕ
grouped n = separated (decimal n)

-- a number that may be below 0
abbrev pub signed_grouped : ℤ → List ℕ
signed_grouped (pos n) = grouped n
signed_grouped (negsuc n) = said (codes "&#8722;") ++ grouped (n + 1)

-- ---- words at a place

-- the letter of a style in the style sheet
abbrev pub style_name : Style → List ℕ
style_name style.Headline = codes "h"
style_name style.Doubtful = codes "m"
style_name style.Alarm = codes "a"
style_name style.Name = codes "n"
style_name style.Side = codes "s"
style_name style.Total = codes "t"
style_name style.Loss = codes "r"
style_name style.Tick = codes "k"
style_name style.Heading = codes "b"
style_name style.Plain = codes "w"

-- a part of a line of words as the code has it
abbrev pub part_text : Part → List ℕ
part_text (Said words) = words.now
part_text (Name id) = escaped (id_text id.now)
part_text (Number n) = decimal n
part_text (Grouped n) = grouped n
part_text (Signed n) = signed_grouped n

-- parts one after another
unfoldable pub joined : List (List ℕ) → List ℕ
joined parts = flat_map (λ part. part) parts

-- what comes before the words at a place, and what after them
unfoldable pub opened : Style → ℕ → ℕ → List ℕ
opened style x y =
    said (codes "<text class='") ++ style_name style
    ++ joined (codes "' x='" ∷ decimal x ∷ codes "' y='" ∷ decimal y ∷ codes "'>" ∷ [])

unfoldable pub closed : List ℕ
closed = said (codes "</text>\n")

unfoldable pub label : Style → ℕ → ℕ → List (List ℕ) → List ℕ
label style x y parts = opened style x y ++ joined parts ++ closed

-- ---- frames and lines

unfoldable pub framed : ℕ → ℕ → ℕ → ℕ → List ℕ
framed x y width height =
    joined (codes "<rect class='o' x='" ∷ decimal x ∷ codes "' y='" ∷ decimal y ∷ codes "' width='" ∷ decimal width
    ∷ codes "' height='" ∷ decimal height ∷ codes "'/>\n" ∷ [])

unfoldable pub guided : ℕ → ℕ → ℕ → List ℕ
guided x y to =
    joined (codes "<path class='i' d='M" ∷ decimal x ∷ codes " " ∷ decimal y ∷ codes "V" ∷ decimal to
    ∷ codes "'/>\n" ∷ [])

-- ---- heights

-- how high a step of a series is drawn
abbrev pub height_of : Drawn → Series → ℕ → ℕ → ℕ
height_of p x whole t = scaled (room_of x) whole (amount_at p x t)

-- up or down to a line
abbrev pub line_at : ℕ → List ℕ
line_at y = said (codes "V") ++ decimal y

-- to a place
abbrev pub begun : ℕ → ℕ → List ℕ
begun x y = said (codes "M") ++ decimal x ++ said (codes " ") ++ decimal y

-- what leads to a height from another: from the base line where that is none
abbrev pub rise : ℕ → ℕ → ℕ → ℕ → List ℕ
rise left base before here = if here == before then [] else (if before == 0 then begun left base else []) ++ line_at
    (base - here)

-- the outline of a step between two edges: down to the base line where it has no height, or up or down to its height
-- and to the right
unfoldable pub bar_line : ℕ → ℕ → ℕ → ℕ → ℕ → List ℕ
bar_line left right base before here =
    if here == 0 then (if before == 0 then [] else line_at base)
    else rise left base before here ++ (said (codes "H") ++ decimal right)

-- the outline of one step of a series
unfoldable pub step_outline : Drawn → Series → ℕ → ℕ → List ℕ
step_outline p x whole t =
    bar_line (edge p.problem (t - 1)) (edge p.problem t) (base_of p.problem x) (height_of p x whole (t - 1))
    (height_of p x whole t)

-- the letter of a series in the style sheet
abbrev pub series_name : Series → List ℕ
series_name WindowCounts = codes "c"
series_name (ChannelCounts c) = codes "c"
series_name (Inner s) = codes "c"
series_name (Last s) = codes "e"
series_name Window = codes "p"
series_name Used = codes "u"
series_name (Sent c) = codes "v"
series_name (LeftAndSent s) = codes "g"
series_name (Left s) = codes "f"
series_name (Lost s) = codes "l"
series_name (Size s) = codes "z"
series_name Worth = codes "q"
series_name (Raised c) = codes "q"
series_name _ = codes "o"

-- the beginning of its outline
unfoldable pub path_begun : Series → List ℕ
path_begun x = said (codes "<path class='") ++ series_name x ++ said (codes "' d='")

-- the outline of a series over all steps, or nothing where it has none
unfoldable pub profile : Drawn → Series → List ℕ
profile p x =
    if total_of p x == 0 then []
    else path_begun x ++ flat_map (step_outline p x (whole_of p x)) (steps p.problem)
    ++ joined (codes "V" ∷ decimal (base_of p.problem x) ∷ codes "'/>\n" ∷ [])

-- ---- shapes

-- what a chart is made of
pub data Shape : Type 0 where
  -- a text as it stands
  Fixed : List ℕ → Shape
  -- words in a style that begin at a place, part by part
  Label : Style → ℕ → ℕ → List (List ℕ) → Shape
  -- the frame of a row: its left and its upper edge, its width and its height
  Frame : ℕ → ℕ → ℕ → ℕ → Shape
  -- a line from a place down to another line
  Guide : ℕ → ℕ → ℕ → Shape
  -- the outline of a series
  Outline : Drawn → Series → Shape

-- a shape as it is written
abbrev pub printed : Shape → List ℕ
printed (Fixed text) = said text
printed (Label style x y parts) = label style x y parts
printed (Frame x y width height) = framed x y width height
printed (Guide x y to) = guided x y to
printed (Outline p x) = profile p x

-- shapes one after another
abbrev pub drawn : List Shape → List ℕ
drawn shapes = flat_map printed shapes
