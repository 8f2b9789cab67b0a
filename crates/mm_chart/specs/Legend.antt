-- What the colours of a chart mean: a key for each that is there.
use Rattle.std.specs.Prelude.{ℕ, ◌&&◌, nat_lt, Bool, if◌then◌else◌, List, ◌∷◌, [], ◌++◌, length, codes}
use Rattle.std.specs.List.{list_any}
use Rattle.mm_problem.specs.Dumping.{stores}
use Rattle.mm_chart.specs.declared.legend.TheConstants.{STAYS_KEY, LEAVES_KEY, WINDOW_KEY, USED_KEY, LOST_KEY}
use Rattle.mm_chart.specs.declared.legend.TheConstants.{COUNTS_KEY, LAST_KEY, SENT_KEY, SIZE_KEY, SAVED_KEY}
use Rattle.mm_chart.specs.declared.series.Series.{Series}
use Rattle.mm_chart.specs.declared.series.Series.TheVariants.{Left, Used, Window}
use Rattle.mm_chart.specs.Picture.{Drawn, has_worth, cut}
use Rattle.mm_chart.specs.Series.{total_of, most_lost, most_saved, has_inner}
use Rattle.mm_chart.specs.Layout.{is_limited}
use Rattle.mm_chart.specs.Svg.{Shape, Fixed, series_name}

-- at the first place a small box that looks like the series, and at the second what it means
abbrev pub key : Series → List ℕ → List ℕ → List ℕ → List ℕ
key series box at words =
    codes "<rect class='" ++ series_name series ++ codes "' " ++ box
    ++ codes " width='12' height='12'/><text class='t' " ++ at ++ codes ">" ++ words ++ codes "</text>\n"

-- the look of a size
abbrev pub size_style : List ℕ
size_style = codes "<style>.z{fill:none;stroke:#000;stroke-width:1.5;stroke-dasharray:4 2}</style>\n"

-- the colour of what is saved
abbrev pub saved_style : List ℕ
saved_style = codes "<style>.q{fill:#1e8a4c;stroke:#000;stroke-width:.5}</style>\n"

-- a key where what it names is there
unfoldable pub key_if : Bool → List ℕ → List Shape
key_if there key = if there then Fixed key ∷ [] else []

-- whether a series has a number above 0
abbrev pub has : Drawn → Series → Bool
has p x = nat_lt 0 (total_of p x)

-- whether something stays in a store
abbrev pub stays : Drawn → Bool
stays p = list_any (λ s. has p (Left s)) (stores p.problem)

-- the keys of what is in the row of the windows, and of what leaves by them
unfoldable pub windows_keys : Drawn → List Shape
windows_keys p =
    key_if (has p Used) LEAVES_KEY.now ++ key_if (has p Window) WINDOW_KEY.now ++ key_if (has p Used) USED_KEY.now

-- the keys of what is sent on channels with a limit, of sizes of single steps, and of what is saved
unfoldable pub numbers_keys : Drawn → List Shape
numbers_keys p =
    key_if (is_limited p.problem) SENT_KEY.now ++ key_if (nat_lt 0 (length p.problem.sized)) SIZE_KEY.now
    ++ key_if (has_worth p && nat_lt 0 (most_saved p)) SAVED_KEY.now

-- the other keys
unfoldable pub legend : Drawn → List Shape
legend p =
    key_if (stays p) STAYS_KEY.now ++ key_if (nat_lt 0 (most_lost p)) LOST_KEY.now
    ++ key_if (has_inner p) COUNTS_KEY.now ++ key_if (nat_lt 0 (length (cut p))) LAST_KEY.now ++ numbers_keys p
