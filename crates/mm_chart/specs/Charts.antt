-- The document of a chart, and the chart of three texts.
use Rattle.std.specs.Prelude.{◌≡◌, ℕ, None, List, [], ◌∷◌, ◌++◌, codes, decimal}
use Rattle.mm_problem.specs.Texts.{SaysProblem}
use Rattle.mm_cut.specs.Checking.{SaysSheet}
use Rattle.mm_plan.specs.Sheet.{SheetRows}
use Rattle.mm_problem.specs.Dumping.{Dumping}
use Rattle.mm_cut.specs.Verdicts.{IsSheetVerdict}
use Rattle.mm_cut.specs.declared.verdict.Verdict.{Verdict}
use Rattle.mm_chart.specs.declared.document.TheConstants.{OPENING, FONT, STYLES}
use Rattle.mm_chart.specs.Picture.{Drawn, picture_of}
use Rattle.mm_chart.specs.Layout.{word_line}
use Rattle.mm_chart.specs.Rows.{rows}
use Rattle.mm_chart.specs.Svg.{Shape, Fixed, said, joined, drawn}
use Rattle.mm_chart.specs.Words.{headline, words, word_lines}

-- the first line of the document, with the size of the picture
abbrev pub head : Drawn → List ℕ
head p = joined (OPENING.now ∷ decimal (word_line p.problem (word_lines p p.verdict)) ∷ FONT.now ∷ [])

-- what a chart is made of, in order
abbrev pub shapes : Drawn → List Shape
shapes p = Fixed STYLES.now ∷ headline p ∷ rows p ++ words p

-- the document of a picture
unfoldable pub chart : Drawn → List ℕ
chart p = head p ++ drawn (shapes p) ++ said (codes "</svg>\n")

-- the chart of what a setup, a forecast and a plan text say, by the verdict on them
pub record Charts (setup forecast text octets : List ℕ) : Type 0 where
  pub problem : Dumping
  pub sheet : SheetRows
  pub verdict : Verdict
  pub says_problem : SaysProblem setup forecast problem
  pub says_sheet : SaysSheet problem text sheet
  pub is_verdict : IsSheetVerdict problem sheet verdict
  pub drawn : octets ≡ chart (picture_of problem sheet verdict None)
