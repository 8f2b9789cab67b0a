-- The text of a report.
use Rattle.std.specs.Prelude.{ℕ, ◌+◌, ◌==◌, if◌then◌else◌, List, [], ◌∷◌, ◌++◌, codes, decimal}
use Rattle.mm_base.specs.Characters.{line_feed, space}
use Rattle.mm_base.specs.Id.{id_text}
use Rattle.mm_report.specs.declared.counts.StepCounts.{StepCounts}
use Rattle.mm_report.specs.declared.counts.Totals.{Totals}
use Rattle.mm_report.specs.declared.text.Listing.{Listing}
use Rattle.mm_report.specs.declared.text.Listing.TheVariants.{Numbers, Differences}
use Rattle.mm_report.specs.Report.{Reported, totals_of}

-- a word and its number, each after a space
abbrev pub number_text : List ℕ → ℕ → List ℕ
number_text word n = space ∷ word ++ space ∷ decimal n

-- the step and the store that a line is about
abbrev pub named_text : List ℕ → ℕ → List ℕ → List ℕ
named_text word t id = word ++ space ∷ decimal t ++ space ∷ id_text id

-- the numbers of a line, to its end
abbrev pub numbers_text : Totals → List ℕ
numbers_text x =
    number_text (codes "arrived") x.arrived ++ number_text (codes "lost") x.lost
    ++ number_text (codes "dumped") x.dumped ++ number_text (codes "held") x.held ++ line_feed ∷ []

-- the numbers of a step and a store
abbrev pub sums_of : StepCounts → Totals
sums_of x = record { arrived = x.arrived; lost = x.lost; dumped = x.dumped; held = x.held }

-- what a step brought to a store
abbrev pub step_line : ℕ → List ℕ → StepCounts → List ℕ
step_line t id x = named_text (codes "step") t id ++ numbers_text (sums_of x)

-- another number of packets came than the forecast says
abbrev pub differs_line : ℕ → List ℕ → StepCounts → List ℕ
differs_line t id x =
    named_text (codes "differs step") t id ++ number_text (codes "forecast") x.forecast
    ++ number_text (codes "came") x.arrived ++ line_feed ∷ []

-- the line of a step and a store: of every one its numbers, or of those alone to which another number came
abbrev pub line_of : Listing → ℕ → List ℕ → StepCounts → List ℕ
line_of Numbers t id x = step_line t id x
line_of Differences t id x = if x.forecast == x.arrived then [] else differs_line t id x

-- the lines of a step, store by store
abbrev pub row_text : Listing → ℕ → List (List ℕ) → List StepCounts → List ℕ
row_text listing t [] row = []
row_text listing t (id ∷ ids) [] = []
row_text listing t (id ∷ ids) (x ∷ xs) = line_of listing t id x ++ row_text listing t ids xs

-- the lines of the steps from step t on
abbrev pub steps_text : Listing → List (List ℕ) → ℕ → List (List StepCounts) → List ℕ
steps_text listing ids t [] = []
steps_text listing ids t (row ∷ rows) = row_text listing t ids row ++ steps_text listing ids (t + 1) rows

-- the last line
abbrev pub total_line : Totals → List ℕ
total_line x = codes "total" ++ numbers_text x

-- the lines of all steps, then where the forecast was not met, then the totals
abbrev pub report_text : Reported → List ℕ
report_text r = steps_text Numbers r.ids 1 r.steps ++ steps_text Differences r.ids 1 r.steps ++ total_line (totals_of r.steps)
