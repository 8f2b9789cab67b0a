-- What a chart says in words.
use Rattle.std.specs.Prelude.{ℕ, ◌+◌, ◌-◌, ◌*◌, ◌/◌, ◌%◌, ◌==◌, length, nat_le, nat_lt, Bool, ◌&&◌, not, if◌then◌else◌}
use Rattle.std.specs.Prelude.{List, [], ◌∷◌, ◌++◌, codes, decimal, flat_map}
use Rattle.std.specs.List.{sum_by}
use Rattle.mm_problem.specs.Dumping.{steps, stores}
use Rattle.mm_plan.specs.Volumes.{first_loss}
use Rattle.mm_cut.specs.declared.verdict.Verdict.{Verdict}
use Rattle.mm_cut.specs.declared.verdict.Verdict.TheVariants.{LossIs, NotShown, Least, LeastInOrder}
use Rattle.mm_cut.specs.Cuts.{coming_sum, held_sum, windows_sum, limits_sum}
use Rattle.mm_cut.specs.Lines.{line_of}
use Rattle.mm_chart.specs.declared.layout.TheConstants.{MARGIN, HEADLINE_AT, LINE_PITCH}
use Rattle.mm_chart.specs.declared.phrases.TheConstants.{MANY_RANGES, INDENT, NO_FEWER, ONLY_SHOWN, MARKED_WINDOWS}
use Rattle.mm_chart.specs.declared.phrases.TheConstants.{MARKED_PASSES, MARKED_LIMITS, MARKED, AT_LEAST, WHY}
use Rattle.mm_chart.specs.declared.phrases.TheConstants.{IN_STRETCHES, COME, AS_ENDS, STAND, BY_WINDOWS, NO_WINDOWS}
use Rattle.mm_chart.specs.declared.phrases.TheConstants.{BY_LIMITS, NO_LIMITS, HELP, WIDER, NO_WIDER, HIGHER, NO_HIGHER}
use Rattle.mm_chart.specs.declared.phrases.TheConstants.{LARGER, FEWER, MARKED_WORTH, ONE_WIDER, ONE_HIGHER, FEW_NAMES}
use Rattle.mm_chart.specs.declared.phrases.TheConstants.{FEW_LOSSES, NO_OTHER, NONE_WIDER, IN_ORDER, FIRSTS, LOSE}
use Rattle.mm_chart.specs.declared.phrases.TheConstants.{PLAN_LOSES, TEXT_SAYS, ONE_LARGER}
use Rattle.mm_chart.specs.declared.pen.Style.{Style}
use Rattle.mm_chart.specs.declared.pen.Style.TheVariants as style
use Rattle.mm_chart.specs.declared.series.Series.{Series}
use Rattle.mm_chart.specs.declared.series.Series.TheVariants.{WindowCounts, CountedWindow, LimitsCount, Worth}
use Rattle.mm_chart.specs.Picture.{Drawn, amounts, has_worth, cut, counts}
use Rattle.mm_chart.specs.Series.{one_if, amount_at, total_of, most_of, has_stretch}
use Rattle.mm_chart.specs.Layout.{word_line, is_limited}
use Rattle.mm_chart.specs.Svg.{Shape, Label, grouped, signed_grouped, joined, opened, closed}
use Rattle.mm_chart.specs.Rows.{all_coming, name}

-- ---- the headline

-- what the verdict lets the chart say
unfoldable pub headline_of : Drawn → Verdict → Shape
headline_of p (Least n) =
    Label style.Headline MARGIN HEADLINE_AT (grouped n ∷ codes " of " ∷ grouped (all_coming p) ∷ NO_FEWER.now ∷ [])
headline_of p (LeastInOrder n) =
    Label style.Headline MARGIN HEADLINE_AT (grouped n ∷ codes " of " ∷ grouped (all_coming p) ∷ IN_ORDER.now ∷ [])
headline_of p (NotShown n m) =
    Label style.Doubtful MARGIN HEADLINE_AT
    (grouped n ∷ codes " of " ∷ grouped (all_coming p) ∷ ONLY_SHOWN.now ∷ signed_grouped m ∷ [])
headline_of p (LossIs n) =
    Label style.Alarm MARGIN HEADLINE_AT
    (PLAN_LOSES.now ∷ grouped n ∷ codes " of " ∷ grouped (all_coming p) ∷ TEXT_SAYS.now ∷ grouped p.sheet.loss ∷ [])
headline_of p v = Label style.Alarm MARGIN HEADLINE_AT (line_of v ∷ [])

abbrev pub headline : Drawn → Shape
headline p = headline_of p p.verdict

-- ---- steps as ranges

-- whether a step has a number of the series
abbrev pub is_marked : Drawn → Series → ℕ → Bool
is_marked p x t = nat_lt 0 (amount_at p x t)

-- whether two numbers of a series are of one range, where the second is one: in what windows are worth they are the
-- same
abbrev pub is_joined : Series → ℕ → ℕ → Bool
is_joined Worth before here = nat_lt 0 here && (before == here)
is_joined _ before here = nat_lt 0 before && nat_lt 0 here

-- whether a step is in the range of the step before
abbrev pub goes_on : Drawn → Series → ℕ → Bool
goes_on p x t = is_joined x (amount_at p x (t - 1)) (amount_at p x t)

-- 1 where a range of such steps begins
abbrev pub begins : Drawn → Series → ℕ → ℕ
begins p x t = one_if (is_marked p x t && not (goes_on p x t))

-- how many ranges there are
abbrev pub ranges_of : Drawn → Series → ℕ
ranges_of p x = sum_by (begins p x) (steps p.problem)

-- before the first step of a range, or the last
abbrev pub before_step : Bool → List ℕ
before_step goes_on = if goes_on then codes "&#8211;" else codes " "

-- after the last step of a range: the number of each of its steps, where they have one
abbrev pub after_range : Series → ℕ → List (List ℕ)
after_range Worth n = codes " (" ∷ grouped n ∷ codes ")," ∷ []
after_range _ n = codes "," ∷ []

-- what a step adds to the ranges: its number where it is the first or the last of one, and what follows the last
unfoldable pub range_part : Drawn → Series → ℕ → List ℕ
range_part p x t =
    if not (is_marked p x t) then []
    else if goes_on p x (t + 1) then (if goes_on p x t then [] else joined (codes " " ∷ decimal t ∷ []))
    else joined (before_step (goes_on p x t) ∷ decimal t ∷ after_range x (amount_at p x t))

-- how many such steps there are
abbrev pub marks : Drawn → Series → ℕ
marks p x = sum_by (λ t. one_if (is_marked p x t)) (steps p.problem)

-- where such steps are marked
abbrev pub marked_where : Series → List ℕ
marked_where WindowCounts = MARKED_WINDOWS.now
marked_where CountedWindow = MARKED_PASSES.now
marked_where LimitsCount = MARKED_LIMITS.now
marked_where Worth = MARKED_WORTH.now
marked_where _ = MARKED.now

-- before one step or several
abbrev pub step_word : ℕ → List ℕ
step_word n = if n == 1 then codes "In step" else codes "In steps"

-- the largest number, where the steps have numbers
unfoldable pub most_amount : Drawn → Series → List ℕ
most_amount p Worth = joined (codes " (at most " ∷ grouped (most_of p Worth) ∷ codes ")," ∷ [])
most_amount p _ = []

-- the steps as ranges, or their number where they are many ranges
unfoldable pub in_steps : Drawn → Series → List ℕ
in_steps p x =
    if nat_le (ranges_of p x) MANY_RANGES
    then joined (step_word (marks p x) ∷ []) ++ flat_map (range_part p x) (steps p.problem)
    else joined (codes "In the " ∷ grouped (marks p x) ∷ marked_where x ∷ []) ++ most_amount p x

-- ---- lines of words

-- words on a line below the rows
abbrev pub line_words : Drawn → Style → ℕ → List (List ℕ) → Shape
line_words p style n parts = Label style MARGIN (word_line p.problem n) parts

-- a line on the steps of a series, or on that there are none
unfoldable pub steps_line : Drawn → Series → ℕ → List (List ℕ) → List ℕ → Shape
steps_line p x n words none = line_words p style.Plain n (if total_of p x == 0 then none ∷ [] else in_steps p x ∷ words)

-- a new line after each group of this many stores, where more follow
unfoldable pub broken : ℕ → ℕ → ℕ → List ℕ
broken few y s =
    if s == 0 then [] else if s % few == 0 then closed ++ opened style.Plain INDENT (y + LINE_PITCH * (s / few)) else []

-- ---- why no plan loses fewer

-- what comes, less what the stores hold, less what leaves by windows and by limits
unfoldable pub why : Drawn → List ℕ → List Shape
why p bound =
    let coming = grouped (coming_sum p.problem (cut p)) in
    let held = grouped (held_sum p.problem (cut p)) in
    let windows = grouped (windows_sum p.problem (cut p) (counts p)) in
    let limits = grouped (limits_sum p.problem (cut p) (counts p)) in
    line_words p style.Heading 0 (WHY.now ∷ bound ∷ [])
    ∷ line_words p style.Plain 1 (IN_STRETCHES.now ∷ coming ∷ COME.now ∷ [])
    ∷ line_words p style.Plain 2 (AS_ENDS.now ∷ held ∷ STAND.now ∷ [])
    ∷ steps_line p CountedWindow 3 (codes " at most " ∷ windows ∷ BY_WINDOWS.now ∷ []) NO_WINDOWS.now
    ∷ steps_line p LimitsCount 4 (codes " at most " ∷ limits ∷ BY_LIMITS.now ∷ []) NO_LIMITS.now
    ∷ line_words p style.Plain 5 (coming ∷ codes " &#8722; " ∷ held ∷ codes " &#8722; " ∷ windows ∷ codes " &#8722; "
    ∷ limits ∷ codes " = " ∷ bound ∷ AT_LEAST.now ∷ [])
    ∷ []

-- ---- what may help

-- the identifier of a store with a stretch, on a line of few stores
unfoldable pub stretched_at : Drawn → ℕ → ℕ → List ℕ
stretched_at p y s =
    broken FEW_NAMES y s ++ (if has_stretch p s then joined (codes " " ∷ name p.problem s ∷ []) else [])

-- the stores that have a stretch
unfoldable pub stores_line : Drawn → ℕ → Shape
stores_line p n =
    line_words p style.Plain n (LARGER.now ∷ flat_map (stretched_at p (word_line p.problem n)) (stores p.problem) ∷ [])

-- the first line after what may help, with an empty one before it: the names have a line for each group of few stores
abbrev pub after_help : Drawn → ℕ
after_help p = 12 + (length p.problem.rows + (FEW_NAMES - 1)) / FEW_NAMES

-- what the cut counts: nothing else can lower the loss
unfoldable pub help : Drawn → List Shape
help p =
    line_words p style.Heading 7 (HELP.now ∷ [])
    ∷ steps_line p WindowCounts 8 (WIDER.now ∷ []) NO_WIDER.now
    ∷ steps_line p LimitsCount 9 (HIGHER.now ∷ []) NO_HIGHER.now
    ∷ line_words p style.Plain 10 (FEWER.now ∷ [])
    ∷ stores_line p 11 ∷ []

-- ---- what one change is worth

-- exactly the steps in which a wider window saves blocks by itself, how many at most, and where the rows say what a
-- store and a limit are worth; nothing where that is not known
unfoldable pub worth_words : Drawn → ℕ → List Shape
worth_words p n =
    if has_worth p
    then line_words p style.Heading n (ONE_WIDER.now ∷ [])
    ∷ steps_line p Worth (n + 1) (NO_OTHER.now ∷ []) NONE_WIDER.now
    ∷ line_words p style.Plain (n + 2) (ONE_LARGER.now ∷ [])
    ∷ (if is_limited p.problem then line_words p style.Plain (n + 3) (ONE_HIGHER.now ∷ []) ∷ [] else [])
    else []

-- ---- what the first stores lose

-- a store and what it and those before it lose, on a line of few stores
unfoldable pub first_at : Drawn → ℕ → ℕ → List ℕ
first_at p y s =
    broken FEW_LOSSES y s
    ++ joined (codes " " ∷ name p.problem s ∷ codes " (" ∷ grouped (first_loss (s + 1) p.problem (amounts p))
    ∷ codes ")" ∷ [])

-- each of the stores
unfoldable pub firsts_list : Drawn → ℕ → Shape
firsts_list p n =
    line_words p style.Plain n (LOSE.now ∷ flat_map (first_at p (word_line p.problem n)) (stores p.problem) ∷ [])

-- what is said of them, and each of them
abbrev pub firsts_lines : Drawn → ℕ → List Shape
firsts_lines p n = line_words p style.Heading n (FIRSTS.now ∷ []) ∷ firsts_list p (n + 1) ∷ []

-- ---- all of the words

-- how many lines say what one change is worth, with an empty one after them
abbrev pub worth_room : Drawn → ℕ
worth_room p = if has_worth p then (if is_limited p.problem then 5 else 4) else 0

-- the first line after them
abbrev pub firsts_line : Drawn → ℕ
firsts_line p = after_help p + worth_room p

-- how many lines say what the first stores lose, with the one before them
abbrev pub firsts_room : Drawn → ℕ
firsts_room p = 2 + (length p.problem.rows + (FEW_LOSSES - 1)) / FEW_LOSSES

-- the sum where the cut's bound is the loss, and the help
unfoldable pub least_words : Drawn → ℕ → List Shape
least_words p n = why p (grouped n) ++ help p ++ worth_words p (after_help p)

-- the sum where there is a cut to its bound, and the help where it is the loss and there is one
unfoldable pub words_of : Drawn → Verdict → List Shape
words_of p (Least n) = if n == 0 then [] else least_words p n
words_of p (LeastInOrder n) = if n == 0 then [] else least_words p n ++ firsts_lines p (firsts_line p)
words_of p (NotShown n m) = why p (signed_grouped m) ++ worth_words p 7
words_of p v = []

abbrev pub words : Drawn → List Shape
words p = words_of p p.verdict

-- how many lines they have room for
abbrev pub word_lines : Drawn → Verdict → ℕ
word_lines p (Least n) = if n == 0 then 0 else after_help p + worth_room p
word_lines p (LeastInOrder n) = if n == 0 then 0 else firsts_line p + firsts_room p
word_lines p (NotShown n m) = 6 + worth_room p
word_lines p v = 0
