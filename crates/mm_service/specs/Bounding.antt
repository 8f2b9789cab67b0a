-- How many reports may wait.
use Rattle.std.specs.Prelude.{◌≡◌, ◌⊎◌, ◌+◌, ◌≤◌}
use Rattle.mm_service.specs.Words.{⊤, ℕ, length, Option, Some, None, Request}
use Rattle.mm_service.specs.Serving.{Serving}
use Rattle.mm_st15.specs.declared.request.Request.TheVariants as request

-- this number is within the bound, if there is one
abbrev pub IsWithin : Option ℕ → ℕ → Type 0
IsWithin None count = ⊤
IsWithin (Some bound) count = count ≤ bound

-- how many reports a request has at most: one for each instruction, or one on all
abbrev pub most_reports : Request → ℕ
most_reports (request.ReportControl targets) = length targets
most_reports (request.SummariseContent targets) = 1
most_reports request.ReportStatus = 1
most_reports request.ReportConfiguration = 1
most_reports other = 0

-- the reports on a request may wait: it has none, or with the most that it may have, those that wait are within the
-- bound
abbrev pub MayWait : Request → Serving → Type 0
MayWait request s = (most_reports request ≡ 0) ⊎ IsWithin s.bound (length s.waiting + most_reports request)

-- no further report waits, or those that wait are within the bound
abbrev pub KeepsBound : Serving → Serving → Type 0
KeepsBound s t = (t.waiting ≡ s.waiting) ⊎ IsWithin s.bound (length t.waiting)
