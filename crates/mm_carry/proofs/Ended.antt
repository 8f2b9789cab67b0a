-- How a run ends: what is not begun, and the total of what is lost.
use Rattle.std.specs.Prelude.{sum_by, OnOk, IfErr, Result, Ok, Err}
use Rattle.mm_carry.proofs.Words.{sum_by-same, sum_by-map, sum_by-swap, Dumping, stores, steps, Table, lost, loss, Held}
use Rattle.mm_carry.proofs.Words.{Supply, Sent, Reported, totals_of, Cause, StepCounts, given_to, IsRefusal, IsStopped}
use Rattle.mm_carry.proofs.Words.{report_of, planned_counts, RunStart, run_start, RunInput, as_came, RunState, InRun}
use Rattle.mm_carry.proofs.Words.{RunContext, Stop, Stops, HasEnded, HasRun, AreWithinLimits, NeverRefused, ◌≡◌, inl}
use Rattle.mm_carry.proofs.Words.{inr, refl, ℕ, List, [], length, map, get_or, ap, subst, ◌∙◌, run_start_of}
use Rattle.std.specs.Result.{result_err}

-- what holds of what a run begins with holds of the same, by whatever names
pub start_by : (P : RunStart → Type 0) (q : Dumping) (plan : Table) (base : ℕ) {held stores : List Held}
    {counted_sources counted_links sources links : ℕ}
    → held ≡ stores → counted_sources ≡ sources → counted_links ≡ links
    → P (run_start q plan held base counted_sources counted_links) → P (run_start q plan stores base sources links)
start_by P q plan base read many_sources many_links holds =
    subst P (λ i. run_start q plan (read i) base (many_sources i) (many_links i)) holds

module _ {S L : Type 0} (leads : S → S → Type 0) (until : S → S → Supply) (sent : L → List Sent) (failed : L → ℕ)
    (run : RunContext) where
  -- how a run ended that did not begin, whatever its sources give
  pub not_begun : (first : RunState S L) (report : Reported) (stop : Stop) {cause : Cause}
      → stop ≡ record { cause = cause; spent = 0 } → report.steps ≡ []
      → IsRefusal (run_start run.problem.now run.plan.now first.stores run.base (length first.sources)
      (length first.links)) cause
      → InRun leads until first first (λ begun now. IsStopped sent failed (given_to run begun) run.plan.now first first
      now.sources stop report)
  not_begun first report stop is none refusal lasts lead =
      rw is (lead, inr (record { same = refl; report_is = none; spent_is = refl }, refusal))

  -- how the steps of the run ended is how it ended
  pub ended_as : (first now : RunState S L) (report : Reported) (result : Result (Unit {0}) Stop)
      → InRun leads until first now
      (λ begun left. HasEnded sent failed (given_to run begun) run.plan.now begun (result_err result) left report)
      → OnOk result (InRun leads until first now
      (λ begun left. HasRun sent failed (given_to run begun) run.plan.now begun (length run.problem.now.windows) left
      report)) × IfErr result (λ stop. InRun leads until first now
      (λ begun left. IsStopped sent failed (given_to run begun) run.plan.now first now left.sources stop report))
  ended_as first now report (Ok x) ended = (ended, tt)
  ended_as first now report (Err stop) ended = (tt, λ lasts lead. let one = ended lasts lead in (one.0, inl one.1))

-- what holds in any case holds where there is a value
pub always_ok : {P : Type 0} (result : Result (Unit {0}) Stop) → P → OnOk result P
always_ok (Ok x) holds = holds
always_ok (Err stop) holds = tt

-- where counts are far from their end, no store refused a packet in a run that was stopped
pub stopped_far : {S L : Type 0} (sent : L → List Sent) (failed : L → ℕ) (m : RunInput) (plan : Table)
    (first after : RunState S L) (left : List Supply) (stop : Stop) (report : Reported)
    → IsStopped sent failed m plan first after left stop report
    → AreWithinLimits (length m.problem.windows) m.memory.stores m.gives → NeverRefused stop.cause
stopped_far sent failed m plan first after left stop report (inl halted) limits = halted.1.never_refused limits
stopped_far sent failed m plan first after left stop report (inr (untouched, inl stops)) limits =
    λ at same. let none = subst (Stops (run_start_of m plan first)) same stops in absurd none
stopped_far sent failed m plan first after left stop report (inr (untouched, inr lack)) limits =
    λ at same. absurd (cc (lack.0, same))

-- the total of the lost packets is the loss of the plan, with what came in place of the forecast
pub total_is : (m : RunInput) (report : Reported)
    → report ≡ report_of m.problem (as_came m) m.amounts (length m.problem.windows)
    → (totals_of report.steps).lost ≡ loss (as_came m) m.amounts
total_is m report is =
    let q = m.problem in
    let lost_at = λ (t s : ℕ). lost (as_came m) m.amounts s t in
    let row = λ (t : ℕ). map (λ s. planned_counts q (as_came m) m.amounts s t) (stores q) in
    ap (λ (r : Reported). (totals_of r.steps).lost) is ∙ sum_by-map (sum_by (λ (y : StepCounts). y.lost)) row (steps q)
    ∙ sum_by-same (λ (t : ℕ). sum_by (λ (y : StepCounts). y.lost) (row t)) (λ t. sum_by (lost_at t) (stores q))
    (steps q)
    (λ k d within. sum_by-map (λ (y : StepCounts). y.lost) (λ s. planned_counts q (as_came m) m.amounts s
    (get_or (steps q) k d)) (stores q))
    ∙ sum_by-swap lost_at (steps q) (stores q)
