-- The list of what the stores lose in a plan: its places, and its sum.
use Rattle.std.specs.Prelude.{map, sum, replicate}
use Rattle.mm_c.proofs.Words.{◌≡◌, ℕ, ◌-◌, ◌<◌, ◌≤◌, List, ◌++◌, length, get_or, sym, ap, ◌∙◌, inl, inr, arith}
use Rattle.mm_c.proofs.Words.{MAX_STORES, Table, amount, Amounts, store_loss, loss, losses_in, PlansWithLosses}
use Rattle.std.proofs.lemmas.Bool.{cases_lt}
use Rattle.std.proofs.lemmas.List.{ext_get_or, get_or_append_left, get_or-append_right, get_or-replicate, length-append}
use Rattle.std.proofs.lemmas.List.{length-replicate, length-map}
use Rattle.std.proofs.lemmas.List.Folds.{sum_by-replicate}
use Rattle.std.proofs.lemmas.List.FromFn.{get_or-map-range_with_len, length-range_with_len}
use Rattle.std.proofs.lemmas.List.Sums.{sum-map, sum_by-append}
use Rattle.mm_problem.specs.Dumping.{Dumping, stores}
use Rattle.mm_problem.specs.Texts.{SaysProblem}
use Rattle.mm_planner.specs.PlanTexts.{IsPrintedFor}
use Rattle.mm_planner.specs.declared.texts.PrintedPlan.{PrintedPlan}

-- a table is this list where its places have the losses of the stores, and then 0
pub are_losses : (q : Dumping) (x : Amounts) (told : List ℕ) → length q.rows ≤ MAX_STORES → length told ≡ MAX_STORES
    → ((s : ℕ) → s < length q.rows → get_or told s 0 ≡ store_loss q x s)
    → ((s : ℕ) → length q.rows ≤ s → s < MAX_STORES → get_or told s 0 ≡ 0)
    → told ≡ losses_in q x
are_losses q x told few places each rest =
    let n : ℕ = length q.rows in
    let lost : List ℕ = map (store_loss q x) (stores q) in
    let zeros : List ℕ = replicate (MAX_STORES - n) 0 in
    let lost_length : length lost ≡ n = length-map (stores q) (store_loss q x) ∙ length-range_with_len 0 n in
    let all : length told ≡ length (lost ++ zeros) =
    omega (arith, length-append lost zeros, length-replicate {A = ℕ} (MAX_STORES - n) 0) in
    ext_get_or 0 told (lost ++ zeros) all (λ s within. elim (cases_lt s n) [
      | inl lt ↦ each s lt ∙ sym (get_or_append_left lost zeros 0 s (omega arith)
          ∙ get_or-map-range_with_len (store_loss q x) 0 n s s 0 lt (omega arith))
      | inr past ↦ rest s past (omega arith) ∙ sym (get_or-append_right lost zeros n s 0 lost_length past
          ∙ get_or-replicate (MAX_STORES - n) (s - n) 0 0 (omega arith))
    ])

-- their sum is what all stores lose
pub sum_of_losses : (q : Dumping) (x : Amounts) → sum (losses_in q x) ≡ loss q x
sum_of_losses q x =
    let lost : List ℕ = map (store_loss q x) (stores q) in
    let zeros : List ℕ = replicate (MAX_STORES - length q.rows) 0 in
    omega (
      arith,
      sum_by-append (λ k. k) lost zeros,
      sum-map (store_loss q x) (stores q),
      sum_by-replicate (λ (k : ℕ). k) (MAX_STORES - length q.rows) 0,
    )

-- a plan that is printed, with the losses of the stores in it
pub printed_with_losses : (q : Dumping) (setup forecast : List ℕ) (printed : PrintedPlan) (losses : List ℕ)
    → SaysProblem setup forecast q
    → IsPrintedFor q printed → losses ≡ losses_in q (amount printed.sheet.plan)
    → PlansWithLosses setup forecast losses printed.text.items
printed_with_losses q setup forecast printed losses says is told =
    let same : losses ≡ losses_in q (amount is.sheet.plan) =
    told ∙ ap (λ (x : Table). losses_in q (amount x)) is.plan_is in
    record {
      plans = record { problem = q; sheet = is.sheet; says_problem = says; plans = is.plans; besides = is.besides };
      each = same;
      all = ap sum same ∙ sum_of_losses q (amount is.sheet.plan) ∙ is.plans.shows_least.loss;
    }
