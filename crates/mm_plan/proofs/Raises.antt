-- What a greater amount of one store makes of a step.
use Rattle.std.proofs.Common.{◌≡◌, ℕ, ◌+◌, ◌-◌, ◌<◌, ◌≤◌, List, Option, not, cond, min, length, get_or, Some, None, refl}
use Rattle.std.proofs.Common.{sym, ◌∙◌, ap, subst, inl, inr, arith}
use Rattle.std.specs.Prelude.{◌≢◌, ◌⊎◌}
use Rattle.std.specs.List.{sum_by}
use Rattle.std.specs.Option.{option_map}
use Rattle.std.proofs.lemmas.Bool.{cases_Bool, cases_eq}
use Rattle.std.proofs.lemmas.List.Filters.{sum_by-filter_both}
use Rattle.std.proofs.lemmas.Option.{same_Some}
use Rattle.mm_base.specs.declared.limits.TheConstants.{MAX_BLOCKS, CHANNELS}
use Rattle.std.proofs.lemmas.Bool.Decides.{eqb_tells}
use Rattle.mm_problem.specs.Dumping.{Dumping, IsDumping, stores, stores_of, is_of, channel, limit, window}
use Rattle.mm_plan.specs.Volumes.{Amounts}
use Rattle.mm_plan.specs.Fit.{in_step, FitsAt}
use Rattle.mm_plan.specs.Filled.{IsWindowUsed, IsLimitUsed}
use Rattle.mm_plan.specs.Filling.{IsRest, room_in}
use Rattle.std.proofs.lemmas.Option.{none-some}
use Rattle.mm_problem.proofs.Limits.{limit_is_within}
use Rattle.mm_base.proofs.RangeSums.{sum_by_range-le, sum_by_filter_range-le, sum_by_range_changed}
use Rattle.mm_base.proofs.RangeSums.{sum_by_filter_range_changed}

-- in the step d blocks more leave one store, and as many as before the others
pub record IsRaised (q : Dumping) (x y : Amounts) (s t d : ℕ) : Type 0 where
  pub store : s < length q.rows
  pub here : y s t ≡ x s t + d
  pub others : (r : ℕ) → r < length q.rows → r ≢ s → y r t ≡ x r t

-- in the step no less leaves any store by the second plan
abbrev pub IsNoLess : Dumping → Amounts → Amounts → ℕ → Type 0
IsNoLess q x y t = (s : ℕ) → s < length q.rows → x s t ≤ y s t

all_raised : (q : Dumping) (x y : Amounts) (s t d : ℕ) → IsRaised q x y s t d
    → sum_by (in_step y t) (stores q) ≡ sum_by (in_step x t) (stores q) + d
all_raised q x y s t d raised =
    let changed = sum_by_range_changed (in_step x t) (in_step y t) 0 (length q.rows) s (omega arith)
    (omega (arith, raised.store)) (λ r _ below other. raised.others r (omega arith) other) in
    omega (arith, changed, raised.here)

channel_raised : (q : Dumping) (x y : Amounts) (s t d c : ℕ) → IsRaised q x y s t d
    → sum_by (in_step y t) (stores_of q c) ≡ sum_by (in_step x t) (stores_of q c) + cond (is_of q c s) d 0
channel_raised q x y s t d c raised =
    let changed = sum_by_filter_range_changed (is_of q c) (in_step x t) (in_step y t) 0 (length q.rows) s (omega arith)
    (omega (arith, raised.store)) (λ r _ below other. raised.others r (omega arith) other) in
    elim (cases_Bool (is_of q c s)) [
      | inl own ↦ rw own (omega (arith, rw own at changed, raised.here))
      | inr other ↦ rw other (omega (arith, rw other at changed))
    ]

own_raised : (q : Dumping) (x y : Amounts) (s t d : ℕ) → IsRaised q x y s t d
    → sum_by (in_step y t) (stores_of q (channel q s)) ≡ sum_by (in_step x t) (stores_of q (channel q s)) + d
own_raised q x y s t d raised =
    let more = channel_raised q x y s t d (channel q s) raised in
    elim (eqb_tells (channel q s) (channel q s)) [
      | inl same ↦ rw same.0 at more
      | inr other ↦ absurd (other.1 refl)
    ]

-- a limit of which d blocks more are used
more_used : (rest : Option ℕ) (a b d : ℕ) → b ≡ a + d
    → option_map (λ r. a + r) (option_map (λ r. r + d) rest) ≡ option_map (λ r. b + r) rest
more_used None a b d e = refl
more_used (Some r) a b d e = ap Some (omega (arith, e))

-- where one amount is greater, as much less is not used
pub rest_raised : (q : Dumping) (x y : Amounts) (s t d idle less : ℕ) (rests after : List (Option ℕ))
    → IsRest q x t idle rests → IsRaised q x y s t d → less + d ≡ idle
    → get_or rests (channel q s) None ≡ option_map (λ r. r + d) (get_or after (channel q s) None)
    → ((c : ℕ) → c ≢ channel q s → get_or after c None ≡ get_or rests c None) → IsRest q y t less after
rest_raised q x y s t d idle less rests after is raised is_less here others = record {
  windowed = omega (arith, all_raised q x y s t d raised, is.windowed, is_less);
  limited = λ c below. elim (eqb_tells (channel q s) c) [
    | inl same ↦
        let own = is.limited (channel q s) (omega (arith, below, same.1)) in
        let now : limit q (channel q s) t
        ≡ option_map (λ r. sum_by (in_step y t) (stores_of q (channel q s)) + r) (get_or after (channel q s) None) =
        own ∙ ap (option_map (λ r. sum_by (in_step x t) (stores_of q (channel q s)) + r)) here
        ∙ more_used (get_or after (channel q s) None) _ _ d (own_raised q x y s t d raised) in
        subst (λ k. limit q k t
        ≡ option_map (λ r. sum_by (in_step y t) (stores_of q k) + r) (get_or after k None)) same.1 now
    | inr other ↦
        let as_many : sum_by (in_step y t) (stores_of q c) ≡ sum_by (in_step x t) (stores_of q c) =
        omega (arith, rw other.0 at (channel_raised q x y s t d c raised)) in
        let stays = others c (λ e. other.1 (sym e)) in
        rw (as_many, stays) (is.limited c below)
  ];
}

-- what is not used of a limit is 0 or more
fits_with : (limit rest : Option ℕ) (a b : ℕ) → limit ≡ option_map (λ r. a + r) rest → limit ≡ Some b → a ≤ b
fits_with limit None a b e some = absurd (none-some b (sym e ∙ some))
fits_with limit (Some r) a b e some = omega (arith, same_Some (a + r) b (sym e ∙ some))

-- no window is greater than any amount may be
pub window_most : (q : Dumping) (t : ℕ) → IsDumping q → 1 ≤ t → t ≤ length q.windows → window q t ≤ MAX_BLOCKS
window_most q t is first last = is.steps.each_window (t - 1) 0 (omega arith)

-- a plan of which something is not used fits
pub rest_fits : (q : Dumping) (x : Amounts) (t idle : ℕ) (rests : List (Option ℕ)) → IsDumping q
    → IsRest q x t idle rests → FitsAt q x t
rest_fits q x t idle rests dumping is = record {
  windowed = omega (arith, is.windowed);
  limited = λ c b e. fits_with (limit q c t) (get_or rests c None) _ b
      (is.limited c (omega (arith, limit_is_within q c t b e, dumping.channels.all))) e;
}

-- where as much was used as there was room for, nothing is idle, or nothing of the limit is left
used_up : (idle less d : ℕ) (rest after : Option ℕ) → less + d ≡ idle → rest ≡ option_map (λ r. r + d) after
    → d ≡ room_in idle rest → (less ≡ 0) ⊎ (after ≡ Some 0)
used_up idle less d rest None is_less e all = inl (omega (arith, is_less, all ∙ ap (room_in idle) e))
used_up idle less d rest (Some r) is_less e all =
    let room : d ≡ min idle (r + d) = all ∙ ap (room_in idle) e in
    elim (cases_eq less 0) [
      | inl none ↦ inl none
      | inr some ↦ let nothing : r ≡ 0 = omega (arith, room, is_less, some) in inr (ap Some nothing)
    ]

-- then the window is used, or the limit of the store's channel
pub used_raised : (q : Dumping) (y : Amounts) (s t d idle less : ℕ) (rests after : List (Option ℕ))
    → channel q s < CHANNELS → IsRest q y t less after → less + d ≡ idle
    → get_or rests (channel q s) None ≡ option_map (λ r. r + d) (get_or after (channel q s) None)
    → d ≡ room_in idle (get_or rests (channel q s) None) → IsWindowUsed q y t ⊎ IsLimitUsed q y t (channel q s)
used_raised q y s t d idle less rests after below is is_less here all =
    elim (used_up idle less d (get_or rests (channel q s) None) (get_or after (channel q s) None) is_less here all) [
      | inl none ↦ inl (omega (arith, is.windowed, none))
      | inr none ↦ inr (is.limited (channel q s) below
          ∙ ap (option_map (λ r. sum_by (in_step y t) (stores_of q (channel q s)) + r)) none ∙ ap Some (omega arith))
    ]

-- what is used stays used where no amount is smaller and the plan still fits
pub used_kept : (q : Dumping) (x y : Amounts) (t c : ℕ) → IsNoLess q x y t → FitsAt q y t
    → IsWindowUsed q x t ⊎ IsLimitUsed q x t c → IsWindowUsed q y t ⊎ IsLimitUsed q y t c
used_kept q x y t c no_less fits used = elim used [
  | inl all ↦
      let more = sum_by_range-le (in_step x t) (in_step y t) 0 (length q.rows) (λ s _ below. no_less s (omega arith)) in
      inl (omega (arith, more, all, fits.windowed))
  | inr own ↦
      let more = sum_by_filter_range-le (is_of q c) (in_step x t) (in_step y t) 0 (length q.rows)
      (λ s _ below. no_less s (omega arith)) in
      let same : sum_by (in_step x t) (stores_of q c) ≡ sum_by (in_step y t) (stores_of q c) =
      omega (arith, more, fits.limited c (sum_by (in_step x t) (stores_of q c)) own) in
      inr (own ∙ ap Some same)
]

-- a plan fits where no amount is greater
pub fits_no_more : (q : Dumping) (x y : Amounts) (t : ℕ) → IsNoLess q y x t → FitsAt q x t → FitsAt q y t
fits_no_more q x y t no_more fits = record {
  windowed =
      let all = sum_by_range-le (in_step y t) (in_step x t) 0 (length q.rows) (λ s _ below. no_more s (omega arith)) in
      omega (arith, all, fits.windowed);
  limited = λ c b e.
      let own = sum_by_filter_range-le (is_of q c) (in_step y t) (in_step x t) 0 (length q.rows)
      (λ s _ below. no_more s (omega arith)) in
      omega (arith, own, fits.limited c b e);
}

-- where nothing is to leave in a step, the plan fits
pub idle_fits : (q : Dumping) (x : Amounts) (t : ℕ) → sum_by (in_step x t) (stores q) ≡ 0 → FitsAt q x t
idle_fits q x t none = record {
  windowed = omega (arith, none);
  limited = λ c b e.
      let both = sum_by-filter_both (is_of q c) (λ s. not (is_of q c s)) (λ s. refl) (in_step x t) (stores q) in
      omega (arith, both, none);
}
