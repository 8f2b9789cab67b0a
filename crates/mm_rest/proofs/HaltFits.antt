-- Which plans fit what is left of a halted step and the steps after it.
use Rattle.std.proofs.Common.{◌≡◌, ◌∙◌, ◌+◌, ◌-◌, ◌<◌, ◌≤◌, ◌==◌, ℕ, zero, suc, nat_lt, false, cond, inl, inr}
use Rattle.std.proofs.Common.{List, Option, Some, None, refl, sym, subst, ap, ap₂, arith, get_or, length}
use Rattle.std.proofs.Common.{length-drop, map}
use Rattle.std.specs.Prelude.{option_map}
use Rattle.std.specs.List.{range_with_len, sum_by}
use Rattle.std.proofs.lemmas.Bool.{cases_Bool, cases_eq}
use Rattle.std.proofs.lemmas.Bool.Decides.{nat_tests}
use Rattle.std.proofs.lemmas.List.FromFn.{get_or-map-range_with_len}
use Rattle.mm_base.specs.declared.limits.TheConstants.{CHANNELS}
use Rattle.mm_base.proofs.RangeSums.{sum_by_range_same}
use Rattle.mm_base.proofs.Sums.{sum_by-add, sum_by-filter, sum_by-map}
use Rattle.mm_problem.specs.Dumping.{Dumping, is_of, limit, stores, stores_of, window}
use Rattle.mm_problem.specs.Rest.{rest_of}
use Rattle.mm_plan.specs.Fit.{Fits, FitsAt, in_step}
use Rattle.mm_plan.specs.Least.{IsLeast}
use Rattle.mm_plan.specs.Volumes.{Amounts}
use Rattle.mm_rest.specs.HaltLaws.{FitsHalt, FitsUntilHalt, GoesOn, IsHaltOf, IsLeastFromHalt, resumed}
use Rattle.mm_rest.specs.Halts.{begun, broken_spent, dumped_by, is_broken, limits_left, rest_of_halt, spent_by}
use Rattle.mm_rest.specs.declared.halt.HaltedStep.{HaltedStep}
use Rattle.mm_rest.proofs.HaltLimits.{first_limit, later_limit, spent_same}
use Rattle.mm_rest.proofs.Later.{limit_of, loss_alike, many_of, stores_of_rest, window_of}
use Rattle.mm_rest.proofs.Resumes.{halt_adds_up, halted_is, resumed_after, resumed_before, resumed_here, steps_begun}
use Rattle.mm_rest.proofs.Resumes.{window_begun}

-- ---- sums over stores

sums_same : (q : Dumping) (f g : ℕ → ℕ) → ((s : ℕ) → s < length q.rows → f s ≡ g s)
    → sum_by f (stores q) ≡ sum_by g (stores q)
sums_same q f g same = sum_by_range_same f g 0 (length q.rows) (λ s low high. same s (omega arith))

sums_of_same : (q : Dumping) (c : ℕ) (f g : ℕ → ℕ) → ((s : ℕ) → s < length q.rows → f s ≡ g s)
    → sum_by f (stores_of q c) ≡ sum_by g (stores_of q c)
sums_of_same q c f g same = sum_by-filter f (is_of q c) (stores q)
    ∙ sums_same q _ _ (λ s store. ap (λ k. cond (is_of q c s) k 0) (same s store))
    ∙ sym (sum_by-filter g (is_of q c) (stores q))

-- a plan with the same amounts in a step fits in it
fits_same : (q : Dumping) (x y : Amounts) (t : ℕ) → ((s : ℕ) → s < length q.rows → y s t ≡ x s t) → FitsAt q x t
    → FitsAt q y t
fits_same q x y t same fits = record {
  windowed = omega (arith, sums_same q (in_step y t) (in_step x t) same, fits.windowed);
  limited = λ c b is. omega (arith, sums_of_same q c (in_step y t) (in_step x t) same, fits.limited c b is);
}

-- what an option's value was before it was changed
unmapped : (f : ℕ → ℕ) (o : Option ℕ) (b : ℕ) → option_map f o ≡ Some b → (a : ℕ) × (o ≡ Some a) × (f a ≡ b)
unmapped f None b is = absurd (cc is)
unmapped f (Some a) b is = (a, refl, cc is)

module _ (q : Dumping) (n : ℕ) (halted : HaltedStep) (first : 1 ≤ n) (last : n ≤ length q.windows)
    (all : length q.limits ≡ CHANNELS) where
  abbrev rest : Dumping
  rest = rest_of q (n - 1) halted.held.items

  -- what is left of the halted step, and the steps after it
  abbrev pub on : Dumping
  on = begun rest (window rest 1 - halted.spent) (limits_left rest halted)

  steps_on : n + length on.windows ≡ length q.windows + 1
  steps_on = omega (
    arith,
    steps_begun rest (window rest 1 - halted.spent) (limits_left rest halted),
    length-drop (n - 1) q.windows,
  )

  some_rest : 1 ≤ length rest.windows
  some_rest = omega (arith, length-drop (n - 1) q.windows)

  window_first : window on 1 ≡ window q n - halted.spent
  window_first =
      let step : n - 1 + 1 ≡ n = omega arith in
      window_begun rest (window rest 1 - halted.spent) (limits_left rest halted) 1 (omega arith) some_rest
      ∙ ap (λ w. w - halted.spent) (window_of q (n - 1) halted.held.items 1 (omega arith) ∙ ap (window q) step)

  limit_first : (c : ℕ) → limit on c 1 ≡ option_map (λ b. b - spent_by q halted c) (limit q c n)
  limit_first c =
      let step : n - 1 + 1 ≡ n = omega arith in
      first_limit rest halted (window rest 1 - halted.spent) c all some_rest
      ∙ ap₂ (λ k l. option_map (λ b. b - k) l) (spent_same q (n - 1) halted.held.items halted c)
      (limit_of q (n - 1) halted.held.items c 1 (omega arith) ∙ ap (limit q c) step)

  sum_on : (f : ℕ → ℕ) → sum_by f (stores on) ≡ sum_by f (stores q)
  sum_on f = ap (λ m. sum_by f (range_with_len 0 m)) (many_of q (n - 1) halted.held.items)

  sum_of_on : (f : ℕ → ℕ) (c : ℕ) → sum_by f (stores_of on c) ≡ sum_by f (stores_of q c)
  sum_of_on f c = ap (sum_by f) (stores_of_rest q (n - 1) halted.held.items c)

  module _ (k : ℕ) (past : 1 ≤ k) (within : suc k ≤ length on.windows) where
    step_later : n - 1 + suc k ≡ n + k
    step_later = omega arith

    rest_within : suc k ≤ length rest.windows
    rest_within = omega (arith, steps_on, length-drop (n - 1) q.windows)

    window_later : window on (suc k) ≡ window q (n + k)
    window_later =
        let other : (suc k == 1) ≡ false = grind (arith, nat_tests) in
        window_begun rest (window rest 1 - halted.spent) (limits_left rest halted) (suc k) (omega arith) rest_within
        ∙ ap (λ b. cond b (window rest 1 - halted.spent) (window rest (suc k))) other
        ∙ window_of q (n - 1) halted.held.items (suc k) (omega arith) ∙ ap (window q) step_later

    limit_later : (c : ℕ) → limit on c (suc k) ≡ limit q c (n + k)
    limit_later c = later_limit rest halted (window rest 1 - halted.spent) c all (suc k) (omega arith) rest_within
        ∙ limit_of q (n - 1) halted.held.items c (suc k) (omega arith) ∙ ap (limit q c) step_later

    module _ (x z : Amounts) where
      -- a later step has the same amounts, window and limits
      later_amounts : (s : ℕ) → s < length q.rows → in_step (resumed n x z) (n + k) s ≡ in_step z (suc k) s
      later_amounts s store = resumed_after n x z s k past

      later_to : FitsAt on z (suc k) → FitsAt q (resumed n x z) (n + k)
      later_to fits = record {
        windowed = omega (
          arith,
          sums_same q (in_step (resumed n x z) (n + k)) (in_step z (suc k)) later_amounts,
          sum_on (in_step z (suc k)),
          window_later,
          fits.windowed,
        );
        limited = λ c b is. omega (
          arith,
          sums_of_same q c (in_step (resumed n x z) (n + k)) (in_step z (suc k)) later_amounts,
          sum_of_on (in_step z (suc k)) c,
          fits.limited c b (limit_later c ∙ is),
        );
      }

      later_from : FitsAt q (resumed n x z) (n + k) → FitsAt on z (suc k)
      later_from fits = record {
        windowed = omega (
          arith,
          sums_same q (in_step (resumed n x z) (n + k)) (in_step z (suc k)) later_amounts,
          sum_on (in_step z (suc k)),
          window_later,
          fits.windowed,
        );
        limited = λ c b is. omega (
          arith,
          sums_of_same q c (in_step (resumed n x z) (n + k)) (in_step z (suc k)) later_amounts,
          sum_of_on (in_step z (suc k)) c,
          fits.limited c b (sym (limit_later c) ∙ is),
        );
      }

  module _ (x z : Amounts) (dumped : halted.dumped.items ≡ map (λ s. x s n) (stores q))
      (until : FitsUntilHalt q x n halted) where
    abbrev whole : Amounts
    whole = resumed n x z

    -- what is dumped in the halted step, before and after the halt
    both : sum_by (in_step whole n) (stores q) ≡ sum_by (in_step x n) (stores q) + sum_by (in_step z 1) (stores on)
    both = sums_same q (in_step whole n) (λ s. in_step x n s + in_step z 1 s) (λ s store. resumed_here n x z s)
        ∙ sum_by-add (in_step x n) (in_step z 1) (stores q)
        ∙ ap (λ k. sum_by (in_step x n) (stores q) + k) (sym (sum_on (in_step z 1)))

    both_of : (c : ℕ) → sum_by (in_step whole n) (stores_of q c)
        ≡ sum_by (in_step x n) (stores_of q c) + sum_by (in_step z 1) (stores_of on c)
    both_of c =
        sums_of_same q c (in_step whole n) (λ s. in_step x n s + in_step z 1 s) (λ s store. resumed_here n x z s)
        ∙ sum_by-add (in_step x n) (in_step z 1) (stores_of q c)
        ∙ ap (λ k. sum_by (in_step x n) (stores_of q c) + k) (sym (sum_of_on (in_step z 1) c))

    -- what was spent in vain
    vain : broken_spent halted ≡ halted.spent - sum_by (in_step x n) (stores q)
    vain = ap (λ k. halted.spent - k)
        (ap (sum_by (λ n. n)) dumped ∙ sum_by-map (λ n. n) (λ s. x s n) (stores q))

    dumped_at : (s : ℕ) → s < length q.rows → get_or halted.dumped.items s 0 ≡ x s n
    dumped_at s store = ap (λ (xs : List ℕ). get_or xs s 0) dumped
        ∙ get_or-map-range_with_len (λ s. x s n) 0 (length q.rows) s s 0 store (omega arith)

    spent_of : (c : ℕ) → spent_by q halted c
        ≡ sum_by (in_step x n) (stores_of q c) + cond (is_broken q halted c) (broken_spent halted) 0
    spent_of c = ap (λ k. k + cond (is_broken q halted c) (broken_spent halted) 0)
        (sums_same q (dumped_by q halted c) (λ s. cond (is_of q c s) (x s n) 0)
        (λ s store. ap (λ k. cond (is_of q c s) k 0) (dumped_at s store))
        ∙ sym (sum_by-filter (in_step x n) (is_of q c) (stores q)))

    -- what fits the rest fits the whole
    pub fits_to : Fits on z → FitsHalt q n halted whole
    fits_to fits =
        let here = fits 1 (omega arith) (omega (arith, steps_on)) in
        record {
          others = λ t low high other. elim (cases_Bool (nat_lt t n)) [
            | inl below ↦
                let before : t < n = grind (arith, nat_tests) in
                fits_same q x whole t (λ s store. resumed_before n x z s t before) (until.before t low before)
            | inr above ↦
                let after : n ≤ t = grind (arith, nat_tests) in
                let step : n + (t - n) ≡ t = omega arith in
                let past : 1 ≤ t - n = omega (arith, other) in
                let within : suc (t - n) ≤ length on.windows = omega (arith, steps_on) in
                subst (FitsAt q whole) step
                (later_to (t - n) past within x z (fits (suc (t - n)) (omega arith) (omega (arith, within))))
          ];
          windowed = omega (arith, both, vain, window_first, here.windowed, until.dumped, until.windowed);
          limited = λ c b is.
              let left : limit on c 1 ≡ Some (b - spent_by q halted c) =
              limit_first c ∙ ap (option_map (λ b. b - spent_by q halted c)) is in
              omega (arith, both_of c, spent_of c, here.limited c (b - spent_by q halted c) left, until.limited c b is);
        }

    -- and the other way round
    pub fits_from : FitsHalt q n halted whole → Fits on z
    fits_from fits zero low high = absurd (omega arith)
    fits_from fits (suc zero) low high = record {
      windowed = omega (arith, both, vain, window_first, fits.windowed, until.dumped);
      limited = λ c b is.
          let (a, before, less) = unmapped (λ b. b - spent_by q halted c) (limit q c n) b (sym (limit_first c) ∙ is) in
          omega (arith, both_of c, spent_of c, less, fits.limited c a before);
    }
    fits_from fits (suc (suc k)) low high =
        let within : suc (suc k) ≤ length on.windows = omega arith in
        later_from (suc k) (omega arith) within x z
        (fits.others (n + suc k) (omega arith) (omega (arith, steps_on)) (omega arith))

-- ---- of all plans that go on from the halt

-- what a plan dumps from the halted step on, but for what the run dumped in it
abbrev rest_from : ℕ → Amounts → Amounts → Amounts
rest_from n x y s t = cond (t == 1) (y s n - x s n) (y s (n - 1 + t))

-- added to what the run dumped, it is the plan
goes_on : (q : Dumping) (n : ℕ) (x y : Amounts) → 1 ≤ n → GoesOn q n x y → (s t : ℕ) → s < length q.rows → 1 ≤ t
    → resumed n x (rest_from n x y) s t ≡ y s t
goes_on q n x y first goes s t store low = elim (cases_eq t n) [
  | inl here ↦
      let at : resumed n x (rest_from n x y) s n ≡ y s n =
      resumed_here n x (rest_from n x y) s ∙ omega (arith, goes.here s store) in
      rw here at
  | inr other ↦ elim (cases_Bool (nat_lt t n)) [
    | inl below ↦
        let before : t < n = grind (arith, nat_tests) in
        resumed_before n x (rest_from n x y) s t before ∙ sym (goes.before s t store low before)
    | inr above ↦
        let after : n ≤ t = grind (arith, nat_tests) in
        let past : 1 ≤ t - n = omega (arith, other) in
        let not_first : (suc (t - n) == 1) ≡ false = grind (arith, nat_tests) in
        let place : n - 1 + suc (t - n) ≡ t = omega arith in
        let step : n + (t - n) ≡ t = omega arith in
        ap (resumed n x (rest_from n x y) s) (sym step)
        ∙ resumed_after n x (rest_from n x y) s (t - n) past
        ∙ ap (λ b. cond b (y s n - x s n) (y s (n - 1 + suc (t - n)))) not_first
        ∙ ap (y s) place
  ]
]

halt_same : (q : Dumping) (n : ℕ) (halted : HaltedStep) (y v : Amounts) → 1 ≤ n
    → ((s t : ℕ) → s < length q.rows → 1 ≤ t → v s t ≡ y s t) → FitsHalt q n halted y → FitsHalt q n halted v
halt_same q n halted y v first same fits = record {
  others = λ t low high other. fits_same q y v t (λ s store. same s t store low) (fits.others t low high other);
  windowed = omega (arith, sums_same q (in_step v n) (in_step y n) (λ s store. same s n store first), fits.windowed);
  limited = λ c b is.
      let sums = sums_of_same q c (in_step v n) (in_step y n) (λ s store. same s n store first) in
      omega (arith, sums, fits.limited c b is);
}

-- a least plan for what is left of a halted step, added to what the run dumped, loses fewest
pub halt_least : (q : Dumping) (x z : Amounts) (n : ℕ) (halted : HaltedStep) → length q.limits ≡ CHANNELS
    → IsHaltOf q x n halted → FitsUntilHalt q x n halted → IsLeast (rest_of_halt q n halted) z
    → IsLeastFromHalt q x n halted (resumed n x z)
halt_least q x z n halted all is until least =
    let rest_is = halted_is q n halted in
    let fits = subst (λ p. Fits p z) rest_is least.fits in
    record {
      fits = fits_to q n halted is.first is.last all x z is.dumped until fits;
      goes_on = record {
        before = λ s t store low before. resumed_before n x z s t before;
        here = λ s store. omega (arith, resumed_here n x z s);
      };
      least = λ y fits_y goes.
          let others = rest_from n x y in
          let same = goes_on q n x y is.first goes in
          let fit = fits_from q n halted is.first is.last all x others is.dumped until
          (halt_same q n halted y (resumed n x others) is.first same fits_y) in
          let fewest = least.least others (subst (λ p. Fits p others) (sym rest_is) fit) in
          let alike = loss_alike q y (resumed n x others) (λ s t store low high. same s t store low) in
          omega (arith, halt_adds_up q x z n halted is, halt_adds_up q x others n halted is, fewest, alike);
    }
