-- Least losses, how a window changes them, and what is found of them for a number of a problem.
use Rattle.std.proofs.Common.{◌≡◌, ℕ, ◌+◌, ◌-◌, ◌≤◌, Bool, true, false, cond, ◌&&◌, not, List, length, refl, sym, ap}
use Rattle.std.proofs.Common.{subst, inl, inr, arith, pos, ◌∙◌, set, true≢false}
use Rattle.std.specs.Prelude.{◌≢◌, ℤ, ◌+ℤ◌, ◌≤ℤ◌, Option, Some, None, unwrap_or, IsSome}
use Rattle.std.proofs.lemmas.Bool.{cases_eq, cases_Bool}
use Rattle.std.proofs.lemmas.List.{length-set, get_or-set_same, get_or-set_other, set-get_or}
use Rattle.std.proofs.lemmas.Int.{ints}
use Rattle.mm_base.proofs.RangeSums.{sum_by_filter_range_changed}
use Rattle.mm_base.specs.declared.limits.TheConstants.{MAX_BLOCKS}
use Rattle.mm_base.specs.Grid.{grid_place}
use Rattle.mm_problem.specs.Dumping.{Dumping, size, window, IsDumping, no_row, row}
use Rattle.mm_problem.specs.Changed.{with_window, resized}
use Rattle.mm_plan.specs.declared.stretch.Stretch.{Stretch}
use Rattle.mm_plan.specs.Table.{Table, amount, HasShape}
use Rattle.mm_plan.specs.Volumes.{Amounts, left, loss}
use Rattle.mm_plan.specs.Fit.{Fits}
use Rattle.mm_cut.specs.Stretches.{is_inner}
use Rattle.mm_cut.specs.Counts.{is_listed}
use Rattle.mm_cut.specs.Cuts.{IsCut, coming_sum, held_sum, limit_sum, leaving, leaving_sum, counts_window, bound}
use Rattle.mm_cut.specs.Cuts.{CutsBoundLosses}
use Rattle.mm_cut.specs.Changes.{OnlyCountedHelps}
use Rattle.mm_planner.specs.Planned.{ShowsLeast, IsPlan}
use Rattle.mm_planner.specs.declared.planner.Planned.{Planned}
use Rattle.mm_sensitivity.specs.Worth.{IsLeastLoss, WiderWindows, IsPlanFor, IsSaved}
use Rattle.mm_sensitivity.specs.declared.item.Item.{Item}
use Rattle.mm_sensitivity.specs.declared.item.Item.TheVariants.{Window, Size, Limit, StepLimit, StepSize}
use Rattle.mm_sensitivity.specs.Items.{IsItem, number, with_number, least_number}
use Rattle.mm_sensitivity.proofs.Growing.{grows}

-- ---- a cut in a problem with another window

-- a cut is one whatever the windows of as many steps are
cut_with : (q : Dumping) (ws vs : List ℕ) (ds : List Stretch) (ts : List ℕ) → length vs ≡ length ws
    → IsCut (record q { windows = ws }) ds ts → IsCut (record q { windows = vs }) ds ts
cut_with q ws vs ds ts same cut = record {
  stretches = record {
    each = λ k d inside.
        let is = cut.stretches.each k d inside in
        record { store = is.store; first = is.first; order = is.order; last = omega (arith, same, is.last) };
    apart = cut.stretches.apart;
  };
  counted = record {
    each = λ k d inside. let is = cut.counted.each k d inside in record { inner = is.inner; limited = is.limited };
    once = cut.counted.once;
  };
}

-- of the windows that count in an inner step, or the limits that do
picked : (inner listed : Bool) (limits w n : ℕ) → cond inner (cond listed limits w) 0 + cond (inner && not listed) n 0
    ≡ cond inner (cond listed limits n) 0 + cond (inner && not listed) w 0
picked true true limits w n = refl
picked true false limits w n = omega arith
picked false listed limits w n = refl

module _ (q : Dumping) (t n : ℕ) where
  abbrev r : Dumping
  r = with_window q t n

  -- there are as many steps
  pub as_many : length r.windows ≡ length q.windows
  as_many = length-set q.windows (t - 1) n

  -- each other step has its window
  window_other : (u : ℕ) → 1 ≤ t → 1 ≤ u → u ≢ t → window r u ≡ window q u
  window_other u first from other = get_or-set_other q.windows (t - 1) (u - 1) n 0 (λ same. other (omega (arith, same)))

  window_here : 1 ≤ t → t ≤ length q.windows → window r t ≡ n
  window_here first last = get_or-set_same q.windows (t - 1) n 0 (omega arith)

  -- where the window is no narrower, no other step's is
  pub wider_window : (u : ℕ) → 1 ≤ t → t ≤ length q.windows → 1 ≤ u → window q t ≤ n → window q u ≤ window r u
  wider_window u first last from wider = elim (cases_eq u t) [
    | inl here ↦ subst (λ k. window q k ≤ window r k) (sym here) (omega (arith, window_here first last, wider))
    | inr other ↦ omega (arith, window_other u first from other)
  ]

  -- as much comes in
  pub same_coming : (ds : List Stretch) → coming_sum r ds ≡ coming_sum q ds
  same_coming ds = rw as_many refl

  -- as much is held
  pub same_held : (ds : List Stretch) → held_sum r ds ≡ held_sum q ds
  unfolding size
  same_held ds = refl

  -- a cut is one of both problems
  pub cut_there : (ds : List Stretch) (ts : List ℕ) → IsCut q ds ts → IsCut r ds ts
  cut_there ds ts cut = cut_with q q.windows r.windows ds ts as_many cut

  pub cut_back : (ds : List Stretch) (ts : List ℕ) → IsCut r ds ts → IsCut q ds ts
  cut_back ds ts cut = cut_with q r.windows q.windows ds ts (sym as_many) cut

  -- what may leave differs by the windows of the step, where it counts
  pub leaving_changed : (ds : List Stretch) (ts : List ℕ) → 1 ≤ t → t ≤ length q.windows
      → leaving_sum r ds ts + cond (counts_window q ds ts t) (window q t) 0
      ≡ leaving_sum q ds ts + cond (counts_window q ds ts t) n 0
  leaving_changed ds ts first last =
      let changed = sum_by_filter_range_changed (is_inner q ds) (leaving q ds ts) (leaving r ds ts) 1
      (length q.windows) t first (omega arith)
      (λ u from to other. ap (λ w. cond (is_listed ts u) (limit_sum q ds u) w) (window_other u first from other)) in
      let here = picked (is_inner q ds t) (is_listed ts t) (limit_sum q ds t) (window q t) n in
      let there = ap (λ w. cond (is_inner q ds t) (cond (is_listed ts t) (limit_sum q ds t) w) 0)
      (window_here first last) in
      rw as_many (omega arith)

-- ---- least losses

-- there is one least loss
one_least : (q : Dumping) (n m : ℕ) → IsLeastLoss q n → IsLeastLoss q m → n ≡ m
one_least q n m a b =
    let no_more = a.planned.plan.least b.plan b.planned.plan.fits in
    let no_less = b.planned.plan.least a.plan a.planned.plan.fits in
    omega (arith, a.loss, b.loss)

-- the bound of its cut is the least loss
pub tight : (q : Dumping) (n : ℕ) (is : IsLeastLoss q n) → bound q is.cut is.by_channels ≡ pos n
tight q n is = is.planned.tight ∙ ap pos is.loss

-- no cut has a greater bound
pub bound-le : CutsBoundLosses → (q : Dumping) (n : ℕ) (is : IsLeastLoss q n) (ds : List Stretch) (ts : List ℕ)
    → IsCut q ds ts → bound q ds ts ≤ℤ pos n
bound-le bounds q n is ds ts cut = omega (arith, ints, bounds q is.plan ds ts is.planned.plan.fits cut, is.loss)

-- ---- one window

-- a larger number counts for no less, and for no more than it is larger
counted_more : (b : Bool) (i j : ℕ) → i ≤ j → (cond b i 0 ≤ cond b j 0) × (cond b j 0 + i ≤ cond b i 0 + j)
counted_more true i j le = (le, omega arith)
counted_more false i j le = (omega arith, omega arith)

module _ (q : Dumping) (t : ℕ) (first : 1 ≤ t) (last : t ≤ length q.windows) (ds : List Stretch) (ts : List ℕ) where
  -- the bound of the cut where the step has this window
  abbrev bound_at : ℕ → ℤ
  bound_at n = bound (with_window q t n) ds ts

  -- what counts of a window of the step
  abbrev counted : ℕ → ℕ
  counted n = cond (counts_window q ds ts t) n 0

  -- the bound differs as what counts of the windows does
  pub bound_changed : (n : ℕ) → (bound_at n +ℤ pos (counted n)) ≡ (bound q ds ts +ℤ pos (counted (window q t)))
  bound_changed n = omega (
    arith,
    ints,
    same_coming q t n ds,
    same_held q t n ds,
    leaving_changed q t n ds ts first last,
  )

  -- the same where it is known whether the window counts
  pub bound_known : (n : ℕ) (counts : Bool) → counts_window q ds ts t ≡ counts
      → (bound_at n +ℤ pos (cond counts n 0)) ≡ (bound q ds ts +ℤ pos (cond counts (window q t) 0))
  bound_known n counts known = rw known at (bound_changed n)

  -- the bound is no greater with a wider window
  pub bound_falls : (i j : ℕ) → i ≤ j → bound_at j ≤ℤ bound_at i
  bound_falls i j le = omega (
    arith,
    ints,
    bound_changed i,
    bound_changed j,
    (counted_more (counts_window q ds ts t) i j le).0,
  )

-- what its cut counts of the window, and the least loss, bound the least loss with another window
least_across : CutsBoundLosses → (q : Dumping) (t i j n m : ℕ) → 1 ≤ t → t ≤ length q.windows
    → (is : IsLeastLoss (with_window q t i) n) → IsLeastLoss (with_window q t j) m
    → (counts : Bool) → counts_window q is.cut is.by_channels t ≡ counts → n + cond counts i 0 ≤ m + cond counts j 0
least_across bounds q t i j n m first last is other counts known =
    let ds = is.cut in
    let ts = is.by_channels in
    let there = cut_there q t j ds ts (cut_back q t i ds ts is.planned.cut) in
    omega (
      arith,
      ints,
      tight (with_window q t i) n is,
      bound-le bounds (with_window q t j) m other ds ts there,
      bound_known q t first last ds ts i counts known,
      bound_known q t first last ds ts j counts known,
    )

-- with the window that stands there it is the same problem
pub with_own_window : (q : Dumping) (t : ℕ) → with_window q t (window q t) ≡ q
with_own_window q t = ap (λ ws. record q { windows = ws }) (set-get_or q.windows (t - 1) 0)

-- the law, from the law that no plan that fits loses less than the bound of a cut
pub wider_windows : CutsBoundLosses → WiderWindows
wider_windows bounds q t e most first last within saved n k is_n is_k =
    let m = saved.after in
    let w = window q t in
    let same = one_least q n (m + most) is_n saved.first in
    let here = subst (λ r. IsLeastLoss r n) (sym (with_own_window q t)) is_n in
    let across = least_across bounds q t in
    -- the cut of q bounds what the wider window can save by e, and that of the widest window bounds it by most
    let by_e = across w (w + e) n k first last here is_k _ refl in
    let wider = (counted_more (counts_window q here.cut here.by_channels t) w (w + e) (omega arith)).1 in
    let by_most = across MAX_BLOCKS (w + e) m k first last saved.second is_k _ refl in
    let widest = saved.second in
    let falls = (counted_more (counts_window q widest.cut widest.by_channels t) (w + e) MAX_BLOCKS within).0 in
    -- its own cut counts the window, and then so much is saved, or it bounds the widest window too
    elim (cases_Bool (counts_window q is_k.cut is_k.by_channels t)) [
      | inl counts ↦ omega (arith, across (w + e) w k n first last is_k here true counts)
      | inr other ↦ omega (arith, across (w + e) MAX_BLOCKS k m first last is_k widest false other)
    ]

-- ---- plans that lose least

-- a plan that fits and loses as much as the bound of a cut
pub matched_least : CutsBoundLosses → (q : Dumping) (x : Amounts) (ds : List Stretch) (ts : List ℕ) (n : ℕ) → Fits q x
    → IsCut q ds ts → loss q x ≡ n → bound q ds ts ≡ pos n → IsLeastLoss q n
matched_least bounds q x ds ts n fits cut loses bounded = record {
  plan = x;
  cut = ds;
  by_channels = ts;
  planned = record {
    plan = record { fits = fits; least = λ y fits_y. omega (arith, ints, bounds q y ds ts fits_y cut, loses, bounded) };
    cut = cut;
    tight = bounded ∙ ap pos (sym loses);
  };
  loss = loses;
}

-- a plan that loses least, with its certificate
pub plan_least : (q : Dumping) (p : Planned) → IsPlan q p → IsLeastLoss q p.certificate.loss
plan_least q p is =
    let shows = is.shows_least in
    record {
      plan = amount p.plan;
      cut = p.certificate.cut;
      by_channels = p.certificate.by_channels;
      planned = record { plan = shows.least; cut = shows.cut; tight = shows.bound ∙ ap pos (sym shows.loss) };
      loss = shows.loss;
    }

-- ---- the problem with another number

-- with the number that stands there it is the same problem
some_limit : (o : Option ℕ) → IsSome o → Some (unwrap_or o 0) ≡ o
some_limit (Some n) is = refl
some_limit None is = absurd (true≢false (sym is))

pub with_own : (q : Dumping) (i : Item) → IsItem q i → with_number q i (number q i) ≡ q
with_own q (Window t) is = with_own_window q t
with_own q (Size s) is = ap (λ rs. record q { rows = rs }) (set-get_or q.rows s no_row)
with_own q (Limit c) is =
    ap (λ ls. record q { limits = ls }) (ap (λ o. set q.limits c o) (some_limit _ is.1) ∙ set-get_or q.limits c None)
with_own q (StepLimit k t) is = ap (λ ls. record q { step_limits = ls })
    (set-get_or q.step_limits (grid_place (length q.limited) t k) 0)
with_own q (StepSize k t) is = ap (λ ns. record q { step_sizes = ns })
    (set-get_or q.step_sizes (grid_place (length q.sized) t k) 0)

-- a plan for the problem has the shape of the other
number_shape : (q : Dumping) (i : Item) (b : ℕ) (x : Table) → HasShape q x → HasShape (with_number q i b) x
number_shape q (Window t) b x shape = record {
  stores = shape.stores;
  steps = shape.steps ∙ sym (length-set q.windows (t - 1) b);
}
number_shape q (Size s) b x shape = record {
  stores = shape.stores ∙ sym (length-set q.rows s (resized (row q s) b));
  steps = shape.steps;
}
number_shape q i b x shape = record { stores = shape.stores; steps = shape.steps }

-- ---- where as much is lost

-- a plan loses as much with another window
same_loss : (q : Dumping) (t b : ℕ) (x : Amounts) → loss (with_window q t b) x ≡ loss q x
unfolding left size
same_loss q t b x = rw (as_many q t b) refl

-- a plan fits where a window is wider
fits_wider : (q : Dumping) (t b : ℕ) (x : Amounts) → 1 ≤ t → t ≤ length q.windows → window q t ≤ b → Fits q x
    → Fits (with_window q t b) x
fits_wider q t b x first last wider fits u from to =
    let here = fits u from (omega (arith, as_many q t b, to)) in
    record {
      windowed = omega (arith, here.windowed, wider_window q t b u first last from wider);
      limited = here.limited;
    }

-- a window that the cut does not count may be wider
pub wider_least : CutsBoundLosses → (q : Dumping) (t b : ℕ) (x : Table) (ds : List Stretch) (ts : List ℕ) (n : ℕ) → 1
    ≤ t → t ≤ length q.windows → window q t ≤ b → counts_window q ds ts t ≡ false → ShowsLeast q x ds ts n
    → IsLeastLoss (with_window q t b) n
wider_least bounds q t b x ds ts n first last wider other shows =
    matched_least bounds (with_window q t b) (amount x) ds ts n
    (fits_wider q t b (amount x) first last wider shows.least.fits) (cut_there q t b ds ts shows.cut)
    (same_loss q t b (amount x) ∙ shows.loss)
    (omega (arith, ints, bound_known q t first last ds ts b false other, shows.bound))

-- where the largest window saves nothing, no wider window does
pub nothing_wider : CutsBoundLosses → (q : Dumping) (t b : ℕ) → IsItem q (Window t) → window q t ≤ b → b ≤ MAX_BLOCKS
    → IsSaved q (with_window q t MAX_BLOCKS) 0 → IsSaved q (with_window q t b) 0
nothing_wider bounds q t b item wider most saved =
    let n = saved.after in
    let widest = saved.second in
    let ds = widest.cut in
    let ts = widest.by_channels in
    let own = cut_back q t MAX_BLOCKS ds ts widest.planned.cut in
    let below = bound-le bounds q (n + 0) saved.first ds ts own in
    let here = tight (with_window q t MAX_BLOCKS) n widest in
    let no_higher = bound_falls q t item.0 item.1 ds ts b MAX_BLOCKS most in
    let falls = bound_falls q t item.0 item.1 ds ts (window q t) b wider in
    let unchanged = bound_changed q t item.0 item.1 ds ts (window q t) in
    let there : bound (with_window q t b) ds ts ≡ pos n = omega (arith, ints) in
    let x = saved.first.plan in
    let lost : loss q x ≡ n = omega (arith, saved.first.loss) in
    record {
      after = n;
      first = saved.first;
      second =
          matched_least bounds (with_window q t b) x ds ts n (fits_wider q t b x item.0 item.1 wider
          saved.first.planned.plan.fits)
          (cut_there q t b ds ts own) (same_loss q t b x ∙ lost) there;
    }

-- ---- what is found of the changed problem r

module _ (q : Dumping) (p : Planned) (i : Item) (base : IsPlanFor q p) (item : IsItem q i) where
  least_here : IsLeastLoss q p.certificate.loss
  least_here = plan_least q p base.plan

  pub shape_there : (b : ℕ) → HasShape (with_number q i b) p.plan
  shape_there b = number_shape q i b p.plan base.plan.shows_least.shape

  -- with the number that stands there the least loss is the same
  own_least : IsLeastLoss (with_number q i (number q i)) p.certificate.loss
  own_least = subst (λ r. IsLeastLoss r p.certificate.loss) (sym (with_own q i item)) least_here

  pub alike_own : (b : ℕ) → number q i ≡ b → IsLeastLoss (with_number q i b) p.certificate.loss
  alike_own b same = subst (λ k. IsLeastLoss (with_number q i k) p.certificate.loss) same own_least

  -- no plan that fits a problem with a smaller number loses less
  smaller_loses : OnlyCountedHelps → (a b m : ℕ) → a ≤ b → IsLeastLoss (with_number q i b) m → (x : Amounts)
      → Fits (with_number q i a) x → m ≤ loss (with_number q i a) x
  smaller_loses helps a b m le is x fits =
      let least = helps (with_number q i b) (with_number q i a) is.cut is.by_channels x is.planned.cut
      (grows q i a b base.problem item le is.cut is.by_channels is.planned.cut) fits in
      omega (arith, ints, least, tight (with_number q i b) m is)

  module _ (helps : OnlyCountedHelps) (b m : ℕ) (least : IsLeastLoss (with_number q i b) m) where
    -- with a larger number no more is lost
    pub less_there : number q i ≤ b → m ≤ p.certificate.loss
    less_there larger =
        let own = with_own q i item in
        let fits = subst (λ r. Fits r least_here.plan) (sym own) least_here.planned.plan.fits in
        omega (
          arith,
          subst (λ r. m ≤ loss r least_here.plan) own
              (smaller_loses helps (number q i) b m larger least least_here.plan fits),
          least_here.loss,
        )

    -- and it saves the difference
    pub saved_there : number q i ≤ b → IsSaved q (with_number q i b) (p.certificate.loss - m)
    saved_there larger =
        let same : p.certificate.loss ≡ m + (p.certificate.loss - m) = omega (arith, less_there larger) in
        record { after = m; first = subst (IsLeastLoss q) same least_here; second = least }

    -- with a smaller number no less is lost
    pub more_there : b ≤ number q i → p.certificate.loss ≤ m
    more_there smaller = omega (
      arith,
      smaller_loses helps b (number q i) p.certificate.loss smaller own_least least.plan least.planned.plan.fits,
      least.loss,
    )

    -- and the difference is known of both problems
    pub costs_there : b ≤ number q i → IsSaved (with_number q i b) q (m - p.certificate.loss)
    costs_there smaller =
        let n = p.certificate.loss in
        let same : m ≡ n + (m - n) = omega (arith, more_there smaller) in
        record { after = n; first = subst (IsLeastLoss (with_number q i b)) same least; second = least_here }

-- the least number is no larger than any
pub least_first : (q : Dumping) (i : Item) → IsDumping q → IsItem q i → least_number i ≤ number q i
least_first q (Size s) is item = let row = is.stores.each s no_row item in omega (arith, row.has_room)
least_first q i is item = omega arith
