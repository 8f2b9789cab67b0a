-- The sheet of a plan that keeps the first steps of a plan.
use Rattle.std.proofs.Common.{◌≡◌, ℕ, ◌+◌, ◌*◌, ◌<◌, ◌≤◌, pos, List, None, length, get_or, map, refl, sym, ap, ◌∙◌}
use Rattle.std.proofs.Common.{arith, length-drop}
use Rattle.std.specs.Prelude.{All, ◌^◌, ◌==◌, if◌then◌else◌, FitsSigned}
use Rattle.std.proofs.lemmas.Bool.Decides.{nat_tests}
use Rattle.std.specs.Int.{w64}
use Rattle.std.proofs.lemmas.List.{length-map}
use Rattle.std.proofs.lemmas.List.Elements.{All-map, All-weaker}
use Rattle.std.proofs.lemmas.List.Sorted.{IsPermutation-refl}
use Rattle.mm_base.specs.Id.{IsIdField}
use Rattle.mm_base.specs.declared.limits.TheConstants.{MAX_STORES, MAX_STEPS, MAX_BLOCKS}
use Rattle.mm_problem.specs.Dumping.{Dumping, IsDumping}
use Rattle.mm_plan.specs.Least.{IsLeast}
use Rattle.mm_plan.specs.Sheet.{SheetRows, CertificateRows, IsSheet, IsShapedFor, IsWritten}
use Rattle.mm_plan.specs.Table.{Table, amount, HasShape, IsTable}
use Rattle.mm_plan.specs.Volumes.{loss}
use Rattle.mm_cut.specs.Counts.{IsCounted}
use Rattle.mm_cut.specs.Cuts.{CutsAreFew, IsCut, bound}
use Rattle.mm_cut.specs.Stretches.{IsStretch}
use Rattle.mm_rest.specs.Laws.{PlansAnew}
use Rattle.mm_rest.specs.Rests.{rest_after}
use Rattle.mm_rest.proofs.Later.{as_many}
use Rattle.mm_keep.specs.Joining.{AreJoined, AreParts}
use Rattle.mm_keep.specs.Keeps.{AreLaterCuts, IsEarly, IsKeptSheet, later_counts, later_stretch}
use Rattle.mm_keep.proofs.KeptPlans.{fits, kept, least_after, least_rest, rest_loss}
use Rattle.mm_keep.proofs.LaterCuts.{counted_within, later_cut}

-- the first step of a stretch can be written where those that it may be can
small_first : (n first a : ℕ) → first < 2 ^ 32 → n + a < 2 ^ 32 → (if a == 1 then first else n + a) < 2 ^ 32
small_first n first a small later = grind (arith, nat_tests)

-- a sheet for the rest of a problem, whose cut shows that its plan loses least there
pub record IsRestSheet (rest : Dumping) (s : SheetRows) : Type 0 where
  pub is_sheet : IsSheet s
  pub shape : IsShapedFor rest s
  pub plan : HasShape rest s.plan
  pub least : IsLeast rest (amount s.plan)
  pub cut : IsCut rest s.cut s.by_channels
  pub loss : loss rest (amount s.plan) ≡ s.loss
  pub bound : bound rest s.cut s.by_channels ≡ pos s.loss

module _ (q : Dumping) (x : Table) (n : ℕ) (is : IsDumping q) (before : n < length q.windows) (s : SheetRows)
    (rest : IsRestSheet (rest_after q (amount x) n) s) where
  few_left : length (rest_after q (amount x) n).windows + n ≤ MAX_STEPS
  few_left = omega (arith, length-drop n q.windows, is.steps.at_most, before)

  pub early_stretches : All IsEarly s.cut
  early_stretches = All-weaker (IsStretch (rest_after q (amount x) n)) IsEarly
      (λ d of. (omega (arith, of.order, of.last, few_left), omega (arith, of.last, few_left))) s.cut
      rest.cut.stretches.each

  pub early_counts : All (λ t. t ≤ MAX_STEPS) s.by_channels
  early_counts = All-weaker (IsCounted (rest_after q (amount x) n) s.cut) (λ t. t ≤ MAX_STEPS)
      (λ t of. let within = counted_within (rest_after q (amount x) n) s.cut t rest.cut.stretches of in
      omega (arith, within.1, few_left)) s.by_channels rest.cut.counted.each

  pub parts : HasShape q x → AreParts q n x s.plan
  parts shape = record {
    plan = shape;
    stores = rest.plan.stores ∙ as_many q (amount x) n;
    steps = omega (arith, rest.plan.steps, length-drop n q.windows, before);
  }

  pub later_cuts : AreLaterCuts q n s
  later_cuts first from until =
      later_cut q (amount x) n first from until s.cut s.by_channels (omega (arith, before)) rest.cut

-- a sheet of these stores, a plan and its certificate
abbrev pub rows_of : List (List ℕ) → Table → CertificateRows → SheetRows
rows_of ids plan own = record {
  stores = ids;
  plan = plan;
  loss = own.loss;
  cut = own.cut;
  by_channels = own.by_channels;
  bound = own.bound;
  firsts = None;
}

-- the loss of a plan, and the cut of a sheet that many steps later, with its bound
pub record IsOwn (q : Dumping) (n first : ℕ) (plan : Table) (s : SheetRows) (own : CertificateRows) : Type 0 where
  pub loss : own.loss ≡ loss q (amount plan)
  pub most : own.loss ≤ 2 * MAX_BLOCKS * MAX_STEPS * MAX_STORES
  pub cut : own.cut ≡ map (later_stretch n first) s.cut
  pub counts : own.by_channels ≡ later_counts n s.by_channels
  pub bound : own.bound ≡ bound q own.cut own.by_channels
  pub fits : FitsSigned w64 own.bound

module _ (few : CutsAreFew) (anew : PlansAnew) (q : Dumping) (x : Table) (n : ℕ) (is : IsDumping q)
    (before : n < length q.windows) (s : SheetRows) (rest : IsRestSheet (rest_after q (amount x) n) s)
    (plan : Table) (shape : HasShape q plan) (is_table : IsTable plan)
    (both : AreJoined q n x s.plan (amount plan)) (ids : List (List ℕ)) (same : ids ≡ map (λ r. r.id) q.rows)
    (named : All IsIdField ids) (first : ℕ) (from : 1 ≤ first) (until : first ≤ n + 1) (own : CertificateRows)
    (of : IsOwn q n first plan s own) where
  own_cut : IsCut q own.cut own.by_channels
  own_cut = rw (of.cut, of.counts) (later_cuts q x n is before s rest first from until)

  own_sheet : IsSheet (rows_of ids plan own)
  own_sheet =
      let counted = few q own.cut own.by_channels is own_cut in
      record {
        firsts = tt;
        steps = omega (arith, shape.steps, is.steps.at_most);
        cut = omega (arith, counted.0);
        counts = omega (arith, counted.1, is.steps.at_most);
        plan = is_table;
        same_stores = shape.stores ∙ sym (ap length same ∙ length-map q.rows (λ r. r.id));
        each_store = named;
        each_stretch = rw of.cut (All-map IsWritten (later_stretch n first) s.cut (λ k d inside.
            let early = early_stretches q x n is before s rest k d inside in
            record {
              store = (rest.is_sheet.each_stretch k d inside).store;
              first = small_first n first (get_or s.cut k d).first (omega (arith, until, before, is.steps.at_most))
                  (omega (arith, early.0, before, is.steps.at_most));
              last = omega (arith, early.1, before, is.steps.at_most);
            }));
        each_count = rw of.counts (All-map (λ t. t < 2 ^ 32) (λ t. n + t) s.by_channels (λ k d inside.
            let early = early_counts q x n is before s rest k d inside in
            omega (arith, early, before, is.steps.at_most)));
        loss = omega (arith, of.most);
        bound = of.fits;
      }

  pub kept_sheet : IsKeptSheet q (amount x) n (rows_of ids plan own)
  kept_sheet =
      let z = amount s.plan in
      let y = amount plan in
      let last : n ≤ length q.windows = omega (arith, before) in
      record {
        is_sheet = own_sheet;
        shape = record { stores = same; steps = shape.steps };
        plain = refl;
        kept = kept q (amount x) z y n last both;
        rest = least_rest q (amount x) z y n last both rest.least;
        least_after = least_after q (amount x) z y n last both anew rest.least;
        fits = fits q (amount x) z y n last both rest.least;
        loss = of.loss;
        cut = own_cut;
        bound = of.bound;
        shows = record {
          stretches = s.cut;
          by_channels = s.by_channels;
          is_cut = rest.cut;
          tight = rest.bound ∙ ap pos (sym (rest_loss q (amount x) z y n last both ∙ rest.loss));
          first = first;
          from = from;
          until = until;
          stretches_are = rw of.cut (IsPermutation-refl (map (later_stretch n first) s.cut));
          counts_are = rw of.counts (IsPermutation-refl (later_counts n s.by_channels));
        };
      }
