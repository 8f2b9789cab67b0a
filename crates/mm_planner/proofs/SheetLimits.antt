-- The sheet of a planned problem is within the limits of the text.
use Rattle.std.proofs.Common.{◌≡◌, ℕ, ◌+◌, ◌*◌, ◌<◌, ◌≤◌, ℤ, pos, List, [], length, get_or, map, Option, Some, None}
use Rattle.std.proofs.Common.{refl, sym, ap, ◌∙◌, subst, arith}
use Rattle.std.specs.Prelude.{All, IfSome, ◌^◌, FitsSigned}
use Rattle.std.specs.Int.{w64}
use Rattle.std.specs.Str.{bytes_eq}
use Rattle.std.proofs.lemmas.List.{length-map, get_or-map}
use Rattle.std.proofs.lemmas.List.Elements.{All-contains, All-weaker}
use Rattle.std.proofs.lemmas.Bool.Decides.{nat_tests}
use Rattle.std.proofs.lemmas.List.Folds.{Any-from_list_any}
use Rattle.std.proofs.lemmas.List.Sums.{passes_at_first}
use Rattle.std.proofs.lemmas.Slice.Eq.{bytes_eq-Decides}
use Rattle.mm_base.specs.declared.limits.TheConstants.{MAX_STORES, MAX_STEPS, MAX_BLOCKS}
use Rattle.mm_problem.specs.Dumping.{Dumping, IsDumping, no_row}
use Rattle.mm_base.specs.Id.{IsIdField}
use Rattle.mm_plan.specs.declared.stretch.Stretch.{Stretch}
use Rattle.mm_plan.specs.Table.{amount}
use Rattle.mm_plan.specs.Volumes.{Amounts}
use Rattle.mm_plan.specs.Sheet.{SheetRows, CertificateRows, IsCertificate, AreFirsts, IsWritten}
use Rattle.mm_cut.specs.Firsts.{ShowFirsts}
use Rattle.mm_cut.specs.Stretches.{store_of, inner_end, goes_past, IsStretch, AreStretches}
use Rattle.mm_cut.specs.Counts.{IsCounted}
use Rattle.mm_cut.specs.Cuts.{IsCut, CutsAreFew}
use Rattle.mm_cut.proofs.StretchLosses.{inner_end-le}
use Rattle.mm_planner.specs.declared.planner.Planned.{Planned}
use Rattle.mm_planner.specs.Planned.{IsPlan}
use Rattle.mm_planner.specs.InOrder.{IsPlanInOrder}
use Rattle.mm_planner.specs.PlanTexts.{IsPlain, SheetShowsInOrder, IsSheetFor}

-- a number below 2^63 fits
fits_signed : (z : ℤ) (n : ℕ) → z ≡ pos n → n < 2 ^ 63 → FitsSigned w64 z
fits_signed z n is small =
    let fits : FitsSigned w64 (pos n) = record { sfits = small } in
    subst (FitsSigned w64) (sym is) fits

-- the store of a stretch is one of the problem's
stretch_store : (q : Dumping) (d : Stretch) → IsStretch q d → All IsIdField (map (λ r. r.id) q.rows) → IsIdField d.store
stretch_store q d is each =
    let place = store_of q d in
    let ids = map (λ r. r.id) q.rows in
    let size : length ids ≡ length q.rows = length-map q.rows (λ r. r.id) in
    let at : IsIdField (get_or ids place []) = each place [] (omega (arith, size, is.store)) in
    let found : (get_or q.rows place no_row).id ≡ d.store = (bytes_eq-Decides (get_or q.rows place no_row).id d.store).0
    (passes_at_first (λ r. bytes_eq r.id d.store) q.rows no_row is.store) in
    subst IsIdField (get_or-map (λ r. r.id) q.rows place no_row [] is.store ∙ found) at

-- a counted step is one of the steps
counted_below : (q : Dumping) (ds : List Stretch) (t : ℕ) → AreStretches q ds → IsCounted q ds t → t ≤ length q.windows
counted_below q ds t are is =
    let some = Any-from_list_any (goes_past q t) ds is.inner in
    let last = (All-contains (IsStretch q) ds some.1 are.each (some.0, some.2, some.3)).last in
    let passed = some.4 in
    let end = inner_end-le q.come some.1 in
    grind (arith, nat_tests)

-- a certificate of a cut of the problem, with a loss and a bound that a problem may have
is_certificate : CutsAreFew → (q : Dumping) (c : CertificateRows) → IsDumping q → All IsIdField (map (λ r. r.id) q.rows)
    → IsCut q c.cut c.by_channels → c.loss ≤ 2 * MAX_BLOCKS * MAX_STEPS * MAX_STORES → c.bound ≡ pos c.loss
    → IsCertificate c
is_certificate cuts_are_few q c is named cut most tight =
    let few_steps = is.steps.at_most in
    let few = cuts_are_few q c.cut c.by_channels is cut in
    record {
      cut = omega (arith, few.0);
      counts = omega (arith, few_steps, few.1);
      each_stretch = All-weaker (IsStretch q) IsWritten (λ d is_stretch.
          record {
            store = stretch_store q d is_stretch named;
            first = omega (arith, few_steps, is_stretch.order, is_stretch.last);
            last = omega (arith, few_steps, is_stretch.last);
          }) c.cut cut.stretches.each;
      each_count = All-weaker (IsCounted q c.cut) (λ t. t < 2 ^ 32)
          (λ t counted. omega (arith, few_steps, counted_below q c.cut t cut.stretches counted)) c.by_channels
          cut.counted.each;
      loss = omega (arith, most);
      bound = fits_signed c.bound c.loss tight (omega (arith, most));
    }

-- certificates that show what the first stores lose, of all stores but the last
are_firsts : CutsAreFew → (q : Dumping) (x : Amounts) (ids : List (List ℕ)) (cs : List CertificateRows) → IsDumping q
    → ids ≡ map (λ r. r.id) q.rows → All IsIdField ids → length cs + 1 ≡ length q.rows → ShowFirsts q x cs
    → All (λ c. c.loss ≤ 2 * MAX_BLOCKS * MAX_STEPS * MAX_STORES) cs → AreFirsts (length ids) cs
are_firsts cuts_are_few q x ids cs is same named count show most = record {
  count = count ∙ sym (length-map q.rows (λ r. r.id)) ∙ sym (ap length same);
  each = λ k d inside.
      is_certificate cuts_are_few q (get_or cs k d) is (subst (All IsIdField) same named) (show k d inside).cut.cut
      (most k d inside) (show k d inside).tight;
}

-- a sheet of these stores, a plan with its certificate, and those of the first stores
abbrev sheet_with : List (List ℕ) → Planned → Option (List CertificateRows) → SheetRows
sheet_with ids p firsts = record {
  stores = ids;
  plan = p.plan;
  loss = p.certificate.loss;
  cut = p.certificate.cut;
  by_channels = p.certificate.by_channels;
  bound = p.certificate.bound;
  firsts = firsts;
}

module _ (few : CutsAreFew) (q : Dumping) (ids : List (List ℕ)) (p : Planned) (is : IsDumping q)
    (same : ids ≡ map (λ r. r.id) q.rows) (named : All IsIdField ids) where
  -- the sheet of a plan that loses least, with the problem's stores
  planned_sheet : (B : Dumping → SheetRows → Type 0) (firsts : Option (List CertificateRows)) → IsPlan q p
      → IfSome firsts (AreFirsts (length ids)) → B q (sheet_with ids p firsts)
      → IsSheetFor B q (sheet_with ids p firsts)
  planned_sheet B firsts plan are besides =
      let shows = plan.shows_least in
      let stores : length ids ≡ length q.rows = ap length same ∙ length-map q.rows (λ r. r.id) in
      let own = is_certificate few q p.certificate is (subst (All IsIdField) same named) shows.cut plan.most
      plan.tight in
      record {
        is_sheet = record {
          firsts = are;
          steps = omega (arith, shows.shape.steps, is.steps.at_most);
          cut = own.cut;
          counts = own.counts;
          plan = plan.is_table;
          same_stores = shows.shape.stores ∙ sym stores;
          each_store = named;
          each_stretch = own.each_stretch;
          each_count = own.each_count;
          loss = own.loss;
          bound = own.bound;
        };
        shape = record { stores = same; steps = shows.shape.steps };
        shows_least = shows;
        tight = plan.tight;
        besides = besides;
      }

  -- with no certificates of first stores
  pub plain_sheet : IsPlan q p → IsSheetFor IsPlain q (sheet_with ids p None)
  plain_sheet plan = planned_sheet IsPlain None plan tt refl

  -- with certificates of all stores but the last
  pub ordered_sheet : IsPlanInOrder q p → IsSheetFor SheetShowsInOrder q (sheet_with ids p (Some p.firsts.items))
  ordered_sheet all =
      planned_sheet SheetShowsInOrder (Some p.firsts.items) all.plan
      (are_firsts few q (amount p.plan) ids p.firsts.items is same named all.in_order.count all.in_order.show all.most)
      (record { certificates = p.firsts.items; has = refl; in_order = all.in_order })
