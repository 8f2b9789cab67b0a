-- From cuts of the first stores to their certificates.
use Rattle.std.proofs.Common.{◌≡◌, ℕ, suc, ◌+◌, ◌-◌, ◌*◌, ◌<◌, ◌≤◌, All, List, [], ◌∷◌, ◌++◌, length, get_or, drop, pos}
use Rattle.std.proofs.Common.{sym, ap, ◌∙◌, subst, inl, inr, arith, add-one, drop-cons, length-drop, length-append}
use Rattle.std.proofs.lemmas.Bool.{cases_lt}
use Rattle.mm_base.specs.declared.limits.TheConstants.{MAX_STORES, MAX_STEPS, MAX_BLOCKS}
use Rattle.std.proofs.lemmas.List.{get_or_append_left, get_or_push}
use Rattle.mm_problem.specs.Dumping.{Dumping, IsDumping}
use Rattle.mm_plan.specs.Table.{Table, amount, IsTable}
use Rattle.mm_plan.specs.declared.certificate.Cut.{Cut}
use Rattle.mm_plan.specs.Volumes.{Amounts, loss}
use Rattle.mm_plan.specs.Sheet.{CertificateRows}
use Rattle.mm_cut.specs.Cuts.{bound}
use Rattle.mm_cut.specs.Firsts.{ShowsFirst, ShowFirsts}
use Rattle.mm_cut.proofs.Duality.{IsLeast-from_cut}
use Rattle.mm_cut.proofs.ShownFirsts.{IsLeastInOrder-from_firsts}
use Rattle.mm_planner.specs.declared.planner.Planned.{Planned}
use Rattle.mm_planner.specs.Planned.{FitsAndFills, ShowsLeast, IsShown}
use Rattle.mm_planner.specs.InOrder.{CutShows, CutsShow, AllShow, IsPlanInOrder}

-- the first element of a rest, and what is left after it
pub next_of : {X : Type 0} (xs rest : List X) (x : X) (n : ℕ) → drop n xs ≡ x ∷ rest
    → (n < length xs) × (get_or xs n x ≡ x) × (drop (n + 1) xs ≡ rest)
next_of xs rest x n is =
    let inside : n < length xs = omega (arith, ap length is, length-drop n xs) in
    let split = drop-cons xs n x inside in
    let both : get_or xs n x ∷ drop (suc n) xs ≡ x ∷ rest = sym split ∙ is in
    (inside, cc, ap (λ k. drop k xs) (add-one n) ∙ (cc))

-- one certificate more
pub ShowFirsts-push : (q : Dumping) (x : Amounts) (cs : List CertificateRows) (c : CertificateRows) → ShowFirsts q x cs
    → ShowsFirst (length cs + 1) q x c → ShowFirsts q x (cs ++ c ∷ [])
ShowFirsts-push q x cs c show shows k d below = elim (cases_lt k (length cs)) [
  | inl earlier ↦ subst (ShowsFirst (k + 1) q x) (sym (get_or_append_left cs (c ∷ []) d k earlier)) (show k d earlier)
  | inr past ↦
      let at : k ≡ length cs = omega (arith, past, length-append cs (c ∷ [])) in
      subst (ShowsFirst (k + 1) q x) (sym (get_or_push cs c d k (sym at)))
      (subst (λ n. ShowsFirst (n + 1) q x c) (sym at) shows)
]

-- a filled plan that fits, where a certificate shows what all stores lose by it, loses least
shows_least : (q : Dumping) (x : Table) (c : CertificateRows) → FitsAndFills q x
    → ShowsFirst (length q.rows) q (amount x) c → ShowsLeast q x c.cut c.by_channels c.loss
shows_least q x c whole shows =
    let tight : pos (loss q (amount x)) ≡ bound q c.cut c.by_channels = ap pos (sym shows.loss) ∙ sym shows.tight
    ∙ shows.bound in
    record {
      shape = whole.shape;
      least = IsLeast-from_cut q (amount x) c.cut c.by_channels whole.fits shows.cut.cut tight;
      filled = whole.filled;
      cut = shows.cut.cut;
      loss = sym shows.loss;
      bound = sym shows.bound ∙ shows.tight;
    }

-- the same with certificates of the first stores
pub shown_by : (q : Dumping) (p : Planned) (n : ℕ) → IsTable p.plan → FitsAndFills q p.plan → n ≡ length q.rows
    → ShowsFirst n q (amount p.plan) p.certificate
    → p.certificate.loss ≤ 2 * MAX_BLOCKS * MAX_STEPS * MAX_STORES → ShowFirsts q (amount p.plan) p.firsts.items
    → All (λ c. c.loss ≤ 2 * MAX_BLOCKS * MAX_STEPS * MAX_STORES) p.firsts.items → IsShown q p
shown_by q p n table whole is shows most firsts most_each =
    let all : ShowsFirst (length q.rows) q (amount p.plan) p.certificate = subst
    (λ k. ShowsFirst k q (amount p.plan) p.certificate) is shows in
    record {
      plan = record {
        shows_least = shows_least q p.plan p.certificate whole all;
        tight = all.tight;
        is_table = table;
        most = most;
      };
      firsts = firsts;
      most = most_each;
    }

-- where one of the cuts does not show what its stores lose, not all do
pub not_each : (q : Dumping) (x : Table) (c : Cut) (firsts : List Cut) → ¬ CutsShow q x firsts → ¬ AllShow q x c firsts
not_each q x c firsts none all = none all.each

pub not_own : (q : Dumping) (x : Table) (c : Cut) (firsts : List Cut) (n : ℕ) → n ≡ length q.rows → ¬ CutShows n q x c
    → ¬ AllShow q x c firsts
not_own q x c firsts n is none all = none (subst (λ k. CutShows k q x c) (sym is) all.all)

-- with certificates of all first stores but all it loses least in their order
pub in_order : (q : Dumping) (p : Planned) (n : ℕ) → IsDumping q → n ≡ length q.rows → IsShown q p
    → length p.firsts.items ≡ n - 1 → IsPlanInOrder q p
in_order q p n is same shown count =
    let all : length p.firsts.items + 1 ≡ length q.rows = omega (arith, is.stores.has_store, same, count) in
    record {
      plan = shown.plan;
      in_order = record {
        least = IsLeastInOrder-from_firsts q (amount p.plan) p.firsts.items all shown.plan.shows_least.least
            shown.firsts;
        count = all;
        show = shown.firsts;
      };
      most = shown.most;
    }
