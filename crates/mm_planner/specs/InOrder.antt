-- Plans that serve the stores in order: sources in order of priority (Megiddo, "Optimal flows in networks with multiple
-- sources and sinks", 1974).
use Rattle.std.specs.Prelude.{◌≡◌, ℕ, ◌+◌, ◌*◌, ◌<◌, ◌≤◌, List, length, slice_index_or, pos, All}
use Rattle.mm_base.specs.declared.limits.TheConstants.{MAX_STORES, MAX_STEPS, MAX_BLOCKS}
use Rattle.mm_problem.specs.Dumping.{Dumping}
use Rattle.mm_plan.specs.Table.{Table, amount}
use Rattle.mm_plan.specs.Volumes.{first_loss}
use Rattle.mm_plan.specs.Least.{IsLeastInOrder}
use Rattle.mm_plan.specs.Sheet.{CertificateRows}
use Rattle.mm_plan.specs.declared.certificate.Cut.{Cut}
use Rattle.mm_cut.specs.Cuts.{IsFirstCut, bound}
use Rattle.mm_cut.specs.Firsts.{ShowFirsts}
use Rattle.mm_planner.specs.declared.planner.Planned.{Planned}
use Rattle.mm_planner.specs.Planned.{IsPlan}

-- a cut of the first stores whose bound is their loss by a plan, so that no plan loses less of them
pub record CutShows (k : ℕ) (q : Dumping) (x : Table) (c : Cut) : Type 0 where
  pub cut : IsFirstCut k q c.stretches.items c.by_channels.items
  pub bound : bound q c.stretches.items c.by_channels.items ≡ pos (first_loss k q (amount x))

-- such a cut for the first store, for the first two and so on
abbrev pub CutsShow : Dumping → Table → List Cut → Type 0
CutsShow q x cuts = (k : ℕ) (c : Cut) → k < length cuts → CutShows (k + 1) q x (slice_index_or cuts k c)

-- such a cut of all stores
pub record AllShow (q : Dumping) (x : Table) (c : Cut) (firsts : List Cut) : Type 0 where
  pub all : CutShows (length q.rows) q x c
  pub each : CutsShow q x firsts

-- the plan loses least in the order of the stores, and certificates show for the first store, the first two and so on,
-- up to all but one, that no plan loses less
pub record ShowsInOrder (q : Dumping) (x : Table) (certificates : List CertificateRows) : Type 0 where
  pub least : IsLeastInOrder q (amount x)
  pub count : length certificates + 1 ≡ length q.rows
  pub show : ShowFirsts q (amount x) certificates

-- a plan that loses least in the order of the stores, with certificates that show it
pub record IsPlanInOrder (q : Dumping) (p : Planned) : Type 0 where
  pub plan : IsPlan q p
  pub in_order : ShowsInOrder q p.plan p.firsts.items
  pub most : All (λ c. c.loss ≤ 2 * MAX_BLOCKS * MAX_STEPS * MAX_STORES) p.firsts.items
