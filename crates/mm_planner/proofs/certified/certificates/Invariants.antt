use Rattle.std.proofs.Common.{◌≡◌, ◌*◌, ◌≤◌, length, drop}
use Rattle.std.specs.Prelude.{All}
use Rattle.std.specs.Vec.Iter.{into_iter_items, into_iter_len}
use Rattle.mm_base.specs.declared.limits.TheConstants.{MAX_STORES, MAX_STEPS, MAX_BLOCKS}
use Rattle.mm_plan.specs.Table.{amount}
use Rattle.mm_plan.specs.Sheet.{CertificateRows}
use Rattle.mm_cut.specs.Firsts.{ShowFirsts}
use Rattle.mm_planner.proofs.certified.certificates.Given as goal

abbrev pub invariant-loop-cut : goal.invariant-loop-cut
invariant-loop-cut l = record {
  can : goal.iterator-loop-cut.can_next l.cut-iterator;
  finite : goal.iterator-loop-cut.is_finite l.cut-iterator;
  counted : into_iter_len l.cut-iterator ≡ length (into_iter_items l.cut-iterator);
  within : length l.firsts.items ≤ length l.fn.cuts.items;
  left : drop (length l.firsts.items) l.fn.cuts.items ≡ into_iter_items l.cut-iterator;
  show : ShowFirsts l.problem (amount l.plan) l.firsts.items;
  most : All (λ (c : CertificateRows). c.loss ≤ 2 * MAX_BLOCKS * MAX_STEPS * MAX_STORES) l.firsts.items;
}
