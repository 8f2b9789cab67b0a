use Rattle.std.proofs.Common.{◌≡◌, ℕ, ◌+◌, ◌*◌, ◌<◌, ◌≤◌, List, length, get_or, set, sym, subst, arith, inl, inr, length-set, get_or-set_same, get_or-set_other}
use Rattle.std.specs.Prelude.{filter}
use Rattle.std.specs.List.{sum_by, range_with_len}
use Rattle.std.proofs.lemmas.Bool.{cases_eq}
use Rattle.std.proofs.lemmas.Bool.Decides.{eqb_tells}
use Rattle.mm_base.specs.declared.limits.TheConstants.{MAX_BLOCKS}
use Rattle.mm_problem.specs.Dumping.{Dumping, channel, is_of}
use Rattle.mm_plan.specs.Table.{amount}
use Rattle.mm_plan.specs.Fit.{in_step}
use Rattle.mm_base.proofs.RangeSums.{sum_by_filter_range_more}
use Rattle.mm_plan.proofs.fit.channel_amounts.Goals as goal

-- the sum of each channel once store s has been added to its own
sums_more : (q : Dumping) (f : ℕ → ℕ) (sums : List ℕ) (s c : ℕ) → channel q s < length sums
    → get_or sums c 0 ≡ sum_by f (filter (is_of q c) (range_with_len 0 s))
    → get_or (set sums (channel q s) (get_or sums (channel q s) 0 + f s)) c 0 ≡ sum_by f (filter (is_of q c) (range_with_len 0 (s + 1)))
sums_more q f sums s c below so_far =
    let more = sum_by_filter_range_more (is_of q c) f 0 s s (omega arith) in
    elim (eqb_tells (channel q s) c) [
      | inl same ↦
          let here = get_or-set_same sums (channel q s) (get_or sums (channel q s) 0 + f s) 0 below in
          let there : get_or (set sums (channel q s) (get_or sums (channel q s) 0 + f s)) c 0 ≡ get_or sums c 0 + f s =
          subst (λ k. get_or (set sums (channel q s) (get_or sums (channel q s) 0 + f s)) k 0 ≡ get_or sums k 0 + f s) same.1 here in
          omega (arith, rw same.0 at more, there, so_far)
      | inr other ↦
          let stays = get_or-set_other sums (channel q s) c (get_or sums (channel q s) 0 + f s) 0 (λ e. other.1 (sym e)) in
          omega (arith, rw other.0 at more, stays, so_far)
    ]

-- no sum is larger by more than what was added
sums_most : (sums : List ℕ) (k c d most : ℕ) → k < length sums → get_or sums k 0 ≤ most → get_or sums c 0 ≤ most → get_or (set sums k (get_or sums k 0 + d)) c 0 ≤ most + d
sums_most sums k c d most below here there = elim (cases_eq c k) [
  | inl same ↦ rw same (omega (arith, get_or-set_same sums k (get_or sums k 0 + d) 0 below))
  | inr other ↦ omega (arith, get_or-set_other sums k c (get_or sums k 0 + d) 0 other)
]

pub loop-store-preserved : goal.loop-store-preserved
loop-store-preserved c =
    let is : c.channel.result ≡ channel c.args.problem.now c.loop-store.store = c.channel.ensures.channel in
    let within : c.channel.result < length c.loop-store.amounts = omega arith in
    let added : c.from.result ≡ in_step (amount c.args.plan.now) c.args.step c.loop-store.store = omega arith in
    record {
      channels = omega (arith, length-set c.loop-store.amounts c.channel.result (get_or c.loop-store.amounts c.channel.result 0 + c.from.result));
      sums = λ k below. rw (is, added) (sums_more c.args.problem.now (in_step (amount c.args.plan.now) c.args.step) c.loop-store.amounts c.loop-store.store k (omega arith) (c.loop-store.invariant.sums k below));
      most = λ k below.
          let more = sums_most c.loop-store.amounts c.channel.result k c.from.result (c.loop-store.store * MAX_BLOCKS) within (c.loop-store.invariant.most c.channel.result (omega arith)) (c.loop-store.invariant.most k below) in
          omega (arith, more);
    }
