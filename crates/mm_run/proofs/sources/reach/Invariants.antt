use Rattle.std.proofs.Common.{◌≡◌, ℕ, ◌-◌, ◌≤◌, max, vec_len}
use Rattle.mm_run.specs.Sources.{given}
use Rattle.mm_run.proofs.sources.reach.Given as goal

abbrev pub invariant-loop-alloc : goal.invariant-loop-alloc
invariant-loop-alloc l = record {
  from : vec_len l.initial.sources ≤ vec_len l.sources;
  most : vec_len l.sources ≤ max (vec_len l.initial.sources) l.count;
  given : (s t : ℕ) → given l.sources.items s t ≡ given l.initial.sources.items s t;
}

abbrev pub decreases-loop-alloc : goal.decreases-loop-alloc
decreases-loop-alloc l = l.count - vec_len l.sources
