use Rattle.std.proofs.Common.{◌≡◌, ℕ, ◌<◌, false, length, get_or, take}
use Rattle.mm_base.specs.declared.limits.TheConstants.{CHANNELS}
use Rattle.mm_cut.specs.Stretches.{is_inner_on}
use Rattle.mm_cut.proofs.bounds.inner_channels.Given as goal

-- of the stretches so far
abbrev pub invariant-loop-stretch : goal.invariant-loop-stretch
invariant-loop-stretch l = record {
  channels : length l.inner ≡ CHANNELS;
  inner : (c : ℕ) → c < CHANNELS → get_or l.inner c false ≡ is_inner_on l.problem (take l.stretch-index l.stretches) l.step c;
}
