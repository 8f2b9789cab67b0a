use Rattle.std.proofs.Common.{◌≡◌, ℕ, ◌<◌, length}
use Rattle.std.specs.Prelude.{slice_index}
use Rattle.mm_overlap.specs.Given.{pass}
use Rattle.mm_overlap.specs.Better.{rate_of, IsSent}
use Rattle.mm_overlap.proofs.rates.all_octets.Given as goal

abbrev pub invariant-loop-pass : goal.invariant-loop-pass
invariant-loop-pass l = record {
  as_many : length l.octets.items ≡ l.pass-index;
  each : (i : ℕ) → i < l.pass-index → IsSent l.time (rate_of l.channels (pass l.passes i)) (slice_index l.octets.items i);
}
