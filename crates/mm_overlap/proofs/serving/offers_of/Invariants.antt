use Rattle.std.proofs.Common.{◌≡◌, ℕ, ◌^◌, ◌<◌}
use Rattle.std.specs.Prelude.{map}
use Rattle.std.specs.List.{range_with_len}
use Rattle.mm_overlap.specs.Better.{offer_of}
use Rattle.mm_overlap.specs.Given.{pass}
use Rattle.mm_overlap.proofs.serving.offers_of.Given as goal

abbrev pub invariant-loop-i : goal.invariant-loop-i
invariant-loop-i l = record {
  offers : l.offers.items ≡ map (offer_of l.passes l.octets) (range_with_len 0 l.i);
  ends : (k : ℕ) → k < l.i → (pass l.passes k).span.end < 2 ^ 64;
}
