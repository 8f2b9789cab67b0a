use Rattle.std.proofs.Common.{◌≡◌, ◌==◌, ℕ, []}
use Rattle.std.specs.Prelude.{if◌then◌else◌}
use Rattle.mm_record.specs.Supplies.{Supply}
use Rattle.std.proofs.lemmas.Result.{IfErr-weaker}
use Rattle.mm_carry.specs.declared.run_end.Halted.{Halted}
use Rattle.mm_report.specs.declared.cause.Cause.TheVariants.{LinkFailed}
use Rattle.callers.specs.Again.{GoesOutAgain}
use Rattle.callers.specs.declared.ends.Burst.{Burst}
use Rattle.callers.specs.declared.ends.Downlink.{Downlink}
use Rattle.mm_record.proofs.Supplying.{all_stay}
use Rattle.callers.proofs.Resending.{goes_again}
use Rattle.callers.proofs.halt.carry_out_or_tell.Goals as goal

-- what a burst gives in each step, until it is as later
gives_until : Burst → Burst → Supply
gives_until burst last step = if step == burst.step then burst.packets.items else []

pub returns : goal.returns
returns c after = record {
  again = IfErr-weaker after.carry_out.result _
      (λ (halted : Halted Burst Downlink). (step : ℕ) → halted.cause ≡ LinkFailed step
      → GoesOutAgain after.args.links.items halted.links.items after.carry_out.new.memory)
      (λ halted was step is. goes_again _ _ _ _ _ halted _ step is
      (was halted.sources.items (all_stay (λ (s last : Burst). Unit {0}) gives_until (λ s. tt)
      halted.sources.items)).1) after.carry_out.ensures.halted;
}
