use Rattle.std.proofs.Common.{◌≡◌, take}
use Rattle.mm_run.specs.Runs.{opened_with}
use Rattle.mm_run.proofs.run.offer_all.Given as goal

abbrev pub invariant-loop-packet : goal.invariant-loop-packet
invariant-loop-packet l = l.memory ≡ opened_with l.initial.memory (take l.packet-index l.packets)
