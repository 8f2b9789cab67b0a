use Rattle.mm_links.specs.Used.{IsChosen}
use Rattle.mm_links.proofs.better.best.Given as goal

abbrev pub invariant-loop-pass : goal.invariant-loop-pass
invariant-loop-pass l = IsChosen l.offers l.pass l.time l.chosen
