use Rattle.std.proofs.Common.{ℕ, ◌-◌, ◌++◌, List, length, ap}
use Rattle.std.proofs.Math.ListN.{replicate}
use Rattle.mm_base.proofs.IdFields.{padding}
use Rattle.mm_base.proofs.id.padded.Goals as goal

pub returns : goal.returns
returns c = rw (padding (length c.args.text.now))
    (ap (λ (t : List ℕ). t ++ replicate (8 - length c.args.text.now) 32) c.copy_from_slice.ensures.after)
