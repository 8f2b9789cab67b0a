-- The request that was written is the one that is read.
use Rattle.std.proofs.Common.{ap, ◌∙◌}
use Rattle.mm_st15.specs.declared.request.Request.TheVariants.{EnableStorage}
use Rattle.callers.proofs.requests.enable_again.Goals as goal

pub returns-clause-same : goal.returns-clause-same
returns-clause-same c =
    c.in_ok-read.ensures.only _ c.in-Ok.ensures.fits c.in-Ok.ensures.spelled
    ∙ ap EnableStorage (c.new.ensures.items ∙ c.in_ok-from_slice.ensures.items)
