use Rattle.std.proofs.Common.{◌∙◌, ap, length}
use Rattle.std.proofs.lemmas.List.FromFn.{length-map-range_with_len}
use Rattle.mm_run.specs.StoppedRun.{dumped_at}
use Rattle.mm_commands.specs.Halts.{held_at}
use Rattle.mm_commands.proofs.left.script_in.Goals as goal

pub halt_script-requires-clause-held : goal.halt_script-requires-clause-held
halt_script-requires-clause-held c = ap length c.in_ok-halted.ensures.held
    ∙ length-map-range_with_len (λ s. held_at s c.args.run.now) 0 (length c.args.problem.now.rows)

pub halt_script-requires-clause-dumped : goal.halt_script-requires-clause-dumped
halt_script-requires-clause-dumped c = ap length c.in_ok-halted.ensures.dumped
    ∙ length-map-range_with_len (λ s. dumped_at s c.args.run.now) 0 (length c.args.problem.now.rows)

pub returns : goal.returns
returns c = record { halted = c.in_ok-halted.halted; is = c.in_ok-halted.ensures; says = c.in_ok-script.ensures }
