use Rattle.std.proofs.Common.{arith, rules}
use Rattle.mm_command_line.proofs.Parts.{kept_given}
use Rattle.mm_command_line.proofs.options.kept_in.Goals as goal

pub returns-in-len3-clause-given : goal.returns-in-len3-clause-given
returns-in-len3-clause-given c =
    kept_given c.args.flags.now (omega (arith, c.in-len3.len_at_least, c.in-len3.len_below)) (search rules)
