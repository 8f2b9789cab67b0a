use Rattle.std.proofs.Common.{arith, rules}
use Rattle.mm_command_line.proofs.Parts.{one_given, other_given}
use Rattle.mm_command_line.proofs.options.is_given.Goals as goal

pub returns-in-len1-clause-given : goal.returns-in-len1-clause-given
returns-in-len1-clause-given c =
    one_given c.args.flags.now c.args.flag.now (omega (arith, c.in-len1.len_at_least, c.in-len1.len_below))
    (search rules)

pub returns-in_default-clause-none : goal.returns-in_default-clause-none
returns-in_default-clause-none c is same =
    other_given c.args.flags.now c.args.flag.now is (omega (arith, c.in-len1.len_at_least, c.in-len1.len_below))
    (search rules) same
