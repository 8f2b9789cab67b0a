use Rattle.mm_commands.specs.Refusing.{IsKeptFault}
use Rattle.mm_commands.specs.declared.fault.Fault.TheVariants.{NoMemory}
use Rattle.mm_commands.proofs.Refusals.{told}
use Rattle.mm_commands.proofs.answers.rest_text.Goals as goal

pub returns-in_err-text-clause-refused : goal.returns-in_err-text-clause-refused
returns-in_err-text-clause-refused c = told (IsKeptFault c.args.kept c.args.texts.now) NoMemory
    c.from_residual-in_err-text.result c.from_residual-in_err-text.ensures.1 tt
