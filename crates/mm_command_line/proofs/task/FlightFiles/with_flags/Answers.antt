use Rattle.std.proofs.Common.{◌∙◌, ap, refl}
use Rattle.mm_command_line.specs.Lines.{flight_spelling}
use Rattle.mm_command_line.proofs.Parts.{flags_of}
use Rattle.mm_command_line.proofs.task.FlightFiles.with_flags.Goals as goal

pub returns-in_err-ordered-in-Made-clause-none : goal.returns-in_err-ordered-in-Made-clause-none
returns-in_err-ordered-in-Made-clause-none c =
    let run = c.args.self in
    rw c.from_residual.ensures (λ task same flags.
    let spelled = same
    ∙ ap (flight_spelling run.setup.now run.forecast.now run.sources.now run.links.now) c.in-Made.is in
    let own = flags_of task _ spelled refl in
    c.in_err-ordered-in-Made.ensures.none own.0 (flags ∙ own.1))

pub returns-in_err-rest-in-Given-clause-none : goal.returns-in_err-rest-in-Given-clause-none
returns-in_err-rest-in-Given-clause-none c =
    let run = c.args.self in
    rw c.from_residual-in_err-rest-in-Given.ensures (λ task same flags.
    let spelled = same
    ∙ ap (flight_spelling run.setup.now run.forecast.now run.sources.now run.links.now) c.in-Given.is in
    let own = flags_of task _ spelled refl in
    c.in_err-rest-in-Given.ensures.none own.0 (flags ∙ own.1))
