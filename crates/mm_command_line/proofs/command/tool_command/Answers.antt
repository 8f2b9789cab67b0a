use Rattle.std.proofs.Common.{◌∙◌, ap, fold}
use Rattle.std.proofs.lemmas.Result.{IfOk-weaker}
use Rattle.mm_command_line.specs.Commands.{commands, with_command}
use Rattle.mm_command_line.proofs.command.tool_command.Goals as goal

pub returns : goal.returns
returns c = record {
  commands = IfOk-weaker c.with_commands.result _ _
      (λ r adds. adds ∙ ap (λ app. fold with_command app commands) c.in_ok-bare_command.ensures.bare)
      c.with_commands.ensures.adds;
}
