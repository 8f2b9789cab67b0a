use Rattle.std.proofs.Common.{◌∙◌}
use Rattle.mm_command_line.proofs.Building.{command_more}
use Rattle.mm_command_line.proofs.command.with_commands.Goals as goal

pub loop-form-preserved : goal.loop-form-preserved
loop-form-preserved c =
    command_more c.args.forms.now c.loop-form.form-index _ c.loop-form.tool _ c.in_ok-tool.tool c.loop-form-test.true
    c.in_ok-command_of.ensures.is c.in_ok-tool.ensures
    ∙ c.loop-form.invariant
