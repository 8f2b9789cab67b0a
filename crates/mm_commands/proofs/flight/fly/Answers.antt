use Rattle.std.proofs.Common.{inl, inr}
use Rattle.mm_command_line.specs.declared.task.Task.TheVariants.{Fly}
use Rattle.mm_commands.specs.Refusing.{Completes}
use Rattle.mm_commands.specs.declared.fault.Fault.TheVariants.{Run}
use Rattle.mm_commands.proofs.Flying.{flown-settles}
use Rattle.mm_commands.proofs.Refusals.{refuses}
use Rattle.mm_commands.proofs.flight.fly.Goals as goal

pub returns-in-Ok-clause-settles : goal.returns-in-Ok-clause-settles
returns-in-Ok-clause-settles g c old new same read =
    flown-settles old new c.args.flight c.args.texts.now _ _ c.carry_out.result same read
    (c.carry_out.ensures.flies c.in-Ok.ensures.prepared)

pub returns-in-Err-clause-settles : goal.returns-in-Err-clause-settles
returns-in-Err-clause-settles g c old new same read =
    let before = g.W.Write.contents c.args.out.now in
    let after = g.W.Write.contents c.refuse.new.out in
    refuses (λ status. Completes old new (Fly c.args.flight) status before after) old new (Fly c.args.flight)
    (Run c.in-Err.fault) before after c.refuse.result same
    (inr (inl (record { texts = c.args.texts.now; read = read; is = c.in-Err.ensures.refused }))) c.refuse.ensures.line
    c.refuse.ensures.status
