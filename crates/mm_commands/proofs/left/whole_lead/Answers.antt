use Rattle.mm_commands.proofs.left.whole_lead.Goals as goal

pub returns-in-Ok : goal.returns-in-Ok
returns-in-Ok c = record {
  script = c.in_ok-script.script.items;
  tells = c.in_ok-script.ensures;
  lead_is = c.in-Ok.ensures;
}
