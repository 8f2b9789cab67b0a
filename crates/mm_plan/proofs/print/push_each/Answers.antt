use Rattle.std.proofs.Common.{arith, length-take, length-drop}
use Rattle.mm_plan.specs.Sheet.{CertificateRows}
use Rattle.mm_plan.proofs.Prints.{more_first}
use Rattle.mm_plan.proofs.print.push_each.Goals as goal

pub loop-rest-preserved : goal.loop-rest-preserved
loop-rest-preserved c = record {
  place = omega (arith, length-take {A = CertificateRows}, length-drop {A = CertificateRows});
  text = more_first c.loop-rest.text.items c.push_part.new.text.items _ c.loop-rest.number c.loop-rest.rest.now c.part-item.result
      (omega arith) c.part-item.is c.in_ok-push_part.ensures c.loop-rest.invariant.text;
}
