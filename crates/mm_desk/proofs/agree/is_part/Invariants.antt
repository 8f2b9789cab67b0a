use Rattle.mm_desk.proofs.Words.{◌≡◌, ◌↔◌, ◌≤◌, length, drop, part}
use Rattle.mm_desk.proofs.agree.is_part.Given as goal

abbrev pub invariant-loop-entry : goal.invariant-loop-entry
invariant-loop-entry l = record {
  within : l.met ≤ length l.list;
  left : (part l.seat (drop l.entry-index l.log) ≡ drop l.met l.list) ↔ (part l.seat l.log ≡ l.list);
}
