use Rattle.mm_service.proofs.Words.{◌≡◌, ◌++◌, take, drop, map}
use Rattle.mm_service.proofs.entry_fields.tell_entries.Given as goal

-- the fields of the entries so far are at the head
abbrev pub invariant-loop-index : goal.invariant-loop-index
invariant-loop-index g l = l.out ≡ map g.E.ToFields.told (take l.index l.entries) ++ drop l.index l.initial.out
