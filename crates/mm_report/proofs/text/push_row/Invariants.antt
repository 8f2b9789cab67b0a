use Rattle.std.proofs.Common.{◌≡◌, ◌++◌, length}
use Rattle.mm_report.specs.Text.{row_text}
use Rattle.mm_report.proofs.text.push_row.Given as goal

abbrev pub invariant-loop-rest_ids : goal.invariant-loop-rest_ids
invariant-loop-rest_ids l =
    l.text.items ++ row_text l.listing l.step l.rest_ids l.rest ≡ l.initial.text.items ++ row_text l.listing l.step l.ids l.row

abbrev pub decreases-loop-rest_ids : goal.decreases-loop-rest_ids
decreases-loop-rest_ids l = length l.rest_ids
