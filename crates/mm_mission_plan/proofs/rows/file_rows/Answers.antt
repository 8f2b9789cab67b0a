use Rattle.std.proofs.Common.{◌≡◌, ◌≢◌, ◌∙◌, refl, ap}
use Rattle.mm_mission_text.specs.declared.fault.Fault.TheVariants as of_table
use Rattle.mm_mission_plan.specs.Faults.{table_fault}
use Rattle.mm_mission_plan.proofs.rows.file_rows.Goals as goal

pub returns-in-Err : goal.returns-in-Err
returns-in-Err g c = λ other.
    let told : c.table_fault.result ≡ table_fault g.R.Listed.file c.in-Err.fault =
    rw c.file.ensures at c.table_fault.ensures in
    let some : c.in-Err.fault ≢ of_table.NoMemory =
    λ is. other (told ∙ ap (table_fault g.R.Listed.file) is) in
    rw (c.in-Err.ensures some, told) refl
