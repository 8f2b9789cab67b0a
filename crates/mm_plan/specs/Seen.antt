-- The lines that the code reads, as the grammar has them.
use Rattle.mm_plan.specs.Sheet as sheet
use Rattle.mm_plan.specs.declared.line.Line.{Line}
use Rattle.mm_plan.specs.declared.line.Line.TheVariants.{Title, Stores, Dump, Loss, Cut, Count, Bound, First, End}

abbrev pub seen : Line → sheet.Line
seen (Title form) = sheet.title_line form
seen (Stores ids) = sheet.stores_line ids.items
seen (Dump step amounts) = sheet.dump_line step amounts.items
seen (Loss loss) = sheet.loss_line loss
seen (Cut stretch) = sheet.stretch_line stretch
seen (Count step) = sheet.count_line step
seen (Bound bound) = sheet.bound_line bound
seen (First number) = sheet.first_line number
seen End = sheet.end_line
