-- What is printed of a mission's plan.
use Rattle.std.proofs.Common.{◌≡◌, ◌∙◌, ℕ, List, length, ap, sym}
use Rattle.std.proofs.lemmas.List.{length-map}
use Rattle.mm_mission_sheet.specs.declared.flight.PassName.{PassName}
use Rattle.mm_mission_sheet.specs.Rows.{name_cells}
use Rattle.mm_mission_text.specs.declared.pass.Pass.{Pass}
use Rattle.mm_mission_plan.specs.Names.{named, AreNames}

-- there are as many names as rows
pub as_many_names : (passes : List Pass) (rows : List ℕ) (names : List PassName) → AreNames passes rows names
    → length names ≡ length rows
as_many_names passes rows names h =
    sym (length-map names name_cells) ∙ ap length h ∙ length-map rows (named passes)
