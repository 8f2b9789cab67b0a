use Rattle.std.proofs.Common.{refl, inl, inr}
use Rattle.std.proofs.lemmas.Bool.{cases_Bool}
use Rattle.mm_base.specs.Id.{is_id_text}
use Rattle.mm_base.proofs.IdFields.{is_id_text_decides}
use Rattle.mm_mission_text.proofs.cell.StoreIdCell.of_cell.Goals as goal

pub returns-in-Ok : goal.returns-in-Ok
returns-in-Ok c =
    let is = (is_id_text_decides c.args.text.now).1 (c.in-Ok.ensures.found.0 refl) in
    rw (is, c.in-Ok.ensures.id) refl

pub returns-in-Err : goal.returns-in-Err
returns-in-Err c = elim (cases_Bool (is_id_text c.args.text.now)) [
  | inl is ↦ absurd (let found = c.in-Err.ensures.found.1 ((is_id_text_decides c.args.text.now).0 is) in cc)
  | inr fails ↦ rw fails refl
]
