-- What a write to one place of a table changes.
use Rattle.std.proofs.Common.{ℕ, ◌<◌, length, set, refl, arith, get_or-set_same, get_or-set_other}
use Rattle.mm_base.specs.Grid.{grid_place}
use Rattle.mm_plan.proofs.Places.{grid_place-lt, same_from_grid_place}
use Rattle.mm_plan.specs.Table.{Table, IsPlace, IsTable, ChangesAmount}

pub changes_amount : (old : Table) (s t n : ℕ) → IsTable old → IsPlace old s t → ChangesAmount old (record { stores = old.stores; steps = old.steps; amounts = set old.amounts (grid_place old.stores t s) n }) s t n
changes_amount old s t n is here =
    let within : grid_place old.stores t s < length old.amounts = omega (arith, is.table, grid_place-lt old.stores old.steps t s here.store here.first here.last) in
    record {
      stores = refl;
      steps = refl;
      here = get_or-set_same old.amounts (grid_place old.stores t s) n 0 within;
      elsewhere = λ r u there other. get_or-set_other old.amounts (grid_place old.stores t s) (grid_place old.stores u r) n 0 (λ same.
          let place = same_from_grid_place old.stores u r t s there.store here.store there.first here.first same in
          other place.1 place.0);
    }
