-- The stores of a setup, opened, are those of a memory.
use Rattle.mm_memory.proofs.Words.{ℕ, ◌<◌, List, length, arith, map, AllPairs, get_or-map, length-map, Held, AreHeld}
use Rattle.mm_memory.proofs.Words.{HaveOtherIds, opened}
use Rattle.mm_base.specs.declared.rows.StoreRow.{StoreRow}
use Rattle.mm_problem.specs.Setup.{AreStores}

pub AreHeld-opened : (rows : List StoreRow) → AreStores rows → AreHeld (map opened rows)
AreHeld-opened rows sound = record {
  at_most = omega (arith, length-map rows opened, sound.at_most);
  named = named;
}
  where
    row_at : ℕ → Held → StoreRow
    row_at i d = record { id = d.id; size = 0; start = 0; kind = d.state.store.kind; channel = d.channel }

    named : AllPairs HaveOtherIds (map opened rows)
    named = λ i j d less within.
        let inside : j < length rows = omega (arith, length-map rows opened) in
        let before : i < length rows = omega arith in
        rw (get_or-map opened rows i (row_at i d) d before, get_or-map opened rows j (row_at i d) d inside)
        (sound.named i j (row_at i d) less inside)
