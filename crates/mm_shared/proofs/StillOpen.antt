-- Stores stay open while workers call through their ports, since no call changes the place of a port.
use Rattle.mm_shared.proofs.Words.{◌≡◌, ◌<◌, length, sym, ap, ◌∙◌, arith, Vec, Global, get_or-map, length-map, end_of}
use Rattle.mm_shared.proofs.Words.{all_ends, AreOpen, PortView, vec_capacity, common_steps}
use Rattle.mm_shared.specs.declared.stores.OpenStores.{OpenStores}

-- the stores are open as long as all ports are in their places
pub still_open : (it : OpenStores) (workers : Vec PortView Global) → AreOpen it
    → vec_capacity workers ≡ vec_capacity it.workers
    → all_ends workers.items ≡ all_ends it.workers.items → AreOpen (record it { workers = workers })
still_open it workers are capacity same =
    let many : length workers.items ≡ length it.workers.items = sym (length-map workers.items end_of)
    ∙ (ap length same ∙ length-map it.workers.items end_of) in
    record {
      kept = grind (arith, common_steps);
      workers = λ i d within.
          let inside : i < length it.workers.items = omega (arith, many, within) in
          cc (
            get_or-map end_of workers.items i d (end_of d) within,
            get_or-map end_of it.workers.items i d (end_of d) inside,
            are.workers i d inside,
          );
      few = omega (arith, many, are.few);
      rest = rw many are.rest;
    }
