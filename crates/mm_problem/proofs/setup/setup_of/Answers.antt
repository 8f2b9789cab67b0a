use Rattle.std.proofs.Common.{◌≡◌, Ok, refl}
use Rattle.mm_problem.specs.Arrays.{lists_of}
use Rattle.mm_problem.specs.Document.{rows_of}
use Rattle.mm_problem.specs.Setup.{SetupRows}
use Rattle.mm_problem.proofs.SetupLaws.{rows_of_said}
use Rattle.mm_problem.proofs.setup.setup_of.Goals as goal

pub invariant_of-result : goal.invariant_of-result
unfolding rows_of
invariant_of-result c =
    let rows : SetupRows = record {
      stores = c.in_ok-stores.stores.items;
      routes = c.in_ok-routes.routes.items;
      limits = c.in_ok-limits.limits.items;
      come = c.args.arrays.come;
    } in
    let read : rows_of (lists_of c.args.arrays) ≡ Ok rows = rw (
      c.in_ok-stores.ensures,
      ← c.as_slice.ensures.value,
      c.in_ok-routes.ensures,
      c.in_ok-limits.ensures,
    ) refl in
    (rows_of_said (lists_of c.args.arrays) rows c.requires read).within
