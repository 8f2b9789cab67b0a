use Rattle.std.proofs.Common.{ℕ, List, ap, get_or, arith}
use Rattle.mm_sensitivity.proofs.table.push_size.Goals as goal

-- each column is of a store of the problem
pub id-requires : goal.id-requires
id-requires c =
    let is = c.stores.ensures.is_dumping.sizes in
    let each = is.each_column c.args.column 0 c.requires in
    let there = ap (λ (xs : List ℕ). get_or xs c.args.column 0) c.sized.ensures.stores in
    omega (arith, each, there)
