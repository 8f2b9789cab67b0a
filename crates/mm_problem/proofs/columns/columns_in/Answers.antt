use Rattle.std.proofs.Common.{length, drop, ap, sym, ◌∙◌, arith, length-append}
use Rattle.csv.specs.Records.{fields_of}
use Rattle.mm_base.proofs.ReadingSteps.{test_ok}
use Rattle.mm_problem.specs.Forecast.{header_of}
use Rattle.mm_problem.proofs.HeaderLaws.{begins_said, header_length}
use Rattle.mm_problem.proofs.columns.columns_in.Goals as goal

pub limits_end-end-requires : goal.limits_end-end-requires
limits_end-end-requires c =
    let fields = fields_of c.args.header.now in
    let stores = c.args.stores.now in
    let begins = sym c.begins_with_stores.ensures ∙ test_ok _ _ _ c.in_ok-test.ensures in
    omega (
      arith,
      ap length (begins_said fields (header_of stores) begins),
      length-append (header_of stores) (drop (length (header_of stores)) fields),
      header_length stores,
    )
