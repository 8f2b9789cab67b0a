use Rattle.std.proofs.Common.{◌≡◌, ◌-◌, length, take, drop, rules, of_calls, arith, length-drop}
use Rattle.std.proofs.lemmas.List.{take_all}
use Rattle.std.proofs.lemmas.List.Sorted.{IsPartitionPoint-from_clause}
use Rattle.std.specs.Ordering.{is_lt}
use Rattle.mm_base.specs.declared.rows.RouteRow.{RouteRow}
use Rattle.mm_control.specs.Routes.{type_cmp}
use Rattle.mm_control.proofs.RunLemmas.{parted_before, run_is}
use Rattle.mm_control.proofs.table.rows_for.Goals as goal

pub returns : goal.returns
returns c =
    let rows = c.args.rows.now in
    let apid = c.args.apid in
    let service = c.args.service in
    let subtype = c.args.subtype in
    let start = c.partition_point-start.result in
    let rest = take (length rows - start) (drop start rows) in
    let rest_is : rest ≡ drop start rows =
    take_all (length rows - start) (drop start rows) (omega (arith, length-drop start rows)) in
    let first = IsPartitionPoint-from_clause (λ (r : RouteRow). is_lt (type_cmp apid service subtype r)) rows start
    c.partition_point-start.ensures.partitioned
    (parted_before apid service subtype rows c.requires) (λ a r f' called. search (rules, of_calls)) in
    rw c.count_for.ensures (run_is apid service subtype rows rest start c.requires rest_is first)
