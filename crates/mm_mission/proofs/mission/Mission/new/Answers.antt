use Rattle.std.proofs.Common.{◌≡◌, length, sym, vec_len, rules}
use Rattle.mm_mission.proofs.Tested.{is_mission}
use Rattle.mm_mission.proofs.mission.Mission.new.Goals as goal

pub invariant_of-result : goal.invariant_of-result
invariant_of-result c =
    let passes : vec_len c.args.passes ≡ length c.args.passes.items = search rules in
    let observations : vec_len c.args.observations ≡ length c.args.observations.items = search rules in
    let stores : vec_len c.args.stores ≡ length c.args.stores.items = search rules in
    is_mission _ c.in_ok-test_time.field-0 c.in_ok-test_few.field-0 c.in_ok-test_stores.field-0
    c.in_ok-test_passes.field-0 c.in_ok-test_observations.field-0 (sym c.in_ok-test_time.ensures)
    (sym (rw (c.len.ensures, c.len-2.ensures, passes, observations) at c.in_ok-test_few.ensures))
    (sym (rw c.deref.ensures.value at c.in_ok-test_stores.ensures))
    (sym (rw c.deref-2.ensures.value at c.in_ok-test_passes.ensures))
    (sym (rw (c.len-3.ensures, stores, c.deref-3.ensures.value) at c.in_ok-test_observations.ensures))
