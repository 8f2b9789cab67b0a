use Rattle.std.proofs.Common.{◌≡◌, [], drop}
use Rattle.mm_mission_exact.specs.Each.{each_in}
use Rattle.mm_mission_exact.specs.Passes.{and_pass}
use Rattle.mm_mission_exact.proofs.pass.each_pass.Given as goal

abbrev pub invariant-loop-place : goal.invariant-loop-place
invariant-loop-place l =
    each_in (and_pass l.rows l.mission) 0 [] l.rows.passes.now ≡ each_in (and_pass l.rows l.mission) l.place
    l.passes.items (drop l.place l.rows.passes.now)
