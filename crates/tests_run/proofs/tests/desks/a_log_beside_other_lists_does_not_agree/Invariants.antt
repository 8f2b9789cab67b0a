use Rattle.std.proofs.Common.{[], ◌∷◌}
use Rattle.tests_run.proofs.tests.desks.a_log_beside_other_lists_does_not_agree.Given as goal

abbrev pub ghosts-exchanged : goal.ghosts-exchanged
ghosts-exchanged g a = record { states = a.state ∷ [] }
