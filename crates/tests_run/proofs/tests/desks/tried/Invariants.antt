use Rattle.std.proofs.Common.{[], ◌∷◌}
use Rattle.tests_run.proofs.tests.desks.tried.Given as goal

abbrev pub ghosts-in_order : goal.ghosts-in_order
ghosts-in_order g a = record { states = a.state ∷ [] }
