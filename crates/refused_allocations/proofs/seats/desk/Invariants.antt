use Rattle.std.proofs.Common.{[], ◌∷◌}
use Rattle.refused_allocations.proofs.seats.desk.Given as goal

abbrev pub ghosts-seated : goal.ghosts-seated
ghosts-seated g a = record { states = a.state ∷ [] }
