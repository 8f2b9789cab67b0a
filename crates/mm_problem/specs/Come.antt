-- When the arrivals of a step come.
use Rattle.std.specs.Prelude.{ℕ, List, codes}
use Rattle.mm_problem.specs.declared.come.Arrivals.{Arrivals}
use Rattle.mm_problem.specs.declared.come.Arrivals.TheVariants.{Before, During}

-- the word for it in a setup
abbrev pub word_of : Arrivals → List ℕ
word_of Before = codes "before"
word_of During = codes "during"
