-- A verdict, as codes and numbers.
use Rattle.std.specs.Prelude.{ℕ, ℤ, pos}
use Rattle.mm_cut.specs.declared.verdict.Verdict.{Verdict}
use Rattle.mm_cut.specs.declared.verdict.Verdict.TheVariants.{DoesNotFit, LossIs, BadStretch, BadCount, BoundIs}
use Rattle.mm_cut.specs.declared.verdict.Verdict.TheVariants.{NotShown, FirstNotShown, Least, LeastInOrder}
use Rattle.mm_told.specs.declared.verdict.VerdictKind.{VerdictKind}
use Rattle.mm_told.specs.declared.verdict.VerdictKind.TheVariants as kind
use Rattle.mm_told.specs.declared.verdict.VerdictTold.{VerdictTold}

-- the code of a kind of verdict
abbrev pub code_of_kind : VerdictKind → ℕ
code_of_kind kind.Nothing = 0
code_of_kind kind.Least = 1
code_of_kind kind.DoesNotFit = 2
code_of_kind kind.LossIs = 3
code_of_kind kind.BadStretch = 4
code_of_kind kind.BadCount = 5
code_of_kind kind.BoundIs = 6
code_of_kind kind.NotShown = 7
code_of_kind kind.LeastInOrder = 8
code_of_kind kind.FirstNotShown = 9

-- what is told by a kind and these numbers
abbrev pub told_by : VerdictKind → ℕ → ℕ → ℤ → VerdictTold
told_by kind place loss bound = record { kind = code_of_kind kind; place = place; loss = loss; bound = bound }

-- what is told where there is no verdict
abbrev pub nothing_told : VerdictTold
nothing_told = told_by kind.Nothing 0 0 (pos 0)

-- what is told of a verdict
abbrev pub told_of : Verdict → VerdictTold
told_of (Least loss) = told_by kind.Least 0 loss (pos 0)
told_of (DoesNotFit step) = told_by kind.DoesNotFit step 0 (pos 0)
told_of (LossIs loss) = told_by kind.LossIs 0 loss (pos 0)
told_of (BadStretch place) = told_by kind.BadStretch place 0 (pos 0)
told_of (BadCount place) = told_by kind.BadCount place 0 (pos 0)
told_of (BoundIs bound) = told_by kind.BoundIs 0 0 bound
told_of (NotShown loss bound) = told_by kind.NotShown 0 loss bound
told_of (LeastInOrder loss) = told_by kind.LeastInOrder 0 loss (pos 0)
told_of (FirstNotShown stores) = told_by kind.FirstNotShown stores 0 (pos 0)
