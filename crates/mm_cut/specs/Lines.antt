-- The lines of verdicts.
use Rattle.std.specs.Prelude.{ℕ, List, [], ◌∷◌, ◌++◌, codes, decimal}
use Rattle.std.specs.Fmt.{signed_decimal}
use Rattle.mm_base.specs.Characters.{line_feed}
use Rattle.mm_cut.specs.declared.verdict.Verdict.{Verdict}
use Rattle.mm_cut.specs.declared.verdict.Verdict.TheVariants.{DoesNotFit, LossIs, BadStretch, BadCount, BoundIs, NotShown, FirstNotShown, Least, LeastInOrder}

-- what a verdict says
abbrev pub text_of : Verdict → List ℕ
text_of (Least loss) = codes "least " ++ decimal loss
text_of (NotShown loss bound) = codes "not shown, loss " ++ decimal loss ++ codes " bound " ++ signed_decimal bound
text_of (DoesNotFit step) = codes "does not fit, step " ++ decimal step
text_of (LossIs loss) = codes "loss is " ++ decimal loss
text_of (BadStretch place) = codes "bad stretch " ++ decimal place
text_of (BadCount place) = codes "bad count " ++ decimal place
text_of (BoundIs bound) = codes "bound is " ++ signed_decimal bound
text_of (FirstNotShown stores) = codes "first " ++ decimal stores ++ codes " not shown"
text_of (LeastInOrder loss) = codes "least " ++ decimal loss ++ codes " in order"

-- the line with its line end
abbrev pub line_of : Verdict → List ℕ
line_of verdict = text_of verdict ++ line_feed ∷ []
