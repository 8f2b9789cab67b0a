use Rattle.mm_base.proofs.NumberTexts.{numeral_printed, printed_numeral}
use Rattle.mm_base.proofs.laws.numbers.Goals as goal

pub returns : goal.returns
returns c = λ most text n narrow. (numeral_printed most text n narrow, λ h. rw h.0 (printed_numeral most n narrow h.1))
