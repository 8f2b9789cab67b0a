use Rattle.std.proofs.Common.{refl}
use Rattle.mm_chart.proofs.laws.legend_words_are.Goals as goal

pub returns-clause-stays : goal.returns-clause-stays
returns-clause-stays c = refl

pub returns-clause-leaves : goal.returns-clause-leaves
returns-clause-leaves c = refl

pub returns-clause-window : goal.returns-clause-window
returns-clause-window c = refl

pub returns-clause-used : goal.returns-clause-used
returns-clause-used c = refl

pub returns-clause-lost : goal.returns-clause-lost
returns-clause-lost c = refl

pub returns-clause-counts : goal.returns-clause-counts
returns-clause-counts c = refl

pub returns-clause-last : goal.returns-clause-last
returns-clause-last c = refl

pub returns-clause-sent : goal.returns-clause-sent
returns-clause-sent c = refl

pub returns-clause-size : goal.returns-clause-size
returns-clause-size c = refl

pub returns-clause-saved : goal.returns-clause-saved
returns-clause-saved c = refl
