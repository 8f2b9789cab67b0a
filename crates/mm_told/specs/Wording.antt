-- The words of what is told.
use Rattle.std.specs.Prelude.{◌≡◌, ℕ, IsTrue, List, [], ◌++◌, codes, MatchOption}
use Rattle.mm_told.specs.Phrase.{is_phrase}
use Rattle.mm_told.specs.RefusedAts.{reason_told}
use Rattle.mm_told.specs.Reasons.{reason_text}
use Rattle.mm_told.specs.declared.reason.Reason.{Reason}
use Rattle.mm_told.specs.declared.refused_at.RefusedAt.{RefusedAt}

-- the number, the name and the fields of a reason, with these words after them
abbrev pub text_with : Reason → List ℕ → List ℕ → List ℕ
text_with reason expected advice = reason_text reason ++ codes ": expected " ++ expected ++ codes "; " ++ advice

-- the text says which refusal it is and where the fault is, what was expected, and what to do
pub record Says (reason : Reason) (text : List ℕ) : Type 0 where
  pub expected : List ℕ
  pub advice : List ℕ
  pub expects : IsTrue (is_phrase expected)
  pub advises : IsTrue (is_phrase advice)
  pub is : text ≡ text_with reason expected advice

-- the text says the reason that is told, or nothing where none is
abbrev pub SaysTold : RefusedAt → List ℕ → Type 0
SaysTold told text = MatchOption (reason_told told) (text ≡ []) (λ reason. Says reason text)
