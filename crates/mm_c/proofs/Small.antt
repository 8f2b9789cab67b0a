-- A call on an open handle whose buffer is too small.
use Rattle.std.specs.Prelude.{IsTrue, is_some}
use Rattle.mm_c.proofs.Words.{◌≡◌, ℕ, ◌<◌, List, length, refl, sym, inl, inr, Option, Some, None, Serving}
use Rattle.std.proofs.lemmas.Bool.{false≢true}
use Rattle.mm_service.specs.Applying.{Applies, RefusesRequest}
use Rattle.mm_service.specs.declared.fault.Fault.{Fault}
use Rattle.mm_service.specs.declared.answers.TheConstants.{INSTRUCTIONS}
use Rattle.mm_told.specs.Telling.{length_answer, refused_answer}
use Rattle.mm_told.specs.declared.answer.Answer.{Answer}
use Rattle.mm_told.specs.declared.answer.Status.TheVariants.{Written, TooSmall}
use Rattle.mm_c.specs.Serving.{of_call, OnOpen, IsApplied}

-- a request whose answers have no room is not applied
pub not_applied : (octets : List ℕ) (now : ℕ) (out : List ℕ) (answer : Answer) (held : Option Serving)
    → IsTrue (is_some held) → length out < INSTRUCTIONS → answer ≡ length_answer TooSmall INSTRUCTIONS
    → OnOpen (IsApplied octets now out out answer) (out ≡ out) held held answer
not_applied octets now out answer None is_open short told = absurd (false≢true is_open)
not_applied octets now out answer (Some s) is_open short told = (s, refl, inr (inr (short, refl, refl, told)))

-- a request that the service in a handle applies, or refuses, is told so
module _ (octets : List ℕ) (now : ℕ) (old new : List ℕ) (answer : Answer) (s t : Serving)
    (before after : Option Serving)
    (was : before ≡ Some s) (is : after ≡ Some t) where
  pub told_applied : (count : ℕ) → Applies octets now s t count old new → answer ≡ length_answer Written count
      → OnOpen (IsApplied octets now old new answer) (new ≡ old) before after answer
  told_applied count applied told = rw (was, is) (t, refl, inl (count, applied, told))

  pub told_refused : (fault : Fault) → RefusesRequest octets s fault → t ≡ s → new ≡ old
      → answer ≡ refused_answer (of_call fault)
      → OnOpen (IsApplied octets now old new answer) (new ≡ old) before after answer
  told_refused fault why same left told = rw (was, is) (t, refl, inr (inl ((fault, (λ apart. why), same, told), left)))
