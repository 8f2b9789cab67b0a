-- What a packet spells is read as that, whether it is a request or a report.
use Rattle.std.proofs.Common.{◌≡◌, Option, None, Result, Ok, Err, subst}
use Rattle.std.specs.Prelude.{MatchResult, IfOk, MatchOption, IsOkUnless}
use Rattle.mm_st15.specs.declared.fault.Fault.{Fault}
use Rattle.mm_st15.specs.declared.fault.Fault.TheVariants.{NoMemory}

-- where one thing at the most is spelled, and what is spelled is not refused, it is read unless memory runs out
pub read_alone : {X : Type 0} (Spelled : X → Type 0) (test : Option Fault) (x : X) (result : Result X Fault) → ((y : X) → Spelled y → y ≡ x) → test ≡ None
    → IfOk result Spelled → MatchOption test (IsOkUnless result NoMemory) (λ fault. result ≡ Err fault)
    → MatchResult result (λ y. y ≡ x) (λ fault. fault ≡ NoMemory)
read_alone Spelled test x (Ok y) one passes found refused = one y found
read_alone {X} Spelled test x (Err fault) one passes found refused =
    subst (λ (f : Option Fault). MatchOption f (IsOkUnless {T = X} (Err fault) NoMemory) (λ other. ◌≡◌ {A = Result X Fault} (Err fault) (Err other))) passes refused
